-- The procedures of a shelf's rows can be viewed.
use Rattle.std.proofs.Common.{◌≡◌, ℕ, List, get_or, Some, None, Option}
use native.Mathlib.Bridge.{le_prop}
use Rattle.std.proofs.Math.Nat.{ℕ_set}
use mathlib.Core.Logic.{∥∥₁_elim}
use Rattle.lts.specs.Layout.{Procedure, Sound}
use Rattle.shelves.specs.Standing.{AllKept}
use Rattle.shelves.specs.declared.row.Row.{Row}

sound_prop : (p : Procedure) (x y : Sound p) → x ≡ y
sound_prop p x y = λ i. record {
  some = le_prop x.some y.some i;
  few = le_prop x.few y.few i;
  behind = λ s l. ℕ_set _ _ (x.behind s l) (y.behind s l) i;
  room = le_prop x.room y.room i;
  acts = λ k l. le_prop (x.acts k l) (y.acts k l) i;
  aims = λ k l. le_prop (x.aims k l) (y.aims k l) i;
}

pub force_sound : (rows : List (Option Row)) (s : ℕ) (r : Row) → ∥ AllKept rows ∥₁ → get_or rows s None ≡ Some r → Sound r.force
force_sound rows s r kept e = ∥∥₁_elim kept (sound_prop r.force) (λ all. (all s r e).force.0)
