-- A walk over the steps of a state.
use Rattle.std.proofs.Common.{◌≡◌, ℕ, ◌+◌, ◌<◌, ◌≤◌, List, ◌∷◌, drop, Some, sym, ◌∙◌}
use Rattle.std.specs.List.{slice_get}
use Rattle.lts.specs.Meaning.{Meaning, Lawful}
use Rattle.lts.specs.Laws.Member.{nth_first, listed_action, listed_target}

-- what the next step is, when k of them were passed and these are left
pub record Next (m : Meaning) (t k a u : ℕ) (rest : List (ℕ × ℕ)) : Type 0 where
  pub listed : Some (a, u) ≡ slice_get (m.steps t) k
  pub action : a ≤ 63
  pub target : u < m.count
  pub left : rest ≡ drop (k + 1) (m.steps t)

pub next_is : {most : ℕ} (m : Meaning) → Lawful most m → (t k : ℕ) {a u : ℕ} {left rest : List (ℕ × ℕ)} → left ≡ drop k (m.steps t) → left ≡ (a, u) ∷ rest → Next m t k a u rest
next_is m law t k {a} {u} {left} {rest} e first =
    let f = nth_first (a, u) (m.steps t) rest k (sym e ∙ first) in
    record { listed = f.0; action = listed_action m law t k a u f.0; target = listed_target m law t k a u f.0; left = f.2 }
