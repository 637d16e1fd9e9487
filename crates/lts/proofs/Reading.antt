-- What the view of laid out states reads from them.
use Rattle.std.proofs.Common.{◌≡◌, ℕ, ◌+◌, ◌<◌, ◌≤◌, length, Some, sym, refl, ⊎_elim, arith}
use Rattle.std.specs.List.{slice_get}
use Rattle.std.proofs.lemmas.List.FromFn.{length-map-range_with_len, get_or-map-range_with_len}
use Rattle.std.proofs.lemmas.Option.{slice_get-get_or}
use Rattle.std.proofs.lemmas.Bool.{lt-ltb, le-ltb, cases_lt}
use Rattle.lts.specs.Layout.{from, many, step_at, listed, stored, Readable}
use Rattle.lts.specs.declared.laid.Laid.{Laid}

module _ {most room : ℕ} (p : Laid most room) (s : ℕ) where
  -- only a state of the procedure lists steps
  pub lists_inside : (k : ℕ) → k < length ((stored p).steps s) → s < p.states
  lists_inside k h = ⊎_elim (λ l. l) outside (cases_lt s p.states)
    where
      outside : p.states ≤ s → s < p.states
      outside l = let h' : k < 0 = rw (le-ltb s p.states l) at h in omega arith

  module _ (inside : s < p.states) where
    pub count_inside : many p s ≡ length ((stored p).steps s)
    count_inside = rw (lt-ltb s p.states inside) (sym (length-map-range_with_len (step_at p) (from p s) (many p s)))

    pub step_inside : (k : ℕ) → k < many p s → Some (step_at p (from p s + k)) ≡ slice_get ((stored p).steps s) k
    step_inside k h =
        let n = length-map-range_with_len (step_at p) (from p s) (many p s) in
        let e = slice_get-get_or (listed p s) k (0, 0) (omega arith) in
        let g = get_or-map-range_with_len (step_at p) (from p s) (many p s) k (from p s + k) (0, 0) h refl in
        rw (lt-ltb s p.states inside) (sym (rw g at e))

-- the k-th listed step of state s stands at a place inside the array
pub placed : {most room : ℕ} (p : Laid most room) → Readable p → (s k : ℕ) → k < length ((stored p).steps s) → (s < p.states) × (s < most) × (k < many p s) × (from p s + k < room) × (from p s + k < 4096)
placed p readable s k h =
    let i = lists_inside p s k h in
    let n = count_inside p s i in
    let few = readable.few in
    let end = readable.inside s i in
    let short = readable.steps_room in
    (i, omega arith, omega arith, omega arith, omega arith)
