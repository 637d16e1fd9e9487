-- What a source under an action map answers for a step.
use Rattle.std.proofs.Common.{◌≡◌, ℕ, ◌<◌, ◌≤◌, Bool, false, not, nat_lt, position, List, length, slice_index, get_or, set, Some, None, Err, sym, ap, ◌∙◌, ⊎_elim, arith, length-set}
use Rattle.std.specs.List.{slice_get, position_or_len}
use Rattle.std.proofs.lemmas.List.Sums.{prefix_len_passes}
use Rattle.std.proofs.lemmas.List.Quantifiers.{position-Some}
use Rattle.std.proofs.lemmas.List.{get_or-set_same, get_or-set_other, get_or_past}
use Rattle.std.proofs.lemmas.Bool.{lt-ltb, cases_lt, cases_eq, ltb-false, ltb-true, not-true}
use Rattle.lts.specs.Meaning.{Meaning, Lawful}
use Rattle.lts.specs.Map.{ActionsBelow, Made, entry, replaced, mapped}
use Rattle.lts.specs.declared.map_fault.MapFault.TheVariants.{Entry}
use Rattle.lts.specs.Laws.Member.{nth_map, listed_action}

-- an action has an entry
pub has_entry : (entries : List ℕ) (a : ℕ) → a ≤ 63 → entry entries a ≡ Some (get_or entries a 0)
has_entry entries a h = let l : a < 64 = omega arith in rw (lt-ltb a 64 l)

-- a map with one entry changed to an action has actions only
pub changed_actions : (entries : List ℕ) (a b : ℕ) → b ≤ 63 → ActionsBelow entries 64 → ActionsBelow (set entries a b) 64
changed_actions entries a b action old i inside = ⊎_elim here there (cases_eq i a)
  where
    held : a < length entries → get_or (set entries a b) a 0 ≤ 63
    held l = rw (get_or-set_same entries a b 0 l) action

    past : length entries ≤ a → get_or (set entries a b) a 0 ≤ 63
    past l = let n = length-set entries a b in rw (get_or_past (set entries a b) a 0 (omega arith)) (omega arith)

    here : i ≡ a → get_or (set entries a b) i 0 ≤ 63
    here e = rw e (⊎_elim held past (cases_lt a (length entries)))

    there : (i ≡ a → ⊥) → get_or (set entries a b) i 0 ≤ 63
    there e = rw (get_or-set_other entries a i b 0 e) (old i inside)

module _ (entries : List ℕ) {most : ℕ} (m : Meaning) (law : Lawful most m) (s k a t : ℕ) (at : Some (a, t) ≡ slice_get (m.steps s) k) where
  pub entry_found : None ≡ entry entries a → ⊥
  entry_found e =
      let f = has_entry entries a (listed_action m law s k a t at) in
      let z : ◌≡◌ {A = ℕ} 0 1 = cc in
      omega arith

  pub step_mapped : (b : ℕ) → Some b ≡ entry entries a → Some (b, t) ≡ slice_get ((mapped entries m).steps s) k
  step_mapped b e =
      let f = has_entry entries a (listed_action m law s k a t at) in
      let g : b ≡ get_or entries a 0 = cc in
      ap (λ (v : ℕ). Some (v, t)) g ∙ sym (nth_map (replaced entries) (m.steps s) k (a, t) (sym at))

-- what no place is told of passes nowhere
none_passes : (p : ℕ → Bool) (xs : List ℕ) → None ≡ position p xs → (k : ℕ) → k < length xs → p (get_or xs k 0) ≡ false
none_passes p xs e k h = ⊎_elim found missed (cases_lt (position_or_len p xs) (length xs))
  where
    found : position_or_len p xs < length xs → p (get_or xs k 0) ≡ false
    found l =
        let e' : None ≡ Some (position_or_len p xs) = rw (lt-ltb (position_or_len p xs) (length xs) l) at e in
        let z : ◌≡◌ {A = ℕ} 0 1 = cc in
        let b : ⊥ = omega arith in
        absurd b

    missed : length xs ≤ position_or_len p xs → p (get_or xs k 0) ≡ false
    missed l = not-true (p (get_or xs k 0)) (prefix_len_passes (λ x. not (p x)) xs k 0 (omega arith))

pub all_actions : (xs : List ℕ) → None ≡ position (λ action. nat_lt 63 action) xs → ActionsBelow xs 64
all_actions xs e k h = ⊎_elim inside past (cases_lt k (length xs))
  where
    inside : k < length xs → slice_index xs k ≤ 63
    inside l = ltb-false 63 (slice_index xs k) (none_passes (λ action. nat_lt 63 action) xs e k l)

    past : length xs ≤ k → slice_index xs k ≤ 63
    past l = rw (get_or_past xs k 0 l) (omega arith)

pub first_told : (xs : List ℕ) (i : ℕ) → i < 64 → Some i ≡ position (λ action. nat_lt 63 action) xs → Made xs (Err (Entry i))
first_told xs i n e =
    let r = position-Some (λ action. nat_lt 63 action) xs i 0 (sym e) in
    (n, λ k h. ltb-false 63 (slice_index xs k) (r.2 k h), ltb-true 63 (slice_index xs i) r.1)
