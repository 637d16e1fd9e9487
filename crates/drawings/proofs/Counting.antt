-- Texts that are written one by one.
use Rattle.std.proofs.Common.{◌≡◌, ℕ, ◌+◌, List, [], ◌∷◌, ◌++◌, sym, ap, ◌∙◌, zero-add}
use Rattle.std.specs.List.{range_with_len, flat_map}
use Rattle.std.proofs.lemmas.List.FromFn.{map-range_with_len_more}
use Rattle.std.proofs.lemmas.List.{map-id, flat_map_more}

pub counting_more : (s : ℕ) → range_with_len 0 (s + 1) ≡ range_with_len 0 s ++ s ∷ []
counting_more s = sym (map-id (range_with_len 0 (s + 1))) ∙ (map-range_with_len_more (λ (x : ℕ). x) 0 s s (zero-add s) ∙ ap (λ xs. xs ++ s ∷ []) (map-id (range_with_len 0 s)))

-- one text more
pub texts_more : (text : ℕ → List ℕ) (s : ℕ) (first out out' : List ℕ) → out ≡ first ++ flat_map text (range_with_len 0 s) → out' ≡ out ++ text s → out' ≡ first ++ flat_map text (range_with_len 0 (s + 1))
texts_more text s first out out' e o =
    o ∙ (ap (λ z. z ++ text s) e ∙ (flat_map_more text first (range_with_len 0 s) s ∙ ap (λ z. first ++ flat_map text z) (sym (counting_more s))))
