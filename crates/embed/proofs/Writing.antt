-- Lines written as numbers, one after another.
use Rattle.std.proofs.Common.{◌≡◌, ℕ, ◌+◌, ◌-◌, ◌*◌, ◌<◌, List, [], ◌∷◌, ◌++◌, length, get_or, take, drop, sym, refl, ap, ◌∙◌, append_assoc, arith}
use borrow.Rule.Slice.PartMut.{put_mid}
use Rattle.std.proofs.lemmas.List.{take_at, drop_at, drop-drop, take_more, flat_map_more, length-take-le}
use Rattle.formulas.specs.declared.line.Line.{Line}
use Rattle.formulas.specs.declared.line.Line.TheVariants.{True}
use Rattle.embed.specs.Numbers.{three, numbers_of}

pub numbers_length : (lines : List Line) → length (numbers_of lines) ≡ 3 * length lines
numbers_length [] = refl
numbers_length (line ∷ lines) = let h = numbers_length lines in omega arith

-- numbers written over a part of what was there
pub put_is : (xs zs ys : List ℕ) (at : ℕ) → ys ≡ zs → put_mid at ((at + length zs) - at) xs ys ≡ take at xs ++ (zs ++ drop (at + length zs) xs)
put_is xs zs ys at e =
    let k : at + ((at + length zs) - at) ≡ at + length zs = omega arith in
    ap (λ us. take at xs ++ us) (ap (λ us. us ++ drop ((at + length zs) - at) (drop at xs)) e ∙ ap (λ us. zs ++ us) (drop-drop ((at + length zs) - at) at xs ∙ ap (λ n. drop n xs) k))

-- numbers written behind those that were written
pub written_behind : (front es ps zs : List ℕ) (n : ℕ) → length front ≡ n → ps ≡ front ++ drop n es → take n ps ++ (zs ++ drop (n + length zs) ps) ≡ (front ++ zs) ++ drop (n + length zs) es
written_behind front es ps zs n e p =
    let kept : take n ps ≡ front = ap (take n) p ∙ take_at front (drop n es) n e in
    let behind : drop n ps ≡ drop n es = ap (drop n) p ∙ drop_at front (drop n es) n e in
    let after : drop (n + length zs) ps ≡ drop (n + length zs) es = sym (drop-drop (length zs) n ps) ∙ (ap (drop (length zs)) behind ∙ drop-drop (length zs) n es) in
    ap (λ us. us ++ (zs ++ drop (n + length zs) ps)) kept ∙ (ap (λ us. front ++ (zs ++ us)) after ∙ sym (append_assoc front zs (drop (n + length zs) es)))

-- one line more
pub write_more : (lines : List Line) (k : ℕ) (line : Line) (es ps new : List ℕ) → k < length lines → line ≡ get_or lines k True → ps ≡ numbers_of (take k lines) ++ drop (3 * k) es → new ≡ three line → put_mid (3 * k) ((3 * k + 3) - 3 * k) ps new ≡ numbers_of (take (k + 1) lines) ++ drop (3 * (k + 1)) es
write_more lines k line es ps new l e p w =
    let front = numbers_of (take k lines) in
    let long : length front ≡ 3 * k = numbers_length (take k lines) ∙ ap (λ n. 3 * n) (length-take-le k lines (omega arith)) in
    let more : front ++ three line ≡ numbers_of (take (k + 1) lines) = flat_map_more three [] (take k lines) line ∙ ap numbers_of (ap (λ x. take k lines ++ x ∷ []) e ∙ sym (take_more lines k True l)) in
    put_is ps (three line) new (3 * k) w ∙ (written_behind front es ps (three line) (3 * k) long p ∙ (ap (λ xs. xs ++ drop (3 * k + 3) es) more ∙ ap (λ n. numbers_of (take (k + 1) lines) ++ drop n es) (omega arith)))
