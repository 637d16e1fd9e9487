use Rattle.std.proofs.Common.{ℕ, ◌==◌, length, sym, ◌∙◌, arith, rules, take_all}
use Rattle.std.proofs.lemmas.List.{take_rest, drop_all}
use Rattle.std.proofs.lemmas.List.Sums.{position_or_len_is}
use Rattle.lines.proofs.Splitting.{first_part_is, later_part_is}
use Rattle.lines.proofs.split_at_byte.Goals as goal

pub returns-in-Some-clause-first : goal.returns-in-Some-clause-first
returns-in-Some-clause-first c =
    let text = c.args.text.now in
    let at = position_or_len_is (λ (b : ℕ). b == c.args.mark) text c.in-Some.at 0 (search rules) (search rules) (search rules) in
    rw at at (first_part_is c.args.mark text)

pub returns-in-Some-clause-later : goal.returns-in-Some-clause-later
returns-in-Some-clause-later c =
    let text = c.args.text.now in
    let at = position_or_len_is (λ (b : ℕ). b == c.args.mark) text c.in-Some.at 0 (search rules) (search rules) (search rules) in
    take_rest text _ ∙ rw at at (later_part_is c.args.mark text)

pub returns-in-None : goal.returns-in-None
returns-in-None c =
    let text = c.args.text.now in
    let none = position_or_len_is (λ (b : ℕ). b == c.args.mark) text (length text) 0 (omega arith) (search rules) (search rules) in
    record {
      first = sym (take_all _ text (omega arith)) ∙ rw none at (first_part_is c.args.mark text);
      later = sym (drop_all _ text (omega arith)) ∙ rw none at (later_part_is c.args.mark text);
      shorter = λ l. l;
    }
