use Rattle.std.proofs.Common.{◌≡◌, ◌*◌, ◌++◌, length, get_or, drop, refl, ◌∙◌, subst, arith}
use Rattle.std.proofs.lemmas.List.{take_all}
use Rattle.formulas.specs.declared.line.Line.TheVariants.{True}
use Rattle.embed.specs.Numbers.{numbers_of}
use Rattle.embed.proofs.Writing.{write_more}
use Rattle.embed.proofs.numbers.write_lines.Goals as goal

pub loop-k-preserved : goal.loop-k-preserved
loop-k-preserved c = write_more c.args.lines.now c.loop-k.k (get_or c.args.lines.now c.loop-k.k True) c.args.places.now c.loop-k.places c.copy_from_slice.new.self c.loop-k-test.true refl c.loop-k.invariant (c.copy_from_slice.ensures.after ∙ c.line_numbers.ensures)

pub returns : goal.returns
returns c =
    let lines = c.args.lines.now in
    let e : c.loop-k.k ≡ length lines = omega arith in
    let all = take_all c.loop-k.k lines (omega arith) in
    rw (← e) (subst (λ ls. c.loop-k.places ≡ numbers_of ls ++ drop (3 * c.loop-k.k) c.args.places.now) all c.loop-k.invariant)
