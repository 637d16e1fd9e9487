use Rattle.std.proofs.Common.{length, Ok, Err, refl, ap, ◌∙◌, subst, arith}
use Rattle.inputs.specs.Inputs.{meaning_of}
use Rattle.comparison.specs.Compared.{Compared}
use Rattle.embed.specs.Comparisons.{refused_by}
use Rattle.embed.proofs.Lent.{count_within, room_within}
use Rattle.embed.proofs.comparing.compare_into.Goals as goal

pub write_verdict-requires : goal.write_verdict-requires
write_verdict-requires c =
    let few = count_within (meaning_of c.args.left.now) (meaning_of c.args.right.now) c.args.own.now c.args.classes.now c.in-Ok.report c.compare.new.lines c.compare.new.classes c.in-Ok.ensures in
    let long = room_within c.args.numbers.now in
    let e = ap length c.requires in
    record { few = omega arith; room = omega arith }

pub returns-in-Err : goal.returns-in-Err
returns-in-Err c =
    let fault = c.in-Err.fault in
    record {
      result = Err fault;
      lines = c.compare.new.lines;
      compared = subst (λ ls. Compared (meaning_of c.args.left.now) (meaning_of c.args.right.now) ls c.args.classes.now (Err fault) c.compare.new.lines c.compare.new.classes) c.requires c.in-Err.ensures;
      answered = c.refused_by.ensures ∙ ap (refused_by 0) c.refusal.ensures;
      numbered = refl;
    }

pub returns-in-Ok : goal.returns-in-Ok
returns-in-Ok c =
    let report = c.in-Ok.report in
    record {
      result = Ok report;
      lines = c.compare.new.lines;
      compared = subst (λ ls. Compared (meaning_of c.args.left.now) (meaning_of c.args.right.now) ls c.args.classes.now (Ok report) c.compare.new.lines c.compare.new.classes) c.requires c.in-Ok.ensures;
      answered = c.told.ensures;
      numbered = c.write_verdict.ensures;
    }
