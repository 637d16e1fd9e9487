use Rattle.std.proofs.Common.{◌≡◌, true, false, List, [], length, set, replicate, sym, refl, ap, ◌∙◌}
use Rattle.formulas.specs.declared.line.Line.{Line}
use Rattle.formulas.specs.declared.line.Line.TheVariants.{End, Not}
use Rattle.comparison.specs.Marks.{written, with_line}
use Rattle.comparison.proofs.Zero.{two_classes}
use Rattle.comparison.proofs.ends.by_ends.Goals as goal

pub returns-then-is_end : goal.returns-then-is_end
returns-then-is_end g c =
    let m = g.S.System.meaning c.args.system.now in
    let law = g.met.S.System.lawful c.args.system.now in
    let one : written c.push-ends.new.self ≡ with_line [] End = c.push-ends.ensures.lines ∙ ap (λ (ls : List Line). with_line ls End) c.requires in
    let zero : c.push-ends.result ≡ 0 = c.push-ends.ensures.number ∙ ap length c.requires in
    let first : c.push-others.result ≡ 1 = c.push-others.ensures.number ∙ ap length one in
    let two : written c.push-others.new.self ≡ with_line (with_line [] End) (Not 0) = cc c.push-others.ensures.lines in
    two_classes m law c.end_classes-count.result.class c.end_classes-count.result.count c.end_classes-count.ensures (written c.push-others.new.self) (set (replicate 256 c.push-ends.result) 1 c.push-others.result) true two c.if-count-eq1.false refl (sym c.if-is_end.ensures) zero first

pub returns-else-is_end : goal.returns-else-is_end
returns-else-is_end g c =
    let m = g.S.System.meaning c.args.system.now in
    let law = g.met.S.System.lawful c.args.system.now in
    let one : written c.push-ends.new.self ≡ with_line [] End = c.push-ends.ensures.lines ∙ ap (λ (ls : List Line). with_line ls End) c.requires in
    let zero : c.push-ends.result ≡ 0 = c.push-ends.ensures.number ∙ ap length c.requires in
    let first : c.push-others.result ≡ 1 = c.push-others.ensures.number ∙ ap length one in
    let two : written c.push-others.new.self ≡ with_line (with_line [] End) (Not 0) = cc c.push-others.ensures.lines in
    two_classes m law c.end_classes-count.result.class c.end_classes-count.result.count c.end_classes-count.ensures (written c.push-others.new.self) (set (replicate 256 c.push-ends.result) 0 c.push-others.result) false two c.if-count-eq1.false refl (sym c.if-is_end.ensures) first zero
