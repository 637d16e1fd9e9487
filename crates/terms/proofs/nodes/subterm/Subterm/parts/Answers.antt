use Rattle.std.proofs.Common.{arith}
use Rattle.terms.proofs.Table.{tells}
use Rattle.terms.proofs.nodes.subterm.Subterm.parts.Goals as goal

pub returns-in-Action : goal.returns-in-Action
returns-in-Action c = let s = c.args.self in tells s.nodes.now s.node _ s.stands c.in-Action.is

pub returns-in-Choice : goal.returns-in-Choice
returns-in-Choice c =
    let s = c.args.self in
    let says = tells s.nodes.now s.node _ s.stands c.in-Choice.is in
    let x = c.subterm.ensures in
    let y = c.subterm-in-Choice.ensures in
    (omega arith, omega arith, cc)

pub returns-in-Sequence : goal.returns-in-Sequence
returns-in-Sequence c =
    let s = c.args.self in
    let says = tells s.nodes.now s.node _ s.stands c.in-Sequence.is in
    let x = c.subterm-in-Sequence.ensures in
    let y = c.subterm-in-Sequence-2.ensures in
    (omega arith, omega arith, cc)
