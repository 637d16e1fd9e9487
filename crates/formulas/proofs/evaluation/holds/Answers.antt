use Rattle.formulas.proofs.Marking.{names_both, place_inside, holds_true, holds_end, holds_not, holds_second, fails_first, holds_step}
use Rattle.formulas.proofs.evaluation.holds.Goals as goal

pub bounds-work-i-in-Both : goal.bounds-work-i-in-Both
bounds-work-i-in-Both g c =
    let i = names_both c.requires.ready c.states-n.ensures c.in-Both.is in
    place_inside c.requires.ready c.states-n.ensures c.in-Both.i c.args.s i.0 c.requires.state

pub bounds-work-j : goal.bounds-work-j
bounds-work-j g c =
    let i = names_both c.requires.ready c.states-n.ensures c.in-Both.is in
    place_inside c.requires.ready c.states-n.ensures c.in-Both.j c.args.s i.1 c.requires.state

pub returns-in-True : goal.returns-in-True
returns-in-True g c =
    holds_true c.requires.ready c.states-n.ensures c.in-True.is c.args.s

pub returns-in-End : goal.returns-in-End
returns-in-End g c =
    holds_end c.requires.ready c.states-n.ensures c.in-End.is c.args.s c.is_end.result c.is_end.ensures

pub returns-in-Not : goal.returns-in-Not
returns-in-Not g c =
    holds_not c.requires.ready c.states-n.ensures c.in-Not.is c.args.s c.requires.state

pub returns-then-work-i-eq1 : goal.returns-then-work-i-eq1
returns-then-work-i-eq1 g c =
    holds_second c.requires.ready c.states-n.ensures c.in-Both.is c.args.s c.requires.state c.if-work-i-eq1.true

pub returns-else-work-i-eq1 : goal.returns-else-work-i-eq1
returns-else-work-i-eq1 g c =
    fails_first c.requires.ready c.states-n.ensures c.in-Both.is c.args.s c.requires.state c.if-work-i-eq1.false

pub returns-in-Step : goal.returns-in-Step
returns-in-Step g c =
    holds_step c.requires.ready c.states-n.ensures c.in-Step.is (g.met.S.System.lawful c.args.source.now) c.args.s c.steps_into.result c.steps_into.ensures
