use Rattle.std.proofs.Common.{◌<◌, length, rules, ap}
use Rattle.lines.proofs.Splitting.{lines_first}
use Rattle.lines.proofs.LinesIterator.next.Goals as goal

pub returns-clause-steps : goal.returns-clause-steps
returns-clause-steps c =
    let text = c.args.self.now.rest.now in
    let some : 0 < length text = search rules in
    let e = c.split_line.ensures in
    rw (e.line, e.later) (lines_first text some)

pub returns-clause-goes : goal.returns-clause-goes
returns-clause-goes c =
    let text = c.args.self.now.rest.now in
    let some : 0 < length text = search rules in
    let shorter = ap length (lines_first text some) in
    let e = c.split_line.ensures in
    rw e.later (search rules)
