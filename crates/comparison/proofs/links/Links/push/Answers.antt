use Rattle.comparison.proofs.Linking.{add_first, add_later}
use Rattle.comparison.proofs.links.Links.push.Goals as goal
use Rattle.comparison.proofs.links.Links.push.Goals.{in-None, in-Some}

pub returns-clause-linked : goal.returns-clause-linked
returns-clause-linked c =
    let p = c.requires in
    let x = c.args.self.now in
    let y = c.args.split in
    elim c.match-self-split.branch [
      | in-None w ↦ rw (w.self-is, w.first-is) (add_first x p.linked p.room y p.low w.in-None.is)
      | in-Some w ↦ rw (w.self-is, w.first-is) (add_later x p.linked p.room y p.low w.in-Some.chain w.in-Some.is)
    ]
