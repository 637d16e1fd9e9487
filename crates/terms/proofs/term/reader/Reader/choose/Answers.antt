use Rattle.terms.proofs.Moves.{choose_lands}
use Rattle.terms.proofs.term.reader.Reader.choose.Goals as goal

pub returns : goal.returns
returns c = choose_lands c.args.self.now c.add-sum.new.self c.args.product c.add-sum.result c.add-sum.ensures
