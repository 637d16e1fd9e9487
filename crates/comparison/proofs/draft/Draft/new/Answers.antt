use Rattle.comparison.proofs.Linking.{none_linked}
use Rattle.comparison.proofs.draft.Draft.new.Goals as goal

pub returns : goal.returns
returns c = rw c.new.ensures none_linked
