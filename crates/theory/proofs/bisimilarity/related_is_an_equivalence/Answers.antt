use Rattle.std.proofs.Common.{refl}
use Rattle.theory.proofs.Relations.{related_reflexive, related_symmetric, related_transitive}
use Rattle.theory.proofs.bisimilarity.related_is_an_equivalence.Goals as goal

pub returns : goal.returns
returns c = record { value = refl; reflexive = related_reflexive; symmetric = related_symmetric; transitive = related_transitive }
