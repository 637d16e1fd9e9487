use lib.ListN.{length-map}
use Rattle.lts.specs.Map.{replaced}
use Rattle.lts.proofs.mapped.MappedSystem.step_count.Goals as goal

pub returns : goal.returns
returns g c = rw (length-map ((g.S.System.meaning c.args.self.now.source.now).steps c.args.s) (replaced c.args.self.now.map.now.entries)) c.step_count.ensures
