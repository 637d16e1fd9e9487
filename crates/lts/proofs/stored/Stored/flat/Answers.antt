use Rattle.lts.specs.Laws.Stored.{sound_readable}
use Rattle.lts.proofs.stored.Stored.flat.Goals as goal

pub invariant_of-result : goal.invariant_of-result
invariant_of-result c = record { readable = sound_readable c.args.self.now.of.now c.args.self.now.sound }
