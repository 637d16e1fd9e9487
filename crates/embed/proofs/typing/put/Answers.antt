use Rattle.embed.proofs.Writing.{put_is}
use Rattle.embed.proofs.typing.put.Goals as goal

pub returns : goal.returns
returns c = put_is c.args.places.now c.args.bytes.now c.copy_from_slice.new.self c.args.at c.copy_from_slice.ensures.after
