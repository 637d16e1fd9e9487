use Rattle.std.proofs.Common.{refl}
use Rattle.commands.proofs.OneWay.{one_request, one_misfit, never_both}
use Rattle.commands.proofs.readings.lines_are_read_one_way.Goals as goal

pub returns : goal.returns
returns c = record { value = refl; request = one_request; misfit = one_misfit; both = never_both }
