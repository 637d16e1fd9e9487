use Rattle.std.proofs.Common.{refl}
use Rattle.tables.proofs.Accepting.{accepted_files}
use Rattle.tables.proofs.Naming.{ends_are_named}
use Rattle.tables.proofs.Placing.{laid_once}
use Rattle.tables.proofs.laws.files_are_told_by_their_records.Goals as goal

pub returns : goal.returns
returns c = record { value = refl; records = laid_once; accepted = accepted_files; ends = ends_are_named }
