-- What was read keeps the bounds of every source.
use Rattle.std.proofs.Common.{lit≤}
use Rattle.lts.specs.Laws.Most.{wider}
use Rattle.lts.specs.Meaning.{Lawful}
use Rattle.tables.specs.Laws.{table_lawful}
use Rattle.terms.specs.Laws.Lawful.{term_lawful}
use Rattle.inputs.specs.Inputs.{meaning_of}
use Rattle.inputs.specs.declared.parsed.Parsed.{Parsed}
use Rattle.inputs.specs.declared.parsed.Parsed.TheVariants.{Term, Table}

pub parsed_lawful : (x : Parsed) → Lawful 128 (meaning_of x)
parsed_lawful (Term t) = wider (lit≤ tt) (term_lawful t)
parsed_lawful (Table t) = table_lawful t
