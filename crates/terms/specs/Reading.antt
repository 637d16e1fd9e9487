-- What reading a text answers.
use Rattle.std.specs.Prelude.{Some, None, Ok, Err, Option, Result}
use Rattle.terms.specs.declared.fault.TermFault.{TermFault}
use Rattle.terms.specs.declared.term.Term.{Term}

-- the refusal that was answered, if any
abbrev pub refusal_of : Result Term TermFault → Option TermFault
refusal_of (Ok t) = None
refusal_of (Err f) = Some f
