-- What each refusal of an input tells: what its reader's does.
use Rattle.refusals.specs.declared.Refusal.{Refusal}
use Rattle.tables.specs.Faults.{of_table}
use Rattle.terms.specs.Faults.{of_term}
use Rattle.inputs.specs.declared.fault.InputFault.{InputFault}
use Rattle.inputs.specs.declared.fault.InputFault.TheVariants.{Term, Table}

abbrev pub of_input : InputFault → Refusal
of_input (Term f) = of_term f
of_input (Table f) = of_table f
