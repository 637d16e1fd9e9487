-- What each refusal of a console tells.
use Rattle.std.specs.Prelude.{◌≡◌, ℕ, ◌<◌, ◌≤◌, List, length, Some, None, Ok, Err, Result}
use Rattle.refusals.specs.declared.Refusal.{Refusal}
use Rattle.refusals.specs.declared.Layer.TheVariants.{Console}
use Rattle.terms.specs.Faults.{of_term}
use Rattle.shelves.specs.Faults.{of_shelf}
use Rattle.commands.specs.declared.fault.ConsoleFault.{ConsoleFault}
use Rattle.commands.specs.declared.fault.ConsoleFault.TheVariants.{Form, Long, Term, Shelf}

-- a carried fault tells its own number, layer and place
abbrev pub of_console : ConsoleFault → Refusal
of_console (Form at) = record { number = 40; layer = Console; place = Some at }
of_console Long = record { number = 41; layer = Console; place = None }
of_console (Term fault) = of_term fault
of_console (Shelf fault) = of_shelf fault

-- an input of at most 32,768 bytes is read
abbrev pub Admitted : List ℕ → Result (Unit {0}) ConsoleFault → Type 0
Admitted input (Ok done) = length input ≤ 32768
Admitted input (Err fault) = (32768 < length input) × (fault ≡ Long)
