-- What each refusal of a term tells.
use Rattle.std.specs.Prelude.{Some}
use Rattle.refusals.specs.declared.Refusal.{Refusal}
use Rattle.refusals.specs.declared.Layer.TheVariants.{Term}
use Rattle.terms.specs.declared.fault.TermFault.{TermFault}
use Rattle.terms.specs.declared.fault.TermFault.TheVariants.{Long, Misplaced, Early, Actions, Brackets}

abbrev pub of_term : TermFault → Refusal
of_term Long = record { number = 10; layer = Term; place = Some 0 }
of_term (Misplaced at) = record { number = 11; layer = Term; place = Some at }
of_term (Early at) = record { number = 12; layer = Term; place = Some at }
of_term (Actions at) = record { number = 13; layer = Term; place = Some at }
of_term (Brackets at) = record { number = 14; layer = Term; place = Some at }

-- refused for its size, not for its form
abbrev pub TooLarge : TermFault → Type 0
TooLarge Long = Unit {0}
TooLarge (Misplaced at) = ⊥
TooLarge (Early at) = ⊥
TooLarge (Actions at) = Unit {0}
TooLarge (Brackets at) = Unit {0}
