-- What a refused comparison tells.
use Rattle.std.specs.Prelude.{None}
use Rattle.refusals.specs.declared.Layer.TheVariants.{Compare}
use Rattle.refusals.specs.declared.Refusal.{Refusal}
use Rattle.comparison.specs.declared.fault.CompareFault.{CompareFault}
use Rattle.comparison.specs.declared.fault.CompareFault.TheVariants.{Room}

abbrev pub of_compare : CompareFault → Refusal
of_compare Room = record { number = 25; layer = Compare; place = None }
