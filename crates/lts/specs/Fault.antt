-- What a refused action map tells.
use Rattle.std.specs.Prelude.{Some}
use Rattle.refusals.specs.declared.Layer.TheVariants.{Map}
use Rattle.refusals.specs.declared.Refusal.{Refusal}
use Rattle.lts.specs.declared.map_fault.MapFault.{MapFault}
use Rattle.lts.specs.declared.map_fault.MapFault.TheVariants.{Entry}

abbrev pub of_map : MapFault → Refusal
of_map (Entry i) = record { number = 15; layer = Map; place = Some i }
