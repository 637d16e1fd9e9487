-- What each refusal of a shelf tells.
use Rattle.std.specs.Prelude.{ℕ, None}
use Rattle.refusals.specs.declared.Refusal.{Refusal}
use Rattle.refusals.specs.declared.Layer.TheVariants.{Shelf}
use Rattle.shelves.specs.declared.fault.ShelfFault.{ShelfFault}
use Rattle.shelves.specs.declared.fault.ShelfFault.TheVariants.{Slot, Taken, Empty, Pending, Steps, Room, Different, Nothing, Claims, Clearance}

abbrev pub number_of : ShelfFault → ℕ
number_of Slot = 20
number_of Taken = 21
number_of Empty = 22
number_of Pending = 23
number_of Steps = 24
number_of Room = 25
number_of (Different report) = 26
number_of Nothing = 27
number_of Claims = 28
number_of Clearance = 29

-- a refusal of a shelf by its number; it has no place
abbrev pub shelf_refusal : ℕ → Refusal
shelf_refusal n = record { number = n; layer = Shelf; place = None }

abbrev pub of_shelf : ShelfFault → Refusal
of_shelf f = shelf_refusal (number_of f)
