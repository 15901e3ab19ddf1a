-- One more row in a table.
use Rattle.std.specs.Prelude.{◌≡◌, ℕ, ◌+◌, ◌<◌, Bool, false, ◌&&◌, List, length, Ok, Err, Result, nat_lt, slice_set}
use Rattle.scanning.specs.declared.fault.ListingFault.{ListingFault}
use Rattle.scanning.specs.declared.fault.ListingFault.TheVariants.{Limit}

-- whether the next row is within the limit and within the table
abbrev pub has_room : {A : Type 0} → ℕ → List A → ℕ → Bool
has_room most rows used = nat_lt used most && nat_lt used (length rows)

-- that the row is in the next place, whose number is the answer; or that there is no such place, and nothing changed
abbrev pub Appended : {A : Type 0} → ℕ → A → ℕ → List A → ℕ → Result ℕ ListingFault → List A → ℕ → Type 0
Appended most row place rows used (Ok n) after count = (n ≡ used) × (used < most) × (used < length rows) × (after ≡ slice_set rows used row) × (count ≡ used + 1)
Appended most row place rows used (Err e) after count = (e ≡ Limit place) × (has_room most rows used ≡ false) × (after ≡ rows) × (count ≡ used)
