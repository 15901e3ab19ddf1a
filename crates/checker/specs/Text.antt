-- The verdict on a text: it is read, and then the listing is checked.
use Rattle.std.specs.Prelude.{◌≡◌, ℕ, ◌≢◌, List, Ok, Err, Result, slice_index}
use Rattle.levels.specs.Meaning.{Meaning}
use Rattle.rows.specs.Tables.{Tables}
use Rattle.shape.specs.declared.fault.ShapeFault.TheVariants.{Size, Types, Processes, Terms, Depth}
use Rattle.shape.specs.First.{Passes}
use Rattle.scanning.specs.declared.fault.ListingFault.{ListingFault}
use Rattle.reader.specs.Whole as reader
use Rattle.reader.specs.Whole.{listing}
use Rattle.reader.specs.Sound.{rows_in_use}
use Rattle.checking.specs.declared.refusal.Refusal.{Refusal}
use Rattle.checking.specs.declared.refusal.Refusal.TheVariants.{Shape, Typing}
use Rattle.checking.specs.Verdict.{verdict}
use Rattle.checker.specs.declared.fault.CheckFault.{CheckFault}
use Rattle.checker.specs.declared.fault.CheckFault.TheVariants.{Listing as NoListing, Refused}
use Rattle.checker.specs.Fault.{fault_number}

-- the tables as large as their limits
abbrev pub full : reader.Sizes
full = record { types = 64; processes = 512; terms = 2048; places = 512 }

abbrev pub in_use : reader.Tables → Tables
in_use t = rows_in_use t.counts t.types t.processes t.terms

-- the place noted for the process row at fault, or 0 where the fault is of no process row
abbrev pub place_noted : List ℕ → Refusal → ℕ
place_noted places (Shape Size) = 0
place_noted places (Shape (Types i)) = 0
place_noted places (Shape (Processes i)) = slice_index places i
place_noted places (Shape (Terms i)) = 0
place_noted places (Shape (Depth i)) = slice_index places i
place_noted places (Typing e i) = slice_index places i

-- accepted with its rows, or refused with the place
abbrev pub placed : reader.Tables → Passes Refusal → Result ℕ CheckFault
placed t (Ok u) = Ok t.counts.processes
placed t (Err r) = Err (Refused r (place_noted t.places r))

abbrev pub after_reading : Meaning → Result reader.Tables ListingFault → Result ℕ CheckFault
after_reading m (Ok t) = placed t (verdict m (in_use t))
after_reading m (Err f) = Err (NoListing f)

abbrev pub text_verdict : Meaning → List ℕ → Result ℕ CheckFault
text_verdict m text = after_reading m (listing text m.opened full)

-- that a refusal is not for the number of rows, which is 20, nor for a term row, which is 23
abbrev pub Never20Or23 : Result ℕ CheckFault → Type 0
Never20Or23 r = (f : CheckFault) → r ≡ Err f → (fault_number f ≢ 20) × (fault_number f ≢ 23)
