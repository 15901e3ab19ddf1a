-- What a fault names: its layer, its number, its row and its place.
use Rattle.std.specs.Prelude.{ℕ}
use Rattle.scanning.specs.declared.fault.ListingFault.{ListingFault}
use Rattle.scanning.specs.declared.fault.ListingFault.TheVariants.{TooLong, Word, Grammar, Name, Limit}
use Rattle.scanning.specs.Faults.{listing_number, listing_place}
use Rattle.checking.specs.declared.refusal.Refusal.{Refusal}
use Rattle.checking.specs.declared.refusal.Refusal.TheVariants.{Shape as OutOfShape, Typing as Mistyped}
use Rattle.checking.specs.Refusal.{refusal_number, refusal_row}
use Rattle.checker.specs.declared.fault.CheckFault.{CheckFault}
use Rattle.checker.specs.declared.fault.CheckFault.TheVariants.{Listing as NoListing, Refused}
use Rattle.checker.specs.declared.fault.Layer.{Layer}
use Rattle.checker.specs.declared.fault.Layer.TheVariants.{Words, Listing, Shape, Typing}

abbrev pub listing_layer : ListingFault → Layer
listing_layer TooLong = Listing
listing_layer (Word w) = Words
listing_layer (Grammar p) = Listing
listing_layer (Name p) = Listing
listing_layer (Limit p) = Listing

abbrev pub refusal_layer : Refusal → Layer
refusal_layer (OutOfShape f) = Shape
refusal_layer (Mistyped e i) = Typing

abbrev pub fault_layer : CheckFault → Layer
fault_layer (NoListing f) = listing_layer f
fault_layer (Refused r p) = refusal_layer r

abbrev pub fault_number : CheckFault → ℕ
fault_number (NoListing f) = listing_number f
fault_number (Refused r p) = refusal_number r

abbrev pub fault_row : CheckFault → ℕ
fault_row (NoListing f) = 0
fault_row (Refused r p) = refusal_row r

abbrev pub fault_place : CheckFault → ℕ
fault_place (NoListing f) = listing_place f
fault_place (Refused r p) = p
