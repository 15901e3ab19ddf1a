-- The faults of a listing's text: their numbers, and where they begin.
use Rattle.std.specs.Prelude.{ℕ}
use Rattle.words.specs.Scan.{word_number, word_place}
use Rattle.scanning.specs.declared.fault.ListingFault.{ListingFault}
use Rattle.scanning.specs.declared.fault.ListingFault.TheVariants.{TooLong, Word, Grammar, Name, Limit}

abbrev pub listing_number : ListingFault → ℕ
listing_number TooLong = 10
listing_number (Word w) = word_number w
listing_number (Grammar p) = 13
listing_number (Name p) = 14
listing_number (Limit p) = 15

abbrev pub listing_place : ListingFault → ℕ
listing_place TooLong = 32768
listing_place (Word w) = word_place w
listing_place (Grammar p) = p
listing_place (Name p) = p
listing_place (Limit p) = p
