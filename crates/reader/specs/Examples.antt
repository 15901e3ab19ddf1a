-- Listings as the definitions read them.
use Rattle.std.specs.Prelude.{◌≡◌, ℕ, List, [], ◌∷◌, take, Ok, Err, codes, Result}
use Rattle.words.specs.declared.token.WordFault.TheVariants.{Byte, Long}
use Rattle.scanning.specs.declared.fault.ListingFault.{ListingFault}
use Rattle.scanning.specs.declared.fault.ListingFault.TheVariants.{Word, Grammar, Name, Limit}
use Rattle.reader.specs.declared.whole.Counts.{Counts}
use Rattle.reader.specs.Whole.{Tables, Sizes, listing}

-- the counts, and the places noted
abbrev pub summed : Result Tables ListingFault → Result (Counts × List ℕ) ListingFault
summed m = elim m [ Err e ↦ Err e | Ok t ↦ Ok (t.counts, take t.counts.processes t.places) ]

abbrev pub small : Sizes
small = record { types = 4; processes = 8; terms = 16; places = 8 }

abbrev pub reads_to : List ℕ → ℕ → ℕ → ℕ → List ℕ → Type 0
reads_to text types processes terms places = summed (listing text 1 small) ≡ Ok (record { types = types; processes = processes; terms = terms }, places)

abbrev pub refused_as : List ℕ → ListingFault → Type 0
refused_as text e = summed (listing text 1 small) ≡ Err e

abbrev pub roomy : Sizes
roomy = record { types = 4; processes = 40; terms = 40; places = 40 }

abbrev pub refused_deep : List ℕ → ListingFault → Type 0
refused_deep text e = summed (listing text 1 roomy) ≡ Err e

-- what is read, with the places noted
pub record Read : Type 0 where
  pub sends : reads_to (codes "type s = level 2; type w = sym 2 (s); free c; new m : s . new k : w . out c (senc(m; k)) . stop") 3 4 4 (46 ∷ 58 ∷ 70 ∷ 91 ∷ [])
  pub opens : reads_to (codes "free c; !in c (a, b).sopen a as (a) with a.if a=b then stop else stop") 1 6 5 (8 ∷ 9 ∷ 21 ∷ 43 ∷ 55 ∷ 65 ∷ [])
  pub shares : reads_to (codes "type o = level 1; type p = level 01; stop") 1 1 0 (37 ∷ [])
  pub hides : reads_to (codes "free c; in c (a, a) . stop") 1 2 1 (8 ∷ 22 ∷ [])

-- what is refused, and where
pub record Refused : Type 0 where
  pub strange : refused_as (codes "free c; $") (Word (Byte 8))
  pub long : refused_as (codes "type s = level 65536; stop") (Word (Long 15))
  pub empty : refused_as (codes "") (Grammar 0)
  pub early_end : refused_as (codes "new c : open .") (Grammar 14)
  pub after : refused_as (codes "stop stop") (Grammar 5)
  pub free_twice : refused_as (codes "free c, c; stop") (Grammar 8)
  pub type_twice : refused_as (codes "type s = level 2; type s = level 3; stop") (Grammar 23)
  pub no_payload : refused_as (codes "type s = chan 2; stop") (Grammar 15)
  pub plain_payload : refused_as (codes "type s = level 2 (); stop") (Grammar 17)
  pub no_parts : refused_as (codes "free c; out c () . stop") (Grammar 15)
  pub no_name : refused_as (codes "free c; in c (out) . stop") (Grammar 14)
  pub own_word : refused_as (codes "type s = chan 2 (s); stop") (Name 17)
  pub unknown : refused_as (codes "free c; out d (c) . stop") (Name 12)
  pub unscoped : refused_as (codes "(new c : open . stop | out c (c) . stop)") (Name 27)
  pub outside : refused_as (codes "free c; sopen c as (k) with k . stop") (Name 28)
  pub five : refused_as (codes "free c; out c (c, c, c, c, c) . stop") (Limit 27)
  pub five_unknown : refused_as (codes "free c; out c (c, c, c, c, d) . stop") (Name 27)
  pub five_types : refused_as (codes "type s = chan 2 (open, open, open, open, open); stop") (Limit 41)
  pub types_full : refused_as (codes "type a = level 2; type b = level 3; type c = level 4; type d = level 5; stop") (Limit 54)
  pub rows_full : refused_as (codes "!!!!!!!!stop") (Limit 8)
  pub deep_term : refused_deep (codes "free c; out c (ek(ek(ek(ek(ek(ek(ek(ek(ek(ek(ek(ek(ek(ek(ek(ek(ek(ek(ek(ek(ek(ek(ek(ek(ek(ek(ek(ek(ek(ek(ek(ek(") (Limit 110)
  pub deep_bracket : refused_deep (codes "(((((((((((((((((((((((((((((((((") (Limit 32)
  pub deep_branch : refused_deep (codes "free c; ((((((((((((((((((((((((((((((((if c = c then stop") (Limit 49)

pub record Examples : Type 0 where
  pub read : Read
  pub refused : Refused
