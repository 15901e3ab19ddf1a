-- Ten cases of the definitions. From the third on the levels are the four.
use Rattle.std.specs.Prelude.{◌≡◌, ℕ, ◌-◌, true, false, List, [], ◌∷◌, ◌++◌, length, replicate, Ok, Err, codes}
use Rattle.levels.specs.Meaning.{public, guarded}
use Rattle.levels.specs.Four.{four}
use Rattle.levels.specs.Party.{parties}
use Rattle.rows.specs.declared.types.TypeKind.{TypeKind}
use Rattle.rows.specs.declared.types.TypeKind.TheVariants.{Chan, Sym, Dec, Enc, Sig}
use Rattle.rows.specs.declared.types.TypeRow.{TypeRow}
use Rattle.rows.specs.declared.process.ProcessKind.{ProcessKind}
use Rattle.rows.specs.declared.process.ProcessKind.TheVariants.{Stop, Out, In, New, Aopen, Verify}
use Rattle.rows.specs.declared.process.ProcessRow.{ProcessRow}
use Rattle.rows.specs.declared.term.TermKind.{TermKind}
use Rattle.rows.specs.declared.term.TermKind.TheVariants.{Slot, Senc}
use Rattle.rows.specs.declared.term.TermRow.{TermRow}
use Rattle.rows.specs.Types.{plain}
use Rattle.rows.specs.Tables.{Tables}
use Rattle.shape.specs.First.{Passes}
use Rattle.typing.specs.Terms.{key_type, enciphered, signed}
use Rattle.checking.specs.declared.refusal.Refusal.{Refusal}
use Rattle.checking.specs.Refusal.{refusal_number, refusal_row}
use Rattle.checking.specs.Verdict.{verdict}
use Rattle.answers.specs.Line.{line, line_feed}
use Rattle.checker.specs.Text.{text_verdict}
use Rattle.checker.specs.Answering.{answer}

-- up to n numbers, and zeros after them
abbrev pub padded : ℕ → List ℕ → List ℕ
padded n xs = xs ++ replicate (n - length xs) 0

-- a channel or a key
abbrev pub declared : TypeKind → ℕ → List ℕ → TypeRow
declared k a xs = record { kind = k; level = a; count = length xs; payload = padded 4 xs }

abbrev pub slot : ℕ → TermRow
slot i = record { kind = Slot; slot = i; count = 0; parts = padded 4 []; key = 0 }

abbrev pub term : TermKind → List ℕ → ℕ → TermRow
term k xs key = record { kind = k; slot = 0; count = length xs; parts = padded 4 xs; key = key }

-- slots, end, where its empty run begins
abbrev pub stop : ℕ → ℕ → ℕ → ProcessRow
stop s e f = record { kind = Stop; slots = s; «end» = e; ty = 0; count = 0; first = f; terms = 0; operands = padded 5 [] }

-- slots, end, type; nothing before it has terms
abbrev pub new : ℕ → ℕ → ℕ → ProcessRow
new s e t = record { kind = New; slots = s; «end» = e; ty = t; count = 0; first = 0; terms = 0; operands = padded 5 [] }

-- slots, end, count, the run's first row and length, operands
abbrev pub using_terms : ProcessKind → ℕ → ℕ → ℕ → ℕ → ℕ → List ℕ → ProcessRow
using_terms k s e n f r xs = record { kind = k; slots = s; «end» = e; ty = 0; count = n; first = f; terms = r; operands = padded 5 xs }

abbrev pub encrypted_text : List ℕ
encrypted_text = codes "type s = level 2; type w = sym 2 (s); free c; new m : s . new k : w . out c (senc(m; k)) . stop"

-- the same as tables
abbrev pub encrypted : Tables
encrypted =
    record {
      types = plain 1 ∷ plain 2 ∷ declared Sym 2 (1 ∷ []) ∷ [];
      processes = new 1 4 1 ∷ new 2 4 2 ∷ using_terms Out 3 4 1 0 4 (0 ∷ 3 ∷ []) ∷ stop 3 4 4 ∷ [];
      terms = slot 0 ∷ slot 1 ∷ slot 2 ∷ term Senc (1 ∷ []) 2 ∷ [];
    }

abbrev pub published_text : List ℕ
published_text = codes "type s = level 2; free c; new m : s . out c (m) . stop"

-- the same as tables
abbrev pub published : Tables
published =
    record {
      types = plain 1 ∷ plain 2 ∷ [];
      processes = new 1 3 1 ∷ using_terms Out 2 3 1 0 2 (0 ∷ 1 ∷ []) ∷ stop 2 3 2 ∷ [];
      terms = slot 0 ∷ slot 1 ∷ [];
    }

-- type s = level 2; type q = chan 2 (s); new d : q . in d (a, b) . stop
abbrev pub two_variables : Tables
two_variables =
    record {
      types = plain 1 ∷ plain 2 ∷ declared Chan 2 (1 ∷ []) ∷ [];
      processes = new 0 3 2 ∷ using_terms In 1 3 2 0 1 (0 ∷ []) ∷ stop 3 3 1 ∷ [];
      terms = slot 0 ∷ [];
    }

-- type s = level 2; new m : s . in m (a) . stop
abbrev pub secret_as_channel : Tables
secret_as_channel =
    record {
      types = plain 1 ∷ plain 2 ∷ [];
      processes = new 0 3 1 ∷ using_terms In 1 3 1 0 1 (0 ∷ []) ∷ stop 2 3 1 ∷ [];
      terms = slot 0 ∷ [];
    }

-- type s = level 2; free c; new m : s . in c (v) . verify m as (a) with v . stop
abbrev pub verified_by_any_key : Tables
verified_by_any_key =
    record {
      types = plain 1 ∷ plain 2 ∷ [];
      processes = new 1 4 1 ∷ using_terms In 2 4 1 0 1 (0 ∷ []) ∷ using_terms Verify 3 4 1 1 2 (0 ∷ 1 ∷ []) ∷ stop 4 4 3 ∷ [];
      terms = slot 0 ∷ slot 1 ∷ slot 2 ∷ [];
    }

-- type s = level 2; type y = dec 2 (s); type q = chan 2 (s); free c;
-- new k : y . new d : q . in c (x) . aopen x as (a) with k . out d (a) . stop
abbrev pub trusted_plaintext : Tables
trusted_plaintext =
    record {
      types = plain 1 ∷ plain 2 ∷ declared Dec 2 (1 ∷ []) ∷ declared Chan 2 (1 ∷ []) ∷ [];
      processes =
          new 1 6 2 ∷ new 2 6 3 ∷ using_terms In 3 6 1 0 1 (0 ∷ []) ∷ using_terms Aopen 4 6 1 1 2 (0 ∷ 1 ∷ [])
          ∷ using_terms Out 5 6 1 3 2 (0 ∷ 1 ∷ []) ∷ stop 5 6 5 ∷ [];
      terms = slot 0 ∷ slot 3 ∷ slot 1 ∷ slot 2 ∷ slot 4 ∷ [];
    }

-- the number of a refusal and the row at fault; nothing where the listing is accepted
abbrev pub reported : Passes Refusal → List ℕ
reported (Ok u) = []
reported (Err e) = refusal_number e ∷ refusal_row e ∷ []

-- the line that reports the verdict on a text
abbrev pub printed : List ℕ → List ℕ
printed text = line (answer (text_verdict four text))

-- the types that the keys below speak of: open, level 2 and level 3
abbrev pub types : List TypeRow
types = plain 1 ∷ plain 2 ∷ plain 3 ∷ []

pub record MarkedCases : Type 0 where
  -- the order goes by bits
  pub four_levels : (four.below 0 1 ≡ true) × (four.below 2 1 ≡ false) × (four.meet 2 1 ≡ 0)
  -- 27: two readers and two writers; its meet with the open level has all readers and the same writers
  pub three_parties : (guarded (parties 3) 27 ≡ true) × ((parties 3).meet 27 63 ≡ 59) × (public (parties 3) 59 ≡ true)
  -- a signature is lowered only where the payload type of its key is public, whatever is signed
  pub signature_by_payload :
      (signed four types (declared Sig 2 (2 ∷ [])) (plain 3 ∷ []) 1 ≡ Ok (plain 2))
      × (signed four types (declared Sig 2 (2 ∷ [])) (plain 1 ∷ []) 1 ≡ Ok (plain 2))
      × (signed four types (declared Sig 2 (0 ∷ [])) (plain 1 ∷ []) 1 ≡ Ok (plain 0))
  -- a secret payload is a declared use of the encryption key, and an open one an open use
  pub encryption_by_payload :
      (enciphered four types (key_type four Enc (declared Dec 2 (1 ∷ []))) Enc (plain 2 ∷ []) 1 ≡ Ok (plain 0))
      × (enciphered four types (key_type four Enc (declared Dec 2 (1 ∷ []))) Enc (plain 1 ∷ []) 1 ≡ Ok (plain 1))
  -- these two as text, read and checked, with the line that is printed; and as tables
  pub encrypted_secret_is_accepted : (printed encrypted_text ≡ codes "accepted 4" ++ line_feed) × (verdict four encrypted ≡ Ok tt)
  pub published_secret_is_refused :
      (printed published_text ≡ codes "refused 31 row 1 at 38" ++ line_feed) × (reported (verdict four published) ≡ 31 ∷ 1 ∷ [])
  pub another_count_is_refused : reported (verdict four two_variables) ≡ 32 ∷ 1 ∷ []
  pub another_kind_is_refused : reported (verdict four secret_as_channel) ≡ 30 ∷ 1 ∷ []
  pub secret_under_any_key_is_refused : reported (verdict four verified_by_any_key) ≡ 33 ∷ 2 ∷ []
  -- the first reading passes, and the second is refused
  pub trusted_plaintext_is_refused : reported (verdict four trusted_plaintext) ≡ 31 ∷ 4 ∷ []
