-- One turn of the declarations.
use Rattle.std.proofs.Common.{◌≡◌, ℕ, zero, suc, ◌-◌, ◌<◌, Some, None, Ok, Err, codes, Option, Result, refl, ap, ◌∙◌, arith, length}
use Rattle.std.proofs.lemmas.List.{length-reverse}
use Rattle.words.specs.declared.token.Span.{Span}
use Rattle.scanning.specs.declared.fault.ListingFault.{ListingFault}
use Rattle.scanning.specs.declared.fault.ListingFault.TheVariants.{Limit}
use Rattle.arrayvec.specs.ArrayVec.{ArrayVec, array_vec_len}
use Rattle.scanning.specs.Names.{declared}
use Rattle.scanning.specs.declared.type_words.TypeWord.{TypeWord}
use Rattle.reader.specs.Cursor.{Cursor, Reads, ◌>>=◌, fail, doing, with_word}
use Rattle.reader.specs.Tokens.{ahead}
use Rattle.reader.specs.Types.{declaration, declarations, declarations_step, declared_by, one_declaration}
use Rattle.reader.proofs.Steps.{then_ok, then_err}

-- as many types are declared as the reader has words
pub length_declared : (t : ArrayVec TypeWord) → length (declared t) ≡ array_vec_len t
length_declared t = length-reverse t.items

-- what follows the word `type`
rest : ℕ → Span → Reads (Unit {0})
rest zero = λ l. fail (Limit l.start)
rest (suc room) = one_declaration (declarations room)

at_step : (room : ℕ) → declarations room ≡ declarations_step (rest room)
unfolding declarations rest
at_step zero = refl
at_step (suc room) = refl

full : (room : ℕ) → room ≡ 0 → rest room ≡ (λ l. fail (Limit l.start))
unfolding rest
full room e = ap rest e

some : (room : ℕ) → 0 < room → rest room ≡ one_declaration (declarations (room - 1))
unfolding rest
some room h = let e : room ≡ suc (room - 1) = omega arith in ap rest e

module _ (room : ℕ) (whole : Result (Unit {0} × Cursor) ListingFault) (s : Cursor) (inv : whole ≡ declarations room s) where
  turned : whole ≡ declarations_step (rest room) s
  turned = inv ∙ ap (λ m. m s) (at_step room)

  after : Option Span → Reads (Unit {0})
  after o = declared_by o (rest room)

  pub ahead_fails : (e : ListingFault) → ahead (codes "type") s ≡ Err e → whole ≡ Err e
  unfolding after
  ahead_fails e h = turned ∙ then_err (ahead (codes "type")) after s e h

  pub no_more : (a : Cursor) → ahead (codes "type") s ≡ Ok (None, a) → whole ≡ Ok (tt, a)
  unfolding after
  no_more a h = turned ∙ then_ok (ahead (codes "type")) after s None a h

  module _ (l : Span) (a : Cursor) (ok : ahead (codes "type") s ≡ Ok (Some l, a)) where
    taken : whole ≡ rest room l a
    unfolding after
    taken = turned ∙ then_ok (ahead (codes "type")) after s (Some l) a ok

    pub no_room : room ≡ 0 → whole ≡ Err (Limit l.start)
    no_room e = taken ∙ ap (λ f. f l a) (full room e)

    module _ (left : 0 < room) where
      goes_on : TypeWord → Reads (Unit {0})
      goes_on t = ◌>>=◌ (doing (with_word t)) (λ u. declarations (room - 1))

      begun : whole ≡ ◌>>=◌ (declaration l.start) goes_on a
      unfolding goes_on
      begun = taken ∙ ap (λ f. f l a) (some room left)

      pub declaration_fails : (e : ListingFault) → declaration l.start a ≡ Err e → whole ≡ Err e
      declaration_fails e h = begun ∙ then_err (declaration l.start) goes_on a e h

      pub one_more : (t : TypeWord) (b : Cursor) → declaration l.start a ≡ Ok (t, b) → whole ≡ declarations (room - 1) (with_word t b)
      unfolding goes_on
      one_more t b h = begun ∙ then_ok (declaration l.start) goes_on a t b h
