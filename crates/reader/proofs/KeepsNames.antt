-- The types and the names keep what is good.
use Rattle.std.proofs.Common.{◌≡◌, ℕ, zero, suc, ◌+◌, ◌&&◌, ltb, List, length, set, is_some, Some, None, Ok, codes, Option, refl, subst, arith}
use Rattle.std.proofs.lemmas.Bool.{and_parts, ltb-true}
use Rattle.std.specs.Str.{bytes_eq}
use Rattle.words.specs.declared.token.Mark.TheVariants.{Open, Close, Semicolon, Equals}
use Rattle.words.specs.declared.token.Span.{Span}
use Rattle.rows.specs.declared.types.TypeKind.{TypeKind}
use Rattle.rows.specs.declared.types.TypeKind.TheVariants.{Level}
use Rattle.rows.specs.declared.types.TypeRow.{TypeRow}
use Rattle.rows.specs.Types.{same_kind, equal_row}
use Rattle.scanning.specs.declared.fault.ListingFault.TheVariants.{Grammar, Name as Unknown, Limit}
use Rattle.scanning.specs.Vocabulary.{head, type_kind}
use Rattle.scanning.specs.Names.{InScope, slot_of, row_of}
use Rattle.reader.specs.Cursor.{Cursor, Reads, fail, with_word, with_types}
use Rattle.reader.specs.Tokens.{is_name}
use Rattle.reader.specs.Lists.{none, added}
use Rattle.reader.specs.Types.{row_named, resolved, type_named, payload_type, fifth_type, payload, known, kind, parts_of, type_row, described, add_type, shared, share, new_type, declaration, declared_by, declarations_step, one_declaration, declarations}
use Rattle.reader.specs.Names.{bound, no_names, also, new_name, fifth_name, name_list, variables, free_name, one_too_many, nothing_bound, freed, header}
use Rattle.reader.specs.Whole.{Sizes}
use Rattle.reader.proofs.Good.{Good, Stage, second, tested, good_types, good_word}
use Rattle.reader.proofs.Triple.{From, from_done, from_fail, from_doing, from_then, from_asked, from_series}
use Rattle.reader.proofs.Keeps as keeps
use Rattle.reader.proofs.Keeps.{Keeps}

-- that the names in scope are as many as their count says
abbrev pub Counted : InScope → Type 0
Counted sc = length sc.names ≡ sc.count

module _ (text : List ℕ) (n : Sizes) (lt : ℕ) (lf : Stage) where
  keeps_row_named : (w : List ℕ) → Keeps text n lt lf (row_named w)
  keeps_row_named w = from_asked (λ s. row_of s.text s.words w)

  keeps_resolved : (o : Option ℕ) (l : Span) → Keeps text n lt lf (resolved o l)
  keeps_resolved None l = keeps.keeps_fail text n lt lf (Unknown l.start)
  keeps_resolved (Some r) l = keeps.keeps_done text n lt lf (record { word = l; row = r })

  pub keeps_type_named : Keeps text n lt lf type_named
  unfolding type_named
  keeps_type_named =
      keeps.keeps_then text n lt lf (keeps.keeps_word text n lt lf)
      (λ l. keeps.keeps_then text n lt lf (keeps.keeps_spelling text n lt lf l)
      (λ w. keeps.keeps_if text n lt lf (bytes_eq w (codes "open")) (keeps.keeps_done text n lt lf (record { word = l; row = 0 }))
      (keeps.keeps_then text n lt lf (keeps.keeps_said text n lt lf (head w) l)
      (λ p. keeps.keeps_then text n lt lf (keeps_row_named w)
      (λ o. keeps.keeps_if text n lt lf (is_name p.0) (keeps_resolved o l) (keeps.keeps_fail text n lt lf (Grammar l.start)))))))

  keeps_payload_type : Keeps text n lt lf payload_type
  unfolding payload_type
  keeps_payload_type = keeps.keeps_then text n lt lf keeps_type_named (λ t. keeps.keeps_done text n lt lf t.row)

  keeps_fifth_type : Keeps text n lt lf fifth_type
  unfolding fifth_type
  keeps_fifth_type = keeps.keeps_then text n lt lf keeps_type_named (λ t. keeps.keeps_fail text n lt lf (Limit t.word.start))

  keeps_payload : Keeps text n lt lf payload
  unfolding payload
  keeps_payload = keeps.keeps_series text n lt lf added (λ ps. payload_type) (λ ps. fifth_type) Close (λ ps. keeps_payload_type) (λ ps. keeps_fifth_type) 4 none

  keeps_known : (o : Option TypeKind) (p : ℕ) → Keeps text n lt lf (known o p)
  keeps_known None p = keeps.keeps_fail text n lt lf (Grammar p)
  keeps_known (Some k) p = keeps.keeps_done text n lt lf k

  keeps_kind : Keeps text n lt lf kind
  unfolding kind
  keeps_kind = keeps.keeps_then text n lt lf (keeps.keeps_word text n lt lf) (λ l. keeps.keeps_then text n lt lf (keeps.keeps_spelling text n lt lf l) (λ w. keeps_known (type_kind w) l.start))

  keeps_parts_of : (k : TypeKind) → Keeps text n lt lf (parts_of k)
  unfolding parts_of
  keeps_parts_of k = keeps.keeps_if text n lt lf (same_kind k Level) (keeps.keeps_done text n lt lf none) (keeps.keeps_then text n lt lf (keeps.keeps_mark text n lt lf Open) (λ p. keeps_payload))

  keeps_described : Keeps text n lt lf described
  unfolding described
  keeps_described = keeps.keeps_then text n lt lf keeps_kind (λ k. keeps.keeps_then text n lt lf (keeps.keeps_number text n lt lf) (λ level. keeps.keeps_then text n lt lf (keeps_parts_of k) (λ ps. keeps.keeps_done text n lt lf (type_row k level ps))))

  keeps_add_type : (row : TypeRow) (place : ℕ) → Keeps text n lt lf (add_type row place)
  unfolding add_type
  keeps_add_type row place =
      record {
        run = λ s g a t h.
            let c = tested (ltb s.typed 64 && ltb s.typed (length s.types)) (Ok (s.typed, with_types s (set s.types s.typed row) (s.typed + 1))) (Limit place) (a, t) h in
            let b = and_parts (ltb s.typed 64) (ltb s.typed (length s.types)) c.0 in
            subst (Good text n lt lf) (second s.typed a (with_types s (set s.types s.typed row) (s.typed + 1)) t c.1)
            (good_types text n lt lf s g row (ltb-true s.typed 64 b.0) (ltb-true s.typed (length s.types) b.1));
      }

  keeps_shared : (o : Option ℕ) (row : TypeRow) (place : ℕ) → Keeps text n lt lf (shared o row place)
  keeps_shared None row place = keeps_add_type row place
  keeps_shared (Some i) row place = keeps.keeps_done text n lt lf i

  pub keeps_share : (row : TypeRow) (place : ℕ) → Keeps text n lt lf (share row place)
  unfolding share
  keeps_share row place = record { run = λ s g a t h. (keeps_shared (equal_row s.types row s.typed) row place).run s g a t h }

  keeps_new_type : Keeps text n lt lf new_type
  unfolding new_type
  keeps_new_type =
      keeps.keeps_then text n lt lf (keeps.keeps_binder text n lt lf)
      (λ l. keeps.keeps_then text n lt lf (keeps.keeps_spelling text n lt lf l)
      (λ w. keeps.keeps_then text n lt lf (keeps_row_named w)
      (λ o. keeps.keeps_if text n lt lf (is_some o) (keeps.keeps_fail text n lt lf (Grammar l.start))
      (keeps.keeps_then text n lt lf (keeps.keeps_mark text n lt lf Equals) (λ p. keeps.keeps_done text n lt lf l)))))

  keeps_declaration : (place : ℕ) → Keeps text n lt lf (declaration place)
  unfolding declaration
  keeps_declaration place =
      keeps.keeps_then text n lt lf keeps_new_type
      (λ l. keeps.keeps_then text n lt lf keeps_described (λ t. keeps.keeps_then text n lt lf (keeps_share t place) (λ r. keeps.keeps_then text n lt lf (keeps.keeps_mark text n lt lf Semicolon) (λ p. keeps.keeps_done text n lt lf (record { word = l; row = r })))))

  keeps_declared_by : (o : Option Span) (rest : Span → Reads (Unit {0})) → ((l : Span) → Keeps text n lt lf (rest l)) → Keeps text n lt lf (declared_by o rest)
  keeps_declared_by None rest p = keeps.keeps_done text n lt lf tt
  keeps_declared_by (Some l) rest p = p l

  keeps_step : (rest : Span → Reads (Unit {0})) → ((l : Span) → Keeps text n lt lf (rest l)) → Keeps text n lt lf (declarations_step rest)
  keeps_step rest p = keeps.keeps_then text n lt lf (keeps.keeps_ahead text n lt lf (codes "type")) (λ o. keeps_declared_by o rest p)

  pub keeps_declarations : (room : ℕ) → Keeps text n lt lf (declarations room)
  unfolding declarations
  keeps_declarations zero = keeps_step (λ l. fail (Limit l.start)) (λ l. keeps.keeps_fail text n lt lf (Limit l.start))
  keeps_declarations (suc room) =
      keeps_step (one_declaration (declarations room))
      (λ l. keeps.keeps_then text n lt lf (keeps_declaration l.start) (λ t. keeps.keeps_then text n lt lf (from_doing (with_word t) (λ s g. good_word text n lt lf s g t)) (λ u. keeps_declarations room)))

  pub keeps_new_name : (slots : ℕ) → Keeps text n lt lf (new_name slots)
  unfolding new_name
  keeps_new_name slots = keeps.keeps_then text n lt lf (keeps.keeps_binder text n lt lf) (λ l. keeps.keeps_if text n lt lf (ltb slots 32) (keeps.keeps_done text n lt lf l) (keeps.keeps_fail text n lt lf (Limit l.start)))

  keeps_fifth_name : Keeps text n lt lf fifth_name
  unfolding fifth_name
  keeps_fifth_name = keeps.keeps_then text n lt lf (keeps.keeps_binder text n lt lf) (λ l. keeps.keeps_fail text n lt lf (Limit l.start))

  keeps_name_list : (slots : ℕ) → Keeps text n lt lf (name_list slots)
  unfolding name_list
  keeps_name_list slots = keeps.keeps_series text n lt lf also (λ ns. new_name (slots + length ns.items)) (λ ns. fifth_name) Close (λ ns. keeps_new_name (slots + length ns.items)) (λ ns. keeps_fifth_name) 4 no_names

  pub keeps_variables : (slots : ℕ) → Keeps text n lt lf (variables slots)
  unfolding variables
  keeps_variables slots = keeps.keeps_then text n lt lf (keeps.keeps_mark text n lt lf Open) (λ p. keeps_name_list slots)

  keeps_free_name : (sc : InScope) → Keeps text n lt lf (free_name sc)
  unfolding free_name
  keeps_free_name sc = keeps.keeps_then text n lt lf (keeps.keeps_binder text n lt lf) (λ l. keeps.keeps_then text n lt lf (keeps.keeps_spelling text n lt lf l)
      (λ w. keeps.keeps_then text n lt lf (from_asked (λ s. slot_of s.text sc.names w))
      (λ o. keeps.keeps_if text n lt lf (is_some o) (keeps.keeps_fail text n lt lf (Grammar l.start)) (keeps.keeps_done text n lt lf l))))

  -- the free names, as many as their count says
  abbrev Free : InScope → Cursor → Type 0
  Free sc s = Counted sc × Good text n lt lf s

  from_free : {A : Type 0} {m : Reads A} (sc : InScope) (f : A → InScope) → ((a : A) → Counted sc → Counted (f a)) → Keeps text n lt lf m → From (Free sc) m (λ a. Free (f a))
  from_free sc f c p = record { run = λ s q a t h. (c a q.0, p.run s q.1 a t h) }

  from_too_many : (sc : InScope) → From (Free sc) (one_too_many sc) Free
  unfolding one_too_many
  from_too_many sc = from_then (from_free sc (λ l. sc) (λ l e. e) (keeps_free_name sc)) (λ l. from_fail (Limit l.start))

  from_freed : (o : Option Span) → From (Good text n lt lf) (freed o) Free
  from_freed None = from_done nothing_bound (λ s g. (refl, g))
  from_freed (Some l) =
      record {
        run = λ s g a t h.
            (from_series bound free_name one_too_many Semicolon (λ room sc. Free sc) Free
            (λ room sc. from_free sc (bound sc) (λ x e. omega (arith, e)) (keeps_free_name sc))
            (λ room sc. from_free sc (λ more. sc) (λ more e. e) (keeps.keeps_comma text n lt lf Semicolon))
            (λ room sc x u q. q)
            (λ sc. from_too_many sc)
            32 nothing_bound).run s (refl, g) a t h;
      }

  pub from_header : From (Good text n lt lf) header Free
  unfolding header
  from_header = from_then (keeps.keeps_ahead text n lt lf (codes "free")) (λ o. from_freed o)
