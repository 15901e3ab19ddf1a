-- The terms of a process row are in shape.
use Rattle.std.proofs.Common.{◌≡◌, ℕ, zero, suc, ◌+◌, ◌-◌, ◌<◌, ◌≤◌, max, true, ◌&&◌, ltb, List, length, set, is_some, Some, None, Ok, Option, refl, ◌∙◌, arith, length-set}
use Rattle.std.proofs.lemmas.Bool.{and_parts, ltb-true}
use Rattle.words.specs.declared.token.Mark.{Mark}
use Rattle.words.specs.declared.token.Mark.TheVariants.{Close, Semicolon}
use Rattle.words.specs.declared.token.Span.{Span}
use Rattle.rows.specs.declared.term.TermRow.{TermRow}
use Rattle.shape.specs.Numbers.{numbers_fit}
use Rattle.scanning.specs.declared.fault.ListingFault.TheVariants.{Name as Unknown, Limit}
use Rattle.scanning.specs.declared.vocabulary.Head.{Head}
use Rattle.scanning.specs.declared.vocabulary.Head.TheVariants.{Name, KeyOf, Under}
use Rattle.scanning.specs.Spelling.{bytes_of}
use Rattle.scanning.specs.Names.{slot_of}
use Rattle.reader.specs.declared.parts.Parts.{Parts}
use Rattle.reader.specs.Cursor.{Cursor, Reads, ◌>>=◌, fail, with_terms}
use Rattle.reader.specs.Tokens.{is_name, mark}
use Rattle.reader.specs.Lists.{none, added}
use Rattle.reader.specs.Terms.{put, slot_row, composite, named, refused, fifth_term, compound, term_by, term, list, terms_by}
use Rattle.reader.specs.Whole.{Sizes}
use Rattle.reader.proofs.Good.{Good, within, in_shape, tested, good_put, good_stage}
use Rattle.reader.proofs.Triple.{From, given, from_fail, from_if, from_then, from_asked, from_less, from_series}
use Rattle.reader.proofs.Keeps.{Keeps, from_heading, keeps_heading, keeps_mark, keeps_comma, keeps_bracket}
use Rattle.reader.proofs.Fits.{fit_more, fit_added, slot_in, slot_fits, derived_fits, made_fits, Kinds}

module _ (text : List ℕ) (n : Sizes) (lt i c : ℕ) where
  -- the terms of the row i are read, and there are b or more
  abbrev At : ℕ → Cursor → Type 0
  At b = Good text n lt (within i c b)

  -- a is one of the terms
  abbrev Term : ℕ → ℕ → Cursor → Type 0
  Term b a = At (max b (a + 1))

  pub fewer : (a b : ℕ) (s : Cursor) → a ≤ b → At b s → At a s
  fewer a b s h g =
      let q = g.present in
      good_stage text n lt (within i c b) (within i c a) s g g.rows_low (record { first_is = q.first_is; slots_are = q.slots_are; long = omega (arith, q.long); shaped = q.shaped })

  from_put : (b : ℕ) (row : TermRow) (place : ℕ) → ((k : ℕ) → b ≤ k → k < 2048 → in_shape c k row ≡ true) → From (At b) (put row place) (Term b)
  unfolding put
  from_put b row place ok =
      record {
        run = λ s g a t h.
            let u = with_terms s (set s.terms s.used row) (s.used + 1) in
            let d = tested (ltb s.used 2048 && ltb s.used (length s.terms)) (Ok (s.used - s.run, u)) (Limit place) (a, t) h in
            let e = and_parts (ltb s.used 2048) (ltb s.used (length s.terms)) d.0 in
            let few : s.used < 2048 = ltb-true s.used 2048 e.0 in
            let low : b ≤ s.used - s.run = omega (arith, g.present.long) in
            given (Term b) (s.used - s.run) a u t d.1
            (good_put text n lt i c b s g row few (ltb-true s.used (length s.terms) e.1) (ok (s.used - s.run) low (omega arith)));
      }

  from_named : (b : ℕ) (o : Option ℕ) (p : ℕ) → ((j : ℕ) → o ≡ Some j → j < c) → From (At b) (named o p) (Term b)
  from_named b None p f = from_fail (Unknown p)
  from_named b (Some j) p f = from_put b (slot_row j) p (λ k h l. slot_fits c k j (f j refl))

  from_refused : {P : Cursor → Type 0} {Q : Parts → Cursor → Type 0} (h : Head) (names : List Span) (l : Span) → From P (refused h names l) Q
  from_refused h names l =
      from_if (is_name h)
      (from_then (from_asked (λ s. bytes_of s.text l))
      (λ w. from_then (from_asked (λ s. slot_of s.text names w)) (λ o. from_if (is_some o) (from_fail (Limit l.start)) (from_fail (Unknown l.start)))))
      (from_fail (Limit l.start))

  -- up to four terms, where so many more may come: there are at least `low`, and each is one of the row's
  record Listed (b low room : ℕ) (ps : Parts) (s : Cursor) : Type 0 where
    pub reach : ℕ
    pub more : b ≤ reach
    pub some : low ≤ ps.count
    pub few : ps.count + room ≤ 4
    pub long : length ps.at ≡ 4
    pub fit : numbers_fit reach ps.count ps.at ≡ true
    pub good : At reach s

  keeps_listed : {A : Type 0} {m : Reads A} (b low room : ℕ) (ps : Parts) → ((k : ℕ) → Keeps text n lt (within i c k) m) → From (Listed b low room ps) m (λ a. Listed b low room ps)
  keeps_listed b low room ps p = record { run = λ s l a t h. record { reach = l.reach; more = l.more; some = l.some; few = l.few; long = l.long; fit = l.fit; good = (p l.reach).run s l.good a t h } }

  -- where each item is a term of the row
  module _ (names : List Span) (item : Reads ℕ) (each : (b : ℕ) → From (At b) item (Term b)) where
    one_more : (b room : ℕ) (ps : Parts) → From (Listed b 0 (suc room) ps) item (λ x. Listed b 0 room (added ps x))
    one_more b room ps =
        record {
          run = λ s l a t h.
              record {
                reach = max l.reach (a + 1);
                more = omega (arith, l.more);
                some = omega arith;
                few = omega (arith, l.few);
                long = simp length-set l.long;
                fit = fit_added (max l.reach (a + 1)) a ps.count ps.at (omega arith) (omega (arith, l.few, l.long)) (fit_more l.reach (max l.reach (a + 1)) (omega arith) ps.count ps.at l.fit);
                good = (each l.reach).run s l.good a t h;
              };
        }

    some_listed : (b room : ℕ) (ps : Parts) (x : ℕ) (s : Cursor) → Listed b 0 room (added ps x) s → Listed b 1 0 (added ps x) s
    some_listed b room ps x s l = record { reach = l.reach; more = l.more; some = omega arith; few = omega (arith, l.few); long = l.long; fit = l.fit; good = l.good }

    past : (b : ℕ) (ps : Parts) → From (Listed b 0 zero ps) (fifth_term names) (λ qs. Listed b 1 0 qs)
    unfolding fifth_term
    past b ps = from_then (keeps_listed b 0 zero ps (λ k. keeps_heading text n lt (within i c k))) (λ p. from_refused p.0 names p.1)

    from_terms : (b : ℕ) (stop : Mark) → From (At b) (terms_by names stop item 4 none) (Listed b 1 0)
    from_terms b stop =
        record {
          run = λ s g a t h.
              (from_series added (λ qs. item) (λ qs. fifth_term names) stop (λ room ps. Listed b 0 room ps) (Listed b 1 0)
              (λ room ps. one_more b room ps) (λ room ps. keeps_listed b 0 room ps (λ k. keeps_comma text n lt (within i c k) stop)) (λ room ps x u l. some_listed b room ps x u l) (λ ps. past b ps) 4 none
              ).run s (record { reach = b; more = omega arith; some = omega arith; few = omega arith; long = refl; fit = refl; good = g }) a t h;
        }

    -- the key and the bracket that ends a term
    ends : (b d : ℕ) (row : ℕ → TermRow) (place : ℕ) → b ≤ d → ((key k : ℕ) → key < k → d ≤ k → k < 2048 → in_shape c k (row key) ≡ true)
        → From (At d) (◌>>=◌ item (λ key. ◌>>=◌ (mark Close) (λ q. put (row key) place))) (Term b)
    ends b d row place h ok =
        from_then (each d) (λ key. from_then (keeps_mark text n lt (within i c (max d (key + 1))) Close)
        (λ q. from_less (from_put (max d (key + 1)) (row key) place (λ k l m. ok key k (omega arith) (omega arith) m))
        (λ a s g. fewer (max b (a + 1)) (max (max d (key + 1)) (a + 1)) s (omega arith) g)))

    from_compound : (h : Head) → Kinds (Some h) → (allow : ℕ) → length names ≡ c → (l : Span) (b : ℕ) → From (At b) (compound h allow names item l) (Term b)
    from_compound Name f allow e l b =
        record {
          run = λ s g a t h.
              let w = bytes_of s.text l in
              (from_named b (slot_of s.text names w) l.start (λ j q. let r = slot_in s.text names w j q in omega arith)).run s g a t h;
        }
    from_compound (KeyOf kind) f allow e l b =
        from_then (keeps_bracket text n lt (within i c b) allow)
        (λ left. ends b b (λ key. composite kind none key) l.start (omega arith) (λ key k h d m. f c k (composite kind none key) ∙ derived_fits kind k key h m))
    from_compound (Under kind) f allow e l b =
        from_then (keeps_bracket text n lt (within i c b) allow)
        (λ left. from_then (from_terms b Semicolon)
        (λ ps. record {
          run = λ s r a t h.
              (ends b r.reach (λ key. composite kind ps key) l.start r.more
              (λ key k x d m. f c k (composite kind ps key) ∙ made_fits kind k ps key x m r.some (omega (arith, r.few)) (fit_more r.reach k d ps.count ps.at r.fit))
              ).run s r.good a t h;
        }))

    from_term_by : (allow : ℕ) → length names ≡ c → (b : ℕ) → From (At b) (term_by allow names item) (Term b)
    from_term_by allow e b =
        from_then (from_heading text n lt (within i c b)) (λ p. record { run = λ s q a t h. (from_compound p.0 q.0 allow e p.1 b).run s q.1 a t h })

  from_term : (d : ℕ) (names : List Span) → length names ≡ c → (b : ℕ) → From (At b) (term d names) (Term b)
  unfolding term
  from_term zero names e b = from_term_by names (fail (Limit 0)) (λ k. from_fail (Limit 0)) zero e b
  from_term (suc d) names e b = from_term_by names (term d names) (from_term d names e) (suc d) e b

  pub keeps_term : (d : ℕ) (names : List Span) → length names ≡ c → (b : ℕ) → Keeps text n lt (within i c b) (term d names)
  keeps_term d names e b = from_less (from_term d names e b) (λ a s g. fewer b (max b (a + 1)) s (omega arith) g)

  pub keeps_list : (d : ℕ) (names : List Span) (stop : Mark) → length names ≡ c → (b : ℕ) → Keeps text n lt (within i c b) (list d names stop)
  keeps_list d names stop e b = from_less (from_terms names (term d names) (from_term d names e) b stop) (λ ps s l. fewer b l.reach s l.more l.good)
