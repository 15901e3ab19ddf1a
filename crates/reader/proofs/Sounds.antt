-- Every listing that is read is sound.
use Rattle.std.proofs.Common.{◌≡◌, ℕ, zero, suc, ◌+◌, ◌-◌, ◌<◌, ◌≤◌, Bool, true, false, cond, ◌&&◌, ltb, List, length, get_or, take, set, replicate, Ok, Err, Result, sym, refl, ap, ◌∙◌, subst, arith}
use lib.ListN.{length-replicate}
use Rattle.std.proofs.lemmas.List.{length-take-le}
use Rattle.std.proofs.lemmas.Bool.{and_parts, ltb-true, ltb-false}
use Rattle.words.proofs.Bounds.{err_ok, ok_same}
use Rattle.rows.specs.declared.types.TypeRow.{TypeRow}
use Rattle.rows.specs.declared.term.TermRow.{TermRow}
use Rattle.rows.specs.Types.{plain, equal_row}
use Rattle.rows.specs.Processes.{no_process}
use Rattle.scanning.specs.declared.fault.ListingFault.{ListingFault}
use Rattle.scanning.specs.declared.fault.ListingFault.TheVariants.{TooLong, Limit}
use Rattle.reader.specs.declared.whole.Counts.{Counts}
use Rattle.reader.specs.Cursor.{Cursor, Reads, ◌>>=◌, with_types}
use Rattle.reader.specs.Tokens.{ending}
use Rattle.reader.specs.Types.{add_type, shared, share}
use Rattle.reader.specs.Names.{header}
use Rattle.reader.specs.Processes.{process}
use Rattle.reader.specs.Whole.{Tables, Sizes, zero_process, zero_term, all_declared, types_read, counts, body, whole, empty, tables, listing}
use Rattle.reader.specs.Sound.{Sound, rows_in_use, Never20Or23}
use Rattle.reader.proofs.Good.{Good, Run, Stage, before, after, second, tested, good_types}
use Rattle.reader.proofs.Keeps.{keeps_ending}
use Rattle.reader.proofs.KeepsNames.{keeps_declarations, from_header}
use Rattle.reader.proofs.Opens.{from_process}
use Rattle.reader.proofs.Shapes.{terms_good, sizes_good, never}

-- the steps of a reading that gives an answer
pub steps : {A B : Type 0} (m : Reads A) (k : A → Reads B) (s : Cursor) (b : B) (t : Cursor) → ◌>>=◌ m k s ≡ Ok (b, t) → (x : A × Cursor) × ((m s ≡ Ok x) × (k x.0 x.1 ≡ Ok (b, t)))
steps {A} {B} m k s b t h = on (m s) refl h where
  on : (r : Result (A × Cursor) ListingFault) → m s ≡ r → ◌≡◌ {A = Result (B × Cursor) ListingFault} (elim r [ Err e ↦ Err e | Ok x ↦ k x.0 x.1 ]) (Ok (b, t)) → (x : A × Cursor) × ((m s ≡ Ok x) × (k x.0 x.1 ≡ Ok (b, t)))
  on (Ok x) e q = (x, (e, q))
  on (Err f) e q = absurd (err_ok f (b, t) q)

-- empty tables have no runs
no_runs : (terms : List TermRow) (used rows j : ℕ) → Run terms used (get_or (replicate rows zero_process) j no_process)
no_runs terms used zero j = record { inside = omega arith; shaped = λ k h. absurd (omega arith) }
no_runs terms used (suc rows) zero = record { inside = omega arith; shaped = λ k h. absurd (omega arith) }
no_runs terms used (suc rows) (suc j) = no_runs terms used rows j

-- that what is read is sound, and has term rows in shape
abbrev pub Holds : List ℕ → Sizes → Tables → Type 0
Holds text n x = Sound text n x.counts x.places × Never20Or23 (rows_in_use x.counts x.types x.processes x.terms)

module _ (text : List ℕ) (n : Sizes) (short : length text ≤ 32768) where
  raised : (lf : Stage) (s : Cursor) → Good text n 0 lf s → 1 ≤ s.typed → Good text n 1 lf s
  raised lf s g h =
      record {
        text_is = g.text_is;
        at_in = g.at_in;
        types = record { long = g.types.long; limit = g.types.limit; fit = g.types.fit; low = h };
        rows = g.rows;
        terms = g.terms;
        rows_low = g.rows_low;
        below = g.below;
        runs = g.runs;
        present = g.present;
      }

  -- the first type takes row 0
  first_type : (row : TypeRow) (place : ℕ) (s : Cursor) → s.typed ≡ 0 → Good text n 0 before s → (a : ℕ) (t : Cursor) → share row place s ≡ Ok (a, t) → Good text n 1 before t
  unfolding share add_type
  first_type row place s z g a t h =
      let u = with_types s (set s.types s.typed row) (s.typed + 1) in
      let f : share row place s ≡ add_type row place s = ap (λ k. shared (equal_row s.types row k) row place s) z in
      let c = tested (ltb s.typed 64 && ltb s.typed (length s.types)) (Ok (s.typed, u)) (Limit place) (a, t) (sym f ∙ h) in
      let b = and_parts (ltb s.typed 64) (ltb s.typed (length s.types)) c.0 in
      let d = good_types text n 0 before s g row (ltb-true s.typed 64 b.0) (ltb-true s.typed (length s.types) b.1) in
      subst (Good text n 1 before) (second s.typed a u t c.1) (raised before u d (omega arith))

  types_good : (level : ℕ) (s : Cursor) → s.typed ≡ 0 → Good text n 0 before s → (a : Unit {0}) (t : Cursor) → types_read level s ≡ Ok (a, t) → Good text n 1 before t
  unfolding types_read
  types_good level s z g a t h =
      let p = steps (share (plain level) 0) (λ r. all_declared) s a t h in
      (keeps_declarations text n 1 before (2184 - length p.0.1.words)).run p.0.1 (first_type (plain level) 0 s z g p.0.0 p.0.1 p.1.0) a t p.1.1

  record Ends (k : Counts) (t : Cursor) : Type 0 where
    pub good : Good text n 1 after t
    pub types_are : t.typed ≡ k.types
    pub rows_are : t.filled ≡ k.processes
    pub terms_are : t.used ≡ k.terms

  body_good : (s : Cursor) → Good text n 1 before s → (k : Counts) (t : Cursor) → body s ≡ Ok (k, t) → Ends k t
  unfolding body
  body_good s g k t h =
      let p = steps header (λ sc. ◌>>=◌ (process 512 32 sc) (λ q. ◌>>=◌ ending (λ e. counts))) s k t h in
      let q = steps (process 512 32 p.0.0) (λ a. ◌>>=◌ ending (λ e. counts)) p.0.1 k t p.1.1 in
      let r = steps ending (λ e. counts) q.0.1 k t q.1.1 in
      let a = (from_header text n 1 before).run s g p.0.0 p.0.1 p.1.0 in
      let b = (from_process text n 1 short 512 32 p.0.0 a.0).run p.0.1 a.1 q.0.0 q.0.1 q.1.0 in
      let c = (keeps_ending text n 1 after).run q.0.1 b r.0.0 r.0.1 r.1.0 in
      let u = r.0.1 in
      let e = ok_same (record { types = u.typed; processes = u.filled; terms = u.used }, u) (k, t) r.1.1 in
      let same : u ≡ t = ap (λ x. x.1) e in
      let f = ap (λ x. x.0) e in
      record {
        good = subst (Good text n 1 after) same c;
        types_are = ap (λ (x : Cursor). x.typed) (sym same) ∙ ap (λ (x : Counts). x.types) f;
        rows_are = ap (λ (x : Cursor). x.filled) (sym same) ∙ ap (λ (x : Counts). x.processes) f;
        terms_are = ap (λ (x : Cursor). x.used) (sym same) ∙ ap (λ (x : Counts). x.terms) f;
      }

  start_good : Good text n 0 before (empty text n)
  start_good =
      record {
        text_is = refl;
        at_in = omega arith;
        types = record { long = length-replicate n.types _; limit = omega arith; fit = omega arith; low = omega arith };
        rows = record { long = length-replicate n.processes _; noted = length-replicate n.places _; limit = omega arith; fit = omega arith; noted_fit = omega arith; rises = λ i h. absurd (omega arith) };
        terms = record { long = length-replicate n.terms _; limit = omega arith; fit = omega arith };
        rows_low = omega arith;
        below = λ i h. absurd (omega arith);
        runs = λ j. no_runs (replicate n.terms zero_term) 0 n.processes j;
        present = tt;
      }

  ends_sound : (k : Counts) (t : Cursor) → Ends k t → Sound text n k t.places
  ends_sound k t e =
      let g = e.good in
      record {
        types_some = omega (arith, g.types.low, e.types_are);
        types_limit = omega (arith, g.types.limit, e.types_are);
        types_in = omega (arith, g.types.fit, e.types_are);
        processes_some = omega (arith, g.rows_low, e.rows_are);
        processes_limit = omega (arith, g.rows.limit, e.rows_are);
        processes_in = omega (arith, g.rows.fit, e.rows_are);
        places_in = omega (arith, g.rows.noted_fit, e.rows_are);
        terms_limit = omega (arith, g.terms.limit, e.terms_are);
        terms_in = omega (arith, g.terms.fit, e.terms_are);
        in_text = λ i h. let l : i < t.filled = omega (arith, e.rows_are) in omega (arith, g.below i l, g.at_in, ap length g.text_is);
        rising = λ i h. let l : i + 1 < t.filled = omega (arith, e.rows_are) in g.rows.rises i l;
      }

  ends_never : (k : Counts) (t : Cursor) → Ends k t → Never20Or23 (rows_in_use k t.types t.rows t.terms)
  ends_never k t e =
      let g = e.good in
      let a : length (take k.types t.types) ≡ k.types = length-take-le k.types t.types (omega (arith, g.types.fit, g.types.long, e.types_are)) in
      let b : length (take k.processes t.rows) ≡ k.processes = length-take-le k.processes t.rows (omega (arith, g.rows.fit, g.rows.long, e.rows_are)) in
      let c : length (take k.terms t.terms) ≡ k.terms = length-take-le k.terms t.terms (omega (arith, g.terms.fit, g.terms.long, e.terms_are)) in
      never (rows_in_use k t.types t.rows t.terms)
      (sizes_good (rows_in_use k t.types t.rows t.terms) (omega (arith, g.types.low, e.types_are)) (omega (arith, g.types.limit, e.types_are)) (omega (arith, g.rows_low, e.rows_are)) (omega (arith, g.rows.limit, e.rows_are)) (omega (arith, g.terms.limit, e.terms_are)))
      (terms_good t.terms k.terms t.rows k.processes (λ j. subst (λ u. Run t.terms u (get_or t.rows j no_process)) e.terms_are (g.runs j)))

  whole_holds : (level : ℕ) (k : Counts) (t : Cursor) → whole level (empty text n) ≡ Ok (k, t) → Sound text n k t.places × Never20Or23 (rows_in_use k t.types t.rows t.terms)
  unfolding whole
  whole_holds level k t h =
      let p = steps (types_read level) (λ u. body) (empty text n) k t h in
      let e = body_good p.0.1 (types_good level (empty text n) refl start_good p.0.0 p.0.1 p.1.0) k t p.1.1 in
      (ends_sound k t e, ends_never k t e)

  told_holds : (level : ℕ) (m : Result (Counts × Cursor) ListingFault) → whole level (empty text n) ≡ m → (x : Tables) → tables m ≡ Ok x → Holds text n x
  told_holds level (Ok y) e x h =
      let same = ok_same (record { counts = y.0; types = y.1.types; processes = y.1.rows; terms = y.1.terms; places = y.1.places }) x h in
      subst (Holds text n) same (whole_holds level y.0 y.1 e)
  told_holds level (Err f) e x h = absurd (err_ok f x h)

pub listing_holds : (text : List ℕ) (level : ℕ) (n : Sizes) (x : Tables) → listing text level n ≡ Ok x → Holds text n x
unfolding listing
listing_holds text level n x h = by_length (ltb 32768 (length text)) refl h where
  by_length : (b : Bool) → ltb 32768 (length text) ≡ b → cond b (Err TooLong) (tables (whole level (empty text n))) ≡ Ok x → Holds text n x
  by_length true e q = absurd (err_ok TooLong x q)
  by_length false e q = told_holds text n (ltb-false 32768 (length text) e) level (whole level (empty text n)) refl x q
