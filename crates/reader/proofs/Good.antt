-- What every reading keeps true of the tables and the places.
use Rattle.std.proofs.Common.{◌≡◌, ℕ, ◌+◌, ◌-◌, ◌<◌, ◌≤◌, max, Bool, true, false, cond, ◌≢◌, List, length, get_or, set, Ok, Err, Result, sym, refl, ap, ◌∙◌, subst, ⊎_elim, arith, length-set}
use Rattle.std.proofs.lemmas.List.{get_or-set_same, get_or-set_other, set_past}
use Rattle.std.proofs.lemmas.Bool.{cases_eq, cases_lt}
use Rattle.rows.specs.declared.types.TypeRow.{TypeRow}
use Rattle.rows.specs.declared.process.ProcessKind.{ProcessKind}
use Rattle.rows.specs.declared.process.ProcessRow.{ProcessRow}
use Rattle.rows.specs.declared.term.TermRow.{TermRow}
use Rattle.rows.specs.Processes.{no_process}
use Rattle.rows.specs.Terms.{no_term}
use Rattle.shape.specs.Terms.{term_ok}
use Rattle.scanning.specs.declared.fault.ListingFault.{ListingFault}
use Rattle.scanning.specs.declared.type_words.TypeWord.{TypeWord}
use Rattle.reader.specs.Cursor.{Cursor, moved, with_word, with_types, with_terms, with_rows, one_more_row}
use Rattle.reader.specs.Rows.{noted, opened}
use Rattle.reader.specs.Whole.{Sizes}
use Rattle.words.proofs.Bounds.{ok_same, err_ok}

-- the row at place k of a run is in shape, with c slots in scope
abbrev pub in_shape : ℕ → ℕ → TermRow → Bool
in_shape c k t = term_ok c k t t.kind

-- the run of a process row lies in the rows in use, and each of its rows is in shape
pub record Run (terms : List TermRow) (used : ℕ) (p : ProcessRow) : Type 0 where
  pub inside : p.first + p.terms ≤ used
  pub shaped : (k : ℕ) → k < p.terms → in_shape p.slots k (get_or terms (p.first + k) no_term) ≡ true

-- the present run is that of the row i, which has c slots; it has b rows or more, and each is in shape
pub record Present (i c b : ℕ) (rows : List ProcessRow) (terms : List TermRow) (used run : ℕ) : Type 0 where
  pub first_is : (get_or rows i no_process).first ≡ run
  pub slots_are : (get_or rows i no_process).slots ≡ c
  pub long : run + b ≤ used
  pub shaped : (k : ℕ) → run + k < used → in_shape c k (get_or terms (run + k) no_term) ≡ true

-- how far the processes are read: no row yet, some rows, or the terms of the row i, with c slots and b terms or more
pub data Stage : Type 0 where
  before : Stage
  after : Stage
  within : ℕ → ℕ → ℕ → Stage

abbrev pub low_rows : Stage → ℕ
low_rows before = 0
low_rows after = 1
low_rows (within i c b) = 1

abbrev pub Reading : Stage → List ProcessRow → List TermRow → ℕ → ℕ → Type 0
Reading before rows terms used run = Unit {0}
Reading after rows terms used run = Unit {0}
Reading (within i c b) rows terms used run = Present i c b rows terms used run

-- the types: the table keeps its length, and `least` rows or more are in use
pub record TypesFit (n least : ℕ) (types : List TypeRow) (typed : ℕ) : Type 0 where
  pub long : length types ≡ n
  pub limit : typed ≤ 64
  pub fit : typed ≤ n
  pub low : least ≤ typed

-- the process rows and their places, which rise with the row
pub record RowsFit (n : Sizes) (rows : List ProcessRow) (places : List ℕ) (filled : ℕ) : Type 0 where
  pub long : length rows ≡ n.processes
  pub noted : length places ≡ n.places
  pub limit : filled ≤ 512
  pub fit : filled ≤ n.processes
  pub noted_fit : filled ≤ n.places
  pub rises : (i : ℕ) → i + 1 < filled → get_or places i 0 < get_or places (i + 1) 0

pub record TermsFit (n : ℕ) (terms : List TermRow) (used : ℕ) : Type 0 where
  pub long : length terms ≡ n
  pub limit : used ≤ 2048
  pub fit : used ≤ n

pub record Good (text : List ℕ) (n : Sizes) (low-types : ℕ) (stage : Stage) (s : Cursor) : Type 0 where
  pub text_is : s.text ≡ text
  pub at_in : s.at ≤ length s.text
  pub types : TypesFit n.types low-types s.types s.typed
  pub rows : RowsFit n s.rows s.places s.filled
  pub terms : TermsFit n.terms s.terms s.used
  pub rows_low : low_rows stage ≤ s.filled
  pub below : (i : ℕ) → i < s.filled → get_or s.places i 0 < s.at
  pub runs : (j : ℕ) → Run s.terms s.used (get_or s.rows j no_process)
  pub present : Reading stage s.rows s.terms s.used s.run

-- a place after all places noted, and before where the text is read
pub record Fresh (place : ℕ) (s : Cursor) : Type 0 where
  pub before : place < s.at
  pub after : (i : ℕ) → i < s.filled → get_or s.places i 0 < place

pub second : {A : Type 0} (a b : A) (s t : Cursor) → ◌≡◌ {A = Result (A × Cursor) ListingFault} (Ok (a, s)) (Ok (b, t)) → s ≡ t
second a b s t h = ap (λ p. p.1) (ok_same (a, s) (b, t) h)

-- a test that guards an answer
pub tested : {A : Type 0} (b : Bool) (x : Result A ListingFault) (e : ListingFault) (y : A) → cond b x (Err e) ≡ Ok y → (b ≡ true) × (x ≡ Ok y)
tested true x e y h = (refl, h)
tested false x e y h = absurd (err_ok e y h)

module _ (text : List ℕ) (n : Sizes) (lt : ℕ) (lf : Stage) where
  pub good_moved : (s : Cursor) → Good text n lt lf s → (at : ℕ) → s.at ≤ at → at ≤ length s.text → Good text n lt lf (moved s at)
  good_moved s g at h u =
      record {
        text_is = g.text_is;
        at_in = u;
        types = g.types;
        rows = g.rows;
        terms = g.terms;
        rows_low = g.rows_low;
        below = λ i k. omega (arith, g.below i k);
        runs = g.runs;
        present = g.present;
      }

  pub good_types : (s : Cursor) → Good text n lt lf s → (t : TypeRow) → s.typed < 64 → s.typed < length s.types → Good text n lt lf (with_types s (set s.types s.typed t) (s.typed + 1))
  good_types s g t h u =
      record {
        text_is = g.text_is;
        at_in = g.at_in;
        types = record { long = simp length-set g.types.long; limit = omega arith; fit = omega (arith, g.types.long); low = omega (arith, g.types.low) };
        rows = g.rows;
        terms = g.terms;
        rows_low = g.rows_low;
        below = g.below;
        runs = g.runs;
        present = g.present;
      }

  pub good_word : (s : Cursor) → Good text n lt lf s → (w : TypeWord) → Good text n lt lf (with_word w s)
  good_word s g w =
      record {
        text_is = g.text_is;
        at_in = g.at_in;
        types = g.types;
        rows = g.rows;
        terms = g.terms;
        rows_low = g.rows_low;
        below = g.below;
        runs = g.runs;
        present = g.present;
      }

  -- another stage, of which no more is known
  pub good_stage : (lg : Stage) (s : Cursor) → Good text n lt lf s → low_rows lg ≤ s.filled → Reading lg s.rows s.terms s.used s.run → Good text n lt lg s
  good_stage lg s g h q =
      record {
        text_is = g.text_is;
        at_in = g.at_in;
        types = g.types;
        rows = g.rows;
        terms = g.terms;
        rows_low = h;
        below = g.below;
        runs = g.runs;
        present = q;
      }

-- what a written row has, and the others
module _ (rows : List ProcessRow) (i : ℕ) (p : ProcessRow) where
  pub either_row : (P : ProcessRow → Type 0) (j : ℕ) → P p → P (get_or rows j no_process) → P (get_or (set rows i p) j no_process)
  either_row P j a b =
      ⊎_elim
      (λ (e : j ≡ i).
      ⊎_elim
      (λ (h : i < length rows). subst P (sym (ap (λ k. get_or (set rows i p) k no_process) e ∙ get_or-set_same rows i p no_process h)) a)
      (λ (h : length rows ≤ i). subst P (sym (ap (λ ps. get_or ps j no_process) (set_past rows i p h))) b)
      (cases_lt i (length rows)))
      (λ (ne : j ≡ i → ⊥). subst P (sym (get_or-set_other rows i j p no_process ne)) b)
      (cases_eq j i)

  -- a field that the row had before
  pub same_field : (f : ProcessRow → ℕ) → f p ≡ f (get_or rows i no_process) → (j : ℕ) → f (get_or (set rows i p) j no_process) ≡ f (get_or rows j no_process)
  same_field f h j =
      ⊎_elim
      (λ (e : j ≡ i). either_row (λ q. f q ≡ f (get_or rows j no_process)) j (h ∙ ap (λ k. f (get_or rows k no_process)) (sym e)) refl)
      (λ (ne : j ≡ i → ⊥). ap f (get_or-set_other rows i j p no_process ne))
      (cases_eq j i)

  pub reading_rows : (lf : Stage) (terms : List TermRow) (used run : ℕ) → p.first ≡ (get_or rows i no_process).first → p.slots ≡ (get_or rows i no_process).slots → Reading lf rows terms used run → Reading lf (set rows i p) terms used run
  reading_rows before terms used run a b q = tt
  reading_rows after terms used run a b q = tt
  reading_rows (within j c m) terms used run a b q =
      record {
        first_is = same_field (λ x. x.first) a j ∙ q.first_is;
        slots_are = same_field (λ x. x.slots) b j ∙ q.slots_are;
        long = q.long;
        shaped = q.shaped;
      }

-- one more term
module _ (terms : List TermRow) (used : ℕ) (t : TermRow) (room : used < length terms) where
  old_term : (k : ℕ) → k < used → get_or (set terms used t) k no_term ≡ get_or terms k no_term
  old_term k h = let ne : k ≢ used = omega arith in get_or-set_other terms used k t no_term ne

  pub run_kept : (p : ProcessRow) → Run terms used p → Run (set terms used t) (used + 1) p
  run_kept p r =
      record {
        inside = omega (arith, r.inside);
        shaped = λ k h.
            let l : p.first + k < used = omega (arith, r.inside) in
            subst (λ u. in_shape p.slots k u ≡ true) (sym (old_term (p.first + k) l)) (r.shaped k h);
      }

  pub present_more : (i c b : ℕ) (rows : List ProcessRow) (run : ℕ) → Present i c b rows terms used run → in_shape c (used - run) t ≡ true → Present i c (max b (used - run + 1)) rows (set terms used t) (used + 1) run
  present_more i c b rows run q ok =
      record {
        first_is = q.first_is;
        slots_are = q.slots_are;
        long = omega (arith, q.long);
        shaped = λ k h.
            ⊎_elim
            (λ (e : run + k ≡ used).
            let d : used - run ≡ k = omega arith in
            let v : get_or (set terms used t) (run + k) no_term ≡ t = ap (λ m. get_or (set terms used t) m no_term) e ∙ get_or-set_same terms used t no_term room in
            subst (λ u. in_shape c k u ≡ true) (sym v) (subst (λ m. in_shape c m t ≡ true) d ok))
            (λ (ne : run + k ≡ used → ⊥).
            let l : run + k < used = omega arith in
            subst (λ u. in_shape c k u ≡ true) (sym (old_term (run + k) l)) (q.shaped k l))
            (cases_eq (run + k) used);
      }

module _ (text : List ℕ) (n : Sizes) (lt : ℕ) where
  pub good_put : (i c b : ℕ) (s : Cursor) → Good text n lt (within i c b) s → (t : TermRow) → s.used < 2048 → s.used < length s.terms → in_shape c (s.used - s.run) t ≡ true → Good text n lt (within i c (max b (s.used - s.run + 1))) (with_terms s (set s.terms s.used t) (s.used + 1))
  good_put i c b s g t h u ok =
      record {
        text_is = g.text_is;
        at_in = g.at_in;
        types = g.types;
        rows = g.rows;
        terms = record { long = simp length-set g.terms.long; limit = omega arith; fit = omega (arith, g.terms.long) };
        rows_low = g.rows_low;
        below = g.below;
        runs = λ j. run_kept s.terms s.used t u (get_or s.rows j no_process) (g.runs j);
        present = present_more s.terms s.used t u i c b s.rows s.run g.present ok;
      }

  -- another process row, which begins where the row did and has its slots
  pub good_rows : (lf : Stage) (s : Cursor) → Good text n lt lf s → (i : ℕ) (p : ProcessRow) → p.first ≡ (get_or s.rows i no_process).first → p.slots ≡ (get_or s.rows i no_process).slots → Run s.terms s.used p → Good text n lt lf (with_rows s (set s.rows i p))
  good_rows lf s g i p a b r =
      record {
        text_is = g.text_is;
        at_in = g.at_in;
        types = g.types;
        rows = record { long = simp length-set g.rows.long; noted = g.rows.noted; limit = g.rows.limit; fit = g.rows.fit; noted_fit = g.rows.noted_fit; rises = g.rows.rises };
        terms = g.terms;
        rows_low = g.rows_low;
        below = g.below;
        runs = λ j. either_row s.rows i p (Run s.terms s.used) j r (g.runs j);
        present = reading_rows s.rows i p lf s.terms s.used s.run a b g.present;
      }

module _ (text : List ℕ) (n : Sizes) (lt : ℕ) (short : length text ≤ 32768) where
  module _ (s : Cursor) (g : Good text n lt before s) (place : ℕ) (f : Fresh place s) (room : s.filled < length s.places) where
    put_places : List ℕ
    put_places = set s.places s.filled (noted place)

    here : get_or put_places s.filled 0 ≡ place
    unfolding put_places
    here =
        let m : noted place ≡ place = omega (arith, f.before, g.at_in, ap length g.text_is) in
        get_or-set_same s.places s.filled (noted place) 0 room ∙ m

    old : (i : ℕ) → i < s.filled → get_or put_places i 0 ≡ get_or s.places i 0
    unfolding put_places
    old i h = let ne : i ≢ s.filled = omega arith in get_or-set_other s.places s.filled i (noted place) 0 ne

    now_below : (i : ℕ) → i < s.filled + 1 → get_or put_places i 0 < s.at
    now_below i h =
        ⊎_elim
        (λ (e : i ≡ s.filled). let q : get_or put_places i 0 ≡ place = ap (λ k. get_or put_places k 0) e ∙ here in omega (arith, f.before))
        (λ (ne : i ≡ s.filled → ⊥). let l : i < s.filled = omega arith in omega (arith, old i l, g.below i l))
        (cases_eq i s.filled)

    now_rises : (i : ℕ) → i + 1 < s.filled + 1 → get_or put_places i 0 < get_or put_places (i + 1) 0
    now_rises i h =
        let l : i < s.filled = omega arith in
        ⊎_elim
        (λ (e : i + 1 ≡ s.filled). let q : get_or put_places (i + 1) 0 ≡ place = ap (λ k. get_or put_places k 0) e ∙ here in omega (arith, old i l, f.after i l))
        (λ (ne : i + 1 ≡ s.filled → ⊥). let m : i + 1 < s.filled = omega arith in omega (arith, old i l, old (i + 1) m, g.rows.rises i m))
        (cases_eq (i + 1) s.filled)

    pub good_opened : (kind : ProcessKind) (slots : ℕ) → s.filled < 512 → s.filled < length s.rows
        → Good text n lt (within s.filled slots 0) (one_more_row s (set s.rows s.filled (opened kind slots s.filled s.used)) (set s.places s.filled (noted place)))
    unfolding put_places
    good_opened kind slots h u =
        let p = opened kind slots s.filled s.used in
        let row_is : get_or (set s.rows s.filled p) s.filled no_process ≡ p = get_or-set_same s.rows s.filled p no_process u in
        record {
          text_is = g.text_is;
          at_in = g.at_in;
          types = g.types;
          rows = record { long = simp length-set g.rows.long; noted = simp length-set g.rows.noted; limit = omega arith; fit = omega (arith, g.rows.long); noted_fit = omega (arith, g.rows.noted); rises = now_rises };
          terms = g.terms;
          rows_low = omega arith;
          below = now_below;
          runs = λ j. either_row s.rows s.filled p (Run s.terms s.used) j (record { inside = omega arith; shaped = λ k z. absurd (omega arith) }) (g.runs j);
          present = record { first_is = ap (λ (x : ProcessRow). x.first) row_is; slots_are = ap (λ (x : ProcessRow). x.slots) row_is; long = omega arith; shaped = λ k z. absurd (omega arith) };
        }
