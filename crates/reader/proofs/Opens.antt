-- A process opens a row where its text begins, and keeps what is good.
use Rattle.std.proofs.Common.{◌≡◌, ℕ, zero, suc, ◌+◌, ◌-◌, ◌<◌, ◌≤◌, true, cond, ◌&&◌, eqb, ltb, List, [], length, get_or, set, Some, None, Ok, Err, codes, Option, Result, sym, refl, ap, ◌∙◌, subst, arith, length-append}
use Rattle.std.proofs.lemmas.Bool.{and_parts, ltb-true}
use Rattle.std.proofs.lemmas.List.{length-reverse}
use Rattle.arrayvec.specs.ArrayVec.{ArrayVec}
use Rattle.words.specs.declared.token.Mark.TheVariants.{Open, Close, Dot, Colon, Bar, Bang, Equals}
use Rattle.words.specs.declared.token.Token.{Token}
use Rattle.words.specs.declared.token.Token.TheVariants.{End, Word, Number, Single}
use Rattle.words.specs.declared.token.Span.{Span}
use Rattle.words.specs.declared.token.WordFault.{WordFault}
use Rattle.words.proofs.Bounds.{err_ok, Within, next_within}
use Rattle.rows.specs.declared.process.ProcessKind.{ProcessKind}
use Rattle.rows.specs.declared.process.ProcessKind.TheVariants.{Stop, Out, In, New, Both, Again, If, Sopen, Aopen, Verify}
use Rattle.rows.specs.Processes.{no_process}
use Rattle.rows.specs.Terms.{no_term}
use Rattle.scanning.specs.declared.fault.ListingFault.TheVariants.{Word as FromWord, Grammar, Limit}
use Rattle.scanning.specs.Spelling.{is_mark, is_word, bytes_of}
use Rattle.scanning.specs.Vocabulary.{first, process_word}
use Rattle.scanning.specs.Names.{InScope}
use Rattle.reader.specs.Cursor.{Cursor, Reads, ◌>>=◌, done, fail, doing, moved, one_more_row}
use Rattle.reader.specs.Tokens.{next, begun, beginning, mark, keyword}
use Rattle.reader.specs.Terms.{term}
use Rattle.reader.specs.Names.{no_names, also, all_bound}
use Rattle.reader.specs.Rows.{operands, opened, noted, open_row, with_contents, fill_row, ended, close_row, finish}
use Rattle.reader.specs.Heads.{typed, new_line, message, sent, out_line, in_line, opened_names, opening_key, opening, opening_line, branched, equation, if_line}
use Rattle.reader.specs.Processes.{Inner, follow, two, closed, parallel, choice, begins, process_by, process}
use Rattle.reader.specs.Whole.{Sizes}
use Rattle.reader.proofs.Good.{Good, Run, Stage, before, after, within, Fresh, in_shape, second, tested, good_moved, good_stage, good_rows, good_opened}
use Rattle.reader.proofs.Triple.{From, given, from_then}
use Rattle.reader.proofs.Keeps.{Keeps, keeps_done, keeps_fail, keeps_if, keeps_doing, keeps_then, keeps_mark, keeps_keyword, keeps_bracket}
use Rattle.reader.proofs.Runs.{keeps_term, keeps_list}
use Rattle.reader.proofs.KeepsNames.{Counted, keeps_type_named, keeps_new_name, keeps_variables}

none_some : {A : Type 0} (x : A) → ◌≡◌ {A = Option A} None (Some x) → ⊥
none_some x h = let z : ◌≡◌ {A = ℕ} 0 1 = cc in omega arith

counted_all : (ns : List Span) (sc : InScope) → Counted sc → Counted (all_bound ns sc)
counted_all ns sc e = simp (length-append, length-reverse) (omega (arith, e))

module _ (text : List ℕ) (n : Sizes) (lt : ℕ) (short : length text ≤ 32768) where
  -- before a process whose first row begins at `place`
  abbrev Begins : ℕ → Cursor → Type 0
  Begins place s = Good text n lt before s × Fresh place s

  opens_row : (left : ℕ) (kind : ProcessKind) (slots place : ℕ) → From (Begins place) (open_row left kind slots place) (λ i. Good text n lt (within i slots 0))
  unfolding open_row
  opens_row left kind slots place =
      record {
        run = λ s g a t h.
            let p = opened kind slots s.filled s.used in
            let u = one_more_row s (set s.rows s.filled p) (set s.places s.filled (noted place)) in
            let c = tested (ltb 0 left && (ltb s.filled 512 && (ltb s.filled (length s.rows) && ltb s.filled (length s.places)))) (Ok (s.filled, u)) (Limit place) (a, t) h in
            let b = and_parts (ltb 0 left) (ltb s.filled 512 && (ltb s.filled (length s.rows) && ltb s.filled (length s.places))) c.0 in
            let d = and_parts (ltb s.filled 512) (ltb s.filled (length s.rows) && ltb s.filled (length s.places)) b.1 in
            let e = and_parts (ltb s.filled (length s.rows)) (ltb s.filled (length s.places)) d.1 in
            given (λ i. Good text n lt (within i slots 0)) s.filled a u t c.1
            (good_opened text n lt short s g.0 place g.1 (ltb-true s.filled (length s.places) e.1) kind slots (ltb-true s.filled 512 d.0) (ltb-true s.filled (length s.rows) e.0));
      }

  keeps_fill : (i c ty count : ℕ) (ops : List ℕ) → Keeps text n lt (within i c 0) (doing (fill_row i ty count ops))
  unfolding fill_row
  keeps_fill i c ty count ops =
      keeps_doing text n lt (within i c 0) (fill_row i ty count ops)
      (λ s g.
      let p = get_or s.rows i no_process in
      let q = g.present in
      let r : Run s.terms s.used (with_contents p ty count ops s.used) =
      record {
        inside = omega (arith, q.long, q.first_is);
        shaped = λ k h.
            let l : s.run + k < s.used = omega (arith, q.first_is) in
            subst (λ f. in_shape p.slots k (get_or s.terms (f + k) no_term) ≡ true) (sym q.first_is) (subst (λ m. in_shape m k (get_or s.terms (s.run + k) no_term) ≡ true) (sym q.slots_are) (q.shaped k l));
      } in
      good_rows text n lt (within i c 0) s g i (with_contents p ty count ops s.used) refl refl r)

  keeps_finish : (i : ℕ) → Keeps text n lt after (finish i)
  unfolding close_row
  keeps_finish i =
      record {
        run = λ s g a t h.
            let r = g.runs i in
            subst (Good text n lt after) (second i a (close_row i s) t h)
            (good_rows text n lt after s g i (ended (get_or s.rows i no_process) s.filled) refl refl (record { inside = r.inside; shaped = r.shaped }));
      }

  -- the parts of a first line, after its row i was opened with c slots
  module _ (i c : ℕ) where
    abbrev line : Stage
    line = within i c 0

    keeps_typed : Keeps text n lt line typed
    unfolding typed
    keeps_typed = keeps_then text n lt line (keeps_mark text n lt line Colon) (λ d. keeps_then text n lt line (keeps_type_named text n lt line) (λ t. keeps_then text n lt line (keeps_mark text n lt line Dot) (λ e. keeps_done text n lt line t.row)))

    module _ (names : List Span) (e : length names ≡ c) where
      keeps_one : Keeps text n lt line (term 32 names)
      keeps_one = keeps_term text n lt i c 32 names e 0

      keeps_message : Keeps text n lt line (message names)
      unfolding message
      keeps_message = keeps_then text n lt line keeps_one (λ d. keeps_then text n lt line (keeps_bracket text n lt line 32) (λ left. keeps_then text n lt line (keeps_list text n lt i c left names Close e 0) (λ ps. keeps_done text n lt line (record { channel = d; parts = ps }))))

      keeps_opening_key : Keeps text n lt line (opening_key names)
      unfolding opening_key
      keeps_opening_key = keeps_then text n lt line (keeps_keyword text n lt line (codes "with")) (λ p. keeps_one)

      keeps_equation : Keeps text n lt line (equation names)
      unfolding equation
      keeps_equation = keeps_then text n lt line keeps_one (λ a. keeps_then text n lt line (keeps_mark text n lt line Equals) (λ p. keeps_then text n lt line keeps_one (λ b. keeps_done text n lt line (record { left = a; right = b }))))

    keeps_opened_names : (slots : ℕ) → Keeps text n lt line (opened_names slots)
    unfolding opened_names
    keeps_opened_names slots = keeps_then text n lt line (keeps_keyword text n lt line (codes "as")) (λ p. keeps_variables text n lt line slots)

    keeps_opening : (sc : InScope) → length sc.names ≡ c → Keeps text n lt line (opening sc)
    unfolding opening
    keeps_opening sc e = keeps_then text n lt line (keeps_one sc.names e) (λ m. keeps_then text n lt line (keeps_opened_names sc.count) (λ ns. keeps_then text n lt line (keeps_opening_key sc.names e) (λ k. keeps_done text n lt line (record { message = m; names = ns; key = k }))))

    keeps_branched : (allow place : ℕ) → Keeps text n lt line (branched allow place)
    keeps_branched allow place = keeps_if text n lt line (eqb allow 0) (keeps_fail text n lt line (Limit place)) (keeps_done text n lt line tt)

    -- what the row says, and the mark that ends the line
    keeps_said : {A : Type 0} (ty count : ℕ) (ops : List ℕ) (a : A) → Keeps text n lt line (◌>>=◌ (doing (fill_row i ty count ops)) (λ u. ◌>>=◌ (mark Dot) (λ d. done a)))
    keeps_said ty count ops a = keeps_then text n lt line (keeps_fill i c ty count ops) (λ u. keeps_then text n lt line (keeps_mark text n lt line Dot) (λ d. keeps_done text n lt line a))

    -- the lines, where the names in scope are as many as their count says
    module _ (sc : InScope) (many : sc.count ≡ c) (counted : Counted sc) where
      names_are : length sc.names ≡ c
      names_are = counted ∙ many

      keeps_new : Keeps text n lt line (new_line sc i)
      unfolding new_line
      keeps_new = keeps_then text n lt line (keeps_new_name text n lt line sc.count) (λ l. keeps_then text n lt line keeps_typed (λ t. keeps_then text n lt line (keeps_fill i c t 0 (operands 0 0 0 0 0)) (λ u. keeps_done text n lt line (also no_names l))))

      keeps_out : Keeps text n lt line (out_line sc.names i)
      unfolding out_line
      keeps_out = keeps_then text n lt line (keeps_message sc.names names_are) (λ m. keeps_said 0 m.parts.count (sent m) tt)

      keeps_in : Keeps text n lt line (in_line sc i)
      unfolding in_line
      keeps_in = keeps_then text n lt line (keeps_one sc.names names_are) (λ d. keeps_then text n lt line (keeps_variables text n lt line sc.count) (λ ns. keeps_said 0 (length ns.items) (operands d 0 0 0 0) ns))

      keeps_opened : Keeps text n lt line (opening_line sc i)
      unfolding opening_line
      keeps_opened = keeps_then text n lt line (keeps_opening sc names_are) (λ o. keeps_said 0 (length o.names.items) (operands o.message o.key 0 0 0) o.names)

      keeps_test : (allow : ℕ) → Keeps text n lt line (if_line sc.names allow i)
      unfolding if_line
      keeps_test allow = keeps_then text n lt line (keeps_equation sc.names names_are) (λ q. keeps_then text n lt line (keeps_fill i c 0 0 (operands q.left q.right 0 0 0)) (λ u. keeps_then text n lt line (keeps_keyword text n lt line (codes "then")) (λ p. keeps_branched allow p)))

  -- what follows the first line, where processes inside keep what is good
  module _ (inner : Inner) (p : (allow : ℕ) (sc : InScope) → Counted sc → Keeps text n lt after (inner allow sc)) where
    keeps_follow : (row : ℕ) (names : List Span) (allow : ℕ) (sc : InScope) → Counted sc → Keeps text n lt after (follow row names allow sc inner)
    unfolding follow
    keeps_follow row names allow sc e = keeps_then text n lt after (p allow (all_bound names sc) (counted_all names sc e)) (λ q. keeps_finish row)

    keeps_two : (m r : Reads ℕ) → Keeps text n lt after m → Keeps text n lt after r → (allow : ℕ) (sc : InScope) → Counted sc → Keeps text n lt after (two m r allow sc inner)
    unfolding two
    keeps_two m r k l allow sc e = keeps_then text n lt after (p allow sc e) (λ a. keeps_then text n lt after k (λ b. keeps_then text n lt after (p allow sc e) (λ q. l)))

    keeps_parallel : (row allow : ℕ) (sc : InScope) → Counted sc → Keeps text n lt after (parallel row allow sc inner)
    unfolding parallel
    keeps_parallel row allow sc e = keeps_two (mark Bar) (closed row) (keeps_mark text n lt after Bar) (keeps_then text n lt after (keeps_mark text n lt after Close) (λ c. keeps_finish row)) (allow - 1) sc e

    keeps_choice : (row allow : ℕ) (sc : InScope) → Counted sc → Keeps text n lt after (choice row allow sc inner)
    unfolding choice
    keeps_choice row allow sc e = keeps_two (keyword (codes "else")) (finish row) (keeps_keyword text n lt after (codes "else")) (keeps_finish row) (allow - 1) sc e

    -- what comes after the first token, where the row i was opened for it
    module _ (i allow : ℕ) (sc : InScope) (e : Counted sc) (place : ℕ) where
      abbrev row : Stage
      row = within i sc.count 0

      onward : {A : Type 0} {m : Reads A} → Keeps text n lt after m → From (Good text n lt row) m (λ a. Good text n lt after)
      onward q = record { run = λ s g a t h. q.run s (good_stage text n lt row after s g g.rows_low tt) a t h }

      follows : {m : Reads (ArrayVec Span)} → Keeps text n lt row m → From (Good text n lt row) (◌>>=◌ m (λ ns. follow i ns.items allow sc inner)) (λ a. Good text n lt after)
      follows q = from_then q (λ ns. onward (keeps_follow i ns.items allow sc e))

      opens_begins : (f : ProcessKind) → From (Good text n lt row) (begins f i allow sc inner place) (λ a. Good text n lt after)
      opens_begins Stop = onward (keeps_done text n lt after i)
      opens_begins New = follows (keeps_new i sc.count sc refl e)
      opens_begins Out = from_then (keeps_out i sc.count sc refl e) (λ u. onward (keeps_follow i [] allow sc e))
      opens_begins In = follows (keeps_in i sc.count sc refl e)
      opens_begins Again = onward (keeps_follow i [] allow sc e)
      opens_begins Sopen = follows (keeps_opened i sc.count sc refl e)
      opens_begins Aopen = follows (keeps_opened i sc.count sc refl e)
      opens_begins Verify = follows (keeps_opened i sc.count sc refl e)
      opens_begins Both = from_then (keeps_branched i sc.count allow place) (λ u. onward (keeps_parallel i allow sc e))
      opens_begins If = from_then (keeps_test i sc.count sc refl e allow) (λ u. onward (keeps_choice i allow sc e))

  firstly : Token → List ℕ → Option ProcessKind
  firstly t w = cond (is_mark Open t) (Some Both) (cond (is_mark Bang t) (Some Again) (cond (is_word t) (process_word w) None))

  -- a process begins with a token, which is not the end of the text
  module _ (s : Cursor) (g : Good text n lt before s) (x : Span) (e : next s.text s.at ≡ Ok x) where
    w : Within s.at (length s.text) x
    w = next_within s.text s.at g.at_in x e

    some_token : (x.token ≡ End → ⊥) → Begins x.start (moved s x.«end»)
    unfolding w
    some_token ne = (good_moved text n lt before s g x.«end» (omega (arith, w.low, w.order)) w.high, record { before = w.some ne; after = λ i k. omega (arith, g.below i k, w.low) })

    by_token : (k : Token) → x.token ≡ k → (f : ProcessKind) → first s.text x ≡ Some f → Begins x.start (moved s x.«end»)
    unfolding firstly
    by_token End q f h = let o : first s.text x ≡ None = ap (λ u. firstly u (bytes_of s.text x)) q in absurd (none_some f (sym o ∙ h))
    by_token Word q f h = some_token (λ z. let y : ◌≡◌ {A = ℕ} 0 1 = cc in omega arith)
    by_token (Number v) q f h = some_token (λ z. let y : ◌≡◌ {A = ℕ} 0 1 = cc in omega arith)
    by_token (Single m) q f h = some_token (λ z. let y : ◌≡◌ {A = ℕ} 0 1 = cc in omega arith)

  from_beginning : From (Good text n lt before) beginning (λ p. Begins p.1.start)
  unfolding beginning
  from_beginning = record { run = λ s g a t h. on s g (next s.text s.at) refl a t h } where
    begins_so : (s : Cursor) → Good text n lt before s → (x : Span) → next s.text s.at ≡ Ok x → (o : Option ProcessKind) → first s.text x ≡ o → (a : ProcessKind × Span) (t : Cursor) → begun o x (moved s x.«end») ≡ Ok (a, t) → Begins a.1.start t
    begins_so s g x e None o a t h = absurd (err_ok (Grammar x.start) (a, t) h)
    begins_so s g x e (Some f) o a t h = given (λ p. Begins p.1.start) (f, x) a (moved s x.«end») t h (by_token s g x e x.token refl f o)

    on : (s : Cursor) → Good text n lt before s → (r : Result Span WordFault) → next s.text s.at ≡ r → (a : ProcessKind × Span) (t : Cursor) → ◌>>=◌ {A = Span} {B = ProcessKind × Span} (λ u. elim r [ Err e ↦ Err (FromWord e) | Ok x ↦ Ok (x, moved u x.«end») ]) (λ l. ◌>>=◌ (λ u. Ok (first u.text l, u)) (λ f. begun f l)) s ≡ Ok (a, t) → Begins a.1.start t
    on s g (Ok x) e a t h = begins_so s g x e (first s.text x) refl a t h
    on s g (Err f) e a t h = absurd (err_ok (FromWord f) (a, t) h)

  -- how a process is read, where processes inside keep what is good
  from_process_by : (left allow : ℕ) (sc : InScope) → Counted sc → (inner : Inner) → ((a : ℕ) (ns : InScope) → Counted ns → Keeps text n lt after (inner a ns)) → From (Good text n lt before) (process_by left allow sc inner) (λ a. Good text n lt after)
  from_process_by left allow sc e inner p = from_then from_beginning (λ q. from_then (opens_row left q.0 sc.count q.1.start) (λ i. opens_begins inner p i allow sc e q.1.start q.0))

  -- also where there are rows already
  further : {A : Type 0} {m : Reads A} → From (Good text n lt before) m (λ a. Good text n lt after) → Keeps text n lt after m
  further p = record { run = λ s g a t h. p.run s (good_stage text n lt after before s g (omega arith) tt) a t h }

  pub from_process : (d : ℕ) (allow : ℕ) (sc : InScope) → Counted sc → From (Good text n lt before) (process d allow sc) (λ a. Good text n lt after)
  unfolding process
  from_process zero allow sc e = from_process_by zero allow sc e (λ a ns. fail (Limit 0)) (λ a ns f. keeps_fail text n lt after (Limit 0))
  from_process (suc d) allow sc e = from_process_by (suc d) allow sc e (process d) (λ a ns f. further (from_process d a ns f))
