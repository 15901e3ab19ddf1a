-- Every reading keeps what is good.
use Rattle.std.proofs.Common.{◌≡◌, ℕ, ◌-◌, Bool, true, false, cond, eqb, List, Some, None, Ok, Err, Option, Result, refl, subst, arith}
use Rattle.std.specs.Str.{bytes_eq}
use Rattle.words.specs.declared.token.Mark.{Mark}
use Rattle.words.specs.declared.token.Mark.TheVariants.{Open, Comma}
use Rattle.words.specs.declared.token.Token.{Token}
use Rattle.words.specs.declared.token.Token.TheVariants.{End, Word, Number, Single}
use Rattle.words.specs.declared.token.Span.{Span}
use Rattle.words.specs.declared.token.WordFault.{WordFault}
use Rattle.scanning.specs.declared.fault.ListingFault.{ListingFault}
use Rattle.scanning.specs.declared.fault.ListingFault.TheVariants.{Word as FromWord, Grammar, Limit}
use Rattle.scanning.specs.declared.vocabulary.Head.{Head}
use Rattle.scanning.specs.Spelling.{is_mark, is_word, is_end, bytes_of, spells}
use Rattle.scanning.specs.Vocabulary.{head}
use Rattle.reader.specs.Cursor.{Cursor, Reads, ◌>>=◌, done, fail, doing, moved}
use Rattle.reader.specs.Tokens.{next, token, spelling, ahead, word, mark, keyword, numeral, number, comma, said, heading, is_name, named, binder, ending}
use Rattle.reader.specs.Lists.{series}
use Rattle.reader.specs.Terms.{bracket}
use Rattle.reader.specs.Whole.{Sizes}
use Rattle.words.proofs.Bounds.{err_ok, next_within}
use Rattle.reader.proofs.Good.{Good, Stage, second, good_moved}
use Rattle.reader.proofs.Fits.{Kinds, kinds_fit}
use Rattle.reader.proofs.Triple.{From, from_done, from_fail, from_if, from_doing, from_then, from_asked, from_less, from_series}

-- that a reading of the text keeps what is good
abbrev pub Keeps : List ℕ → Sizes → ℕ → Stage → {A : Type 0} → Reads A → Type 0
Keeps text n lt lf m = From (Good text n lt lf) m (λ a. Good text n lt lf)

module _ (text : List ℕ) (n : Sizes) (lt : ℕ) (lf : Stage) where
  pub keeps_done : {A : Type 0} (a : A) → Keeps text n lt lf (done a)
  keeps_done a = from_done a (λ s g. g)

  pub keeps_fail : {A : Type 0} (e : ListingFault) → Keeps text n lt lf (fail {A = A} e)
  keeps_fail e = from_fail e

  pub keeps_if : {A : Type 0} (b : Bool) {x y : Reads A} → Keeps text n lt lf x → Keeps text n lt lf y → Keeps text n lt lf (cond b x y)
  keeps_if b p q = from_if b p q

  pub keeps_doing : (f : Cursor → Cursor) → ((s : Cursor) → Good text n lt lf s → Good text n lt lf (f s)) → Keeps text n lt lf (doing f)
  keeps_doing f p = from_doing f p

  pub keeps_then : {A B : Type 0} {m : Reads A} {k : A → Reads B} → Keeps text n lt lf m → ((a : A) → Keeps text n lt lf (k a)) → Keeps text n lt lf (◌>>=◌ m k)
  keeps_then p q = from_then p q

  took : (s : Cursor) → Good text n lt lf s → (r : Result Span WordFault) → next s.text s.at ≡ r → (l : Span) (t : Cursor) → ◌≡◌ {A = Result (Span × Cursor) ListingFault} (elim r [ Err e ↦ Err (FromWord e) | Ok x ↦ Ok (x, moved s x.«end») ]) (Ok (l, t)) → Good text n lt lf t
  took s g (Ok x) e l t h =
      let w = next_within s.text s.at g.at_in x e in
      subst (Good text n lt lf) (second x l (moved s x.«end») t h) (good_moved text n lt lf s g x.«end» (omega (arith, w.low, w.order)) w.high)
  took s g (Err f) e l t h = absurd (err_ok (FromWord f) (l, t) h)

  pub keeps_token : Keeps text n lt lf token
  keeps_token = record { run = λ s g l t h. took s g (next s.text s.at) refl l t h }

  ahead_took : (w : List ℕ) (s : Cursor) → Good text n lt lf s → (r : Result Span WordFault) → next s.text s.at ≡ r → (l : Option Span) (t : Cursor) → ◌≡◌ {A = Result (Option Span × Cursor) ListingFault} (elim r [ Err e ↦ Err (FromWord e) | Ok x ↦ cond (spells s.text x w) (Ok (Some x, moved s x.«end»)) (Ok (None, s)) ]) (Ok (l, t)) → Good text n lt lf t
  ahead_took w s g (Ok x) e l t h = ahead_either (spells s.text x w) s g x e l t h where
    ahead_either : (b : Bool) (s : Cursor) → Good text n lt lf s → (x : Span) → next s.text s.at ≡ Ok x → (l : Option Span) (t : Cursor) → ◌≡◌ {A = Result (Option Span × Cursor) ListingFault} (cond b (Ok (Some x, moved s x.«end»)) (Ok (None, s))) (Ok (l, t)) → Good text n lt lf t
    ahead_either true s g x e l t h =
        let w = next_within s.text s.at g.at_in x e in
        subst (Good text n lt lf) (second (Some x) l (moved s x.«end») t h) (good_moved text n lt lf s g x.«end» (omega (arith, w.low, w.order)) w.high)
    ahead_either false s g x e l t h = subst (Good text n lt lf) (second None l s t h) g
  ahead_took w s g (Err f) e l t h = absurd (err_ok (FromWord f) (l, t) h)

  pub keeps_ahead : (w : List ℕ) → Keeps text n lt lf (ahead w)
  unfolding ahead
  keeps_ahead w = record { run = λ s g l t h. ahead_took w s g (next s.text s.at) refl l t h }

  pub keeps_spelling : (l : Span) → Keeps text n lt lf (spelling l)
  keeps_spelling l = from_asked (λ s. bytes_of s.text l)

  pub keeps_word : Keeps text n lt lf word
  keeps_word = keeps_then keeps_token (λ l. keeps_if (is_word l.token) (keeps_done l) (keeps_fail (Grammar l.start)))

  pub keeps_mark : (m : Mark) → Keeps text n lt lf (mark m)
  keeps_mark m = keeps_then keeps_token (λ l. keeps_if (is_mark m l.token) (keeps_done l.start) (keeps_fail (Grammar l.start)))

  pub keeps_keyword : (w : List ℕ) → Keeps text n lt lf (keyword w)
  keeps_keyword w = keeps_then keeps_token (λ l. keeps_then (keeps_spelling l) (λ v. keeps_if (bytes_eq v w) (keeps_done l.start) (keeps_fail (Grammar l.start))))

  keeps_numeral : (t : Token) (p : ℕ) → Keeps text n lt lf (numeral t p)
  keeps_numeral End p = keeps_fail (Grammar p)
  keeps_numeral Word p = keeps_fail (Grammar p)
  keeps_numeral (Number v) p = keeps_done v
  keeps_numeral (Single m) p = keeps_fail (Grammar p)

  pub keeps_number : Keeps text n lt lf number
  keeps_number = keeps_then keeps_token (λ l. keeps_numeral l.token l.start)

  pub keeps_comma : (m : Mark) → Keeps text n lt lf (comma m)
  unfolding comma
  keeps_comma m = keeps_then keeps_token (λ l. keeps_if (is_mark m l.token) (keeps_done false) (keeps_if (is_mark Comma l.token) (keeps_done true) (keeps_fail (Grammar l.start))))

  pub from_heading : From (Good text n lt lf) heading (λ p s. Kinds (Some p.0) × Good text n lt lf s)
  unfolding heading
  from_heading = from_then keeps_word (λ l. from_then (keeps_spelling l) (λ w. from_said (head w) l (kinds_fit w))) where
    from_said : (o : Option Head) (l : Span) → Kinds o → From (Good text n lt lf) (said o l) (λ p s. Kinds (Some p.0) × Good text n lt lf s)
    from_said None l k = from_fail (Grammar l.start)
    from_said (Some h) l k = from_done (h, l) (λ s g. (k, g))

  pub keeps_said : (o : Option Head) (l : Span) → Keeps text n lt lf (said o l)
  keeps_said None l = keeps_fail (Grammar l.start)
  keeps_said (Some h) l = keeps_done (h, l)

  pub keeps_heading : Keeps text n lt lf heading
  keeps_heading = from_less from_heading (λ p s g. g.1)

  pub keeps_binder : Keeps text n lt lf binder
  unfolding binder
  keeps_binder = keeps_then keeps_word (λ l. keeps_then (keeps_named l) (λ n. keeps_done l)) where
    keeps_named : (l : Span) → Keeps text n lt lf (named l)
    keeps_named l = keeps_then (keeps_spelling l) (λ w. keeps_then (keeps_said (head w) l) (λ p. keeps_if (is_name p.0) (keeps_done tt) (keeps_fail (Grammar l.start))))

  pub keeps_ending : Keeps text n lt lf ending
  keeps_ending = keeps_then keeps_token (λ l. keeps_if (is_end l.token) (keeps_done tt) (keeps_fail (Grammar l.start)))

  module _ {A L : Type 0} (add : L → A → L) (item : L → Reads A) (over : L → Reads L) (stop : Mark) (p : (xs : L) → Keeps text n lt lf (item xs)) (q : (xs : L) → Keeps text n lt lf (over xs)) where
    pub keeps_series : (room : ℕ) (xs : L) → Keeps text n lt lf (series add item over stop room xs)
    keeps_series room xs = from_series add item over stop (λ k ys. Good text n lt lf) (λ ys. Good text n lt lf) (λ k ys. p ys) (λ k ys. keeps_comma stop) (λ k ys y s g. g) q room xs

  pub keeps_bracket : (allow : ℕ) → Keeps text n lt lf (bracket allow)
  keeps_bracket allow = keeps_then (keeps_mark Open) (λ p. keeps_if (eqb allow 0) (keeps_fail (Limit p)) (keeps_done (allow - 1)))
