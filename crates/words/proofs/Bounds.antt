-- Where the tokens of a text begin and end.
use Rattle.std.proofs.Common.{◌≡◌, ℕ, ◌+◌, ◌-◌, ◌<◌, ◌≤◌, Bool, true, false, Option, Some, None, List, [], ◌∷◌, length, drop, Ok, Err, Result, refl, subst, nat_lt, arith, length-drop}
use Rattle.words.specs.declared.bytes.Class.{Class}
use Rattle.words.specs.declared.bytes.Class.TheVariants.{Separator, Letter, Digit, Single, Other}
use Rattle.words.specs.declared.word_reader.WordReader.{WordReader}
use Rattle.words.specs.declared.word_reader.WordReader.TheVariants.{Outside, InWord, InNumber}
use Rattle.words.specs.declared.token.Token.TheVariants.{End, Single as One}
use Rattle.words.specs.declared.token.Span.{Span}
use Rattle.words.specs.declared.token.WordFault.{WordFault}
use Rattle.words.specs.Bytes.{class}
use Rattle.words.specs.Scan.{span, outside, longer, larger, with_digit, move, ended, onward, scan}

pub ok_same : {A E : Type 0} (a b : A) → ◌≡◌ {A = Result A E} (Ok a) (Ok b) → a ≡ b
ok_same a b h = cc

pub err_ok : {A E : Type 0} (e : E) (a : A) → ◌≡◌ {A = Result A E} (Err e) (Ok a) → ⊥
err_ok e a h = cc

-- a token that begins at `lo` or later and ends at `hi` or before; only the end of the text is empty
pub record Within (lo hi : ℕ) (l : Span) : Type 0 where
  pub low : lo ≤ l.start
  pub order : l.start ≤ l.«end»
  pub high : l.«end» ≤ hi
  pub some : (l.token ≡ End → ⊥) → l.start < l.«end»

-- the word reader stands outside, or its word began at `lo` or later and before `at`
Ready : ℕ → ℕ → WordReader → Type 0
Ready lo at Outside = Unit {0}
Ready lo at (InWord s) = (lo ≤ s) × (s < at)
Ready lo at (InNumber s v) = (lo ≤ s) × (s < at)

module _ (lo : ℕ) where
  ended_within : (w : WordReader) (at : ℕ) → lo ≤ at → Ready lo at w → Within lo at (ended w at)
  unfolding Ready
  ended_within Outside at h r = record { low = h; order = omega arith; high = omega arith; some = λ n. absurd (n refl) }
  ended_within (InWord s) at h r = record { low = r.0; order = omega arith; high = omega arith; some = λ n. r.1 }
  ended_within (InNumber s v) at h r = record { low = r.0; order = omega arith; high = omega arith; some = λ n. r.1 }

  module _ (hi : ℕ) (at b : ℕ) (k : WordReader → Result Span WordFault) (above : lo ≤ at) (under : at + 1 ≤ hi) (rest : (v : WordReader) → Ready lo (at + 1) v → (l : Span) → k v ≡ Ok l → Within lo hi l) where
    whole : (x l : Span) → Within lo hi x → ◌≡◌ {A = Result Span WordFault} (Ok x) (Ok l) → Within lo hi l
    whole x l p h = subst (Within lo hi) (ok_same x l h) p

    ends : (w : WordReader) (l : Span) → Ready lo at w → ◌≡◌ {A = Result Span WordFault} (Ok (ended w at)) (Ok l) → Within lo hi l
    ends w l r h =
        let p = ended_within w at above r in
        whole (ended w at) l (record { low = p.low; order = p.order; high = omega arith; some = p.some }) h

    goes_on : (t : Bool) (s : ℕ) (l : Span) → Ready lo at (InWord s) → onward (longer t (InWord s) s) k ≡ Ok l → Within lo hi l
    unfolding Ready
    goes_on true s l r h = rest (InWord s) (r.0, omega arith) l h
    goes_on false s l r h = absurd (err_ok _ _ h)

    grows : (o : Option ℕ) (s v : ℕ) (l : Span) → Ready lo at (InNumber s v) → onward (larger o (InNumber s v) s) k ≡ Ok l → Within lo hi l
    unfolding Ready
    grows (Some n) s v l r h = rest (InNumber s n) (r.0, omega arith) l h
    grows None s v l r h = absurd (err_ok _ _ h)

    step_within : (w : WordReader) (cl : Class) → Ready lo at w → (l : Span) → onward (move w cl at b) k ≡ Ok l → Within lo hi l
    unfolding Ready
    step_within Outside Separator r l h = rest Outside tt l h
    step_within Outside Letter r l h = rest (InWord at) (above, omega arith) l h
    step_within Outside Digit r l h = rest (InNumber at (b - 48)) (above, omega arith) l h
    step_within Outside (Single m) r l h = whole (span (One m) at (at + 1)) l (record { low = above; order = omega arith; high = under; some = λ n. omega arith }) h
    step_within Outside Other r l h = absurd (err_ok _ _ h)
    step_within (InWord s) Letter r l h = goes_on (nat_lt (at - s) 32) s l r h
    step_within (InWord s) Digit r l h = goes_on (nat_lt (at - s) 32) s l r h
    step_within (InWord s) Separator r l h = ends (InWord s) l r h
    step_within (InWord s) (Single m) r l h = ends (InWord s) l r h
    step_within (InWord s) Other r l h = ends (InWord s) l r h
    step_within (InNumber s v) Digit r l h = grows (with_digit v b) s v l r h
    step_within (InNumber s v) Separator r l h = ends (InNumber s v) l r h
    step_within (InNumber s v) Letter r l h = ends (InNumber s v) l r h
    step_within (InNumber s v) (Single m) r l h = ends (InNumber s v) l r h
    step_within (InNumber s v) Other r l h = ends (InNumber s v) l r h

  scan_within : (bs : List ℕ) (at hi : ℕ) (w : WordReader) → lo ≤ at → at + length bs ≤ hi → Ready lo at w → (l : Span) → scan w at bs ≡ Ok l → Within lo hi l
  scan_within [] at hi w h u r l e =
      let p = ended_within w at h r in
      let q : Within lo hi (ended w at) = record { low = p.low; order = p.order; high = omega arith; some = p.some } in
      subst (Within lo hi) (ok_same (ended w at) l e) q
  scan_within (b ∷ bs) at hi w h u r l e =
      step_within hi at b (λ v. scan v (at + 1) bs) h (omega arith) (λ v s m k. scan_within bs (at + 1) hi v (omega arith) (omega arith) s m k) w (class b) r l e

-- the next token stands between the place from which it is read and the end of the text
pub next_within : (text : List ℕ) (at : ℕ) → at ≤ length text → (l : Span) → scan outside at (drop at text) ≡ Ok l → Within at (length text) l
unfolding Ready
next_within text at h l e =
    let n = length-drop at text in
    scan_within at (drop at text) at (length text) outside (omega arith) (omega arith) tt l e
