-- Lists of row numbers that fit, and what a term row needs to be in shape.
use Rattle.std.proofs.Common.{◌≡◌, ℕ, zero, suc, ◌+◌, ◌<◌, ◌≤◌, Bool, true, false, cond, ◌&&◌, eqb, ltb, leb, List, [], ◌∷◌, length, set, Some, None, codes, Option, sym, refl, subst, add-one, arith}
use Rattle.std.proofs.lemmas.Bool.{and_parts, and_from, ltb-true, lt-ltb, le-leb}
use Rattle.std.specs.Str.{bytes_eq}
use Rattle.words.specs.declared.token.Span.{Span}
use Rattle.rows.specs.declared.term.TermKind.{TermKind}
use Rattle.rows.specs.declared.term.TermKind.TheVariants.{Ek, Vk, Senc, Aenc, Sign}
use Rattle.rows.specs.declared.term.TermRow.{TermRow}
use Rattle.shape.specs.Numbers.{numbers_fit, one_to_four}
use Rattle.shape.specs.Terms.{part_ok, parts_ok, made_ok, derived_ok, term_ok}
use Rattle.scanning.specs.declared.vocabulary.Head.{Head}
use Rattle.scanning.specs.declared.vocabulary.Head.TheVariants.{Name, KeyOf, Under}
use Rattle.scanning.specs.Spelling.{bytes_of}
use Rattle.scanning.specs.Vocabulary.{reserved, head}
use Rattle.scanning.specs.Names.{slot_of}
use Rattle.reader.specs.declared.parts.Parts.{Parts}
use Rattle.reader.specs.Lists.{none}
use Rattle.reader.specs.Terms.{slot_row, composite}
use Rattle.reader.proofs.Good.{in_shape}

pub fit_more : (a b : ℕ) → a ≤ b → (n : ℕ) (xs : List ℕ) → numbers_fit a n xs ≡ true → numbers_fit b n xs ≡ true
fit_more a b h zero [] q = refl
fit_more a b h (suc n) [] q = q
fit_more a b h zero (x ∷ xs) q = let p = and_parts (eqb x 0) (numbers_fit a zero xs) q in and_from (eqb x 0) (numbers_fit b zero xs) p.0 (fit_more a b h zero xs p.1)
fit_more a b h (suc n) (x ∷ xs) q =
    let p = and_parts (ltb x a) (numbers_fit a n xs) q in
    and_from (ltb x b) (numbers_fit b n xs) (lt-ltb x b (omega (arith, ltb-true x a p.0))) (fit_more a b h n xs p.1)

fit_put : (b x : ℕ) → x < b → (n : ℕ) (xs : List ℕ) → n < length xs → numbers_fit b n xs ≡ true → numbers_fit b (suc n) (set xs n x) ≡ true
fit_put b x h n [] l q = absurd (omega arith)
fit_put b x h zero (y ∷ ys) l q = let p = and_parts (eqb y 0) (numbers_fit b zero ys) q in and_from (ltb x b) (numbers_fit b zero ys) (lt-ltb x b h) p.1
fit_put b x h (suc n) (y ∷ ys) l q =
    let p = and_parts (ltb y b) (numbers_fit b n ys) q in
    let m : n < length ys = omega arith in
    and_from (ltb y b) (numbers_fit b (suc n) (set ys n x)) p.0 (fit_put b x h n ys m p.1)

-- one more number
pub fit_added : (b x n : ℕ) (xs : List ℕ) → x < b → n < length xs → numbers_fit b n xs ≡ true → numbers_fit b (n + 1) (set xs n x) ≡ true
fit_added b x n xs h l q = subst (λ k. numbers_fit b k (set xs n x) ≡ true) (sym (add-one n)) (fit_put b x h n xs l q)

-- a slot found in scope is one of those in scope
pub slot_in : (text : List ℕ) (names : List Span) (w : List ℕ) (j : ℕ) → slot_of text names w ≡ Some j → j < length names
slot_in text [] w j h = let z : ◌≡◌ {A = ℕ} 0 1 = cc in absurd (omega arith)
slot_in text (m ∷ ms) w j h = on (bytes_eq (bytes_of text m) w) (slot_in text ms w j) h where
  on : (b : Bool) → (slot_of text ms w ≡ Some j → j < length ms) → cond b (Some (length ms)) (slot_of text ms w) ≡ Some j → j < length (m ∷ ms)
  on true f q = let e : length ms ≡ j = cc in omega arith
  on false f q = let l = f q in omega arith

pub slot_fits : (c k j : ℕ) → j < c → in_shape c k (slot_row j) ≡ true
slot_fits c k j h = and_from (ltb j c) true (lt-ltb j c h) refl

part_fits : (k x : ℕ) → x < k → k < 2048 → part_ok k x ≡ true
part_fits k x h l = and_from (ltb x k) (ltb x 2048) (lt-ltb x k h) (lt-ltb x 2048 (omega arith))

pub derived_fits : (kind : TermKind) (k key : ℕ) → key < k → k < 2048 → derived_ok k (composite kind none key) ≡ true
derived_fits kind k key h l = and_from (part_ok k key) true (part_fits k key h l) refl

pub made_fits : (kind : TermKind) (k : ℕ) (ps : Parts) (key : ℕ) → key < k → k < 2048 → 1 ≤ ps.count → ps.count ≤ 4 → numbers_fit k ps.count ps.at ≡ true → made_ok k (composite kind ps key) ≡ true
made_fits kind k ps key h l some few q =
    and_from (part_ok k key) (parts_ok k (composite kind ps key)) (part_fits k key h l)
    (and_from (one_to_four ps.count) (numbers_fit k ps.count ps.at && numbers_fit 2048 ps.count ps.at)
    (and_from (leb 1 ps.count) (leb ps.count 4) (le-leb 1 ps.count some) (le-leb ps.count 4 few))
    (and_from (numbers_fit k ps.count ps.at) (numbers_fit 2048 ps.count ps.at) q (fit_more k 2048 (omega arith) ps.count ps.at q)))

-- the kinds that a term's first word says: a derived key has a key only, and the others have parts
abbrev pub Kinds : Option Head → Type 0
Kinds (Some Name) = Unit {0}
Kinds (Some (KeyOf k)) = (c j : ℕ) (t : TermRow) → term_ok c j t k ≡ derived_ok j t
Kinds (Some (Under k)) = (c j : ℕ) (t : TermRow) → term_ok c j t k ≡ made_ok j t
Kinds None = Unit {0}

either_head : (b : Bool) (x y : Option Head) → Kinds x → Kinds y → Kinds (cond b x y)
either_head true x y p q = p
either_head false x y p q = q

pub kinds_fit : (w : List ℕ) → Kinds (head w)
kinds_fit w =
    let other = cond (reserved w) None (Some Name) in
    let sign = cond (bytes_eq w (codes "sign")) (Some (Under Sign)) other in
    let aenc = cond (bytes_eq w (codes "aenc")) (Some (Under Aenc)) sign in
    let senc = cond (bytes_eq w (codes "senc")) (Some (Under Senc)) aenc in
    let vk = cond (bytes_eq w (codes "vk")) (Some (KeyOf Vk)) senc in
    either_head (bytes_eq w (codes "ek")) (Some (KeyOf Ek)) vk (λ c j t. refl)
    (either_head (bytes_eq w (codes "vk")) (Some (KeyOf Vk)) senc (λ c j t. refl)
    (either_head (bytes_eq w (codes "senc")) (Some (Under Senc)) aenc (λ c j t. refl)
    (either_head (bytes_eq w (codes "aenc")) (Some (Under Aenc)) sign (λ c j t. refl)
    (either_head (bytes_eq w (codes "sign")) (Some (Under Sign)) other (λ c j t. refl)
    (either_head (reserved w) None (Some Name) tt tt)))))
