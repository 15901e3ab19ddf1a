-- What holds of the state before a reading, and of an answer and the state after it.
use Rattle.std.proofs.Common.{◌≡◌, ℕ, zero, suc, Bool, true, false, cond, Ok, Err, Result, refl, subst}
use Rattle.words.specs.declared.token.Mark.{Mark}
use Rattle.words.proofs.Bounds.{ok_same, err_ok}
use Rattle.scanning.specs.declared.fault.ListingFault.{ListingFault}
use Rattle.reader.specs.Cursor.{Cursor, Reads, ◌>>=◌, done, fail, doing}
use Rattle.reader.specs.Tokens.{comma}
use Rattle.reader.specs.Lists.{series}

pub record From (P : Cursor → Type 0) {A : Type 0} (m : Reads A) (Q : A → Cursor → Type 0) : Type 0 where
  pub run : (s : Cursor) → P s → (a : A) (t : Cursor) → m s ≡ Ok (a, t) → Q a t

-- an answer that is known
pub given : {A : Type 0} (Q : A → Cursor → Type 0) (a b : A) (s t : Cursor) → ◌≡◌ {A = Result (A × Cursor) ListingFault} (Ok (a, s)) (Ok (b, t)) → Q a s → Q b t
given {A} Q a b s t h q = subst (λ (p : A × Cursor). Q p.0 p.1) (ok_same (a, s) (b, t) h) q

module _ {A : Type 0} {P : Cursor → Type 0} {Q : A → Cursor → Type 0} where
  pub from_done : (a : A) → ((s : Cursor) → P s → Q a s) → From P (done a) Q
  from_done a f = record { run = λ s p b t h. given Q a b s t h (f s p) }

  pub from_fail : (e : ListingFault) → From P (fail {A = A} e) Q
  from_fail e = record { run = λ s p b t h. absurd (err_ok e (b, t) h) }

  pub from_if : (b : Bool) {x y : Reads A} → From P x Q → From P y Q → From P (cond b x y) Q
  from_if true p q = p
  from_if false p q = q

pub from_doing : {P : Cursor → Type 0} {Q : Unit {0} → Cursor → Type 0} (f : Cursor → Cursor) → ((s : Cursor) → P s → Q tt (f s)) → From P (doing f) Q
from_doing {Q = Q} f p = record { run = λ s q b t h. given Q tt b (f s) t h (p s q) }

onward : {A B : Type 0} {Q : A → Cursor → Type 0} {R : B → Cursor → Type 0} {k : A → Reads B} → ((a : A) → From (Q a) (k a) R) → (r : Result (A × Cursor) ListingFault) → ((a : A) (t : Cursor) → r ≡ Ok (a, t) → Q a t) → (b : B) (t : Cursor) → ◌≡◌ {A = Result (B × Cursor) ListingFault} (elim r [ Err e ↦ Err e | Ok x ↦ k x.0 x.1 ]) (Ok (b, t)) → R b t
onward q (Ok x) p b t h = (q x.0).run x.1 (p x.0 x.1 refl) b t h
onward q (Err f) p b t h = absurd (err_ok f (b, t) h)

pub from_then : {A B : Type 0} {P : Cursor → Type 0} {Q : A → Cursor → Type 0} {R : B → Cursor → Type 0} {m : Reads A} {k : A → Reads B} → From P m Q → ((a : A) → From (Q a) (k a) R) → From P (◌>>=◌ m k) R
from_then {m = m} p q = record { run = λ s x b t h. onward q (m s) (λ a u e. p.run s x a u e) b t h }

-- what the state says, which stays
pub from_asked : {A : Type 0} {P : Cursor → Type 0} (f : Cursor → A) → From P (λ s. Ok (f s, s)) (λ a. P)
from_asked {P = P} f = record { run = λ s p b t h. given (λ a. P) (f s) b s t h p }

-- less is asked of the answer
pub from_less : {A : Type 0} {P : Cursor → Type 0} {Q R : A → Cursor → Type 0} {m : Reads A} → From P m Q → ((a : A) (s : Cursor) → Q a s → R a s) → From P m R
from_less p f = record { run = λ s x a t h. f a t (p.run s x a t h) }

-- a list of items: what holds of the list so far, where so many more may come
module _ {A L : Type 0} (add : L → A → L) (item : L → Reads A) (over : L → Reads L) (stop : Mark) (P : ℕ → L → Cursor → Type 0) (Q : L → Cursor → Type 0)
    (each : (room : ℕ) (xs : L) → From (P (suc room) xs) (item xs) (λ x. P room (add xs x)))
    (between : (room : ℕ) (xs : L) → From (P room xs) (comma stop) (λ more. P room xs))
    (last : (room : ℕ) (xs : L) (x : A) (s : Cursor) → P room (add xs x) s → Q (add xs x) s)
    (past : (xs : L) → From (P zero xs) (over xs) Q)
  where
    pub from_series : (room : ℕ) (xs : L) → From (P room xs) (series add item over stop room xs) Q
    unfolding series
    from_series zero xs = past xs
    from_series (suc room) xs =
        from_then (each room xs) (λ x. from_then (between room (add xs x)) (λ more. from_if more (from_series room (add xs x)) (from_done (add xs x) (last room xs x))))
