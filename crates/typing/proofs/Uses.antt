-- What comes of a use, taken apart by the way of the use.
use Rattle.std.proofs.Common.{◌≡◌, ℕ, Bool, true, false, List, [], ◌∷◌, Ok, Err, Result, refl, sym, ◌∙◌}
use Rattle.std.proofs.lemmas.Bool.{false≢true, false_from_ne_true}
use Rattle.levels.specs.Meaning.{Meaning}
use Rattle.rows.specs.declared.types.TypeKind.{TypeKind}
use Rattle.rows.specs.declared.types.TypeRow.{TypeRow}
use Rattle.typing.specs.declared.misuse.Misuse.{Misuse}
use Rattle.typing.specs.Usage.{first_use, declared_use, open_use, misuse, used, by_use}
use Rattle.typing.specs.Rules.{AllFit, DeclaredUse, OpenUse}
use Rattle.typing.proofs.Relations.{declared_decides, open_decides}

module _ {Y : Type 0} (P : Result Y Misuse → Type 0) (d o : Bool) (e : Misuse) (a b : Y) where
  pub use_cases : {X : Type 0} → P (by_use (first_use d o e) a b) → (d ≡ true → P (Ok a) → X) → (d ≡ false → o ≡ true → P (Ok b) → X) → (P (Err e) → ⊥) → X
  use_cases {X = X} h p q r = by d o refl refl h
    where
      by : (x y : Bool) → d ≡ x → o ≡ y → P (by_use (first_use x y e) a b) → X
      by true y u v h = p u h
      by false true u v h = q u v h
      by false false u v h = absurd (r h)

  pub use_declared : d ≡ true → P (Ok a) → P (by_use (first_use d o e) a b)
  use_declared h x = rw h x

  pub use_open : d ≡ false → o ≡ true → P (Ok b) → P (by_use (first_use d o e) a b)
  use_open h k x = rw (h, k) x

module _ (m : Meaning) (ts : List TypeRow) where
  -- with no parts, any payload fits
  pub no_parts_fit : (xs : List ℕ) → AllFit m ts xs []
  no_parts_fit [] = tt
  no_parts_fit (x ∷ xs) = tt

  -- a key that is only asked for its kind
  pub kind_declared : (k : TypeRow) (asked : TypeKind) → k.kind ≡ asked → DeclaredUse m ts asked k.count k []
  kind_declared k asked e = (e, refl, no_parts_fit k.payload)

  module _ (k : TypeRow) (asked : TypeKind) (n : ℕ) (parts : List TypeRow) where
    pub undeclared : (DeclaredUse m ts asked n k parts → ⊥) → declared_use m ts k asked n parts ≡ false
    undeclared h = false_from_ne_true (declared_use m ts k asked n parts) (λ e. h ((declared_decides m ts k asked n parts).0 e))

    pub not_declared : declared_use m ts k asked n parts ≡ false → DeclaredUse m ts asked n k parts → ⊥
    not_declared h z = false≢true (sym h ∙ (declared_decides m ts k asked n parts).1 z)

    -- the two ways to use a key or channel
    module _ {Y : Type 0} (P : Result Y Misuse → Type 0) (a b : Y) where
      pub key_cases : {X : Type 0} → P (by_use (used m ts k asked n parts) a b)
          → (DeclaredUse m ts asked n k parts → P (Ok a) → X) → (OpenUse m ts asked n k parts → P (Ok b) → X) → ((e : Misuse) → P (Err e) → ⊥) → X
      key_cases h f g r =
          use_cases P (declared_use m ts k asked n parts) (open_use m k parts) (misuse m k asked n) a b h (λ d x. f ((declared_decides m ts k asked n parts).0 d) x)
          (λ d o x. let w = (open_decides m ts k parts).0 o in g (not_declared d, w.0, w.1) x) (r (misuse m k asked n))

      pub key_declared : DeclaredUse m ts asked n k parts → P (Ok a) → P (by_use (used m ts k asked n parts) a b)
      key_declared d x = use_declared P (declared_use m ts k asked n parts) (open_use m k parts) (misuse m k asked n) a b ((declared_decides m ts k asked n parts).1 d) x

      pub key_open : OpenUse m ts asked n k parts → P (Ok b) → P (by_use (used m ts k asked n parts) a b)
      key_open w x =
          use_open P (declared_use m ts k asked n parts) (open_use m k parts) (misuse m k asked n) a b (undeclared w.0) ((open_decides m ts k parts).1 (w.1, w.2)) x
