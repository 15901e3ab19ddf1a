-- The test of two types decides their equality.
use Rattle.std.proofs.Common.{◌≡◌, ℕ, true, List, [], ◌∷◌, Decides, refl, rules, subst, arith}
use Rattle.std.proofs.lemmas.Bool.Decides.{nat_tests}
use Rattle.rows.specs.declared.types.TypeKind.{TypeKind}
use Rattle.rows.specs.declared.types.TypeRow.{TypeRow}
use Rattle.rows.specs.Types.{same_kind, same_list, same_type}

pub same_kind_decides : (a b : TypeKind) → Decides (same_kind a b) (a ≡ b)
same_kind_decides a b = (λ h. search rules, λ e. search rules)

pub list_eq : (xs ys : List ℕ) → same_list xs ys ≡ true → xs ≡ ys
list_eq [] [] h = refl
list_eq [] (y ∷ ys) h = cc
list_eq (x ∷ xs) [] h = cc
list_eq (x ∷ xs) (y ∷ ys) h = grind (arith, nat_tests, list_eq xs ys)

list_same : (xs : List ℕ) → same_list xs xs ≡ true
list_same [] = refl
list_same (x ∷ xs) = grind (arith, nat_tests, list_same xs)

pub type_eq : (t u : TypeRow) → same_type t u ≡ true → t ≡ u
type_eq t u h = grind (arith, nat_tests, (same_kind_decides t.kind u.kind).0, list_eq t.payload u.payload)

type_same : (t : TypeRow) → same_type t t ≡ true
type_same t = grind (arith, nat_tests, (same_kind_decides t.kind t.kind).1 refl, list_same t.payload)

pub same_type_decides : (t u : TypeRow) → Decides (same_type t u) (t ≡ u)
same_type_decides t u = (type_eq t u, λ e. subst (λ (x : TypeRow). same_type t x ≡ true) e (type_same t))
