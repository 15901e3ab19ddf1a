-- The tests of fitting, of public types and of a use decide the relations.
use Rattle.std.proofs.Common.{ℕ, ◌&&◌, eqb, List, [], ◌∷◌, Decides, refl}
use Rattle.std.proofs.lemmas.Bool.Decides.{Decides-and, Decides-or, Decides-like, Decides-eqb}
use Rattle.std.proofs.lemmas.List.Sums.{AllPass-from_list_all, list_all-from_AllPass}
use Rattle.levels.specs.Meaning.{Meaning, public}
use Rattle.rows.specs.declared.types.TypeKind.{TypeKind}
use Rattle.rows.specs.declared.types.TypeKind.TheVariants.{Level}
use Rattle.rows.specs.declared.types.TypeRow.{TypeRow}
use Rattle.rows.specs.Types.{same_kind, same_type, type_at}
use Rattle.typing.specs.Fits.{fits_in, all_fit, all_public}
use Rattle.typing.specs.Usage.{declared_use, open_use}
use Rattle.typing.specs.Rules.{Fits, AllFit, Public, AllPublic, DeclaredUse}
use Rattle.typing.proofs.Same.{same_kind_decides, same_type_decides}

module _ (m : Meaning) (ts : List TypeRow) where
  pub fits_decides : (t u : TypeRow) → Decides (fits_in m t u) (Fits m ts t u)
  fits_decides t u =
      Decides-or (same_type t u) (same_kind u.kind Level && m.below t.level u.level) (same_type_decides t u)
      (Decides-and (same_kind u.kind Level) (m.below t.level u.level) (same_kind_decides u.kind Level) (λ e. e, λ e. e))

  all_fit_decides : (xs : List ℕ) (us : List TypeRow) → Decides (all_fit m ts xs us) (AllFit m ts xs us)
  all_fit_decides [] us = (λ _. tt, λ _. refl)
  all_fit_decides (x ∷ xs) [] = (λ _. tt, λ _. refl)
  all_fit_decides (x ∷ xs) (u ∷ us) = Decides-and (fits_in m u (type_at ts x)) (all_fit m ts xs us) (fits_decides u (type_at ts x)) (all_fit_decides xs us)

  pub public_decides : (us : List TypeRow) → Decides (all_public m us) (AllPublic m ts us)
  public_decides us = (AllPass-from_list_all (λ t. public m t.level) us, list_all-from_AllPass (λ t. public m t.level) us)

  pub declared_decides : (k : TypeRow) (asked : TypeKind) (n : ℕ) (parts : List TypeRow) → Decides (declared_use m ts k asked n parts) (DeclaredUse m ts asked n k parts)
  declared_decides k asked n parts =
      Decides-like (declared_use m ts k asked n parts) (λ h. (h.0, h.1.0, h.1.1)) (λ h. (h.0, (h.1, h.2)))
      (Decides-and (same_kind k.kind asked) (eqb k.count n && all_fit m ts k.payload parts) (same_kind_decides k.kind asked)
      (Decides-and (eqb k.count n) (all_fit m ts k.payload parts) (Decides-eqb k.count n) (all_fit_decides k.payload parts)))

  pub open_decides : (k : TypeRow) (parts : List TypeRow) → Decides (open_use m k parts) (Public m ts k × AllPublic m ts parts)
  open_decides k parts = Decides-and (public m k.level) (all_public m parts) (λ e. e, λ e. e) (public_decides parts)
