-- When one type fits another.
use Rattle.std.specs.Prelude.{◌≡◌, ℕ, Bool, true, ◌&&◌, ◌||◌, List, slice_index}
use Rattle.std.specs.List.{list_all, zip}
use Rattle.levels.specs.Meaning.{Meaning, public}
use Rattle.rows.specs.declared.types.TypeKind.TheVariants.{Level}
use Rattle.rows.specs.declared.types.TypeRow.{TypeRow}
use Rattle.rows.specs.Types.{same_kind, same_type, type_at}

-- t fits u when they are equal, or u is a plain level and t's level is below it
abbrev pub fits_in : Meaning → TypeRow → TypeRow → Bool
fits_in m t u = same_type t u || (same_kind u.kind Level && m.below t.level u.level)

abbrev pub Transitive : Meaning → Type 0
Transitive m = (t u v : TypeRow) → fits_in m t u ≡ true → fits_in m u v ≡ true → fits_in m t v ≡ true

-- each part fits the type in the payload row at its place
abbrev pub all_fit : Meaning → List TypeRow → List ℕ → List TypeRow → Bool
all_fit m ts xs us = list_all (λ w. fits_in m w.1 (type_at ts w.0)) (zip xs us)

-- the level of each part is public
abbrev pub all_public : Meaning → List TypeRow → Bool
all_public m us = list_all (λ u. public m u.level) us

-- the number at a place, and 0 past the end
abbrev pub number_at : List ℕ → ℕ → ℕ
number_at xs i = slice_index xs i
