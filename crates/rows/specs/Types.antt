-- Types, as rows.
use Rattle.std.specs.Prelude.{ℕ, zero, suc, Bool, true, false, cond, ◌&&◌, List, [], ◌∷◌, Some, None, Option, ◌==◌, slice_index_or}
use Rattle.rows.specs.declared.types.TypeKind.{TypeKind}
use Rattle.rows.specs.declared.types.TypeKind.TheVariants.{Level, Chan, Sym, Dec, Enc, Sig, Ver}
use Rattle.rows.specs.declared.types.TypeRow.{TypeRow}

abbrev pub type_kind_number : TypeKind → ℕ
type_kind_number Level = 0
type_kind_number Chan = 1
type_kind_number Sym = 2
type_kind_number Dec = 3
type_kind_number Enc = 4
type_kind_number Sig = 5
type_kind_number Ver = 6

abbrev pub same_kind : TypeKind → TypeKind → Bool
same_kind a b = type_kind_number a == type_kind_number b

abbrev pub same_list : List ℕ → List ℕ → Bool
same_list [] [] = true
same_list [] (y ∷ ys) = false
same_list (x ∷ xs) [] = false
same_list (x ∷ xs) (y ∷ ys) = x == y && same_list xs ys

-- equal types: kind, level, count and payload
abbrev pub same_type : TypeRow → TypeRow → Bool
same_type t u = same_kind t.kind u.kind && (t.level == u.level && (t.count == u.count && same_list t.payload u.payload))

-- the plain type of a level
abbrev pub plain : ℕ → TypeRow
plain a = record { kind = Level; level = a; count = 0; payload = 0 ∷ 0 ∷ 0 ∷ 0 ∷ [] }

-- the type in row x of a table; past its end, the plain type of level 0
abbrev pub type_at : List TypeRow → ℕ → TypeRow
type_at ts x = slice_index_or ts x (plain 0)

-- the row of a type among the first n of a table, the last one where several are equal
abbrev pub equal_row : List TypeRow → TypeRow → ℕ → Option ℕ
equal_row ts t zero = None
equal_row ts t (suc i) = cond (same_type (type_at ts i) t) (Some i) (equal_row ts t i)
