-- A type row as the code reads it in a table.
use Rattle.std.proofs.Common.{◌≡◌, ℕ, ◌<◌, List, [], length, get_or}
use Rattle.std.proofs.lemmas.List.{get_or_default}
use Rattle.rows.specs.declared.types.TypeKind.TheVariants.{Level}
use Rattle.rows.specs.declared.types.TypeRow.{TypeRow}
use Rattle.rows.specs.Types.{plain, type_at}

abbrev pub read : List TypeRow → ℕ → TypeRow
read ts i = get_or ts i (record { kind = Level; level = 0; count = 0; payload = [] })

pub read_is : (ts : List TypeRow) (i : ℕ) → i < length ts → read ts i ≡ type_at ts i
read_is ts i h = get_or_default ts i _ (plain 0) h
