-- The shape of type rows.
use Rattle.std.specs.Prelude.{ℕ, zero, suc, Bool, false, cond, not, ◌&&◌, ◌||◌, List, length, ◌==◌}
use Rattle.levels.specs.Meaning.{Meaning, public, tainted, guarded}
use Rattle.rows.specs.declared.types.TypeKind.{TypeKind}
use Rattle.rows.specs.declared.types.TypeKind.TheVariants.{Level, Chan, Sym, Dec, Enc, Sig, Ver}
use Rattle.rows.specs.declared.types.TypeRow.{TypeRow}
use Rattle.rows.specs.Types.{same_type, plain, type_at}
use Rattle.shape.specs.declared.fault.ShapeFault.{ShapeFault}
use Rattle.shape.specs.declared.fault.ShapeFault.TheVariants.{Types}
use Rattle.shape.specs.Numbers.{numbers_fit, one_to_four}
use Rattle.shape.specs.First.{Passes, first_bad}

-- chan, sym, dec and sig have a guarded level; enc and ver a public level that is not tainted
abbrev pub level_ok : Meaning → TypeKind → ℕ → Bool
level_ok m Level a = m.level a
level_ok m Chan a = guarded m a
level_ok m Sym a = guarded m a
level_ok m Dec a = guarded m a
level_ok m Enc a = public m a && not (tainted m a)
level_ok m Sig a = guarded m a
level_ok m Ver a = public m a && not (tainted m a)

-- a plain level has count 0, and the other kinds 1 to 4
abbrev pub type_count_ok : TypeKind → ℕ → Bool
type_count_ok Level n = n == 0
type_count_ok Chan n = one_to_four n
type_count_ok Sym n = one_to_four n
type_count_ok Dec n = one_to_four n
type_count_ok Enc n = one_to_four n
type_count_ok Sig n = one_to_four n
type_count_ok Ver n = one_to_four n

-- the type t equals one of the first n rows
abbrev pub repeats : List TypeRow → TypeRow → ℕ → Bool
repeats ts t zero = false
repeats ts t (suc n) = same_type (type_at ts n) t || repeats ts t n

-- any row but the first: its payload types are lower rows, and no lower row equals it
abbrev pub later_ok : Meaning → List TypeRow → ℕ → TypeRow → Bool
later_ok m ts i t = level_ok m t.kind t.level && (type_count_ok t.kind t.count && (numbers_fit i t.count t.payload && not (repeats ts t i)))

-- row 0 is the plain open level
abbrev pub type_ok : Meaning → List TypeRow → ℕ → Bool
type_ok m ts i = cond (i == 0) (same_type (type_at ts i) (plain m.opened)) (later_ok m ts i (type_at ts i))

abbrev pub types_shape : Meaning → List TypeRow → Passes ShapeFault
types_shape m ts = first_bad (type_ok m ts) Types 0 (length ts)
