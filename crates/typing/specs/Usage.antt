-- How a key or channel is used: as declared, as open, or in neither way.
use Rattle.std.specs.Prelude.{ℕ, Bool, cond, not, ◌&&◌, ◌||◌, List, [], ◌∷◌, ◌==◌, Ok, Err, Result}
use Rattle.levels.specs.Meaning.{Meaning, public}
use Rattle.rows.specs.declared.types.TypeKind.{TypeKind}
use Rattle.rows.specs.declared.types.TypeKind.TheVariants.{Ver}
use Rattle.rows.specs.declared.types.TypeRow.{TypeRow}
use Rattle.rows.specs.Types.{same_kind}
use Rattle.typing.specs.declared.misuse.Misuse.{Misuse}
use Rattle.typing.specs.declared.misuse.Misuse.TheVariants.{Kind, Part, Count, Message}
use Rattle.typing.specs.declared.usage.Usage.{Usage}
use Rattle.typing.specs.declared.usage.Usage.TheVariants.{Declared, Open}
use Rattle.typing.specs.Fits.{all_fit, all_public}

abbrev pub misuse_number : Misuse → ℕ
misuse_number Kind = 30
misuse_number Part = 31
misuse_number Count = 32
misuse_number Message = 33

-- the type has the kind asked, the count agrees, and each part fits its payload type
abbrev pub declared_use : Meaning → List TypeRow → TypeRow → TypeKind → ℕ → List TypeRow → Bool
declared_use m ts k asked n parts = same_kind k.kind asked && (k.count == n && all_fit m ts k.payload parts)

-- its level and every part's level are public
abbrev pub open_use : Meaning → TypeRow → List TypeRow → Bool
open_use m k parts = public m k.level && all_public m parts

-- failing both: another count of the kind asked; else something that does not fit; else another kind
abbrev pub misuse : Meaning → TypeRow → TypeKind → ℕ → Misuse
misuse m k asked n =
    cond (same_kind k.kind asked && not (k.count == n)) Count
    (cond (same_kind k.kind asked || public m k.level) Part Kind)

-- declared use comes first
abbrev pub first_use : Bool → Bool → Misuse → Result Usage Misuse
first_use declared opened e = cond declared (Ok Declared) (cond opened (Ok Open) (Err e))

abbrev pub used : Meaning → List TypeRow → TypeRow → TypeKind → ℕ → List TypeRow → Result Usage Misuse
used m ts k asked n parts = first_use (declared_use m ts k asked n parts) (open_use m k parts) (misuse m k asked n)

-- an open use of a verification key asks for a public message too
abbrev pub verified : Meaning → List TypeRow → TypeRow → ℕ → TypeRow → Result Usage Misuse
verified m ts k n message =
    first_use (declared_use m ts k Ver n []) (open_use m k (message ∷ [])) (cond (public m k.level) Message (misuse m k Ver n))

-- a declared use comes to the one, and an open use to the other
abbrev pub chosen : {X : Type 0} → Usage → X → X → X
chosen Declared d o = d
chosen Open d o = o

abbrev pub by_use : {X : Type 0} → Result Usage Misuse → X → X → Result X Misuse
by_use (Ok u) d o = Ok (chosen u d o)
by_use (Err e) d o = Err e
