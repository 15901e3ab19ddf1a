-- The types of terms, each from those of the earlier terms of its run.
use Rattle.std.specs.Prelude.{ℕ, cond, List, [], ◌∷◌, ◌++◌, map, length, take, drop, Ok, Err, Result}
use Rattle.levels.specs.Meaning.{Meaning}
use Rattle.rows.specs.declared.types.TypeKind.{TypeKind}
use Rattle.rows.specs.declared.types.TypeKind.TheVariants.{Sym, Dec, Enc, Sig, Ver}
use Rattle.rows.specs.declared.types.TypeRow.{TypeRow}
use Rattle.rows.specs.declared.term.TermKind.{TermKind}
use Rattle.rows.specs.declared.term.TermKind.TheVariants.{Slot, Ek, Vk, Senc, Aenc, Sign}
use Rattle.rows.specs.declared.term.TermRow.{TermRow}
use Rattle.rows.specs.Types.{plain, type_at}
use Rattle.typing.specs.declared.misuse.Misuse.{Misuse}
use Rattle.typing.specs.declared.usage.Usage.{Usage}
use Rattle.typing.specs.Fits.{all_public, number_at}
use Rattle.typing.specs.Usage.{used, by_use}

-- the meet of a key's level with open
abbrev pub low : Meaning → TypeRow → ℕ
low m k = m.meet k.level m.opened

-- the key of a kind that is derived from k: same payload, at the lowered level
abbrev pub key_type : Meaning → TypeKind → TypeRow → TypeRow
key_type m kind k = record { kind = kind; level = low m k; count = k.count; payload = k.payload }

-- the payload types of a key or channel
abbrev pub payload_types : List TypeRow → TypeRow → List TypeRow
payload_types ts k = take k.count (map (type_at ts) k.payload)

-- a signature has the lowered level when all payload types of the key are public, and otherwise the key's
abbrev pub signature_level : Meaning → List TypeRow → TypeRow → ℕ
signature_level m ts k = cond (all_public m (payload_types ts k)) (low m k) k.level

-- what a use makes: a declared one the type t, an open one the plain open level
abbrev pub made : Meaning → Result Usage Misuse → TypeRow → Result TypeRow Misuse
made m u t = by_use u t (plain m.opened)

-- ek and vk look at neither count nor payload
abbrev pub derived : Meaning → List TypeRow → TypeRow → TypeKind → TypeKind → Result TypeRow Misuse
derived m ts k asked kind = made m (used m ts k asked k.count []) (key_type m kind k)

abbrev pub enciphered : Meaning → List TypeRow → TypeRow → TypeKind → List TypeRow → ℕ → Result TypeRow Misuse
enciphered m ts k asked parts n = made m (used m ts k asked n parts) (plain (low m k))

abbrev pub signed : Meaning → List TypeRow → TypeRow → List TypeRow → ℕ → Result TypeRow Misuse
signed m ts k parts n = made m (used m ts k Sig n parts) (plain (signature_level m ts k))

-- the type of a term other than a slot, from the types of its key and of its parts
abbrev pub composite : Meaning → List TypeRow → TypeRow → TypeRow → List TypeRow → ℕ → TermKind → Result TypeRow Misuse
composite m ts slot k parts n Slot = Ok slot
composite m ts slot k parts n Ek = derived m ts k Dec Enc
composite m ts slot k parts n Vk = derived m ts k Sig Ver
composite m ts slot k parts n Senc = enciphered m ts k Sym parts n
composite m ts slot k parts n Aenc = enciphered m ts k Enc parts n
composite m ts slot k parts n Sign = signed m ts k parts n

-- the types of a term's parts
abbrev pub parts_of : List TypeRow → TermRow → List TypeRow
parts_of earlier t = take t.count (map (type_at earlier) t.parts)

-- a slot has its bound type; Γ has the type rows of the slots in scope
abbrev pub type_of_term : Meaning → List TypeRow → List ℕ → List TypeRow → TermRow → Result TypeRow Misuse
type_of_term m ts Γ earlier t =
    composite m ts (type_at ts (number_at Γ t.slot)) (type_at earlier t.key) (parts_of earlier t) t.count t.kind

abbrev pub and_then : {A B E : Type 0} → Result A E → (A → Result B E) → Result B E
and_then (Ok a) f = f a
and_then (Err e) f = Err e

-- the types of a run's terms, after those of the earlier ones
abbrev pub types_of_run : Meaning → List TypeRow → List ℕ → List TermRow → List TypeRow → Result (List TypeRow) Misuse
types_of_run m ts Γ [] earlier = Ok earlier
types_of_run m ts Γ (t ∷ run) earlier = and_then (type_of_term m ts Γ earlier t) (λ u. types_of_run m ts Γ run (earlier ++ (u ∷ [])))

-- the types of the terms before the first that has none
abbrev pub up_to : {E : Type 0} → Result TypeRow E → List TypeRow → (TypeRow → List TypeRow) → List TypeRow
up_to (Ok u) earlier f = f u
up_to (Err e) earlier f = earlier

abbrev pub types_before : Meaning → List TypeRow → List ℕ → List TermRow → List TypeRow → List TypeRow
types_before m ts Γ [] earlier = earlier
types_before m ts Γ (t ∷ run) earlier = up_to (type_of_term m ts Γ earlier t) earlier (λ u. types_before m ts Γ run (earlier ++ (u ∷ [])))

-- a list written over the front of another
abbrev pub over : {X : Type 0} → List X → List X → List X
over xs ys = xs ++ drop (length xs) ys

-- an answer together with what a buffer holds
abbrev pub told : {A E : Type 0} → Result (Unit {0}) E → A → Result A E
told (Ok u) a = Ok a
told (Err e) a = Err e
