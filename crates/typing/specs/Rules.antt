-- The typing rules as relations, one constructor for each rule. A rule for an open use asks that the declared one does not apply.
use Rattle.std.specs.Prelude.{◌≡◌, ℕ, ◌+◌, true, ◌⊎◌, List, [], ◌∷◌, ◌++◌, take, ◌≢◌}
use Rattle.std.specs.List.{All}
use Rattle.levels.specs.Meaning.{Meaning, public}
use Rattle.rows.specs.declared.types.TypeKind.{TypeKind}
use Rattle.rows.specs.declared.types.TypeKind.TheVariants.{Level, Chan, Sym, Dec, Enc, Sig, Ver}
use Rattle.rows.specs.declared.types.TypeRow.{TypeRow}
use Rattle.rows.specs.declared.process.ProcessKind.TheVariants.{Stop, Out, In, New, Both, Again, If, Sopen, Aopen, Verify}
use Rattle.rows.specs.declared.process.ProcessRow.{ProcessRow}
use Rattle.rows.specs.declared.term.TermKind.{TermKind}
use Rattle.rows.specs.declared.term.TermKind.TheVariants.{Slot, Ek, Vk, Senc, Aenc, Sign}
use Rattle.rows.specs.declared.term.TermRow.{TermRow}
use Rattle.rows.specs.Types.{plain, type_at}
use Rattle.rows.specs.Processes.{row, end_of, run_of}
use Rattle.rows.specs.Tables.{Tables}
use Rattle.typing.specs.Fits.{number_at}
use Rattle.typing.specs.Terms.{low, key_type, payload_types, parts_of}
use Rattle.typing.specs.Judging.{zeros, operand_type, sent_types}

module _ (m : Meaning) (ts : List TypeRow) where
  -- t fits u: they are equal, or u is a plain level and t's level is below it
  abbrev pub Fits : TypeRow → TypeRow → Type 0
  Fits t u = (t ≡ u) ⊎ ((u.kind ≡ Level) × (m.below t.level u.level ≡ true))

  -- each part fits the type in the payload row at its place
  abbrev pub AllFit : List ℕ → List TypeRow → Type 0
  AllFit [] us = Unit {0}
  AllFit (x ∷ xs) [] = Unit {0}
  AllFit (x ∷ xs) (u ∷ us) = Fits u (type_at ts x) × AllFit xs us

  abbrev pub Public : TypeRow → Type 0
  Public t = public m t.level ≡ true

  abbrev pub AllPublic : List TypeRow → Type 0
  AllPublic us = All Public us

  -- k is used as declared: it has the kind asked and the count n, and the parts fit its payload
  abbrev pub DeclaredUse : TypeKind → ℕ → TypeRow → List TypeRow → Type 0
  DeclaredUse asked n k parts = (k.kind ≡ asked) × (k.count ≡ n) × AllFit k.payload parts

  -- k is used as open: not as declared, and it and the parts are public
  abbrev pub OpenUse : TypeKind → ℕ → TypeRow → List TypeRow → Type 0
  OpenUse asked n k parts = (DeclaredUse asked n k parts → ⊥) × Public k × AllPublic parts

  -- a term of a form, with a key of type k and n parts of these types, has the type t
  pub data TermRule (k : TypeRow) (parts : List TypeRow) (n : ℕ) (t : TypeRow) : TermKind → Type 0 where
    ek : k.kind ≡ Dec → t ≡ key_type m Enc k → TermRule k parts n t Ek
    ek_open : (k.kind ≢ Dec) → Public k → t ≡ plain m.opened → TermRule k parts n t Ek
    vk : k.kind ≡ Sig → t ≡ key_type m Ver k → TermRule k parts n t Vk
    vk_open : (k.kind ≢ Sig) → Public k → t ≡ plain m.opened → TermRule k parts n t Vk
    senc : DeclaredUse Sym n k parts → t ≡ plain (low m k) → TermRule k parts n t Senc
    senc_open : OpenUse Sym n k parts → t ≡ plain m.opened → TermRule k parts n t Senc
    aenc : DeclaredUse Enc n k parts → t ≡ plain (low m k) → TermRule k parts n t Aenc
    aenc_open : OpenUse Enc n k parts → t ≡ plain m.opened → TermRule k parts n t Aenc
    -- a signature is lowered only if all that its key signs is public
    sign_public : DeclaredUse Sig n k parts → AllPublic (payload_types ts k) → t ≡ plain (low m k) → TermRule k parts n t Sign
    sign_secret : DeclaredUse Sig n k parts → (AllPublic (payload_types ts k) → ⊥) → t ≡ plain k.level → TermRule k parts n t Sign
    sign_open : OpenUse Sig n k parts → t ≡ plain m.opened → TermRule k parts n t Sign

  -- the term row u has the type t, where the slots have the type rows Γ and the earlier terms of the run these types
  pub data TermTyped (Γ : List ℕ) (earlier : List TypeRow) (u : TermRow) (t : TypeRow) : Type 0 where
    slot : u.kind ≡ Slot → t ≡ type_at ts (number_at Γ u.slot) → TermTyped Γ earlier u t
    composed : TermRule (type_at earlier u.key) (parts_of earlier u) u.count t u.kind → TermTyped Γ earlier u t

  -- the terms of a run, in order, have the types us
  abbrev pub RunTyped : List ℕ → List TypeRow → List TermRow → List TypeRow → Type 0
  RunTyped Γ earlier [] us = earlier ≡ us
  RunTyped Γ earlier (u ∷ run) us = (t : TypeRow) × TermTyped Γ earlier u t × RunTyped Γ (earlier ++ (t ∷ [])) run us

module _ (m : Meaning) (T : Tables) where
  abbrev pub at : ℕ → ProcessRow
  at i = row T.processes i

  -- the terms of the row i have the types us
  abbrev pub TermsTyped : List ℕ → ℕ → List TypeRow → Type 0
  TermsTyped Γ i us = RunTyped m T.types Γ [] (run_of T.terms (at i)) us

  -- the slots after the row i, where the new ones have these type rows
  abbrev pub with_new : List ℕ → ℕ → List ℕ → List ℕ
  with_new Γ i new = Γ ++ take (at i).count new

  -- the row i and all that follows it are well typed, where the slots in scope have the type rows Γ
  pub data Typed : List ℕ → ℕ → Type 0 where
    stop : {Γ : List ℕ} {i : ℕ} (us : List TypeRow) → (at i).kind ≡ Stop → TermsTyped Γ i us → Typed Γ i
    out : {Γ : List ℕ} {i : ℕ} (us : List TypeRow) → (at i).kind ≡ Out → TermsTyped Γ i us
        → DeclaredUse m T.types Chan (at i).count (operand_type us (at i) 0) (sent_types us (at i)) → Typed Γ (i + 1) → Typed Γ i
    out_open : {Γ : List ℕ} {i : ℕ} (us : List TypeRow) → (at i).kind ≡ Out → TermsTyped Γ i us
        → OpenUse m T.types Chan (at i).count (operand_type us (at i) 0) (sent_types us (at i)) → Typed Γ (i + 1) → Typed Γ i
    in_declared : {Γ : List ℕ} {i : ℕ} (us : List TypeRow) → (at i).kind ≡ In → TermsTyped Γ i us
        → DeclaredUse m T.types Chan (at i).count (operand_type us (at i) 0) [] → Typed (with_new Γ i (operand_type us (at i) 0).payload) (i + 1) → Typed Γ i
    in_open : {Γ : List ℕ} {i : ℕ} (us : List TypeRow) → (at i).kind ≡ In → TermsTyped Γ i us
        → OpenUse m T.types Chan (at i).count (operand_type us (at i) 0) [] → Typed (with_new Γ i zeros) (i + 1) → Typed Γ i
    new : {Γ : List ℕ} {i : ℕ} (us : List TypeRow) → (at i).kind ≡ New → TermsTyped Γ i us → Typed (Γ ++ ((at i).ty ∷ [])) (i + 1) → Typed Γ i
    both : {Γ : List ℕ} {i : ℕ} (us : List TypeRow) → (at i).kind ≡ Both → TermsTyped Γ i us → Typed Γ (i + 1) → Typed Γ (end_of T.processes (i + 1)) → Typed Γ i
    again : {Γ : List ℕ} {i : ℕ} (us : List TypeRow) → (at i).kind ≡ Again → TermsTyped Γ i us → Typed Γ (i + 1) → Typed Γ i
    if_equal : {Γ : List ℕ} {i : ℕ} (us : List TypeRow) → (at i).kind ≡ If → TermsTyped Γ i us → Typed Γ (i + 1) → Typed Γ (end_of T.processes (i + 1)) → Typed Γ i
    sopen : {Γ : List ℕ} {i : ℕ} (us : List TypeRow) → (at i).kind ≡ Sopen → TermsTyped Γ i us
        → DeclaredUse m T.types Sym (at i).count (operand_type us (at i) 1) [] → Typed (with_new Γ i (operand_type us (at i) 1).payload) (i + 1) → Typed Γ i
    sopen_open : {Γ : List ℕ} {i : ℕ} (us : List TypeRow) → (at i).kind ≡ Sopen → TermsTyped Γ i us
        → OpenUse m T.types Sym (at i).count (operand_type us (at i) 1) [] → Typed (with_new Γ i zeros) (i + 1) → Typed Γ i
    -- with a declared key what follows is typed twice: who encrypted is not known
    aopen : {Γ : List ℕ} {i : ℕ} (us : List TypeRow) → (at i).kind ≡ Aopen → TermsTyped Γ i us
        → DeclaredUse m T.types Dec (at i).count (operand_type us (at i) 1) []
        → Typed (with_new Γ i (operand_type us (at i) 1).payload) (i + 1) → Typed (with_new Γ i zeros) (i + 1) → Typed Γ i
    aopen_open : {Γ : List ℕ} {i : ℕ} (us : List TypeRow) → (at i).kind ≡ Aopen → TermsTyped Γ i us
        → OpenUse m T.types Dec (at i).count (operand_type us (at i) 1) [] → Typed (with_new Γ i zeros) (i + 1) → Typed Γ i
    verify : {Γ : List ℕ} {i : ℕ} (us : List TypeRow) → (at i).kind ≡ Verify → TermsTyped Γ i us
        → DeclaredUse m T.types Ver (at i).count (operand_type us (at i) 1) [] → Typed (with_new Γ i (operand_type us (at i) 1).payload) (i + 1) → Typed Γ i
    -- an open verify needs a public message
    verify_open : {Γ : List ℕ} {i : ℕ} (us : List TypeRow) → (at i).kind ≡ Verify → TermsTyped Γ i us
        → OpenUse m T.types Ver (at i).count (operand_type us (at i) 1) [] → Public m T.types (operand_type us (at i) 0) → Typed (with_new Γ i zeros) (i + 1) → Typed Γ i
