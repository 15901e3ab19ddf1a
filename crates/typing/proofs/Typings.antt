-- A term and a run have the types that are computed, by the rules, and no others.
use Rattle.std.proofs.Common.{◌≡◌, ℕ, Bool, true, false, ◌⊎◌, List, [], ◌∷◌, ◌++◌, Ok, Err, Result, sym, refl, ap, ◌∙◌, inl, inr, ⊎_elim}
use Rattle.std.proofs.lemmas.Bool.{cond-true, cond-false, false≢true, false_from_ne_true}
use Rattle.std.proofs.lemmas.List.Elements.{All-nil}
use Rattle.levels.specs.Meaning.{Meaning}
use Rattle.rows.specs.declared.types.TypeKind.{TypeKind}
use Rattle.rows.specs.declared.types.TypeKind.TheVariants.{Sym, Dec, Enc, Sig, Ver}
use Rattle.rows.specs.declared.types.TypeRow.{TypeRow}
use Rattle.rows.specs.declared.term.TermKind.{TermKind}
use Rattle.rows.specs.declared.term.TermKind.TheVariants.{Slot, Ek, Vk, Senc, Aenc, Sign}
use Rattle.rows.specs.declared.term.TermRow.{TermRow}
use Rattle.rows.specs.Types.{plain, type_at}
use Rattle.typing.specs.Fits.{all_public, number_at}
use Rattle.typing.specs.Usage.{used}
use Rattle.typing.specs.Terms.{made, low, key_type, payload_types, signature_level, composite, parts_of, type_of_term, types_of_run, and_then}
use Rattle.typing.specs.Rules
use Rattle.typing.specs.Rules.{DeclaredUse, OpenUse, Public, TermRule, TermTyped, RunTyped}
use Rattle.typing.proofs.Relations.{public_decides}
use Rattle.typing.proofs.Uses.{kind_declared, key_cases, key_declared, key_open}

pub then_cases : {A B E X : Type 0} (r : Result A E) (f : A → Result B E) (b : B) → and_then r f ≡ Ok b → ((a : A) → r ≡ Ok a → f a ≡ Ok b → X) → X
then_cases (Ok a) f b h k = k a refl h
then_cases (Err e) f b h k = absurd (cc)

module _ (m : Meaning) (ts : List TypeRow) where
  module _ (k : TypeRow) (parts : List TypeRow) (n : ℕ) (t : TypeRow) where
    signed_out : DeclaredUse m ts Sig n k parts → t ≡ plain (signature_level m ts k) → (b : Bool) → all_public m (payload_types ts k) ≡ b → TermRule m ts k parts n t Sign
    signed_out d q true e = Rules.sign_public d ((public_decides m ts (payload_types ts k)).0 e) (q ∙ ap plain (cond-true (all_public m (payload_types ts k)) (low m k) k.level e))
    signed_out d q false e =
        Rules.sign_secret d (λ z. false≢true (sym e ∙ (public_decides m ts (payload_types ts k)).1 z))
        (q ∙ ap plain (cond-false (all_public m (payload_types ts k)) (low m k) k.level e))

    -- the ways to make the type t
    pub made_cases : {X : Type 0} (asked : TypeKind) (n' : ℕ) (us : List TypeRow) (u : TypeRow) → made m (used m ts k asked n' us) u ≡ Ok t
        → (DeclaredUse m ts asked n' k us → t ≡ u → X) → (OpenUse m ts asked n' k us → t ≡ plain m.opened → X) → X
    made_cases asked n' us u h f g =
        key_cases m ts k asked n' us (λ r. r ≡ Ok t) u (plain m.opened) h (λ d q. f d (cc)) (λ w q. g w (cc)) (λ e q. cc)

    declared_made : (asked : TypeKind) (n' : ℕ) (us : List TypeRow) (u : TypeRow) → DeclaredUse m ts asked n' k us → t ≡ u → made m (used m ts k asked n' us) u ≡ Ok t
    declared_made asked n' us u d q = key_declared m ts k asked n' us (λ r. r ≡ Ok t) u (plain m.opened) d (cc)

    open_made : (asked : TypeKind) (n' : ℕ) (us : List TypeRow) (u : TypeRow) → OpenUse m ts asked n' k us → t ≡ plain m.opened → made m (used m ts k asked n' us) u ≡ Ok t
    open_made asked n' us u w q = key_open m ts k asked n' us (λ r. r ≡ Ok t) u (plain m.opened) w (cc)

    rule_out : (slot : TypeRow) (kind : TermKind) → composite m ts slot k parts n kind ≡ Ok t → ((kind ≡ Slot) × (t ≡ slot)) ⊎ TermRule m ts k parts n t kind
    rule_out slot Slot h = inl (refl, cc)
    rule_out slot Ek h =
        inr (made_cases Dec k.count [] (key_type m Enc k) h (λ d q. Rules.ek d.0 q) (λ w q. Rules.ek_open (λ z. w.0 (kind_declared m ts k Dec z)) w.1 q))
    rule_out slot Vk h =
        inr (made_cases Sig k.count [] (key_type m Ver k) h (λ d q. Rules.vk d.0 q) (λ w q. Rules.vk_open (λ z. w.0 (kind_declared m ts k Sig z)) w.1 q))
    rule_out slot Senc h = inr (made_cases Sym n parts (plain (low m k)) h (λ d q. Rules.senc d q) (λ w q. Rules.senc_open w q))
    rule_out slot Aenc h = inr (made_cases Enc n parts (plain (low m k)) h (λ d q. Rules.aenc d q) (λ w q. Rules.aenc_open w q))
    rule_out slot Sign h =
        inr (made_cases Sig n parts (plain (signature_level m ts k)) h
        (λ d q. signed_out d q (all_public m (payload_types ts k)) refl) (λ w q. Rules.sign_open w q))

    pub rule_back : (slot : TypeRow) (kind : TermKind) → TermRule m ts k parts n t kind → composite m ts slot k parts n kind ≡ Ok t
    rule_back slot Slot r = elim r [ ]
    rule_back slot Ek (Rules.ek e q) = declared_made Dec k.count [] (key_type m Enc k) (kind_declared m ts k Dec e) q
    rule_back slot Ek (Rules.ek_open f o q) = open_made Dec k.count [] (key_type m Enc k) (λ d. f d.0, o, All-nil (Public m ts)) q
    rule_back slot Vk (Rules.vk e q) = declared_made Sig k.count [] (key_type m Ver k) (kind_declared m ts k Sig e) q
    rule_back slot Vk (Rules.vk_open f o q) = open_made Sig k.count [] (key_type m Ver k) (λ d. f d.0, o, All-nil (Public m ts)) q
    rule_back slot Senc (Rules.senc d q) = declared_made Sym n parts (plain (low m k)) d q
    rule_back slot Senc (Rules.senc_open w q) = open_made Sym n parts (plain (low m k)) w q
    rule_back slot Aenc (Rules.aenc d q) = declared_made Enc n parts (plain (low m k)) d q
    rule_back slot Aenc (Rules.aenc_open w q) = open_made Enc n parts (plain (low m k)) w q
    rule_back slot Sign (Rules.sign_public d a q) =
        declared_made Sig n parts (plain (signature_level m ts k)) d
        (q ∙ ap plain (sym (cond-true (all_public m (payload_types ts k)) (low m k) k.level ((public_decides m ts (payload_types ts k)).1 a))))
    rule_back slot Sign (Rules.sign_secret d a q) =
        declared_made Sig n parts (plain (signature_level m ts k)) d
        (q ∙ ap plain (sym (cond-false (all_public m (payload_types ts k)) (low m k) k.level (false_from_ne_true (all_public m (payload_types ts k)) (λ e. a ((public_decides m ts (payload_types ts k)).0 e))))))
    rule_back slot Sign (Rules.sign_open w q) = open_made Sig n parts (plain (signature_level m ts k)) w q

  term_out : (Γ : List ℕ) (earlier : List TypeRow) (u : TermRow) (t : TypeRow) → type_of_term m ts Γ earlier u ≡ Ok t → TermTyped m ts Γ earlier u t
  term_out Γ earlier u t h =
      ⊎_elim (λ w. Rules.slot w.0 w.1) (λ r. Rules.composed r)
      (rule_out (type_at earlier u.key) (parts_of earlier u) u.count t (type_at ts (number_at Γ u.slot)) u.kind h)

  term_back : (Γ : List ℕ) (earlier : List TypeRow) (u : TermRow) (t : TypeRow) → TermTyped m ts Γ earlier u t → type_of_term m ts Γ earlier u ≡ Ok t
  term_back Γ earlier u t (Rules.slot e q) =
      ap (composite m ts (type_at ts (number_at Γ u.slot)) (type_at earlier u.key) (parts_of earlier u) u.count) e ∙ ap Ok (sym q)
  term_back Γ earlier u t (Rules.composed r) =
      rule_back (type_at earlier u.key) (parts_of earlier u) u.count t (type_at ts (number_at Γ u.slot)) u.kind r

  pub run_out : (Γ : List ℕ) (run : List TermRow) (earlier us : List TypeRow) → types_of_run m ts Γ run earlier ≡ Ok us → RunTyped m ts Γ earlier run us
  run_out Γ [] earlier us h = cc
  run_out Γ (u ∷ run) earlier us h =
      then_cases (type_of_term m ts Γ earlier u) (λ t. types_of_run m ts Γ run (earlier ++ (t ∷ []))) us h
      (λ t q k. (t, term_out Γ earlier u t q, run_out Γ run (earlier ++ (t ∷ [])) us k))

  pub run_back : (Γ : List ℕ) (run : List TermRow) (earlier us : List TypeRow) → RunTyped m ts Γ earlier run us → types_of_run m ts Γ run earlier ≡ Ok us
  run_back Γ [] earlier us h = ap Ok h
  run_back Γ (u ∷ run) earlier us h = rw (term_back Γ earlier u h.0 h.1) (run_back Γ run (earlier ++ (h.0 ∷ [])) us h.2)
