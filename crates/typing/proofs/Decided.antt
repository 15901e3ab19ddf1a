-- A row is typed by the rules exactly where what it comes to asks for what follows.
use Rattle.std.proofs.Common.{◌≡◌, ℕ, ◌+◌, cond, List, [], ◌∷◌, ◌++◌, take, Ok, Err, Result, sym, refl, ap, ◌∙◌, subst, append-nil}
use Rattle.std.proofs.lemmas.List.Elements.{All-nil, All-head, All-cons}
use Rattle.levels.specs.Meaning.{Meaning, public}
use Rattle.rows.specs.declared.types.TypeKind.TheVariants.{Chan, Sym, Dec, Ver}
use Rattle.rows.specs.declared.types.TypeRow.{TypeRow}
use Rattle.rows.specs.declared.process.ProcessKind.{ProcessKind}
use Rattle.rows.specs.declared.process.ProcessKind.TheVariants.{Stop, Out, In, New, Both, Again, If, Sopen, Aopen, Verify}
use Rattle.rows.specs.declared.process.ProcessRow.{ProcessRow}
use Rattle.rows.specs.Processes.{row, run_of, adds_by}
use Rattle.rows.specs.Tables.{Tables}
use Rattle.typing.specs.declared.misuse.Misuse.{Misuse}
use Rattle.typing.specs.declared.misuse.Misuse.TheVariants.{Message}
use Rattle.typing.specs.declared.judging.Judgement.{Judgement}
use Rattle.typing.specs.declared.judging.Judgement.TheVariants.{Binds, Opens, OpensOnce}
use Rattle.typing.specs.Usage.{declared_use, open_use, misuse}
use Rattle.typing.specs.Terms.{types_of_run, and_then}
use Rattle.typing.specs.Judging.{zeros, operand_type, sent_types, judge}
use Rattle.typing.specs.Rules
use Rattle.typing.specs.Rules.{DeclaredUse, OpenUse, Public, TermsTyped, Typed}
use Rattle.typing.proofs.Premises.{extended, reads, Premises}
use Rattle.typing.proofs.Relations.{declared_decides, open_decides}
use Rattle.typing.proofs.Uses.{use_cases, use_declared, use_open, undeclared, not_declared, key_cases, key_declared, key_open}
use Rattle.typing.proofs.Typings.{run_out, run_back}

module _ (m : Meaning) (T : Tables) (Γ : List ℕ) (i : ℕ) where
  abbrev p : ProcessRow
  p = row T.processes i

  abbrev After : List ℕ → Type 0
  After Δ = Typed m T Δ (i + 1)

  -- the slots after a row of a kind
  slots : (kind : ProcessKind) (new : List ℕ) → p.kind ≡ kind → extended p Γ new ≡ Γ ++ take (adds_by kind p.count) new
  slots kind new e = ap (λ k. Γ ++ take (adds_by k p.count) new) e

  same_slots : (kind : ProcessKind) (new : List ℕ) → p.kind ≡ kind → adds_by kind p.count ≡ 0 → extended p Γ new ≡ Γ
  same_slots kind new e z = slots kind new e ∙ ap (λ n. Γ ++ take n new) z ∙ append-nil Γ

  moved : (Δ Θ : List ℕ) → Δ ≡ Θ → After Δ → After Θ
  moved Δ Θ e h = subst After e h

  module _ (us : List TypeRow) where
    abbrev first : TypeRow
    first = operand_type us p 0

    abbrev second : TypeRow
    second = operand_type us p 1

    -- what is wrong with a verification
    abbrev unverified : Misuse
    unverified = cond (public m second.level) Message (misuse m second Ver p.count)

    from_kind : TermsTyped m T Γ i us → (kind : ProcessKind) → p.kind ≡ kind → Premises m T Γ i (judge m T.types us p kind) → Typed m T Γ i
    from_kind ht Stop e h = Rules.stop us e ht
    from_kind ht Out e h =
        key_cases m T.types first Chan p.count (sent_types us p) (Premises m T Γ i) (Binds zeros) (Binds zeros) h
        (λ d x. Rules.out us e ht d (moved (extended p Γ zeros) Γ (same_slots Out zeros e refl) x))
        (λ w x. Rules.out_open us e ht w (moved (extended p Γ zeros) Γ (same_slots Out zeros e refl) x)) (λ z x. x)
    from_kind ht In e h =
        key_cases m T.types first Chan p.count [] (Premises m T Γ i) (Binds first.payload) (Binds zeros) h
        (λ d x. Rules.in_declared us e ht d (moved _ _ (slots In first.payload e) x)) (λ w x. Rules.in_open us e ht w (moved _ _ (slots In zeros e) x)) (λ z x. x)
    from_kind ht New e h = Rules.new us e ht (moved _ _ (slots New (p.ty ∷ 0 ∷ 0 ∷ 0 ∷ []) e) h)
    from_kind ht Both e h = Rules.both us e ht h.0 h.1
    from_kind ht Again e h = Rules.again us e ht (moved (extended p Γ zeros) Γ (same_slots Again zeros e refl) h)
    from_kind ht If e h = Rules.if_equal us e ht h.0 h.1
    from_kind ht Sopen e h =
        key_cases m T.types second Sym p.count [] (Premises m T Γ i) (Binds second.payload) (Binds zeros) h
        (λ d x. Rules.sopen us e ht d (moved _ _ (slots Sopen second.payload e) x)) (λ w x. Rules.sopen_open us e ht w (moved _ _ (slots Sopen zeros e) x)) (λ z x. x)
    from_kind ht Aopen e h =
        key_cases m T.types second Dec p.count [] (Premises m T Γ i) (Opens second.payload) OpensOnce h
        (λ d x. Rules.aopen us e ht d (moved _ _ (slots Aopen second.payload e) x.0) (moved _ _ (slots Aopen zeros e) x.1))
        (λ w x. Rules.aopen_open us e ht w (moved _ _ (slots Aopen zeros e) x)) (λ z x. x)
    from_kind ht Verify e h =
        use_cases (Premises m T Γ i) (declared_use m T.types second Ver p.count []) (open_use m second (first ∷ [])) unverified (Binds second.payload) (Binds zeros) h
        (λ d x. Rules.verify us e ht ((declared_decides m T.types second Ver p.count []).0 d) (moved _ _ (slots Verify second.payload e) x))
        (λ d o x.
        let w = (open_decides m T.types second (first ∷ [])).0 o in
        Rules.verify_open us e ht (not_declared m T.types second Ver p.count [] d, w.0, All-nil (Public m T.types)) (All-head (Public m T.types) first [] w.1) (moved _ _ (slots Verify zeros e) x))
        (λ z. z)

    -- the same, back from the rule of a kind
    to_kind : (kind : ProcessKind) → p.kind ≡ kind → TermsTyped m T Γ i us → Premises m T Γ i (judge m T.types us p kind) → Premises m T Γ i (reads m T Γ i)
    to_kind kind e ht h =
        subst (λ (r : Result (List TypeRow) Misuse). Premises m T Γ i (and_then r (λ us. judge m T.types us p p.kind))) (sym (run_back m T.types Γ (run_of T.terms p) [] us ht))
        (subst (λ (k : ProcessKind). Premises m T Γ i (judge m T.types us p k)) (sym e) h)

    kept : (kind : ProcessKind) → p.kind ≡ kind → adds_by kind p.count ≡ 0 → After Γ → After (extended p Γ zeros)
    kept kind e z = moved Γ (extended p Γ zeros) (sym (same_slots kind zeros e z))

    grown : (kind : ProcessKind) (new : List ℕ) → p.kind ≡ kind → After (Γ ++ take (adds_by kind p.count) new) → After (extended p Γ new)
    grown kind new e = moved (Γ ++ take (adds_by kind p.count) new) (extended p Γ new) (sym (slots kind new e))

  from_run : (r : Result (List TypeRow) Misuse) → types_of_run m T.types Γ (run_of T.terms p) [] ≡ r → Premises m T Γ i (and_then r (λ us. judge m T.types us p p.kind)) → Typed m T Γ i
  from_run (Ok us) e h = from_kind us (run_out m T.types Γ (run_of T.terms p) [] us e) p.kind refl h
  from_run (Err x) e h = absurd h

  pub typed_from : (j : Result Judgement Misuse) → reads m T Γ i ≡ j → Premises m T Γ i j → Typed m T Γ i
  typed_from j e h =
      from_run (types_of_run m T.types Γ (run_of T.terms p) []) refl (subst (λ (x : Result Judgement Misuse). Premises m T Γ i x) (sym e) h)

  pub typed_to : Typed m T Γ i → Premises m T Γ i (reads m T Γ i)
  typed_to (Rules.stop us e ht) = to_kind us Stop e ht tt
  typed_to (Rules.out us e ht d x) =
      to_kind us Out e ht (key_declared m T.types (first us) Chan p.count (sent_types us p) (Premises m T Γ i) (Binds zeros) (Binds zeros) d (kept us Out e refl x))
  typed_to (Rules.out_open us e ht w x) =
      to_kind us Out e ht (key_open m T.types (first us) Chan p.count (sent_types us p) (Premises m T Γ i) (Binds zeros) (Binds zeros) w (kept us Out e refl x))
  typed_to (Rules.in_declared us e ht d x) =
      let k = first us in
      to_kind us In e ht (key_declared m T.types k Chan p.count [] (Premises m T Γ i) (Binds k.payload) (Binds zeros) d (grown us In k.payload e x))
  typed_to (Rules.in_open us e ht w x) =
      let k = first us in
      to_kind us In e ht (key_open m T.types k Chan p.count [] (Premises m T Γ i) (Binds k.payload) (Binds zeros) w (grown us In zeros e x))
  typed_to (Rules.new us e ht x) = to_kind us New e ht (grown us New (p.ty ∷ 0 ∷ 0 ∷ 0 ∷ []) e x)
  typed_to (Rules.both us e ht x y) = to_kind us Both e ht (x, y)
  typed_to (Rules.again us e ht x) = to_kind us Again e ht (kept us Again e refl x)
  typed_to (Rules.if_equal us e ht x y) = to_kind us If e ht (x, y)
  typed_to (Rules.sopen us e ht d x) =
      let k = second us in
      to_kind us Sopen e ht (key_declared m T.types k Sym p.count [] (Premises m T Γ i) (Binds k.payload) (Binds zeros) d (grown us Sopen k.payload e x))
  typed_to (Rules.sopen_open us e ht w x) =
      let k = second us in
      to_kind us Sopen e ht (key_open m T.types k Sym p.count [] (Premises m T Γ i) (Binds k.payload) (Binds zeros) w (grown us Sopen zeros e x))
  typed_to (Rules.aopen us e ht d x y) =
      let k = second us in
      to_kind us Aopen e ht (key_declared m T.types k Dec p.count [] (Premises m T Γ i) (Opens k.payload) OpensOnce d (grown us Aopen k.payload e x, grown us Aopen zeros e y))
  typed_to (Rules.aopen_open us e ht w x) =
      let k = second us in
      to_kind us Aopen e ht (key_open m T.types k Dec p.count [] (Premises m T Γ i) (Opens k.payload) OpensOnce w (grown us Aopen zeros e x))
  typed_to (Rules.verify us e ht d x) =
      let k = second us in
      to_kind us Verify e ht
      (use_declared (Premises m T Γ i) (declared_use m T.types k Ver p.count []) (open_use m k (first us ∷ [])) (unverified us) (Binds k.payload) (Binds zeros)
      ((declared_decides m T.types k Ver p.count []).1 d) (grown us Verify k.payload e x))
  typed_to (Rules.verify_open us e ht w q x) =
      let k = second us in
      to_kind us Verify e ht
      (use_open (Premises m T Γ i) (declared_use m T.types k Ver p.count []) (open_use m k (first us ∷ [])) (unverified us) (Binds k.payload) (Binds zeros)
      (undeclared m T.types k Ver p.count [] w.0) ((open_decides m T.types k (first us ∷ [])).1 (w.1, All-cons (Public m T.types) (first us) [] q (All-nil (Public m T.types)))) (grown us Verify zeros e x))
