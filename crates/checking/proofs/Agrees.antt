-- The verdict that is computed and the typing rules agree.
use Rattle.std.proofs.Common.{◌≡◌, ℕ, zero, suc, ◌+◌, ◌<◌, ◌≤◌, List, length, Ok, Err, Result, sym, refl, ap, ◌∙◌, arith}
use Rattle.levels.specs.Meaning.{Meaning}
use Rattle.rows.specs.declared.process.ProcessRow.{ProcessRow}
use Rattle.rows.specs.Processes.{row, end_of}
use Rattle.rows.specs.Tables.{Tables}
use Rattle.shape.specs.declared.fault.ShapeFault.{ShapeFault}
use Rattle.shape.specs.First.{Passes, first_of}
use Rattle.shape.specs.Whole.{shape}
use Rattle.shape.proofs.Shaped.{Shaped}
use Rattle.shape.proofs.Reached.{shaped}
use Rattle.typing.specs.declared.misuse.Misuse.{Misuse}
use Rattle.typing.specs.declared.judging.Judgement.{Judgement}
use Rattle.typing.specs.declared.judging.Judgement.TheVariants.{Done, Binds, Splits, Opens, OpensOnce}
use Rattle.typing.specs.Judging.{zeros, reads, extended}
use Rattle.typing.specs.Rules.{Typed}
use Rattle.typing.proofs.Premises.{Premises}
use Rattle.typing.proofs.Decided.{typed_from, typed_to}
use Rattle.checking.specs.declared.refusal.Refusal.{Refusal}
use Rattle.checking.specs.Verdict.{follow, check_from, free_names, rules, then_rules, verdict}
use Rattle.checking.specs.Theorems.{WellTyped, Decides}
use Rattle.checking.proofs.Pending.{NextOf, next_of}

both_pass : (u v : Passes Refusal) → first_of u v ≡ Ok tt → (u ≡ Ok tt) × (v ≡ Ok tt)
both_pass (Ok x) v h = (refl, h)
both_pass (Err e) v h = absurd (cc)

module _ (m : Meaning) (T : Tables) where
  abbrev ps : List ProcessRow
  ps = T.processes

  -- what follows is accepted, where the rules type it
  accepts_after : (go : List ℕ → ℕ → Passes Refusal) → ((Γ : List ℕ) (i : ℕ) → Typed m T Γ i → go Γ i ≡ Ok tt) → (Γ : List ℕ) (i : ℕ) (j : Result Judgement Misuse)
      → Premises m T Γ i j → follow ps go Γ i j ≡ Ok tt
  accepts_after go ok Γ i (Ok Done) p = refl
  accepts_after go ok Γ i (Ok (Binds new)) p = ok _ _ p
  accepts_after go ok Γ i (Ok Splits) p = ap (λ v. first_of v (go Γ (end_of ps (i + 1)))) (ok _ _ p.0) ∙ ok _ _ p.1
  accepts_after go ok Γ i (Ok (Opens new)) p = ap (λ v. first_of v (go (extended (row ps i) Γ zeros) (i + 1))) (ok _ _ p.0) ∙ ok _ _ p.1
  accepts_after go ok Γ i (Ok OpensOnce) p = ok _ _ p
  accepts_after go ok Γ i (Err e) p = absurd p

  accepts : (f : ℕ) (Γ : List ℕ) (i : ℕ) → Typed m T Γ i → check_from m T f Γ i ≡ Ok tt
  unfolding check_from
  accepts zero Γ i t = refl
  accepts (suc f) Γ i t = accepts_after (check_from m T f) (accepts f) Γ i (reads m T Γ i) (typed_to m T Γ i t)

  -- the premises of a row, where what follows is accepted
  premises : (sh : Shaped ps) (f : ℕ) (Γ : List ℕ) (i : ℕ) (j : Result Judgement Misuse) → length ps ≤ i + suc f → NextOf ps i j
      → ((Δ : List ℕ) (k : ℕ) → k < length ps → length ps ≤ k + f → check_from m T f Δ k ≡ Ok tt → Typed m T Δ k)
      → follow ps (check_from m T f) Γ i j ≡ Ok tt → Premises m T Γ i j
  premises sh f Γ i (Ok Done) fuel n go a = tt
  premises sh f Γ i (Ok (Binds new)) fuel n go a = go _ (i + 1) n.child.inside (omega arith) a
  premises sh f Γ i (Ok Splits) fuel n go a =
      let w = both_pass (check_from m T f Γ (i + 1)) (check_from m T f Γ (end_of ps (i + 1))) a in (
        go Γ (i + 1) n.0.left.inside (omega arith) w.0,
        go Γ (end_of ps (i + 1)) n.0.right.inside (omega (arith, sh.above (i + 1) n.0.left.inside)) w.1,
      )
  premises sh f Γ i (Ok (Opens new)) fuel n go a =
      let w = both_pass (check_from m T f (extended (row ps i) Γ new) (i + 1)) (check_from m T f (extended (row ps i) Γ zeros) (i + 1)) a in
      (go _ (i + 1) n.0.child.inside (omega arith) w.0, go _ (i + 1) n.0.child.inside (omega arith) w.1)
  premises sh f Γ i (Ok OpensOnce) fuel n go a = go _ (i + 1) n.0.child.inside (omega arith) a
  premises sh f Γ i (Err e) fuel n go a = absurd (cc)

  types : (sh : Shaped ps) (f : ℕ) (Γ : List ℕ) (i : ℕ) → i < length ps → length ps ≤ i + f → check_from m T f Γ i ≡ Ok tt → Typed m T Γ i
  unfolding check_from
  types sh zero Γ i h fuel a = absurd (let z : ⊥ = omega arith in z)
  types sh (suc f) Γ i h fuel a =
      typed_from m T Γ i (reads m T Γ i) refl
      (premises sh f Γ i (reads m T Γ i) fuel (next_of m T Γ i sh h) (λ Δ k inside more ok. types sh f Δ k inside more ok) a)

  well_typed : (x : Passes ShapeFault) → shape m T ≡ x → then_rules x (rules m T) ≡ Ok tt → WellTyped m T
  well_typed (Ok u) e h =
      let sh = shaped m T e in
      record { in_shape = e; typed = types sh (length ps) (free_names T) 0 sh.some (omega arith) h }
  well_typed (Err f) e h = absurd (cc)

  pub decides : (r : Passes Refusal) → r ≡ verdict m T → Decides m T r
  decides r e = record {
    sound = λ a. well_typed (shape m T) refl (sym e ∙ a);
    complete = λ w. e ∙ ap (λ x. then_rules x (rules m T)) w.in_shape ∙ accepts (length ps) (free_names T) 0 w.typed;
  }
