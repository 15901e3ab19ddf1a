-- Good tables have term rows in shape, and as many rows as they may.
use Rattle.std.proofs.Common.{◌≡◌, ℕ, zero, suc, ◌+◌, ◌<◌, ◌≤◌, Bool, true, false, cond, ◌≢◌, ◌⊎◌, List, [], ◌∷◌, length, get_or, take, drop, Ok, Err, sym, refl, ap, ◌∙◌, subst, inl, inr, ⊎_elim, add-zero, zero-add, arith}
use Rattle.std.proofs.lemmas.List.{length-take, get_or-take, get_or-drop}
use Rattle.std.proofs.lemmas.Bool.{and_from, lt-ltb, le-leb, cond-true}
use Rattle.rows.specs.declared.process.ProcessRow.{ProcessRow}
use Rattle.rows.specs.declared.term.TermRow.{TermRow}
use Rattle.rows.specs.Processes.{no_process, run_of}
use Rattle.rows.specs.Terms.{no_term}
use Rattle.rows.specs.Tables.{Tables}
use Rattle.shape.specs.declared.fault.ShapeFault.{ShapeFault}
use Rattle.shape.specs.declared.fault.ShapeFault.TheVariants.{Size, Types, Processes, Depth}
use Rattle.shape.specs.Fault.{shape_number}
use Rattle.shape.specs.First.{Passes, first_of, first_bad}
use Rattle.shape.specs.Types.{type_ok, types_shape}
use Rattle.shape.specs.Processes.{process_ok, processes_shape}
use Rattle.shape.specs.Terms.{run_shape, terms_shape}
use Rattle.shape.specs.Depth.{shallow, depth_shape}
use Rattle.shape.specs.Whole.{sized, shape}
use Rattle.reader.specs.Sound.{Never20Or23}
use Rattle.reader.proofs.Good.{Run, in_shape}

run_passes : (c f : ℕ) (us : List TermRow) (j : ℕ) → ((k : ℕ) → k < length us → in_shape c (j + k) (get_or us k no_term) ≡ true) → run_shape c f j us ≡ Ok tt
run_passes c f [] j h = refl
run_passes c f (t ∷ us) j h =
    cond-true (in_shape c j t) _ _ (subst (λ k. in_shape c k t ≡ true) (add-zero j) (h 0 (omega arith)))
    ∙ run_passes c f us (j + 1) (λ k l. let e : j + suc k ≡ j + 1 + k = omega arith in subst (λ m. in_shape c m (get_or us k no_term) ≡ true) e (h (suc k) (omega arith)))

runs_pass : (us : List TermRow) (ps : List ProcessRow) → ((j : ℕ) → j < length ps → run_shape (get_or ps j no_process).slots (get_or ps j no_process).first 0 (run_of us (get_or ps j no_process)) ≡ Ok tt) → terms_shape us ps ≡ Ok tt
runs_pass us [] h = refl
runs_pass us (p ∷ ps) h = ap (λ r. first_of r (terms_shape us ps)) (h 0 (omega arith)) ∙ runs_pass us ps (λ j l. h (suc j) (omega arith))

module _ (terms : List TermRow) (used : ℕ) where
  run_good : (p : ProcessRow) → Run terms used p → run_shape p.slots p.first 0 (run_of (take used terms) p) ≡ Ok tt
  run_good p r =
      run_passes p.slots p.first (run_of (take used terms) p) 0
      (λ k l.
      let m : k < p.terms = omega (arith, length-take p.terms (drop p.first (take used terms))) in
      let e : get_or (run_of (take used terms) p) k no_term ≡ get_or terms (p.first + k) no_term = get_or-take p.terms (drop p.first (take used terms)) k no_term m ∙ get_or-drop p.first (take used terms) k no_term ∙ get_or-take used terms (p.first + k) no_term (omega (arith, r.inside)) in
      subst (λ i. in_shape p.slots i (get_or (run_of (take used terms) p) k no_term) ≡ true) (sym (zero-add k)) (subst (λ t. in_shape p.slots k t ≡ true) (sym e) (r.shaped k m)))

  pub terms_good : (rows : List ProcessRow) (filled : ℕ) → ((j : ℕ) → Run terms used (get_or rows j no_process)) → terms_shape (take used terms) (take filled rows) ≡ Ok tt
  terms_good rows filled h =
      runs_pass (take used terms) (take filled rows)
      (λ j l.
      let m : j < filled = omega (arith, length-take filled rows) in
      run_good (get_or (take filled rows) j no_process) (subst (Run terms used) (sym (get_or-take filled rows j no_process m)) (h j)))

pub sizes_good : (T : Tables) → 0 < length T.types → length T.types ≤ 64 → 0 < length T.processes → length T.processes ≤ 512 → length T.terms ≤ 2048 → sized T ≡ true
sizes_good T a b c d e =
    and_from _ _ (lt-ltb 0 (length T.types) a)
    (and_from _ _ (le-leb (length T.types) 64 b)
    (and_from _ _ (lt-ltb 0 (length T.processes) c)
    (and_from _ _ (le-leb (length T.processes) 512 d) (le-leb (length T.terms) 2048 e))))

-- a fault with another number
Another : ShapeFault → Type 0
Another e = (shape_number e ≢ 20) × (shape_number e ≢ 23)

passed : {E : Type 0} (e : E) → ◌≡◌ {A = Passes E} (Ok tt) (Err e) → ⊥
passed e h = let z : ◌≡◌ {A = ℕ} 0 1 = cc in omega arith

either : {E : Type 0} (u v : Passes E) (e : E) → first_of u v ≡ Err e → (u ≡ Err e) ⊎ (v ≡ Err e)
either (Ok x) v e h = inr h
either (Err f) v e h = inl h

a_row : (p : ℕ → Bool) (fault : ℕ → ShapeFault) → ((j : ℕ) → Another (fault j)) → (n i : ℕ) (e : ShapeFault) → first_bad p fault i n ≡ Err e → Another e
a_row p fault f zero i e h = absurd (passed e h)
a_row p fault f (suc n) i e h = on (p i) (a_row p fault f n (i + 1) e) h where
  on : (b : Bool) → (first_bad p fault (i + 1) n ≡ Err e → Another e) → cond b (first_bad p fault (i + 1) n) (Err (fault i)) ≡ Err e → Another e
  on true g q = g q
  on false g q = let z : fault i ≡ e = cc in subst Another z (f i)

pub never : (T : Tables) → sized T ≡ true → terms_shape T.terms T.processes ≡ Ok tt → Never20Or23 T
unfolding shape Another
never T size terms m e h =
    ⊎_elim (λ q. absurd (passed e (sym (cond-true (sized T) (Ok tt) (Err Size) size) ∙ q)))
    (λ q. ⊎_elim (a_row (type_ok m T.types) Types (λ j. (λ z. omega arith, λ z. omega arith)) (length T.types) 0 e)
    (λ r. ⊎_elim (a_row (process_ok T) Processes (λ j. (λ z. omega arith, λ z. omega arith)) (length T.processes) 0 e)
    (λ u. ⊎_elim (λ v. absurd (passed e (sym terms ∙ v)))
    (a_row (shallow T.processes) Depth (λ j. (λ z. omega arith, λ z. omega arith)) (length T.processes) 0 e)
    (either (terms_shape T.terms T.processes) (depth_shape T.processes) e u))
    (either (processes_shape T) (first_of (terms_shape T.terms T.processes) (depth_shape T.processes)) e r))
    (either (types_shape m T.types) (first_of (processes_shape T) (first_of (terms_shape T.terms T.processes) (depth_shape T.processes))) e q))
    (either (cond (sized T) (Ok tt) (Err Size)) (first_of (types_shape m T.types) (first_of (processes_shape T) (first_of (terms_shape T.terms T.processes) (depth_shape T.processes)))) e h)
