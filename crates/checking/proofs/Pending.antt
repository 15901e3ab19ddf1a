-- How the place of the walk, its types and its stack stand for what is left to check.
use Rattle.std.proofs.Common.{◌≡◌, ℕ, zero, suc, ◌+◌, ◌<◌, ◌≤◌, List, [], ◌∷◌, ◌++◌, length, take, replicate, Ok, Err, Result, sym, refl, ap, ◌∙◌, subst, le_trans, le_refl, arith}
use Rattle.std.proofs.lemmas.List.{take-replicate}
use Rattle.levels.specs.Meaning.{Meaning}
use Rattle.rows.specs.declared.types.TypeKind.TheVariants.{Chan, Sym, Dec}
use Rattle.rows.specs.declared.types.TypeRow.{TypeRow}
use Rattle.rows.specs.declared.process.ProcessKind.{ProcessKind}
use Rattle.rows.specs.declared.process.ProcessKind.TheVariants.{Stop, Out, In, New, Both, Again, If, Sopen, Aopen, Verify}
use Rattle.rows.specs.declared.process.ProcessRow.{ProcessRow}
use Rattle.rows.specs.Processes.{row, end_of, slots_of, adds, adds_by, run_of}
use Rattle.rows.specs.Tables.{Tables}
use Rattle.shape.specs.First.{Passes, first_of}
use Rattle.shape.specs.Depth.{enclosing}
use Rattle.shape.proofs.Shaped.{opens, One, Two, Family, Shaped}
use Rattle.typing.specs.declared.misuse.Misuse.{Misuse}
use Rattle.typing.specs.declared.usage.Usage.{Usage}
use Rattle.typing.specs.declared.usage.Usage.TheVariants.{Declared, Open}
use Rattle.typing.specs.declared.judging.Judgement.{Judgement}
use Rattle.typing.specs.declared.judging.Judgement.TheVariants.{Done, Binds, Splits, Opens, OpensOnce}
use Rattle.typing.specs.Terms.{types_of_run, and_then}
use Rattle.typing.specs.Usage.{used, verified, by_use}
use Rattle.typing.specs.Judging.{zeros, judge, reads, extended, operand_type, sent_types}
use Rattle.checking.specs.declared.refusal.Refusal.{Refusal}
use Rattle.checking.specs.declared.refusal.Refusal.TheVariants.{Typing}
use Rattle.checking.specs.Verdict.{follow, check_from, free_names, rules}
use Rattle.checking.proofs.Entries.{Entry, due, last, row_of, limit}

-- a row still to be checked, under its own types
pub record Job : Type 0 where
  pub fuel : ℕ
  pub env : List ℕ
  pub at : ℕ

abbrev pub job : ℕ → List ℕ → ℕ → Job
job f Γ i = record { fuel = f; env = Γ; at = i }

-- the first refusal of several jobs
abbrev pub joint : Meaning → Tables → List Job → Passes Refusal
joint m T [] = Ok tt
joint m T (j ∷ js) = first_of (check_from m T j.fuel j.env j.at) (joint m T js)

-- the row i comes next; slots from b on are not asked for any more
pub record Here (ps : List ProcessRow) (i b : ℕ) (es : List Entry) (f : ℕ) : Type 0 where
  pub inside : i < length ps
  pub low : slots_of ps i ≤ b
  pub before : i < limit ps es
  pub fuel : length ps ≤ i + f
  pub deep : length es ≤ enclosing ps i

-- the aopen t is to be read once more
pub record Waits (ps : List ProcessRow) (t b : ℕ) (es : List Entry) (f : ℕ) : Type 0 where
  pub inside : t < length ps
  pub opened : (row ps t).kind ≡ Aopen
  pub low : slots_of ps t ≤ b
  pub before : end_of ps t ≤ limit ps es
  pub fuel : length ps ≤ (t + 1) + f
  pub deep : length es ≤ enclosing ps t

pub data Laid (ps : List ProcessRow) (env : List ℕ) : ℕ → ℕ → List Entry → List Job → Type 0 where
  done : {i b : ℕ} → i ≡ length ps → Laid ps env i b [] []
  next : {i b : ℕ} {es : List Entry} {js : List Job} (f : ℕ) (Γ : List ℕ)
      → Here ps i b es f → take (slots_of ps i) env ≡ Γ
      → Laid ps env (end_of ps i) (slots_of ps i) es js
      → Laid ps env i b es (job f Γ i ∷ js)
  again : {i b : ℕ} {es : List Entry} {js : List Job} (f : ℕ) (Γ : List ℕ) (t : ℕ)
      → i ≡ end_of ps t → Waits ps t b es f → take (slots_of ps t) env ≡ Γ
      → Laid ps env i (slots_of ps t) es js
      → Laid ps env i b (due t ∷ es) (job f (extended (row ps t) Γ zeros) (t + 1) ∷ js)
  back : {i b : ℕ} {es : List Entry} {js : List Job} (t : ℕ)
      → i ≡ end_of ps t → t < length ps → length es < 6 → Laid ps env i b es js
      → Laid ps env i b (last t ∷ es) js

-- what is left to check, wherever the walk stands, comes to `whole`
pub record At (m : Meaning) (T : Tables) (env : List ℕ) (i : ℕ) (es : List Entry) (whole : Passes Refusal) : Type 0 where
  pub shaped : Shaped T.processes
  pub bnd : ℕ
  pub jobs : List Job
  pub laid : Laid T.processes env i bnd es jobs
  pub same : joint m T jobs ≡ whole

first_of_passes : (v : Passes Refusal) → first_of v (Ok tt) ≡ v
first_of_passes (Ok u) = refl
first_of_passes (Err e) = refl

first_of_assoc : (u v w : Passes Refusal) → first_of (first_of u v) w ≡ first_of u (first_of v w)
first_of_assoc (Ok x) v w = refl
first_of_assoc (Err e) v w = refl

module _ {ps : List ProcessRow} where
  pub within : {env : List ℕ} {i b : ℕ} {es : List Entry} {js : List Job} → Laid ps env i b es js → i ≤ limit ps es
  within (done e) = omega arith
  within (next f Γ h e l) = omega arith
  within (again f Γ t e w g l) = omega arith
  within (back t e h d l) = omega arith

  frame : {env env' : List ℕ} {i b : ℕ} {es : List Entry} {js : List Job} → ((n : ℕ) → n ≤ b → take n env' ≡ take n env) → Laid ps env i b es js → Laid ps env' i b es js
  frame same (done e) = done e
  frame same (next f Γ h e l) = next f Γ h (same _ h.low ∙ e) (frame (λ n k. same n (le_trans k h.low)) l)
  frame same (again f Γ t e w g l) = again f Γ t e w (same _ w.low ∙ g) (frame (λ n k. same n (le_trans k w.low)) l)
  frame same (back t e h d l) = back t e h d (frame same l)

  widen : {env : List ℕ} {i b b' : ℕ} {es : List Entry} {js : List Job} → b ≤ b' → Laid ps env i b es js → Laid ps env i b' es js
  widen h (done e) = done e
  widen h (next f Γ k e l) = next f Γ (record { inside = k.inside; low = le_trans k.low h; before = k.before; fuel = k.fuel; deep = k.deep }) e l
  widen h (again f Γ t e w g l) =
      again f Γ t e (record { inside = w.inside; opened = w.opened; low = le_trans w.low h; before = w.before; fuel = w.fuel; deep = w.deep }) g l
  widen h (back t e k d l) = back t e k d (widen h l)

  pub held_inside : {env : List ℕ} {i b : ℕ} {e : Entry} {es : List Entry} {js : List Job} → Laid ps env i b (e ∷ es) js → row_of e < length ps
  held_inside (next f Γ h e l) = held_inside l
  held_inside (again f Γ t e w g l) = w.inside
  held_inside (back t e h d l) = h

-- ---- what the family of a row gives for what the row comes to

abbrev pub NextOf : List ProcessRow → ℕ → Result Judgement Misuse → Type 0
NextOf ps i (Ok Done) = end_of ps i ≡ i + 1
NextOf ps i (Ok (Binds new)) = One ps i
NextOf ps i (Ok Splits) = Two ps i × (adds (row ps i) ≡ 0)
NextOf ps i (Ok (Opens new)) = One ps i × ((row ps i).kind ≡ Aopen)
NextOf ps i (Ok OpensOnce) = One ps i × ((row ps i).kind ≡ Aopen)
NextOf ps i (Err e) = Unit {0}

by_both : (P : Result Judgement Misuse → Type 0) (u : Result Usage Misuse) (d o : Judgement) → P (Ok d) → P (Ok o) → ((e : Misuse) → P (Err e)) → P (by_use u d o)
by_both P (Ok Declared) d o p q r = p
by_both P (Ok Open) d o p q r = q
by_both P (Err e) d o p q r = r e

-- a row that binds, in either use
once : {ps : List ProcessRow} {i : ℕ} (u : Result Usage Misuse) (new : List ℕ) → One ps i → NextOf ps i (by_use u (Binds new) (Binds zeros))
once {ps} {i} u new one = by_both (NextOf ps i) u (Binds new) (Binds zeros) one one (λ e. tt)

next_by : (m : Meaning) (ts us : List TypeRow) (ps : List ProcessRow) (i : ℕ) (κ : ProcessKind) → (row ps i).kind ≡ κ → Family ps i κ → NextOf ps i (judge m ts us (row ps i) κ)
next_by m ts us ps i Stop e fam = fam
next_by m ts us ps i Out e fam = once (used m ts (operand_type us (row ps i) 0) Chan (row ps i).count (sent_types us (row ps i))) zeros fam
next_by m ts us ps i In e fam = once (used m ts (operand_type us (row ps i) 0) Chan (row ps i).count []) (operand_type us (row ps i) 0).payload fam
next_by m ts us ps i New e fam = fam
next_by m ts us ps i Both e fam = (fam, ap (λ k. adds_by k (row ps i).count) e)
next_by m ts us ps i Again e fam = fam
next_by m ts us ps i If e fam = (fam, ap (λ k. adds_by k (row ps i).count) e)
next_by m ts us ps i Sopen e fam = once (used m ts (operand_type us (row ps i) 1) Sym (row ps i).count []) (operand_type us (row ps i) 1).payload fam
next_by m ts us ps i Aopen e fam =
    let both : One ps i × ((row ps i).kind ≡ Aopen) = (fam, e) in
    by_both (NextOf ps i) (used m ts (operand_type us (row ps i) 1) Dec (row ps i).count []) (Opens (operand_type us (row ps i) 1).payload) OpensOnce both both (λ e. tt)
next_by m ts us ps i Verify e fam = once (verified m ts (operand_type us (row ps i) 1) (row ps i).count (operand_type us (row ps i) 0)) (operand_type us (row ps i) 1).payload fam

next_judged : (m : Meaning) (ts : List TypeRow) (ps : List ProcessRow) (i : ℕ) (r : Result (List TypeRow) Misuse) → Family ps i (row ps i).kind → NextOf ps i (and_then r (λ us. judge m ts us (row ps i) (row ps i).kind))
next_judged m ts ps i (Ok us) fam = next_by m ts us ps i (row ps i).kind refl fam
next_judged m ts ps i (Err e) fam = tt

pub next_of : (m : Meaning) (T : Tables) (Γ : List ℕ) (i : ℕ) → Shaped T.processes → i < length T.processes → NextOf T.processes i (reads m T Γ i)
next_of m T Γ i sh h = next_judged m T.types T.processes i (types_of_run m T.types Γ (run_of T.terms (row T.processes i)) []) (sh.family i h)

-- ---- the walk at a row

record Now (m : Meaning) (T : Tables) (env : List ℕ) (i : ℕ) (es : List Entry) (whole : Passes Refusal) : Type 0 where
  f : ℕ
  b : ℕ
  js : List Job
  here : Here T.processes i b es (suc f)
  tail : Laid T.processes env (end_of T.processes i) (slots_of T.processes i) es js
  same : first_of (check_from m T (suc f) (take (slots_of T.processes i) env) i) (joint m T js) ≡ whole

-- what `enter` leaves: below the row's slots all is as it was, and then come the row's own
pub record Entered (ps : List ProcessRow) (i : ℕ) (env env' new : List ℕ) : Type 0 where
  pub below : (n : ℕ) → n ≤ slots_of ps i → take n env' ≡ take n env
  pub within : take (slots_of ps i + adds (row ps i)) env' ≡ take (slots_of ps i) env ++ take (adds (row ps i)) new

module _ (ps : List ProcessRow) (sh : Shaped ps) where
  -- the place after the only child of i is the one after i
  moved : {env env' new : List ℕ} {es : List Entry} {js : List Job} (i : ℕ) → One ps i → Entered ps i env env' new
      → Laid ps env (end_of ps i) (slots_of ps i) es js
      → Laid ps env' (end_of ps (i + 1)) (slots_of ps i) es js
  moved {env' = env'} {es = es} {js = js} i one ent l =
      subst (λ e. Laid ps env' e (slots_of ps i) es js) (sym one.ends) (frame ent.below l)

  more_slots : (i : ℕ) → One ps i → slots_of ps i ≤ slots_of ps (i + 1)
  more_slots i one = omega (arith, one.child.slots_are)

  child : {env env' new : List ℕ} {es : List Entry} {js : List Job} (i f : ℕ) (Γ : List ℕ) → One ps i → Entered ps i env env' new
      → take (slots_of ps i) env ≡ Γ → end_of ps i ≤ limit ps es → length ps ≤ (i + 1) + f → length es ≤ enclosing ps (i + 1)
      → Laid ps env' (end_of ps (i + 1)) (slots_of ps (i + 1)) es js
      → Laid ps env' (i + 1) (slots_of ps (i + 1)) es (job f (extended (row ps i) Γ new) (i + 1) ∷ js)
  child {env' = env'} {new = new} i f Γ one ent holds under fuel deep l =
      next f (extended (row ps i) Γ new)
      (record {
        inside = one.child.inside;
        low = le_refl _;
        before = omega (arith, sh.above (i + 1) one.child.inside, one.ends);
        fuel = fuel;
        deep = deep;
      })
      (ap (λ n. take n env') one.child.slots_are ∙ ent.within ∙ ap (λ g. g ++ take (adds (row ps i)) new) holds)
      l

  -- inside an aopen the count of those on the way down is one more
  deeper : (i : ℕ) → One ps i → (row ps i).kind ≡ Aopen → enclosing ps (i + 1) ≡ enclosing ps i + 1
  deeper i one e = one.child.depth_is ∙ ap (λ k. enclosing ps i + opens k) e

module _ (m : Meaning) (T : Tables) (whole : Passes Refusal) where
  abbrev ps : List ProcessRow
  ps = T.processes

  now_in : {env : List ℕ} {i b : ℕ} {es : List Entry} {js : List Job}
      → Laid ps env i b es js → joint m T js ≡ whole → i < limit ps es → Now m T env i es whole
  now_in (done e) s h = absurd (let z : ⊥ = omega arith in z)
  now_in (next zero Γ k e l) s h = absurd (let z : ⊥ = omega arith in z)
  now_in {i = i} {b = b} (next {js = js} (suc f) Γ k e l) s h =
      record { f = f; b = b; js = js; here = k; tail = l; same = ap (λ x. first_of (check_from m T (suc f) x i) (joint m T js)) e ∙ s }
  now_in (again f Γ t e w g l) s h = absurd (let z : ⊥ = omega arith in z)
  now_in (back t e k d l) s h = absurd (let z : ⊥ = omega arith in z)

  asked : (sh : Shaped ps) (Γ : List ℕ) (i : ℕ) (j : Result Judgement Misuse) → i < length ps → reads m T Γ i ≡ j → NextOf ps i j
  asked sh Γ i j h e = subst (NextOf ps i) e (next_of m T Γ i sh h)

  read_as : (env : List ℕ) (i : ℕ) (es : List Entry) (n : Now m T env i es whole) (j : Result Judgement Misuse) → reads m T (take (slots_of ps i) env) i ≡ j
      → first_of (follow ps (check_from m T n.f) (take (slots_of ps i) env) i j) (joint m T n.js) ≡ whole
  unfolding check_from
  read_as env i es n j e = ap (λ v. first_of (follow ps (check_from m T n.f) (take (slots_of ps i) env) i v) (joint m T n.js)) (sym e) ∙ n.same

  module _ {env : List ℕ} {i : ℕ} {es : List Entry} (a : At m T env i es whole) (h : i < limit ps es) where
    pub step_inside : i < length ps
    step_inside = (now_in a.laid a.same h).here.inside

    pub step_done : reads m T (take (slots_of ps i) env) i ≡ Ok Done → At m T env (i + 1) es whole
    step_done e =
        let n = now_in a.laid a.same h in
        let ends : end_of ps i ≡ i + 1 = asked a.shaped _ i (Ok Done) n.here.inside e in
        record {
          shaped = a.shaped;
          bnd = slots_of ps i;
          jobs = n.js;
          laid = subst (λ k. Laid ps env k (slots_of ps i) es n.js) ends n.tail;
          same = read_as env i es n (Ok Done) e;
        }

    pub step_binds : {env' : List ℕ} (new : List ℕ) → reads m T (take (slots_of ps i) env) i ≡ Ok (Binds new) → Entered ps i env env' new → At m T env' (i + 1) es whole
    step_binds new e ent =
        let n = now_in a.laid a.same h in
        let one = asked a.shaped _ i (Ok (Binds new)) n.here.inside e in
        let Γ = take (slots_of ps i) env in
        record {
          shaped = a.shaped;
          bnd = slots_of ps (i + 1);
          jobs = job n.f (extended (row ps i) Γ new) (i + 1) ∷ n.js;
          laid = child ps a.shaped i n.f Γ one ent refl (within n.tail) (omega (arith, n.here.fuel))
              (omega (arith, n.here.deep, one.child.depth_is))
              (widen (more_slots ps a.shaped i one) (moved ps a.shaped i one ent n.tail));
          same = read_as env i es n (Ok (Binds new)) e;
        }

    pub step_splits : reads m T (take (slots_of ps i) env) i ≡ Ok Splits → At m T env (i + 1) es whole
    step_splits e =
        let n = now_in a.laid a.same h in
        let sh = a.shaped in
        let two = (asked sh _ i (Ok Splits) n.here.inside e).0 in
        let none = (asked sh _ i (Ok Splits) n.here.inside e).1 in
        let Γ = take (slots_of ps i) env in
        let left : slots_of ps (i + 1) ≡ slots_of ps i = omega (arith, two.left.slots_are, none) in
        let right : slots_of ps (end_of ps (i + 1)) ≡ slots_of ps i = omega (arith, two.right.slots_are, none) in
        let under = within n.tail in
        let later = sh.above (end_of ps (i + 1)) two.right.inside in
        let sooner = sh.above (i + 1) two.left.inside in
        record {
          shaped = sh;
          bnd = slots_of ps (i + 1);
          jobs = job n.f Γ (i + 1) ∷ job n.f Γ (end_of ps (i + 1)) ∷ n.js;
          laid = next n.f Γ
              (record {
                inside = two.left.inside;
                low = le_refl _;
                before = omega (arith, under, later, sooner, two.ends);
                fuel = omega (arith, n.here.fuel);
                deep = omega (arith, n.here.deep, two.left.depth_is);
              })
              (ap (λ k. take k env) left)
              (next n.f Γ
              (record {
                inside = two.right.inside;
                low = omega (arith, left, right);
                before = omega (arith, under, later, two.ends);
                fuel = omega (arith, n.here.fuel, sooner);
                deep = omega (arith, n.here.deep, two.right.depth_is);
              })
              (ap (λ k. take k env) right)
              (subst (λ k. Laid ps env k (slots_of ps (end_of ps (i + 1))) es n.js) (sym two.ends)
              (widen (omega (arith, right)) n.tail)));
          same = sym (first_of_assoc (check_from m T n.f Γ (i + 1)) (check_from m T n.f Γ (end_of ps (i + 1))) (joint m T n.js)) ∙ read_as env i es n (Ok Splits) e;
        }

    room : i < length ps → length es ≤ enclosing ps i → (row ps i).kind ≡ Aopen → length es < 6
    room inside deep opened = omega (arith, deep, a.shaped.deep i inside opened)

    pub step_room : (new : List ℕ) → reads m T (take (slots_of ps i) env) i ≡ Ok (Opens new) → length es < 6
    step_room new e =
        let n = now_in a.laid a.same h in
        room n.here.inside n.here.deep (asked a.shaped _ i (Ok (Opens new)) n.here.inside e).1

    pub step_room_once : reads m T (take (slots_of ps i) env) i ≡ Ok OpensOnce → length es < 6
    step_room_once e =
        let n = now_in a.laid a.same h in
        room n.here.inside n.here.deep (asked a.shaped _ i (Ok OpensOnce) n.here.inside e).1

    -- an open key: what follows is read once
    pub step_once : {env' : List ℕ} → reads m T (take (slots_of ps i) env) i ≡ Ok OpensOnce → Entered ps i env env' zeros → At m T env' (i + 1) (last i ∷ es) whole
    step_once e ent =
        let n = now_in a.laid a.same h in
        let sh = a.shaped in
        let one = (asked sh _ i (Ok OpensOnce) n.here.inside e).0 in
        let opened = (asked sh _ i (Ok OpensOnce) n.here.inside e).1 in
        let Γ = take (slots_of ps i) env in
        record {
          shaped = sh;
          bnd = slots_of ps (i + 1);
          jobs = job n.f (extended (row ps i) Γ zeros) (i + 1) ∷ n.js;
          laid = child ps sh i n.f Γ one ent refl (le_refl _) (omega (arith, n.here.fuel)) (omega (arith, n.here.deep, deeper ps sh i one opened))
              (back i one.ends n.here.inside (step_room_once e) (widen (more_slots ps sh i one) (moved ps sh i one ent n.tail)));
          same = read_as env i es n (Ok OpensOnce) e;
        }

    -- a declared key: what follows is read twice
    pub step_twice : {env' : List ℕ} (new : List ℕ) → reads m T (take (slots_of ps i) env) i ≡ Ok (Opens new) → Entered ps i env env' new → At m T env' (i + 1) (due i ∷ es) whole
    step_twice new e ent =
        let n = now_in a.laid a.same h in
        let sh = a.shaped in
        let one = (asked sh _ i (Ok (Opens new)) n.here.inside e).0 in
        let opened = (asked sh _ i (Ok (Opens new)) n.here.inside e).1 in
        let Γ = take (slots_of ps i) env in
        record {
          shaped = sh;
          bnd = slots_of ps (i + 1);
          jobs = job n.f (extended (row ps i) Γ new) (i + 1) ∷ job n.f (extended (row ps i) Γ zeros) (i + 1) ∷ n.js;
          laid = child ps sh i n.f Γ one ent refl (le_refl _) (omega (arith, n.here.fuel)) (omega (arith, n.here.deep, deeper ps sh i one opened))
              (again n.f Γ i one.ends
              (record {
                inside = n.here.inside;
                opened = opened;
                low = more_slots ps sh i one;
                before = within n.tail;
                fuel = omega (arith, n.here.fuel);
                deep = n.here.deep;
              })
              (ent.below _ (le_refl _))
              (moved ps sh i one ent n.tail));
          same = sym (first_of_assoc (check_from m T n.f (extended (row ps i) Γ new) (i + 1)) (check_from m T n.f (extended (row ps i) Γ zeros) (i + 1)) (joint m T n.js)) ∙ read_as env i es n (Ok (Opens new)) e;
        }

    pub step_refuses : (x : Misuse) → reads m T (take (slots_of ps i) env) i ≡ Err x → Err (Typing x i) ≡ whole
    step_refuses x e = read_as env i es (now_in a.laid a.same h) (Err x) e

  -- ---- the walk at the end of an aopen

  again_in : (sh : Shaped ps) {env env' : List ℕ} {i b t : ℕ} {es : List Entry} {js : List Job} → Laid ps env i b (due t ∷ es) js → joint m T js ≡ whole
      → i ≡ end_of ps t → Entered ps t env env' zeros → At m T env' (t + 1) (last t ∷ es) whole
  again_in sh (next f Γ k e l) s h ent = absurd (let z : ⊥ = omega arith in z)
  again_in sh {env = env} {env' = env'} {es = es} (again {js = js} f Γ t e w g l) s h ent =
      let one = subst (Family ps t) w.opened (sh.family t w.inside) in
      record {
        shaped = sh;
        bnd = slots_of ps (t + 1);
        jobs = job f (extended (row ps t) Γ zeros) (t + 1) ∷ js;
        laid = child ps sh t f Γ one ent g (le_refl _) w.fuel (omega (arith, w.deep, deeper ps sh t one w.opened))
            (back t one.ends w.inside (omega (arith, w.deep, sh.deep t w.inside w.opened))
            (widen (more_slots ps sh t one) (moved ps sh t one ent (subst (λ k. Laid ps env k (slots_of ps t) es js) e l))));
        same = s;
      }

  pub step_again : {env env' : List ℕ} {i t : ℕ} {es : List Entry} → At m T env i (due t ∷ es) whole → i ≡ end_of ps t → Entered ps t env env' zeros → At m T env' (t + 1) (last t ∷ es) whole
  step_again a e ent = again_in a.shaped a.laid a.same e ent

  back_in : (sh : Shaped ps) {env : List ℕ} {i b t : ℕ} {es : List Entry} {js : List Job} → Laid ps env i b (last t ∷ es) js → joint m T js ≡ whole
      → i ≡ end_of ps t → At m T env i es whole
  back_in sh (next f Γ k e l) s h = absurd (let z : ⊥ = omega arith in z)
  back_in sh {b = b} (back {js = js} t e k d l) s h = record { shaped = sh; bnd = b; jobs = js; laid = l; same = s }

  pub step_back : {env : List ℕ} {i t : ℕ} {es : List Entry} → At m T env i (last t ∷ es) whole → i ≡ end_of ps t → At m T env i es whole
  step_back a e = back_in a.shaped a.laid a.same e

  finish_in : {env : List ℕ} {i b : ℕ} {js : List Job} → Laid ps env i b [] js → joint m T js ≡ whole → length ps ≤ i → Ok tt ≡ whole
  finish_in (done e) s h = s
  finish_in (next f Γ k e l) s h = absurd (let z : ⊥ = omega arith in z)

  pub finish : {env : List ℕ} {i : ℕ} → At m T env i [] whole → length ps ≤ i → Ok tt ≡ whole
  finish a h = finish_in a.laid a.same h

pub start : (m : Meaning) (T : Tables) → Shaped T.processes → At m T (replicate 32 0) 0 [] (rules m T)
start m T sh = record {
  shaped = sh;
  bnd = slots_of T.processes 0;
  jobs = job (length T.processes) (free_names T) 0 ∷ [];
  laid = next (length T.processes) (free_names T)
      (record {
        inside = sh.some;
        low = le_refl _;
        before = sh.some;
        fuel = omega arith;
        deep = omega arith;
      })
      (take-replicate (slots_of T.processes 0) 32 0 (sh.room 0 sh.some))
      (done sh.whole);
  same = first_of_passes _;
}
