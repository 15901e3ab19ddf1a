-- What a turn of the walk keeps, and that each turn keeps it.
use Rattle.std.proofs.Common.{◌≡◌, ℕ, ◌+◌, ◌-◌, ◌<◌, ◌≤◌, Bool, true, false, List, ◌∷◌, length, get_or, take, set, replicate, Ok, Err, Result, sym, refl, ap, ◌∙◌, subst, arith, length-set}
use Rattle.std.proofs.lemmas.List.{get_or-take, length-take-le}
use Rattle.levels.specs.Meaning.{Meaning}
use Rattle.rows.specs.declared.process.ProcessRow.{ProcessRow}
use Rattle.rows.specs.Processes.{end_of, slots_of}
use Rattle.rows.specs.Tables.{Tables}
use Rattle.shape.specs.First.{Passes}
use Rattle.shape.proofs.Shaped.{Shaped}
use Rattle.typing.specs.declared.misuse.Misuse.{Misuse}
use Rattle.typing.specs.declared.judging.Judgement.{Judgement}
use Rattle.typing.specs.declared.judging.Judgement.TheVariants.{Done, Binds, Splits, Opens, OpensOnce}
use Rattle.typing.specs.Judging.{zeros, reads}
use Rattle.checking.specs.declared.refusal.Refusal.{Refusal}
use Rattle.checking.specs.declared.refusal.Refusal.TheVariants.{Typing}
use Rattle.checking.specs.Stack.{limit_of}
use Rattle.checking.specs.Verdict.{rules}
use Rattle.checking.proofs.Entries.{Entry, last, entry, held, limit, limit_is, length_held, held_push, held_top, held_again}
use Rattle.checking.proofs.Pending.{At, Entered, within, held_inside, start, finish, step_inside, step_done, step_binds, step_splits, step_once, step_twice, step_room, step_room_once, step_refuses, step_again, step_back}
use Rattle.checking.proofs.Weight.{weight, weight_falls, weight_pushes, weight_again, weight_back}

-- where the walk stands: the row, the types, and the two arrays of the stack
pub record Turn (m : Meaning) (T : Tables) (env : List ℕ) (i top : ℕ) (stack : List ℕ) (dues : List Bool) (whole : Passes Refusal) : Type 0 where
  pub few : top ≤ 6
  pub within_rows : i ≤ length T.processes
  pub env_long : length env ≡ 32
  pub stack_long : length stack ≡ 6
  pub dues_long : length dues ≡ 6
  pub at : At m T env i (held top stack dues) whole

pub begins : (m : Meaning) (T : Tables) → Shaped T.processes → Turn m T (replicate 32 0) 0 0 (replicate 6 0) (replicate 6 false) (rules m T)
begins m T sh = record { few = omega arith; within_rows = omega arith; env_long = refl; stack_long = refl; dues_long = refl; at = start m T sh }

-- the same turn, by equal parts
pub turn_as : {m : Meaning} {T : Tables} {env env' : List ℕ} {i top top' : ℕ} {stack stack' : List ℕ} {dues dues' : List Bool} {whole : Passes Refusal}
    → env' ≡ env → top' ≡ top → stack' ≡ stack → dues' ≡ dues → Turn m T env i top stack dues whole → Turn m T env' i top' stack' dues' whole
turn_as a b c d t = rw (a, b, c, d) t

pub weight_as : (n i w : ℕ) {top top' : ℕ} {stack stack' : List ℕ} {dues dues' : List Bool}
    → top' ≡ top → stack' ≡ stack → dues' ≡ dues → weight n i (held top stack dues) < w → weight n i (held top' stack' dues') < w
weight_as n i w b c d h = rw (b, c, d) h

module _ {m : Meaning} {T : Tables} {env : List ℕ} {i top : ℕ} {stack : List ℕ} {dues : List Bool} {whole : Passes Refusal}
    (t : Turn m T env i top stack dues whole) where
  abbrev ps : List ProcessRow
  ps = T.processes

  -- where the code stops
  abbrev stops : ℕ
  stops = limit_of ps (take top stack)

  abbrev es : List Entry
  es = held top stack dues

  pub shaped : Shaped ps
  shaped = t.at.shaped

  -- below the place where the code stops
  under : {stop : ℕ} → stop ≡ stops → i < stop → i < limit ps es
  under e h = omega (arith, e, limit_is ps top stack dues (omega (arith, t.few, t.stack_long)))

  over : {stop : ℕ} → stop ≡ stops → stop ≤ i → limit ps es ≤ i
  over e h = omega (arith, e, limit_is ps top stack dues (omega (arith, t.few, t.stack_long)))

  topmost : 0 < top → (b : Bool) → get_or dues (top - 1) false ≡ b → At m T env i (entry b (get_or stack (top - 1) 0) ∷ held (top - 1) stack dues) whole
  topmost h b e = subst (λ k. At m T env i k whole) (held_top top stack dues b h e) t.at

  pub top_inside : 0 < top → get_or stack (top - 1) 0 < length ps
  top_inside h = by (get_or dues (top - 1) false) refl
    where
      by : (b : Bool) → get_or dues (top - 1) false ≡ b → get_or stack (top - 1) 0 < length ps
      by true e = held_inside (topmost h true e).laid
      by false e = held_inside (topmost h false e).laid

  pub known : 0 < length (take top stack) → get_or (take top stack) (length (take top stack) - 1) 0 < length ps
  known h =
      let in_stack : top ≤ length stack = omega (arith, t.few, t.stack_long) in
      let some : 0 < top = omega (arith, length-take-le top stack in_stack) in
      let below : top - 1 < top = omega arith in
      rw (length-take-le top stack in_stack, get_or-take top stack (top - 1) 0 below) (top_inside some)

  -- at the end of the innermost aopen
  ends : {stop : ℕ} → 0 < top → stop ≡ stops → stop ≤ i → i ≡ end_of ps (get_or stack (top - 1) 0)
  ends h is le = by (get_or dues (top - 1) false) refl
    where
      by : (b : Bool) → get_or dues (top - 1) false ≡ b → i ≡ end_of ps (get_or stack (top - 1) 0)
      by true e = omega (arith, over is le, ap (limit ps) (held_top top stack dues true h e), within (topmost h true e).laid)
      by false e = omega (arith, over is le, ap (limit ps) (held_top top stack dues false h e), within (topmost h false e).laid)

  -- the code stops at `stop`
  module _ {stop : ℕ} (is : stop ≡ stops) (h : i < stop) where
    pub on : i < length ps
    on = step_inside m T whole t.at (under is h)

    abbrev row_at : Result Judgement Misuse
    row_at = reads m T (take (slots_of ps i) env) i

    pub read_ok : (r : Result Judgement Misuse) (j k : Judgement) → r ≡ Ok j → j ≡ k → r ≡ row_at → row_at ≡ Ok k
    read_ok r j k p q e = sym e ∙ p ∙ ap Ok q

    -- an arm that leaves the stack
    plain_turn : {env' : List ℕ} → length env' ≡ length env → At m T env' (i + 1) es whole → Turn m T env' (i + 1) top stack dues whole
    plain_turn l a =
        record {
          few = t.few;
          within_rows = omega (arith, on);
          env_long = l ∙ t.env_long;
          stack_long = t.stack_long;
          dues_long = t.dues_long;
          at = a;
        }

    pub on_done : row_at ≡ Ok Done → Turn m T env (i + 1) top stack dues whole
    on_done e = plain_turn refl (step_done m T whole t.at (under is h) e)

    pub on_splits : row_at ≡ Ok Splits → Turn m T env (i + 1) top stack dues whole
    on_splits e = plain_turn refl (step_splits m T whole t.at (under is h) e)

    pub on_binds : (env' new : List ℕ) → row_at ≡ Ok (Binds new) → Entered ps i env env' new → length env' ≡ length env
        → Turn m T env' (i + 1) top stack dues whole
    on_binds env' new e ent l = plain_turn l (step_binds m T whole t.at (under is h) new e ent)

    pub space : (new : List ℕ) → row_at ≡ Ok (Opens new) → top < 6
    space new e = omega (arith, step_room m T whole t.at (under is h) new e, length_held top stack dues)

    pub space_once : row_at ≡ Ok OpensOnce → top < 6
    space_once e = omega (arith, step_room_once m T whole t.at (under is h) e, length_held top stack dues)

    pushed : (b : Bool) → top < 6 → held (top + 1) (set stack top i) (set dues top b) ≡ entry b i ∷ es
    pushed b k = held_push top stack dues i b (omega (arith, k, t.stack_long)) (omega (arith, k, t.dues_long))

    -- an arm that pushes the row
    push_turn : {env' : List ℕ} (b : Bool) → top < 6 → length env' ≡ length env → At m T env' (i + 1) (entry b i ∷ es) whole
        → Turn m T env' (i + 1) (top + 1) (set stack top i) (set dues top b) whole
    push_turn {env' = env'} b k l a =
        record {
          few = omega (arith, k);
          within_rows = omega (arith, on);
          env_long = l ∙ t.env_long;
          stack_long = length-set stack top i ∙ t.stack_long;
          dues_long = length-set dues top b ∙ t.dues_long;
          at = subst (λ k. At m T env' (i + 1) k whole) (sym (pushed b k)) a;
        }

    pub on_opens : (env' new : List ℕ) → row_at ≡ Ok (Opens new) → Entered ps i env env' new → length env' ≡ length env
        → Turn m T env' (i + 1) (top + 1) (set stack top i) (set dues top true) whole
    on_opens env' new e ent l = push_turn true (space new e) l (step_twice m T whole t.at (under is h) new e ent)

    pub on_opens_once : (env' : List ℕ) → row_at ≡ Ok OpensOnce → Entered ps i env env' zeros → length env' ≡ length env
        → Turn m T env' (i + 1) (top + 1) (set stack top i) (set dues top false) whole
    on_opens_once env' e ent l = push_turn false (space_once e) l (step_once m T whole t.at (under is h) e ent)

    pub on_refuses : (r : Result Judgement Misuse) (x : Misuse) → r ≡ Err x → r ≡ row_at → Err (Typing x i) ≡ whole
    on_refuses r x p e = step_refuses m T whole t.at (under is h) x (sym e ∙ p)

    pub falls : weight (length ps) (i + 1) es < weight (length ps) i es
    falls = weight_falls (length ps) i es on

    falls_push : (b : Bool) → top < 6 → weight (length ps) (i + 1) (held (top + 1) (set stack top i) (set dues top b)) < weight (length ps) i es
    falls_push b k = rw (pushed b k) (weight_pushes (length ps) i b es (omega (arith, k, length_held top stack dues)))

    pub falls_opens : (new : List ℕ) → row_at ≡ Ok (Opens new) → weight (length ps) (i + 1) (held (top + 1) (set stack top i) (set dues top true)) < weight (length ps) i es
    falls_opens new e = falls_push true (space new e)

    pub falls_opens_once : row_at ≡ Ok OpensOnce → weight (length ps) (i + 1) (held (top + 1) (set stack top i) (set dues top false)) < weight (length ps) i es
    falls_opens_once e = falls_push false (space_once e)

  -- the second reading of the innermost aopen begins
  pub on_again : {stop : ℕ} (env' : List ℕ) → 0 < top → stop ≡ stops → stop ≤ i → get_or dues (top - 1) false ≡ true
      → Entered ps (get_or stack (top - 1) 0) env env' zeros → length env' ≡ length env
      → Turn m T env' (get_or stack (top - 1) 0 + 1) top stack (set dues (top - 1) false) whole
  on_again env' p is h e ent l =
      record {
        few = t.few;
        within_rows = omega (arith, top_inside p);
        env_long = l ∙ t.env_long;
        stack_long = t.stack_long;
        dues_long = length-set dues (top - 1) false ∙ t.dues_long;
        at = subst (λ k. At m T env' (get_or stack (top - 1) 0 + 1) k whole) (sym (held_again top stack dues p (omega (arith, t.few, t.dues_long))))
            (step_again m T whole (topmost p true e) (ends p is h) ent);
      }

  pub falls_again : 0 < top → get_or dues (top - 1) false ≡ true
      → weight (length ps) (get_or stack (top - 1) 0 + 1) (held top stack (set dues (top - 1) false)) < weight (length ps) i es
  falls_again p e =
      subst (λ k. weight (length ps) (get_or stack (top - 1) 0 + 1) k < weight (length ps) i es) (sym (held_again top stack dues p (omega (arith, t.few, t.dues_long))))
      (subst (λ k. weight (length ps) (get_or stack (top - 1) 0 + 1) (last (get_or stack (top - 1) 0) ∷ held (top - 1) stack dues) < weight (length ps) i k) (sym (held_top top stack dues true p e))
      (weight_again (length ps) i (get_or stack (top - 1) 0) (held (top - 1) stack dues) (omega (arith, length_held (top - 1) stack dues, t.few, p)) (top_inside p)))

  -- the innermost aopen is left
  pub on_back : {stop : ℕ} → 0 < top → stop ≡ stops → stop ≤ i → get_or dues (top - 1) false ≡ false → Turn m T env i (top - 1) stack dues whole
  on_back p is h e =
      record {
        few = omega (arith, t.few);
        within_rows = t.within_rows;
        env_long = t.env_long;
        stack_long = t.stack_long;
        dues_long = t.dues_long;
        at = step_back m T whole (topmost p false e) (ends p is h);
      }

  pub falls_back : {stop : ℕ} → 0 < top → stop ≡ stops → stop ≤ i → get_or dues (top - 1) false ≡ false → weight (length ps) i (held (top - 1) stack dues) < weight (length ps) i es
  falls_back p is h e =
      subst (λ k. weight (length ps) i (held (top - 1) stack dues) < weight (length ps) i k) (sym (held_top top stack dues false p e))
      (weight_back (length ps) i (get_or stack (top - 1) 0) (held (top - 1) stack dues) (omega (arith, ends p is h, shaped.above (get_or stack (top - 1) 0) (top_inside p))) (top_inside p))

  pub at_end : {stop : ℕ} → top ≡ 0 → stop ≡ stops → stop ≤ i → Ok tt ≡ whole
  at_end z is h =
      let a = subst (λ k. At m T env i (held k stack dues) whole) z t.at in
      finish m T whole a (omega (arith, is, ap (λ k. limit_of ps (take k stack)) z))
