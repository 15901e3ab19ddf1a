use Rattle.std.proofs.Common.{◌-◌, ◌<◌, get_or, ⊎_elim, arith, rules}
use Rattle.levels.specs.Means.{means}
use Rattle.rows.specs.Tables.{tables}
use Rattle.shape.proofs.Passed.{passed}
use Rattle.shape.proofs.Reached
use Rattle.checking.proofs.Turn.{turn_as, weight_as, begins, shaped, top_inside, known, read_ok, on_done, on_splits, on_binds, space, space_once, on_opens, on_opens_once, on_refuses, falls, falls_opens, falls_opens_once, on_again, falls_again, on_back, falls_back}
use Rattle.checking.proofs.verdict.walk.Goals as goal
use Rattle.checking.proofs.verdict.walk.Goals.{in-Done, in-Binds, in-Opens, in-OpensOnce}

pub turn-init : goal.turn-init
turn-init g c =
    let m = means g.S.Scheme c.args.s.now in
    begins m (tables c.args.l) (Reached.shaped m (tables c.args.l) c.requires)

pub stop_at-requires-clause-known : goal.stop_at-requires-clause-known
stop_at-requires-clause-known g c = known c.turn.invariant

pub judge_at-requires-clause-room : goal.judge_at-requires-clause-room
judge_at-requires-clause-room g c = omega (arith, (passed (means g.S.Scheme c.args.s.now) (tables c.args.l) c.requires).few_terms)

pub returns-in-Err : goal.returns-in-Err
returns-in-Err g c = on_refuses c.turn.invariant c.stop_at.ensures c.if-i-stop_at.true _ _ c.in-Err.is c.judge_at.ensures

pub bounds-stack-top : goal.bounds-stack-top
bounds-stack-top g c =
    space c.turn.invariant c.stop_at.ensures c.if-i-stop_at.true c.in-Opens.new
    (read_ok c.turn.invariant c.stop_at.ensures c.if-i-stop_at.true _ _ _ c.in-Ok.is c.in-Opens.is c.judge_at.ensures)

pub bounds-stack-top-in-OpensOnce : goal.bounds-stack-top-in-OpensOnce
bounds-stack-top-in-OpensOnce g c =
    space_once c.turn.invariant c.stop_at.ensures c.if-i-stop_at.true
    (read_ok c.turn.invariant c.stop_at.ensures c.if-i-stop_at.true _ _ _ c.in-Ok.is c.in-OpensOnce.is c.judge_at.ensures)

pub bounds-due-top : goal.bounds-due-top
bounds-due-top g c =
    space c.turn.invariant c.stop_at.ensures c.if-i-stop_at.true c.in-Opens.new
    (read_ok c.turn.invariant c.stop_at.ensures c.if-i-stop_at.true _ _ _ c.in-Ok.is c.in-Opens.is c.judge_at.ensures)

pub bounds-due-top-in-OpensOnce : goal.bounds-due-top-in-OpensOnce
bounds-due-top-in-OpensOnce g c =
    space_once c.turn.invariant c.stop_at.ensures c.if-i-stop_at.true
    (read_ok c.turn.invariant c.stop_at.ensures c.if-i-stop_at.true _ _ _ c.in-Ok.is c.in-OpensOnce.is c.judge_at.ensures)

pub turn-smaller-then-i-stop_at : goal.turn-smaller-then-i-stop_at
turn-smaller-then-i-stop_at g c =
    let t = c.turn.invariant in
    let e = c.stop_at.ensures in
    let h = c.if-i-stop_at.true in
    elim c.match-judgement.branch [
      | in-Done w ↦ weight_as _ _ _ w.top-is w.stack-is w.due-is (falls t e h)
      | in-Binds w ↦ weight_as _ _ _ w.top-is w.stack-is w.due-is (falls t e h)
      | in-Opens w ↦
          weight_as _ _ _ w.top-is w.stack-is w.due-is
          (falls_opens t e h w.in-Opens.new (read_ok t e h _ _ _ c.in-Ok.is w.in-Opens.is c.judge_at.ensures))
      | in-OpensOnce w ↦
          weight_as _ _ _ w.top-is w.stack-is w.due-is
          (falls_opens_once t e h (read_ok t e h _ _ _ c.in-Ok.is w.in-OpensOnce.is c.judge_at.ensures))
    ]

pub turn-preserved-then-i-stop_at : goal.turn-preserved-then-i-stop_at
turn-preserved-then-i-stop_at g c =
    let t = c.turn.invariant in
    let e = c.stop_at.ensures in
    let h = c.if-i-stop_at.true in
    elim c.match-judgement.branch [
      | in-Done w ↦
          turn_as w.env-is w.top-is w.stack-is w.due-is
          (⊎_elim (λ done. on_done t e h (read_ok t e h _ _ _ c.in-Ok.is done c.judge_at.ensures))
          (λ splits. on_splits t e h (read_ok t e h _ _ _ c.in-Ok.is splits c.judge_at.ensures)) w.in-Done.is)
      | in-Binds w ↦
          turn_as w.env-is w.top-is w.stack-is w.due-is
          (on_binds t e h w.enter.new.env w.in-Binds.new (read_ok t e h _ _ _ c.in-Ok.is w.in-Binds.is c.judge_at.ensures)
          (record { below = w.enter.ensures.below; within = w.enter.ensures.within }) w.enter.auto.env)
      | in-Opens w ↦
          turn_as w.env-is w.top-is w.stack-is w.due-is
          (on_opens t e h w.enter-in-Opens.new.env w.in-Opens.new (read_ok t e h _ _ _ c.in-Ok.is w.in-Opens.is c.judge_at.ensures)
          (record { below = w.enter-in-Opens.ensures.below; within = w.enter-in-Opens.ensures.within }) w.enter-in-Opens.auto.env)
      | in-OpensOnce w ↦
          turn_as w.env-is w.top-is w.stack-is w.due-is
          (on_opens_once t e h w.enter-in-OpensOnce.new.env (read_ok t e h _ _ _ c.in-Ok.is w.in-OpensOnce.is c.judge_at.ensures)
          (record { below = w.enter-in-OpensOnce.ensures.below; within = w.enter-in-OpensOnce.ensures.within }) w.enter-in-OpensOnce.auto.env)
    ]

pub bounds-rows-i-then-due-top : goal.bounds-rows-i-then-due-top
bounds-rows-i-then-due-top g c = top_inside c.turn.invariant (omega arith)

pub overflow_add-i-then-due-top : goal.overflow_add-i-then-due-top
overflow_add-i-then-due-top g c =
    let small : get_or c.turn.stack (c.turn.top - 1) 0 < 512 = omega (arith, top_inside c.turn.invariant (omega arith), (shaped c.turn.invariant).short) in
    search rules

pub turn-smaller-then-due-top : goal.turn-smaller-then-due-top
turn-smaller-then-due-top g c = falls_again c.turn.invariant (omega arith) c.if-due-top.true

pub turn-preserved-then-due-top : goal.turn-preserved-then-due-top
turn-preserved-then-due-top g c =
    on_again c.turn.invariant c.enter-then-due-top.new.env (omega arith) c.stop_at.ensures c.if-i-stop_at.false c.if-due-top.true
    (record { below = c.enter-then-due-top.ensures.below; within = c.enter-then-due-top.ensures.within }) c.enter-then-due-top.auto.env

pub turn-smaller : goal.turn-smaller
turn-smaller g c = falls_back c.turn.invariant (omega arith) c.stop_at.ensures c.if-i-stop_at.false c.if-due-top.false

pub turn-preserved : goal.turn-preserved
turn-preserved g c = on_back c.turn.invariant (omega arith) c.stop_at.ensures c.if-i-stop_at.false c.if-due-top.false
