use Rattle.std.proofs.Common.{◌-◌, [], codes, sym, ap, ◌∙◌, subst, arith, rules}
use Rattle.rows.specs.declared.process.ProcessKind.TheVariants.{Stop, New, Out, In, Again, Both, If}
use Rattle.scanning.specs.Names.{scoped}
use Rattle.reader.specs.Cursor.{state, Gives}
use Rattle.words.specs.declared.token.Mark.TheVariants.{Bar}
use Rattle.reader.specs.Tokens.{mark, keyword}
use Rattle.reader.specs.Rows.{finish}
use Rattle.reader.specs.Heads.{new_line, out_line, in_line, opening_line, branched, if_line}
use Rattle.reader.specs.Processes.{follow, closed, parallel, choice, process, deeper}
use Rattle.reader.proofs.Steps.{then_ok, then_err}
use Rattle.reader.proofs.Deep.{branch_limit, branch_open, beginning_fails, row_fails, arm, opening_arm, follow_fails, follows, parallel_at, choice_at, not_closed, closes, first_fails, middle_fails, second_fails, both_read, older_then, kept_scoped}
use Rattle.reader.proofs.tables.Reader.+branch_choice_follow_parallel_process.Goals as goal

pub process-returns-in_err-kind-clause-gives : goal.process-returns-in_err-kind-clause-gives
process-returns-in_err-kind-clause-gives t c =
    let f = beginning_fails c.args.left c.args.allow (scoped c.args.scope.now) (state c.args.self.now) _ c.in_err-kind.ensures.gives in
    search rules

pub process-returns-in_err-row-clause-gives : goal.process-returns-in_err-row-clause-gives
process-returns-in_err-row-clause-gives t c =
    let f = row_fails c.args.left c.args.allow (scoped c.args.scope.now) (state c.args.self.now) (c.in_ok-kind.kind, c.in_ok-kind.first) (state c.beginning.new.self) c.in_ok-kind.ensures.gives _ c.in_err-row.ensures.gives in
    search rules

pub process-returns-in-Stop-clause-gives : goal.process-returns-in-Stop-clause-gives
process-returns-in-Stop-clause-gives t c =
    let f = arm c.args.left c.args.allow (scoped c.args.scope.now) (state c.args.self.now) (c.in_ok-kind.kind, c.in_ok-kind.first) (state c.beginning.new.self) c.in_ok-kind.ensures.gives c.in_ok-row.row (state c.open_row.new.self) c.in_ok-row.ensures.gives Stop c.in-Stop.is in
    f

pub process-returns-in_err-name-in-New-clause-gives : goal.process-returns-in_err-name-in-New-clause-gives
process-returns-in_err-name-in-New-clause-gives t c =
    let f = arm c.args.left c.args.allow (scoped c.args.scope.now) (state c.args.self.now) (c.in_ok-kind.kind, c.in_ok-kind.first) (state c.beginning.new.self) c.in_ok-kind.ensures.gives c.in_ok-row.row (state c.open_row.new.self) c.in_ok-row.ensures.gives New c.in-New.is ∙ then_err (new_line (scoped c.args.scope.now) c.in_ok-row.row) (λ ns. follow c.in_ok-row.row ns.items c.args.allow (scoped c.args.scope.now) (deeper c.args.left)) (state c.open_row.new.self) _ c.in_err-name-in-New.ensures.gives in
    search rules

pub process-returns-in_ok-name-in-New-clause-gives : goal.process-returns-in_ok-name-in-New-clause-gives
process-returns-in_ok-name-in-New-clause-gives t c =
    let f = arm c.args.left c.args.allow (scoped c.args.scope.now) (state c.args.self.now) (c.in_ok-kind.kind, c.in_ok-kind.first) (state c.beginning.new.self) c.in_ok-kind.ensures.gives c.in_ok-row.row (state c.open_row.new.self) c.in_ok-row.ensures.gives New c.in-New.is ∙ then_ok (new_line (scoped c.args.scope.now) c.in_ok-row.row) (λ ns. follow c.in_ok-row.row ns.items c.args.allow (scoped c.args.scope.now) (deeper c.args.left)) (state c.open_row.new.self) c.in_ok-name-in-New.name (state c.new_line.new.self) c.in_ok-name-in-New.ensures.gives ∙ ap (λ ns. follow c.in_ok-row.row ns c.args.allow (scoped c.args.scope.now) (deeper c.args.left) (state c.new_line.new.self)) (sym c.deref.ensures.0) in
    subst (λ m. Gives m c.follow.result (state c.follow.new.self)) (sym f) c.follow.ensures.gives

pub process-returns-in_err-out_line-in-Out-clause-gives : goal.process-returns-in_err-out_line-in-Out-clause-gives
process-returns-in_err-out_line-in-Out-clause-gives t c =
    let f = arm c.args.left c.args.allow (scoped c.args.scope.now) (state c.args.self.now) (c.in_ok-kind.kind, c.in_ok-kind.first) (state c.beginning.new.self) c.in_ok-kind.ensures.gives c.in_ok-row.row (state c.open_row.new.self) c.in_ok-row.ensures.gives Out c.in-Out.is ∙ then_err (out_line (scoped c.args.scope.now).names c.in_ok-row.row) (λ u. follow c.in_ok-row.row [] c.args.allow (scoped c.args.scope.now) (deeper c.args.left)) (state c.open_row.new.self) _ c.in_err-out_line-in-Out.ensures.gives in
    search rules

pub process-returns-in_ok-out_line-in-Out-clause-gives : goal.process-returns-in_ok-out_line-in-Out-clause-gives
process-returns-in_ok-out_line-in-Out-clause-gives t c =
    let f = arm c.args.left c.args.allow (scoped c.args.scope.now) (state c.args.self.now) (c.in_ok-kind.kind, c.in_ok-kind.first) (state c.beginning.new.self) c.in_ok-kind.ensures.gives c.in_ok-row.row (state c.open_row.new.self) c.in_ok-row.ensures.gives Out c.in-Out.is ∙ then_ok (out_line (scoped c.args.scope.now).names c.in_ok-row.row) (λ u. follow c.in_ok-row.row [] c.args.allow (scoped c.args.scope.now) (deeper c.args.left)) (state c.open_row.new.self) c.in_ok-out_line-in-Out.field-0 (state c.out_line.new.self) c.in_ok-out_line-in-Out.ensures.gives in
    subst (λ m. Gives m c.follow-in-Out.result (state c.follow-in-Out.new.self)) (sym f) c.follow-in-Out.ensures.gives

pub process-returns-in_err-received-in-In-clause-gives : goal.process-returns-in_err-received-in-In-clause-gives
process-returns-in_err-received-in-In-clause-gives t c =
    let f = arm c.args.left c.args.allow (scoped c.args.scope.now) (state c.args.self.now) (c.in_ok-kind.kind, c.in_ok-kind.first) (state c.beginning.new.self) c.in_ok-kind.ensures.gives c.in_ok-row.row (state c.open_row.new.self) c.in_ok-row.ensures.gives In c.in-In.is ∙ then_err (in_line (scoped c.args.scope.now) c.in_ok-row.row) (λ ns. follow c.in_ok-row.row ns.items c.args.allow (scoped c.args.scope.now) (deeper c.args.left)) (state c.open_row.new.self) _ c.in_err-received-in-In.ensures.gives in
    search rules

pub process-returns-in_ok-received-in-In-clause-gives : goal.process-returns-in_ok-received-in-In-clause-gives
process-returns-in_ok-received-in-In-clause-gives t c =
    let f = arm c.args.left c.args.allow (scoped c.args.scope.now) (state c.args.self.now) (c.in_ok-kind.kind, c.in_ok-kind.first) (state c.beginning.new.self) c.in_ok-kind.ensures.gives c.in_ok-row.row (state c.open_row.new.self) c.in_ok-row.ensures.gives In c.in-In.is ∙ then_ok (in_line (scoped c.args.scope.now) c.in_ok-row.row) (λ ns. follow c.in_ok-row.row ns.items c.args.allow (scoped c.args.scope.now) (deeper c.args.left)) (state c.open_row.new.self) c.in_ok-received-in-In.received (state c.in_line.new.self) c.in_ok-received-in-In.ensures.gives ∙ ap (λ ns. follow c.in_ok-row.row ns c.args.allow (scoped c.args.scope.now) (deeper c.args.left) (state c.in_line.new.self)) (sym c.deref-in-In.ensures.0) in
    subst (λ m. Gives m c.follow-in-In.result (state c.follow-in-In.new.self)) (sym f) c.follow-in-In.ensures.gives

pub process-returns-in_err-opened-in-Sopen-clause-gives : goal.process-returns-in_err-opened-in-Sopen-clause-gives
process-returns-in_err-opened-in-Sopen-clause-gives t c =
    let f = opening_arm c.args.left c.args.allow (scoped c.args.scope.now) (state c.args.self.now) (c.in_ok-kind.kind, c.in_ok-kind.first) (state c.beginning.new.self) c.in_ok-kind.ensures.gives c.in_ok-row.row (state c.open_row.new.self) c.in_ok-row.ensures.gives c.in-Sopen.is ∙ then_err (opening_line (scoped c.args.scope.now) c.in_ok-row.row) (λ ns. follow c.in_ok-row.row ns.items c.args.allow (scoped c.args.scope.now) (deeper c.args.left)) (state c.open_row.new.self) _ c.in_err-opened-in-Sopen.ensures.gives in
    search rules

pub process-returns-in_ok-opened-in-Sopen-clause-gives : goal.process-returns-in_ok-opened-in-Sopen-clause-gives
process-returns-in_ok-opened-in-Sopen-clause-gives t c =
    let f = opening_arm c.args.left c.args.allow (scoped c.args.scope.now) (state c.args.self.now) (c.in_ok-kind.kind, c.in_ok-kind.first) (state c.beginning.new.self) c.in_ok-kind.ensures.gives c.in_ok-row.row (state c.open_row.new.self) c.in_ok-row.ensures.gives c.in-Sopen.is ∙ then_ok (opening_line (scoped c.args.scope.now) c.in_ok-row.row) (λ ns. follow c.in_ok-row.row ns.items c.args.allow (scoped c.args.scope.now) (deeper c.args.left)) (state c.open_row.new.self) c.in_ok-opened-in-Sopen.opened (state c.opening_line.new.self) c.in_ok-opened-in-Sopen.ensures.gives ∙ ap (λ ns. follow c.in_ok-row.row ns c.args.allow (scoped c.args.scope.now) (deeper c.args.left) (state c.opening_line.new.self)) (sym c.deref-in-Sopen.ensures.0) in
    subst (λ m. Gives m c.follow-in-Sopen.result (state c.follow-in-Sopen.new.self)) (sym f) c.follow-in-Sopen.ensures.gives

pub process-returns-in-Again-clause-gives : goal.process-returns-in-Again-clause-gives
process-returns-in-Again-clause-gives t c =
    let f = arm c.args.left c.args.allow (scoped c.args.scope.now) (state c.args.self.now) (c.in_ok-kind.kind, c.in_ok-kind.first) (state c.beginning.new.self) c.in_ok-kind.ensures.gives c.in_ok-row.row (state c.open_row.new.self) c.in_ok-row.ensures.gives Again c.in-Again.is in
    subst (λ m. Gives m c.follow-in-Again.result (state c.follow-in-Again.new.self)) (sym f) c.follow-in-Again.ensures.gives

pub process-returns-then-allow-eq0-clause-gives : goal.process-returns-then-allow-eq0-clause-gives
process-returns-then-allow-eq0-clause-gives t c =
    let f = arm c.args.left c.args.allow (scoped c.args.scope.now) (state c.args.self.now) (c.in_ok-kind.kind, c.in_ok-kind.first) (state c.beginning.new.self) c.in_ok-kind.ensures.gives c.in_ok-row.row (state c.open_row.new.self) c.in_ok-row.ensures.gives Both c.in-Both.is ∙ then_err (branched c.args.allow c.in_ok-kind.first.start) (λ u. parallel c.in_ok-row.row c.args.allow (scoped c.args.scope.now) (deeper c.args.left)) (state c.open_row.new.self) _ (branch_limit c.args.allow c.in_ok-kind.first.start (state c.open_row.new.self) c.if-allow-eq0.true) in
    f

pub process-returns-else-allow-eq0-clause-gives : goal.process-returns-else-allow-eq0-clause-gives
process-returns-else-allow-eq0-clause-gives t c =
    let f = arm c.args.left c.args.allow (scoped c.args.scope.now) (state c.args.self.now) (c.in_ok-kind.kind, c.in_ok-kind.first) (state c.beginning.new.self) c.in_ok-kind.ensures.gives c.in_ok-row.row (state c.open_row.new.self) c.in_ok-row.ensures.gives Both c.in-Both.is ∙ then_ok (branched c.args.allow c.in_ok-kind.first.start) (λ u. parallel c.in_ok-row.row c.args.allow (scoped c.args.scope.now) (deeper c.args.left)) (state c.open_row.new.self) tt (state c.open_row.new.self) (branch_open c.args.allow c.in_ok-kind.first.start (state c.open_row.new.self) c.if-allow-eq0.false) in
    subst (λ m. Gives m c.parallel.result (state c.parallel.new.self)) (sym f) c.parallel.ensures.gives

pub process-returns-in_err-if_line-in-If-clause-gives : goal.process-returns-in_err-if_line-in-If-clause-gives
process-returns-in_err-if_line-in-If-clause-gives t c =
    let f = arm c.args.left c.args.allow (scoped c.args.scope.now) (state c.args.self.now) (c.in_ok-kind.kind, c.in_ok-kind.first) (state c.beginning.new.self) c.in_ok-kind.ensures.gives c.in_ok-row.row (state c.open_row.new.self) c.in_ok-row.ensures.gives If c.in-If.is ∙ then_err (if_line (scoped c.args.scope.now).names c.args.allow c.in_ok-row.row) (λ u. choice c.in_ok-row.row c.args.allow (scoped c.args.scope.now) (deeper c.args.left)) (state c.open_row.new.self) _ c.in_err-if_line-in-If.ensures.gives in
    search rules

pub process-returns-in_ok-if_line-in-If-clause-gives : goal.process-returns-in_ok-if_line-in-If-clause-gives
process-returns-in_ok-if_line-in-If-clause-gives t c =
    let f = arm c.args.left c.args.allow (scoped c.args.scope.now) (state c.args.self.now) (c.in_ok-kind.kind, c.in_ok-kind.first) (state c.beginning.new.self) c.in_ok-kind.ensures.gives c.in_ok-row.row (state c.open_row.new.self) c.in_ok-row.ensures.gives If c.in-If.is ∙ then_ok (if_line (scoped c.args.scope.now).names c.args.allow c.in_ok-row.row) (λ u. choice c.in_ok-row.row c.args.allow (scoped c.args.scope.now) (deeper c.args.left)) (state c.open_row.new.self) c.in_ok-if_line-in-If.field-0 (state c.if_line.new.self) c.in_ok-if_line-in-If.ensures.gives in
    subst (λ m. Gives m c.choice.result (state c.choice.new.self)) (sym f) c.choice.ensures.gives

pub follow-returns-in_err-process : goal.follow-returns-in_err-process
follow-returns-in_err-process t c =
    let p = c.in_err-process.ensures in
    let f = follow_fails c.args.left c.args.allow (scoped c.args.scope.now) (state c.args.self.now) c.requires.some c.args.row c.args.names.now c.in_err-process.field-0.0 (ap (λ sc. process (c.args.left - 1) c.args.allow sc (state c.args.self.now)) (sym c.bind_all.ensures.bound) ∙ p.gives) in
    record { gives = search rules; same = search rules; older = older_then c.process.new.scope c.bind_all.new.scope c.args.scope.now (omega (arith, c.bind_all.ensures.count)) p.older c.bind_all.ensures.older }

pub follow-returns : goal.follow-returns
follow-returns t c =
    let p = c.in_ok-process.ensures in
    let f = follows c.args.left c.args.allow (scoped c.args.scope.now) (state c.args.self.now) c.requires.some c.args.row c.args.names.now c.in_ok-process.field-0 (state c.process.new.self) (ap (λ sc. process (c.args.left - 1) c.args.allow sc (state c.args.self.now)) (sym c.bind_all.ensures.bound) ∙ p.gives) in
    record { gives = cc (f, c.close_row.ensures.gives); same = search rules; older = older_then c.process.new.scope c.bind_all.new.scope c.args.scope.now (omega (arith, c.bind_all.ensures.count)) p.older c.bind_all.ensures.older }

pub parallel-returns-in_err-branch-clause-gives : goal.parallel-returns-in_err-branch-clause-gives
parallel-returns-in_err-branch-clause-gives t c =
    let f = first_fails (mark Bar) (closed c.args.row) (c.args.allow - 1) (scoped c.args.scope.now) (process (c.args.left - 1)) (state c.args.self.now) _ (parallel_at c.args.left c.args.allow (scoped c.args.scope.now) (state c.args.self.now) c.requires.0 c.args.row) _ c.in_err-branch.ensures.gives in
    search rules

pub parallel-returns-in_err-mark-clause-gives : goal.parallel-returns-in_err-mark-clause-gives
parallel-returns-in_err-mark-clause-gives t c =
    let f = middle_fails (mark Bar) (closed c.args.row) (c.args.allow - 1) (scoped c.args.scope.now) (process (c.args.left - 1)) (state c.args.self.now) _ (parallel_at c.args.left c.args.allow (scoped c.args.scope.now) (state c.args.self.now) c.requires.0 c.args.row) c.in_ok-branch.field-0 (state c.branch-self.new.self) c.in_ok-branch.ensures.gives _ c.in_err-mark.ensures.gives in
    search rules

pub parallel-returns-in_err-branch-2-clause-gives : goal.parallel-returns-in_err-branch-2-clause-gives
parallel-returns-in_err-branch-2-clause-gives t c =
    let e = kept_scoped c.branch-self.new.scope c.args.scope.now c.in_ok-branch.ensures.kept in
    let f = second_fails (mark Bar) (closed c.args.row) (c.args.allow - 1) (scoped c.args.scope.now) (process (c.args.left - 1)) (state c.args.self.now) _ (parallel_at c.args.left c.args.allow (scoped c.args.scope.now) (state c.args.self.now) c.requires.0 c.args.row) c.in_ok-branch.field-0 (state c.branch-self.new.self) c.in_ok-branch.ensures.gives c.in_ok-mark.field-0 (state c.mark.new.self) c.in_ok-mark.ensures.gives _ (ap (λ sc. process (c.args.left - 1) (c.args.allow - 1) sc (state c.mark.new.self)) (sym e) ∙ c.in_err-branch-2.ensures.gives) in
    search rules

pub parallel-returns-in_err-mark-2-clause-gives : goal.parallel-returns-in_err-mark-2-clause-gives
parallel-returns-in_err-mark-2-clause-gives t c =
    let e = kept_scoped c.branch-self.new.scope c.args.scope.now c.in_ok-branch.ensures.kept in
    let f = both_read (mark Bar) (closed c.args.row) (c.args.allow - 1) (scoped c.args.scope.now) (process (c.args.left - 1)) (state c.args.self.now) _ (parallel_at c.args.left c.args.allow (scoped c.args.scope.now) (state c.args.self.now) c.requires.0 c.args.row) c.in_ok-branch.field-0 (state c.branch-self.new.self) c.in_ok-branch.ensures.gives c.in_ok-mark.field-0 (state c.mark.new.self) c.in_ok-mark.ensures.gives c.in_ok-branch-2.field-0 (state c.branch-self-2.new.self) (ap (λ sc. process (c.args.left - 1) (c.args.allow - 1) sc (state c.mark.new.self)) (sym e) ∙ c.in_ok-branch-2.ensures.gives) ∙ not_closed c.args.row (state c.branch-self-2.new.self) _ c.in_err-mark-2.ensures.gives in
    search rules

pub parallel-returns-clause-gives : goal.parallel-returns-clause-gives
parallel-returns-clause-gives t c =
    let e = kept_scoped c.branch-self.new.scope c.args.scope.now c.in_ok-branch.ensures.kept in
    let f = both_read (mark Bar) (closed c.args.row) (c.args.allow - 1) (scoped c.args.scope.now) (process (c.args.left - 1)) (state c.args.self.now) _ (parallel_at c.args.left c.args.allow (scoped c.args.scope.now) (state c.args.self.now) c.requires.0 c.args.row) c.in_ok-branch.field-0 (state c.branch-self.new.self) c.in_ok-branch.ensures.gives c.in_ok-mark.field-0 (state c.mark.new.self) c.in_ok-mark.ensures.gives c.in_ok-branch-2.field-0 (state c.branch-self-2.new.self) (ap (λ sc. process (c.args.left - 1) (c.args.allow - 1) sc (state c.mark.new.self)) (sym e) ∙ c.in_ok-branch-2.ensures.gives) ∙ closes c.args.row (state c.branch-self-2.new.self) c.in_ok-mark-2.field-0 (state c.mark-2.new.self) c.in_ok-mark-2.ensures.gives in
    cc (f, c.close_row.ensures.gives)

pub choice-returns-in_err-branch-clause-gives : goal.choice-returns-in_err-branch-clause-gives
choice-returns-in_err-branch-clause-gives t c =
    let f = first_fails (keyword (codes "else")) (finish c.args.row) (c.args.allow - 1) (scoped c.args.scope.now) (process (c.args.left - 1)) (state c.args.self.now) _ (choice_at c.args.left c.args.allow (scoped c.args.scope.now) (state c.args.self.now) c.requires.0 c.args.row) _ c.in_err-branch.ensures.gives in
    search rules

pub choice-returns-in_err-keyword-clause-gives : goal.choice-returns-in_err-keyword-clause-gives
choice-returns-in_err-keyword-clause-gives t c =
    let f = middle_fails (keyword (codes "else")) (finish c.args.row) (c.args.allow - 1) (scoped c.args.scope.now) (process (c.args.left - 1)) (state c.args.self.now) _ (choice_at c.args.left c.args.allow (scoped c.args.scope.now) (state c.args.self.now) c.requires.0 c.args.row) c.in_ok-branch.field-0 (state c.branch-self.new.self) c.in_ok-branch.ensures.gives _ c.in_err-keyword.ensures.gives in
    search rules

pub choice-returns-in_err-branch-2-clause-gives : goal.choice-returns-in_err-branch-2-clause-gives
choice-returns-in_err-branch-2-clause-gives t c =
    let e = kept_scoped c.branch-self.new.scope c.args.scope.now c.in_ok-branch.ensures.kept in
    let f = second_fails (keyword (codes "else")) (finish c.args.row) (c.args.allow - 1) (scoped c.args.scope.now) (process (c.args.left - 1)) (state c.args.self.now) _ (choice_at c.args.left c.args.allow (scoped c.args.scope.now) (state c.args.self.now) c.requires.0 c.args.row) c.in_ok-branch.field-0 (state c.branch-self.new.self) c.in_ok-branch.ensures.gives c.in_ok-keyword.field-0 (state c.keyword.new.self) c.in_ok-keyword.ensures.gives _ (ap (λ sc. process (c.args.left - 1) (c.args.allow - 1) sc (state c.keyword.new.self)) (sym e) ∙ c.in_err-branch-2.ensures.gives) in
    search rules

pub choice-returns-clause-gives : goal.choice-returns-clause-gives
choice-returns-clause-gives t c =
    let e = kept_scoped c.branch-self.new.scope c.args.scope.now c.in_ok-branch.ensures.kept in
    let f = both_read (keyword (codes "else")) (finish c.args.row) (c.args.allow - 1) (scoped c.args.scope.now) (process (c.args.left - 1)) (state c.args.self.now) _ (choice_at c.args.left c.args.allow (scoped c.args.scope.now) (state c.args.self.now) c.requires.0 c.args.row) c.in_ok-branch.field-0 (state c.branch-self.new.self) c.in_ok-branch.ensures.gives c.in_ok-keyword.field-0 (state c.keyword.new.self) c.in_ok-keyword.ensures.gives c.in_ok-branch-2.field-0 (state c.branch-self-2.new.self) (ap (λ sc. process (c.args.left - 1) (c.args.allow - 1) sc (state c.keyword.new.self)) (sym e) ∙ c.in_ok-branch-2.ensures.gives) in
    cc (f, c.close_row.ensures.gives)
