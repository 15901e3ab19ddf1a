use Rattle.std.proofs.Common.{◌≡◌, ◌+◌, ◌-◌, ◌<◌, true, false, Ok, sym, ap, ◌∙◌, subst, arith, rules}
use Rattle.scanning.specs.Names.{scoped}
use Rattle.reader.specs.declared.parts.Parts.{Parts}
use Rattle.reader.specs.Cursor.{state, Gives}
use Rattle.reader.specs.Tokens.{comma}
use Rattle.reader.specs.Lists.{none, added, series}
use Rattle.reader.specs.Terms.{composite, term, fifth_term}
use Rattle.reader.proofs.Unfold.{before_bracket, in_bracket}
use Rattle.reader.proofs.Zeros.{no_parts}
use Rattle.reader.proofs.Series.{one_too_many, item_fails, comma_fails, list_ends, goes_on}
use Rattle.reader.proofs.tables.Reader.+list_term.Goals as goal

pub term-returns-in_err-head-clause-gives : goal.term-returns-in_err-head-clause-gives
term-returns-in_err-head-clause-gives t c = before_bracket c.args.allow (scoped c.args.scope.now).names (state c.args.self.now) _ _ (search rules)

pub term-returns-in_err-inner-in-KeyOf-clause-gives : goal.term-returns-in_err-inner-in-KeyOf-clause-gives
term-returns-in_err-inner-in-KeyOf-clause-gives t c = before_bracket c.args.allow (scoped c.args.scope.now).names (state c.args.self.now) _ _ (search rules)

pub term-returns-in_err-inner-in-Under-clause-gives : goal.term-returns-in_err-inner-in-Under-clause-gives
term-returns-in_err-inner-in-Under-clause-gives t c = before_bracket c.args.allow (scoped c.args.scope.now).names (state c.args.self.now) _ _ (search rules)

pub term-returns-in-Name-clause-gives : goal.term-returns-in-Name-clause-gives
term-returns-in-Name-clause-gives t c = before_bracket c.args.allow (scoped c.args.scope.now).names (state c.args.self.now) _ _ (search rules)

pub term-returns-in_err-key-in-KeyOf-clause-gives : goal.term-returns-in_err-key-in-KeyOf-clause-gives
term-returns-in_err-key-in-KeyOf-clause-gives t c = in_bracket c.args.allow (scoped c.args.scope.now).names (state c.args.self.now) _ _ c.in_ok-inner-in-KeyOf.inner c.in_ok-inner-in-KeyOf.ensures.falls (search rules)

pub term-returns-in_err-mark-in-KeyOf-clause-gives : goal.term-returns-in_err-mark-in-KeyOf-clause-gives
term-returns-in_err-mark-in-KeyOf-clause-gives t c = in_bracket c.args.allow (scoped c.args.scope.now).names (state c.args.self.now) _ _ c.in_ok-inner-in-KeyOf.inner c.in_ok-inner-in-KeyOf.ensures.falls (search rules)

pub term-returns-in_ok-mark-in-KeyOf-clause-gives : goal.term-returns-in_ok-mark-in-KeyOf-clause-gives
term-returns-in_ok-mark-in-KeyOf-clause-gives t c =
    let row : c.under.result ≡ composite c.in-KeyOf.kind none c.in_ok-key-in-KeyOf.key = c.under.ensures ∙ ap (λ ps. composite c.in-KeyOf.kind ps c.in_ok-key-in-KeyOf.key) (no_parts c.default.result c.default.ensures) in
    in_bracket c.args.allow (scoped c.args.scope.now).names (state c.args.self.now) _ _ c.in_ok-inner-in-KeyOf.inner c.in_ok-inner-in-KeyOf.ensures.falls (search (rules, row))

pub term-returns-in_err-parts-in-Under-clause-gives : goal.term-returns-in_err-parts-in-Under-clause-gives
term-returns-in_err-parts-in-Under-clause-gives t c = in_bracket c.args.allow (scoped c.args.scope.now).names (state c.args.self.now) _ _ c.in_ok-inner-in-Under.inner c.in_ok-inner-in-Under.ensures.falls (search rules)

pub term-returns-in_err-key-in-Under-clause-gives : goal.term-returns-in_err-key-in-Under-clause-gives
term-returns-in_err-key-in-Under-clause-gives t c = in_bracket c.args.allow (scoped c.args.scope.now).names (state c.args.self.now) _ _ c.in_ok-inner-in-Under.inner c.in_ok-inner-in-Under.ensures.falls (search rules)

pub term-returns-in_err-mark-in-Under-clause-gives : goal.term-returns-in_err-mark-in-Under-clause-gives
term-returns-in_err-mark-in-Under-clause-gives t c = in_bracket c.args.allow (scoped c.args.scope.now).names (state c.args.self.now) _ _ c.in_ok-inner-in-Under.inner c.in_ok-inner-in-Under.ensures.falls (search rules)

pub term-returns-in_ok-mark-in-Under-clause-gives : goal.term-returns-in_ok-mark-in-Under-clause-gives
term-returns-in_ok-mark-in-Under-clause-gives t c = in_bracket c.args.allow (scoped c.args.scope.now).names (state c.args.self.now) _ _ c.in_ok-inner-in-Under.inner c.in_ok-inner-in-Under.ensures.falls (search rules)

pub list-returns-in_err-item-clause-gives : goal.list-returns-in_err-item-clause-gives
list-returns-in_err-item-clause-gives t c =
    let some : 0 < 4 - c.loop-parts.parts.count = omega arith in
    let f = item_fails added (λ qs. term c.args.allow (scoped c.args.scope.now).names) (λ qs. fifth_term (scoped c.args.scope.now).names) c.args.stop (4 - c.loop-parts.parts.count) c.loop-parts.parts some _ (state c.loop-parts.self) c.loop-parts.invariant.1 _ c.in_err-item.ensures.gives in
    search rules

pub list-returns-in_err-more-clause-gives : goal.list-returns-in_err-more-clause-gives
list-returns-in_err-more-clause-gives t c =
    let some : 0 < 4 - c.loop-parts.parts.count = omega arith in
    let f = comma_fails added (λ qs. term c.args.allow (scoped c.args.scope.now).names) (λ qs. fifth_term (scoped c.args.scope.now).names) c.args.stop (4 - c.loop-parts.parts.count) c.loop-parts.parts some _ (state c.loop-parts.self) c.loop-parts.invariant.1 c.in_ok-item.item (state c.term.new.self) c.in_ok-item.ensures.gives _ c.in_err-more.ensures.gives in
    search rules

pub list-returns-then-not-more-clause-gives : goal.list-returns-then-not-more-clause-gives
list-returns-then-not-more-clause-gives t c =
    let some : 0 < 4 - c.loop-parts.parts.count = omega arith in
    let k : comma c.args.stop (state c.term.new.self) ≡ Ok (false, state c.comma.new.self) = c.in_ok-more.ensures.gives ∙ ap (λ m. Ok (m, state c.comma.new.self)) c.if-not-more.true in
    list_ends added (λ qs. term c.args.allow (scoped c.args.scope.now).names) (λ qs. fifth_term (scoped c.args.scope.now).names) c.args.stop (4 - c.loop-parts.parts.count) c.loop-parts.parts some _ (state c.loop-parts.self) c.loop-parts.invariant.1 c.in_ok-item.item (state c.term.new.self) c.in_ok-item.ensures.gives (state c.comma.new.self) k ∙ ap (λ ps. Ok (ps, state c.comma.new.self)) (sym c.push.ensures)

pub list-loop-parts-preserved : goal.list-loop-parts-preserved
list-loop-parts-preserved t c =
    let some : 0 < 4 - c.loop-parts.parts.count = omega arith in
    let k : comma c.args.stop (state c.term.new.self) ≡ Ok (true, state c.comma.new.self) = c.in_ok-more.ensures.gives ∙ ap (λ m. Ok (m, state c.comma.new.self)) c.if-not-more.false in
    let f = goes_on added (λ qs. term c.args.allow (scoped c.args.scope.now).names) (λ qs. fifth_term (scoped c.args.scope.now).names) c.args.stop (4 - c.loop-parts.parts.count) c.loop-parts.parts some _ (state c.loop-parts.self) c.loop-parts.invariant.1 c.in_ok-item.item (state c.term.new.self) c.in_ok-item.ensures.gives (state c.comma.new.self) k in
    let m : c.push.new.self.count ≡ c.loop-parts.parts.count + 1 = ap (λ (p : Parts). p.count) c.push.ensures in
    let n : 4 - c.loop-parts.parts.count - 1 ≡ 4 - c.push.new.self.count = omega arith in
    (omega arith, f ∙ (λ i. series added (λ qs. term c.args.allow (scoped c.args.scope.now).names) (λ qs. fifth_term (scoped c.args.scope.now).names) c.args.stop (n i) (sym c.push.ensures i) (state c.comma.new.self)), search rules)

pub list-returns-clause-gives : goal.list-returns-clause-gives
list-returns-clause-gives t c =
    let z : 4 - c.loop-parts.parts.count ≡ 0 = omega arith in
    let f = c.loop-parts.invariant.1 ∙ one_too_many added (λ qs. term c.args.allow (scoped c.args.scope.now).names) (λ qs. fifth_term (scoped c.args.scope.now).names) c.args.stop (4 - c.loop-parts.parts.count) c.loop-parts.parts (state c.loop-parts.self) z in
    subst (λ m. Gives m c.fifth_term.result (state c.fifth_term.new.self)) (sym f) c.fifth_term.ensures.gives
