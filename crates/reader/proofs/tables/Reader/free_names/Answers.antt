use Rattle.std.proofs.Common.{◌≡◌, ◌-◌, ◌<◌, true, false, Ok, sym, ap, ◌∙◌, subst, arith, rules}
use Rattle.words.specs.declared.token.Mark.TheVariants.{Semicolon}
use Rattle.scanning.specs.Names.{scoped}
use Rattle.reader.specs.Cursor.{state, Leaves}
use Rattle.reader.specs.Tokens.{comma}
use Rattle.reader.specs.Names.{bound, free_name, one_too_many, free_names}
use Rattle.reader.proofs.Series.{one_too_many as no_room, item_fails, comma_fails, list_ends, goes_on}
use Rattle.reader.proofs.tables.Reader.free_names.Goals as goal

pub returns-in_err-item-clause-gives : goal.returns-in_err-item-clause-gives
returns-in_err-item-clause-gives c =
    let some : 0 < 32 - c.loop-scope.scope.count = omega arith in
    let f = item_fails bound (free_name) (one_too_many) Semicolon (32 - c.loop-scope.scope.count) (scoped c.loop-scope.scope) some _ (state c.loop-scope.self) c.loop-scope.invariant.0 _ c.in_err-item.ensures.gives in
    search rules

pub returns-in_err-more-clause-gives : goal.returns-in_err-more-clause-gives
returns-in_err-more-clause-gives c =
    let some : 0 < 32 - c.loop-scope.scope.count = omega arith in
    let f = comma_fails bound (free_name) (one_too_many) Semicolon (32 - c.loop-scope.scope.count) (scoped c.loop-scope.scope) some _ (state c.loop-scope.self) c.loop-scope.invariant.0 c.in_ok-item.item (state c.free_name.new.self) c.in_ok-item.ensures.gives _ c.in_err-more.ensures.gives in
    search rules

pub returns-then-not-more-clause-gives : goal.returns-then-not-more-clause-gives
returns-then-not-more-clause-gives c =
    let some : 0 < 32 - c.loop-scope.scope.count = omega arith in
    let k : comma Semicolon (state c.free_name.new.self) ≡ Ok (false, state c.comma.new.self) = c.in_ok-more.ensures.gives ∙ ap (λ m. Ok (m, state c.comma.new.self)) c.if-not-more.true in
    let f = list_ends bound (free_name) (one_too_many) Semicolon (32 - c.loop-scope.scope.count) (scoped c.loop-scope.scope) some _ (state c.loop-scope.self) c.loop-scope.invariant.0 c.in_ok-item.item (state c.free_name.new.self) c.in_ok-item.ensures.gives (state c.comma.new.self) k in
    f ∙ ap (λ ns. Ok (ns, state c.comma.new.self)) (sym c.bind.ensures.bound)

pub loop-scope-preserved : goal.loop-scope-preserved
loop-scope-preserved c =
    let some : 0 < 32 - c.loop-scope.scope.count = omega arith in
    let k : comma Semicolon (state c.free_name.new.self) ≡ Ok (true, state c.comma.new.self) = c.in_ok-more.ensures.gives ∙ ap (λ m. Ok (m, state c.comma.new.self)) c.if-not-more.false in
    let f = goes_on bound (free_name) (one_too_many) Semicolon (32 - c.loop-scope.scope.count) (scoped c.loop-scope.scope) some _ (state c.loop-scope.self) c.loop-scope.invariant.0 c.in_ok-item.item (state c.free_name.new.self) c.in_ok-item.ensures.gives (state c.comma.new.self) k in
    let n : 32 - c.loop-scope.scope.count - 1 ≡ 32 - c.bind.new.scope.count = omega arith in
    (f ∙ ap (λ ns. free_names (32 - c.loop-scope.scope.count - 1) ns (state c.comma.new.self)) (sym c.bind.ensures.bound) ∙ ap (λ m. free_names m (scoped c.bind.new.scope) (state c.comma.new.self)) n, search rules)

pub returns-clause-gives : goal.returns-clause-gives
returns-clause-gives c =
    let z : 32 - c.loop-scope.scope.count ≡ 0 = omega arith in
    let f = c.loop-scope.invariant.0 ∙ no_room bound (free_name) (one_too_many) Semicolon (32 - c.loop-scope.scope.count) (scoped c.loop-scope.scope) (state c.loop-scope.self) z in
    subst (λ m. Leaves m c.one_too_many.result (scoped c.loop-scope.scope) (state c.one_too_many.new.self)) (sym f) c.one_too_many.ensures.gives
