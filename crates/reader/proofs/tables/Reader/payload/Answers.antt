use Rattle.std.proofs.Common.{◌≡◌, ◌+◌, ◌-◌, ◌<◌, true, false, Ok, sym, ap, ◌∙◌, subst, arith, rules}
use Rattle.words.specs.declared.token.Mark.TheVariants.{Close}
use Rattle.reader.specs.declared.parts.Parts.{Parts}
use Rattle.reader.specs.Cursor.{state, Gives}
use Rattle.reader.specs.Tokens.{comma}
use Rattle.reader.specs.Lists.{added, series}
use Rattle.reader.specs.Types.{payload_type, fifth_type}
use Rattle.reader.proofs.Series.{one_too_many, item_fails, comma_fails, list_ends, goes_on}
use Rattle.reader.proofs.tables.Reader.payload.Goals as goal

pub returns-in_err-item-clause-gives : goal.returns-in_err-item-clause-gives
returns-in_err-item-clause-gives c =
    let some : 0 < 4 - c.loop-parts.parts.count = omega arith in
    let f = item_fails added (λ qs. payload_type) (λ qs. fifth_type) Close (4 - c.loop-parts.parts.count) c.loop-parts.parts some _ (state c.loop-parts.self) c.loop-parts.invariant.1 _ c.in_err-item.ensures.gives in
    search rules

pub returns-in_err-more-clause-gives : goal.returns-in_err-more-clause-gives
returns-in_err-more-clause-gives c =
    let some : 0 < 4 - c.loop-parts.parts.count = omega arith in
    let f = comma_fails added (λ qs. payload_type) (λ qs. fifth_type) Close (4 - c.loop-parts.parts.count) c.loop-parts.parts some _ (state c.loop-parts.self) c.loop-parts.invariant.1 c.in_ok-item.item (state c.payload_type.new.self) c.in_ok-item.ensures.gives _ c.in_err-more.ensures.gives in
    search rules

pub returns-then-not-more-clause-gives : goal.returns-then-not-more-clause-gives
returns-then-not-more-clause-gives c =
    let some : 0 < 4 - c.loop-parts.parts.count = omega arith in
    let k : comma Close (state c.payload_type.new.self) ≡ Ok (false, state c.comma.new.self) = c.in_ok-more.ensures.gives ∙ ap (λ m. Ok (m, state c.comma.new.self)) c.if-not-more.true in
    list_ends added (λ qs. payload_type) (λ qs. fifth_type) Close (4 - c.loop-parts.parts.count) c.loop-parts.parts some _ (state c.loop-parts.self) c.loop-parts.invariant.1 c.in_ok-item.item (state c.payload_type.new.self) c.in_ok-item.ensures.gives (state c.comma.new.self) k ∙ ap (λ ps. Ok (ps, state c.comma.new.self)) (sym c.push.ensures)

pub loop-parts-preserved : goal.loop-parts-preserved
loop-parts-preserved c =
    let some : 0 < 4 - c.loop-parts.parts.count = omega arith in
    let k : comma Close (state c.payload_type.new.self) ≡ Ok (true, state c.comma.new.self) = c.in_ok-more.ensures.gives ∙ ap (λ m. Ok (m, state c.comma.new.self)) c.if-not-more.false in
    let f = goes_on added (λ qs. payload_type) (λ qs. fifth_type) Close (4 - c.loop-parts.parts.count) c.loop-parts.parts some _ (state c.loop-parts.self) c.loop-parts.invariant.1 c.in_ok-item.item (state c.payload_type.new.self) c.in_ok-item.ensures.gives (state c.comma.new.self) k in
    let m : c.push.new.self.count ≡ c.loop-parts.parts.count + 1 = ap (λ (p : Parts). p.count) c.push.ensures in
    let n : 4 - c.loop-parts.parts.count - 1 ≡ 4 - c.push.new.self.count = omega arith in
    (omega arith, f ∙ (λ i. series added (λ qs. payload_type) (λ qs. fifth_type) Close (n i) (sym c.push.ensures i) (state c.comma.new.self)), search rules)

pub returns-clause-gives : goal.returns-clause-gives
returns-clause-gives c =
    let z : 4 - c.loop-parts.parts.count ≡ 0 = omega arith in
    let f = c.loop-parts.invariant.1 ∙ one_too_many added (λ qs. payload_type) (λ qs. fifth_type) Close (4 - c.loop-parts.parts.count) c.loop-parts.parts (state c.loop-parts.self) z in
    subst (λ m. Gives m c.fifth_type.result (state c.fifth_type.new.self)) (sym f) c.fifth_type.ensures.gives
