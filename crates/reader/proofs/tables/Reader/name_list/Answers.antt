use Rattle.std.proofs.Common.{◌≡◌, ◌+◌, ◌-◌, ◌<◌, ◌≤◌, ◌≢◌, length, true, false, Ok, sym, ap, ◌∙◌, subst, arith, rules}
use Rattle.std.proofs.lemmas.Bool.{eqb-true, eqb-false}
use Rattle.std.proofs.lemmas.Result.{IfOk-weaker}
use Rattle.words.specs.declared.token.Mark.TheVariants.{Close}
use Rattle.reader.specs.Cursor.{state, Gives}
use Rattle.reader.specs.Tokens.{comma}
use Rattle.reader.specs.Lists.{series}
use Rattle.reader.specs.Names.{also, new_name, fifth_name}
use Rattle.reader.proofs.Series.{one_too_many, item_fails, comma_fails, list_ends, goes_on}
use Rattle.reader.proofs.tables.Reader.name_list.Goals as goal

pub returns-in_err-item : goal.returns-in_err-item
returns-in_err-item c =
    let open_yet : length c.loop-names.names.items ≢ 4 = eqb-false _ _ (sym c.is_full.ensures.value ∙ c.loop-names-test.true) in
    let some : 0 < 4 - length c.loop-names.names.items = omega (arith, c.is_full.ensures.fits) in
    let at : new_name (c.args.slots + length c.loop-names.names.items) (state c.loop-names.self) ≡ new_name (c.args.slots + c.len.result) (state c.loop-names.self) = ap (λ k. new_name (c.args.slots + k) (state c.loop-names.self)) (sym c.len.ensures.value) in
    let f = item_fails also (λ ns. new_name (c.args.slots + length ns.items)) (λ ns. fifth_name) Close (4 - length c.loop-names.names.items) c.loop-names.names some _ (state c.loop-names.self) c.loop-names.invariant.1 _ (at ∙ c.in_err-item.ensures.gives) in
    record { gives = search rules; same = search rules; room = search rules }

pub returns-in_err-more : goal.returns-in_err-more
returns-in_err-more c =
    let open_yet : length c.loop-names.names.items ≢ 4 = eqb-false _ _ (sym c.is_full.ensures.value ∙ c.loop-names-test.true) in
    let some : 0 < 4 - length c.loop-names.names.items = omega (arith, c.is_full.ensures.fits) in
    let at : new_name (c.args.slots + length c.loop-names.names.items) (state c.loop-names.self) ≡ new_name (c.args.slots + c.len.result) (state c.loop-names.self) = ap (λ k. new_name (c.args.slots + k) (state c.loop-names.self)) (sym c.len.ensures.value) in
    let f = comma_fails also (λ ns. new_name (c.args.slots + length ns.items)) (λ ns. fifth_name) Close (4 - length c.loop-names.names.items) c.loop-names.names some _ (state c.loop-names.self) c.loop-names.invariant.1 c.in_ok-item.item (state c.new_name.new.self) (at ∙ c.in_ok-item.ensures.gives) _ c.in_err-more.ensures.gives in
    record { gives = search rules; same = search rules; room = search rules }

pub returns-then-not-more : goal.returns-then-not-more
returns-then-not-more c =
    let open_yet : length c.loop-names.names.items ≢ 4 = eqb-false _ _ (sym c.is_full.ensures.value ∙ c.loop-names-test.true) in
    let some : 0 < 4 - length c.loop-names.names.items = omega (arith, c.is_full.ensures.fits) in
    let at : new_name (c.args.slots + length c.loop-names.names.items) (state c.loop-names.self) ≡ new_name (c.args.slots + c.len.result) (state c.loop-names.self) = ap (λ k. new_name (c.args.slots + k) (state c.loop-names.self)) (sym c.len.ensures.value) in
    let space : c.args.slots + length c.loop-names.names.items < 32 = omega (arith, c.in_ok-item.ensures.room, c.len.ensures.value) in
    let k : comma Close (state c.new_name.new.self) ≡ Ok (false, state c.comma.new.self) = c.in_ok-more.ensures.gives ∙ ap (λ m. Ok (m, state c.comma.new.self)) c.if-not-more.true in
    let f = list_ends also (λ ns. new_name (c.args.slots + length ns.items)) (λ ns. fifth_name) Close (4 - length c.loop-names.names.items) c.loop-names.names some _ (state c.loop-names.self) c.loop-names.invariant.1 c.in_ok-item.item (state c.new_name.new.self) (at ∙ c.in_ok-item.ensures.gives) (state c.comma.new.self) k in
    record { gives = f ∙ (λ i. Ok (record { items = sym c.push.ensures.items i }, state c.comma.new.self)); same = search rules; room = omega (arith, c.push.ensures.len) }

pub loop-names-preserved : goal.loop-names-preserved
loop-names-preserved c =
    let open_yet : length c.loop-names.names.items ≢ 4 = eqb-false _ _ (sym c.is_full.ensures.value ∙ c.loop-names-test.true) in
    let some : 0 < 4 - length c.loop-names.names.items = omega (arith, c.is_full.ensures.fits) in
    let at : new_name (c.args.slots + length c.loop-names.names.items) (state c.loop-names.self) ≡ new_name (c.args.slots + c.len.result) (state c.loop-names.self) = ap (λ k. new_name (c.args.slots + k) (state c.loop-names.self)) (sym c.len.ensures.value) in
    let space : c.args.slots + length c.loop-names.names.items < 32 = omega (arith, c.in_ok-item.ensures.room, c.len.ensures.value) in
    let k : comma Close (state c.new_name.new.self) ≡ Ok (true, state c.comma.new.self) = c.in_ok-more.ensures.gives ∙ ap (λ m. Ok (m, state c.comma.new.self)) c.if-not-more.false in
    let f = goes_on also (λ ns. new_name (c.args.slots + length ns.items)) (λ ns. fifth_name) Close (4 - length c.loop-names.names.items) c.loop-names.names some _ (state c.loop-names.self) c.loop-names.invariant.1 c.in_ok-item.item (state c.new_name.new.self) (at ∙ c.in_ok-item.ensures.gives) (state c.comma.new.self) k in
    let n : 4 - length c.loop-names.names.items - 1 ≡ 4 - length c.push.new.self.items = omega (arith, c.push.ensures.len) in
    (omega (arith, c.push.ensures.len), f ∙ (λ i. series also (λ ns. new_name (c.args.slots + length ns.items)) (λ ns. fifth_name) Close (n i) (record { items = sym c.push.ensures.items i }) (state c.comma.new.self)), search rules)

pub returns : goal.returns
returns c =
    let full : length c.loop-names.names.items ≡ 4 = eqb-true _ _ (sym c.is_full.ensures.value ∙ c.loop-names-test.false) in
    let z : 4 - length c.loop-names.names.items ≡ 0 = omega (arith, full) in
    let f = c.loop-names.invariant.1 ∙ one_too_many also (λ ns. new_name (c.args.slots + length ns.items)) (λ ns. fifth_name) Close (4 - length c.loop-names.names.items) c.loop-names.names (state c.loop-names.self) z in
    record {
      gives = subst (λ m. Gives m c.fifth_name.result (state c.fifth_name.new.self)) (sym f) c.fifth_name.ensures.gives;
      same = search rules;
      room = IfOk-weaker c.fifth_name.result (λ n. ⊥) (λ n. c.args.slots + length n.items ≤ 32) (λ n h. absurd h) c.fifth_name.ensures.never;
    }
