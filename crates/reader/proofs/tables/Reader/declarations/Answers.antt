use Rattle.std.proofs.Common.{◌≡◌, ◌-◌, ◌<◌, ◌≢◌, List, [], ◌∷◌, length, reverse, Some, None, Ok, codes, sym, ap, ◌∙◌, arith, rules}
use Rattle.scanning.specs.declared.type_words.TypeWord.{TypeWord}
use Rattle.arrayvec.specs.ArrayVec.{array_vec_len}
use Rattle.std.proofs.lemmas.Bool.{eqb-true, eqb-false}
use Rattle.std.proofs.lemmas.List.{reverse-append}
use Rattle.scanning.specs.Names.{declared}
use Rattle.reader.specs.Cursor.{state}
use Rattle.reader.specs.Tokens.{ahead}
use Rattle.reader.specs.Types.{declarations}
use Rattle.reader.proofs.Declared.{ahead_fails, no_more, no_room, declaration_fails, one_more}
use Rattle.reader.proofs.tables.Reader.declarations.Goals as goal

pub returns-in_err-first-clause-gives : goal.returns-in_err-first-clause-gives
returns-in_err-first-clause-gives c =
    let f = ahead_fails (2184 - length c.loop-first.self.words.items) _ (state c.loop-first.self) c.loop-first.invariant.0 _ c.in_err-first.ensures.gives in
    search rules

pub returns-clause-gives : goal.returns-clause-gives
returns-clause-gives c =
    let h : ahead (codes "type") (state c.loop-first.self) ≡ Ok (None, state c.ahead.new.self) = c.in_ok-first.ensures.gives ∙ ap (λ o. Ok (o, state c.ahead.new.self)) c.in_default.is in
    no_more (2184 - length c.loop-first.self.words.items) _ (state c.loop-first.self) c.loop-first.invariant.0 (state c.ahead.new.self) h

pub returns-then-is_full-clause-gives : goal.returns-then-is_full-clause-gives
returns-then-is_full-clause-gives c =
    let h : ahead (codes "type") (state c.loop-first.self) ≡ Ok (Some c.in-Some.first, state c.ahead.new.self) = c.in_ok-first.ensures.gives ∙ ap (λ o. Ok (o, state c.ahead.new.self)) c.in-Some.is in
    let held : length c.ahead.new.self.words.items ≡ length c.loop-first.self.words.items = ap array_vec_len c.in_ok-first.ensures.same.1 in
    let full : length c.ahead.new.self.words.items ≡ 2184 = eqb-true _ _ (sym c.is_full.ensures.value ∙ c.if-is_full.true) in
    no_room (2184 - length c.loop-first.self.words.items) _ (state c.loop-first.self) c.loop-first.invariant.0 c.in-Some.first (state c.ahead.new.self) h (omega (arith, full))

pub returns-in_err-word-clause-gives : goal.returns-in_err-word-clause-gives
returns-in_err-word-clause-gives c =
    let h : ahead (codes "type") (state c.loop-first.self) ≡ Ok (Some c.in-Some.first, state c.ahead.new.self) = c.in_ok-first.ensures.gives ∙ ap (λ o. Ok (o, state c.ahead.new.self)) c.in-Some.is in
    let held : length c.ahead.new.self.words.items ≡ length c.loop-first.self.words.items = ap array_vec_len c.in_ok-first.ensures.same.1 in
    let open_yet : length c.ahead.new.self.words.items ≢ 2184 = eqb-false _ _ (sym c.is_full.ensures.value ∙ c.if-is_full.false) in
    let left : 0 < 2184 - length c.loop-first.self.words.items = omega (arith, c.is_full.ensures.fits) in
    let f = declaration_fails (2184 - length c.loop-first.self.words.items) _ (state c.loop-first.self) c.loop-first.invariant.0 c.in-Some.first (state c.ahead.new.self) h left _ c.in_err-word.ensures.gives in
    search rules

pub loop-first-preserved : goal.loop-first-preserved
loop-first-preserved c =
    let h : ahead (codes "type") (state c.loop-first.self) ≡ Ok (Some c.in-Some.first, state c.ahead.new.self) = c.in_ok-first.ensures.gives ∙ ap (λ o. Ok (o, state c.ahead.new.self)) c.in-Some.is in
    let held : length c.ahead.new.self.words.items ≡ length c.loop-first.self.words.items = ap array_vec_len c.in_ok-first.ensures.same.1 in
    let open_yet : length c.ahead.new.self.words.items ≢ 2184 = eqb-false _ _ (sym c.is_full.ensures.value ∙ c.if-is_full.false) in
    let left : 0 < 2184 - length c.loop-first.self.words.items = omega (arith, c.is_full.ensures.fits) in
    let f = one_more (2184 - length c.loop-first.self.words.items) _ (state c.loop-first.self) c.loop-first.invariant.0 c.in-Some.first (state c.ahead.new.self) h left c.in_ok-word.word (state c.declaration.new.self) c.in_ok-word.ensures.gives in
    let same : c.declaration.new.self.words ≡ c.loop-first.self.words = c.in_ok-word.ensures.same.1 ∙ c.in_ok-first.ensures.same.1 in
    let n : 2184 - length c.loop-first.self.words.items - 1 ≡ 2184 - length c.push.new.self.items = omega (arith, ap array_vec_len same) in
    let pushed : declared c.push.new.self ≡ c.in_ok-word.word ∷ declared c.declaration.new.self.words = ap reverse c.push.ensures.items ∙ reverse-append c.declaration.new.self.words.items (c.in_ok-word.word ∷ []) in
    let after = λ (ws : List TypeWord). record (state c.declaration.new.self) { words = ws } in
    (f ∙ ap (λ ws. declarations (2184 - length c.loop-first.self.words.items - 1) (after ws)) (sym pushed) ∙ ap (λ m. declarations m (after (declared c.push.new.self))) n, search rules)
