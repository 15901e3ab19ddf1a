use Rattle.std.proofs.Common.{◌≡◌, length, replicate, sym, ap, ◌∙◌, subst, arith}
use Rattle.reader.specs.Whole.{zero_type, zero_process, zero_term, sizes_of, Told}
use Rattle.reader.proofs.Told.{too_long, fits, accepted, refused}
use Rattle.reader.proofs.whole.read_with_scope.Goals as goal

pub returns-then-text-gt-LONGEST-clause-answer : goal.returns-then-text-gt-LONGEST-clause-answer
returns-then-text-gt-LONGEST-clause-answer c =
    let n = sizes_of c.args.types.now c.args.processes.now c.args.terms.now c.args.places.now in
    (too_long c.args.text.now c.args.level n c.if-text-gt-LONGEST.true, c.clear.ensures.types, c.clear.ensures.processes, c.clear.ensures.terms, c.clear.ensures.places)

pub returns-then-is_err-clause-answer : goal.returns-then-is_err-clause-answer
returns-then-is_err-clause-answer c =
    let n = sizes_of c.args.types.now c.args.processes.now c.args.terms.now c.args.places.now in
    let m = fits c.args.text.now c.args.level n c.if-text-gt-LONGEST.false c.clear.new.types c.clear.new.processes c.clear.new.terms c.clear.new.places c.clear.ensures.types c.clear.ensures.processes c.clear.ensures.terms c.clear.ensures.places in
    let told = subst (λ x. Told x c.read_into-answer.result c.read_into-answer.new.types c.read_into-answer.new.processes c.read_into-answer.new.terms c.read_into-answer.new.places) (sym m) c.read_into-answer.ensures.told in
    let a : length c.read_into-answer.new.types ≡ length c.args.types.now = omega arith in
    let b : length c.read_into-answer.new.processes ≡ length c.args.processes.now = omega arith in
    let d : length c.read_into-answer.new.terms ≡ length c.args.terms.now = omega arith in
    let e : length c.read_into-answer.new.places ≡ length c.args.places.now = omega arith in
    refused c.args.text.now c.args.level n c.read_into-answer.result _ _ _ _ (sym c.is_err.ensures.value ∙ c.if-is_err.true) told
    _ _ _ _ (c.clear-then-is_err.ensures.types ∙ ap (λ k. replicate k zero_type) a) (c.clear-then-is_err.ensures.processes ∙ ap (λ k. replicate k zero_process) b) (c.clear-then-is_err.ensures.terms ∙ ap (λ k. replicate k zero_term) d) (c.clear-then-is_err.ensures.places ∙ ap (λ k. replicate k 0) e)

pub returns-else-is_err : goal.returns-else-is_err
returns-else-is_err c =
    let n = sizes_of c.args.types.now c.args.processes.now c.args.terms.now c.args.places.now in
    let m = fits c.args.text.now c.args.level n c.if-text-gt-LONGEST.false c.clear.new.types c.clear.new.processes c.clear.new.terms c.clear.new.places c.clear.ensures.types c.clear.ensures.processes c.clear.ensures.terms c.clear.ensures.places in
    let told = subst (λ x. Told x c.read_into-answer.result c.read_into-answer.new.types c.read_into-answer.new.processes c.read_into-answer.new.terms c.read_into-answer.new.places) (sym m) c.read_into-answer.ensures.told in
    let q = accepted c.args.text.now c.args.level n c.read_into-answer.result _ _ _ _ (sym c.is_err.ensures.value ∙ c.if-is_err.false) told in
    record { answer = q.0; sound = q.1; never_20_or_23 = q.2; kept = c.read_into-answer.ensures.kept }
