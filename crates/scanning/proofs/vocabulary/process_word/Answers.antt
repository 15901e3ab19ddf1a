use Rattle.std.proofs.Common.{◌≡◌, codes, refl, arith, rules}
use Rattle.std.proofs.lemmas.Slice.Eq.{text_from_reads}
use Rattle.scanning.proofs.vocabulary.process_word.Goals as goal

pub returns-in-verify : goal.returns-in-verify
returns-in-verify c =
    let e : c.args.w.now ≡ codes "verify" = text_from_reads c.args.w.now (codes "verify") (omega arith) (search rules) in
    rw e refl
