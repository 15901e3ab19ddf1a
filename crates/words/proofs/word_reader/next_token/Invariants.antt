use Rattle.std.proofs.Common.{◌≡◌, drop}
use Rattle.words.specs.Scan.{begun_by, outside, scan}
use Rattle.words.proofs.word_reader.next_token.Given as goal

abbrev pub invariant-loop-at : goal.invariant-loop-at
invariant-loop-at l = (scan outside l.from (drop l.from l.text) ≡ scan l.reader l.at (drop l.at l.text)) × begun_by l.at l.reader
