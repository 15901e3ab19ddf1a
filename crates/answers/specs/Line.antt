-- The line that reports an answer.
use Rattle.std.specs.Prelude.{ℕ, List, [], ◌∷◌, ◌++◌, codes, decimal}
use Rattle.answers.specs.declared.answer.Answer.{Answer}
use Rattle.answers.specs.declared.answer.Answer.TheVariants.{Accepted, Row, Types, Text}

-- the words of an answer
abbrev pub report : Answer → List ℕ
report (Accepted rows) = codes "accepted " ++ decimal rows
report (Row number row place) = codes "refused " ++ (decimal number ++ (codes " row " ++ (decimal row ++ (codes " at " ++ decimal place))))
report (Types number row) = codes "refused " ++ (decimal number ++ (codes " type " ++ decimal row))
report (Text number place) = codes "refused " ++ (decimal number ++ (codes " at " ++ decimal place))

-- the line feed
abbrev pub line_feed : List ℕ
line_feed = 10 ∷ []

abbrev pub line : Answer → List ℕ
line answer = report answer ++ line_feed
