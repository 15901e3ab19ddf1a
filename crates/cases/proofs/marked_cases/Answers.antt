use Rattle.cases.proofs.marked_cases.Goals as goal
use Rattle.cases.proofs.Table.{marked_cases}

pub returns-clause-hold : goal.returns-clause-hold
returns-clause-hold c = marked_cases
