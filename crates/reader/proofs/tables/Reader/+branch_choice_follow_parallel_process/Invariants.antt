use Rattle.std.proofs.Common.{◌+◌, ◌*◌}
use Rattle.reader.proofs.tables.Reader.+branch_choice_follow_parallel_process.Given as goal

abbrev pub decreases-parallel : goal.decreases-parallel
decreases-parallel l = 4 * l.left

abbrev pub decreases-choice : goal.decreases-choice
decreases-choice l = 4 * l.left

abbrev pub decreases-branch : goal.decreases-branch
decreases-branch l = 4 * l.left + 2

abbrev pub decreases-follow : goal.decreases-follow
decreases-follow l = 4 * l.left

abbrev pub decreases-process : goal.decreases-process
decreases-process l = 4 * l.left + 1
