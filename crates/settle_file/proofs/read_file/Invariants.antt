use Rattle.std.proofs.Common.{◌-◌, ◌≤◌, vec_len}
use Rattle.settle_file.proofs.read_file.Given as goal

-- no more is kept than may be read
abbrev pub invariant-loop-file : goal.invariant-loop-file
invariant-loop-file g l = vec_len l.file ≤ 65537

abbrev pub decreases-loop-file : goal.decreases-loop-file
decreases-loop-file g l = 65537 - vec_len l.file
