use Rattle.std.proofs.Common.{◌≤◌, All, length, take}
use Rattle.ff_sched.proofs.routes.Graphs.are_narrow.Given as goal

abbrev pub invariant-loop-ways : goal.invariant-loop-ways
invariant-loop-ways l = record { narrow : All (λ ways. length ways ≤ 16) (take l.ways-index l.ways-items) }
