use Rattle.std.proofs.Common.{take, ◌<◌, ◌^◌}
use Rattle.std.specs.List.{All}
use Rattle.std.specs.Vec.{vec_len}
use Rattle.ff_rows_calls.proofs.maps.are_few.Given as goal

abbrev pub invariant-loop-streams : goal.invariant-loop-streams
invariant-loop-streams l = All (λ v. vec_len v < 2 ^ 32) (take l.streams-index l.heads)
