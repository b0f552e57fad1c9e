use Rattle.std.proofs.Common.{◌≡◌, map, take, vec_items}
use Rattle.ff_words.specs.maps.Choice.{lists}
use Rattle.ff_run_plan.proofs.work.streams_of.Given as goal

abbrev pub invariant-loop-k : goal.invariant-loop-k
invariant-loop-k g l = lists (vec_items l.streams) ≡ map g.K.Kinds.is.streams (take l.k l.heads)
