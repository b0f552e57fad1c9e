use Rattle.std.proofs.Common.{take}
use Rattle.ff_words.specs.maps.Choice.{IsLargest, lists, all_streams}
use Rattle.ff_words.proofs.maps.choice.largest.Given as goal

abbrev pub invariant-loop-input : goal.invariant-loop-input
invariant-loop-input l = IsLargest l.kind (all_streams (lists (take l.input l.heads))) l.best
