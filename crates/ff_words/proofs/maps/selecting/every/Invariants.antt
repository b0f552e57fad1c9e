use Rattle.std.proofs.Common.{◌≡◌, ◌++◌, drop}
use Rattle.ff_words.specs.maps.Choice.{places, numbered}
use Rattle.ff_words.proofs.maps.selecting.every.Given as goal

abbrev pub invariant-loop-stream : goal.invariant-loop-stream
invariant-loop-stream l = l.refs.items ++ places (numbered l.input l.stream (drop l.stream l.heads)) ≡ places (numbered l.input 0 l.heads)
