use Rattle.std.proofs.Common.{◌≡◌, ◌++◌, drop}
use Rattle.ff_words.specs.maps.Choice.{places, numbered, of_kind}
use Rattle.ff_words.proofs.maps.selecting.of_kind.Given as goal

abbrev pub invariant-loop-stream : goal.invariant-loop-stream
invariant-loop-stream l =
    l.refs.items ++ places (of_kind l.kind (numbered l.input l.stream (drop l.stream l.heads))) ≡ places (of_kind l.kind (numbered l.input 0 l.heads))
