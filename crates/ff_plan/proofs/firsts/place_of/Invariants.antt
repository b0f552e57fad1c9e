use Rattle.std.proofs.Common.{◌≡◌, ◌+◌, drop}
use Rattle.std.specs.List.{position_or_len}
use Rattle.ff_words.specs.declared.maps.streams.Stream.{Stream}
use Rattle.ff_plan_layout.specs.Layout.{same_ref}
use Rattle.ff_plan.proofs.firsts.place_of.Given as goal

abbrev pub invariant-loop-number : goal.invariant-loop-number
invariant-loop-number l = l.number + position_or_len (λ (k : Stream). same_ref k.at l.at) (drop l.number l.streams) ≡ position_or_len (λ (k : Stream). same_ref k.at l.at) l.streams
