use Rattle.std.proofs.Common.{◌≡◌, ◌++◌, drop}
use Rattle.std.specs.List.{filter, list_any}
use Rattle.ff_words.specs.maps.Choice.{numbered}
use Rattle.ff_words.specs.declared.maps.streams.Stream.{Stream}
use Rattle.ff_plan_layout.specs.Layout.{shows}
use Rattle.ff_plan.proofs.origins.add_used.Given as goal

abbrev pub invariant-loop-number : goal.invariant-loop-number
invariant-loop-number l = l.used.items ++ filter (λ (s : Stream). list_any (shows s.at) l.origins) (numbered l.input l.number (drop l.number l.heads)) ≡ l.initial.used.items ++ filter (λ (s : Stream). list_any (shows s.at) l.origins) (numbered l.input 0 l.heads)
