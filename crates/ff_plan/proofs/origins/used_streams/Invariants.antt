use Rattle.std.proofs.Common.{◌≡◌, ◌++◌, drop}
use Rattle.std.specs.List.{filter, list_any}
use Rattle.ff_words.specs.maps.Choice.{lists, streams_from}
use Rattle.ff_words.specs.declared.maps.streams.Stream.{Stream}
use Rattle.ff_plan_layout.specs.Layout.{shows}
use Rattle.ff_plan.proofs.origins.used_streams.Given as goal

abbrev pub invariant-loop-input : goal.invariant-loop-input
invariant-loop-input l = l.used.items ++ filter (λ (s : Stream). list_any (shows s.at) l.origins) (streams_from l.input (lists (drop l.input l.heads))) ≡ filter (λ (s : Stream). list_any (shows s.at) l.origins) (streams_from 0 (lists l.heads))
