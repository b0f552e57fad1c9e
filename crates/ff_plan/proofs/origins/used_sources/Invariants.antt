use Rattle.std.proofs.Common.{◌≡◌, ◌+◌, ◌++◌, drop}
use Rattle.std.specs.List.{filter, list_any}
use Rattle.ff_words.specs.declared.maps.streams.Stream.{Stream}
use Rattle.ff_plan_layout.specs.Layout.{shows}
use Rattle.ff_plan_layout.specs.Sources.{source_streams}
use Rattle.ff_plan.proofs.origins.used_sources.Given as goal

abbrev pub invariant-loop-number : goal.invariant-loop-number
invariant-loop-number l = l.used.items ++ filter (λ (s : Stream). list_any (shows s.at) l.origins) (source_streams (l.inputs + l.number) (drop l.number l.made)) ≡ filter (λ (s : Stream). list_any (shows s.at) l.origins) (source_streams l.inputs l.made)
