use Rattle.std.proofs.Common.{◌≡◌, drop}
use Rattle.std.specs.List.{flat_map}
use Rattle.ff_words.specs.declared.maps.map.MapSpec.{MapSpec}
use Rattle.ff_graph_links.specs.labels.Labels.{is_one_of}
use Rattle.ff_plan_layout.specs.Streams.{label_in}
use Rattle.ff_plan_layout.proofs.mapping.maps_use.Given as goal

abbrev pub invariant-loop-spec : goal.invariant-loop-spec
invariant-loop-spec l = is_one_of l.label (flat_map (λ (m : MapSpec). label_in m.from) (drop l.spec-index l.maps)) ≡ is_one_of l.label (flat_map (λ (m : MapSpec). label_in m.from) l.maps)
