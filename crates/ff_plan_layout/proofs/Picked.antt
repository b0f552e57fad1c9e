-- One more map of an output, where labels were used before.
use Rattle.std.proofs.Common.{◌≡◌, ℕ, ◌+◌, ◌<◌, List, [], ◌∷◌, ◌++◌, drop, take, length, get_or, refl, sym, ap, ◌∙◌}
use Rattle.std.specs.Prelude.{Ok}
use Rattle.ff_lang.specs.declared.graph.Graph.{Graph}
use Rattle.ff_words.specs.declared.maps.map.MapSpec.{MapSpec}
use Rattle.ff_words.specs.declared.job.OutputJob.{OutputJob}
use Rattle.ff_plan_layout.specs.declared.layout.InPad.{InPad}
use Rattle.ff_plan_layout.specs.laws.Picking.{labels_of_map, used_before, used_by}
use Rattle.ff_plan_layout.specs.Rules.{Planned, behind}
use Rattle.ff_plan_layout.specs.Streams.{Inside, mapped, all_mapped, front_with}
use Rattle.ff_plan_layout.proofs.Fronts.{drop_next, front_front}
use Rattle.ff_plan_layout.proofs.UsedLabels.{before_next}

module _ (inside : Inside) (graphs : List Graph) (earlier : List OutputJob) (out : OutputJob) (o : ℕ) (maps : List MapSpec) where
  abbrev used_at : ℕ → List (List ℕ)
  used_at n = used_by graphs earlier (take n maps)

  abbrev pub from_map : ℕ → Planned (List InPad)
  from_map n = all_mapped inside out o n (used_at n) (drop n maps)

  abbrev pub map_at : ℕ → MapSpec → Planned (List InPad)
  map_at n spec = mapped inside out o n (used_at n) spec.optional spec.from

  pub map_here : (n : ℕ) (spec : MapSpec) (front : List InPad) (whole : Planned (List InPad)) → n < length maps → spec ≡ get_or maps n spec
      → whole ≡ front_with front (from_map n) → whole ≡ front_with front (behind (map_at n spec) (λ pads. front_with pads (from_map (n + 1))))
  map_here n spec front whole lt at w =
      let here : drop n maps ≡ spec ∷ drop (n + 1) maps = drop_next maps n spec lt ∙ ap (λ (m : MapSpec). m ∷ drop (n + 1) maps) (sym at) in
      let used : used_at (n + 1) ≡ labels_of_map spec ++ used_at n =
      before_next labels_of_map (used_before graphs earlier) maps n spec lt ∙ ap (λ (m : MapSpec). labels_of_map m ++ used_at n) (sym at) in
      w ∙ (ap (λ (ms : List MapSpec). front_with front (all_mapped inside out o n (used_at n) ms)) here
      ∙ ap (λ (u : List (List ℕ)). front_with front (behind (map_at n spec) (λ pads. front_with pads (all_mapped inside out o (n + 1) u (drop (n + 1) maps))))) (sym used))

  pub map_next : (n : ℕ) (spec : MapSpec) (front more : List InPad) (whole : Planned (List InPad)) → n < length maps → spec ≡ get_or maps n spec → map_at n spec ≡ Ok more
      → whole ≡ front_with front (from_map n) → whole ≡ front_with (front ++ more) (from_map (n + 1))
  map_next n spec front more whole lt at made w =
      map_here n spec front whole lt at w
      ∙ (ap (λ (r : Planned (List InPad)). front_with front (behind r (λ pads. front_with pads (from_map (n + 1))))) made ∙ front_front front more (from_map (n + 1)))
