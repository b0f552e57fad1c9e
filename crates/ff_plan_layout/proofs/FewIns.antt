-- A simple graph has one input.
use Rattle.std.proofs.Common.{◌≡◌, ℕ, ◌+◌, ◌==◌, Bool, true, false, not, List, [], ◌∷◌, ◌++◌, length, Option, Some, None, subst, arith}
use Rattle.std.specs.Prelude.{Ok}
use Rattle.std.specs.List.{AllByRecursion, flat_map}
use Rattle.ff_frame.specs.declared.config.ConfigError.TheVariants as config
use Rattle.ff_lang.specs.declared.graph.Graph.{Graph}
use Rattle.ff_words.specs.declared.job.OutputJob.{OutputJob}
use Rattle.ff_graph_links.specs.labels.Labels.{filters_of}
use Rattle.ff_graph_links.specs.labels.Names.{twice_in, unknown_filter}
use Rattle.ff_plan_layout.specs.declared.layout.InPad.{InPad}
use Rattle.ff_plan_layout.specs.declared.layout.Origin.{Origin}
use Rattle.ff_plan_layout.specs.declared.layout.Origin.TheVariants as origin
use Rattle.ff_plan_layout.specs.declared.error.PlanError.TheVariants as fault
use Rattle.ff_plan_layout.specs.Choice.{kind_of}
use Rattle.ff_plan_layout.specs.Labels.{refused}
use Rattle.ff_plan_layout.specs.laws.Limits.{HasFewIns}
use Rattle.ff_plan_layout.specs.LaidOut.{outputs_from, labels_of, graphs_of}
use Rattle.ff_plan_layout.specs.Rules.{Rules, OpenOut, behind, where_so}
use Rattle.ff_plan_layout.specs.Sources.{source_pad}
use Rattle.ff_plan_layout.specs.Streams.{Inside, Passed, through, configured_simple, simply, as_it_is, passed_by, passed_from, as_asked, passed, all_passed, graph_of, null_graph, simple_of, chosen, takes, front_with}
use Rattle.ff_plan_layout.proofs.Among.{all_joined}
use Rattle.ff_plan_layout.proofs.AsAsked.{asked_ok}
use Rattle.ff_plan_layout.proofs.Results.{not_ok, same_ok, behind_ok, unless_ok}

abbrev Few : Passed → Type 0
Few p = AllByRecursion HasFewIns (graph_of p)

through_few : (out : OutputJob) (g : ℕ) (i : InPad) (outs : List OpenOut) (p : Passed) → through out g i outs ≡ Ok p → Few p
through_few out g i [] p h = absurd (not_ok _ p h)
through_few out g i (o ∷ []) p h = subst Few (same_ok _ p h) ((omega arith, tt))
through_few out g i (o ∷ q ∷ os) p h = absurd (not_ok _ p h)

module _ (rules : Rules) where
  simply_few : (out : OutputJob) (g : ℕ) (i : InPad) (graph : Graph) (p : Passed) → simply rules out g i graph ≡ Ok p → Few p
  simply_few out g i graph p h =
      let named = unless_ok (refused (twice_in [] [] (filters_of graph))) _ p h in
      let known = unless_ok (refused (unknown_filter rules.known g 0 (filters_of graph))) _ p named in
      let straight = unless_ok (where_so (rules.loops graph) (fault.Loop g)) _ p known in
      let single = unless_ok (where_so (not (length (rules.open_ins graph) == 1)) (fault.Config g 0 config.Pads)) _ p straight in
      let plain = unless_ok (source_pad g (rules.open_ins graph)) _ p single in
      let last = behind_ok (configured_simple g (rules.configured graph (Some i.head ∷ []))) (through out g i) p plain in
      through_few out g i last.0 p last.2

  bare_few : (out : OutputJob) (i : InPad) (p : Passed) → as_it_is out i ≡ Ok p → Few p
  bare_few out i p h = subst Few (same_ok _ p h) tt

  by_few : (out : OutputJob) (g : ℕ) (i : InPad) (graph : Option Graph) (p : Passed) → passed_by rules out g i graph ≡ Ok p → Few p
  by_few out g i (Some graph) p h = simply_few out g i graph p h
  by_few out g i None p h = simply_few out g i (null_graph (kind_of i.head)) p h

  from_few : (out : OutputJob) (g : ℕ) (i : InPad) (source : Origin) (p : Passed) → passed_from rules out g i source ≡ Ok p → Few p
  from_few out g i (origin.Pad f q) p h = bare_few out i p h
  from_few out g i (origin.Stream s) p h = by_few out g i (simple_of out (kind_of i.head)) p h

  pub row_few : (out : OutputJob) (o g n : ℕ) (is : List InPad) (ps : List Passed) → all_passed rules out o g n is ≡ Ok ps → AllByRecursion HasFewIns (flat_map graph_of ps)
  row_few out o g n [] ps h = subst (λ (qs : List Passed). AllByRecursion HasFewIns (flat_map graph_of qs)) (same_ok [] ps h) tt
  row_few out o g n (i ∷ is) ps h =
      let first = behind_ok (passed rules out o g n i) (λ p. front_with (p ∷ []) (all_passed rules out o (g + length (graph_of p)) (n + 1) is)) ps h in
      let rest = behind_ok (all_passed rules out o (g + length (graph_of first.0)) (n + 1) is) (λ ys. Ok (first.0 ∷ [] ++ ys)) ps first.2 in
      subst (λ (qs : List Passed). AllByRecursion HasFewIns (flat_map graph_of qs)) (same_ok (first.0 ∷ rest.0) ps rest.2)
      (all_joined HasFewIns (graph_of first.0) (flat_map graph_of rest.0)
      (from_few out g i i.source first.0 (asked_ok out o n (passed_from rules out g i i.source) first.0 (unless_ok (where_so (not (takes out n i)) (fault.Takes o n)) (behind (passed_from rules out g i i.source) (as_asked out o n)) first.0 first.1)))
      (row_few out o (g + length (graph_of first.0)) (n + 1) is rest.0 rest.1))

  -- all of the outputs
  pub simple_few : (at : Inside) (o g : ℕ) (used : List (List ℕ)) (before : List InPad) (outs : List OutputJob) (all : List (List Passed)) → outputs_from rules at o g used before outs ≡ Ok all
      → AllByRecursion HasFewIns (flat_map (λ ps. flat_map graph_of ps) all)
  simple_few at o g used before [] all h = subst (λ (qs : List (List Passed)). AllByRecursion HasFewIns (flat_map (λ ps. flat_map graph_of ps) qs)) (same_ok [] all h) tt
  simple_few at o g used before (out ∷ outs) all h =
      let pads = behind_ok (chosen at out o used before) (λ pads. behind (all_passed rules out o g 0 pads) (λ ps. front_with (ps ∷ []) (outputs_from rules at (o + 1) (g + graphs_of ps) (labels_of out ++ used) [] outs))) all h in
      let ps = behind_ok (all_passed rules out o g 0 pads.0) (λ ps. front_with (ps ∷ []) (outputs_from rules at (o + 1) (g + graphs_of ps) (labels_of out ++ used) [] outs)) all pads.2 in
      let rest = behind_ok (outputs_from rules at (o + 1) (g + graphs_of ps.0) (labels_of out ++ used) [] outs) (λ ys. Ok (ps.0 ∷ [] ++ ys)) all ps.2 in
      subst (λ (qs : List (List Passed)). AllByRecursion HasFewIns (flat_map (λ ps. flat_map graph_of ps) qs)) (same_ok (ps.0 ∷ rest.0) all rest.2)
      (all_joined HasFewIns (flat_map graph_of ps.0) (flat_map (λ ps. flat_map graph_of ps) rest.0) (row_few out o g 0 pads.0 ps.0 ps.1)
      (simple_few at (o + 1) (g + graphs_of ps.0) (labels_of out ++ used) [] outs rest.0 rest.1))
