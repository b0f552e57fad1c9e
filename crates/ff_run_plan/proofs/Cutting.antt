-- The cuts of frames at the outputs of a node, one more, and how many there are.
use Rattle.std.proofs.Common.{◌≡◌, ℕ, zero, suc, ◌+◌, ◌<◌, ◌≤◌, List, [], ◌∷◌, ◌++◌, length, take, get_or, slice_get, Option, Some, None, refl, sym, ap, ◌∙◌, arith}
use Rattle.std.specs.List.{filter_map, cons_option}
use Rattle.std.proofs.lemmas.Option.{slice_get-get_or}
use Rattle.ff_trim.specs.declared.counted.OutputCut.{OutputCut}
use Rattle.ff_stream.specs.declared.item.Lane.{Lane}
use Rattle.ff_words.specs.declared.job.OutputJob.{OutputJob}
use Rattle.ff_stream.specs.declared.edges.edge.Edge.{Edge}
use Rattle.ff_stream.specs.edges.Ports.{edges_from, shape_of, lane_of, lanes_out_of}
use Rattle.ff_plan.specs.declared.planned.PlanNode.{PlanNode}
use Rattle.ff_run_plan.specs.Cuts.{cut_at_end, cut_on, cuts_out_of, for_lane}
use Rattle.ff_run_plan.proofs.Tally.{one_kept, one_passed}

none_there : {A : Type 0} (xs : List A) (w : ℕ) → length xs ≤ w → slice_get xs w ≡ None
none_there [] w le = refl
none_there (x ∷ xs) zero le = absurd (omega (arith, le))
none_there (x ∷ xs) (suc w) le = none_there xs w (omega (arith, le))

abbrev lane_by : Option Edge → Option Lane
lane_by None = None
lane_by (Some e) = Some e.lane

lane_is : (edges : List Edge) (w : ℕ) → lane_of edges w ≡ lane_by (slice_get edges w)
lane_is [] w = refl
lane_is (e ∷ es) zero = refl
lane_is (e ∷ es) (suc w) = lane_is es w

module _ (outputs : List OutputJob) (nodes : List PlanNode) (edges : List Edge) where
  abbrev at_edge : ℕ → Option OutputCut
  at_edge w = cut_on outputs nodes (slice_get edges w)

  pub cut_more : (numbers : List ℕ) (k : ℕ) → k < length numbers → (w : ℕ) (d : Edge) (cuts : List OutputCut) → w ≡ get_or numbers k 0 → w < length edges → d ≡ get_or edges w d
      → cuts ≡ filter_map (λ v. cut_on outputs nodes (slice_get edges v)) (take k numbers)
      → cuts ++ for_lane d.lane (cut_at_end outputs (slice_get nodes d.to)) ∷ [] ≡ filter_map (λ v. cut_on outputs nodes (slice_get edges v)) (take (k + 1) numbers)
  cut_more numbers k lt w d cuts e there is h =
      one_kept at_edge numbers k lt (for_lane d.lane (cut_at_end outputs (slice_get nodes d.to))) cuts
      (sym (ap at_edge e) ∙ ap (cut_on outputs nodes) (slice_get-get_or edges w d there ∙ ap (λ (x : Edge). Some x) (sym is))) h

  pub cut_passed : (numbers : List ℕ) (k : ℕ) → k < length numbers → (w : ℕ) (cuts : List OutputCut) → w ≡ get_or numbers k 0 → length edges ≤ w
      → cuts ≡ filter_map (λ v. cut_on outputs nodes (slice_get edges v)) (take k numbers) → cuts ≡ filter_map (λ v. cut_on outputs nodes (slice_get edges v)) (take (k + 1) numbers)
  cut_passed numbers k lt w cuts e there h =
      one_passed at_edge numbers k lt cuts (sym (ap at_edge e) ∙ ap (cut_on outputs nodes) (none_there edges w there)) h

  many_step : (o : Option Edge) (cuts : List OutputCut) (lanes : List Lane) → length cuts ≡ length lanes → length (cons_option (cut_on outputs nodes o) cuts) ≡ length (cons_option (lane_by o) lanes)
  many_step None cuts lanes e = e
  many_step (Some d) cuts lanes e = ap suc e

  many_on : (ws : List ℕ) → length (filter_map (λ w. cut_on outputs nodes (slice_get edges w)) ws) ≡ length (filter_map (lane_of edges) ws)
  many_on [] = refl
  many_on (w ∷ ws) =
      many_step (slice_get edges w) (filter_map at_edge ws) (filter_map (lane_of edges) ws) (many_on ws)
      ∙ ap (λ (o : Option Lane). length (cons_option o (filter_map (lane_of edges) ws))) (sym (lane_is edges w))

  -- as many as lanes
  pub as_many_cuts : (k : ℕ) → length (cuts_out_of outputs nodes edges k) ≡ length (lanes_out_of edges k)
  as_many_cuts k = many_on (edges_from (shape_of edges) edges k)
