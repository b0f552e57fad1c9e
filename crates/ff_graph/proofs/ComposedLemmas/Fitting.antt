-- Filters that are ready fit the edges of the plan of their drawing.
use Rattle.std.proofs.Common.{◌≡◌, ℕ, zero, suc, ◌<◌, List, [], ◌∷◌, length, map, replicate, slice_get, slice_index_or, Option, None, Some, refl, ap, sym, ◌∙◌, subst, arith}
use Rattle.std.proofs.lemmas.List.{length-replicate}
use Rattle.ff_stream.specs.declared.item.Item.{Item}
use Rattle.ff_filter.specs.Views.{View}
use Rattle.ff_graph_links.specs.declared.pads.drawn.Pad.{Pad}
use Rattle.ff_graph_dag.specs.declared.graph.Node.{Node}
use Rattle.ff_graph_dag.specs.declared.graph.Port.{Port}
use Rattle.ff_graph_dag.specs.declared.graph.Plan.{Plan}
use Rattle.ff_graph_dag.specs.laws.Dags.{Spot, held_at}
use Rattle.ff_graph_dag.specs.laws.Graphs.{no_spot, spot_at, Fits}
use Rattle.ff_graph_dag.specs.laws.Parts.{AreNew}
use Rattle.ff_graph_dag.specs.laws.wiring.Wires.{edges_up, ins_from, outs_from, wires_of, ends_of, starts_of, IsWired}
use Rattle.ff_graph_dag.specs.wiring.Flows.{port_of_source, placed, placed_pads, placed_counts}
use Rattle.ff_graph.specs.laws.composed.Ready.{new_spot, IsReady, AreReady}
use Rattle.ff_graph.proofs.ComposedLemmas.Elements.{some_same, no_some, got, or_got, mapped, map_size}

ups_size : (ps : List (Option Port)) (k i n : ℕ) → length (edges_up ps k i n) ≡ n
ups_size ps k i zero = refl
ups_size ps k i (suc n) = ap (λ (m : ℕ). suc m) (ups_size ps k (suc i) n)

ins_at : (ps : List (Option Port)) (k : ℕ) (fed : List (List (Option Port))) (j : ℕ) (fs : List (Option Port)) (ws : List ℕ) → slice_get fed j ≡ Some fs
    → slice_get (ins_from ps k fed) j ≡ Some ws → length ws ≡ length fs
ins_at ps k [] j fs ws e g = no_some fs e
ins_at ps k (x ∷ fed) zero fs ws e g =
    ap (λ (us : List ℕ). length us) (sym (some_same (edges_up ps k 0 (length x)) ws g)) ∙ ups_size ps k 0 (length x)
    ∙ ap (λ (y : List (Option Port)). length y) (some_same x fs e)
ins_at ps k (x ∷ fed) (suc j) fs ws e g = ins_at ps (suc k) fed j fs ws e g

outs_at : (ps : List (Option Port)) (k : ℕ) (counts : List ℕ) (j n : ℕ) (ws : List ℕ) → slice_get counts j ≡ Some n
    → slice_get (outs_from ps k counts) j ≡ Some ws → length ws ≡ n
outs_at ps k [] j n ws e g = no_some n e
outs_at ps k (x ∷ counts) zero n ws e g =
    ap (λ (us : List ℕ). length us) (sym (some_same (edges_up ps k 0 x) ws g)) ∙ ups_size ps k 0 x ∙ some_same x n e
outs_at ps k (x ∷ counts) (suc j) n ws e g = outs_at ps (suc k) counts j n ws e g

outs_size : (ps : List (Option Port)) (k : ℕ) (counts : List ℕ) → length (outs_from ps k counts) ≡ length counts
outs_size ps k [] = refl
outs_size ps k (x ∷ counts) = ap (λ (n : ℕ). suc n) (outs_size ps (suc k) counts)

none_held : (n i : ℕ) → held_at (replicate n (let x : Option Item = None in x)) i ≡ None
none_held zero i = refl
none_held (suc n) zero = refl
none_held (suc n) (suc i) = none_held n i

module _ (sources : List (List (Option Pad))) (counts : List ℕ) where
  pub ready_size : (ks : List ℕ) (vs : List View) → AreReady sources counts ks vs → length vs ≡ length ks
  ready_size [] [] r = refl
  ready_size [] (v ∷ vs) r = absurd r
  ready_size (k ∷ ks) [] r = absurd r
  ready_size (k ∷ ks) (v ∷ vs) r = ap (λ (n : ℕ). suc n) (ready_size ks vs r.1)

  all_new : (ks : List ℕ) (vs : List View) → AreReady sources counts ks vs → AreNew (map (λ v. new_spot v) vs)
  all_new [] [] r = tt
  all_new [] (v ∷ vs) r = absurd r
  all_new (k ∷ ks) [] r = absurd r
  all_new (k ∷ ks) (v ∷ vs) r = (record { view = r.0.new; held = λ i. none_held (length v.ins) i }, all_new ks vs r.1)

  -- the one of this place
  ready_at : (ks : List ℕ) (vs : List View) → AreReady sources counts ks vs → (j k : ℕ) (v : View) → slice_get ks j ≡ Some k → slice_get vs j ≡ Some v
      → IsReady sources counts k v
  ready_at [] vs r j k v e g = no_some k e
  ready_at (x ∷ ks) [] r j k v e g = no_some v g
  ready_at (x ∷ ks) (y ∷ vs) r zero k v e g =
      subst (λ (z : View). IsReady sources counts k z) (some_same y v g) (subst (λ (n : ℕ). IsReady sources counts n y) (some_same x k e) r.0)
  ready_at (x ∷ ks) (y ∷ vs) r (suc j) k v e g = ready_at ks vs r.1 j k v e g

module _ (sources : List (List (Option Pad))) (order counts : List ℕ) (opens outs : List Pad) (vs : List View) (r : AreReady sources counts order vs)
    (p : Plan) (w : IsWired (placed order sources) (placed_counts order counts) (placed_pads order opens) (placed_pads order outs) p)
    (ss : List Spot) (are : ss ≡ map (λ v. new_spot v) vs) where
  abbrev all_ends : List (Option Port)
  all_ends = ends_of (wires_of (placed order sources) (placed_pads order opens))

  abbrev all_starts : List (Option Port)
  all_starts = starts_of (wires_of (placed order sources) (placed_pads order opens)) (placed_pads order outs)

  nodes_size : length p.nodes.items ≡ length order
  nodes_size =
      sym (map_size (λ (m : Node). m.outs.items) p.nodes.items)
      ∙ ap (λ (us : List (List ℕ)). length us) w.outs ∙ outs_size all_starts 0 (placed_counts order counts)
      ∙ map_size (λ (k : ℕ). slice_index_or counts k 0) order

  spots_size : length ss ≡ length vs
  spots_size = ap (λ (xs : List Spot). length xs) are ∙ map_size (λ (v : View). new_spot v) vs

  pub size : length ss ≡ length p.nodes.items
  size = spots_size ∙ ready_size sources counts order vs r ∙ sym nodes_size

  pub new : AreNew ss
  new = subst AreNew (sym are) (all_new sources counts order vs r)

  fits_at : (j k : ℕ) (v : View) (n : Node) → slice_get order j ≡ Some k → slice_get vs j ≡ Some v → slice_get p.nodes.items j ≡ Some n → Fits (new_spot v) n
  fits_at j k v n ok ov on =
      let ready : IsReady sources counts k v = ready_at sources counts order vs r j k v ok ov in
      let row = mapped (λ (f : ℕ). map (λ (s : Option Pad). port_of_source order s) (slice_index_or sources f [])) order j k ok in
      let count = mapped (λ (f : ℕ). slice_index_or counts f 0) order j k ok in
      let edges_in = sym (ap (λ (us : List (List ℕ)). slice_get us j) w.ins) ∙ mapped (λ (m : Node). m.ins.items) p.nodes.items j n on in
      let edges_out = sym (ap (λ (us : List (List ℕ)). slice_get us j) w.outs) ∙ mapped (λ (m : Node). m.outs.items) p.nodes.items j n on in
      record {
        ins = ins_at all_ends 0 (placed order sources) j (map (λ (s : Option Pad). port_of_source order s) (slice_index_or sources k [])) n.ins.items row edges_in
            ∙ map_size (λ (s : Option Pad). port_of_source order s) (slice_index_or sources k []) ∙ ready.ins;
        outs = outs_at all_starts 0 (placed_counts order counts) j (slice_index_or counts k 0) n.outs.items count edges_out ∙ ready.outs;
        held = length-replicate (length v.ins) None;
      }

  pub fits : (j : ℕ) (m : Node) → j < length ss → Fits (spot_at ss j) (slice_index_or p.nodes.items j m)
  fits j m lt =
      let views = spots_size in
      let many = ready_size sources counts order vs r in
      let nodes = nodes_size in
      let v = got vs j (omega (arith, lt, views)) in
      let k = got order j (omega (arith, lt, views, many)) in
      let n = got p.nodes.items j (omega (arith, lt, views, many, nodes)) in
      let spot : spot_at ss j ≡ new_spot v.0 = ap (λ (xs : List Spot). spot_at xs j) are
      ∙ or_got (map (λ (x : View). new_spot x) vs) j no_spot (new_spot v.0) (mapped (λ (x : View). new_spot x) vs j v.0 v.1) in
      let node : slice_index_or p.nodes.items j m ≡ n.0 = or_got p.nodes.items j m n.0 n.1 in
      subst (λ (s : Spot). Fits s (slice_index_or p.nodes.items j m)) (sym spot)
      (subst (λ (x : Node). Fits (new_spot v.0) x) (sym node) (fits_at j k.0 v.0 n.0 k.1 v.1 n.1))
