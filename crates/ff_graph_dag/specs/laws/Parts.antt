-- A graph of filters to which nothing was done stands for the solution of a network of parts.
use Rattle.std.proofs.Common.{◌≡◌, ℕ, zero, suc, ◌<◌, ◌==◌, if◌then◌else◌, Bool, false, cond, replicate, List, [], ◌∷◌, length, map, Option, None}
use Rattle.std.proofs.Common.{slice_index_or, refl, ap, sym, ◌∙◌, arith}
use Rattle.ff_stream.specs.declared.item.Item.{Item}
use Rattle.ff_stream.specs.Ports.{nothing, stream_at}
use Rattle.ff_net.specs.Nets.{Part, put_all, solve_from}
use Rattle.ff_node_filter.specs.Tasks.{listed, ported}
use Rattle.ff_filter.specs.Joins.{Flow, Ports}
use Rattle.ff_filter.specs.Views.{View, IsNew}
use Rattle.ff_filter.specs.laws.Held.{after_held}
use Rattle.ff_graph_dag.specs.declared.graph.Node.{Node}
use Rattle.ff_graph_dag.specs.declared.graph.Port.{Port}
use Rattle.ff_graph_dag.specs.declared.graph.Plan.{Plan}
use Rattle.ff_graph_dag.specs.laws.Dags.{Spot, held_at, spot_shut, reads, comes, gives, after, solve_spots}
use Rattle.ff_graph_dag.specs.laws.Graphs.{spot_at, flag_at, Fits, port_shut, port_ended, port_stopped, graph_view}

-- nothing was fed, given or stopped, and nothing waits
pub record IsNewSpot (s : Spot) : Type 0 where
  pub view : IsNew s.view
  pub held : (i : ℕ) → held_at s.held i ≡ None

abbrev pub AreNew : List Spot → Type 0
AreNew [] = Unit {0}
AreNew (s ∷ ss) = IsNewSpot s × AreNew ss

-- a filter has as many outputs as edges that leave it
abbrev pub FitAll : List Spot → List Node → Type 0
FitAll [] ns = Unit {0}
FitAll (s ∷ ss) [] = Unit {0}
FitAll (s ∷ ss) (n ∷ ns) = (length n.outs.items ≡ length s.view.outs) × FitAll ss ns

-- a filter as a part of a network: its function on lists of streams
abbrev pub part_of : Spot → Node → Part
part_of s n = record { means = ported (length s.view.outs) s.view.rest; source = None; in_lanes = s.view.ins; out_lanes = s.view.outs; ins = n.ins.items; outs = n.outs.items }

abbrev pub parts_of : List Spot → List Node → List Part
parts_of [] ns = []
parts_of (s ∷ ss) [] = []
parts_of (s ∷ ss) (n ∷ ns) = part_of s n ∷ parts_of ss ns

-- what the parts make of these streams on its inputs, at each output
abbrev pub composed : Plan → List Spot → Ports → Ports
composed p ss ext q = reads p.edges.items (solve_from ext (parts_of ss p.nodes.items)) q

listed_at : (n : ℕ) (g : Ports) (q : ℕ) → q < n → stream_at (listed n g) q ≡ g q
listed_at zero g q lt = absurd (omega arith)
listed_at (suc n) g zero lt = refl
listed_at (suc n) g (suc q) lt = listed_at n (λ p. g (suc p)) q (omega arith)

mapped_at : (ws : List ℕ) (σ : Ports) (i : ℕ) → stream_at (map σ ws) i ≡ reads ws σ i
mapped_at [] σ i = refl
mapped_at (w ∷ ws) σ zero = refl
mapped_at (w ∷ ws) σ (suc i) = mapped_at ws σ i

put_same : (os : List ℕ) (g h σ : Ports) → ((o : ℕ) → o < length os → g o ≡ h o) → (w : ℕ) → put_all os g σ w ≡ put_all os h σ w
put_same [] g h σ e w = refl
put_same (o ∷ os) g h σ e w = ap (λ (s : Flow). if o == w then s else put_all os (λ p. g (suc p)) σ w) (e 0 (omega arith))
    ∙ ap (λ (s : Flow). if o == w then h 0 else s) (put_same os (λ p. g (suc p)) (λ p. h (suc p)) σ (λ q lt. e (suc q) (omega arith)) w)

-- one filter
part_gives : (s : Spot) (n : Node) (σ : Ports) → IsNewSpot s → (o : ℕ) → o < length s.view.outs → stream_at ((part_of s n).means (map σ n.ins.items)) o ≡ gives s n σ o
part_gives s n σ f o lt =
    let came : stream_at (map σ n.ins.items) ≡ comes s n σ = λ j i. (mapped_at n.ins.items σ i ∙ ap (λ (h : Option Item). after_held h (reads n.ins.items σ i))
    (sym (f.held i))) j in
    listed_at (length s.view.outs) (s.view.rest (stream_at (map σ n.ins.items))) o lt
    ∙ (ap (λ (c : Ports). s.view.rest c o) came ∙ ap (λ (b : Bool). cond b nothing (s.view.rest (comes s n σ) o)) (sym (f.view.stopped o)))

part_after : (s : Spot) (n : Node) (σ : Ports) → IsNewSpot s → length n.outs.items ≡ length s.view.outs → put_all n.outs.items
    (stream_at ((part_of s n).means (map σ n.ins.items))) σ ≡ after s n σ
part_after s n σ f z = λ j w. put_same n.outs.items (stream_at ((part_of s n).means (map σ n.ins.items))) (gives s n σ) σ
    (λ o lt. part_gives s n σ f o (omega (arith, z, lt))) w j

pub solve_parts : (ss : List Spot) (ns : List Node) (σ : Ports) → AreNew ss → FitAll ss ns → solve_from σ (parts_of ss ns) ≡ solve_spots σ ss ns
solve_parts [] ns σ f z = refl
solve_parts (s ∷ ss) [] σ f z = refl
solve_parts (s ∷ ss) (n ∷ ns) σ f z = ap (λ (τ : Ports). solve_from τ (parts_of ss ns)) (part_after s n σ f.0 z.0) ∙ solve_parts ss ns (after s n σ) f.1 z.1

-- the graph stands for its filters' functions, composed
pub graph_composes : (p : Plan) (ss : List Spot) → AreNew ss → FitAll ss p.nodes.items → (ext : Ports) (q : ℕ) → (graph_view p ss).rest ext q ≡ composed p ss ext q
graph_composes p ss f z ext q = ap (λ (σ : Ports). reads p.edges.items σ q) (sym (solve_parts ss p.nodes.items ext f z))

pub fit_all : (ss : List Spot) (ns : List Node) → ((k : ℕ) (m : Node) → k < length ss → Fits (spot_at ss k) (slice_index_or ns k m)) → FitAll ss ns
fit_all [] ns f = tt
fit_all (s ∷ ss) [] f = tt
fit_all (s ∷ ss) (n ∷ ns) f = ((f 0 n (omega arith)).outs, fit_all ss ns (λ k m lt. f (suc k) m (omega arith)))

-- and nothing was done to it
pub new_at : (ss : List Spot) → AreNew ss → (k : ℕ) → IsNewSpot (spot_at ss k)
new_at [] f k = record { view = record { shut = λ p. refl; ended = λ q. refl; stopped = λ q. refl }; held = λ i. refl }
new_at (s ∷ ss) f zero = f.0
new_at (s ∷ ss) f (suc k) = new_at ss f.1 k

flags_false : (ps : List Port) (f : Port → Bool) → ((p : Port) → f p ≡ false) → (q : ℕ) → flag_at ps f q ≡ false
flags_false [] f h q = refl
flags_false (p ∷ ps) f h zero = h p
flags_false (p ∷ ps) f h (suc q) = flags_false ps f h q

new_shut : (s : Spot) (i : ℕ) → IsNewSpot s → spot_shut s i ≡ false
new_shut s i f = rw (f.view.shut i, f.held i) refl

pub graph_new : (p : Plan) (ss : List Spot) → AreNew ss → IsNew (graph_view p ss)
graph_new p ss f = record {
  shut = flags_false p.feeds.items (port_shut ss) (λ e. new_shut (spot_at ss e.filter) e.port (new_at ss f e.filter));
  ended = flags_false p.pads.items (port_ended ss) (λ e. (new_at ss f e.filter).view.ended e.port);
  stopped = flags_false p.pads.items (port_stopped ss) (λ e. (new_at ss f e.filter).view.stopped e.port);
}

none_held : (n i : ℕ) → held_at (replicate n None) i ≡ None
none_held zero i = refl
none_held (suc n) zero = refl
none_held (suc n) (suc i) = none_held n i

-- a filter to which nothing was done, with nothing before its inputs
pub placed_new : (v : View) (hs : List (Option Item)) (n : ℕ) → IsNew v → hs ≡ replicate n None → IsNewSpot (record { view = v; held = hs })
placed_new v hs n f e = record { view = f; held = λ i. ap (λ (ks : List (Option Item)). held_at ks i) e ∙ none_held n i }
