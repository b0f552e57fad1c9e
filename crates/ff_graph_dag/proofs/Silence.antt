-- Where every edge on the way to an output is empty, nothing is due there.
use Rattle.std.proofs.Common.{◌≡◌, ℕ, zero, suc, ◌<◌, ◌==◌, ◌||◌, Bool, true, false, cond, is_some, List, [], ◌∷◌, length, Option, None, Some}
use Rattle.std.proofs.Common.{slice_index_or, refl, sym, ◌∙◌, subst, arith}
use Rattle.std.proofs.lemmas.Bool.Decides.{nat_tests}
use Rattle.ff_stream.specs.declared.item.Item.{Item}
use Rattle.ff_stream.specs.Ports.{nothing}
use Rattle.ff_filter.specs.Joins.{Ports, silence}
use Rattle.ff_graph_dag.specs.declared.graph.Node.{Node}
use Rattle.ff_graph_dag.specs.declared.graph.Port.{Port}
use Rattle.ff_graph_dag.specs.declared.graph.Plan.{Plan}
use Rattle.ff_graph_dag.specs.laws.Dags.{Spot, held_at, reads, solve_spots}
use Rattle.ff_graph_dag.specs.laws.Graphs.{no_spot, spot_at, pad_at, edge_at, wire_at, port_held, graph_view, Sound, IsEmpty, AreEmpty, IsQuiet, among, ways_of, on_way}
use Rattle.ff_graph_dag.specs.laws.Graphs.{out_edge, in_edge, is_port, comes_from, IsCone}
use Rattle.ff_graph_dag.specs.laws.Readings.{at_is, port_is, from_is, own_way, is_way, read_is}
use Rattle.ff_graph_dag.proofs.Sweeping.{Quiets, solve_quiet, gives_quiet}

-- flags ---------------------------------------------------------------------------------------------------------

empty_at : (p : Plan) (ss : List Spot) (ws : List ℕ) (w : ℕ) → among ws w ≡ true → AreEmpty p ss ws → w < length p.wires.items → IsEmpty p ss w
empty_at p ss [] w i e lt = cc
empty_at p ss (v ∷ ws) w i e lt = at (v == w) refl i (λ j. empty_at p ss ws w j e.1 lt)
  where
    at : (b : Bool) → (v == w) ≡ b → (b || among ws w) ≡ true → (among ws w ≡ true → IsEmpty p ss w) → IsEmpty p ss w
    at true k j r = let is : v ≡ w = grind (arith, nat_tests) in subst (λ (x : ℕ). x < length p.wires.items → IsEmpty p ss x) is e.0 lt
    at false k j r = r j

reads_quiet : (ws : List ℕ) (σ : Ports) → ((i : ℕ) → i < length ws → σ (slice_index_or ws i 0) ≡ nothing) → (i : ℕ) → reads ws σ i ≡ nothing
reads_quiet [] σ h i = refl
reads_quiet (w ∷ ws) σ h zero = h 0 (omega arith)
reads_quiet (w ∷ ws) σ h (suc i) = reads_quiet ws σ (λ j lt. h (suc j) (omega arith)) i

held_quiet : (hs : List (Option Item)) (n : ℕ) → length hs ≡ n → ((i : ℕ) → i < n → held_at hs i ≡ None) → (i : ℕ) → held_at hs i ≡ None
held_quiet [] n z h i = refl
held_quiet (k ∷ hs) n z h zero = h 0 (omega (arith, z))
held_quiet (k ∷ hs) n z h (suc i) = held_quiet hs (length hs) refl (λ j lt. h (suc j) (omega (arith, z, lt))) i

none_of : (m : Option Item) → is_some m ≡ false → m ≡ None
none_of None n = refl
none_of (Some y) n = cc

pub pad_silent : (p : Plan) (ss : List Spot) (q : ℕ) → q < length p.pads.items → Sound p ss → AreEmpty p ss (ways_of p q) → IsQuiet p ss q
    → (graph_view p ss).rest silence q ≡ nothing
pad_silent p ss q qlt s e quiet = read_is p.edges.items (edge_at p q) q (solve_spots silence ss p.nodes.items) (s.pads q qlt).edge
    ∙ solve_quiet (λ w. on_way p q w ≡ true) ss p.nodes.items each silence (λ w n. refl) (edge_at p q) (own_way p q)
  where
    cone : IsCone p q
    cone = s.framed.cones q qlt

    given : (k o w : ℕ) → (b : Bool) → among (ways_of p q) w ≡ b → cond b (comes_from (wire_at p w).from k o) (is_port (pad_at p q) k o) ≡ true
        → (spot_at ss k).view.stopped o ≡ false → (spot_at ss k).view.rest silence o ≡ nothing
    given k o w true a g on = (empty_at p ss (ways_of p q) w a e (cone.wires w a)).from (record { filter = k; port = o }) (from_is (wire_at p w).from k o g) on
    given k o w false a g on = subst (λ (f : Port). (spot_at ss f.filter).view.rest silence f.port ≡ nothing) (port_is (pad_at p q) k o g) quiet

    each_at : (k : ℕ) (m : Node) → k < length ss → k < length p.nodes.items → Quiets (λ w. on_way p q w ≡ true) (spot_at ss k) (slice_index_or p.nodes.items k m)
    each_at k m lt nlt σ h o olt n = gives_quiet (spot_at ss k) (slice_index_or p.nodes.items k m) σ o
        (held_quiet (spot_at ss k).held (length (slice_index_or p.nodes.items k m).ins.items) ((s.fits k m lt).held ∙ sym (s.fits k m lt).ins) (λ i ilt.
        let way = cone.into_way k o i m nlt olt n ilt in
        let empty = empty_at p ss (ways_of p q) (in_edge p m k i) way e (cone.wires _ way) in
        none_of (held_at (spot_at ss k).held i) (subst (λ (f : Port). port_held ss f ≡ false) (port_is (wire_at p (in_edge p m k i)).to k i
        (cone.into_port k o i m nlt olt n ilt)) empty.held)))
        (reads_quiet (slice_index_or p.nodes.items k m).ins.items σ (λ i ilt. h _ (is_way p q (in_edge p m k i) (cone.into_way k o i m nlt olt n ilt))))
        (given k o (out_edge p m k o) (among (ways_of p q) (out_edge p m k o)) refl (cone.from k o m nlt olt n))

    each : (k : ℕ) (d : Spot) (m : Node) → k < length ss → k < length p.nodes.items → Quiets (λ w. on_way p q w ≡ true) (slice_index_or ss k d)
        (slice_index_or p.nodes.items k m)
    each k d m lt nlt = subst (λ (a : Spot). Quiets (λ w. on_way p q w ≡ true) a (slice_index_or p.nodes.items k m)) (sym (at_is ss k no_spot d (spot_at ss k) lt refl))
        (each_at k m lt nlt)
