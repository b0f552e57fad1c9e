-- What is read from lists of edges, ports and filters.
use Rattle.std.proofs.Common.{◌≡◌, ◌≢◌, ℕ, zero, suc, ◌<◌, ◌==◌, ◌||◌, ◌&&◌, Bool, true, false, List, [], ◌∷◌, length, Option, Some, None, slice_index_or, refl}
use Rattle.std.proofs.Common.{ap, sym, arith}
use Rattle.std.proofs.lemmas.Bool.Decides.{nat_tests}
use Rattle.ff_filter.specs.Joins.{Ports}
use Rattle.ff_filter.specs.Views.{View}
use Rattle.ff_graph_dag.specs.declared.graph.Port.{Port}
use Rattle.ff_graph_dag.specs.declared.graph.Plan.{Plan}
use Rattle.ff_graph_dag.specs.declared.placed.Placed.{Placed}
use Rattle.ff_graph_dag.specs.laws.Dags.{reads, StandsAt}
use Rattle.ff_graph_dag.specs.laws.Graphs.{spots, no_port, edge_at, wire_at, feed_at, flag_at, among, ways_of, on_way, is_port, comes_from, IsEntry}

pub is_other : (u w : ℕ) → u ≢ w → (u == w) ≡ false
is_other u w n = grind (arith, nat_tests)

pub is_same : (u w : ℕ) → u ≡ w → (u == w) ≡ true
is_same u w e = grind (arith, nat_tests)

pub spots_size : {F : Type 0} (view : F → View) (ps : List (Placed F)) → length (spots view ps) ≡ length ps
spots_size view [] = refl
spots_size view (p ∷ ps) = ap (λ (n : ℕ). suc n) (spots_size view ps)

pub at_is : {A : Type 0} (xs : List A) (k : ℕ) (d e x : A) → k < length xs → x ≡ slice_index_or xs k d → slice_index_or xs k e ≡ x
at_is [] k d e x lt h = absurd (omega arith)
at_is (y ∷ xs) zero d e x lt h = sym h
at_is (y ∷ xs) (suc k) d e x lt h = at_is xs k d e x (omega arith) h

pub flag_is : (ps : List Port) (f : Port → Bool) (q : ℕ) → q < length ps → flag_at ps f q ≡ f (slice_index_or ps q no_port)
flag_is [] f q lt = absurd (omega arith)
flag_is (p ∷ ps) f zero lt = refl
flag_is (p ∷ ps) f (suc q) lt = flag_is ps f q (omega arith)

both_true : (a b : Bool) → (a && b) ≡ true → (a ≡ true) × (b ≡ true)
both_true true b e = (refl, e)
both_true false b e = cc

pub left_true : (a b : Bool) → a ≡ true → (a || b) ≡ true
left_true true b e = refl
left_true false b e = cc

pub right_true : (a b : Bool) → b ≡ true → (a || b) ≡ true
right_true true b e = refl
right_true false b e = e

pub port_is : (f : Port) (k i : ℕ) → is_port f k i ≡ true → f ≡ record { filter = k; port = i }
port_is f k i e =
    let b = both_true (f.filter == k) (f.port == i) e in
    let left : (f.filter == k) ≡ true = b.0 in
    let right : (f.port == i) ≡ true = b.1 in
    let x : f.filter ≡ k = grind (arith, nat_tests) in
    let y : f.port ≡ i = grind (arith, nat_tests) in
    λ j. record { filter = x j; port = y j }

pub from_is : (o : Option Port) (k i : ℕ) → comes_from o k i ≡ true → o ≡ Some (record { filter = k; port = i })
from_is None k i e = cc
from_is (Some f) k i e = ap (λ (g : Port). Some g) (port_is f k i e)

-- the edge of an output is on the way to it
pub own_way : (p : Plan) (q : ℕ) → on_way p q (edge_at p q) ≡ true
own_way p q = right_true (among (ways_of p q) (edge_at p q)) (edge_at p q == edge_at p q) (is_same (edge_at p q) (edge_at p q) refl)

pub is_way : (p : Plan) (q w : ℕ) → among (ways_of p q) w ≡ true → on_way p q w ≡ true
is_way p q w e = left_true (among (ways_of p q) w) (edge_at p q == w) e

pub read_is : (ws : List ℕ) (w i : ℕ) (σ : Ports) → StandsAt w i ws → reads ws σ i ≡ σ w
read_is [] w i σ f = absurd f
read_is (u ∷ us) w zero σ f = ap σ f.0
read_is (u ∷ us) w (suc i) σ f = read_is us w i σ f.1

-- the port that an input leads to
pub feed_is : (p : Plan) (i : ℕ) → IsEntry p i → feed_at p i ≡ (wire_at p i).to
feed_is p i e = let x : (feed_at p i).filter ≡ (wire_at p i).to.filter = e.filter in let y : (feed_at p i).port ≡ (wire_at p i).to.port = e.port in λ j. record
    { filter = x j; port = y j }
