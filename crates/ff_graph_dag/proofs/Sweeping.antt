-- Edges that were asked one by one.
use Rattle.std.proofs.Common.{◌≡◌, ℕ, zero, suc, ◌+◌, ◌*◌, ◌<◌, ◌≤◌, ◌==◌, if◌then◌else◌, Bool, true, false, cond, is_some, List, [], ◌∷◌, length}
use Rattle.std.proofs.Common.{map, take, Option, None, Some, slice_index_or, refl, ap, sym, ◌∙◌, subst, arith}
use Rattle.std.proofs.lemmas.Bool.Decides.{nat_tests}
use Rattle.ff_stream.specs.declared.item.Item.{Item}
use Rattle.ff_stream.specs.Ports.{nothing}
use Rattle.ff_filter.specs.Joins.{Flow}
use Rattle.ff_net.specs.Nets.{put_all}
use Rattle.ff_filter.specs.Joins.{Ports, silence}
use Rattle.ff_graph_dag.specs.declared.graph.Node.{Node}
use Rattle.ff_graph_dag.specs.declared.graph.Port.{Port}
use Rattle.ff_graph_dag.specs.declared.graph.Plan.{Plan}
use Rattle.ff_graph_dag.specs.laws.Dags.{Spot, held_at, reads, comes, gives, after, solve_spots, Kept}
use Rattle.ff_graph_dag.specs.laws.Graphs.{no_spot, spot_at, wire_at, port_held, port_ended, Sound, IsCarried, IsEmpty, AreEmpty, begins, go_on, to_go}
use Rattle.ff_graph_dag.specs.laws.Readings.{at_is}
use Rattle.ff_graph_dag.proofs.Edges.{solve_alike, kept_self}
use Rattle.ff_graph_dag.proofs.Moving.{sum_same}

pub carried_self : (ss : List Spot) → IsCarried ss ss
carried_self ss = record { size = refl; kept = λ k. kept_self (spot_at ss k) }

kept_trans : (a b c : Spot) → Kept a b → Kept b c → Kept a c
kept_trans a b c h k = record {
  alike = record {
    ports = record { ins = k.alike.ports.ins ∙ h.alike.ports.ins; outs = k.alike.ports.outs ∙ h.alike.ports.outs };
    size = k.alike.size ∙ h.alike.size;
    gives_is = λ n σ q. k.alike.gives_is n σ q ∙ h.alike.gives_is n σ q;
    shut = λ p lt. k.alike.shut p (subst (λ (ls : List _). p < length ls) (sym h.alike.ports.ins) lt) ∙ h.alike.shut p lt;
    ended = λ q. k.alike.ended q ∙ h.alike.ended q;
    stopped = λ q. k.alike.stopped q ∙ h.alike.stopped q;
    decided = λ d. k.alike.decided (h.alike.decided d);
  };
  held = λ p. k.held p ∙ h.held p;
  rest = λ ext q o. k.rest ext q (h.alike.stopped q ∙ o) ∙ h.rest ext q o;
  fed = λ p. k.fed p ∙ h.fed p;
}

pub carried_trans : (ss ts us : List Spot) → IsCarried ss ts → IsCarried ts us → IsCarried ss us
carried_trans ss ts us h k = record { size = k.size ∙ h.size; kept = λ m. kept_trans (spot_at ss m) (spot_at ts m) (spot_at us m) (h.kept m) (k.kept m) }

-- nothing changed on any edge
pub carried_solve : (ss ts : List Spot) (ns : List Node) → IsCarried ss ts → (σ : Ports) → solve_spots σ ts ns ≡ solve_spots σ ss ns
carried_solve ss ts ns h σ = solve_alike ss ts ns h.size
    (λ k d e lt n τ q. ap (λ (s : Spot). gives s n τ q) (at_is ts k no_spot e (spot_at ts k) (omega (arith, h.size, lt)) refl)
    ∙ ((h.kept k).alike.gives_is n τ q ∙ ap (λ (s : Spot). gives s n τ q) (sym (at_is ss k no_spot d (spot_at ss k) lt refl)))) σ

pub carried_to_go : (p : Plan) (ss ts : List Spot) → IsCarried ss ts → to_go p ts ≡ to_go p ss
carried_to_go p ss ts h = sum_same (length p.wires.items) (go_on p ts) (go_on p ss) each
  where
    begins_same : (f : Option Port) (v : ℕ) → begins ts f (length (solve_spots silence ts p.nodes.items v).items) ≡ begins ss f
        (length (solve_spots silence ss p.nodes.items v).items)
    begins_same None v = refl
    begins_same (Some f) v = ap (λ (b : Bool). cond b 0 (suc (length (solve_spots silence ts p.nodes.items v).items))) ((h.kept f.filter).alike.ended f.port)
        ∙ ap (λ (σ : Ports). cond (port_ended ss f) 0 (suc (length (σ v).items))) (carried_solve ss ts p.nodes.items h silence)

    each : (v : ℕ) → v < length p.wires.items → go_on p ts v ≡ go_on p ss v
    each v lt = ap (λ (n : ℕ). 2 * n + cond (port_held ts (wire_at p v).to) 1 0) (begins_same (wire_at p v).from v)
        ∙ ap (λ (m : Option Item). 2 * begins ss (wire_at p v).from (length (solve_spots silence ss p.nodes.items v).items) + cond (is_some m) 1 0)
        ((h.kept (wire_at p v).to.filter).held (wire_at p v).to.port)

pub empty_carried : (p : Plan) (ss ts : List Spot) (w : ℕ) → w < length p.wires.items → Sound p ss → IsCarried ss ts → IsEmpty p ss w → IsEmpty p ts w
empty_carried p ss ts w lt s h e = record {
  held = ap (λ (m : Option Item). is_some m) ((h.kept (wire_at p w).to.filter).held (wire_at p w).to.port) ∙ e.held;
  from = λ f is on. let k = h.kept f.filter in let was = sym (k.alike.stopped f.port) ∙ on in k.rest silence f.port was ∙ e.from f is was;
}

pub all_carried : (p : Plan) (ss ts : List Spot) (ws : List ℕ) → Sound p ss → IsCarried ss ts → AreEmpty p ss ws → AreEmpty p ts ws
all_carried p ss ts [] s h e = tt
all_carried p ss ts (w ∷ ws) s h e = (λ lt. empty_carried p ss ts w lt s h (e.0 lt), all_carried p ss ts ws s h e.1)

-- one edge more
pub one_more : (p : Plan) (ss : List Spot) (ws : List ℕ) (i w d : ℕ) → i < length ws → w ≡ slice_index_or ws i d → AreEmpty p ss (take i ws)
    → (w < length p.wires.items → IsEmpty p ss w) → AreEmpty p ss (take (suc i) ws)
one_more p ss [] i w d lt is h e = absurd (omega arith)
one_more p ss (v ∷ ws) zero w d lt is h e = (subst (λ (x : ℕ). x < length p.wires.items → IsEmpty p ss x) is e, tt)
one_more p ss (v ∷ ws) (suc i) w d lt is h e = (h.0, one_more p ss ws i w d (omega arith) is h.1 e)

pub take_all : (xs : List ℕ) (n : ℕ) → length xs ≤ n → take n xs ≡ xs
take_all [] zero h = refl
take_all [] (suc n) h = refl
take_all (x ∷ xs) zero h = absurd (omega (arith, h))
take_all (x ∷ xs) (suc n) h = ap (λ (ys : List ℕ). x ∷ ys) (take_all xs n (omega (arith, h)))

-- the edges of an output, read from the vectors
pub ways_is : {V : Type 0} (items : V → List ℕ) (vs : List V) (q : ℕ) (d v : V) → q < length vs → v ≡ slice_index_or vs q d → slice_index_or (map items vs) q
    [] ≡ items v
ways_is items [] q d v lt e = absurd (omega arith)
ways_is items (u ∷ vs) zero d v lt e = ap items (sym e)
ways_is items (u ∷ vs) (suc q) d v lt e = ways_is items vs q d v (omega arith) e

-- silence --------------------------------------------------------------------------------------------------------

put_quiet : (N : ℕ → Type 0) (os : List ℕ) (g σ : Ports) (w : ℕ) → N w → σ w ≡ nothing → ((o : ℕ) → o < length os → N (slice_index_or os o 0) → g o ≡ nothing)
    → put_all os g σ w ≡ nothing
put_quiet N [] g σ w n e h = e
put_quiet N (o ∷ os) g σ w n e h = at (put_quiet N os (λ q. g (suc q)) σ w n e (λ q lt m. h (suc q) (omega arith) m)) (o == w) refl
  where
    at : put_all os (λ q. g (suc q)) σ w ≡ nothing → (b : Bool) → (o == w) ≡ b → (if b then g 0 else put_all os (λ q. g (suc q)) σ w) ≡ nothing
    at r true k = let is : w ≡ o = grind (arith, nat_tests) in h 0 (omega arith) (subst N is n)
    at r false k = r

-- a filter that gives nothing on these edges, where nothing comes on any of them
abbrev pub Quiets : (ℕ → Type 0) → Spot → Node → Type 0
Quiets N s n = (σ : Ports) → ((w : ℕ) → N w → σ w ≡ nothing) → (o : ℕ) → o < length n.outs.items → N (slice_index_or n.outs.items o 0) → gives s n σ o ≡ nothing

-- where every filter keeps them silent, they are silent
pub solve_quiet : (N : ℕ → Type 0) (ss : List Spot) (ns : List Node) → ((k : ℕ) (d : Spot) (m : Node) → k < length ss → k < length ns → Quiets N (slice_index_or ss k d)
    (slice_index_or ns k m)) → (σ : Ports) → ((w : ℕ) → N w → σ w ≡ nothing) → (w : ℕ) → N w → solve_spots σ ss ns w ≡ nothing
solve_quiet N [] ns q σ h w n = h w n
solve_quiet N (s ∷ ss) [] q σ h w n = h w n
solve_quiet N (s ∷ ss) (t ∷ ns) q σ h w n = solve_quiet N ss ns (λ k d m lt lt'. q (suc k) d m (omega arith) (omega arith)) (after s t σ)
    (λ v k. put_quiet N t.outs.items (gives s t σ) σ v k (h v k) (λ o lt m. q 0 s t (omega arith) (omega arith) σ h o lt m)) w n

-- a filter to which nothing comes, and where nothing is due on an output if it is wanted
pub gives_quiet : (s : Spot) (n : Node) (σ : Ports) (o : ℕ) → ((i : ℕ) → held_at s.held i ≡ None) → ((i : ℕ) → reads n.ins.items σ i ≡ nothing)
    → (s.view.stopped o ≡ false → s.view.rest silence o ≡ nothing) → gives s n σ o ≡ nothing
gives_quiet s n σ o h r e =
    let c : comes s n σ ≡ silence = λ j i. both i j in
    ap (λ (t : Ports). cond (s.view.stopped o) nothing (s.view.rest t o)) c ∙ either (s.view.stopped o) (s.view.rest silence o) e
  where
    both : (i : ℕ) → comes s n σ i ≡ nothing
    both i = rw (h i) (r i)

    either : (b : Bool) (t : Flow) → (b ≡ false → t ≡ nothing) → cond b nothing t ≡ nothing
    either true t k = refl
    either false t k = k refl
