-- Where no more comes on any input of a graph, each output that is wanted closes.
use Rattle.std.proofs.Common.{◌≡◌, ◌≢◌, ◌⊎◌, inl, inr, ℕ, zero, suc, ◌<◌, ◌==◌, ◌||◌, if◌then◌else◌, Bool, true, false, true≢false, cond, is_some, List, [], ◌∷◌, length}
use Rattle.std.proofs.Common.{Option, None, Some, slice_index_or, refl, ap, sym, ◌∙◌, subst, arith}
use Rattle.std.proofs.lemmas.Bool.{cases_eq}
use Rattle.std.proofs.lemmas.Bool.Decides.{nat_tests}
use Rattle.ff_stream.specs.declared.item.Item.{Item}
use Rattle.ff_stream.specs.declared.item.Item.TheVariants.{Audio, Video, Packet, Trailer, End, Broken}
use Rattle.ff_stream.specs.Ports.{nothing, IsClosed}
use Rattle.ff_net.specs.Nets.{put_all}
use Rattle.ff_filter.specs.Joins.{Flow, Ports, one, before, joined_closed}
use Rattle.ff_filter.specs.Views.{View, Settles, closes}
use Rattle.ff_filter.specs.laws.Held.{after_held, held_closes}
use Rattle.ff_graph_dag.specs.declared.graph.Node.{Node}
use Rattle.ff_graph_dag.specs.declared.graph.Port.{Port}
use Rattle.ff_graph_dag.specs.declared.graph.Plan.{Plan}
use Rattle.ff_graph_dag.specs.declared.placed.Placed.{Placed}
use Rattle.ff_graph_dag.specs.laws.Dags.{Spot, held_at, spot_shut, reads, comes, gives, after, solve_spots, Free, StandsAt, AllUntouched, Reads, Leaves, Leads, IsDecided}
use Rattle.ff_graph_dag.specs.laws.Graphs.{spots, no_spot, spot_at, pad_at, edge_at, wire_at, port_shut, port_ended, port_stopped, graph_view, Fits, Sound, among}
use Rattle.ff_graph_dag.specs.laws.Graphs.{ways_of, on_way, out_edge, in_edge, is_port, comes_from, IsCone}
use Rattle.ff_graph_dag.specs.laws.Readings.{spots_size, at_is, flag_is, port_is, from_is, own_way, is_way, read_is, feed_is}
use Rattle.ff_graph_dag.specs.laws.GraphLaws.{all_spots}

-- no filter of the list gives the edge, or none from this place on
abbrev pub Late : ℕ → List Node → Type 0
Late w [] = Unit {0}
Late w (n ∷ ns) = Free w n.outs.items × Late w ns

abbrev pub LateFrom : ℕ → ℕ → List Node → Type 0
LateFrom w zero ns = Late w ns
LateFrom w (suc k) [] = Unit {0}
LateFrom w (suc k) (n ∷ ns) = LateFrom w k ns

free_stands : (w q : ℕ) (us : List ℕ) → Free w us → StandsAt w q us → ⊥
free_stands w q [] f s = s
free_stands w zero (u ∷ us) f s = f.0 s.0
free_stands w (suc q) (u ∷ us) f s = free_stands w q us f.1 s.1

untouched_late : (w : ℕ) (ns : List Node) → AllUntouched w ns → Late w ns
untouched_late w [] f = tt
untouched_late w (n ∷ ns) f = (f.0.1, untouched_late w ns f.1)

reads_late : (w k i : ℕ) (ns : List Node) → Reads w k i ns → LateFrom w k ns
reads_late w k i [] f = absurd f
reads_late w zero i (n ∷ ns) f = (f.1, untouched_late w ns f.2)
reads_late w (suc k) i (n ∷ ns) f = reads_late w k i ns f.1

leads_late : (w j q k i : ℕ) (ns : List Node) → Leads w j q k i ns → LateFrom w k ns
leads_late w j q k i [] f = absurd f
leads_late w zero q zero i (n ∷ ns) f = absurd f
leads_late w (suc j) q zero i (n ∷ ns) f = absurd f
leads_late w zero q (suc k) i (n ∷ ns) f = reads_late w k i ns f.2
leads_late w (suc j) q (suc k) i (n ∷ ns) f = leads_late w j q k i ns f.1

leads_given : (w j q k i : ℕ) (ns : List Node) → Leads w j q k i ns → Late w ns → ⊥
leads_given w j q k i [] f l = f
leads_given w zero q zero i (n ∷ ns) f l = f
leads_given w (suc j) q zero i (n ∷ ns) f l = f
leads_given w zero q (suc k) i (n ∷ ns) f l = free_stands w q n.outs.items l.0 f.1
leads_given w (suc j) q (suc k) i (n ∷ ns) f l = leads_given w j q k i ns f.1 l.1

leaves_given : (w j q : ℕ) (ns : List Node) → Leaves w j q ns → Late w ns → ⊥
leaves_given w j q [] f l = f
leaves_given w zero q (n ∷ ns) f l = free_stands w q n.outs.items l.0 f.0
leaves_given w (suc j) q (n ∷ ns) f l = leaves_given w j q ns f.1 l.1

-- from one filter to the next ---------------------------------------------------------------------------------------

-- where this holds of what comes to a filter, it holds of what it gives
abbrev pub Local : (ℕ → Type 0) → (ℕ → Flow → Type 0) → Spot → Node → Type 0
Local N P s n = (σ : Ports) → ((i : ℕ) → i < length n.ins.items → P (slice_index_or n.ins.items i 0) (σ (slice_index_or n.ins.items i 0)))
    → (o : ℕ) → o < length n.outs.items → N (slice_index_or n.outs.items o 0) → P (slice_index_or n.outs.items o 0) (gives s n σ o)

-- what comes to a filter was given before
abbrev pub Fresh : (ℕ → Type 0) → Node → ℕ → List Node → Type 0
Fresh N n k ns = (o : ℕ) → o < length n.outs.items → N (slice_index_or n.outs.items o 0) → (i : ℕ) → i < length n.ins.items → N (slice_index_or n.ins.items i 0)
    × LateFrom (slice_index_or n.ins.items i 0) k ns

put_done : (N : ℕ → Type 0) (P : ℕ → Flow → Type 0) (os : List ℕ) (g σ : Ports) (w : ℕ) → N w → (Free w os → P w (σ w))
    → ((o : ℕ) → o < length os → N (slice_index_or os o 0) → P (slice_index_or os o 0) (g o)) → P w (put_all os g σ w)
put_done N P [] g σ w n h l = h tt
put_done N P (o ∷ os) g σ w n h l = at (o == w) refl (λ other. put_done N P os (λ q. g (suc q)) σ w n (λ f. h (other, f)) (λ q lt m. l (suc q) (omega arith) m))
  where
    at : (b : Bool) → (o == w) ≡ b → (o ≢ w → P w (put_all os (λ q. g (suc q)) σ w)) → P w (if b then g 0 else put_all os (λ q. g (suc q)) σ w)
    at true k r = let is : o ≡ w = grind (arith, nat_tests) in subst (λ (v : ℕ). P v (g 0)) is (l 0 (omega arith) (subst N (sym is) n))
    at false k r = let other : o ≢ w = grind (arith, nat_tests) in r other

pub solve_done : (N : ℕ → Type 0) (P : ℕ → Flow → Type 0) (ss : List Spot) (ns : List Node) → length ss ≡ length ns
    → ((k : ℕ) (d : Spot) (m : Node) → k < length ss → Local N P (slice_index_or ss k d) (slice_index_or ns k m))
    → ((k : ℕ) (m : Node) → k < length ns → Fresh N (slice_index_or ns k m) k ns)
    → (σ : Ports) → ((w : ℕ) → N w → Late w ns → P w (σ w)) → (w : ℕ) → N w → P w (solve_spots σ ss ns w)
solve_done N P [] [] z loc fresh σ h w n = h w n tt
solve_done N P [] (t ∷ ns) z loc fresh σ h w n = absurd (omega (arith, z))
solve_done N P (s ∷ ss) [] z loc fresh σ h w n = absurd (omega (arith, z))
solve_done N P (s ∷ ss) (t ∷ ns) z loc fresh σ h w n = solve_done N P ss ns (omega (arith, z)) (λ k d m lt. loc (suc k) d m (omega arith))
    (λ k m lt. fresh (suc k) m (omega arith)) (after s t σ) next w n
  where
    next : (v : ℕ) → N v → Late v ns → P v (after s t σ v)
    next v nv late = put_done N P t.outs.items (gives s t σ) σ v nv (λ f. h v nv (f, late))
        (λ o olt on. loc 0 s t (omega arith) σ (λ i ilt. let f = fresh 0 t (omega arith) o olt on i ilt in h (slice_index_or t.ins.items i 0) f.0 f.1) o olt on)

-- closed, or over ---------------------------------------------------------------------------------------------------

closing : (x : Item) (s : Flow) → closes x ≡ true → IsClosed (before x s)
closing (Audio f) s e = cc
closing (Video f) s e = cc
closing (Packet f) s e = cc
closing (Trailer f) s e = cc
closing End s e = λ o. cc
closing Broken s e = λ o. cc

held_done : (held : Option Item) (shut : Bool) (s : Flow) → ((shut || held_closes held) ≡ true) ⊎ IsClosed s → (shut ≡ true) ⊎ IsClosed (after_held held s)
held_done None true s h = inl refl
held_done None false s (inl e) = cc
held_done None false s (inr c) = inr c
held_done (Some x) true s h = inl refl
held_done (Some x) false s (inl e) = inr (closing x s e)
held_done (Some x) false s (inr c) = inr (joined_closed (one x) s c)

reads_at_is : (ws : List ℕ) (σ : Ports) (i : ℕ) → i < length ws → reads ws σ i ≡ σ (slice_index_or ws i 0)
reads_at_is [] σ i lt = absurd (omega arith)
reads_at_is (w ∷ ws) σ zero lt = refl
reads_at_is (w ∷ ws) σ (suc i) lt = reads_at_is ws σ i (omega arith)

-- so of one of them, or of each otherwise
one_or_all : (n : ℕ) (P Q : ℕ → Type 0) → ((i : ℕ) → i < n → P i ⊎ Q i) → ((i : ℕ) → i < n → P i) ⊎ ((i : ℕ) × (i < n) × Q i)
one_or_all zero P Q h = inl (λ i lt. absurd (omega arith))
one_or_all (suc n) P Q h = next (one_or_all n P Q (λ i lt. h i (omega arith))) (h n (omega arith))
  where
    next : ((i : ℕ) → i < n → P i) ⊎ ((i : ℕ) × (i < n) × Q i) → P n ⊎ Q n → ((i : ℕ) → i < suc n → P i) ⊎ ((i : ℕ) × (i < suc n) × Q i)
    next (inr s) h = inr (s.0, omega (arith, s.1), s.2)
    next (inl a) (inr y) = inr (n, omega arith, y)
    next (inl a) (inl x) = inl (λ i lt. elim (cases_eq i n) as (λ _. P i) [ inl e ↦ subst P (sym e) x | inr o ↦ a i (omega (arith, lt, o)) ])

-- the output that an edge leaves isn't wanted any more
abbrev pub from_stopped : List Spot → Option Port → Bool
from_stopped ss None = false
from_stopped ss (Some f) = port_stopped ss f

or_right : (a b : Bool) → a ≡ false → (a || b) ≡ true → b ≡ true
or_right true b n e = cc
or_right false b n e = e

module _ (p : Plan) (ss : List Spot) (s : Sound p ss) (settle : (k : ℕ) → k < length ss → Settles (spot_at ss k).view) (ext : Ports)
    (h : (i : ℕ) → i < length p.ins.items → ((graph_view p ss).shut i ≡ true) ⊎ IsClosed (ext i)) (q : ℕ) (qlt : q < length p.pads.items)
    (on : (graph_view p ss).stopped q ≡ false) where
  cone : IsCone p q
  cone = s.framed.cones q qlt

  -- whoever gives the edge is over
  abbrev Done : ℕ → Bool
  Done w = cond (among (ways_of p q) w) (port_shut ss (wire_at p w).to) (port_ended ss (pad_at p q))

  abbrev Closed : ℕ → Flow → Type 0
  Closed w t = (Done w ≡ true) ⊎ IsClosed t

  -- an edge on the way whose output isn't wanted
  abbrev IsCut : ℕ → Type 0
  IsCut w = (among (ways_of p q) w ≡ true) × (from_stopped ss (wire_at p w).from ≡ true)

  abbrev Met : ℕ → Flow → Type 0
  Met w t = Closed w t ⊎ IsCut w

  abbrev OnIt : ℕ → Type 0
  OnIt w = on_way p q w ≡ true

  way_done : (w : ℕ) → among (ways_of p q) w ≡ true → Done w ≡ port_shut ss (wire_at p w).to
  way_done w a = ap (λ (b : Bool). cond b (port_shut ss (wire_at p w).to) (port_ended ss (pad_at p q))) a

  own_done : (w : ℕ) → among (ways_of p q) w ≡ false → Done w ≡ port_ended ss (pad_at p q)
  own_done w a = ap (λ (b : Bool). cond b (port_shut ss (wire_at p w).to) (port_ended ss (pad_at p q))) a

  -- the edge that no filter gives is an input's
  entry_done : (w : ℕ) → w < length p.feeds.items → among (ways_of p q) w ≡ true → Closed w (ext w)
  entry_done w lt a = elim (h w (omega (arith, s.framed.inputs, lt))) as (λ _. Closed w (ext w)) [
    | inl e ↦ inl (way_done w a ∙ (ap (λ (f : Port). port_shut ss f) (sym (feed_is p w (s.framed.entries w lt))) ∙ (sym (flag_is p.feeds.items (port_shut ss) w lt)
        ∙ e)))
    | inr c ↦ inr c
  ]

  start_way : (w : ℕ) → among (ways_of p q) w ≡ true → Late w p.nodes.items → (o : Option Port) → (wire_at p w).from ≡ o → Closed w (ext w)
  start_way w a late None k = entry_done w (s.framed.only w (cone.wires w a) (ap (λ (m : Option Port). is_some m) k)) a
  start_way w a late (Some f) k = absurd (leads_given w f.filter f.port (wire_at p w).to.filter (wire_at p w).to.port p.nodes.items
      ((s.wired w (cone.wires w a)).leads f k) late)

  start : (w : ℕ) → OnIt w → Late w p.nodes.items → Closed w (ext w)
  start w n late = at (among (ways_of p q) w) refl
    where
      at : (b : Bool) → among (ways_of p q) w ≡ b → Closed w (ext w)
      at true a = start_way w a late (wire_at p w).from refl
      at false a =
          let own : (edge_at p q == w) ≡ true = or_right (among (ways_of p q) w) (edge_at p q == w) a n in
          let is : edge_at p q ≡ w = grind (arith, nat_tests) in
          absurd (leaves_given w (pad_at p q).filter (pad_at p q).port p.nodes.items (subst (λ (v : ℕ). Leaves v (pad_at p q).filter (pad_at p q).port p.nodes.items) is
          (s.pads q qlt).leaves) late)

  -- one filter on the way
  module _ (k : ℕ) (m : Node) (klt : k < length ss) where
    abbrev here : Node
    here = slice_index_or p.nodes.items k m

    nlt : k < length p.nodes.items
    nlt = omega (arith, s.size, klt)

    fit : Fits (spot_at ss k) here
    fit = s.fits k m klt

    module _ (o : ℕ) (olt : o < length here.outs.items) (way : OnIt (out_edge p m k o)) where
      in_done : (i : ℕ) → i < length here.ins.items → (σ : Ports) → Closed (in_edge p m k i) (σ (in_edge p m k i)) → ((spot_at ss k).view.shut i ≡ true)
          ⊎ IsClosed (comes (spot_at ss k) here σ i)
      in_done i ilt σ c =
          let a = cone.into_way k o i m nlt olt way ilt in
          let to : (wire_at p (in_edge p m k i)).to ≡ record { filter = k; port = i } = port_is (wire_at p (in_edge p m k i)).to k i
          (cone.into_port k o i m nlt olt way ilt) in
          let shut : Done (in_edge p m k i) ≡ spot_shut (spot_at ss k) i = way_done (in_edge p m k i) a ∙ ap (λ (f : Port). port_shut ss f) to in
          held_done (held_at (spot_at ss k).held i) ((spot_at ss k).view.shut i) (reads here.ins.items σ i)
          (elim c as (λ _. (spot_shut (spot_at ss k) i ≡ true) ⊎ IsClosed (reads here.ins.items σ i)) [
            | inl e ↦ inl (sym shut ∙ e)
            | inr e ↦ inr
                (subst IsClosed (sym (reads_at_is here.ins.items σ i ilt)) e)
          ])

      ended : (b : Bool) → among (ways_of p q) (out_edge p m k o) ≡ b → cond b (comes_from (wire_at p (out_edge p m k o)).from k o) (is_port (pad_at p q) k o) ≡ true
          → (spot_at ss k).view.ended o ≡ true → Done (out_edge p m k o) ≡ true
      ended true a g e = way_done (out_edge p m k o) a ∙ (s.linked (out_edge p m k o) (record { filter = k; port = o }) (cone.wires _ a)
          (from_is (wire_at p (out_edge p m k o)).from k o g) ∙ e)
      ended false a g e = own_done (out_edge p m k o) a ∙ (ap (λ (f : Port). port_ended ss f) (port_is (pad_at p q) k o g) ∙ e)

      stopped_cut : (b : Bool) → among (ways_of p q) (out_edge p m k o) ≡ b → cond b (comes_from (wire_at p (out_edge p m k o)).from k o) (is_port (pad_at p q) k o) ≡ true
          → (spot_at ss k).view.stopped o ≡ true → IsCut (out_edge p m k o)
      stopped_cut true a g e = (a, ap (λ (f : Option Port). from_stopped ss f) (from_is (wire_at p (out_edge p m k o)).from k o g) ∙ e)
      stopped_cut false a g e = absurd (true≢false (sym e ∙ (ap (λ (f : Port). port_stopped ss f) (sym (port_is (pad_at p q) k o g))
          ∙ (sym (flag_is p.pads.items (port_stopped ss) q qlt) ∙ on))))

      gives_is : (σ : Ports) → (spot_at ss k).view.stopped o ≡ false → gives (spot_at ss k) here σ o ≡ (spot_at ss k).view.rest (comes (spot_at ss k) here σ) o
      gives_is σ want = ap (λ (b : Bool). cond b nothing ((spot_at ss k).view.rest (comes (spot_at ss k) here σ) o)) want

      -- no edge into it is cut
      fed_done : (σ : Ports) → (spot_at ss k).view.stopped o ≡ false → ((i : ℕ) → i < length here.ins.items → Closed (in_edge p m k i) (σ (in_edge p m k i)))
          → Closed (out_edge p m k o) (gives (spot_at ss k) here σ o)
      fed_done σ want c = elim (settle k klt (comes (spot_at ss k) here σ) (λ i lt. in_done i (omega (arith, fit.ins, lt)) σ (c i (omega (arith, fit.ins, lt)))) o
          (omega (arith, fit.outs, olt)) want) as (λ _. Closed (out_edge p m k o) (gives (spot_at ss k) here σ o)) [
            | inl e ↦ inl (ended (among (ways_of p q) (out_edge p m k o)) refl (cone.from k o m nlt olt way) e)
            | inr e ↦ inr (subst IsClosed (sym (gives_is σ want)) e)
          ]

      -- one is cut: all that it gives is decided
      decided_done : (σ : Ports) → (spot_at ss k).view.stopped o ≡ false → IsDecided (spot_at ss k).view → (b : Bool) → (spot_at ss k).view.ended o ≡ b
          → Closed (out_edge p m k o) (gives (spot_at ss k) here σ o)
      decided_done σ want d true e = inl (ended (among (ways_of p q) (out_edge p m k o)) refl (cone.from k o m nlt olt way) e)
      decided_done σ want d false e = inr (subst IsClosed (sym (gives_is σ want)) (d (comes (spot_at ss k) here σ) o (omega (arith, fit.outs, olt)) want e))

      cut_from : (i : ℕ) → i < length here.ins.items → (f : Option Port) → (wire_at p (in_edge p m k i)).from ≡ f → from_stopped ss f ≡ true
          → IsDecided (spot_at ss k).view
      cut_from i ilt None e h = absurd (true≢false (sym h))
      cut_from i ilt (Some f) e h =
          let a = cone.into_way k o i m nlt olt way ilt in
          let to : (wire_at p (in_edge p m k i)).to ≡ record { filter = k; port = i } = port_is (wire_at p (in_edge p m k i)).to k i
          (cone.into_port k o i m nlt olt way ilt) in
          subst (λ (g : Port). IsDecided (spot_at ss g.filter).view) to (s.idle (in_edge p m k i) f (cone.wires _ a) e h)

      one_cut : (i : ℕ) → i < length here.ins.items → IsCut (in_edge p m k i) → IsDecided (spot_at ss k).view
      one_cut i ilt x = cut_from i ilt (wire_at p (in_edge p m k i)).from refl x.1

      out_met : (σ : Ports) → ((i : ℕ) → i < length here.ins.items → Met (in_edge p m k i) (σ (in_edge p m k i))) → (b : Bool) → (spot_at ss k).view.stopped o ≡ b
          → Met (out_edge p m k o) (gives (spot_at ss k) here σ o)
      out_met σ c true e = inr (stopped_cut (among (ways_of p q) (out_edge p m k o)) refl (cone.from k o m nlt olt way) e)
      out_met σ c false e = inl
          (elim (one_or_all (length here.ins.items) (λ i. Closed (in_edge p m k i) (σ (in_edge p m k i))) (λ i. IsCut (in_edge p m k i)) c)
          as (λ _. Closed (out_edge p m k o) (gives (spot_at ss k) here σ o)) [
            | inl all ↦ fed_done σ e all
            | inr one ↦ decided_done σ e (one_cut one.0 one.1 one.2) ((spot_at ss k).view.ended o) refl
          ])

      late_at : (i : ℕ) → i < length here.ins.items → (f : Option Port) → (wire_at p (in_edge p m k i)).from ≡ f → LateFrom (in_edge p m k i) k p.nodes.items
      late_at i ilt None e =
          let a = cone.into_way k o i m nlt olt way ilt in
          let to : (wire_at p (in_edge p m k i)).to ≡ record { filter = k; port = i } = port_is (wire_at p (in_edge p m k i)).to k i
          (cone.into_port k o i m nlt olt way ilt) in
          let lt = s.framed.only (in_edge p m k i) (cone.wires _ a) (ap (λ (m : Option Port). is_some m) e) in
          subst (λ (g : Port). LateFrom (in_edge p m k i) g.filter p.nodes.items) to (reads_late (in_edge p m k i) (wire_at p (in_edge p m k i)).to.filter
          (wire_at p (in_edge p m k i)).to.port p.nodes.items (s.framed.entries (in_edge p m k i) lt).reads)
      late_at i ilt (Some f) e =
          let a = cone.into_way k o i m nlt olt way ilt in
          let to : (wire_at p (in_edge p m k i)).to ≡ record { filter = k; port = i } = port_is (wire_at p (in_edge p m k i)).to k i
          (cone.into_port k o i m nlt olt way ilt) in
          subst (λ (g : Port). LateFrom (in_edge p m k i) g.filter p.nodes.items) to (leads_late (in_edge p m k i) f.filter f.port
          (wire_at p (in_edge p m k i)).to.filter (wire_at p (in_edge p m k i)).to.port p.nodes.items ((s.wired _ (cone.wires _ a)).leads f e))

      in_way : (i : ℕ) → i < length here.ins.items → OnIt (in_edge p m k i)
      in_way i ilt = is_way p q (in_edge p m k i) (cone.into_way k o i m nlt olt way ilt)

  local_at : (k : ℕ) (m : Node) → k < length ss → Local OnIt Met (spot_at ss k) (slice_index_or p.nodes.items k m)
  local_at k m klt σ c o olt way = out_met k m klt o olt way σ c ((spot_at ss k).view.stopped o) refl

  local : (k : ℕ) (d : Spot) (m : Node) → k < length ss → Local OnIt Met (slice_index_or ss k d) (slice_index_or p.nodes.items k m)
  local k d m klt = subst (λ (a : Spot). Local OnIt Met a (slice_index_or p.nodes.items k m)) (sym (at_is ss k no_spot d (spot_at ss k) klt refl)) (local_at k m klt)

  fresh : (k : ℕ) (m : Node) → k < length p.nodes.items → Fresh OnIt (slice_index_or p.nodes.items k m) k p.nodes.items
  fresh k m lt o olt way i ilt = (
    in_way k m (omega (arith, s.size, lt)) o olt way i ilt,
    late_at k m (omega (arith, s.size, lt)) o olt way i ilt
        (wire_at p (in_edge p m k i)).from refl,
  )

  -- the edge of an output is no wire
  no_wire : (b : Bool) → among (ways_of p q) (edge_at p q) ≡ b → among (ways_of p q) (edge_at p q) ≡ false
  no_wire true a = absurd (free_stands (edge_at p q) q p.edges.items (s.wired _ (cone.wires _ a)).free (s.pads q qlt).edge)
  no_wire false a = a

  met_start : (w : ℕ) → OnIt w → Late w p.nodes.items → Met w (ext w)
  met_start w n late = inl (start w n late)

  pub pad_settles : ((graph_view p ss).ended q ≡ true) ⊎ IsClosed ((graph_view p ss).rest ext q)
  pad_settles = done (solve_done OnIt Met ss p.nodes.items s.size local fresh ext met_start (edge_at p q) (own_way p q))
    where
      apart : among (ways_of p q) (edge_at p q) ≡ false
      apart = no_wire (among (ways_of p q) (edge_at p q)) refl

      done : Met (edge_at p q) (solve_spots ext ss p.nodes.items (edge_at p q)) → ((graph_view p ss).ended q ≡ true) ⊎ IsClosed ((graph_view p ss).rest ext q)
      done (inl (inl e)) = inl (flag_is p.pads.items (port_ended ss) q qlt ∙ (sym (own_done (edge_at p q) apart) ∙ e))
      done (inl (inr c)) = inr (subst IsClosed (sym (read_is p.edges.items (edge_at p q) q (solve_spots ext ss p.nodes.items) (s.pads q qlt).edge)) c)
      done (inr x) = absurd (true≢false (sym x.0 ∙ apart))

-- filters that stand in a vector
pub graph_settles : {F : Type 0} (view : F → View) → ((m : F) → Settles (view m)) → (p : Plan) (ps : List (Placed F)) → Sound p (spots view ps)
    → Settles (graph_view p (spots view ps))
graph_settles view h p ps s ext c q lt on = pad_settles p (spots view ps) s
    (λ k klt. all_spots view (λ a. Settles a.view) (λ m. h m.filter) ps k (omega (arith, spots_size view ps, klt))) ext c q (omega (arith, s.framed.outputs, lt)) on
