-- A plan of filters to which nothing was done stands for the streams that solve the filters.
use Rattle.std.proofs.Common.{◌≡◌, ℕ, zero, suc, ◌+◌, ◌-◌, ◌<◌, ◌≤◌, Bool, true, false, cond, List, [], ◌∷◌, length, map, slice_get, slice_index_or, Option, None, Some, refl, ap, sym, ◌∙◌, subst, inl, inr, arith}
use Rattle.ff_stream.specs.declared.item.Item.{Item}
use Rattle.ff_stream.specs.Ports.{nothing}
use Rattle.ff_filter.specs.Joins.{Flow, Ports}
use Rattle.ff_filter.specs.Views.{View}
use Rattle.ff_filter.specs.laws.Held.{after_held}
use Rattle.ff_graph_dag.specs.declared.graph.Node.{Node}
use Rattle.ff_graph_dag.specs.declared.graph.Port.{Port}
use Rattle.ff_graph_dag.specs.declared.graph.Wire.{Wire}
use Rattle.ff_graph_dag.specs.declared.graph.Plan.{Plan}
use Rattle.ff_graph_dag.specs.laws.Dags.{Spot, Free, reads, comes, gives, solve_spots}
use Rattle.ff_graph_dag.specs.laws.Graphs.{no_spot, spot_at, Fits, graph_view}
use Rattle.ff_graph_dag.specs.laws.Parts.{AreNew, new_at, composed, fit_all, graph_composes}
use Rattle.ff_graph_dag.specs.laws.Readings.{at_is}
use Rattle.ff_graph_dag.specs.laws.SettleLaws.{Late, LateFrom, Local, Fresh, solve_done}
use Rattle.ff_graph_dag.specs.laws.ties.Tied.{port_of, goal_of, start_of, leaves, ins_of, outs_of, edge_in, edge_out, IsTied}
use Rattle.ff_graph_dag.specs.laws.wiring.Wires.{feeder_at, is_at, edge_of, ends_of, wires_of, IsWired, IsLinked}
use Rattle.ff_graph_dag.specs.laws.wiring.Meant.{Streams, input_at, stream_to, streams_to, Solves}
use Rattle.ff_graph_dag.proofs.WiringLemmas.Tying.{at_some, at_itself, wire_is, wire_there, in_edge}

some_same : {A : Type 0} (x y : A) → Some x ≡ Some y → x ≡ y
some_same x y e = cc

no_some : {A B : Type 0} (x : A) → None ≡ Some x → B
no_some x e = cc

-- lists ---------------------------------------------------------------------------------------------------------

pub got_above : {A : Type 0} (xs : List A) (k : ℕ) → slice_get xs k ≡ None → length xs ≤ k
got_above [] k e = omega arith
got_above (x ∷ xs) zero e = cc
got_above (x ∷ xs) (suc k) e = let h : length xs ≤ k = got_above xs k e in omega arith

got_at : {A : Type 0} (xs : List A) (k : ℕ) (d x : A) → slice_get xs k ≡ Some x → slice_index_or xs k d ≡ x
got_at [] k d x e = no_some x e
got_at (y ∷ xs) zero d x e = some_same y x e
got_at (y ∷ xs) (suc k) d x e = got_at xs k d x e

got_is : {A : Type 0} (xs : List A) (k : ℕ) (d : A) → k < length xs → slice_get xs k ≡ Some (slice_index_or xs k d)
got_is [] k d lt = absurd (omega arith)
got_is (x ∷ xs) zero d lt = refl
got_is (x ∷ xs) (suc k) d lt = got_is xs k d (omega arith)

got_below : {A : Type 0} (xs : List A) (k : ℕ) (x : A) → slice_get xs k ≡ Some x → k < length xs
got_below [] k x e = no_some x e
got_below (y ∷ xs) zero x e = omega arith
got_below (y ∷ xs) (suc k) x e = let h = got_below xs k x e in omega arith

reads_got : (ws : List ℕ) (σ : Ports) (i w : ℕ) → slice_get ws i ≡ Some w → reads ws σ i ≡ σ w
reads_got [] σ i w e = no_some w e
reads_got (v ∷ ws) σ zero w e = ap σ (some_same v w e)
reads_got (v ∷ ws) σ (suc i) w e = reads_got ws σ i w e

pub reads_past : (ws : List ℕ) (σ : Ports) (i : ℕ) → slice_get ws i ≡ None → reads ws σ i ≡ nothing
reads_past [] σ i e = refl
reads_past (v ∷ ws) σ zero e = cc
reads_past (v ∷ ws) σ (suc i) e = reads_past ws σ i e

view_got : (ss : List Spot) (k : ℕ) → k < length ss → slice_get (map (λ s. s.view) ss) k ≡ Some (spot_at ss k).view
view_got [] k lt = absurd (omega arith)
view_got (s ∷ ss) zero lt = refl
view_got (s ∷ ss) (suc k) lt = view_got ss k (omega arith)

-- the place of an input among the graph's
found : (fs : List Port) (a : Port) (i : ℕ) → slice_get fs i ≡ Some a → slice_get fs (input_at fs a) ≡ Some a
found [] a i e = no_some a e
found (f ∷ fs) a i e = at (is_at (Some f) a) refl (λ j g. found fs a j g) i e
  where
    at : (b : Bool) → is_at (Some f) a ≡ b → ((j : ℕ) → slice_get fs j ≡ Some a → slice_get fs (input_at fs a) ≡ Some a) → (j : ℕ) → slice_get (f ∷ fs) j ≡ Some a
        → slice_get (f ∷ fs) (cond b 0 (suc (input_at fs a))) ≡ Some a
    at true k r j g = at_some (Some f) a k
    at false k r zero g =
        let no : true ≡ false = sym (at_itself a) ∙ (ap (λ (q : Option Port). is_at q a) (sym g) ∙ k) in
        cc
    at false k r (suc j) g = r j g

-- edges that no later filter gives --------------------------------------------------------------------------------------

abbrev out_at : List Node → ℕ → ℕ → Option ℕ
out_at ns k o = slice_get (outs_of (slice_get ns k)) o

free : (w : ℕ) (us : List ℕ) → ((i : ℕ) → slice_get us i ≡ Some w → ⊥) → Free w us
free w [] h = tt
free w (u ∷ us) h = ((λ e. h zero (ap (λ (n : ℕ). Some n) e)), free w us (λ i e. h (suc i) e))

free_none : (w : ℕ) (us : List ℕ) (i : ℕ) → Free w us → slice_get us i ≡ Some w → ⊥
free_none w [] i f e = no_some w e
free_none w (u ∷ us) zero f e = f.0 (some_same u w e)
free_none w (u ∷ us) (suc i) f e = free_none w us i f.1 e

late : (w : ℕ) (ns : List Node) → ((j o : ℕ) → out_at ns j o ≡ Some w → ⊥) → Late w ns
late w [] h = tt
late w (n ∷ ns) h = (free w n.outs.items (λ o e. h zero o e), late w ns (λ j o e. h (suc j) o e))

late_none : (w : ℕ) (ns : List Node) (j o : ℕ) → Late w ns → out_at ns j o ≡ Some w → ⊥
late_none w [] j o l e = no_some w e
late_none w (n ∷ ns) zero o l e = free_none w n.outs.items o l.0 e
late_none w (n ∷ ns) (suc j) o l e = late_none w ns j o l.1 e

late_from : (w k : ℕ) (ns : List Node) → ((j o : ℕ) → k ≤ j → out_at ns j o ≡ Some w → ⊥) → LateFrom w k ns
late_from w zero ns h = late w ns (λ j o e. h j o (omega arith) e)
late_from w (suc k) [] h = tt
late_from w (suc k) (n ∷ ns) h = late_from w k ns (λ j o le e. h (suc j) o (omega (arith, le)) e)

out_got : (ns : List Node) (k o : ℕ) (m : Node) → k < length ns → out_at ns k o ≡ slice_get (slice_index_or ns k m).outs.items o
out_got [] k o m lt = absurd (omega arith)
out_got (n ∷ ns) zero o m lt = refl
out_got (n ∷ ns) (suc k) o m lt = out_got ns k o m (omega arith)

in_got : (ns : List Node) (k i : ℕ) (m : Node) → k < length ns → slice_get (ins_of (slice_get ns k)) i ≡ slice_get (slice_index_or ns k m).ins.items i
in_got [] k i m lt = absurd (omega arith)
in_got (n ∷ ns) zero i m lt = refl
in_got (n ∷ ns) (suc k) i m lt = in_got ns k i m (omega arith)

-- a plan whose edges fit together ---------------------------------------------------------------------------------------

module _ (p : Plan) (t : IsTied p) where
  -- the edge that leaves an output stands there
  leaves_out : (w : ℕ) (f : Port) → leaves p w ≡ Some f → edge_out p f ≡ Some w
  leaves_out w f e = at (slice_get p.wires.items w) refl e
    where
      at : (o : Option Wire) → slice_get p.wires.items w ≡ o → start_of o (slice_get p.pads.items (w - length p.wires.items)) ≡ Some f → edge_out p f ≡ Some w
      at None g h =
          let past : length p.wires.items ≤ w = got_above p.wires.items w g in
          let same : length p.wires.items + (w - length p.wires.items) ≡ w = omega arith in
          (t.pads (w - length p.wires.items) f h).0 ∙ ap (λ (n : ℕ). Some n) same
      at (Some x) g h = (t.froms w x f g h).1

  goal_some : (o : Option Wire) (f : Port) → goal_of o ≡ Some f → (x : Wire) × (o ≡ Some x) × (x.to ≡ f)
  goal_some None f e = no_some f e
  goal_some (Some x) f e = (x, refl, some_same x.to f e)

  in_wire : (k i w : ℕ) → edge_in p (port_of k i) ≡ Some w → (x : Wire) × (slice_get p.wires.items w ≡ Some x) × (x.to ≡ port_of k i)
  in_wire k i w e = goal_some (slice_get p.wires.items w) (port_of k i) (t.ins_back k i w e)

  leaves_wire : (w : ℕ) (x : Wire) → slice_get p.wires.items w ≡ Some x → leaves p w ≡ x.from
  leaves_wire w x e = ap (λ (o : Option Wire). start_of o (slice_get p.pads.items (w - length p.wires.items))) e

  -- the edge at an input is given by an earlier filter
  in_late : (k i w : ℕ) → edge_in p (port_of k i) ≡ Some w → LateFrom w k p.nodes.items
  in_late k i w e =
      let x = in_wire k i w e in
      late_from w k p.nodes.items (λ j o le g.
      let from : x.0.from ≡ Some (port_of j o) = sym (leaves_wire w x.0 x.1) ∙ t.outs_back j o w g in
      let lt : j < x.0.to.filter = (t.froms w x.0 (port_of j o) x.1 from).0 in
      let is : x.0.to.filter ≡ k = ap (λ (f : Port). f.filter) x.2 in
      absurd (omega (arith, lt, is, le)))

-- made from filters that feed one another -------------------------------------------------------------------------------

module _ (fed : List (List (Option Port))) (counts : List ℕ) (opens pads : List Port) (l : IsLinked fed counts opens pads)
    (p : Plan) (w : IsWired fed counts opens pads p) (t : IsTied p)
    (ss : List Spot) (size : length ss ≡ length p.nodes.items)
    (fits : (k : ℕ) (m : Node) → k < length ss → Fits (spot_at ss k) (slice_index_or p.nodes.items k m)) (new : AreNew ss)
    (ext : Ports) (σ : Streams) (s : Solves fed opens ext (map (λ a. a.view) ss) σ) where
  -- what an edge carries
  abbrev pub want_of : Option Port → ℕ → Flow
  want_of None v = ext v
  want_of (Some f) v = σ f

  abbrev pub want : ℕ → Flow
  want v = want_of (leaves p v) v

  want_some : (v : ℕ) (f : Port) → leaves p v ≡ Some f → want v ≡ σ f
  want_some v f e = ap (λ (o : Option Port). want_of o v) e

  want_none : (v : ℕ) → leaves p v ≡ None → want v ≡ ext v
  want_none v e = ap (λ (o : Option Port). want_of o v) e

  abbrev pub All : ℕ → Type 0
  All v = Unit {0}

  abbrev pub Carries : ℕ → Flow → Type 0
  Carries v r = r ≡ want v

  start : (v : ℕ) → All v → Late v p.nodes.items → Carries v (ext v)
  start v a late = at (leaves p v) refl
    where
      at : (o : Option Port) → leaves p v ≡ o → ext v ≡ want_of o v
      at None e = refl
      at (Some f) e = absurd (late_none v p.nodes.items f.filter f.port late (leaves_out p t v f e))

  -- what comes to an input
  into : (k i v : ℕ) → edge_in p (port_of k i) ≡ Some v → want v ≡ streams_to fed opens ext σ k i
  into k i v e =
      let x = in_wire p t k i v e in
      let there = wire_there fed counts opens pads l p w v x.0 x.1 in
      elim (wire_is fed counts opens pads l v x.0 there) as (λ _. want v ≡ streams_to fed opens ext σ k i) [
        | inl a ↦
            let here : slice_get opens v ≡ Some (port_of k i) = a.1 ∙ ap (λ (f : Port). Some f) x.2 in
            let bare : feeder_at fed (port_of k i) ≡ Some None = l.opens_open v (port_of k i) here in
            let place : v ≡ input_at opens (port_of k i) = l.opens_once v (input_at opens (port_of k i)) (port_of k i) here (found opens (port_of k i) v here) in
            want_none v (leaves_wire p t v x.0 x.1 ∙ a.0) ∙ (ap ext place ∙ sym (ap (λ (o : Option (Option Port)). stream_to opens ext σ (port_of k i) o) bare))
        | inr a ↦
            let fedby : feeder_at fed (port_of k i) ≡ Some (Some a.0) = sym (ap (λ (f : Port). feeder_at fed f) x.2) ∙ a.2 in
            want_some v a.0 (leaves_wire p t v x.0 x.1 ∙ a.1) ∙ sym (ap (λ (o : Option (Option Port)). stream_to opens ext σ (port_of k i) o) fedby)
      ]

  -- one filter
  module _ (k : ℕ) (m : Node) (klt : k < length ss) where
    abbrev pub here : Node
    here = slice_index_or p.nodes.items k m

    nlt : k < length p.nodes.items
    nlt = omega (arith, size, klt)

    module _ (τ : Ports) (h : (i : ℕ) → i < length here.ins.items → Carries (slice_index_or here.ins.items i 0) (τ (slice_index_or here.ins.items i 0))) where
      past : (i : ℕ) → slice_get here.ins.items i ≡ None → (o : Option (Option Port)) → feeder_at fed (port_of k i) ≡ o → stream_to opens ext σ (port_of k i) o ≡ nothing
      past i e None g = refl
      past i e (Some o) g =
          let no : None ≡ Some (edge_of (ends_of (wires_of fed opens)) (port_of k i)) =
          sym e ∙ (sym (in_got p.nodes.items k i m nlt) ∙ in_edge fed counts opens pads l p w (port_of k i) o g) in
          cc

      read_at : (i : ℕ) (o : Option ℕ) → slice_get here.ins.items i ≡ o → reads here.ins.items τ i ≡ streams_to fed opens ext σ k i
      read_at i None e = reads_past here.ins.items τ i e ∙ sym (past i e (feeder_at fed (port_of k i)) refl)
      read_at i (Some v) e =
          let is : slice_index_or here.ins.items i 0 ≡ v = got_at here.ins.items i 0 v e in
          reads_got here.ins.items τ i v e
          ∙ (subst (λ (u : ℕ). τ u ≡ want u) is (h i (got_below here.ins.items i v e)) ∙ into k i v (in_got p.nodes.items k i m nlt ∙ e))

      read : (i : ℕ) → reads here.ins.items τ i ≡ streams_to fed opens ext σ k i
      read i = read_at i (slice_get here.ins.items i) refl

      come : comes (spot_at ss k) here τ ≡ streams_to fed opens ext σ k
      come = λ j i. (ap (λ (x : Option Item). after_held x (reads here.ins.items τ i)) ((new_at ss new k).held i) ∙ read i) j

      gave : (o : ℕ) → o < length here.outs.items → Carries (slice_index_or here.outs.items o 0) (gives (spot_at ss k) here τ o)
      gave o olt =
          let v : ℕ = slice_index_or here.outs.items o 0 in
          let there : edge_out p (port_of k o) ≡ Some v = out_got p.nodes.items k o m nlt ∙ got_is here.outs.items o 0 olt in
          let view : View = (spot_at ss k).view in
          ap (λ (b : Bool). cond b nothing (view.rest (comes (spot_at ss k) here τ) o)) ((new_at ss new k).view.stopped o)
          ∙ (ap (λ (r : Ports). view.rest r o) come ∙ (sym (s k o view (view_got ss k klt) (omega (arith, (fits k m klt).outs, olt)))
          ∙ sym (want_some v (port_of k o) (t.outs_back k o v there))))

  local_at : (k : ℕ) (m : Node) → k < length ss → Local All Carries (spot_at ss k) (slice_index_or p.nodes.items k m)
  local_at k m klt τ h o olt a = gave k m klt τ h o olt

  local : (k : ℕ) (d : Spot) (m : Node) → k < length ss → Local All Carries (slice_index_or ss k d) (slice_index_or p.nodes.items k m)
  local k d m klt = subst (λ (a : Spot). Local All Carries a (slice_index_or p.nodes.items k m)) (sym (at_is ss k no_spot d (spot_at ss k) klt refl)) (local_at k m klt)

  fresh : (k : ℕ) (m : Node) → k < length p.nodes.items → Fresh All (slice_index_or p.nodes.items k m) k p.nodes.items
  fresh k m lt o olt a i ilt = (
    tt,
    in_late p t k i (slice_index_or (slice_index_or p.nodes.items k m).ins.items i 0)
        (in_got p.nodes.items k i m lt ∙ got_is (slice_index_or p.nodes.items k m).ins.items i 0 ilt),
  )

  -- on each edge
  solved : (v : ℕ) → solve_spots ext ss p.nodes.items v ≡ want v
  solved v = solve_done All Carries ss p.nodes.items size local fresh ext start v tt

  -- on the graph's outputs
  pub seen_as : (q : ℕ) (f : Port) → slice_get p.pads.items q ≡ Some f → (graph_view p ss).rest ext q ≡ σ f
  seen_as q f e =
      let h = t.pads q f e in
      let v : ℕ = length p.wires.items + q in
      reads_got p.edges.items (solve_spots ext ss p.nodes.items) q v h.1 ∙ (solved v ∙ want_some v f (t.outs_back f.filter f.port v h.0))

  pub composed_as : (q : ℕ) (f : Port) → slice_get p.pads.items q ≡ Some f → composed p ss ext q ≡ σ f
  composed_as q f e = sym (graph_composes p ss new (fit_all ss p.nodes.items fits) ext q) ∙ seen_as q f e
