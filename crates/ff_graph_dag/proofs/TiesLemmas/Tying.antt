-- A plan whose edges fit together is sound for filters to which nothing was done.
use Rattle.std.proofs.Common.{◌≡◌, ◌≢◌, ℕ, zero, suc, ◌+◌, ◌-◌, ◌<◌, ◌≤◌, ◌==◌, ◌||◌, Bool, true, false, true≢false, cond, is_some, List, [], ◌∷◌, length, slice_get, slice_index_or, Option, None, Some, refl, ap, sym, ◌∙◌, subst, ◌⊎◌, inl, inr, arith}
use Rattle.std.proofs.lemmas.Bool.Decides.{nat_tests}
use Rattle.ff_graph_dag.specs.declared.graph.Node.{Node}
use Rattle.ff_graph_dag.specs.declared.graph.Port.{Port}
use Rattle.ff_graph_dag.specs.declared.graph.Wire.{Wire}
use Rattle.ff_graph_dag.specs.declared.graph.Plan.{Plan}
use Rattle.ff_graph_dag.specs.laws.Dags.{Spot, spot_shut, Free, StandsAt, AllUntouched, Reads, Leaves, Leads}
use Rattle.ff_graph_dag.specs.laws.Graphs.{spot_at, no_port, no_wire, wire_at, pad_at, edge_at, feed_at, port_shut, port_ended, Apart, Each, IsWire, IsPad, InThere, OutThere, Fits, among, ways_of, on_way, out_edge, in_edge, is_port, comes_from, is_given, IsCone, IsEntry, Framed, Sound}
use Rattle.ff_graph_dag.specs.laws.Parts.{IsNewSpot, AreNew, new_at}
use Rattle.ff_graph_dag.specs.laws.Readings.{is_same}
use Rattle.ff_graph_dag.specs.laws.ties.Tied.{port_of, goal_of, leads_to, start_of, leaves, ins_of, outs_of, edge_in, edge_out, is_needed, wire_needed, IsReached, IsTied}

-- lists ---------------------------------------------------------------------------------------------------------

some_same : {A : Type 0} (x y : A) → Some x ≡ Some y → x ≡ y
some_same x y e = cc

no_some : {A B : Type 0} (x : A) → None ≡ Some x → B
no_some x e = cc

pub got : {A : Type 0} (xs : List A) (k : ℕ) (d : A) → k < length xs → slice_get xs k ≡ Some (slice_index_or xs k d)
got [] k d lt = absurd (omega arith)
got (x ∷ xs) zero d lt = refl
got (x ∷ xs) (suc k) d lt = got xs k d (omega arith)

pub got_below : {A : Type 0} (xs : List A) (k : ℕ) (x : A) → slice_get xs k ≡ Some x → k < length xs
got_below [] k x e = no_some x e
got_below (y ∷ xs) zero x e = omega arith
got_below (y ∷ xs) (suc k) x e = let h = got_below xs k x e in omega arith

pub got_is : {A : Type 0} (xs : List A) (k : ℕ) (d x : A) → slice_get xs k ≡ Some x → slice_index_or xs k d ≡ x
got_is [] k d x e = no_some x e
got_is (y ∷ xs) zero d x e = some_same y x e
got_is (y ∷ xs) (suc k) d x e = got_is xs k d x e

got_none : {A : Type 0} (xs : List A) (k : ℕ) → length xs ≤ k → slice_get xs k ≡ None
got_none [] k le = refl
got_none (x ∷ xs) zero le = absurd (omega arith)
got_none (x ∷ xs) (suc k) le = got_none xs k (omega arith)

free : (w : ℕ) (us : List ℕ) → ((i u : ℕ) → slice_get us i ≡ Some u → u ≢ w) → Free w us
free w [] h = tt
free w (u ∷ us) h = (h zero u refl, free w us (λ i v e. h (suc i) v e))

stands : (w i : ℕ) (us : List ℕ) → slice_get us i ≡ Some w → ((j : ℕ) → slice_get us j ≡ Some w → j ≡ i) → StandsAt w i us
stands w i [] e h = no_some w e
stands w zero (u ∷ us) e h = (some_same u w e, free w us (λ j v g k. let x : suc j ≡ 0 = h (suc j) (g ∙ ap (λ (n : ℕ). Some n) k) in absurd (omega arith)))
stands w (suc i) (u ∷ us) e h =
    ((λ k. let x : 0 ≡ suc i = h zero (ap (λ (n : ℕ). Some n) k) in absurd (omega arith)), stands w i us e (λ j g. let x : suc j ≡ suc i = h (suc j) g in omega arith))

each : (P : Port → Type 0) (ps : List Port) → ((q : ℕ) (f : Port) → slice_get ps q ≡ Some f → P f) → Each P ps
each P [] h = tt
each P (p ∷ ps) h = (h zero p refl, each P ps (λ q f e. h (suc q) f e))

new_shut : (s : Spot) (i : ℕ) → IsNewSpot s → spot_shut s i ≡ false
new_shut s i f = rw (f.view.shut i, f.held i) refl

-- the edges at the filters of a list ----------------------------------------------------------------------------------

abbrev in_at : List Node → ℕ → ℕ → Option ℕ
in_at ns k i = slice_get (ins_of (slice_get ns k)) i

abbrev out_at : List Node → ℕ → ℕ → Option ℕ
out_at ns k o = slice_get (outs_of (slice_get ns k)) o

all_untouched : (w : ℕ) (ns : List Node) → ((k i : ℕ) → in_at ns k i ≡ Some w → ⊥) → ((k o : ℕ) → out_at ns k o ≡ Some w → ⊥) → AllUntouched w ns
all_untouched w [] f g = tt
all_untouched w (n ∷ ns) f g = (
  (free w n.ins.items (λ i u e k. f zero i (e ∙ ap (λ (x : ℕ). Some x) k)), free w n.outs.items (λ o u e k. g zero o (e ∙ ap (λ (x : ℕ). Some x) k))),
  all_untouched w ns (λ k i e. f (suc k) i e) (λ k o e. g (suc k) o e),
)

reads : (w k i : ℕ) (ns : List Node) → in_at ns k i ≡ Some w → ((l j : ℕ) → in_at ns l j ≡ Some w → (l ≡ k) × (j ≡ i)) → ((l o : ℕ) → out_at ns l o ≡ Some w → ⊥)
    → Reads w k i ns
reads w k i [] e f g = no_some w e
reads w zero i (n ∷ ns) e f g = (
  stands w i n.ins.items e (λ j h. (f zero j h).1),
  free w n.outs.items (λ o u h k. g zero o (h ∙ ap (λ (x : ℕ). Some x) k)),
  all_untouched w ns (λ k j h. let x : suc k ≡ 0 = (f (suc k) j h).0 in absurd (omega arith)) (λ k o h. g (suc k) o h),
)
reads w (suc k) i (n ∷ ns) e f g = (
  (
    free w n.ins.items (λ j u h k2. let x : 0 ≡ suc k = (f zero j (h ∙ ap (λ (x : ℕ). Some x) k2)).0 in absurd (omega arith)),
    free w n.outs.items (λ o u h k2. g zero o (h ∙ ap (λ (x : ℕ). Some x) k2)),
  ),
  reads w k i ns e (λ l j h. let x = f (suc l) j h in let y : suc l ≡ suc k = x.0 in (omega arith, x.1)) (λ l o h. g (suc l) o h),
)

leads : (w j q k i : ℕ) (ns : List Node) → j < k → out_at ns j q ≡ Some w → in_at ns k i ≡ Some w → ((l m : ℕ) → in_at ns l m ≡ Some w → (l ≡ k) × (m ≡ i))
    → ((l o : ℕ) → out_at ns l o ≡ Some w → (l ≡ j) × (o ≡ q)) → Leads w j q k i ns
leads w j q k i [] lt a b f g = no_some w b
leads w zero q zero i (n ∷ ns) lt a b f g = absurd (omega arith)
leads w (suc j) q zero i (n ∷ ns) lt a b f g = absurd (omega arith)
leads w zero q (suc k) i (n ∷ ns) lt a b f g = (
  free w n.ins.items (λ m u h e. let x : 0 ≡ suc k = (f zero m (h ∙ ap (λ (x : ℕ). Some x) e)).0 in absurd (omega arith)),
  stands w q n.outs.items a (λ o h. (g zero o h).1),
  reads w k i ns b (λ l m h. let x = f (suc l) m h in let y : suc l ≡ suc k = x.0 in (omega arith, x.1))
      (λ l o h. let x : suc l ≡ 0 = (g (suc l) o h).0 in absurd (omega arith)),
)
leads w (suc j) q (suc k) i (n ∷ ns) lt a b f g = (
  (
    free w n.ins.items (λ m u h e. let x : 0 ≡ suc k = (f zero m (h ∙ ap (λ (x : ℕ). Some x) e)).0 in absurd (omega arith)),
    free w n.outs.items (λ o u h e. let x : 0 ≡ suc j = (g zero o (h ∙ ap (λ (x : ℕ). Some x) e)).0 in absurd (omega arith)),
  ),
  leads w j q k i ns (omega arith) a b (λ l m h. let x = f (suc l) m h in let y : suc l ≡ suc k = x.0 in (omega arith, x.1))
      (λ l o h. let x = g (suc l) o h in let y : suc l ≡ suc j = x.0 in (omega arith, x.1)),
)

leaves_so : (w j q : ℕ) (ns : List Node) → out_at ns j q ≡ Some w → ((l o : ℕ) → out_at ns l o ≡ Some w → (l ≡ j) × (o ≡ q)) → ((l i : ℕ) → in_at ns l i ≡ Some w → ⊥)
    → Leaves w j q ns
leaves_so w j q [] e f g = no_some w e
leaves_so w zero q (n ∷ ns) e f g = (
  stands w q n.outs.items e (λ o h. (f zero o h).1),
  free w n.ins.items (λ i u h k. g zero i (h ∙ ap (λ (x : ℕ). Some x) k)),
  all_untouched w ns (λ k i h. g (suc k) i h) (λ k o h. let x : suc k ≡ 0 = (f (suc k) o h).0 in absurd (omega arith)),
)
leaves_so w (suc j) q (n ∷ ns) e f g = (
  (
    free w n.ins.items (λ i u h k. g zero i (h ∙ ap (λ (x : ℕ). Some x) k)),
    free w n.outs.items (λ o u h k. let x : 0 ≡ suc j = (f zero o (h ∙ ap (λ (x : ℕ). Some x) k)).0 in absurd (omega arith)),
  ),
  leaves_so w j q ns e (λ l o h. let x = f (suc l) o h in let y : suc l ≡ suc j = x.0 in (omega arith, x.1)) (λ l i h. g (suc l) i h),
)

-- an edge that stands there
in_there : (ns : List Node) (k i w : ℕ) → in_at ns k i ≡ Some w → k < length ns
in_there [] k i w e = no_some w e
in_there (n ∷ ns) zero i w e = omega arith
in_there (n ∷ ns) (suc k) i w e = let h = in_there ns k i w e in omega arith

in_port : (ns : List Node) (k i w : ℕ) (m : Node) → in_at ns k i ≡ Some w → slice_get (slice_index_or ns k m).ins.items i ≡ Some w
in_port [] k i w m e = no_some w e
in_port (n ∷ ns) zero i w m e = e
in_port (n ∷ ns) (suc k) i w m e = in_port ns k i w m e

in_back : (ns : List Node) (k i w : ℕ) (m : Node) → k < length ns → slice_get (slice_index_or ns k m).ins.items i ≡ Some w → in_at ns k i ≡ Some w
in_back [] k i w m lt e = absurd (omega arith)
in_back (n ∷ ns) zero i w m lt e = e
in_back (n ∷ ns) (suc k) i w m lt e = in_back ns k i w m (omega arith) e

out_there : (ns : List Node) (k o w : ℕ) → out_at ns k o ≡ Some w → k < length ns
out_there [] k o w e = no_some w e
out_there (n ∷ ns) zero o w e = omega arith
out_there (n ∷ ns) (suc k) o w e = let h = out_there ns k o w e in omega arith

out_port : (ns : List Node) (k o w : ℕ) (m : Node) → out_at ns k o ≡ Some w → slice_get (slice_index_or ns k m).outs.items o ≡ Some w
out_port [] k o w m e = no_some w e
out_port (n ∷ ns) zero o w m e = e
out_port (n ∷ ns) (suc k) o w m e = out_port ns k o w m e

out_back : (ns : List Node) (k o w : ℕ) (m : Node) → k < length ns → slice_get (slice_index_or ns k m).outs.items o ≡ Some w → out_at ns k o ≡ Some w
out_back [] k o w m lt e = absurd (omega arith)
out_back (n ∷ ns) zero o w m lt e = e
out_back (n ∷ ns) (suc k) o w m lt e = out_back ns k o w m (omega arith) e

-- a plan whose edges fit together ---------------------------------------------------------------------------------

to_eq : (f : Port) (k i : ℕ) → f ≡ port_of k i → (f.filter ≡ k) × (f.port ≡ i)
to_eq f k i e = (ap (λ (g : Port). g.filter) e, ap (λ (g : Port). g.port) e)

port_same : (f g : Port) → f.filter ≡ g.filter → f.port ≡ g.port → f ≡ g
port_same f g x y = λ j. record { filter = x j; port = y j }

module _ (p : Plan) (t : IsTied p) where
  wire_got : (w : ℕ) → w < length p.wires.items → slice_get p.wires.items w ≡ Some (wire_at p w)
  wire_got w lt = got p.wires.items w no_wire lt

  pad_got : (q : ℕ) → q < length p.pads.items → slice_get p.pads.items q ≡ Some (pad_at p q)
  pad_got q lt = got p.pads.items q no_port lt

  feed_got : (i : ℕ) → i < length p.feeds.items → slice_get p.feeds.items i ≡ Some (feed_at p i)
  feed_got i lt = got p.feeds.items i no_port lt

  -- an edge stands at one input at most
  leads_wire : (w : ℕ) (x : Wire) → slice_get p.wires.items w ≡ Some x → leads_to p w ≡ Some x.to
  leads_wire w x e = ap goal_of e

  in_once : (w : ℕ) (x : Wire) → slice_get p.wires.items w ≡ Some x → (k i : ℕ) → edge_in p (port_of k i) ≡ Some w → (k ≡ x.to.filter) × (i ≡ x.to.port)
  in_once w x e k i h =
      let s : x.to ≡ port_of k i = some_same x.to (port_of k i) (sym (leads_wire w x e) ∙ t.ins_back k i w h) in
      (sym (to_eq x.to k i s).0, sym (to_eq x.to k i s).1)

  -- past the edges that lead to filters there is none at an input
  in_wire : (k i w : ℕ) → edge_in p (port_of k i) ≡ Some w → w < length p.wires.items
  in_wire k i w h = at (slice_get p.wires.items w) refl (t.ins_back k i w h)
    where
      at : (o : Option Wire) → slice_get p.wires.items w ≡ o → goal_of o ≡ Some (port_of k i) → w < length p.wires.items
      at None e g = no_some (port_of k i) g
      at (Some x) e g = got_below p.wires.items w x e

  leaves_wire : (w : ℕ) (x : Wire) → slice_get p.wires.items w ≡ Some x → leaves p w ≡ x.from
  leaves_wire w x e = ap (λ (o : Option Wire). start_of o (slice_get p.pads.items (w - length p.wires.items))) e

  leaves_pad : (q : ℕ) (f : Port) → slice_get p.pads.items q ≡ Some f → leaves p (length p.wires.items + q) ≡ Some f
  leaves_pad q f e =
      let past : slice_get p.wires.items (length p.wires.items + q) ≡ None = got_none p.wires.items (length p.wires.items + q) (omega arith) in
      let same : (length p.wires.items + q) - length p.wires.items ≡ q = omega arith in
      ap (λ (o : Option Wire). start_of o (slice_get p.pads.items ((length p.wires.items + q) - length p.wires.items))) past
      ∙ ap (λ (n : ℕ). slice_get p.pads.items n) same ∙ e

  -- an edge stands at one output at most
  out_once : (w : ℕ) (f : Port) → leaves p w ≡ Some f → (k o : ℕ) → edge_out p (port_of k o) ≡ Some w → (k ≡ f.filter) × (o ≡ f.port)
  out_once w f e k o h =
      let s : f ≡ port_of k o = some_same f (port_of k o) (sym e ∙ t.outs_back k o w h) in
      (sym (to_eq f k o s).0, sym (to_eq f k o s).1)

  out_none : (w : ℕ) → leaves p w ≡ None → (k o : ℕ) → edge_out p (port_of k o) ≡ Some w → ⊥
  out_none w e k o h = no_some (port_of k o) (sym e ∙ t.outs_back k o w h)

  -- the wires that come from an output
  wire_some : (w : ℕ) (f : Port) → (wire_at p w).from ≡ Some f → slice_get p.wires.items w ≡ Some (wire_at p w)
  wire_some w f e = at p.wires.items w e
    where
      at : (xs : List Wire) (v : ℕ) → (slice_index_or xs v no_wire).from ≡ Some f → slice_get xs v ≡ Some (slice_index_or xs v no_wire)
      at [] v h = no_some f h
      at (x ∷ xs) zero h = refl
      at (x ∷ xs) (suc v) h = at xs v h

  edge_past : (q u : ℕ) → slice_get p.edges.items q ≡ Some u → (length p.wires.items ≤ u) × (u ≡ length p.wires.items + q)
  edge_past q u e =
      let lt : q < length p.edges.items = got_below p.edges.items q u e in
      let plt : q < length p.pads.items = omega (arith, t.edges) in
      let s : u ≡ length p.wires.items + q = some_same u (length p.wires.items + q) (sym e ∙ (t.pads q (pad_at p q) (pad_got q plt)).1) in
      (omega arith, s)

  edge_is : (q : ℕ) → q < length p.pads.items → edge_at p q ≡ length p.wires.items + q
  edge_is q lt = got_is p.edges.items q 0 (length p.wires.items + q) (t.pads q (pad_at p q) (pad_got q lt)).1

  same_in : (w v : ℕ) (f : Port) → edge_in p f ≡ Some w → edge_in p f ≡ Some v → v ≡ w
  same_in w v f a b = some_same v w (sym b ∙ a)

  same_out : (w v : ℕ) (f : Port) → edge_out p f ≡ Some w → edge_out p f ≡ Some v → v ≡ w
  same_out w v f a b = some_same v w (sym b ∙ a)

  apart_in : (w v : ℕ) (f g : Port) → edge_in p f ≡ Some w → edge_in p g ≡ Some v → v ≢ w → Apart g f
  apart_in w v f g a b n x y = n (same_in w v f a (subst (λ (h : Port). edge_in p h ≡ Some v) (port_same g f x y) b))

  apart_out : (w v : ℕ) (f g : Port) → edge_out p f ≡ Some w → edge_out p g ≡ Some v → v ≢ w → Apart g f
  apart_out w v f g a b n x y = n (same_out w v f a (subst (λ (h : Port). edge_out p h ≡ Some v) (port_same g f x y) b))

  -- an input of the graph leads elsewhere than an edge from an output of a filter
  feed_other : (w : ℕ) (f : Port) → w < length p.wires.items → (wire_at p w).from ≡ Some f → (i : ℕ) (g : Port) → slice_get p.feeds.items i ≡ Some g → i ≢ w
  feed_other w f lt e i g d k =
      let y : Wire = record { from = None; to = g } in
      let s : Some y ≡ Some (wire_at p w) = sym (t.feeds i g d) ∙ (ap (λ (n : ℕ). slice_get p.wires.items n) k ∙ wire_got w lt) in
      let r : y ≡ wire_at p w = some_same y (wire_at p w) s in
      no_some f (ap (λ (z : Wire). z.from) r ∙ e)

  wired : (w : ℕ) → w < length p.wires.items → IsWire p w
  wired w lt =
      let x : Wire = wire_at p w in
      let is : slice_get p.wires.items w ≡ Some x = wire_got w lt in
      let here : edge_in p x.to ≡ Some w = t.tos w x is in
      record {
        to_there = in_there p.nodes.items x.to.filter x.to.port w here;
        port_there = λ m. got_below (slice_index_or p.nodes.items x.to.filter m).ins.items x.to.port w (in_port p.nodes.items x.to.filter x.to.port w m here);
        free = free w p.edges.items (λ q u e k. let h : length p.wires.items ≤ u = (edge_past q u e).0 in absurd (omega arith));
        tos = λ v vlt n. apart_in w v x.to (wire_at p v).to here (t.tos v (wire_at p v) (wire_got v vlt)) n;
        from_there = λ f e.
            let h = t.froms w x f is e in
            (h.0, λ m. got_below (slice_index_or p.nodes.items f.filter m).outs.items f.port w (out_port p.nodes.items f.filter f.port w m h.1));
        leads = λ f e.
            let h = t.froms w x f is e in
            leads w f.filter f.port x.to.filter x.to.port p.nodes.items h.0 h.1 here (λ l j g. in_once w x is l j g)
            (λ l o g. out_once w f (leaves_wire w x is ∙ e) l o g);
        froms = λ f g v e d n. apart_out w v f g (t.froms w x f is e).1 (t.froms v (wire_at p v) g (wire_some v g d) d).1 n;
        pads = λ f e. each (λ g. Apart g f) p.pads.items (λ q g d. apart_out w (length p.wires.items + q) f g (t.froms w x f is e).1 (t.pads q g d).0
            (λ k. absurd (omega arith)));
        feeds = λ f e. each (λ g. Apart g x.to) p.feeds.items (λ i g d. apart_in w i x.to g here (t.tos i (record { from = None; to = g }) (t.feeds i g d))
            (feed_other w f lt e i g d));
      }

  pad_edge : (q : ℕ) → q < length p.pads.items → edge_out p (pad_at p q) ≡ Some (length p.wires.items + q)
  pad_edge q lt = (t.pads q (pad_at p q) (pad_got q lt)).0

  padded : (q : ℕ) → q < length p.pads.items → IsPad p q
  padded q lt =
      let f : Port = pad_at p q in
      let e : edge_at p q ≡ length p.wires.items + q = edge_is q lt in
      record {
        there = out_there p.nodes.items f.filter f.port (length p.wires.items + q) (pad_edge q lt);
        leaves = subst (λ (w : ℕ). Leaves w f.filter f.port p.nodes.items) (sym e)
            (leaves_so (length p.wires.items + q) f.filter f.port p.nodes.items (pad_edge q lt)
            (λ l o g. out_once (length p.wires.items + q) f (leaves_pad q f (pad_got q lt)) l o g)
            (λ l i g. let h : length p.wires.items + q < length p.wires.items = in_wire l i (length p.wires.items + q) g in absurd (omega arith)));
        edge = subst (λ (w : ℕ). StandsAt w q p.edges.items) (sym e)
            (stands (length p.wires.items + q) q p.edges.items (t.pads q f (pad_got q lt)).1
            (λ o g. let h : length p.wires.items + q ≡ length p.wires.items + o = (edge_past o (length p.wires.items + q) g).1 in omega arith));
        apart = λ o olt n. apart_out (length p.wires.items + q) (length p.wires.items + o) f (pad_at p o) (pad_edge q lt) (pad_edge o olt)
            (λ k. n (omega arith));
      }

  entered : (i : ℕ) → i < length p.feeds.items → IsEntry p i
  entered i lt =
      let y : Wire = record { from = None; to = feed_at p i } in
      let g : slice_get p.wires.items i ≡ Some y = t.feeds i (feed_at p i) (feed_got i lt) in
      let w : wire_at p i ≡ y = got_is p.wires.items i no_wire y g in
      let here : edge_in p (feed_at p i) ≡ Some i = t.tos i y g in
      record {
        wire = got_below p.wires.items i y g;
        from = ap (λ (z : Wire). is_some z.from) w;
        filter = sym (ap (λ (z : Wire). z.to.filter) w);
        port = sym (ap (λ (z : Wire). z.to.port) w);
        reads = subst (λ (z : Wire). Reads i z.to.filter z.to.port p.nodes.items) (sym w)
            (reads i (feed_at p i).filter (feed_at p i).port p.nodes.items here (λ l j h. in_once i y g l j h)
            (λ l o h. out_none i (leaves_wire i y g) l o h));
      }

  or_case : (a b : Bool) → (a || b) ≡ true → (a ≡ true) ⊎ (b ≡ true)
  or_case true b e = inl refl
  or_case false b e = inr e

  is_the : (f : Port) (k i : ℕ) → f ≡ port_of k i → is_port f k i ≡ true
  is_the f k i e =
      let x : (f.filter == k) ≡ true = is_same f.filter k (to_eq f k i e).0 in
      let y : (f.port == i) ≡ true = is_same f.port i (to_eq f k i e).1 in
      rw (x, y) refl

  comes_the : (o : Option Port) (k i : ℕ) → o ≡ Some (port_of k i) → comes_from o k i ≡ true
  comes_the None k i e = no_some (port_of k i) e
  comes_the (Some f) k i e = is_the f k i (some_same f (port_of k i) e)

  module _ (q : ℕ) (lt : q < length p.pads.items) (needed : List Bool) (r : IsReached p (ways_of p q) (pad_at p q) needed) where
    way_wire : (w : ℕ) → among (ways_of p q) w ≡ true → (x : Wire) × (slice_get p.wires.items w ≡ Some x) × (is_needed needed x.to.filter ≡ true)
    way_wire w e = at (slice_get p.wires.items w) refl (sym (r.ways w) ∙ e)
      where
        at : (o : Option Wire) → slice_get p.wires.items w ≡ o → wire_needed needed o ≡ true
            → (x : Wire) × (slice_get p.wires.items w ≡ Some x) × (is_needed needed x.to.filter ≡ true)
        at None g h = cc
        at (Some x) g h = (x, g, h)

    own_edge : (w : ℕ) → (edge_at p q == w) ≡ true → w ≡ length p.wires.items + q
    own_edge w e = let a : edge_at p q ≡ length p.wires.items + q = edge_is q lt in let b : edge_at p q ≡ w = grind (arith, nat_tests) in omega arith

    own_pad : (k o w : ℕ) → edge_out p (port_of k o) ≡ Some w → w ≡ length p.wires.items + q → pad_at p q ≡ port_of k o
    own_pad k o w h e =
        some_same (pad_at p q) (port_of k o) (sym (leaves_pad q (pad_at p q) (pad_got q lt)) ∙ (ap (λ (n : ℕ). leaves p n) (sym e) ∙ t.outs_back k o w h))

    -- the edge at an output is there
    out_is : (k o : ℕ) (m : Node) → k < length p.nodes.items → o < length (slice_index_or p.nodes.items k m).outs.items → edge_out p (port_of k o) ≡ Some (out_edge p m k o)
    out_is k o m klt olt = out_back p.nodes.items k o (out_edge p m k o) m klt (got (slice_index_or p.nodes.items k m).outs.items o 0 olt)

    in_is : (k i : ℕ) (m : Node) → k < length p.nodes.items → i < length (slice_index_or p.nodes.items k m).ins.items → edge_in p (port_of k i) ≡ Some (in_edge p m k i)
    in_is k i m klt ilt = in_back p.nodes.items k i (in_edge p m k i) m klt (got (slice_index_or p.nodes.items k m).ins.items i 0 ilt)

    given : (k o w : ℕ) → edge_out p (port_of k o) ≡ Some w → on_way p q w ≡ true → is_given p q w k o ≡ true
    given k o w h e = at (among (ways_of p q) w) refl e
      where
        at : (b : Bool) → among (ways_of p q) w ≡ b → (b || (edge_at p q == w)) ≡ true → cond b (comes_from (wire_at p w).from k o) (is_port (pad_at p q) k o) ≡ true
        at true a g =
            let x = way_wire w a in
            let y : wire_at p w ≡ x.0 = got_is p.wires.items w no_wire x.0 x.1 in
            comes_the (wire_at p w).from k o (ap (λ (z : Wire). z.from) y ∙ (sym (leaves_wire w x.0 x.1) ∙ t.outs_back k o w h))
        at false a g = is_the (pad_at p q) k o (own_pad k o w h (own_edge w g))

    -- a filter whose output is on the way is needed
    needed_there : (k o w : ℕ) → edge_out p (port_of k o) ≡ Some w → on_way p q w ≡ true → is_needed needed k ≡ true
    needed_there k o w h e = elim (or_case (among (ways_of p q) w) (edge_at p q == w) e) as (λ _. is_needed needed k ≡ true) [
      | inl a ↦
          let x = way_wire w a in
          r.back w x.0 (port_of k o) x.1 x.2 (sym (leaves_wire w x.0 x.1) ∙ t.outs_back k o w h)
      | inr b ↦ sym (ap (λ (f : Port). is_needed needed f.filter) (own_pad k o w h (own_edge w b))) ∙ r.pad
    ]

    way_into : (k i w : ℕ) → edge_in p (port_of k i) ≡ Some w → is_needed needed k ≡ true → among (ways_of p q) w ≡ true
    way_into k i w h n = at (slice_get p.wires.items w) refl (t.ins_back k i w h)
      where
        at : (o : Option Wire) → slice_get p.wires.items w ≡ o → goal_of o ≡ Some (port_of k i) → among (ways_of p q) w ≡ true
        at None g e = no_some (port_of k i) e
        at (Some x) g e =
            r.ways w ∙ (ap (λ (o : Option Wire). wire_needed needed o) g ∙ (ap (λ (j : ℕ). is_needed needed j) (to_eq x.to k i (some_same x.to (port_of k i) e)).0 ∙ n))

    port_into : (k i w : ℕ) → edge_in p (port_of k i) ≡ Some w → is_port (wire_at p w).to k i ≡ true
    port_into k i w h = at (slice_get p.wires.items w) refl (t.ins_back k i w h)
      where
        at : (o : Option Wire) → slice_get p.wires.items w ≡ o → goal_of o ≡ Some (port_of k i) → is_port (wire_at p w).to k i ≡ true
        at None g e = no_some (port_of k i) e
        at (Some x) g e = is_the (wire_at p w).to k i (ap (λ (z : Wire). z.to) (got_is p.wires.items w no_wire x g) ∙ some_same x.to (port_of k i) e)

    coned : IsCone p q
    coned = record {
      wires = λ w e. let x = way_wire w e in got_below p.wires.items w x.0 x.1;
      from = λ k o m klt olt e. given k o (out_edge p m k o) (out_is k o m klt olt) e;
      into_way = λ k o i m klt olt e ilt. way_into k i (in_edge p m k i) (in_is k i m klt ilt) (needed_there k o (out_edge p m k o) (out_is k o m klt olt) e);
      into_port = λ k o i m klt olt e ilt. port_into k i (in_edge p m k i) (in_is k i m klt ilt);
    }

  cone_at : (q : ℕ) → q < length p.pads.items → IsCone p q
  cone_at q lt = let r = t.reached q (pad_at p q) (pad_got q lt) in coned q lt r.0 r.1

  only_feeds : (w : ℕ) → w < length p.wires.items → is_some (wire_at p w).from ≡ false → w < length p.feeds.items
  only_feeds w lt e = t.only w (wire_at p w) (wire_got w lt) (none_of (wire_at p w).from e)
    where
      none_of : (o : Option Port) → is_some o ≡ false → o ≡ None
      none_of None g = refl
      none_of (Some f) g = cc

  going_up : (v w : ℕ) (f : Port) → v ≤ w → w < length p.wires.items → (wire_at p v).from ≡ Some f → f.filter < (wire_at p w).to.filter
  going_up v w f le lt e = t.upward v w (wire_at p v) (wire_at p w) f le (wire_got v (omega (arith, le, lt))) (wire_got w lt) e

  framed : Framed p
  framed = record { inputs = t.inputs; outputs = t.outputs; ways = t.ways; entries = entered; only = only_feeds; upward = going_up; cones = cone_at }

  -- and each filter has as many inputs and outputs as edges there
  module _ (ss : List Spot) (size : length ss ≡ length p.nodes.items)
      (fits : (k : ℕ) (m : Node) → k < length ss → Fits (spot_at ss k) (slice_index_or p.nodes.items k m)) (new : AreNew ss) where
    node_of : (ns : List Node) (k : ℕ) → k < length ns → Node
    node_of [] k lt = absurd (omega arith)
    node_of (n ∷ ns) zero lt = n
    node_of (n ∷ ns) (suc k) lt = node_of ns k (omega arith)

    in_fits : (f : Port) (w : ℕ) → edge_in p f ≡ Some w → InThere ss f
    in_fits f w e =
        let lt : f.filter < length p.nodes.items = in_there p.nodes.items f.filter f.port w e in
        let m : Node = node_of p.nodes.items f.filter lt in
        let h : f.port < length (slice_index_or p.nodes.items f.filter m).ins.items = got_below (slice_index_or p.nodes.items f.filter m).ins.items f.port w
        (in_port p.nodes.items f.filter f.port w m e) in
        let z = (fits f.filter m (omega (arith, size, lt))).ins in
        subst (λ (n : ℕ). f.port < n) z h

    out_fits : (f : Port) (w : ℕ) → edge_out p f ≡ Some w → OutThere ss f
    out_fits f w e =
        let lt : f.filter < length p.nodes.items = out_there p.nodes.items f.filter f.port w e in
        let m : Node = node_of p.nodes.items f.filter lt in
        let h : f.port < length (slice_index_or p.nodes.items f.filter m).outs.items = got_below (slice_index_or p.nodes.items f.filter m).outs.items f.port w
        (out_port p.nodes.items f.filter f.port w m e) in
        let z = (fits f.filter m (omega (arith, size, lt))).outs in
        subst (λ (n : ℕ). f.port < n) z h

    shut_not : (f : Port) → port_shut ss f ≡ false
    shut_not f = new_shut (spot_at ss f.filter) f.port (new_at ss new f.filter)

    ended_not : (f : Port) → port_ended ss f ≡ false
    ended_not f = (new_at ss new f.filter).view.ended f.port

    pub tied_sound : Sound p ss
    tied_sound = record {
      framed = framed;
      wired = wired;
      pads = padded;
      size = size;
      fits = fits;
      feeds_there = each (InThere ss) p.feeds.items (λ i f e. in_fits f i (t.tos i (record { from = None; to = f }) (t.feeds i f e)));
      pads_there = each (OutThere ss) p.pads.items (λ q f e. out_fits f (length p.wires.items + q) (t.pads q f e).0);
      linked = λ w f lt e. shut_not (wire_at p w).to ∙ sym (ended_not f);
      idle = λ w f lt e on. absurd (true≢false (sym on ∙ (new_at ss new f.filter).view.stopped f.port));
      unshut = λ w lt h. (new_at ss new (wire_at p w).to.filter).view.shut (wire_at p w).to.port;
    }
