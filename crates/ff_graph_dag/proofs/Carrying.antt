-- The same moves, where filters stand in a vector.
use Rattle.std.proofs.Common.{Result, Ok, Err, OnOk, OnErr, ◌≡◌, ◌≢◌, ℕ, ◌<◌, true, false, is_some, List, length, Option, None, Some, slice_index_or}
use Rattle.std.proofs.Common.{slice_set, refl, ap, sym, ◌∙◌, subst, arith}
use Rattle.std.proofs.lemmas.List.{get_or-set_same, get_or-set_other}
use Rattle.std.specs.declared.alloc.AllocError.{AllocError}
use Rattle.ff_stream.specs.declared.item.Item.{Item}
use Rattle.ff_stream.specs.Ports.{nothing}
use Rattle.ff_filter.specs.Joins.{silence}
use Rattle.ff_filter.specs.Views.{View, Same}
use Rattle.ff_graph_dag.specs.declared.graph.Port.{Port}
use Rattle.ff_graph_dag.specs.declared.graph.Wire.{Wire}
use Rattle.ff_graph_dag.specs.declared.graph.Plan.{Plan}
use Rattle.ff_graph_dag.specs.declared.placed.Placed.{Placed}
use Rattle.ff_graph_dag.specs.laws.Dags.{Spot, spot_of, held_at, IsReady, Delivered, Kept, Stored, Pulled}
use Rattle.ff_graph_dag.specs.laws.Graphs.{spots, no_spot, spot_at, wire_at, port_held, port_stopped, graph_view, Sound, IsCarried, IsEmpty, to_go, InThere}
use Rattle.ff_graph_dag.specs.laws.Readings.{spots_size}
use Rattle.ff_graph_dag.proofs.Edges.{stored}
use Rattle.ff_graph_dag.proofs.Moving.{spots_set, spot_is, size_set, node_of, to_there, from_there, kept_carried, kept_sound, kept_same, delivered_sound}
use Rattle.ff_graph_dag.proofs.Moving.{delivered_same, delivered_less}
use Rattle.ff_graph_dag.proofs.DrawingLemmas.{drawn_sound, drawn_same, drawn_less}

-- the graph is sound, and nothing that can be seen changed
pub record Fine (p : Plan) (ss ts : List Spot) : Type 0 where
  pub sound : Sound p ts
  pub same : Same (graph_view p ss) (graph_view p ts)

module _ {F : Type 0} (view : F → View) (p : Plan) (ps : List (Placed F)) (w : ℕ) (e : Wire) (wlt : w < length p.wires.items) (is : wire_at p w ≡ e)
    (s : Sound p (spots view ps)) where
  pub filter_there : e.to.filter < length ps
  filter_there = let lt = (s.wired w wlt).to_there in let same : (wire_at p w).to.filter ≡ e.to.filter = ap (λ (x : Wire). x.to.filter) is in omega
      (arith, s.size, spots_size view ps, lt, same)

  pub source_there : (f : Port) → e.from ≡ Some f → f.filter < length ps
  source_there f k = let lt = ((s.wired w wlt).from_there f (ap (λ (x : Wire). x.from) is ∙ k)).0 in let same : (wire_at p w).to.filter ≡ e.to.filter = ap
      (λ (x : Wire). x.to.filter) is in omega (arith, lt, same, filter_there)

  in_there : InThere (spots view ps) e.to
  in_there = subst (λ (x : Wire). InThere (spots view ps) x.to) is (to_there p (spots view ps) w s wlt)

  pub input_there : (d q : Placed F) → q ≡ slice_index_or ps e.to.filter d → e.to.port < length (view q.filter).ins
  input_there d q k = subst (λ (a : Spot). e.to.port < length a.view.ins) (spot_is view ps e.to.filter d q filter_there k) in_there

  pub held_there : (d q : Placed F) → q ≡ slice_index_or ps e.to.filter d → e.to.port < length q.held.items
  held_there d q k =
      let at : spot_at (spots view ps) e.to.filter ≡ spot_of view q = spot_is view ps e.to.filter d q filter_there k in
      let lt : e.to.filter < length p.nodes.items = omega (arith, s.size, spots_size view ps, filter_there) in
      let fit = s.fits e.to.filter (node_of p.nodes.items e.to.filter lt) (omega (arith, s.size, lt)) in
      subst (λ (a : Spot). e.to.port < length a.held) at (omega (arith, fit.held, in_there))

  pub ready : (d q : Placed F) → q ≡ slice_index_or ps e.to.filter d → IsReady (spot_of view q) e.to.port
  ready d q k =
      let at : spot_at (spots view ps) e.to.filter ≡ spot_of view q = spot_is view ps e.to.filter d q filter_there k in
      subst (λ (a : Spot). IsReady a e.to.port) at (record {
        there = in_there;
        unshut = subst (λ (x : Wire). port_held (spots view ps) x.to ≡ true → (spot_at (spots view ps) x.to.filter).view.shut x.to.port ≡ false) is (s.unshut w wlt);
      })

  pub out_there : (f : Port) (d q : Placed F) → e.from ≡ Some f → q ≡ slice_index_or ps f.filter d → f.port < length (view q.filter).outs
  out_there f d q h k =
      let at : spot_at (spots view ps) f.filter ≡ spot_of view q = spot_is view ps f.filter d q (source_there f h) k in
      subst (λ (a : Spot). f.port < length a.view.outs) at (from_there p (spots view ps) w f s wlt (ap (λ (x : Wire). x.from) is ∙ h))

  pub kept_fine : (k : ℕ) (d q r : Placed F) → k < length ps → q ≡ slice_index_or ps k d → Kept (spot_of view q) (spot_of view r) → Fine p (spots view ps)
      (spots view (slice_set ps k r))
  kept_fine k d q r lt h kept =
      let at : spot_at (spots view ps) k ≡ spot_of view q = spot_is view ps k d q lt h in
      let there : Kept (spot_at (spots view ps) k) (spot_of view r) = subst (λ (a : Spot). Kept a (spot_of view r)) (sym at) kept in
      let klt : k < length (spots view ps) = omega (arith, spots_size view ps, lt) in
      subst (λ (ts : List Spot). Fine p (spots view ps) ts) (sym (spots_set view ps k r))
      (record { sound = kept_sound p (spots view ps) k (spot_of view r) klt s there; same = kept_same p (spots view ps) k (spot_of view r) klt s there })

  pub kept_all : (k : ℕ) (d q r : Placed F) → k < length ps → q ≡ slice_index_or ps k d → Kept (spot_of view q) (spot_of view r) → IsCarried (spots view ps)
      (spots view (slice_set ps k r))
  kept_all k d q r lt h kept =
      let at : spot_at (spots view ps) k ≡ spot_of view q = spot_is view ps k d q lt h in
      let there : Kept (spot_at (spots view ps) k) (spot_of view r) = subst (λ (a : Spot). Kept a (spot_of view r)) (sym at) kept in
      let klt : k < length (spots view ps) = omega (arith, spots_size view ps, lt) in
      subst (λ (ts : List Spot). IsCarried (spots view ps) ts) (sym (spots_set view ps k r)) (kept_carried p (spots view ps) k (spot_of view r) klt s there)

  pub fed_fine : (d q r : Placed F) → q ≡ slice_index_or ps e.to.filter d → Delivered (spot_of view q) (spot_of view r) e.to.port → Fine p (spots view ps)
      (spots view (slice_set ps e.to.filter r))
  fed_fine d q r h del =
      let at : spot_at (spots view ps) e.to.filter ≡ spot_of view q = spot_is view ps e.to.filter d q filter_there h in
      let there : Delivered (spot_at (spots view ps) e.to.filter) (spot_of view r) e.to.port = subst (λ (a : Spot). Delivered a (spot_of view r) e.to.port)
      (sym at) del in
      subst (λ (ts : List Spot). Fine p (spots view ps) ts) (sym (spots_set view ps e.to.filter r))
      (subst (λ (x : Wire). Delivered (spot_at (spots view ps) x.to.filter) (spot_of view r) x.to.port → Fine p (spots view ps)
      (slice_set (spots view ps) x.to.filter (spot_of view r))) is
      (λ y. record { sound = delivered_sound p (spots view ps) w (spot_of view r) wlt s y; same = delivered_same p (spots view ps) w (spot_of view r) wlt s y }) there)

  pub fed_less : (d q r : Placed F) → q ≡ slice_index_or ps e.to.filter d → Delivered (spot_of view q) (spot_of view r) e.to.port
      → is_some (held_at q.held.items e.to.port) ≡ true → to_go p (spots view (slice_set ps e.to.filter r)) < to_go p (spots view ps)
  fed_less d q r h del some =
      let at : spot_at (spots view ps) e.to.filter ≡ spot_of view q = spot_is view ps e.to.filter d q filter_there h in
      let there : Delivered (spot_at (spots view ps) e.to.filter) (spot_of view r) e.to.port = subst (λ (a : Spot). Delivered a (spot_of view r) e.to.port)
      (sym at) del in
      let held : port_held (spots view ps) e.to ≡ true = ap (λ (a : Spot). is_some (held_at a.held e.to.port)) at ∙ some in
      subst (λ (ts : List Spot). to_go p ts < to_go p (spots view ps)) (sym (spots_set view ps e.to.filter r))
      (subst (λ (x : Wire). Delivered (spot_at (spots view ps) x.to.filter) (spot_of view r) x.to.port → port_held (spots view ps) x.to ≡ true
      → to_go p (slice_set (spots view ps) x.to.filter (spot_of view r)) < to_go p (spots view ps)) is
      (λ y z. delivered_less p (spots view ps) w (spot_of view r) wlt s y z) there held)

  -- an item was pulled from q, which left u, and put before the input of v, which left r
  module _ (f : Port) (u v : Placed F) (h : e.from ≡ Some f) (l : v ≡ slice_index_or (slice_set ps f.filter u) e.to.filter v) where
    elt : e.to.filter < length (slice_set ps f.filter u)
    elt = omega (
      arith,
      filter_there,
      spots_size view ps,
      spots_size view (slice_set ps f.filter u),
      ap (λ (ss : List Spot). length ss) (spots_set view ps f.filter u),
      size_set (spots view ps) f.filter (spot_of view u),
    )

    mid_at : spot_at (slice_set (spots view ps) f.filter (spot_of view u)) e.to.filter ≡ spot_of view v
    mid_at = ap (λ (ss : List Spot). spot_at ss e.to.filter) (sym (spots_set view ps f.filter u)) ∙ spot_is view (slice_set ps f.filter u) e.to.filter v v elt l

    not_same : e.to.filter ≢ f.filter
    not_same = let lt = ((s.wired w wlt).from_there f (ap (λ (x : Wire). x.from) is ∙ h)).0 in let same : (wire_at p w).to.filter ≡ e.to.filter = ap
        (λ (x : Wire). x.to.filter) is in omega (arith, lt, same)

    was_at : spot_at (spots view ps) e.to.filter ≡ spot_of view v
    was_at = sym (get_or-set_other (spots view ps) f.filter e.to.filter (spot_of view u) no_spot not_same) ∙ mid_at

    pub store_there : e.to.port < length v.held.items
    store_there =
        let lt : e.to.filter < length p.nodes.items = omega (arith, s.size, spots_size view ps, filter_there) in
        let fit = s.fits e.to.filter (node_of p.nodes.items e.to.filter lt) (omega (arith, s.size, lt)) in
        subst (λ (a : Spot). e.to.port < length a.held) was_at (omega (arith, fit.held, in_there))

    module _ (d q r : Placed F) (x : Item) (k : q ≡ slice_index_or ps f.filter d) (g : Pulled (spot_of view q) (spot_of view u) f.port x)
        (empty : port_held (spots view ps) e.to ≡ false)
        (filter_is : r.filter ≡ v.filter) (held_set : r.held.items ≡ slice_set v.held.items e.to.port (Some x)) where
      none_of : (m : Option Item) → is_some m ≡ false → m ≡ None
      none_of None n = refl
      none_of (Some y) n = cc

      put : Stored (spot_of view v) (spot_of view r) e.to.port x
      put =
          let none : held_at v.held.items e.to.port ≡ None = none_of (held_at v.held.items e.to.port) (ap (λ (a : Spot). is_some (held_at a.held e.to.port))
          (sym was_at) ∙ empty) in
          let made : spot_of view r ≡ record { view = view v.filter; held = slice_set v.held.items e.to.port (Some x) } = λ i. record
          { view = view (filter_is i); held = held_set i } in
          subst (λ (a : Spot). Stored (spot_of view v) a e.to.port x) (sym made) (stored (spot_of view v) e.to.port x store_there none)

      pulled_here : Pulled (spot_at (spots view ps) f.filter) (spot_of view u) f.port x
      pulled_here = subst (λ (a : Spot). Pulled a (spot_of view u) f.port x) (sym (spot_is view ps f.filter d q (source_there f h) k)) g

      put_here : Stored (spot_at (slice_set (spots view ps) f.filter (spot_of view u)) e.to.filter) (spot_of view r) e.to.port x
      put_here = subst (λ (a : Spot). Stored a (spot_of view r) e.to.port x) (sym mid_at) put

      all_is : spots view (slice_set (slice_set ps f.filter u) e.to.filter r) ≡ slice_set (slice_set (spots view ps) f.filter (spot_of view u)) e.to.filter
          (spot_of view r)
      all_is = spots_set view (slice_set ps f.filter u) e.to.filter r ∙ ap (λ (ss : List Spot). slice_set ss e.to.filter (spot_of view r))
          (spots_set view ps f.filter u)

      pub drawn_fine : Fine p (spots view ps) (spots view (slice_set (slice_set ps f.filter u) e.to.filter r))
      drawn_fine = subst (λ (ts : List Spot). Fine p (spots view ps) ts) (sym all_is)
          (subst (λ (y : Wire). y.from ≡ Some f → port_held (spots view ps) y.to ≡ false
          → Stored (spot_at (slice_set (spots view ps) f.filter (spot_of view u)) y.to.filter) (spot_of view r) y.to.port x → Fine p (spots view ps)
          (slice_set (slice_set (spots view ps) f.filter (spot_of view u)) y.to.filter (spot_of view r))) is
          (λ a b c. record {
            sound = drawn_sound p (spots view ps) w f (spot_of view u) (spot_of view r) x wlt s a b pulled_here c;
            same = drawn_same p (spots view ps) w f (spot_of view u) (spot_of view r) x wlt s a b pulled_here c;
          }) h empty put_here)

      pub drawn_fewer : to_go p (spots view (slice_set (slice_set ps f.filter u) e.to.filter r)) < to_go p (spots view ps)
      drawn_fewer = subst (λ (ts : List Spot). to_go p ts < to_go p (spots view ps)) (sym all_is)
          (subst (λ (y : Wire). y.from ≡ Some f → port_held (spots view ps) y.to ≡ false
          → Stored (spot_at (slice_set (spots view ps) f.filter (spot_of view u)) y.to.filter) (spot_of view r) y.to.port x
          → to_go p (slice_set (slice_set (spots view ps) f.filter (spot_of view u)) y.to.filter (spot_of view r)) < to_go p (spots view ps)) is
          (λ a b c. drawn_less p (spots view ps) w f (spot_of view u) (spot_of view r) x wlt s a b pulled_here c) h empty put_here)

  pub held_none : (d q : Placed F) → q ≡ slice_index_or ps e.to.filter d → is_some (held_at q.held.items e.to.port) ≡ false → port_held (spots view ps) e.to ≡ false
  held_none d q k n = ap (λ (a : Spot). is_some (held_at a.held e.to.port)) (spot_is view ps e.to.filter d q filter_there k) ∙ n

  -- no item came from q, which left r
  pub waited : (f : Port) (d q r : Placed F) → e.from ≡ Some f → q ≡ slice_index_or ps f.filter d → Kept (spot_of view q) (spot_of view r)
      → ((view r.filter).stopped f.port ≡ false → (view r.filter).rest silence f.port ≡ nothing) → port_held (spots view ps) e.to ≡ false
      → IsEmpty p (spots view (slice_set ps f.filter r)) w
  waited f d q r h k kept n empty =
      let all = kept_all f.filter d q r (source_there f h) k kept in
      let flt : f.filter < length (spots view ps) = omega (arith, spots_size view ps, source_there f h) in
      let here : spot_at (spots view (slice_set ps f.filter r)) f.filter ≡ spot_of view r = ap (λ (ss : List Spot). spot_at ss f.filter) (spots_set view ps f.filter r)
      ∙ get_or-set_same (spots view ps) f.filter (spot_of view r) no_spot flt in
      record {
        held = subst (λ (y : Wire). port_held (spots view (slice_set ps f.filter r)) y.to ≡ false) (sym is)
            (ap (λ (m : Option Item). is_some m) ((all.kept e.to.filter).held e.to.port) ∙ empty);
        from = λ g j.
            let same : f ≡ g = cc (is, h, j) in
            subst (λ (y : Port). port_stopped (spots view (slice_set ps f.filter r)) y ≡ false
            → (spot_at (spots view (slice_set ps f.filter r)) y.filter).view.rest silence y.port ≡ nothing) same
            (λ on. ap (λ (a : Spot). a.view.rest silence f.port) here ∙ n (ap (λ (a : Spot). a.view.stopped f.port) (sym here) ∙ on));
      }

  pub idle : e.from ≡ None → port_held (spots view ps) e.to ≡ false → IsEmpty p (spots view ps) w
  idle h empty = record {
    held = subst (λ (y : Wire). port_held (spots view ps) y.to ≡ false) (sym is) empty;
    from = λ g j on. absurd (none_some g (sym h ∙ (ap (λ (y : Wire). y.from) (sym is) ∙ j)));
  }
    where
      none_some : (g : Port) → None ≡ Some g → ⊥
      none_some g e = cc

  pub some_there : (d d2 q r : Placed F) → q ≡ slice_index_or ps e.to.filter d → r ≡ slice_index_or ps e.to.filter d2 → is_some (held_at q.held.items e.to.port) ≡ true
      → is_some (held_at r.held.items e.to.port) ≡ true
  some_there d d2 q r h k n = ap (λ (a : Spot). is_some (held_at a.held e.to.port)) (sym (spot_is view ps e.to.filter d2 r filter_there k)
      ∙ spot_is view ps e.to.filter d q filter_there h) ∙ n

  pub fed_or_kept : (d q r : Placed F) (o : Result (Unit {0}) AllocError) → q ≡ slice_index_or ps e.to.filter d
      → OnOk o (Delivered (spot_of view q) (spot_of view r) e.to.port) → OnErr o (Kept (spot_of view q) (spot_of view r))
      → Sound p (spots view (slice_set ps e.to.filter r))
  fed_or_kept d q r (Ok y) h ok err = (fed_fine d q r h ok).sound
  fed_or_kept d q r (Err y) h ok err = (kept_fine e.to.filter d q r filter_there h err).sound

  pub fed_or_kept_same : (d q r : Placed F) (o : Result (Unit {0}) AllocError) → q ≡ slice_index_or ps e.to.filter d
      → OnOk o (Delivered (spot_of view q) (spot_of view r) e.to.port) → OnErr o (Kept (spot_of view q) (spot_of view r)) → Same (graph_view p (spots view ps))
      (graph_view p (spots view (slice_set ps e.to.filter r)))
  fed_or_kept_same d q r (Ok y) h ok err = (fed_fine d q r h ok).same
  fed_or_kept_same d q r (Err y) h ok err = (kept_fine e.to.filter d q r filter_there h err).same

  -- nothing waits where it was fed
  pub fed_empty : (d q r : Placed F) (o : Result (Unit {0}) AllocError) → q ≡ slice_index_or ps e.to.filter d
      → OnOk o (Delivered (spot_of view q) (spot_of view r) e.to.port) → OnOk o (port_held (spots view (slice_set ps e.to.filter r)) (wire_at p w).to ≡ false)
  fed_empty d q r (Ok y) h ok =
      let elt : e.to.filter < length (spots view ps) = omega (arith, spots_size view ps, filter_there) in
      let here : spot_at (spots view (slice_set ps e.to.filter r)) e.to.filter ≡ spot_of view r = ap (λ (ss : List Spot). spot_at ss e.to.filter)
      (spots_set view ps e.to.filter r) ∙ get_or-set_same (spots view ps) e.to.filter (spot_of view r) no_spot elt in
      subst (λ (x : Wire). port_held (spots view (slice_set ps e.to.filter r)) x.to ≡ false) (sym is)
      (ap (λ (a : Spot). is_some (held_at a.held e.to.port)) here ∙ ap (λ (m : Option Item). is_some m) ok.held_here)
  fed_empty d q r (Err y) h ok = tt
