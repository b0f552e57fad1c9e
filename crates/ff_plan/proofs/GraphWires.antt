-- The wires that leave a graph's node, by the origins of a layout.
use Rattle.std.proofs.Common.{◌≡◌, inl, inr, ℕ, suc, ◌-◌, ◌<◌, ◌≤◌, ◌==◌, ◌&&◌, Bool, true, false, cond, List, [], ◌∷◌, ◌++◌, map, length, Option, Some, None, refl, sym, ap, ◌∙◌, subst, arith}
use Rattle.std.proofs.lemmas.List.{append-nil}
use Rattle.std.specs.Prelude.{slice_get}
use Rattle.std.specs.List.{AllByRecursion, flat_map, cons_option, position_or_len}
use Rattle.ff_stream.specs.edges.Ports.{tally, HasOuts}
use Rattle.ff_words.specs.declared.maps.streams.StreamRef.{StreamRef}
use Rattle.ff_plan_layout.specs.declared.layout.InPad.{InPad}
use Rattle.ff_plan_layout.specs.declared.layout.Origin.{Origin}
use Rattle.ff_plan_layout.specs.declared.layout.Origin.TheVariants as origin
use Rattle.ff_plan_layout.specs.declared.layout.Placed.{Placed}
use Rattle.ff_plan_layout.specs.declared.layout.Laid.{Laid}
use Rattle.ff_plan_layout.specs.Layout.{IsThere, IsLaid, EachOnce, IsAmong, Layout, placed, origins, read}
use Rattle.ff_plan.specs.laws.Laws.{IsNamedOf, named_at}
use Rattle.ff_plan.specs.Nodes.{before_graphs, before_shortests, dec_at, graph_at, origin_at, origin_port, demux_wire, pad_wire, pad_wires, shortest_wire, enc_wire, mux_wire, wires_of}
use Rattle.ff_plan.specs.Wires.{Wire, edges_of}
use Rattle.ff_plan_layout.proofs.Among.{all_joined, all_map, all_flat, among_left, among_right, among_map, among_flat}
use Rattle.ff_plan_layout.proofs.Counts.{once_each}
use Rattle.ff_plan_layout.proofs.Kept.{place_passes}
use Rattle.ff_plan.proofs.Layouts.{demux_below, dec_below, is_used_stream}
use Rattle.ff_plan_layout.proofs.Tests.{nat_self, is_same, not_same, same_test, other_test}
use Rattle.ff_plan.proofs.Named.{named_outs}
use Rattle.ff_plan_layout.proofs.Uses.{pad_is, only_place}

-- whether it is a pad of this graph
abbrev pub of_graph : ℕ → Origin → Bool
of_graph g (origin.Stream s) = false
of_graph g (origin.Pad h p) = h == g

abbrev pub pads_of : ℕ → List Origin → List ℕ
pads_of g [] = []
pads_of g (o ∷ os) = cond (of_graph g o) (cons_option (origin_port o) (pads_of g os)) (pads_of g os)

pads_joined : (g : ℕ) (fs bs : List Origin) → pads_of g (fs ++ bs) ≡ pads_of g fs ++ pads_of g bs
pads_joined g [] bs = refl
pads_joined g (o ∷ fs) bs = step (of_graph g o) (origin_port o) (pads_joined g fs bs) where
  step : (b : Bool) (p : Option ℕ) → pads_of g (fs ++ bs) ≡ pads_of g fs ++ pads_of g bs
      → cond b (cons_option p (pads_of g (fs ++ bs))) (pads_of g (fs ++ bs)) ≡ cond b (cons_option p (pads_of g fs)) (pads_of g fs) ++ pads_of g bs
  step true (Some p) e = ap (λ (ps : List ℕ). p ∷ ps) e
  step true None e = e
  step false p e = e

pub pads_count : (g q : ℕ) (os : List Origin) → tally (λ p. p == q) (pads_of g os) ≡ tally (pad_is g q) os
pads_count g q [] = refl
pads_count g q (origin.Stream s ∷ os) = pads_count g q os
pads_count g q (origin.Pad h p ∷ os) = step (h == g) (pads_count g q os) where
  step : (b : Bool) → tally (λ p. p == q) (pads_of g os) ≡ tally (pad_is g q) os
      → tally (λ p. p == q) (cond b (p ∷ pads_of g os) (pads_of g os)) ≡ cond (b && (p == q)) (suc (tally (pad_is g q) os)) (tally (pad_is g q) os)
  step true e = ap (λ (n : ℕ). cond (p == q) (suc n) n) e
  step false e = e

module _ (k : ℕ) where
  named_joined : (fs bs : List Wire) → named_at k (fs ++ bs) ≡ named_at k fs ++ named_at k bs
  named_joined [] bs = refl
  named_joined (w ∷ fs) bs = step (w.from == k) w.port (named_joined fs bs) where
    step : (b : Bool) (p : Option ℕ) → named_at k (fs ++ bs) ≡ named_at k fs ++ named_at k bs
        → cond b (cons_option p (named_at k (fs ++ bs))) (named_at k (fs ++ bs)) ≡ cond b (cons_option p (named_at k fs)) (named_at k fs) ++ named_at k bs
    step true (Some p) e = ap (λ (ps : List ℕ). p ∷ ps) e
    step true None e = e
    step false p e = e

  module _ {A : Type 0} (f : A → Wire) where
    none_named : (xs : List A) → ((x : A) → IsAmong x xs → (f x).from ≡ k → ⊥) → named_at k (map f xs) ≡ []
    none_named [] each = refl
    none_named (x ∷ xs) each =
        ap (λ (b : Bool). cond b (cons_option (f x).port (named_at k (map f xs))) (named_at k (map f xs))) (other_test (f x).from k (each x (inl refl)))
        ∙ none_named xs (λ y i. each y (inr i))

    some_named : (g : ℕ) (source : A → Origin) (xs : List A) → ((x : A) → IsAmong x xs → ((f x).from == k) ≡ of_graph g (source x)) → ((x : A) → (f x).port ≡ origin_port (source x))
        → named_at k (map f xs) ≡ pads_of g (map source xs)
    some_named g source [] each port = refl
    some_named g source (x ∷ xs) each port =
        ap (λ (b : Bool). cond b (cons_option (f x).port (named_at k (map f xs))) (named_at k (map f xs))) (each x (inl refl))
        ∙ (ap (λ (o : Option ℕ). cond (of_graph g (source x)) (cons_option o (named_at k (map f xs))) (named_at k (map f xs))) (port x)
        ∙ ap (λ (ps : List ℕ). cond (of_graph g (source x)) (cons_option (origin_port (source x)) ps) ps) (some_named g source xs (λ y i. each y (inr i)) port))

module _ (l : Layout) (laid : IsLaid l) (k : ℕ) (low : before_graphs l ≤ k) (high : k < before_shortests l) (x : Laid)
    (at : slice_get l.graphs (k - before_graphs l) ≡ Some x) (one : tally (λ (y : Laid). y.graph == x.graph) l.graphs ≤ 1) where
  abbrev g : ℕ
  g = x.graph

  abbrev has : ℕ → Laid → Bool
  has n y = y.graph == n

  -- the graph of the node, and no other
  own_place : position_or_len (has g) l.graphs ≡ k - before_graphs l
  own_place = (only_place (has g) l.graphs (k - before_graphs l) x one at (nat_self g)).0

  own_node : graph_at l g ≡ k
  own_node = (let e = own_place in omega (arith, e, low))

  other_node : (h : ℕ) → graph_at l h ≡ k → h ≡ g
  other_node h e =
      let place_ : position_or_len (has h) l.graphs ≡ k - before_graphs l = omega (arith, e) in
      sym (is_same x.graph h (place_passes (has h) l.graphs (k - before_graphs l) x at place_))

  pub graph_test : (h : ℕ) → (graph_at l h == k) ≡ (h == g)
  graph_test h = step (h == g) refl where
    step : (b : Bool) → (h == g) ≡ b → (graph_at l h == k) ≡ b
    step true e = same_test (graph_at l h) k (ap (λ (n : ℕ). graph_at l n) (is_same h g e) ∙ own_node)
    step false e = other_test (graph_at l h) k (λ f. not_same h g e (other_node h f))

  origin_test : (before : ℕ) (o : Origin) → IsThere l before o → IsAmong o (origins l) → (origin_at l o == k) ≡ of_graph g o
  origin_test before (origin.Stream s) (j, i, e) a =
      let lt = subst (λ (r : StreamRef). dec_at l r < before_graphs l) e (dec_below l j (is_used_stream l s j i e a)) in
      other_test (dec_at l s) k (λ f. omega (arith, f, lt, low))
  origin_test before (origin.Pad h p) there a = graph_test h

  abbrev in_sources : List Laid → List Origin
  in_sources gs = flat_map (λ (y : Laid). map (λ (i : InPad). i.source) y.ins) gs

  abbrev out_sources : List Origin
  out_sources = map (λ (p : Placed). p.what.source) (placed l)

  pub stream_test : (p : Placed) → IsAmong p (placed l) → (origin_at l p.what.source == k) ≡ of_graph g p.what.source
  stream_test p i = origin_test (length l.graphs) p.what.source (laid.streams p i) (among_right p.what.source (in_sources l.graphs) out_sources (among_map (λ (p : Placed). p.what.source) p (placed l) i))

  pub pad_test : (y : Laid) → IsAmong y l.graphs → (i : InPad) → IsAmong i y.ins → (origin_at l i.source == k) ≡ of_graph g i.source
  pad_test y iy i ii = origin_test (position_or_len (has y.graph) l.graphs) i.source (laid.graphs y i iy ii)
      (among_left i.source (in_sources l.graphs) out_sources (among_flat (λ (y : Laid). map (λ (i : InPad). i.source) y.ins) i.source y l.graphs iy (among_map (λ (i : InPad). i.source) i y.ins ii)))

  pads_named : (gs : List Laid) → ((y : Laid) → IsAmong y gs → IsAmong y l.graphs) → named_at k (flat_map (pad_wires l) gs) ≡ pads_of g (in_sources gs)
  pads_named [] each = refl
  pads_named (y ∷ gs) each =
      named_joined k (pad_wires l y) (flat_map (pad_wires l) gs)
      ∙ (ap (λ (ps : List ℕ). ps ++ named_at k (flat_map (pad_wires l) gs)) (some_named k (pad_wire l y.graph) g (λ (i : InPad). i.source) y.ins (pad_test y (each y (inl refl))) (λ i. refl))
      ∙ (ap (λ (ps : List ℕ). pads_of g (map (λ (i : InPad). i.source) y.ins) ++ ps) (pads_named gs (λ z i. each z (inr i)))
      ∙ sym (pads_joined g (map (λ (i : InPad). i.source) y.ins) (in_sources gs))))

  demuxes_none : named_at k (map (demux_wire l) (read l)) ≡ []
  demuxes_none = none_named k (demux_wire l) (read l) (λ s i e. (let lt = demux_below l s i in omega (arith, e, lt, low)))

  muxes_none : named_at k (map (mux_wire l) (placed l)) ≡ []
  muxes_none = none_named k (mux_wire l) (placed l) (λ p i e. omega (arith, e, high))

  -- what is joined to the streams of outputs, by Shortest nodes or not
  ends_named : named_at k (map (shortest_wire l) (placed l)) ++ (named_at k (map (enc_wire l) (placed l)) ++ []) ≡ pads_of g out_sources
  ends_named =
      ap (λ (ps : List ℕ). named_at k (map (shortest_wire l) (placed l)) ++ (ps ++ [])) (none_named k (enc_wire l) (placed l) (λ p i e. omega (arith, e, high)))
      ∙ (append-nil (named_at k (map (shortest_wire l) (placed l))) ∙ some_named k (shortest_wire l) g (λ (p : Placed). p.what.source) (placed l) stream_test (λ p. refl))

  pub all_named : named_at k (wires_of l) ≡ pads_of g (origins l)
  all_named =
      let demuxes = map (demux_wire l) (read l) in let pads = flat_map (pad_wires l) l.graphs in let shorts = map (shortest_wire l) (placed l) in
      let encs = map (enc_wire l) (placed l) in let muxes = map (mux_wire l) (placed l) in
      named_joined k demuxes (pads ++ (shorts ++ (encs ++ muxes)))
      ∙ (ap (λ (ps : List ℕ). ps ++ named_at k (pads ++ (shorts ++ (encs ++ muxes)))) demuxes_none
      ∙ (named_joined k pads (shorts ++ (encs ++ muxes))
      ∙ (ap (λ (ps : List ℕ). ps ++ named_at k (shorts ++ (encs ++ muxes))) (pads_named l.graphs (λ y i. i))
      ∙ (ap (λ (ps : List ℕ). pads_of g (in_sources l.graphs) ++ ps)
      (named_joined k shorts (encs ++ muxes)
      ∙ (ap (λ (ps : List ℕ). named_at k shorts ++ ps) (named_joined k encs muxes ∙ ap (λ (ps : List ℕ). named_at k encs ++ ps) muxes_none)
      ∙ ends_named))
      ∙ sym (pads_joined g (in_sources l.graphs) out_sources)))))

  -- ---- all of them are named

  named_origin : (o : Origin) → (origin_at l o == k) ≡ of_graph g o → origin_at l o ≡ k → (q : ℕ) × (origin_port o ≡ Some q)
  named_origin (origin.Stream s) t e = absurd (not_same (dec_at l s) k t e)
  named_origin (origin.Pad h p) t e = (p, refl)

  ends_have : AllByRecursion (IsNamedOf k) (map (shortest_wire l) (placed l)) × AllByRecursion (IsNamedOf k) (map (enc_wire l) (placed l))
  ends_have = (
    all_map (IsNamedOf k) (shortest_wire l) (placed l) (λ p i e. named_origin p.what.source (stream_test p i) e),
    all_map (IsNamedOf k) (enc_wire l) (placed l) (λ p i e. absurd (omega (arith, e, high))),
  )

  pub are_named : AllByRecursion (IsNamedOf k) (wires_of l)
  are_named =
      let N = IsNamedOf k in
      let shorts = map (shortest_wire l) (placed l) in let encs = map (enc_wire l) (placed l) in let muxes = map (mux_wire l) (placed l) in
      let ends = ends_have in
      all_joined N (map (demux_wire l) (read l)) (flat_map (pad_wires l) l.graphs ++ (shorts ++ (encs ++ muxes)))
      (all_map N (demux_wire l) (read l) (λ s i e. absurd (let lt = demux_below l s i in omega (arith, e, lt, low))))
      (all_joined N (flat_map (pad_wires l) l.graphs) (shorts ++ (encs ++ muxes))
      (all_flat N (pad_wires l) l.graphs (λ y iy. all_map N (pad_wire l y.graph) y.ins (λ i ii e. named_origin i.source (pad_test y iy i ii) e)))
      (all_joined N shorts (encs ++ muxes) ends.0 (all_joined N encs muxes ends.1 (all_map N (mux_wire l) (placed l) (λ p i e. absurd (omega (arith, e, high)))))))

  -- where each pad below n is shown once, and no other
  pub node_outs : (n : ℕ) → ((q : ℕ) → q < n → tally (pad_is g q) (origins l) ≡ 1) → ((q : ℕ) → n ≤ q → tally (pad_is g q) (origins l) ≡ 0) → HasOuts (edges_of (wires_of l)) k
  node_outs n in_ out = named_outs k (wires_of l) are_named (subst EachOnce (sym all_named)
      (once_each n (pads_of g (origins l)) (λ q lt. pads_count g q (origins l) ∙ in_ q lt) (λ q le. pads_count g q (origins l) ∙ out q le)))
