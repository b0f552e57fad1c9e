-- A drawing by the places of its filters: filters that feed later ones only.
use Rattle.std.proofs.Common.{◌≡◌, ℕ, zero, suc, ◌<◌, List, [], ◌∷◌, length, map, slice_get, slice_index_or, Option, None, Some, refl, ap, sym, ◌∙◌, subst, ◌⊎◌, inl, inr, arith}
use Rattle.ff_graph_links.specs.declared.pads.drawn.Pad.{Pad}
use Rattle.ff_graph_dag.specs.declared.graph.Port.{Port}
use Rattle.ff_graph_dag.specs.laws.ties.Tied.{port_of}
use Rattle.ff_graph_dag.specs.laws.wiring.Wires.{feeder_at, outputs_at, IsLinked}
use Rattle.ff_graph_dag.specs.wiring.Flows.{IsForward, place_in, port_at, port_of_source, placed, placed_pads, placed_counts, source_at, IsDrawing}
use Rattle.ff_graph_dag.proofs.WiringLemmas.Ordering.{got_source, feeder_placed, place_got, place_is, places_apart}
use Rattle.ff_graph_dag.proofs.WiringLemmas.Tying.{mapped, unmapped, map_size}

some_same : {A : Type 0} (x y : A) → Some x ≡ Some y → x ≡ y
some_same x y e = cc

no_some : {A B : Type 0} (x : A) → None ≡ Some x → B
no_some x e = cc

-- those that feed a filter stand before it
before : (sources : List (List (Option Pad))) (ks : List ℕ) → IsForward sources ks → (k g i : ℕ) (from : Pad) → slice_get ks k ≡ Some g
    → source_at sources g i ≡ Some (Some from) → (j : ℕ) → slice_get ks j ≡ Some from.filter → j < k
before sources [] w k g i from e s j h = no_some g e
before sources (f ∷ ks) w zero g i from e s j h =
    absurd (w.1 i from (ap (λ (n : ℕ). source_at sources n i) (some_same f g e) ∙ s) j h)
before sources (f ∷ ks) w (suc k) g i from e s zero h = omega arith
before sources (f ∷ ks) w (suc k) g i from e s (suc j) h = let lt : j < k = before sources ks w.2 k g i from e s j h in omega arith

map_past : {A B : Type 0} (f : A → B) (xs : List A) (k : ℕ) (d : B) → slice_get xs k ≡ None → slice_index_or (map f xs) k d ≡ d
map_past f [] k d e = refl
map_past f (x ∷ xs) zero d e = cc
map_past f (x ∷ xs) (suc k) d e = map_past f xs k d e

map_got : {A B : Type 0} (f : A → B) (xs : List A) (k : ℕ) (d : B) (x : A) → slice_get xs k ≡ Some x → slice_index_or (map f xs) k d ≡ f x
map_got f [] k d x e = no_some x e
map_got f (y ∷ xs) zero d x e = ap f (some_same y x e)
map_got f (y ∷ xs) (suc k) d x e = map_got f xs k d x e

got_from : (order : List ℕ) (x : Option (Option Pad)) (o : Option Port) → got_source order x ≡ Some o → (s : Option Pad) × (x ≡ Some s) × (port_of_source order s ≡ o)
got_from order None o e = no_some o e
got_from order (Some s) o e = (s, refl, some_same (port_of_source order s) o e)

source_some : (order : List ℕ) (s : Option Pad) (f : Port) → port_of_source order s ≡ Some f → (from : Pad) × (s ≡ Some from) × (port_at order from ≡ f)
source_some order None f e = no_some f e
source_some order (Some from) f e = (from, refl, some_same (port_at order from) f e)

source_none : (order : List ℕ) (s : Option Pad) → port_of_source order s ≡ None → s ≡ None
source_none order None e = refl
source_none order (Some from) e = cc

-- what is there
past_source : (sources : List (List (Option Pad))) (g i : ℕ) (s : Option Pad) → source_at sources g i ≡ Some s → g < length sources
past_source [] g i s e = no_some s e
past_source (x ∷ sources) zero i s e = omega arith
past_source (x ∷ sources) (suc g) i s e = let lt : g < length sources = past_source sources g i s e in omega arith

past_count : (counts : List ℕ) (g o : ℕ) → o < slice_index_or counts g 0 → g < length counts
past_count [] g o lt = absurd (omega arith)
past_count (n ∷ counts) zero o lt = omega arith
past_count (n ∷ counts) (suc g) o lt = let h : g < length counts = past_count counts g o lt in omega arith

same_port : (f g : Port) → f.filter ≡ g.filter → f.port ≡ g.port → f ≡ g
same_port f g x y = λ j. record { filter = x j; port = y j }

same_pads : (p q : Pad) → p.filter ≡ q.filter → p.pad ≡ q.pad → p ≡ q
same_pads p q x y = λ j. record { filter = x j; pad = y j }

module _ (sources : List (List (Option Pad))) (order counts : List ℕ) (opens outs : List Pad) (d : IsDrawing sources order counts opens outs) where
  abbrev pub fed : List (List (Option Port))
  fed = placed order sources

  abbrev pub Stands : ℕ → Type 0
  Stands f = (j : ℕ) × (slice_get order j ≡ Some f)

  pub fed_stands : (g i : ℕ) (s : Option Pad) → source_at sources g i ≡ Some s → Stands g
  fed_stands g i s e = d.all g (past_source sources g i s e)

  pub counted_stands : (p : Pad) → p.pad < slice_index_or counts p.filter 0 → Stands p.filter
  counted_stands p lt = d.all p.filter (let h : p.filter < length counts = past_count counts p.filter p.pad lt in omega (arith, d.counted, h))

  pub from_stands : (g i : ℕ) (from : Pad) → source_at sources g i ≡ Some (Some from) → Stands from.filter
  from_stands g i from e = counted_stands from (d.there g i from e)

  -- what feeds an input
  unfed : (a : Port) (o : Option Port) → feeder_at fed a ≡ Some o
      → (g : ℕ) × (s : Option Pad) × (slice_get order a.filter ≡ Some g) × (source_at sources g a.port ≡ Some s) × (port_of_source order s ≡ o)
  unfed a o e = at (slice_get order a.filter) refl
    where
      at : (x : Option ℕ) → slice_get order a.filter ≡ x
          → (g : ℕ) × (s : Option Pad) × (slice_get order a.filter ≡ Some g) × (source_at sources g a.port ≡ Some s) × (port_of_source order s ≡ o)
      at None k =
          let none : slice_index_or fed a.filter [] ≡ [] = map_past (λ (n : ℕ). map (λ s. port_of_source order s) (slice_index_or sources n [])) order a.filter [] k in
          no_some o (sym (ap (λ (xs : List (Option Port)). slice_get xs a.port) none) ∙ e)
      at (Some g) k =
          let h = got_from order (source_at sources g a.port) o (sym (feeder_placed order sources a.filter g a.port k) ∙ e) in
          (g, h.0, k, h.1, h.2)

  fed_some : (a f : Port) → feeder_at fed a ≡ Some (Some f)
      → (g : ℕ) × (from : Pad) × (slice_get order a.filter ≡ Some g) × (source_at sources g a.port ≡ Some (Some from)) × (port_at order from ≡ f)
  fed_some a f e =
      let h = unfed a (Some f) e in
      let s = source_some order h.1 f h.4 in
      (h.0, s.0, h.2, h.3 ∙ ap (λ (x : Option Pad). Some x) s.1, s.2)

  fed_none : (a : Port) → feeder_at fed a ≡ Some None → (g : ℕ) × (slice_get order a.filter ≡ Some g) × (source_at sources g a.port ≡ Some None)
  fed_none a e =
      let h = unfed a None e in
      (h.0, h.2, h.3 ∙ ap (λ (x : Option Pad). Some x) (source_none order h.1 h.4))

  fed_there : (g i : ℕ) (s : Option Pad) → source_at sources g i ≡ Some s → feeder_at fed (record { filter = place_in order g; port = i }) ≡ Some (port_of_source order s)
  fed_there g i s e =
      let h = fed_stands g i s e in
      feeder_placed order sources (place_in order g) g i (place_got order g h.0 h.1) ∙ ap (λ (x : Option (Option Pad)). got_source order x) e

  ports_apart : (p q : Pad) (f : Port) → Stands p.filter → Stands q.filter → port_at order p ≡ f → port_at order q ≡ f → p ≡ q
  ports_apart p q f s t e g =
      let same : port_at order p ≡ port_at order q = e ∙ sym g in
      same_pads p q (places_apart order sources d.forward p.filter q.filter s t (ap (λ (a : Port). a.filter) same)) (ap (λ (a : Port). a.port) same)

  -- how many outputs a filter has
  count_at : (k g : ℕ) → slice_get order k ≡ Some g → outputs_at (placed_counts order counts) k ≡ slice_index_or counts g 0
  count_at k g e = map_got (λ (n : ℕ). slice_index_or counts n 0) order k 0 g e

  count_there : (p : Pad) → p.pad < slice_index_or counts p.filter 0 → (port_at order p).port < outputs_at (placed_counts order counts) (port_at order p).filter
  count_there p lt =
      let h = counted_stands p lt in
      subst (λ (n : ℕ). p.pad < n) (sym (count_at (place_in order p.filter) p.filter (place_got order p.filter h.0 h.1))) lt

  counted : (f : Port) → f.port < outputs_at (placed_counts order counts) f.filter
      → (g : ℕ) × (slice_get order f.filter ≡ Some g) × (f.port < slice_index_or counts g 0)
  counted f lt = at (slice_get order f.filter) refl
    where
      at : (x : Option ℕ) → slice_get order f.filter ≡ x → (g : ℕ) × (slice_get order f.filter ≡ Some g) × (f.port < slice_index_or counts g 0)
      at None k =
          let none : outputs_at (placed_counts order counts) f.filter ≡ 0 = map_past (λ (n : ℕ). slice_index_or counts n 0) order f.filter 0 k in
          absurd (omega (arith, none, lt))
      at (Some g) k = (g, k, subst (λ (n : ℕ). f.port < n) (count_at f.filter g k) lt)

  place_of : (a : Port) (g : ℕ) → slice_get order a.filter ≡ Some g → port_of (place_in order g) a.port ≡ a
  place_of a g e = same_port (port_of (place_in order g) a.port) a (place_is order sources d.forward a.filter g e) refl

  pad_from : (pads : List Pad) (q : ℕ) (f : Port) → slice_get (placed_pads order pads) q ≡ Some f → (p : Pad) × (slice_get pads q ≡ Some p) × (port_at order p ≡ f)
  pad_from pads q f e = unmapped (λ (p : Pad). port_at order p) pads q f e

  pad_to : (pads : List Pad) (q : ℕ) (p : Pad) → slice_get pads q ≡ Some p → slice_get (placed_pads order pads) q ≡ Some (port_at order p)
  pad_to pads q p e = mapped (λ (r : Pad). port_at order r) pads q p e

  pub linked : IsLinked (placed order sources) (placed_counts order counts) (placed_pads order opens) (placed_pads order outs)
  linked = record {
    size = map_size (λ (n : ℕ). slice_index_or counts n 0) order ∙ sym (map_size (λ (n : ℕ). map (λ s. port_of_source order s) (slice_index_or sources n [])) order);
    upward = λ a f e.
        let h = fed_some a f e in
        let s = from_stands h.0 a.port h.1 h.3 in
        let lt : place_in order h.1.filter < a.filter = before sources order d.forward a.filter h.0 a.port h.1 h.2 h.3
        (place_in order h.1.filter) (place_got order h.1.filter s.0 s.1) in
        subst (λ (g : Port). g.filter < a.filter) h.4 lt;
    there = λ a f e.
        let h = fed_some a f e in
        subst (λ (g : Port). g.port < outputs_at (placed_counts order counts) g.filter) h.4 (count_there h.1 (d.there h.0 a.port h.1 h.3));
    once = λ a b f e g.
        let h = fed_some a f e in
        let i = fed_some b f g in
        let same : h.1 ≡ i.1 = ports_apart h.1 i.1 f (from_stands h.0 a.port h.1 h.3) (from_stands i.0 b.port i.1 i.3) h.4 i.4 in
        let o = d.once h.0 a.port i.0 b.port i.1 (h.3 ∙ ap (λ (p : Pad). Some (Some p)) same) i.3 in
        same_port a b (sym (place_is order sources d.forward a.filter h.0 h.2)
        ∙ (ap (λ (n : ℕ). place_in order n) o.0 ∙ place_is order sources d.forward b.filter i.0 i.2)) o.1;
    opens_open = λ n a e.
        let p = pad_from opens n a e in
        subst (λ (g : Port). feeder_at fed g ≡ Some None) p.2 (fed_there p.0.filter p.0.pad None (d.opens_open n p.0 p.1));
    opens_once = λ n m a e g.
        let p = pad_from opens n a e in
        let q = pad_from opens m a g in
        let same : p.0 ≡ q.0 = ports_apart p.0 q.0 a (fed_stands p.0.filter p.0.pad None (d.opens_open n p.0 p.1))
        (fed_stands q.0.filter q.0.pad None (d.opens_open m q.0 q.1)) p.2 q.2 in
        d.opens_once n m q.0 (p.1 ∙ ap (λ (r : Pad). Some r) same) q.1;
    opens_all = λ a e.
        let h = fed_none a e in
        let p : Pad = record { filter = h.0; pad = a.port } in
        let n = d.opens_all p h.2 in
        (n.0, pad_to opens n.0 p n.1 ∙ ap (λ (g : Port). Some g) (place_of a h.0 h.1));
    pads_there = λ q f e.
        let p = pad_from outs q f e in
        subst (λ (g : Port). g.port < outputs_at (placed_counts order counts) g.filter) p.2 (count_there p.0 (d.outs_there q p.0 p.1));
    pads_free = λ q a f e g.
        let p = pad_from outs q f e in
        let h = fed_some a f g in
        let same : h.1 ≡ p.0 = ports_apart h.1 p.0 f (from_stands h.0 a.port h.1 h.3) (counted_stands p.0 (d.outs_there q p.0 p.1)) h.4 p.2 in
        d.outs_free q h.0 a.port p.0 p.1 (h.3 ∙ ap (λ (r : Pad). Some (Some r)) same);
    pads_once = λ q o f e g.
        let p = pad_from outs q f e in
        let r = pad_from outs o f g in
        let same : p.0 ≡ r.0 = ports_apart p.0 r.0 f (counted_stands p.0 (d.outs_there q p.0 p.1)) (counted_stands r.0 (d.outs_there o r.0 r.1)) p.2 r.2 in
        d.outs_once q o r.0 (p.1 ∙ ap (λ (x : Pad). Some x) same) r.1;
    pads_all = λ f lt.
        let h = counted f lt in
        let p : Pad = record { filter = h.0; pad = f.port } in
        elim (d.outs_all p h.2) as (λ _. ((a : Port) × (feeder_at fed a ≡ Some (Some f))) ⊎ ((q : ℕ) × (slice_get (placed_pads order outs) q ≡ Some f))) [
          | inl x ↦ inl (record { filter = place_in order x.0; port = x.1 }, fed_there x.0 x.1 (Some p) x.2 ∙ ap (λ (g : Port). Some (Some g)) (place_of f h.0 h.1))
          | inr x ↦ inr (x.0, pad_to outs x.0 p x.1 ∙ ap (λ (g : Port). Some g) (place_of f h.0 h.1))
        ];
  }
