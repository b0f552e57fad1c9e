-- The lanes at the ports of a node are those of its wires, in their order.
use Rattle.std.proofs.Common.{◌≡◌, ℕ, zero, suc, ◌+◌, ◌≤◌, inl, inr, ◌==◌, ◌&&◌, Bool, true, false, cond, List, [], ◌∷◌, ◌++◌, map, Option, Some, refl, sym, ap, ◌∙◌, arith}
use Rattle.std.proofs.lemmas.List.FromFn.{map-range_with_len_more}
use Rattle.std.specs.List.{position_or_len, AllByRecursion, filter, filter_map, cons_option, range_with_len}
use Rattle.ff_stream.specs.declared.item.Lane.{Lane}
use Rattle.ff_stream.specs.declared.edges.edge.Edge.{Edge}
use Rattle.ff_stream.specs.edges.Ports.{tally, at_ports, edge_to, edge_from, lane_of, lanes_into, lanes_out_of}
use Rattle.ff_plan.specs.Wires.{Wire, leaves_node, enters_node, edge_behind, edges_behind, edges_of}
use Rattle.ff_plan.specs.laws.Laws.{IsNextOf}
use Rattle.ff_plan.proofs.Numbered.{Numbered, both, other_port, other_key, ins_numbered, outs_numbered}
use Rattle.ff_plan_layout.proofs.Tests.{hit, miss, tally_hit, tally_miss}

-- the value at each port, of so many
pub at_ports_is : (f : ℕ → ℕ) (n : ℕ) → at_ports f n ≡ map f (range_with_len 0 n)
at_ports_is f zero = refl
at_ports_is f (suc n) =
    let one : n + 1 ≡ suc n = omega arith in
    ap (λ (l : List ℕ). l ++ f n ∷ []) (at_ports_is f n)
    ∙ (sym (map-range_with_len_more f 0 n n (omega arith)) ∙ ap (λ (k : ℕ). map f (range_with_len 0 k)) one)

pub mapped : {A B C : Type 0} (h : B → Option C) (f : A → B) (xs : List A) → filter_map h (map f xs) ≡ filter_map (λ x. h (f x)) xs
mapped h f [] = refl
mapped {A} {B} {C} h f (x ∷ xs) = ap (λ (l : List C). cons_option (h (f x)) l) (mapped h f xs)

same_above : (f g : ℕ → Option Lane) (a n : ℕ) → ((p : ℕ) → a ≤ p → f p ≡ g p) → filter_map f (range_with_len a n) ≡ filter_map g (range_with_len a n)
same_above f g a zero each = refl
same_above f g a (suc n) each =
    ap (λ (o : Option Lane). cons_option o (filter_map f (range_with_len (a + 1) n))) (each a (omega arith))
    ∙ ap (λ (l : List Lane). cons_option (g a) l) (same_above f g (a + 1) n (λ p le. each p (omega (arith, le))))

module _ (key port : Edge → ℕ) (k : ℕ) where
  abbrev at_port : ℕ → Edge → Bool
  at_port p e = (key e == k) && (port e == p)

  abbrev at_key : Edge → Bool
  at_key e = key e == k

  abbrev lane_at_port : List Edge → ℕ → Option Lane
  lane_at_port es p = lane_of es (position_or_len (at_port p) es)

  lane_hit : (e : Edge) (es : List Edge) (p : ℕ) → at_port p e ≡ true → lane_at_port (e ∷ es) p ≡ Some e.lane
  lane_hit e es p h = ap (λ (w : ℕ). lane_of (e ∷ es) w) (hit (at_port p) e es h)

  lane_miss : (e : Edge) (es : List Edge) (p : ℕ) → at_port p e ≡ false → lane_at_port (e ∷ es) p ≡ lane_at_port es p
  lane_miss e es p h =
      let one_more : 1 + position_or_len (at_port p) es ≡ suc (position_or_len (at_port p) es) = omega arith in
      ap (λ (w : ℕ). lane_of (e ∷ es) w) (miss (at_port p) e es h ∙ one_more)

  abbrev kept_if : Bool → Edge → List Edge → List Lane
  kept_if b e es = map (λ (x : Edge). x.lane) (cond b (e ∷ filter at_key es) (filter at_key es))

  by_port : (n : ℕ) (es : List Edge) → Numbered key port k n es
      → filter_map (lane_at_port es) (range_with_len n (tally at_key es)) ≡ map (λ (e : Edge). e.lane) (filter at_key es)
  by_port n [] h = refl
  by_port n (e ∷ es) (inl (ke, pe, rest)) =
      let t = tally at_key es in
      let next : n + 1 ≡ suc n = omega arith in
      ap (λ (m : ℕ). filter_map (lane_at_port (e ∷ es)) (range_with_len n m)) (tally_hit at_key e es ke)
      ∙ (ap (λ (o : Option Lane). cons_option o (filter_map (lane_at_port (e ∷ es)) (range_with_len (n + 1) t))) (lane_hit e es n (both (key e) k (port e) n ke pe))
      ∙ (ap (λ (l : List Lane). e.lane ∷ l)
      (same_above (lane_at_port (e ∷ es)) (lane_at_port es) (n + 1) t (λ p le. lane_miss e es p (other_port (key e) k (port e) p (omega (arith, pe, le))))
      ∙ (ap (λ (m : ℕ). filter_map (lane_at_port es) (range_with_len m t)) next ∙ by_port (suc n) es rest))
      ∙ ap (λ (b : Bool). kept_if b e es) (sym ke)))
  by_port n (e ∷ es) (inr (ke, rest)) =
      let t = tally at_key es in
      ap (λ (m : ℕ). filter_map (lane_at_port (e ∷ es)) (range_with_len n m)) (tally_miss at_key e es ke)
      ∙ (same_above (lane_at_port (e ∷ es)) (lane_at_port es) n t (λ p le. lane_miss e es p (other_key (key e) k (port e) p ke))
      ∙ (by_port n es rest ∙ ap (λ (b : Bool). kept_if b e es) (sym ke)))

abbrev pub wire_lanes : (Wire → Bool) → List Wire → List Lane
wire_lanes test ws = map (λ (w : Wire). w.lane) (filter test ws)

module _ (k : ℕ) where
  step : (w : Wire) (e : Edge) (ws : List Wire) (es : List Edge) (b : Bool) → e.lane ≡ w.lane → map (λ (x : Edge). x.lane) es ≡ map (λ (x : Wire). x.lane) ws
      → map (λ (x : Edge). x.lane) (cond b (e ∷ es) es) ≡ map (λ (x : Wire). x.lane) (cond b (w ∷ ws) ws)
  step w e ws es true same rest = ap (λ (l : Lane). l ∷ map (λ (x : Edge). x.lane) es) same ∙ ap (λ (l : List Lane). w.lane ∷ l) rest
  step w e ws es false same rest = rest

  into_behind : (before ws : List Wire) → map (λ (e : Edge). e.lane) (filter (λ (e : Edge). e.to == k) (edges_behind before ws)) ≡ wire_lanes (enters_node k) ws
  into_behind before [] = refl
  into_behind before (w ∷ ws) =
      step w (edge_behind before w) (filter (enters_node k) ws) (filter (λ (e : Edge). e.to == k) (edges_behind (w ∷ before) ws)) (w.to == k) refl (into_behind (w ∷ before) ws)

  out_behind : (before ws : List Wire) → map (λ (e : Edge). e.lane) (filter (λ (e : Edge). e.from == k) (edges_behind before ws)) ≡ wire_lanes (leaves_node k) ws
  out_behind before [] = refl
  out_behind before (w ∷ ws) =
      step w (edge_behind before w) (filter (leaves_node k) ws) (filter (λ (e : Edge). e.from == k) (edges_behind (w ∷ before) ws)) (w.from == k) refl (out_behind (w ∷ before) ws)

  pub into_is : (ws : List Wire) → lanes_into (edges_of ws) k ≡ wire_lanes (enters_node k) ws
  into_is ws =
      let es = edges_of ws in
      let t = tally (λ (e : Edge). e.to == k) es in
      ap (λ (l : List ℕ). filter_map (lane_of es) l) (at_ports_is (edge_to es k) t)
      ∙ (mapped (lane_of es) (edge_to es k) (range_with_len 0 t)
      ∙ (by_port (λ (e : Edge). e.to) (λ (e : Edge). e.in_port) k 0 es (ins_numbered k ws) ∙ into_behind [] ws))

  pub out_is : (ws : List Wire) → AllByRecursion (IsNextOf k) ws → lanes_out_of (edges_of ws) k ≡ wire_lanes (leaves_node k) ws
  out_is ws next =
      let es = edges_of ws in
      let t = tally (λ (e : Edge). e.from == k) es in
      ap (λ (l : List ℕ). filter_map (lane_of es) l) (at_ports_is (edge_from es k) t)
      ∙ (mapped (lane_of es) (edge_from es k) (range_with_len 0 t)
      ∙ (by_port (λ (e : Edge). e.from) (λ (e : Edge). e.out_port) k 0 es (outs_numbered k ws next) ∙ out_behind [] ws))
