-- Ports that are numbered as they come.
use Rattle.std.proofs.Common.{◌≡◌, ℕ, zero, suc, ◌+◌, ◌<◌, ◌≤◌, ◌⊎◌, inl, inr, ◌==◌, ◌&&◌, Bool, true, false, not, cond, List, [], ◌∷◌, length, slice_index_or, Option, refl, ap, ◌∙◌, subst, arith}
use Rattle.std.specs.List.{position_or_len, AllByRecursion}
use Rattle.std.proofs.lemmas.Bool.Decides.{nat_tests}
use Rattle.ff_stream.specs.declared.edges.edge.Edge.{Edge}
use Rattle.ff_plan.specs.Wires.{Wire, leaves_node, enters_node, port_or, edge_behind, edges_behind, edges_of}
use Rattle.ff_stream.specs.edges.Ports.{tally}
use Rattle.ff_plan.specs.laws.Laws.{IsNextOf}
use Rattle.ff_stream.specs.edges.Ports.{EachPort, HasIns, HasOuts}
use Rattle.ff_plan_layout.proofs.Tests.{hit, miss, tally_hit, tally_miss, same_or_above, not_same, is_same}

pub both : (a k b p : ℕ) → (a == k) ≡ true → b ≡ p → ((a == k) && (b == p)) ≡ true
both a k b p e f = grind (arith, nat_tests)

pub other_port : (a k b p : ℕ) → b < p → ((a == k) && (b == p)) ≡ false
other_port a k b p lt = grind (arith, nat_tests)

pub other_key : (a k b p : ℕ) → (a == k) ≡ false → ((a == k) && (b == p)) ≡ false
other_key a k b p e = ap (λ (t : Bool). t && (b == p)) e

module _ (key port : Edge → ℕ) where
  abbrev at_port : ℕ → ℕ → Edge → Bool
  at_port k p e = (key e == k) && (port e == p)

  abbrev at_key : ℕ → Edge → Bool
  at_key k e = key e == k

  -- the edges at this node have the ports from this one on, in their order
  abbrev pub Numbered : ℕ → ℕ → List Edge → Type 0
  Numbered k n [] = Unit {0}
  Numbered k n (e ∷ es) = (((key e == k) ≡ true) × (port e ≡ n) × Numbered k (suc n) es) ⊎ (((key e == k) ≡ false) × Numbered k n es)

  there : (k n : ℕ) (es : List Edge) → Numbered k n es → (p : ℕ) → n ≤ p → p < n + tally (at_key k) es → position_or_len (at_port k p) es < length es
  there k n [] h p le lt = absurd (omega (arith, le, lt))
  there k n (e ∷ es) (inl (ke, pe, rest)) p le lt =
      let t = tally_hit (at_key k) e es ke in
      elim (same_or_above n p le) [
        | inl same ↦ (let z = hit (at_port k p) e es (both (key e) k (port e) p ke (pe ∙ same)) in omega (arith, z))
        | inr above ↦ (let m = miss (at_port k p) e es (other_port (key e) k (port e) p (omega (arith, pe, above))) in
            let r = there k (suc n) es rest p above (omega (arith, t, lt)) in omega (arith, m, r))
      ]
  there k n (e ∷ es) (inr (ke, rest)) p le lt =
      let t = tally_miss (at_key k) e es ke in
      let m = miss (at_port k p) e es (other_key (key e) k (port e) p ke) in
      let r = there k n es rest p le (omega (arith, t, lt)) in omega (arith, m, r)

  found : (k n : ℕ) (es : List Edge) → Numbered k n es → (w : ℕ) (d : Edge) → w < length es → key (slice_index_or es w d) ≡ k
      → (n ≤ port (slice_index_or es w d)) × (port (slice_index_or es w d) < n + tally (at_key k) es) × (position_or_len (at_port k (port (slice_index_or es w d))) es ≡ w)
  found k n [] h w d lt ke = absurd (omega (arith, lt))
  found k n (e ∷ es) (inl (ke, pe, rest)) zero d lt eq =
      let t = tally_hit (at_key k) e es ke in
      (omega (arith, pe), omega (arith, pe, t), hit (at_port k (port e)) e es (both (key e) k (port e) (port e) ke refl))
  found k n (e ∷ es) (inl (ke, pe, rest)) (suc w) d lt eq =
      let t = tally_hit (at_key k) e es ke in
      let r = found k (suc n) es rest w d (omega (arith, lt)) eq in
      let low = r.0 in let high = r.1 in let at = r.2 in
      let m = miss (at_port k (port (slice_index_or es w d))) e es (other_port (key e) k (port e) (port (slice_index_or es w d)) (omega (arith, pe, low))) in
      (omega (arith, low), omega (arith, high, t), omega (arith, m, at))
  found k n (e ∷ es) (inr (ke, rest)) zero d lt eq = absurd (not_same (key e) k ke eq)
  found k n (e ∷ es) (inr (ke, rest)) (suc w) d lt eq =
      let t = tally_miss (at_key k) e es ke in
      let r = found k n es rest w d (omega (arith, lt)) eq in
      let low = r.0 in let high = r.1 in let at = r.2 in
      let m = miss (at_port k (port (slice_index_or es w d))) e es (other_key (key e) k (port e) (port (slice_index_or es w d)) ke) in
      (low, omega (arith, high, t), omega (arith, m, at))

  pub each_port : (k : ℕ) (es : List Edge) → Numbered k 0 es → EachPort key port es k
  each_port k es n = record {
    there = λ p lt. there k 0 es n p (omega arith) (omega (arith, lt));
    range = λ w d lt e. (let r = found k 0 es n w d lt e in let high = r.1 in omega (arith, high));
    at = λ w d lt e. (found k 0 es n w d lt e).2;
  }

module _ (k : ℕ) where
  abbrev Ins : ℕ → List Edge → Type 0
  Ins n es = Numbered (λ e. e.to) (λ e. e.in_port) k n es

  abbrev Outs : ℕ → List Edge → Type 0
  Outs n es = Numbered (λ e. e.from) (λ e. e.out_port) k n es

  in_step : (before : List Wire) (w : Wire) (es : List Edge) (b : Bool) → (w.to == k) ≡ b → Ins (tally (enters_node k) (w ∷ before)) es → Ins (tally (enters_node k) before) (edge_behind before w ∷ es)
  in_step before w es true e rest =
      inl (e, ap (λ (j : ℕ). tally (enters_node j) before) (is_same w.to k e), subst (λ (n : ℕ). Ins n es) (tally_hit (enters_node k) w before e) rest)
  in_step before w es false e rest = inr (e, subst (λ (n : ℕ). Ins n es) (tally_miss (enters_node k) w before e) rest)

  ins_behind : (before ws : List Wire) → Ins (tally (enters_node k) before) (edges_behind before ws)
  ins_behind before [] = tt
  ins_behind before (w ∷ ws) = in_step before w (edges_behind (w ∷ before) ws) (w.to == k) refl (ins_behind (w ∷ before) ws)

  out_step : (before : List Wire) (w : Wire) (es : List Edge) (b : Bool) → (w.from == k) ≡ b → IsNextOf k w → Outs (tally (leaves_node k) (w ∷ before)) es → Outs (tally (leaves_node k) before) (edge_behind before w ∷ es)
  out_step before w es true e next rest =
      let from_is = is_same w.from k e in
      inl (
        e,
        ap (λ (o : Option ℕ). port_or (tally (leaves_node w.from) before) o) (next from_is) ∙ ap (λ (j : ℕ). tally (leaves_node j) before) from_is,
        subst (λ (n : ℕ). Outs n es) (tally_hit (leaves_node k) w before e) rest,
      )
  out_step before w es false e next rest = inr (e, subst (λ (n : ℕ). Outs n es) (tally_miss (leaves_node k) w before e) rest)

  outs_behind : (before ws : List Wire) → AllByRecursion (IsNextOf k) ws → Outs (tally (leaves_node k) before) (edges_behind before ws)
  outs_behind before [] next = tt
  outs_behind before (w ∷ ws) next = out_step before w (edges_behind (w ∷ before) ws) (w.from == k) refl next.0 (outs_behind (w ∷ before) ws next.1)

  pub ins_numbered : (wires : List Wire) → Ins 0 (edges_of wires)
  ins_numbered wires = ins_behind [] wires

  pub outs_numbered : (wires : List Wire) → AllByRecursion (IsNextOf k) wires → Outs 0 (edges_of wires)
  outs_numbered wires next = outs_behind [] wires next

  pub has_ins : (wires : List Wire) → HasIns (edges_of wires) k
  has_ins wires = each_port (λ e. e.to) (λ e. e.in_port) k (edges_of wires) (ins_numbered wires)

  pub has_outs : (wires : List Wire) → AllByRecursion (IsNextOf k) wires → HasOuts (edges_of wires) k
  has_outs wires next = each_port (λ e. e.from) (λ e. e.out_port) k (edges_of wires) (outs_numbered wires next)
