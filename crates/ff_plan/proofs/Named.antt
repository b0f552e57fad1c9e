-- Ports that are named.
use Rattle.std.proofs.Common.{◌≡◌, ℕ, zero, suc, ◌<◌, inl, inr, ◌==◌, ◌&&◌, Bool, true, false, cond, List, [], ◌∷◌, length, slice_index_or, Option, refl, sym, ap, ◌∙◌, subst, arith}
use Rattle.std.specs.List.{position_or_len, AllByRecursion, cons_option, IsDistinct}
use Rattle.std.proofs.lemmas.Bool.Decides.{nat_tests}
use Rattle.ff_stream.specs.declared.edges.edge.Edge.{Edge}
use Rattle.ff_plan_layout.specs.Layout.{IsAmong, EachOnce}
use Rattle.ff_plan.specs.Wires.{Wire, port_or, leaves_node, edge_behind, edges_behind, edges_of}
use Rattle.ff_stream.specs.edges.Ports.{tally}
use Rattle.ff_plan.specs.laws.Laws.{IsNamedOf, named_at}
use Rattle.ff_stream.specs.edges.Ports.{EachPort, HasOuts}
use Rattle.ff_plan_layout.proofs.Tests.{hit, miss, tally_hit, tally_miss, not_same, is_same}
use Rattle.ff_plan.proofs.Numbered.{both, other_key}

-- an edge at this node has another port
other_name : (a k b p : ℕ) → (b == p) ≡ false → ((a == k) && (b == p)) ≡ false
other_name a k b p e = grind (arith, nat_tests)

same_test : (a k : ℕ) → a ≡ k → (a == k) ≡ true
same_test a k e = grind (arith, nat_tests)

module _ (key port : Edge → ℕ) (k : ℕ) where
  abbrev pub ports_at : List Edge → List ℕ
  ports_at [] = []
  ports_at (e ∷ es) = cond (key e == k) (port e ∷ ports_at es) (ports_at es)

  abbrev at_port : ℕ → Edge → Bool
  at_port p e = (key e == k) && (port e == p)

  abbrev at_key : Edge → Bool
  at_key e = key e == k

  ports_hit : (e : Edge) (es : List Edge) → (key e == k) ≡ true → ports_at (e ∷ es) ≡ port e ∷ ports_at es
  ports_hit e es h = ap (λ (b : Bool). cond b (port e ∷ ports_at es) (ports_at es)) h

  ports_miss : (e : Edge) (es : List Edge) → (key e == k) ≡ false → ports_at (e ∷ es) ≡ ports_at es
  ports_miss e es h = ap (λ (b : Bool). cond b (port e ∷ ports_at es) (ports_at es)) h

  count_step : (e : Edge) (es : List Edge) (b : Bool) → (key e == k) ≡ b → tally at_key es ≡ length (ports_at es) → tally at_key (e ∷ es) ≡ length (ports_at (e ∷ es))
  count_step e es true h r = tally_hit at_key e es h ∙ (ap suc r ∙ sym (ap (λ (ps : List ℕ). length ps) (ports_hit e es h)))
  count_step e es false h r = tally_miss at_key e es h ∙ (r ∙ sym (ap (λ (ps : List ℕ). length ps) (ports_miss e es h)))

  count : (es : List Edge) → tally at_key es ≡ length (ports_at es)
  count [] = refl
  count (e ∷ es) = count_step e es (key e == k) refl (count es)

  there_step : (p : ℕ) (e : Edge) (es : List Edge) (b : Bool) → (key e == k) ≡ b → (c : Bool) → (port e == p) ≡ c → IsAmong p (ports_at (e ∷ es)) → (IsAmong p (ports_at es) → position_or_len (at_port p) es < length es) → position_or_len (at_port p) (e ∷ es) < length (e ∷ es)
  there_step p e es true h true f i rest = (let z = hit (at_port p) e es (both (key e) k (port e) p h (is_same (port e) p f)) in omega (arith, z))
  there_step p e es true h false f i rest =
      let m = miss (at_port p) e es (other_name (key e) k (port e) p f) in
      elim (subst (λ (ps : List ℕ). IsAmong p ps) (ports_hit e es h) i) [
        | inl same ↦ absurd (not_same (port e) p f same)
        | inr j ↦ (let r = rest j in omega (arith, m, r))
      ]
  there_step p e es false h c f i rest =
      let m = miss (at_port p) e es (other_key (key e) k (port e) p h) in
      let r = rest (subst (λ (ps : List ℕ). IsAmong p ps) (ports_miss e es h) i) in omega (arith, m, r)

  there : (p : ℕ) (es : List Edge) → IsAmong p (ports_at es) → position_or_len (at_port p) es < length es
  there p [] i = absurd i
  there p (e ∷ es) i = there_step p e es (key e == k) refl (port e == p) refl i (there p es)

  in_ports : (es : List Edge) (w : ℕ) (d : Edge) → w < length es → key (slice_index_or es w d) ≡ k → IsAmong (port (slice_index_or es w d)) (ports_at es)
  in_ports [] w d lt e = absurd (omega (arith, lt))
  in_ports (x ∷ es) zero d lt e = subst (λ (ps : List ℕ). IsAmong (port x) ps) (sym (ports_hit x es (same_test (key x) k e))) (inl refl)
  in_ports (x ∷ es) (suc w) d lt e = in_step (key x == k) refl (in_ports es w d (omega (arith, lt)) e) where
    in_step : (b : Bool) → (key x == k) ≡ b → IsAmong (port (slice_index_or es w d)) (ports_at es) → IsAmong (port (slice_index_or es w d)) (ports_at (x ∷ es))
    in_step true h i = subst (λ (ps : List ℕ). IsAmong (port (slice_index_or es w d)) ps) (sym (ports_hit x es h)) (inr i)
    in_step false h i = subst (λ (ps : List ℕ). IsAmong (port (slice_index_or es w d)) ps) (sym (ports_miss x es h)) i

  -- none of these ports is this one
  differ : (p q : ℕ) (ps : List ℕ) → AllByRecursion (λ r. (p == r) ≡ false) ps → IsAmong q ps → (p == q) ≡ false
  differ p q [] all i = absurd i
  differ p q (r ∷ rs) all (inl e) = subst (λ (v : ℕ). (p == v) ≡ false) e all.0
  differ p q (r ∷ rs) all (inr i) = differ p q rs all.1 i

  abbrev Finds : List Edge → Type 0
  Finds es = IsDistinct (λ p q. p == q) (ports_at es) → (w : ℕ) (d : Edge) → w < length es → key (slice_index_or es w d) ≡ k → position_or_len (at_port (port (slice_index_or es w d))) es ≡ w

  found_step : (x : Edge) (es : List Edge) (b : Bool) → (key x == k) ≡ b → Finds es → Finds (x ∷ es)
  unfolding IsDistinct
  found_step x es true h rest dis zero d lt e = hit (at_port (port x)) x es (both (key x) k (port x) (port x) h refl)
  found_step x es true h rest dis (suc w) d lt e =
      let parts = subst (λ (ps : List ℕ). IsDistinct (λ p q. p == q) ps) (ports_hit x es h) dis in
      let at = rest parts.1 w d (omega (arith, lt)) e in
      let m = miss (at_port (port (slice_index_or es w d))) x es (other_name (key x) k (port x) (port (slice_index_or es w d)) (differ (port x) (port (slice_index_or es w d)) (ports_at es) parts.0 (in_ports es w d (omega (arith, lt)) e))) in
      omega (arith, m, at)
  found_step x es false h rest dis zero d lt e = absurd (not_same (key x) k h e)
  found_step x es false h rest dis (suc w) d lt e =
      let at = rest (subst (λ (ps : List ℕ). IsDistinct (λ p q. p == q) ps) (ports_miss x es h) dis) w d (omega (arith, lt)) e in
      let m = miss (at_port (port (slice_index_or es w d))) x es (other_key (key x) k (port x) (port (slice_index_or es w d)) h) in
      omega (arith, m, at)

  found : (es : List Edge) → Finds es
  found [] = λ dis w d lt e. absurd (omega (arith, lt))
  found (x ∷ es) = found_step x es (key x == k) refl (found es)

  pub once_each : (es : List Edge) → EachOnce (ports_at es) → EachPort key port es k
  once_each es once = record {
    there = λ p lt. there p es (once.all p (let c = count es in omega (arith, lt, c)));
    range = λ w d lt e. (let below = once.below (port (slice_index_or es w d)) (in_ports es w d lt e) in let c = count es in omega (arith, below, c));
    at = λ w d lt e. found es once.distinct w d lt e;
  }

module _ (k : ℕ) where
  abbrev Ports : List Edge → List ℕ
  Ports es = ports_at (λ e. e.from) (λ e. e.out_port) k es

  named_step : (before : List Wire) (w : Wire) (ws : List Wire) (b : Bool) → (w.from == k) ≡ b → IsNamedOf k w → Ports (edges_behind (w ∷ before) ws) ≡ named_at k ws → cond b ((edge_behind before w).out_port ∷ Ports (edges_behind (w ∷ before) ws)) (Ports (edges_behind (w ∷ before) ws)) ≡ cond b (cons_option w.port (named_at k ws)) (named_at k ws)
  named_step before w ws true h named rest =
      let q = named (is_same w.from k h) in
      ap (λ (o : Option ℕ). port_or (tally (leaves_node w.from) before) o ∷ Ports (edges_behind (w ∷ before) ws)) q.1 ∙ (ap (λ (ps : List ℕ). q.0 ∷ ps) rest ∙ sym (ap (λ (o : Option ℕ). cons_option o (named_at k ws)) q.1))
  named_step before w ws false h named rest = rest

  named_behind : (before ws : List Wire) → AllByRecursion (IsNamedOf k) ws → Ports (edges_behind before ws) ≡ named_at k ws
  named_behind before [] named = refl
  named_behind before (w ∷ ws) named = named_step before w ws (w.from == k) refl named.0 (named_behind (w ∷ before) ws named.1)

  -- as many edges as named ports
  pub named_count : (wires : List Wire) → AllByRecursion (IsNamedOf k) wires → tally (λ (e : Edge). e.from == k) (edges_of wires) ≡ length (named_at k wires)
  named_count wires named = count (λ e. e.from) (λ e. e.out_port) k (edges_of wires) ∙ ap (λ (ps : List ℕ). length ps) (named_behind [] wires named)

  pub named_outs : (wires : List Wire) → AllByRecursion (IsNamedOf k) wires → EachOnce (named_at k wires) → HasOuts (edges_of wires) k
  named_outs wires named once = once_each (λ e. e.from) (λ e. e.out_port) k (edges_of wires) (subst EachOnce (sym (named_behind [] wires named)) once)
