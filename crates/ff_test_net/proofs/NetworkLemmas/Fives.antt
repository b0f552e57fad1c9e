-- The five fit their edges.
use Rattle.std.proofs.Common.{◌≡◌, ℕ, zero, suc, ◌<◌, List, [], ◌∷◌, length, map, slice_index_or, Some, refl, ap, sym, ◌∙◌, subst, arith}
use Rattle.std.proofs.lemmas.List.{length-map}
use Rattle.ff_stream.specs.declared.item.Lane.{Lane}
use Rattle.ff_stream.specs.declared.edges.edge.Edge.{Edge}
use Rattle.ff_stream.specs.edges.Ports.{edge_to, edge_from, at_ports}
use Rattle.ff_net.specs.laws.Views.{View}
use Rattle.ff_net.specs.Ways.{lane_at}
use Rattle.ff_test_machines.specs.declared.plain.Plain.{Plain}
use Rattle.ff_test_machines.specs.Plains.{IsBelow, plain_view}
use Rattle.ff_sched.specs.declared.routes.Routes.{Routes}
use Rattle.ff_net_threads.specs.network.Fits.{Ports, AreFit, edge_lanes}
use Rattle.ff_net_threads.specs.laws.network.Networks.{Fits, lanes_at, ports_of}
use Rattle.ff_net_threads.specs.laws.network.Scheduling.{AllRouted}
use Rattle.ff_test_net.specs.network.Five.{HasPorts, IsOneSource, AreFive, five_ins, five_outs, five_edges}

-- ports by lists of lanes
abbrev listed : List (List Lane) → List (List Lane) → Ports
listed ins outs = record { ins = λ k. slice_index_or ins k []; outs = λ k. slice_index_or outs k [] }

by_list : (lanes : View → List Lane) (ms : List Plain) (k : ℕ) → lanes_at lanes plain_view ms k ≡ slice_index_or (map (λ m. lanes (plain_view m)) ms) k []
by_list lanes [] k = refl
by_list lanes (m ∷ ms) zero = refl
by_list lanes (m ∷ ms) (suc k) = by_list lanes ms k

-- edges that fit ports fit others with the same lanes
same_fit : (p q : Ports) (n : ℕ) (es : List Edge) → ((k : ℕ) → p.ins k ≡ q.ins k) → ((k : ℕ) → p.outs k ≡ q.outs k) → AreFit p n es → AreFit q n es
same_fit p q n es ei eo f = record {
  ins = λ k lt. subst (λ (ls : List Lane). map (lane_at (edge_lanes es)) (at_ports (edge_to es k) (length ls)) ≡ map Some ls) (ei k) (f.ins k lt);
  outs = λ k lt. subst (λ (ls : List Lane). map (lane_at (edge_lanes es)) (at_ports (edge_from es k) (length ls)) ≡ map Some ls) (eo k) (f.outs k lt);
  fed = λ k i lt il. (let h = f.fed k i lt (subst (λ (ls : List Lane). i < length ls) (sym (ei k)) il) in (h.0, h.1, h.2, subst (λ (ls : List Lane). h.1 < length ls) (eo h.0) h.3, h.4));
}

module _ (l : Lane) where
  ins_fit : (k : ℕ) → k < 5 → map (lane_at (edge_lanes (five_edges l))) (at_ports (edge_to (five_edges l) k) (length (slice_index_or (five_ins l) k []))) ≡ map Some (slice_index_or (five_ins l) k [])
  ins_fit zero lt = refl
  ins_fit (suc zero) lt = refl
  ins_fit (suc (suc zero)) lt = refl
  ins_fit (suc (suc (suc zero))) lt = refl
  ins_fit (suc (suc (suc (suc zero)))) lt = refl
  ins_fit (suc (suc (suc (suc (suc k))))) lt = absurd (omega (arith, lt))

  outs_fit : (k : ℕ) → k < 5 → map (lane_at (edge_lanes (five_edges l))) (at_ports (edge_from (five_edges l) k) (length (slice_index_or (five_outs l) k []))) ≡ map Some (slice_index_or (five_outs l) k [])
  outs_fit zero lt = refl
  outs_fit (suc zero) lt = refl
  outs_fit (suc (suc zero)) lt = refl
  outs_fit (suc (suc (suc zero))) lt = refl
  outs_fit (suc (suc (suc (suc zero)))) lt = refl
  outs_fit (suc (suc (suc (suc (suc k))))) lt = absurd (omega (arith, lt))

  are_fed : (k p : ℕ) → k < 5 → p < length (slice_index_or (five_ins l) k []) → (j q : ℕ) × (j < k) × (q < length (slice_index_or (five_outs l) j [])) × (edge_to (five_edges l) k p ≡ edge_from (five_edges l) j q)
  are_fed zero p lt pl = absurd (omega (arith, pl))
  are_fed (suc zero) zero lt pl = (0, 0, omega arith, omega arith, refl)
  are_fed (suc zero) (suc p) lt pl = absurd (omega (arith, pl))
  are_fed (suc (suc zero)) zero lt pl = (1, 0, omega arith, omega arith, refl)
  are_fed (suc (suc zero)) (suc p) lt pl = absurd (omega (arith, pl))
  are_fed (suc (suc (suc zero))) zero lt pl = (2, 0, omega arith, omega arith, refl)
  are_fed (suc (suc (suc zero))) (suc zero) lt pl = (1, 1, omega arith, omega arith, refl)
  are_fed (suc (suc (suc zero))) (suc (suc p)) lt pl = absurd (omega (arith, pl))
  are_fed (suc (suc (suc (suc zero)))) zero lt pl = (3, 0, omega arith, omega arith, refl)
  are_fed (suc (suc (suc (suc zero)))) (suc p) lt pl = absurd (omega (arith, pl))
  are_fed (suc (suc (suc (suc (suc k))))) p lt pl = absurd (omega (arith, lt))

  pub five_count : (ms : List Plain) → AreFive l ms → length ms ≡ 5
  five_count ms h = sym (length-map ms (λ (m : Plain). (plain_view m).in_lanes)) ∙ ap length h.ins

  pub five_fit : (ms : List Plain) → AreFive l ms → Fits plain_view (five_edges l) ms
  five_fit ms h =
      subst (λ (n : ℕ). AreFit (ports_of plain_view ms) n (five_edges l)) (sym (five_count ms h))
      (same_fit (listed (five_ins l) (five_outs l)) (ports_of plain_view ms) 5 (five_edges l)
      (λ k. sym (by_list (λ v. v.in_lanes) ms k ∙ ap (λ (ls : List (List Lane)). slice_index_or ls k []) h.ins))
      (λ k. sym (by_list (λ v. v.out_lanes) ms k ∙ ap (λ (ls : List (List Lane)). slice_index_or ls k []) h.outs))
      (record { ins = ins_fit; outs = outs_fit; fed = are_fed }))

five_same : {A : Type 0} (a a' b b' c c' d d' e e' : A) → a ≡ a' → b ≡ b' → c ≡ c' → d ≡ d' → e ≡ e' → a ∷ b ∷ c ∷ d ∷ e ∷ [] ≡ a' ∷ b' ∷ c' ∷ d' ∷ e' ∷ []
five_same a a' b b' c c' d d' e e' p q r s t = cc (p, q, r, s, t)

at_five : (P : Plain → Type 0) (a b c d e : Plain) → P a → P b → P c → P d → P e → (k : ℕ) (x : Plain) → k < 5 → P (slice_index_or (a ∷ b ∷ c ∷ d ∷ e ∷ []) k x)
at_five P a b c d e v w x y z zero o lt = v
at_five P a b c d e v w x y z (suc zero) o lt = w
at_five P a b c d e v w x y z (suc (suc zero)) o lt = x
at_five P a b c d e v w x y z (suc (suc (suc zero))) o lt = y
at_five P a b c d e v w x y z (suc (suc (suc (suc zero)))) o lt = z
at_five P a b c d e v w x y z (suc (suc (suc (suc (suc k))))) o lt = absurd (omega (arith, lt))

-- the five by one another
pub five_of : (l : Lane) (a b c d e : Plain) → HasPorts l 0 1 a → HasPorts l 1 2 b → HasPorts l 1 1 c → HasPorts l 2 1 d → HasPorts l 1 0 e → IsBelow 1 a → IsBelow 1 b → IsBelow 1 c → IsBelow 1 d → IsBelow 1 e → AreFive l (a ∷ b ∷ c ∷ d ∷ e ∷ [])
five_of l a b c d e p q r s t v w x y z = record {
  ins = five_same _ _ _ _ _ _ _ _ _ _ p.0 q.0 r.0 s.0 t.0;
  outs = five_same _ _ _ _ _ _ _ _ _ _ p.1 q.1 r.1 s.1 t.1;
  below = at_five (IsBelow 1) a b c d e v w x y z;
}

pub five_routed : (l : Lane) (ms : List Plain) (routes : Routes) → IsOneSource routes → AreFive l ms → AllRouted plain_view routes ms
five_routed l ms routes one h = record { each = λ k s d lt is. (let b = h.below k d lt s is in let n = one.one in omega (arith, b, n)) }
