-- What the sink of a chain was fed.
use Rattle.std.proofs.Common.{◌≡◌, ℕ, zero, suc, ◌<◌, ◌≤◌, List, [], ◌∷◌, ◌++◌, length, slice_index_or, ap, sym, subst, ◌∙◌, arith, inl, inr}
use Rattle.ff_stream.specs.declared.item.Lane.{Lane}
use Rattle.ff_stream.specs.Stream.{whole_stream}
use Rattle.ff_test_machines.specs.Packets.{byte_packets}
use Rattle.ff_net.specs.declared.node.Node.{Node}
use Rattle.ff_net.specs.declared.ports.InPort.{InPort}
use Rattle.ff_net.specs.Nets.{Part, IsUpward, solve}
use Rattle.ff_net.specs.Pasts.{Task, IsIn}
use Rattle.ff_net.specs.laws.Ports.{in_at, in_wires}
use Rattle.ff_net.specs.laws.Serial.{Moment, parts_of}
use Rattle.ff_net.specs.laws.Theorem.{AllFare, MeetsSolution}
use Rattle.ff_net.specs.laws.Worlds.{Wire}
use Rattle.ff_net.proofs.Moments.{fault_self}
use Rattle.ff_net.specs.laws.Nodes.{IsSound, machine_of, outputs_of, in_wires_of, out_wires_of}
use Rattle.ff_net_threads.specs.declared.links.linked.Linked.{Linked}
use Rattle.ff_net_threads.specs.laws.links.Nodes.{node_of}
use Rattle.ff_net_threads.specs.laws.links.Settling.{AllBehind, AllEnded, AreMeeting, IsInOf, IsOutOf, nodes_of}
use Rattle.ff_net_threads.proofs.LinksLemmas.Linking.{count_map}
use Rattle.ff_test_machines.specs.declared.plain.Plain.{Plain}
use Rattle.ff_test_machines.specs.Plains.{plain_view}
use Rattle.ff_test_machines.specs.Relays.{stopped_at}
use Rattle.ff_test_net.specs.net.Chains.{IsChain, AllSound, WasFed, chain_tasks}
use Rattle.ff_test_net.proofs.NetLemmas.Chains.{apart_0_1}

abbrev part : Task → List Lane → List Lane → List ℕ → List ℕ → Part
part task ls ls' ws vs = record { means = task.means; source = task.source; in_lanes = ls; out_lanes = ls'; ins = ws; outs = vs }

solve_is : (count limit : ℕ) (la la' lb lb' lc lc' : List Lane) (ia oa ib ob ic oc : List ℕ) → ia ≡ [] → oa ≡ 0 ∷ [] → ib ≡ 0 ∷ [] → ob ≡ 1 ∷ [] → ic ≡ 1 ∷ [] → oc ≡ []
    → solve (part (chain_tasks count limit 0) la la' ia oa ∷ part (chain_tasks count limit 1) lb lb' ib ob ∷ part (chain_tasks count limit 2) lc lc' ic oc ∷ []) 1 ≡ stopped_at limit (whole_stream (byte_packets count))
solve_is count limit la la' lb lb' lc lc' ia oa ib ob ic oc e1 e2 e3 e4 e5 e6 = λ i. solve (part (chain_tasks count limit 0) la la' (e1 i) (e2 i) ∷ part (chain_tasks count limit 1) lb lb' (e3 i) (e4 i) ∷ part (chain_tasks count limit 2) lc lc' (e5 i) (e6 i) ∷ []) 1

sole_wire : (ports : List InPort) (w : ℕ) → in_wires ports ≡ w ∷ [] → (in_at ports 0).wire ≡ w
sole_wire [] w e = absurd (let n : 0 ≡ 1 = ap length e in omega (arith, n))
sole_wire (p ∷ ps) w e = ap (λ (ws : List ℕ). slice_index_or ws 0 0) e

abbrev SolvedClause : List (Linked Plain) → Type 0
SolvedClause ls = (tasks : ℕ → Task) (lanes : List Lane) (begun : List (Node Plain)) → AllBehind plain_view tasks ls → AreMeeting lanes ls → length lanes ≤ 2 → IsUpward [] (parts_of plain_view tasks (nodes_of ls)) → AllFare plain_view begun (nodes_of ls)
    → (world : ℕ → Wire) × Moment plain_view tasks (nodes_of ls) lanes world × MeetsSolution plain_view tasks begun (nodes_of ls) world

module _ (count limit : ℕ) (lane : Lane) (a b c : Linked Plain) (h : IsChain (chain_tasks count limit) lane (a ∷ b ∷ c ∷ [])) (e : AllEnded (a ∷ b ∷ c ∷ [])) (s : AllSound (a ∷ b ∷ c ∷ [])) where
  abbrev tasks : ℕ → Task
  tasks = chain_tasks count limit

  all_behind : AllBehind plain_view tasks (a ∷ b ∷ c ∷ [])
  all_behind = (h.behind 0 a (omega arith), (h.behind 1 a (omega arith), (h.behind 2 a (omega arith), tt)))

  in_a : (w : ℕ) → IsIn w (in_wires_of (node_of a)) → ⊥
  in_a w i = subst (λ (ws : List ℕ). IsIn w ws) (h.ins 0 a (omega arith)) i

  in_b : (w : ℕ) → IsIn w (in_wires_of (node_of b)) → IsIn w (0 ∷ [])
  in_b w i = subst (λ (ws : List ℕ). IsIn w ws) (h.ins 1 a (omega arith)) i

  in_c : (w : ℕ) → IsIn w (in_wires_of (node_of c)) → IsIn w (1 ∷ [])
  in_c w i = subst (λ (ws : List ℕ). IsIn w ws) (h.ins 2 a (omega arith)) i

  out_a : (w : ℕ) → IsIn w (out_wires_of (node_of a)) → IsIn w (0 ∷ [])
  out_a w i = subst (λ (ws : List ℕ). IsIn w ws) (h.outs 0 a (omega arith)) i

  out_b : (w : ℕ) → IsIn w (out_wires_of (node_of b)) → IsIn w (1 ∷ [])
  out_b w i = subst (λ (ws : List ℕ). IsIn w ws) (h.outs 1 a (omega arith)) i

  out_c : (w : ℕ) → IsIn w (out_wires_of (node_of c)) → ⊥
  out_c w i = subst (λ (ws : List ℕ). IsIn w ws) (h.outs 2 a (omega arith)) i

  a_out : (w : ℕ) → IsIn w (out_wires_of (node_of a)) → IsOutOf (b ∷ c ∷ []) w → ⊥
  a_out w o (inl i) = apart_0_1 w (out_a w o) (out_b w i)
  a_out w o (inr (inl i)) = out_c w i
  a_out w o (inr (inr x)) = x

  b_out : (w : ℕ) → IsIn w (out_wires_of (node_of b)) → IsOutOf (c ∷ []) w → ⊥
  b_out w o (inl i) = out_c w i
  b_out w o (inr x) = x

  b_in : (w : ℕ) → IsIn w (in_wires_of (node_of b)) → IsInOf (c ∷ []) w → ⊥
  b_in w o (inl i) = apart_0_1 w (in_b w o) (in_c w i)
  b_in w o (inr x) = x

  meeting : AreMeeting (lane ∷ lane ∷ []) (a ∷ b ∷ c ∷ [])
  meeting = (
    e.each 0 a (omega arith),
    h.lanes 0 a (omega arith),
    a_out,
    λ w i r. in_a w i,
    (
      e.each 1 a (omega arith),
      h.lanes 1 a (omega arith),
      b_out,
      b_in,
      (e.each 2 a (omega arith), h.lanes 2 a (omega arith), λ w o r. r, λ w i r. r, tt),
    ),
  )

  behind_one : (w x : ℕ) (ws : List ℕ) → IsIn w (x ∷ []) → IsIn w (x ∷ ws)
  behind_one w x ws (inl i) = inl i
  behind_one w x ws (inr i) = absurd i

  upward : IsUpward [] (parts_of plain_view tasks (nodes_of (a ∷ b ∷ c ∷ [])))
  upward = (
    in_a,
    (
      λ w i. subst (λ (ws : List ℕ). IsIn w (ws ++ [])) (sym (h.outs 0 a (omega arith))) (in_b w i),
      (λ w i. subst (λ (ws : List ℕ). IsIn w (ws ++ (out_wires_of (node_of a) ++ []))) (sym (h.outs 1 a (omega arith))) (behind_one w 1 (out_wires_of (node_of a) ++ []) (in_c w i)), tt),
    ),
  )

  sound_at : (k : ℕ) (d : Node Plain) → k < length (nodes_of (a ∷ b ∷ c ∷ [])) → IsSound plain_view (slice_index_or (nodes_of (a ∷ b ∷ c ∷ [])) k d)
  sound_at zero d lt = s.each 0 a (omega arith)
  sound_at (suc zero) d lt = s.each 1 a (omega arith)
  sound_at (suc (suc zero)) d lt = s.each 2 a (omega arith)
  sound_at (suc (suc (suc k))) d lt = absurd (omega arith)

  no_outs : outputs_of (node_of c) ≡ 0
  no_outs = sym (count_map (λ p. p.wire) (node_of c).outs.items) ∙ ap length (h.outs 2 a (omega arith))

  one_in : length (node_of c).ins.items ≡ 1
  one_in = sym (count_map (λ p. p.wire) (node_of c).ins.items) ∙ ap length (h.ins 2 a (omega arith))

  fed_three : SolvedClause (a ∷ b ∷ c ∷ []) → WasFed count limit (machine_of (node_of c))
  fed_three solved =
      let all = solved tasks (lane ∷ lane ∷ []) (nodes_of (a ∷ b ∷ c ∷ [])) all_behind meeting (omega arith) upward (λ k d lt. fault_self _) in
      let z = all.2.settled sound_at 2 (node_of a) (omega arith) (e.each 2 a (omega arith)).node no_outs in
      let one = one_in in
      let wire : (in_at (node_of c).ins.items 0).wire ≡ 1 = sole_wire (node_of c).ins.items 1 (h.ins 2 a (omega arith)) in
      record {
        past = z.past;
        stands = z.machine;
        task_is = z.task_is;
        got = z.got 0 (omega (arith, one)) ∙ (ap (λ (w : ℕ). solve (parts_of plain_view tasks (nodes_of (a ∷ b ∷ c ∷ []))) w) wire
            ∙ solve_is count limit (plain_view (node_of a).machine).in_lanes (plain_view (node_of a).machine).out_lanes (plain_view (node_of b).machine).in_lanes (plain_view (node_of b).machine).out_lanes (plain_view (node_of c).machine).in_lanes (plain_view (node_of c).machine).out_lanes (in_wires_of (node_of a)) (out_wires_of (node_of a)) (in_wires_of (node_of b)) (out_wires_of (node_of b)) (in_wires_of (node_of c)) (out_wires_of (node_of c))
            (h.ins 0 a (omega arith)) (h.outs 0 a (omega arith)) (h.ins 1 a (omega arith)) (h.outs 1 a (omega arith)) (h.ins 2 a (omega arith)) (h.outs 2 a (omega arith)));
      }

-- the sink was fed the first packets and the end
pub sink_was_fed : (count limit : ℕ) (lane : Lane) (ls : List (Linked Plain)) (machines : List Plain) → IsChain (chain_tasks count limit) lane ls → AllEnded ls → AllSound ls → SolvedClause ls
    → ((k : ℕ) (d : Linked Plain) (x : Plain) → k < length ls → slice_index_or machines k x ≡ machine_of (node_of (slice_index_or ls k d))) → (x : Plain) → WasFed count limit (slice_index_or machines 2 x)
sink_was_fed count limit lane [] machines h e s c m x = absurd (let n : 0 ≡ 3 = h.three in omega (arith, n))
sink_was_fed count limit lane (a ∷ []) machines h e s c m x = absurd (let n : 1 ≡ 3 = h.three in omega (arith, n))
sink_was_fed count limit lane (a ∷ b ∷ []) machines h e s c m x = absurd (let n : 2 ≡ 3 = h.three in omega (arith, n))
sink_was_fed count limit lane (a ∷ b ∷ c ∷ []) machines h e s f m x = subst (λ (y : Plain). WasFed count limit y) (sym (m 2 a x (omega arith))) (fed_three count limit lane a b c h e s f)
sink_was_fed count limit lane (a ∷ b ∷ c ∷ l ∷ ls) machines h e s f m x = absurd (let n = h.three in omega (arith, n))
