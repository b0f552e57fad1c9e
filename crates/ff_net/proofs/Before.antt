-- A node below which none has a fault.
use Rattle.std.proofs.Common.{◌≡◌, ℕ, zero, suc, ◌<◌, ◌≤◌, inl, inr, List, [], ◌∷◌, ◌++◌, length, map, slice_index_or, refl, ap, sym, subst, arith, Some}
use Rattle.ff_stream.specs.declared.item.Lane.{Lane}
use Rattle.ff_stream.specs.Stream.{LiesBelow}
use Rattle.ff_stream.specs.laws.Order.{below_trans}
use Rattle.ff_stream.specs.Ports.{stream_at, AllBelow, nothing}
use Rattle.ff_net.specs.declared.fault.Fault.{Fault}
use Rattle.ff_net.specs.declared.node.Node.{Node}
use Rattle.ff_net.specs.Ways.{Flow, lane_at, IsValidOn, AreValid}
use Rattle.ff_net.specs.Pasts.{Task, IsIn}
use Rattle.ff_net.specs.laws.Laws.{IsOfInputs, Laws}
use Rattle.ff_net.specs.laws.Ports.{in_at}
use Rattle.ff_net.specs.laws.Worlds.{Wire}
use Rattle.ff_net.specs.laws.Nodes.{IsSound, in_wires_of, out_wires_of}
use Rattle.ff_net.specs.Nets.{Part, IsUpward, solve}
use Rattle.ff_net.specs.laws.Serial.{Moment, parts_of}
use Rattle.ff_net.specs.laws.Theorem.{AllFare, MeetsSolution}
use Rattle.ff_net.specs.laws.Views.{View}
use Rattle.ff_net.proofs.PortSteps.{in_wire_in}
use Rattle.ff_net.proofs.Queues.{nothing_valid_on}
use Rattle.ff_net.proofs.Induction.{Placed, parts, IsOutputOf, AreFaultless, IsNet, map_valid, solve_valid, exact_before}
use Rattle.ff_net.proofs.Granted.{granted_solution}
use Rattle.ff_net.proofs.Whole.{placed_of, all_placed, parts_are, net_of, all_in, fed_below, bool_sound, opened_below_solution, settled_of}

module _ {M : Type 0} (view : M → View) (laws : (m : M) → Laws (view m)) where
  abbrev placed : (ℕ → Task) → List (Node M) → List Placed
  placed tasks nodes = all_placed view laws tasks nodes

  abbrev one : Task → Node M → Placed
  one task node = placed_of view laws task node

  -- the parts of a list of nodes, at one of them
  record Split (tasks : ℕ → Task) (nodes : List (Node M)) (k : ℕ) (d : Node M) : Type 0 where
    below : List Placed
    above : List Placed
    is : placed tasks nodes ≡ below ++ one (tasks k) (slice_index_or nodes k d) ∷ above
    faultless : ((j : ℕ) (e : Node M) → j < k → IsSound view (slice_index_or nodes j e)) → AreFaultless below
    outs_below : (w : ℕ) → IsOutputOf below w → (j : ℕ) × (j < k) × ((e : Node M) → IsIn w (out_wires_of (slice_index_or nodes j e)))
    outs_above : (w : ℕ) → IsOutputOf (one (tasks k) (slice_index_or nodes k d) ∷ above) w → (j : ℕ) × (k ≤ j) × (j < length nodes) × ((e : Node M) → IsIn w (out_wires_of (slice_index_or nodes j e)))

  outs_at : (tasks : ℕ → Task) (nodes : List (Node M)) (w : ℕ) → IsOutputOf (placed tasks nodes) w → (j : ℕ) × (j < length nodes) × ((e : Node M) → IsIn w (out_wires_of (slice_index_or nodes j e)))
  outs_at tasks [] w i = absurd i
  outs_at tasks (n ∷ ns) w (inl i) = (zero, omega arith, λ e. i)
  outs_at tasks (n ∷ ns) w (inr i) = let r = outs_at (λ k. tasks (suc k)) ns w i in (suc r.0, (let lt : r.0 < length ns = r.1 in omega arith), r.2)

  split_at : (tasks : ℕ → Task) (nodes : List (Node M)) (k : ℕ) (d : Node M) → k < length nodes → Split tasks nodes k d
  split_at tasks [] k d lt = absurd (omega arith)
  split_at tasks (n ∷ ns) zero d lt = record {
    below = [];
    above = placed (λ k. tasks (suc k)) ns;
    is = refl;
    faultless = λ h. tt;
    outs_below = λ w i. absurd i;
    outs_above = λ w i. elim i [
      | inl a ↦ (zero, omega arith, lt, λ e. a)
      | inr b ↦ let r = outs_at (λ k. tasks (suc k)) ns w b in (suc r.0, omega arith, (let less : r.0 < length ns = r.1 in omega arith), r.2)
    ];
  }
  split_at tasks (n ∷ ns) (suc k) d lt =
      let r = split_at (λ j. tasks (suc j)) ns k d (omega arith) in record {
        below = one (tasks zero) n ∷ r.below;
        above = r.above;
        is = ap (λ (ps : List Placed). one (tasks zero) n ∷ ps) r.is;
        faultless = λ h. (bool_sound n.refused (view n.machine).fault (h zero n (omega arith)), r.faultless (λ j e less. h (suc j) e (omega arith)));
        outs_below = λ w i. elim i [
          | inl a ↦ (zero, omega arith, λ e. a)
          | inr b ↦ let x = r.outs_below w b in (suc x.0, (let less : x.0 < k = x.1 in omega arith), x.2)
        ];
        outs_above = λ w i. let x = r.outs_above w i in (suc x.0, (let le : k ≤ x.0 = x.1 in omega arith), (let less : x.0 < length ns = x.2 in omega arith), x.3);
      }

  module _ (nodes : List (Node M)) (lanes : List Lane) (world : ℕ → Wire) (tasks : ℕ → Task) (net : Moment view tasks nodes lanes world) (up : IsUpward [] (parts_of view tasks nodes))
      (k : ℕ) (d : Node M) (lt : k < length nodes) (sound : (j : ℕ) (e : Node M) → j < k → IsSound view (slice_index_or nodes j e)) where
    is_net : IsNet lanes (placed tasks nodes) world
    is_net = net_of view laws nodes lanes world tasks net up

    same_parts : parts (placed tasks nodes) ≡ parts_of view tasks nodes
    same_parts = parts_are view laws tasks nodes

    pub before_of : (w : ℕ) → IsIn w (in_wires_of (slice_index_or nodes k d)) → LiesBelow (world w).taken (solve (parts_of view tasks nodes) w)
    before_of w i =
        let s = split_at tasks nodes k d lt in
        let x = one (tasks k) (slice_index_or nodes k d) in
        let whole : IsNet lanes (s.below ++ x ∷ s.above) world = subst (λ (ps : List Placed). IsNet lanes ps world) s.is is_net in
        let once : (v : ℕ) → IsOutputOf s.below v → IsOutputOf (x ∷ s.above) v → ⊥ = λ v a b.
        let y = s.outs_below v a in
        let z = s.outs_above v b in
        let less : y.0 < k = y.1 in
        let le : k ≤ z.0 = z.1 in
        let same : y.0 ≡ z.0 = net.outs_apart y.0 z.0 v d (let in_range : y.0 < length nodes = omega (arith, less, lt) in in_range) z.2 (y.2 d) (z.3 d) in
        omega (arith, less, le, same) in
        subst (λ (ps : List Part). LiesBelow (world w).taken (solve ps w)) same_parts
        (subst (λ (ps : List Placed). LiesBelow (world w).taken (solve (parts ps) w)) (sym s.is) (exact_before lanes s.below s.above x world w whole (s.faultless sound) once i))

    pub cause_of : (c : Fault) → (view (slice_index_or nodes k d).machine).fault ≡ Some c → IsOfInputs c → (tasks k).cause (map (solve (parts_of view tasks nodes)) (in_wires_of (slice_index_or nodes k d))) ≡ Some c
    cause_of c e of_inputs =
        let node = slice_index_or nodes k d in
        let solution : ℕ → Flow = solve (parts_of view tasks nodes) in
        let mine = net.each k d lt in
        let below : AllBelow mine.0.got (map solution (in_wires_of node)) = all_in node.ins.items solution mine.0.got
        (λ p plt. let w = (in_at node.ins.items p).wire in below_trans (stream_at mine.0.got p) (world w).taken (solution w) (fed_below (stream_at mine.0.got p) (world w).taken ((mine.1.ins p plt).fed)) (before_of w (in_wire_in node.ins.items p w plt refl)))
        mine.1.beyond in
        let solution_valid : (w : ℕ) → IsValidOn (lane_at lanes w) (solution w) =
        λ w. subst (λ (ps : List Part). IsValidOn (lane_at lanes w) (solve ps w)) same_parts (solve_valid lanes world (λ v. nothing) (placed tasks nodes) is_net.lawful (λ v. nothing_valid_on (lane_at lanes v)) w) in
        let ok : AreValid (view node.machine).in_lanes (map solution (in_wires_of node)) = map_valid lanes solution (in_wires_of node) (view node.machine).in_lanes (net.ins k d lt).lanes_are solution_valid in
        let cause : mine.0.task.cause (map solution (in_wires_of node)) ≡ Some c = (laws node.machine).cause_stays mine.0 mine.1.machine mine.0.got (map solution (in_wires_of node)) c ((laws node.machine).valid mine.0 mine.1.machine) ok below ((laws node.machine).caused mine.0 c mine.1.machine e of_inputs) in
        subst (λ (t : Task). t.cause (map solution (in_wires_of node)) ≡ Some c) mine.2 cause

  -- the theorem
  pub meets_solution : (begun nodes : List (Node M)) (lanes : List Lane) (world : ℕ → Wire) (tasks : ℕ → Task) → Moment view tasks nodes lanes world → IsUpward [] (parts_of view tasks nodes) → AllFare view begun nodes → MeetsSolution view tasks begun nodes world
  meets_solution begun nodes lanes world tasks net up fares = record {
    below = λ k d w lt i. opened_below_solution view laws nodes lanes world tasks net up k d w lt i;
    before = λ k d lt sound w i. before_of nodes lanes world tasks net up k d lt sound w i;
    cause = λ k d lt sound c e of_inputs. cause_of nodes lanes world tasks net up k d lt sound c e of_inputs;
    settled = λ sound k d lt done sink. settled_of view laws nodes lanes world tasks net up sound k d lt done sink;
    granted = λ sound k d lt done sink w i. granted_solution view laws nodes lanes world tasks net up sound k d lt done sink w i;
    fares = fares;
  }

-- it holds of nodes that began before
pub meets_since : {M : Type 0} (view : M → View) (tasks : ℕ → Task) (first begun nodes : List (Node M)) (world : ℕ → Wire) → AllFare view first nodes → MeetsSolution view tasks begun nodes world → MeetsSolution view tasks first nodes world
meets_since view tasks first begun nodes world fares m = record { below = m.below; before = m.before; cause = m.cause; settled = m.settled; granted = m.granted; fares = fares }
