-- The network whose sources are taken as far as the units that they have tried.
use Rattle.std.proofs.Common.{◌≡◌, ℕ, zero, suc, ◌<◌, inl, inr, Bool, true, false, ◌||◌, List, [], ◌∷◌, ◌++◌, map, length, take, nat_le, cond, slice_index_or, refl, ap, sym, ◌∙◌, subst, arith, Option, None, Some, IsSome, is_some}
use mathlib.Core.List.{IsPrefix}
use Rattle.ff_stream.specs.declared.item.Item.{Item}
use Rattle.ff_stream.specs.declared.item.Lane.{Lane}
use Rattle.ff_stream.specs.Stream.{Mark, still_open, whole, LiesBelow, opened, opened_mark}
use Rattle.ff_stream.specs.laws.Order.{below_self, below_trans, closed_below, opened_below, stream_at-opened}
use Rattle.ff_stream.specs.Ports.{nothing, stream_at, AllBelow, IsClosed}
use Rattle.ff_net.specs.declared.ports.InPort.{InPort}
use Rattle.ff_net.specs.declared.node.Node.{Node}
use Rattle.ff_net.specs.Ways.{Flow, lane_at, IsValidOn, AreValid}
use Rattle.ff_net.specs.Pasts.{Past, Task, Units, IsIn, due_by}
use Rattle.ff_net.specs.laws.Laws.{Laws}
use Rattle.ff_net.specs.laws.Ports.{in_at, in_wires}
use Rattle.ff_net.specs.laws.Worlds.{Wire}
use Rattle.ff_net.specs.laws.Nodes.{NodeStands, IsSound, IsDone, HaveLanes, in_wires_of, out_wires_of}
use Rattle.ff_net.specs.Nets.{Part, IsUpward, solve}
use Rattle.ff_net.specs.laws.Serial.{Moment, granted_part_of, granted_parts_of, part_of, parts_of}
use Rattle.ff_net.specs.laws.Views.{View}
use Rattle.ff_net.proofs.Flows.{given_below, all_valid_below}
use Rattle.ff_net.proofs.Induction.{Placed, parts, IsInputOf, IsLawful, AreLawful, AreFaultless, IsNet, exact_solve}
use Rattle.ff_net.proofs.Whole.{at_port, bool_sound, lawful_by}

-- whoever isn't told of the breaks gets no more
all_opened_below : (ss : List Flow) → AllBelow (map opened ss) ss
all_opened_below ss p = subst (λ (s : Flow). LiesBelow s (stream_at ss p)) (sym (stream_at-opened ss p)) (opened_below (stream_at ss p))

in_place : (ins : List InPort) (w : ℕ) → IsIn w (in_wires ins) → (p : ℕ) × (p < length ins) × ((in_at ins p).wire ≡ w)
in_place [] w i = absurd i
in_place (o ∷ os) w (inl e) = (zero, omega arith, e)
in_place (o ∷ os) w (inr i) = let r = in_place os w i in (suc r.0, (let lt : r.0 < length os = r.1 in omega arith), r.2)

module _ {M : Type 0} (view : M → View) (laws : (m : M) → Laws (view m)) where
  abbrev one : Task → Node M → Placed
  one task node = record { part = granted_part_of view task node; faulty = node.refused || is_some (view node.machine).fault }

  abbrev all : (ℕ → Task) → List (Node M) → List Placed
  all tasks [] = []
  all tasks (n ∷ ns) = one (tasks zero) n ∷ all (λ k. tasks (suc k)) ns

  parts_are : (tasks : ℕ → Task) (nodes : List (Node M)) → parts (all tasks nodes) ≡ granted_parts_of view tasks nodes
  parts_are tasks [] = refl
  parts_are tasks (n ∷ ns) = ap (λ (ps : List Part). granted_part_of view (tasks zero) n ∷ ps) (parts_are (λ k. tasks (suc k)) ns)

  upward : (ws : List ℕ) (tasks : ℕ → Task) (nodes : List (Node M)) → IsUpward ws (parts_of view tasks nodes) → IsUpward ws (parts (all tasks nodes))
  upward ws tasks [] up = tt
  upward ws tasks (n ∷ ns) up = (up.0, upward (out_wires_of n ++ ws) (λ k. tasks (suc k)) ns up.1)

  faultless : (nodes : List (Node M)) (tasks : ℕ → Task) → ((k : ℕ) (d : Node M) → k < length nodes → IsSound view (slice_index_or nodes k d)) → AreFaultless (all tasks nodes)
  faultless [] tasks each = tt
  faultless (n ∷ ns) tasks each = (bool_sound n.refused (view n.machine).fault (each zero n (omega arith)), faultless ns (λ k. tasks (suc k)) (λ k d lt. each (suc k) d (omega arith)))

  is_input : (nodes : List (Node M)) (tasks : ℕ → Task) (k : ℕ) (d : Node M) (w : ℕ) → k < length nodes → IsIn w (in_wires_of (slice_index_or nodes k d)) → IsInputOf (all tasks nodes) w
  is_input [] tasks k d w lt i = absurd (omega arith)
  is_input (n ∷ ns) tasks zero d w lt i = inl i
  is_input (n ∷ ns) tasks (suc k) d w lt i = inr (is_input ns (λ j. tasks (suc j)) k d w (omega arith) i)

  module _ (lanes : List Lane) (world : ℕ → Wire) (ordered : (w : ℕ) → LiesBelow (world w).taken (world w).sent) (valid_sent : (w : ℕ) → IsValidOn (lane_at lanes w) (world w).sent) where
    lawful_at : (node : Node M) (past : Past) → HaveLanes (in_wires_of node) (view node.machine).in_lanes lanes → HaveLanes (out_wires_of node) (view node.machine).out_lanes lanes → NodeStands view node world past
        → IsLawful lanes world (granted_part_of view past.task node) (node.refused || is_some (view node.machine).fault)
    lawful_at node past shaped_ins shaped_outs was = pick past.task.source refl
      where
        n : ℕ
        n = (view node.machine).tried

        mono : (rs ss : List Flow) → AreValid (view node.machine).in_lanes rs → AreValid (view node.machine).in_lanes ss → AllBelow rs ss → AllBelow (past.task.means rs) (past.task.means ss)
        mono = (laws node.machine).monotone past was.machine

        calm : (rs : List Flow) → AreValid (view node.machine).in_lanes rs → AllBelow (map opened (past.task.means rs)) (past.task.means (map opened rs))
        calm = (laws node.machine).calm past was.machine

        keeps : (ss : List Flow) → AreValid (view node.machine).in_lanes ss → AreValid (view node.machine).out_lanes (past.task.means ss)
        keeps = (laws node.machine).keeps past was.machine

        pick : (o : Option Units) → past.task.source ≡ o → IsLawful lanes world (record (part_of view past.task node) { means = λ ss. due_by o n (past.task.means ss) }) (node.refused || is_some (view node.machine).fault)
        pick None e = lawful_by view laws lanes world ordered valid_sent node past past.task.means mono calm keeps
            (given_below past ((laws node.machine).units_below past was.machine) ((laws node.machine).given past was.machine)) shaped_ins shaped_outs was
        pick (Some units) e = lawful_by view laws lanes world ordered valid_sent node past (λ ss. units.upto n)
            (λ rs ss vr vs b p. below_self (stream_at (units.upto n) p))
            (λ rs v. all_opened_below (units.upto n))
            (λ ss v. all_valid_below (view node.machine).out_lanes (units.upto n) (past.task.means past.got) ((laws node.machine).units_below past was.machine units e n)
            (keeps past.got ((laws node.machine).valid past was.machine)))
            (subst (λ (o : Option Units). AllBelow past.gave (due_by o n (past.task.means past.got))) e ((laws node.machine).tried_units past was.machine (is_source e)))
            shaped_ins shaped_outs was
          where
            some : (o : Option ℕ) → is_some o ≡ true → IsSome o
            some None f = cc
            some (Some k) f = refl

            is_source : past.task.source ≡ Some units → IsSome (view node.machine).source
            is_source e = some (view node.machine).source (sym ((laws node.machine).is_source past was.machine) ∙ ap (λ (o : Option Units). is_some o) e)

    are_lawful : (nodes : List (Node M)) (tasks : ℕ → Task) → ((k : ℕ) (d : Node M) → k < length nodes → HaveLanes (in_wires_of (slice_index_or nodes k d)) (view (slice_index_or nodes k d).machine).in_lanes lanes) → ((k : ℕ) (d : Node M) → k < length nodes → HaveLanes (out_wires_of (slice_index_or nodes k d)) (view (slice_index_or nodes k d).machine).out_lanes lanes) → ((k : ℕ) (d : Node M) → k < length nodes → (past : Past) × NodeStands view (slice_index_or nodes k d) world past × (past.task ≡ tasks k)) → AreLawful lanes world (all tasks nodes)
    are_lawful [] tasks shaped_ins shaped_outs each = tt
    are_lawful (m ∷ ns) tasks shaped_ins shaped_outs each =
        let mine = each zero m (omega arith) in (
          subst (λ (t : Task). IsLawful lanes world (granted_part_of view t m) (m.refused || is_some (view m.machine).fault)) mine.2 (lawful_at m mine.0 (shaped_ins zero m (omega arith)) (shaped_outs zero m (omega arith)) mine.1),
          are_lawful ns (λ k. tasks (suc k)) (λ k d lt. shaped_ins (suc k) d (omega arith)) (λ k d lt. shaped_outs (suc k) d (omega arith)) (λ k d lt. each (suc k) d (omega arith)),
        )

  module _ (nodes : List (Node M)) (lanes : List Lane) (world : ℕ → Wire) (tasks : ℕ → Task) (net : Moment view tasks nodes lanes world) (up : IsUpward [] (parts_of view tasks nodes)) where
    net_of : IsNet lanes (all tasks nodes) world
    net_of = record {
      lawful = are_lawful lanes world net.ordered net.valid nodes tasks net.ins net.outs net.each;
      upward = upward [] tasks nodes up;
      ordered = net.ordered;
      valid = net.valid;
    }

    -- what a node without outputs was fed is both solutions
    pub granted_solution : ((k : ℕ) (d : Node M) → k < length nodes → IsSound view (slice_index_or nodes k d)) → (k : ℕ) (d : Node M) → k < length nodes → IsDone (slice_index_or nodes k d) → length (slice_index_or nodes k d).outs.items ≡ 0
        → (w : ℕ) → IsIn w (in_wires_of (slice_index_or nodes k d)) → solve (granted_parts_of view tasks nodes) w ≡ solve (parts_of view tasks nodes) w
    granted_solution sound k d lt done sink w i =
        let place = in_place (slice_index_or nodes k d).ins.items w i in
        let at = at_port view laws nodes lanes world tasks net up sound k d lt done sink place.0 place.1 in
        let there : (in_at (slice_index_or nodes k d).ins.items place.0).wire ≡ w = place.2 in
        let taken : (world w).taken ≡ solve (parts_of view tasks nodes) w = subst (λ (v : ℕ). (world v).taken ≡ solve (parts_of view tasks nodes) v) there at.0 in
        let mark : (world w).taken.mark ≡ whole = subst (λ (v : ℕ). (world v).taken.mark ≡ whole) there at.1 in
        let closed : IsClosed (world w).taken = λ e. let no_end : whole ≡ still_open = sym mark ∙ e in cc (no_end) in
        let input = is_input nodes tasks k d w lt i in
        let below : LiesBelow (world w).taken (solve (parts (all tasks nodes)) w) = below_trans (world w).taken (world w).sent (solve (parts (all tasks nodes)) w) (net.ordered w) (exact_solve lanes (all tasks nodes) world w net_of (faultless nodes tasks sound) (inl input)) in
        let granted : (world w).taken ≡ solve (granted_parts_of view tasks nodes) w = closed_below (world w).taken (solve (parts (all tasks nodes)) w) below closed ∙ ap (λ (ps : List Part). solve ps w) (parts_are tasks nodes) in
        sym granted ∙ taken
