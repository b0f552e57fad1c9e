-- Where nothing moved.
use Rattle.std.proofs.Common.{◌≡◌, ℕ, zero, suc, ◌<◌, ◌⊎◌, inl, inr, Bool, true, false, List, [], ◌∷◌, length, refl, ap, sym, ◌∙◌, subst, arith, Option, None, Some, is_some}
use Rattle.ff_stream.specs.declared.item.Item.{Item}
use Rattle.ff_stream.specs.Stream.{LiesBelow}
use Rattle.ff_stream.specs.Items.{with_item}
use Rattle.ff_stream.specs.laws.Order.{below_both, with_item_above}
use Rattle.ff_stream.specs.Ports.{stream_at, IsClosed}
use Rattle.ff_net.specs.declared.node.Node.{Node}
use Rattle.ff_net.specs.declared.ports.InPort.{InPort}
use Rattle.ff_net.specs.declared.ports.OutPort.{OutPort}
use Rattle.ff_net.specs.declared.wires.Wires.{Wires}
use Rattle.ff_net.specs.Ways.{Flow}
use Rattle.ff_net.specs.Pasts.{Past, due}
use Rattle.ff_net.specs.laws.Laws.{OutputsClose, NoMatter, Laws}
use Rattle.ff_net.specs.laws.Ports.{in_at, out_at, AreDone, AreFinished, SomeHeld, NoneHeld}
use Rattle.ff_net.specs.laws.Worlds.{Wire, IsFull, IsEmpty}
use Rattle.ff_net.specs.laws.Nodes.{HeldIs, IsSound, IsSame, IsDone, NodeStands}
use Rattle.ff_net.specs.laws.Steps.{IsDue, Rests}
use Rattle.ff_net.specs.laws.Turns.{Waits, with_fault, with_items, held_back, for_items, IsRefused, full, empty, choked, IsIdle}
use Rattle.ff_net.specs.laws.Views.{View}
use Rattle.ff_net.proofs.Flows.{due_meant, none_is}
use Rattle.ff_net.proofs.Matters.{all_close}
use Rattle.ff_net.proofs.Moments.{with_item_new}
use Rattle.ff_net.proofs.Changes.{true_not_false, none_held, busy_goes_on}

pub find_busy : (ports : List OutPort) → AreDone ports ⊎ ((q : ℕ) × (q < length ports) × ((out_at ports q).done ≡ false))
find_busy [] = inl (λ q lt. absurd (omega arith))
find_busy (x ∷ xs) = pick x.done refl (find_busy xs)
  where
    pick : (b : Bool) → x.done ≡ b → AreDone xs ⊎ ((q : ℕ) × (q < length xs) × ((out_at xs q).done ≡ false)) → AreDone (x ∷ xs) ⊎ ((q : ℕ) × (q < length (x ∷ xs)) × ((out_at (x ∷ xs) q).done ≡ false))
    pick false e rest = inr (zero, omega arith, e)
    pick true e (inl all) = inl (λ q lt. each q lt)
      where
        each : (q : ℕ) → q < length (x ∷ xs) → (out_at (x ∷ xs) q).done ≡ true
        each zero lt = e
        each (suc q) lt = all q (omega arith)
    pick true e (inr b) = inr (suc b.0, (let lt : b.0 < length xs = b.1 in omega arith), b.2)

find_busy_in : (ports : List InPort) → ((p : ℕ) → p < length ports → (in_at ports p).done ≡ true) ⊎ ((q : ℕ) × (q < length ports) × ((in_at ports q).done ≡ false))
find_busy_in [] = inl (λ q lt. absurd (omega arith))
find_busy_in (x ∷ xs) = pick x.done refl (find_busy_in xs)
  where
    pick : (b : Bool) → x.done ≡ b → ((p : ℕ) → p < length xs → (in_at xs p).done ≡ true) ⊎ ((q : ℕ) × (q < length xs) × ((in_at xs q).done ≡ false)) → ((p : ℕ) → p < length (x ∷ xs) → (in_at (x ∷ xs) p).done ≡ true) ⊎ ((q : ℕ) × (q < length (x ∷ xs)) × ((in_at (x ∷ xs) q).done ≡ false))
    pick false e rest = inr (zero, omega arith, e)
    pick true e (inl all) = inl (λ q lt. each q lt)
      where
        each : (q : ℕ) → q < length (x ∷ xs) → (in_at (x ∷ xs) q).done ≡ true
        each zero lt = e
        each (suc q) lt = all q (omega arith)
    pick true e (inr b) = inr (suc b.0, (let lt : b.0 < length xs = b.1 in omega arith), b.2)

some_item : (o : Option Item) → is_some o ≡ true → (x : Item) × (o ≡ Some x)
some_item None e = absurd (true_not_false (sym e))
some_item (Some x) e = (x, refl)

pub waits_same : {M : Type 0} (view : M → View) (may_take : Bool) (node node' : Node M) (wires : Wires) → IsSame node node' → Waits view may_take node wires → Waits view may_take node' wires
waits_same view may_take node node' wires same (with_fault f h) = with_fault (λ ok. f (sym same.refused ∙ ok.0, ap (λ m. (view m).fault) (sym same.machine) ∙ ok.1)) (subst (λ (os : List OutPort). (q : ℕ) → q < length os → (out_at os q).done ≡ false → IsFull wires (out_at os q).wire) (sym same.outs) h)
waits_same view may_take node node' wires same (with_items ok s h) = with_items (same.refused ∙ ok.0, ap (λ m. (view m).fault) same.machine ∙ ok.1) (subst (λ (os : List OutPort). SomeHeld os) (sym same.outs) s) (subst (λ (os : List OutPort). (q : ℕ) → q < length os → (out_at os q).done ≡ false → is_some (out_at os q).held ≡ true → IsFull wires (out_at os q).wire) (sym same.outs) h)
waits_same view may_take node node' wires same (for_items ok n h) = for_items (same.refused ∙ ok.0, ap (λ m. (view m).fault) same.machine ∙ ok.1) (subst (λ (os : List OutPort). NoneHeld os) (sym same.outs) n) (subst (λ (os : List InPort). (q : ℕ) → q < length os → (in_at os q).done ≡ false → IsEmpty wires (in_at os q).wire) (sym same.ins) h)
waits_same view may_take node node' wires same (held_back ok n kept) = held_back (same.refused ∙ ok.0, ap (λ m. (view m).fault) same.machine ∙ ok.1) (subst (λ (os : List OutPort). NoneHeld os) (sym same.outs) n) kept

-- only the machine was asked for what it has to tell
pub waits_told : {M : Type 0} (view : M → View) (may_take : Bool) (node node' : Node M) (wires : Wires) → node'.outs.items ≡ node.outs.items → node'.ins.items ≡ node.ins.items → IsSound view node → IsSound view node' → Waits view may_take node wires → Waits view may_take node' wires
waits_told view may_take node node' wires outs ins was ok (with_fault f h) = absurd (f was)
waits_told view may_take node node' wires outs ins was ok (with_items old s h) = with_items ok (subst (λ (os : List OutPort). SomeHeld os) (sym outs) s) (subst (λ (os : List OutPort). (q : ℕ) → q < length os → (out_at os q).done ≡ false → is_some (out_at os q).held ≡ true → IsFull wires (out_at os q).wire) (sym outs) h)
waits_told view may_take node node' wires outs ins was ok (for_items old n h) = for_items ok (subst (λ (os : List OutPort). NoneHeld os) (sym outs) n) (subst (λ (os : List InPort). (q : ℕ) → q < length os → (in_at os q).done ≡ false → IsEmpty wires (in_at os q).wire) (sym ins) h)
waits_told view may_take node node' wires outs ins was ok (held_back old n kept) = held_back ok (subst (λ (os : List OutPort). NoneHeld os) (sym outs) n) kept

module _ {M : Type 0} (view : M → View) (laws : (m : M) → Laws (view m))
    (before node : Node M) (wires : Wires) (world : ℕ → Wire) (past : Past) (was : NodeStands view node world past) (may_take : Bool) (rests : Rests view may_take before node world past)
    (ins_count : length node.ins.items ≡ length (view node.machine).in_lanes) (outs_count : length node.outs.items ≡ length (view node.machine).out_lanes)
    (faulty : (IsSound view node → ⊥) → (p : ℕ) → p < length node.ins.items → (in_at node.ins.items p).done ≡ true) (told : AreFinished node.ins.items → (node.quiet ≡ true) ⊎ (node.refused ≡ true)) (not_done : IsDone node → ⊥) where
  -- an output that holds an item has one due
  held_due : (q : ℕ) → q < length node.outs.items → (out_at node.outs.items q).done ≡ false → is_some (out_at node.outs.items q).held ≡ true → IsDue view node world past q
  held_due q lt busy some = record {
    there = lt;
    goes_on = busy;
    unsent = λ ok e.
        let o = was.outs q lt in
        let sent : Flow = (world (out_at node.outs.items q).wire).sent in
        let x = some_item (out_at node.outs.items q).held some in
        let gave : with_item sent x.0 ≡ stream_at past.gave q = subst (λ (h : Option Item). HeldIs h sent (stream_at past.gave q)) x.1 (o.held busy) in
        let below : LiesBelow (with_item sent x.0) sent = subst (λ (s : Flow). LiesBelow s sent) (sym gave) (subst (λ (s : Flow). LiesBelow (stream_at past.gave q) s) (sym e) ((laws node.machine).given past was.machine q)) in
        with_item_new sent x.0 (o.unclosed busy) (below_both (with_item sent x.0) sent below (with_item_above sent x.0 (o.unclosed busy)));
  }

  -- a node that is no source, whose inputs are all finished and that holds nothing, has only outputs that are done
  stuck : IsSound view node → NoneHeld node.outs.items → ((p : ℕ) → p < length node.ins.items → (in_at node.ins.items p).done ≡ true) → (view node.machine).source ≡ None → (q : ℕ) → q < length node.outs.items → (out_at node.outs.items q).done ≡ false → ⊥
  stuck ok none ins no_source q lt busy = closes (all_close (view node.machine).in_lanes past (length (view node.machine).out_lanes) ((laws node.machine).valid past was.machine) ((laws node.machine).monotone past was.machine) ((laws node.machine).settles past was.machine no_source) (λ p plt. over p (subst (λ (n : ℕ). p < n) (sym ins_count) plt)))
    where
      closes : OutputsClose (length (view node.machine).out_lanes) past → ⊥
      closes c =
          let meant : due past ≡ past.task.means past.got = due_meant past (none_is past.task.source ((laws node.machine).is_source past was.machine ∙ ap (λ (o : Option ℕ). is_some o) no_source)) in
          let sent : (world (out_at node.outs.items q).wire).sent ≡ stream_at (past.task.means past.got) q = rests.none_due ok q lt busy (none q lt busy) ∙ ap (λ (ss : List Flow). stream_at ss q) meant in
          c q (subst (λ (n : ℕ). q < n) outs_count lt) (busy_goes_on view node world past q was busy) (ap (λ (s : Flow). s.mark) (sym sent) ∙ (was.outs q lt).unclosed busy)

      over : (p : ℕ) → p < length node.ins.items → IsClosed (stream_at past.got p) ⊎ NoMatter (view node.machine).in_lanes (length (view node.machine).out_lanes) past p
      over p plt =
          let i = was.ins p plt in
          elim (i.reason (ins p plt) ok) [
            | inl c ↦ inl (subst (λ (s : Flow). IsClosed s) (sym (i.exact ok.0)) c)
            | inr may ↦ elim (may.1) [
              | inl h ↦ inr (subst (λ (n : ℕ). NoMatter (view node.machine).in_lanes n past p) outs_count h)
              | inr d ↦ absurd (true_not_false (sym (d q lt) ∙ busy))
            ]
          ]

  room : Waits view may_take node wires → (q : ℕ) → IsDue view node world past q → IsFull wires (out_at node.outs.items q).wire
  room (with_fault f h) q d = h q d.there d.goes_on
  room (with_items ok s h) q d = pick (is_some (out_at node.outs.items q).held) refl
    where
      pick : (b : Bool) → is_some (out_at node.outs.items q).held ≡ b → IsFull wires (out_at node.outs.items q).wire
      pick true e = h q d.there d.goes_on e
      pick false e = absurd (d.unsent ok (rests.none_due ok q d.there d.goes_on (none_held (out_at node.outs.items q).held e)))
  room (held_back ok n kept) q d = absurd (d.unsent ok (rests.none_due ok q d.there d.goes_on (n q d.there d.goes_on)))
  room (for_items ok n h) q d = absurd (d.unsent ok (rests.none_due ok q d.there d.goes_on (n q d.there d.goes_on)))

  item : Waits view may_take node wires → may_take ≡ true → ((q : ℕ) → IsDue view node world past q → ⊥) → (p : ℕ) → p < length node.ins.items → (in_at node.ins.items p).done ≡ false → IsEmpty wires (in_at node.ins.items p).wire
  item (with_fault f h) may none p lt busy = absurd (true_not_false (sym (faulty f p lt) ∙ busy))
  item (with_items ok s h) may none p lt busy = absurd (none s.place (held_due s.place s.there s.goes_on s.held))
  item (held_back ok n kept) may none p lt busy = absurd (true_not_false (sym may ∙ kept))
  item (for_items ok n h) may none p lt busy = h p lt busy

  refusal : Waits view may_take node wires → may_take ≡ true → IsRefused view before node wires
  refusal (with_fault f h) may = elim (find_busy node.outs.items) [
    | inl all ↦ absurd (not_done (record { ins = faulty f; outs = all; told = told (faulty f) }))
    | inr b ↦ full b.0 b.1 (h b.0 b.1 b.2)
  ]
  refusal (with_items ok s h) may = full s.place s.there (h s.place s.there s.goes_on s.held)
  refusal (held_back ok n kept) may = absurd (true_not_false (sym may ∙ kept))
  refusal (for_items ok n h) may = elim (find_busy_in node.ins.items) [
    | inl ins ↦ elim (find_busy node.outs.items) [
      | inl all ↦ absurd (not_done (record { ins = ins; outs = all; told = told ins }))
      | inr b ↦ elim (rests.ungranted may ok n b.0 b.1 b.2) [ inl none ↦ absurd (stuck ok n ins none b.0 b.1 b.2) | inr c ↦ choked c.0 c.1 c.2 ]
    ]
    | inr b ↦ empty b.0 b.1 (h b.0 b.1 b.2)
  ]

  pub idle_of : Waits view may_take node wires → IsIdle view may_take before node wires world past
  idle_of w = record { no_room = room w; no_item = item w; refused = refusal w }
