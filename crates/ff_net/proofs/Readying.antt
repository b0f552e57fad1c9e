-- What a node is ready for.
use Rattle.std.proofs.Common.{◌≡◌, ℕ, ◌<◌, ◌⊎◌, inl, inr, Bool, true, false, List, length, refl, ap, sym, ◌∙◌, subst, Option, None, Some, is_some, IsSome, slice_index_or}
use Rattle.ff_stream.specs.declared.item.Item.{Item}
use Rattle.ff_stream.specs.laws.Order.{closed_below}
use Rattle.ff_stream.specs.Ports.{stream_at}
use Rattle.ff_net.specs.declared.ports.OutPort.{OutPort}
use Rattle.ff_net.specs.declared.node.Node.{Node}
use Rattle.ff_net.specs.Ways.{Flow}
use Rattle.ff_net.specs.Pasts.{Past, due}
use Rattle.ff_net.specs.laws.Laws.{IsPending, Laws}
use Rattle.ff_net.specs.laws.Ports.{out_at, out_wires, SomeHeld, NoneHeld}
use Rattle.ff_net.specs.laws.Worlds.{Wire}
use Rattle.ff_net.specs.laws.Nodes.{HeldIs, IsSound, IsSame, NodeStands, out_wires_of}
use Rattle.ff_net.specs.laws.Logs.{WasChoked}
use Rattle.ff_net.specs.laws.Steps.{Readies, IsDue, Rests, Tells}
use Rattle.ff_sched.specs.laws.Passing.{Passing}
use Rattle.ff_net.proofs.Flows.{due_same}
use Rattle.ff_net.specs.laws.Views.{View}
use Rattle.ff_net.proofs.PortSteps.{out_wire_at}
use Rattle.ff_net.proofs.Changes.{true_not_false, busy_goes_on}

pub wire_kept : (old new : List OutPort) → out_wires new ≡ out_wires old → (q : ℕ) → (out_at new q).wire ≡ (out_at old q).wire
wire_kept old new e q = sym (out_wire_at new q) ∙ (ap (λ (ws : List ℕ). slice_index_or ws q 0) e ∙ out_wire_at old q)

-- where an output holds something, not none does
pub some_not_none : (ports : List OutPort) → SomeHeld ports → NoneHeld ports → ⊥
some_not_none ports s n =
    let none : (out_at ports s.place).held ≡ None = n s.place s.there s.goes_on in
    true_not_false (sym s.held ∙ ap (λ (h : Option Item). is_some h) none)

-- what was choked stays so where room alone changes
pub choked_still : (p q : Passing) (s room : ℕ) → WasChoked p s q → WasChoked p s (record q { spare = room })
choked_still p q s room c = record { same = ap (λ (r : Passing). record r { spare = room }) c.same; more = c.more; choked = c.choked }

module _ {M : Type 0} (view : M → View) where
  -- after the outputs were filled, none is due before where none holds anything
  pub none_before : (before filled : Node M) (held : Bool) (old new : ℕ → Wire) (past since : Past) → (IsSound view filled → IsSound view before) → length filled.outs.items ≡ length before.outs.items → out_wires_of filled ≡ out_wires_of before → ((q : ℕ) → (out_at filled.outs.items q).done ≡ (out_at before.outs.items q).done) → NoneHeld filled.outs.items
      → Readies view (λ q. q < length filled.outs.items) held filled old past new since → IsSound view filled → (q : ℕ) → IsDue view before old past q → ⊥
  none_before before filled held old new past since back count wires done none f ok q d =
      let lt : q < length filled.outs.items = subst (λ (n : ℕ). q < n) (sym count) d.there in
      let busy : (out_at filled.outs.items q).done ≡ false = done q ∙ d.goes_on in
      let given : (old (out_at filled.outs.items q).wire).sent ≡ stream_at (due past) q = f.none_due ok q lt busy (none q lt busy) in
      d.unsent (back ok) (subst (λ (w : ℕ). (old w).sent ≡ stream_at (due past) q) (wire_kept before.outs.items filled.outs.items wires q) given)

  -- an output that goes on and holds nothing is pending
  pub pending_here : (node : Node M) (world : ℕ → Wire) (past : Past) → NodeStands view node world past → length node.outs.items ≡ length (view node.machine).out_lanes → NoneHeld node.outs.items → (q : ℕ) → q < length node.outs.items → (out_at node.outs.items q).done ≡ false → IsPending (length (view node.machine).out_lanes) past q
  pending_here node world past was count none q lt busy =
      let o = was.outs q lt in
      let same : (world (out_at node.outs.items q).wire).sent ≡ stream_at past.gave q = subst (λ (h : Option Item). HeldIs h (world (out_at node.outs.items q).wire).sent (stream_at past.gave q)) (none q lt busy) (o.held busy) in record {
        there = subst (λ (n : ℕ). q < n) count lt;
        goes_on = busy_goes_on view node world past q was busy;
        unclosed = ap (λ (s : Flow). s.mark) (sym same) ∙ o.unclosed busy;
      }

  -- a pending output goes on
  pub pending_busy : (node : Node M) (world : ℕ → Wire) (past : Past) (n q : ℕ) → NodeStands view node world past → IsSound view node → length node.outs.items ≡ n → IsPending n past q → (q < length node.outs.items) × ((out_at node.outs.items q).done ≡ false)
  pending_busy node world past n q was ok count p =
      let lt : q < length node.outs.items = subst (λ (k : ℕ). q < k) (sym count) p.there in
      (lt, pick (out_at node.outs.items q).done refl lt)
    where
      pick : (b : Bool) → (out_at node.outs.items q).done ≡ b → q < length node.outs.items → b ≡ false
      pick false e lt = refl
      pick true e lt =
          let o = was.outs q lt in
          absurd (elim (o.done e) [
            | inl c ↦ c (ap (λ (s : Flow). s.mark) (closed_below (world (out_at node.outs.items q).wire).sent (stream_at past.gave q) (o.exact ok) c) ∙ p.unclosed)
            | inr t ↦ p.goes_on t.1
          ])

  pub rests_same : (may_take : Bool) (before node node' : Node M) (world : ℕ → Wire) (past : Past) → IsSame node node' → Rests view may_take before node world past → Rests view may_take before node' world past
  rests_same may_take before node node' world past same r =
      let back : IsSound view node' → IsSound view node = λ s. (sym same.refused ∙ s.0, ap (λ m. (view m).fault) (sym same.machine) ∙ s.1) in record {
        none_due = λ s. subst (λ (os : List OutPort). (q : ℕ) → q < length os → (out_at os q).done ≡ false → (out_at os q).held ≡ None → (world (out_at os q).wire).sent ≡ stream_at (due past) q) (sym same.outs) (r.none_due (back s));
        ungranted = λ yes s n q lt busy.
            let u = r.ungranted yes (back s) (subst (λ (os : List OutPort). NoneHeld os) same.outs n) q (subst (λ (os : List OutPort). q < length os) same.outs lt) (subst (λ (os : List OutPort). (out_at os q).done ≡ false) same.outs busy) in
            elim u [
              | inl a ↦ inl (ap (λ m. (view m).source) same.machine ∙ a)
              | inr b ↦ inr (b.0, ap (λ m. (view m).source) same.machine ∙ b.1, subst (λ (p : Passing). WasChoked before.pass b.0 p) (sym same.pass) b.2)
            ];
      }

  -- of a node that told nothing, but whose machine was asked
  pub rests_told : (may_take : Bool) (before node node' : Node M) (world world' : ℕ → Wire) (past past' : Past) → node'.outs.items ≡ node.outs.items → (view node'.machine).source ≡ (view node.machine).source → (IsSound view node' → IsSound view node)
      → node'.pass ≡ record node.pass { spare = node'.pass.spare } → past'.task ≡ past.task → Tells world past world' past' → Rests view may_take before node world past → Rests view may_take before node' world' past'
  rests_told may_take before node node' world world' past past' outs source back still task t r = record {
    none_due = λ s. subst (λ (os : List OutPort). (q : ℕ) → q < length os → (out_at os q).done ≡ false → (out_at os q).held ≡ None → (world' (out_at os q).wire).sent ≡ stream_at (due past') q) (sym outs)
        (λ q lt busy none. t.sent (out_at node.outs.items q).wire ∙ (r.none_due (back s) q lt busy none ∙ ap (λ (ss : List Flow). stream_at ss q) (sym (due_same past past' task t.got t.allowed))));
    ungranted = λ yes s n q lt busy.
        let u = r.ungranted yes (back s) (subst (λ (os : List OutPort). NoneHeld os) outs n) q (subst (λ (os : List OutPort). q < length os) outs lt) (subst (λ (os : List OutPort). (out_at os q).done ≡ false) outs busy) in
        elim u [
          | inl a ↦ inl (source ∙ a)
          | inr b ↦ inr (b.0, source ∙ b.1, subst (λ (p : Passing). WasChoked before.pass b.0 p) (sym still) (choked_still before.pass node.pass b.0 node'.pass.spare b.2))
        ];
  }

  module _ (laws : (m : M) → Laws (view m)) where
    no_ticket : (node : Node M) (world : ℕ → Wire) (past : Past) (old : ℕ → Wire) (before : Past) → NodeStands view node world past → IsSound view node → length node.outs.items ≡ length (view node.machine).out_lanes → NoneHeld node.outs.items → Readies view (λ q. q < length node.outs.items) false node old before world past
        → (q : ℕ) → q < length node.outs.items → (out_at node.outs.items q).done ≡ false → IsSome (view node.machine).source → (view node.machine).holds → ⊥
    no_ticket node world past old before was ok count none f q lt busy is held =
        (laws node.machine).ticket_used past q was.machine is ok.1 (pending_here node world past was count none q lt busy)
        (λ k pending. let b = pending_busy node world past (length (view node.machine).out_lanes) k was ok count pending in f.asked ok refl k b.0 b.1) held

    some_source : (o : Option ℕ) → (o ≡ None) ⊎ IsSome o
    some_source None = inl refl
    some_source (Some s) = inr refl

    -- a machine that was filled, and handed a ticket back, is no source's
    pub ungranted : (X : Type 0) (node : Node M) (world : ℕ → Wire) (past : Past) (old : ℕ → Wire) (before : Past) (held : Bool) → (held ≡ true → SomeHeld node.outs.items) → NodeStands view node world past → IsSound view node → length node.outs.items ≡ length (view node.machine).out_lanes → NoneHeld node.outs.items → Readies view (λ q. q < length node.outs.items) held node old before world past
        → (view node.machine).holds ⊎ X → (q : ℕ) → q < length node.outs.items → (out_at node.outs.items q).done ≡ false → ((view node.machine).source ≡ None) ⊎ X
    ungranted X node world past old before true some was ok count none f back q lt busy = absurd (some_not_none node.outs.items (some refl) none)
    ungranted X node world past old before false some was ok count none f back q lt busy =
        elim back [
          | inl h ↦ elim (some_source (view node.machine).source) [
            | inl a ↦ inl a
            | inr is ↦ absurd (no_ticket node world past old before was ok count none f q lt busy is h)
          ]
          | inr x ↦ inr x
        ]
