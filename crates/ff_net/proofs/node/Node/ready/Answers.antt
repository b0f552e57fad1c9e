use Rattle.std.proofs.Common.{◌≡◌, ◌<◌, ℕ, length, true, false, refl, sym, ◌∙◌, ap, subst, inl, inr, None, List}
use Rattle.ff_stream.specs.Ports.{stream_at}
use Rattle.ff_net.specs.declared.ports.OutPort.{OutPort}
use Rattle.ff_net.specs.Ways.{Flow}
use Rattle.ff_net.specs.laws.Logs.{WasChoked, tickets_in}
use Rattle.ff_net.specs.laws.Nodes.{IsSound}
use Rattle.ff_net.specs.Pasts.{Past, due}
use Rattle.ff_net.specs.laws.Ports.{out_at, NoneHeld}
use Rattle.ff_net.specs.laws.Steps.{IsHeldBack, IsUngranted, Prepares}
use Rattle.ff_net.specs.laws.Worlds.{Wire}
use Rattle.ff_sched.specs.laws.Passing.{Passing}
use Rattle.ff_net.proofs.Granting.{once_between, once_same, same_tickets}
use Rattle.ff_net.proofs.Flows.{due_same}
use Rattle.ff_net.proofs.Moments.{stepped_self, stepped_then, stepped_through, then_has_moved, has_moved_then}
use Rattle.ff_net.proofs.Changes.{true_not_false}
use Rattle.ff_net.proofs.Readying.{none_before, ungranted, some_not_none}
use Rattle.ff_net.proofs.node.Node.ready.Goals as goal

pub grant-granted-requires : goal.grant-granted-requires
grant-granted-requires g c =
    let e = c.fill_all-due.ensures in record {
      cell = record { pass = ap (λ (p : Passing). p.cell) e.pass ∙ c.requires.cell.pass; source = λ s is. c.requires.cell.source s (sym e.source ∙ is) };
      held = e.none c.if-due.false;
      outputs = e.count ∙ (c.requires.outputs ∙ ap length (sym e.out_lanes));
    }

pub fill_all-more-requires : goal.fill_all-more-requires
fill_all-more-requires g c =
    let e = c.fill_all-due.ensures in
    let a = c.grant-granted.ensures in
    record { outputs = ap (λ os. length os.items) a.outs ∙ (e.count ∙ (c.requires.outputs ∙ ap length (sym (a.out_lanes ∙ e.out_lanes)))) }

pub returns-then-due-clause-stepped : goal.returns-then-due-clause-stepped
returns-then-due-clause-stepped g c wires =
    let view = g.M.Machine.view in
    let before = c.args.self.now in
    let filled = c.fill_all-due.new.self in
    let e = c.fill_all-due.ensures in
    stepped_then view _ (λ a p b q. (b ≡ a) × (q ≡ p)) (Prepares view c.args.may_take false true before filled) before wires filled wires filled wires
    (λ w p v q u r x y f s. record {
      moves = λ t. absurd (true_not_false (sym t));
      taken = λ k. ap (λ (z : ℕ → Wire). (z k).taken) s.0 ∙ f.taken k;
      allows_nothing = λ d. ap (λ (z : Past). z.allowed) s.1 ∙ f.allowed;
      grants_nothing = λ d. ap (λ (z : Passing). tickets_in z.log) e.pass;
      none_before = λ ok no. absurd (true_not_false no);
      rests = λ no. record {
        none_due = λ ok k lt busy none.
            let dues : due r ≡ due p = ap due s.1 ∙ due_same p q x.task f.got f.allowed in
            let wire : ℕ = (out_at filled.outs.items k).wire in
            ap (λ (z : ℕ → Wire). (z wire).sent) s.0 ∙ (f.sent wire ∙ (f.none_due ok k lt busy none ∙ ap (λ (ss : List Flow). stream_at ss k) (sym dues)));
        ungranted = λ yes ok none k lt busy. absurd (some_not_none filled.outs.items (e.held c.if-due.true) none);
      };
    }) (e.stepped wires) (stepped_self view (λ a p b q. (b ≡ a) × (q ≡ p)) filled wires (λ w p. (refl, refl)))

pub returns-then-not-may_take-clause-stepped : goal.returns-then-not-may_take-clause-stepped
returns-then-not-may_take-clause-stepped g c wires =
    let view = g.M.Machine.view in
    let before = c.args.self.now in
    let filled = c.fill_all-due.new.self in
    let e = c.fill_all-due.ensures in
    stepped_then view _ (λ a p b q. (b ≡ a) × (q ≡ p)) (Prepares view c.args.may_take false false before filled) before wires filled wires filled wires
    (λ w p v q u r x y f s. record {
      moves = λ t. absurd (true_not_false (sym t));
      taken = λ k. ap (λ (z : ℕ → Wire). (z k).taken) s.0 ∙ f.taken k;
      allows_nothing = λ d. ap (λ (z : Past). z.allowed) s.1 ∙ f.allowed;
      grants_nothing = λ d. ap (λ (z : Passing). tickets_in z.log) e.pass;
      none_before = λ ok no. none_before view before filled c.fill_all-due.result w v p q e.sound e.count (e.stepped wires).outs_same e.done (e.none c.if-due.false) f ok;
      rests = λ no. record {
        none_due = λ ok k lt busy none.
            let dues : due r ≡ due p = ap due s.1 ∙ due_same p q x.task f.got f.allowed in
            let wire : ℕ = (out_at filled.outs.items k).wire in
            ap (λ (z : ℕ → Wire). (z wire).sent) s.0 ∙ (f.sent wire ∙ (f.none_due ok k lt busy none ∙ ap (λ (ss : List Flow). stream_at ss k) (sym dues)));
        ungranted = λ yes ok none k lt busy. absurd (true_not_false (sym yes ∙ c.if-not-may_take.true));
      };
    }) (e.stepped wires) (stepped_self view (λ a p b q. (b ≡ a) × (q ≡ p)) filled wires (λ w p. (refl, refl)))

pub returns-then-not-granted-clause-stepped : goal.returns-then-not-granted-clause-stepped
returns-then-not-granted-clause-stepped g c wires =
    let view = g.M.Machine.view in
    let laws = g.met.M.Machine.laws in
    let before = c.args.self.now in
    let filled = c.fill_all-due.new.self in
    let after = c.grant-granted.new.self in
    let e = c.fill_all-due.ensures in
    let a = c.grant-granted.ensures in
    let outs : after.outs.items ≡ filled.outs.items = ap (λ os. os.items) a.outs in
    let count : length filled.outs.items ≡ length (view filled.machine).out_lanes = e.count ∙ (c.requires.outputs ∙ ap length (sym e.out_lanes)) in
    let none : NoneHeld filled.outs.items = e.none c.if-due.false in
    stepped_through view _ _ (Prepares view c.args.may_take false false before after) before wires filled wires after wires
    (λ w p v q u r was mid x y f s. record {
      moves = λ t. absurd (true_not_false (sym t));
      taken = λ k. s.taken k ∙ f.taken k;
      allows_nothing = λ d. ap (λ (z : Past). z.allowed) (s.same c.if-not-granted.true) ∙ f.allowed;
      grants_nothing = λ d. ap tickets_in (a.still c.if-not-granted.true) ∙ ap (λ (z : Passing). tickets_in z.log) e.pass;
      none_before = λ ok no. none_before view before filled c.fill_all-due.result w v p q e.sound e.count (e.stepped wires).outs_same e.done none f (a.sound ok);
      rests = λ no. record {
        none_due = λ ok.
            let same : r ≡ q = s.same c.if-not-granted.true in
            let dues : due r ≡ due p = ap due same ∙ due_same p q x.task f.got f.allowed in
            subst (λ (os : List OutPort). (k : ℕ) → k < length os → (out_at os k).done ≡ false → (out_at os k).held ≡ None → (u (out_at os k).wire).sent ≡ stream_at (due r) k) (sym outs)
            (λ k lt busy none. s.sent (out_at filled.outs.items k).wire ∙ (f.sent (out_at filled.outs.items k).wire ∙ (f.none_due (a.sound ok) k lt busy none ∙ ap (λ (ss : List Flow). stream_at ss k) (sym dues))));
        ungranted = λ yes ok none' k lt busy.
            elim (ungranted view laws (IsUngranted view filled after) filled v q w p c.fill_all-due.result e.held mid (a.sound ok) count none f (a.back c.if-not-granted.true ok (λ d. true_not_false (sym (d k lt) ∙ busy))) k (subst (λ (os : List OutPort). k < length os) outs lt) (subst (λ (os : List OutPort). (out_at os k).done ≡ false) outs busy)) [
              | inl n ↦ inl (a.source ∙ n)
              | inr more ↦ elim more [ inl n ↦ inl n | inr choked ↦ inr (choked.0, choked.1, subst (λ (z : Passing). WasChoked z choked.0 after.pass) e.pass choked.2) ]
            ];
      };
    }) (e.stepped wires) (a.stepped wires)

pub returns-clause-stepped : goal.returns-clause-stepped
returns-clause-stepped g c wires =
    let view = g.M.Machine.view in
    let before = c.args.self.now in
    let filled = c.fill_all-due.new.self in
    let after = c.grant-granted.new.self in
    let last = c.fill_all-more.new.self in
    let e = c.fill_all-due.ensures in
    let a = c.grant-granted.ensures in
    let f2 = c.fill_all-more.ensures in
    let fine : IsSound view filled = a.fine c.if-not-granted.false in
    let first = stepped_then view _ _ (Prepares view c.args.may_take true false before after) before wires filled wires after wires
    (λ w p v q u r x y f s. let none = none_before view before filled c.fill_all-due.result w v p q e.sound e.count (e.stepped wires).outs_same e.done (e.none c.if-due.false) f fine in
    let held : IsHeldBack view c.args.may_take before w p → ⊥ = λ d. elim d [ inl kept ↦ true_not_false (sym c.if-not-may_take.false ∙ kept) | inr one ↦ none one.0 one.1 ] in record {
      moves = λ t. then_has_moved _ _ before filled after w v u p q r x y (e.stepped wires).passes.log (s.moves c.if-not-granted.false);
      taken = λ k. s.taken k ∙ f.taken k;
      allows_nothing = λ d. absurd (held d);
      grants_nothing = λ d. absurd (held d);
      none_before = λ ok no. none;
      rests = λ no. absurd (true_not_false no);
    }) (e.stepped wires) (a.stepped wires) in
    stepped_then view _ _ (Prepares view c.args.may_take true c.fill_all-more.result before last) before wires after wires last wires
    (λ w p v q u r x y f s. record {
      moves = λ t. has_moved_then _ _ before after last w v u p q r x y (f2.stepped wires).passes.log (f.moves refl);
      taken = λ k. s.taken k ∙ f.taken k;
      allows_nothing = λ d. s.allowed ∙ f.allows_nothing d;
      grants_nothing = λ d. ap (λ (z : Passing). tickets_in z.log) f2.pass ∙ f.grants_nothing d;
      none_before = λ ok no. f.none_before (f2.sound ok) refl;
      rests = λ no. absurd (true_not_false no);
    }) first (f2.stepped wires)

pub returns-then-due-clause-once : goal.returns-then-due-clause-once
returns-then-due-clause-once g c =
    let before = c.args.self.now.pass in
    let filled = c.fill_all-due.new.self.pass in
    once_same before.log filled.log (same_tickets before filled c.fill_all-due.ensures.pass)

pub returns-then-not-granted-clause-once : goal.returns-then-not-granted-clause-once
returns-then-not-granted-clause-once g c =
    let before = c.args.self.now.pass in
    let filled = c.fill_all-due.new.self.pass in
    let after = c.grant-granted.new.self.pass in
    once_between before.log filled.log after.log after.log (same_tickets before filled c.fill_all-due.ensures.pass) refl c.grant-granted.ensures.once

pub returns-clause-once : goal.returns-clause-once
returns-clause-once g c =
    let before = c.args.self.now.pass in
    let filled = c.fill_all-due.new.self.pass in
    let after = c.grant-granted.new.self.pass in
    let last = c.fill_all-more.new.self.pass in
    once_between before.log filled.log after.log last.log (same_tickets before filled c.fill_all-due.ensures.pass) (same_tickets after last c.fill_all-more.ensures.pass) c.grant-granted.ensures.once

pub returns-then-not-may_take-clause-once : goal.returns-then-not-may_take-clause-once
returns-then-not-may_take-clause-once g c =
    let before = c.args.self.now.pass in
    let filled = c.fill_all-due.new.self.pass in
    once_same before.log filled.log (same_tickets before filled c.fill_all-due.ensures.pass)

pub returns-then-due-clause-held_back : goal.returns-then-due-clause-held_back
returns-then-due-clause-held_back g c kept = same_tickets c.args.self.now.pass c.fill_all-due.new.self.pass c.fill_all-due.ensures.pass

pub returns-then-not-may_take-clause-held_back : goal.returns-then-not-may_take-clause-held_back
returns-then-not-may_take-clause-held_back g c kept = same_tickets c.args.self.now.pass c.fill_all-due.new.self.pass c.fill_all-due.ensures.pass
