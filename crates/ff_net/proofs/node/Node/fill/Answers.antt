use Rattle.std.proofs.Common.{◌≡◌, false, None, Some, Ok, refl, sym, ◌∙◌, ap, subst, inl, inr, ℕ, Option, get_or-set_same}
use Rattle.ff_stream.specs.declared.item.Item.{Item}
use Rattle.ff_stream.specs.laws.Order.{prefix_self}
use Rattle.ff_stream.specs.Ports.{stream_at}
use Rattle.ff_net.specs.declared.fault.Fault.{Fault}
use Rattle.ff_net.specs.declared.ports.OutPort.{OutPort}
use Rattle.ff_net.specs.Pasts.{gave_item, was_asked, due}
use Rattle.ff_net.specs.laws.Laws.{GoesOn}
use Rattle.ff_net.specs.laws.Ports.{out_at, out_wires}
use Rattle.ff_net.specs.laws.Nodes.{HeldIs}
use Rattle.ff_net.proofs.PortSteps.{out_wires_set}
use Rattle.ff_net.proofs.Changes.{none_held, true_not_false, course_past, busy_goes_on, fill_some, machine_step}
use Rattle.ff_net.proofs.Moments.{pass_self}
use Rattle.ff_net.proofs.Logs.{fault_back, log_called, pending_gave, pending_same}
use Rattle.ff_net.proofs.node.Node.fill.Goals as goal

pub returns-in-Ok-Some-clause-stepped : goal.returns-in-Ok-Some-clause-stepped
returns-in-Ok-Some-clause-stepped g c wires =
    let view = g.M.Machine.view in
    let node = c.args.self.now in
    let p = c.args.p in
    let x = c.in-Ok-Some.item in
    let there = c.requires.there in
    let busy : (out_at node.outs.items p).done ≡ false = sym c.out_done.ensures ∙ c.if-out_done.false in
    let none : (out_at node.outs.items p).held ≡ None = none_held (out_at node.outs.items p).held (sym c.holds_item.ensures ∙ c.if-holds_item.false) in
    let set = c.hold.ensures in
    record {
      ins_same = refl;
      outs_same = ap (λ os. out_wires os) set ∙ out_wires_set node.outs.items p _ there refl;
      in_lanes_same = c.pull.ensures.shape.in_lanes;
      out_lanes_same = c.pull.ensures.shape.out_lanes;
      source_same = c.pull.ensures.shape.source;
      fares = c.pull.ensures.fares;
      passes = pass_self _;
      lanes_same = refl;
      goes = λ world past stand was.
          let gives = c.in-Ok-Some.ensures.gives x (ap (λ (o : Option Item). Ok o) c.in-Ok-Some.field-0-is) past was.machine (busy_goes_on view node world past p was busy) in record {
            now = world;
            since = gave_item past p x;
            stand = stand;
            fits = fill_some view node _ world past p x was gives.0 c.pull.ensures.fares.stays (log_called view node _ past (gave_item past p x) c.pull.ensures.fares.stays c.pull.ensures.shape refl (λ r. r) refl refl refl (pending_gave past p x gives.1) was.log) c.pull.ensures.shape.in_lanes refl refl set there none busy gives.1;
            course = course_past _ _ world past (gave_item past p x) refl (prefix_self past.allowed) (λ q i. i);
            so = record {
              sent = λ w. refl;
              taken = λ w. refl;
              finished = λ w. refl;
              got = refl;
              allowed = refl;
              stopped = refl;
              none_due = λ s q e d h.
                  let at : out_at c.hold.new.ports.items p ≡ record (out_at node.outs.items p) { held = Some x } = ap (λ os. out_at os p) set ∙ get_or-set_same node.outs.items p _ _ there in
                  let held : (out_at c.hold.new.ports.items p).held ≡ None = subst (λ (r : ℕ). (out_at c.hold.new.ports.items r).held ≡ None) e h in
                  let some : (out_at c.hold.new.ports.items p).held ≡ Some x = ap (λ (o : OutPort). o.held) at in
                  absurd (let no : Some x ≡ None = sym some ∙ held in cc (no));
              asked = λ s h. absurd (true_not_false h);
              asks_on = λ s h. absurd (true_not_false h);
            };
          };
    }

pub returns-in-Ok-None-clause-stepped : goal.returns-in-Ok-None-clause-stepped
returns-in-Ok-None-clause-stepped g c wires =
    let view = g.M.Machine.view in
    let node = c.args.self.now in
    let p = c.args.p in
    let there = c.requires.there in
    let busy : (out_at node.outs.items p).done ≡ false = sym c.out_done.ensures ∙ c.if-out_done.false in
    let none : (out_at node.outs.items p).held ≡ None = none_held (out_at node.outs.items p).held (sym c.holds_item.ensures ∙ c.if-holds_item.false) in
    record {
      ins_same = refl;
      outs_same = refl;
      in_lanes_same = c.pull.ensures.shape.in_lanes;
      out_lanes_same = c.pull.ensures.shape.out_lanes;
      source_same = c.pull.ensures.shape.source;
      fares = c.pull.ensures.fares;
      passes = pass_self _;
      lanes_same = refl;
      goes = λ world past stand was.
          let goes_on = busy_goes_on view node world past p was busy in
          let now = c.in-Ok-None.ensures.waits (ap (λ (o : Option Item). Ok o) c.in-Ok-None.field-0-is) past was.machine goes_on in record {
            now = world;
            since = was_asked past p;
            stand = stand;
            fits = machine_step view node _ world past (was_asked past p) was now (λ s. (s.0, fault_back _ _ c.pull.ensures.fares.stays s.1)) (λ r. r) refl refl c.pull.ensures.shape.in_lanes refl refl refl refl (log_called view node _ past (was_asked past p) c.pull.ensures.fares.stays c.pull.ensures.shape refl (λ r. r) refl refl refl (pending_same past (was_asked past p) refl refl) was.log);
            course = course_past _ _ world past (was_asked past p) refl (prefix_self past.allowed) (λ q i. i);
            so = record {
              sent = λ w. refl;
              taken = λ w. refl;
              finished = λ w. refl;
              got = refl;
              allowed = refl;
              stopped = refl;
              none_due = λ s q e d h.
                  let fine : (view node.machine).fault ≡ None = fault_back _ _ c.pull.ensures.fares.stays s.1 in
                  let goes : GoesOn (view node.machine).fault = subst (λ (f : Option Fault). GoesOn f) (sym fine) tt in
                  let given : (world (out_at node.outs.items p).wire).sent ≡ stream_at past.gave p = subst (λ (h : Option Item). HeldIs h (world (out_at node.outs.items p).wire).sent (stream_at past.gave p)) none ((was.outs p there).held busy) in
                  let all : stream_at past.gave p ≡ stream_at (due past) p = elim (c.in-Ok-None.ensures.none_due (ap (λ (o : Option Item). Ok o) c.in-Ok-None.field-0-is) goes past was.machine goes_on) [ inl same ↦ same | inr device ↦ absurd (let no = sym s.1 ∙ device in cc (no)) ] in
                  subst (λ (r : ℕ). (world (out_at node.outs.items r).wire).sent ≡ stream_at (due past) r) (sym e) (given ∙ all);
              asked = λ s h q e d. inl (sym e);
              asks_on = λ s h q i. inr i;
            };
          };
    }

pub returns-in-Err-clause-stepped : goal.returns-in-Err-clause-stepped
returns-in-Err-clause-stepped g c wires =
    let view = g.M.Machine.view in
    let node = c.args.self.now in
    record {
      ins_same = refl;
      outs_same = refl;
      in_lanes_same = c.pull.ensures.shape.in_lanes;
      out_lanes_same = c.pull.ensures.shape.out_lanes;
      source_same = c.pull.ensures.shape.source;
      fares = c.pull.ensures.fares;
      passes = pass_self _;
      lanes_same = refl;
      goes = λ world past stand was. record {
        now = world;
        since = past;
        stand = stand;
        fits = machine_step view node _ world past past was (c.in-Err.ensures.unchanged past was.machine) (λ s. absurd (true_not_false s.0)) (λ r. absurd (true_not_false r)) refl refl c.pull.ensures.shape.in_lanes refl refl refl refl
            (log_called view node _ past past c.pull.ensures.fares.stays c.pull.ensures.shape refl (λ r. absurd (true_not_false r)) refl refl refl (λ n q x. x) was.log);
        course = course_past _ _ world past past refl (prefix_self past.allowed) (λ q i. i);
        so = record {
          sent = λ w. refl;
          taken = λ w. refl;
          finished = λ w. refl;
          got = refl;
          allowed = refl;
          stopped = refl;
          none_due = λ s. absurd (true_not_false s.0);
          asked = λ s. absurd (true_not_false s.0);
          asks_on = λ s. absurd (true_not_false s.0);
        };
      };
    }
