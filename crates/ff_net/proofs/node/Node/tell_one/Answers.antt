use Rattle.std.proofs.Common.{◌≡◌, false, refl, ap, sym, ◌∙◌}
use Rattle.ff_stream.specs.laws.Order.{prefix_self}
use Rattle.ff_sched.specs.laws.Passing.{Passing}
use Rattle.ff_frame.specs.declared.event.Event.{Event}
use Rattle.ff_net.specs.laws.Logs.{tickets_in}
use Rattle.ff_net.specs.Pasts.{was_told}
use Rattle.ff_net.proofs.Changes.{course_past, machine_step, true_not_false}
use Rattle.ff_net.proofs.Granting.{pass_told, roomier_steps, tells_join}
use Rattle.ff_net.proofs.Logs.{fault_back, log_asked, log_lost, log_told, tickets_told}
use Rattle.ff_net.proofs.Moments.{pass_self}
use Rattle.ff_net.proofs.Rounds.{or_false}
use Rattle.ff_net.proofs.node.Node.tell_one.Goals as goal

pub returns-then-not-make_room-clause-stepped : goal.returns-then-not-make_room-clause-stepped
returns-then-not-make_room-clause-stepped g c wires =
    let view = g.M.Machine.view in
    roomier_steps view c.args.self.now c.make_room.new.self c.make_room.ensures.node c.make_room.ensures.pass (λ r. absurd (true_not_false (sym (c.make_room.ensures.refused c.if-not-make_room.true) ∙ r))) wires

pub returns-in-None-clause-stepped : goal.returns-in-None-clause-stepped
returns-in-None-clause-stepped g c wires =
    let view = g.M.Machine.view in
    let node = c.args.self.now in
    let mid = c.make_room.new.self in
    let room = c.make_room.ensures.room c.if-not-make_room.false in
    tells_join view node mid _ wires (roomier_steps view node mid c.make_room.ensures.node c.make_room.ensures.pass (λ r. sym room.2 ∙ r) wires) (record {
      ins_same = refl;
      outs_same = refl;
      in_lanes_same = c.next_event.ensures.shape.in_lanes;
      out_lanes_same = c.next_event.ensures.shape.out_lanes;
      source_same = c.next_event.ensures.shape.source;
      lanes_same = refl;
      fares = c.next_event.ensures.fares;
      passes = pass_self mid.pass;
      goes = λ world past stand was. record {
        now = world;
        since = past;
        stand = stand;
        fits = machine_step view mid _ world past past was (c.in-None.ensures.waits refl past was.machine) (λ s. (s.0, fault_back _ _ c.next_event.ensures.fares.stays s.1)) (λ r. r) refl refl c.next_event.ensures.shape.in_lanes refl refl refl refl
            (log_asked view mid _ past c.next_event.ensures.fares.stays c.next_event.ensures.shape refl refl (λ r. r) (c.in-None.ensures.none_due refl past was.machine) was.log);
        course = course_past _ _ world past past refl (prefix_self past.allowed) (λ q i. i);
        so = record { sent = λ w. refl; taken = λ w. refl; finished = λ w. refl; got = refl; allowed = refl; stopped = refl };
      };
    })

pub returns-then-not-can_tell-clause-stepped : goal.returns-then-not-can_tell-clause-stepped
returns-then-not-can_tell-clause-stepped g c wires =
    let view = g.M.Machine.view in
    let node = c.args.self.now in
    let mid = c.make_room.new.self in
    let room = c.make_room.ensures.room c.if-not-make_room.false in
    let e : Event = c.in-Some.event in
    let quiet : mid.quiet ≡ false = ap (λ n. n.quiet) c.make_room.ensures.node ∙ (or_false node.quiet node.refused c.if-self.false).0 in
    tells_join view node mid _ wires (roomier_steps view node mid c.make_room.ensures.node c.make_room.ensures.pass (λ r. sym room.2 ∙ r) wires) (record {
      ins_same = refl;
      outs_same = refl;
      in_lanes_same = c.next_event.ensures.shape.in_lanes;
      out_lanes_same = c.next_event.ensures.shape.out_lanes;
      source_same = c.next_event.ensures.shape.source;
      lanes_same = refl;
      fares = c.next_event.ensures.fares;
      passes = pass_self mid.pass;
      goes = λ world past stand was. let gives = c.in-Some.ensures.gives e refl past was.machine in record {
        now = world;
        since = was_told past e;
        stand = stand;
        fits = machine_step view mid _ world past (was_told past e) was gives.0 (λ s. absurd (true_not_false s.0)) (λ r. absurd (true_not_false r)) refl refl c.next_event.ensures.shape.in_lanes refl refl refl refl
            (log_lost view mid _ past e c.next_event.ensures.shape.source refl refl refl quiet gives.1 was.log);
        course = course_past _ _ world past (was_told past e) refl (prefix_self past.allowed) (λ q i. i);
        so = record { sent = λ w. refl; taken = λ w. refl; finished = λ w. refl; got = refl; allowed = refl; stopped = refl };
      };
    })

pub returns-else-not-can_tell-clause-stepped : goal.returns-else-not-can_tell-clause-stepped
returns-else-not-can_tell-clause-stepped g c wires =
    let view = g.M.Machine.view in
    let node = c.args.self.now in
    let mid = c.make_room.new.self in
    let room = c.make_room.ensures.room c.if-not-make_room.false in
    let e : Event = c.in-Some.event in
    let none = or_false node.quiet node.refused c.if-self.false in
    let quiet : mid.quiet ≡ false = ap (λ n. n.quiet) c.make_room.ensures.node ∙ none.0 in
    let is = (c.can_tell.ensures c.if-not-can_tell.false).1 in
    tells_join view node mid _ wires (roomier_steps view node mid c.make_room.ensures.node c.make_room.ensures.pass (λ r. sym room.2 ∙ r) wires) (record {
      ins_same = refl;
      outs_same = refl;
      in_lanes_same = c.next_event.ensures.shape.in_lanes;
      out_lanes_same = c.next_event.ensures.shape.out_lanes;
      source_same = c.next_event.ensures.shape.source;
      lanes_same = refl;
      fares = c.next_event.ensures.fares;
      passes = pass_told mid.pass e c.tell-place.result c.tell-place.new.pass c.tell-place.ensures;
      goes = λ world past stand was. let gives = c.in-Some.ensures.gives e refl past was.machine in record {
        now = world;
        since = was_told past e;
        stand = stand;
        fits = machine_step view mid _ world past (was_told past e) was gives.0 (λ s. (s.0, fault_back _ _ c.next_event.ensures.fares.stays s.1)) (λ r. r) refl refl c.next_event.ensures.shape.in_lanes refl refl refl refl
            (log_told view mid _ past e c.tell-place.result c.next_event.ensures.shape.source is (ap (λ (p : Passing). p.log) c.tell-place.ensures.same) refl (room.2 ∙ none.1) quiet gives.1 was.log);
        course = course_past _ _ world past (was_told past e) refl (prefix_self past.allowed) (λ q i. i);
        so = record { sent = λ w. refl; taken = λ w. refl; finished = λ w. refl; got = refl; allowed = refl; stopped = refl };
      };
    })

pub returns-else-not-can_tell-clause-tickets : goal.returns-else-not-can_tell-clause-tickets
returns-else-not-can_tell-clause-tickets g c =
    let is = (c.can_tell.ensures c.if-not-can_tell.false).1 in
    tickets_told c.make_room.new.self.pass.log c.tell-place.new.pass.log c.in-Some.event c.tell-place.result is (ap (λ (p : Passing). p.log) c.tell-place.ensures.same) ∙ ap (λ (p : Passing). tickets_in p.log) c.make_room.ensures.pass
