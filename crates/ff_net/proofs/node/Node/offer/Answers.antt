use Rattle.std.proofs.Common.{◌≡◌, ◌∙◌, refl, ap, sym, inl, ◌++◌, ◌∷◌, [], Option, Some, append-nil}
use Rattle.ff_stream.specs.laws.Order.{prefix_self}
use Rattle.ff_frame.specs.declared.event.Ticket.{Ticket}
use Rattle.ff_net.specs.laws.Logs.{hand_of}
use Rattle.ff_net.specs.Pasts.{was_allowed}
use Rattle.ff_net.specs.laws.Steps.{granted}
use Rattle.ff_net.proofs.Changes.{course_past, machine_step, true_not_false}
use Rattle.ff_net.proofs.Logs.{fault_back, log_called, pending_same}
use Rattle.ff_net.proofs.Moments.{pass_self, pushed_tickets}
use Rattle.ff_net.proofs.node.Node.offer.Goals as goal

pub returns-in-None-clause-stepped : goal.returns-in-None-clause-stepped
returns-in-None-clause-stepped g c wires =
    let view = g.M.Machine.view in
    let node = c.args.self.now in
    let t : Ticket = c.in-Some.ticket in
    let hand : node.hand ≡ Some t = sym c.take.ensures.value ∙ c.in-Some.is in
    record {
      ins_same = refl;
      outs_same = refl;
      in_lanes_same = c.allow.ensures.shape.in_lanes;
      out_lanes_same = c.allow.ensures.shape.out_lanes;
      source_same = c.allow.ensures.shape.source;
      fares = c.allow.ensures.fares;
      passes = pass_self _;
      lanes_same = refl;
      goes = λ world past stand was.
          let since = was_allowed past t in
          let now = c.in-None.ensures.taken refl past was.machine in
          let tickets : since.allowed ++ hand_of c.take.new.self ≡ past.allowed ++ hand_of node.hand =
          ap (λ (h : Option Ticket). since.allowed ++ hand_of h) c.take.ensures.after ∙ (append-nil since.allowed ∙ ap (λ (h : Option Ticket). past.allowed ++ hand_of h) (sym hand)) in record {
            now = world;
            since = since;
            stand = stand;
            fits = machine_step view node _ world past since was now (λ s. (s.0, fault_back _ _ c.allow.ensures.fares.stays s.1)) (λ r. r) refl refl c.allow.ensures.shape.in_lanes refl refl refl refl
                (log_called view node _ past since c.allow.ensures.fares.stays c.allow.ensures.shape refl (λ r. r) refl refl tickets (pending_same past since refl refl) was.log);
            course = course_past _ _ world past since refl (t ∷ [], refl) (λ q i. i);
            so = record {
              moves = λ e. inl (granted (pushed_tickets past.allowed t));
              sent = λ w. refl;
              taken = λ w. refl;
              finished = λ w. refl;
              got = refl;
              stopped = refl;
              same = λ e. absurd (true_not_false e);
            };
          };
    }

pub returns-in-Some-allow-clause-stepped : goal.returns-in-Some-allow-clause-stepped
returns-in-Some-allow-clause-stepped g c wires =
    let view = g.M.Machine.view in
    let node = c.args.self.now in
    let t : Ticket = c.in-Some.ticket in
    let hand : node.hand ≡ Some t = sym c.take.ensures.value ∙ c.in-Some.is in
    let back = c.in-Some-allow.ensures.back in
    record {
      ins_same = refl;
      outs_same = refl;
      in_lanes_same = c.allow.ensures.shape.in_lanes;
      out_lanes_same = c.allow.ensures.shape.out_lanes;
      source_same = c.allow.ensures.shape.source;
      fares = c.allow.ensures.fares;
      passes = pass_self _;
      lanes_same = refl;
      goes = λ world past stand was.
          let now = back.1 past was.machine in
          let tickets : past.allowed ++ hand_of (Some c.in-Some-allow.back) ≡ past.allowed ++ hand_of node.hand = ap (λ (h : Option Ticket). past.allowed ++ hand_of h) (ap (λ (u : Ticket). Some u) back.0 ∙ sym hand) in record {
            now = world;
            since = past;
            stand = stand;
            fits = machine_step view node _ world past past was now (λ s. (s.0, fault_back _ _ c.allow.ensures.fares.stays s.1)) (λ r. r) refl refl c.allow.ensures.shape.in_lanes refl refl refl refl
                (log_called view node _ past past c.allow.ensures.fares.stays c.allow.ensures.shape refl (λ r. r) refl refl tickets (λ n q x. x) was.log);
            course = course_past _ _ world past past refl (prefix_self past.allowed) (λ q i. i);
            so = record {
              moves = λ e. absurd (true_not_false (sym e));
              sent = λ w. refl;
              taken = λ w. refl;
              finished = λ w. refl;
              got = refl;
              stopped = refl;
              same = λ e. refl;
            };
          };
    }
