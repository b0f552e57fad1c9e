use Rattle.std.proofs.Common.{◌≡◌, ◌<◌, ℕ, false, true, None, Some, Option, refl, sym, ◌∙◌, subst, ap, length, slice_set, get_or-set_same, inl, inr}
use Rattle.ff_stream.specs.declared.item.Item.{Item}
use Rattle.ff_stream.specs.laws.Order.{prefix_self}
use Rattle.ff_net.specs.declared.ports.OutPort.{OutPort}
use Rattle.ff_net.specs.declared.wires.Wires.{Wires}
use Rattle.ff_net.specs.laws.Worlds.{Wire, Stand, put_on, lanes_of}
use Rattle.ff_net.specs.Pasts.{was_stopped}
use Rattle.ff_net.specs.laws.Ports.{out_at, out_wires}
use Rattle.ff_net.specs.laws.Steps.{put, told as was_told}
use Rattle.ff_net.proofs.Moments.{pass_self, fault_self, with_wire_same, with_wire_keeps, with_item_new}
use Rattle.ff_net.proofs.PortSteps.{out_wires_set, out_wire_there, out_wire_in, set_again, set_own}
use Rattle.ff_net.proofs.Changes.{true_not_false, course_put, course_past, send_done, told, busy_goes_on, same_stands}
use Rattle.ff_net.proofs.Queues.{finished_of, in_queues}
use Rattle.ff_net.proofs.Sendings.{sent_valid}
use Rattle.ff_net.proofs.Logs.{log_called, log_still, pending_stopped}
use Rattle.ff_net.proofs.node.Node.send.Goals as goal

pub try_put-requires : goal.try_put-requires
try_put-requires g c = subst (λ (w : ℕ). w < length (lanes_of c.args.wires.now)) (sym c.out_wire-wire.ensures) (out_wire_there c.args.self.now.outs.items _ (lanes_of c.args.wires.now) c.requires.shaped.outs c.args.p c.requires.there)

pub returns-in-Done-clause-stepped : goal.returns-in-Done-clause-stepped
returns-in-Done-clause-stepped g c =
    let view = g.M.Machine.view in
    let laws = g.met.M.Machine.laws in
    let node = c.args.self.now in
    let outs = node.outs.items in
    let p = c.args.p in
    let x = c.in-Some.item in
    let there = c.requires.there in
    let old = out_at outs p in
    let busy : old.done ≡ false = sym c.out_done.ensures ∙ c.if-out_done.false in
    let held : old.held ≡ Some x = sym c.take_held.ensures.held ∙ c.in-Some.is in
    let set : c.close_out.new.ports.items ≡ slice_set outs p (record old { held = None; done = c.closes-closes.result }) =
    set_again outs c.take_held.new.ports.items c.close_out.new.ports.items p _ _ _ there c.take_held.ensures.rest c.close_out.ensures (λ e. ap (λ (o : OutPort). record o { done = c.closes-closes.result }) e) in
    let wire : c.out_wire-wire.result ≡ old.wire = c.out_wire-wire.ensures in
    record {
      ins_same = refl;
      outs_same = ap (λ os. out_wires os) set ∙ out_wires_set outs p _ there refl;
      in_lanes_same = refl;
      out_lanes_same = refl;
      source_same = refl;
      fares = fault_self (view node.machine);
      passes = pass_self _;
      lanes_same = c.try_put.ensures.lanes;
      goes = λ world past stand was.
          let unclosed = (was.outs p there).unclosed busy in
          let valid = sent_valid view node c.args.wires.now world past p (view node.machine).in_lanes (view node.machine).out_lanes stand was ((laws node.machine).valid past was.machine) ((laws node.machine).keeps past was.machine) x ((laws node.machine).units_below past was.machine) ((laws node.machine).given past was.machine) c.requires.shaped.outs there busy held in
          let done : Stand c.try_put.new.self (put_on world old.wire x) = subst (λ (w : ℕ). Stand c.try_put.new.self (put_on world w x)) wire ((c.in-Done.ensures.done refl world stand (rw wire unclosed) (rw wire valid)).1) in record {
            now = put_on world old.wire x;
            since = past;
            stand = done;
            fits = send_done view node _ world past p x c.closes-closes.result (view node.machine).out_lanes (lanes_of c.args.wires.now) was refl (log_still view node _ past refl refl refl (λ r. r) (λ q. q) was.log) refl refl set there c.requires.shaped.outs held busy c.closes-closes.ensures;
            course = course_put _ _ world old.wire x past (out_wire_in outs p old.wire there refl) unclosed;
            so = record {
              moves = λ e. put old.wire (λ same. with_item_new (world old.wire).sent x unclosed (sym (ap (λ (u : Wire). u.sent) (with_wire_same world old.wire _ old.wire refl)) ∙ same));
              takes_nothing = λ q w. with_wire_keeps (λ (u : Wire). u.taken) world old.wire _ w refl;
              allows_nothing = refl;
            };
          };
    }

pub returns-in-Full-clause-same : goal.returns-in-Full-clause-same
returns-in-Full-clause-same g c is =
    let outs = c.args.self.now.outs.items in
    let p = c.args.p in
    let there = c.requires.there in
    let old = out_at outs p in
    let full = c.in-Full.ensures.full c.in-Full.item refl in
    let held : old.held ≡ Some c.in-Full.item = sym c.take_held.ensures.held ∙ (c.in-Some.is ∙ ap (λ (x : Item). Some x) (sym full.0)) in
    let at : out_at c.take_held.new.ports.items p ≡ record old { held = None } = ap (λ os. out_at os p) c.take_held.ensures.rest ∙ get_or-set_same outs p _ _ there in
    let set : c.hold.new.ports.items ≡ slice_set outs p old =
    set_again outs c.take_held.new.ports.items c.hold.new.ports.items p _ _ old there c.take_held.ensures.rest c.hold.ensures
    (λ e. ap (λ (o : OutPort). record o { held = Some c.in-Full.item }) e ∙ ap (λ (h : Option Item). record old { held = h }) (sym held)) in (
      record { machine = refl; ins = refl; outs = set ∙ set_own outs p _; refused = refl; pass = refl; hand = refl; quiet = refl },
      full.1,
    )

pub returns-in-Full-clause-stepped : goal.returns-in-Full-clause-stepped
returns-in-Full-clause-stepped g c =
    let view = g.M.Machine.view in
    let same = returns-in-Full-clause-same g c refl in record {
      ins_same = refl;
      outs_same = ap (λ os. out_wires os) same.0.outs;
      in_lanes_same = refl;
      out_lanes_same = refl;
      source_same = refl;
      fares = fault_self (view c.args.self.now.machine);
      passes = pass_self _;
      lanes_same = c.try_put.ensures.lanes;
      goes = λ world past stand was. record {
        now = world;
        since = past;
        stand = subst (λ (w : Wires). Stand w world) (sym same.1) stand;
        fits = same_stands view c.args.self.now _ world past same.0 was;
        course = course_past _ _ world past past refl (prefix_self past.allowed) (λ q i. i);
        so = record { moves = λ e. absurd (true_not_false (sym e)); takes_nothing = λ q w. refl; allows_nothing = refl };
      };
    }

pub returns-in-Finished-clause-stepped : goal.returns-in-Finished-clause-stepped
returns-in-Finished-clause-stepped g c =
    let view = g.M.Machine.view in
    let node = c.args.self.now in
    let outs = node.outs.items in
    let p = c.args.p in
    let there = c.requires.there in
    let old = out_at outs p in
    let busy : old.done ≡ false = sym c.out_done.ensures ∙ c.if-out_done.false in
    let finished = c.in-Finished.ensures.finished c.in-Finished.item refl in
    let set : c.close_out-in-Finished.new.ports.items ≡ slice_set outs p (record old { held = None; done = true }) =
    set_again outs c.take_held.new.ports.items c.close_out-in-Finished.new.ports.items p _ _ _ there c.take_held.ensures.rest c.close_out-in-Finished.ensures (λ e. ap (λ (o : OutPort). record o { done = true }) e) in
    record {
      ins_same = refl;
      outs_same = ap (λ os. out_wires os) set ∙ out_wires_set outs p _ there refl;
      in_lanes_same = c.stop.ensures.shape.in_lanes;
      out_lanes_same = c.stop.ensures.shape.out_lanes;
      source_same = c.stop.ensures.shape.source;
      fares = c.stop.ensures.fares;
      passes = pass_self _;
      lanes_same = c.try_put.ensures.lanes;
      goes = λ world past stand was.
          let goes_on = busy_goes_on view node world past p was busy in
          let flag : (world old.wire).finished ≡ true = subst (λ (w : ℕ). (world w).finished ≡ true) c.out_wire-wire.ensures (finished_of c.args.wires.now.queues.items world c.out_wire-wire.result stand (in_queues c.args.wires.now.queues.items c.out_wire-wire.result (subst (λ (w : ℕ). w < length (lanes_of c.args.wires.now)) (sym c.out_wire-wire.ensures) (out_wire_there outs _ (lanes_of c.args.wires.now) c.requires.shaped.outs p there))) finished.2) in record {
            now = world;
            since = was_stopped past p;
            stand = subst (λ (w : Wires). Stand w world) (sym finished.1) stand;
            fits = told view node _ world past p None was (c.stop.ensures.stopped past was.machine) c.stop.ensures.fares.stays (log_called view node _ past (was_stopped past p) c.stop.ensures.fares.stays c.stop.ensures.shape refl (λ r. r) refl refl refl (pending_stopped past p) was.log) c.stop.ensures.shape.in_lanes refl refl set there busy flag;
            course = course_past _ _ world past (was_stopped past p) refl (prefix_self past.allowed) (λ q i. inr i);
            so = record { moves = λ e. was_told p goes_on (inl refl); takes_nothing = λ q w. refl; allows_nothing = refl };
          };
    }
