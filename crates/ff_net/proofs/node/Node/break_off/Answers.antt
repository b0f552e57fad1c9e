use Rattle.std.proofs.Common.{◌≡◌, ◌<◌, ℕ, false, true, refl, sym, ◌∙◌, subst, ap, length, inl, inr}
use Rattle.ff_stream.specs.declared.item.Item.TheVariants.{Broken}
use Rattle.ff_stream.specs.laws.Order.{prefix_self}
use Rattle.ff_net.specs.declared.wires.Wires.{Wires}
use Rattle.ff_net.specs.laws.Worlds.{Wire, Stand, put_on, lanes_of}
use Rattle.ff_net.specs.Pasts.{was_stopped}
use Rattle.ff_net.specs.laws.Ports.{out_at, out_wires}
use Rattle.ff_net.specs.laws.Steps.{put, told as was_told}
use Rattle.ff_net.proofs.Moments.{pass_self, fault_self, with_wire_same, with_wire_keeps, with_item_new}
use Rattle.ff_net.proofs.PortSteps.{out_wires_set, out_wire_there, out_wire_in}
use Rattle.ff_net.proofs.Changes.{course_put, course_past, broke, told, busy_goes_on}
use Rattle.ff_net.proofs.Queues.{finished_of, in_queues}
use Rattle.ff_net.proofs.Sendings.{broken_valid}
use Rattle.ff_net.proofs.Logs.{log_called, log_still, pending_stopped}
use Rattle.ff_net.proofs.node.Node.break_off.Goals as goal

pub try_put-requires : goal.try_put-requires
try_put-requires g c = subst (λ (w : ℕ). w < length (lanes_of c.args.wires.now)) (sym c.out_wire.ensures) (out_wire_there c.args.self.now.outs.items _ (lanes_of c.args.wires.now) c.requires.shaped.outs c.args.p c.requires.there)

pub returns-in-Done-clause-stepped : goal.returns-in-Done-clause-stepped
returns-in-Done-clause-stepped g c =
    let view = g.M.Machine.view in
    let laws = g.met.M.Machine.laws in
    let node = c.args.self.now in
    let outs = node.outs.items in
    let p = c.args.p in
    let there = c.requires.there in
    let old = out_at outs p in
    let busy : old.done ≡ false = sym c.out_done.ensures ∙ c.if-out_done.false in
    let set = c.close_out.ensures in
    let wire : c.out_wire.result ≡ old.wire = c.out_wire.ensures in
    record {
      ins_same = refl;
      outs_same = ap (λ os. out_wires os) set ∙ out_wires_set outs p _ there refl;
      in_lanes_same = refl;
      out_lanes_same = refl;
      source_same = refl;
      fares = fault_self (view node.machine);
      passes = pass_self _;
      lanes_same = c.try_put.ensures.lanes;
      goes = λ world past stand was.
          let unclosed = (was.outs p there).unclosed busy in
          let valid = broken_valid view node c.args.wires.now world past p (view node.machine).in_lanes (view node.machine).out_lanes stand was ((laws node.machine).valid past was.machine) ((laws node.machine).keeps past was.machine) c.requires.shaped.outs there in
          let done : Stand c.try_put.new.self (put_on world old.wire Broken) = subst (λ (w : ℕ). Stand c.try_put.new.self (put_on world w Broken)) wire ((c.in-Done.ensures.done refl world stand (rw wire unclosed) (rw wire valid)).1) in record {
            now = put_on world old.wire Broken;
            since = past;
            stand = done;
            fits = broke view node _ world past p (view node.machine).out_lanes (lanes_of c.args.wires.now) was refl (log_still view node _ past refl refl refl (λ r. r) (λ q. q) was.log) refl refl set there c.requires.shaped.outs busy c.requires.faulty;
            course = course_put _ _ world old.wire Broken past (out_wire_in outs p old.wire there refl) unclosed;
            so = record {
              moves = λ e. put old.wire (λ same. with_item_new (world old.wire).sent Broken unclosed (sym (ap (λ (u : Wire). u.sent) (with_wire_same world old.wire _ old.wire refl)) ∙ same));
              takes_nothing = λ q w. with_wire_keeps (λ (u : Wire). u.taken) world old.wire _ w refl;
              allows_nothing = refl;
            };
          };
    }

pub returns-in-Finished-clause-stepped : goal.returns-in-Finished-clause-stepped
returns-in-Finished-clause-stepped g c =
    let view = g.M.Machine.view in
    let node = c.args.self.now in
    let outs = node.outs.items in
    let p = c.args.p in
    let there = c.requires.there in
    let old = out_at outs p in
    let busy : old.done ≡ false = sym c.out_done.ensures ∙ c.if-out_done.false in
    let finished = c.in-Finished.ensures.finished c.in-Finished.item refl in
    let set = c.close_out-in-Finished.ensures in
    record {
      ins_same = refl;
      outs_same = ap (λ os. out_wires os) set ∙ out_wires_set outs p _ there refl;
      in_lanes_same = c.stop.ensures.shape.in_lanes;
      out_lanes_same = c.stop.ensures.shape.out_lanes;
      source_same = c.stop.ensures.shape.source;
      fares = c.stop.ensures.fares;
      passes = pass_self _;
      lanes_same = c.try_put.ensures.lanes;
      goes = λ world past stand was.
          let goes_on = busy_goes_on view node world past p was busy in
          let flag : (world old.wire).finished ≡ true = subst (λ (w : ℕ). (world w).finished ≡ true) c.out_wire.ensures (finished_of c.args.wires.now.queues.items world c.out_wire.result stand (in_queues c.args.wires.now.queues.items c.out_wire.result (subst (λ (w : ℕ). w < length (lanes_of c.args.wires.now)) (sym c.out_wire.ensures) (out_wire_there outs _ (lanes_of c.args.wires.now) c.requires.shaped.outs p there))) finished.2) in record {
            now = world;
            since = was_stopped past p;
            stand = subst (λ (w : Wires). Stand w world) (sym finished.1) stand;
            fits = told view node _ world past p old.held was (c.stop.ensures.stopped past was.machine) c.stop.ensures.fares.stays (log_called view node _ past (was_stopped past p) c.stop.ensures.fares.stays c.stop.ensures.shape refl (λ r. r) refl refl refl (pending_stopped past p) was.log) c.stop.ensures.shape.in_lanes refl refl set there busy flag;
            course = course_past _ _ world past (was_stopped past p) refl (prefix_self past.allowed) (λ q i. inr i);
            so = record { moves = λ e. was_told p goes_on (inl refl); takes_nothing = λ q w. refl; allows_nothing = refl };
          };
    }
