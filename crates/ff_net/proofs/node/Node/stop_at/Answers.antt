use Rattle.std.proofs.Common.{◌≡◌, ◌<◌, ℕ, false, true, refl, sym, ◌∙◌, subst, ap, length, inl, inr}
use Rattle.ff_stream.specs.laws.Order.{prefix_self}
use Rattle.ff_net.specs.laws.Worlds.{lanes_of}
use Rattle.ff_net.specs.Pasts.{was_stopped}
use Rattle.ff_net.specs.laws.Ports.{out_at, out_wires}
use Rattle.ff_net.specs.laws.Steps.{told as was_told}
use Rattle.ff_net.proofs.PortSteps.{out_wires_set, out_wire_there}
use Rattle.ff_net.proofs.Changes.{course_past, told, busy_goes_on}
use Rattle.ff_net.proofs.Queues.{finished_of, in_queues}
use Rattle.ff_net.proofs.Moments.{pass_self}
use Rattle.ff_net.proofs.Logs.{log_called, pending_stopped}
use Rattle.ff_net.proofs.node.Node.stop_at.Goals as goal

pub is_finished-requires : goal.is_finished-requires
is_finished-requires g c = subst (λ (w : ℕ). w < length (lanes_of c.args.wires.now)) (sym c.out_wire.ensures) (out_wire_there c.args.self.now.outs.items _ (lanes_of c.args.wires.now) c.requires.shaped.outs c.args.p c.requires.there)

pub returns-clause-stepped : goal.returns-clause-stepped
returns-clause-stepped g c =
    let view = g.M.Machine.view in
    let node = c.args.self.now in
    let wires = c.args.wires.now in
    let outs = node.outs.items in
    let p = c.args.p in
    let there = c.requires.there in
    let old = out_at outs p in
    let busy : old.done ≡ false = sym c.out_done.ensures ∙ c.if-out_done.false in
    let finished = c.is_finished.ensures.finished c.if-not-is_finished.false in
    let set = c.close_out.ensures in
    record {
      ins_same = refl;
      outs_same = ap (λ os. out_wires os) set ∙ out_wires_set outs p _ there refl;
      in_lanes_same = c.stop.ensures.shape.in_lanes;
      out_lanes_same = c.stop.ensures.shape.out_lanes;
      source_same = c.stop.ensures.shape.source;
      fares = c.stop.ensures.fares;
      passes = pass_self _;
      lanes_same = refl;
      goes = λ world past stand was.
          let goes_on = busy_goes_on view node world past p was busy in
          let flag : (world old.wire).finished ≡ true = subst (λ (w : ℕ). (world w).finished ≡ true) c.out_wire.ensures (finished_of wires.queues.items world c.out_wire.result stand (in_queues wires.queues.items c.out_wire.result (subst (λ (w : ℕ). w < length (lanes_of wires)) (sym c.out_wire.ensures) (out_wire_there outs _ (lanes_of wires) c.requires.shaped.outs p there))) finished) in record {
            now = world;
            since = was_stopped past p;
            stand = stand;
            fits = told view node _ world past p old.held was (c.stop.ensures.stopped past was.machine) c.stop.ensures.fares.stays (log_called view node _ past (was_stopped past p) c.stop.ensures.fares.stays c.stop.ensures.shape refl (λ r. r) refl refl refl (pending_stopped past p) was.log) c.stop.ensures.shape.in_lanes refl refl set there busy flag;
            course = course_past _ _ world past (was_stopped past p) refl (prefix_self past.allowed) (λ q i. inr i);
            so = record { moves = λ e. was_told p goes_on (inl refl); takes_nothing = λ q w. refl; allows_nothing = refl };
          };
    }
