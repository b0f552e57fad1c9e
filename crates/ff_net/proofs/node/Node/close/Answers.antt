use Rattle.std.proofs.Common.{◌≡◌, ◌<◌, ◌⊎◌, ℕ, false, refl, sym, ◌∙◌, subst, ap, length, inl, inr}
use Rattle.ff_stream.specs.Ports.{IsClosed}
use Rattle.ff_net.specs.Ways.{Flow}
use Rattle.ff_net.specs.laws.Worlds.{Wire, Stand, finish_on, lanes_of}
use Rattle.ff_net.specs.laws.Ports.{in_at, in_wires}
use Rattle.ff_net.specs.laws.Laws.{NoMatter}
use Rattle.ff_net.specs.laws.Nodes.{IsSound, MayClose}
use Rattle.ff_net.specs.laws.Steps.{finished}
use Rattle.ff_net.proofs.Moments.{pass_self, fault_self, with_wire_same, with_wire_keeps}
use Rattle.ff_net.proofs.PortSteps.{in_wires_set, in_wire_there, in_wire_in, out_ports_count}
use Rattle.ff_net.proofs.Changes.{course_finish, closed}
use Rattle.ff_net.proofs.Logs.{log_still}
use Rattle.ff_net.proofs.node.Node.close.Goals as goal

pub finish-requires : goal.finish-requires
finish-requires g c = subst (λ (w : ℕ). w < length (lanes_of c.args.wires.now)) (sym c.in_wire.ensures) (in_wire_there c.args.self.now.ins.items _ (lanes_of c.args.wires.now) c.requires.shaped.ins c.args.p c.requires.there)

pub returns-clause-stepped : goal.returns-clause-stepped
returns-clause-stepped g c =
    let view = g.M.Machine.view in
    let laws = g.met.M.Machine.laws in
    let node = c.args.self.now in
    let ins = node.ins.items in
    let p = c.args.p in
    let there = c.requires.there in
    let old = in_at ins p in
    let busy : old.done ≡ false = sym c.in_done.ensures ∙ c.if-in_done.false in
    let set = c.finish_in.ensures in
    let wire : c.in_wire.result ≡ old.wire = c.in_wire.ensures in
    let count : length node.outs.items ≡ length (view node.machine).out_lanes = out_ports_count node.outs.items _ (lanes_of c.args.wires.now) c.requires.shaped.outs in
    record {
      ins_same = ap (λ is. in_wires is) set ∙ in_wires_set ins p _ there refl;
      outs_same = refl;
      in_lanes_same = refl;
      out_lanes_same = refl;
      source_same = refl;
      fares = fault_self (view node.machine);
      passes = pass_self _;
      lanes_same = c.finish.ensures.lanes;
      goes = λ world past stand was.
          let i = was.ins p there in
          let why : IsSound view node → IsClosed (world old.wire).taken ⊎ MayClose view node past p =
          λ s. elim (c.if-not-may_finish.ensures.why refl s) [
            | inl spent ↦ elim ((laws node.machine).spent_only past p was.machine spent) [
              | inl c ↦ inl (subst (λ (t : Flow). IsClosed t) (i.exact s.0) c)
              | inr o ↦ inr (subst (λ (n : ℕ). 0 < n) (sym count) o.0, inl (subst (λ (n : ℕ). NoMatter (view node.machine).in_lanes n past p) (sym count) o.1))
            ]
            | inr d ↦ inr (d.0, inr d.1)
          ] in record {
            now = finish_on world old.wire;
            since = past;
            stand = subst (λ (w : ℕ). Stand c.finish.new.self (finish_on world w)) wire (c.finish.ensures.finished world stand);
            fits = closed view node _ world past p (view node.machine).in_lanes (lanes_of c.args.wires.now) was refl (log_still view node _ past refl refl refl (λ r. r) (λ q. q) was.log) refl refl set there c.requires.shaped.ins why;
            course = course_finish _ _ world old.wire past (in_wire_in ins p old.wire there refl);
            so = record {
              moves = λ e. finished old.wire (sym i.flag ∙ busy) (ap (λ (u : Wire). u.finished) (with_wire_same world old.wire _ old.wire refl));
              takes_nothing = λ q w. with_wire_keeps (λ (u : Wire). u.taken) world old.wire _ w refl;
              allows_nothing = refl;
            };
          };
    }
