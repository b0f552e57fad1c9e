use Rattle.std.proofs.Common.{◌≡◌, ◌<◌, ℕ, false, true, refl, sym, ◌∙◌, subst, ap, length, inl, inr}
use Rattle.ff_stream.specs.Stream.{still_open}
use Rattle.ff_stream.specs.Items.{with_item}
use Rattle.ff_stream.specs.Ports.{stream_at}
use Rattle.ff_net.specs.declared.node.Node.{Node}
use Rattle.ff_net.specs.Ways.{Flow}
use Rattle.ff_net.specs.laws.Worlds.{Wire, Stand, take_on, lanes_of}
use Rattle.ff_net.specs.Pasts.{fed}
use Rattle.ff_net.specs.laws.Ports.{in_at}
use Rattle.ff_net.specs.laws.Steps.{took as has_taken}
use Rattle.ff_net.proofs.Flows.{fed_above, stream_at-with_item_same, stream_at-with_item_other}
use Rattle.ff_net.proofs.Moments.{pass_self, with_wire_same, with_item_new}
use Rattle.ff_net.proofs.PortSteps.{in_wire_there, in_wire_in}
use Rattle.ff_net.proofs.Changes.{true_not_false, course_take, took, may_stay, may_machine}
use Rattle.ff_net.proofs.Sendings.{taken_valid}
use Rattle.ff_net.proofs.Logs.{log_called, pending_same}
use Rattle.ff_net.proofs.node.Node.take.Goals as goal

pub try_take-requires : goal.try_take-requires
try_take-requires g c = subst (λ (w : ℕ). w < length (lanes_of c.args.wires.now)) (sym c.in_wire.ensures) (in_wire_there c.args.self.now.ins.items _ (lanes_of c.args.wires.now) c.requires.shaped.ins c.args.p c.requires.there)

pub returns-in-Ok-clause-stepped : goal.returns-in-Ok-clause-stepped
returns-in-Ok-clause-stepped g c =
    let view = g.M.Machine.view in
    let laws = g.met.M.Machine.laws in
    let node = c.args.self.now in
    let ins = node.ins.items in
    let p = c.args.p in
    let x = c.in-Item.item in
    let there = c.requires.there in
    let old = in_at ins p in
    let busy : old.done ≡ false = sym c.in_done-finished.ensures ∙ c.if-finished.false in
    let fresh : node.refused ≡ false = c.if-self.false in
    let wire : c.in_wire.result ≡ old.wire = c.in_wire.ensures in
    let after : Node _ = record { machine = c.feed.new.self; ins = node.ins; outs = node.outs; refused = node.refused; pass = node.pass; hand = node.hand; quiet = false } in
    record {
      ins_same = refl;
      outs_same = refl;
      in_lanes_same = c.feed.ensures.shape.in_lanes;
      out_lanes_same = c.feed.ensures.shape.out_lanes;
      source_same = c.feed.ensures.shape.source;
      fares = c.feed.ensures.fares;
      passes = pass_self _;
      lanes_same = c.try_take.ensures.lanes;
      goes = λ world past stand was.
          let answer = c.in-Item.ensures.item x refl world stand in
          let unclosed : (world old.wire).taken.mark ≡ still_open = subst (λ (w : ℕ). (world w).taken.mark ≡ still_open) wire answer.0 in
          let later : Stand c.try_take.new.self (take_on world old.wire x) = subst (λ (w : ℕ). Stand c.try_take.new.self (take_on world w x)) wire answer.1 in
          let i = was.ins p there in
          let got : stream_at past.got p ≡ (world old.wire).taken = i.exact fresh in
          let got_open : (stream_at past.got p).mark ≡ still_open = ap (λ (s : Flow). s.mark) got ∙ unclosed in
          let valid = (laws node.machine).valid past was.machine in
          let since = fed past p x in
          let valid' = taken_valid view node c.args.wires.now world past p (view node.machine).in_lanes (view node.machine).out_lanes stand was valid ((laws node.machine).keeps past was.machine) x c.try_take.new.self later c.try_take.ensures.lanes c.requires.shaped.ins there got in
          let grown : stream_at since.got p ≡ with_item (world old.wire).taken x = stream_at-with_item_same past.got p x ∙ ap (λ (s : Flow). with_item s x) got in record {
            now = take_on world old.wire x;
            since = since;
            stand = later;
            fits = took view node after world past since p x (view node.machine).in_lanes (lanes_of c.args.wires.now) was (c.in-Ok.ensures.accepted past was.machine got_open valid') c.feed.ensures.fares.stays fresh
                (may_stay view node after past since c.feed.ensures.shape.in_lanes refl (λ d. d) refl (fed_above past p x got_open) (λ q i. i))
                (log_called view node after past since c.feed.ensures.fares.stays c.feed.ensures.shape refl (λ r. fresh) refl refl refl (pending_same past since refl refl) was.log) refl refl there c.requires.shaped.ins busy refl refl (λ q n. stream_at-with_item_other past.got p q x n) (inl grown) (λ r. grown);
            course = course_take _ _ world old.wire x past since refl refl refl (in_wire_in ins p old.wire there refl) (sym (was.ins p there).flag ∙ busy) unclosed;
            so = record {
              moves = λ e. has_taken old.wire (λ same. with_item_new (world old.wire).taken x unclosed (sym (ap (λ (u : Wire). u.taken) (with_wire_same world old.wire _ old.wire refl)) ∙ same));
              takes_nothing = λ q w. absurd q;
              allows_nothing = refl;
            };
          };
    }

pub returns-in-Err-clause-stepped : goal.returns-in-Err-clause-stepped
returns-in-Err-clause-stepped g c =
    let view = g.M.Machine.view in
    let node = c.args.self.now in
    let ins = node.ins.items in
    let p = c.args.p in
    let x = c.in-Item.item in
    let there = c.requires.there in
    let old = in_at ins p in
    let busy : old.done ≡ false = sym c.in_done-finished.ensures ∙ c.if-finished.false in
    let fresh : node.refused ≡ false = c.if-self.false in
    let wire : c.in_wire.result ≡ old.wire = c.in_wire.ensures in
    let after : Node _ = record { machine = c.feed.new.self; ins = node.ins; outs = node.outs; refused = true; pass = node.pass; hand = node.hand; quiet = false } in
    record {
      ins_same = refl;
      outs_same = refl;
      in_lanes_same = c.feed.ensures.shape.in_lanes;
      out_lanes_same = c.feed.ensures.shape.out_lanes;
      source_same = c.feed.ensures.shape.source;
      fares = c.feed.ensures.fares;
      passes = pass_self _;
      lanes_same = c.try_take.ensures.lanes;
      goes = λ world past stand was.
          let answer = c.in-Item.ensures.item x refl world stand in
          let unclosed : (world old.wire).taken.mark ≡ still_open = subst (λ (w : ℕ). (world w).taken.mark ≡ still_open) wire answer.0 in
          let later : Stand c.try_take.new.self (take_on world old.wire x) = subst (λ (w : ℕ). Stand c.try_take.new.self (take_on world w x)) wire answer.1 in
          let got : stream_at past.got p ≡ (world old.wire).taken = (was.ins p there).exact fresh in
          let got_open : (stream_at past.got p).mark ≡ still_open = ap (λ (s : Flow). s.mark) got ∙ unclosed in record {
            now = take_on world old.wire x;
            since = past;
            stand = later;
            fits = took view node after world past past p x (view node.machine).in_lanes (lanes_of c.args.wires.now) was (c.in-Err.ensures.unchanged past was.machine) c.feed.ensures.fares.stays fresh
                (may_machine view node after past past c.feed.ensures.shape.in_lanes refl refl refl (λ q i. i))
                (log_called view node after past past c.feed.ensures.fares.stays c.feed.ensures.shape refl (λ r. fresh) refl refl refl (λ n q x. x) was.log) refl refl there c.requires.shaped.ins busy refl refl (λ q n. refl) (inr (got_open, (x, ap (λ (s : Flow). with_item s x) got))) (λ r. absurd (true_not_false r));
            course = course_take _ _ world old.wire x past past refl refl refl (in_wire_in ins p old.wire there refl) (sym (was.ins p there).flag ∙ busy) unclosed;
            so = record {
              moves = λ e. has_taken old.wire (λ same. with_item_new (world old.wire).taken x unclosed (sym (ap (λ (u : Wire). u.taken) (with_wire_same world old.wire _ old.wire refl)) ∙ same));
              takes_nothing = λ q w. absurd q;
              allows_nothing = refl;
            };
          };
    }
