use Rattle.std.proofs.Common.{◌≡◌, ◌<◌, ℕ, length, true, false, None}
use Rattle.ff_net.specs.declared.wires.Wires.{Wires}
use Rattle.ff_net.specs.laws.Nodes.{IsSound}
use Rattle.ff_net.specs.laws.Ports.{out_at, SomeHeld}
use Rattle.ff_net.specs.laws.Steps.{Stepped, Readies}
use Rattle.ff_net.proofs.node.Node.fill_all.Given as goal

abbrev pub invariant-loop-p : goal.invariant-loop-p
invariant-loop-p g l =
    let view = g.M.Machine.view in record {
      count : l.count ≡ length l.self.outs.items;
      outputs : length l.self.outs.items ≡ length (view l.self.machine).out_lanes;
      stepped : (wires : Wires) → Stepped view (Readies view (λ q. q < l.p) l.due l.self) l.fn.self wires l.self wires;
      pass : l.self.pass ≡ l.fn.self.pass;
      held : l.due ≡ true → (h : SomeHeld l.self.outs.items) × (h.place < l.p);
      none : l.due ≡ false → (q : ℕ) → q < l.p → (out_at l.self.outs.items q).done ≡ false → (out_at l.self.outs.items q).held ≡ None;
      done : (q : ℕ) → (out_at l.self.outs.items q).done ≡ (out_at l.fn.self.outs.items q).done;
      kept : length l.self.outs.items ≡ length l.fn.self.outs.items;
      out_lanes : (view l.self.machine).out_lanes ≡ (view l.fn.self.machine).out_lanes;
      ins : l.self.ins ≡ l.fn.self.ins;
      sound : IsSound view l.self → IsSound view l.fn.self;
      source : (view l.self.machine).source ≡ (view l.fn.self.machine).source;
    }
