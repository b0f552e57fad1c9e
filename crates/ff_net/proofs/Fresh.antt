-- How a node begins.
use Rattle.std.proofs.Common.{◌≡◌, ℕ, zero, suc, ◌<◌, Bool, false, List, [], ◌∷◌, map, length, refl, ap, sym, ◌∙◌, subst, arith, inl, Option, None}
use Rattle.ff_stream.specs.laws.Order.{below_self}
use Rattle.ff_stream.specs.Ports.{nothing}
use Rattle.ff_net.specs.declared.ports.InPort.{InPort}
use Rattle.ff_net.specs.declared.ports.OutPort.{OutPort}
use Rattle.ff_net.specs.declared.node.Node.{Node}
use Rattle.ff_net.specs.Pasts.{Task, start}
use Rattle.ff_net.specs.laws.Ports.{in_at, out_at, in_wires, out_wires}
use Rattle.ff_net.specs.laws.Worlds.{fresh}
use Rattle.ff_net.specs.laws.Nodes.{InStands, OutStands, NodeStands, IsSound, MayClose}
use mathlib.Core.List.{IsPrefix}
use Rattle.ff_net.specs.laws.Logs.{AreTicketsOf, hand_of, tickets_in, told_in}
use Rattle.ff_sched.specs.declared.logged.Logged.{Logged}
use Rattle.ff_frame.specs.declared.event.Ticket.{Ticket}
use Rattle.ff_net.specs.laws.Views.{View}
use Rattle.ff_net.proofs.Changes.{true_not_false}

abbrev pub in_new : ℕ → InPort
in_new w = record { wire = w; done = false }

abbrev pub out_new : ℕ → OutPort
out_new w = record { wire = w; held = None; done = false }

in_fresh : (ws : List ℕ) (p : ℕ) → p < length (map in_new ws) → (in_at (map in_new ws) p).done ≡ false
in_fresh [] p lt = absurd (omega arith)
in_fresh (w ∷ ws) zero lt = refl
in_fresh (w ∷ ws) (suc p) lt = in_fresh ws p (omega arith)

out_fresh : (ws : List ℕ) (p : ℕ) → p < length (map out_new ws) → ((out_at (map out_new ws) p).done ≡ false) × ((out_at (map out_new ws) p).held ≡ None)
out_fresh [] p lt = absurd (omega arith)
out_fresh (w ∷ ws) zero lt = (refl, refl)
out_fresh (w ∷ ws) (suc p) lt = out_fresh ws p (omega arith)

pub in_wires_new : (ws : List ℕ) → in_wires (map in_new ws) ≡ ws
in_wires_new [] = refl
in_wires_new (w ∷ ws) = ap (λ (vs : List ℕ). w ∷ vs) (in_wires_new ws)

pub out_wires_new : (ws : List ℕ) → out_wires (map out_new ws) ≡ ws
out_wires_new [] = refl
out_wires_new (w ∷ ws) = ap (λ (vs : List ℕ). w ∷ vs) (out_wires_new ws)

in_stands : (port : InPort) (refused : Bool) (sound may : Type 0) → port.done ≡ false → InStands port fresh nothing refused sound may
in_stands port refused sound may e = record { fed = inl refl; exact = λ r. refl; flag = e; reason = λ d s. absurd (true_not_false (sym d ∙ e)) }

out_stands : (port : OutPort) (stopped sound : Type 0) → port.done ≡ false → port.held ≡ None → OutStands port fresh nothing stopped sound
out_stands port stopped sound e h = record {
  held = λ d. rw h refl;
  unclosed = λ d. refl;
  opened_below = below_self nothing;
  exact = λ s. below_self nothing;
  done = λ d. absurd (true_not_false (sym d ∙ e));
}

pub node_fresh : {M : Type 0} (view : M → View) (node : Node M) (ins outs : List ℕ) (task : Task) → node.ins.items ≡ map in_new ins → node.outs.items ≡ map out_new outs → node.pass.log ≡ [] → node.hand ≡ None → node.quiet ≡ false → (view node.machine).stands (start task)
    → NodeStands view node (λ w. fresh) (start task)
node_fresh view node ins outs task i o log hand quiet s = record {
  machine = s;
  ins = λ p lt. in_stands (in_at node.ins.items p) node.refused (IsSound view node) (MayClose view node (start task) p) (subst (λ (ports : List InPort). (in_at ports p).done ≡ false) (sym i) (in_fresh ins p (subst (λ (ports : List InPort). p < length ports) i lt)));
  outs = λ p lt.
      let e = out_fresh outs p (subst (λ (ports : List OutPort). p < length ports) o lt) in
      out_stands (out_at node.outs.items p) ⊥ (IsSound view node) (subst (λ (ports : List OutPort). (out_at ports p).done ≡ false) (sym o) e.0) (subst (λ (ports : List OutPort). (out_at ports p).held ≡ None) (sym o) e.1);
  beyond = λ p le. refl;
  stopped = λ p n. absurd n;
  log = record {
    granted = ap tickets_in log ∙ ap (λ (h : Option Ticket). hand_of h) (sym hand);
    own = subst (λ (ls : List Logged). AreTicketsOf (view node.machine).source (tickets_in ls)) (sym log) (λ k d lt. absurd (omega (arith, lt)));
    told = subst (λ (ls : List Logged). IsPrefix (told_in ls) []) (sym log) ([], refl);
    all_told = λ r. ap told_in log;
    in_order = record { grants = []; tellings = []; all = log; only_grants = refl; no_grants = refl };
    unread = λ r. refl;
    quiet = λ q. absurd (true_not_false (sym q ∙ quiet));
  };
}
