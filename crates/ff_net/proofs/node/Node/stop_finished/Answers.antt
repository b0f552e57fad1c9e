use Rattle.std.proofs.Common.{◌≡◌, true, ◌∙◌}
use Rattle.ff_net.specs.laws.Steps.{Acts}
use Rattle.ff_net.proofs.Moments.{stepped_then, moves_then}
use Rattle.ff_net.proofs.Rounds.{shaped_later}
use Rattle.ff_net.proofs.node.Node.stop_finished.Goals as goal

pub close_all-closed-requires : goal.close_all-closed-requires
close_all-closed-requires g c = record { shaped = shaped_later g.M.Machine.view _ c.args.self.now c.args.wires.now c.stop_all-stopped.new.self c.args.wires.now c.stop_all-stopped.ensures.stepped c.requires.shaped }

pub returns-clause-stepped : goal.returns-clause-stepped
returns-clause-stepped g c =
    let view = g.M.Machine.view in
    stepped_then view _ _ (Acts (true ≡ true) (Unit {0})) c.args.self.now c.args.wires.now c.stop_all-stopped.new.self c.args.wires.now c.close_all-closed.new.self c.close_all-closed.new.wires
    (λ a o b q d r x y f s. record {
      moves = λ e. moves_then _ _ a b d o q r x y (f.moves c.if-not-stopped.false);
      takes_nothing = λ t w. s.takes_nothing tt w ∙ f.takes_nothing tt w;
      allows_nothing = s.allows_nothing ∙ f.allows_nothing;
    }) c.stop_all-stopped.ensures.stepped c.close_all-closed.ensures.stepped
