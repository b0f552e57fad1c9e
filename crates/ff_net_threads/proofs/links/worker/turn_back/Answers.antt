use Rattle.std.proofs.Common.{rules}
use Rattle.ff_net_threads.proofs.LinksLemmas.Linking.{follows_then, lawful_after}
use Rattle.ff_net_threads.proofs.links.worker.turn_back.Goals as goal

pub returns : goal.returns
returns g c n came =
    let view = g.M.Machine.view in (
      follows_then view n c.args.back.now.node c.turn-turn.new.self came.0 c.turn-turn.ensures.follows,
      lawful_after view c.args.back.now.node c.turn-turn.new.self c.turn-turn.ensures.follows c.requires.lawful,
      λ done. c.turn-turn.ensures.done (search rules),
    )
