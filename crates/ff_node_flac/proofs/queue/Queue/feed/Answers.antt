use Rattle.std.proofs.Common.{sym, subst, [], ◌∷◌, ◌++◌, ◌+◌, length}
use Rattle.ff_frame.specs.declared.audio.AFrame.{AFrame}
use Rattle.ff_flac_enc.specs.laws.Cuts.{Cuts}
use Rattle.ff_flac_enc.specs.Gathered.{EndInTime}
use Rattle.ff_node_flac.specs.Packets.{at_coded}
use Rattle.ff_node_flac.proofs.Gathers.{fed_more, same_depth, on_ok}
use Rattle.ff_node_flac.proofs.queue.Queue.feed.Goals as goal

pub returns-then-frame-le24-clause-ok : goal.returns-then-frame-le24-clause-ok
returns-then-frame-le24-clause-ok c =
    let q = c.args.self.now in
    let f = c.args.frame in
    let same = same_depth f c.requires.sound.some_bits c.if-frame-le24.true in
    on_ok c.feed.result _ _
    (λ h fed done g t. fed_more q.blocks c.feed.new.self q.cut.items q.codes.items q.counter q.given fed done (at_coded f) g c.requires.goes_on c.feed.ensures.ended
    (subst (λ (x : AFrame). Cuts c.feed.new.self (fed ++ x ∷ []) (q.given + length q.cut.items)) (sym same)
    (h fed (q.given + length q.cut.items) g.cuts (subst (λ (x : AFrame). EndInTime (fed ++ x ∷ [])) same t))))
    c.feed.ensures.ok

pub returns-in-Ok-feed-clause-ok : goal.returns-in-Ok-feed-clause-ok
returns-in-Ok-feed-clause-ok c fed done g t =
    let q = c.args.self.now in
    let f = c.args.frame in
    let same = c.in-Ok.ensures.is in
    fed_more q.blocks c.feed-2.new.self q.cut.items q.codes.items q.counter q.given fed done (at_coded f) g c.requires.goes_on c.feed-2.ensures.ended
    (subst (λ (x : AFrame). Cuts c.feed-2.new.self (fed ++ x ∷ []) (q.given + length q.cut.items)) same
    (c.in-Ok-feed.ensures.ok fed (q.given + length q.cut.items) g.cuts (subst (λ (x : AFrame). EndInTime (fed ++ x ∷ [])) (sym same) t)))
