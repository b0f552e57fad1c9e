use Rattle.std.proofs.Common.{sym, ◌∙◌}
use Rattle.ff_concat.proofs.Zeros.{none_left}
use Rattle.ff_concat.proofs.track.Track.is_silent.Goals as goal

pub returns-then-not-is_of_video-clause-some : goal.returns-then-not-is_of_video-clause-some
returns-then-not-is_of_video-clause-some c e =
    let s = c.args.self.now in
    none_left s.head s.end s.by (sym c.is_of_video.ensures ∙ c.if-not-is_of_video.true) e
