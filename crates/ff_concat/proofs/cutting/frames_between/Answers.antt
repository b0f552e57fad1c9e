use Rattle.std.proofs.Common.{◌∙◌, ap, sym, ℕ}
use Rattle.std.specs.Int.{div_ceil}
use Rattle.ff_concat.proofs.Limiting.{audio_count}
use Rattle.ff_concat.proofs.cutting.frames_between.Goals as goal

pub returns-in-Audio-clause-is : goal.returns-in-Audio-clause-is
returns-in-Audio-clause-is c =
    c.div_ceil.ensures
    ∙ (ap (λ (n : ℕ). div_ceil n 1024) c.saturating_sub.ensures
    ∙ sym (audio_count c.args.head.now c.in-Audio.tb c.in-Audio.rate c.in-Audio.bits c.in-Audio.channels c.in-Audio.codec c.args.from c.args.to c.in-Audio.is))
