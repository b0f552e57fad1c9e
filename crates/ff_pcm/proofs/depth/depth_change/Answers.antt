use Rattle.std.proofs.Common.{sym, subst, List, ℤ}
use Rattle.ff_frame.specs.Audio.{IsAudio}
use Rattle.ff_pcm.proofs.DepthLaws.{shifted_audio}
use Rattle.ff_pcm.proofs.depth.depth_change.Goals as goal

pub returns-clause-sound : goal.returns-clause-sound
returns-clause-sound c =
    let f = c.args.frame.now in
    let P : List ℤ → Type 0 = λ xs. IsAudio c.args.bits f.channels xs in
    subst P (sym c.shift_all.ensures) (shifted_audio f.bits c.args.bits f.channels f.samples c.requires.frame c.requires.some_bits c.requires.few_bits)
