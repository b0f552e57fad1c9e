use Rattle.std.proofs.Common.{◌∙◌, ℤ, List, sym, ap, subst}
use Rattle.std.specs.Int.{w64}
use Rattle.std.proofs.lemmas.Int.{to_z-of_z}
use Rattle.ff_frame.specs.Audio.{IsAudio}
use Rattle.ff_frame.specs.Frame.{audio_frame}
use Rattle.ff_frame.specs.declared.audio.AFrame.{AFrame}
use Rattle.ff_flac_frame.specs.laws.Parts.{frame_of}
use Rattle.ff_flac_frame.proofs.LawLemmas.{in_shape}
use Rattle.ff_flac_dec.specs.Channels.{decoded}
use Rattle.ff_flac_dec.proofs.FrameLemmas.{is_audio, frame_again}
use Rattle.ff_flac_dec.proofs.sound.sound.Goals as goal

pub samples-requires-clause-frame : goal.samples-requires-clause-frame
samples-requires-clause-frame c =
    let t = c.requires.frame in
    frame_again c.args.stream.now t.1 c.args.frame.now (in_shape c.args.stream.now c.requires.stream t.0 (frame_of t.1 c.args.frame.now) t.2 t.3)

pub make-requires : goal.make-requires
make-requires c =
    let t = c.requires.frame in
    let h = frame_again c.args.stream.now t.1 c.args.frame.now (in_shape c.args.stream.now c.requires.stream t.0 (frame_of t.1 c.args.frame.now) t.2 t.3) in
    let f = frame_of 0 c.args.frame.now in
    let e = c.new.ensures ∙ c.in_ok-samples.ensures.ok in
    subst (λ (xs : List ℤ). IsAudio c.args.stream.now.bits c.args.stream.now.channels xs) (sym e) (is_audio c.args.stream.now f c.requires.stream h c.in_ok-samples.ensures.within)

pub returns-clause-ok : goal.returns-clause-ok
unfolding decoded
returns-clause-ok c =
    let e = c.new.ensures ∙ c.in_ok-samples.ensures.ok in
    c.make.ensures ∙ ap (λ (z : ℤ). audio_frame z c.args.stream.now.rate c.args.stream.now.bits c.args.stream.now.channels c.new.result) (to_z-of_z w64 c.args.pts c.ranges.pts) ∙ ap (λ (xs : List ℤ). audio_frame c.args.pts c.args.stream.now.rate c.args.stream.now.bits c.args.stream.now.channels xs) e

pub returns-clause-sound : goal.returns-clause-sound
returns-clause-sound c =
    let t = c.requires.frame in
    let h = frame_again c.args.stream.now t.1 c.args.frame.now (in_shape c.args.stream.now c.requires.stream t.0 (frame_of t.1 c.args.frame.now) t.2 t.3) in
    let f = frame_of 0 c.args.frame.now in
    let e = c.new.ensures ∙ c.in_ok-samples.ensures.ok in
    let a = subst (λ (xs : List ℤ). IsAudio c.args.stream.now.bits c.args.stream.now.channels xs) (sym e) (is_audio c.args.stream.now f c.requires.stream h c.in_ok-samples.ensures.within) in
    subst (λ (x : AFrame). IsAudio x.bits x.channels x.samples) (sym c.make.ensures) a
