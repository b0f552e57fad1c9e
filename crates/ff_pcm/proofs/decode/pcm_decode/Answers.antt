use Rattle.std.proofs.Common.{ap, ◌∙◌, sym, subst, rules}
use Rattle.std.specs.Int.{w64}
use Rattle.std.specs.Int.RustNames.{FitsSigned}
use Rattle.std.proofs.lemmas.Int.{to_z-of_z}
use Rattle.ff_frame.specs.Audio.{IsAudio}
use Rattle.ff_frame.specs.declared.audio.AFrame.{AFrame}
use Rattle.ff_pcm.specs.Frames.{codec_of}
use Rattle.ff_pcm.specs.Samples.{StandFor}
use Rattle.ff_pcm.proofs.SampleLaws.{fields_stand, fields_audio, framed, whole_samples}
use Rattle.ff_pcm.proofs.decode.pcm_decode.Goals as goal

pub decoded-requires-clause-size : goal.decoded-requires-clause-size
decoded-requires-clause-size c =
    whole_samples c.args.head.now c.args.packet.now.bytes c.as_slice-bytes.result.now c.audio_of-rate.result.3 c.size_of_sample.result c.audio_of-rate.ensures.codec c.as_slice-bytes.ensures c.size_of_sample.ensures c.requires.blocks

pub make-requires : goal.make-requires
make-requires c =
    fields_audio c.args.head.now c.args.packet.now.bytes c.as_slice-bytes.result.now c.in_ok-samples.samples _ _ _ c.audio_of-rate.ensures.bits c.audio_of-rate.ensures.channels c.audio_of-rate.ensures.codec
    c.as_slice-bytes.ensures c.requires.head c.requires.blocks c.in_ok-samples.ensures.stand c.in_ok-samples.ensures.fit

pub returns-clause-stand : goal.returns-clause-stand
returns-clause-stand c =
    let P : AFrame → Type 0 = λ f. StandFor (codec_of c.args.head.now) c.args.packet.now.bytes f.samples in
    subst P (sym c.make.ensures) (fields_stand c.args.head.now c.args.packet.now.bytes c.as_slice-bytes.result.now c.in_ok-samples.samples _ c.audio_of-rate.ensures.codec c.as_slice-bytes.ensures c.in_ok-samples.ensures.stand)

pub returns-clause-value : goal.returns-clause-value
returns-clause-value c =
    let fits : FitsSigned w64 c.args.packet.now.pts = search rules in
    framed c.args.head.now c.args.packet.now c.make.result (ap (λ (f : AFrame). f.pts) c.make.ensures ∙ to_z-of_z w64 c.args.packet.now.pts fits)
    (ap (λ (f : AFrame). f.rate) c.make.ensures ∙ c.audio_of-rate.ensures.rate) (ap (λ (f : AFrame). f.bits) c.make.ensures ∙ c.audio_of-rate.ensures.bits)
    (ap (λ (f : AFrame). f.channels) c.make.ensures ∙ c.audio_of-rate.ensures.channels) (returns-clause-stand c)

pub returns-clause-sound : goal.returns-clause-sound
returns-clause-sound c =
    let P : AFrame → Type 0 = λ f. IsAudio f.bits f.channels f.samples in
    record {
      rate_is = ap (λ (f : AFrame). f.rate) c.make.ensures ∙ c.audio_of-rate.ensures.rate;
      bits_are = ap (λ (f : AFrame). f.bits) c.make.ensures ∙ c.audio_of-rate.ensures.bits;
      channels_are = ap (λ (f : AFrame). f.channels) c.make.ensures ∙ c.audio_of-rate.ensures.channels;
      audio = subst P (sym c.make.ensures) (fields_audio c.args.head.now c.args.packet.now.bytes c.as_slice-bytes.result.now c.in_ok-samples.samples _ _ _ c.audio_of-rate.ensures.bits c.audio_of-rate.ensures.channels c.audio_of-rate.ensures.codec c.as_slice-bytes.ensures c.requires.head c.requires.blocks c.in_ok-samples.ensures.stand c.in_ok-samples.ensures.fit);
    }
