use Rattle.std.proofs.Common.{◌≡◌, ℕ, ℤ, length, Err, ap, sym, subst, ◌∙◌, pos, rules, to_z, of_z}
use Rattle.std.specs.Prelude.{◌/◌, FitsSigned}
use Rattle.std.specs.Int.{w64}
use Rattle.std.proofs.lemmas.Int.{to_z-of_z}
use Rattle.ff_flac_frame.specs.declared.stream.FlacStream.{FlacStream}
use Rattle.ff_flac_frame.specs.declared.frame.FlacFrame.{FlacFrame}
use Rattle.ff_flac_frame.specs.laws.Parts.{frame_of}
use Rattle.ff_flac_dec.specs.Channels.{decoded}
use Rattle.ff_flac_dec.specs.Streams.{stream_of}
use Rattle.ff_node_codec.specs.laws.codecs.FlacLaws.{begins_whole, held_other, sounds_are, LastsAs, decoded_again, within_again}
use Rattle.ff_node_codec.proofs.codecs.flac.sound_of.Goals as goal

at_time : (s : FlacStream) (pts : ℤ) (number : ℕ) (f : FlacFrame) → FitsSigned w64 pts
    → decoded s (to_z w64 (of_z w64 pts)) (frame_of 0 f) ≡ decoded s pts (frame_of number f)
at_time s pts number f fits = ap (λ (z : ℤ). decoded s z (frame_of 0 f)) (to_z-of_z w64 pts fits) ∙ decoded_again s pts number f

pub decode-requires-clause-frame : goal.decode-requires-clause-frame
decode-requires-clause-frame c =
    let whole = c.requires.whole in
    let p = c.args.packet.now in
    (p.bytes, whole.0, length p.bytes, begins_whole c.args.head.now.head p (frame_of whole.0 c.args.frame.now) whole.1)

pub returns-then-sample_frames-packet : goal.returns-then-sample_frames-packet
returns-then-sample_frames-packet c =
    let whole = c.requires.whole in
    let s = stream_of c.args.head.now.head in
    let p = c.args.packet.now in
    let fits : FitsSigned w64 p.pts = search rules in
    let count : c.sample_frames.result ≡ pos (length c.in-Ok.sound.samples / c.in-Ok.sound.channels) = c.sample_frames.ensures in
    let frames_fit : FitsSigned w64 c.sample_frames.result = search rules in
    let duration_fits : FitsSigned w64 p.duration = search rules in
    let long : c.sample_frames.result ≡ p.duration =
    sym (to_z-of_z w64 c.sample_frames.result frames_fit) ∙ (ap (to_z w64) c.if-sample_frames-packet.true ∙ to_z-of_z w64 p.duration duration_fits) in
    sym ((sounds_are c.args.head.now.head p c.in-Ok.sound).1 (record {
      whole = frame_of whole.0 c.args.frame.now;
      read = whole.1;
      within = within_again s 0 whole.0 c.args.frame.now c.in-Ok.ensures.within;
      is = c.in-Ok.ensures.ok ∙ at_time s p.pts whole.0 c.args.frame.now fits;
      long = sym long ∙ count;
    }))

pub returns-else-sample_frames-packet : goal.returns-else-sample_frames-packet
returns-else-sample_frames-packet c =
    let whole = c.requires.whole in
    let s = stream_of c.args.head.now.head in
    let p = c.args.packet.now in
    let fits : FitsSigned w64 p.pts = search rules in
    let count : c.sample_frames.result ≡ pos (length c.in-Ok.sound.samples / c.in-Ok.sound.channels) = c.sample_frames.ensures in
    let same = c.in-Ok.ensures.ok ∙ at_time s p.pts whole.0 c.args.frame.now fits in
    sym (held_other c.args.head.now.head p (frame_of whole.0 c.args.frame.now) whole.1
    (λ long within. c.if-sample_frames-packet.false
    (ap (of_z w64) (count ∙ sym (subst (LastsAs p) (sym same) long)))))

pub returns-in-Err-OutOfDepth : goal.returns-in-Err-OutOfDepth
returns-in-Err-OutOfDepth c =
    let whole = c.requires.whole in
    let s = stream_of c.args.head.now.head in
    sym (held_other c.args.head.now.head c.args.packet.now (frame_of whole.0 c.args.frame.now) whole.1
    (λ long within. c.in-Err-OutOfDepth.ensures.out (ap Err c.in-Err-OutOfDepth.field-0-is) (within_again s whole.0 0 c.args.frame.now within)))
