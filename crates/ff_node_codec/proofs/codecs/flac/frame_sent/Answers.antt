use Rattle.std.proofs.Common.{ℕ, List, length, Option, Some, None, IfSome, refl, subst, sym}
use Rattle.ff_flac_frame.specs.declared.stream.FlacStream.{FlacStream}
use Rattle.ff_flac_frame.specs.declared.frame.FlacFrame.{FlacFrame}
use Rattle.ff_flac_frame.specs.Frame.{Begins}
use Rattle.ff_flac_frame.specs.laws.Parts.{frame_of}
use Rattle.ff_flac_dec.specs.Streams.{stream_of}
use Rattle.ff_node_codec.specs.codecs.Decoding.{IsFlacPacket}
use Rattle.ff_node_codec.specs.laws.codecs.FlacLaws.{whole_begins}
use Rattle.ff_node_codec.proofs.codecs.flac.frame_sent.Goals as goal

weaker : {A : Type 0} (P Q : A → Type 0) (o : Option A) → ((a : A) → P a → Q a) → IfSome o P → IfSome o Q
weaker P Q (Some a) f h = f a h
weaker P Q None f h = tt

pub returns : goal.returns
returns c =
    let head = c.args.head.now.head in
    let p = c.args.packet.now in
    let Whole : FlacStream → List ℕ → FlacFrame → Type 0 = λ s bytes f. (n : ℕ) × Begins s bytes (frame_of n f) (length bytes) in
    let sent : IfSome c.take.result (Whole (stream_of head) p.bytes) =
    subst (λ (s : FlacStream). IfSome c.take.result (Whole s p.bytes)) c.stream.ensures
    (subst (λ (bytes : List ℕ). IfSome c.take.result (Whole c.stream.result bytes)) c.as_slice.ensures c.take.ensures) in
    weaker (Whole (stream_of head) p.bytes) (λ f. (n : ℕ) × IsFlacPacket head p (frame_of n f)) c.take.result
    (λ f w. (w.0, whole_begins head p (frame_of w.0 f) (length p.bytes) w.1 refl)) sent
