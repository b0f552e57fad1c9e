use Rattle.std.proofs.Common.{◌≡◌, ℕ, ◌<◌, List, get_or, sym, subst}
use Rattle.std.specs.Result.{IfOk}
use Rattle.ff_frame.specs.declared.audio.AFrame.{AFrame}
use Rattle.ff_pcm.specs.Frames.{frame_of}
use Rattle.ff_node_codec.specs.laws.codecs.PcmLaws.{octets_same}
use Rattle.ff_node_codec.proofs.codecs.pcm.frame.Goals as goal

pub returns : goal.returns
returns c =
    let p = c.args.packet.now in
    let small : (i : ℕ) → get_or p.bytes i 0 < 256 = subst (λ (bs : List ℕ). (i : ℕ) → get_or bs i 0 < 256) c.as_slice.ensures c.know_bytes.ensures.each in
    subst (λ (bs : List ℕ). IfOk c.pcm_decode.result (λ (frame : AFrame). frame ≡ frame_of c.args.head.now (record p { bytes = bs }))) (sym (octets_same p.bytes small)) c.pcm_decode.ensures.value
