use Rattle.std.proofs.Common.{refl, ap, ◌∙◌}
use Rattle.ff_bits.specs.Bits.{bits}
use Rattle.ff_bits.specs.Crc.{crc16_of}
use Rattle.ff_flac_enc.proofs.HeadLemmas.{closed_is}
use Rattle.ff_flac_enc.proofs.head.close_frame.Goals as goal

pub returns : goal.returns
returns c = closed_is c.args.out _ _ _ _ c.crc16-sum.result _ _ c.in_ok-pad.ensures.ok c.into_bytes-bytes.ensures.bits (c.crc16-sum.ensures.exact ∙ ap (λ l. crc16_of (bits l)) c.deref.ensures.value)
    refl refl c.in_ok-push.ensures.items c.in_ok-push-2.ensures.items
