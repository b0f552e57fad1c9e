use Rattle.std.proofs.Common.{◌∙◌, ap, ◌++◌}
use Rattle.std.specs.List.{flat_map}
use Rattle.ff_bits.specs.Bits.{bits, bits_of}
use Rattle.ff_bits.specs.Crc.{crc8_of}
use Rattle.ff_flac_enc.specs.Head.{header_bits}
use Rattle.ff_flac_enc.proofs.HeadLemmas.{opened_is}
use Rattle.ff_flac_enc.proofs.head.open_frame.Goals as goal

pub returns : goal.returns
returns c = opened_is c.in_ok-bytes.bytes.items (header_bits c.args.head.now c.args.form) _ c.put_bytes.new.out _ c.crc8.result c.in_ok-bytes.ensures c.new-out.ensures
    (c.in_ok-put_bytes.ensures ∙ ap (λ l. c.new-out.result ++ flat_map (bits_of 8) l) c.deref.ensures.value)
    (c.crc8.ensures.exact ∙ ap (λ l. crc8_of (bits l)) c.deref-2.ensures.value)
    c.in_ok-put.ensures.ok
