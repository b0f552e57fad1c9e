use Rattle.std.proofs.Common.{◌%◌, length, ap, ◌∙◌, arith, ◌++◌}
use Rattle.ff_flac_enc.specs.Head.{block_bits_by}
use Rattle.ff_flac_enc.proofs.HeadLemmas.{header_whole, header_is}
use Rattle.ff_flac_enc.proofs.head.header.Goals as goal

pub into_bytes-requires : goal.into_bytes-requires
into_bytes-requires c =
    let n = c.requires.head.number in
    let is = header_is c.args.head.now c.args.form _ _ c.put_block.new.out c.in_ok-out.ensures c.in_ok-put_number.ensures.ok (c.in_ok-put_block.ensures ∙ ap (λ k. c.put_number.new.self ++ block_bits_by k c.args.head.now.block) c.code_of_block.ensures.is) in
    ap (λ l. length l % 8) is ∙ header_whole c.args.head.now c.args.form (omega (arith, n))
