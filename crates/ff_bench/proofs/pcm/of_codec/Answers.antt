use Rattle.std.proofs.Common.{◌≡◌, ◌*◌, length, arith, ◌∙◌, ap}
use Rattle.ff_bench.proofs.pcm.of_codec.Goals as goal

pub decoded_often-requires-clause-blocks : goal.decoded_often-requires-clause-blocks
decoded_often-requires-clause-blocks g c =
    let long : length c.packet_of-packet.result.bytes ≡ 2048 * c.args.size = ap length c.packet_of-packet.ensures ∙ c.in_ok-bytes.ensures in
    record { blocks = 1024; some_blocks = omega arith; few_blocks = omega arith; whole_blocks = omega (arith, long, c.requires.bytes) }

pub pcm_decode-requires-clause-blocks : goal.pcm_decode-requires-clause-blocks
pcm_decode-requires-clause-blocks g c =
    let long : length c.packet_of-packet.result.bytes ≡ 2048 * c.args.size = ap length c.packet_of-packet.ensures ∙ c.in_ok-bytes.ensures in
    record { blocks = 1024; some_blocks = omega arith; few_blocks = omega arith; whole_blocks = omega (arith, long, c.requires.bytes) }
