use Rattle.ff_bits.proofs.LawLemmas.{crc8_behind, crc16_behind}
use Rattle.ff_bits.proofs.laws.a_sum_behind_its_bytes_leaves_nothing.Goals as goal

pub returns : goal.returns
returns c = record { crc8 = crc8_behind; crc16 = crc16_behind }
