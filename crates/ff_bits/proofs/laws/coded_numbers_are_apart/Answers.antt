use Rattle.ff_bits.proofs.NumberApart.{one_number, whole_number, part_begins}
use Rattle.ff_bits.proofs.laws.coded_numbers_are_apart.Goals as goal

pub returns : goal.returns
returns c = record { one = one_number; whole = whole_number; some = part_begins }
