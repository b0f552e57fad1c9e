use Rattle.ff_bits.proofs.NumberBelow.{read_31, reads_31, read_36, reads_36}
use Rattle.ff_bits.proofs.laws.coded_numbers_have_31_or_36_bits.Goals as goal

pub returns : goal.returns
returns c = record { few_31 = read_31; all_31 = reads_31; few_36 = read_36; all_36 = reads_36 }
