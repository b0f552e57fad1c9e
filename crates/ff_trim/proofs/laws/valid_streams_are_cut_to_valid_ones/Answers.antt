use Rattle.ff_trim.proofs.Valid.{cut_valid}
use Rattle.ff_trim.proofs.laws.valid_streams_are_cut_to_valid_ones.Goals as goal

pub returns : goal.returns
returns c head k = cut_valid head k
