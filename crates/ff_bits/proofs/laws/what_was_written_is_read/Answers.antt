use Rattle.ff_bits.proofs.LawLemmas.{reads_pieces, only_pieces}
use Rattle.ff_bits.proofs.laws.what_was_written_is_read.Goals as goal

pub returns : goal.returns
returns c = record { read = reads_pieces; only = only_pieces }
