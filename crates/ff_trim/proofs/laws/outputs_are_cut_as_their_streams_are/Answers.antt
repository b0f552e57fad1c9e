use Rattle.ff_trim.proofs.Limiting.{output-below, output-calm, output-settles, output_breaks, output_valid}
use Rattle.ff_trim.proofs.laws.outputs_are_cut_as_their_streams_are.Goals as goal

pub returns-clause-below : goal.returns-clause-below
returns-clause-below c head k r s b = output-below head k r s b

pub returns-clause-calm : goal.returns-clause-calm
returns-clause-calm c head k r = output-calm head k r

pub returns-clause-settles : goal.returns-clause-settles
returns-clause-settles c head k r h = output-settles head k r h

pub returns-clause-breaks : goal.returns-clause-breaks
returns-clause-breaks c head k r e = output_breaks head k r e

pub returns-clause-valid : goal.returns-clause-valid
returns-clause-valid c head k = output_valid head k
