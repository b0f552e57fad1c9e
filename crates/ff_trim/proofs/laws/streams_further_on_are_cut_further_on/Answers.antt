use Rattle.ff_trim.proofs.Limiting.{cut-below, cut-calm, cut-settles, cut_breaks}
use Rattle.ff_trim.proofs.laws.streams_further_on_are_cut_further_on.Goals as goal

pub returns-clause-below : goal.returns-clause-below
returns-clause-below c head k r s b = cut-below head k r s b

pub returns-clause-calm : goal.returns-clause-calm
returns-clause-calm c head k r = cut-calm head k r

pub returns-clause-settles : goal.returns-clause-settles
returns-clause-settles c head k r h = cut-settles head k r h

pub returns-clause-breaks : goal.returns-clause-breaks
returns-clause-breaks c head k r e = cut_breaks head k r e
