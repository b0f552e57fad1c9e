use Rattle.ff_trim.proofs.Counting.{so_many, fewer_than}
use Rattle.ff_trim.proofs.laws.cuts_by_number_end_with_the_last_frame.Goals as goal

pub returns-clause-first : goal.returns-clause-first
returns-clause-first c n before after m e = so_many n before after m e

pub returns-clause-fewer : goal.returns-clause-fewer
returns-clause-fewer c n s lt = fewer_than n s.items s.mark lt
