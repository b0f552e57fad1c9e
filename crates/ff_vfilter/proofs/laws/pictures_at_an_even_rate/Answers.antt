use Rattle.ff_vfilter.proofs.Evenly.{rated_is_even}
use Rattle.ff_vfilter.proofs.LastFrames.{shown_is_last, known_by_last, number_rescaled}
use Rattle.ff_vfilter.proofs.laws.pictures_at_an_even_rate.Goals as goal

pub returns-clause-last : goal.returns-clause-last
returns-clause-last c scale a b tb format width height sar_num sar_den t f gs v e n = shown_is_last scale a b tb format width height sar_num sar_den t f gs v e n

pub returns-clause-known : goal.returns-clause-known
returns-clause-known c scale a b tb format width height sar_num sar_den t f gs v e = known_by_last scale a b tb format width height sar_num sar_den t f gs v e

pub returns-clause-steps : goal.returns-clause-steps
returns-clause-steps c scale t = rated_is_even scale t

pub returns-clause-rescaled : goal.returns-clause-rescaled
returns-clause-rescaled c from to a b t = number_rescaled from to a b t
