use Rattle.ff_joins.specs.laws.JoinBreaks.{lost_by}
use Rattle.ff_joins.specs.Joined.{row_stream}
use Rattle.ff_joins.proofs.laws.unbroken_inputs_make_no_break.Goals as goal

pub returns : goal.returns
returns c n channels rate bits all ss h b = let l = lost_by n (λ p. row_stream (channels p) (ss p)) b in h l.0 l.1.is
