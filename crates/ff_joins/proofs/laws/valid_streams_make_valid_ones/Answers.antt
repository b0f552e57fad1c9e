use Rattle.ff_joins.proofs.JoinHeads.{join_valid}
use Rattle.ff_joins.proofs.JoinShape.{sound_shape}
use Rattle.ff_joins.proofs.laws.valid_streams_make_valid_ones.Goals as goal

pub returns-clause-shape : goal.returns-clause-shape
returns-clause-shape c n channels tbs codecs rate bits all tb codec ss valid sum few = sound_shape n channels tbs codecs rate bits all tb codec ss valid sum few

pub returns-clause-sound : goal.returns-clause-sound
returns-clause-sound c h hs head ss sound alike valid = join_valid h hs head ss sound alike valid
