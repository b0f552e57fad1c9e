use Rattle.ff_source.proofs.Shapes.{frames_shape, stream_limited, stream_valid}
use Rattle.ff_source.proofs.laws.sources_give_valid_streams.Goals as goal

pub returns : goal.returns
returns c = record { shape = frames_shape; limited = stream_limited; valid = stream_valid }
