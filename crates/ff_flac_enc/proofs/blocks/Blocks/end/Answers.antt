use Rattle.std.proofs.Common.{refl}
use Rattle.ff_flac_enc.proofs.GatherState.{end_cuts}
use Rattle.ff_flac_enc.proofs.blocks.Blocks.end.Goals as goal

pub returns-clause-cuts : goal.returns-clause-cuts
returns-clause-cuts c = λ fed n cuts. end_cuts c.args.self.now _ fed n cuts c.requires refl refl refl refl
