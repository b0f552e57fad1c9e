use Rattle.ff_flac_enc.proofs.Forms.{by_outlook}
use Rattle.ff_flac_enc.proofs.pair.seen.Goals as goal

pub returns : goal.returns
returns c depth xs h = by_outlook depth xs c.args.outlook.now h
