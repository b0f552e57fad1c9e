use Rattle.ff_flac_enc.proofs.Codes.{codes, if_all}
use Rattle.ff_flac_enc.proofs.at_once.encode_blocks.Goals as goal

pub returns : goal.returns
returns g c = if_all c.all_of.result _ _ c.all_of.ensures (λ v e. codes _ _ _ v.items c.in_ok-each.ensures e)
