use Rattle.ff_flac_frame.proofs.RiceLemmas.{rice_gives}
use Rattle.ff_flac_frame.proofs.residual.next_rice.Goals as goal

pub returns-in-Some-clause-reads : goal.returns-in-Some-clause-reads
returns-in-Some-clause-reads c =
    let s = c.in-Some in
    let o = c.rice_of.ensures in
    rice_gives c.args.k s.zeros s.low c.args.near.now c.code.new.self c.rice_of.result s.ensures.read o.value o.out
