use Rattle.ff_flac_dec.proofs.HeadLemmas.{told_not_yet, told_decided, told_stays, told_sound, reached_on}
use Rattle.ff_flac_dec.proofs.walk.read_head.Goals as goal

pub returns-clause-not_yet : goal.returns-clause-not_yet
returns-clause-not_yet c = told_not_yet c.args.whole c.args.bytes.now c.read.result (c.read.ensures.exact (reached_on _ c.args.bytes.now c.new-walk.ensures))

pub returns-clause-decided : goal.returns-clause-decided
returns-clause-decided c = told_decided c.args.whole c.args.bytes.now c.read.result (c.read.ensures.exact (reached_on _ c.args.bytes.now c.new-walk.ensures))

pub returns-clause-sound : goal.returns-clause-sound
returns-clause-sound c = told_sound c.args.whole c.args.bytes.now c.read.result (c.read.ensures.exact (reached_on _ c.args.bytes.now c.new-walk.ensures))

pub returns-clause-stays : goal.returns-clause-stays
returns-clause-stays c = told_stays c.args.whole c.args.bytes.now c.read.result (c.read.ensures.exact (reached_on _ c.args.bytes.now c.new-walk.ensures))
