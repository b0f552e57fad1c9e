use Rattle.ff_bits.proofs.Carried.{many_start, many_on}
use Rattle.ff_bits.proofs.crc.many_to_16.Goals as goal

pub loop-left-init : goal.loop-left-init
loop-left-init c = many_start c.args.bytes.now

pub loop-left-preserved : goal.loop-left-preserved
loop-left-preserved c = many_on c.loop-left.words c.bring_in.new.words _ c.loop-left.left.now _ c.bring_in.ensures c.to_front.ensures c.loop-left.invariant
