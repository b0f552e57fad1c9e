use Rattle.ff_flac_enc.proofs.Forms.{pair_written}
use Rattle.ff_flac_enc.proofs.pair.write_both.Goals as goal

pub returns : goal.returns
returns c =
    pair_written c.args.bits c.args.left.now c.args.right.now c.args.mid.now c.args.side.now c.args.choice.now.shape c.requires.mid_is c.requires.side_is
    _ _ c.first_of-first.result.now c.second_of-second.result.now c.args.out.now c.write_signal.new.out c.write_signal-2.new.out
    c.first_depth_of-depth.ensures c.first_of-first.ensures c.second_depth_of-depth.ensures c.second_of-second.ensures
    c.in_ok-write_signal.ensures c.in_ok-write_signal-2.ensures
