use Rattle.ff_flac_enc.proofs.Forms.{signal_written}
use Rattle.ff_flac_enc.proofs.pair.write_signal.Goals as goal

pub returns : goal.returns
returns c = signal_written c.args.depth c.args.xs.now c.args.plan c.args.out.now c.write_plan.new.out c.write_plan.result c.requires.plan c.write_plan.ensures
