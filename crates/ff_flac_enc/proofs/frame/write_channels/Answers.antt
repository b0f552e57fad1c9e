use Rattle.ff_flac_enc.specs.Channels.{channel_of, best_bits}
use Rattle.ff_flac_enc.proofs.Apart.{flat_more}
use Rattle.ff_flac_enc.proofs.frame.write_channels.Goals as goal

pub loop-c-preserved : goal.loop-c-preserved
loop-c-preserved c = flat_more (λ k. best_bits c.args.bits (channel_of c.args.n c.args.samples.now k)) c.loop-c.c c.loop-c.out c.write_channel.new.out _ c.loop-c.invariant c.in_ok-write_channel.ensures
