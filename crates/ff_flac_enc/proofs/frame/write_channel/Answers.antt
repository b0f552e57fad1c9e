use Rattle.std.proofs.Common.{◌∙◌}
use Rattle.ff_frame.specs.Audio.{FitsBits}
use Rattle.ff_flac_enc.proofs.Apart.{some_in_channel, few_in_channel, channel_all, best_written}
use Rattle.ff_flac_enc.proofs.frame.write_channel.Goals as goal

pub write_subframe-requires-clause-some : goal.write_subframe-requires-clause-some
write_subframe-requires-clause-some c = some_in_channel c.args.n c.args.c c.args.samples.now c.deref.result.now (c.deref.ensures.value ∙ c.in_ok-samples.ensures) c.requires.some c.requires.some_samples

pub write_subframe-requires-clause-len : goal.write_subframe-requires-clause-len
write_subframe-requires-clause-len c = few_in_channel c.args.n c.args.c c.args.samples.now c.deref.result.now (c.deref.ensures.value ∙ c.in_ok-samples.ensures) c.requires.few_samples

pub write_subframe-requires-clause-fits : goal.write_subframe-requires-clause-fits
write_subframe-requires-clause-fits c =
    channel_all (FitsBits c.args.bits) c.args.n c.args.c c.args.samples.now c.deref.result.now (c.deref.ensures.value ∙ c.in_ok-samples.ensures) c.requires.one c.requires.fits

pub returns : goal.returns
returns c =
    let s = c.in_ok-write_subframe.ensures in
    best_written c.args.bits c.deref.result.now _ c.args.out.now c.write_subframe.new.out s.0 (c.deref.ensures.value ∙ c.in_ok-samples.ensures) s.1 s.2
