use Rattle.std.proofs.Common.{◌≡◌, arith}
use Rattle.ff_flac_frame.specs.laws.Parts.{part_of}
use Rattle.ff_flac_dec.proofs.ChannelLemmas.{kept_channel}
use Rattle.ff_flac_dec.proofs.channel.kept.Goals as goal

pub returns-then-all_fit-clause-samples : goal.returns-then-all_fit-clause-samples
returns-then-all_fit-clause-samples c =
    let none : c.args.subframe.now.wasted ≡ 0 = omega (arith, c.if-subframe-gt0.false) in
    λ block. kept_channel block (part_of c.args.subframe.now) c.in_ok-samples.samples.now none c.in_ok-samples.ensures
