use Rattle.std.proofs.Common.{refl, ◌-◌}
use Rattle.ff_flac_enc.proofs.Apart.{apart_is}
use Rattle.ff_flac_enc.proofs.frame.write_apart.Goals as goal

pub returns : goal.returns
returns c = apart_is c.args.bits c.args.n c.args.samples.now c.args.head.now (c.args.n - 1) _ c.write_channels.new.out c.requires.other c.requires.few c.requires.some refl c.in_ok-out.ensures c.in_ok-write_channels.ensures
