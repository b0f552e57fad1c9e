use Rattle.ff_flac_dec.proofs.ChannelLemmas.{map_once, fits_raised}
use Rattle.ff_flac_dec.proofs.channel.with_wasted.Goals as goal

pub returns-then-wasted-eq0-clause-ok : goal.returns-then-wasted-eq0-clause-ok
returns-then-wasted-eq0-clause-ok c = map_once c.args.wasted c.args.samples.items c.if-wasted-eq0.true

pub raise_all-requires : goal.raise_all-requires
raise_all-requires c = record {
  fits = fits_raised c.args.wasted c.args.samples.items c.as_slice.result.now c.power.result c.requires.depth c.requires.within c.as_slice.ensures.value c.power.ensures;
}
