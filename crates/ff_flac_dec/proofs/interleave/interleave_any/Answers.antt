use Rattle.ff_flac_dec.specs.laws.Joins.{items_of}
use Rattle.ff_flac_dec.proofs.SoundLemmas.{interleave_goes_on}
use Rattle.ff_flac_dec.proofs.interleave.interleave_any.Goals as goal

pub loop-place-preserved : goal.loop-place-preserved
loop-place-preserved c =
    interleave_goes_on (items_of c.args.channels.now) c.args.block c.loop-place.place c.loop-place.out.items c.push_sample_frame.new.out.items _ c.loop-place-test.true c.in_ok-push_sample_frame.ensures.ok c.loop-place.invariant
