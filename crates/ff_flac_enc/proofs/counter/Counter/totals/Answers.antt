use Rattle.ff_flac_enc.specs.Totals.{frames_bytes}
use Rattle.ff_flac_enc.proofs.TotalLemmas.{totals_are}
use Rattle.ff_flac_enc.proofs.counter.Counter.totals.Goals as goal

pub returns : goal.returns
returns c = λ all h. totals_are c.args.self all c.unwrap_or-sizes.result c.finalize.result h c.unwrap_or-sizes.ensures (c.finalize.ensures (frames_bytes all) h.message)
