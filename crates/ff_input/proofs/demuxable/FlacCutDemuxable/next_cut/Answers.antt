use Rattle.std.proofs.Common.{subst}
use Rattle.ff_flac_dec.specs.declared.head.FlacHead.{FlacHead}
use Rattle.ff_flac_dec.specs.Streams.{stream_of}
use Rattle.ff_flac_dec.specs.laws.Trails.{MayGoOn}
use Rattle.ff_flac_dec.specs.Cuts.{waiting_in}
use Rattle.ff_input.proofs.FlacOpen.{flac_open}
use Rattle.ff_input.proofs.demuxable.FlacCutDemuxable.next_cut.Goals as goal

pub returns-clause-undecided : goal.returns-clause-undecided
returns-clause-undecided c = λ e head fed n is cuts.
    let may = (c.pull.ensures.not_yet e).1 in
    flac_open head _ _ n (waiting_in c.args.self.now) fed is.stream cuts.goes
    (subst (λ (h : FlacHead). MayGoOn (stream_of h.head) (waiting_in c.args.self.now)) cuts.of_head may)
