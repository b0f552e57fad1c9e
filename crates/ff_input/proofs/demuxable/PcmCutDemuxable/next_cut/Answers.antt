use Rattle.ff_input.proofs.PcmOpen.{pcm_open}
use Rattle.ff_input.proofs.demuxable.PcmCutDemuxable.next_cut.Goals as goal

pub returns-clause-undecided : goal.returns-clause-undecided
returns-clause-undecided c = λ e head fed n is cuts.
    let u = c.pull.ensures.undecided head fed n cuts e in
    pcm_open head c.args.self.now fed n is cuts (c.pull.ensures.not_yet e).0 u.0 u.1
