use Rattle.std.proofs.Common.{◌≡◌, subst}
use Rattle.ff_y4m.specs.declared.head.Y4mHead.{Y4mHead}
use Rattle.ff_y4m.specs.declared.frame.Front.TheVariants.{Wait}
use Rattle.ff_y4m.specs.Packets.{unit}
use Rattle.ff_y4m.specs.Cuts.{waiting_in}
use Rattle.ff_input.proofs.Y4mOpen.{y4m_open}
use Rattle.ff_input.proofs.demuxable.Y4mCutDemuxable.next_cut.Goals as goal

pub returns-clause-undecided : goal.returns-clause-undecided
returns-clause-undecided c = λ e head fed n is cuts.
    let wait = (c.pull.ensures.not_yet.0 e).1 in
    y4m_open head _ n (waiting_in c.args.self.now) fed (subst (λ (h : Y4mHead). unit h.frame_bytes (waiting_in c.args.self.now) ≡ Wait) cuts.of_head wait) cuts.goes

pub returns-clause-gives : goal.returns-clause-gives
returns-clause-gives c = λ p e head fed n cuts. let g = c.pull.ensures.gives p e head fed n cuts in (g.0, λ more rest. g.1 more)
