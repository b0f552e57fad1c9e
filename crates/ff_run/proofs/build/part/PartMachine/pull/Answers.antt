use Rattle.ff_run.specs.laws.build.PartViews.{part_view}
use Rattle.ff_run.specs.declared.build.part.Part.{Part}
use Rattle.ff_net.specs.Pasts.{Past}
use Rattle.std.proofs.Common.{subst, sym}
use Rattle.std.specs.Result.{OnErr}
use Rattle.ff_node_avi.specs.laws.AviDemuxers.{avi_stands}
use Rattle.ff_node_demux.specs.laws.Demuxers.{demux_stands}
use Rattle.ff_node_demux.specs.laws.gens.Generators.{gen_stands}
use Rattle.ff_source.specs.laws.Left.{left as frames_left}
use Rattle.ff_run.specs.laws.build.Throughs.{through_shown}
use Rattle.ff_run.proofs.build.part.PartMachine.pull.Goals as goal

pub returns-in-Demux-clause-gives : goal.returns-in-Demux-clause-gives
returns-in-Demux-clause-gives g c x is past s stopped = c.pull.ensures.gives x is past (rw c.in-Demux.is at s) stopped

pub returns-in-Dec-clause-gives : goal.returns-in-Dec-clause-gives
returns-in-Dec-clause-gives g c x is past s stopped = c.pull-in-Dec.ensures.gives x is past (rw c.in-Dec.is at s) stopped

pub returns-in-Enc-clause-gives : goal.returns-in-Enc-clause-gives
returns-in-Enc-clause-gives g c x is past s stopped = c.pull-in-Enc.ensures.gives x is past (rw c.in-Enc.is at s) stopped

pub returns-in-FlacEnc-clause-gives : goal.returns-in-FlacEnc-clause-gives
returns-in-FlacEnc-clause-gives g c x is past s stopped = c.pull-in-FlacEnc.ensures.gives x is past (rw c.in-FlacEnc.is at s) stopped

pub returns-in-Demux-clause-waits : goal.returns-in-Demux-clause-waits
returns-in-Demux-clause-waits g c w past s out = c.pull.ensures.waits w past (rw c.in-Demux.is at s) out

pub returns-in-Demux-clause-unchanged : goal.returns-in-Demux-clause-unchanged
returns-in-Demux-clause-unchanged g c =
    subst
    (λ (p : Part g.row.Src.Denot g.row.Snk.Denot g.Snk.Sink). OnErr c.pull.result ((past : Past) → (part_view g.Src.Source.left g.Src.Source.name g.Src.Source.faults p).stands past → demux_stands g.Src.Source.left c.pull.new.self past))
    (sym c.in-Demux.is)
    c.pull.ensures.unchanged

pub returns-in-Graph-clause-gives : goal.returns-in-Graph-clause-gives
returns-in-Graph-clause-gives g c x is past s stopped = c.pull-in-Graph.ensures.gives x is past (rw c.in-Graph.is at s) stopped

pub returns-in-Graph-clause-waits : goal.returns-in-Graph-clause-waits
returns-in-Graph-clause-waits g c w past s out = c.pull-in-Graph.ensures.waits w past (rw c.in-Graph.is at s) out

pub returns-in-Graph-clause-unchanged : goal.returns-in-Graph-clause-unchanged
returns-in-Graph-clause-unchanged g c =
    subst
    (λ (p : Part g.row.Src.Denot g.row.Snk.Denot g.Snk.Sink). OnErr c.pull-in-Graph.result ((past : Past) → (part_view g.Src.Source.left g.Src.Source.name g.Src.Source.faults p).stands past → (through_shown c.pull-in-Graph.new.self).stands past))
    (sym c.in-Graph.is)
    c.pull-in-Graph.ensures.unchanged

pub returns-in-Joint-clause-gives : goal.returns-in-Joint-clause-gives
returns-in-Joint-clause-gives g c x is past s stopped = c.pull-in-Joint.ensures.gives x is past (rw c.in-Joint.is at s) stopped

pub returns-in-Gen-clause-gives : goal.returns-in-Gen-clause-gives
returns-in-Gen-clause-gives g c x is past s stopped = c.pull-in-Gen.ensures.gives x is past (rw c.in-Gen.is at s) stopped

pub returns-in-Gen-clause-waits : goal.returns-in-Gen-clause-waits
returns-in-Gen-clause-waits g c w past s out = c.pull-in-Gen.ensures.waits w past (rw c.in-Gen.is at s) out

pub returns-in-Gen-clause-unchanged : goal.returns-in-Gen-clause-unchanged
returns-in-Gen-clause-unchanged g c =
    subst
    (λ (p : Part g.row.Src.Denot g.row.Snk.Denot g.Snk.Sink). OnErr c.pull-in-Gen.result ((past : Past) → (part_view g.Src.Source.left g.Src.Source.name g.Src.Source.faults p).stands past → gen_stands frames_left c.pull-in-Gen.new.self past))
    (sym c.in-Gen.is)
    c.pull-in-Gen.ensures.unchanged

pub returns-in-Avi-clause-gives : goal.returns-in-Avi-clause-gives
returns-in-Avi-clause-gives g c x is past s stopped = c.pull-in-Avi.ensures.gives x is past (rw c.in-Avi.is at s) stopped

pub returns-in-Avi-clause-waits : goal.returns-in-Avi-clause-waits
returns-in-Avi-clause-waits g c w past s out = c.pull-in-Avi.ensures.waits w past (rw c.in-Avi.is at s) out

pub returns-in-Avi-clause-unchanged : goal.returns-in-Avi-clause-unchanged
returns-in-Avi-clause-unchanged g c =
    subst
    (λ (p : Part g.row.Src.Denot g.row.Snk.Denot g.Snk.Sink). OnErr c.pull-in-Avi.result ((past : Past) → (part_view g.Src.Source.left g.Src.Source.name g.Src.Source.faults p).stands past → avi_stands g.Src.Source.left c.pull-in-Avi.new.self past))
    (sym c.in-Avi.is)
    c.pull-in-Avi.ensures.unchanged
