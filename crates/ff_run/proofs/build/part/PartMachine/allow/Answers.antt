use Rattle.ff_node_avi.specs.laws.AviDemuxers.{avi_stands}
use Rattle.ff_node_demux.specs.laws.Demuxers.{demux_stands}
use Rattle.ff_node_demux.specs.laws.gens.Generators.{gen_stands}
use Rattle.ff_source.specs.laws.Left.{left as frames_left}
use Rattle.std.specs.Prelude.{◌≡◌}
use Rattle.std.specs.Option.{IfSome}
use Rattle.std.proofs.Common.{subst, sym}
use Rattle.ff_node_mux.specs.laws.Muxers.{mux_stands}
use Rattle.ff_net.specs.Pasts.{Past}
use Rattle.ff_run.specs.declared.build.part.Part.{Part}
use Rattle.ff_run.specs.laws.build.PartViews.{part_view}
use Rattle.ff_run.specs.laws.build.Throughs.{through_shown}
use Rattle.ff_run.proofs.build.part.PartMachine.allow.Goals as goal

pub returns-in-Mux-clause-back : goal.returns-in-Mux-clause-back
returns-in-Mux-clause-back g c =
    subst
    (λ (p : Part g.row.Src.Denot g.row.Snk.Denot g.Snk.Sink). IfSome c.allow-in-Mux.result (λ t. (t ≡ c.args.ticket) × ((past : Past) → (part_view g.Src.Source.left g.Src.Source.name g.Src.Source.faults p).stands past → mux_stands c.allow-in-Mux.new.self past)))
    (sym c.in-Mux.is)
    c.allow-in-Mux.ensures.back

pub returns-in-Demux-clause-taken : goal.returns-in-Demux-clause-taken
returns-in-Demux-clause-taken g c n past s = c.allow.ensures.taken n past (rw c.in-Demux.is at s)

pub returns-in-Demux-clause-back : goal.returns-in-Demux-clause-back
returns-in-Demux-clause-back g c =
    subst
    (λ (p : Part g.row.Src.Denot g.row.Snk.Denot g.Snk.Sink). IfSome c.allow.result (λ t. (t ≡ c.args.ticket) × ((past : Past) → (part_view g.Src.Source.left g.Src.Source.name g.Src.Source.faults p).stands past → demux_stands g.Src.Source.left c.allow.new.self past)))
    (sym c.in-Demux.is)
    c.allow.ensures.back

pub returns-in-Graph-clause-back : goal.returns-in-Graph-clause-back
returns-in-Graph-clause-back g c =
    subst
    (λ (p : Part g.row.Src.Denot g.row.Snk.Denot g.Snk.Sink). IfSome c.allow-in-Graph.result (λ t. (t ≡ c.args.ticket) × ((past : Past) → (part_view g.Src.Source.left g.Src.Source.name g.Src.Source.faults p).stands past → (through_shown c.allow-in-Graph.new.self).stands past)))
    (sym c.in-Graph.is)
    c.allow-in-Graph.ensures.back

pub returns-in-Gen-clause-taken : goal.returns-in-Gen-clause-taken
returns-in-Gen-clause-taken g c n past s = c.allow-in-Gen.ensures.taken n past (rw c.in-Gen.is at s)

pub returns-in-Gen-clause-back : goal.returns-in-Gen-clause-back
returns-in-Gen-clause-back g c =
    subst
    (λ (p : Part g.row.Src.Denot g.row.Snk.Denot g.Snk.Sink). IfSome c.allow-in-Gen.result (λ t. (t ≡ c.args.ticket) × ((past : Past) → (part_view g.Src.Source.left g.Src.Source.name g.Src.Source.faults p).stands past → gen_stands frames_left c.allow-in-Gen.new.self past)))
    (sym c.in-Gen.is)
    c.allow-in-Gen.ensures.back

pub returns-in-Avi-clause-taken : goal.returns-in-Avi-clause-taken
returns-in-Avi-clause-taken g c n past s = c.allow-in-Avi.ensures.taken n past (rw c.in-Avi.is at s)

pub returns-in-Avi-clause-back : goal.returns-in-Avi-clause-back
returns-in-Avi-clause-back g c =
    subst
    (λ (p : Part g.row.Src.Denot g.row.Snk.Denot g.Snk.Sink). IfSome c.allow-in-Avi.result (λ t. (t ≡ c.args.ticket) × ((past : Past) → (part_view g.Src.Source.left g.Src.Source.name g.Src.Source.faults p).stands past → avi_stands g.Src.Source.left c.allow-in-Avi.new.self past)))
    (sym c.in-Avi.is)
    c.allow-in-Avi.ensures.back
