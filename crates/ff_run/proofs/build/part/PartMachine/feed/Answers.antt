use Rattle.std.specs.Prelude.{◌≡◌}
use Rattle.std.specs.Result.{OnOk, OnErr}
use Rattle.std.proofs.Common.{subst, sym}
use Rattle.ff_stream.specs.Ports.{stream_at}
use Rattle.ff_stream.specs.Stream.{still_open}
use Rattle.ff_node_mux.specs.laws.Muxers.{mux_stands}
use Rattle.ff_net.specs.Pasts.{Past, fed}
use Rattle.ff_net.specs.Ways.{AreValid}
use Rattle.ff_run.specs.declared.build.part.Part.{Part}
use Rattle.ff_run.specs.laws.build.PartViews.{part_view}
use Rattle.ff_run.specs.laws.build.Throughs.{through_shown}
use Rattle.ff_run.proofs.build.part.PartMachine.feed.Goals as goal

pub returns-in-Mux-clause-accepted : goal.returns-in-Mux-clause-accepted
returns-in-Mux-clause-accepted g c =
    subst
    (λ (p : Part g.row.Src.Denot g.row.Snk.Denot g.Snk.Sink). OnOk c.feed-in-Mux.result ((past : Past) → (part_view g.Src.Source.left g.Src.Source.name g.Src.Source.faults p).stands past → (stream_at past.got c.args.port).mark ≡ still_open → AreValid (part_view g.Src.Source.left g.Src.Source.name g.Src.Source.faults p).in_lanes (fed past c.args.port c.args.item).got → mux_stands c.feed-in-Mux.new.self (fed past c.args.port c.args.item)))
    (sym c.in-Mux.is)
    c.feed-in-Mux.ensures.accepted

pub returns-in-Mux-clause-unchanged : goal.returns-in-Mux-clause-unchanged
returns-in-Mux-clause-unchanged g c =
    subst
    (λ (p : Part g.row.Src.Denot g.row.Snk.Denot g.Snk.Sink). OnErr c.feed-in-Mux.result ((past : Past) → (part_view g.Src.Source.left g.Src.Source.name g.Src.Source.faults p).stands past → mux_stands c.feed-in-Mux.new.self past))
    (sym c.in-Mux.is)
    c.feed-in-Mux.ensures.unchanged

pub returns-in-Graph-clause-accepted : goal.returns-in-Graph-clause-accepted
returns-in-Graph-clause-accepted g c =
    subst
    (λ (p : Part g.row.Src.Denot g.row.Snk.Denot g.Snk.Sink). OnOk c.feed-in-Graph.result ((past : Past) → (part_view g.Src.Source.left g.Src.Source.name g.Src.Source.faults p).stands past → (stream_at past.got c.args.port).mark ≡ still_open → AreValid (part_view g.Src.Source.left g.Src.Source.name g.Src.Source.faults p).in_lanes (fed past c.args.port c.args.item).got → (through_shown c.feed-in-Graph.new.self).stands (fed past c.args.port c.args.item)))
    (sym c.in-Graph.is)
    c.feed-in-Graph.ensures.accepted

pub returns-in-Graph-clause-unchanged : goal.returns-in-Graph-clause-unchanged
returns-in-Graph-clause-unchanged g c =
    subst
    (λ (p : Part g.row.Src.Denot g.row.Snk.Denot g.Snk.Sink). OnErr c.feed-in-Graph.result ((past : Past) → (part_view g.Src.Source.left g.Src.Source.name g.Src.Source.faults p).stands past → (through_shown c.feed-in-Graph.new.self).stands past))
    (sym c.in-Graph.is)
    c.feed-in-Graph.ensures.unchanged
