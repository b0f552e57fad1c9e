use Rattle.std.proofs.Common.{refl, ap}
use Rattle.ff_run.proofs.build.parts.PartsKindsPart.muxer.Goals as goal

pub returns-in-Ok-new-clause-new : goal.returns-in-Ok-new-clause-new
returns-in-Ok-new-clause-new g c =
    record {
      source_is = refl;
      in_lanes = c.in-Ok-new.ensures.lanes;
      out_lanes = refl;
      sound = c.in-Ok-new.ensures.fault;
      device_is = ap g.Snk.Sink.name c.in-Ok-new.ensures.sink;
      failures_are = ap g.Snk.Sink.faults c.in-Ok-new.ensures.sink;
    }
