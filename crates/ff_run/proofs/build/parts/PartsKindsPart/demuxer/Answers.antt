use Rattle.std.proofs.Common.{refl, subst, sym, ◌∙◌}
use Rattle.ff_input.specs.Formats.{InputHead}
use Rattle.ff_net.specs.Pasts.{start}
use Rattle.ff_node_avi.specs.laws.AviDemuxers.{avi_stands}
use Rattle.ff_node_demux.specs.laws.Demuxers.{demux_stands}
use Rattle.ff_run.specs.build.Parts.{demux_task_of}
use Rattle.ff_run.specs.laws.build.Used.{avi_lanes, avi_used_in, single_lanes}
use Rattle.ff_run.proofs.build.parts.PartsKindsPart.demuxer.Goals as goal

pub new-requires-in-Other-clause-used : goal.new-requires-in-Other-clause-used
new-requires-in-Other-clause-used g c = avi_used_in c.args.head.now c.in-Other.head c.args.used.now c.in-Other.is c.requires.used

pub returns-in-Ok-clause-new : goal.returns-in-Ok-clause-new
returns-in-Ok-clause-new g c = record {
  source_is = c.in-Ok.ensures.source;
  in_lanes = refl;
  out_lanes = c.in-Ok.ensures.lanes ∙ single_lanes c.args.head.now c.in-First.head c.args.used.now c.in-First.is c.requires.used;
  sound = c.in-Ok.ensures.fault;
  device_is = c.in-Ok.ensures.device;
  failures_are = c.in-Ok.ensures.failures;
}

pub returns-in-Ok-clause-starts : goal.returns-in-Ok-clause-starts
returns-in-Ok-clause-starts g c = λ bytes told.
    subst (λ (h : InputHead). demux_stands g.Src.Source.left c.in-Ok.demux (start (demux_task_of c.args.input h c.args.used.now bytes))) (sym c.in-First.is)
    (c.in-Ok.ensures.stands bytes told)

pub returns-in-Ok-new-clause-new : goal.returns-in-Ok-new-clause-new
returns-in-Ok-new-clause-new g c = record {
  source_is = c.in-Ok-new.ensures.source;
  in_lanes = refl;
  out_lanes = c.in-Ok-new.ensures.lanes ∙ avi_lanes c.args.head.now c.in-Other.head c.args.used.now c.in-Other.is c.requires.used;
  sound = c.in-Ok-new.ensures.fault;
  device_is = c.in-Ok-new.ensures.device;
  failures_are = c.in-Ok-new.ensures.failures;
}

pub returns-in-Ok-new-clause-starts : goal.returns-in-Ok-new-clause-starts
returns-in-Ok-new-clause-starts g c = λ bytes told.
    subst (λ (h : InputHead). avi_stands g.Src.Source.left c.in-Ok-new.demux (start (demux_task_of c.args.input h c.args.used.now bytes))) (sym c.in-Other.is)
    (c.in-Ok-new.ensures.stands bytes told)
