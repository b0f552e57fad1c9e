use Rattle.std.proofs.Common.{◌≡◌, None, sym, ◌∙◌, subst}
use Rattle.std.specs.declared.alloc.Global.{Global}
use Rattle.std.specs.declared.vec.Vec.{Vec}
use Rattle.ff_run_plan.specs.Asked.{asked_of}
use Rattle.ff_run_plan.specs.Histories.{AreScheduled}
use Rattle.ff_run_plan.specs.Meaning.{task_at}
use Rattle.ff_run_plan.specs.Openings.{unstarted}
use Rattle.ff_run_plan.specs.laws.Runs.{AreRun}
use Rattle.ff_run_plan.proofs.Histories.{none_known}
use Rattle.ff_run_plan.proofs.Running.{part_sound, all_start, all_fit, are_within, run_ok, run_err}
use Rattle.ff_run_plan.proofs.run.build_and_run.Goals as goal

pub run_parts-requires-clause-fits : goal.run_parts-requires-clause-fits
run_parts-requires-clause-fits g c κs within =
    let S = g.Src.Source in
    let K = g.Snk.Sink in
    let aside = c.requires.aside in
    all_fit g.K.Kinds.is S.left S.name S.faults K.holds K.name K.faults g.M.Machine.view (asked_of c.args.job.now c.args.texts.now c.args.made.now c.args.nodes.now) c.args.heads.now c.args.edges.now c.args.nodes.now aside.0 aside.1 c.in-Ok.parts.items
    c.build.new.places.srcs.items c.build.new.places.snks.items (c.in-Ok.ensures.ok aside.0 aside.1 aside.2 aside.3) c.in-Ok.ensures.all c.requires.fits

pub run_parts-requires-clause-start : goal.run_parts-requires-clause-start
run_parts-requires-clause-start g c κs within = λ vouched.
    let S = g.Src.Source in
    let K = g.Snk.Sink in
    let aside = c.requires.aside in
    let told = aside.4 vouched in (
      task_at g.K.Kinds.is (asked_of c.args.job.now c.args.texts.now c.args.made.now c.args.nodes.now) c.args.heads.now told.0 c.args.nodes.now c.args.edges.now,
      all_start g.K.Kinds.is S.left S.name S.faults K.holds K.name K.faults g.M.Machine.view (asked_of c.args.job.now c.args.texts.now c.args.made.now c.args.nodes.now) c.args.heads.now c.args.edges.now c.args.nodes.now aside.0 aside.1 c.in-Ok.parts.items
          c.build.new.places.srcs.items c.build.new.places.snks.items (c.in-Ok.ensures.ok aside.0 aside.1 aside.2 aside.3) told.0 told.1,
    )

pub run_parts-requires-clause-sources : goal.run_parts-requires-clause-sources
run_parts-requires-clause-sources g c κs within =
    let S = g.Src.Source in
    let K = g.Snk.Sink in
    let aside = c.requires.aside in
    are_within g.K.Kinds.is S.left S.name S.faults K.holds K.name K.faults g.M.Machine.view (asked_of c.args.job.now c.args.texts.now c.args.made.now c.args.nodes.now) c.args.heads.now c.args.edges.now c.args.nodes.now aside.0 aside.1 c.in-Ok.parts.items
    c.build.new.places.srcs.items c.build.new.places.snks.items (c.in-Ok.ensures.ok aside.0 aside.1 aside.2 aside.3) c.args.opening.routes c.requires.sources

pub run_parts-requires-clause-sound : goal.run_parts-requires-clause-sound
run_parts-requires-clause-sound g c κs within =
    let S = g.Src.Source in
    let K = g.Snk.Sink in
    let aside = c.requires.aside in
    part_sound g.K.Kinds.is S.left S.name S.faults K.holds K.name K.faults g.M.Machine.view (asked_of c.args.job.now c.args.texts.now c.args.made.now c.args.nodes.now) c.args.heads.now c.args.edges.now c.args.nodes.now aside.0 aside.1 c.in-Ok.parts.items
    c.build.new.places.srcs.items c.build.new.places.snks.items (c.in-Ok.ensures.ok aside.0 aside.1 aside.2 aside.3)

pub returns-in-Ok-clause-ran : goal.returns-in-Ok-clause-ran
returns-in-Ok-clause-ran g c = λ srcs snks a b.
    let S = g.Src.Source in
    let K = g.Snk.Sink in (
      c.in-Ok.parts.items,
      run_ok g.K.Kinds.is S.left S.name S.faults K.holds K.name K.faults g.M.Machine.view (asked_of c.args.job.now c.args.texts.now c.args.made.now c.args.nodes.now) c.args.heads.now c.args.edges.now c.args.nodes.now srcs snks c.in-Ok.parts.items
          c.build.new.places.srcs.items c.build.new.places.snks.items (c.in-Ok.ensures.ok srcs snks a b) c.in-Ok.ensures.all c.run_parts.result.machines.items c.run_parts.result.fault g.C.Claims.claims
          c.run_parts.ensures.kept c.run_parts.ensures.tells c.run_parts.ensures.solved,
      c.run_parts.ensures.scheduled,
      c.run_parts.ensures.suffice,
    )

pub returns-in-Err-clause-ran : goal.returns-in-Err-clause-ran
returns-in-Err-clause-ran g c = λ srcs snks a b.
    let S = g.Src.Source in
    let K = g.Snk.Sink in (
      c.in-Err.parts.items,
      subst (λ (v : Vec g.row.M.Denot Global). AreRun g.K.Kinds.is S.left S.name S.faults K.holds K.name K.faults g.M.Machine.view (asked_of c.args.job.now c.args.texts.now c.args.made.now c.args.nodes.now) c.args.heads.now c.args.edges.now c.args.nodes.now srcs snks g.C.Claims.claims
          c.in-Err.parts.items v.items c.build.new.places.srcs.items c.build.new.places.snks.items c.unstarted.result.fault) (sym c.unstarted.ensures.machines)
          (run_err g.K.Kinds.is S.left S.name S.faults K.holds K.name K.faults g.M.Machine.view (asked_of c.args.job.now c.args.texts.now c.args.made.now c.args.nodes.now) c.args.heads.now c.args.edges.now c.args.nodes.now srcs snks c.in-Err.parts.items
          c.build.new.places.srcs.items c.build.new.places.snks.items (c.in-Err.ensures.err srcs snks a b) c.unstarted.result.fault g.C.Claims.claims c.unstarted.ensures.fault),
      none_known
          (λ log. AreScheduled g.M.Machine.view c.args.edges.now g.C.Claims.claims c.in-Err.parts.items c.unstarted.result.machines.items c.args.opening.routes c.args.opening.state c.unstarted.result.fault log.history)
          c.unstarted.result.log c.unstarted.ensures.log,
      λ vouched tasks all none. absurd (let both : None ≡ unstarted = sym none ∙ c.unstarted.ensures.fault in cc),
    )

pub returns-in-Err-clause-told : goal.returns-in-Err-clause-told
returns-in-Err-clause-told g c = λ none. absurd (let both : None ≡ unstarted = sym none ∙ c.unstarted.ensures.fault in cc)

pub returns-in-Err-clause-reads : goal.returns-in-Err-clause-reads
returns-in-Err-clause-reads g c = none_known _ c.unstarted.result.log c.unstarted.ensures.log

pub returns-in-Ok-clause-reads : goal.returns-in-Ok-clause-reads
returns-in-Ok-clause-reads g c = c.run_parts.ensures.reads
