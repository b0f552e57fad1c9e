use Rattle.std.proofs.Common.{◌≡◌, ℕ, List, length, map, Some, sym, ap, ◌∙◌, subst, arith}
use Rattle.ff_run_plan.specs.Asked.{asked_of}
use Rattle.ff_run_plan.specs.Histories.{AreScheduled}
use Rattle.ff_run_plan.specs.Parts.{AreOrdered}
use Rattle.ff_run_plan.specs.Reads.{places_in, first_reads, IsLogOf}
use Rattle.ff_run_plan.proofs.Histories.{if_some_both}
use Rattle.ff_run_plan.proofs.Outcomes.{fine_only}
use Rattle.ff_run_plan.proofs.Backs.{all_aside, srcs_full, snks_full, are_back}
use Rattle.ff_run_plan.proofs.Running.{have_ends}
use Rattle.ff_run_plan.proofs.Telling.{told_of}
use Rattle.ff_run_plan.proofs.run.run_nodes.Goals as goal

pub build_and_run-machines-requires-clause-aside : goal.build_and_run-machines-requires-clause-aside
build_and_run-machines-requires-clause-aside g c κs within =
    let srcs = c.args.srcs.items in
    let snks = c.args.snks.items in (
      srcs,
      snks,
      all_aside srcs c.tabled.result.items c.tabled.ensures,
      all_aside snks c.tabled-2.result.items c.tabled-2.ensures,
      λ vouched. told_of g.Src.Source.left g.Snk.Sink.holds srcs snks (sym c.requires.told ∙ vouched),
    )

pub gather-requires-clause-few : goal.gather-requires-clause-few
gather-requires-clause-few g c κs within =
    let ran = c.build_and_run-machines.ensures.ran c.args.srcs.items c.args.snks.items (all_aside c.args.srcs.items c.tabled.result.items c.tabled.ensures) (all_aside c.args.snks.items c.tabled-2.result.items c.tabled-2.ensures) in
    let few = ran.1.parts.few in
    let many = ran.1.kept.count in
    omega (arith, few, many)

pub gather-requires-clause-ends : goal.gather-requires-clause-ends
gather-requires-clause-ends g c κs within =
    let S = g.Src.Source in
    let K = g.Snk.Sink in
    let places = c.build_and_run-machines.new.places in
    let ran = c.build_and_run-machines.ensures.ran c.args.srcs.items c.args.snks.items (all_aside c.args.srcs.items c.tabled.result.items c.tabled.ensures) (all_aside c.args.snks.items c.tabled-2.result.items c.tabled-2.ensures) in
    have_ends g.K.Kinds.is S.left S.name S.faults K.holds K.name K.faults g.M.Machine.view (asked_of c.args.job.now c.args.texts.now c.args.made.now c.args.nodes.now) c.args.heads.now c.args.edges.now c.args.nodes.now c.args.srcs.items c.args.snks.items
    ran.0 c.build_and_run-machines.result.machines.items places.srcs.items places.snks.items ran.1.parts ran.1.kept c.requires.fitting

pub gather-requires-clause-ordered : goal.gather-requires-clause-ordered
gather-requires-clause-ordered g c κs within =
    let places = c.build_and_run-machines.new.places in
    let ran = c.build_and_run-machines.ensures.ran c.args.srcs.items c.args.snks.items (all_aside c.args.srcs.items c.tabled.result.items c.tabled.ensures) (all_aside c.args.snks.items c.tabled-2.result.items c.tabled-2.ensures) in
    subst (λ (n : ℕ). AreOrdered n (length places.snks.items) c.args.nodes.now) (sym ran.1.parts.src_count)
    (subst (λ (n : ℕ). AreOrdered (length c.args.srcs.items) n c.args.nodes.now) (sym ran.1.parts.snk_count) c.requires.ordered)

pub listed-requires-clause-full : goal.listed-requires-clause-full
listed-requires-clause-full g c =
    let S = g.Src.Source in
    let K = g.Snk.Sink in
    let places = c.build_and_run-machines.new.places in
    let back = c.gather.new.places in
    let gave = c.gather.ensures in
    let ran = c.build_and_run-machines.ensures.ran c.args.srcs.items c.args.snks.items (all_aside c.args.srcs.items c.tabled.result.items c.tabled.ensures) (all_aside c.args.snks.items c.tabled-2.result.items c.tabled-2.ensures) in
    srcs_full g.K.Kinds.is S.left S.name S.faults K.holds K.name K.faults g.M.Machine.view (asked_of c.args.job.now c.args.texts.now c.args.made.now c.args.nodes.now) c.args.heads.now c.args.edges.now c.args.nodes.now c.args.srcs.items c.args.snks.items
    ran.0 c.build_and_run-machines.result.machines.items places.srcs.items back.srcs.items places.snks.items back.snks.items ran.1.parts ran.1.kept.count
    gave.sources gave.sinks gave.other_srcs gave.other_snks gave.src_count gave.snk_count

pub listed-requires-2-clause-full : goal.listed-requires-2-clause-full
listed-requires-2-clause-full g c =
    let S = g.Src.Source in
    let K = g.Snk.Sink in
    let places = c.build_and_run-machines.new.places in
    let back = c.gather.new.places in
    let gave = c.gather.ensures in
    let ran = c.build_and_run-machines.ensures.ran c.args.srcs.items c.args.snks.items (all_aside c.args.srcs.items c.tabled.result.items c.tabled.ensures) (all_aside c.args.snks.items c.tabled-2.result.items c.tabled-2.ensures) in
    snks_full g.K.Kinds.is S.left S.name S.faults K.holds K.name K.faults g.M.Machine.view (asked_of c.args.job.now c.args.texts.now c.args.made.now c.args.nodes.now) c.args.heads.now c.args.edges.now c.args.nodes.now c.args.srcs.items c.args.snks.items
    ran.0 c.build_and_run-machines.result.machines.items places.srcs.items back.srcs.items places.snks.items back.snks.items ran.1.parts ran.1.kept.count
    gave.sources gave.sinks gave.other_srcs gave.other_snks gave.src_count gave.snk_count

pub listed-requires-clause-room : goal.listed-requires-clause-room
listed-requires-clause-room g c =
    let ran = c.build_and_run-machines.ensures.ran c.args.srcs.items c.args.snks.items (all_aside c.args.srcs.items c.tabled.result.items c.tabled.ensures) (all_aside c.args.snks.items c.tabled-2.result.items c.tabled-2.ensures) in
    let count = ran.1.parts.src_count in
    let same = c.gather.ensures.src_count in
    let room = c.requires.room.for_srcs.1 in
    (c.requires.room.for_srcs.0, omega (arith, count, same, room))

pub listed-requires-2-clause-room : goal.listed-requires-2-clause-room
listed-requires-2-clause-room g c =
    let ran = c.build_and_run-machines.ensures.ran c.args.srcs.items c.args.snks.items (all_aside c.args.srcs.items c.tabled.result.items c.tabled.ensures) (all_aside c.args.snks.items c.tabled-2.result.items c.tabled-2.ensures) in
    let count = ran.1.parts.snk_count in
    let same = c.gather.ensures.snk_count in
    let room = c.requires.room.for_snks.1 in
    (c.requires.room.for_snks.0, omega (arith, count, same, room))

pub returns-clause-done : goal.returns-clause-done
returns-clause-done g c =
    let is = g.K.Kinds.is in
    let view = g.M.Machine.view in
    let S = g.Src.Source in
    let K = g.Snk.Sink in
    let asked = (asked_of c.args.job.now c.args.texts.now c.args.made.now c.args.nodes.now) in
    let heads = c.args.heads.now in
    let edges = c.args.edges.now in
    let nodes = c.args.nodes.now in
    let srcs = c.args.srcs.items in
    let snks = c.args.snks.items in
    let news = c.build_and_run-machines.result.machines.items in
    let places = c.build_and_run-machines.new.places in
    let back = c.gather.new.places in
    let gave = c.gather.ensures in
    let ran = c.build_and_run-machines.ensures.ran srcs snks (all_aside srcs c.tabled.result.items c.tabled.ensures) (all_aside snks c.tabled-2.result.items c.tabled-2.ensures) in
    let all_srcs = srcs_full is S.left S.name S.faults K.holds K.name K.faults view asked heads edges nodes srcs snks ran.0 news places.srcs.items back.srcs.items places.snks.items back.snks.items ran.1.parts ran.1.kept.count
    gave.sources gave.sinks gave.other_srcs gave.other_snks gave.src_count gave.snk_count in
    let all_snks = snks_full is S.left S.name S.faults K.holds K.name K.faults view asked heads edges nodes srcs snks ran.0 news places.srcs.items back.srcs.items places.snks.items back.snks.items ran.1.parts ran.1.kept.count
    gave.sources gave.sinks gave.other_srcs gave.other_snks gave.src_count gave.snk_count in record {
      olds = ran.0;
      news = news;
      src_places = places.srcs.items;
      snk_places = places.snks.items;
      fault = c.build_and_run-machines.result.fault;
      run = ran.1;
      back = are_back is S.left S.name S.faults K.holds K.name K.faults view asked heads edges nodes srcs snks ran.0 news places.srcs.items back.srcs.items places.snks.items back.snks.items ran.1.parts ran.1.kept.count
          gave.sources gave.sinks gave.other_srcs gave.other_snks gave.src_count gave.snk_count c.listed.result.items c.listed-2.result.items
          (all_srcs.1 ∙ ap (λ (xs : List g.row.Src.Denot). map Some xs) (sym (c.listed.ensures all_srcs.0 all_srcs.1)))
          (all_snks.1 ∙ ap (λ (xs : List g.row.Snk.Denot). map Some xs) (sym (c.listed-2.ensures all_snks.0 all_snks.1)));
      end_is = c.end_with-end.ensures;
    }

pub returns-clause-told : goal.returns-clause-told
returns-clause-told g c = λ fine. c.build_and_run-machines.ensures.told (fine_only (length c.args.heads.now) c.args.nodes.now c.build_and_run-machines.result.fault (sym c.end_with-end.ensures ∙ fine))

pub returns-clause-logged : goal.returns-clause-logged
unfolding returns-clause-done
returns-clause-logged g c =
    let S = g.Src.Source in
    let K = g.Snk.Sink in
    let view = g.M.Machine.view in
    let srcs = c.args.srcs.items in
    let snks = c.args.snks.items in
    let opening = c.args.opening in
    let news = c.build_and_run-machines.result.machines.items in
    let fault = c.build_and_run-machines.result.fault in
    let claims = g.C.Claims.claims in
    let ran = c.build_and_run-machines.ensures.ran srcs snks (all_aside srcs c.tabled.result.items c.tabled.ensures) (all_aside snks c.tabled-2.result.items c.tabled-2.ensures) in
    if_some_both
    (λ log. AreScheduled view c.args.edges.now claims ran.0 news opening.routes opening.state fault log.history)
    (λ log. places_in log.reads.items ≡ first_reads view opening.routes.sources c.args.nodes.now news log.history)
    (λ log. IsLogOf g.K.Kinds.is S.left S.name S.faults K.holds K.name K.faults view (asked_of c.args.job.now c.args.texts.now c.args.made.now c.args.nodes.now) c.args.heads.now c.args.edges.now c.args.nodes.now srcs snks claims
    opening.routes opening.state c.end_with-end.result c.listed.result.items c.listed-2.result.items log)
    c.build_and_run-machines.result.log
    (λ log run reads. record { history = record { done = returns-clause-done g c; run = run }; suffice = ran.3; reads = reads })
    ran.2 c.build_and_run-machines.ensures.reads
