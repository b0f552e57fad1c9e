use Rattle.std.proofs.Common.{◌≡◌, ◌<◌, ℕ, List, length, slice_get, refl, sym, ap, ◌∙◌, subst, arith}
use Rattle.ff_net.specs.laws.Laws.{Laws}
use Rattle.ff_plan.specs.declared.planned.PlanNode.{PlanNode}
use Rattle.ff_sched.specs.declared.routes.Routes.{Routes}
use Rattle.ff_run_plan.specs.Asked.{asked_of}
use Rattle.ff_run_plan.specs.laws.Claims.{tell_all}
use Rattle.ff_run_plan.specs.Histories.{state_before}
use Rattle.ff_run_plan.specs.Parts.{source_at}
use Rattle.ff_run_plan.specs.Reads.{IsLogFor, IsLogOf}
use Rattle.ff_run_plan.proofs.Histories.{state_is, log_for, has_log, if_some_more}
use Rattle.ff_run_plan.proofs.Ending.{asked_same, done_for, all_files, all_parts, keeps_sources, keeps_sinks, all_ends, all_sources, all_sinks}
use Rattle.ff_run_plan.proofs.Reading.{log_in}
use Rattle.ff_run_plan.proofs.work.run_plan.Goals as goal

pub run_nodes-requires-clause-sources : goal.run_nodes-requires-clause-sources
run_nodes-requires-clause-sources g c κs within = λ k i at.
    subst (λ (n : ℕ). i < n) (sym (ap (λ (r : Routes). r.sources) c.before_run-opening.ensures.routes))
    (c.requires.below k i (ap (λ (ns : List PlanNode). source_at (slice_get ns k)) (sym c.as_slice-nodes.ensures) ∙ at))

pub returns-clause-scheduled : goal.returns-clause-scheduled
returns-clause-scheduled g c =
    let S = g.Src.Source in
    let K = g.Snk.Sink in
    let plan = c.args.plan in
    let srcs = c.args.srcs.items in
    let snks = c.args.snks.items in
    let claims = tell_all S.left K.holds srcs snks in
    let end = c.run_nodes.result.end in
    let srcs' = c.run_nodes.result.srcs.items in
    let snks' = c.run_nodes.result.snks.items in
    let routes : c.before_run-opening.result.routes ≡ plan.routes = c.before_run-opening.ensures.routes in
    let state = state_is plan c.as_slice-nodes.result.now c.before_run-opening.result.routes c.before_run-opening.result.state c.as_slice-nodes.ensures routes c.before_run-opening.ensures.state in
    if_some_more _
    (λ log. IsLogOf g.K.Kinds.is S.left S.name S.faults K.holds K.name K.faults g.M.Machine.view (asked_of c.args.job.now plan.texts plan.made plan.nodes) c.args.heads.now plan.edges plan.nodes srcs snks
    claims plan.routes (state_before plan) end srcs' snks' log)
    c.run_nodes.result.log
    (λ log h. log_for g.K.Kinds.is S.left S.name S.faults K.holds K.name K.faults g.M.Machine.view (asked_of c.args.job.now c.as_slice-texts.result.now c.as_slice-made.result.now c.as_slice-nodes.result.now) (asked_of c.args.job.now plan.texts plan.made plan.nodes) c.args.heads.now
    c.as_slice-edges.result.now plan.edges c.as_slice-nodes.result.now plan.nodes srcs snks claims c.before_run-opening.result.routes plan.routes
    c.before_run-opening.result.state (state_before plan) end srcs' snks' log (asked_same c.args.job.now c.as_slice-texts.result.now plan.texts c.as_slice-made.result.now plan.made c.as_slice-nodes.result.now plan.nodes c.as_slice-texts.ensures c.as_slice-made.ensures
    c.as_slice-nodes.ensures) c.as_slice-edges.ensures c.as_slice-nodes.ensures routes state h)
    c.run_nodes.ensures.logged

pub returns-clause-ran : goal.returns-clause-ran
returns-clause-ran g c =
    let is = g.K.Kinds.is in
    let view = g.M.Machine.view in
    let S = g.Src.Source in
    let K = g.Snk.Sink in
    let job = c.args.job.now in
    let plan = c.args.plan in
    let heads = c.args.heads.now in
    let srcs = c.args.srcs.items in
    let snks = c.args.snks.items in
    let claims = tell_all S.left K.holds srcs snks in
    let srcs_len : length srcs ≡ length heads = (let t = c.if-len-heads.false in let l = c.len.ensures in let ok = c.args.srcs.ok.0 in omega (arith, t, l, ok)) in
    let snks_len : length snks ≡ length c.as_slice-outputs.result.now = (let t = c.if-len-outputs.false in let l = c.len-else-len-heads.ensures in let ok = c.args.snks.ok.0 in omega (arith, t, l, ok)) in
    let done = done_for is S.left S.name S.faults K.holds K.name K.faults view (asked_of job c.as_slice-texts.result.now c.as_slice-made.result.now c.as_slice-nodes.result.now) (asked_of job plan.texts plan.made plan.nodes) heads c.as_slice-edges.result.now plan.edges c.as_slice-nodes.result.now plan.nodes srcs snks claims
    c.run_nodes.result.end c.run_nodes.result.srcs.items c.run_nodes.result.snks.items (asked_same job c.as_slice-texts.result.now plan.texts c.as_slice-made.result.now plan.made c.as_slice-nodes.result.now plan.nodes c.as_slice-texts.ensures c.as_slice-made.ensures
    c.as_slice-nodes.ensures) c.as_slice-edges.ensures c.as_slice-nodes.ensures c.run_nodes.ensures.done in
    let end = c.run_nodes.result.end in
    let srcs' = c.run_nodes.result.srcs.items in
    let snks' = c.run_nodes.result.snks.items in
    let many = snks_len ∙ ap length c.as_slice-outputs.ensures in
    let machine = g.met.M.Machine g.world.𝓛 g.world.𝓜 g.world.𝓡 ((λ s x. x), (λ x. x), (λ x. x), λ x. x) in
    let laws : (m : g.row.M.Denot) → Laws (g.M.Machine.view m) = machine.laws in
    record {
      fine = all_files is S.left S.name S.faults K.holds K.name K.faults view job plan heads srcs snks claims end srcs' snks' c.requires srcs_len many refl done;
      parts = all_parts is S.left S.name S.faults K.holds K.name K.faults view job plan heads srcs snks claims end srcs' snks' c.requires srcs_len many refl done g.met.K.Kinds.holds_on;
      srcs_kept = keeps_sources is S.left S.name S.faults K.holds K.name K.faults view job plan heads srcs snks claims end srcs' snks' c.requires srcs_len many refl done;
      snks_kept = keeps_sinks is S.left S.name S.faults K.holds K.name K.faults view job plan heads srcs snks claims end srcs' snks' c.requires srcs_len many refl done;
      ends = all_ends is S.left S.name S.faults K.holds K.name K.faults view job plan heads srcs snks claims end srcs' snks' c.requires srcs_len many refl done;
      sound_srcs = all_sources is S.left S.name S.faults K.holds K.name K.faults view job plan heads srcs snks claims end srcs' snks' c.requires srcs_len many refl done;
      sound_snks = all_sinks is S.left S.name S.faults K.holds K.name K.faults view job plan heads srcs snks claims end srcs' snks' c.requires srcs_len many refl done;
      logged = λ fine bytes told. has_log _ (IsLogFor g.K.Kinds.is job heads bytes) c.run_nodes.result.log (c.run_nodes.ensures.told fine) (returns-clause-scheduled g c)
          (λ log h. log_in g.K.Kinds.is g.met.K.Kinds.own S.left S.name S.faults K.holds K.name K.faults g.M.Machine.view laws g.met.K.Kinds.exits job c.args.plan heads srcs snks end srcs' snks' log
          c.requires srcs_len many h fine bytes told);
    }
