use Rattle.std.proofs.Common.{◌≡◌, length, Some, ap, subst, ◌∙◌, rules, arith}
use Rattle.ff_graph_links.specs.labels.Order.{feeds}
use Rattle.ff_words.specs.maps.Choice.{lists}
use Rattle.ff_plan_layout.specs.declared.error.PlanError.{PlanError}
use Rattle.ff_plan.proofs.Frames.{frames_kept}
use Rattle.ff_run_plan.specs.Meaning.{plan_for, refusal_of}
use Rattle.ff_run_plan.proofs.Plans.{AreLawful, is_plan, none_refused, is_refused}
use Rattle.ff_run_plan.proofs.work.make_plan.Goals as goal

pub returns-in-Ok-plan-clause-ok : goal.returns-in-Ok-plan-clause-ok
returns-in-Ok-plan-clause-ok g c =
    let told = c.in-Ok-plan.ensures in
    let kinds = g.met.K.Kinds in
    let laws : AreLawful g.K.Kinds.is = record {
      decodes = kinds.decodes;
      frames = kinds.frames;
      plans = λ job heads p within some made. c.plans_are_sound.ensures g.K.Kinds.is.rules job heads p kinds.ruled kinds.few kinds.takes within some made;
      sources = c.sources_are_asked.ensures g.K.Kinds.is.rules;
      makes = kinds.makes;
      carries = λ job heads p some made all made_all.
          frames_kept g.K.Kinds.is.IsFrames g.K.Kinds.is.rules job heads p kinds.ruled kinds.kept all made_all (c.orders_go_upward.ensures (feeds job.graphs) (length job.graphs))
          (λ no graph lt. c.orders_are_whole.ensures (feeds job.graphs) (length job.graphs) graph no lt) some made;
      filters = kinds.filters;
      joins = kinds.joins;
      encodes = kinds.encodes;
      writes = kinds.writes;
    } in
    is_plan g.K.Kinds.is c.args.job.now c.args.heads.now c.requires laws (lists c.as_slice-lists.result.now) c.in-Ok-plan.plan (ap lists c.as_slice-lists.ensures.value ∙ c.in-Ok.ensures) (c.is_within_limits.ensures.yes c.if-not-is_within_limits.false) told.made
    (c.nodes_have_rows.ensures g.K.Kinds.is.rules c.args.job.now (lists c.as_slice-lists.result.now) c.in-Ok-plan.plan)
    (c.graphs_fit.ensures g.K.Kinds.is.rules c.args.job.now (lists c.as_slice-lists.result.now) c.in-Ok-plan.plan kinds.ruled)
    (c.starts_fit.ensures g.K.Kinds.is.rules c.args.job.now (lists c.as_slice-lists.result.now) c.in-Ok-plan.plan kinds.ruled)
    (c.graph_plans_are_fed.ensures g.K.Kinds.is.rules c.args.job.now (lists c.as_slice-lists.result.now) c.in-Ok-plan.plan kinds.ruled)

pub returns-in-Ok-plan-clause-some : goal.returns-in-Ok-plan-clause-some
returns-in-Ok-plan-clause-some g c =
    none_refused g.K.Kinds.is c.args.job.now c.args.heads.now c.requires (lists c.as_slice-lists.result.now) c.in-Ok-plan.plan (ap lists c.as_slice-lists.ensures.value ∙ c.in-Ok.ensures) c.in-Ok-plan.ensures.made

pub returns : goal.returns
returns g c =
    record {
      ok = tt;
      some = tt;
      refused = λ why same. (let e : c.in-Err.refusal ≡ why = cc in
          subst (λ (w : PlanError). refusal_of g.K.Kinds.is c.args.job.now (plan_for g.K.Kinds.is c.args.job.now c.args.heads.now) ≡ Some w) e
          (is_refused g.K.Kinds.is c.args.job.now c.args.heads.now c.requires (lists c.as_slice-lists.result.now) c.in-Err.refusal (ap lists c.as_slice-lists.ensures.value ∙ c.in-Ok.ensures) c.in-Err.ensures.refused
          (λ memory. first_of (search rules, grind arith))));
    }
