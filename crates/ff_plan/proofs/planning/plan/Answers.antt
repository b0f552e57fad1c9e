use Rattle.std.proofs.Common.{◌≡◌, sym, ap, ◌∙◌, arith}
use Rattle.ff_words.specs.maps.Choice.{lists}
use Rattle.ff_plan.specs.declared.planned.Plan.{Plan}
use Rattle.ff_plan_layout.specs.Layout.{Layout}
use Rattle.ff_plan.specs.Nodes.{plan_of}
use Rattle.ff_plan.specs.Planned.{planned}
use Rattle.ff_plan_layout.specs.LaidOut.{laid_out}
use Rattle.ff_plan_layout.specs.Rules.{Planned, behind}
use Rattle.ff_plan_layout.specs.laws.Rows.{layout_in}
use Rattle.ff_plan_layout.proofs.Fronts.{fine, refused_behind}
use Rattle.ff_plan_layout.proofs.LaidOut.{handed_on}
use Rattle.ff_plan_layout.proofs.Bounds.{few_in_lists, lists_length}
use Rattle.ff_plan.proofs.Sourced.{are_few}
use Rattle.ff_plan.proofs.planning.plan.Goals as goal

pub numbered_plan-requires-clause-inputs : goal.numbered_plan-requires-clause-inputs
numbered_plan-requires-clause-inputs g c =
    let heads = lists c.args.heads.now in
    let few = (are_few (g.F.Filtering.rules c.args.filtering.now) c.args.job.now heads (layout_in heads c.in_ok-laying.laying) c.in_ok-laying.ensures.made).1 in
    let long = lists_length c.args.heads.now in
    omega (arith, few, long)

pub numbered_plan-requires-clause-streams : goal.numbered_plan-requires-clause-streams
numbered_plan-requires-clause-streams g c = few_in_lists c.args.heads.now c.requires.limits.streams

pub numbered_plan-requires-clause-few : goal.numbered_plan-requires-clause-few
numbered_plan-requires-clause-few g c = c.in_ok-laying.ensures.streams

pub returns-in_err-laying-clause-refused : goal.returns-in_err-laying-clause-refused
returns-in_err-laying-clause-refused g c =
    let rules = g.F.Filtering.rules c.args.filtering.now in
    let job = c.args.job.now in
    let heads = lists c.args.heads.now in
    handed_on c.from_residual.result (planned rules job heads) c.in_err-laying.field-0.0 c.from_residual.ensures.1
    (refused_behind (laid_out rules job heads) (λ l. fine (plan_of l)) c.in_err-laying.field-0.0 c.in_err-laying.ensures.refused)

pub returns-clause-made : goal.returns-clause-made
returns-clause-made g c =
    let rules = g.F.Filtering.rules c.args.filtering.now in
    let job = c.args.job.now in
    let heads = lists c.args.heads.now in
    ap (λ (r : Planned Layout). behind r (λ x. fine (plan_of x))) c.in_ok-laying.ensures.made
    ∙ ap (λ (p : Plan). fine p) (sym c.in_ok-plan.ensures)
