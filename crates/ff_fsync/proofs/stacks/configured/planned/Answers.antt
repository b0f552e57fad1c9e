use Rattle.std.proofs.Common.{sym, ◌∙◌}
use Rattle.ff_fsync.specs.stacks.Stacks.{planned_by}
use Rattle.ff_fsync.proofs.StacksLemmas.Planning.{right_inputs, after_first, first_of}
use Rattle.ff_fsync.proofs.stacks.configured.planned.Goals as goal

pub returns-in-len1-up : goal.returns-in-len1-up
returns-in-len1-up c =
    let d = c.args.direction in
    let args = c.args.args.now in
    let heads = c.args.heads.now in
    let r = planned_by heads c.plan_for.result in
    let first = first_of heads c.first-item.result c.in-len1-up.len_at_least c.first-item.is in
    right_inputs d args heads r c.read_args.result (c.if-heads-count_inputs.false ∙ c.count_inputs.ensures) (sym c.all_video.ensures ∙ c.if-not-all_video.false)
    c.read_args.ensures.read (after_first d heads c.read_args.result c.in-Ok.settings c.first-item.result first.0 r c.in-Ok.is first.1 c.plan_for.ensures)
