use Rattle.ff_fsync.specs.laws.Syncs.{sides_of}
use Rattle.ff_fsync.specs.stacks.Stacks.{stack_by}
use Rattle.ff_fsync.proofs.StacksLemmas.Seeing.{seen_new}
use Rattle.ff_fsync.proofs.stacks.configured.machine_for.Goals as goal

pub returns : goal.returns
returns c =
    let p = c.args.plan.now in
    seen_new (stack_by p c.args.heads.now) p.shape (sides_of c.in_ok-inputs.inputs.items) c.in_ok-units.units.items p.shaped c.in_ok-inputs.ensures c.in_ok-units.ensures
