use Rattle.std.proofs.Common.{◌≡◌, ◌||◌, refl, sym, ◌∙◌}
use Rattle.ff_fsync.specs.laws.stacks.Stacked.{stack_spent}
use Rattle.ff_fsync.specs.laws.stacks.StackedLaws.{stacked-spent_only, stacked-spent_if}
use Rattle.ff_fsync.proofs.stacks.stacked.Stacked.is_spent.Goals as goal

pub returns-clause-exact : goal.returns-clause-exact
returns-clause-exact c =
    let m = c.args.self.now in
    let p = c.args.port in
    let same : (c.spent-spent.result || c.is_cut.result) ≡ stack_spent m p = rw (c.spent-spent.ensures.spends, c.is_cut.ensures) refl in
    (λ e. stacked-spent_only m p (sym same ∙ e), λ h. same ∙ stacked-spent_if m p h)
