use Rattle.std.proofs.Common.{◌≡◌, ◌∙◌, sym, nat_eq, eq-eqb}
use Rattle.std.proofs.lemmas.Bool.{eqb-true}
use Rattle.std.proofs.lemmas.List.Folds.{list_any_at}
use Rattle.std.proofs.lemmas.Map.Views.{Contains-from_any}
use Rattle.std.specs.List.{list_any}
use Rattle.ff_host.specs.Causes.{added}
use Rattle.ff_host.specs.laws.memory.Plan.{numbers_of}
use Rattle.ff_host.proofs.memory.plan.is_planned_next.Goals as goal

pub returns : goal.returns
returns c =
    let number = added c.args.calls 1 in
    let numbers = numbers_of c.args.plan.now c.args.name.now c.args.call in
    let tested : c.is_planned.result ≡ list_any (nat_eq number) numbers = rw (← c.one_more.ensures) c.is_planned.ensures in (
      λ found. Contains-from_any eqb-true number numbers (sym tested ∙ found),
      λ has. tested ∙ list_any_at (nat_eq number) numbers has.0 number has.1 (eq-eqb number _ (sym has.2)),
    )
