use Rattle.std.proofs.Common.{◌≡◌, ◌∙◌, sym, ap, refl}
use Rattle.ff_filter.specs.Made.{is_over}
use Rattle.ff_joins.specs.laws.JoinLaws.{join-spent_only, join-spent_if}
use Rattle.ff_joins.specs.laws.Lots.{Lot, lots}
use Rattle.ff_joins.proofs.Framing.{lots_there}
use Rattle.ff_joins.proofs.join.Join.is_spent.Goals as goal

pub returns-clause-is : goal.returns-clause-is
returns-clause-is c =
    let is = c.args.self.now.inlets.items in
    let shut : c.is_over-shut.result ≡ is_over (lots is c.args.port).after =
    c.is_over-shut.ensures ∙ ap (λ (l : Lot). is_over l.after) (sym (lots_there is c.args.port c.index.result.now c.requires c.index.ensures)) in
    rw (shut, c.is_decided-decided.ensures) refl

pub returns-clause-exact : goal.returns-clause-exact
returns-clause-exact c =
    let m = c.args.self.now in
    (λ t. join-spent_only m c.args.port (sym (returns-clause-is c) ∙ t), λ s. returns-clause-is c ∙ join-spent_if m c.args.port s)
