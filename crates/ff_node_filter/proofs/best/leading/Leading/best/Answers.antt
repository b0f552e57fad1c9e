use Rattle.std.proofs.Common.{[], List, ap, sym, ◌∙◌}
use Rattle.ff_frame.specs.declared.event.Event.{Event}
use Rattle.ff_net.specs.Pasts.{Feed}
use Rattle.ff_node_filter.specs.laws.best.Laws.{last_named}
use Rattle.ff_node_filter.proofs.BestLemmas.Namings.{events_name}
use Rattle.ff_node_filter.proofs.best.leading.Leading.best.Goals as goal

pub returns : goal.returns
returns g c = λ past s.
    c.best.ensures ∙ (s.tells.best ∙ (sym (events_name s.graph s.bases [] 0 past.feeds)
    ∙ ap (λ (f : List Feed → List Event). last_named 0 (f past.feeds)) (sym s.tells_is)))
