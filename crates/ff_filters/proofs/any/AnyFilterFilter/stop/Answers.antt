use Rattle.ff_filters.proofs.any.AnyFilterFilter.stop.Goals as goal

pub returns-in-Step : goal.returns-in-Step
returns-in-Step c = rw c.in-Step.is c.stop.ensures

pub returns-in-Stacked : goal.returns-in-Stacked
returns-in-Stacked c = rw c.in-Stacked.is c.stop-in-Stacked.ensures
