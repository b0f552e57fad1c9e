use Rattle.ff_filters.proofs.any.AnyFilterFilter.feed.Goals as goal

pub returns-in-Step-clause-fed : goal.returns-in-Step-clause-fed
returns-in-Step-clause-fed c = rw c.in-Step.is c.feed.ensures.fed

pub returns-in-Step-clause-unchanged : goal.returns-in-Step-clause-unchanged
returns-in-Step-clause-unchanged c = rw c.in-Step.is c.feed.ensures.unchanged

pub returns-in-Stacked-clause-fed : goal.returns-in-Stacked-clause-fed
returns-in-Stacked-clause-fed c = rw c.in-Stacked.is c.feed-in-Stacked.ensures.fed

pub returns-in-Stacked-clause-unchanged : goal.returns-in-Stacked-clause-unchanged
returns-in-Stacked-clause-unchanged c = rw c.in-Stacked.is c.feed-in-Stacked.ensures.unchanged
