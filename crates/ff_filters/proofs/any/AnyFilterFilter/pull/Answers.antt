use Rattle.ff_filters.proofs.any.AnyFilterFilter.pull.Goals as goal

pub returns-in-Step-clause-gives : goal.returns-in-Step-clause-gives
returns-in-Step-clause-gives c = rw c.in-Step.is c.pull.ensures.gives

pub returns-in-Step-clause-waits : goal.returns-in-Step-clause-waits
returns-in-Step-clause-waits c = rw c.in-Step.is c.pull.ensures.waits

pub returns-in-Step-clause-unchanged : goal.returns-in-Step-clause-unchanged
returns-in-Step-clause-unchanged c = rw c.in-Step.is c.pull.ensures.unchanged

pub returns-in-Rate-clause-gives : goal.returns-in-Rate-clause-gives
returns-in-Rate-clause-gives c = rw c.in-Rate.is c.pull-in-Rate.ensures.gives

pub returns-in-Copies-clause-gives : goal.returns-in-Copies-clause-gives
returns-in-Copies-clause-gives c = rw c.in-Copies.is c.pull-in-Copies.ensures.gives

pub returns-in-Channels-clause-gives : goal.returns-in-Channels-clause-gives
returns-in-Channels-clause-gives c = rw c.in-Channels.is c.pull-in-Channels.ensures.gives

pub returns-in-Stacked-clause-gives : goal.returns-in-Stacked-clause-gives
returns-in-Stacked-clause-gives c = rw c.in-Stacked.is c.pull-in-Stacked.ensures.gives

pub returns-in-Stacked-clause-waits : goal.returns-in-Stacked-clause-waits
returns-in-Stacked-clause-waits c = rw c.in-Stacked.is c.pull-in-Stacked.ensures.waits

pub returns-in-Stacked-clause-unchanged : goal.returns-in-Stacked-clause-unchanged
returns-in-Stacked-clause-unchanged c = rw c.in-Stacked.is c.pull-in-Stacked.ensures.unchanged

pub returns-in-Concat-clause-gives : goal.returns-in-Concat-clause-gives
returns-in-Concat-clause-gives c = rw c.in-Concat.is c.pull-in-Concat.ensures.gives

pub returns-in-Join-clause-gives : goal.returns-in-Join-clause-gives
returns-in-Join-clause-gives c = rw c.in-Join.is c.pull-in-Join.ensures.gives
