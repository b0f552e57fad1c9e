use Rattle.ff_vfilter.proofs.rate.Rate.step.Goals as goal

pub returns-in-Ok-Some-clause-gave : goal.returns-in-Ok-Some-clause-gave
returns-in-Ok-Some-clause-gave c x e = c.give.ensures.gave x (cc (e, c.in-Ok-Some.is, c.in-Ok-Some.field-0-is, c.in-Ok-Some.item-is))
