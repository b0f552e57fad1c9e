use Rattle.ff_filters.proofs.configured.single.Goals as goal

pub returns-in-Ok-clause-made : goal.returns-in-Ok-clause-made
returns-in-Ok-clause-made g c = rw c.stepping.ensures (rw c.in-Ok.is at c.requires.made)
