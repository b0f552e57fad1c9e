use Rattle.ff_input.proofs.Told.{same_as}
use Rattle.ff_input.specs.declared.one_of.OneOf.TheVariants.{First, Other}
use Rattle.ff_input.proofs.head_reader.OneOfHeadReader.read.Goals as goal

pub returns-in-First-clause-same : goal.returns-in-First-clause-same
returns-in-First-clause-same g c = rw c.in-First.is (same_as (λ h. First h) _ _ c.read.ensures.same)

pub returns-in-Other-clause-same : goal.returns-in-Other-clause-same
returns-in-Other-clause-same g c = rw c.in-Other.is (same_as (λ h. Other h) _ _ c.read-in-Other.ensures.same)
