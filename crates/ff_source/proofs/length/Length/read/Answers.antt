use Rattle.std.proofs.Common.{refl}
use Rattle.ff_source.proofs.length.Length.read.Goals as goal

pub returns-in-None-clause-none : goal.returns-in-None-clause-none
returns-in-None-clause-none c e us t = cc ((c.in-None.ensures.value us).1 t)

pub returns-in-Some-clause-is : goal.returns-in-Some-clause-is
returns-in-Some-clause-is c = (c.in-Some.ensures.value c.in-Some.us).0 refl
