use Rattle.ff_concat.proofs.Agreeing.{concat_is}
use Rattle.ff_concat.proofs.SameHeads.{alike_so, unlike_so}
use Rattle.ff_concat.proofs.laws.answers_are_a_function.Goals as goal

pub returns-clause-is : goal.returns-clause-is
returns-clause-is c args heads read r so is = concat_is args heads read r so is

pub returns-clause-alike : goal.returns-clause-alike
returns-clause-alike c w heads e = alike_so w heads e

pub returns-clause-unlike : goal.returns-clause-unlike
returns-clause-unlike c w heads e a = unlike_so w heads e a
