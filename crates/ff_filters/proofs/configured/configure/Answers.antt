use Rattle.std.proofs.lemmas.Result.{IfOk-weaker, MatchResult-weaker}
use Rattle.ff_filters.proofs.Owed.{owed}
use Rattle.ff_filters.proofs.configured.configure.Goals as goal

pub returns-clause-determined : goal.returns-clause-determined
returns-clause-determined c = IfOk-weaker c.by_name.result _ _ (λ r h. (owed c.args.name).made c.args.args.now c.args.heads.now _ _ h) c.by_name.ensures.made

pub returns-clause-refusal_determined : goal.returns-clause-refusal_determined
returns-clause-refusal_determined c =
    MatchResult-weaker c.by_name.result c.by_name.ensures.refused (λ r h. h) (λ e h. (owed c.args.name).refused c.args.args.now c.args.heads.now e h)
