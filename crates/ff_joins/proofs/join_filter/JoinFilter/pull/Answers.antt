use Rattle.std.proofs.Common.{ℕ, subst}
use Rattle.ff_filter.specs.Views.{Gave}
use Rattle.ff_filter.proofs.Stepping.{only_port}
use Rattle.ff_joins.specs.laws.JoinSeen.{join_seen}
use Rattle.ff_joins.proofs.join_filter.JoinFilter.pull.Goals as goal

pub returns-clause-gives : goal.returns-clause-gives
returns-clause-gives c x e = subst (λ (q : ℕ). Gave (join_seen c.args.self.now) (join_seen c.take.new.self) q x) (only_port c.args._port c.requires.there)
    (c.take.ensures.gives x (cc (e)))
