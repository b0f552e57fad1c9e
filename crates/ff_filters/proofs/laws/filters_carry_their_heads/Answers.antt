use Rattle.ff_filters.proofs.Owed.{gives}
use Rattle.ff_filters.proofs.laws.filters_carry_their_heads.Goals as goal

pub returns : goal.returns
returns c = record {
  ins = λ name args heads f e. (gives name args heads f e).ins;
  outs = λ name args heads f e. (gives name args heads f e).outs;
  new = λ name args heads f e. (gives name args heads f e).new;
}
