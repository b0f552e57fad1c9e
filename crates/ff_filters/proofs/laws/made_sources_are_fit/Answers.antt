use Rattle.ff_filters.proofs.SourcesFit.{made_fit}
use Rattle.ff_filters.proofs.laws.made_sources_are_fit.Goals as goal

pub returns : goal.returns
returns c = record {
  head = λ name args made e. (made_fit name args made e).head;
  base = λ name args made e. (made_fit name args made e).base;
  can = λ name args made e. (made_fit name args made e).can;
}
