use Rattle.ff_source.proofs.Making.{source_fit}
use Rattle.ff_source.proofs.laws.sources_by_their_arguments.Goals as goal

pub returns : goal.returns
returns c = record {
  head = λ name args made h. (source_fit name args made h).head;
  base = λ name args made h. (source_fit name args made h).base;
  can = λ name args made h. (source_fit name args made h).can;
}
