use Rattle.ff_words.proofs.Unique.{answer-one}
use Rattle.ff_words.proofs.laws.words_have_one_answer.Goals as goal

pub returns : goal.returns
returns c = answer-one
