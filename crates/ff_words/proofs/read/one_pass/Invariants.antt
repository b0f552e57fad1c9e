use Rattle.std.proofs.Common.{◌-◌, length}
use Rattle.ff_words.specs.Words.{texts}
use Rattle.ff_words.specs.laws.Reading.{Stands}
use Rattle.ff_words.proofs.read.one_pass.Given as goal

abbrev pub decreases-words : goal.decreases-words
decreases-words l = length l.words - l.at

abbrev pub invariant-words : goal.invariant-words
invariant-words l = Stands (texts l.words) l.at l.reader
