use Rattle.std.proofs.Common.{◌≡◌, ◌++◌, drop}
use Rattle.ff_words.specs.Table.{names}
use Rattle.ff_words.specs.Words.{texts}
use Rattle.ff_selfrun.proofs.words.words_from.Given as goal

abbrev pub invariant-words : goal.invariant-words
invariant-words l = texts l.words.items ++ names (drop l.text-index l.list) ≡ names l.list
