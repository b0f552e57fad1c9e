use Rattle.std.proofs.Common.{◌≡◌, drop}
use Rattle.ff_words.specs.Table.{is_in, names}
use Rattle.ff_words.proofs.table.is_listed.Given as goal

abbrev pub invariant-loop-name : goal.invariant-loop-name
invariant-loop-name l = is_in (names (drop l.name-index l.list)) l.word ≡ is_in (names l.list) l.word
