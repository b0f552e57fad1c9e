use Rattle.std.proofs.Common.{◌≡◌, drop}
use Rattle.ff_words.specs.Table.{format_in, formats}
use Rattle.ff_words.proofs.table.find_format.Given as goal

abbrev pub invariant-loop-name : goal.invariant-loop-name
invariant-loop-name l = format_in (formats (drop l.name-index l.list)) l.word ≡ format_in (formats l.list) l.word
