use Rattle.std.proofs.Common.{◌≡◌, drop}
use Rattle.ff_words.specs.Table.{codec_in}
use Rattle.ff_words.proofs.table.find_codec.Given as goal

abbrev pub invariant-loop-codec : goal.invariant-loop-codec
invariant-loop-codec l = codec_in (drop l.codec-index l.list) l.word ≡ codec_in l.list l.word
