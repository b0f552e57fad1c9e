use Rattle.ff_bits.proofs.Windows.{first_window}
use Rattle.ff_bits.proofs.window.BitWindow.past.Goals as goal

pub invariant_of-result : goal.invariant_of-result
invariant_of-result c = first_window c.args.used c.min-at.result c.word_of.result c.args.bytes.now c.requires.few c.requires.there c.min-at.ensures c.word_of.ensures
