use Rattle.std.proofs.Common.{◌+◌, ◌≤◌, length, arith}
use Rattle.ff_bits.proofs.Windows.{filled_window}
use Rattle.ff_bits.proofs.window.filled.Goals as goal

pub returns-clause-window : goal.returns-clause-window
returns-clause-window c =
    let room : c.args.at + 8 ≤ length c.args.bytes.now = omega (arith, c.if-bytes-at-lt8.false) in
    filled_window c.args.at c.args.word c.args.held c.word_of-next.result c.args.bytes.now c.requires room c.word_of-next.ensures
