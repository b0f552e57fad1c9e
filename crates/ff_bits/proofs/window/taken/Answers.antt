use Rattle.std.proofs.Common.{ℕ}
use Rattle.ff_bits.proofs.Windows.{code_window, code_read}
use Rattle.ff_bits.proofs.window.taken.Goals as goal

pub returns-clause-read : goal.returns-clause-read
returns-clause-read c =
    let word : ℕ = c.args.word in
    let held : ℕ = c.args.held in
    let n : ℕ = c.args.n in
    let high : ℕ = c.args.high in
    let r = c.requires in
    λ bytes at w. (code_window bytes at word held n high w r.high r.enough, code_read bytes at word held n high w r.high r.enough r.more)
