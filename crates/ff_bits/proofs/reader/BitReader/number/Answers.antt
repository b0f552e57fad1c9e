use Rattle.std.proofs.Common.{length, ap, arith, length-append}
use Rattle.std.proofs.lemmas.Result.{err_from_is_err_and}
use Rattle.ff_bits.proofs.NumberReads.{number_read, code_below}
use Rattle.ff_bits.proofs.NumberApart.{short_exactly, bad_exactly, not_short, not_bad}
use Rattle.ff_bits.proofs.reader.BitReader.number.Goals as goal

pub returns-in_err-value-clause-short : goal.returns-in_err-value-clause-short
returns-in_err-value-clause-short c =
    let p = err_from_is_err_and c.from_residual.result c.from_residual.ensures.1 in
    rw (p.1, p.2) (short_exactly c.in_err-value.field-0.0 c.args.self.now c.copy-ahead.result c.coded.new.self c.copy-ahead.ensures c.in_err-value.ensures)

pub returns-in_err-value-clause-bad : goal.returns-in_err-value-clause-bad
returns-in_err-value-clause-bad c =
    let p = err_from_is_err_and c.from_residual.result c.from_residual.ensures.1 in
    rw (p.1, p.2) (bad_exactly c.in_err-value.field-0.0 c.args.self.now c.copy-ahead.result c.coded.new.self c.copy-ahead.ensures c.in_err-value.ensures)

pub returns-clause-number : goal.returns-clause-number
returns-clause-number c = number_read c.args.self.now c.copy-ahead.result c.coded.new.self c.in_ok-value.value c.copy-ahead.ensures c.in_ok-value.ensures

pub returns-clause-below : goal.returns-clause-below
returns-clause-below c =
    let n = number_read c.args.self.now c.copy-ahead.result c.coded.new.self c.in_ok-value.value c.copy-ahead.ensures c.in_ok-value.ensures in
    code_below n.0 c.in_ok-value.value n.1

pub returns-clause-shorter : goal.returns-clause-shorter
returns-clause-shorter c =
    let n = number_read c.args.self.now c.copy-ahead.result c.coded.new.self c.in_ok-value.value c.copy-ahead.ensures c.in_ok-value.ensures in
    omega (arith, ap length n.2, length-append n.0 c.coded.new.self)

pub returns-clause-short : goal.returns-clause-short
returns-clause-short c =
    not_short c.args.self.now c.coded.new.self c.in_ok-value.value (number_read c.args.self.now c.copy-ahead.result c.coded.new.self c.in_ok-value.value c.copy-ahead.ensures c.in_ok-value.ensures)

pub returns-clause-bad : goal.returns-clause-bad
returns-clause-bad c =
    not_bad c.args.self.now c.coded.new.self c.in_ok-value.value (number_read c.args.self.now c.copy-ahead.result c.coded.new.self c.in_ok-value.value c.copy-ahead.ensures c.in_ok-value.ensures)
