use Rattle.std.proofs.lemmas.Result.{err_from_is_err_and}
use Rattle.ff_flac_frame.specs.laws.Parts.{header_of}
use Rattle.ff_flac_frame.proofs.Seals.{head_first, head_done, head_fails, header_left}
use Rattle.ff_flac_frame.proofs.frame.read_head.Goals as goal

pub returns-in_err-header : goal.returns-in_err-header
returns-in_err-header c =
    let p = err_from_is_err_and c.from_residual.result c.from_residual.ensures.1 in
    rw (p.1, p.2) (head_first c.args.stream.now c.requires.stream c.args.bytes.now c.args.reader.now c.requires.start c.in_err-header.field-0.0 c.in_err-header.ensures)

pub overflow_sub-len : goal.overflow_sub-len
overflow_sub-len c =
    let l = header_left c.args.stream.now c.requires.stream c.args.bytes.now c.args.reader.now c.requires.start (header_of c.in_ok-header.header) _ c.in_ok-header.ensures in
    rw c.bytes_left.ensures l

pub returns-in_err-_sum : goal.returns-in_err-_sum
returns-in_err-_sum c =
    let p = err_from_is_err_and c.from_residual-in_err-_sum.result c.from_residual-in_err-_sum.ensures.1 in
    rw (p.1, p.2) (head_fails c.args.stream.now c.requires.stream c.args.bytes.now c.args.reader.now c.requires.start c.in_err-_sum.field-0.0 (header_of c.in_ok-header.header) _ c.bytes_left.result c.crc8-sum.result c.in_ok-header.ensures c.bytes_left.ensures c.crc8-sum.ensures.exact c.in_err-_sum.ensures.reads)

pub returns : goal.returns
returns c =
    head_done c.args.stream.now c.requires.stream c.args.bytes.now c.args.reader.now c.requires.start (header_of c.in_ok-header.header) _ _ c.bytes_left.result c.crc8-sum.result c.in_ok-_sum._sum c.in_ok-header.ensures c.bytes_left.ensures c.crc8-sum.ensures.exact c.in_ok-_sum.ensures.reads
