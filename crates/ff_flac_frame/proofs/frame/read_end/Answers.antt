use Rattle.std.proofs.Common.{refl}
use Rattle.std.proofs.lemmas.Result.{err_from_is_err_and}
use Rattle.ff_flac_frame.proofs.Seals.{pad_done, pad_fails, frame_first, frame_done, frame_fails, padded_left}
use Rattle.ff_flac_frame.proofs.frame.read_end.Goals as goal

pub returns-in_err-_zeros : goal.returns-in_err-_zeros
returns-in_err-_zeros c = λ f e.
    let s = c.args.stream.now in
    let bytes = c.args.bytes.now in
    let p = err_from_is_err_and c.from_residual.result c.from_residual.ensures.1 in
    let end = c.in_err-_zeros.field-0.0 in
    rw (p.1, p.2) (frame_first s c.requires.stream bytes _ refl end (pad_fails s c.requires.stream bytes _ refl end f c.args.reader.now c.bits_to_byte-pad.result e c.bits_to_byte-pad.ensures c.in_err-_zeros.ensures.reads))

pub overflow_sub-len : goal.overflow_sub-len
overflow_sub-len c =
    let s = c.args.stream.now in
    let bytes = c.args.bytes.now in
    let b = c.requires.body in
    let padded = pad_done s c.requires.stream bytes _ refl b.0 c.args.reader.now _ c.bits_to_byte-pad.result c.in_ok-_zeros._zeros b.1 c.bits_to_byte-pad.ensures c.in_ok-_zeros.ensures.reads in
    rw c.bytes_left.ensures (padded_left s c.requires.stream bytes _ refl b.0 _ padded)

pub returns-in_err-_sum : goal.returns-in_err-_sum
returns-in_err-_sum c = λ f e.
    let s = c.args.stream.now in
    let bytes = c.args.bytes.now in
    let p = err_from_is_err_and c.from_residual-in_err-_sum.result c.from_residual-in_err-_sum.ensures.1 in
    let padded = pad_done s c.requires.stream bytes _ refl f c.args.reader.now _ c.bits_to_byte-pad.result c.in_ok-_zeros._zeros e c.bits_to_byte-pad.ensures c.in_ok-_zeros.ensures.reads in
    rw (p.1, p.2) (frame_fails s c.requires.stream bytes _ refl c.in_err-_sum.field-0.0 f _ c.bytes_left.result c.crc16-sum.result padded c.bytes_left.ensures c.crc16-sum.ensures.exact c.in_err-_sum.ensures.reads)

pub returns : goal.returns
returns c = λ f e.
    let s = c.args.stream.now in
    let bytes = c.args.bytes.now in
    let padded = pad_done s c.requires.stream bytes _ refl f c.args.reader.now _ c.bits_to_byte-pad.result c.in_ok-_zeros._zeros e c.bits_to_byte-pad.ensures c.in_ok-_zeros.ensures.reads in
    frame_done s c.requires.stream bytes _ refl f _ _ c.bytes_left.result c.crc16-sum.result c.in_ok-_sum._sum padded c.bytes_left.ensures c.crc16-sum.ensures.exact c.in_ok-_sum.ensures.reads
