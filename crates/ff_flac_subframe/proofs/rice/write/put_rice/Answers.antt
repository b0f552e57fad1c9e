use Rattle.std.proofs.Common.{◌≡◌, ◌+◌, ◌%◌, ◌^◌, arith}
use Rattle.ff_flac_subframe.proofs.RiceLemmas.Writing.{code_below, code_end, long_end, ending_below}
use Rattle.std.proofs.lemmas.Nat.{mod_below, pow_pos}
use Rattle.ff_flac_subframe.proofs.rice.write.put_rice.Goals as goal

pub put-requires : goal.put-requires
put-requires c = code_below c.args.k c.args.u c.ending_of.result c.length_of-count.result c.ending_of.ensures c.length_of-count.ensures

pub returns-then-count-le64 : goal.returns-then-count-le64
returns-then-count-le64 c =
    code_end c.args.k c.args.u c.ending_of.result c.length_of-count.result c.args.out.now c.put.new.self c.ending_of.ensures c.length_of-count.ensures c.in_ok-put.ensures.ok

pub put-requires-2 : goal.put-requires-2
put-requires-2 c =
    let z : 0 + (1 + c.args.k) ≡ 1 + c.args.k = omega arith in
    rw (c.ending_of-2.ensures, ← z) (ending_below 0 c.args.k (c.args.u % 2 ^ c.args.k) (mod_below c.args.u (2 ^ c.args.k) (pow_pos c.args.k)))

pub returns : goal.returns
returns c = long_end c.args.k c.args.u c.ending_of-2.result c.args.out.now c.put_zeros.new.out c.put-2.new.self c.ending_of-2.ensures c.in_ok-put_zeros.ensures c.in_ok-put-2.ensures.ok
