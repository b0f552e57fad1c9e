use Rattle.std.proofs.Common.{◌≡◌, ◌^◌, ◌-◌, ◌*◌, ◌%◌, suc, arith, sym}
use Rattle.std.proofs.Math.Nat.{pow-suc}
use Rattle.std.proofs.lemmas.Nat.{shl_whole}
use Rattle.ff_flac_frame.proofs.SomeLemmas.{some-all, some-equal, some-below}
use Rattle.ff_flac_frame.proofs.rule.+is_passed_by_some.Goals as goal

pub is_passed_by_some-requires : goal.is_passed_by_some-requires
is_passed_by_some-requires t c =
    let e : 64 - (c.args.n - 1) ≡ suc (64 - c.args.n) = omega arith in
    let p : 2 ^ (64 - (c.args.n - 1)) ≡ 2 ^ (64 - c.args.n) * 2 = rw e (pow-suc 2 (64 - c.args.n)) in
    (omega arith, (omega arith, omega arith))

pub is_passed_by_some-requires-else-is_passed_by_some : goal.is_passed_by_some-requires-else-is_passed_by_some
is_passed_by_some-requires-else-is_passed_by_some t c =
    let e : 64 - (c.args.n - 1) ≡ suc (64 - c.args.n) = omega arith in
    let p : 2 ^ (64 - (c.args.n - 1)) ≡ 2 ^ (64 - c.args.n) * 2 = rw e (pow-suc 2 (64 - c.args.n)) in
    (omega arith, (omega arith, omega arith))

pub returns-in-Any : goal.returns-in-Any
returns-in-Any t c = rw c.in-Any.is (sym (some-all c.args.n c.args.v))

pub returns-in-Equal : goal.returns-in-Equal
returns-in-Equal t c = rw c.in-Equal.is (sym (some-equal c.in-Equal.w c.args.n c.args.v))

pub returns-in-Below : goal.returns-in-Below
returns-in-Below t c =
    let e : (c.args.v * 2 ^ c.args.n) % 2 ^ 64 ≡ c.args.v * 2 ^ c.args.n = shl_whole c.args.v (64 - c.args.n) c.args.n 64 c.requires.room (omega arith) in
    rw (c.in-Below.is, e) (sym (some-below c.in-Below.limit c.args.n c.args.v))
