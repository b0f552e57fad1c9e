use Rattle.std.proofs.Common.{◌<◌, ◌≤◌, length, arith, Ok, Err}
use Rattle.std.specs.Result.{OnErr}
use Rattle.std.specs.declared.result.Result.{Result}
use Rattle.ff_node_codec.specs.laws.Puts.{IsLast}
use Rattle.ff_node_codec.proofs.LineSteps.{same_set, same_then, next_all}
use Rattle.ff_node_codec.proofs.outs.set_all.Goals as goal

on_err : {A E : Type 0} (r : Result A E) (P : Type 0) → P → OnErr r P
on_err (Ok a) P p = tt
on_err (Err e) P p = p

pub copy_below-requires-clause-end : goal.copy_below-requires-clause-end
copy_below-requires-clause-end c =
    let last : IsLast c.args.outs.now.items c.in-Some.last = c.last_wanted.ensures.last c.in-Some.last c.in-Some.is in
    omega (arith, last.there)

pub returns-in_err-copy_below-in-Some-clause-shared : goal.returns-in_err-copy_below-in-Some-clause-shared
returns-in_err-copy_below-in-Some-clause-shared c =
    let last : IsLast c.args.outs.now.items c.in-Some.last = c.last_wanted.ensures.last c.in-Some.last c.in-Some.is in
    let some : 1 ≤ c.in-Some.last = c.in_err-copy_below-in-Some.ensures.some in
    on_err c.from_residual.result _ (omega (arith, last.there, some))

pub index_mut-out-requires : goal.index_mut-out-requires
index_mut-out-requires c =
    let last : IsLast c.args.outs.now.items c.in-Some.last = c.last_wanted.ensures.last c.in-Some.last c.in-Some.is in
    omega (arith, last.there, c.copy_below.ensures.same.count)

pub returns-in_ok-copy_below-in-Some-clause-same : goal.returns-in_ok-copy_below-in-Some-clause-same
returns-in_ok-copy_below-in-Some-clause-same c =
    let last : IsLast c.args.outs.now.items c.in-Some.last = c.last_wanted.ensures.last c.in-Some.last c.in-Some.is in
    let rs = c.copy_below.new.outs.items in
    let lt : c.in-Some.last < length rs = omega (arith, last.there, c.copy_below.ensures.same.count) in
    same_then _ _ _ c.copy_below.ensures.same
    (same_set rs c.in-Some.last c.index_mut-out.result.now c.set_next.new.self lt c.index_mut-out.ensures.value c.set_next.ensures.same)

pub returns-in_ok-copy_below-in-Some-clause-next : goal.returns-in_ok-copy_below-in-Some-clause-next
returns-in_ok-copy_below-in-Some-clause-next c =
    let last : IsLast c.args.outs.now.items c.in-Some.last = c.last_wanted.ensures.last c.in-Some.last c.in-Some.is in
    let rs = c.copy_below.new.outs.items in
    next_all c.args.made c.args.outs.now.items rs c.in-Some.last c.index_mut-out.result.now c.set_next.new.self last c.copy_below.ensures.same
    c.index_mut-out.ensures.value c.set_next.ensures.same c.in_ok-copy_below-in-Some.ensures.next c.set_next.ensures.next
