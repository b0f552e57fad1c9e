use Rattle.std.proofs.Common.{◌≡◌, ◌∙◌, ◌+◌, ◌<◌, suc, length, drop, sym, ap, arith}
use Rattle.std.proofs.lemmas.List.{drop-drop, length-drop, drop_all}
use Rattle.ff_flac_dec.specs.Tags.{named_from}
use Rattle.ff_flac_dec.proofs.NamedLaws.{named_skip, named_start, named_wait, named_decide}
use Rattle.ff_flac_dec.proofs.tag.is_named.Goals as goal

pub tags-preserved : goal.tags-preserved
tags-preserved c =
    let bs = c.args.bytes.now in
    let rest = drop c.tags.at bs in
    let step = sym (rw (c.from_place.ensures, c.in-Skip-default-Tags.field-1-is) at c.in-Skip-default-Tags.ensures.value) in
    let some : 0 < length rest = omega (arith, length-drop c.tags.at bs) in
    let n : c.tags.at + suc c.in-Skip-default-Tags.size ≡ c.tags.at + 1 + c.in-Skip-default-Tags.size = omega arith in
    ap (λ k. named_from 0 (drop k bs)) (sym n)
    ∙ (ap (named_from 0) (sym (drop-drop (suc c.in-Skip-default-Tags.size) c.tags.at bs))
    ∙ (sym (named_skip rest c.in-Skip-default-Tags.size some step) ∙ c.tags.invariant))

pub returns-in-Skip-default-Blocks : goal.returns-in-Skip-default-Blocks
returns-in-Skip-default-Blocks c =
    let bs = c.args.bytes.now in
    let step = sym (rw (c.from_place.ensures, c.in-Skip-default-Blocks.field-1-is) at c.in-Skip-default-Blocks.ensures.value) in
    sym (named_start (drop c.tags.at bs) _ _ (omega (arith, length-drop c.tags.at bs)) step) ∙ c.tags.invariant

pub returns-in-Wait : goal.returns-in-Wait
returns-in-Wait c =
    let bs = c.args.bytes.now in
    sym (named_wait (drop c.tags.at bs) (omega (arith, length-drop c.tags.at bs)) (sym (rw c.from_place.ensures at c.in-Wait.ensures.value))) ∙ c.tags.invariant

pub returns-in-Decide : goal.returns-in-Decide
returns-in-Decide c =
    let bs = c.args.bytes.now in
    let step = sym (rw c.from_place.ensures at c.in-Decide.ensures.value) in
    sym (named_decide (drop c.tags.at bs) _ (omega (arith, length-drop c.tags.at bs)) step) ∙ c.tags.invariant

pub returns : goal.returns
returns c = sym (ap (named_from 0) (drop_all c.tags.at c.args.bytes.now (omega arith))) ∙ c.tags.invariant
