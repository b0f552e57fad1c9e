use Rattle.std.proofs.Common.{◌≡◌, ◌∙◌, ◌+ℤ◌, ℕ, ℤ, pos, nat_lt, w64, to_z, of_z, ap, sym, arith}
use Rattle.std.specs.Int.{w128}
use Rattle.std.proofs.lemmas.Int.{to_z-of_z}
use Rattle.ff_stream.specs.Times.{ticks}
use Rattle.ff_concat.proofs.Shifting.{late_from, back_end}
use Rattle.ff_concat.proofs.shifts.shift_of.Goals as goal

pub returns-then-long-lt0 : goal.returns-then-long-lt0
returns-then-long-lt0 c =
    let no = c.if-last-end_after.false in
    let time : to_z w64 (of_z w64 c.args.time) ≡ c.args.time = to_z-of_z w64 c.args.time c.ranges.time in
    let long : to_z w128 (of_z w128 c.args.long) ≡ c.args.long = to_z-of_z w128 c.args.long c.ranges.long in
    let t : c.end_after.result ≡ ticks (c.args.time +ℤ c.args.long) =
    c.end_after.ensures ∙ (ap (λ (z : ℤ). ticks (z +ℤ to_z w128 (of_z w128 c.args.long))) time ∙ ap (λ (z : ℤ). ticks (c.args.time +ℤ z)) long) in
    let s : c.ticks_of-start.result ≡ ticks c.args.time = c.ticks_of-start.ensures.is ∙ ap ticks time in
    let b : pos c.turned.result +ℤ c.args.long ≡ pos 0 = ap (λ (z : ℤ). pos c.turned.result +ℤ z) (sym long) ∙ c.turned.ensures.is in
    λ by most. late_from c.args.last by c.back.result c.args.time c.args.long (omega (arith, no, t)) c.back.ensures.some
    (λ one. c.back.ensures.is by one most
    ∙ ap (λ (n : ℕ). nat_lt c.args.last n) (sym (back_end by c.ticks_of-start.result c.turned.result c.args.time c.args.long s b)))
