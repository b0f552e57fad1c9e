use Rattle.std.proofs.Common.{◌≡◌, ◌%◌, ◌∙◌, ◌||◌, ℕ, Bool, length, get_or, sym, ap, subst, arith}
use Rattle.std.proofs.Math.Nat.{mod-lt}
use Rattle.ff_concat.specs.laws.Tracks.{ended_at}
use Rattle.ff_concat.proofs.Lookups.{ended_read, stopped_read}
use Rattle.ff_concat.proofs.Places.{some_outputs}
use Rattle.ff_concat.proofs.concat.Concat.take_in.Goals as goal

pub pass_over-requires-clause-done : goal.pass_over-requires-clause-done
pass_over-requires-clause-done c =
    let m = c.args.self.now in
    let ts = m.tracks.items in
    let t = c.index.result.now in
    let lt = mod-lt c.args.port (some_outputs m c.args.port c.requires.there) in
    let i = c.args.port % length ts in
    let long : c.len.result ≡ length ts = omega arith in
    let is : t ≡ get_or ts i t = subst (λ (w : ℕ). t ≡ get_or ts (c.args.port % w) t) long c.index.ensures in
    ap (λ (b : Bool). b || ended_at ts i) (stopped_read ts i t lt is)
    ∙ (ap (λ (b : Bool). t.stopped || b) (ended_read ts i t lt is) ∙ (sym c.is_done.ensures ∙ c.if-is_done.true))
