use Rattle.std.proofs.Common.{◌≡◌, ◌<◌, ◌/◌, ◌%◌, ◌∙◌, ℕ, length, set, get_or, sym, subst, arith}
use Rattle.std.proofs.Math.Nat.{mod-lt}
use Rattle.ff_filter.specs.Views.{Fed}
use Rattle.ff_concat.specs.laws.Tracks.{view_of}
use Rattle.ff_concat.specs.laws.Moves.{Kept}
use Rattle.ff_concat.proofs.Lookups.{after_read}
use Rattle.ff_concat.proofs.Same.{unchanged_goes_on}
use Rattle.ff_concat.proofs.Outputs.{set_same}
use Rattle.ff_concat.proofs.Places.{some_outputs}
use Rattle.ff_concat.proofs.Feeds.{moved_set, kept_fed}
use Rattle.ff_concat.proofs.concat.Concat.keep.Goals as goal

pub returns-in-Err-clause-unchanged : goal.returns-in-Err-clause-unchanged
returns-in-Err-clause-unchanged c =
    let m = c.args.self.now in
    let ts = m.tracks.items in
    let i = c.args.port % c.len-width.result in
    let o = c.index_mut.result.now in
    let u = c.keep.new.self in
    let long : length ts ≡ c.len-width.result = omega arith in
    let lt : i < length ts = subst (λ (w : ℕ). c.args.port % w < length ts) long (mod-lt c.args.port (some_outputs m c.args.port c.requires.there)) in
    set_same m.ticks.items m.segments m.reaches.items ts i o u lt c.index_mut.ensures.value (unchanged_goes_on m.ticks.items i o u m.reaches.items c.in-Err.ensures.unchanged)

pub returns-in-Ok-clause-fed : goal.returns-in-Ok-clause-fed
returns-in-Ok-clause-fed c =
    let m = c.args.self.now in
    let rs = m.reaches.items in
    let ts = m.tracks.items in
    let p = c.args.port in
    let r = c.pass.new.self in
    let o = c.index_mut.result.now in
    let u = c.keep.new.self in
    let x = c.args.item in
    let ticks = m.ticks.items in
    let some = some_outputs m p c.requires.there in
    let long : length ts ≡ c.len-width.result = omega arith in
    let width : length ticks ≡ c.len-width.result = m.outputs ∙ long in
    subst (λ (w : ℕ). Fed (view_of ticks m.segments rs ts) (view_of ticks m.segments (set rs p r) (set ts (p % w) u)) p x) width
    (kept_fed ticks m.segments rs (set rs p r) p r x (moved_set rs p r c.requires.there) c.requires.open ts o u (sym m.outputs) (subst (λ (w : ℕ). 0 < w) (sym m.outputs) some)
    (subst (λ (w : ℕ). p % w < length ts) (sym m.outputs) (mod-lt p some))
    (subst (λ (w : ℕ). o ≡ get_or ts (p % w) o) (sym width) c.index_mut.ensures.value)
    (c.pass.ensures.end ∙ c.end_ticks-end.ensures.is)
    (c.pass.ensures.after ∙ sym (after_read rs p c.index_mut-in-Ok.result.now c.requires.there c.index_mut-in-Ok.ensures.value)) c.requires.goes_on
    (subst (λ (w : ℕ). Kept o u (p / w) x) (sym width) c.in-Ok.ensures.kept))
