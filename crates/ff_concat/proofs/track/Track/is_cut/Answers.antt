use Rattle.std.proofs.Common.{◌≡◌, ◌<◌, ◌≤◌, ◌+◌, ◌*◌, ◌^◌, ◌∙◌, ℕ, min, Bool, length, map, List, get_or, ap, sym, arith}
use Rattle.std.specs.Prelude.{◌&&◌}
use Rattle.std.proofs.lemmas.List.{length-map}
use Rattle.ff_stream.specs.declared.item.Item.{Item}
use Rattle.ff_stream.specs.declared.item.Lane.TheVariants.{Frames}
use Rattle.ff_stream.specs.Within.{some_pass, passes_limits}
use Rattle.ff_filter.specs.Joins.{silence}
use Rattle.ff_filter.specs.Made.{mark_after}
use Rattle.ff_concat.specs.Concats.{later}
use Rattle.ff_concat.specs.Silences.{filled}
use Rattle.ff_concat.specs.Tails.{together as together_by, latest as latest_by}
use Rattle.ff_concat.specs.laws.Cuts.{goes_on}
use Rattle.ff_concat.specs.laws.Queues.{queue_at}
use Rattle.ff_concat.specs.laws.TrackLaws.{port_there}
use Rattle.ff_concat.specs.laws.Tracks.{after_at, end_at, tails, cut_from}
use Rattle.ff_concat.proofs.CutSteps.{at_first, at_second, at_third, cut_on, cut_time}
use Rattle.ff_concat.proofs.Limiting.{few_pass}
use Rattle.ff_concat.proofs.Lookups.{queue_read, end_get}
use Rattle.ff_concat.proofs.track.Track.is_cut.Goals as goal

pub returns-then-zeros_pass : goal.returns-then-zeros_pass
returns-then-zeros_pass c =
    let t = c.args.self.now in
    let bs = t.backlogs.items in
    let rs = c.args.reaches.now in
    let ts = c.args.ticks.now in
    let w = length ts in
    let q = c.args.number in
    let k = c.segments.segment in
    let by = c.begin_of-by.result in
    let n = length (filled t.head c.segments.end by) in
    let passes = passes_limits (Frames t.head) in
    let lt : k < length bs = (let a = c.segments-test.true in let l = c.len-segment-end.ensures in omega (arith, a, l)) in
    at_first (cut_from ts q t rs c.segments.before k c.segments.begin c.segments.end) (some_pass passes c.segments.before (filled t.head c.segments.end by))
    (some_pass passes (c.segments.before + n) (map (later by) (queue_at bs k)))
    (goes_on (mark_after (after_at rs (k * w + q))) (together_by w (k * w) (tails rs silence))
    && cut_from ts q t rs (c.segments.before + n + length (queue_at bs k)) (k + 1) (c.segments.begin + latest_by ts w (k * w) (tails rs silence))
    (by + end_at rs (k * w + q)))
    (cut_on ts q t rs c.segments.before k c.segments.begin c.segments.end by n lt c.begin_of-by.ensures.is (λ i. n))
    (sym c.zeros_pass.ensures ∙ c.if-zeros_pass.true)
    ∙ c.segments.invariant.same

pub items_pass-requires-clause-before : goal.items_pass-requires-clause-before
items_pass-requires-clause-before c =
    let t = c.args.self.now in
    let none = sym c.zeros_pass.ensures ∙ c.if-zeros_pass.false in
    let few = few_pass t.head c.segments.before (filled t.head c.segments.end c.begin_of-by.result) none c.segments.invariant.few in
    let count = c.frames_between.ensures.is in
    omega (arith, few, count)

pub returns-then-items_pass : goal.returns-then-items_pass
returns-then-items_pass c =
    let t = c.args.self.now in
    let bs = t.backlogs.items in
    let rs = c.args.reaches.now in
    let ts = c.args.ticks.now in
    let w = length ts in
    let q = c.args.number in
    let k = c.segments.segment in
    let by = c.begin_of-by.result in
    let n = c.frames_between.result in
    let passes = passes_limits (Frames t.head) in
    let lt : k < length bs = (let a = c.segments-test.true in let l = c.len-segment-end.ensures in omega (arith, a, l)) in
    at_second (cut_from ts q t rs c.segments.before k c.segments.begin c.segments.end) (some_pass passes c.segments.before (filled t.head c.segments.end by))
    (some_pass passes (c.segments.before + n) (map (later by) (queue_at bs k)))
    (goes_on (mark_after (after_at rs (k * w + q))) (together_by w (k * w) (tails rs silence))
    && cut_from ts q t rs (c.segments.before + n + length (queue_at bs k)) (k + 1) (c.segments.begin + latest_by ts w (k * w) (tails rs silence))
    (by + end_at rs (k * w + q)))
    (cut_on ts q t rs c.segments.before k c.segments.begin c.segments.end by n lt c.begin_of-by.ensures.is c.frames_between.ensures.is)
    (sym c.zeros_pass.ensures ∙ c.if-zeros_pass.false) (sym c.items_pass.ensures ∙ c.if-items_pass.true)
    ∙ c.segments.invariant.same

pub returns-then-not-are_whole : goal.returns-then-not-are_whole
returns-then-not-are_whole c =
    let t = c.args.self.now in
    let bs = t.backlogs.items in
    let rs = c.args.reaches.now in
    let ts = c.args.ticks.now in
    let w = length ts in
    let q = c.args.number in
    let k = c.segments.segment in
    let by = c.begin_of-by.result in
    let n = c.frames_between.result in
    let passes = passes_limits (Frames t.head) in
    let lt : k < length bs = (let a = c.segments-test.true in let l = c.len-segment-end.ensures in omega (arith, a, l)) in
    let g = goes_on (mark_after (after_at rs (k * w + q))) (together_by w (k * w) (tails rs silence)) in
    let late = latest_by ts w (k * w) (tails rs silence) in
    let r = cut_from ts q t rs (c.segments.before + n + length (queue_at bs k)) (k + 1) (c.segments.begin + late) (by + end_at rs (k * w + q)) in
    ap (λ (b : Bool). b && r) (sym c.if-not-are_whole.true ∙ c.are_whole.ensures)
    ∙ (at_third (cut_from ts q t rs c.segments.before k c.segments.begin c.segments.end) (some_pass passes c.segments.before (filled t.head c.segments.end by))
    (some_pass passes (c.segments.before + n) (map (later by) (queue_at bs k))) g r
    (cut_on ts q t rs c.segments.before k c.segments.begin c.segments.end by n lt c.begin_of-by.ensures.is c.frames_between.ensures.is)
    (sym c.zeros_pass.ensures ∙ c.if-zeros_pass.false) (sym c.items_pass.ensures ∙ c.if-items_pass.false)
    ∙ c.segments.invariant.same)

pub segments-preserved : goal.segments-preserved
segments-preserved c =
    let t = c.args.self.now in
    let bs = t.backlogs.items in
    let rs = c.args.reaches.now in
    let ts = c.args.ticks.now in
    let w = length ts in
    let q = c.args.number in
    let k = c.segments.segment in
    let by = c.begin_of-by.result in
    let n = c.frames_between.result in
    let passes = passes_limits (Frames t.head) in
    let inputs = c.requires.inputs in
    let inv = c.segments.invariant in
    let from = inv.from in
    let lt : k < length bs = (let a = c.segments-test.true in let l = c.len-segment-end.ensures in omega (arith, a, l)) in
    let there = port_there w k q (length bs) lt c.requires.stream in
    let at : k * w + q < length rs = omega (arith, there, inputs) in
    let xs = queue_at bs k in
    let g = goes_on (mark_after (after_at rs (k * w + q))) (together_by w (k * w) (tails rs silence)) in
    let late = latest_by ts w (k * w) (tails rs silence) in
    let rest : ℕ → ℕ → ℕ → Bool = λ i time end. cut_from ts q t rs i (k + 1) time end in
    let no_zeros = sym c.zeros_pass.ensures ∙ c.if-zeros_pass.false in
    let no_items = sym c.items_pass.ensures ∙ c.if-items_pass.false in
    let long : length xs ≡ c.len.result = ap (λ (ys : List Item). length ys) (queue_read bs k c.index.result.now lt c.index.ensures) ∙ sym c.len.ensures in
    let first = few_pass t.head c.segments.before (filled t.head c.segments.end by) no_zeros inv.few in
    let count = c.frames_between.ensures.is in
    let few : c.segments.before + n ≤ 2 ^ 64 = omega (arith, first, count) in
    let more = few_pass t.head (c.segments.before + n) (map (later by) xs) no_items few in
    let same = length-map xs (later by) in
    let most : ℕ = 340282366920938463463374607431768211455 in
    let time : c.saturating_add-begin.result ≡ min (c.segments.begin + late) most =
    c.saturating_add-begin.ensures ∙ ap (λ (l : ℕ). min (c.segments.begin + l) most) c.latest.ensures in
    let i = c.segments.before + n in
    record {
      same = ap (λ (l : ℕ). rest (i + l) c.saturating_add-begin.result (by + (get_or rs (k * w + q) c.index-reaches-first.result).end)) (sym long)
          ∙ (ap (λ (s : ℕ). rest (i + length xs) s (by + (get_or rs (k * w + q) c.index-reaches-first.result).end)) time
          ∙ (ap (λ (e : ℕ). rest (i + length xs) (min (c.segments.begin + late) most) (by + e)) (sym (end_get rs (k * w + q) c.index-reaches-first.result at))
          ∙ (cut_time ts q t rs (i + length xs) (k + 1) (c.segments.begin + late) (by + end_at rs (k * w + q))
          ∙ (ap (λ (b : Bool). b && rest (i + length xs) (c.segments.begin + late) (by + end_at rs (k * w + q))) (sym c.if-not-are_whole.false ∙ c.are_whole.ensures)
          ∙ (at_third (cut_from ts q t rs c.segments.before k c.segments.begin c.segments.end) (some_pass passes c.segments.before (filled t.head c.segments.end by))
          (some_pass passes i (map (later by) xs)) g (rest (i + length xs) (c.segments.begin + late) (by + end_at rs (k * w + q)))
          (cut_on ts q t rs c.segments.before k c.segments.begin c.segments.end by n lt c.begin_of-by.ensures.is c.frames_between.ensures.is) no_zeros no_items
          ∙ inv.same)))));
      few = omega (arith, more, same, long);
      from = omega (arith, from);
      here = λ e. absurd (omega (arith, from, e));
    }
