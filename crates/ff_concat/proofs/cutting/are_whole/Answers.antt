use Rattle.std.proofs.Common.{◌≡◌, ◌<◌, ◌+◌, ◌∙◌, length, false, inl, inr, ap, sym, arith}
use Rattle.ff_stream.specs.Stream.{Mark, whole}
use Rattle.ff_filter.specs.Joins.{silence}
use Rattle.ff_filter.specs.Made.{mark_after}
use Rattle.ff_filter.specs.declared.after.After.{After}
use Rattle.ff_concat.specs.Tails.{together as together_by}
use Rattle.ff_concat.specs.laws.Cuts.{goes_on}
use Rattle.ff_concat.specs.laws.Tracks.{after_at, tails}
use Rattle.ff_concat.proofs.Lookups.{after_get}
use Rattle.ff_concat.proofs.cutting.are_whole.Goals as goal

pub returns-in-More : goal.returns-in-More
returns-in-More c =
    let rs = c.args.reaches.now in
    let there = c.requires.there in
    let stream = c.requires.stream in
    let at : c.args.first + c.args.number < length rs = omega (arith, there, stream) in
    let m = together_by c.args.width c.args.first (tails rs silence) in
    let read = after_get rs (c.args.first + c.args.number) _ at in
    elim c.in-More.is as (λ _. false ≡ goes_on (mark_after (after_at rs (c.args.first + c.args.number))) m) [
      | inl e ↦ sym (ap (λ (a : After). goes_on (mark_after a) m) (read ∙ e))
      | inr e ↦ sym (ap (λ (a : After). goes_on (mark_after a) m) (read ∙ e))
    ]

pub returns-in-Whole-together : goal.returns-in-Whole-together
returns-in-Whole-together c =
    let rs = c.args.reaches.now in
    let there = c.requires.there in
    let stream = c.requires.stream in
    let at : c.args.first + c.args.number < length rs = omega (arith, there, stream) in
    let m = together_by c.args.width c.args.first (tails rs silence) in
    let read = after_get rs (c.args.first + c.args.number) _ at in
    sym (ap (λ (a : After). goes_on (mark_after a) m) (read ∙ c.in-Whole.is)
    ∙ ap (λ (n : Mark). goes_on whole n) (sym c.in-Whole-together.ensures))
