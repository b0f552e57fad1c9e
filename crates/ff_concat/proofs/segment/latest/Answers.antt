use Rattle.std.proofs.Common.{◌≡◌, ℕ, subst, sym, add-one, arith}
use Rattle.ff_filter.specs.Joins.{silence}
use Rattle.ff_concat.specs.Tails.{latest as latest_by}
use Rattle.ff_concat.specs.laws.Tracks.{tails}
use Rattle.ff_concat.proofs.Segments.{latest_more}
use Rattle.ff_concat.proofs.segment.latest.Goals as goal

pub streams-preserved : goal.streams-preserved
streams-preserved c =
    let rs = c.args.reaches.now in
    let ts = c.args.ticks.now in
    subst (λ (n : ℕ). c.max-latest.result ≡ latest_by ts n c.args.first (tails rs silence)) (sym (add-one c.streams.k))
    (latest_more ts rs c.streams.k c.args.first c.index-reaches-first.result c.streams.latest c.max-latest.result (omega (arith, c.requires.there))
    c.streams.invariant c.max-latest.ensures)
