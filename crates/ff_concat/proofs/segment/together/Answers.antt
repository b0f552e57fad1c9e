use Rattle.std.proofs.Common.{◌≡◌, ℕ, subst, sym, add-one, arith}
use Rattle.ff_filter.specs.Joins.{silence}
use Rattle.ff_filter.specs.Made.{mark_after}
use Rattle.ff_concat.specs.Tails.{together as together_by}
use Rattle.ff_concat.specs.laws.Tracks.{tails}
use Rattle.ff_concat.proofs.Segments.{together_more}
use Rattle.ff_concat.proofs.segment.together.Goals as goal

pub streams-preserved : goal.streams-preserved
streams-preserved c =
    let rs = c.args.reaches.now in
    subst (λ (n : ℕ). mark_after c.both-after.result ≡ together_by n c.args.first (tails rs silence)) (sym (add-one c.streams.k))
    (together_more rs c.streams.k c.args.first c.index-reaches-first.result c.streams.after c.both-after.result (omega arith) c.streams.invariant c.both-after.ensures)
