use Rattle.std.proofs.Common.{ap, ◌∙◌, sym, not}
use Rattle.ff_stream.specs.Stream.{Mark, is_open}
use Rattle.ff_filter.specs.Made.{mark_after}
use Rattle.ff_fsync.proofs.framesync.Framesync.is_done.Goals as goal

pub returns-in-More : goal.returns-in-More
returns-in-More g c = ap (λ (m : Mark). not (is_open m)) (sym (ap mark_after c.in-More.is) ∙ c.mark.ensures)

pub returns-in-Whole : goal.returns-in-Whole
returns-in-Whole g c = ap (λ (m : Mark). not (is_open m)) (sym (ap mark_after c.in-Whole.is) ∙ c.mark.ensures)

pub returns-in-Broke : goal.returns-in-Broke
returns-in-Broke g c = ap (λ (m : Mark). not (is_open m)) (sym (ap mark_after c.in-Broke.is) ∙ c.mark.ensures)
