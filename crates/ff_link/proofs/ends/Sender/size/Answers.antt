use Rattle.std.proofs.Common.{ap, ◌∙◌}
use Rattle.crossbeam_queue.specs.Passes.{ruled_capacity}
use Rattle.ff_link.specs.laws.Views.{Sending}
use Rattle.ff_link.proofs.ends.Sender.size.Goals as goal

pub returns : goal.returns
returns c = c.capacity.ensures ∙ ap (λ q. ruled_capacity q.down) c.deref.ensures ∙ c.self.invariant.room ∙ ap (λ (s : Sending). s.room) c.self.view_is
