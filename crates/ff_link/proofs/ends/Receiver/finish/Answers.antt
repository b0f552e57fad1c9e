use Rattle.std.proofs.Common.{ap, ◌∙◌, sym, le_of_eq, le_trans}
use Rattle.crossbeam_queue.specs.Passes.{ruled_capacity}
use Rattle.ff_link.specs.laws.Flow.{AnyCounts}
use Rattle.ff_link.proofs.Flows.{puts, sees_full, no_room_taken}
use Rattle.ff_link.proofs.ends.Receiver.finish.Goals as goal

pub push_as-requires-clause-rule : goal.push_as-requires-clause-rule
push_as-requires-clause-rule g c = (
  puts AnyCounts _ _ _ _ c.self.invariant.may_tell (le_trans (le_of_eq (ap (λ q. ruled_capacity q.up) c.deref.ensures ∙ c.self.invariant.room)) c.self.invariant.has_room) tt,
  sees_full AnyCounts _ _ c.self.invariant.may_tell,
)

pub unreachable-requires : goal.unreachable-requires
unreachable-requires g c = no_room_taken _ _ c.self.invariant.untold (le_of_eq (sym (ap (λ q. ruled_capacity q.up) c.deref.ensures ∙ c.self.invariant.room))) c.in-Err.ensures.rule.2
