use Rattle.std.proofs.Common.{◌≤◌, drop, length}
use Rattle.std.specs.List.{AllByRecursion}
use Rattle.ff_words.specs.maps.Choice.{lists}
use Rattle.ff_plan_layout.proofs.limits.are_narrow.Given as goal

abbrev pub invariant-loop-streams : goal.invariant-loop-streams
invariant-loop-streams l = record {
  yes : AllByRecursion (λ hs. length hs ≤ 16) (lists (drop l.streams-index l.heads)) → AllByRecursion (λ hs. length hs ≤ 16) (lists l.heads);
  no : AllByRecursion (λ hs. length hs ≤ 16) (lists l.heads) → AllByRecursion (λ hs. length hs ≤ 16) (lists (drop l.streams-index l.heads));
}
