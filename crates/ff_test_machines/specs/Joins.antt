-- A machine that joins two inputs: it gives the first of each pair of items.
use Rattle.std.specs.Prelude.{◌≡◌, ◌↔◌, ℕ, zero, suc, ◌<◌, ◌≤◌, ◌⊎◌, Bool, true, false, cond, nat_le, List, [], ◌∷◌, length, take, None}
use Rattle.ff_stream.specs.declared.item.Lane.{Lane}
use Rattle.ff_stream.specs.Stream.{Mark, still_open, whole, broken}
use Rattle.ff_stream.specs.Lanes.{IsValid}
use Rattle.ff_stream.specs.Ports.{nothing, stream_at, IsClosed}
use Rattle.ff_net.specs.Ways.{Flow}
use Rattle.ff_net.specs.Pasts.{Past, IsIn}
use Rattle.ff_net.specs.laws.Laws.{IsSilent}
use Rattle.ff_test_machines.specs.declared.join.Ending.{Ending}
use Rattle.ff_test_machines.specs.declared.join.Ending.TheVariants.{Open, Whole, Broken}
use Rattle.ff_test_machines.specs.declared.join.Kept.{Kept}
use Rattle.ff_test_machines.specs.Relays.{no_cause}

-- the items of the first stream that have a partner in the second; it ends as the first where each has one, and as the
-- second where one has none
abbrev pub joined : Flow → Flow → Flow
joined a b = record { items = take (length b.items) a.items; mark = cond (nat_le (length a.items) (length b.items)) a.mark b.mark }

abbrev pub join : List Flow → List Flow
join ss = joined (stream_at ss 0) (stream_at ss 1) ∷ []

abbrev pub mark_of : Ending → Mark
mark_of Open = still_open
mark_of Whole = whole
mark_of Broken = broken

-- the stream that was kept
abbrev pub kept_of : Kept → Flow
kept_of kept = record { items = kept.items.items; mark = mark_of kept.ending }

abbrev pub input_of : Flow → Flow → ℕ → Flow
input_of first second zero = first
input_of first second (suc p) = second

abbrev pub is_spent_join : Flow → Flow → Bool → ℕ → Type 0
is_spent_join first second stopped p = (p < 2) × ((stopped ≡ true) ⊎ (IsClosed (joined first second) ⊎ IsClosed (input_of first second p)))

-- what was given: so many items, or all
abbrev pub given_so_far : Flow → Flow → ℕ → Bool → Flow
given_so_far first second next ended = cond ended (joined first second) (record { items = take next first.items; mark = still_open })

pub record Joins (lane : Lane) (first second : Flow) (next : ℕ) (ended stopped : Bool) (past : Past) : Type 0 where
  pub means : past.task.means ≡ join
  pub silent : IsSilent past
  pub cause : past.task.cause ≡ no_cause
  pub plain : past.task.source ≡ None
  pub first_is : stream_at past.got 0 ≡ first
  pub second_is : stream_at past.got 1 ≡ second
  pub others : (p : ℕ) → 2 ≤ p → stream_at past.got p ≡ nothing
  pub first_valid : IsValid lane first
  pub second_valid : IsValid lane second
  pub gave : stream_at past.gave 0 ≡ given_so_far first second next ended
  pub beyond : (q : ℕ) → 1 ≤ q → stream_at past.gave q ≡ nothing
  pub there : next ≤ length first.items
  pub paired : next ≤ length second.items
  pub at_end : ended ≡ true → IsClosed (joined first second)
  pub stops : stopped ≡ true ↔ IsIn 0 past.stopped
