-- What waits of each segment, and what is kept of it.
use Rattle.std.specs.Prelude.{◌≡◌, ℕ, zero, suc, ◌<◌, ◌≤◌, Bool, false, ◌||◌, nat_le, List, [], ◌∷◌, length}
use Rattle.ff_frame.specs.declared.head.StreamHead.{StreamHead}
use Rattle.ff_stream.specs.declared.item.Item.{Item}
use Rattle.ff_concat.specs.declared.backlog.Backlog.{Backlog}
use Rattle.ff_concat.specs.laws.Late.{some_late}

-- the items that wait of segment k
abbrev pub queue_at : List Backlog → ℕ → List Item
queue_at [] k = []
queue_at (b ∷ bs) zero = b.queue.items
queue_at (b ∷ bs) (suc k) = queue_at bs k

-- by how many ticks the items that came of it are to be later, at the least, so that one of them ends past the last second
abbrev pub least_at : List Backlog → ℕ → ℕ
least_at [] k = 0
least_at (b ∷ bs) zero = b.least
least_at (b ∷ bs) (suc k) = least_at bs k

-- What is kept of an output that goes on tells of each segment whether one of its items ends too late. Of the current segment
-- that is said for the ticks by which its items are later, and of each behind it for any number of ticks.
abbrev pub AreTold : StreamHead → ℕ → ℕ → Bool → Bool → List Backlog → Type 0
AreTold head current by stopped ended bs =
    (stopped || ended) ≡ false → (k c : ℕ) → current ≤ k → k < length bs → c ≤ 9223372036854775807 → (k ≡ current → c ≡ by)
    → nat_le (least_at bs k) c ≡ some_late head c (queue_at bs k)
