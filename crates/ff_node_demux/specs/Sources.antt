-- A machine that gives one closed stream, an item or its end for each ticket.
use Rattle.std.specs.Prelude.{◌≡◌, ℕ, suc, ◌+◌, ◌≤◌, Bool, true, false, cond, List, [], ◌∷◌, take, length, Some}
use Rattle.ff_stream.specs.Stream.{still_open}
use Rattle.ff_stream.specs.Ports.{nothing, stream_at, IsClosed}
use Rattle.ff_net.specs.Ways.{Flow}
use Rattle.ff_net.specs.Pasts.{Past, units_of}

-- the function of a source: always this stream
abbrev pub only : Flow → List Flow → List Flow
only s inputs = s ∷ []

-- the first n items, and the mark or not
abbrev pub part_of : Flow → ℕ → Bool → Flow
part_of s n ended = record { items = take n s.items; mark = cond ended s.mark still_open }

abbrev pub count : Bool → ℕ
count false = 0
count true = 1

-- what a source of the stream s gave: n items, and the end or not; each took a ticket
pub record Sources (s : Flow) (n : ℕ) (ended ticket : Bool) (past : Past) : Type 0 where
  pub means : past.task.means ≡ only s
  pub source : past.task.source ≡ Some (units_of s)
  pub fed_nothing : (p : ℕ) → stream_at past.got p ≡ nothing
  pub gave : stream_at past.gave 0 ≡ part_of s n ended
  pub others : (p : ℕ) → stream_at past.gave (suc p) ≡ nothing
  pub tickets : length past.allowed ≡ n + count ended + count ticket
  pub in_range : n ≤ length s.items
  pub at_end : ended ≡ true → n ≡ length s.items
  pub closed : IsClosed s
