-- What the broken rule says of segments of several streams.
use Rattle.std.specs.Prelude.{◌≡◌, ◌↔◌, ℕ, zero, suc, ◌+◌, ◌*◌, ◌<◌, List, map, length, slice_index}
use Rattle.ff_frame.specs.declared.head.StreamHead.{StreamHead}
use Rattle.ff_stream.specs.Stream.{whole, broken, opened}
use Rattle.ff_stream.specs.Ports.{stream_at}
use Rattle.ff_stream.specs.laws.Breaks.{IsBrokenOff}
use Rattle.ff_filter.specs.Joins.{Flow}
use Rattle.ff_concat.specs.Tails.{Tail, tail_of, latest}
use Rattle.ff_concat.specs.Concats.{begin_in, Output, ticks_of, concatenated}

-- so many streams, of any items
abbrev pub AreSo : ℕ → List Flow → Type 0
AreSo n ss = length ss ≡ n

-- output q of n segments of these heads
abbrev pub output_at : List StreamHead → StreamHead → ℕ → ℕ → List Flow → Flow
output_at heads head q n ss = concatenated heads head q n (stream_at ss)

-- from segment k on, each ends on the output before the last time of 64 bits
abbrev pub EndInTime : List ℕ → Output → ℕ → ℕ → ℕ → (ℕ → Tail) → Type 0
EndInTime tick_list out zero k time tails = Unit {0}
EndInTime tick_list out (suc n) k time tails =
    (begin_in out.tick time + (tails (k * length tick_list + out.number)).end < 9223372036854775807)
    × EndInTime tick_list out n (k + 1) (time + latest tick_list (length tick_list) (k * length tick_list) tails) tails

abbrev pub HasRoom : List StreamHead → StreamHead → ℕ → ℕ → List Flow → Type 0
HasRoom heads head q n ss =
    EndInTime (ticks_of heads) (record { head = head; tick = slice_index (ticks_of heads) q; number = q }) n 0 0 (λ p. tail_of (stream_at ss p))

-- The broken rule, where the output has room: a broken input counts as open without a further item. The output is broken exactly
-- where it is broken off.
pub record KeepsBrokenRuleIn (Room : List Flow → Type 0) (meant : List Flow → Type 0) (f : List Flow → Flow) : Type 0 where
  pub items : (ss : List Flow) → meant ss → (f ss).items ≡ (f (map opened ss)).items
  pub wholeness : (ss : List Flow) → meant ss → ((f ss).mark ≡ whole) ↔ ((f (map opened ss)).mark ≡ whole)
  pub breaks : (ss : List Flow) → meant ss → Room ss → ((f ss).mark ≡ broken) ↔ IsBrokenOff meant f ss
