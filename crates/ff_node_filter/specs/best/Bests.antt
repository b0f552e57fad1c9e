-- The best input of a machine by the streams that its inputs were fed, and the events that tell where it has become another.
use Rattle.std.specs.Prelude.{ℕ, zero, suc, ◌==◌, ℤ, Bool, true, false, cond, Option, None, Some, unwrap_or, List, [], ◌∷◌, ◌++◌, length}
use Rattle.std.specs.Ordering.{is_lt}
use Rattle.ff_time.specs.Fraction.{Fraction}
use Rattle.ff_time.specs.Rescale.{order_of}
use Rattle.ff_frame.specs.declared.event.Event.{Event}
use Rattle.ff_frame.specs.declared.event.Event.TheVariants.{Best}
use Rattle.ff_stream.specs.declared.item.Item.{Item}
use Rattle.ff_stream.specs.Stream.{Mark, still_open, whole, broken}
use Rattle.ff_stream.specs.Ports.{stream_at}
use Rattle.ff_stream.specs.Times.{end_of}
use Rattle.ff_net.specs.Ways.{Flow, with_item_at}
use Rattle.ff_net.specs.Pasts.{Feed}

-- when the last of these items ends, in ticks; where there is none, what was known before
abbrev pub last_end : Option ℤ → List Item → Option ℤ
last_end before [] = before
last_end before (x ∷ xs) = last_end (Some (end_of x)) xs

-- when the last item of an input's stream ends
abbrev pub end_in : List Flow → ℕ → Option ℤ
end_in ss p = last_end None (stream_at ss p).items

abbrev pub is_over : Mark → Bool
is_over still_open = false
is_over whole = true
is_over broken = true

-- the input has closed
abbrev pub closed_in : List Flow → ℕ → Bool
closed_in ss p = is_over (stream_at ss p).mark

-- the time base number p
abbrev pub base_at : List Fraction → ℕ → Fraction
base_at [] p = record { num = 1; den = 1 }
base_at (b ∷ bs) zero = b
base_at (b ∷ bs) (suc p) = base_at bs p

-- one end lies before another, as exact times, each in ticks of its own base; where there is no item yet, before each end
abbrev pub is_earlier : Option ℤ → Fraction → Option ℤ → Fraction → Bool
is_earlier a ta None tb = false
is_earlier None ta (Some b) tb = true
is_earlier (Some a) ta (Some b) tb = is_lt (order_of a ta b tb)

-- of each input its time base, when its last item ends, and whether it has closed
module _ (base : ℕ → Fraction) (ends : ℕ → Option ℤ) (closed : ℕ → Bool) where
  -- input p instead of a lower one, where that isn't there or ends later
  abbrev pub earlier_of : Option ℕ → ℕ → ℕ
  earlier_of None p = p
  earlier_of (Some i) p = cond (is_earlier (ends p) (base p) (ends i) (base i)) p i

  -- of the first n inputs, among those that haven't closed, the one whose last item ends earliest, the lowest of several
  abbrev pub earliest_to : ℕ → Option ℕ
  earliest_to zero = None
  earliest_to (suc n) = cond (closed n) (earliest_to n) (Some (earlier_of (earliest_to n) n))

-- the best input of streams over these time bases; where all have closed, the one that was the best
abbrev pub best_of : List Fraction → List Flow → ℕ → ℕ
best_of bases ss was = unwrap_or (earliest_to (base_at bases) (end_in ss) (closed_in ss) (length bases)) was

-- the streams, with what was fed to them
abbrev pub streams_on : List Flow → List Feed → List Flow
streams_on ss [] = ss
streams_on ss (f ∷ fs) = streams_on (with_item_at ss f.port f.item) fs

-- the best input after these feeds, behind streams of which it was this one
abbrev pub best_on : List Fraction → List Flow → ℕ → List Feed → ℕ
best_on bases ss was [] = was
best_on bases ss was (f ∷ fs) = best_on bases (with_item_at ss f.port f.item) (best_of bases (with_item_at ss f.port f.item) was) fs

-- what a graph tells where its best input was one and is another
abbrev pub turned : ℕ → ℕ → ℕ → List Event
turned graph was is = cond (is == was) [] (Best graph is ∷ [])

-- and what it tells of these feeds, behind such streams
abbrev pub events_on : ℕ → List Fraction → List Flow → ℕ → List Feed → List Event
events_on graph bases ss was [] = []
events_on graph bases ss was (f ∷ fs) = turned graph was (best_of bases (with_item_at ss f.port f.item) was)
    ++ events_on graph bases (with_item_at ss f.port f.item) (best_of bases (with_item_at ss f.port f.item) was) fs

-- the best input after these feeds; it is input 0 at the start
abbrev pub best_after : List Fraction → List Feed → ℕ
best_after bases feeds = best_on bases [] 0 feeds

-- What a graph tells of these feeds: each time after a feed that its best input has become another, which one that is.
abbrev pub best_events : ℕ → List Fraction → List Feed → List Event
best_events graph bases feeds = events_on graph bases [] 0 feeds
