-- What a muxer tells of its output streams: of each packet the time at which it is decoded, and of what closes a stream that it has
-- finished.
use Rattle.std.specs.Prelude.{◌≡◌, ℕ, zero, suc, ◌+◌, ◌-◌, ◌*◌, ◌/◌, ◌^◌, ◌<◌, ◌≤◌, min, ℤ, pos, List, [], ◌∷◌, ◌++◌, All, length}
use Rattle.std.specs.List.{flat_map}
use Rattle.std.proofs.Common.{sym, ap, ◌∙◌}
use mathlib.Core.List.{IsPrefix}
use Rattle.ff_time.specs.Fraction.{Fraction, IsBase}
use Rattle.ff_time.specs.Rescale.{IsRescaled}
use Rattle.ff_frame.specs.Heads.{base_of_head}
use Rattle.ff_frame.specs.declared.head.StreamHead.{StreamHead}
use Rattle.ff_frame.specs.declared.packet.Pkt.{Pkt}
use Rattle.ff_frame.specs.declared.event.Event.{Event}
use Rattle.ff_frame.specs.declared.event.Event.TheVariants.{Grant, Sent, Finished, Best, Exited}
use Rattle.ff_stream.specs.declared.item.Item.{Item}
use Rattle.ff_stream.specs.declared.item.Item.TheVariants.{Audio, Video, Packet, Trailer, End, Broken}
use Rattle.ff_stream.specs.declared.item.Lane.TheVariants.{Packets}
use Rattle.ff_stream.specs.Lanes.{IsItemFor, EndsInTime}
use Rattle.ff_stream.specs.Times.{ticks}
use Rattle.ff_net.specs.Pasts.{Past, Feed}

-- a millionth of a second
abbrev pub microsecond : Fraction
microsecond = record { num = 1; den = 1000000 }

-- a time of this base in microseconds, rounded to the nearest, halves upwards; 0 where it lies before 0, and at most 2^63 - 1
abbrev pub micros_of : Fraction → ℤ → ℕ
micros_of base time = min (2 ^ 63 - 1) ((2 * (ticks time * (base.num * 1000000)) + base.den) / (2 * base.den))

-- what an output stream, the one of this number, tells of an item
abbrev pub told_by : ℕ → Fraction → Item → List Event
told_by stream base (Audio f) = []
told_by stream base (Video f) = []
told_by stream base (Packet p) = Sent stream (micros_of base p.dts) ∷ []
told_by stream base (Trailer t) = []
told_by stream base End = Finished stream ∷ []
told_by stream base Broken = Finished stream ∷ []

-- what the output streams from this number on, with times of these bases, tell of an item on the input of number p
abbrev pub told_at : ℕ → List Fraction → ℕ → Item → List Event
told_at first [] p x = []
told_at first (base ∷ bases) zero x = told_by first base x
told_at first (base ∷ bases) (suc p) x = told_at (suc first) bases p x

-- of all that was fed, in order
abbrev pub mux_tells : ℕ → List Fraction → List Feed → List Event
mux_tells first bases feeds = flat_map (λ (f : Feed). told_at first bases f.port f.item) feeds

-- what was told, and what waits to be told, is what is to be told of all that was fed
pub record TellsFed (first : ℕ) (bases : List Fraction) (waiting : List Event) (tells : List Feed → List Event) (told : List Event) (feeds : List Feed) : Type 0 where
  pub tells_is : tells ≡ mux_tells first bases
  pub all : told ++ waiting ≡ mux_tells first bases feeds

-- it told no more than that
pub told_front : (first : ℕ) (bases : List Fraction) (waiting : List Event) (past : Past)
    → TellsFed first bases waiting past.task.tells past.told past.feeds → IsPrefix past.told (past.task.tells past.feeds)
told_front first bases waiting past t = (waiting, t.all ∙ sym (ap (λ (f : List Feed → List Event). f past.feeds) t.tells_is))

-- one of so many streams, from this number on
abbrev pub IsAmong : ℕ → ℕ → ℕ → Type 0
IsAmong first count j = (first ≤ j) × (j < first + count)

-- an event of one of these output streams, at a time below 2^63
abbrev pub IsOfStreams : ℕ → ℕ → Event → Type 0
IsOfStreams first count (Grant k) = ⊥
IsOfStreams first count (Sent j t) = IsAmong first count j × (t < 2 ^ 63)
IsOfStreams first count (Finished j) = IsAmong first count j
IsOfStreams first count (Best g i) = ⊥
IsOfStreams first count (Exited k) = ⊥

-- whatever was fed
abbrev pub AllOfStreams : Type 0
AllOfStreams = (first : ℕ) (bases : List Fraction) (feeds : List Feed) → All (IsOfStreams first (length bases)) (mux_tells first bases feeds)

-- of a valid packet it is the time at which it is decoded, rescaled to microseconds
abbrev pub SentTimes : Type 0
SentTimes = (head : StreamHead) (p : Pkt) → IsBase (base_of_head head) → IsItemFor (Packets head) (Packet p) → EndsInTime (Packets head) (Packet p)
    → IsRescaled p.dts (base_of_head head) microsecond (pos (micros_of (base_of_head head) p.dts))
