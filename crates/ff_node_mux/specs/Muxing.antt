-- The part that writes the packets of an output's streams in any format: what stands before them in one append, before its first
-- item, then one append for each packet as soon as it is decided, and once each stream is whole what follows them and what takes the
-- place of bytes.
use Rattle.std.specs.Prelude.{pos, ◌≡◌, ◌↔◌, ℕ, zero, suc, ◌+◌, ◌-◌, ◌⊎◌, Bool, true, false, ◌&&◌, if◌then◌else◌, List, [], ◌∷◌, ◌++◌, map, length, Option, Some, None}
use mathlib.Core.List.{IsPrefix}
use Rattle.ff_time.specs.Fraction.{Fraction}
use Rattle.ff_frame.specs.Heads.{base_of_head}
use Rattle.ff_frame.specs.declared.event.Event.{Event}
use Rattle.ff_frame.specs.declared.packet.Pkt.{Pkt}
use Rattle.ff_frame.specs.declared.totals.Totals.{Totals}
use Rattle.ff_frame.specs.declared.head.StreamHead.{StreamHead}
use Rattle.ff_frame.specs.Packet.{packet_at}
use Rattle.ff_stream.specs.declared.item.Item.{Item}
use Rattle.ff_stream.specs.declared.item.Item.TheVariants.{Audio, Video, Packet, Trailer, End, Broken}
use Rattle.ff_stream.specs.declared.item.Lane.{Lane}
use Rattle.ff_stream.specs.declared.item.Lane.TheVariants.{Packets}
use Rattle.ff_stream.specs.Stream.{Mark, still_open, whole, broken, Stream, whole_stream, LiesBelow, is_whole}
use Rattle.ff_stream.specs.Ports.{nothing, stream_at, IsClosed}
use Rattle.ff_filter.specs.Joins.{Ports, joined}
use Rattle.ff_node_mux.specs.merge.Merges.{Placed, packets_of, packets_in, placed, interleaved}
use Rattle.ff_node_mux.specs.merge.Queues.{Merging, base_at}
use Rattle.ff_net.specs.declared.fault.Fault.{Fault}
use Rattle.ff_net.specs.declared.fault.Fault.TheVariants.{TooLarge}
use Rattle.ff_net.specs.Ways.{Flow, AreValid}
use Rattle.ff_net.specs.Pasts.{Past, Task, Feed}
use Rattle.ff_net.specs.laws.Laws.{IsOfInputs}
use Rattle.ff_format.specs.Layouts.{Layout, body, written, text_of, fits, finished}
use Rattle.ff_node_mux.specs.laws.Feeding.{feeds_of, feeds_at}
use Rattle.ff_node_mux.specs.Telling.{mux_tells}

-- the bases of the times of streams with these heads
abbrev pub head_bases : List StreamHead → List Fraction
head_bases heads = map base_of_head heads

abbrev pub head_lanes : List StreamHead → List Lane
head_lanes heads = map (λ h. Packets h) heads

-- ---- the streams of an output as one

abbrev pub packets_at : List Flow → ℕ → Stream Pkt
packets_at ss p = packets_in (stream_at ss p)

-- each of the first n streams is whole
abbrev pub are_whole : ℕ → List Flow → Bool
are_whole zero ss = true
are_whole (suc n) ss = are_whole n ss && is_whole (stream_at ss n).mark

-- how many of the first n streams haven't ended whole
abbrev pub one_if_not : Bool → ℕ
one_if_not true = 0
one_if_not false = 1

abbrev pub count_open : ℕ → List Flow → ℕ
count_open zero ss = 0
count_open (suc n) ss = count_open n ss + one_if_not (is_whole (stream_at ss n).mark)

-- of so many, once an item has come on one of them
abbrev pub left_with : ℕ → Item → ℕ
left_with n (Audio f) = n
left_with n (Video f) = n
left_with n (Packet p) = n
left_with n (Trailer t) = n
left_with n End = n - 1
left_with n Broken = n

abbrev pub whole_if : Bool → Mark
whole_if true = whole
whole_if false = still_open

-- The packets of streams with times of these bases, in the order of their merge, as far as they are decided. That is a whole stream
-- once each of them is, and an open one before.
abbrev pub mixed : List Fraction → List Flow → Stream Placed
mixed bases ss = record { items = interleaved (length bases) (base_at bases) (packets_at ss); mark = whole_if (are_whole (length bases) ss) }

-- of one stream all packets, in their own order; it is whole just where they are all
abbrev pub MixedOne : Type 0
MixedOne = (base : Fraction) (s : Flow)
    → mixed (base ∷ []) (s ∷ []) ≡ record { items = placed 0 (packets_of s.items); mark = whole_if (is_whole s.mark) }

-- ---- totals

-- the totals that were told, once an item has come too: a trailer tells them
abbrev pub totals_with : Option Totals → Item → Option Totals
totals_with totals (Audio f) = totals
totals_with totals (Video f) = totals
totals_with totals (Packet p) = totals
totals_with totals (Trailer t) = Some t
totals_with totals End = totals
totals_with totals Broken = totals

abbrev pub totals_after : Option Totals → List Item → Option Totals
totals_after totals [] = totals
totals_after totals (x ∷ xs) = totals_after (totals_with totals x) xs

-- those that a stream tells
abbrev pub totals_of : Flow → Option Totals
totals_of s = totals_after None s.items

-- those that the first of an output's streams tells: a format that asks for totals has one stream
abbrev pub totals_in : List Fraction → List Flow → Option Totals
totals_in [] ss = None
totals_in (base ∷ bases) ss = totals_of (stream_at ss 0)

-- once an item on the input of this number has come too
abbrev pub totals_on : ℕ → Option Totals → Item → Option Totals
totals_on zero totals x = totals_with totals x
totals_on (suc p) totals x = totals

-- ---- what is written

-- a stream of one packet with these bytes
abbrev pub shown : List ℕ → Flow
shown bytes = whole_stream (Packet (packet_at (pos 0) (pos 0) 0 bytes) ∷ [])

abbrev pub shown_file : Option (List ℕ) → List Flow
shown_file None = []
shown_file (Some bytes) = shown bytes ∷ []

module _ (layout : Layout) where
  -- the text of packets while more may come, or once all have come
  abbrev pub text_by : Mark → List Placed → List ℕ
  text_by still_open packets = written layout packets
  text_by whole packets = text_of layout packets
  text_by broken packets = written layout packets

  abbrev pub file_by : Mark → Option Totals → List Placed → Option (List ℕ)
  file_by still_open totals packets = None
  file_by whole totals packets = finished layout totals packets
  file_by broken totals packets = None

  -- the same of packets in order
  abbrev pub text_for : Stream Placed → List ℕ
  text_for t = text_by t.mark t.items

  abbrev pub file_for : Option Totals → Stream Placed → Option (List ℕ)
  file_for totals t = file_by t.mark totals t.items

  -- how many bytes of packets that are
  abbrev pub size_for : Stream Placed → ℕ
  size_for t = length (body layout t.items)

  -- the fault of more bytes than the format holds
  abbrev pub cause_for : Stream Placed → Option Fault
  cause_for t = if fits layout.longest (size_for t) then None else Some TooLarge

  -- a front of what is written is held, or the file
  abbrev pub HoldsOf : Option Totals → List ℕ → Stream Placed → Type 0
  HoldsOf totals bytes t = IsPrefix bytes (text_for t) ⊎ (file_for totals t ≡ Some bytes)

  -- and that of packets in front, which aren't too many bytes
  abbrev pub HoldsSmall : Option Totals → List ℕ → Stream Placed → Type 0
  HoldsSmall totals bytes t = (r : Stream Placed) × LiesBelow r t × (cause_for r ≡ None) × HoldsOf totals bytes r

  -- of streams with times of these bases
  module _ (bases : List Fraction) where
    -- what is written of them, before bytes of it are replaced: of nothing what stands before the packets
    abbrev pub unpatched : List Flow → List ℕ
    unpatched ss = text_for (mixed bases ss)

    -- their file, once each is whole, with the totals that the first tells, and where their packets aren't too many bytes
    abbrev pub file : List Flow → Option (List ℕ)
    file ss = file_for (totals_in bases ss) (mixed bases ss)

    -- their fault: the packets are more bytes than the format holds
    abbrev pub mux_cause : List Flow → Option Fault
    mux_cause ss = cause_for (mixed bases ss)

    -- What a muxer writes is in no stream that it gives. So that its task says it all the same, it is what the task means where an
    -- input behind its last one is closed, which is never valid: by a whole one a packet of the text, by a broken one a packet of the file.
    abbrev pub mux_answer : List Flow → Mark → List Flow
    mux_answer ss still_open = []
    mux_answer ss whole = shown (unpatched ss) ∷ []
    mux_answer ss broken = shown_file (file ss)

    abbrev pub mux_means : List Flow → List Flow
    mux_means ss = mux_answer ss (stream_at ss (length bases)).mark

    -- it gives no stream of valid inputs, whatever it tells
    abbrev pub mux_task_of : (List Feed → List Event) → Task
    mux_task_of tells = record { means = mux_means; cause = mux_cause; source = None; tells = tells }

  -- what the muxer of the output streams from this number on, with times of these bases, is there for
  abbrev pub mux_task : ℕ → List Fraction → Task
  mux_task first bases = mux_task_of bases (mux_tells first bases)

-- ---- when it stands for a past

-- nothing came on any input
abbrev pub NothingCame : List Flow → Type 0
NothingCame ss = (p : ℕ) → stream_at ss p ≡ nothing

-- these streams, and then further ones
abbrev pub and_then : List Flow → Ports → ℕ → Stream Pkt
and_then ss ext p = packets_in (joined (stream_at ss p) (ext p))

-- The sink holds these bytes, of the streams that were fed. `counts` ties the writer to the packets that it counted; `merge` is
-- what the machine that interleaves shows.
pub record Muxes (holds : Option (List ℕ)) (layout : Layout) (counts : List Placed → Type 0) (totals : Option Totals) (heads : List StreamHead)
    (unended : ℕ) (begun : Bool) (merge : Merging) (fault : Option Fault) (past : Past) (bytes : List ℕ) : Type 0 where
  pub task : past.task ≡ mux_task_of layout (head_bases heads) past.task.tells
  pub valid : AreValid (head_lanes heads) past.got
  pub gave : (p : ℕ) → stream_at past.gave p ≡ nothing
  pub not_begun : begun ≡ false → NothingCame past.got
  pub has_begun : begun ≡ true → NothingCame past.got → ⊥
  pub open_are : unended ≡ count_open (length (head_bases heads)) past.got
  pub closed_is : (p : ℕ) → merge.shut p ≡ true ↔ IsClosed (stream_at past.got p)
  -- it was fed the streams, item by item
  pub feeds_are : (p : ℕ) → feeds_at p past.feeds ≡ feeds_of p (stream_at past.got p)
  pub told : holds ≡ Some bytes
  pub totals_are : totals ≡ totals_in (head_bases heads) past.got
  -- before the first item: nothing, and no fault
  pub fresh : begun ≡ false → (bytes ≡ []) × (fault ≡ None)
  -- without a fault: what is decided was taken out of the merge, which still gives the rest of whatever comes;
  pub merges : fault ≡ None → (ext : Ports) → interleaved (length (head_bases heads)) (base_at (head_bases heads)) (and_then past.got ext)
      ≡ (mixed (head_bases heads) past.got).items ++ merge.rest ext
  -- each packet of it was counted, and they aren't too many bytes;
  pub counted : fault ≡ None → counts (mixed (head_bases heads) past.got).items
  pub small : fault ≡ None → fits layout.longest (size_for layout (mixed (head_bases heads) past.got)) ≡ true
  -- all that is written of the streams is held,
  pub exact : fault ≡ None → begun ≡ true → are_whole (length (head_bases heads)) past.got ≡ false → bytes ≡ unpatched layout (head_bases heads) past.got
  -- and once they are whole their file
  pub finished_is : fault ≡ None → are_whole (length (head_bases heads)) past.got ≡ true → file layout (head_bases heads) past.got ≡ Some bytes
  -- with a fault: a front of that, or the file, and nothing of a packet that makes the packets too many bytes, or of a later one
  pub front : HoldsSmall layout (totals_in (head_bases heads) past.got) bytes (mixed (head_bases heads) past.got)
  pub caused : (c : Fault) → fault ≡ Some c → IsOfInputs c → mux_cause layout (head_bases heads) past.got ≡ Some c

abbrev pub MuxStands : Option (List ℕ) → Layout → (List Placed → Type 0) → Option Totals → List StreamHead → ℕ → Bool → Merging → Option Fault → Past → Type 0
MuxStands holds layout counts totals heads unended begun merge fault past =
    (bytes : List ℕ) × Muxes holds layout counts totals heads unended begun merge fault past bytes
