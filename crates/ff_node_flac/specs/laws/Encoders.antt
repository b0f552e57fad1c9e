-- The encoder as a machine: what it shows, and what it has behind it.
use Rattle.std.specs.Prelude.{◌≡◌, ℕ, ◌<◌, ◌≤◌, ◌↔◌, ◌⊎◌, not, Bool, true, false, List, [], ◌∷◌, None}
use Rattle.ff_frame.specs.declared.audio.AFrame.{AFrame}
use Rattle.ff_frame.specs.declared.head.StreamHead.{StreamHead}
use Rattle.ff_frame.specs.declared.head.StreamHead.TheVariants.{Audio as AudioHead, Video as VideoHead}
use Rattle.ff_stream.specs.declared.item.Lane.TheVariants.{Frames, Packets}
use Rattle.ff_stream.specs.Ports.{nothing, stream_at, IsClosed, IsUnbroken}
use Rattle.ff_stream.specs.Stream.{Mark, still_open, whole, broken, LiesBelow, is_whole}
use Rattle.ff_stream.specs.Within.{some_pass}
use Rattle.ff_flac_enc.specs.declared.format.Format.{Format}
use Rattle.ff_net.specs.laws.Laws.{IsSilent}
use Rattle.ff_net.specs.Pasts.{Past, IsIn}
use Rattle.ff_net.specs.laws.Views.{View}
use Rattle.ff_net.specs.Ways.{Flow, AreValid}
use Rattle.ff_node_flac.specs.declared.queue.Queue.{Queue}
use Rattle.ff_node_flac.specs.declared.shut.Shut.{Shut}
use Rattle.ff_node_flac.specs.declared.shut.Shut.TheVariants as shut
use Rattle.ff_node_flac.specs.Coding.{CanCode, coded_head, sounds, all_coded, passes_in_flac, flac_coded, flac_cause, is_long, long_fault}
use Rattle.ff_node_flac.specs.Packets.{coded_bits, packets_from}
use Rattle.ff_node_flac.specs.laws.Queues.{format_of_queue, queue_ended, Queues}

-- how the frames closed
abbrev pub mark_of : Shut → Mark
mark_of shut.Open = still_open
mark_of shut.Whole = whole
mark_of shut.Broken = broken

-- where the frames go on, so does the queue
abbrev pub goes_on : Shut → Queue → Bool
goes_on shut.Open queue = not (queue_ended queue)
goes_on shut.Whole queue = true
goes_on shut.Broken queue = true

-- the format that frames of this head are coded in
abbrev pub IsFormatOf : StreamHead → Format → Type 0
IsFormatOf (AudioHead tb rate bits channels codec) f = (f.rate ≡ rate) × (f.bits ≡ coded_bits bits) × (f.channels ≡ channels)
IsFormatOf (VideoHead tb format width height sar_num sar_den) f = ⊥

-- while packets are given, and once the totals were
abbrev pub StandsAt : Queue → Bool → Flow → Flow → Type 0
StandsAt queue true got gave = (got.mark ≡ whole) × (gave.items ≡ (all_coded got).items) × (is_long got ≡ false)
StandsAt queue false got gave = (done : List AFrame) × Queues queue (sounds got.items) done × (queue_ended queue ≡ is_whole got.mark)
    × (gave.items ≡ packets_from 0 done) × (some_pass passes_in_flac 0 (packets_from 0 done) ≡ false)

-- it was fed and gave this; where it isn't stopped or over, it goes on from there
pub record Encodes (head : StreamHead) (queue : Queue) (closed : Shut) (told over stopped long : Bool) (past : Past) : Type 0 where
  pub can : CanCode head
  pub format : IsFormatOf head (format_of_queue queue)
  pub means : past.task.means ≡ (λ ss. flac_coded (stream_at ss 0) ∷ [])
  pub cause : past.task.cause ≡ flac_cause
  pub plain : past.task.source ≡ None
  pub silent : IsSilent past
  pub valid : AreValid (Frames head ∷ []) past.got
  pub closed_is : mark_of closed ≡ (stream_at past.got 0).mark
  pub below : LiesBelow (stream_at past.gave 0) (flac_coded (stream_at past.got 0))
  pub beyond : (q : ℕ) → 1 ≤ q → stream_at past.gave q ≡ nothing
  pub stops : (stopped ≡ true) ↔ IsIn 0 past.stopped
  pub over_is : over ≡ true → IsClosed (stream_at past.gave 0)
  pub open_is : over ≡ false → (stream_at past.gave 0).mark ≡ still_open
  pub long_is : long ≡ true → is_long (stream_at past.got 0) ≡ true
  pub unbroken : long ≡ false → IsUnbroken (stream_at past.got 0) → IsUnbroken (stream_at past.gave 0)
  pub asked : stopped ≡ false → over ≡ false → IsIn 0 past.asked → stream_at past.gave 0 ≡ flac_coded (stream_at past.got 0)
  pub state : stopped ≡ false → over ≡ false → StandsAt queue told (stream_at past.got 0) (stream_at past.gave 0)

-- its input is spent where it has closed, or where its output is over or isn't wanted
abbrev pub IsSpentBy : Shut → Bool → Bool → Type 0
IsSpentBy shut.Open over stopped = (over ≡ true) ⊎ (stopped ≡ true)
IsSpentBy shut.Whole over stopped = Unit {0}
IsSpentBy shut.Broken over stopped = Unit {0}

-- a machine that is no source, and whose only fault is that its stream is too long
abbrev pub encoder_view : StreamHead → Queue → Shut → Bool → Bool → Bool → Bool → View
encoder_view head queue closed told over stopped long = record {
  in_lanes = Frames head ∷ [];
  out_lanes = Packets (coded_head head) ∷ [];
  source = None;
  fault = long_fault long;
  device = None;
  failures = 0;
  holds = ⊥;
  tried = 0;
  spent = λ p. (p < 1) × IsSpentBy closed over stopped;
  stands = λ past. Encodes head queue closed told over stopped long past;
}
