-- Which of the packets that wait goes first.
use Rattle.std.specs.Prelude.{◌≡◌, ℕ, zero, suc, ◌<◌, Bool, true, ◌||◌, ◌&&◌, cond, Option, None, Some, List, [], ◌∷◌}
use Rattle.std.specs.Ordering.{is_lt}
use Rattle.ff_time.specs.Fraction.{Fraction}
use Rattle.ff_time.specs.Rescale.{order_of}
use Rattle.ff_frame.specs.declared.packet.Pkt.{Pkt}
use Rattle.ff_stream.specs.Stream.{is_whole}
use Rattle.ff_filter.specs.Made.{mark_after}
use Rattle.ff_node_mux.specs.declared.merge.queue.PacketQueue.{PacketQueue}
use Rattle.ff_node_mux.specs.merge.Merges.{Placed, is_sooner, is_some}
use Rattle.ff_node_mux.specs.merge.Queues.{no_packets, waiting_at, base_at, bases_of}

abbrev pub head_of : {A : Type 0} → List A → Option A
head_of [] = None
head_of (x ∷ xs) = Some x

-- of a packet of a lower stream and the first of stream n, the one that goes first
abbrev pub sooner_of : (ℕ → Fraction) → Option Placed → ℕ → Option Pkt → Option Placed
sooner_of base o n None = o
sooner_of base None n (Some p) = Some (n, p)
sooner_of base (Some x) n (Some p) = cond (is_sooner base (n, p) x) (Some (n, p)) (Some x)

-- the packet that goes first among the next ones of the first n streams
abbrev pub first_to : (ℕ → Fraction) → ℕ → (ℕ → Option Pkt) → Option Placed
first_to base zero next = None
first_to base (suc n) next = sooner_of base (first_to base n next) n (next n)

-- the time base of each stream, and the packets that wait of it
abbrev pub base_of : List PacketQueue → ℕ → Fraction
base_of qs = base_at (bases_of qs)

abbrev pub waits_of : List PacketQueue → ℕ → List Pkt
waits_of qs p = (waiting_at qs p).packets

abbrev pub next_of : List PacketQueue → ℕ → Option Pkt
next_of qs p = head_of (waits_of qs p)

-- the next packet of this stream, one of the first n, goes first among these
pub record IsFront (qs : List PacketQueue) (n i : ℕ) : Type 0 where
  pub below : i < n
  pub packet : Pkt
  pub others : List Pkt
  pub waits : waits_of qs i ≡ packet ∷ others
  pub first : first_to (base_of qs) n (next_of qs) ≡ Some (i, packet)

abbrev pub IsFirst : List PacketQueue → ℕ → Option ℕ → Type 0
IsFirst qs n None = first_to (base_of qs) n (next_of qs) ≡ None
IsFirst qs n (Some i) = IsFront qs n i

-- whether the next packet of one stream is decoded before that of another
abbrev pub TellsSooner : PacketQueue → PacketQueue → Bool → Type 0
TellsSooner a b t = (p q : Pkt) (ps rs : List Pkt) → a.queue.items ≡ p ∷ ps → b.queue.items ≡ q ∷ rs → t ≡ is_lt (order_of p.dts a.tb q.dts b.tb)

-- so many streams, of these time bases, of which nothing came
abbrev pub AreNew : List Fraction → List PacketQueue → Type 0
AreNew tbs qs = (bases_of qs ≡ tbs) × ((p : ℕ) → waiting_at qs p ≡ no_packets)

-- of each of the first n streams a packet waits, or it is whole
abbrev pub known_to : List PacketQueue → ℕ → Bool
known_to qs zero = true
known_to qs (suc n) = known_to qs n && (is_some (waits_of qs n) || is_whole (mark_after (waiting_at qs n).after))
