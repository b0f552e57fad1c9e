-- How the machine that interleaves is seen: what it still gives for what is still to come; and what each call does to that.
use Rattle.std.specs.Prelude.{◌≡◌, ◌≢◌, ℕ, zero, suc, ◌<◌, Bool, false, ◌||◌, List, [], ◌∷◌, ◌++◌, map, length}
use Rattle.ff_time.specs.Fraction.{Fraction}
use Rattle.ff_frame.specs.declared.packet.Pkt.{Pkt}
use Rattle.ff_stream.specs.declared.item.Item.{Item}
use Rattle.ff_stream.specs.Stream.{Stream}
use Rattle.ff_filter.specs.declared.after.After.{After}
use Rattle.ff_filter.specs.declared.after.After.TheVariants.{More}
use Rattle.ff_filter.specs.Joins.{Flow, Ports, silence, before_at}
use Rattle.ff_filter.specs.Made.{behind, is_over}
use Rattle.ff_filter.specs.Views.{closes}
use Rattle.ff_node_mux.specs.declared.merge.queue.PacketQueue.{PacketQueue}
use Rattle.ff_node_mux.specs.merge.Merges.{Placed, packets_in, interleaved}

-- what waits of a stream, and how it stands behind that
pub record Waiting : Type 0 where
  pub packets : List Pkt
  pub after : After

-- nothing came
abbrev pub no_packets : Waiting
no_packets = record { packets = []; after = More }

abbrev pub waiting_of : PacketQueue → Waiting
waiting_of q = record { packets = q.queue.items; after = q.after }

-- the same of stream p; of one that isn't there nothing
abbrev pub waiting_at : List PacketQueue → ℕ → Waiting
waiting_at [] p = no_packets
waiting_at (q ∷ qs) zero = waiting_of q
waiting_at (q ∷ qs) (suc p) = waiting_at qs p

-- the packets that wait, and those among what comes behind them
abbrev pub came : Waiting → Flow → Stream Pkt
came w t = let r : Stream Pkt = packets_in (behind w.after t) in record { items = w.packets ++ r.items; mark = r.mark }

abbrev pub all_came : List PacketQueue → Ports → ℕ → Stream Pkt
all_came qs ext p = came (waiting_at qs p) (ext p)

-- the time base number p
abbrev pub base_at : List Fraction → ℕ → Fraction
base_at [] p = record { num = 1; den = 1 }
base_at (b ∷ bs) zero = b
base_at (b ∷ bs) (suc p) = base_at bs p

-- how a machine that interleaves is seen
pub record Merging : Type 0 where
  -- the time base of each stream
  pub bases : List Fraction
  -- which packets it still gives, where these streams come
  pub rest : Ports → List Placed
  -- the closing item of a stream came
  pub shut : ℕ → Bool

abbrev pub bases_of : List PacketQueue → List Fraction
bases_of qs = map (λ (q : PacketQueue). q.tb) qs

abbrev pub merging : List PacketQueue → Merging
merging qs = record {
  bases = bases_of qs;
  rest = λ ext. interleaved (length qs) (base_at (bases_of qs)) (all_came qs ext);
  shut = λ p. is_over (waiting_at qs p).after;
}

-- nothing came: of what comes, what is decided of the packets of all streams, in their order, is given
pub record IsNew (tbs : List Fraction) (v : Merging) : Type 0 where
  pub bases : v.bases ≡ tbs
  pub rest : (ext : Ports) → v.rest ext ≡ interleaved (length tbs) (base_at tbs) (λ p. packets_in (ext p))
  pub shut : (p : ℕ) → v.shut p ≡ false

-- nothing that can be seen changed
pub record Same (old new : Merging) : Type 0 where
  pub bases : new.bases ≡ old.bases
  pub rest : (ext : Ports) → new.rest ext ≡ old.rest ext
  pub shut : (p : ℕ) → new.shut p ≡ old.shut p

-- an item of stream p came
pub record Fed (old new : Merging) (p : ℕ) (x : Item) : Type 0 where
  pub bases : new.bases ≡ old.bases
  pub rest : (ext : Ports) → new.rest ext ≡ old.rest (before_at p x ext)
  pub shut_here : new.shut p ≡ (old.shut p || closes x)
  pub shut_others : (i : ℕ) → i ≢ p → new.shut i ≡ old.shut i

-- this packet was given: it goes before all that is still given, whatever comes
pub record Gave (old new : Merging) (x : Placed) : Type 0 where
  pub bases : new.bases ≡ old.bases
  pub there : x.0 < length old.bases
  pub rest : (ext : Ports) → old.rest ext ≡ x ∷ new.rest ext
  pub shut : (p : ℕ) → new.shut p ≡ old.shut p

-- nothing more of what came is decided
pub record Waits (old new : Merging) : Type 0 where
  pub same : Same old new
  pub nothing_left : old.rest silence ≡ []
