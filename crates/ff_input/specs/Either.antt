-- A cut of one of two formats, and what it asks for.
use Rattle.std.specs.Prelude.{ℕ, List, Option, max}
use Rattle.ff_frame.specs.declared.packet.Pkt.{Pkt}
use Rattle.ff_reader.specs.Cutters.{Cutter}
use Rattle.ff_input.specs.declared.one_of.OneOf.{OneOf}
use Rattle.ff_input.specs.declared.one_of.OneOf.TheVariants.{First, Other}

-- by what is so of each: a value of one of two types, and a type
abbrev pub either : {A B T : Type 0} → (A → T) → (B → T) → OneOf A B → T
either one other (First a) = one a
either one other (Other b) = other b

abbrev pub IsEither : {A B : Type 0} → (A → Type 0) → (B → Type 0) → OneOf A B → Type 0
IsEither one other (First a) = one a
IsEither one other (Other b) = other b

module _ {H K C D : Type 0} (one : Cutter H C) (other : Cutter K D) where
  -- a cut is that of an input in its own format, whose bytes these were, and gave so many packets
  abbrev pub either_cuts : OneOf C D → OneOf H K → List ℕ → ℕ → Type 0
  either_cuts (First cut) (First head) fed n = one.cuts cut head fed n
  either_cuts (First cut) (Other head) fed n = ⊥
  either_cuts (Other cut) (First head) fed n = ⊥
  either_cuts (Other cut) (Other head) fed n = other.cuts cut head fed n

  abbrev pub either_demuxed : OneOf H K → List ℕ → List Pkt
  either_demuxed (First head) rest = one.demuxed head rest
  either_demuxed (Other head) rest = other.demuxed head rest

  abbrev pub either_broken_at : OneOf H K → List ℕ → Option ℕ
  either_broken_at (First head) rest = one.broken_at head rest
  either_broken_at (Other head) rest = other.broken_at head rest

  abbrev pub either_head_of : OneOf C D → OneOf H K
  either_head_of (First cut) = First (one.head_of cut)
  either_head_of (Other cut) = Other (other.head_of cut)

  -- as every cut is seen
  abbrev pub either_cutter : Cutter (OneOf H K) (OneOf C D)
  either_cutter = record {
    IsHead = IsEither one.IsHead other.IsHead;
    stream_head = either one.stream_head other.stream_head;
    start = either one.start other.start;
    demuxed = either_demuxed;
    broken_at = either_broken_at;
    cuts = either_cuts;
    head_of = either_head_of;
    place = either one.place other.place;
    has_ended = either one.has_ended other.has_ended;
    waiting = either one.waiting other.waiting;
    room = either one.room other.room;
    longest = max one.longest other.longest;
  }
