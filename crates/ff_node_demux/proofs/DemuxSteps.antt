-- What a demuxer does at each step.
use Rattle.std.proofs.Common.{◌≡◌, ℕ, zero, suc, ◌+◌, ◌-◌, ◌<◌, ◌≤◌, ◌⊎◌, inl, inr, min, Bool, true, false, cond, List, [], ◌∷◌, ◌++◌, take, drop, map, length, Option, None, Some, refl, sym, ap, subst, ◌∙◌, arith, append_assoc, length-append}
use Rattle.std.specs.Prelude.{slice_get, is_some, Result, Ok, Err, OnErr}
use Rattle.std.specs.Option.{option_map}
use Rattle.std.specs.Io.KnownBytes.{Consumes, Keeps, IsAtEnd}
use Rattle.std.proofs.lemmas.Option.{slice_get-map}
use Rattle.std.proofs.lemmas.List.{append-nil, take_all, length-drop}
use Rattle.ff_stream.specs.declared.item.Item.{Item}
use Rattle.ff_stream.specs.declared.item.Item.TheVariants.{Packet, End, Broken}
use Rattle.ff_stream.specs.declared.item.Lane.TheVariants.{Packets}
use Rattle.ff_frame.specs.declared.event.Event.{Event}
use Rattle.ff_frame.specs.declared.event.Ticket.{Ticket}
use Rattle.ff_frame.specs.declared.packet.Pkt.{Pkt}
use Rattle.ff_stream.specs.Stream.{Mark, still_open, broken, LiesBelow}
use Rattle.ff_stream.specs.Items.{with_item}
use Rattle.ff_stream.specs.Ports.{stream_at}
use Rattle.ff_stream.specs.Within.{before_pass}
use Rattle.ff_net.specs.declared.fault.Fault.{Fault}
use Rattle.ff_net.specs.declared.fault.Fault.TheVariants.{Device, Damaged, TooLong}
use Rattle.ff_net.specs.laws.Laws.{IsOfInputs}
use Rattle.ff_net.specs.Ways.{Flow}
use Rattle.ff_net.specs.Pasts.{Past, start, due, gave_item, was_asked, was_allowed, was_stopped, was_told}
use Rattle.ff_reader.specs.Cutters.{Cutter, IsRest, Feeds, KeepsCut, GivesPacket, GaveAll}
use Rattle.ff_node_demux.specs.Demuxing.{mark_at, damage_at, items_of, break_of, demux_of, is_too_long, fault_in, demux_cause, demux_task, passes_in_demux, Demuxes, DemuxStands}
use Rattle.ff_node_demux.specs.laws.DemuxLaws.{demux_mark, demux_items, demux_closed}
use Rattle.ff_node_demux.specs.Sources.{Sources}
use Rattle.ff_node_demux.specs.laws.SourceLaws.{source_gives, source_ends, source_waits, source_over}
use Rattle.ff_node_demux.proofs.LimitSteps.{before_get, before_stop, before_all}

pub drop-append : (k : ℕ) (xs ys : List ℕ) → drop k (xs ++ ys) ≡ drop k xs ++ drop (k - length xs) ys
drop-append zero xs ys = let e : zero - length xs ≡ zero = omega arith in rw e refl
drop-append (suc k) [] ys = let e : suc k - 0 ≡ suc k = omega arith in rw e refl
drop-append (suc k) (x ∷ xs) ys = let e : suc k - length (x ∷ xs) ≡ k - length xs = omega arith in rw e (drop-append k xs ys)

pub drop_nil : (k : ℕ) → drop {A = ℕ} k [] ≡ []
drop_nil zero = refl
drop_nil (suc k) = refl

rest_is : (ended : Bool) (k : ℕ) (rest : List ℕ) → (ended ≡ true → rest ≡ []) → IsRest ended (drop k rest)
rest_is ended k rest h e = ap (λ (xs : List ℕ). drop k xs) (h e) ∙ drop_nil k

length_items : (ps : List Pkt) → length (map Packet ps) ≡ length ps
length_items [] = refl
length_items (p ∷ ps) = ap suc (length_items ps)

from_0 : (n : ℕ) → n ≡ 0 + n
from_0 n = omega arith

on_port : (P : ℕ → Type 0) (port : ℕ) → port < 1 → P 0 → P port
on_port P port lt p = subst P (let z : 0 ≡ port = omega arith in z) p

consumed : (left now : Option (List ℕ)) (rest piece : List ℕ) → left ≡ Some rest → Consumes left now piece → (r : List ℕ) × (now ≡ Some r)
    × (rest ≡ piece ++ r)
consumed None now rest piece e c = cc
consumed (Some xs) None rest piece e c = absurd c
consumed (Some xs) (Some ys) rest piece e c = let same : xs ≡ rest = cc in (ys, refl, sym same ∙ c)

at_end_is : (now : Option (List ℕ)) (r : List ℕ) → now ≡ Some r → IsAtEnd now → r ≡ []
at_end_is None r e h = cc
at_end_is (Some xs) r e h = let same : xs ≡ r = cc in sym same ∙ h

kept : (left now : Option (List ℕ)) (rest : List ℕ) → left ≡ Some rest → Keeps left now → now ≡ Some rest
kept None now rest e k = cc
kept (Some xs) None rest e k = absurd k
kept (Some xs) (Some ys) rest e k = ap (λ (z : List ℕ). Some z) k ∙ e

pub smaller : (skip skip' unit held held' : ℕ) (e e' : Bool) → e ≡ false → held < unit
    → ((e' ≡ true) × (skip' ≡ skip) × (held' ≡ held)) ⊎ ((e' ≡ false) × (held + skip' < held' + skip) × (skip' ≤ skip))
    → skip' + (unit - held') + cond e' 0 1 < skip + (unit - held) + cond e 0 1
smaller skip skip' unit held held' true e' f lt h = cc
smaller skip skip' unit held held' false true f lt (inl h) = omega (arith, h.1, h.2)
smaller skip skip' unit held held' false false f lt (inl h) = let x = h.0 in cc
smaller skip skip' unit held held' false true f lt (inr h) = let x = h.0 in cc
smaller skip skip' unit held held' false false f lt (inr h) = omega (arith, h.1, h.2)

pub no_fault : (f : Option Fault) → is_some f ≡ false → f ≡ None
no_fault None e = refl
no_fault (Some x) e = cc

pub on_err : {A E : Type 0} (r : Result A E) (P : Type 0) → P → OnErr r P
on_err (Ok x) P p = tt
on_err (Err x) P p = p

-- what a piece has past the bytes that are passed over
pub past_min : (k : ℕ) (xs : List ℕ) (n : ℕ) → n ≡ min k (length xs) → take (length xs - n) (drop n xs) ≡ drop k xs
past_min k xs n e = take_all (length xs - n) (drop n xs) (omega (arith, length-drop n xs)) ∙ pick k xs n e
  where
    pick : (k : ℕ) (xs : List ℕ) (n : ℕ) → n ≡ min k (length xs) → drop n xs ≡ drop k xs
    pick zero xs n e = let z : n ≡ 0 = omega (arith, e) in rw z refl
    pick (suc k) [] n e = let z : n ≡ 0 = omega (arith, e) in rw z refl
    pick (suc k) (x ∷ xs) zero e = absurd (omega (arith, e))
    pick (suc k) (x ∷ xs) (suc n) e = pick k xs n (omega (arith, e))

module _ {H C : Type 0} (cutter : Cutter H C) where
  -- a packet of the input, by its number
  item_at : (head : H) (read rest : List ℕ) (n : ℕ) (p : Pkt)
      → slice_get (cutter.demuxed head (drop (cutter.start head) read ++ drop (cutter.start head - length read) rest)) n ≡ Some p
      → slice_get (items_of cutter head (read ++ rest)) n ≡ Some (Packet p)
  item_at head read rest n p e =
      slice_get-map Packet (cutter.demuxed head (drop (cutter.start head) (read ++ rest))) n
      ∙ ap (λ (x : Option Pkt). option_map Packet x) (ap (λ (xs : List ℕ). slice_get (cutter.demuxed head xs) n) (drop-append (cutter.start head) read rest) ∙ e)

  -- what a demuxer's stream is, item by item
  module _ (head : H) (file : List ℕ) (n : ℕ) (inside : n ≤ length (demux_of cutter head file).items) where
    within_items : n ≤ length (before_pass (passes_in_demux (Packets (cutter.stream_head head))) 0 (items_of cutter head file))
    within_items = subst (λ (xs : List Item). n ≤ length xs) (demux_items cutter head file) inside

    short_item : (x : Item) → slice_get (items_of cutter head file) n ≡ Some x → passes_in_demux (Packets (cutter.stream_head head)) n x ≡ false
        → slice_get (demux_of cutter head file).items n ≡ Some x
    short_item x get few =
        ap (λ (xs : List Item). slice_get xs n) (demux_items cutter head file)
        ∙ before_get (passes_in_demux (Packets (cutter.stream_head head))) 0 (items_of cutter head file) n x get within_items (subst (λ (i : ℕ). passes_in_demux (Packets (cutter.stream_head head)) i x ≡ false) (from_0 n) few)

    long_item : (x : Item) → slice_get (items_of cutter head file) n ≡ Some x → passes_in_demux (Packets (cutter.stream_head head)) n x ≡ true
        → (n ≡ length (demux_of cutter head file).items) × (is_too_long cutter head file ≡ true)
    unfolding is_too_long
    long_item x get many =
        let r = before_stop (passes_in_demux (Packets (cutter.stream_head head))) 0 (items_of cutter head file) n x get within_items (subst (λ (i : ℕ). passes_in_demux (Packets (cutter.stream_head head)) i x ≡ true) (from_0 n) many) in
        (r.0 ∙ ap (λ (xs : List Item). length xs) (sym (demux_items cutter head file)), r.1)

    no_item : length (items_of cutter head file) ≡ n → (n ≡ length (demux_of cutter head file).items) × (is_too_long cutter head file ≡ false)
    unfolding is_too_long
    no_item size =
        let r = before_all (passes_in_demux (Packets (cutter.stream_head head))) 0 (items_of cutter head file) n size within_items in
        (r.0 ∙ ap (λ (xs : List Item). length xs) (sym (demux_items cutter head file)), r.1)

  -- an item or the end was given on the one port, and so the state
  abbrev pub Gives : Option (List ℕ) → C → ℕ → ℕ → Bool → Option Fault → Past → ℕ → Item → Type 0
  Gives left cut skip given ended fault past port x =
      DemuxStands cutter left cut skip given false ended fault (gave_item past port x) × ((stream_at past.gave port).mark ≡ still_open)
      × LiesBelow (with_item (stream_at past.gave port) x) (stream_at (due past) port)

  -- the cut gave a packet within the limits
  pub demux_packet : (left : Option (List ℕ)) (cut new : C) (skip given : ℕ) (past : Past) (port : ℕ) (p : Pkt) → port < 1
      → passes_in_demux (Packets (cutter.stream_head (cutter.head_of cut))) given (Packet p) ≡ false
      → cutter.head_of new ≡ cutter.head_of cut → cutter.has_ended new ≡ cutter.has_ended cut → GivesPacket cutter cut new p
      → DemuxStands cutter left cut skip given true false None past
      → Gives left new skip (given + 1) false None past port (Packet p)
  demux_packet left cut new skip given past port p lt few eh ee gives (head, read, rest, s) =
      let g = gives head (drop (cutter.start head) read) given (s.cuts refl) in
      let get = item_at head read rest given p (g.1 (drop (cutter.start head - length read) rest) (rest_is (cutter.has_ended cut) (cutter.start head - length read) rest s.all_read)) in
      let few' : passes_in_demux (Packets (cutter.stream_head head)) given (Packet p) ≡ false = subst (λ (h : H). passes_in_demux (Packets (cutter.stream_head h)) given (Packet p) ≡ false) s.of_head few in
      let there = short_item head (read ++ rest) given s.sources.in_range (Packet p) get few' in
      let r = source_gives (demux_of cutter head (read ++ rest)) given past (Packet p) there (λ x. refl) s.sources in
      on_port (λ (q : ℕ). Gives left new skip (given + 1) false None past q (Packet p)) port lt (
        (
          head,
          read,
          rest,
          record {
            told = s.told;
            is_head = s.is_head;
            of_head = eh ∙ s.of_head;
            sources = r.now;
            cause = s.cause;
            cuts = λ e. g.0;
            skipped = s.skipped;
            all_read = λ e. s.all_read (sym ee ∙ e);
            own = λ f e o. cc;
            device = λ f e. cc;
            sound = λ e b. cc;
            idle = λ e b i. refl;
          },
        ),
        r.unclosed,
        r.below,
      )

  -- the cut gave a packet that passes a limit
  pub demux_long : (left : Option (List ℕ)) (cut new : C) (skip given : ℕ) (past : Past) (port : ℕ) (p : Pkt) → port < 1
      → passes_in_demux (Packets (cutter.stream_head (cutter.head_of cut))) given (Packet p) ≡ true
      → cutter.head_of new ≡ cutter.head_of cut → cutter.has_ended new ≡ cutter.has_ended cut → GivesPacket cutter cut new p
      → DemuxStands cutter left cut skip given true false None past
      → Gives left new skip given true (Some TooLong) past port Broken
  demux_long left cut new skip given past port p lt many eh ee gives (head, read, rest, s) =
      let g = gives head (drop (cutter.start head) read) given (s.cuts refl) in
      let get = item_at head read rest given p (g.1 (drop (cutter.start head - length read) rest) (rest_is (cutter.has_ended cut) (cutter.start head - length read) rest s.all_read)) in
      let many' : passes_in_demux (Packets (cutter.stream_head head)) given (Packet p) ≡ true = subst (λ (h : H). passes_in_demux (Packets (cutter.stream_head h)) given (Packet p) ≡ true) s.of_head many in
      let stop = long_item head (read ++ rest) given s.sources.in_range (Packet p) get many' in
      let mark : (demux_of cutter head (read ++ rest)).mark ≡ broken = demux_mark cutter head (read ++ rest) true stop.1 in
      let r = source_ends (demux_of cutter head (read ++ rest)) given past Broken stop.0 (λ x. ap (λ (m : Mark). record { items = x.items; mark = m }) (sym mark)) s.sources in
      on_port (λ (q : ℕ). Gives left new skip given true (Some TooLong) past q Broken) port lt (
        (
          head,
          read,
          rest,
          record {
            told = s.told;
            is_head = s.is_head;
            of_head = eh ∙ s.of_head;
            sources = r.now;
            cause = s.cause;
            cuts = λ e. cc;
            skipped = s.skipped;
            all_read = λ e. s.all_read (sym ee ∙ e);
            own = λ f e o. ap (λ (b : Bool). cond b (Some TooLong) (damage_at (break_of cutter head (read ++ rest)))) stop.1 ∙ e;
            device = λ f e. inr refl;
            sound = λ e b. cc;
            idle = λ e b i. refl;
          },
        ),
        r.unclosed,
        r.below,
      )

  -- the cut gave all, up to where the input ends or its packets break off
  demux_stop : (broke : Option ℕ) (x : Item) → ((r : Flow) → with_item r x ≡ record { items = r.items; mark = mark_at broke })
      → (left : Option (List ℕ)) (cut : C) (skip given : ℕ) (past : Past) (port : ℕ) → port < 1 → GaveAll cutter cut broke
      → DemuxStands cutter left cut skip given true false None past
      → Gives left cut skip given true (damage_at broke) past port x
  demux_stop broke x is left cut skip given past port lt gave (head, read, rest, s) =
      let more = drop (cutter.start head - length read) rest in
      let body = drop-append (cutter.start head) read rest in
      let all = gave head (drop (cutter.start head) read) given (s.cuts refl) more (rest_is (cutter.has_ended cut) (cutter.start head - length read) rest s.all_read) in
      let size : length (items_of cutter head (read ++ rest)) ≡ given = length_items (cutter.demuxed head (drop (cutter.start head) (read ++ rest)))
      ∙ (ap (λ (xs : List ℕ). length (cutter.demuxed head xs)) body ∙ all.0) in
      let where_is : break_of cutter head (read ++ rest) ≡ broke = ap (λ (xs : List ℕ). cutter.broken_at head xs) body ∙ all.1 in
      let stop = no_item head (read ++ rest) given s.sources.in_range size in
      let mark : (demux_of cutter head (read ++ rest)).mark ≡ mark_at broke = demux_mark cutter head (read ++ rest) false stop.1
      ∙ ap (λ (b : Option ℕ). mark_at b) where_is in
      let cause : fault_in cutter head (read ++ rest) ≡ damage_at broke =
      ap (λ (b : Bool). cond b (Some TooLong) (damage_at (break_of cutter head (read ++ rest)))) stop.1
      ∙ ap (λ (b : Option ℕ). damage_at b) where_is in
      let r = source_ends (demux_of cutter head (read ++ rest)) given past x stop.0 (λ y. is y
      ∙ ap (λ (m : Mark). record { items = y.items; mark = m }) (sym mark)) s.sources in
      on_port (λ (q : ℕ). Gives left cut skip given true (damage_at broke) past q x) port lt (
        (
          head,
          read,
          rest,
          record {
            told = s.told;
            is_head = s.is_head;
            of_head = s.of_head;
            sources = r.now;
            cause = s.cause;
            cuts = λ e. cc;
            skipped = s.skipped;
            all_read = s.all_read;
            own = λ f e o. cause ∙ e;
            device = λ f e. inr refl;
            sound = λ e b. cause ∙ e;
            idle = λ e b i. refl;
          },
        ),
        r.unclosed,
        r.below,
      )

  -- the input ended
  pub demux_end : (left : Option (List ℕ)) (cut : C) (skip given : ℕ) (past : Past) (port : ℕ) → port < 1 → GaveAll cutter cut None
      → DemuxStands cutter left cut skip given true false None past
      → Gives left cut skip given true None past port End
  demux_end = demux_stop None End (λ r. refl)

  -- no further packet begins here, or one that isn't whole
  pub demux_break : (offset : ℕ) (left : Option (List ℕ)) (cut : C) (skip given : ℕ) (past : Past) (port : ℕ) → port < 1
      → GaveAll cutter cut (Some offset) → DemuxStands cutter left cut skip given true false None past
      → Gives left cut skip given true (Some (Damaged offset)) past port Broken
  demux_break offset = demux_stop (Some offset) Broken (λ r. refl)

  -- nothing was given where there was no ticket, or nothing more to give, or a fault
  pub demux_asked : (left : Option (List ℕ)) (cut : C) (skip given : ℕ) (ticket ended : Bool) (fault : Option Fault) (past : Past) (port : ℕ)
      → (fault ≡ None → ended ≡ false → ticket ≡ false)
      → DemuxStands cutter left cut skip given ticket ended fault past
      → DemuxStands cutter left cut skip given ticket ended fault (was_asked past port)
  demux_asked left cut skip given ticket ended fault past port none (head, read, rest, s) =
      let l = s.sources in (
        head,
        read,
        rest,
        record {
          told = s.told;
          is_head = s.is_head;
          of_head = s.of_head;
          sources = record { means = l.means; source = l.source; fed_nothing = l.fed_nothing; gave = l.gave; others = l.others; tickets = l.tickets; in_range = l.in_range; at_end = l.at_end; closed = l.closed };
          cause = s.cause;
          cuts = s.cuts;
          skipped = s.skipped;
          all_read = s.all_read;
          own = s.own;
          device = s.device;
          sound = s.sound;
          idle = λ e b i. none e b;
        },
      )

  -- with no ticket, and after the end, all that is due was given
  pub demux_waits : (left : Option (List ℕ)) (cut : C) (skip given : ℕ) (fault : Option Fault) (past : Past) (port : ℕ) → port < 1
      → DemuxStands cutter left cut skip given false false fault past → stream_at past.gave port ≡ stream_at (due past) port
  demux_waits left cut skip given fault past port lt (head, read, rest, s) = on_port (λ (q : ℕ). stream_at past.gave q ≡ stream_at (due past) q) port lt (source_waits (demux_of cutter head (read ++ rest)) given past s.sources)

  pub demux_over : (left : Option (List ℕ)) (cut : C) (skip given : ℕ) (ticket : Bool) (fault : Option Fault) (past : Past) (port : ℕ) → port < 1
      → DemuxStands cutter left cut skip given ticket true fault past → stream_at past.gave port ≡ stream_at (due past) port
  demux_over left cut skip given ticket fault past port lt (head, read, rest, s) = on_port (λ (q : ℕ). stream_at past.gave q ≡ stream_at (due past) q) port lt (source_over (demux_of cutter head (read ++ rest)) given ticket past s.sources)

  -- a fault before the end is the source's
  pub demux_failed : (left : Option (List ℕ)) (cut : C) (skip given : ℕ) (ticket : Bool) (fault : Option Fault) (past : Past) → is_some fault ≡ true
      → DemuxStands cutter left cut skip given ticket false fault past → fault ≡ Some Device
  demux_failed left cut skip given ticket None past e d = cc
  demux_failed left cut skip given ticket (Some f) past e (head, read, rest, s) = elim (s.device f refl) [ inl h ↦ ap (λ (x : Fault). Some x) h | inr h ↦ cc ]

  -- a ticket
  pub demux_allowed : (left : Option (List ℕ)) (cut : C) (skip given : ℕ) (ended : Bool) (fault : Option Fault) (past : Past) (t : Ticket)
      → DemuxStands cutter left cut skip given false ended fault past → DemuxStands cutter left cut skip given true ended fault (was_allowed past t)
  demux_allowed left cut skip given ended fault past t (head, read, rest, s) =
      let l = s.sources in (
        head,
        read,
        rest,
        record {
          told = s.told;
          is_head = s.is_head;
          of_head = s.of_head;
          sources = record { means = l.means; source = l.source; fed_nothing = l.fed_nothing; gave = l.gave; others = l.others; tickets = omega (arith, l.tickets, length-append past.allowed (t ∷ [])); in_range = l.in_range; at_end = l.at_end; closed = l.closed };
          cause = s.cause;
          cuts = s.cuts;
          skipped = s.skipped;
          all_read = s.all_read;
          own = s.own;
          device = s.device;
          sound = s.sound;
          idle = λ e b i. absurd i;
        },
      )

  pub demux_stopped : (left : Option (List ℕ)) (cut : C) (skip given : ℕ) (ticket ended : Bool) (fault : Option Fault) (past : Past) (port : ℕ)
      → DemuxStands cutter left cut skip given ticket ended fault past
      → DemuxStands cutter left cut skip given ticket ended fault (was_stopped past port)
  demux_stopped left cut skip given ticket ended fault past port (head, read, rest, s) =
      let l = s.sources in (
        head,
        read,
        rest,
        record {
          told = s.told;
          is_head = s.is_head;
          of_head = s.of_head;
          sources = record { means = l.means; source = l.source; fed_nothing = l.fed_nothing; gave = l.gave; others = l.others; tickets = l.tickets; in_range = l.in_range; at_end = l.at_end; closed = l.closed };
          cause = s.cause;
          cuts = s.cuts;
          skipped = s.skipped;
          all_read = s.all_read;
          own = s.own;
          device = s.device;
          sound = s.sound;
          idle = s.idle;
        },
      )

  pub demux_told : (left : Option (List ℕ)) (cut : C) (skip given : ℕ) (ticket ended : Bool) (fault : Option Fault) (past : Past) (e : Event)
      → DemuxStands cutter left cut skip given ticket ended fault past
      → DemuxStands cutter left cut skip given ticket ended fault (was_told past e)
  demux_told left cut skip given ticket ended fault past e (head, read, rest, s) =
      let l = s.sources in (
        head,
        read,
        rest,
        record {
          told = s.told;
          is_head = s.is_head;
          of_head = s.of_head;
          sources = record { means = l.means; source = l.source; fed_nothing = l.fed_nothing; gave = l.gave; others = l.others; tickets = l.tickets; in_range = l.in_range; at_end = l.at_end; closed = l.closed };
          cause = s.cause;
          cuts = s.cuts;
          skipped = s.skipped;
          all_read = s.all_read;
          own = s.own;
          device = s.device;
          sound = s.sound;
          idle = s.idle;
        },
      )

  -- the same input, of which a piece more was read
  moved : (old left : Option (List ℕ)) (cut new : C) (skip now given : ℕ) (ticket : Bool) (fault : Option Fault) (past : Past) (head : H) (read rest piece more : List ℕ)
      → left ≡ Some more → rest ≡ piece ++ more → now ≡ skip - length piece → cutter.head_of new ≡ cutter.head_of cut
      → (cutter.has_ended new ≡ true → more ≡ [])
      → cutter.cuts new head (drop (cutter.start head) read ++ drop skip piece) given
      → Demuxes cutter old cut skip given ticket false fault past head read rest
      → Demuxes cutter left new now given ticket false fault past head (read ++ piece) more
  moved old left cut new skip now given ticket fault past head read rest piece more told parts skipped eh ended cuts s =
      let file : (read ++ piece) ++ more ≡ read ++ rest = append_assoc read piece more ∙ ap (λ (xs : List ℕ). read ++ xs) (sym parts) in
      let fed : drop (cutter.start head) read ++ drop skip piece ≡ drop (cutter.start head) (read ++ piece) =
      ap (λ (k : ℕ). drop (cutter.start head) read ++ drop k piece) s.skipped ∙ sym (drop-append (cutter.start head) read piece) in record {
        told = told;
        is_head = s.is_head;
        of_head = eh ∙ s.of_head;
        sources = subst (λ (xs : List ℕ). Sources (demux_of cutter head xs) given false ticket past) (sym file) s.sources;
        cause = s.cause ∙ ap (λ (xs : List ℕ). demux_cause cutter head xs) (sym file);
        cuts = λ e. subst (λ (xs : List ℕ). cutter.cuts new head xs given) fed cuts;
        skipped = omega (arith, skipped, s.skipped, length-append read piece);
        all_read = ended;
        own = λ f e o. ap (λ (xs : List ℕ). fault_in cutter head xs) file ∙ s.own f e o;
        device = s.device;
        sound = λ e b. cc;
        idle = s.idle;
      }

  pub demux_read : (left now : Option (List ℕ)) (cut new : C) (skip skip' given : ℕ) (ticket : Bool) (fault : Option Fault) (past : Past) (piece : List ℕ)
      → Consumes left now piece → skip' ≡ skip - length piece → cutter.head_of new ≡ cutter.head_of cut → cutter.has_ended new ≡ false
      → Feeds cutter cut new (drop skip piece)
      → DemuxStands cutter left cut skip given ticket false fault past → DemuxStands cutter now new skip' given ticket false fault past
  demux_read left now cut new skip skip' given ticket fault past piece c k eh going feeds (head, read, rest, s) =
      let r = consumed left now rest piece s.told c in
      (head, read ++ piece, r.0, moved left now cut new skip skip' given ticket fault past head read rest piece r.0 r.1 r.2 k eh (λ e. cc) (feeds head (drop (cutter.start head) read) given (s.cuts refl)) s)

  pub demux_read_end : (left now : Option (List ℕ)) (cut new : C) (skip given : ℕ) (ticket : Bool) (fault : Option Fault) (past : Past)
      → Consumes left now [] → IsAtEnd now → cutter.head_of new ≡ cutter.head_of cut → KeepsCut cutter cut new
      → DemuxStands cutter left cut skip given ticket false fault past → DemuxStands cutter now new skip given ticket false fault past
  demux_read_end left now cut new skip given ticket fault past c end eh keeps (head, read, rest, s) =
      let r = consumed left now rest [] s.told c in
      let k : skip ≡ skip - length {A = ℕ} [] = omega arith in
      let fed = drop (cutter.start head) read in
      let same : fed ≡ fed ++ drop skip [] = sym (ap (λ (xs : List ℕ). fed ++ xs) (drop_nil skip) ∙ append-nil fed) in
      (head, read ++ [], r.0, moved left now cut new skip skip given ticket fault past head read rest [] r.0 r.1 r.2 k eh (λ e. at_end_is now r.0 r.1 end) (subst (λ (xs : List ℕ). cutter.cuts new head xs given) same (keeps head fed given (s.cuts refl))) s)

  -- a read failed, or only room was made in the cut
  pub demux_kept : (left now : Option (List ℕ)) (cut new : C) (skip given : ℕ) (ticket : Bool) (fault fault' : Option Fault) (past : Past)
      → Keeps left now → cutter.head_of new ≡ cutter.head_of cut → cutter.has_ended new ≡ cutter.has_ended cut
      → ((f : Fault) → fault' ≡ Some f → f ≡ Device) → (fault' ≡ None → fault ≡ None) → KeepsCut cutter cut new
      → DemuxStands cutter left cut skip given ticket false fault past → DemuxStands cutter now new skip given ticket false fault' past
  demux_kept left now cut new skip given ticket fault fault' past k eh ee own back keeps (head, read, rest, s) = (
    head,
    read,
    rest,
    record {
      told = kept left now rest s.told k;
      is_head = s.is_head;
      of_head = eh ∙ s.of_head;
      sources = s.sources;
      cause = s.cause;
      cuts = λ e. keeps head (drop (cutter.start head) read) given (s.cuts refl);
      skipped = s.skipped;
      all_read = λ e. s.all_read (sym ee ∙ e);
      own = λ f e o. absurd (subst IsOfInputs (own f e) o);
      device = λ f e. inl (own f e);
      sound = λ e b. cc;
      idle = λ e b i. s.idle (back e) b i;
    },
  )

  -- nothing was done yet
  pub demux_start : (left : Option (List ℕ)) (cut : C) (input : ℕ) (head : H) (file : List ℕ) → cutter.IsHead head → cutter.head_of cut ≡ head
      → cutter.has_ended cut ≡ false → cutter.cuts cut head [] 0 → left ≡ Some file
      → DemuxStands cutter left cut (cutter.start head) 0 false false None (start (demux_task cutter input head file))
  demux_start left cut input head file good eh going cuts told = (
    head,
    [],
    file,
    record {
      told = told;
      is_head = good;
      of_head = eh;
      sources = record { means = refl; source = refl; fed_nothing = λ p. refl; gave = refl; others = λ p. refl; tickets = refl; in_range = omega arith; at_end = λ e. cc; closed = demux_closed cutter head file };
      cause = refl;
      cuts = λ e. subst (λ (xs : List ℕ). cutter.cuts cut head xs 0) (sym (drop_nil (cutter.start head))) cuts;
      skipped = let k : cutter.start head ≡ cutter.start head - length {A = ℕ} [] = omega arith in k;
      all_read = λ e. cc;
      own = λ f e o. cc;
      device = λ f e. cc;
      sound = λ e b. cc;
      idle = λ e b i. absurd i;
    },
  )

  -- the flags made plain
  pub flags : (left : Option (List ℕ)) (cut : C) (skip given : ℕ) (ticket ended : Bool) (fault : Option Fault) (past : Past) (t e : Bool) (f : Option Fault) → ticket ≡ t → ended ≡ e → fault ≡ f
      → DemuxStands cutter left cut skip given ticket ended fault past → DemuxStands cutter left cut skip given t e f past
  flags left cut skip given ticket ended fault past t e f et ee ef d =
      subst (λ (x : Option Fault). DemuxStands cutter left cut skip given t e x past) ef (subst (λ (x : Bool). DemuxStands cutter left cut skip given t x fault past) ee (subst (λ (x : Bool). DemuxStands cutter left cut skip given x ended fault past) et d))

  pub gives_flags : (left : Option (List ℕ)) (cut : C) (skip given : ℕ) (past : Past) (port : ℕ) (x : Item) (ended e : Bool) (fault f : Option Fault)
      → ended ≡ e → fault ≡ f
      → Gives left cut skip given ended fault past port x → Gives left cut skip given e f past port x
  gives_flags left cut skip given past port x ended e fault f ee ef h =
      subst (λ (y : Option Fault). Gives left cut skip given e y past port x) ef (subst (λ (b : Bool). Gives left cut skip given b fault past port x) ee h)
