-- What the demuxer of an AVI does at each step.
use Rattle.std.proofs.Common.{◌≡◌, ◌≢◌, ℕ, zero, suc, ◌+◌, ◌<◌, ◌≤◌, ◌⊎◌, inl, inr, Bool, true, false, cond}
use Rattle.std.proofs.Common.{List, [], ◌∷◌, ◌++◌, map, length, Option, None, Some, refl, sym, ap, subst, ◌∙◌, arith}
use Rattle.std.specs.Prelude.{slice_get, not}
use Rattle.std.specs.Option.{option_map}
use Rattle.std.proofs.lemmas.Option.{slice_get-map}
use Rattle.ff_frame.specs.declared.packet.Pkt.{Pkt}
use Rattle.ff_frame.specs.declared.event.Event.{Event}
use Rattle.ff_frame.specs.declared.event.Event.TheVariants.{Exited}
use Rattle.ff_frame.specs.declared.event.Ticket.{Ticket}
use Rattle.ff_stream.specs.declared.item.Item.{Item}
use Rattle.ff_stream.specs.declared.item.Item.TheVariants.{Packet, End, Broken}
use Rattle.ff_stream.specs.Stream.{Mark, still_open, whole, broken, LiesBelow}
use Rattle.ff_stream.specs.Items.{with_item}
use Rattle.ff_stream.specs.Ports.{stream_at}
use Rattle.ff_net.specs.declared.fault.Fault.{Fault}
use Rattle.ff_net.specs.declared.fault.Fault.TheVariants.{Device, TooLong}
use Rattle.ff_net.specs.Ways.{Flow}
use Rattle.ff_net.specs.Pasts.{Past, Feed, IsIn, start, due, gave_item, was_asked, was_allowed, was_stopped, was_told}
use Rattle.ff_avi.specs.declared.head.AviHead.{AviHead}
use Rattle.ff_avi.specs.declared.cut.AviCut.{AviCut}
use Rattle.ff_avi.specs.Sound.{IsHead}
use Rattle.ff_avi.specs.Chains.{packets_in}
use Rattle.ff_node_demux.specs.Demuxing.{damage_at}
use Rattle.ff_node_avi.specs.declared.ports.AviPorts.{AviPorts}
use Rattle.ff_node_avi.specs.declared.demux.Port.{Port}
use Rattle.ff_node_avi.specs.declared.demux.AviDemux.{AviDemux}
use Rattle.ff_node_avi.specs.laws.AviPorts.{port_at, of_two}
use Rattle.ff_node_avi.specs.laws.AviViews.{avi_view}
use Rattle.ff_net.specs.laws.Laws.{FaultStep, Rose}
use Rattle.ff_node_avi.specs.Reading.{Lies, Stays, Reaches, Closes}
use Rattle.ff_node_avi.specs.Ported.{items_at, waits_at, IsSettled, Gives}
use Rattle.ff_node_avi.specs.Demuxing.{AreUsed, ports_of, number_of, port_of, placed, chain_of, all_units, passes_at}
use Rattle.ff_node_avi.specs.Demuxing.{units_of_file, is_too_long, break_of, mark_of, fault_in, avi_task, Exits, DemuxStands}
use Rattle.ff_node_avi.specs.laws.PortedLaws.{ported_settled}
use Rattle.ff_node_avi.specs.laws.AviLaws.{mark_closes, mark_whole, mark_broken}
use Rattle.ff_node_avi.proofs.PortedSteps.{other_port, ported_asked, ported_allowed, ported_told, ported_failed}
use Rattle.ff_node_avi.proofs.PortedSteps.{ported_stopped, ported_used, ported_ended, ported_gives, ported_closes, ported_start}
use Rattle.ff_node_avi.proofs.Limits.{units_get, units_stop, units_all}

-- ---- units of a file

from_0 : (n : ℕ) → n ≡ 0 + n
from_0 n = omega arith

length_placed : (ports : AviPorts) (xs : List (ℕ × Pkt)) → length (map (placed ports) xs) ≡ length xs
length_placed ports [] = refl
length_placed ports (x ∷ xs) = ap suc (length_placed ports xs)

module _ (head : AviHead) (used file : List ℕ) (n : ℕ) (inside : n ≤ length (units_of_file head used file)) where
  unit_at : (stream : ℕ) (p : Pkt) → slice_get (packets_in (chain_of head used file)) n ≡ Some (stream, p)
      → slice_get (all_units head used file) n ≡ Some (port_of (ports_of head used) stream, Packet p)
  unit_at stream p e =
      slice_get-map (placed (ports_of head used)) (packets_in (chain_of head used file)) n
      ∙ ap (λ (x : Option (ℕ × Pkt)). option_map (placed (ports_of head used)) x) e

  short_unit : (u : ℕ × Item) → slice_get (all_units head used file) n ≡ Some u → passes_at (ports_of head used) n u ≡ false
      → slice_get (units_of_file head used file) n ≡ Some u
  unfolding units_of_file
  short_unit u get few = units_get (passes_at (ports_of head used)) 0 (all_units head used file) n u get inside
      (subst (λ (i : ℕ). passes_at (ports_of head used) i u ≡ false) (from_0 n) few)

  long_unit : (u : ℕ × Item) → slice_get (all_units head used file) n ≡ Some u → passes_at (ports_of head used) n u ≡ true
      → (n ≡ length (units_of_file head used file)) × (is_too_long head used file ≡ true)
  unfolding units_of_file is_too_long
  long_unit u get many = units_stop (passes_at (ports_of head used)) 0 (all_units head used file) n u get inside
      (subst (λ (i : ℕ). passes_at (ports_of head used) i u ≡ true) (from_0 n) many)

  no_unit : length (packets_in (chain_of head used file)) ≡ n → (n ≡ length (units_of_file head used file)) × (is_too_long head used file ≡ false)
  unfolding units_of_file is_too_long
  no_unit size = units_all (passes_at (ports_of head used)) 0 (all_units head used file) n
      (length_placed (ports_of head used) (packets_in (chain_of head used file)) ∙ size) inside

-- ---- by other names

-- the flags made plain
same_gives : (us : List (ℕ × Item)) (m : Mark) (ports n : ℕ) (ended e ticket t : Bool) (waiting w : Option (ℕ × Pkt)) (going closed : ℕ → Bool)
    (fault f : Option Fault) (past : Past)
    → ended ≡ e → ticket ≡ t → waiting ≡ w → fault ≡ f
    → Gives us m ports n ended ticket waiting going closed fault past → Gives us m ports n e t w going closed f past
same_gives us m ports n ended e ticket t waiting w going closed fault f past ee et ew ef l =
    subst (λ (x : Option Fault). Gives us m ports n e t w going closed x past) ef
    (subst (λ (x : Option (ℕ × Pkt)). Gives us m ports n e t x going closed fault past) ew
    (subst (λ (b : Bool). Gives us m ports n e b waiting going closed fault past) et
    (subst (λ (b : Bool). Gives us m ports n b ticket waiting going closed fault past) ee l)))

pub flags : (left : Option (List ℕ)) (cut : AviCut) (skip : ℕ) (ports : AviPorts) (given : ℕ) (ended e ticket t : Bool) (waiting w : Option (ℕ × Pkt))
    (going closed : ℕ → Bool) (fault f : Option Fault) (past : Past)
    → ended ≡ e → ticket ≡ t → waiting ≡ w → fault ≡ f
    → DemuxStands left cut skip ports given ended ticket waiting going closed fault past → DemuxStands left cut skip ports given e t w going closed f past
flags left cut skip ports given ended e ticket t waiting w going closed fault f past ee et ew ef d =
    subst (λ (x : Option Fault). DemuxStands left cut skip ports given e t w going closed x past) ef
    (subst (λ (x : Option (ℕ × Pkt)). DemuxStands left cut skip ports given e t x going closed fault past) ew
    (subst (λ (b : Bool). DemuxStands left cut skip ports given e b waiting going closed fault past) et
    (subst (λ (b : Bool). DemuxStands left cut skip ports given b ticket waiting going closed fault past) ee d)))

-- what holds of a port's number among the ports that there are
there : (ports : AviPorts) (head : AviHead) (used : List ℕ) (port : ℕ) → ports ≡ ports_of head used → port < number_of ports → port < number_of (ports_of head used)
there ports head used port e lt = subst (λ (x : AviPorts). port < number_of x) e lt

module _ (left : Option (List ℕ)) (cut : AviCut) (skip : ℕ) (ports : AviPorts) (given : ℕ) where
  -- ---- with no unit used

  pub avi_asked : (ended ticket : Bool) (waiting : Option (ℕ × Pkt)) (going closed : ℕ → Bool) (fault : Option Fault) (past : Past) (port : ℕ)
      → (fault ≡ None → IsSettled ended ticket waiting closed port)
      → DemuxStands left cut skip ports given ended ticket waiting going closed fault past
      → DemuxStands left cut skip ports given ended ticket waiting going closed fault (was_asked past port)
  avi_asked ended ticket waiting going closed fault past port settled (head, used, file, s) = (
    head,
    used,
    file,
    record {
      is_head = s.is_head;
      are_used = s.are_used;
      ports_are = s.ports_are;
      lies = s.lies;
      gives = ported_asked (units_of_file head used file) (mark_of head used file) (number_of (ports_of head used)) given ended ticket waiting going closed fault past
          port settled s.gives;
      cause = s.cause;
      faulty = s.faulty;
      sound = s.sound;
    },
  )

  pub avi_allowed : (ended ticket : Bool) (waiting : Option (ℕ × Pkt)) (going closed : ℕ → Bool) (fault : Option Fault) (past : Past) (t : Ticket)
      → ticket ≡ false → waiting ≡ None
      → DemuxStands left cut skip ports given ended ticket waiting going closed fault past
      → DemuxStands left cut skip ports given ended true waiting going closed fault (was_allowed past t)
  avi_allowed ended ticket waiting going closed fault past t none empty (head, used, file, s) =
      let us = units_of_file head used file in
      let m = mark_of head used file in
      let ports' = number_of (ports_of head used) in
      let now = same_gives us m ports' given ended ended ticket false waiting None going closed fault fault past refl none empty refl s.gives in (
        head,
        used,
        file,
        record {
          is_head = s.is_head;
          are_used = s.are_used;
          ports_are = s.ports_are;
          lies = s.lies;
          gives = same_gives us m ports' given ended ended true true None waiting going closed fault fault (was_allowed past t) refl refl (sym empty) refl
              (ported_allowed us m ports' given ended going closed fault past t now);
          cause = s.cause;
          faulty = s.faulty;
          sound = s.sound;
        },
      )

  pub avi_told : (ended ticket : Bool) (waiting : Option (ℕ × Pkt)) (going closed : ℕ → Bool) (fault : Option Fault) (past : Past) (e : Event)
      → DemuxStands left cut skip ports given ended ticket waiting going closed fault past
      → DemuxStands left cut skip ports given ended ticket waiting going closed fault (was_told past e)
  avi_told ended ticket waiting going closed fault past e (head, used, file, s) = (
    head,
    used,
    file,
    record {
      is_head = s.is_head;
      are_used = s.are_used;
      ports_are = s.ports_are;
      lies = s.lies;
      gives = ported_told (units_of_file head used file) (mark_of head used file) (number_of (ports_of head used)) given ended ticket waiting going closed fault past
          e s.gives;
      cause = s.cause;
      faulty = s.faulty;
      sound = s.sound;
    },
  )

  pub avi_stopped : (ended ticket : Bool) (waiting waiting' : Option (ℕ × Pkt)) (going going' closed : ℕ → Bool) (fault : Option Fault) (past : Past) (port : ℕ)
      → going' port ≡ false → ((q : ℕ) → q ≢ port → going' q ≡ going q)
      → ((w : ℕ × Pkt) → waiting' ≡ Some w → (waiting ≡ Some w) × (w.0 ≢ port))
      → ((q : ℕ) → q ≢ port → waits_at waiting' q ≡ waits_at waiting q)
      → DemuxStands left cut skip ports given ended ticket waiting going closed fault past
      → DemuxStands left cut skip ports given ended ticket waiting' going' closed fault (was_stopped past port)
  avi_stopped ended ticket waiting waiting' going going' closed fault past port out others kept same (head, used, file, s) = (
    head,
    used,
    file,
    record {
      is_head = s.is_head;
      are_used = s.are_used;
      ports_are = s.ports_are;
      lies = s.lies;
      gives = ported_stopped (units_of_file head used file) (mark_of head used file) (number_of (ports_of head used)) given ended ticket waiting waiting' going going'
          closed fault past port out others kept same s.gives;
      cause = s.cause;
      faulty = s.faulty;
      sound = s.sound;
    },
  )

  -- ---- nothing is given

  settled_due : (ended ticket : Bool) (waiting : Option (ℕ × Pkt)) (going closed : ℕ → Bool) (fault : Option Fault) (past : Past) (port : ℕ)
      → port < number_of ports → (IsIn port past.stopped → ⊥) → IsSettled ended ticket waiting closed port
      → DemuxStands left cut skip ports given ended ticket waiting going closed fault past → stream_at past.gave port ≡ stream_at (due past) port
  settled_due ended ticket waiting going closed fault past port lt out settled (head, used, file, s) =
      ported_settled (units_of_file head used file) (mark_of head used file) (number_of (ports_of head used)) given ended ticket waiting going closed fault past
      s.gives port
      (s.gives.goes port (there ports head used port s.ports_are lt) out) settled

  -- nothing waits at the port, and it has closed where the end was found
  pub avi_waits : (ended ticket : Bool) (waiting : Option (ℕ × Pkt)) (going closed : ℕ → Bool) (fault : Option Fault) (past : Past) (port : ℕ)
      → port < number_of ports → (IsIn port past.stopped → ⊥) → waits_at waiting port ≡ [] → (ended ≡ true → closed port ≡ true)
      → DemuxStands left cut skip ports given ended ticket waiting going closed fault past
      → ((fault ≡ None → ended ≡ false → ticket ≡ false) → DemuxStands left cut skip ports given ended ticket waiting going closed fault (was_asked past port))
      × ((ended ≡ false → ticket ≡ false) → stream_at past.gave port ≡ stream_at (due past) port)
  avi_waits ended ticket waiting going closed fault past port lt out none shut d = (
    λ t. avi_asked ended ticket waiting going closed fault past port (λ n. record { none = none; unticketed = t n; shut = shut }) d,
    λ t. settled_due ended ticket waiting going closed fault past port lt out (record { none = none; unticketed = t; shut = shut }) d,
  )

  -- a unit that waits comes before the end
  pub avi_held : (ended ticket : Bool) (waiting : Option (ℕ × Pkt)) (going closed : ℕ → Bool) (fault : Option Fault) (past : Past) (w : ℕ × Pkt) → waiting ≡ Some w
      → DemuxStands left cut skip ports given ended ticket waiting going closed fault past → (ended ≡ false) × (ticket ≡ false)
  avi_held ended ticket waiting going closed fault past w e d = let h = d.3.gives.held w e in (h.1, h.2)

  -- so none waits where there is a ticket
  pub avi_unheld : (ended ticket : Bool) (waiting : Option (ℕ × Pkt)) (going closed : ℕ → Bool) (fault : Option Fault) (past : Past) → ticket ≡ true
      → DemuxStands left cut skip ports given ended ticket waiting going closed fault past → waiting ≡ None
  avi_unheld ended ticket None going closed fault past t d = refl
  avi_unheld ended ticket (Some w) going closed fault past t d = let h = avi_held ended ticket (Some w) going closed fault past w refl d in let e = h.1 in cc (e, t)

  -- no ticket is left that could be used, or the source failed
  pub avi_unticketed : (ended ticket : Bool) (waiting : Option (ℕ × Pkt)) (going closed : ℕ → Bool) (fault : Option Fault) (past : Past)
      → (fault ≡ None → ended ≡ false → ticket ≡ false)
      → DemuxStands left cut skip ports given ended ticket waiting going closed fault past → (ended ≡ false → ticket ≡ false) ⊎ (fault ≡ Some Device)
  avi_unticketed ended ticket waiting going closed None past none d = inl (none refl)
  avi_unticketed ended ticket waiting going closed (Some f) past none d = elim (d.3.faulty f refl) [
    | inl h ↦ inr (ap (λ (x : Fault). Some x) h.0)
    | inr h ↦ inl (λ e. (let t = h.1 in cc (e, t)))
  ]

  -- ---- an item is given

  abbrev pub IsGiven : Bool → Bool → Option (ℕ × Pkt) → (ℕ → Bool) → (ℕ → Bool) → Option Fault → Past → ℕ → Item → Type 0
  IsGiven ended ticket waiting going closed fault past port x =
      DemuxStands left cut skip ports given ended ticket waiting going closed fault (gave_item past port x) × ((stream_at past.gave port).mark ≡ still_open)
      × LiesBelow (with_item (stream_at past.gave port) x) (stream_at (due past) port)

  -- the packet that waits
  pub avi_gives : (ended ticket : Bool) (waiting after : Option (ℕ × Pkt)) (going closed : ℕ → Bool) (fault : Option Fault) (past : Past) (port : ℕ) (x : Pkt)
      → waiting ≡ Some (port, x) → after ≡ None
      → DemuxStands left cut skip ports given ended ticket waiting going closed fault past
      → IsGiven ended ticket after going closed fault past port (Packet x)
  avi_gives ended ticket waiting after going closed fault past port x full empty (head, used, file, s) =
      let us = units_of_file head used file in
      let m = mark_of head used file in
      let ports' = number_of (ports_of head used) in
      let h = s.gives.held (port, x) full in
      let now = same_gives us m ports' given ended false ticket false waiting (Some (port, x)) going closed fault fault past h.1 h.2 full refl s.gives in
      let r = ported_gives us m ports' given going closed fault past port x now in (
        (
          head,
          used,
          file,
          record {
            is_head = s.is_head;
            are_used = s.are_used;
            ports_are = s.ports_are;
            lies = s.lies;
            gives = same_gives us m ports' given false ended false ticket None after going closed fault fault (gave_item past port (Packet x)) (sym h.1) (sym h.2)
                (sym empty) refl r.now;
            cause = s.cause;
            faulty = s.faulty;
            sound = s.sound;
          },
        ),
        r.unclosed,
        r.below,
      )

  mark_ends : (head : AviHead) (used file : List ℕ) (r : Flow) → mark_of head used file ≡ whole
      → with_item r End ≡ record { items = r.items; mark = mark_of head used file }
  mark_ends head used file r e = ap (λ (k : Mark). record { items = r.items; mark = k }) (sym e)

  mark_breaks : (head : AviHead) (used file : List ℕ) (r : Flow) → mark_of head used file ≡ broken
      → with_item r Broken ≡ record { items = r.items; mark = mark_of head used file }
  mark_breaks head used file r e = ap (λ (k : Mark). record { items = r.items; mark = k }) (sym e)

  closes : (ended ticket : Bool) (waiting : Option (ℕ × Pkt)) (going closed closed' : ℕ → Bool) (fault : Option Fault) (past : Past) (port : ℕ) (x : Item)
      → ended ≡ true → waiting ≡ None
      → port < number_of ports → (IsIn port past.stopped → ⊥) → closed port ≡ false → closed' port ≡ true → ((q : ℕ) → q ≢ port → closed' q ≡ closed q)
      → (d : DemuxStands left cut skip ports given ended ticket waiting going closed fault past)
      → ((r : Flow) → with_item r x ≡ record { items = r.items; mark = mark_of d.0 d.1 d.2 })
      → IsGiven ended ticket waiting going closed' fault past port x
  closes ended ticket waiting going closed closed' fault past port x at_end empty lt out unshut now others (head, used, file, s) is =
      let us = units_of_file head used file in
      let m = mark_of head used file in
      let ports' = number_of (ports_of head used) in
      let plain = same_gives us m ports' given ended true ticket ticket waiting None going closed fault fault past at_end refl empty refl s.gives in
      let go = s.gives.goes port (there ports head used port s.ports_are lt) out in
      let r = ported_closes us m ports' given ticket going closed closed' fault past port x go unshut now others is plain in (
        (
          head,
          used,
          file,
          record {
            is_head = s.is_head;
            are_used = s.are_used;
            ports_are = s.ports_are;
            lies = s.lies;
            gives = same_gives us m ports' given true ended ticket ticket None waiting going closed' fault fault (gave_item past port x) (sym at_end) refl (sym empty)
                refl r.now;
            cause = s.cause;
            faulty = s.faulty;
            sound = s.sound;
          },
        ),
        r.unclosed,
        r.below,
      )

  -- the end of a port
  avi_ends : (ended ticket : Bool) (waiting : Option (ℕ × Pkt)) (going closed closed' : ℕ → Bool) (fault : Option Fault) (past : Past) (port : ℕ) → ended ≡ true
      → waiting ≡ None → fault ≡ None
      → port < number_of ports → (IsIn port past.stopped → ⊥) → closed port ≡ false → closed' port ≡ true → ((q : ℕ) → q ≢ port → closed' q ≡ closed q)
      → DemuxStands left cut skip ports given ended ticket waiting going closed fault past
      → IsGiven ended ticket waiting going closed' fault past port End
  avi_ends ended ticket waiting going closed closed' fault past port at_end empty none lt out unshut now others d =
      closes ended ticket waiting going closed closed' fault past port End at_end empty lt out unshut now others d
      (λ r. mark_ends d.0 d.1 d.2 r (mark_whole d.0 d.1 d.2 (d.3.sound none at_end)))

  -- the break of a port
  avi_breaks : (ended ticket : Bool) (waiting : Option (ℕ × Pkt)) (going closed closed' : ℕ → Bool) (fault : Option Fault) (past : Past) (port : ℕ) (f : Fault)
      → ended ≡ true → waiting ≡ None → fault ≡ Some f
      → port < number_of ports → (IsIn port past.stopped → ⊥) → closed port ≡ false → closed' port ≡ true → ((q : ℕ) → q ≢ port → closed' q ≡ closed q)
      → DemuxStands left cut skip ports given ended ticket waiting going closed fault past
      → IsGiven ended ticket waiting going closed' fault past port Broken
  avi_breaks ended ticket waiting going closed closed' fault past port f at_end empty some lt out unshut now others d =
      let cause : fault_in d.0 d.1 d.2 ≡ Some f = elim (d.3.faulty f some) [ inl h ↦ (let e = h.1 in cc (e, at_end)) | inr h ↦ h.0 ] in
      closes ended ticket waiting going closed closed' fault past port Broken at_end empty lt out unshut now others d
      (λ r. mark_breaks d.0 d.1 d.2 r (mark_broken d.0 d.1 d.2 f cause))

  -- what closes a port
  pub avi_closing : (ended ticket : Bool) (waiting : Option (ℕ × Pkt)) (going closed closed' : ℕ → Bool) (fault : Option Fault) (past : Past) (port : ℕ) (x y : Item)
      → ended ≡ true → waiting ≡ None
      → (fault ≡ None → x ≡ End) → ((f : Fault) → fault ≡ Some f → x ≡ Broken) → Some x ≡ Some y
      → port < number_of ports → (IsIn port past.stopped → ⊥) → closed port ≡ false → closed' port ≡ true → ((q : ℕ) → q ≢ port → closed' q ≡ closed q)
      → DemuxStands left cut skip ports given ended ticket waiting going closed fault past
      → IsGiven ended ticket waiting going closed' fault past port y
  avi_closing ended ticket waiting going closed closed' None past port x y at_end empty ends breaks is lt out unshut now others d =
      let x_is = ends refl in
      let same : End ≡ y = cc (x_is, is) in
      subst (λ (z : Item). IsGiven ended ticket waiting going closed' None past port z) same
      (avi_ends ended ticket waiting going closed closed' None past port at_end empty refl lt out unshut now others d)
  avi_closing ended ticket waiting going closed closed' (Some f) past port x y at_end empty ends breaks is lt out unshut now others d =
      let x_is = breaks f refl in
      let same : Broken ≡ y = cc (x_is, is) in
      subst (λ (z : Item). IsGiven ended ticket waiting going closed' (Some f) past port z) same
      (avi_breaks ended ticket waiting going closed closed' (Some f) past port f at_end empty refl lt out unshut now others d)

  -- ---- under a ticket

  -- the next unit, which waits then, or is dropped where its port was stopped
  pub avi_unit : (left' : Option (List ℕ)) (cut' : AviCut) (skip' : ℕ) (waiting' : Option (ℕ × Pkt)) (going closed : ℕ → Bool) (past : Past) (stream : ℕ) (p : Pkt)
      → Reaches left cut skip left' cut' skip' stream p
      → passes_at ports given (port_of ports stream, Packet p) ≡ false
      → ((w : ℕ × Pkt) → waiting' ≡ Some w → going w.0 ≡ true)
      → ((q : ℕ) → going q ≡ true → waits_at waiting' q ≡ items_at q ((port_of ports stream, Packet p) ∷ []))
      → DemuxStands left cut skip ports given false true None going closed None past
      → DemuxStands left' cut' skip' ports (given + 1) false false waiting' going closed None past
  avi_unit left' cut' skip' waiting' going closed past stream p reaches few kept waits (head, used, file, s) =
      let us = units_of_file head used file in
      let m = mark_of head used file in
      let ports' = ports_of head used in
      let r = reaches head used file given (s.lies refl) in
      let few' : passes_at ports' given (port_of ports' stream, Packet p) ≡ false = subst (λ (x : AviPorts). passes_at x given (port_of x stream, Packet p) ≡ false)
      s.ports_are few in
      let get = short_unit head used file given s.gives.in_range (port_of ports' stream, Packet p) (unit_at head used file given s.gives.in_range stream p r.1) few' in
      let waits' : (q : ℕ) → going q ≡ true → waits_at waiting' q ≡ items_at q ((port_of ports' stream, Packet p) ∷ []) =
      subst (λ (x : AviPorts). (q : ℕ) → going q ≡ true → waits_at waiting' q ≡ items_at q ((port_of x stream, Packet p) ∷ [])) s.ports_are waits in (
        head,
        used,
        file,
        record {
          is_head = s.is_head;
          are_used = s.are_used;
          ports_are = s.ports_are;
          lies = λ e. r.0;
          gives = ported_used us m (number_of ports') given waiting' going closed past (port_of ports' stream) p get kept waits' s.gives;
          cause = s.cause;
          faulty = λ f e. cc;
          sound = λ e b. cc;
        },
      )

  -- at a port that was stopped nothing of a unit waits
  pub avi_dropped : (going : ℕ → Bool) (port : ℕ) (p : Pkt) → going port ≡ false → (q : ℕ) → going q ≡ true → waits_at None q ≡ items_at q ((port, Packet p) ∷ [])
  avi_dropped going port p out q go =
      let differs : q ≢ port = λ e. (let f : going q ≡ false = ap going e ∙ out in cc (f, go)) in
      sym (ap (λ (b : Bool). cond b (Packet p ∷ []) []) (other_port port q differs))

  -- a unit that passes a limit
  pub avi_long : (left' : Option (List ℕ)) (cut' : AviCut) (skip' : ℕ) (going closed : ℕ → Bool) (past : Past) (stream : ℕ) (p : Pkt)
      → Reaches left cut skip left' cut' skip' stream p
      → passes_at ports given (port_of ports stream, Packet p) ≡ true
      → DemuxStands left cut skip ports given false true None going closed None past
      → DemuxStands left' cut' skip' ports given true false None going closed (Some TooLong) past
  avi_long left' cut' skip' going closed past stream p reaches many (head, used, file, s) =
      let us = units_of_file head used file in
      let m = mark_of head used file in
      let ports' = ports_of head used in
      let r = reaches head used file given (s.lies refl) in
      let many' : passes_at ports' given (port_of ports' stream, Packet p) ≡ true = subst (λ (x : AviPorts). passes_at x given (port_of x stream, Packet p) ≡ true)
      s.ports_are many in
      let stop = long_unit head used file given s.gives.in_range (port_of ports' stream, Packet p) (unit_at head used file given s.gives.in_range stream p r.1) many' in (
        head,
        used,
        file,
        record {
          is_head = s.is_head;
          are_used = s.are_used;
          ports_are = s.ports_are;
          lies = λ e. cc;
          gives = ported_ended us m (number_of ports') given going closed (Some TooLong) past stop.0 s.gives;
          cause = s.cause;
          faulty = λ f e. inr (ap (λ (b : Bool). cond b (Some TooLong) (damage_at (break_of head used file))) stop.1 ∙ e, refl);
          sound = λ e b. cc;
        },
      )

  -- no unit follows: the file ends here, or breaks
  pub avi_stop : (left' : Option (List ℕ)) (cut' : AviCut) (skip' : ℕ) (going closed : ℕ → Bool) (past : Past) (broke : Option ℕ)
      → Closes left cut skip broke
      → DemuxStands left cut skip ports given false true None going closed None past
      → DemuxStands left' cut' skip' ports given true false None going closed (damage_at broke) past
  avi_stop left' cut' skip' going closed past broke all (head, used, file, s) =
      let us = units_of_file head used file in
      let m = mark_of head used file in
      let r = all head used file given (s.lies refl) in
      let stop = no_unit head used file given s.gives.in_range r.0 in
      let cause : fault_in head used file ≡ damage_at broke =
      ap (λ (b : Bool). cond b (Some TooLong) (damage_at (break_of head used file))) stop.1 ∙ ap (λ (b : Option ℕ). damage_at b) r.1 in (
        head,
        used,
        file,
        record {
          is_head = s.is_head;
          are_used = s.are_used;
          ports_are = s.ports_are;
          lies = λ e. cc;
          gives = ported_ended us m (number_of (ports_of head used)) given going closed (damage_at broke) past stop.0 s.gives;
          cause = s.cause;
          faulty = λ f e. inr (cause ∙ e, refl);
          sound = λ e b. cause ∙ e;
        },
      )

  -- the source failed
  pub avi_failed : (left' : Option (List ℕ)) (cut' : AviCut) (skip' : ℕ) (ticket : Bool) (waiting : Option (ℕ × Pkt)) (going closed : ℕ → Bool) (past : Past)
      → Stays left cut skip left' cut' skip'
      → DemuxStands left cut skip ports given false ticket waiting going closed None past
      → DemuxStands left' cut' skip' ports given false ticket waiting going closed (Some Device) past
  avi_failed left' cut' skip' ticket waiting going closed past stays (head, used, file, s) = (
    head,
    used,
    file,
    record {
      is_head = s.is_head;
      are_used = s.are_used;
      ports_are = s.ports_are;
      lies = λ e. stays head used file given (s.lies refl);
      gives = ported_failed (units_of_file head used file) (mark_of head used file) (number_of (ports_of head used)) given false ticket waiting going closed None
          Device past s.gives;
      cause = s.cause;
      faulty = λ f e. inl (let same : Device ≡ f = cc in sym same, refl);
      sound = λ e b. cc;
    },
  )

  -- there was no memory
  pub avi_kept : (left' : Option (List ℕ)) (cut' : AviCut) (skip' : ℕ) (ended ticket : Bool) (waiting : Option (ℕ × Pkt)) (going closed : ℕ → Bool)
      (fault : Option Fault) (past : Past)
      → Stays left cut skip left' cut' skip'
      → DemuxStands left cut skip ports given ended ticket waiting going closed fault past
      → DemuxStands left' cut' skip' ports given ended ticket waiting going closed fault past
  avi_kept left' cut' skip' ended ticket waiting going closed fault past stays (head, used, file, s) = (
    head,
    used,
    file,
    record {
      is_head = s.is_head;
      are_used = s.are_used;
      ports_are = s.ports_are;
      lies = λ e. stays head used file given (s.lies e);
      gives = s.gives;
      cause = s.cause;
      faulty = s.faulty;
      sound = s.sound;
    },
  )

-- nothing was done yet
pub avi_start : (left : Option (List ℕ)) (cut : AviCut) (skip input : ℕ) (head : AviHead) (used file : List ℕ) (going closed : ℕ → Bool) → IsHead head → AreUsed head used
    → Lies left cut skip head used file 0
    → ((p : ℕ) → closed p ≡ false) → ((p : ℕ) → going p ≡ true → p < number_of (ports_of head used)) → ((p : ℕ) → p < number_of (ports_of head used) → going p ≡ true)
    → DemuxStands left cut skip (ports_of head used) 0 false false None going closed None (start (avi_task input head used file))
avi_start left cut skip input head used file going closed good are lies unshut inside goes = (
  head,
  used,
  file,
  record {
    is_head = good;
    are_used = are;
    ports_are = refl;
    lies = λ e. lies;
    gives = ported_start (units_of_file head used file) (mark_of head used file) (number_of (ports_of head used)) (avi_task input head used file) going closed unshut
        refl refl (mark_closes head used file) inside goes;
    cause = refl;
    faulty = λ f e. cc;
    sound = λ e b. cc;
  },
)

-- ---- two ports

pub not_true : (b : Bool) → not b ≡ true → b ≡ false
not_true true e = cc
not_true false e = refl

pub not_false : (b : Bool) → not b ≡ false → b ≡ true
not_false true e = refl
not_false false e = cc

-- what is said of a port by its number
pub going_at : (first second : Port) (p : ℕ) → p < 2 → of_two first.going second.going p ≡ (port_at first second p).going
going_at first second zero lt = refl
going_at first second (suc zero) lt = refl
going_at first second (suc (suc p)) lt = absurd (omega (arith, lt))

pub closed_at : (first second : Port) (p : ℕ) → p < 2 → of_two first.closed second.closed p ≡ (port_at first second p).closed
closed_at first second zero lt = refl
closed_at first second (suc zero) lt = refl
closed_at first second (suc (suc p)) lt = absurd (omega (arith, lt))

-- the first port has changed
pub first_now : (a b c : Bool) (p : ℕ) → p ≡ 0 → (of_two a b p ≡ a) × ((q : ℕ) → q ≢ p → of_two a b q ≡ of_two c b q)
first_now a b c p z = (subst (λ (k : ℕ). of_two a b k ≡ a) (sym z) refl, λ q n. others q (λ e. n (e ∙ sym z)))
  where
    others : (q : ℕ) → q ≢ 0 → of_two a b q ≡ of_two c b q
    others zero n = absurd (n refl)
    others (suc zero) n = refl
    others (suc (suc q)) n = refl

-- the second port has changed
pub second_now : (a b c : Bool) (p : ℕ) → p ≢ 0 → p < 2 → (of_two a b p ≡ b) × ((q : ℕ) → q ≢ p → of_two a b q ≡ of_two a c q)
second_now a b c zero n lt = absurd (n refl)
second_now a b c (suc zero) n lt = (refl, λ q k. others q k)
  where
    others : (q : ℕ) → q ≢ 1 → of_two a b q ≡ of_two a c q
    others zero k = refl
    others (suc zero) k = absurd (k refl)
    others (suc (suc q)) k = refl
second_now a b c (suc (suc p)) n lt = absurd (omega (arith, lt))

-- ---- what it tells

module _ (input : ℕ) (told : Bool) (past : Past) (x : Exits input told past.task.tells past.told) where
  -- it told what was due
  pub exits_told : told ≡ true → past.told ≡ past.task.tells past.feeds
  exits_told t =
      x.events_are
      ∙ (ap (λ (b : Bool). cond b (Exited input ∷ []) []) t ∙ sym (ap (λ (f : List Feed → List Event). f past.feeds) x.tells_is))

  -- that is that it has exited
  pub exits_alone : (n : ℕ) → Some input ≡ Some n → past.task.tells past.feeds ≡ Exited n ∷ []
  exits_alone n e =
      let same : input ≡ n = cc in
      ap (λ (f : List Feed → List Event). f past.feeds) x.tells_is ∙ ap (λ (i : ℕ). Exited i ∷ []) same

  -- where it told something it told that
  pub exits_some : past.told ≢ [] → told ≡ true
  exits_some n = pick told refl
    where
      pick : (b : Bool) → told ≡ b → told ≡ true
      pick true e = e
      pick false e = absurd (n (x.events_are ∙ ap (λ (b : Bool). cond b (Exited input ∷ []) []) e))

  -- it tells it now
  pub exits_now : (e : Event) → told ≡ false → Exited input ≡ e → Exits input true past.task.tells (was_told past e).told
  exits_now e f same =
      let none : past.told ≡ [] = x.events_are ∙ ap (λ (b : Bool). cond b (Exited input ∷ []) []) f in
      record { tells_is = x.tells_is; events_are = ap (λ (es : List Event). es ++ e ∷ []) none ∙ ap (λ (y : Event). y ∷ []) (sym same) }

-- ---- as the laws see it

-- what leaves the source and the fault as they are
pub fares_on : {S : Type 0} (left : S → Option (List ℕ)) (named : S → Option (List ℕ)) (failed : S → ℕ) (old mid new : AviDemux S)
    → FaultStep (avi_view left named failed old) (avi_view left named failed mid) → new.reader.src ≡ mid.reader.src → new.fault ≡ mid.fault
    → FaultStep (avi_view left named failed old) (avi_view left named failed new)
fares_on left named failed old mid new s r f =
    let d : named new.reader.src ≡ named mid.reader.src = ap named r in
    let k : failed new.reader.src ≡ failed mid.reader.src = ap failed r in
    record {
      device_same = d ∙ s.device_same;
      later = subst (λ (n : ℕ). failed old.reader.src ≤ n) (sym k) s.later;
      stays = λ c e. f ∙ s.stays c e;
      failed = λ n e. subst (λ (x : ℕ). Rose (failed old.reader.src) x) (sym k) (s.failed n (sym f ∙ e));
      unfailed = λ n. k ∙ s.unfailed (λ e. n (f ∙ e));
      behind = λ c e. k ∙ s.behind c e;
    }
