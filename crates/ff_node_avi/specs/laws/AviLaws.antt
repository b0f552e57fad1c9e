-- The laws of the demuxer of an AVI.
use Rattle.std.specs.Prelude.{◌≡◌, ◌≢◌, ℕ, zero, suc, ◌≤◌, ◌⊎◌, Bool, true, false, cond, List, [], ◌∷◌, map, length, slice_get, Option, None, Some, IsSome, is_some, refl, ◌+◌}
use Rattle.std.proofs.Common.{sym, subst, ap, inl, inr, ◌∙◌}
use mathlib.Core.List.{IsPrefix}
use Rattle.ff_frame.specs.declared.packet.Pkt.{Pkt}
use Rattle.ff_frame.specs.declared.head.StreamHead.{StreamHead}
use Rattle.ff_frame.specs.declared.event.Event.{Event}
use Rattle.ff_frame.specs.declared.event.Event.TheVariants.{Exited}
use Rattle.ff_stream.specs.declared.item.Item.{Item}
use Rattle.ff_stream.specs.declared.item.Lane.{Lane}
use Rattle.ff_stream.specs.declared.item.Lane.TheVariants.{Packets}
use Rattle.ff_stream.specs.Stream.{still_open, whole, broken}
use Rattle.ff_stream.specs.Lanes.{IsValid}
use Rattle.ff_stream.specs.laws.Order.{prefix_self}
use Rattle.ff_stream.specs.Ports.{AllBelow, AllUnbroken, IsMonotone, IsCalm}
use Rattle.ff_net.proofs.Flows.{AreUnits}
use Rattle.ff_net.specs.declared.fault.Fault.{Fault}
use Rattle.ff_net.specs.declared.fault.Fault.TheVariants.{TooLong}
use Rattle.ff_net.specs.laws.Laws.{IsOfInputs, CauseStays, IsPending, AllAsked}
use Rattle.ff_net.specs.Pasts.{Past, Units, Feed, due, due_by, count_of}
use Rattle.ff_net.specs.Ways.{Flow, AreValid}
use Rattle.ff_avi.specs.declared.head.AviHead.{AviHead}
use Rattle.ff_avi.specs.declared.cut.AviCut.{AviCut}
use Rattle.ff_node_demux.specs.Demuxing.{mark_at, damage_at}
use Rattle.ff_node_demux.specs.laws.SourceLaws.{tried_of}
use Rattle.ff_node_avi.specs.declared.ports.AviPorts.{AviPorts}
use Rattle.ff_node_avi.specs.Ported.{flows, all_at, all_of}
use Rattle.ff_node_avi.specs.Demuxing.{ports_of, heads_of, number_of, units_of_file, is_too_long, break_of, mark_of, fault_in, Exits, DemuxStands}
use Rattle.ff_node_avi.specs.laws.PortedLaws.{ported_valid, ported_monotone, ported_calm, ported_units, ported_given, ported_tried, ported_below, ported_unbroken, ported_used, ported_few}
use Rattle.ff_node_avi.specs.laws.AviShapes.{port_valid}

-- ---- how the streams end

closes_at : (b : Bool) (broke : Option ℕ) → cond b broken (mark_at broke) ≢ still_open
closes_at true broke e = cc
closes_at false None e = cc
closes_at false (Some offset) e = cc

whole_at : (b : Bool) (broke : Option ℕ) → cond b (Some TooLong) (damage_at broke) ≡ None → cond b broken (mark_at broke) ≡ whole
whole_at true broke e = cc
whole_at false None e = refl
whole_at false (Some offset) e = cc

broken_at : (b : Bool) (broke : Option ℕ) (f : Fault) → cond b (Some TooLong) (damage_at broke) ≡ Some f → cond b broken (mark_at broke) ≡ broken
broken_at true broke f e = refl
broken_at false None f e = cc
broken_at false (Some offset) f e = refl

module _ (head : AviHead) (used file : List ℕ) where
  pub mark_closes : mark_of head used file ≢ still_open
  mark_closes = closes_at (is_too_long head used file) (break_of head used file)

  pub mark_whole : fault_in head used file ≡ None → mark_of head used file ≡ whole
  mark_whole e = whole_at (is_too_long head used file) (break_of head used file) e

  pub mark_broken : (f : Fault) → fault_in head used file ≡ Some f → mark_of head used file ≡ broken
  mark_broken f e = broken_at (is_too_long head used file) (break_of head used file) f e

-- ---- the laws

-- streams are valid for lanes of packets where each is for its lane
lanes_valid : (f : ℕ → Flow) (heads : List StreamHead) → ((p : ℕ) (h : StreamHead) → slice_get heads p ≡ Some h → IsValid (Packets h) (f p))
    → AreValid (map Packets heads) (flows f (length heads))
lanes_valid f [] v p = refl
lanes_valid f (h ∷ hs) v zero = v zero h refl
lanes_valid f (h ∷ hs) v (suc p) = lanes_valid (λ q. f (suc q)) hs (λ q k e. v (suc q) k e) p

told_front : (input : ℕ) (told : Bool) → IsPrefix (cond told (Exited input ∷ []) []) (Exited input ∷ [])
told_front input true = prefix_self (Exited input ∷ [])
told_front input false = (Exited input ∷ [], refl)

-- it told no more than that it has exited
pub avi_told : (input : ℕ) (told : Bool) (past : Past) → Exits input told past.task.tells past.told → IsPrefix past.told (past.task.tells past.feeds)
avi_told input told past x =
    let tells : past.task.tells past.feeds ≡ Exited input ∷ [] = ap (λ (f : List Feed → List Event). f past.feeds) x.tells_is in
    subst (λ (es : List Event). IsPrefix past.told es) (sym tells)
    (subst (λ (es : List Event). IsPrefix es (Exited input ∷ [])) (sym x.events_are) (told_front input told))

module _ (left : Option (List ℕ)) (cut : AviCut) (skip : ℕ) (ports : AviPorts) (given : ℕ) (ended ticket : Bool) (waiting : Option (ℕ × Pkt)) (going closed : ℕ → Bool) (fault : Option Fault) (past : Past)
    (d : DemuxStands left cut skip ports given ended ticket waiting going closed fault past) where
  abbrev us : List (ℕ × Item)
  us = units_of_file d.0 d.1 d.2

  pub avi_is_source : is_some past.task.source ≡ true
  avi_is_source = ap (λ (o : Option Units). is_some o) d.3.gives.source

  pub avi_fed : AreValid [] past.got
  avi_fed = ported_valid us (mark_of d.0 d.1 d.2) (number_of (ports_of d.0 d.1)) given ended ticket waiting going closed fault past d.3.gives

  pub avi_keeps : (ss : List Flow) → AreValid [] ss → AreValid (map Packets (heads_of ports)) (past.task.means ss)
  avi_keeps ss v =
      subst (λ (f : List Flow → List Flow). AreValid (map Packets (heads_of ports)) (f ss)) (sym d.3.gives.means)
      (subst (λ (p : AviPorts). AreValid (map Packets (heads_of p)) (all_of us (mark_of d.0 d.1 d.2) (number_of (ports_of d.0 d.1)) ss)) (sym d.3.ports_are)
      (lanes_valid (all_at us (mark_of d.0 d.1 d.2)) (heads_of (ports_of d.0 d.1)) (λ p h e. port_valid d.0 d.1 d.2 d.3.is_head d.3.are_used p h e)))

  pub avi_monotone : (meant : List Flow → Type 0) → IsMonotone meant past.task.means
  avi_monotone = ported_monotone us (mark_of d.0 d.1 d.2) (number_of (ports_of d.0 d.1)) given ended ticket waiting going closed fault past d.3.gives

  pub avi_cause_stays : (lanes : List Lane) → CauseStays lanes past.task.cause
  avi_cause_stays lanes rs ss f v w b e =
      let same = ap (λ (g : List Flow → Option Fault). g rs) d.3.cause in
      ap (λ (g : List Flow → Option Fault). g ss) d.3.cause ∙ (sym same ∙ e)

  pub avi_calm : (meant : List Flow → Type 0) → IsCalm meant past.task.means
  avi_calm = ported_calm us (mark_of d.0 d.1 d.2) (number_of (ports_of d.0 d.1)) given ended ticket waiting going closed fault past d.3.gives

  pub avi_given : AllBelow past.gave (due past)
  avi_given = ported_given us (mark_of d.0 d.1 d.2) (number_of (ports_of d.0 d.1)) given ended ticket waiting going closed fault past d.3.gives

  pub avi_tried : tried_of given ended ≤ length past.allowed
  avi_tried = ported_tried us (mark_of d.0 d.1 d.2) (number_of (ports_of d.0 d.1)) given ended ticket waiting going closed fault past d.3.gives

  pub avi_few : tried_of given ended ≤ count_of past.task.source + 1
  avi_few = ported_few us (mark_of d.0 d.1 d.2) (number_of (ports_of d.0 d.1)) given ended ticket waiting going closed fault past d.3.gives

  pub avi_below : AreUnits past
  avi_below = ported_below us (mark_of d.0 d.1 d.2) (number_of (ports_of d.0 d.1)) given ended ticket waiting going closed fault past d.3.gives

  pub avi_units : AllBelow past.gave (due_by past.task.source (tried_of given ended) (past.task.means past.got))
  avi_units = ported_units us (mark_of d.0 d.1 d.2) (number_of (ports_of d.0 d.1)) given ended ticket waiting going closed fault past d.3.gives

  pub avi_unbroken : fault ≡ None → AllUnbroken past.gave
  avi_unbroken none = ported_unbroken us (mark_of d.0 d.1 d.2) (number_of (ports_of d.0 d.1)) given ended ticket waiting going closed fault past d.3.gives
      (λ e b. let m = mark_whole d.0 d.1 d.2 (d.3.sound none e) in cc (m, b))

  pub avi_caused : (f : Fault) → fault ≡ Some f → IsOfInputs f → past.task.cause past.got ≡ Some f
  avi_caused f e own = ap (λ (g : List Flow → Option Fault). g past.got) d.3.cause ∙ elim (d.3.faulty f e) [
    | inl h ↦ absurd (subst IsOfInputs h.0 own)
    | inr h ↦ h.0
  ]

  -- by the number of the ports that there are
  pub avi_used : (q : ℕ) → fault ≡ None → IsPending (length (map Packets (heads_of ports))) past q → AllAsked (length (map Packets (heads_of ports))) past
      → (ticket ≡ true) ⊎ IsSome waiting → ⊥
  avi_used q none p asked holds =
      let number : length (map Packets (heads_of ports)) ≡ number_of (ports_of d.0 d.1) = count_map (heads_of ports) ∙ ap (λ (p : AviPorts). number_of p) d.3.ports_are in
      ported_used us (mark_of d.0 d.1 d.2) (number_of (ports_of d.0 d.1)) given ended ticket waiting going closed fault past d.3.gives q none
      (subst (λ (n : ℕ). IsPending n past q) number p) (subst (λ (n : ℕ). AllAsked n past) number asked) holds
    where
      count_map : (hs : List StreamHead) → length (map Packets hs) ≡ length hs
      count_map [] = refl
      count_map (h ∷ hs) = ap suc (count_map hs)
