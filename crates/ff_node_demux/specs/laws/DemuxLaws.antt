-- The laws of the part that gives an input's packets.
use Rattle.std.specs.Prelude.{◌≡◌, ℕ, zero, suc, ◌+◌, ◌<◌, ◌≤◌, Bool, true, false, cond, List, [], ◌∷◌, ◌++◌, length, is_some, Option, None, Some, refl, drop}
use Rattle.std.proofs.Common.{sym, subst, ap, ◌∙◌, arith}
use Rattle.ff_frame.specs.declared.head.StreamHead.{StreamHead}
use Rattle.ff_stream.specs.declared.item.Lane.{Lane}
use Rattle.ff_stream.specs.declared.item.Lane.TheVariants.{Packets}
use Rattle.ff_stream.specs.Stream.{still_open, whole, broken}
use Rattle.ff_stream.specs.Ports.{AllBelow, AllUnbroken, IsMonotone, IsCalm, IsClosed, stream_at}
use Rattle.ff_stream.specs.Within.{before_pass}
use Rattle.ff_net.proofs.Flows.{AreUnits}
use Rattle.ff_net.specs.declared.fault.Fault.{Fault}
use Rattle.ff_net.specs.declared.fault.Fault.TheVariants.{TooLong}
use Rattle.ff_net.specs.laws.Laws.{IsOfInputs, CauseStays, IsPending, AllAsked}
use Rattle.ff_net.specs.Pasts.{Past, due, Units, count_of, due_by}
use Rattle.ff_net.specs.Ways.{Flow, AreValid}
use Rattle.ff_reader.specs.Cutters.{Cutter}
use Rattle.ff_node_demux.specs.Demuxing.{mark_at, damage_at, items_of, break_of, demux_of, is_too_long, fault_in, passes_in_demux, DemuxStands}
use Rattle.ff_input.specs.laws.Shapes.{IsShaped}
use Rattle.ff_node_demux.specs.laws.DemuxShapes.{demux_valid}
use Rattle.ff_node_demux.specs.laws.SourceLaws.{source_valid, source_keeps, source_monotone, source_calm, source_unbroken, source_given, tried_of, source_tried, source_few, source_units, source_below}

module _ {H C : Type 0} (cutter : Cutter H C) where
  pub demux_mark : (head : H) (file : List ℕ) (b : Bool) → is_too_long cutter head file ≡ b
      → (demux_of cutter head file).mark ≡ cond b broken (mark_at (break_of cutter head file))
  unfolding demux_of is_too_long
  demux_mark head file b e = ap (λ (x : Bool). cond x broken (mark_at (break_of cutter head file))) e

  pub demux_items : (head : H) (file : List ℕ)
      → (demux_of cutter head file).items ≡ before_pass (passes_in_demux (Packets (cutter.stream_head head))) 0 (items_of cutter head file)
  unfolding demux_of
  demux_items head file = refl

  pub demux_closed : (head : H) (file : List ℕ) → IsClosed (demux_of cutter head file)
  demux_closed head file o = shut (is_too_long cutter head file) (break_of cutter head file) (sym (demux_mark head file (is_too_long cutter head file) refl) ∙ o)
    where
      shut : (b : Bool) (broke : Option ℕ) → cond b broken (mark_at broke) ≡ still_open → ⊥
      shut true broke e = cc
      shut false None e = cc
      shut false (Some offset) e = cc

  -- an input without a fault has a whole stream
  pub demux_whole : (head : H) (file : List ℕ) → fault_in cutter head file ≡ None → (demux_of cutter head file).mark ≡ whole
  demux_whole head file none = demux_mark head file (is_too_long cutter head file) refl
      ∙ sound (is_too_long cutter head file) (break_of cutter head file) none
    where
      sound : (b : Bool) (broke : Option ℕ) → cond b (Some TooLong) (damage_at broke) ≡ None → cond b broken (mark_at broke) ≡ whole
      sound true broke e = cc
      sound false None e = refl
      sound false (Some offset) e = cc

module _ {H C : Type 0} (cutter : Cutter H C) (left : Option (List ℕ)) (cut : C) (skip given : ℕ) (ticket ended : Bool) (fault : Option Fault) (past : Past) (d : DemuxStands cutter left cut skip given ticket ended fault past) where
  abbrev file : List ℕ
  file = d.1 ++ d.2

  abbrev stream : Flow
  stream = demux_of cutter d.0 file

  pub demux_is_source : is_some past.task.source ≡ true
  demux_is_source = ap (λ (o : Option Units). is_some o) d.3.sources.source

  pub demux_fed : AreValid [] past.got
  demux_fed = source_valid stream given ended ticket past d.3.sources

  pub demux_keeps : IsShaped cutter → (head : StreamHead) → cutter.stream_head (cutter.head_of cut) ≡ head → (ss : List Flow) → AreValid [] ss
      → AreValid (Packets head ∷ []) (past.task.means ss)
  demux_keeps shaped head e ss v =
      let same : cutter.stream_head d.0 ≡ head = ap (λ (h : H). cutter.stream_head h) (sym d.3.of_head) ∙ e in
      subst (λ (h : StreamHead). AreValid (Packets h ∷ []) (past.task.means ss)) same
      (source_keeps stream given ended ticket past d.3.sources (Packets (cutter.stream_head d.0)) (demux_valid cutter d.0 file (shaped d.0 (drop (cutter.start d.0) file) d.3.is_head)) ss v)

  pub demux_monotone : (meant : List Flow → Type 0) → IsMonotone meant past.task.means
  demux_monotone = source_monotone stream given ended ticket past d.3.sources

  pub demux_cause_stays : (lanes : List Lane) → CauseStays lanes past.task.cause
  demux_cause_stays lanes rs ss f v w b e =
      let same = ap (λ (g : List Flow → Option Fault). g rs) d.3.cause in
      ap (λ (g : List Flow → Option Fault). g ss) d.3.cause ∙ (sym same ∙ e)

  pub demux_calm : (meant : List Flow → Type 0) → IsCalm meant past.task.means
  demux_calm = source_calm stream given ended ticket past d.3.sources

  pub demux_given : AllBelow past.gave (due past)
  demux_given = source_given stream given ended ticket past d.3.sources

  pub demux_tried : tried_of given ended ≤ length past.allowed
  demux_tried = source_tried stream given ended ticket past d.3.sources

  pub demux_few : tried_of given ended ≤ count_of past.task.source + 1
  demux_few = source_few stream given ended ticket past d.3.sources

  pub demux_below : AreUnits past
  demux_below = source_below stream given ended ticket past d.3.sources

  pub demux_units : AllBelow past.gave (due_by past.task.source (tried_of given ended) (past.task.means past.got))
  demux_units = source_units stream given ended ticket past d.3.sources

  pub demux_unbroken : fault ≡ None → AllUnbroken past.gave
  demux_unbroken none = source_unbroken stream given ended ticket past d.3.sources (λ e b. let m = demux_whole cutter d.0 file (d.3.sound none e) in cc (m, b))

  pub demux_caused : (f : Fault) → fault ≡ Some f → IsOfInputs f → past.task.cause past.got ≡ Some f
  demux_caused f e own = ap (λ (g : List Flow → Option Fault). g past.got) d.3.cause ∙ d.3.own f e own

  -- with a pending output, which had nothing to give, no ticket is left
  pub demux_ticket_used : (q : ℕ) → fault ≡ None → IsPending 1 past q → AllAsked 1 past → ticket ≡ false
  demux_ticket_used zero none p asked = pick ended refl
    where
      pick : (b : Bool) → ended ≡ b → ticket ≡ false
      pick false e = d.3.idle none e (asked zero p)
      pick true e =
          let mark : (stream_at past.gave 0).mark ≡ cond ended stream.mark still_open = ap (λ (r : Flow). r.mark) d.3.sources.gave in
          let shut : cond ended stream.mark still_open ≡ stream.mark = ap (λ (b : Bool). cond b stream.mark still_open) e in
          absurd (demux_closed cutter d.0 file (sym shut ∙ (sym mark ∙ p.unclosed)))
  demux_ticket_used (suc q) none p asked = absurd (let lt : suc q < 1 = p.there in omega (arith, lt))
