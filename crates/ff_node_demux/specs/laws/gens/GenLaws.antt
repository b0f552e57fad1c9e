-- The laws of a source of frames.
use Rattle.std.specs.Prelude.{◌≡◌, ℕ, zero, suc, ◌+◌, ◌<◌, ◌≤◌, Bool, true, false, cond, List, [], ◌∷◌, map, length, is_some, Option, None, Some, refl}
use Rattle.std.proofs.Common.{sym, ap, ◌∙◌, arith}
use Rattle.ff_frame.specs.declared.head.StreamHead.{StreamHead}
use Rattle.ff_stream.specs.declared.item.Item.{Item}
use Rattle.ff_stream.specs.declared.item.Lane.{Lane}
use Rattle.ff_stream.specs.declared.item.Lane.TheVariants.{Frames}
use Rattle.ff_stream.specs.Stream.{still_open, whole, broken, whole_stream}
use Rattle.ff_stream.specs.Ports.{AllBelow, AllUnbroken, IsMonotone, IsCalm, IsClosed, stream_at}
use Rattle.ff_stream.specs.laws.WithinLaws.{within_valid}
use Rattle.ff_net.proofs.Flows.{AreUnits}
use Rattle.ff_net.specs.declared.fault.Fault.{Fault}
use Rattle.ff_net.specs.laws.Laws.{IsOfInputs, CauseStays, IsPending, AllAsked}
use Rattle.ff_net.specs.Pasts.{Past, due, cut_to, Units, count_of, due_by}
use Rattle.ff_net.specs.Ways.{Flow, AreValid}
use Rattle.ff_node_demux.specs.laws.SourceLaws.{source_valid, source_keeps, source_monotone, source_calm, source_unbroken, source_given, tried_of, source_below}
use Rattle.ff_node_demux.specs.laws.SourceLaws.{source_tried, source_few, source_units}
use Rattle.ff_node_demux.specs.gens.Generating.{limited_frames, are_too_long, length_fault, GenStands}

pub frames_closed : (head : StreamHead) (frames : List Item) → IsClosed (limited_frames head frames)
frames_closed head frames o = shut (are_too_long head frames) o
  where
    shut : (b : Bool) → cond b broken whole ≡ still_open → ⊥
    shut true e = cc
    shut false e = cc

none_some : (f : Fault) → None ≡ Some f → ⊥
none_some f e = cc

module _ (left : List Item) (head : StreamHead) (given : ℕ) (ticket ended long : Bool) (past : Past) (d : GenStands left head given ticket ended long past) where
  abbrev stream : Flow
  stream = limited_frames head d.0

  pub gen_is_source : is_some past.task.source ≡ true
  gen_is_source = ap (λ (o : Option Units). is_some o) d.1.sources.source

  pub gen_fed : AreValid [] past.got
  gen_fed = source_valid stream given ended ticket past d.1.sources

  pub gen_keeps : (ss : List Flow) → AreValid [] ss → AreValid (Frames head ∷ []) (past.task.means ss)
  gen_keeps = source_keeps stream given ended ticket past d.1.sources (Frames head) (within_valid (Frames head) (whole_stream d.0) d.1.shape)

  pub gen_monotone : (meant : List Flow → Type 0) → IsMonotone meant past.task.means
  gen_monotone = source_monotone stream given ended ticket past d.1.sources

  pub gen_cause_stays : (lanes : List Lane) → CauseStays lanes past.task.cause
  gen_cause_stays lanes rs ss f v w b e =
      let same = ap (λ (g : List Flow → Option Fault). g rs) d.1.cause in
      ap (λ (g : List Flow → Option Fault). g ss) d.1.cause ∙ (sym same ∙ e)

  pub gen_calm : (meant : List Flow → Type 0) → IsCalm meant past.task.means
  gen_calm = source_calm stream given ended ticket past d.1.sources

  pub gen_given : AllBelow past.gave (due past)
  gen_given = source_given stream given ended ticket past d.1.sources

  pub gen_tickets : tried_of given ended ≤ length past.allowed
  gen_tickets = source_tried stream given ended ticket past d.1.sources

  pub gen_few : tried_of given ended ≤ count_of past.task.source + 1
  gen_few = source_few stream given ended ticket past d.1.sources

  pub gen_below : AreUnits past
  gen_below = source_below stream given ended ticket past d.1.sources

  pub gen_units : AllBelow past.gave (due_by past.task.source (tried_of given ended) (past.task.means past.got))
  gen_units = source_units stream given ended ticket past d.1.sources

  -- at the end, a frame was too long exactly where some frame is
  long_at_end : ended ≡ true → long ≡ are_too_long head d.0
  long_at_end e = d.1.long_is ∙ ap (λ (b : Bool). cond b (are_too_long head d.0) false) e

  pub gen_unbroken : length_fault long ≡ None → AllUnbroken past.gave
  gen_unbroken none = source_unbroken stream given ended ticket past d.1.sources (λ e. sound (are_too_long head d.0) (sym (ap length_fault (long_at_end e)) ∙ none))
    where
      sound : (b : Bool) → length_fault b ≡ None → cond b broken whole ≡ broken → ⊥
      sound true e m = cc
      sound false e m = cc

  pub gen_caused : (f : Fault) → length_fault long ≡ Some f → IsOfInputs f → past.task.cause past.got ≡ Some f
  gen_caused f e own = ap (λ (g : List Flow → Option Fault). g past.got) d.1.cause ∙ at_end ended refl
    where
      at_end : (b : Bool) → ended ≡ b → length_fault (are_too_long head d.0) ≡ Some f
      at_end true x = sym (ap length_fault (long_at_end x)) ∙ e
      at_end false x = let short : long ≡ false = d.1.long_is ∙ ap (λ (b : Bool). cond b (are_too_long head d.0) false) x in
          absurd (none_some f (sym (ap length_fault short) ∙ e))

  -- with a pending output, which had nothing to give, no ticket is left
  pub gen_ticket_used : (q : ℕ) → IsPending 1 past q → AllAsked 1 past → ticket ≡ false
  gen_ticket_used zero p asked = pick ended refl
    where
      pick : (b : Bool) → ended ≡ b → ticket ≡ false
      pick false e = d.1.idle e (asked zero p)
      pick true e =
          let mark : (stream_at past.gave 0).mark ≡ cond ended stream.mark still_open = ap (λ (r : Flow). r.mark) d.1.sources.gave in
          let shut : cond ended stream.mark still_open ≡ stream.mark = ap (λ (b : Bool). cond b stream.mark still_open) e in
          absurd (frames_closed head d.0 (sym shut ∙ (sym mark ∙ p.unclosed)))
  gen_ticket_used (suc q) p asked = absurd (let lt : suc q < 1 = p.there in omega (arith, lt))
