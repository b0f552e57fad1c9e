-- When a demuxer tells that it has exited.
use Rattle.std.proofs.Common.{◌≡◌, ◌≢◌, ℕ, zero, suc, ◌<◌, ◌⊎◌, inl, inr, Bool, true, false, cond, List, [], ◌∷◌, ◌++◌, Option, None, Some, refl, sym, ap, subst, ◌∙◌, arith}
use Rattle.std.specs.Prelude.{IsSome}
use Rattle.ff_frame.specs.declared.event.Event.{Event}
use Rattle.ff_frame.specs.declared.event.Event.TheVariants.{Exited}
use Rattle.ff_stream.specs.Stream.{still_open}
use Rattle.ff_stream.specs.Ports.{stream_at}
use Rattle.ff_net.specs.declared.fault.Fault.{Fault}
use Rattle.ff_net.specs.laws.Laws.{IsPending}
use Rattle.ff_net.specs.Ways.{Flow}
use Rattle.ff_net.specs.Pasts.{Past, Feed, was_told, was_stopped}
use Rattle.ff_reader.specs.Cutters.{Cutter}
use Rattle.ff_node_demux.specs.Demuxing.{demux_of, DemuxStands}
use Rattle.ff_node_demux.specs.laws.DemuxLaws.{demux_closed}
use Rattle.ff_node_demux.specs.Exiting.{Exits, IsOver}

-- it gives nothing more where it isn't without a fault and neither ended nor stopped
pub is_over : (ended stopped : Bool) (fault : Option Fault) → (ended ≡ false → stopped ≡ false → fault ≢ None)
    → (ended ≡ true) ⊎ (stopped ≡ true) ⊎ IsSome fault
is_over true stopped fault over = inl refl
is_over false true fault over = inr (inl refl)
is_over false false None over = absurd (over refl refl refl)
is_over false false (Some c) over = inr (inr refl)

module _ (input : ℕ) (stopped told : Bool) (past : Past) (x : Exits input stopped told past.task.tells past.told past.stopped) where
  -- it told what was due
  pub exits_told : told ≡ true → past.told ≡ past.task.tells past.feeds
  exits_told t =
      x.events_are
      ∙ (ap (λ (b : Bool). cond b (Exited input ∷ []) []) t ∙ sym (ap (λ (f : List Feed → List Event). f past.feeds) x.tells_is))

  -- that is that it has exited
  pub exits_alone : (n : ℕ) → Some input ≡ Some n → past.task.tells past.feeds ≡ Exited n ∷ []
  exits_alone n e =
      let same : input ≡ n = cc in
      ap (λ (f : List Feed → List Event). f past.feeds) x.tells_is ∙ ap (λ (i : ℕ). Exited i ∷ []) same

  -- where it told something it told that
  pub exits_some : past.told ≢ [] → told ≡ true
  exits_some n = pick told refl
    where
      pick : (b : Bool) → told ≡ b → told ≡ true
      pick true e = e
      pick false e = absurd (n (x.events_are ∙ ap (λ (b : Bool). cond b (Exited input ∷ []) []) e))

  -- it tells it now
  pub exits_now : (e : Event) → told ≡ false → Exited input ≡ e
      → Exits input stopped true past.task.tells (was_told past e).told past.stopped
  exits_now e f same =
      let none : past.told ≡ [] = x.events_are ∙ ap (λ (b : Bool). cond b (Exited input ∷ []) []) f in
      record {
        tells_is = x.tells_is;
        events_are = ap (λ (es : List Event). es ++ e ∷ []) none ∙ ap (λ (y : Event). y ∷ []) (sym same);
        stopped_is = x.stopped_is;
      }

  -- its output was stopped
  pub exits_stopped : (port : ℕ) → port < 1 → Exits input true told past.task.tells past.told (was_stopped past port).stopped
  exits_stopped zero lt = record { tells_is = x.tells_is; events_are = x.events_are; stopped_is = (λ e. inl refl, λ i. refl) }
  exits_stopped (suc port) lt = absurd (omega arith)

  module _ {H C : Type 0} (cutter : Cutter H C) (left : Option (List ℕ)) (cut : C) (skip given : ℕ) (ticket ended : Bool) (fault : Option Fault)
      (d : DemuxStands cutter left cut skip given ticket ended fault past) where
    mark_is : (b : Bool) → ended ≡ b → (stream_at past.gave 0).mark ≡ cond b (demux_of cutter d.0 (d.1 ++ d.2)).mark still_open
    mark_is b e =
        ap (λ (r : Flow). r.mark) d.3.sources.gave
        ∙ ap (λ (c : Bool). cond c (demux_of cutter d.0 (d.1 ++ d.2)).mark still_open) e

    -- it reads no more where its output has closed or was stopped, or where it has a fault
    pub over_pending : (ended ≡ true) ⊎ (stopped ≡ true) ⊎ IsSome fault → fault ≡ None → (q : ℕ) → IsPending 1 past q → ⊥
    over_pending o none (suc q) p = let lt : suc q < 1 = p.there in omega (arith, lt)
    over_pending (inl e) none zero p = demux_closed cutter d.0 (d.1 ++ d.2) (sym (mark_is true e) ∙ p.unclosed)
    over_pending (inr (inl s)) none zero p = p.goes_on (x.stopped_is.0 s)
    over_pending (inr (inr f)) none zero p = cc

    -- that can be seen of its past
    pub over_seen : (ended ≡ true) ⊎ (stopped ≡ true) ⊎ IsSome fault → IsOver fault past
    over_seen (inl e) = inr (inr (λ o. demux_closed cutter d.0 (d.1 ++ d.2) (sym (mark_is true e) ∙ o)))
    over_seen (inr (inl s)) = inr (inl (x.stopped_is.0 s))
    over_seen (inr (inr f)) = inl f

    -- else its output goes on
    pub goes_on_pending : ended ≡ false → stopped ≡ false → IsPending 1 past 0
    goes_on_pending e s = record { there = omega arith; goes_on = λ i. (let t = x.stopped_is.1 i in cc); unclosed = mark_is false e }

-- by other names of its number and its flags
pub exits_same : {tells : List Feed → List Event} {events : List Event} {stops : List ℕ} (input input' : ℕ) (stopped stopped' told told' : Bool)
    → input' ≡ input → stopped' ≡ stopped → told' ≡ told
    → Exits input stopped told tells events stops → Exits input' stopped' told' tells events stops
exits_same {tells} {events} {stops} input input' stopped stopped' told told' i s t x =
    subst (λ (n : ℕ). Exits n stopped' told' tells events stops) (sym i)
    (subst (λ (b : Bool). Exits input b told' tells events stops) (sym s)
    (subst (λ (b : Bool). Exits input stopped b tells events stops) (sym t) x))
