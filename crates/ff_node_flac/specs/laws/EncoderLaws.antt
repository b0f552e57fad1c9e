-- The laws of the encoder.
use Rattle.std.specs.Prelude.{◌≡◌, ◌≢◌, ℕ, zero, suc, ◌<◌, ◌⊎◌, Bool, true, false, List, [], ◌∷◌, map, Option, None, Some, refl}
use Rattle.std.proofs.Common.{sym, ap, subst, inl, inr, ◌∙◌, arith}
use Rattle.ff_frame.specs.declared.head.StreamHead.{StreamHead}
use Rattle.ff_stream.specs.declared.item.Lane.TheVariants.{Frames, Packets}
use Rattle.ff_stream.specs.laws.Order.{below_self, closed_below, stream_at-opened}
use Rattle.ff_stream.specs.Ports.{nothing, stream_at, AllBelow, AllUnbroken, IsClosed, IsUnbroken, IsMonotone, IsCalm}
use Rattle.ff_stream.specs.Stream.{Mark, still_open, whole, broken, LiesBelow, opened}
use Rattle.ff_net.specs.declared.fault.Fault.{Fault}
use Rattle.ff_net.specs.declared.fault.Fault.TheVariants.{Device}
use Rattle.ff_net.specs.laws.Laws.{CauseStays, OutputsClose, AllAsked, Settles, FaultStep, Laws}
use Rattle.ff_net.specs.Pasts.{Past, IsIn, due}
use Rattle.ff_net.specs.laws.Silence.{silent_front}
use Rattle.ff_net.specs.Ways.{Flow, AreValid}
use Rattle.ff_net.proofs.Flows.{due_meant, is_none, no_units}
use Rattle.ff_net.proofs.Matters.{may_spend}
use Rattle.ff_node_flac.specs.declared.queue.Queue.{Queue}
use Rattle.ff_node_flac.specs.declared.shut.Shut.{Shut}
use Rattle.ff_node_flac.specs.declared.shut.Shut.TheVariants as shut
use Rattle.ff_node_flac.specs.Coding.{coded_head, flac_coded, is_long, long_fault}
use Rattle.ff_node_flac.specs.laws.CodingLaws.{coded_valid, coded_above, coded_calm, coded_closed, long_stays}
use Rattle.ff_node_flac.specs.laws.Encoders.{mark_of, Encodes, IsSpentBy, encoder_view}

one_below : (a b : Flow) → LiesBelow a b → AllBelow (a ∷ []) (b ∷ [])
one_below a b h zero = h
one_below a b h (suc q) = below_self nothing

long_so : (b : Bool) (c : Fault) → long_fault b ≡ Some c → b ≡ true
long_so true c e = refl
long_so false c e = cc

pub no_device : (b : Bool) → long_fault b ≡ Some Device → ⊥
no_device true e = cc
no_device false e = cc

not_long : (b : Bool) → long_fault b ≡ None → b ≡ false
not_long true e = cc
not_long false e = refl

no_source : false ≡ true → ⊥
no_source e = cc

closes_as : (s : Shut) → mark_of s ≢ still_open → (over stopped : Bool) → IsSpentBy s over stopped
closes_as shut.Open c over stopped = absurd (c refl)
closes_as shut.Whole c over stopped = tt
closes_as shut.Broken c over stopped = tt

bool_or : (b : Bool) → (b ≡ true) ⊎ (b ≡ false)
bool_or true = inl refl
bool_or false = inr refl

module _ (head : StreamHead) (queue : Queue) (closed : Shut) (told over stopped long : Bool) (past : Past)
    (s : Encodes head queue closed told over stopped long past) where
  abbrev coded : List Flow → List Flow
  coded ss = flac_coded (stream_at ss 0) ∷ []

  keeps : (ss : List Flow) → AreValid (Frames head ∷ []) ss → AreValid (Packets (coded_head head) ∷ []) (past.task.means ss)
  keeps ss v = subst (λ (g : List Flow → List Flow). AreValid (Packets (coded_head head) ∷ []) (g ss)) (sym s.means) at
    where
      at : AreValid (Packets (coded_head head) ∷ []) (coded ss)
      at zero = coded_valid head (stream_at ss 0) s.can (v 0)
      at (suc q) = refl

  monotone : IsMonotone (AreValid (Frames head ∷ [])) past.task.means
  monotone = subst (λ (g : List Flow → List Flow). IsMonotone (AreValid (Frames head ∷ [])) g) (sym s.means)
      (λ rs ss v w b. one_below (flac_coded (stream_at rs 0)) (flac_coded (stream_at ss 0)) (coded_above head (stream_at rs 0) (stream_at ss 0) s.can (v 0) (b 0)))

  cause_stays : CauseStays (Frames head ∷ []) past.task.cause
  cause_stays = subst (λ (g : List Flow → Option Fault). CauseStays (Frames head ∷ []) g) (sym s.cause)
      (λ rs ss c v w b e.
      let now = long_so (is_long (stream_at rs 0)) c e in
      ap long_fault (long_stays head (stream_at rs 0) (stream_at ss 0) s.can (v 0) (b 0) now ∙ sym now) ∙ e)

  calm : IsCalm (AreValid (Frames head ∷ [])) past.task.means
  calm = subst (λ (g : List Flow → List Flow). IsCalm (AreValid (Frames head ∷ [])) g) (sym s.means) (λ rs v. at rs)
    where
      at : (rs : List Flow) → AllBelow (map opened (coded rs)) (coded (map opened rs))
      at rs zero = subst (λ (x : Flow). LiesBelow (opened (flac_coded (stream_at rs 0))) (flac_coded x)) (sym (stream_at-opened rs 0)) (coded_calm (stream_at rs 0))
      at rs (suc q) = below_self nothing

  pub due_is : due past ≡ coded past.got
  due_is = due_meant past s.plain ∙ ap (λ (g : List Flow → List Flow). g past.got) s.means

  given : AllBelow past.gave (due past)
  given = subst (λ (ss : List Flow). AllBelow past.gave ss) (sym due_is) at
    where
      at : AllBelow past.gave (coded past.got)
      at zero = s.below
      at (suc q) = subst (λ (x : Flow). LiesBelow x nothing) (sym (s.beyond (suc q) (omega arith))) (below_self nothing)

  unbroken : long_fault long ≡ None → AllUnbroken past.got → AllUnbroken past.gave
  unbroken e u zero = s.unbroken (not_long long e) (u 0)
  unbroken e u (suc q) = subst (λ (x : Flow). IsUnbroken x) (sym (s.beyond (suc q) (omega arith))) (λ b. cc)

  caused : (c : Fault) → long_fault long ≡ Some c → past.task.cause past.got ≡ Some c
  caused c e =
      let now = long_so long c e in
      ap (λ (g : List Flow → Option Fault). g past.got) s.cause ∙ (ap long_fault (s.long_is now ∙ sym now) ∙ e)

  meant : stream_at (past.task.means past.got) 0 ≡ flac_coded (stream_at past.got 0)
  meant = ap (λ (g : List Flow → List Flow). stream_at (g past.got) 0) s.means

  closes_if : (over ≡ true) ⊎ (stopped ≡ true) → OutputsClose 1 past
  closes_if (inl e) zero lt goes =
      let c = s.over_is e in
      let same = closed_below (stream_at past.gave 0) (flac_coded (stream_at past.got 0)) s.below c in
      subst (λ (x : Flow). IsClosed x) (same ∙ sym meant) c
  closes_if (inr e) zero lt goes = absurd (goes (s.stops.0 e))
  closes_if h (suc q) lt goes = absurd (omega (arith, lt))

  spent_by : (c : Shut) → mark_of c ≡ (stream_at past.got 0).mark → IsSpentBy c over stopped → IsClosed (stream_at past.got 0) ⊎ ((0 < 1) × OutputsClose 1 past)
  spent_by shut.Open e h = inr (omega arith, closes_if h)
  spent_by shut.Whole e h = inl (λ o. let clash : whole ≡ still_open = e ∙ o in cc)
  spent_by shut.Broken e h = inl (λ o. let clash : broken ≡ still_open = e ∙ o in cc)

  spent_at : (p : ℕ) → p < 1 → IsSpentBy closed over stopped → IsClosed (stream_at past.got p) ⊎ ((0 < 1) × OutputsClose 1 past)
  spent_at zero lt h = spent_by closed s.closed_is h
  spent_at (suc p) lt h = absurd (omega (arith, lt))

  shut_spent : (p : ℕ) → p < 1 → IsClosed (stream_at past.got p) → IsSpentBy closed over stopped
  shut_spent zero lt c = closes_as closed (subst (λ (m : Mark). m ≢ still_open) (sym s.closed_is) c) over stopped
  shut_spent (suc p) lt c = absurd (omega (arith, lt))

  over_or : (stopped ≡ false) → (over ≡ false) → OutputsClose 1 past → AllAsked 1 past → ⊥
  over_or goes on c a =
      let unstopped : IsIn 0 past.stopped → ⊥ = λ i. let clash : true ≡ false = sym (s.stops.1 i) ∙ goes in cc in
      let asked = a 0 (record { there = omega arith; goes_on = unstopped; unclosed = s.open_is on }) in
      let same = s.asked goes on asked in
      let shut : IsClosed (flac_coded (stream_at past.got 0)) = subst (λ (x : Flow). IsClosed x) meant (c 0 (omega arith) unstopped) in
      shut (sym (ap (λ (x : Flow). x.mark) same) ∙ s.open_is on)

  done_by : (c : Shut) → OutputsClose 1 past → AllAsked 1 past → IsSpentBy c over stopped
  done_by shut.Open c a = elim (bool_or over) as (λ _. (over ≡ true) ⊎ (stopped ≡ true)) [
    | inl e ↦ inl e
    | inr on ↦ elim (bool_or stopped) [ inl e ↦ inr e | inr goes ↦ absurd (over_or goes on c a) ]
  ]
  done_by shut.Whole c a = tt
  done_by shut.Broken c a = tt

  settles : Settles (Frames head ∷ []) 1 past.task.means
  settles = subst (λ (g : List Flow → List Flow). Settles (Frames head ∷ []) 1 g) (sym s.means) (λ ss v c q lt. at ss c q lt)
    where
      at : (ss : List Flow) → ((p : ℕ) → p < 1 → IsClosed (stream_at ss p)) → (q : ℕ) → q < 1 → IsClosed (stream_at (coded ss) q)
      at ss c zero lt = coded_closed (stream_at ss 0) (c 0 (omega arith))
      at ss c (suc q) lt = absurd (omega (arith, lt))

pub encoder_laws : (head : StreamHead) (queue : Queue) (closed : Shut) (told over stopped long : Bool) → Laws (encoder_view head queue closed told over stopped long)
encoder_laws head queue closed told over stopped long = record {
  is_source = λ past s. is_none past.task.source s.plain;
  units_below = λ past s. no_units past s.plain;
  valid = λ past s. s.valid;
  keeps = λ past s. keeps head queue closed told over stopped long past s;
  monotone = λ past s. monotone head queue closed told over stopped long past s;
  cause_stays = λ past s. cause_stays head queue closed told over stopped long past s;
  calm = λ past s. calm head queue closed told over stopped long past s;
  given = λ past s. given head queue closed told over stopped long past s;
  unbroken = λ past s e u. unbroken head queue closed told over stopped long past s e u;
  caused = λ past c s e i. caused head queue closed told over stopped long past s c e;
  spent_only = λ past p s h. may_spend (Frames head ∷ []) past 1 p s.valid (monotone head queue closed told over stopped long past s)
      (spent_at head queue closed told over stopped long past s p h.0 h.1);
  closed_spent = λ past p s lt c. (lt, shut_spent head queue closed told over stopped long past s p lt c);
  done_spent = λ past p s lt z c a. (lt, done_by head queue closed told over stopped long past s closed c a);
  settles = λ past s e. settles head queue closed told over stopped long past s;
  told = λ past s. silent_front past s.silent;
  ticket_used = λ past q s i e p a h. h;
  tried_allowed = λ past s. omega arith;
  tried_units = λ past s i. absurd (no_source i);
}

-- from one call to the next
pub encoder_fares : (head : StreamHead) (q r : Queue) (c d : Shut) (told told' over over' stopped stopped' long long' : Bool) → (long ≡ true → long' ≡ true)
    → FaultStep (encoder_view head q c told over stopped long) (encoder_view head r d told' over' stopped' long')
encoder_fares head q r c d told told' over over' stopped stopped' long long' h = record {
  device_same = refl;
  later = omega arith;
  stays = λ f e. let now = long_so long f e in ap long_fault (h now ∙ sym now) ∙ e;
  failed = λ n e. absurd (no_device long' e);
  unfailed = λ n. refl;
  behind = λ f e. refl;
}
