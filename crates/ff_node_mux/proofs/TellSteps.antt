-- What a muxer told, item by item.
use Rattle.std.proofs.Common.{◌≡◌, ℕ, zero, suc, ◌+◌, ◌-◌, ◌*◌, ◌/◌, ◌^◌, ◌<◌, ◌≤◌, min, ℤ, pos, negsuc, List, [], ◌∷◌, ◌++◌, length, inl, inr, refl, ap, sym, ◌∙◌, subst, arith, append_assoc, append-nil, ◌*ℤ◌}
use Rattle.std.specs.Prelude.{All, ◌≤ℤ◌, ◌<ℤ◌, ◌+ℤ◌}
use Rattle.std.specs.Int.{w64}
use Rattle.std.specs.Int.RustNames.{FitsSigned}
use Rattle.std.proofs.lemmas.Bool.{cases_lt}
use Rattle.std.proofs.lemmas.Int.{ints, fits_signed_from_abs}
use Rattle.std.proofs.lemmas.List.Concat.{flat_map-append}
use Rattle.std.proofs.lemmas.List.Elements.{All-nil, All-cons, All-head, All-tail, All-append}
use Rattle.std.proofs.Math.Nat.{le-div_iff_mul-le, div-mul-le_self, mul-le-mul_right, suc-mul, div-le_of_le-mul}
use Rattle.ff_time.specs.Fraction.{Fraction, IsBase, IsBase-unit}
use Rattle.ff_time.specs.Rescale.{IsNearest, IsRescaled, IsRounded}
use Rattle.ff_time.proofs.Nearest.{IsNearest-pos, IsNearest-unique}
use Rattle.ff_frame.specs.Heads.{base_of_head}
use Rattle.ff_frame.specs.declared.head.StreamHead.{StreamHead}
use Rattle.ff_frame.specs.declared.head.StreamHead.TheVariants.{Audio as AudioHead, Video as VideoHead}
use Rattle.ff_frame.specs.declared.packet.Pkt.{Pkt}
use Rattle.ff_frame.specs.declared.event.Event.{Event}
use Rattle.ff_frame.specs.declared.event.Event.TheVariants.{Grant, Sent, Finished, Best, Exited}
use Rattle.ff_stream.specs.declared.item.Item.{Item}
use Rattle.ff_stream.specs.declared.item.Item.TheVariants.{Audio, Video, Packet, Trailer, End, Broken}
use Rattle.ff_stream.specs.Lanes.{FitsPackets}
use Rattle.ff_stream.specs.Times.{ticks, IsInTime}
use Rattle.ff_net.specs.Pasts.{Past, Feed, was_told, fed}
use Rattle.ff_node_mux.specs.Telling.{microsecond, micros_of, told_by, told_at, mux_tells, TellsFed, IsAmong, IsOfStreams, AllOfStreams, SentTimes}

-- ---- times

pub microsecond_is_base : IsBase microsecond
microsecond_is_base = IsBase-unit 1000000 (omega arith) (omega arith)

-- p / q with halves upwards
abbrev half_up : ℕ → ℕ → ℕ
half_up p q = (2 * p + q) / (2 * q)

no_suc : (k : ℕ) → suc k ≤ k → ⊥
no_suc k le = omega (arith, le)

div_above : (n d : ℕ) → 0 < d → n < suc (n / d) * d
div_above n d some =
    elim (cases_lt n (suc (n / d) * d)) [ inl lt ↦ lt | inr ge ↦ absurd (no_suc (n / d) ((le-div_iff_mul-le some).1 ge)) ]

rounds_by : (p q r : ℕ) → 0 < q → r * (2 * q) ≤ 2 * p + q → 2 * p + q < suc r * (2 * q) → IsRounded p q r
rounds_by p q r some low high = record { some = some; low = omega (arith, low); high = omega (arith, high, suc-mul r (2 * q)) }

half_up_rounds : (p q : ℕ) → 0 < q → IsRounded p q (half_up p q)
half_up_rounds p q some =
    rounds_by p q (half_up p q) some (div-mul-le_self (2 * p + q) (2 * q)) (div_above (2 * p + q) (2 * q) (omega (arith, some)))

-- a time after 0 is told in microseconds by rescaling
rescaled_half_up : (base : Fraction) (n : ℕ) → IsBase base → IsRescaled (pos n) base microsecond (pos (half_up (n * (base.num * 1000000)) base.den))
rescaled_half_up base n b =
    let same : base.den * 1 ≡ base.den = omega arith in
    let h = IsNearest-pos (n * (base.num * 1000000)) base.den (half_up (n * (base.num * 1000000)) base.den) (half_up_rounds (n * (base.num * 1000000)) base.den b.den_positive) in
    subst (λ (q : ℕ). IsNearest (pos (n * (base.num * 1000000))) q (pos (half_up (n * (base.num * 1000000)) base.den))) (sym same) h

rescaled_is : (base : Fraction) (n : ℕ) (v : ℤ) → IsBase base → IsRescaled (pos n) base microsecond v → v ≡ pos (half_up (n * (base.num * 1000000)) base.den)
rescaled_is base n v b h =
    IsNearest-unique (pos n *ℤ pos (base.num * 1000000)) (base.den * 1) v (pos (half_up (n * (base.num * 1000000)) base.den))
    (omega (arith, b.den_positive)) h (rescaled_half_up base n b)

-- a number as it is told, at most 2^63 - 1
top_same : (r : ℕ) → r ≤ 2 ^ 63 - 1 → r ≡ min (2 ^ 63 - 1) r
top_same r le = omega (arith, le)

top_large : (r : ℕ) → 2 ^ 63 ≤ r → 2 ^ 63 - 1 ≡ min (2 ^ 63 - 1) r
top_large r ge = omega (arith, ge)

top_below : (r : ℕ) → min (2 ^ 63 - 1) r < 2 ^ 63
top_below r = omega arith

size_of : (v : ℤ) (r : ℕ) → v ≡ pos r → FitsSigned w64 v → r ≤ 2 ^ 63 - 1
size_of v r is fits = let lt : r < 2 ^ 63 = (subst (λ (z : ℤ). FitsSigned w64 z) is fits).sfits in omega (arith, lt)

-- what a time that is rescaled is told as
pub micros_some : (base : Fraction) (time v : ℤ) → IsBase base → pos 0 <ℤ time → IsRescaled time base microsecond v → FitsSigned w64 v
    → v ≡ pos (micros_of base time)
micros_some base (pos n) v b some h fits =
    let is = rescaled_is base n v b h in
    is ∙ ap (λ (k : ℕ). pos k) (top_same (half_up (n * (base.num * 1000000)) base.den) (size_of v (half_up (n * (base.num * 1000000)) base.den) is fits))
micros_some base (negsuc n) v b some h fits = absurd (omega (arith, ints, some))

-- and one that isn't
pub micros_large : (base : Fraction) (time v : ℤ) → IsBase base → pos 0 <ℤ time → IsRescaled time base microsecond v → (FitsSigned w64 v → ⊥)
    → 2 ^ 63 - 1 ≡ micros_of base time
micros_large base (pos n) v b some h large =
    let r : ℕ = half_up (n * (base.num * 1000000)) base.den in
    elim (cases_lt r (2 ^ 63)) [
      | inl lt ↦ absurd (large (subst (λ (z : ℤ). FitsSigned w64 z) (sym (rescaled_is base n v b h)) (fits_signed_from_abs w64 (pos r) lt)))
      | inr ge ↦ top_large r ge
    ]
micros_large base (negsuc n) v b some h large = absurd (omega (arith, ints, some))

no_half : (q : ℕ) → 0 < q → 1 * (2 * q) ≤ 2 * 0 + q → ⊥
no_half q some le = omega (arith, some, le)

half_up_none : (q : ℕ) → 0 < q → half_up 0 q ≡ 0
half_up_none q some = pick (half_up 0 q) (λ ge. no_half q some ((le-div_iff_mul-le (omega (arith, some))).0 ge))
  where
    pick : (r : ℕ) → (1 ≤ r → ⊥) → r ≡ 0
    pick zero never = refl
    pick (suc r) never = absurd (never (omega arith))

none_at : (base : Fraction) → IsBase base → 0 ≡ min (2 ^ 63 - 1) (half_up (0 * (base.num * 1000000)) base.den)
none_at base b =
    let zero_is : 0 * (base.num * 1000000) ≡ 0 = omega arith in
    sym (ap (λ (p : ℕ). min (2 ^ 63 - 1) (half_up p base.den)) zero_is ∙ ap (λ (k : ℕ). min (2 ^ 63 - 1) k) (half_up_none base.den b.den_positive))

-- no time after 0
pub micros_none : (base : Fraction) (time : ℤ) → IsBase base → time ≤ℤ pos 0 → 0 ≡ micros_of base time
micros_none base (pos zero) b le = none_at base b
micros_none base (pos (suc n)) b le = absurd (omega (arith, ints, le))
micros_none base (negsuc n) b le = none_at base b

-- ---- items

tells_more : (first : ℕ) (bases : List Fraction) (feeds : List Feed) (f : Feed)
    → mux_tells first bases (feeds ++ f ∷ []) ≡ mux_tells first bases feeds ++ told_at first bases f.port f.item
tells_more first bases feeds f =
    flat_map-append (λ (g : Feed). told_at first bases g.port g.item) feeds (f ∷ [])
    ∙ ap (λ (es : List Event). mux_tells first bases feeds ++ es) (append-nil (told_at first bases f.port f.item))

module _ (first : ℕ) (bases : List Fraction) (past : Past) where
  -- an item was fed
  tells_fed : (waiting now : List Event) (port : ℕ) (x : Item) → now ≡ waiting ++ told_at first bases port x
      → TellsFed first bases waiting past.task.tells past.told past.feeds
      → TellsFed first bases now (fed past port x).task.tells (fed past port x).told (fed past port x).feeds
  tells_fed waiting now port x is t = record {
    tells_is = t.tells_is;
    all =
        ap (λ (es : List Event). past.told ++ es) is
        ∙ (sym (append_assoc past.told waiting (told_at first bases port x))
        ∙ (ap (λ (es : List Event). es ++ told_at first bases port x) t.all ∙ sym (tells_more first bases past.feeds (record { port = port; item = x }))));
  }

  -- its event, if it has one, was put behind what waited
  pub tells_put : (waiting between now made : List Event) (port : ℕ) (x : Item) → now ≡ between ++ made → between ≡ waiting
      → made ≡ told_at first bases port x → TellsFed first bases waiting past.task.tells past.told past.feeds
      → TellsFed first bases now (fed past port x).task.tells (fed past port x).told (fed past port x).feeds
  tells_put waiting between now made port x put same event t =
      tells_fed waiting now port x
      (put ∙ (ap (λ (es : List Event). es ++ made) same ∙ ap (λ (es : List Event). waiting ++ es) event)) t

  -- the next event was told
  pub tells_next : (e : Event) (rest : List Event) → TellsFed first bases (e ∷ rest) past.task.tells past.told past.feeds
      → TellsFed first bases rest (was_told past e).task.tells (was_told past e).told (was_told past e).feeds
  tells_next e rest t = record { tells_is = t.tells_is; all = append_assoc past.told (e ∷ []) rest ∙ t.all }

  -- none waits
  pub tells_all : (waiting : List Event) → waiting ≡ [] → TellsFed first bases waiting past.task.tells past.told past.feeds
      → past.told ≡ past.task.tells past.feeds
  tells_all waiting none t =
      sym (append-nil past.told)
      ∙ (sym (ap (λ (es : List Event). past.told ++ es) none)
      ∙ (t.all ∙ sym (ap (λ (f : List Feed → List Event). f past.feeds) t.tells_is)))

-- ---- what holds of all that is told

among_first : (first n : ℕ) → IsAmong first (suc n) first
among_first first n = (omega arith, omega arith)

among_more : (first n j : ℕ) → IsAmong (suc first) n j → IsAmong first (suc n) j
among_more first n j a = (let le = a.0 in omega (arith, le), let lt = a.1 in omega (arith, lt))

one_of_stream : (first n : ℕ) (base : Fraction) (x : Item) → All (IsOfStreams first (suc n)) (told_by first base x)
one_of_stream first n base (Audio f) = All-nil (IsOfStreams first (suc n))
one_of_stream first n base (Video f) = All-nil (IsOfStreams first (suc n))
one_of_stream first n base (Packet p) =
    All-cons (IsOfStreams first (suc n)) (Sent first (micros_of base p.dts)) []
    (among_first first n, top_below ((2 * (ticks p.dts * (base.num * 1000000)) + base.den) / (2 * base.den))) (All-nil (IsOfStreams first (suc n)))
one_of_stream first n base (Trailer t) = All-nil (IsOfStreams first (suc n))
one_of_stream first n base End = All-cons (IsOfStreams first (suc n)) (Finished first) [] (among_first first n) (All-nil (IsOfStreams first (suc n)))
one_of_stream first n base Broken = All-cons (IsOfStreams first (suc n)) (Finished first) [] (among_first first n) (All-nil (IsOfStreams first (suc n)))

of_more : (first n : ℕ) (e : Event) → IsOfStreams (suc first) n e → IsOfStreams first (suc n) e
of_more first n (Grant k) o = o
of_more first n (Sent j t) o = (among_more first n j o.0, o.1)
of_more first n (Finished j) o = among_more first n j o
of_more first n (Best g i) o = o
of_more first n (Exited k) o = o

all_more : (first n : ℕ) (es : List Event) → All (IsOfStreams (suc first) n) es → All (IsOfStreams first (suc n)) es
all_more first n [] all = All-nil (IsOfStreams first (suc n))
all_more first n (e ∷ es) all =
    All-cons (IsOfStreams first (suc n)) e es (of_more first n e (All-head (IsOfStreams (suc first) n) e es all))
    (all_more first n es (All-tail (IsOfStreams (suc first) n) e es all))

one_of_streams : (first : ℕ) (bases : List Fraction) (p : ℕ) (x : Item) → All (IsOfStreams first (length bases)) (told_at first bases p x)
one_of_streams first [] p x = All-nil (IsOfStreams first 0)
one_of_streams first (base ∷ bases) zero x = one_of_stream first (length bases) base x
one_of_streams first (base ∷ bases) (suc p) x = all_more first (length bases) (told_at (suc first) bases p x) (one_of_streams (suc first) bases p x)

pub all_of_streams : AllOfStreams
all_of_streams first bases [] = All-nil (IsOfStreams first (length bases))
all_of_streams first bases (f ∷ feeds) =
    All-append (IsOfStreams first (length bases)) (told_at first bases f.port f.item) (mux_tells first bases feeds)
    (one_of_streams first bases f.port f.item) (all_of_streams first bases feeds)

-- ---- the times of valid packets

seconds_below : (r : ℕ) → r ≤ 1000000000000001 → r ≤ 2 ^ 63 - 1
seconds_below r le = omega (arith, le)

module _ (base : Fraction) (b : IsBase base) where
  below_top : (n : ℕ) → IsInTime base n → half_up (n * (base.num * 1000000)) base.den ≤ 1000000000000001
  below_top n t =
      let many : 2 * (n * (base.num * 1000000)) + base.den ≤ 2 * base.den * 1000000000000001 = omega (arith, t, b.den_positive) in
      div-le_of_le-mul (2 * base.den) many

  told_in_time : (n : ℕ) → IsInTime base n → IsRescaled (pos n) base microsecond (pos (micros_of base (pos n)))
  told_in_time n t =
      let r : ℕ = half_up (n * (base.num * 1000000)) base.den in
      subst (λ (k : ℕ). IsRescaled (pos n) base microsecond (pos k)) (top_same r (seconds_below r (below_top n t))) (rescaled_half_up base n b)

  -- of a time that isn't negative and not after one that is in time
  pub told_rescaled : (time end : ℤ) → pos 0 ≤ℤ time → time ≤ℤ end → IsInTime base (ticks end)
      → IsRescaled time base microsecond (pos (micros_of base time))
  told_rescaled (pos n) (pos m) some le t =
      let less : n ≤ m = omega (arith, ints, le) in
      told_in_time n (omega (arith, t, mul-le-mul_right base.num less))
  told_rescaled (pos n) (negsuc m) some le t = absurd (omega (arith, ints, le))
  told_rescaled (negsuc n) end some le t = absurd (omega (arith, ints, some))

fits_times : (head : StreamHead) (p : Pkt) → FitsPackets head (Packet p) → p.dts ≡ p.pts
fits_times (AudioHead tb rate bits channels codec) p f = f.0
fits_times (VideoHead tb format width height sar_num sar_den) p f = f.0

pub sent_times : SentTimes
sent_times head p b is t =
    subst (λ (time : ℤ). IsRescaled time (base_of_head head) microsecond (pos (micros_of (base_of_head head) time))) (sym (fits_times head p is.fits))
    (told_rescaled (base_of_head head) b p.pts (p.pts +ℤ p.duration) is.not_negative (let lt = is.lasts tt in omega (arith, ints, lt)) t)
