-- The functions of ranges of times are the relations.
use Rattle.std.proofs.Common.{◌≡◌, ℕ, zero, suc, ℤ, pos, ◌*◌, ◌<◌, ◌≤◌, ◌^◌, ◌≤ℤ◌, ◌*ℤ◌, ◌-ℤ◌, Bool, true, false, nat_le, cond, ◌&&◌, Option, Some, None, option_map}
use Rattle.std.proofs.Common.{List, inl, inr, refl, sym, ap, subst, ◌∙◌, arith}
use Rattle.std.specs.Option.{ForSome}
use Rattle.std.proofs.lemmas.Int.{ints}
use Rattle.std.proofs.lemmas.Bool.Decides.{nat_tests}
use Rattle.std.proofs.lemmas.Bool.{cases_lt}
use Rattle.ff_time.specs.Fraction.{Fraction}
use Rattle.ff_time.specs.Rescale.{Reaches}
use Rattle.ff_time.proofs.Ceiling.{IsCeiling-div_ceil, Reaches-ceiling, Reaches-least}
use Rattle.ff_stream.specs.Times.{ticks}
use Rattle.ff_filter.specs.Options.{IsTime, number_between}
use Rattle.ff_filter.specs.declared.range.RangeSettings.{RangeSettings}
use Rattle.ff_filter.specs.declared.range.Range.{Range}
use Rattle.ff_filter.specs.declared.lasting.settings.TrimSettings.{TrimSettings}
use Rattle.ff_filter.specs.Ranges.{SetsRange, IsCeiling, IsStop, IsRange}
use Rattle.ff_filter.specs.lasting.Lastings.{SetsTrim, trim_manual, range_same}
use Rattle.ff_filters.specs.Texts.{duration_of, time_of}
use Rattle.ff_filters.specs.Ticks.{Times, set_times, TrimTimes, set_trim, ticks_at, in_bits, in_bits-near, range_in}
use Rattle.ff_filters.proofs.Durations.{duration_in, duration_out}
use Rattle.ff_filters.proofs.Readings.{SetsBy}

near_in : (us : ℕ) → us ≤ 10 ^ 15 → (nat_le 0 us && nat_le us (10 ^ 15)) ≡ true
near_in us h = grind (arith, nat_tests)

pub time_in : (text : List ℕ) (us : ℕ) → IsTime text us → time_of text ≡ Some us
time_in text us h = ap (number_between 0 (10 ^ 15)) (duration_in text us h.0) ∙ ap (λ (c : Bool). cond c (Some us) None) (near_in us h.1)

between_out : (c : Bool) (n us : ℕ) → cond c (Some n) None ≡ Some us → (c ≡ true) × (n ≡ us)
between_out true n us e = (refl, cc)
between_out false n us e = cc

near_out : (n us : ℕ) → (nat_le 0 n && nat_le n (10 ^ 15)) ≡ true → n ≡ us → us ≤ 10 ^ 15
near_out n us e f = grind (arith, nat_tests)

time_back : (text : List ℕ) (o : Option ℕ) (us : ℕ) → duration_of text ≡ o → number_between 0 (10 ^ 15) o ≡ Some us → IsTime text us
time_back text None us e f = cc
time_back text (Some n) us e f =
    let k = between_out (nat_le 0 n && nat_le n (10 ^ 15)) n us f in
    (duration_out text us (e ∙ ap Some k.1), near_out n us k.0 k.1)

pub time_out : (text : List ℕ) (us : ℕ) → time_of text ≡ Some us → IsTime text us
time_out text us e = time_back text (duration_of text) us refl e

-- settings without what is known of them
abbrev pub times_of : RangeSettings → Times
times_of s = record { start = s.start; stop = s.stop }

some_out : {A B : Type 0} (f : A → B) (o : Option A) (u : B) → option_map f o ≡ Some u → (us : A) × (o ≡ Some us)
some_out f None u e = cc
some_out f (Some us) u e = (us, refl)

near_some : (us : ℕ) → us ≤ 10 ^ 15 → ForSome (Some us) (λ x. x ≤ 10 ^ 15)
near_some us h x e = (let same : us ≡ x = cc in omega (arith, h, same))

range_sets : (s : RangeSettings) (option : ℕ) (value : List ℕ) (t : RangeSettings) → SetsRange s option value t
    → set_times (times_of s) option value ≡ Some (times_of t)
range_sets s zero value t h =
    ap (option_map (λ us. let m : Times = record { start = us; stop = s.stop } in m)) (time_in value t.start h.0)
    ∙ ap (λ (x : Option ℕ). let m : Times = record { start = t.start; stop = x } in Some m) (sym h.1)
range_sets s (suc option) value t h =
    ap (option_map (λ us. let m : Times = record { start = s.start; stop = Some us } in m)) (time_in value h.1.0 h.1.1)
    ∙ (ap (λ (x : ℕ). let m : Times = record { start = x; stop = Some h.1.0 } in Some m) (sym h.0)
    ∙ ap (λ (x : Option ℕ). let m : Times = record { start = t.start; stop = x } in Some m) (sym h.1.2))

range_takes : (s : RangeSettings) (option : ℕ) (value : List ℕ) (u : Times) → set_times (times_of s) option value ≡ Some u
    → (t : RangeSettings) × SetsRange s option value t
range_takes s zero value u e =
    let k = some_out (λ us. let m : Times = record { start = us; stop = s.stop } in m) (time_of value) u e in
    let is = time_out value k.0 k.1 in
    (record { start = k.0; stop = s.stop; start_near = is.1; stop_near = s.stop_near }, (is, refl))
range_takes s (suc option) value u e =
    let k = some_out (λ us. let m : Times = record { start = s.start; stop = Some us } in m) (time_of value) u e in
    let is = time_out value k.0 k.1 in
    (record { start = s.start; stop = Some k.0; start_near = s.start_near; stop_near = near_some k.0 is.1 }, (refl, (k.0, is, refl)))

-- the same with a duration
abbrev pub trim_times : TrimSettings → TrimTimes
trim_times s = record { range = times_of s.range; lasting = s.lasting }

trim_sets : (s : TrimSettings) (option : ℕ) (value : List ℕ) (t : TrimSettings) → SetsTrim s option value t
    → set_trim (trim_times s) option value ≡ Some (trim_times t)
trim_sets s zero value t h =
    ap (option_map (λ (r : Times). let m : TrimTimes = record { range = r; lasting = s.lasting } in m)) (range_sets s.range 0 value t.range h.0)
    ∙ ap (λ (n : ℕ). let m : TrimTimes = record { range = times_of t.range; lasting = n } in Some m) (sym h.1)
trim_sets s (suc zero) value t h =
    ap (option_map (λ (r : Times). let m : TrimTimes = record { range = r; lasting = s.lasting } in m)) (range_sets s.range 1 value t.range h.0)
    ∙ ap (λ (n : ℕ). let m : TrimTimes = record { range = times_of t.range; lasting = n } in Some m) (sym h.1)
trim_sets s (suc (suc option)) value t h =
    ap (option_map (λ us. let m : TrimTimes = record { range = times_of s.range; lasting = us } in m)) (time_in value t.lasting h.1)
    ∙ ap (λ (r : RangeSettings). let m : TrimTimes = record { range = times_of r; lasting = t.lasting } in Some m) (sym h.0)

trim_takes : (s : TrimSettings) (option : ℕ) (value : List ℕ) (u : TrimTimes) → set_trim (trim_times s) option value ≡ Some u
    → (t : TrimSettings) × SetsTrim s option value t
trim_takes s zero value u e =
    let k = some_out (λ (r : Times). let m : TrimTimes = record { range = r; lasting = s.lasting } in m) (set_times (times_of s.range) 0 value) u e in
    let t = range_takes s.range 0 value k.0 k.1 in
    (record { range = t.0; lasting = s.lasting; lasting_near = s.lasting_near }, (t.1, refl))
trim_takes s (suc zero) value u e =
    let k = some_out (λ (r : Times). let m : TrimTimes = record { range = r; lasting = s.lasting } in m) (set_times (times_of s.range) 1 value) u e in
    let t = range_takes s.range 1 value k.0 k.1 in
    (record { range = t.0; lasting = s.lasting; lasting_near = s.lasting_near }, (t.1, refl))
trim_takes s (suc (suc option)) value u e =
    let k = some_out (λ us. let m : TrimTimes = record { range = times_of s.range; lasting = us } in m) (time_of value) u e in
    let is = time_out value k.0 k.1 in
    (record { range = s.range; lasting = k.0; lasting_near = is.1 }, (refl, is))

pub trim_set : SetsBy trim_manual trim_times set_trim
trim_set = record { sets = trim_sets; takes = trim_takes }

-- ---- ticks

ints_between : (a b : ℤ) → a ≤ℤ b → b ≤ℤ a → a ≡ b
ints_between a b p q = omega (arith, ints)

no_times : (n m : ℤ) (k : ℕ) → k ≡ 0 → n *ℤ pos k ≡ m *ℤ pos k
no_times n m k e = subst (λ j. n *ℤ pos j ≡ m *ℤ pos j) (sym e) (omega (arith, ints))

-- where a least number reaches, there are ticks
num_some : (us : ℕ) (tb : Fraction) (n : ℤ) → Reaches us tb n → ((m : ℤ) → Reaches us tb m → n ≤ℤ m) → 0 < tb.num * 1000000
num_some us tb n r least =
    elim (cases_lt 0 (tb.num * 1000000)) as (λ _. 0 < tb.num * 1000000) [
      | inl some ↦ some
      | inr none ↦ (
          let e : tb.num * 1000000 ≡ 0 = omega (arith, none) in
          let below : Reaches us tb (n -ℤ pos 1) = subst (λ z. pos (us * tb.den) ≤ℤ z) (no_times n (n -ℤ pos 1) (tb.num * 1000000) e) r in
          let less = least (n -ℤ pos 1) below in
          absurd (omega (arith, ints, less))
          )
    ]

pub ceiling_is : (us : ℕ) (tb : Fraction) (k : ℕ) → IsCeiling us tb k → ticks_at tb us ≡ k
ceiling_is us tb k h =
    let some = num_some us tb h.0 h.1 h.2 in
    let is = IsCeiling-div_ceil (us * tb.den) (tb.num * 1000000) some in
    let low = h.2 (pos (ticks_at tb us)) (Reaches-ceiling us tb (ticks_at tb us) is) in
    let high = Reaches-least us tb (ticks_at tb us) h.0 is h.1 in
    let same : h.0 ≡ pos (ticks_at tb us) = ints_between h.0 (pos (ticks_at tb us)) low high in
    ap ticks (sym same) ∙ sym h.3

pub stop_is : (tb : Fraction) (stop out : Option ℕ) → IsStop stop tb out → option_map (ticks_at tb) stop ≡ out
stop_is tb None out e = sym e
stop_is tb (Some us) out h = ap Some (ceiling_is us tb h.0 h.1) ∙ sym h.2

pub in_bits-same : (n k : ℕ) → n ≡ k → k < 2 ^ 63 → in_bits n ≡ k
in_bits-same n k e lt = omega arith

pub range_is : (s : RangeSettings) (tb : Fraction) (r : Range) → IsRange s tb r → range_in tb (times_of s) ≡ r
range_is s tb r h =
    sym (range_same r (in_bits (ticks_at tb s.start)) (option_map (ticks_at tb) s.stop) (in_bits-near (ticks_at tb s.start))
    (sym (in_bits-same (ticks_at tb s.start) r.start (ceiling_is s.start tb r.start h.start) r.near)) (sym (stop_is tb s.stop r.stop h.stop)))
