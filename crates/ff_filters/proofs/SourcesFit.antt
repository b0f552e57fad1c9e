-- What a source filter makes by its arguments has a head of a stream and can be given.
use Rattle.std.proofs.Common.{◌≡◌, ℕ, zero, suc, ◌*◌, ◌<◌, ◌≤◌, ◌^◌, ◌-◌, ◌&&◌, cond, if◌then◌else◌, codes, bytes_eq, Bool, true, false, pos, Option, Some, None, List, Result, Ok, Err, refl, sym, ap, subst, arith, lit<}
use Rattle.std.proofs.lemmas.Bool.Decides.{nat_tests}
use Rattle.ff_time.proofs.Ceiling.{IsCeiling-div_ceil, Reaches-ceiling, Reaches-least}
use Rattle.ff_time.specs.Digits.{number_of}
use Rattle.ff_time.specs.Fraction.{Fraction, IsBase, IsBase-unit}
use Rattle.ff_frame.specs.Sizes.{sides_of, is_side}
use Rattle.ff_frame.specs.declared.config.ConfigError.{ConfigError}
use Rattle.ff_frame.specs.declared.config.ConfigError.TheVariants.{BadOption, BadSize}
use Rattle.ff_frame.specs.Video.{IsSide}
use Rattle.ff_lang.specs.declared.graph.Arg.{Arg}
use Rattle.ff_filter.specs.Ranges.{IsCeiling}
use Rattle.ff_filter.specs.Options.{number_between}
use Rattle.ff_source.specs.declared.color.Color as colors
use Rattle.ff_source.specs.declared.made.Made.{Made}
use Rattle.ff_source.specs.declared.made.Made.TheVariants.{Pictures, Silence}
use Rattle.ff_source.specs.Bases.{one_over}
use Rattle.ff_source.specs.Colors.{color_named}
use Rattle.ff_source.specs.ColorOptions.{color_manual}
use Rattle.ff_source.specs.Silences.{channels_named}
use Rattle.ff_source.specs.SilenceOptions.{silence_manual}
use Rattle.ff_source.proofs.Making.{IsFit, few_ticks}
use Rattle.ff_source.proofs.Reading.{no_error}
use Rattle.ff_filters.specs.declared.name.FilterName.{FilterName}
use Rattle.ff_filters.specs.declared.name.FilterName.TheVariants as filter
use Rattle.ff_filters.specs.Makes.{made_as, some_of}
use Rattle.ff_filters.specs.ReadBy.{and_then, read_by}
use Rattle.ff_filters.specs.Sources.{ColorSaid, set_color, no_color_said, pictures_as, color_by, SilenceSaid, set_silence, no_silence_said, silence_as, silence_by}
use Rattle.ff_filters.specs.Texts.{rate_base, time_of}
use Rattle.ff_filters.specs.Ticks.{ticks_at}
use Rattle.ff_filters.proofs.RangeTicks.{time_out}
use Rattle.ff_filters.proofs.Settings.{same_ok, read_keeps}
use Rattle.ff_filters.proofs.SettingsBy.{from_map, rate_out, between_out}

-- at most 10^15 microseconds
abbrev IsNear : Option ℕ → Type 0
IsNear None = Unit {0}
IsNear (Some us) = us ≤ 10 ^ 15

near_time : (text : List ℕ) (us : ℕ) → time_of text ≡ Some us → us ≤ 10 ^ 15
near_time text us e = (time_out text us e).1

is_ceiling : (us : ℕ) (tb : Fraction) → IsBase tb → IsCeiling us tb (ticks_at tb us)
is_ceiling us tb b =
    let some : 0 < tb.num * 1000000 = omega (arith, b.num_positive) in
    let is = IsCeiling-div_ceil (us * tb.den) (tb.num * 1000000) some in
    (pos (ticks_at tb us), Reaches-ceiling us tb (ticks_at tb us) is, (λ m r. Reaches-least us tb (ticks_at tb us) m is r), refl)

few : (us : ℕ) (tb : Fraction) → us ≤ 10 ^ 15 → IsBase tb → ticks_at tb us < 2 ^ 63
few us tb near b = few_ticks us tb (ticks_at tb us) near b (is_ceiling us tb b)

-- ---- `color`

abbrev IsFine : ColorSaid → Type 0
IsFine s = IsBase s.base × IsNear s.duration

color_keeps : (t : ColorSaid) (option : ℕ) (value : List ℕ) (u : ColorSaid) → IsFine t → set_color t option value ≡ Some u → IsFine u
color_keeps t zero value u p e =
    let k = from_map (λ (c : colors.Color). let w : ColorSaid = record t { color = c } in w) (color_named value) u e in subst IsFine k.2 (p.0, p.1)
color_keeps t (suc zero) value u p e =
    let k = from_map (λ (z : ℕ × ℕ). let w : ColorSaid = record t { width = z.0; height = z.1 } in w) (sides_of value) u e in subst IsFine k.2 (p.0, p.1)
color_keeps t (suc (suc zero)) value u p e =
    let k = from_map (λ (b : Fraction). let w : ColorSaid = record t { base = b } in w) (rate_base value) u e in
    subst IsFine k.2 ((rate_out value k.0 k.1).small, p.1)
color_keeps t (suc (suc (suc option))) value u p e =
    let k = from_map (λ (us : ℕ). let w : ColorSaid = record t { duration = Some us } in w) (time_of value) u e in
    subst IsFine k.2 (p.0, near_time value k.0 k.1)

sides : (n : ℕ) → is_side n ≡ true → IsSide n
sides n e = (grind (arith, nat_tests), grind (arith, nat_tests))

both_true : (a b : Bool) → a && b ≡ true → (a ≡ true) × (b ≡ true)
both_true true true e = (refl, refl)
both_true true false e = absurd (cc (e))
both_true false b e = absurd (cc (e))

color_fit : (s : ColorSaid) (d : Option ℕ) (made : Made) → IsBase s.base → IsNear d → pictures_as s d ≡ Ok made → IsFit made
color_fit s None made b near e = absurd (no_error made BadOption (sym e))
color_fit s (Some us) made b near e = pick (is_side s.width && is_side s.height) refl e
  where
    whole : Made
    whole = Pictures (record { color = s.color; width = s.width; height = s.height; base = s.base; count = ticks_at s.base us })

    pick : (c : Bool) → (is_side s.width && is_side s.height) ≡ c → cond c (Ok whole) (Err BadSize) ≡ Ok made → IsFit made
    pick true k h =
        let two = both_true (is_side s.width) (is_side s.height) k in
        let w = sides s.width two.0 in
        let v = sides s.height two.1 in
        subst IsFit (same_ok whole made h) (record { head = (w, v); base = b; can = (w, v, few us s.base near b) })
    pick false k h = absurd (no_error made BadSize (sym h))

color_by_fit : (args : List Arg) (made : Made) → color_by args ≡ Ok made → IsFit made
color_by_fit args made e = after (read_by color_manual set_color false 0 no_color_said args) refl e
  where
    after : (q : Result ColorSaid ConfigError) → read_by color_manual set_color false 0 no_color_said args ≡ q → and_then (λ s. pictures_as s s.duration) q ≡ Ok made → IsFit made
    after (Err x) r h = absurd (no_error made x (sym h))
    after (Ok s) r h =
        let p = read_keeps color_manual set_color IsFine color_keeps false 0 no_color_said args s (IsBase-unit 25 (lit< tt) (lit< tt), tt) r in
        color_fit s s.duration made p.0 p.1 h

-- ---- `anullsrc`

record IsQuiet (s : SilenceSaid) : Type 0 where
  base : IsBase s.base
  near : IsNear s.duration
  some : 1 ≤ s.channels
  most : s.channels ≤ 2

named_few : (text : List ℕ) (n : ℕ) → channels_named text ≡ Some n → (1 ≤ n) × (n ≤ 2)
named_few text n e = pick (bytes_eq text (codes "mono")) (bytes_eq text (codes "stereo")) e
  where
    pick : (a b : Bool) → (if a then Some 1 else (if b then Some 2 else None)) ≡ Some n → (1 ≤ n) × (n ≤ 2)
    pick true b h = let is : 1 ≡ n = cc (h) in (omega (arith, is), omega (arith, is))
    pick false true h = let is : 2 ≡ n = cc (h) in (omega (arith, is), omega (arith, is))
    pick false false h = absurd (cc (h))

silence_keeps : (t : SilenceSaid) (option : ℕ) (value : List ℕ) (u : SilenceSaid) → IsQuiet t → set_silence t option value ≡ Some u → IsQuiet u
silence_keeps t zero value u p e =
    let k = from_map (λ (c : ℕ). let w : SilenceSaid = record t { channels = c } in w) (channels_named value) u e in
    let two = named_few value k.0 k.1 in
    subst IsQuiet k.2 (record { base = p.base; near = p.near; some = two.0; most = two.1 })
silence_keeps t (suc zero) value u p e =
    let k = from_map (λ (n : ℕ). let w : SilenceSaid = record t { base = one_over n } in w) (number_between 1 (2 ^ 31 - 1) (number_of 10 value)) u e in
    let b = between_out 1 (2 ^ 31 - 1) k.0 (number_of 10 value) k.1 in
    let low : 0 < k.0 = (let l = b.low in omega (arith, l)) in
    let high : k.0 < 2 ^ 31 = (let h = b.high in omega (arith, h)) in
    subst IsQuiet k.2 (record { base = IsBase-unit k.0 low high; near = p.near; some = p.some; most = p.most })
silence_keeps t (suc (suc option)) value u p e =
    let k = from_map (λ (us : ℕ). let w : SilenceSaid = record t { duration = Some us } in w) (time_of value) u e in
    subst IsQuiet k.2 (record { base = p.base; near = near_time value k.0 k.1; some = p.some; most = p.most })

silence_fit : (s : SilenceSaid) (d : Option ℕ) (made : Made) → IsQuiet s → IsNear d → silence_as s d ≡ Ok made → IsFit made
silence_fit s None made q near e = absurd (no_error made BadOption (sym e))
silence_fit s (Some us) made q near e =
    subst IsFit (same_ok (Silence (record { base = s.base; channels = s.channels; count = ticks_at s.base us })) made e) (record {
      head = (q.some, omega (arith, q.most), omega arith, omega arith);
      base = q.base;
      can = (q.some, q.most, few us s.base near q.base);
    })

silence_by_fit : (args : List Arg) (made : Made) → silence_by args ≡ Ok made → IsFit made
silence_by_fit args made e = after (read_by silence_manual set_silence false 0 no_silence_said args) refl e
  where
    after : (q : Result SilenceSaid ConfigError) → read_by silence_manual set_silence false 0 no_silence_said args ≡ q → and_then (λ s. silence_as s s.duration) q ≡ Ok made
        → IsFit made
    after (Err x) r h = absurd (no_error made x (sym h))
    after (Ok s) r h =
        let start : IsQuiet no_silence_said = record { base = IsBase-unit 44100 (lit< tt) (lit< tt); near = tt; some = omega arith; most = omega arith } in
        let p = read_keeps silence_manual set_silence IsQuiet silence_keeps false 0 no_silence_said args s start r in
        silence_fit s s.duration made p p.near h

-- ---- by name

some_out : (r : Result Made ConfigError) (made : Made) → some_of r ≡ Ok (Some made) → r ≡ Ok made
some_out (Ok m) made e = (let same : m ≡ made = cc in ap (λ (x : Made). Ok x) same)
some_out (Err x) made e = cc

none_out : (made : Made) → (let r : Result (Option Made) ConfigError = Ok None in r) ≡ Ok (Some made) → ⊥
none_out made e = cc

pub made_fit : (name : FilterName) (args : List Arg) (made : Made) → made_as name args ≡ Ok (Some made) → IsFit made
made_fit filter.Color args made e = color_by_fit args made (some_out (color_by args) made e)
made_fit filter.ANullSrc args made e = silence_by_fit args made (some_out (silence_by args) made e)
made_fit filter.Null args made e = absurd (none_out made e)
made_fit filter.Trim args made e = absurd (none_out made e)
made_fit filter.SetPts args made e = absurd (none_out made e)
made_fit filter.Crop args made e = absurd (none_out made e)
made_fit filter.Pad args made e = absurd (none_out made e)
made_fit filter.HFlip args made e = absurd (none_out made e)
made_fit filter.VFlip args made e = absurd (none_out made e)
made_fit filter.Fps args made e = absurd (none_out made e)
made_fit filter.Split args made e = absurd (none_out made e)
made_fit filter.HStack args made e = absurd (none_out made e)
made_fit filter.VStack args made e = absurd (none_out made e)
made_fit filter.Concat args made e = absurd (none_out made e)
made_fit filter.ANull args made e = absurd (none_out made e)
made_fit filter.ATrim args made e = absurd (none_out made e)
made_fit filter.ASetPts args made e = absurd (none_out made e)
made_fit filter.ASplit args made e = absurd (none_out made e)
made_fit filter.ChannelSplit args made e = absurd (none_out made e)
made_fit filter.Join args made e = absurd (none_out made e)
