-- What arguments make has a head of a stream and can be given.
use Rattle.std.proofs.Common.{◌≡◌, ◌≢◌, ℕ, zero, suc, ◌*◌, ◌<◌, ◌≤◌, ◌^◌, ◌&&◌, cond, if◌then◌else◌, codes, bytes_eq, Bool, true, false, ℤ, pos, negsuc, ◌≤ℤ◌, Option, Some, None, IfSome, IsNone, IfOk, List, Result, Ok, Err, refl, sym, subst, arith, mul-le-mul_right}
use Rattle.std.proofs.lemmas.Int.{ints}
use Rattle.std.proofs.lemmas.Bool.Decides.{nat_tests}
use Rattle.ff_frame.specs.Sizes.{is_side}
use Rattle.ff_time.specs.Fraction.{Fraction, IsBase, IsBase-unit}
use Rattle.ff_frame.specs.declared.config.ConfigError.{ConfigError}
use Rattle.ff_frame.specs.declared.config.ConfigError.TheVariants.{BadSize}
use Rattle.ff_frame.specs.Heads.{IsHead, base_of_head}
use Rattle.ff_frame.specs.Video.{IsSide}
use Rattle.ff_lang.specs.declared.graph.Arg.{Arg}
use Rattle.ff_stream.specs.Times.{ticks}
use Rattle.ff_filter.specs.Ranges.{IsCeiling}
use Rattle.ff_source.specs.declared.color_options.ColorSettings.{ColorSettings}
use Rattle.ff_source.specs.declared.silence_options.SilenceSettings.{SilenceSettings}
use Rattle.ff_source.specs.declared.length.Length.{Length}
use Rattle.ff_source.specs.declared.made.Made.{Made}
use Rattle.ff_source.specs.declared.made.Made.TheVariants.{Pictures, Silence}
use Rattle.ff_lang.specs.declared.source.SourceName.{SourceName}
use Rattle.ff_lang.specs.declared.source.SourceName.TheVariants.{Color, ANullSrc}
use Rattle.ff_source.specs.Silences.{channels_named}
use Rattle.ff_source.specs.ColorOptions.{SetsColor, color_manual, color_default, made_color, MakesColor}
use Rattle.ff_source.specs.SilenceOptions.{SetsSilence, silence_manual, silence_default, MakesSilence}
use Rattle.ff_source.specs.Sources.{IsSource, head_of, CanGive}
use Rattle.ff_source.proofs.Reading.{no_error, one_ok, kept_by, made_of}

-- What a source filter that is made has.
pub record IsFit (made : Made) : Type 0 where
  pub head : IsHead (head_of made)
  pub base : IsBase (base_of_head (head_of made))
  pub can : CanGive made

-- as many ticks as are at least as long are few
pub few_ticks : (us : ℕ) (base : Fraction) (k : ℕ) → us ≤ 10 ^ 15 → IsBase base → IsCeiling us base k → k < 2 ^ 63
few_ticks us base k le b c =
    let most : us * base.den ≤ (10 ^ 15) * base.den = mul-le-mul_right base.den le in
    let one : 1 * (1000000000 * base.den) ≤ base.num * (1000000000 * base.den) = mul-le-mul_right (1000000000 * base.den) (omega (arith, b.num_positive)) in
    let reach : us * base.den ≤ (1000000000 * base.den) * (base.num * 1000000) = grind (arith, most, one) in
    let least : c.0 ≤ℤ pos (1000000000 * base.den) = c.2 (pos (1000000000 * base.den)) (omega (arith, ints, reach)) in
    subst (λ j. j < 2 ^ 63) (sym c.3) (below c.0 least)
  where
    below : (n : ℤ) → n ≤ℤ pos (1000000000 * base.den) → ticks n < 2 ^ 63
    below (pos n) l = omega (arith, ints, l, b.den_small)
    below (negsuc n) l = omega arith

based : (s : ColorSettings) (option : ℕ) (value : List ℕ) (t : ColorSettings) → SetsColor s option value t → IsBase s.base → IsBase t.base
based s zero value t h b = subst (λ (u : ColorSettings). IsBase u.base) (sym h.2) b
based s (suc zero) value t h b = subst (λ (u : ColorSettings). IsBase u.base) (sym h.2) b
based s (suc (suc zero)) value t h b = subst (λ (u : ColorSettings). IsBase u.base) (sym h.2) h.1.small
based s (suc (suc (suc option))) value t h b = subst (λ (u : ColorSettings). IsBase u.base) (sym h.2) b

sides : (n : ℕ) → is_side n ≡ true → IsSide n
sides n e = (grind (arith, nat_tests), grind (arith, nat_tests))

both_true : (a b : Bool) → a && b ≡ true → (a ≡ true) × (b ≡ true)
both_true true true e = (refl, refl)
both_true true false e = absurd (cc (e))
both_true false b e = absurd (cc (e))

color_made : (s : ColorSettings) (count : ℕ) (made : Made) → IsBase s.base → count < 2 ^ 63 → Ok made ≡ made_color s count → IsFit made
color_made s count made b lt e = pick (is_side s.width && is_side s.height) refl e
  where
    whole : Made
    whole = Pictures (record { color = s.color; width = s.width; height = s.height; base = s.base; count = count })

    pick : (c : Bool) → (is_side s.width && is_side s.height) ≡ c → Ok made ≡ cond c (Ok whole) (Err BadSize) → IsFit made
    pick true k h =
        let two = both_true (is_side s.width) (is_side s.height) k in
        let w = sides s.width two.0 in
        let v = sides s.height two.1 in
        subst IsFit (sym (one_ok made whole (Ok made) refl h)) (record { head = (w, v); base = b; can = (w, v, lt) })
    pick false k h = absurd (no_error made BadSize h)

color_fit : (s : ColorSettings) (d : Option Length) (made : Made) → IsBase s.base → MakesColor s d (Ok made) → IsFit made
color_fit s None made b h = absurd (no_error made _ h)
color_fit s (Some length) made b h = color_made s h.0 made b (few_ticks length.us s.base h.0 length.near b h.1) h.2

-- sound has one or two channels, and a time base
pub record IsQuiet (s : SilenceSettings) : Type 0 where
  pub base : IsBase s.base
  pub some : 1 ≤ s.channels
  pub few : s.channels ≤ 2

named_few : (text : List ℕ) (n : ℕ) → channels_named text ≡ Some n → (1 ≤ n) × (n ≤ 2)
named_few text n e = pick (bytes_eq text (codes "mono")) (bytes_eq text (codes "stereo")) e
  where
    pick : (a b : Bool) → (if a then Some 1 else (if b then Some 2 else None)) ≡ Some n → (1 ≤ n) × (n ≤ 2)
    pick true b h = let is : 1 ≡ n = cc (h) in (omega (arith, is), omega (arith, is))
    pick false true h = let is : 2 ≡ n = cc (h) in (omega (arith, is), omega (arith, is))
    pick false false h = absurd (cc (h))

quiet : (s : SilenceSettings) (option : ℕ) (value : List ℕ) (t : SilenceSettings) → SetsSilence s option value t → IsQuiet s → IsQuiet t
quiet s zero value t h q =
    let few = named_few value h.0 h.1 in
    subst IsQuiet (sym h.2) (record { base = q.base; some = few.0; few = few.1 })
quiet s (suc zero) value t h q =
    subst IsQuiet (sym h.2) (record { base = IsBase-unit h.0 (omega (arith, h.1.1)) h.1.2; some = q.some; few = q.few })
quiet s (suc (suc option)) value t h q = subst IsQuiet (sym h.2) (record { base = q.base; some = q.some; few = q.few })

silence_fit : (s : SilenceSettings) (d : Option Length) (made : Made) → IsQuiet s → MakesSilence s d (Ok made) → IsFit made
silence_fit s None made q h = absurd (no_error made _ h)
silence_fit s (Some length) made q h =
    let lt = few_ticks length.us s.base h.0 length.near q.base h.1 in
    subst IsFit (sym (one_ok made (Silence (record { base = s.base; channels = s.channels; count = h.0 })) (Ok made) refl h.2)) (record {
      head = (q.some, omega (arith, q.few), omega arith, omega arith);
      base = q.base;
      can = (q.some, q.few, lt);
    })

pub source_fit : (name : SourceName) (args : List Arg) (made : Made) → IsSource name args (Ok made) → IsFit made
source_fit Color args made h =
    let m = made_of color_manual color_default (λ s q. MakesColor s s.duration q) args made h in
    let b = kept_by color_manual (λ s. IsBase s.base) based args false 0 color_default m.0 (Ok m.0) m.1 refl (IsBase-unit 25 (omega arith) (omega arith)) in
    color_fit m.0 m.0.duration made b m.2
source_fit ANullSrc args made h =
    let m = made_of silence_manual silence_default (λ s q. MakesSilence s s.duration q) args made h in
    let q = kept_by silence_manual IsQuiet quiet args false 0 silence_default m.0 (Ok m.0) m.1 refl (record { base = IsBase-unit 44100 (omega arith) (omega arith); some = omega arith; few = omega arith }) in
    silence_fit m.0 m.0.duration made q m.2

pub source_can : (name : SourceName) (args : List Arg) (r : Result Made ConfigError) → IsSource name args r → IfOk r CanGive
source_can name args (Ok made) h = (source_fit name args made h).can
source_can name args (Err e) h = tt

-- an option by its number
pub color_set : (s : ColorSettings) (option k : ℕ) (value : List ℕ) (r : Option ColorSettings) → option ≡ k → IfSome r (λ t. SetsColor s k value t) → IfSome r (λ t. SetsColor s option value t)
color_set s option k value r e h = subst (λ n. IfSome r (λ t. SetsColor s n value t)) (sym e) h

pub color_none : (s : ColorSettings) (option k : ℕ) (value : List ℕ) (r : Option ColorSettings) → option ≡ k
    → (IsNone r → (t : ColorSettings) → SetsColor s k value t → ⊥) → IsNone r → (t : ColorSettings) → SetsColor s option value t → ⊥
color_none s option k value r e h n t sets = h n t (subst (λ j. SetsColor s j value t) e sets)

pub color_last : (s : ColorSettings) (option : ℕ) (value : List ℕ) (r : Option ColorSettings) → option ≢ 0 → option ≢ 1 → option ≢ 2
    → IfSome r (λ t. SetsColor s 3 value t) → IfSome r (λ t. SetsColor s option value t)
color_last s zero value r a b d h = absurd (a refl)
color_last s (suc zero) value r a b d h = absurd (b refl)
color_last s (suc (suc zero)) value r a b d h = absurd (d refl)
color_last s (suc (suc (suc option))) value r a b d h = h

pub color_last_none : (s : ColorSettings) (option : ℕ) (value : List ℕ) (r : Option ColorSettings) → option ≢ 0 → option ≢ 1 → option ≢ 2
    → (IsNone r → (t : ColorSettings) → SetsColor s 3 value t → ⊥) → IsNone r → (t : ColorSettings) → SetsColor s option value t → ⊥
color_last_none s zero value r a b d h = absurd (a refl)
color_last_none s (suc zero) value r a b d h = absurd (b refl)
color_last_none s (suc (suc zero)) value r a b d h = absurd (d refl)
color_last_none s (suc (suc (suc option))) value r a b d h = h

pub silence_set : (s : SilenceSettings) (option k : ℕ) (value : List ℕ) (r : Option SilenceSettings) → option ≡ k → IfSome r (λ t. SetsSilence s k value t) → IfSome r (λ t. SetsSilence s option value t)
silence_set s option k value r e h = subst (λ n. IfSome r (λ t. SetsSilence s n value t)) (sym e) h

pub silence_none : (s : SilenceSettings) (option k : ℕ) (value : List ℕ) (r : Option SilenceSettings) → option ≡ k
    → (IsNone r → (t : SilenceSettings) → SetsSilence s k value t → ⊥) → IsNone r → (t : SilenceSettings) → SetsSilence s option value t → ⊥
silence_none s option k value r e h n t sets = h n t (subst (λ j. SetsSilence s j value t) e sets)

pub silence_last : (s : SilenceSettings) (option : ℕ) (value : List ℕ) (r : Option SilenceSettings) → option ≢ 0 → option ≢ 1
    → IfSome r (λ t. SetsSilence s 2 value t) → IfSome r (λ t. SetsSilence s option value t)
silence_last s zero value r a b h = absurd (a refl)
silence_last s (suc zero) value r a b h = absurd (b refl)
silence_last s (suc (suc option)) value r a b h = h

pub silence_last_none : (s : SilenceSettings) (option : ℕ) (value : List ℕ) (r : Option SilenceSettings) → option ≢ 0 → option ≢ 1
    → (IsNone r → (t : SilenceSettings) → SetsSilence s 2 value t → ⊥) → IsNone r → (t : SilenceSettings) → SetsSilence s option value t → ⊥
silence_last_none s zero value r a b h = absurd (a refl)
silence_last_none s (suc zero) value r a b h = absurd (b refl)
silence_last_none s (suc (suc option)) value r a b h = h
