-- What source filters make by their arguments, is what the functions say.
use Rattle.std.proofs.Common.{◌≡◌, ℕ, zero, suc, ◌^◌, ◌-◌, ◌≤◌, Option, Some, None, option_map, List, Result, Ok, Err, refl, sym, ap, ◌∙◌, arith, false}
use Rattle.ff_time.specs.Digits.{number_of}
use Rattle.ff_time.specs.Fraction.{Fraction}
use Rattle.ff_frame.specs.Sizes.{sides_of}
use Rattle.ff_frame.specs.declared.config.ConfigError.{ConfigError}
use Rattle.ff_lang.specs.declared.graph.Arg.{Arg}
use Rattle.ff_filter.specs.Options.{number_between}
use Rattle.ff_source.specs.declared.color.Color as colors
use Rattle.ff_source.specs.declared.color_options.ColorSettings.{ColorSettings}
use Rattle.ff_source.specs.declared.silence_options.SilenceSettings.{SilenceSettings}
use Rattle.ff_source.specs.declared.length.Length.{Length}
use Rattle.ff_source.specs.declared.made.Made.{Made}
use Rattle.ff_source.specs.Bases.{one_over}
use Rattle.ff_source.specs.Colors.{color_named}
use Rattle.ff_source.specs.ColorOptions.{SetsColor, color_manual, color_default, MakesColor, IsColor}
use Rattle.ff_source.specs.Silences.{channels_named}
use Rattle.ff_source.specs.SilenceOptions.{SetsSilence, silence_manual, silence_default, MakesSilence, IsSilence}
use Rattle.ff_source.specs.laws.Readings.{AfterRead}
use Rattle.ff_source.specs.Sources.{IsSource}
use Rattle.ff_lang.specs.declared.source.SourceName.TheVariants as source
use Rattle.ff_filters.specs.declared.name.FilterName.{FilterName}
use Rattle.ff_filters.specs.declared.name.FilterName.TheVariants as filter
use Rattle.ff_filters.specs.Makes.{made_as, some_of}
use Rattle.ff_filters.specs.ReadBy.{and_then}
use Rattle.ff_filters.specs.Sources.{ColorSaid, set_color, pictures_of, pictures_as, color_by, SilenceSaid, set_silence, silence_of, silence_as, silence_by}
use Rattle.ff_filters.specs.Texts.{rate_base, time_of}
use Rattle.ff_filters.proofs.RangeTicks.{time_in, time_out, ceiling_is}
use Rattle.ff_filters.proofs.Readings.{SetsBy, result_of, read_is}
use Rattle.ff_filters.proofs.SettingsBy.{from_map, rate_in, rate_out, between_in, between_out}

-- settings without what is known of them
abbrev pub color_said : ColorSettings → ColorSaid
color_said s = record { color = s.color; width = s.width; height = s.height; base = s.base; duration = option_map (λ l. l.us) s.duration }

abbrev pub silence_said : SilenceSettings → SilenceSaid
silence_said s = record { channels = s.channels; base = s.base; duration = option_map (λ l. l.us) s.duration }

-- ---- what is set

color_sets : (s : ColorSettings) (option : ℕ) (value : List ℕ) (t : ColorSettings) → SetsColor s option value t
    → set_color (color_said s) option value ≡ Some (color_said t)
color_sets s zero value t h =
    ap (option_map (λ (c : colors.Color). let u : ColorSaid = record (color_said s) { color = c } in u)) h.1
    ∙ ap (λ (x : ColorSettings). Some (color_said x)) (sym h.2)
color_sets s (suc zero) value t h =
    ap (option_map (λ (z : ℕ × ℕ). let u : ColorSaid = record (color_said s) { width = z.0; height = z.1 } in u)) h.1
    ∙ ap (λ (x : ColorSettings). Some (color_said x)) (sym h.2)
color_sets s (suc (suc zero)) value t h =
    ap (option_map (λ (b : Fraction). let u : ColorSaid = record (color_said s) { base = b } in u)) (rate_in value h.0 h.1)
    ∙ ap (λ (x : ColorSettings). Some (color_said x)) (sym h.2)
color_sets s (suc (suc (suc option))) value t h =
    ap (option_map (λ (us : ℕ). let u : ColorSaid = record (color_said s) { duration = Some us } in u)) (time_in value h.0.us h.1)
    ∙ ap (λ (x : ColorSettings). Some (color_said x)) (sym h.2)

color_takes : (s : ColorSettings) (option : ℕ) (value : List ℕ) (u : ColorSaid) → set_color (color_said s) option value ≡ Some u
    → (t : ColorSettings) × SetsColor s option value t
color_takes s zero value u e =
    let k = from_map (λ (c : colors.Color). let u : ColorSaid = record (color_said s) { color = c } in u) (color_named value) u e in
    (record s { color = k.0 }, (k.0, k.1, refl))
color_takes s (suc zero) value u e =
    let k = from_map (λ (z : ℕ × ℕ). let u : ColorSaid = record (color_said s) { width = z.0; height = z.1 } in u) (sides_of value) u e in
    (record s { width = k.0.0; height = k.0.1 }, (k.0, k.1, refl))
color_takes s (suc (suc zero)) value u e =
    let k = from_map (λ (b : Fraction). let u : ColorSaid = record (color_said s) { base = b } in u) (rate_base value) u e in
    (record s { base = k.0 }, (k.0, rate_out value k.0 k.1, refl))
color_takes s (suc (suc (suc option))) value u e =
    let k = from_map (λ (us : ℕ). let u : ColorSaid = record (color_said s) { duration = Some us } in u) (time_of value) u e in
    let is = time_out value k.0 k.1 in
    let length : Length = record { us = k.0; near = is.1 } in
    (record s { duration = Some length }, (length, is, refl))

color_set : SetsBy color_manual color_said set_color
color_set = record { sets = color_sets; takes = color_takes }

silence_sets : (s : SilenceSettings) (option : ℕ) (value : List ℕ) (t : SilenceSettings) → SetsSilence s option value t
    → set_silence (silence_said s) option value ≡ Some (silence_said t)
silence_sets s zero value t h =
    ap (option_map (λ (c : ℕ). let u : SilenceSaid = record (silence_said s) { channels = c } in u)) h.1
    ∙ ap (λ (x : SilenceSettings). Some (silence_said x)) (sym h.2)
silence_sets s (suc zero) value t h =
    let few : h.0 ≤ 2 ^ 31 - 1 = (let lt = h.1.2 in omega (arith, lt)) in
    ap (option_map (λ (n : ℕ). let u : SilenceSaid = record (silence_said s) { base = one_over n } in u))
    (ap (number_between 1 (2 ^ 31 - 1)) h.1.0 ∙ between_in 1 (2 ^ 31 - 1) h.0 h.1.1 few)
    ∙ ap (λ (x : SilenceSettings). Some (silence_said x)) (sym h.2)
silence_sets s (suc (suc option)) value t h =
    ap (option_map (λ (us : ℕ). let u : SilenceSaid = record (silence_said s) { duration = Some us } in u)) (time_in value h.0.us h.1)
    ∙ ap (λ (x : SilenceSettings). Some (silence_said x)) (sym h.2)

silence_takes : (s : SilenceSettings) (option : ℕ) (value : List ℕ) (u : SilenceSaid) → set_silence (silence_said s) option value ≡ Some u
    → (t : SilenceSettings) × SetsSilence s option value t
silence_takes s zero value u e =
    let k = from_map (λ (c : ℕ). let u : SilenceSaid = record (silence_said s) { channels = c } in u) (channels_named value) u e in
    (record s { channels = k.0 }, (k.0, k.1, refl))
silence_takes s (suc zero) value u e =
    let k = from_map (λ (n : ℕ). let u : SilenceSaid = record (silence_said s) { base = one_over n } in u) (number_between 1 (2 ^ 31 - 1) (number_of 10 value)) u e in
    let b = between_out 1 (2 ^ 31 - 1) k.0 (number_of 10 value) k.1 in
    (record s { base = one_over k.0 }, (k.0, (b.is, b.low, (let le = b.high in omega (arith, le))), refl))
silence_takes s (suc (suc option)) value u e =
    let k = from_map (λ (us : ℕ). let u : SilenceSaid = record (silence_said s) { duration = Some us } in u) (time_of value) u e in
    let is = time_out value k.0 k.1 in
    let length : Length = record { us = k.0; near = is.1 } in
    (record s { duration = Some length }, (length, is, refl))

silence_set : SetsBy silence_manual silence_said set_silence
silence_set = record { sets = silence_sets; takes = silence_takes }

-- ---- what is made

pictures_is : (s : ColorSettings) (d : Option Length) (r : Result Made ConfigError) → MakesColor s d r → pictures_as (color_said s) (option_map (λ l. l.us) d) ≡ r
pictures_is s None r h = sym h
pictures_is s (Some length) r h = ap (λ (n : ℕ). pictures_of (color_said s) n) (ceiling_is length.us s.base h.0 h.1) ∙ sym h.2

pub color_is : (args : List Arg) (r : Result Made ConfigError) → IsColor args r → color_by args ≡ r
color_is args r h =
    ap (and_then (λ s. pictures_as s s.duration)) (read_is color_manual color_said set_color color_set false 0 color_default args h.0 h.1) ∙ after h.0 h.2
  where
    after : (q : Result ColorSettings ConfigError) → AfterRead (λ s q. MakesColor s s.duration q) r q → and_then (λ s. pictures_as s s.duration) (result_of color_said q) ≡ r
    after (Ok s) k = pictures_is s s.duration r k
    after (Err e) k = sym k

sound_is : (s : SilenceSettings) (d : Option Length) (r : Result Made ConfigError) → MakesSilence s d r → silence_as (silence_said s) (option_map (λ l. l.us) d) ≡ r
sound_is s None r h = sym h
sound_is s (Some length) r h =
    ap (λ (n : ℕ). silence_of (silence_said s) n) (ceiling_is length.us s.base h.0 h.1) ∙ sym h.2

pub silence_is : (args : List Arg) (r : Result Made ConfigError) → IsSilence args r → silence_by args ≡ r
silence_is args r h =
    ap (and_then (λ s. silence_as s s.duration)) (read_is silence_manual silence_said set_silence silence_set false 0 silence_default args h.0 h.1) ∙ after h.0 h.2
  where
    after : (q : Result SilenceSettings ConfigError) → AfterRead (λ s q. MakesSilence s s.duration q) r q → and_then (λ s. silence_as s s.duration) (result_of silence_said q) ≡ r
    after (Ok s) k = sound_is s s.duration r k
    after (Err e) k = sym k

-- ---- by name

pub color_itself : (name : FilterName) (args : List Arg) (r : Result Made ConfigError) (q : Result (Option Made) ConfigError) → name ≡ filter.Color
    → IsSource source.Color args r → q ≡ some_of r → q ≡ made_as name args
color_itself name args r q n is e = e ∙ (ap some_of (sym (color_is args r is)) ∙ ap (λ (m : FilterName). made_as m args) (sym n))

pub silence_itself : (name : FilterName) (args : List Arg) (r : Result Made ConfigError) (q : Result (Option Made) ConfigError) → name ≡ filter.ANullSrc
    → IsSource source.ANullSrc args r → q ≡ some_of r → q ≡ made_as name args
silence_itself name args r q n is e = e ∙ (ap some_of (sym (silence_is args r is)) ∙ ap (λ (m : FilterName). made_as m args) (sym n))
