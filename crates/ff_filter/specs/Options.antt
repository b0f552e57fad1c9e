-- How the arguments of a filter set its options.
use Rattle.std.specs.Prelude.{◌≡◌, ◌⊎◌, ℕ, ◌+◌, ◌≤◌, ◌^◌, ◌==◌, nat_le, nat_lt, ◌&&◌, Bool, true, false, ◌||◌, not, cond, if◌then◌else◌}
use Rattle.std.specs.Prelude.{is_some, Option, Some, None, List, [], ◌∷◌, length, Result, Ok, Err}
use Rattle.std.specs.Str.{bytes_eq}
use Rattle.ff_time.specs.Digits.{number_of}
use Rattle.ff_time.specs.Duration.{IsDuration}
use Rattle.ff_frame.specs.declared.config.ConfigError.{ConfigError}
use Rattle.ff_frame.specs.declared.config.ConfigError.TheVariants.{UnknownOption, BadOption, Pads, Kind, NoMemory}
use Rattle.ff_frame.specs.declared.head.StreamHead.{StreamHead}
use Rattle.ff_frame.specs.declared.head.StreamHead.TheVariants.{Audio, Video}
use Rattle.ff_lang.specs.declared.graph.Arg.{Arg}
use Rattle.ff_filter.specs.Views.{View}

-- the options of a filter, whose values make settings S
pub record Manual (S : Type 0) : Type 1 where
  -- each name of an option, with the option's number
  pub names : List (List ℕ × ℕ)
  -- the options from 0 to below this one may be given by place
  pub places : ℕ
  -- from these settings, a value of the option of this number makes those; values that it doesn't take make none
  pub Sets : S → ℕ → List ℕ → S → Type 0

-- the option of this name
abbrev pub named : List (List ℕ × ℕ) → List ℕ → Option ℕ
named [] key = None
named (n ∷ ns) key = if bytes_eq key n.0 then Some n.1 else named ns key

-- The option that an argument gives: by its key, or by its place where it has none, and none before it has one.
abbrev pub option_of : {S : Type 0} → Manual S → Bool → ℕ → Option (List ℕ) → Option ℕ
option_of manual keyed place (Some key) = named manual.names key
option_of manual keyed place None = if nat_lt place manual.places && not keyed then Some place else None

-- one argument: no such option, or a value that it doesn't take, or settings from which the others go on
abbrev pub IsReadBy : {S : Type 0} → Manual S → S → List ℕ → (S → Result S ConfigError → Type 0) → Option ℕ → Result S ConfigError → Type 0
IsReadBy manual s value others None r = r ≡ Err UnknownOption
IsReadBy {S} manual s value others (Some option) r =
    ((t : S) × manual.Sets s option value t × others t r) ⊎ (((t : S) → manual.Sets s option value t → ⊥) × (r ≡ Err BadOption))

-- The arguments from the one at a place on, in their order: the first that is at fault decides, and of an option that is
-- given more than once the last value counts. `keyed` says that one before them had a key.
abbrev pub AreRead : {S : Type 0} → Manual S → Bool → ℕ → S → List Arg → Result S ConfigError → Type 0
AreRead manual keyed place s [] r = r ≡ Ok s
AreRead manual keyed place s (a ∷ others) r =
    IsReadBy manual s a.value (λ t. AreRead manual (keyed || is_some a.key) (place + 1) t others) (option_of manual keyed place a.key) r

-- a whole number of 1 to 5 digits from lo to hi
abbrev pub number_between : ℕ → ℕ → Option ℕ → Option ℕ
number_between lo hi None = None
number_between lo hi (Some n) = cond (nat_le lo n && nat_le n hi) (Some n) None

abbrev pub ranged : ℕ → ℕ → List ℕ → Option ℕ
ranged lo hi text = number_between lo hi (number_of 5 text)

-- the argument gives the option of this number
abbrev pub gives : ℕ → Option ℕ → Bool
gives option None = false
gives option (Some o) = o == option

-- what is checked holds, and it goes on; else it is refused so
abbrev pub Checked : {X : Type 0} → Bool → ConfigError → (Result X ConfigError → Type 0) → Result X ConfigError → Type 0
Checked true e next r = next r
Checked false e next r = r ≡ Err e

-- a time of at most 10^15 microseconds
abbrev pub IsTime : List ℕ → ℕ → Type 0
IsTime text us = IsDuration text us × (us ≤ 10 ^ 15)

abbrev pub is_sound : StreamHead → Bool
is_sound (Audio tb rate bits channels codec) = true
is_sound (Video tb format width height sar_num sar_den) = false

abbrev pub is_video : StreamHead → Bool
is_video (Audio tb rate bits channels codec) = false
is_video (Video tb format width height sar_num sar_den) = true

-- the head of the only input, which has to be of the kind that is wanted
abbrev pub only_head : (StreamHead → Bool) → List StreamHead → Result StreamHead ConfigError
only_head wanted [] = Err Pads
only_head wanted (h ∷ []) = cond (wanted h) (Ok h) (Err Kind)
only_head wanted (h ∷ i ∷ hs) = Err Pads

abbrev pub with_head : {S : Type 0} → StreamHead → Result S ConfigError → Result (StreamHead × S) ConfigError
with_head head (Ok s) = Ok (head, s)
with_head head (Err e) = Err e

abbrev pub AfterHead : {S : Type 0} → Manual S → S → List Arg → Result (StreamHead × S) ConfigError → Result StreamHead ConfigError → Type 0
AfterHead {S} manual s args q (Ok head) = (read : Result S ConfigError) × AreRead manual false 0 s args read × (q ≡ with_head head read)
AfterHead manual s args q (Err e) = q ≡ Err e

-- The head and the settings of a filter of one input: first the number of inputs and their kind decide, then the
-- arguments in their order.
abbrev pub AreSet : {S : Type 0} → (StreamHead → Bool) → Manual S → S → List Arg → List StreamHead → Result (StreamHead × S) ConfigError → Type 0
AreSet wanted manual s args heads q = AfterHead manual s args q (only_head wanted heads)

-- what a head and settings make
abbrev pub AfterSet : {S X : Type 0} → (StreamHead → S → Result X ConfigError → Type 0) → Result (StreamHead × S) ConfigError → Result X ConfigError → Type 0
AfterSet makes (Ok p) r = makes p.0 p.1 r
AfterSet makes (Err e) r = r ≡ Err e

-- a filter of one input by its arguments
abbrev pub IsConfigured : {S X : Type 0} → (StreamHead → Bool) → Manual S → S → (StreamHead → S → Result X ConfigError → Type 0) → List Arg → List StreamHead
    → Result X ConfigError → Type 0
IsConfigured {S} wanted manual s makes args heads r = (q : Result (StreamHead × S) ConfigError) × AreSet wanted manual s args heads q × AfterSet makes q r

-- A machine that is configured so and shown as its function before anything was fed, and the head of its output
abbrev pub IsMade : {X : Type 0} → (Result X ConfigError → Type 0) → (X → View) → (X → StreamHead) → View → List StreamHead → Type 0
IsMade {X} configured shown head v heads = (m : X) × configured (Ok m) × (v ≡ shown m) × (heads ≡ head m ∷ [])

-- there was no memory, or the refusal is that of the arguments and heads
abbrev pub IsRefused : {X : Type 0} → (Result X ConfigError → Type 0) → ConfigError → Type 0
IsRefused configured e = (e ≡ NoMemory) ⊎ configured (Err e)
