-- The texts that are durations, each with its microseconds.
use Rattle.std.specs.Prelude.{◌≡◌, ℕ, ◌+◌, ◌-◌, ◌*◌, ◌/◌, ◌^◌, ◌<◌, ◌≤◌, ◌⊎◌, List, [], ◌∷◌, ◌++◌, length, take, codes}
use Rattle.std.specs.List.{AllByRecursion}
use Rattle.ff_time.specs.declared.error.TimeError.{TimeError}
use Rattle.ff_time.specs.declared.error.TimeError.TheVariants.{NotPositive, TooBig, Overflow, BadTime}

-- `0` to `9`
abbrev pub IsDigit : ℕ → Type 0
IsDigit b = (48 ≤ b) × (b ≤ 57)

-- one or more digits
pub record AreDigits (text : List ℕ) : Type 0 where
  pub some : 0 < length text
  pub each : AllByRecursion IsDigit text

-- the number that digits spell
abbrev pub number : List ℕ → ℕ
number [] = 0
number (d ∷ ds) = (d - 48) * 10 ^ length ds + number ds

-- one or two digits with a value of at most 59
pub record IsSixtieth (text : List ℕ) : Type 0 where
  pub digits : AreDigits text
  pub short : length text ≤ 2
  pub small : number text ≤ 59

-- a point and one or more digits, or nothing
abbrev pub IsPoint : List ℕ → List ℕ → Type 0
IsPoint text decimals = ((text ≡ []) × (decimals ≡ [])) ⊎ ((text ≡ codes "." ++ decimals) × AreDigits decimals)

-- a unit and its microseconds; without one it is the second
abbrev pub IsUnit : List ℕ → ℕ → Type 0
IsUnit text us =
    ((text ≡ []) × (us ≡ 1000000)) ⊎ (((text ≡ codes "s") × (us ≡ 1000000))
    ⊎ (((text ≡ codes "ms") × (us ≡ 1000)) ⊎ ((text ≡ codes "us") × (us ≡ 1))))

-- The fraction `whole.decimals` of units of `us` microseconds. What lies below one microsecond is cut off.
abbrev pub microseconds : ℕ → List ℕ → ℕ → ℕ
microseconds whole decimals us = (whole * 10 ^ length decimals + number decimals) * us / 10 ^ length decimals

-- S[.m][s|ms|us]
pub record IsCount (text : List ℕ) (value : ℕ) : Type 0 where
  pub whole : List ℕ
  pub point : List ℕ
  pub decimals : List ℕ
  pub unit : List ℕ
  pub us : ℕ
  pub spelled : text ≡ whole ++ point ++ unit
  pub whole_is : AreDigits whole
  pub point_is : IsPoint point decimals
  pub unit_is : IsUnit unit us
  pub value_is : value ≡ microseconds (number whole) decimals us

-- MM:SS[.m]
pub record IsMinutes (text : List ℕ) (value : ℕ) : Type 0 where
  pub minutes : List ℕ
  pub seconds : List ℕ
  pub point : List ℕ
  pub decimals : List ℕ
  pub spelled : text ≡ minutes ++ codes ":" ++ seconds ++ point
  pub minutes_is : IsSixtieth minutes
  pub seconds_is : IsSixtieth seconds
  pub point_is : IsPoint point decimals
  pub value_is : value ≡ microseconds (60 * number minutes + number seconds) decimals 1000000

-- HH:MM:SS[.m]
pub record IsHours (text : List ℕ) (value : ℕ) : Type 0 where
  pub hours : List ℕ
  pub minutes : List ℕ
  pub seconds : List ℕ
  pub point : List ℕ
  pub decimals : List ℕ
  pub spelled : text ≡ hours ++ codes ":" ++ minutes ++ codes ":" ++ seconds ++ point
  pub hours_is : AreDigits hours
  pub hours_short : length hours ≤ 6
  pub minutes_is : IsSixtieth minutes
  pub seconds_is : IsSixtieth seconds
  pub point_is : IsPoint point decimals
  pub value_is : value ≡ microseconds (3600 * number hours + 60 * number minutes + number seconds) decimals 1000000

-- a duration of any length
abbrev pub IsSpelling : List ℕ → ℕ → Type 0
IsSpelling text value = IsCount text value ⊎ (IsMinutes text value ⊎ IsHours text value)

-- the text is a duration of that many microseconds
pub record IsDuration (text : List ℕ) (value : ℕ) : Type 0 where
  pub short : length text ≤ 64
  pub spelling : IsSpelling text value

-- some duration begins with the text
abbrev pub GoesOn : List ℕ → Type 0
GoesOn text = (rest : List ℕ) × (value : ℕ) × IsDuration (text ++ rest) value

-- The text is no duration. It goes on up to the place, and there it ends or has a byte with which none goes on.
pub record IsBadAt (text : List ℕ) (at : ℕ) : Type 0 where
  pub no_duration : (value : ℕ) → ¬ IsDuration text value
  pub before : GoesOn (take at text)
  pub place : (at ≡ length text) ⊎ ((at < length text) × ¬ GoesOn (take (at + 1) text))

-- what a text may be refused for
abbrev pub IsTextError : TimeError → Type 0
IsTextError NotPositive = ⊥
IsTextError TooBig = Unit {0}
IsTextError Overflow = ⊥
IsTextError (BadTime at) = Unit {0}
