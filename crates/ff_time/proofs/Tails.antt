-- What may follow on each state of the exact reader.
use Rattle.std.proofs.Common.{◌≡◌, ℕ, ◌+◌, ◌*◌, ◌<◌, ◌≤◌, ◌⊎◌, inl, inr, Bool, true, false, ◌&&◌, nat_le, List, [], ◌∷◌, ap, ◌∙◌, refl}
use Rattle.ff_time.specs.Duration.{IsUnit}
use Rattle.ff_time.specs.Reading.{Exact, first, second, third, decimals, scaled, done, value_at}
use Rattle.ff_time.proofs.Runs.{Run}

-- a unit where one may follow
abbrev pub IsUnitOr : Bool → List ℕ → ℕ → Type 0
IsUnitOr true text us = IsUnit text us
IsUnitOr false text us = (text ≡ []) × (us ≡ 1000000)

-- behind decimals
pub record AfterDecimals (whole : ℕ) (units : Bool) (k m : ℕ) (text : List ℕ) (value : ℕ) : Type 0 where
  pub some : 0 < k
  pub us : ℕ
  pub unit : IsUnitOr units text us
  pub value_is : value ≡ value_at whole k m us

pub record AtUnit (whole : ℕ) (units : Bool) (text : List ℕ) (value : ℕ) : Type 0 where
  pub us : ℕ
  pub unit : IsUnitOr units text us
  pub value_is : value ≡ whole * us

pub record AtPoint (whole : ℕ) (units : Bool) (text : List ℕ) (value : ℕ) : Type 0 where
  pub rest : List ℕ
  pub spelled : text ≡ 46 ∷ rest
  pub run : Run (AfterDecimals whole units) 0 0 rest value

-- behind a whole number
abbrev pub AfterWhole : ℕ → Bool → List ℕ → ℕ → Type 0
AfterWhole whole units text value = AtUnit whole units text value ⊎ AtPoint whole units text value

-- behind the seconds of a clock
pub record AfterThird (minutes k n : ℕ) (text : List ℕ) (value : ℕ) : Type 0 where
  pub some : 0 < k
  pub short : k ≤ 2
  pub small : n ≤ 59
  pub whole : AfterWhole (60 * minutes + n) false text value

pub record AtSeconds (f n : ℕ) (text : List ℕ) (value : ℕ) : Type 0 where
  pub rest : List ℕ
  pub spelled : text ≡ 58 ∷ rest
  pub run : Run (AfterThird (60 * f + n)) 0 0 rest value

-- behind the second number: seconds if the first may be minutes, or minutes
pub record AfterSecond (f : ℕ) (minutes : Bool) (k n : ℕ) (text : List ℕ) (value : ℕ) : Type 0 where
  pub some : 0 < k
  pub short : k ≤ 2
  pub small : n ≤ 59
  pub either : ((minutes ≡ true) × AfterWhole (60 * f + n) false text value) ⊎ AtSeconds f n text value

abbrev pub may_be_minutes : ℕ → ℕ → Bool
may_be_minutes k n = nat_le k 2 && nat_le n 59

pub record AtMinutes (k n : ℕ) (text : List ℕ) (value : ℕ) : Type 0 where
  pub short : k ≤ 6
  pub rest : List ℕ
  pub spelled : text ≡ 58 ∷ rest
  pub run : Run (AfterSecond n (may_be_minutes k n)) 0 0 rest value

-- behind the first number
pub record AfterFirst (k n : ℕ) (text : List ℕ) (value : ℕ) : Type 0 where
  pub some : 0 < k
  pub either : AfterWhole n true text value ⊎ AtMinutes k n text value

-- what makes the text a duration of that value
abbrev pub Rest : Exact → List ℕ → ℕ → Type 0
Rest (first k n) text value = Run AfterFirst k n text value
Rest (second f minutes k n) text value = Run (AfterSecond f minutes) k n text value
Rest (third minutes k n) text value = Run (AfterThird minutes) k n text value
Rest (decimals whole units k m) text value = Run (AfterDecimals whole units) k m text value
Rest (scaled v) text value = (text ≡ 115 ∷ []) × (value ≡ v)
Rest (done v) text value = (text ≡ []) × (value ≡ v)

-- the three units, by their first bytes
abbrev pub UnitBytes : (ℕ → ℕ) → ℕ → List ℕ → ℕ → Type 0
UnitBytes worth b text value =
    ((b ≡ 115) × (text ≡ []) × (value ≡ worth 1000000))
    ⊎ (((b ≡ 109) × (text ≡ 115 ∷ []) × (value ≡ worth 1000)) ⊎ ((b ≡ 117) × (text ≡ 115 ∷ []) × (value ≡ worth 1)))

pub unit_bytes : (units : Bool) (worth : ℕ → ℕ) (b us : ℕ) (text : List ℕ) (value : ℕ) → IsUnitOr units (b ∷ text) us → value ≡ worth us → (units ≡ true) × UnitBytes worth b text value
unit_bytes true worth b us text value (inl h) e = cc (h.0)
unit_bytes true worth b us text value (inr (inl h)) e = (refl, inl (cc (h.0), cc (h.0), e ∙ ap worth h.1))
unit_bytes true worth b us text value (inr (inr (inl h))) e = (refl, inr (inl (cc (h.0), cc (h.0), e ∙ ap worth h.1)))
unit_bytes true worth b us text value (inr (inr (inr h))) e = (refl, inr (inr (cc (h.0), cc (h.0), e ∙ ap worth h.1)))
unit_bytes false worth b us text value h e = cc (h.0)
