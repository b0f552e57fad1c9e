-- Filters whose arguments say how many inputs they have.
use Rattle.std.specs.Prelude.{◌≡◌, ℕ, ◌+◌, ◌&&◌, Bool, true, false, ◌||◌, cond, is_some, Option, Some, None, List, [], ◌∷◌, Result, Ok, Err}
use Rattle.ff_frame.specs.declared.config.ConfigError.{ConfigError}
use Rattle.ff_frame.specs.declared.head.StreamHead.{StreamHead}
use Rattle.ff_lang.specs.declared.graph.Arg.{Arg}
use Rattle.ff_filter.specs.Options.{Manual, option_of, AreRead, ranged, gives}

abbrev pub or_else : ℕ → Option ℕ → ℕ
or_else d None = d
or_else d (Some n) = n

-- The number from lo to hi that the last of these arguments says that gives the option: d where that one says none such, or
-- none gives the option, whatever becomes of the other arguments.
abbrev pub last_from : {S : Type 0} → Manual S → ℕ → ℕ → ℕ → ℕ → Bool → ℕ → ℕ → List Arg → ℕ
last_from manual option lo hi d keyed place n [] = n
last_from manual option lo hi d keyed place n (a ∷ others) =
    last_from manual option lo hi d (keyed || is_some a.key) (place + 1)
    (cond (gives option (option_of manual keyed place a.key)) (or_else d (ranged lo hi a.value)) n) others

abbrev pub last_number : {S : Type 0} → Manual S → ℕ → ℕ → ℕ → ℕ → List Arg → ℕ
last_number manual option lo hi d args = last_from manual option lo hi d false 0 d args

abbrev pub GoesOn : {S X : Type 0} → (S → Result X ConfigError → Type 0) → Result S ConfigError → Result X ConfigError → Type 0
GoesOn next (Ok s) r = next s r
GoesOn next (Err e) r = r ≡ Err e

-- the arguments make settings, and it goes on with these; else it is refused as they are
abbrev pub AfterRead : {S X : Type 0} → Manual S → S → List Arg → (S → Result X ConfigError → Type 0) → Result X ConfigError → Type 0
AfterRead {S} manual s args next r = (read : Result S ConfigError) × AreRead manual false 0 s args read × GoesOn next read r

-- f says so of each head
abbrev pub each_head : (StreamHead → Bool) → List StreamHead → Bool
each_head f [] = true
each_head f (h ∷ hs) = f h && each_head f hs
