-- How the arguments of a filter set its options, as a function: what a value makes of settings is one too.
use Rattle.std.specs.Prelude.{ℕ, ◌+◌, Bool, false, ◌||◌, is_some, Option, Some, None, List, [], ◌∷◌, Result, Ok, Err}
use Rattle.ff_frame.specs.declared.config.ConfigError.{ConfigError}
use Rattle.ff_frame.specs.declared.config.ConfigError.TheVariants.{UnknownOption, BadOption}
use Rattle.ff_frame.specs.declared.head.StreamHead.{StreamHead}
use Rattle.ff_lang.specs.declared.graph.Arg.{Arg}
use Rattle.ff_filter.specs.Options.{Manual, option_of, only_head}

-- it goes on with what is there; else it is refused as it was
abbrev pub and_then : {A X : Type 0} → (A → Result X ConfigError) → Result A ConfigError → Result X ConfigError
and_then next (Ok x) = next x
and_then next (Err e) = Err e

-- the fault, if there is one; else this
abbrev pub unless : {X : Type 0} → Option ConfigError → Result X ConfigError → Result X ConfigError
unless None r = r
unless (Some e) r = Err e

-- settings from which the others go on; or the value isn't taken
abbrev pub taken_by : {T : Type 0} → (T → Result T ConfigError) → Option T → Result T ConfigError
taken_by others None = Err BadOption
taken_by others (Some t) = others t

-- one argument: no such option, or what its value makes
abbrev pub given_by : {T : Type 0} → (ℕ → Option T) → (T → Result T ConfigError) → Option ℕ → Result T ConfigError
given_by set others None = Err UnknownOption
given_by set others (Some option) = taken_by others (set option)

-- The settings that the arguments from the one at a place on make of t, in their order: the first that is at fault decides, and
-- of an option that is given more than once the last value counts. `keyed` says that one before them had a key.
abbrev pub read_by : {S T : Type 0} → Manual S → (T → ℕ → List ℕ → Option T) → Bool → ℕ → T → List Arg → Result T ConfigError
read_by manual set keyed place t [] = Ok t
read_by manual set keyed place t (a ∷ others) =
    given_by (λ option. set t option a.value) (λ u. read_by manual set (keyed || is_some a.key) (place + 1) u others) (option_of manual keyed place a.key)

-- A filter of one input by its arguments: first the number of inputs and their kind decide, then the arguments in their order,
-- then what the head and the settings make.
abbrev pub configured_by : {S T X : Type 0} → (StreamHead → Bool) → Manual S → (T → ℕ → List ℕ → Option T) → T → (StreamHead → T → Result X ConfigError) → List Arg
    → List StreamHead → Result X ConfigError
configured_by wanted manual set t made args heads = and_then (λ head. and_then (made head) (read_by manual set false 0 t args)) (only_head wanted heads)
