-- A machine of one of the kinds.
use Rattle.std.specs.Prelude.{◌≡◌, ℕ, ◌<◌, Some}
use Rattle.ff_net.specs.laws.Views.{View}
use Rattle.ff_test_machines.specs.declared.plain.Plain.{Plain}
use Rattle.ff_test_machines.specs.declared.plain.Plain.TheVariants.{Source, Relay, Join}
use Rattle.ff_test_machines.specs.Kinds.{source_view, relay_view, join_view}

-- what it shows to contracts: what its kind shows
abbrev pub plain_view : Plain → View
plain_view (Source m) = source_view m
plain_view (Relay m) = relay_view m
plain_view (Join m) = join_view m

-- its number as a source, where it is one, is below this
abbrev pub IsBelow : ℕ → Plain → Type 0
IsBelow n m = (s : ℕ) → (plain_view m).source ≡ Some s → s < n
