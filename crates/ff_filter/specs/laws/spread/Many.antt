-- A filter of several outputs, as it is configured.
use Rattle.std.specs.Prelude.{◌≡◌, List, Result, Ok}
use Rattle.ff_frame.specs.declared.config.ConfigError.{ConfigError}
use Rattle.ff_frame.specs.declared.head.StreamHead.{StreamHead}
use Rattle.ff_filter.specs.Views.{View}

-- a machine that is configured so and shown as its function before anything was fed, and the heads of its outputs
abbrev pub AreMade : {X : Type 0} → (Result X ConfigError → Type 0) → (X → View) → (X → List StreamHead) → View → List StreamHead → Type 0
AreMade {X} configured shown heads v hs = (m : X) × configured (Ok m) × (v ≡ shown m) × (hs ≡ heads m)
