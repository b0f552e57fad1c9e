-- A filter of several outputs is configured.
use Rattle.std.proofs.Common.{◌≡◌, List, Result, Ok, Err, IfOk}
use Rattle.ff_frame.specs.declared.config.ConfigError.{ConfigError}
use Rattle.ff_frame.specs.declared.head.StreamHead.{StreamHead}
use Rattle.ff_filter.specs.Views.{View}
use Rattle.ff_filter.specs.laws.spread.Many.{AreMade}

-- the machine is seen as m's function, and has its heads
pub made_of_many : {X A : Type 0} (made : Result X ConfigError → Type 0) (shown : X → View) (heads : X → List StreamHead) (m : X) (r : Result A ConfigError) (view : A → View) (items : A → List StreamHead)
    → made (Ok m) → IfOk r (λ a. view a ≡ shown m) → IfOk r (λ a. items a ≡ heads m) → IfOk r (λ a. AreMade made shown heads (view a) (items a))
made_of_many made shown heads m (Ok a) view items k v h = (m, k, v, h)
made_of_many made shown heads m (Err e) view items k v h = tt
