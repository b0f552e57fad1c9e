-- How far a walk has read the head of an input.
use Rattle.std.specs.Prelude.{◌≡◌, ℕ, List, ◌++◌, Option, None, Err}
use Rattle.ff_reader.specs.declared.fault.HeadFault.TheVariants.{Unsupported}
use Rattle.ff_format.specs.declared.format.FileFormat.{FileFormat}
use Rattle.ff_input.specs.Answers.{IsBehind}
use Rattle.ff_input.specs.Formats.{Found, input_head, any_head, any_reached}
use Rattle.ff_input.specs.declared.walk.InputWalk.{InputWalk}
use Rattle.ff_input.specs.declared.walk.InputWalk.TheVariants.{Start, Other, In}

-- Whatever follows these bytes, the head of the input, of which this format was given or none, is this one.
abbrev pub IsOf : Option FileFormat → (List ℕ → Found) → List ℕ → Type 0
IsOf given head bs = (more : List ℕ) → input_head given (bs ++ more) ≡ head (bs ++ more)

-- Whatever follows them, there is none.
abbrev pub IsOfNone : Option FileFormat → List ℕ → Type 0
IsOfNone given bs = (more : List ℕ) → input_head given (bs ++ more) ≡ Err (Unsupported 0)

-- A walk has read this front of an input, of which this format was given or none.
abbrev pub Reached : InputWalk → Option FileFormat → List ℕ → Type 0
Reached Start given front = given ≡ None
Reached Other given front = IsOfNone given front
Reached (In walk) given front = IsOf given (any_head walk) front × IsBehind (any_reached walk) front

-- The bytes go on such a front.
abbrev pub IsReached : InputWalk → Option FileFormat → List ℕ → Type 0
IsReached walk given bs = IsBehind (Reached walk given) bs
