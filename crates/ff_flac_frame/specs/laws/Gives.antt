-- What a function of the code answered is what reading gives, unless memory ran out.
use Rattle.std.specs.Prelude.{◌≡◌, List, Bool, Result, Ok, Err}
use Rattle.ff_flac_frame.specs.declared.end.FrameEnd.{FrameEnd}
use Rattle.ff_flac_frame.specs.declared.end.FrameEnd.TheVariants.{NotYet, Never, NoMemory}
use Rattle.ff_bits.specs.Reading.{Answer, Done, More, Bad}

abbrev pub Fails : {Y : Type 0} → FrameEnd → Answer Y → Type 0
Fails NotYet answer = answer ≡ More
Fails Never answer = answer ≡ Bad
Fails NoMemory answer = Unit {0}

abbrev pub Gives : {X Y : Type 0} → (X → Y) → Result X FrameEnd → Answer Y → List Bool → Type 0
Gives view (Ok x) answer rest = answer ≡ Done (view x) rest
Gives view (Err e) answer rest = Fails e answer
