-- What an answer says of the head of an input that begins with these bytes, and where it is whole ends with them; and how far the head
-- of one of two formats was read.
use Rattle.std.specs.Prelude.{◌≡◌, ℕ, ◌≤◌, ◌↔◌, Bool, false, List, ◌++◌, length, Result, Ok, Err, IfOk}
use Rattle.ff_frame.specs.declared.cut.HeadEnd.{HeadEnd}
use Rattle.ff_frame.specs.declared.cut.HeadEnd.TheVariants as end
use Rattle.ff_reader.specs.Heads.{Found, answered, IsOpen}
use Rattle.ff_reader.specs.Walks.{Grammar, head_limit, Reached}
use Rattle.ff_reader.specs.declared.walk.HeadWalk.{HeadWalk}
use Rattle.ff_flac_dec.specs.Heads as flac
use Rattle.ff_flac_dec.specs.Heads.{FlacWalk}
use Rattle.ff_wav.specs.Heads as wav
use Rattle.ff_wav.specs.Heads.{WavWalk}
use Rattle.ff_input.specs.declared.one_of.OneOf.{OneOf}
use Rattle.ff_input.specs.declared.one_of.OneOf.TheVariants.{First, Other}

-- by what the head of a whole input is, and what is true of each
pub record Answers {H : Type 0} (head : List ℕ → Found H) (is_sound : H → Type 0) (whole : Bool) (bs : List ℕ) (answer : Result H HeadEnd) : Type 0 where
  -- not yet exactly where the input goes on, and some bytes decide otherwise than others
  pub not_yet : (answer ≡ Err end.NotYet) ↔ ((whole ≡ false) × IsOpen head bs)
  -- any other answer is the head of the input,
  pub decided : (answer ≡ Err end.NotYet → ⊥) → answer ≡ answered (head bs)
  -- whatever follows,
  pub stays : (answer ≡ Err end.NotYet → ⊥) → whole ≡ false → (more : List ℕ) → head (bs ++ more) ≡ head bs
  -- and a head is a sound one
  pub sound : IfOk answer is_sound

-- the bytes go on such a front
abbrev pub IsBehind : (List ℕ → Type 0) → List ℕ → Type 0
IsBehind reached bs = (front rest : List ℕ) × (bs ≡ front ++ rest) × reached front

-- a format's head or its fault, and its answer, as that of one of several
abbrev pub as_found : {H K : Type 0} → (H → K) → Found H → Found K
as_found make (Ok head) = Ok (make head)
as_found make (Err fault) = Err fault

abbrev pub as_answer : {H K : Type 0} → (H → K) → Result H HeadEnd → Result K HeadEnd
as_answer make (Ok head) = Ok (make head)
as_answer make (Err e) = Err e

-- a walk over units has read this front
abbrev pub units_reached : {F H S : Type 0} → Grammar H S → HeadWalk F H S → List ℕ → Type 0
units_reached g walk front = (length front ≤ head_limit) × Reached g walk.at walk.state front

-- a walk over a WAV, by the form that its first bytes tell
abbrev pub wav_reached : WavWalk → List ℕ → Type 0
wav_reached walk front = (length front ≤ head_limit) × wav.IsReached walk front

-- a walk over a FLAC, over its tags and blocks
abbrev pub flac_reached : FlacWalk → List ℕ → Type 0
flac_reached walk front = units_reached flac.grammar walk.units front

-- of a walk of one of two formats: the head of a whole input, and that it has read this front
abbrev pub either_head : {A B H K : Type 0} → (A → List ℕ → Found H) → (B → List ℕ → Found K) → OneOf A B → List ℕ → Found (OneOf H K)
either_head one other (First walk) bs = as_found First (one walk bs)
either_head one other (Other walk) bs = as_found Other (other walk bs)

abbrev pub either_reached : {A B : Type 0} → (A → List ℕ → Type 0) → (B → List ℕ → Type 0) → OneOf A B → List ℕ → Type 0
either_reached one other (First walk) front = one walk front
either_reached one other (Other walk) front = other walk front
