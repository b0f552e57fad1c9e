-- What a demuxer of an AVI reads of its input: only where what it has read holds no packet but those that it gave, and then a piece.
use Rattle.std.specs.Prelude.{◌≡◌, ◌⊎◌, ℕ, ◌+◌, ◌-◌, ◌≤◌, Bool, false, List, [], ◌++◌, drop, length, Option, Result, Ok, Err}
use Rattle.std.specs.Io.KnownBytes.{Consumes}
use Rattle.ff_avi.specs.declared.head.AviHead.{AviHead}
use Rattle.ff_avi.specs.declared.cut.AviCut.{AviCut}
use Rattle.ff_avi.specs.Chains.{packets_in, units}
use Rattle.ff_avi.specs.laws.Cuts.{Cuts, IsPart}
use Rattle.ff_input.specs.laws.Reading.{piece_size}
use Rattle.ff_node_avi.specs.declared.reader.ReadEnd.{ReadEnd}
use Rattle.ff_node_avi.specs.declared.reader.Told.{Told}
use Rattle.ff_node_avi.specs.declared.reader.Told.TheVariants.{Packet, End, Broken}

-- A cut was fed what was read behind the head, of which so many bytes are still to come, and gave so many packets.
pub record WasFed (cut : AviCut) (skip : ℕ) (head : AviHead) (used read : List ℕ) (n : ℕ) : Type 0 where
  pub cuts : Cuts cut head used (drop head.start read) n
  pub skipped : skip ≡ head.start - length read

-- A piece of so many bytes was wanted behind these: they hold so many packets and no more, and a cut that gave them has nothing left,
-- or part of a unit.
pub record IsWanted (head : AviHead) (used read : List ℕ) (n count : ℕ) : Type 0 where
  pub all_given : length (packets_in (units head used (drop head.start read))) ≡ n
  pub cut : AviCut
  pub cuts : Cuts cut head used (drop head.start read) n
  pub part : IsPart cut
  pub few : count ≤ piece_size

-- What was read, but for the piece at its end, holds no more than so many packets, and that piece was wanted.
pub record EndsNear (head : AviHead) (used read : List ℕ) (n : ℕ) : Type 0 where
  pub front : List ℕ
  pub piece : List ℕ
  pub parts : read ≡ front ++ piece
  pub number : ℕ
  pub before : number ≤ n
  pub wanted : IsWanted head used front number (length piece)

-- nothing was read, or no more than a piece behind the packets of these numbers
abbrev pub IsNear : AviHead → List ℕ → List ℕ → ℕ → Type 0
IsNear head used read n = (read ≡ []) ⊎ EndsNear head used read n

-- Of an input with this head, of which these streams are used, a demuxer has read these bytes, and given so many packets.
pub record HasRead (cut : AviCut) (skip given : ℕ) (ended : Bool) (head : AviHead) (used read : List ℕ) : Type 0 where
  pub fed : ended ≡ false → WasFed cut skip head used read given
  pub near : IsNear head used read given

-- Where these bytes were read and so many packets given, these were read in one call: nothing, or pieces, the last of which was wanted,
-- and so each before it.
abbrev pub ReadsOn : AviHead → List ℕ → List ℕ → ℕ → List ℕ → Type 0
ReadsOn head used read n more = (more ≡ []) ⊎ ((front piece : List ℕ) × (more ≡ front ++ piece) × IsWanted head used (read ++ front) n (length piece))

-- What a call has read, whatever was read before it and whether it gave a packet or not: its source has less by it, where that tells;
-- each piece was wanted; the packet of its number lies near the end of what was read; and the state fits it.
pub record HasReadOn (left left' : Option (List ℕ)) (cut' : AviCut) (skip' given given' : ℕ) (ended' : Bool) (head : AviHead) (used read more : List ℕ) : Type 0 where
  pub taken : Consumes left left' more
  pub wanted : ReadsOn head used read given more
  pub near : IsNear head used (read ++ more) given
  pub now : HasRead cut' skip' given' ended' head used (read ++ more)

-- what a call reads
abbrev pub Reads : Option (List ℕ) → AviCut → ℕ → ℕ → Bool → Option (List ℕ) → AviCut → ℕ → ℕ → Bool → Type 0
Reads left cut skip given ended left' cut' skip' given' ended' =
    (head : AviHead) (used read : List ℕ) → HasRead cut skip given ended head used read
    → (more : List ℕ) × HasReadOn left left' cut' skip' given given' ended' head used read more

-- In one step a cut is fed at most so many bytes more of what its source has left.
abbrev pub FeedsOn : ℕ → Option (List ℕ) → AviCut → ℕ → Option (List ℕ) → AviCut → ℕ → Type 0
FeedsOn most left cut skip left' cut' skip' =
    (head : AviHead) (used read : List ℕ) (n : ℕ) → WasFed cut skip head used read n
    → (bytes : List ℕ) × Consumes left left' bytes × (length bytes ≤ most) × WasFed cut' skip' head used (read ++ bytes) n

-- how many packets were given behind an answer
abbrev pub given_after : ℕ → Result Told ReadEnd → ℕ
given_after given (Ok (Packet stream p)) = given + 1
given_after given (Ok End) = given
given_after given (Ok (Broken offset)) = given
given_after given (Err e) = given
