-- What a demuxer reads of its input: only where what it has read leaves the next packet undecided, and then a piece.
use Rattle.std.specs.Prelude.{◌≡◌, ◌⊎◌, ℕ, ◌-◌, ◌≤◌, Bool, false, List, [], ◌++◌, drop, length, Option}
use Rattle.std.specs.Io.KnownBytes.{Consumes}
use Rattle.ff_reader.specs.Cutters.{Cutter}
use Rattle.ff_input.specs.laws.Reading.{IsUndecided}

-- A cut was fed what was read behind the head, of which so many bytes are still to come, and gave so many packets.
pub record IsFed {H C : Type 0} (cutter : Cutter H C) (cut : C) (skip : ℕ) (head : H) (read : List ℕ) (n : ℕ) : Type 0 where
  pub cuts : cutter.cuts cut head (drop (cutter.start head) read) n
  pub skipped : skip ≡ cutter.start head - length read

-- A piece of so many bytes was wanted behind these: they leave the next packet undecided, and a cut of them asks for as many.
pub record IsWanted {H C : Type 0} (cutter : Cutter H C) (asks : C → ℕ) (head : H) (read : List ℕ) (n count : ℕ) : Type 0 where
  pub undecided : IsUndecided cutter head (drop (cutter.start head) read) n
  pub cut : C
  pub cuts : cutter.cuts cut head (drop (cutter.start head) read) n
  pub few : count ≤ asks cut

-- What was read, but for the piece at its end, leaves a packet undecided, this one or one before it, for which that piece was wanted.
pub record EndsNear {H C : Type 0} (cutter : Cutter H C) (asks : C → ℕ) (head : H) (read : List ℕ) (n : ℕ) : Type 0 where
  pub front : List ℕ
  pub piece : List ℕ
  pub parts : read ≡ front ++ piece
  pub number : ℕ
  pub before : number ≤ n
  pub wanted : IsWanted cutter asks head front number (length piece)

-- nothing was read, or what was read ends near an undecided place
abbrev pub IsNear : {H C : Type 0} → Cutter H C → (C → ℕ) → H → List ℕ → ℕ → Type 0
IsNear cutter asks head read n = (read ≡ []) ⊎ EndsNear cutter asks head read n

-- Of an input with this head a demuxer has read these bytes, and given so many packets.
pub record HasRead {H C : Type 0} (cutter : Cutter H C) (asks : C → ℕ) (cut : C) (skip given : ℕ) (ended : Bool) (head : H) (read : List ℕ) : Type 0 where
  pub is_head : cutter.IsHead head
  pub fed : ended ≡ false → IsFed cutter cut skip head read given
  pub near : IsNear cutter asks head read given

-- Where these bytes were read and so many packets given, these were read in one call: nothing, or pieces, the last of which was wanted,
-- and so each before it.
abbrev pub ReadsOn : {H C : Type 0} → Cutter H C → (C → ℕ) → H → List ℕ → ℕ → List ℕ → Type 0
ReadsOn cutter asks head read n more =
    (more ≡ []) ⊎ ((front piece : List ℕ) × (more ≡ front ++ piece) × IsWanted cutter asks head (read ++ front) n (length piece))

-- What a call has read, whatever was read before it and whether it gave a packet or not: its source has less by it, where that tells;
-- each piece was wanted; the packet of its number lies near the end of what was read; and the state fits it.
pub record HasReadOn {H C : Type 0} (cutter : Cutter H C) (asks : C → ℕ) (left left' : Option (List ℕ)) (cut' : C) (skip' given given' : ℕ) (ended' : Bool) (head : H) (read more : List ℕ) : Type 0 where
  pub taken : Consumes left left' more
  pub wanted : ReadsOn cutter asks head read given more
  pub near : IsNear cutter asks head (read ++ more) given
  pub now : HasRead cutter asks cut' skip' given' ended' head (read ++ more)

-- what a call reads
abbrev pub Reads : {H C : Type 0} → Cutter H C → (C → ℕ) → Option (List ℕ) → C → ℕ → ℕ → Bool → Option (List ℕ) → C → ℕ → ℕ → Bool → Type 0
Reads {H} cutter asks left cut skip given ended left' cut' skip' given' ended' =
    (head : H) (read : List ℕ) → HasRead cutter asks cut skip given ended head read
    → (more : List ℕ) × HasReadOn cutter asks left left' cut' skip' given given' ended' head read more

-- In one step a cut is fed at most so many bytes more of what its source has left.
abbrev pub FeedsOn : {H C : Type 0} → Cutter H C → ℕ → Option (List ℕ) → C → ℕ → Option (List ℕ) → C → ℕ → Type 0
FeedsOn {H} cutter most left cut skip left' cut' skip' =
    (head : H) (read : List ℕ) (n : ℕ) → IsFed cutter cut skip head read n
    → (bytes : List ℕ) × Consumes left left' bytes × (length bytes ≤ most) × IsFed cutter cut' skip' head (read ++ bytes) n
