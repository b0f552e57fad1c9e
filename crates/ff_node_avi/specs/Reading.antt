-- How the reading of an AVI is tied to its file.
use Rattle.std.specs.Prelude.{◌≡◌, ◌-◌, ℕ, ◌+◌, ◌<◌, ◌≤◌, ◌⊎◌, true, false, List, [], ◌++◌, drop, length, slice_get, Option, Some}
use Rattle.ff_frame.specs.declared.packet.Pkt.{Pkt}
use Rattle.ff_avi.specs.declared.head.AviHead.{AviHead}
use Rattle.ff_avi.specs.declared.cut.AviCut.{AviCut}
use Rattle.ff_avi.specs.Chains.{packets_in, broken_at, units}
use Rattle.ff_avi.specs.laws.Cuts.{Cuts, has_ended, place_of, waiting_in}

-- the data of a file with this head
abbrev pub body : AviHead → List ℕ → List ℕ
body head file = drop head.start file

-- Of this file, which has this head, part was read; so many bytes of the head are still to come; and n packets of the streams in use
-- were cut.
pub record Lies (left : Option (List ℕ)) (cut : AviCut) (skip : ℕ) (head : AviHead) (used file : List ℕ) (n : ℕ) : Type 0 where
  pub read : List ℕ
  pub rest : List ℕ
  pub parts : read ++ rest ≡ file
  pub told : left ≡ Some rest
  pub cuts : Cuts cut head used (drop head.start read) n
  pub skipped : skip ≡ head.start - length read
  pub all_read : has_ended cut ≡ true → rest ≡ []

-- a cut was fed something of some file
pub record IsFed (cut : AviCut) : Type 0 where
  pub head : AviHead
  pub used : List ℕ
  pub fed : List ℕ
  pub number : ℕ
  pub cuts : Cuts cut head used fed number

-- whatever file it reads, it is no further, and stands by it
abbrev pub Stays : Option (List ℕ) → AviCut → ℕ → Option (List ℕ) → AviCut → ℕ → Type 0
Stays left cut skip left' cut' skip' = (head : AviHead) (used file : List ℕ) (n : ℕ) → Lies left cut skip head used file n → Lies left' cut' skip' head used file n

-- it is one packet further, which is the file's next, and of this stream
abbrev pub Reaches : Option (List ℕ) → AviCut → ℕ → Option (List ℕ) → AviCut → ℕ → ℕ → Pkt → Type 0
Reaches left cut skip left' cut' skip' stream p = (head : AviHead) (used file : List ℕ) (n : ℕ) → Lies left cut skip head used file n
    → Lies left' cut' skip' head used file (n + 1) × (slice_get (packets_in (units head used (body head file))) n ≡ Some (stream, p))

-- no packet follows, and so the file ends, or breaks at this offset
abbrev pub Closes : Option (List ℕ) → AviCut → ℕ → Option ℕ → Type 0
Closes left cut skip broken = (head : AviHead) (used file : List ℕ) (n : ℕ) → Lies left cut skip head used file n
    → (length (packets_in (units head used (body head file))) ≡ n) × (broken_at (units head used (body head file)) ≡ broken)

-- how far from the head a cut is: no cut that goes on is as far as byte 2^42
abbrev pub reach_of : AviCut → ℕ
reach_of cut = place_of cut + length (waiting_in cut)

-- the input has ended, or it has come nearer to byte 2^42, or the head's end
abbrev pub IsNearer : AviCut → ℕ → AviCut → ℕ → Type 0
IsNearer cut skip cut' skip' =
    ((has_ended cut' ≡ true) × (skip' ≡ skip) × (reach_of cut' ≡ reach_of cut))
    ⊎ ((has_ended cut' ≡ false) × (reach_of cut + skip' < reach_of cut' + skip) × (skip' ≤ skip))
