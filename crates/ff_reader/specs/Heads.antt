-- The head of a whole input, and what its first bytes decide, in any format. Of a format is given what the first bytes decide,
-- whatever follows (`reading`), and what an input is that ends before they do (`short`).
use Rattle.std.specs.Prelude.{◌≡◌, ◌≢◌, ℕ, ◌<◌, nat_lt, Bool, if◌then◌else◌, List, ◌++◌, length, Option, Some, None, unwrap_or, Result, Ok, Err, All}
use Rattle.ff_frame.specs.declared.cut.HeadEnd.{HeadEnd}
use Rattle.ff_frame.specs.declared.cut.HeadEnd.TheVariants as end
use Rattle.ff_reader.specs.declared.fault.HeadFault.{HeadFault}
use Rattle.ff_reader.specs.declared.fault.HeadFault.TheVariants.{Damaged, Unsupported}

-- a head, or the fault for which there is none
abbrev pub Found : Type 0 → Type 0
Found H = Result H HeadFault

-- an input that ends here, before its head is decided, in a format that is named in so few bytes
abbrev pub early : {H : Type 0} → ℕ → List ℕ → Found H
early few bs = if nat_lt (length bs) few then Err (Unsupported 0) else Err (Damaged (length bs))

-- the head of a whole input
unfoldable pub head : {H : Type 0} → (List ℕ → Option (Found H)) → (List ℕ → Found H) → List ℕ → Found H
head reading short bs = unwrap_or (reading bs) (short bs)

-- a head or its fault, as an answer
abbrev pub answered : {H : Type 0} → Found H → Result H HeadEnd
answered (Ok found) = Ok found
answered (Err (Damaged offset)) = Err (end.Damaged offset)
answered (Err (Unsupported offset)) = Err (end.Unsupported offset)

abbrev pub answered_or : {H : Type 0} → Option (Found H) → Result H HeadEnd → Result H HeadEnd
answered_or (Some found) other = answered found
answered_or None other = other

-- the answer at a front of the input, or at the whole
unfoldable pub answer : {H : Type 0} → (List ℕ → Option (Found H)) → (List ℕ → Found H) → Bool → List ℕ → Result H HeadEnd
answer reading short whole bs = answered_or (reading bs) (if whole then answered (short bs) else Err end.NotYet)

-- some bytes after these decide otherwise than others
abbrev pub IsOpen : {H : Type 0} → (List ℕ → Found H) → List ℕ → Type 0
IsOpen head bs = (more other : List ℕ) × All (λ b. b < 256) more × All (λ b. b < 256) other × (head (bs ++ more) ≢ head (bs ++ other))

-- what the first bytes decide, they decide whatever follows
abbrev pub Stays : {H : Type 0} → (List ℕ → Option (Found H)) → Type 0
Stays {H} reading = (bs more : List ℕ) (found : Found H) → reading bs ≡ Some found → reading (bs ++ more) ≡ Some found

-- where they decide nothing, some bytes after them decide otherwise than others
abbrev pub Opens : {H : Type 0} → (List ℕ → Option (Found H)) → (List ℕ → Found H) → Type 0
Opens reading short = (bs : List ℕ) → reading bs ≡ None → IsOpen (head reading short) bs
