-- The head of a format that is read unit by unit (a chunk, a block of metadata, a box).
use Rattle.std.specs.Prelude.{◌≡◌, ℕ, zero, suc, ◌+◌, ◌^◌, ◌<◌, ◌≤◌, ◌⊎◌, ◌==◌, ◌&&◌, nat_le, not, Bool, true, if◌then◌else◌, List, [], ◌∷◌, ◌++◌, take, drop, length, Option, Some, None, Result, Ok, Err}
use Rattle.ff_frame.specs.declared.cut.HeadEnd.{HeadEnd}
use Rattle.ff_reader.specs.declared.fault.HeadFault.TheVariants.{Damaged, Unsupported}
use Rattle.ff_reader.specs.declared.step.Step.{Step}
use Rattle.ff_reader.specs.declared.step.Step.TheVariants.{Wait, Decide, Skip}
use Rattle.ff_reader.specs.Heads.{Found, early, head, answer}

-- What a unit does that begins the bytes, at an offset of the input, behind what is known.
abbrev pub Reading : Type 0 → Type 0 → Type 0
Reading H S = S → ℕ → List ℕ → Step H S

-- How heads are read: what an input begins with (None: any byte), what is known behind that, and the units that follow.
pub record Grammar (H S : Type 0) : Type 0 where
  pub magic : List (Option ℕ)
  pub start : S
  pub unit : Reading H S

-- whether the bytes agree with these, as far as both go
abbrev pub agrees : List (Option ℕ) → List ℕ → Bool
agrees [] bs = true
agrees (w ∷ ws) [] = true
agrees (Some n ∷ ws) (b ∷ bs) = (b == n) && agrees ws bs
agrees (None ∷ ws) (b ∷ bs) = agrees ws bs

-- The walk over the units: so many bytes are passed over, and then a unit begins. None: the bytes do not decide.
abbrev pub walk : {H S : Type 0} → Reading H S → ℕ → S → ℕ → List ℕ → Option (Found H)
walk unit skip s at [] = None
walk unit (suc skip) s at (b ∷ bs) = walk unit skip s (at + 1) bs
walk unit zero s at (b ∷ bs) =
    elim (unit s at (b ∷ bs)) [ Wait ↦ None | Decide found ↦ Some found | Skip size next ↦ walk unit size next (at + 1) bs ]

-- the first unit begins behind the first bytes
abbrev pub walked : {H S : Type 0} → Grammar H S → List ℕ → Option (Found H)
walked g bs = walk g.unit (length g.magic) g.start 0 bs

-- a head that is not complete within the limit is unsupported there
abbrev pub within : {H : Type 0} → ℕ → List ℕ → Option (Found H) → Option (Found H)
within limit bs (Some found) = Some found
within limit bs None = if nat_le limit (length bs) then Some (Err (Unsupported limit)) else None

-- what the bytes decide, whatever follows
unfoldable pub reading : {H S : Type 0} → Grammar H S → ℕ → List ℕ → Option (Found H)
reading g limit bs = if not (agrees g.magic bs) then Some (Err (Unsupported 0)) else within limit bs (walked g (take limit bs))

abbrev pub head_limit : ℕ
head_limit = 2 ^ 28

-- the head of a whole input
abbrev pub head_by : {H S : Type 0} → Grammar H S → List ℕ → Found H
head_by g bs = head (reading g head_limit) (early (length g.magic)) bs

-- the answer at a front of the input, or at the whole
abbrev pub answer_by : {H S : Type 0} → Grammar H S → Bool → List ℕ → Result H HeadEnd
answer_by g whole bs = answer (reading g head_limit) (early (length g.magic)) whole bs

-- The first bytes are the front, whose units were read up to this place, at which the next one begins.
abbrev pub Reached : {H S : Type 0} → Grammar H S → ℕ → S → List ℕ → Type 0
Reached g at s front = (more : List ℕ) → walked g (front ++ more) ≡ walk g.unit 0 s at (drop at (front ++ more))

-- The bytes go on such a front, which is within the limit.
abbrev pub IsReached : {H S : Type 0} → Grammar H S → ℕ → S → List ℕ → Type 0
IsReached g at s bs = (front rest : List ℕ) × (bs ≡ front ++ rest) × (length front ≤ head_limit) × Reached g at s front

-- ---- What a format owes

abbrev pub AreBytes : List (Option ℕ) → Type 0
AreBytes [] = Unit {0}
AreBytes (Some n ∷ ws) = (n < 256) × AreBytes ws
AreBytes (None ∷ ws) = AreBytes ws

-- what a unit does is the same whatever follows, unless it waits
abbrev pub Settles : {H S : Type 0} → Reading H S → Type 0
Settles unit = (s : _) (at : ℕ) (bs more : List ℕ) → (unit s at bs ≡ Wait) ⊎ (unit s at bs ≡ unit s at (bs ++ more))

-- a byte 0 more isn't found damaged at the length that was there before
abbrev pub DamagesBefore : {H S : Type 0} → Reading H S → Type 0
DamagesBefore unit = (s : _) (at p : ℕ) (bs : List ℕ) → unit s at (bs ++ 0 ∷ []) ≡ Decide (Err (Damaged p)) → p < at + length bs

pub record IsGrammar {H S : Type 0} (g : Grammar H S) : Type 0 where
  pub bytes : AreBytes g.magic
  pub few : length g.magic < head_limit
  pub settles : Settles g.unit
  pub damages : DamagesBefore g.unit

-- a unit gives a sound head, or goes on with what is to be known
abbrev pub IsKept : {H S : Type 0} → (S → Type 0) → (H → Type 0) → Step H S → Type 0
IsKept is_known is_sound Wait = Unit {0}
IsKept is_known is_sound (Decide (Ok head)) = is_sound head
IsKept is_known is_sound (Decide (Err fault)) = Unit {0}
IsKept is_known is_sound (Skip size next) = is_known next

-- within the limit
abbrev pub Keeps : {H S : Type 0} → (S → Type 0) → (H → Type 0) → Reading H S → Type 0
Keeps is_known is_sound unit = (s : _) (at : ℕ) (bs : List ℕ) → is_known s → at + length bs ≤ head_limit → IsKept is_known is_sound (unit s at bs)
