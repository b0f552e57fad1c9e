-- The heads of inputs, whatever their formats: of an input is given its name, and what the head of its bytes is.
use Rattle.std.specs.Prelude.{◌≡◌, ⊤, ℕ, suc, List, [], ◌∷◌, ◌++◌, take, Bool, false, Option, Some, None, Result, Ok, Err}
use Rattle.ff_host.specs.Files.{Files, bytes_at}
use Rattle.ff_frame.specs.declared.cut.HeadEnd.{HeadEnd}
use Rattle.ff_frame.specs.declared.cut.HeadEnd.TheVariants as head_end
use Rattle.ff_reader.specs.declared.fault.HeadFault.{HeadFault}
use Rattle.ff_reader.specs.declared.fault.HeadFault.TheVariants.{Damaged, Unsupported}
use Rattle.ff_reader.specs.Heads.{Found}
use Rattle.ff_reader.specs.Cutters.{IsRest}

-- the bytes so far, of which `whole` says that they are all, decide the head, whatever follows
abbrev pub Decide : {H : Type 0} → (List ℕ → Found H) → Bool → List ℕ → Found H → Type 0
Decide head whole bytes found = (more : List ℕ) → IsRest whole more → head (bytes ++ more) ≡ found

-- an answer to the bytes so far: what they decide, or that they decide nothing yet, and are not all
abbrev pub Answers : {H : Type 0} → (List ℕ → Found H) → Bool → List ℕ → Result H HeadEnd → Type 0
Answers head whole bytes (Ok h) = Decide head whole bytes (Ok h)
Answers head whole bytes (Err (head_end.Damaged offset)) = Decide head whole bytes (Err (Damaged offset))
Answers head whole bytes (Err (head_end.Unsupported offset)) = Decide head whole bytes (Err (Unsupported offset))
Answers head whole bytes (Err head_end.NotYet) = whole ≡ false
Answers head whole bytes (Err head_end.NoMemory) = ⊤

-- the bytes begin with some that were read
abbrev pub GoOn : (List ℕ → Type 0) → List ℕ → Type 0
GoOn read bytes = (front rest : List ℕ) × (bytes ≡ front ++ rest) × read front

-- the first input whose head is refused, and how
pub record Refusal : Type 0 where
  pub input : ℕ
  pub fault : HeadFault

-- the heads of inputs by their numbers, or the first that is refused
abbrev pub Heads : Type 0 → Type 0
Heads H = Result (List H) Refusal

-- with these heads in front
abbrev pub with_heads : {H : Type 0} → List H → Heads H → Heads H
with_heads front (Ok heads) = Ok (front ++ heads)
with_heads front (Err refusal) = Err refusal

abbrev pub next_head : {H : Type 0} → ℕ → Found H → Heads H → Heads H
next_head k (Ok h) rest = with_heads (h ∷ []) rest
next_head k (Err fault) rest = Err (record { input = k; fault = fault })

module _ {I H : Type 0} (name : I → List ℕ) (head : I → List ℕ → Found H) where
  -- the head of this input; a name that isn't there stands for an empty file
  abbrev pub head_in : Files → I → Found H
  head_in files input = head input (bytes_at files (name input))

  -- the heads of these inputs, of which the first has this number
  abbrev pub heads_from : Files → ℕ → List I → Heads H
  heads_from files k [] = Ok []
  heads_from files k (input ∷ inputs) = next_head k (head_in files input) (heads_from files (suc k) inputs)

  -- the heads of all inputs, or the first that is refused
  abbrev pub heads_of : Files → List I → Heads H
  heads_of files inputs = heads_from files 0 inputs

  -- the first so many inputs have heads, where the files are told
  abbrev pub HaveHeads : Option Files → List I → ℕ → Type 0
  HaveHeads None inputs count = ⊤
  HaveHeads (Some files) inputs count = (heads : List H) × (heads_of files (take count inputs) ≡ Ok heads)

  -- this input is the first whose head is refused, and it is refused so, as far as the files are told
  abbrev pub IsRefused : Option Files → List I → ℕ → HeadFault → Type 0
  IsRefused None inputs k fault = ⊤
  IsRefused (Some files) inputs k fault = heads_of files inputs ≡ Err (record { input = k; fault = fault })
