-- The head of a whole input, and what is decided by its first bytes.
use Rattle.std.specs.Prelude.{ℕ, Bool, if◌then◌else◌, List, ◌∷◌, ◌++◌, codes, map, Option, Some, None, Result}
use Rattle.ff_frame.specs.declared.cut.HeadEnd.{HeadEnd}
use Rattle.ff_reader.specs.Heads as heads
use Rattle.ff_reader.specs.Walks as walks
use Rattle.ff_pcm.specs.declared.body.head.PcmHead.{PcmHead as WavHead}
use Rattle.ff_wav.specs.Chunks.{WavState, unit}
use Rattle.ff_reader.specs.declared.walk.HeadWalk.{HeadWalk}
use Rattle.ff_wav.specs.declared.walk.BothForms.{BothForms}
use Rattle.ff_wav.specs.declared.walk.RiffWave.{RiffWave}
use Rattle.ff_wav.specs.declared.walk.Rf64Wave.{Rf64Wave}

-- a head, or the fault for which there is none
abbrev pub Found : Type 0
Found = heads.Found WavHead

-- `RIFF` or `RF64`, four bytes that are not compared, and `WAVE`
abbrev pub riff_magic : List (Option ℕ)
riff_magic = map Some (codes "RIFF") ++ (None ∷ None ∷ None ∷ None ∷ map Some (codes "WAVE"))

abbrev pub rf64_magic : List (Option ℕ)
rf64_magic = map Some (codes "RF64") ++ (None ∷ None ∷ None ∷ None ∷ map Some (codes "WAVE"))

-- the chunks behind the first bytes: any, before which no format is known; and after `RF64` first the sizes of 64 bits
abbrev pub riff_grammar : walks.Grammar WavHead WavState
riff_grammar = record { magic = riff_magic; start = Some (None, None); unit = unit }

abbrev pub rf64_grammar : walks.Grammar WavHead WavState
rf64_grammar = record { magic = rf64_magic; start = None; unit = unit }

-- the first two bytes tell `RF64` from `RIFF`; whether they are those of `RF64`, as far as they are there
abbrev pub fork : List (Option ℕ)
fork = map Some (codes "RF")

abbrev pub is_rf64 : List ℕ → Bool
is_rf64 bs = walks.agrees fork bs

-- what the bytes decide, whatever follows
abbrev pub reading : List ℕ → Option Found
reading bs = if is_rf64 bs then walks.reading rf64_grammar walks.head_limit bs else walks.reading riff_grammar walks.head_limit bs

-- an input that ends before its head is decided: either word has 12 bytes
abbrev pub early : List ℕ → Found
early bs = heads.early 12 bs

-- the head of a whole input
abbrev pub head : List ℕ → Found
head bs = heads.head reading early bs

-- the answer at a front of the input, or at the whole
abbrev pub answer : Bool → List ℕ → Result WavHead HeadEnd
answer whole bs = heads.answer reading early whole bs

abbrev pub WavWalk : Type 0
WavWalk = BothForms (HeadWalk RiffWave WavHead WavState) (HeadWalk Rf64Wave WavHead WavState)

-- Of an input that begins with these bytes a front was read by each grammar, if only the empty one.
abbrev pub IsReached : WavWalk → List ℕ → Type 0
IsReached walk bs =
    walks.IsReached riff_grammar walk.riff.at walk.riff.state bs × walks.IsReached rf64_grammar walk.rf64.at walk.rf64.state bs
