-- The texts that are maps, each with its meaning: `F`, `F:N`, `F:v`, `F:a`, `F:v:N` and `F:a:N`, each with an optional `?`
-- at the end, and `[label]`.
use Rattle.std.specs.Prelude.{◌≡◌, ℕ, ◌+◌, ◌<◌, ◌≤◌, ◌⊎◌, Bool, true, false, List, [], ◌++◌, length, take, codes}
use Rattle.ff_time.specs.Duration.{AreDigits, number}
use Rattle.ff_lang.specs.Grammar.{IsLabel}
use Rattle.ff_words.specs.declared.maps.map.Kind.{Kind}
use Rattle.ff_words.specs.declared.maps.map.Kind.TheVariants.{Audio, Video}
use Rattle.ff_words.specs.declared.maps.map.Pick.{Pick}
use Rattle.ff_words.specs.declared.maps.map.Pick.TheVariants as pick
use Rattle.ff_words.specs.declared.maps.map.MapFrom.{MapFrom}
use Rattle.ff_words.specs.declared.maps.map.MapFrom.TheVariants.{Input, Label}
use Rattle.ff_words.specs.declared.maps.map.MapSpec.{MapSpec}

-- 1 to 9 digits, with their number
pub record IsNumber (text : List ℕ) (n : ℕ) : Type 0 where
  pub digits : AreDigits text
  pub short : length text ≤ 9
  pub value : n ≡ number text

-- the letter of a kind
abbrev pub letter : Kind → List ℕ
letter Audio = codes "a"
letter Video = codes "v"

-- what stands behind the number of the file
abbrev pub IsPick : List ℕ → Pick → Type 0
IsPick text pick.All = text ≡ []
IsPick text (pick.Index n) = (digits : List ℕ) × (text ≡ codes ":" ++ digits) × IsNumber digits n
IsPick text (pick.Kind kind) = text ≡ codes ":" ++ letter kind
IsPick text (pick.Nth kind n) = (digits : List ℕ) × (text ≡ codes ":" ++ letter kind ++ codes ":" ++ digits) × IsNumber digits n

-- the mark of a map that may name nothing
abbrev pub mark : Bool → List ℕ
mark true = codes "?"
mark false = []

abbrev pub IsFrom : List ℕ → MapFrom → Bool → Type 0
IsFrom text (Input file chosen) optional =
    (front : List ℕ) × (behind : List ℕ) × (text ≡ front ++ behind ++ mark optional) × IsNumber front file × IsPick behind chosen
IsFrom text (Label label) optional = (optional ≡ false) × IsLabel label × (text ≡ codes "[" ++ label ++ codes "]")

-- the text stands for the map
abbrev pub IsMap : List ℕ → MapSpec → Type 0
IsMap text map = IsFrom text map.from map.optional

-- some map begins with the text
abbrev pub GoesOn : List ℕ → Type 0
GoesOn text = (rest : List ℕ) × (map : MapSpec) × IsMap (text ++ rest) map

-- The text is no map. One goes on up to the place, and there it ends or has a byte with which none goes on.
pub record IsBadAt (text : List ℕ) (at : ℕ) : Type 0 where
  pub no_map : (map : MapSpec) → IsMap text map → ⊥
  pub before : GoesOn (take at text)
  pub place : (at ≡ length text) ⊎ ((at < length text) × (GoesOn (take (at + 1) text) → ⊥))
