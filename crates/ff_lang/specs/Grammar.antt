-- The texts that are filtergraphs, and the graph that each stands for (ffmpeg-filters, "Filtergraph syntax").
use Rattle.std.specs.Prelude.{◌≡◌, ◌≢◌, ℕ, ◌+◌, ◌<◌, ◌≤◌, ◌⊎◌, Option, Some, None, List, [], ◌∷◌, ◌++◌, length, take, true, false}
use Rattle.std.specs.List.{AllByRecursion}
use Rattle.ff_lang.specs.Letters.{is_word_byte, is_label_byte, is_blank, is_special}
use Rattle.ff_lang.specs.declared.graph.Arg.{Arg}
use Rattle.ff_lang.specs.declared.graph.Filter.{Filter}
use Rattle.ff_lang.specs.declared.graph.Chain.{Chain}
use Rattle.ff_lang.specs.declared.graph.Graph.{Graph}

-- blanks, or nothing
abbrev pub AreBlanks : List ℕ → Type 0
AreBlanks text = AllByRecursion (λ b. is_blank b ≡ true) text

-- a name or a key: 1 to 64 letters, digits and `_`
pub record IsWord (text : List ℕ) : Type 0 where
  pub some : 0 < length text
  pub short : length text ≤ 64
  pub each : AllByRecursion (λ b. is_word_byte b ≡ true) text

-- a label: 1 to 64 letters, digits, `_`, `:` and `.`
pub record IsLabel (text : List ℕ) : Type 0 where
  pub some : 0 < length text
  pub short : length text ≤ 64
  pub each : AllByRecursion (λ b. is_label_byte b ≡ true) text

-- `[label]` any number of times, with blanks before, between and after
abbrev pub AreLabels : List ℕ → List (List ℕ) → Type 0
AreLabels text [] = AreBlanks text
AreLabels text (label ∷ labels) =
    (blanks : List ℕ) × (rest : List ℕ) × (text ≡ blanks ++ (91 ∷ (label ++ (93 ∷ rest)))) × AreBlanks blanks × IsLabel label × AreLabels rest labels

-- A value: bytes that stand for themselves, `\` and a byte, and `'`, bytes without `'`, `'`.
pub data IsValue : List ℕ → List ℕ → Type 0 where
  ends : IsValue [] []
  itself : (b : ℕ) (text value : List ℕ) → is_special b ≡ false → IsValue text value → IsValue (b ∷ text) (b ∷ value)
  escaped : (b : ℕ) (text value : List ℕ) → IsValue text value → IsValue (92 ∷ b ∷ text) (b ∷ value)
  quoted : (inner text value : List ℕ) → AllByRecursion (λ b. b ≢ 39) inner → IsValue text value → IsValue (39 ∷ (inner ++ (39 ∷ text))) (inner ++ value)

-- the text begins with a key and `=`
abbrev pub HasKey : List ℕ → Type 0
HasKey text = (key : List ℕ) × (rest : List ℕ) × IsWord key × (text ≡ key ++ (61 ∷ rest))

-- `key=value`, or a value that doesn't begin so
abbrev pub IsKeyed : List ℕ → Option (List ℕ) → List ℕ → Type 0
IsKeyed text None value = IsValue text value × (HasKey text → ⊥)
IsKeyed text (Some key) value = (rest : List ℕ) × (text ≡ key ++ (61 ∷ rest)) × IsWord key × IsValue rest value

abbrev pub IsArg : List ℕ → Arg → Type 0
IsArg text arg = IsKeyed text arg.key arg.value

-- any number of things, each behind the separator
abbrev pub AreLed : {X : Type 0} → (List ℕ → X → Type 0) → ℕ → List ℕ → List X → Type 0
AreLed Is separator text [] = text ≡ []
AreLed Is separator text (x ∷ xs) =
    (first : List ℕ) × (rest : List ℕ) × (text ≡ separator ∷ (first ++ rest)) × Is first x × AreLed Is separator rest xs

-- one thing or more, with the separator between them
abbrev pub IsSeries : {X : Type 0} → (List ℕ → X → Type 0) → ℕ → List ℕ → List X → Type 0
IsSeries Is separator text [] = ⊥
IsSeries Is separator text (x ∷ xs) =
    (first : List ℕ) × (rest : List ℕ) × (text ≡ first ++ rest) × Is first x × AreLed Is separator rest xs

-- nothing, or blanks, `=` and arguments with `:` between them
abbrev pub AreArgs : List ℕ → List Arg → Type 0
AreArgs text [] = text ≡ []
AreArgs text (arg ∷ args) =
    (blanks : List ℕ) × (rest : List ℕ) × (text ≡ blanks ++ (61 ∷ rest)) × AreBlanks blanks × IsSeries IsArg 58 rest (arg ∷ args)

-- blanks behind an argument belong to it
abbrev pub IsTight : List Arg → List ℕ → Type 0
IsTight [] text = Unit {0}
IsTight (arg ∷ args) text = (text ≡ []) ⊎ ((rest : List ℕ) × (text ≡ 91 ∷ rest))

-- labels, a name, arguments and labels
pub record IsFilter (text : List ℕ) (filter : Filter) : Type 0 where
  pub front : List ℕ
  pub middle : List ℕ
  pub back : List ℕ
  pub spelled : text ≡ front ++ (filter.name ++ (middle ++ back))
  pub ins_are : AreLabels front filter.ins
  pub name_is : IsWord filter.name
  pub args_are : AreArgs middle filter.args
  pub tight : IsTight filter.args back
  pub outs_are : AreLabels back filter.outs

abbrev pub IsChain : List ℕ → Chain → Type 0
IsChain text chain = IsSeries IsFilter 44 text chain.filters

-- the text stands for the graph
abbrev pub IsGraph : List ℕ → Graph → Type 0
IsGraph text graph = IsSeries IsChain 59 text graph.chains

-- some graph begins with the text
abbrev pub GoesOn : List ℕ → Type 0
GoesOn text = (rest : List ℕ) × (graph : Graph) × IsGraph (text ++ rest) graph

-- The text is no graph. It goes on up to the place, and there it ends or has a byte with which none goes on.
pub record IsBadAt (text : List ℕ) (at : ℕ) : Type 0 where
  pub no_graph : (graph : Graph) → IsGraph text graph → ⊥
  pub before : GoesOn (take at text)
  pub place : (at ≡ length text) ⊎ ((at < length text) × (GoesOn (take (at + 1) text) → ⊥))
