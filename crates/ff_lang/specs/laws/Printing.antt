-- The text that a graph is printed as, and the graphs that have one.
use Rattle.std.specs.Prelude.{ℕ, ◌<◌, Option, Some, None, List, [], ◌∷◌, ◌++◌, length, if◌then◌else◌}
use Rattle.std.specs.List.{AllByRecursion}
use Rattle.ff_lang.specs.Letters.{is_escaped}
use Rattle.ff_lang.specs.Grammar.{IsWord, IsLabel}
use Rattle.ff_lang.specs.declared.graph.Arg.{Arg}
use Rattle.ff_lang.specs.declared.graph.Filter.{Filter}
use Rattle.ff_lang.specs.declared.graph.Chain.{Chain}
use Rattle.ff_lang.specs.declared.graph.Graph.{Graph}

-- a value with `\` before each byte that would mean something else
abbrev pub escaped_value : List ℕ → List ℕ
escaped_value [] = []
escaped_value (b ∷ bs) = (if is_escaped b then 92 ∷ b ∷ [] else b ∷ []) ++ escaped_value bs

abbrev pub printed_key : Option (List ℕ) → List ℕ
printed_key None = []
printed_key (Some key) = key ++ (61 ∷ [])

abbrev pub printed_arg : Arg → List ℕ
printed_arg arg = printed_key arg.key ++ escaped_value arg.value

-- each behind the separator
abbrev pub led : {X : Type 0} → (X → List ℕ) → ℕ → List X → List ℕ
led print separator [] = []
led print separator (x ∷ xs) = separator ∷ (print x ++ led print separator xs)

-- with the separator between them
abbrev pub series : {X : Type 0} → (X → List ℕ) → ℕ → List X → List ℕ
series print separator [] = []
series print separator (x ∷ xs) = print x ++ led print separator xs

abbrev pub printed_args : List Arg → List ℕ
printed_args [] = []
printed_args (arg ∷ args) = 61 ∷ series printed_arg 58 (arg ∷ args)

abbrev pub printed_labels : List (List ℕ) → List ℕ
printed_labels [] = []
printed_labels (label ∷ labels) = 91 ∷ (label ++ (93 ∷ printed_labels labels))

abbrev pub printed_filter : Filter → List ℕ
printed_filter filter =
    printed_labels filter.ins ++ (filter.name ++ (printed_args filter.args ++ printed_labels filter.outs))

abbrev pub printed_chain : Chain → List ℕ
printed_chain chain = series printed_filter 44 chain.filters

-- a graph without blanks between its parts
abbrev pub printed : Graph → List ℕ
printed graph = series printed_chain 59 graph.chains

abbrev pub IsSoundKey : Option (List ℕ) → Type 0
IsSoundKey None = Unit {0}
IsSoundKey (Some key) = IsWord key

pub record IsSoundFilter (filter : Filter) : Type 0 where
  pub ins : AllByRecursion IsLabel filter.ins
  pub name : IsWord filter.name
  pub args : AllByRecursion (λ (arg : Arg). IsSoundKey arg.key) filter.args
  pub outs : AllByRecursion IsLabel filter.outs

pub record IsSoundChain (chain : Chain) : Type 0 where
  pub some : 0 < length chain.filters
  pub each : AllByRecursion IsSoundFilter chain.filters

-- each name, key and label is one, no chain is empty, and there is a chain
pub record IsSound (graph : Graph) : Type 0 where
  pub some : 0 < length graph.chains
  pub each : AllByRecursion IsSoundChain graph.chains
