-- The filters by their names.
use Rattle.std.specs.Prelude.{ℕ, List, [], ◌∷◌, map, Option, Some, None, if◌then◌else◌}
use Rattle.std.specs.Borrow.{Bor}
use Rattle.std.specs.Str.{bytes_eq}
use Rattle.ff_filters.specs.declared.name.FilterName.{FilterName}
use Rattle.ff_filters.specs.Definitions.{filter_names}

abbrev pub named_in : List (List ℕ × FilterName) → List ℕ → Option FilterName
named_in [] name = None
named_in (n ∷ ns) name = if bytes_eq name n.0 then Some n.1 else named_in ns name

-- the filter of this name
abbrev pub filter_named : List ℕ → Option FilterName
filter_named name = named_in filter_names name

-- the names of a list of the code
abbrev pub named_lines : List (Bor (List ℕ) × FilterName × Bor (List ℕ) × Bor (List ℕ)) → List (List ℕ × FilterName)
named_lines list = map (λ (line : Bor (List ℕ) × FilterName × Bor (List ℕ) × Bor (List ℕ)). (line.0.now, line.1)) list
