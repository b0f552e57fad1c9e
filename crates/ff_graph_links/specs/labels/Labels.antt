-- Labels of filtergraphs: which a graph takes and which it gives.
use Rattle.std.specs.Prelude.{ℕ, ◌≤◌, Bool, List, length}
use Rattle.std.specs.List.{flat_map, list_any}
use Rattle.std.specs.Str.{bytes_eq}
use Rattle.ff_lang.specs.declared.graph.Filter.{Filter}
use Rattle.ff_lang.specs.declared.graph.Graph.{Graph}

abbrev pub is_one_of : List ℕ → List (List ℕ) → Bool
is_one_of text texts = list_any (bytes_eq text) texts

-- filters in the order of writing, and their labels
abbrev pub filters_of : Graph → List Filter
filters_of g = flat_map (λ c. c.filters) g.chains

-- a graph of at most 65,536 filters
abbrev pub IsShort : Graph → Type 0
IsShort g = length (filters_of g) ≤ 65536

abbrev pub ins_of : List Filter → List (List ℕ)
ins_of fs = flat_map (λ f. f.ins) fs

abbrev pub outs_of : List Filter → List (List ℕ)
outs_of fs = flat_map (λ f. f.outs) fs

abbrev pub taken_in : Graph → List (List ℕ)
taken_in g = ins_of (filters_of g)

abbrev pub given_in : Graph → List (List ℕ)
given_in g = outs_of (filters_of g)

-- whether one of these labels is one of those
abbrev pub meet : List (List ℕ) → List (List ℕ) → Bool
meet labels texts = list_any (λ l. is_one_of l texts) labels
