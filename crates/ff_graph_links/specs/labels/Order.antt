-- Which complex graphs feed which, their order and their loops.
use Rattle.std.specs.Prelude.{◌≡◌, ℕ, zero, suc, ◌+◌, ◌<◌, ◌==◌, ◌&&◌, ◌||◌, Bool, true, false, not, List, [], ◌∷◌, ◌++◌, length, map}
use Rattle.std.specs.Prelude.{slice_get, slice_index_or, Option, Some}
use Rattle.std.specs.List.{filter, find, list_any, range_with_len}
use Rattle.ff_lang.specs.declared.graph.Graph.{Graph}
use Rattle.ff_graph_links.specs.labels.Labels.{meet, taken_in, given_in}
use Rattle.ff_graph_links.specs.orders.Orders.{order_of}

-- the numbers below this one
abbrev pub below : ℕ → List ℕ
below n = range_with_len 0 n

-- a label that the first graph gives stands at an input pad of the second
abbrev pub gives_to : Option Graph → Option Graph → Bool
gives_to (Some a) (Some b) = meet (taken_in b) (given_in a)
gives_to a b = false

-- a label of graph a stands at an input pad of graph b, another one
abbrev pub feeds : List Graph → ℕ → ℕ → Bool
feeds graphs a b = not (a == b) && gives_to (slice_get graphs a) (slice_get graphs b)

-- of so many graphs, of which some feed others, b comes behind a in at most so many steps
abbrev pub comes_behind : (ℕ → ℕ → Bool) → ℕ → ℕ → ℕ → ℕ → Bool
comes_behind feed n zero a b = false
comes_behind feed n (suc steps) a b = feed a b || list_any (λ c. comes_behind feed n steps a c && feed c b) (below n)

-- the least graph on a loop, its own or one of graphs
abbrev pub first_on_loop : (ℕ → ℕ → Bool) → ℕ → List Bool → Option ℕ
first_on_loop feed n own = find (λ g. slice_index_or own g false || comes_behind feed n n g g) (below n)

-- by the labels of the graphs, of which these have a loop of their own
abbrev pub on_loop : List Bool → List Graph → Option ℕ
on_loop own graphs = first_on_loop (feeds graphs) (length graphs) own

abbrev pub is_in : List ℕ → ℕ → Bool
is_in ns n = list_any (λ m. n == m) ns

-- those of the first n that feed b
abbrev pub feeders_to : (ℕ → ℕ → Bool) → ℕ → ℕ → List ℕ
feeders_to feed n b = filter (λ a. feed a b) (below n)

abbrev pub feeders_by : (ℕ → ℕ → Bool) → ℕ → List (List ℕ)
feeders_by feed n = map (feeders_to feed n) (below n)

-- each of the first n behind those that feed it, of those that are ready the lowest first, until none is ready
abbrev pub order_by : (ℕ → ℕ → Bool) → ℕ → List ℕ
order_by feed n = order_of (feeders_by feed n)

-- each graph after those that feed it, else by number: again and again the lowest whose feeders were all taken
abbrev pub graph_order : List Graph → List ℕ
graph_order graphs = order_by (feeds graphs) (length graphs)

-- ---- what holds of an order

-- behind these graphs come these: each is one of the first so many, none stands twice, and all that feed it stand before it
abbrev pub ComeInOrder : (ℕ → ℕ → Bool) → ℕ → List ℕ → List ℕ → Type 0
ComeInOrder feed n before [] = Unit {0}
ComeInOrder feed n before (g ∷ gs) =
    (g < n) × (is_in before g ≡ false) × ((a : ℕ) → a < n → feed a g ≡ true → is_in before a ≡ true) × ComeInOrder feed n (before ++ g ∷ []) gs

-- no graph is on a loop of graphs
abbrev pub HasNoLoop : (ℕ → ℕ → Bool) → ℕ → Type 0
HasNoLoop feed n = (g : ℕ) → g < n → comes_behind feed n n g g ≡ false

-- ---- the same over a table, with a row for each graph that has a mark for each graph that it feeds

abbrev pub cell : List (List Bool) → ℕ → ℕ → Bool
cell rows a b = slice_index_or (slice_index_or rows a []) b false

-- whether one of these, of which the first has number c, is marked and feeds b
abbrev pub reaches : List (List Bool) → ℕ → ℕ → List Bool → Bool
reaches rows b c [] = false
reaches rows b c (mark ∷ marks) = (mark && cell rows c b) || reaches rows b (c + 1) marks
