-- Which output pad feeds which input pad (ffmpeg-filters, "Filtergraph syntax").
use Rattle.std.specs.Prelude.{ℕ, Bool, zero, suc, ◌+◌, ◌-◌, nat_lt, cond, List, [], ◌∷◌, ◌++◌, length, map, slice_get, Option, None, Some}
use Rattle.std.specs.Str.{bytes_eq}
use Rattle.std.specs.declared.vec.Vec.{Vec}
use Rattle.ff_lang.specs.declared.graph.Filter.{Filter}
use Rattle.ff_graph_links.specs.declared.pads.drawn.Drawn.{Drawn}
use Rattle.ff_graph_links.specs.declared.pads.drawn.Pad.{Pad}

-- A filter as it is drawn: itself, its input pads, its output pads that may be linked without a label, those with one counted too, and
-- whether a filter stands before it in its chain.
pub record Seen : Type 0 where
  pub filter : Filter
  pub inputs : ℕ
  pub outputs : ℕ
  pub follows : Bool

abbrev pub seen : Drawn → Seen
seen d = record { filter = d.filter.now; inputs = d.inputs; outputs = d.outputs; follows = d.follows }

abbrev pub all_seen : List Drawn → List Seen
all_seen ds = map seen ds

-- lists of lists
abbrev pub pads_in : {A : Type 0} → List (Vec (Option Pad) A) → List (List (Option Pad))
pads_in vs = map (λ v. v.items) vs

abbrev pub filters_in : {A : Type 0} → List (Vec ℕ A) → List (List ℕ)
filters_in vs = map (λ v. v.items) vs

-- the place of a label among these, of which the first has number q
abbrev pub place_from : ℕ → List (List ℕ) → List ℕ → Option ℕ
place_from q [] label = None
place_from q (l ∷ ls) label = cond (bytes_eq label l) (Some q) (place_from (suc q) ls label)

abbrev pub pad_or : ℕ → Option ℕ → Option Pad → Option Pad
pad_or k None others = others
pad_or k (Some q) others = Some (record { filter = k; pad = q })

-- the first output pad with this label, of filters of which the first has number k
abbrev pub giver_from : ℕ → List Seen → List ℕ → Option Pad
giver_from k [] label = None
giver_from k (d ∷ ds) label = pad_or k (place_from 0 d.filter.outs label) (giver_from (suc k) ds label)

-- the output pad of filter j that feeds the input pad of number i among those without a label of the filter behind it
abbrev pub next_pad : ℕ → Option Seen → ℕ → Option Pad
next_pad j None i = None
next_pad j (Some d) i = cond (nat_lt (length d.filter.outs + i) d.outputs) (Some (record { filter = j; pad = length d.filter.outs + i })) None

-- the output pad that feeds the input pad of number i among those without a label of filter k
abbrev pub chained : List Seen → ℕ → Seen → ℕ → Option Pad
chained ds k d i = cond d.follows (next_pad (k - 1) (slice_get ds (k - 1)) i) None

-- the output pad that feeds input pad i of filter k, which is d; None where the pad is open
abbrev pub source_by : List Seen → ℕ → Seen → ℕ → Option (List ℕ) → Option Pad
source_by ds k d i (Some label) = giver_from 0 ds label
source_by ds k d i None = chained ds k d (i - length d.filter.ins)

abbrev pub source_of : List Seen → ℕ → Seen → ℕ → Option Pad
source_of ds k d i = source_by ds k d i (slice_get d.filter.ins i)

-- of its input pads from this one on, so many
abbrev pub sources_up : List Seen → ℕ → Seen → ℕ → ℕ → List (Option Pad)
sources_up ds k d i zero = []
sources_up ds k d i (suc n) = source_of ds k d i ∷ sources_up ds k d (suc i) n

-- of each of its input pads
abbrev pub sources_of : List Seen → ℕ → Seen → List (Option Pad)
sources_of ds k d = sources_up ds k d 0 d.inputs

-- of all filters, of which the first has number k
abbrev pub sources_from : List Seen → ℕ → List Seen → List (List (Option Pad))
sources_from ds k [] = []
sources_from ds k (d ∷ rest) = sources_of ds k d ∷ sources_from ds (suc k) rest

abbrev pub filter_and : Option Pad → List ℕ → List ℕ
filter_and None others = others
filter_and (Some p) others = p.filter ∷ others

-- the filters that give these labels
abbrev pub givers : List Seen → List (List ℕ) → List ℕ
givers ds [] = []
givers ds (l ∷ ls) = filter_and (giver_from 0 ds l) (givers ds ls)

-- the output pad that feeds the first input pad without a label, if there is such a pad
abbrev pub first_fed : List Seen → ℕ → Seen → Option Pad
first_fed ds k d = cond (nat_lt (length d.filter.ins) d.inputs) (chained ds k d 0) None

-- The filters that feed filter k, which is d: those that give its labels, also ones for which it has no pad, and the one before
-- it in its chain where a pad of that feeds one of its own.
abbrev pub feeders_of : List Seen → ℕ → Seen → List ℕ
feeders_of ds k d = filter_and (first_fed ds k d) [] ++ givers ds d.filter.ins

abbrev pub feeders_from : List Seen → ℕ → List Seen → List (List ℕ)
feeders_from ds k [] = []
feeders_from ds k (d ∷ rest) = feeders_of ds k d ∷ feeders_from ds (suc k) rest

-- the open ones of the input pads from number i on of filter k, of which each is fed so
abbrev pub opens_at : ℕ → ℕ → List (Option Pad) → List Pad
opens_at k i [] = []
opens_at k i (None ∷ ss) = record { filter = k; pad = i } ∷ opens_at k (suc i) ss
opens_at k i (Some p ∷ ss) = opens_at k (suc i) ss

-- of all filters, of which the first has number k
abbrev pub opens_from : ℕ → List (List (Option Pad)) → List Pad
opens_from k [] = []
opens_from k (ss ∷ rest) = opens_at k 0 ss ++ opens_from (suc k) rest
