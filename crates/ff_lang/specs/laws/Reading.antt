-- Reading a filtergraph byte by byte.
use Rattle.std.specs.Prelude.{◌≡◌, ℕ, Bool, true, false, ◌&&◌, Option, Some, None, List, [], ◌∷◌, ◌++◌, length, nat_lt, ◌==◌, if◌then◌else◌}
use Rattle.ff_lang.specs.Letters.{is_word_byte, is_label_byte, is_blank, is_special}
use Rattle.ff_lang.specs.declared.graph.Arg.{Arg}
use Rattle.ff_lang.specs.declared.graph.Filter.{Filter}
use Rattle.ff_lang.specs.declared.graph.Chain.{Chain}
use Rattle.ff_lang.specs.declared.graph.Graph.{Graph}
use Rattle.ff_lang.specs.declared.parser.Parser.{Parser}
use Rattle.ff_lang.specs.declared.parser.Place.{Place}
use Rattle.ff_lang.specs.declared.parser.Place.TheVariants.{Front, InLabel, Name, Named, Key, Value, Quoted, Escaped, OutLabel, Back}

abbrev pub empty_arg : Arg
empty_arg = record { key = None; value = [] }

abbrev pub empty_filter : Filter
empty_filter = record { ins = []; name = []; args = []; outs = [] }

abbrev pub empty_chain : Chain
empty_chain = record { filters = [] }

-- before a filter, behind those of its chain and behind whole chains
abbrev pub before : Graph → Chain → Parser
before graph chain = record { place = Front; graph = graph; chain = chain; filter = empty_filter; arg = empty_arg; label = [] }

abbrev pub start : Parser
start = before (record { chains = [] }) empty_chain

-- at a place
abbrev pub to : Place → Parser → Parser
to place s = record s { place = place }

-- a label begins
abbrev pub bracket : Place → Parser → Parser
bracket place s = record s { place = place; label = [] }

-- the chain with the filter, and the graph with the chain
abbrev pub with_filter : Chain → Filter → Chain
with_filter chain filter = record { filters = chain.filters ++ filter ∷ [] }

abbrev pub with_chain : Graph → Chain → Graph
with_chain graph chain = record { chains = graph.chains ++ chain ∷ [] }

-- an argument ends
abbrev pub ended : Parser → Parser
ended s = record s { filter = record s.filter { args = s.filter.args ++ s.arg ∷ [] }; arg = empty_arg }

abbrev pub pushed : Place → List ℕ → Parser → Parser
pushed place bytes s = record s { place = place; arg = record s.arg { value = s.arg.value ++ bytes } }

abbrev pub next_filter : Parser → Parser
next_filter s = record s { place = Front; filter = empty_filter; chain = with_filter s.chain s.filter }

abbrev pub next_chain : Parser → Parser
next_chain s = record s { place = Front; filter = empty_filter; chain = empty_chain; graph = with_chain s.graph (with_filter s.chain s.filter) }

-- a label behind the filter, or its end
abbrev pub tail_next : Parser → ℕ → Option Parser
tail_next s c =
    if c == 91 then Some (bracket OutLabel s) else
    (if c == 44 then Some (next_filter s) else
    (if c == 59 then Some (next_chain s) else None))

abbrev pub front_next : Parser → ℕ → List ℕ → Option Parser
front_next s c bytes =
    if is_word_byte c then Some (record s { place = Name; filter = record s.filter { name = bytes } }) else
    (if is_blank c then Some s else
    (if c == 91 then Some (bracket InLabel s) else None))

abbrev pub in_label_next : Parser → ℕ → List ℕ → Option Parser
in_label_next s c bytes =
    if is_label_byte c && nat_lt (length s.label) 64 then Some (record s { label = s.label ++ bytes }) else
    (if (c == 93) && nat_lt 0 (length s.label) then Some (record s { place = Front; filter = record s.filter { ins = s.filter.ins ++ s.label ∷ [] }; label = [] }) else None)

abbrev pub named_next : Parser → ℕ → Option Parser
named_next s c =
    if is_blank c then Some (to Named s) else
    (if c == 61 then Some (record s { place = Key; arg = empty_arg }) else tail_next s c)

abbrev pub name_next : Parser → ℕ → List ℕ → Option Parser
name_next s c bytes =
    if is_word_byte c && nat_lt (length s.filter.name) 64 then Some (record s { filter = record s.filter { name = s.filter.name ++ bytes } }) else
    named_next s c

abbrev pub special_next : Parser → ℕ → Option Parser
special_next s c =
    if c == 39 then Some (to Quoted s) else
    (if c == 92 then Some (to Escaped s) else
    (if c == 58 then Some (to Key (ended s)) else tail_next (ended s) c))

abbrev pub value_next : Parser → ℕ → List ℕ → Option Parser
value_next s c bytes = if is_special c then special_next s c else Some (pushed Value bytes s)

abbrev pub key_next : Parser → ℕ → List ℕ → Option Parser
key_next s c bytes =
    if is_word_byte c && nat_lt (length s.arg.value) 64 then Some (pushed Key bytes s) else
    (if (c == 61) && nat_lt 0 (length s.arg.value) then Some (record s { place = Value; arg = record { key = Some s.arg.value; value = [] } }) else
    value_next s c bytes)

abbrev pub quoted_next : Parser → ℕ → List ℕ → Option Parser
quoted_next s c bytes = if c == 39 then Some (to Value s) else Some (pushed Quoted bytes s)

abbrev pub out_label_next : Parser → ℕ → List ℕ → Option Parser
out_label_next s c bytes =
    if is_label_byte c && nat_lt (length s.label) 64 then Some (record s { label = s.label ++ bytes }) else
    (if (c == 93) && nat_lt 0 (length s.label) then Some (record s { place = Back; filter = record s.filter { outs = s.filter.outs ++ s.label ∷ [] }; label = [] }) else None)

abbrev pub back_next : Parser → ℕ → Option Parser
back_next s c = if is_blank c then Some s else tail_next s c

abbrev pub place_next : Place → Parser → ℕ → List ℕ → Option Parser
place_next Front s c bytes = front_next s c bytes
place_next InLabel s c bytes = in_label_next s c bytes
place_next Name s c bytes = name_next s c bytes
place_next Named s c bytes = named_next s c
place_next Key s c bytes = key_next s c bytes
place_next Value s c bytes = value_next s c bytes
place_next Quoted s c bytes = quoted_next s c bytes
place_next Escaped s c bytes = Some (pushed Value bytes s)
place_next OutLabel s c bytes = out_label_next s c bytes
place_next Back s c bytes = back_next s c

-- reading goes on by a character and its bytes, or no graph does
abbrev pub char_next : Parser → ℕ → List ℕ → Option Parser
char_next s c bytes = place_next s.place s c bytes

-- the same by one byte
abbrev pub byte_next : Parser → ℕ → Option Parser
byte_next s b = char_next s b (b ∷ [])

abbrev pub graph_of : Parser → Graph
graph_of s = with_chain s.graph (with_filter s.chain s.filter)

abbrev pub place_end : Place → Parser → Option Graph
place_end Front s = None
place_end InLabel s = None
place_end Name s = Some (graph_of s)
place_end Named s = Some (graph_of s)
place_end Key s = Some (graph_of (ended s))
place_end Value s = Some (graph_of (ended s))
place_end Quoted s = None
place_end Escaped s = None
place_end OutLabel s = None
place_end Back s = Some (graph_of s)

-- the graph, where the text may end here
abbrev pub end_of : Parser → Option Graph
end_of s = place_end s.place s

-- an answer whether reading goes on, and the reader after it
abbrev pub Goes : Option Parser → Bool → Parser → Type 0
Goes next true s = next ≡ Some s
Goes next false s = next ≡ None
