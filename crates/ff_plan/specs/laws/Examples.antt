-- Plans of some commands, worked out by hand: jobs with what ff_words and ff_graph say of their graphs.
use Rattle.std.specs.Prelude.{ℕ, Bool, true, false, List, [], ◌∷◌, codes, cond, Option, Some, None, Ok}
use Rattle.std.specs.Str.{bytes_eq}
use Rattle.ff_time.specs.Fraction.{Fraction}
use Rattle.ff_time.specs.declared.cut.TimeCut.{TimeCut}
use Rattle.ff_format.specs.declared.format.Rf64.TheVariants as rf64
use Rattle.ff_frame.specs.declared.hash.HashKind.TheVariants as hash
use Rattle.ff_frame.specs.declared.head.Codec.TheVariants as codec
use Rattle.ff_frame.specs.declared.head.StreamHead.{StreamHead}
use Rattle.ff_frame.specs.declared.head.StreamHead.TheVariants as stream_head
use Rattle.ff_frame.specs.declared.video.Format.TheVariants as picture
use Rattle.ff_stream.specs.declared.item.Lane.TheVariants.{Frames, Packets}
use Rattle.ff_lang.specs.declared.graph.Filter.{Filter}
use Rattle.ff_lang.specs.declared.graph.Graph.{Graph}
use Rattle.ff_source.specs.declared.color.Color.TheVariants.{Black}
use Rattle.ff_source.specs.declared.made.Made.{Made}
use Rattle.ff_source.specs.declared.made.Made.TheVariants.{Pictures}
use Rattle.ff_source.specs.Sources.{head_of}
use Rattle.ff_format.specs.declared.format.FileFormat.{FileFormat}
use Rattle.ff_words.specs.declared.job.Job.{Job}
use Rattle.ff_words.specs.declared.maps.map.Kind.{Kind}
use Rattle.ff_words.specs.declared.maps.map.Kind.TheVariants as kind
use Rattle.ff_words.specs.declared.maps.map.MapFrom.TheVariants as from
use Rattle.ff_words.specs.declared.maps.map.MapSpec.{MapSpec}
use Rattle.ff_words.specs.declared.job.OutputJob.{OutputJob}
use Rattle.ff_words.specs.Words.{none_asked}
use Rattle.ff_words.specs.declared.maps.map.Pick.TheVariants as pick
use Rattle.ff_stream.specs.declared.edges.edge.Edge.{Edge}
use Rattle.ff_plan.specs.declared.planned.Plan.{Plan}
use Rattle.ff_plan.specs.declared.planned.PlanNode.TheVariants as node
use Rattle.ff_plan_layout.specs.declared.layout.GraphText.TheVariants.{Complex, Null}
use Rattle.ff_sched.specs.declared.routes.Way.TheVariants as way
use Rattle.ff_graph_links.specs.labels.Labels.{filters_of, taken_in, given_in}
use Rattle.ff_plan_layout.specs.declared.open_pads.OpenIn.{OpenIn}
use Rattle.ff_plan_layout.specs.Rules.{Rules}

-- the texts that the examples use as labels of streams
abbrev pub example_map : List ℕ → Option MapSpec
example_map text = cond (bytes_eq text (codes "0:a")) (Some (record { from = from.Input 0 (pick.Kind kind.Audio); optional = false }))
    (cond (bytes_eq text (codes "1:v")) (Some (record { from = from.Input 1 (pick.Kind kind.Video); optional = false })) None)

-- a graph of one open input and one open output, which has the head of the input
abbrev pub first_or : StreamHead → List (Option StreamHead) → StreamHead
first_or other (Some h ∷ hs) = h
first_or other hs = other

-- every graph has one open input and one open output, with these labels
abbrev pub example_rules : Option (List ℕ) → Option (List ℕ) → Kind → StreamHead → Rules
example_rules taken given k other = record {
  map_of = example_map;
  known = λ name. true;
  loops = λ g. false;
  open_ins = λ g. record { label = taken; kind = k; source = None } ∷ [];
  source_fault = λ g. None;
  configured = λ g hs. Ok (record { label = given; head = first_or other hs } ∷ []);
}

abbrev pub example_output : TimeCut → FileFormat → List MapSpec → OutputJob
example_output cut f maps = record {
  name = [];
  format = f;
  maps = maps;
  audio = Some codec.PcmU8;
  video = None;
  vf = None;
  af = None;
  no_audio = false;
  no_video = false;
  cut = cut;
  frames = None;
  asked = none_asked;
  shortest = false;
  hash = hash.Sha256;
  rf64 = rf64.Never;
}

abbrev pub example_job : TimeCut → List Graph → FileFormat → List MapSpec → Job
example_job cut graphs f maps = record { queue = 8; trace = None; keeps = false; graphs = graphs; inputs = []; outputs = example_output cut f maps ∷ [] }

abbrev pub sound : Fraction → ℕ → StreamHead
sound t channels = stream_head.Audio t 8000 8 channels codec.PcmU8

abbrev pub pictures : Fraction → StreamHead
pictures t = stream_head.Video t picture.Mono 3 1 0 1

abbrev pub edge : ℕ → ℕ → ℕ → ℕ → StreamHead → Bool → Edge
edge a q b p h packets = record { from = a; out_port = q; to = b; in_port = p; lane = cond packets (Packets h) (Frames h) }

abbrev pub map_in : ℕ → Kind → MapSpec
map_in file k = record { from = from.Input file (pick.Kind k); optional = false }

abbrev pub map_nth : ℕ → Bool → MapSpec
map_nth n optional = record { from = from.Input 0 (pick.Nth kind.Video n); optional = optional }

abbrev pub map_label : List ℕ → MapSpec
map_label l = record { from = from.Label l; optional = false }

-- `-map 0:v -f yuv4mpegpipe`: Demux, Dec, the null graph, Shortest, Enc, Mux
abbrev pub pictures_plan : StreamHead → Plan
pictures_plan h = record {
  nodes = node.Demux 0 ∷ node.Dec (record { input = 0; stream = 0 }) ∷ node.Graph 0 ∷ node.Shortest 0 ∷ node.Enc 0 0 ∷ node.Mux 0 ∷ [];
  edges = edge 0 0 1 0 h true ∷ edge 1 0 2 0 h false ∷ edge 2 0 3 0 h false ∷ edge 3 0 4 0 h false ∷ edge 4 0 5 0 h true ∷ [];
  routes = record { sources = 1; streams = way.Graph 0 ∷ []; graphs = (way.Source 0 ∷ []) ∷ [] };
  texts = Null kind.Video ∷ [];
  made = [];
}

-- `-map 0:a -map 1:v`, with a sound and a picture
abbrev pub two_plan : StreamHead → StreamHead → Plan
two_plan a v = record {
  nodes = node.Demux 0 ∷ node.Demux 1 ∷ node.Dec (record { input = 0; stream = 0 })
      ∷ node.Dec (record { input = 1; stream = 0 }) ∷ node.Graph 0 ∷ node.Graph 1 ∷ node.Shortest 0 ∷ node.Enc 0 0 ∷ node.Enc 0 1 ∷ node.Mux 0 ∷ [];
  edges = edge 0 0 2 0 a true ∷ edge 1 0 3 0 v true ∷ edge 2 0 4 0 a false ∷ edge 3 0 5 0 v false ∷ edge 4 0 6 0 a false ∷ edge 5 0 6 1 v false
      ∷ edge 6 0 7 0 a false ∷ edge 6 1 8 0 v false ∷ edge 7 0 9 0 a true ∷ edge 8 0 9 1 v true ∷ [];
  routes = record { sources = 2; streams = way.Graph 0 ∷ way.Graph 1 ∷ []; graphs = (way.Source 0 ∷ []) ∷ (way.Source 1 ∷ []) ∷ [] };
  texts = Null kind.Audio ∷ Null kind.Video ∷ [];
  made = [];
}

-- `[1:v]trim=end=2,setpts=PTS-STARTPTS[v]`
abbrev pub trim_graph : Graph
trim_graph = record {
  chains = record {
    filters = record { ins = codes "1:v" ∷ []; name = codes "trim"; args = []; outs = [] }
        ∷ record { ins = []; name = codes "setpts"; args = []; outs = codes "v" ∷ [] } ∷ [];
  } ∷ [];
}

-- `-map 0:a -map [v]`: the complex graph is number 0, the null graph of the sound number 1
abbrev pub trimmed_plan : StreamHead → StreamHead → Plan
trimmed_plan a v = record {
  nodes = node.Demux 0 ∷ node.Demux 1 ∷ node.Dec (record { input = 0; stream = 0 })
      ∷ node.Dec (record { input = 1; stream = 0 }) ∷ node.Graph 0 ∷ node.Graph 1 ∷ node.Shortest 0 ∷ node.Enc 0 0 ∷ node.Enc 0 1 ∷ node.Mux 0 ∷ [];
  edges = edge 0 0 2 0 a true ∷ edge 1 0 3 0 v true ∷ edge 3 0 4 0 v false ∷ edge 2 0 5 0 a false ∷ edge 5 0 6 0 a false ∷ edge 4 0 6 1 v false
      ∷ edge 6 0 7 0 a false ∷ edge 6 1 8 0 v false ∷ edge 7 0 9 0 a true ∷ edge 8 0 9 1 v true ∷ [];
  routes = record { sources = 2; streams = way.Graph 1 ∷ way.Graph 0 ∷ []; graphs = (way.Source 1 ∷ []) ∷ (way.Source 0 ∷ []) ∷ [] };
  texts = Complex 0 ∷ Null kind.Audio ∷ [];
  made = [];
}

-- `[0:a]channelsplit[l][r];[r][l]join[o]`
abbrev pub turned_graph : Graph
turned_graph = record {
  chains = record {
    filters = record {
      ins = codes "0:a" ∷ [];
      name = codes "channelsplit";
      args = [];
      outs = codes "l" ∷ codes "r" ∷ [];
    } ∷ [];
  } ∷ record {
    filters = record {
      ins = codes "r" ∷ codes "l" ∷ [];
      name = codes "join";
      args = [];
      outs = codes "o" ∷ [];
    } ∷ [];
  } ∷ [];
}

-- `-map [o]`
abbrev pub turned_plan : StreamHead → Plan
turned_plan a = record {
  nodes = node.Demux 0 ∷ node.Dec (record { input = 0; stream = 0 }) ∷ node.Graph 0 ∷ node.Shortest 0 ∷ node.Enc 0 0 ∷ node.Mux 0 ∷ [];
  edges = edge 0 0 1 0 a true ∷ edge 1 0 2 0 a false ∷ edge 2 0 3 0 a false ∷ edge 3 0 4 0 a false ∷ edge 4 0 5 0 a true ∷ [];
  routes = record { sources = 1; streams = way.Graph 0 ∷ []; graphs = (way.Source 0 ∷ []) ∷ [] };
  texts = Complex 0 ∷ [];
  made = [];
}

-- graphs of one filter, with these labels
abbrev pub null_between : List (List ℕ) → List (List ℕ) → Graph
null_between ins outs = record { chains = record { filters = record { ins = ins; name = codes "anull"; args = []; outs = outs } ∷ [] } ∷ [] }

abbrev pub first_label : List (List ℕ) → Option (List ℕ)
first_label [] = None
first_label (l ∷ ls) = Some l

-- one open input and one open output, with the labels of the graph
abbrev pub labelled_rules : StreamHead → Rules
labelled_rules other = record {
  map_of = example_map;
  known = λ name. true;
  loops = λ g. false;
  open_ins = λ g. record { label = first_label (taken_in g); kind = kind.Audio; source = None } ∷ [];
  source_fault = λ g. None;
  configured = λ g hs. Ok (record { label = first_label (given_in g); head = first_or other hs } ∷ []);
}

-- `[b]anull[o]` and `[0:a]anull[b]`: graph 1 feeds graph 0
abbrev pub turned_graphs : List Graph
turned_graphs = null_between (codes "b" ∷ []) (codes "o" ∷ []) ∷ null_between (codes "0:a" ∷ []) (codes "b" ∷ []) ∷ []

abbrev pub turned_graphs_plan : StreamHead → Plan
turned_graphs_plan a = record {
  nodes = node.Demux 0 ∷ node.Dec (record { input = 0; stream = 0 }) ∷ node.Graph 1 ∷ node.Graph 0 ∷ node.Shortest 0 ∷ node.Enc 0 0 ∷ node.Mux 0 ∷ [];
  edges = edge 0 0 1 0 a true ∷ edge 1 0 2 0 a false ∷ edge 2 0 3 0 a false ∷ edge 3 0 4 0 a false ∷ edge 4 0 5 0 a false ∷ edge 5 0 6 0 a true ∷ [];
  routes = record { sources = 1; streams = way.Graph 0 ∷ []; graphs = (way.Graph 1 ∷ []) ∷ (way.Source 0 ∷ []) ∷ [] };
  texts = Complex 0 ∷ Complex 1 ∷ [];
  made = [];
}

-- `anull` without labels, and no map: its output goes to output 0, and the automatic choice adds the pictures
abbrev pub unlabelled_plan : StreamHead → StreamHead → Plan
unlabelled_plan a v = record {
  nodes = node.Demux 0 ∷ node.Demux 1 ∷ node.Dec (record { input = 0; stream = 0 })
      ∷ node.Dec (record { input = 1; stream = 0 }) ∷ node.Graph 0 ∷ node.Graph 1 ∷ node.Shortest 0 ∷ node.Enc 0 0 ∷ node.Enc 0 1 ∷ node.Mux 0 ∷ [];
  edges = edge 0 0 2 0 a true ∷ edge 1 0 3 0 v true ∷ edge 2 0 4 0 a false ∷ edge 3 0 5 0 v false ∷ edge 4 0 6 0 a false ∷ edge 5 0 6 1 v false
      ∷ edge 6 0 7 0 a false ∷ edge 6 1 8 0 v false ∷ edge 7 0 9 0 a true ∷ edge 8 0 9 1 v true ∷ [];
  routes = record { sources = 2; streams = way.Graph 0 ∷ way.Graph 1 ∷ []; graphs = (way.Source 0 ∷ []) ∷ (way.Source 1 ∷ []) ∷ [] };
  texts = Complex 0 ∷ Null kind.Video ∷ [];
  made = [];
}

-- no map and two sounds: the one with more channels, of input 1; input 0 has no node
abbrev pub automatic_plan : StreamHead → Plan
automatic_plan a = record {
  nodes = node.Demux 1 ∷ node.Dec (record { input = 1; stream = 0 }) ∷ node.Graph 0 ∷ node.Shortest 0 ∷ node.Enc 0 0 ∷ node.Mux 0 ∷ [];
  edges = edge 0 0 1 0 a true ∷ edge 1 0 2 0 a false ∷ edge 2 0 3 0 a false ∷ edge 3 0 4 0 a false ∷ edge 4 0 5 0 a true ∷ [];
  routes = record { sources = 2; streams = way.Graph 0 ∷ []; graphs = (way.Source 1 ∷ []) ∷ [] };
  texts = Null kind.Audio ∷ [];
  made = [];
}

-- a graph whose first filter is `color` takes pictures, and one such picture is made at its open input; other graphs take sound
abbrev pub first_name : List Filter → List ℕ
first_name [] = []
first_name (f ∷ fs) = f.name

abbrev pub is_color : Graph → Bool
is_color g = bytes_eq (first_name (filters_of g)) (codes "color")

abbrev pub color_made : Fraction → Made
color_made t = Pictures (record { color = Black; base = t; width = 2; height = 2; count = 1 })

abbrev pub color_pad : Bool → Made → OpenIn
color_pad true made = record { label = None; kind = kind.Video; source = Some (record { filter = 0; made = Some made }) }
color_pad false made = record { label = None; kind = kind.Audio; source = None }

abbrev pub color_rules : Made → Rules
color_rules made = record {
  map_of = example_map;
  known = λ name. true;
  loops = λ g. false;
  open_ins = λ g. color_pad (is_color g) made ∷ [];
  source_fault = λ g. None;
  configured = λ g hs. Ok (record { label = None; head = first_or (head_of made) hs } ∷ []);
}

-- `color`
abbrev pub color_graph : Graph
color_graph = record { chains = record { filters = record { ins = []; name = codes "color"; args = []; outs = [] } ∷ [] } ∷ [] }

-- no input: a Gen, and no Demux and no Dec
abbrev pub color_plan : Made → Plan
color_plan made = record {
  nodes = node.Gen 0 ∷ node.Graph 0 ∷ node.Shortest 0 ∷ node.Enc 0 0 ∷ node.Mux 0 ∷ [];
  edges = edge 0 0 1 0 (head_of made) false ∷ edge 1 0 2 0 (head_of made) false ∷ edge 2 0 3 0 (head_of made) false ∷ edge 3 0 4 0 (head_of made) true ∷ [];
  routes = record { sources = 1; streams = way.Graph 0 ∷ []; graphs = (way.Source 0 ∷ []) ∷ [] };
  texts = Complex 0 ∷ [];
  made = made ∷ [];
}

-- `-map 0:a` with it: the source has number 1, behind the input
abbrev pub sounded_plan : StreamHead → Made → Plan
sounded_plan a made = record {
  nodes = node.Demux 0 ∷ node.Gen 1 ∷ node.Dec (record { input = 0; stream = 0 }) ∷ node.Graph 0 ∷ node.Graph 1 ∷ node.Shortest 0
      ∷ node.Enc 0 0 ∷ node.Enc 0 1 ∷ node.Mux 0 ∷ [];
  edges = edge 0 0 2 0 a true ∷ edge 1 0 3 0 (head_of made) false ∷ edge 2 0 4 0 a false ∷ edge 3 0 5 0 (head_of made) false ∷ edge 4 0 5 1 a false
      ∷ edge 5 0 6 0 (head_of made) false ∷ edge 5 1 7 0 a false ∷ edge 6 0 8 0 (head_of made) true ∷ edge 7 0 8 1 a true ∷ [];
  routes = record { sources = 2; streams = way.Graph 0 ∷ way.Graph 1 ∷ []; graphs = (way.Source 1 ∷ []) ∷ (way.Source 0 ∷ []) ∷ [] };
  texts = Complex 0 ∷ Null kind.Audio ∷ [];
  made = made ∷ [];
}

-- the same stream twice: the Dec has two outputs
abbrev pub twice_plan : StreamHead → Plan
twice_plan a = record {
  nodes = node.Demux 0 ∷ node.Dec (record { input = 0; stream = 0 }) ∷ node.Graph 0 ∷ node.Graph 1 ∷ node.Shortest 0
      ∷ node.Enc 0 0 ∷ node.Enc 0 1 ∷ node.Mux 0 ∷ [];
  edges = edge 0 0 1 0 a true ∷ edge 1 0 2 0 a false ∷ edge 1 1 3 0 a false ∷ edge 2 0 4 0 a false ∷ edge 3 0 4 1 a false
      ∷ edge 4 0 5 0 a false ∷ edge 4 1 6 0 a false ∷ edge 5 0 7 0 a true ∷ edge 6 0 7 1 a true ∷ [];
  routes = record { sources = 1; streams = way.Graph 0 ∷ way.Graph 1 ∷ []; graphs = (way.Source 0 ∷ []) ∷ (way.Source 0 ∷ []) ∷ [] };
  texts = Null kind.Audio ∷ Null kind.Audio ∷ [];
  made = [];
}
