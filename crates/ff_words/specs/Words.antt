-- What the words of a command line mean, over the whole list.
use Rattle.std.specs.Prelude.{◌≡◌, ℕ, ◌+◌, ◌-◌, ◌≤◌, ◌⊎◌, Bool, true, false, ◌&&◌, ◌||◌, not, ◌==◌, nat_le, nat_lt, if◌then◌else◌, Option, Some, None}
use Rattle.std.specs.Prelude.{unwrap_or, Result, Ok, Err, List, ◌∷◌, [], ◌++◌, length, is_some, flat_map, option_to_list, String, string_bytes, map}
use Rattle.std.specs.Prelude.{◌^◌}
use Rattle.std.specs.Option.{ForSome}
use Rattle.std.proofs.Common.{lit≤, ap, subst, arith}
use Rattle.std.specs.List.{list_any}
use Rattle.std.specs.Str.{bytes_eq}
use Rattle.std.specs.declared.alloc.Global.{Global}
use Rattle.ff_frame.specs.declared.head.Codec.{Codec}
use Rattle.ff_lang.specs.declared.graph.Graph.{Graph}
use Rattle.ff_lang.specs.Sources.{has_source}
use Rattle.ff_words.specs.declared.maps.map.MapSpec.{MapSpec}
use Rattle.ff_words.specs.declared.error.Fault.{Fault}
use Rattle.ff_words.specs.declared.error.WordKind.{WordKind}
use Rattle.ff_words.specs.declared.error.WordKind.TheVariants.{UnknownOption, MissingValue, BadValue, BadTime, Misplaced, TooMany, NoInput, NoOutput, SameName}
use Rattle.ff_frame.specs.declared.hash.HashKind.{HashKind}
use Rattle.ff_format.specs.declared.format.FileFormat.{FileFormat}
use Rattle.ff_format.specs.declared.format.FileFormat.TheVariants.{FrameHash}
use Rattle.ff_format.specs.declared.format.Rf64.{Rf64}
use Rattle.ff_format.specs.declared.format.Rf64.TheVariants.{Never}
use Rattle.ff_format.specs.Formats.{default_hash, has_file}
use Rattle.ff_words.specs.declared.job.InputJob.{InputJob}
use Rattle.ff_words.specs.declared.job.OutputJob.{OutputJob}
use Rattle.ff_words.specs.declared.job.Asked.{Asked}
use Rattle.ff_words.specs.declared.job.Size.{Size}
use Rattle.ff_frame.specs.declared.video.Format.{Format}
use Rattle.ff_time.specs.Fraction.{Fraction}
use Rattle.ff_words.specs.declared.job.Job.{Job}
use Rattle.ff_words.specs.declared.job.Command.{Command}
use Rattle.ff_words.specs.declared.job.Command.TheVariants as asked
use Rattle.ff_words.specs.declared.job.Solo.{Solo}
use Rattle.ff_words.specs.declared.job.Solo.TheVariants.{Help, Version, SelfRun}
use Rattle.ff_time.specs.declared.cut.TimeCut.{TimeCut}
use Rattle.ff_words.specs.declared.cuts.CutEnd.{CutEnd}
use Rattle.ff_words.specs.declared.value.Micros.{Micros}
use Rattle.ff_words.specs.declared.table.Rule.{Rule}
use Rattle.ff_words.specs.declared.table.Kind.{Kind}
use Rattle.ff_words.specs.declared.table.Kind.TheVariants as kind
use Rattle.ff_words.specs.declared.table.Concern.{Concern}
use Rattle.ff_words.specs.declared.table.Concern.TheVariants.{All, Alone, Output, Itself}
use Rattle.ff_words.specs.declared.value.Value.{Value}
use Rattle.ff_words.specs.declared.value.Value.TheVariants as value
use Rattle.ff_words.specs.Names.{stdin, output_name}
use Rattle.ff_words.specs.Table.{option_named, format_ending}
use Rattle.ff_words.specs.Values.{Reads, switched}

-- the words as texts
abbrev pub texts : List (String Global) → List (List ℕ)
texts words = map string_bytes words

abbrev pub fault : ℕ → WordKind → Fault
fault word kind = record { word = word; kind = kind }

-- ---- (a) the words fall into options with their values, inputs and outputs

-- a word that isn't taken as a value, its place, and the word behind it where that is its value
pub record Token : Type 0 where
  pub at : ℕ
  pub word : List ℕ
  pub value : Option (List ℕ)

-- it begins with `-`, and goes on
abbrev pub is_dashed : List ℕ → Bool
is_dashed [] = false
is_dashed (b ∷ []) = false
is_dashed (b ∷ c ∷ bs) = b == 45

abbrev pub takes : Option Rule → Bool
takes None = false
takes (Some rule) = not (is_some (switched rule.kind))

-- the word is an option with a value
abbrev pub takes_value : List ℕ → Bool
takes_value word = takes (option_named word)

abbrev pub tokens : ℕ → List (List ℕ) → List Token
tokens n [] = []
tokens n (w ∷ []) = (record { at = n; word = w; value = None }) ∷ []
tokens n (w ∷ v ∷ ws) =
    if takes_value w
    then (record { at = n; word = w; value = Some v }) ∷ tokens (n + 2) ws
    else (record { at = n; word = w; value = None }) ∷ tokens (n + 1) (v ∷ ws)

-- ---- (b) each file has the options between it and the file before

-- a token that was read: its place, whom it concerns and its value
pub record Entry : Type 0 where
  pub at : ℕ
  pub concern : Concern
  pub value : Value

abbrev pub is_file : Value → Bool
is_file (value.Input name) = true
is_file (value.Output name ending) = true
is_file _ = false

-- a file and its own options
pub record Group : Type 0 where
  pub own : List Entry
  pub file : Value

-- files with their options, and the options behind the last file
pub record Groups : Type 0 where
  pub files : List Group
  pub behind : List Entry

-- one option more in front
abbrev pub led : Entry → List Group → List Entry → Groups
led e [] behind = record { files = []; behind = e ∷ behind }
led e (g ∷ files) behind = record { files = (record { own = e ∷ g.own; file = g.file }) ∷ files; behind = behind }

abbrev pub groups : List Entry → Groups
groups [] = record { files = []; behind = [] }
groups (e ∷ es) =
    if is_file e.value
    then record { files = (record { own = []; file = e.value }) ∷ (groups es).files; behind = (groups es).behind }
    else led e (groups es).files (groups es).behind

-- ---- (c) the fields are those options' values

abbrev pub or_else : {X : Type 0} → Option X → Option X → Option X
or_else (Some x) other = Some x
or_else None other = other

-- what the last of them gives that gives something
abbrev pub last : {X : Type 0} → (Value → Option X) → List Entry → Option X
last f [] = None
last f (e ∷ es) = or_else (last f es) (f e.value)

-- the same, by their places too
abbrev pub last_place : {X : Type 0} → (ℕ → Value → Option X) → List Entry → Option X
last_place f [] = None
last_place f (e ∷ es) = or_else (last_place f es) (f e.at e.value)

-- what all of them give, in their order
abbrev pub each : {X : Type 0} → (Value → Option X) → List Entry → List X
each f es = flat_map (λ (e : Entry). option_to_list (f e.value)) es

abbrev pub as_format : Value → Option FileFormat
as_format (value.Format f read written) = Some f
as_format _ = None

abbrev pub as_start : Value → Option Micros
as_start (value.Start m) = Some m
as_start _ = None

abbrev pub as_length : Value → Option Micros
as_length (value.Length m) = Some m
as_length _ = None

-- with the place of the value and its length
abbrev pub as_end : ℕ → Value → Option CutEnd
as_end at (value.End us n) = Some (record { end = us; word = at + 1; len = n })
as_end at _ = None

abbrev pub as_map : Value → Option MapSpec
as_map (value.Map m) = Some m
as_map _ = None

abbrev pub as_audio : Value → Option Codec
as_audio (value.AudioCodec c) = Some c
as_audio _ = None

abbrev pub as_video : Value → Option Codec
as_video (value.VideoCodec c) = Some c
as_video _ = None

abbrev pub as_vf : Value → Option Graph
as_vf (value.VideoGraph g) = Some g
as_vf _ = None

abbrev pub as_af : Value → Option Graph
as_af (value.AudioGraph g) = Some g
as_af _ = None

abbrev pub as_no_audio : Value → Option Bool
as_no_audio value.NoAudio = Some true
as_no_audio _ = None

abbrev pub as_no_video : Value → Option Bool
as_no_video value.NoVideo = Some true
as_no_video _ = None

abbrev pub as_shortest : Value → Option Bool
as_shortest value.Shortest = Some true
as_shortest _ = None

abbrev pub as_frames : Value → Option ℕ
as_frames (value.Frames n) = Some n
as_frames _ = None

abbrev pub as_rate : Value → Option ℕ
as_rate (value.Rate n) = Some n
as_rate _ = None

abbrev pub as_channels : Value → Option ℕ
as_channels (value.Channels n) = Some n
as_channels _ = None

abbrev pub as_pixels : Value → Option Format
as_pixels (value.Pixels f) = Some f
as_pixels _ = None

abbrev pub as_base : Value → Option Fraction
as_base (value.FrameRate base) = Some base
as_base _ = None

abbrev pub as_size : Value → Option Size
as_size (value.Size s) = Some s
as_size _ = None

abbrev pub as_hash : Value → Option HashKind
as_hash (value.Hash h) = Some h
as_hash _ = None

abbrev pub as_rf64 : Value → Option Rf64
as_rf64 (value.Rf64 mode) = Some mode
as_rf64 _ = None

abbrev pub as_queue : Value → Option ℕ
as_queue (value.Queue n) = Some n
as_queue _ = None

abbrev pub as_trace : Value → Option (List ℕ)
as_trace (value.Trace name) = Some name
as_trace _ = None

abbrev pub as_keeps : Value → Option Bool
as_keeps (value.Keeps b) = Some b
as_keeps _ = None

abbrev pub as_graph : Value → Option Graph
as_graph (value.Complex g) = Some g
as_graph _ = None

abbrev pub as_solo : Value → Option Solo
as_solo (value.Solo s) = Some s
as_solo _ = None

-- the cut from a start on, 0 where none is given, of the length that is given, or else up to the end that is
abbrev pub start_of : Option Micros → ℕ
start_of None = 0
start_of (Some m) = m.us

abbrev pub length_of : ℕ → Option Micros → Option CutEnd → Option ℕ
length_of start (Some m) end = Some m.us
length_of start None (Some e) = Some (e.end.us - start)
length_of start None None = None

pub start_of_bound : (o : Option Micros) → start_of o ≤ 10 ^ 15
start_of_bound None = lit≤ tt
start_of_bound (Some m) = m.bound

AtNone : Option ℕ → Type 0
AtNone None = Unit {0}
AtNone (Some n) = ⊥

none_some : (n : ℕ) → None ≡ Some n → ⊥
unfolding AtNone
none_some n e = subst AtNone e tt

same_some : (m n : ℕ) → Some m ≡ Some n → m ≡ n
same_some m n e = ap (λ o. unwrap_or o m) e

pub length_of_bound : (start : ℕ) (o : Option Micros) (end : Option CutEnd) → ForSome (length_of start o end) (λ n. n ≤ 10 ^ 15)
length_of_bound start (Some m) end = λ n e. subst (λ k. k ≤ 10 ^ 15) (same_some m.us n e) m.bound
length_of_bound start None (Some t) = λ n e. subst (λ k. k ≤ 10 ^ 15) (same_some (t.end.us - start) n e) (omega (arith, t.end.bound))
length_of_bound start None None = λ n e. absurd (none_some n e)

abbrev pub cut_of : Option Micros → Option Micros → Option CutEnd → TimeCut
cut_of start length end =
    record {
      start = start_of start;
      length = length_of (start_of start) length end;
      start_bound = start_of_bound start;
      length_bound = length_of_bound (start_of start) length end;
    }

-- that of these options
abbrev pub own_cut : List Entry → TimeCut
own_cut own = cut_of (last as_start own) (last as_length own) (last_place as_end own)

-- what these options ask the streams of an output to be
abbrev pub own_asked : List Entry → Asked
own_asked own =
    record {
      rate = last as_rate own;
      channels = last as_channels own;
      pixels = last as_pixels own;
      base = last as_base own;
      size = last as_size own;
    }

-- without an option they may be anything
abbrev pub none_asked : Asked
none_asked = record { rate = None; channels = None; pixels = None; base = None; size = None }

abbrev pub input_job : List Entry → List ℕ → InputJob
input_job own name = record { name = name; format = last as_format own; cut = own_cut own }

-- the format that is given, else the one that the name's ending tells
abbrev pub output_format : List Entry → Option FileFormat → Option FileFormat
output_format own ending = or_else (last as_format own) ending

-- the name of an output of this format; where it goes nowhere the word isn't looked at
abbrev pub name_as : FileFormat → List ℕ → Option (List ℕ)
name_as f word = if has_file f then output_name word else Some word

abbrev pub job_name : FileFormat → List ℕ → List ℕ
job_name f word = unwrap_or (name_as f word) word

abbrev pub output_job : List Entry → List ℕ → Option FileFormat → OutputJob
output_job own word ending =
    record {
      name = job_name (unwrap_or (output_format own ending) FrameHash) word;
      format = unwrap_or (output_format own ending) FrameHash;
      maps = each as_map own;
      audio = last as_audio own;
      video = last as_video own;
      vf = last as_vf own;
      af = last as_af own;
      no_audio = unwrap_or (last as_no_audio own) false;
      no_video = unwrap_or (last as_no_video own) false;
      cut = own_cut own;
      frames = last as_frames own;
      asked = own_asked own;
      shortest = unwrap_or (last as_shortest own) false;
      hash = unwrap_or (last as_hash own) (default_hash (unwrap_or (output_format own ending) FrameHash));
      rf64 = unwrap_or (last as_rf64 own) Never;
    }

abbrev pub group_input : List Entry → Value → List InputJob
group_input own (value.Input name) = input_job own name ∷ []
group_input own _ = []

abbrev pub group_output : List Entry → Value → List OutputJob
group_output own (value.Output word ending) = output_job own word ending ∷ []
group_output own _ = []

abbrev pub inputs : List Entry → List InputJob
inputs es = flat_map (λ (g : Group). group_input g.own g.file) (groups es).files

abbrev pub outputs : List Entry → List OutputJob
outputs es = flat_map (λ (g : Group). group_output g.own g.file) (groups es).files

abbrev pub job : List Entry → Job
job es =
    record {
      queue = unwrap_or (last as_queue es) 8;
      trace = last as_trace es;
      keeps = unwrap_or (last as_keeps es) false;
      graphs = each as_graph es;
      inputs = inputs es;
      outputs = outputs es;
    }

abbrev pub command_by : Option Solo → List Entry → Command
command_by (Some s) es = asked.Solo s
command_by None es = asked.Run (job es)

abbrev pub command : List Entry → Command
command es = command_by (last as_solo es) es

-- ---- faults, each by itself

-- a word beyond the 1,024th, or of more than 65,536 bytes
abbrev pub is_too_much : ℕ → List ℕ → Bool
is_too_much at word = nat_le 1024 at || nat_lt 65536 (length word)

-- the 17th of those that add up
abbrev pub is_full : List Entry → Kind → Bool
is_full es kind.Map = nat_le 16 (length (each as_map (groups es).behind))
is_full es kind.Complex = nat_le 16 (length (each as_graph es))
is_full es _ = false

abbrev pub value_fault : List Entry → ℕ → Kind → List ℕ → Option Fault
value_fault es at k v =
    if is_full es k then Some (fault at TooMany) else
    (if is_too_much (at + 1) v then Some (fault (at + 1) TooMany) else None)

abbrev pub given_fault : List Entry → ℕ → Kind → Option (List ℕ) → Option Fault
given_fault es at k None = Some (fault at MissingValue)
given_fault es at k (Some v) = value_fault es at k v

abbrev pub option_fault : List Entry → Token → Option Rule → Option Fault
option_fault es t None = Some (fault t.at UnknownOption)
option_fault es t (Some rule) = if takes (Some rule) then given_fault es t.at rule.kind t.value else None

-- What is wrong with a token behind those that were read, before its value is looked at: the word is too much, it is no
-- option, its value is missing, it is one too many, or its value is too much.
abbrev pub early : List Entry → Token → Option Fault
early es t =
    if is_too_much t.at t.word then Some (fault t.at TooMany) else
    (if is_dashed t.word then option_fault es t (option_named t.word) else None)

abbrev pub placed : ℕ → Result Value WordKind → Result Value Fault
placed at (Ok v) = Ok v
placed at (Err k) = Err (fault at k)

-- what an option reads as
abbrev pub IsOption : ℕ → Rule → Option Value → Option (List ℕ) → Concern → Result Value Fault → Type 0
IsOption at rule (Some v) given concern r = (concern ≡ rule.concern) × (r ≡ Ok v)
IsOption at rule None None concern r = ⊥
IsOption at rule None (Some text) concern r =
    (concern ≡ rule.concern) × (read : Result Value WordKind) × Reads rule.kind text read × (r ≡ placed (at + 1) read)

abbrev pub IsNamed : Token → Option Rule → Concern → Result Value Fault → Type 0
IsNamed t None concern r = ⊥
IsNamed t (Some rule) concern r = IsOption t.at rule (switched rule.kind) t.value concern r

-- The token concerns so, and reads as this value or is this fault. A word that isn't dashed is an output.
abbrev pub IsToken : Token → Bool → Concern → Result Value Fault → Type 0
IsToken t false concern r = (concern ≡ Itself) × (r ≡ Ok (value.Output t.word (format_ending t.word)))
IsToken t true concern r = IsNamed t (option_named t.word) concern r

abbrev pub TokenReads : Token → Concern → Result Value Fault → Type 0
TokenReads t concern r = IsToken t (is_dashed t.word) concern r

-- the place of the first option for which the test holds
abbrev pub first_place : (Concern → Bool) → List Entry → Option ℕ
first_place test [] = None
first_place test (e ∷ es) = if test e.concern then Some e.at else first_place test es

abbrev pub not_before_input : Concern → Bool
not_before_input Alone = true
not_before_input Output = true
not_before_input _ = false

abbrev pub not_before_output : Concern → Bool
not_before_output Alone = true
not_before_output _ = false

abbrev pub not_at_end : Concern → Bool
not_at_end All = false
not_at_end Itself = false
not_at_end _ = true

abbrev pub misplaced : Option ℕ → Option Fault → Option Fault
misplaced (Some at) other = Some (fault at Misplaced)
misplaced None other = other

-- the place of a format's value, where an input can't have it, and where an output can't
abbrev pub unread_place : ℕ → Value → Option (Option ℕ)
unread_place at (value.Format f read written) = Some (if read then None else Some (at + 1))
unread_place at _ = None

abbrev pub unwritten_place : ℕ → Value → Option (Option ℕ)
unwritten_place at (value.Format f read written) = Some (if written then None else Some (at + 1))
unwritten_place at _ = None

abbrev pub unreadable : List Entry → Option ℕ
unreadable own = unwrap_or (last_place unread_place own) None

abbrev pub unwritable : List Entry → Option ℕ
unwritable own = unwrap_or (last_place unwritten_place own) None

abbrev pub bad_at : Option ℕ → Option Fault
bad_at None = None
bad_at (Some at) = Some (fault at BadValue)

abbrev pub is_some_name : Option (List ℕ) → Bool
is_some_name None = false
is_some_name (Some name) = not (length name == 0)

-- an output has a format, and a name that isn't empty
abbrev pub is_output : List ℕ → Option FileFormat → Bool
is_output word None = false
is_output word (Some f) = is_some_name (name_as f word)

-- an end that isn't after the start, where no length is given
abbrev pub ends_early : ℕ → Option Micros → Option CutEnd → Option Fault
ends_early start (Some m) end = None
ends_early start None (Some e) = if nat_lt start e.end.us then None else Some (fault e.word (BadTime e.len))
ends_early start None None = None

abbrev pub own_early : List Entry → Option Fault
own_early own = ends_early (start_of (last as_start own)) (last as_length own) (last_place as_end own)

-- What is wrong at a file behind those that were read: an option that doesn't concern it, one file too many, a cut that ends before
-- it starts, a format or a name that it can't have.
abbrev pub input_fault : List Entry → ℕ → Option Fault
input_fault es at =
    misplaced (first_place not_before_input (groups es).behind)
    (if nat_le 16 (length (inputs es)) then Some (fault (at + 1) TooMany) else
    or_else (own_early (groups es).behind) (bad_at (unreadable (groups es).behind)))

abbrev pub output_fault : List Entry → ℕ → List ℕ → Option FileFormat → Option Fault
output_fault es at word ending =
    misplaced (first_place not_before_output (groups es).behind)
    (if nat_le 16 (length (outputs es)) then Some (fault at TooMany) else
    or_else (own_early (groups es).behind)
    (or_else (bad_at (unwritable (groups es).behind))
    (if is_output word (output_format (groups es).behind ending) then None else Some (fault at BadValue))))

abbrev pub late : List Entry → ℕ → Value → Option Fault
late es at (value.Input name) = input_fault es at
late es at (value.Output word ending) = output_fault es at word ending
late es at _ = None

-- ---- reading

-- the token, behind those that were read, is read as this entry
abbrev pub IsEntry : List Entry → Token → Entry → Type 0
IsEntry es t e = (early es t ≡ None) × TokenReads t e.concern (Ok e.value) × (e.at ≡ t.at) × (late es t.at e.value ≡ None)

-- the token, behind those that were read, is this fault
abbrev pub IsFaultAt : List Entry → Token → Fault → Type 0
IsFaultAt es t f =
    (early es t ≡ Some f)
    ⊎ (((concern : Concern) × (early es t ≡ None) × TokenReads t concern (Err f))
    ⊎ ((concern : Concern) × (v : Value) × (early es t ≡ None) × TokenReads t concern (Ok v) × (late es t.at v ≡ Some f)))

-- behind entries the tokens are read as more of them
abbrev pub AreRead : List Entry → List Token → List Entry → Type 0
AreRead es [] all = es ≡ all
AreRead es (t ∷ ts) all = (e : Entry) × IsEntry es t e × AreRead (es ++ e ∷ []) ts all

-- the name of an output's file; what goes nowhere has none
abbrev pub output_file : OutputJob → Option (List ℕ)
output_file o = if has_file o.format then Some o.name else None

-- the files that are written, by number: those of the outputs, and then the trace
abbrev pub written : Job → List (Option (List ℕ))
written j = map output_file j.outputs ++ map (λ (name : List ℕ). Some name) (option_to_list j.trace)

-- the names of those of outputs
abbrev pub file_names : List OutputJob → List (List ℕ)
file_names outputs = flat_map (λ (o : OutputJob). option_to_list (output_file o)) outputs

abbrev pub read_names : Job → List (List ℕ)
read_names j = map (λ (i : InputJob). i.name) j.inputs

-- a name that stands twice among what is written, or there and among what is read
abbrev pub repeats : List (List ℕ) → List (List ℕ) → Bool
repeats [] others = false
repeats (n ∷ ns) others = list_any (λ m. bytes_eq m n) (ns ++ others) || repeats ns others

abbrev pub same_name : Job → Bool
same_name j = repeats (file_names j.outputs ++ option_to_list j.trace) (read_names j)

-- the name stands twice
abbrev pub is_twice : List ℕ → List (List ℕ) → Bool
is_twice name [] = false
is_twice name (n ∷ ns) = if bytes_eq n name then list_any (λ m. bytes_eq m name) ns else is_twice name ns

-- standard input is read once
abbrev pub shares_name : Job → Bool
shares_name j = same_name j || is_twice stdin (read_names j)

-- it reads no file, and none of its graphs makes a stream
abbrev pub lacks_input : List InputJob → List Graph → Bool
lacks_input inputs graphs = (length inputs == 0) && not (list_any has_source graphs)

abbrev pub run_fault : ℕ → Job → Option Fault
run_fault count j =
    if lacks_input j.inputs j.graphs then Some (fault count NoInput) else
    (if length j.outputs == 0 then Some (fault count NoOutput) else
    (if shares_name j then Some (fault count SameName) else None))

abbrev pub end_by : ℕ → Command → Option Fault
end_by count (asked.Solo s) = None
end_by count (asked.Run j) = run_fault count j

-- how many words such an option is, with its value
abbrev pub word_count : Solo → ℕ
word_count Help = 1
word_count Version = 1
word_count (SelfRun n) = 2

-- it is all of so many words
abbrev pub stands_alone : ℕ → Option Solo → Bool
stands_alone count None = false
stands_alone count (Some s) = count == word_count s

-- what is wrong at the end of so many words
abbrev pub end_fault : ℕ → List Entry → Option Fault
end_fault count es =
    if stands_alone count (last as_solo es) then None else
    misplaced (first_place not_at_end (groups es).behind) (end_by count (command es))

-- behind those that were read, some tokens are read, and the next is this fault
abbrev pub Stops : List Entry → List Token → Fault → Type 0
Stops es ts f =
    (front : List Token) × (t : Token) × (behind : List Token) × (all : List Entry)
    × (ts ≡ front ++ t ∷ behind) × AreRead es front all × IsFaultAt all t f

-- the words are this command, or this is their first fault
abbrev pub IsAnswer : List (List ℕ) → Result Command Fault → Type 0
IsAnswer words (Ok c) =
    (es : List Entry) × AreRead [] (tokens 0 words) es × (end_fault (length words) es ≡ None) × (c ≡ command es)
IsAnswer words (Err f) =
    Stops [] (tokens 0 words) f
    ⊎ ((es : List Entry) × AreRead [] (tokens 0 words) es × (end_fault (length words) es ≡ Some f))

-- whatever follows the words, their last option has its value among them
abbrev pub EndsBetween : List (List ℕ) → Type 0
EndsBetween front =
    (behind : List (List ℕ)) → tokens 0 (front ++ behind) ≡ tokens 0 front ++ tokens (length front) behind

-- a fault at one of the words, not at their end
abbrev pub FaultOfFront : List (List ℕ) → Fault → Type 0
FaultOfFront front f = Stops [] (tokens 0 front) f
