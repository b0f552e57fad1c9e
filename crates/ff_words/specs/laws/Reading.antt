-- What one pass keeps of the entries it has read, and what one more entry makes of it.
use Rattle.std.specs.Prelude.{◌≡◌, ℕ, ◌+◌, Bool, true, false, Option, Some, None, unwrap_or, List, ◌∷◌, [], ◌++◌, if◌then◌else◌}
use Rattle.ff_words.specs.declared.table.Concern.{Concern}
use Rattle.ff_format.specs.declared.format.FileFormat.{FileFormat}
use Rattle.ff_words.specs.declared.value.Value.{Value}
use Rattle.ff_words.specs.declared.value.Value.TheVariants as value
use Rattle.ff_words.specs.declared.reader.Pending.{Pending}
use Rattle.ff_words.specs.declared.reader.Reader.{Reader}
use Rattle.std.specs.Prelude.{drop, slice_get, ◌≤◌, nat_le, length, Result, Ok, Err}
use Rattle.std.specs.Prelude.{map, option_to_list, ◌||◌}
use Rattle.std.specs.List.{list_any}
use Rattle.std.specs.Str.{bytes_eq}
use Rattle.ff_words.specs.declared.job.InputJob.{InputJob}
use Rattle.ff_time.specs.declared.cut.TimeCut.{TimeCut}
use Rattle.ff_words.specs.declared.job.Command.{Command}
use Rattle.ff_words.specs.declared.job.Command.TheVariants as asked
use Rattle.ff_words.specs.declared.job.Solo.{Solo}
use Rattle.ff_words.specs.declared.error.Fault.{Fault}
use Rattle.ff_words.specs.declared.error.WordError.{WordError}
use Rattle.ff_words.specs.declared.error.WordError.TheVariants.{At, NoMemory}
use Rattle.ff_words.specs.declared.error.WordKind.TheVariants.{TooMany, BadValue}
use Rattle.ff_format.specs.declared.format.Rf64.TheVariants.{Never}
use Rattle.ff_format.specs.Formats.{default_hash}
use Rattle.ff_words.specs.Table.{option_named}
use Rattle.ff_words.specs.Values.{switched}
use Rattle.ff_words.specs.declared.table.Rule.{Rule}
use Rattle.ff_words.specs.declared.table.Kind.{Kind}
use Rattle.ff_words.specs.declared.table.Kind.TheVariants as kind
use Rattle.ff_words.specs.Words.{AreRead, is_too_much, is_dashed}
use Rattle.ff_words.specs.Words.{IsAnswer, end_by, file_names, is_output, takes_value, tokens, Token, written}
use Rattle.ff_words.specs.Words.{fault, misplaced, bad_at, late, unwritable, cut_of, start_of, ends_early, last_place}
use Rattle.ff_words.specs.Words.{IsEntry, IsFaultAt, Entry, groups, last, each, first_place, not_before_input, not_before_output, not_at_end, or_else}
use Rattle.ff_words.specs.Words.{unreadable, as_format, as_start, as_length, as_end, as_map, as_audio, as_video, as_vf, as_af, as_no_audio, as_no_video}
use Rattle.ff_words.specs.Words.{own_asked, as_shortest, as_frames, as_hash, as_rf64, as_queue, as_trace, as_keeps, as_graph, as_solo, stands_alone, inputs, outputs}

-- the options that wait for their file
abbrev pub pending : List Entry → Pending
pending own =
    record {
      before_input = first_place not_before_input own;
      before_output = first_place not_before_output own;
      at_end = first_place not_at_end own;
      format = last as_format own;
      unreadable = unreadable own;
      unwritable = unwritable own;
      start = last as_start own;
      length = last as_length own;
      end = last_place as_end own;
      maps = each as_map own;
      audio = last as_audio own;
      video = last as_video own;
      vf = last as_vf own;
      af = last as_af own;
      no_audio = unwrap_or (last as_no_audio own) false;
      no_video = unwrap_or (last as_no_video own) false;
      frames = last as_frames own;
      asked = own_asked own;
      shortest = unwrap_or (last as_shortest own) false;
      hash = last as_hash own;
      rf64 = last as_rf64 own;
    }

-- all that was read
abbrev pub reader : List Entry → Reader
reader es =
    record {
      queue = unwrap_or (last as_queue es) 8;
      trace = last as_trace es;
      keeps = unwrap_or (last as_keeps es) false;
      solo = last as_solo es;
      graphs = each as_graph es;
      inputs = inputs es;
      outputs = outputs es;
      pending = pending (groups es).behind;
    }

-- one more option, by its concern
abbrev pub kept : Option ℕ → Bool → ℕ → Option ℕ
kept old test at = or_else old (if test then Some at else None)

abbrev pub noted : ℕ → Concern → Pending → Pending
noted at concern p =
    record p {
      before_input = kept p.before_input (not_before_input concern) at;
      before_output = kept p.before_output (not_before_output concern) at;
      at_end = kept p.at_end (not_at_end concern) at;
    }

-- the place of a value where a format can't be had
abbrev pub place_unless : Bool → ℕ → Option ℕ
place_unless done at = if done then None else Some (at + 1)

-- one more option, by its value
abbrev pub valued : ℕ → Value → Pending → Pending
valued at (value.Format f read written) p = record p { format = Some f; unreadable = place_unless read at; unwritable = place_unless written at }
valued at (value.Start us) p = record p { start = Some us }
valued at (value.Length us) p = record p { length = Some us }
valued at (value.End us n) p = record p { end = Some (record { end = us; word = at + 1; len = n }) }
valued at (value.Map m) p = record p { maps = p.maps ++ m ∷ [] }
valued at (value.AudioCodec c) p = record p { audio = Some c }
valued at (value.VideoCodec c) p = record p { video = Some c }
valued at (value.VideoGraph g) p = record p { vf = Some g }
valued at (value.AudioGraph g) p = record p { af = Some g }
valued at value.NoAudio p = record p { no_audio = true }
valued at value.NoVideo p = record p { no_video = true }
valued at value.Shortest p = record p { shortest = true }
valued at (value.Frames n) p = record p { frames = Some n }
valued at (value.Rate n) p = record p { asked = record p.asked { rate = Some n } }
valued at (value.Channels n) p = record p { asked = record p.asked { channels = Some n } }
valued at (value.Pixels f) p = record p { asked = record p.asked { pixels = Some f } }
valued at (value.FrameRate base) p = record p { asked = record p.asked { base = Some base } }
valued at (value.Size s) p = record p { asked = record p.asked { size = Some s } }
valued at (value.Hash h) p = record p { hash = Some h }
valued at (value.Rf64 mode) p = record p { rf64 = Some mode }
valued at _ p = p

abbrev pub waiting : Entry → Pending → Pending
waiting e p = valued e.at e.value (noted e.at e.concern p)

abbrev pub whole : Value → Reader → Reader
whole (value.Queue n) r = record r { queue = n }
whole (value.Trace name) r = record r { trace = Some name }
whole (value.Keeps b) r = record r { keeps = b }
whole (value.Solo s) r = record r { solo = Some s }
whole (value.Complex g) r = record r { graphs = r.graphs ++ g ∷ [] }
whole _ r = r

abbrev pub optioned : Entry → Reader → Reader
optioned e r = whole e.value (record r { pending = waiting e r.pending })

-- ---- files

abbrev pub early_in : Pending → Option Fault
early_in p = ends_early (start_of p.start) p.length p.end

abbrev pub cut_in : Pending → TimeCut
cut_in p = cut_of p.start p.length p.end

abbrev pub input_wrong : ℕ → Reader → Option Fault
input_wrong at r =
    misplaced r.pending.before_input
    (if nat_le 16 (length r.inputs) then Some (fault (at + 1) TooMany) else or_else (early_in r.pending) (bad_at r.pending.unreadable))

abbrev pub with_input : List ℕ → Reader → Reader
with_input name r =
    record r {
      inputs = r.inputs ++ (record { name = name; format = r.pending.format; cut = cut_in r.pending }) ∷ [];
      pending = pending [];
    }

abbrev pub pending_format : Pending → Option FileFormat → Option FileFormat
pending_format p ending = or_else p.format ending

abbrev pub with_output : List ℕ → FileFormat → Reader → Reader
with_output name format r =
    record r {
      outputs = r.outputs ++ (record {
        name = name;
        format = format;
        maps = r.pending.maps;
        audio = r.pending.audio;
        video = r.pending.video;
        vf = r.pending.vf;
        af = r.pending.af;
        no_audio = r.pending.no_audio;
        no_video = r.pending.no_video;
        cut = cut_in r.pending;
        frames = r.pending.frames;
        asked = r.pending.asked;
        shortest = r.pending.shortest;
        hash = unwrap_or r.pending.hash (default_hash format);
        rf64 = unwrap_or r.pending.rf64 Never;
      }) ∷ [];
      pending = pending [];
    }

abbrev pub output_wrong : ℕ → List ℕ → Option FileFormat → Reader → Option Fault
output_wrong at name ending r =
    misplaced r.pending.before_output
    (if nat_le 16 (length r.outputs) then Some (fault at TooMany) else
    or_else (early_in r.pending)
    (or_else (bad_at r.pending.unwritable)
    (if is_output name (pending_format r.pending ending) then None else Some (fault at BadValue))))

-- ---- answers of the pass

-- a value is taken behind the entries
abbrev pub Taken : List Entry → ℕ → Concern → Value → Result (Unit {0}) WordError → Reader → Type 0
Taken es at concern v (Ok u) new = (late es at v ≡ None) × (new ≡ reader (es ++ (record { at = at; concern = concern; value = v }) ∷ []))
Taken es at concern v (Err (At w k)) new = late es at v ≡ Some (fault w k)
Taken es at concern v (Err NoMemory) new = Unit {0}

-- a token is read behind the entries
abbrev pub Steps : List Entry → Token → Result (Unit {0}) WordError → Reader → Type 0
Steps es t (Ok u) new = (e : Entry) × IsEntry es t e × (new ≡ reader (es ++ e ∷ []))
Steps es t (Err (At w k)) new = IsFaultAt es t (fault w k)
Steps es t (Err NoMemory) new = Unit {0}

-- the word at a place
abbrev pub word_at : List (List ℕ) → ℕ → List ℕ
word_at words at = unwrap_or (slice_get words at) []

-- the token at a place, where a word is there
abbrev pub token_at : List (List ℕ) → ℕ → Token
token_at words at =
    record { at = at; word = word_at words at; value = if takes_value (word_at words at) then slice_get words (at + 1) else None }

abbrev pub width : Option (List ℕ) → ℕ
width None = 1
width (Some v) = 2

-- a given value is read
abbrev pub Given : List Entry → ℕ → Rule → List ℕ → Result (Unit {0}) WordError → Reader → Type 0
Given es at rule text result new =
    (t : Token) → t.at ≡ at → t.value ≡ Some text → is_too_much t.at t.word ≡ false → is_dashed t.word ≡ true → option_named t.word ≡ Some rule
    → switched rule.kind ≡ None → Steps es t result new

abbrev pub full : Kind → Reader → Bool
full kind.Map r = nat_le 16 (length r.pending.maps)
full kind.Complex r = nat_le 16 (length r.graphs)
full _ r = false

-- what a front of the words was read as
pub record Stands (words : List (List ℕ)) (at : ℕ) (r : Reader) : Type 0 where
  pub es : List Entry
  pub front : List Token
  pub split : tokens 0 words ≡ front ++ tokens at (drop at words)
  pub are_read : AreRead [] front es
  pub kept : r ≡ reader es
  pub bound : at ≤ 1025

-- ---- the end

abbrev pub command_of : Option Solo → Reader → Command
command_of (Some s) r = asked.Solo s
command_of None r = asked.Run (record { queue = r.queue; trace = r.trace; keeps = r.keeps; graphs = r.graphs; inputs = r.inputs; outputs = r.outputs })

abbrev pub end_wrong : ℕ → Reader → Option Fault
end_wrong count r =
    if stands_alone count r.solo then None else
    misplaced r.pending.at_end (end_by count (command_of r.solo r))

abbrev pub Ended : ℕ → Reader → Result Command WordError → Type 0
Ended count r (Ok c) = (end_wrong count r ≡ None) × (c ≡ command_of r.solo r)
Ended count r (Err (At w k)) = end_wrong count r ≡ Some (fault w k)
Ended count r (Err NoMemory) = Unit {0}

-- the answer of the call; want of memory says nothing of the words
abbrev pub Answers : List (List ℕ) → Result Command WordError → Type 0
Answers words (Ok c) = IsAnswer words (Ok c)
Answers words (Err (At w k)) = IsAnswer words (Err (fault w k))
Answers words (Err NoMemory) = Unit {0}

-- a fault as the call answers it
abbrev pub as_error : Fault → WordError
as_error f = At f.word f.kind

abbrev pub written_names : Reader → List (List ℕ)
written_names r = file_names r.outputs ++ option_to_list r.trace

-- a file of the outputs from a place on, the trace or an input has this name
abbrev pub repeats_from : Reader → ℕ → List ℕ → Bool
repeats_from r from name =
    (list_any (λ m. bytes_eq m name) (file_names (drop from r.outputs)) || list_any (λ m. bytes_eq m name) (option_to_list r.trace))
    || list_any (λ m. bytes_eq m name) (map (λ (i : InputJob). i.name) r.inputs)
