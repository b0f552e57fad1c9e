-- The words of a command are read as that command.
use Rattle.std.proofs.Common.{zero, suc, ◌≡◌, ℕ, ◌+◌, ◌<◌, ◌≤◌, ◌^◌, Bool, true, false, ◌&&◌, ◌||◌, Option, Some, None, Ok, List, [], ◌∷◌, ◌++◌, length, refl, sym, ap, subst, ◌∙◌, append_assoc, length-append, arith}
use Rattle.std.specs.Prelude.{if◌then◌else◌, unwrap_or, drop, not, nat_le, ◌==◌, flat_map, codes}
use Rattle.std.specs.List.{AllByRecursion}
use Rattle.std.specs.Option.{ForSome}
use Rattle.std.specs.Fmt.{decimal}
use Rattle.std.specs.Str.{bytes_eq}
use Rattle.std.proofs.lemmas.Slice.Eq.{bytes_eq-Decides}
use Rattle.std.proofs.Props.{props}
use Rattle.std.proofs.lemmas.Bool.{lt-leb, ne_eqb}
use Rattle.std.proofs.lemmas.List.{append-nil}
use Rattle.ff_lang.specs.declared.graph.Graph.{Graph}
use Rattle.ff_lang.specs.laws.Printing.{printed}
use Rattle.ff_words.specs.declared.maps.map.MapSpec.{MapSpec}
use Rattle.ff_time.specs.declared.cut.TimeCut.{TimeCut}
use Rattle.ff_frame.specs.Codecs.{codec_name}
use Rattle.ff_frame.specs.declared.head.Codec.{Codec}
use Rattle.ff_frame.specs.declared.head.Codec.TheVariants as codec
use Rattle.ff_frame.specs.declared.hash.HashKind.{HashKind}
use Rattle.ff_frame.specs.declared.hash.HashKind.TheVariants.{Sha256, Md5}
use Rattle.ff_words.specs.declared.error.WordKind.TheVariants.{TooMany, BadValue, NoInput, NoOutput, SameName}
use Rattle.ff_format.specs.declared.format.FileFormat.{FileFormat}
use Rattle.ff_format.specs.declared.format.Rf64.{Rf64}
use Rattle.ff_format.specs.declared.format.Rf64.TheVariants.{Never, Auto, Always}
use Rattle.ff_words.specs.declared.job.InputJob.{InputJob}
use Rattle.ff_words.specs.declared.job.OutputJob.{OutputJob}
use Rattle.ff_words.specs.declared.job.Job.{Job}
use Rattle.ff_words.specs.declared.job.Command.{Command}
use Rattle.ff_words.specs.declared.job.Command.TheVariants as asked
use Rattle.ff_words.specs.declared.job.Solo.{Solo}
use Rattle.ff_words.specs.declared.job.Solo.TheVariants.{Help, Version, SelfRun}
use Rattle.ff_words.specs.declared.reader.Pending.{Pending}
use Rattle.ff_words.specs.declared.reader.Reader.{Reader}
use Rattle.ff_words.specs.declared.table.Concern.TheVariants.{All, Alone, File, Output}
use Rattle.ff_words.specs.declared.table.Kind.TheVariants as kind
use Rattle.ff_words.specs.declared.value.Micros.{Micros}
use Rattle.ff_words.specs.declared.value.Value.TheVariants as value
use Rattle.ff_words.specs.laws.Reading.{pending, reader, place_unless, end_wrong}
use Rattle.ff_words.specs.declared.error.Fault.{Fault}
use Rattle.ff_words.specs.Words.{IsAnswer, or_else, cut_of, length_of, ends_early, fault, bad_at, lacks_input, is_dashed, name_as, is_some_name, is_twice, shares_name, read_names}
use Rattle.ff_format.specs.Formats.{format_name, has_file, is_read, is_written, short_name}
use Rattle.ff_words.specs.Options.{hash_name, rf64_name, pixels_name}
use Rattle.ff_words.specs.declared.job.Asked.{Asked}
use Rattle.ff_words.specs.declared.job.Size.{Size}
use Rattle.ff_words.specs.Names.{stdin, input_name, output_name, trace_name}
use Rattle.ff_words.specs.Words.{none_asked}
use Rattle.ff_words.proofs.Rates.{rate-short, size-short}
use Rattle.ff_time.specs.Fraction.{Fraction, IsBase}
use Rattle.ff_frame.specs.declared.video.Format.{Format}
use Rattle.ff_frame.specs.declared.video.Format.TheVariants.{C420, C422, C444, Mono}
use Rattle.ff_words.specs.laws.Writing.{given, micros_text, map_text, format_words, start_words, length_words, frames_words, rate_words, channels_words, pixels_words, base_words, size_words, asked_words, rate_text, size_text, input_words, map_words, audio_words, video_words, vf_words, af_words, hash_words, rf64_words, where_some, where_true, output_words, graph_words, trace_words, keeps_words, queue_words, job_words, is_itself, spelled, input_text, trace_text, as_it_stands, output_text, IsFineText, IsFineGraph, IsFineMap, IsReadFormat, IsSoundCodec, WhereSome, IsFineSize, IsFineAsked, IsFineInput, IsFineOutput, IsFineJob, IsFineSolo, IsFineCommand, solo_words, command_words}
use Rattle.ff_words.proofs.Spellings.{is-number, number-short, micros-short, map-short}
use Rattle.ff_words.proofs.Known.{line-queue, line-keeps, line-help, line-version, line-self_run, line-trace, line-complex, line-format, line-start, line-length, line-input, line-map, line-audio, line-video, line-vf, line-af, line-no_audio, line-no_video, line-shortest, line-frames, line-rate, line-channels, line-pixels, line-base, line-size, line-hash, line-rf64, reads-format, reads-audio, reads-video, reads-hash, reads-rf64, reads-pixels, reads-base, reads-size, reads-map, reads-trace, reads-complex, reads-vf, reads-af, reads-start, reads-length}
use Rattle.ff_words.proofs.Goes.{Goes, goes-start, goes-by, goes-option, goes-input, goes-switch, goes-output}
use Rattle.ff_words.proofs.Tokens.{ended}

abbrev Text : Type 0
Text = List ℕ

-- ---- the options of a file that were read

pub record Own : Type 0 where
  pub maps : List MapSpec
  pub audio : Option Codec
  pub video : Option Codec
  pub vf : Option Graph
  pub af : Option Graph
  pub no_audio : Bool
  pub no_video : Bool
  pub start : Option Micros
  pub length : Option Micros
  pub frames : Option ℕ
  pub asked : Asked
  pub shortest : Bool
  pub hash : Option HashKind
  pub rf64 : Option Rf64
  pub format : Option FileFormat

abbrev own : List MapSpec → Option Codec → Option Codec → Option Graph → Option Graph → Bool → Bool → Option Micros → Option Micros → Option ℕ → Asked → Bool → Option HashKind → Option Rf64 → Option FileFormat → Own
own ms a v x y na nv s l n k sh h m f =
    record { maps = ms; audio = a; video = v; vf = x; af = y; no_audio = na; no_video = nv; start = s; length = l; frames = n; asked = k; shortest = sh; hash = h; rf64 = m; format = f }

abbrev held : Option ℕ → Option ℕ → Option ℕ → Own → Pending
held b u e w =
    record {
      before_input = b;
      before_output = None;
      at_end = e;
      format = w.format;
      unreadable = u;
      unwritable = None;
      start = w.start;
      length = w.length;
      end = None;
      maps = w.maps;
      audio = w.audio;
      video = w.video;
      vf = w.vf;
      af = w.af;
      no_audio = w.no_audio;
      no_video = w.no_video;
      frames = w.frames;
      asked = w.asked;
      shortest = w.shortest;
      hash = w.hash;
      rf64 = w.rf64;
    }

-- before an input the place of a format that no output has is of no matter
abbrev held_in : Option ℕ → Option ℕ → Own → Pending
held_in n e w = record (held None None e w) { unwritable = n }

abbrev in_hand : Reader → Pending → Reader
in_hand r p = record r { pending = p }

-- before an output the places of options that no input and no end has are of no matter
abbrev Out : List Text → List Text → Reader → Own → Type 0
Out ws rest r w = (b : Option ℕ) × (u : Option ℕ) × (e : Option ℕ) × Goes ws rest (in_hand r (held b u e w))

-- before an input only those that no end has
abbrev In : List Text → List Text → Reader → Own → Type 0
In ws rest r w = (n e : Option ℕ) × Goes ws rest (in_hand r (held_in n e w))

out-split : (ws : List Text) (r : Reader) (w : Own) (x y rest : List Text) → Out ws ((x ++ y) ++ rest) r w → Out ws (x ++ (y ++ rest)) r w
out-split ws r w x y rest h = (h.0, h.1, h.2, goes-by ws ((x ++ y) ++ rest) (x ++ (y ++ rest)) (in_hand r (held h.0 h.1 h.2 w)) (append_assoc x y rest) h.3)

in-split : (ws : List Text) (r : Reader) (w : Own) (x y rest : List Text) → In ws ((x ++ y) ++ rest) r w → In ws (x ++ (y ++ rest)) r w
in-split ws r w x y rest h = (h.0, h.1, goes-by ws ((x ++ y) ++ rest) (x ++ (y ++ rest)) (in_hand r (held_in h.0 h.1 w)) (append_assoc x y rest) h.2)

codec-short : (c : Codec) → IsFineText (codec_name c)
codec-short codec.RawVideo = omega arith
codec-short other = omega arith

format-short : (f : FileFormat) → IsFineText (format_name f)
format-short f = let short = short_name f in omega (arith, short)

hash-short : (h : HashKind) → IsFineText (hash_name h)
hash-short Sha256 = omega arith
hash-short Md5 = omega arith

rf64-short : (mode : Rf64) → IsFineText (rf64_name mode)
rf64-short Never = omega arith
rf64-short Auto = omega arith
rf64-short Always = omega arith

pixels-short : (f : Format) → IsFineText (pixels_name f)
pixels-short C420 = omega arith
pixels-short C422 = omega arith
pixels-short C444 = omega arith
pixels-short Mono = omega arith

-- what is said of the mode
mode_in : Rf64 → Option Rf64
mode_in Never = None
mode_in Auto = Some Auto
mode_in Always = Some Always

mode-is : (mode : Rf64) → unwrap_or (mode_in mode) Never ≡ mode
unfolding mode_in
mode-is Never = refl
mode-is Auto = refl
mode-is Always = refl

-- ---- cuts

abbrev Bounded : Option ℕ → Type 0
Bounded o = ForSome o (λ n. n ≤ 10 ^ 15)

micros_in : (o : Option ℕ) → Bounded o → Option Micros
micros_in None h = None
micros_in (Some n) h = Some (record { us = n; bound = h n refl })

abbrev start_in : TimeCut → Micros
start_in c = record { us = c.start; bound = c.start_bound }

length-is : (start : ℕ) (o : Option ℕ) (h : Bounded o) → length_of start (micros_in o h) None ≡ o
unfolding micros_in
length-is start None h = refl
length-is start (Some n) h = refl

bounded-one : (o : Option ℕ) (p q : Bounded o) → p ≡ q
bounded-one o p q = (let one : IsProp (Bounded o) = hlevel props in one p q)

abbrev cut_at : (s : ℕ) → s ≤ 10 ^ 15 → (o : Option ℕ) → Bounded o → TimeCut
cut_at s b o h = record { start = s; length = o; start_bound = b; length_bound = h }

start-one : (s : ℕ) (p q : s ≤ 10 ^ 15) → p ≡ q
start-one s p q = (let one : IsProp (s ≤ 10 ^ 15) = hlevel props in one p q)

cut-one : (s : ℕ) (b d : s ≤ 10 ^ 15) (o q : Option ℕ) (h : Bounded o) (k : Bounded q) → o ≡ q → cut_at s b o h ≡ cut_at s d q k
cut-one s b d o q h k e =
    ap (λ (z : s ≤ 10 ^ 15). cut_at s z o h) (start-one s b d)
    ∙ subst (λ x. (y : Bounded x) → cut_at s d o h ≡ cut_at s d x y) e (λ y. ap (λ z. cut_at s d o z) (bounded-one o h y)) k

cut-same : (c : TimeCut) → cut_of (Some (start_in c)) (micros_in c.length c.length_bound) None ≡ c
cut-same c =
    let made : TimeCut = cut_of (Some (start_in c)) (micros_in c.length c.length_bound) None in
    cut-one c.start made.start_bound c.start_bound made.length c.length made.length_bound c.length_bound (length-is c.start c.length c.length_bound)

-- ---- the options of an output, one after the other

maps-step : (ws : List Text) (few : length ws ≤ 1024) (rest : List Text) (r : Reader) (w : Own) (m : MapSpec) (done : List MapSpec) → IsFineMap m → length done < 16
    → Out ws (map_words m ++ rest) r (record w { maps = done }) → Out ws rest r (record w { maps = done ++ m ∷ [] })
maps-step ws few rest r w m done fine room h = (
  or_else h.0 (Some h.3.at),
  h.1,
  or_else h.2 (Some h.3.at),
  goes-option ws few (codes "-map") (map_text m) rest (in_hand r (held h.0 h.1 h.2 (record w { maps = done }))) Output kind.Map (value.Map m) h.3 refl line-map refl (omega arith) (map-short m fine)
      (lt-leb 16 (length done) room) refl (reads-map m fine),
)

maps-read : (ws : List Text) (few : length ws ≤ 1024) (rest : List Text) (r : Reader) (w : Own) (ms done : List MapSpec) → AllByRecursion IsFineMap ms → length done + length ms ≤ 16
    → Out ws (flat_map map_words ms ++ rest) r (record w { maps = done }) → Out ws rest r (record w { maps = done ++ ms })
maps-read ws few rest r w [] done fine room h = subst (λ t. Out ws rest r (record w { maps = t })) (sym (append-nil done)) h
maps-read ws few rest r w (m ∷ ms) done fine room h =
    subst (λ t. Out ws rest r (record w { maps = t })) (append_assoc done (m ∷ []) ms)
    (maps-read ws few rest r w ms (done ++ m ∷ []) fine.1 (omega (arith, room, length-append done (m ∷ [])))
    (maps-step ws few (flat_map map_words ms ++ rest) r w m done fine.0 (omega (arith, room)) h))

audio-read : (ws : List Text) (few : length ws ≤ 1024) (y rest : List Text) (r : Reader) (w : Own) (o : Option Codec) → WhereSome IsSoundCodec o
    → Out ws ((audio_words o ++ y) ++ rest) r (record w { audio = None }) → Out ws (y ++ rest) r (record w { audio = o })
audio-read ws few y rest r w None fine h = h
audio-read ws few y rest r w (Some c) fine h = (
  or_else h.0 (Some h.3.at),
  h.1,
  or_else h.2 (Some h.3.at),
  goes-option ws few (codes "-c:a") (codec_name c) (y ++ rest) (in_hand r (held h.0 h.1 h.2 (record w { audio = None }))) Output kind.AudioCodec (value.AudioCodec c) h.3 refl line-audio refl (omega arith) (codec-short c)
      refl refl (reads-audio c fine),
)

video-read : (ws : List Text) (few : length ws ≤ 1024) (y rest : List Text) (r : Reader) (w : Own) (o : Option Codec) → WhereSome (λ c. c ≡ codec.RawVideo) o
    → Out ws ((video_words o ++ y) ++ rest) r (record w { video = None }) → Out ws (y ++ rest) r (record w { video = o })
video-read ws few y rest r w None fine h = h
video-read ws few y rest r w (Some c) fine h = (
  or_else h.0 (Some h.3.at),
  h.1,
  or_else h.2 (Some h.3.at),
  goes-option ws few (codes "-c:v") (codec_name c) (y ++ rest) (in_hand r (held h.0 h.1 h.2 (record w { video = None }))) Output kind.VideoCodec (value.VideoCodec c) h.3 refl line-video refl (omega arith) (codec-short c)
      refl refl (reads-video c fine),
)

vf-read : (ws : List Text) (few : length ws ≤ 1024) (y rest : List Text) (r : Reader) (w : Own) (o : Option Graph) → WhereSome IsFineGraph o
    → Out ws ((vf_words o ++ y) ++ rest) r (record w { vf = None }) → Out ws (y ++ rest) r (record w { vf = o })
vf-read ws few y rest r w None fine h = h
vf-read ws few y rest r w (Some g) fine h = (
  or_else h.0 (Some h.3.at),
  h.1,
  or_else h.2 (Some h.3.at),
  goes-option ws few (codes "-vf") (printed g) (y ++ rest) (in_hand r (held h.0 h.1 h.2 (record w { vf = None }))) Output kind.VideoGraph (value.VideoGraph g) h.3 refl line-vf refl (omega arith) fine.1
      refl refl (reads-vf g fine),
)

af-read : (ws : List Text) (few : length ws ≤ 1024) (y rest : List Text) (r : Reader) (w : Own) (o : Option Graph) → WhereSome IsFineGraph o
    → Out ws ((af_words o ++ y) ++ rest) r (record w { af = None }) → Out ws (y ++ rest) r (record w { af = o })
af-read ws few y rest r w None fine h = h
af-read ws few y rest r w (Some g) fine h = (
  or_else h.0 (Some h.3.at),
  h.1,
  or_else h.2 (Some h.3.at),
  goes-option ws few (codes "-af") (printed g) (y ++ rest) (in_hand r (held h.0 h.1 h.2 (record w { af = None }))) Output kind.AudioGraph (value.AudioGraph g) h.3 refl line-af refl (omega arith) fine.1
      refl refl (reads-af g fine),
)

no_audio-read : (ws : List Text) (few : length ws ≤ 1024) (y rest : List Text) (r : Reader) (w : Own) (o : Bool)
    → Out ws ((where_true (codes "-an") o ++ y) ++ rest) r (record w { no_audio = false }) → Out ws (y ++ rest) r (record w { no_audio = o })
no_audio-read ws few y rest r w false h = h
no_audio-read ws few y rest r w true h = (
  or_else h.0 (Some h.3.at),
  h.1,
  or_else h.2 (Some h.3.at),
  goes-switch ws few (codes "-an") (y ++ rest) (in_hand r (held h.0 h.1 h.2 (record w { no_audio = false }))) Output kind.NoAudio value.NoAudio h.3 refl line-no_audio refl refl (omega arith) refl,
)

no_video-read : (ws : List Text) (few : length ws ≤ 1024) (y rest : List Text) (r : Reader) (w : Own) (o : Bool)
    → Out ws ((where_true (codes "-vn") o ++ y) ++ rest) r (record w { no_video = false }) → Out ws (y ++ rest) r (record w { no_video = o })
no_video-read ws few y rest r w false h = h
no_video-read ws few y rest r w true h = (
  or_else h.0 (Some h.3.at),
  h.1,
  or_else h.2 (Some h.3.at),
  goes-switch ws few (codes "-vn") (y ++ rest) (in_hand r (held h.0 h.1 h.2 (record w { no_video = false }))) Output kind.NoVideo value.NoVideo h.3 refl line-no_video refl refl (omega arith) refl,
)

shortest-read : (ws : List Text) (few : length ws ≤ 1024) (y rest : List Text) (r : Reader) (w : Own) (o : Bool)
    → Out ws ((where_true (codes "-shortest") o ++ y) ++ rest) r (record w { shortest = false }) → Out ws (y ++ rest) r (record w { shortest = o })
shortest-read ws few y rest r w false h = h
shortest-read ws few y rest r w true h = (
  or_else h.0 (Some h.3.at),
  h.1,
  or_else h.2 (Some h.3.at),
  goes-switch ws few (codes "-shortest") (y ++ rest) (in_hand r (held h.0 h.1 h.2 (record w { shortest = false }))) Output kind.Shortest value.Shortest h.3 refl line-shortest refl refl (omega arith) refl,
)

start-read : (ws : List Text) (few : length ws ≤ 1024) (y rest : List Text) (r : Reader) (w : Own) (m : Micros)
    → Out ws ((start_words m.us ++ y) ++ rest) r w → Out ws (y ++ rest) r (record w { start = Some m })
start-read ws few y rest r w m h = (
  or_else h.0 None,
  h.1,
  or_else h.2 (Some h.3.at),
  goes-option ws few (codes "-ss") (micros_text m.us) (y ++ rest) (in_hand r (held h.0 h.1 h.2 w)) File kind.Start (value.Start m) h.3 refl line-start refl (omega arith) (micros-short m.us m.bound)
      refl refl (reads-start m),
)

length-read : (ws : List Text) (few : length ws ≤ 1024) (y rest : List Text) (r : Reader) (w : Own) (o : Option ℕ) (k : Bounded o)
    → Out ws ((length_words o ++ y) ++ rest) r (record w { length = None }) → Out ws (y ++ rest) r (record w { length = micros_in o k })
unfolding micros_in
length-read ws few y rest r w None k h = h
length-read ws few y rest r w (Some n) k h = (
  or_else h.0 None,
  h.1,
  or_else h.2 (Some h.3.at),
  goes-option ws few (codes "-t") (micros_text n) (y ++ rest) (in_hand r (held h.0 h.1 h.2 (record w { length = None }))) File kind.Length (value.Length (record { us = n; bound = k n refl })) h.3 refl line-length refl (omega arith)
      (micros-short n (k n refl)) refl refl (reads-length (record { us = n; bound = k n refl })),
)

frames-read : (ws : List Text) (few : length ws ≤ 1024) (y rest : List Text) (r : Reader) (w : Own) (o : Option ℕ) → WhereSome (λ n. n < 10 ^ 9) o
    → Out ws ((frames_words o ++ y) ++ rest) r (record w { frames = None }) → Out ws (y ++ rest) r (record w { frames = o })
frames-read ws few y rest r w None fine h = h
frames-read ws few y rest r w (Some n) fine h = (
  or_else h.0 (Some h.3.at),
  h.1,
  or_else h.2 (Some h.3.at),
  goes-option ws few (codes "-frames:v") (decimal n) (y ++ rest) (in_hand r (held h.0 h.1 h.2 (record w { frames = None }))) Output kind.Frames (value.Frames n) h.3 refl line-frames refl (omega arith)
      (omega (arith, number-short n fine)) refl refl (Ok n, (is-number n fine, omega arith, omega (arith, fine)), refl),
)

rate-read : (ws : List Text) (few : length ws ≤ 1024) (y rest : List Text) (r : Reader) (w : Own) (a : Asked) (o : Option ℕ) → WhereSome (λ n. (1 ≤ n) × (n < 10 ^ 9)) o
    → Out ws ((rate_words o ++ y) ++ rest) r (record w { asked = record a { rate = None } }) → Out ws (y ++ rest) r (record w { asked = record a { rate = o } })
rate-read ws few y rest r w a None fine h = h
rate-read ws few y rest r w a (Some x) fine h = (
  or_else h.0 (Some h.3.at),
  h.1,
  or_else h.2 (Some h.3.at),
  goes-option ws few (codes "-ar") (decimal x) (y ++ rest) (in_hand r (held h.0 h.1 h.2 (record w { asked = record a { rate = None } }))) Output kind.Rate (value.Rate x) h.3 refl line-rate refl (omega arith)
      (omega (arith, number-short x fine.1)) refl refl (Ok x, (is-number x fine.1, fine.0, omega (arith, fine.1)), refl),
)

channels-read : (ws : List Text) (few : length ws ≤ 1024) (y rest : List Text) (r : Reader) (w : Own) (a : Asked) (o : Option ℕ) → WhereSome (λ n. (1 ≤ n) × (n ≤ 8)) o
    → Out ws ((channels_words o ++ y) ++ rest) r (record w { asked = record a { channels = None } }) → Out ws (y ++ rest) r (record w { asked = record a { channels = o } })
channels-read ws few y rest r w a None fine h = h
channels-read ws few y rest r w a (Some x) fine h = (
  or_else h.0 (Some h.3.at),
  h.1,
  or_else h.2 (Some h.3.at),
  goes-option ws few (codes "-ac") (decimal x) (y ++ rest) (in_hand r (held h.0 h.1 h.2 (record w { asked = record a { channels = None } }))) Output kind.Channels (value.Channels x) h.3 refl line-channels refl (omega arith)
      (omega (arith, number-short x (omega (arith, fine.1)))) refl refl (Ok x, (is-number x (omega (arith, fine.1)), fine.0, fine.1), refl),
)

pixels-read : (ws : List Text) (few : length ws ≤ 1024) (y rest : List Text) (r : Reader) (w : Own) (a : Asked) (o : Option Format)
    → Out ws ((pixels_words o ++ y) ++ rest) r (record w { asked = record a { pixels = None } }) → Out ws (y ++ rest) r (record w { asked = record a { pixels = o } })
pixels-read ws few y rest r w a None h = h
pixels-read ws few y rest r w a (Some x) h = (
  or_else h.0 (Some h.3.at),
  h.1,
  or_else h.2 (Some h.3.at),
  goes-option ws few (codes "-pix_fmt") (pixels_name x) (y ++ rest) (in_hand r (held h.0 h.1 h.2 (record w { asked = record a { pixels = None } }))) Output kind.Pixels (value.Pixels x) h.3 refl line-pixels refl (omega arith)
      (pixels-short x) refl refl (reads-pixels x),
)

base-read : (ws : List Text) (few : length ws ≤ 1024) (y rest : List Text) (r : Reader) (w : Own) (a : Asked) (o : Option Fraction) → WhereSome IsBase o
    → Out ws ((base_words o ++ y) ++ rest) r (record w { asked = record a { base = None } }) → Out ws (y ++ rest) r (record w { asked = record a { base = o } })
base-read ws few y rest r w a None fine h = h
base-read ws few y rest r w a (Some x) fine h = (
  or_else h.0 (Some h.3.at),
  h.1,
  or_else h.2 (Some h.3.at),
  goes-option ws few (codes "-r") (rate_text x) (y ++ rest) (in_hand r (held h.0 h.1 h.2 (record w { asked = record a { base = None } }))) Output kind.FrameRate (value.FrameRate x) h.3 refl line-base refl (omega arith)
      (rate-short x fine) refl refl (reads-base x fine),
)

size-read : (ws : List Text) (few : length ws ≤ 1024) (y rest : List Text) (r : Reader) (w : Own) (a : Asked) (o : Option Size) → WhereSome IsFineSize o
    → Out ws ((size_words o ++ y) ++ rest) r (record w { asked = record a { size = None } }) → Out ws (y ++ rest) r (record w { asked = record a { size = o } })
size-read ws few y rest r w a None fine h = h
size-read ws few y rest r w a (Some x) fine h = (
  or_else h.0 (Some h.3.at),
  h.1,
  or_else h.2 (Some h.3.at),
  goes-option ws few (codes "-s") (size_text x) (y ++ rest) (in_hand r (held h.0 h.1 h.2 (record w { asked = record a { size = None } }))) Output kind.Size (value.Size x) h.3 refl line-size refl (omega arith)
      (size-short x fine) refl refl (reads-size x fine),
)

-- words of which more follow
out-among : (ws : List Text) (r : Reader) (w : Own) (x z y rest : List Text) → Out ws (((x ++ z) ++ y) ++ rest) r w → Out ws ((x ++ (z ++ y)) ++ rest) r w
out-among ws r w x z y rest h = (h.0, h.1, h.2, goes-by ws (((x ++ z) ++ y) ++ rest) ((x ++ (z ++ y)) ++ rest) (in_hand r (held h.0 h.1 h.2 w)) (ap (λ t. t ++ rest) (append_assoc x z y)) h.3)

asked-read : (ws : List Text) (few : length ws ≤ 1024) (y rest : List Text) (r : Reader) (w : Own) (a : Asked) → IsFineAsked a
    → Out ws ((asked_words a ++ y) ++ rest) r (record w { asked = none_asked }) → Out ws (y ++ rest) r (record w { asked = a })
asked-read ws few y rest r w a fine h =
    let z4 : List Text = size_words a.size ++ [] in
    let z3 : List Text = base_words a.base ++ z4 in
    let z2 : List Text = pixels_words a.pixels ++ z3 in
    let z1 : List Text = channels_words a.channels ++ z2 in
    let a1 : Asked = record none_asked { rate = a.rate } in
    let a2 : Asked = record a1 { channels = a.channels } in
    let a3 : Asked = record a2 { pixels = a.pixels } in
    let a4 : Asked = record a3 { base = a.base } in
    let h1 : Out ws ((z1 ++ y) ++ rest) r (record w { asked = a1 }) = rate-read ws few (z1 ++ y) rest r w none_asked a.rate fine.rate (out-among ws r (record w { asked = none_asked }) (rate_words a.rate) z1 y rest h) in
    let h2 : Out ws ((z2 ++ y) ++ rest) r (record w { asked = a2 }) = channels-read ws few (z2 ++ y) rest r w a1 a.channels fine.channels (out-among ws r (record w { asked = a1 }) (channels_words a.channels) z2 y rest h1) in
    let h3 : Out ws ((z3 ++ y) ++ rest) r (record w { asked = a3 }) = pixels-read ws few (z3 ++ y) rest r w a2 a.pixels (out-among ws r (record w { asked = a2 }) (pixels_words a.pixels) z3 y rest h2) in
    let h4 : Out ws ((z4 ++ y) ++ rest) r (record w { asked = a4 }) = base-read ws few (z4 ++ y) rest r w a3 a.base fine.base (out-among ws r (record w { asked = a3 }) (base_words a.base) z4 y rest h3) in
    size-read ws few y rest r w a4 a.size fine.size (out-among ws r (record w { asked = a4 }) (size_words a.size) [] y rest h4)

hash-read : (ws : List Text) (few : length ws ≤ 1024) (y rest : List Text) (r : Reader) (w : Own) (o : HashKind)
    → Out ws ((hash_words o ++ y) ++ rest) r w → Out ws (y ++ rest) r (record w { hash = Some o })
hash-read ws few y rest r w o h = (
  or_else h.0 (Some h.3.at),
  h.1,
  or_else h.2 (Some h.3.at),
  goes-option ws few (codes "-hash") (hash_name o) (y ++ rest) (in_hand r (held h.0 h.1 h.2 w)) Output kind.Hash (value.Hash o) h.3 refl line-hash refl (omega arith) (hash-short o) refl refl (reads-hash o),
)

rf64-said : (ws : List Text) (few : length ws ≤ 1024) (rest : List Text) (r : Reader) (w : Own) (mode : Rf64)
    → Out ws (given (codes "-rf64") (rf64_name mode) ++ rest) r w → Out ws rest r (record w { rf64 = Some mode })
rf64-said ws few rest r w mode h = (
  or_else h.0 (Some h.3.at),
  h.1,
  or_else h.2 (Some h.3.at),
  goes-option ws few (codes "-rf64") (rf64_name mode) rest (in_hand r (held h.0 h.1 h.2 w)) Output kind.Rf64 (value.Rf64 mode) h.3 refl line-rf64 refl (omega arith) (rf64-short mode) refl refl (reads-rf64 mode),
)

rf64-read : (ws : List Text) (few : length ws ≤ 1024) (y rest : List Text) (r : Reader) (w : Own) (mode : Rf64)
    → Out ws ((rf64_words mode ++ y) ++ rest) r (record w { rf64 = None }) → Out ws (y ++ rest) r (record w { rf64 = mode_in mode })
unfolding mode_in
rf64-read ws few y rest r w Never h = h
rf64-read ws few y rest r w Auto h = rf64-said ws few (y ++ rest) r (record w { rf64 = None }) Auto h
rf64-read ws few y rest r w Always h = rf64-said ws few (y ++ rest) r (record w { rf64 = None }) Always h

format-read : (ws : List Text) (few : length ws ≤ 1024) (y rest : List Text) (r : Reader) (w : Own) (o : FileFormat) → is_written o ≡ true
    → Out ws ((format_words o ++ y) ++ rest) r w → Out ws (y ++ rest) r (record w { format = Some o })
format-read ws few y rest r w o fine h = (
  or_else h.0 None,
  place_unless (is_read o) h.3.at,
  or_else h.2 (Some h.3.at),
  subst (λ b. Goes ws (y ++ rest) (in_hand r (record (held (or_else h.0 None) (place_unless (is_read o) h.3.at) (or_else h.2 (Some h.3.at)) (record w { format = Some o })) { unwritable = place_unless b h.3.at }))) fine
      (goes-option ws few (codes "-f") (format_name o) (y ++ rest) (in_hand r (held h.0 h.1 h.2 w)) File kind.Format (value.Format o (is_read o) (is_written o)) h.3 refl line-format refl (omega arith) (format-short o) refl refl
      (reads-format o)),
)

-- ---- an output

abbrev made_output : OutputJob → Own
made_output o =
    own o.maps o.audio o.video o.vf o.af o.no_audio o.no_video (Some (start_in o.cut)) (micros_in o.cut.length o.cut.length_bound) o.frames o.asked o.shortest (Some o.hash) (mode_in o.rf64) (Some o.format)

output-options : (ws : List Text) (few : length ws ≤ 1024) (rest : List Text) (r : Reader) (o : OutputJob) → IsFineOutput o → Goes ws (output_words o ++ rest) (in_hand r (pending []))
    → Out ws (output_text o.format o.name ∷ rest) r (made_output o)
output-options ws few rest r o fine g =
    let y14 : List Text = output_text o.format o.name ∷ [] in
    let y13 : List Text = format_words o.format ++ y14 in
    let y12 : List Text = rf64_words o.rf64 ++ y13 in
    let y11 : List Text = hash_words o.hash ++ y12 in
    let y10 : List Text = where_true (codes "-shortest") o.shortest ++ y11 in
    let ya : List Text = asked_words o.asked ++ y10 in
    let y9 : List Text = frames_words o.frames ++ ya in
    let y8 : List Text = length_words o.cut.length ++ y9 in
    let y7 : List Text = start_words o.cut.start ++ y8 in
    let y6 : List Text = where_true (codes "-vn") o.no_video ++ y7 in
    let y5 : List Text = where_true (codes "-an") o.no_audio ++ y6 in
    let y4 : List Text = af_words o.af ++ y5 in
    let y3 : List Text = vf_words o.vf ++ y4 in
    let y2 : List Text = video_words o.video ++ y3 in
    let y1 : List Text = audio_words o.audio ++ y2 in
    let s : Option Micros = Some (start_in o.cut) in
    let l : Option Micros = micros_in o.cut.length o.cut.length_bound in
    let w0 : Own = own [] None None None None false false None None None none_asked false None None None in
    let h0 : Out ws (flat_map map_words o.maps ++ (y1 ++ rest)) r w0 = out-split ws r w0 (flat_map map_words o.maps) y1 rest (None, None, None, g) in
    let h1 : Out ws (y1 ++ rest) r (own o.maps None None None None false false None None None none_asked false None None None) = maps-read ws few (y1 ++ rest) r w0 o.maps [] fine.maps (omega (arith, fine.few_maps)) h0 in
    let h2 : Out ws (y2 ++ rest) r (own o.maps o.audio None None None false false None None None none_asked false None None None) = audio-read ws few y2 rest r (own o.maps None None None None false false None None None none_asked false None None None) o.audio fine.audio h1 in
    let h3 : Out ws (y3 ++ rest) r (own o.maps o.audio o.video None None false false None None None none_asked false None None None) = video-read ws few y3 rest r (own o.maps o.audio None None None false false None None None none_asked false None None None) o.video fine.video h2 in
    let h4 : Out ws (y4 ++ rest) r (own o.maps o.audio o.video o.vf None false false None None None none_asked false None None None) = vf-read ws few y4 rest r (own o.maps o.audio o.video None None false false None None None none_asked false None None None) o.vf fine.vf h3 in
    let h5 : Out ws (y5 ++ rest) r (own o.maps o.audio o.video o.vf o.af false false None None None none_asked false None None None) = af-read ws few y5 rest r (own o.maps o.audio o.video o.vf None false false None None None none_asked false None None None) o.af fine.af h4 in
    let h6 : Out ws (y6 ++ rest) r (own o.maps o.audio o.video o.vf o.af o.no_audio false None None None none_asked false None None None) = no_audio-read ws few y6 rest r (own o.maps o.audio o.video o.vf o.af false false None None None none_asked false None None None) o.no_audio h5 in
    let h7 : Out ws (y7 ++ rest) r (own o.maps o.audio o.video o.vf o.af o.no_audio o.no_video None None None none_asked false None None None) = no_video-read ws few y7 rest r (own o.maps o.audio o.video o.vf o.af o.no_audio false None None None none_asked false None None None) o.no_video h6 in
    let h8 : Out ws (y8 ++ rest) r (own o.maps o.audio o.video o.vf o.af o.no_audio o.no_video s None None none_asked false None None None) = start-read ws few y8 rest r (own o.maps o.audio o.video o.vf o.af o.no_audio o.no_video None None None none_asked false None None None) (start_in o.cut) h7 in
    let h9 : Out ws (y9 ++ rest) r (own o.maps o.audio o.video o.vf o.af o.no_audio o.no_video s l None none_asked false None None None) = length-read ws few y9 rest r (own o.maps o.audio o.video o.vf o.af o.no_audio o.no_video s None None none_asked false None None None) o.cut.length o.cut.length_bound h8 in
    let h10 : Out ws (ya ++ rest) r (own o.maps o.audio o.video o.vf o.af o.no_audio o.no_video s l o.frames none_asked false None None None) = frames-read ws few ya rest r (own o.maps o.audio o.video o.vf o.af o.no_audio o.no_video s l None none_asked false None None None) o.frames fine.frames h9 in
    let ha : Out ws (y10 ++ rest) r (own o.maps o.audio o.video o.vf o.af o.no_audio o.no_video s l o.frames o.asked false None None None) = asked-read ws few y10 rest r (own o.maps o.audio o.video o.vf o.af o.no_audio o.no_video s l o.frames none_asked false None None None) o.asked fine.asked h10 in
    let h11 : Out ws (y11 ++ rest) r (own o.maps o.audio o.video o.vf o.af o.no_audio o.no_video s l o.frames o.asked o.shortest None None None) = shortest-read ws few y11 rest r (own o.maps o.audio o.video o.vf o.af o.no_audio o.no_video s l o.frames o.asked false None None None) o.shortest ha in
    let h12 : Out ws (y12 ++ rest) r (own o.maps o.audio o.video o.vf o.af o.no_audio o.no_video s l o.frames o.asked o.shortest (Some o.hash) None None) = hash-read ws few y12 rest r (own o.maps o.audio o.video o.vf o.af o.no_audio o.no_video s l o.frames o.asked o.shortest None None None) o.hash h11 in
    let h13 : Out ws (y13 ++ rest) r (own o.maps o.audio o.video o.vf o.af o.no_audio o.no_video s l o.frames o.asked o.shortest (Some o.hash) (mode_in o.rf64) None) = rf64-read ws few y13 rest r (own o.maps o.audio o.video o.vf o.af o.no_audio o.no_video s l o.frames o.asked o.shortest (Some o.hash) None None) o.rf64 h12 in
    format-read ws few y14 rest r (own o.maps o.audio o.video o.vf o.af o.no_audio o.no_video s l o.frames o.asked o.shortest (Some o.hash) (mode_in o.rf64) None) o.format fine.format h13

-- ---- names, as they are written

itself : (o : Option Text) (name : Text) → is_itself o name ≡ true → o ≡ Some name
itself None name h = cc
itself (Some read) name h = ap Some ((bytes_eq-Decides read name).0 h)

input-names : (name : Text) (b : Bool) → is_itself (input_name name) name ≡ b → input_name (spelled b name) ≡ Some name
unfolding input_name
input-names name true h = itself (input_name name) name h
input-names name false h = refl

trace-names : (name : Text) (b : Bool) → is_itself (trace_name name) name ≡ b → trace_name (spelled b name) ≡ Some name
unfolding trace_name
trace-names name true h = itself (trace_name name) name h
trace-names name false h = refl

both-true : (a b : Bool) → (a && b) ≡ true → (a ≡ true) × (b ≡ true)
both-true true b h = (refl, h)
both-true false b h = cc

undashed : (b : Bool) → not b ≡ true → b ≡ false
undashed false h = refl
undashed true h = cc

output-behind : (name : Text) → output_name (spelled false name) ≡ Some name
unfolding output_name
output-behind name = refl

-- the name of what goes nowhere stands as it is
stands-so : (f : FileFormat) (name : Text) → has_file f ≡ false → is_dashed name ≡ false → as_it_stands f name ≡ true
stands-so f name none plain =
    let same : bytes_eq name name ≡ true = (bytes_eq-Decides name name).1 refl in
    ap (λ b. not b && is_itself (name_as f name) name) plain
    ∙ (ap (λ b. is_itself (if b then output_name name else Some name) name) none ∙ same)

behind : (f : FileFormat) (name : Text) (filed : Bool) → has_file f ≡ filed → as_it_stands f name ≡ false → (has_file f ≡ false → is_dashed name ≡ false)
    → (if filed then output_name (spelled false name) else Some (spelled false name)) ≡ Some name
behind f name true h s plain = output-behind name
behind f name false h s plain = absurd (let so : as_it_stands f name ≡ true = stands-so f name h (plain h) in cc)

output-names : (f : FileFormat) (name : Text) (b : Bool) → as_it_stands f name ≡ b → (has_file f ≡ false → is_dashed name ≡ false) → name_as f (spelled b name) ≡ Some name
output-names f name true h plain = itself (name_as f name) name (both-true (not (is_dashed name)) (is_itself (name_as f name) name) h).1
output-names f name false h plain = behind f name (has_file f) refl h plain

output-plain : (f : FileFormat) (name : Text) (b : Bool) → as_it_stands f name ≡ b → is_dashed (spelled b name) ≡ false
output-plain f name true h = undashed (is_dashed name) (both-true (not (is_dashed name)) (is_itself (name_as f name) name) h).0
output-plain f name false h = refl

-- without an end no cut ends early
never_early : (start : ℕ) (length : Option Micros) → ends_early start length None ≡ None
never_early start None = refl
never_early start (Some m) = refl

in_bounds : (full named : Bool) (at : ℕ) (early : Option Fault) → full ≡ false → named ≡ true → early ≡ None
    → None ≡ (if full then Some (fault at TooMany) else or_else early (or_else (bad_at None) (if named then None else Some (fault at BadValue))))
in_bounds false true at None h k e = refl
in_bounds false true at (Some f) h k e = cc
in_bounds false false at early h k e = cc
in_bounds true b at early h k e = cc

output-same : (o : OutputJob) (c : TimeCut) (mode : Rf64) → c ≡ o.cut → mode ≡ o.rf64 → record o { cut = c; rf64 = mode } ≡ o
output-same o c mode e f = ap (λ x. record o { cut = x; rf64 = mode }) e ∙ ap (λ x. record o { rf64 = x }) f

output-read : (ws : List Text) (few : length ws ≤ 1024) (rest : List Text) (r : Reader) (o : OutputJob) → IsFineOutput o → length r.outputs < 16 → Goes ws (output_words o ++ rest) (in_hand r (pending []))
    → Goes ws rest (record r { outputs = r.outputs ++ o ∷ []; pending = pending [] })
output-read ws few rest r o fine room g =
    let h : Out ws (output_text o.format o.name ∷ rest) r (made_output o) = output-options ws few rest r o fine g in
    let full : nat_le 16 (length r.outputs) ≡ false = lt-leb 16 (length r.outputs) room in
    let empty : (length o.name == 0) ≡ false = ne_eqb (length o.name) 0 (λ e. omega (arith, e, fine.some_name)) in
    let read : name_as o.format (output_text o.format o.name) ≡ Some o.name = output-names o.format o.name (as_it_stands o.format o.name) refl fine.plain_name in
    let named : is_some_name (name_as o.format (output_text o.format o.name)) ≡ true = ap is_some_name read ∙ ap not empty in
    let old : Reader = in_hand r (held h.0 h.1 h.2 (made_output o)) in
    let l : Option Micros = micros_in o.cut.length o.cut.length_bound in
    let early : ends_early o.cut.start l None ≡ None = never_early o.cut.start l in
    subst (λ x. Goes ws rest (record r { outputs = r.outputs ++ x ∷ []; pending = pending [] }))
    (output-same o (cut_of (Some (start_in o.cut)) (micros_in o.cut.length o.cut.length_bound) None) (unwrap_or (mode_in o.rf64) Never) (cut-same o.cut) (mode-is o.rf64))
    (goes-output ws few (output_text o.format o.name) o.name rest old o.format h.3 (output-plain o.format o.name (as_it_stands o.format o.name) refl) read fine.name
    (λ ending. in_bounds (nat_le 16 (length r.outputs)) (is_some_name (name_as o.format (output_text o.format o.name))) h.3.at (ends_early o.cut.start l None) full named early) refl)

outputs-read : (ws : List Text) (few : length ws ≤ 1024) (rest : List Text) (os : List OutputJob) (r : Reader) → AllByRecursion IsFineOutput os → length r.outputs + length os ≤ 16
    → Goes ws (flat_map output_words os ++ rest) (in_hand r (pending [])) → Goes ws rest (record r { outputs = r.outputs ++ os; pending = pending [] })
outputs-read ws few rest [] r fine room g = subst (λ t. Goes ws rest (record r { outputs = t; pending = pending [] })) (sym (append-nil r.outputs)) g
outputs-read ws few rest (o ∷ os) r fine room g =
    let after : Reader = record r { outputs = r.outputs ++ o ∷ []; pending = pending [] } in
    let one : Goes ws (flat_map output_words os ++ rest) after =
    output-read ws few (flat_map output_words os ++ rest) r o fine.0 (omega (arith, room))
    (goes-by ws ((output_words o ++ flat_map output_words os) ++ rest) (output_words o ++ (flat_map output_words os ++ rest)) (in_hand r (pending [])) (append_assoc (output_words o) (flat_map output_words os) rest) g) in
    subst (λ t. Goes ws rest (record r { outputs = t; pending = pending [] })) (append_assoc r.outputs (o ∷ []) os)
    (outputs-read ws few rest os after fine.1 (omega (arith, room, length-append r.outputs (o ∷ []))) one)

-- ---- an input

in-format : (ws : List Text) (few : length ws ≤ 1024) (y rest : List Text) (r : Reader) (w : Own) (o : Option FileFormat) → WhereSome IsReadFormat o
    → In ws ((where_some format_words o ++ y) ++ rest) r (record w { format = None }) → In ws (y ++ rest) r (record w { format = o })
in-format ws few y rest r w None fine h = h
in-format ws few y rest r w (Some f) fine h = (
  place_unless (is_written f) h.2.at,
  or_else h.1 (Some h.2.at),
  subst (λ b. Goes ws (y ++ rest) (in_hand r (record (held_in (place_unless (is_written f) h.2.at) (or_else h.1 (Some h.2.at)) (record w { format = Some f })) { unreadable = place_unless b h.2.at }))) fine
      (goes-option ws few (codes "-f") (format_name f) (y ++ rest) (in_hand r (held_in h.0 h.1 (record w { format = None }))) File kind.Format (value.Format f (is_read f) (is_written f)) h.2 refl line-format refl (omega arith)
      (format-short f) refl refl (reads-format f)),
)

in-start : (ws : List Text) (few : length ws ≤ 1024) (y rest : List Text) (r : Reader) (w : Own) (m : Micros)
    → In ws ((start_words m.us ++ y) ++ rest) r w → In ws (y ++ rest) r (record w { start = Some m })
in-start ws few y rest r w m h = (
  h.0,
  or_else h.1 (Some h.2.at),
  goes-option ws few (codes "-ss") (micros_text m.us) (y ++ rest) (in_hand r (held_in h.0 h.1 w)) File kind.Start (value.Start m) h.2 refl line-start refl (omega arith) (micros-short m.us m.bound)
      refl refl (reads-start m),
)

in-length : (ws : List Text) (few : length ws ≤ 1024) (y rest : List Text) (r : Reader) (w : Own) (o : Option ℕ) (k : Bounded o)
    → In ws ((length_words o ++ y) ++ rest) r (record w { length = None }) → In ws (y ++ rest) r (record w { length = micros_in o k })
unfolding micros_in
in-length ws few y rest r w None k h = h
in-length ws few y rest r w (Some n) k h = (
  h.0,
  or_else h.1 (Some h.2.at),
  goes-option ws few (codes "-t") (micros_text n) (y ++ rest) (in_hand r (held_in h.0 h.1 (record w { length = None }))) File kind.Length (value.Length (record { us = n; bound = k n refl })) h.2 refl line-length refl (omega arith)
      (micros-short n (k n refl)) refl refl (reads-length (record { us = n; bound = k n refl })),
)

in_room : (full : Bool) (at : ℕ) (early : Option Fault) → full ≡ false → early ≡ None → None ≡ (if full then Some (fault at TooMany) else or_else early (bad_at None))
in_room false at None h e = refl
in_room false at (Some f) h e = cc
in_room true at early h e = cc

input-same : (i : InputJob) (c : TimeCut) → c ≡ i.cut → record i { cut = c } ≡ i
input-same i c e = ap (λ x. record i { cut = x }) e

input-read : (ws : List Text) (few : length ws ≤ 1024) (rest : List Text) (r : Reader) (i : InputJob) → IsFineInput i → length r.inputs < 16 → Goes ws (input_words i ++ rest) (in_hand r (pending []))
    → Goes ws rest (record r { inputs = r.inputs ++ i ∷ []; pending = pending [] })
input-read ws few rest r i fine room g =
    let y3 : List Text = given (codes "-i") (input_text i.name) in
    let y2 : List Text = length_words i.cut.length ++ y3 in
    let y1 : List Text = start_words i.cut.start ++ y2 in
    let s : Option Micros = Some (start_in i.cut) in
    let l : Option Micros = micros_in i.cut.length i.cut.length_bound in
    let w0 : Own = own [] None None None None false false None None None none_asked false None None None in
    let h1 : In ws (y1 ++ rest) r (own [] None None None None false false None None None none_asked false None None i.format) = in-format ws few y1 rest r w0 i.format fine.format (None, None, g) in
    let h2 : In ws (y2 ++ rest) r (own [] None None None None false false s None None none_asked false None None i.format) = in-start ws few y2 rest r (own [] None None None None false false None None None none_asked false None None i.format) (start_in i.cut) h1 in
    let h3 : In ws (y3 ++ rest) r (own [] None None None None false false s l None none_asked false None None i.format) = in-length ws few y3 rest r (own [] None None None None false false s None None none_asked false None None i.format) i.cut.length i.cut.length_bound h2 in
    let old : Reader = in_hand r (held_in h3.0 h3.1 (own [] None None None None false false s l None none_asked false None None i.format)) in
    let full : nat_le 16 (length r.inputs) ≡ false = lt-leb 16 (length r.inputs) room in
    subst (λ x. Goes ws rest (record r { inputs = r.inputs ++ x ∷ []; pending = pending [] })) (input-same i (cut_of s l None) (cut-same i.cut))
    (goes-input ws few (codes "-i") (input_text i.name) i.name rest old h3.2 refl line-input (omega arith) fine.name (input-names i.name (is_itself (input_name i.name) i.name) refl) (in_room (nat_le 16 (length r.inputs)) (h3.2.at + 1) (ends_early i.cut.start l None) full (never_early i.cut.start l)))

inputs-read : (ws : List Text) (few : length ws ≤ 1024) (rest : List Text) (is : List InputJob) (r : Reader) → AllByRecursion IsFineInput is → length r.inputs + length is ≤ 16
    → Goes ws (flat_map input_words is ++ rest) (in_hand r (pending [])) → Goes ws rest (record r { inputs = r.inputs ++ is; pending = pending [] })
inputs-read ws few rest [] r fine room g = subst (λ t. Goes ws rest (record r { inputs = t; pending = pending [] })) (sym (append-nil r.inputs)) g
inputs-read ws few rest (i ∷ is) r fine room g =
    let after : Reader = record r { inputs = r.inputs ++ i ∷ []; pending = pending [] } in
    let one : Goes ws (flat_map input_words is ++ rest) after =
    input-read ws few (flat_map input_words is ++ rest) r i fine.0 (omega (arith, room))
    (goes-by ws ((input_words i ++ flat_map input_words is) ++ rest) (input_words i ++ (flat_map input_words is ++ rest)) (in_hand r (pending [])) (append_assoc (input_words i) (flat_map input_words is) rest) g) in
    subst (λ t. Goes ws rest (record r { inputs = t; pending = pending [] })) (append_assoc r.inputs (i ∷ []) is)
    (inputs-read ws few rest is after fine.1 (omega (arith, room, length-append r.inputs (i ∷ []))) one)

-- ---- the options of the whole command

graphs-read : (ws : List Text) (few : length ws ≤ 1024) (rest : List Text) (gs : List Graph) (r : Reader) → AllByRecursion IsFineGraph gs → length r.graphs + length gs ≤ 16
    → Goes ws (flat_map graph_words gs ++ rest) (in_hand r (pending [])) → Goes ws rest (record r { graphs = r.graphs ++ gs; pending = pending [] })
graphs-read ws few rest [] r fine room g = subst (λ t. Goes ws rest (record r { graphs = t; pending = pending [] })) (sym (append-nil r.graphs)) g
graphs-read ws few rest (x ∷ gs) r fine room g =
    let after : Reader = record r { graphs = r.graphs ++ x ∷ []; pending = pending [] } in
    let one : Goes ws (flat_map graph_words gs ++ rest) after =
    goes-option ws few (codes "-filter_complex") (printed x) (flat_map graph_words gs ++ rest) (in_hand r (pending [])) All kind.Complex (value.Complex x) g refl line-complex refl (omega arith) fine.0.1
    (lt-leb 16 (length r.graphs) (omega (arith, room))) refl (reads-complex x fine.0) in
    subst (λ t. Goes ws rest (record r { graphs = t; pending = pending [] })) (append_assoc r.graphs (x ∷ []) gs)
    (graphs-read ws few rest gs after fine.1 (omega (arith, room, length-append r.graphs (x ∷ []))) one)

trace-read : (ws : List Text) (few : length ws ≤ 1024) (rest : List Text) (o : Option Text) (r : Reader) → WhereSome (λ name. IsFineText (trace_text name)) o
    → Goes ws (trace_words o ++ rest) (in_hand (record r { trace = None }) (pending [])) → Goes ws rest (in_hand (record r { trace = o }) (pending []))
trace-read ws few rest None r fine g = g
trace-read ws few rest (Some name) r fine g =
    goes-option ws few (codes "-sched_trace") (trace_text name) rest (in_hand (record r { trace = None }) (pending [])) All kind.Trace (value.Trace name) g refl line-trace refl (omega arith) fine refl refl
    (reads-trace (trace_text name) name (trace-names name (is_itself (trace_name name) name) refl))

keeps-read : (ws : List Text) (few : length ws ≤ 1024) (rest : List Text) (b : Bool) (r : Reader)
    → Goes ws (keeps_words b ++ rest) (in_hand (record r { keeps = false }) (pending [])) → Goes ws rest (in_hand (record r { keeps = b }) (pending []))
keeps-read ws few rest false r g = g
keeps-read ws few rest true r g =
    goes-switch ws few (codes "-n") rest (in_hand (record r { keeps = false }) (pending [])) All kind.Keeps (value.Keeps true) g refl line-keeps refl refl (omega arith) refl

queue-read : (ws : List Text) (few : length ws ≤ 1024) (rest : List Text) (n : ℕ) (r : Reader) → 1 ≤ n → n ≤ 1024
    → Goes ws (queue_words n ++ rest) (in_hand r (pending [])) → Goes ws rest (in_hand (record r { queue = n }) (pending []))
queue-read ws few rest n r low high g =
    let small : n < 10 ^ 9 = omega (arith, high) in
    goes-option ws few (codes "-thread_queue_size") (decimal n) rest (in_hand r (pending [])) All kind.Queue (value.Queue n) g refl line-queue refl (omega arith) (omega (arith, number-short n small)) refl refl
    (Ok n, (is-number n small, low, high), refl)

-- ---- the job

abbrev state : ℕ → Option Text → Bool → List Graph → List InputJob → List OutputJob → Reader
state q t k gs is os = record { queue = q; trace = t; keeps = k; solo = None; graphs = gs; inputs = is; outputs = os; pending = pending [] }

abbrev done : Job → Reader
done j = state j.queue j.trace j.keeps j.graphs j.inputs j.outputs

all-read : (j : Job) → IsFineJob j → length (job_words j) ≤ 1024 → Goes (job_words j) [] (done j)
all-read j fine few =
    let ws : List Text = job_words j in
    let y4 : List Text = flat_map output_words j.outputs ++ [] in
    let y3 : List Text = flat_map input_words j.inputs ++ y4 in
    let y2 : List Text = flat_map graph_words j.graphs ++ y3 in
    let y1 : List Text = keeps_words j.keeps ++ y2 in
    let y0 : List Text = trace_words j.trace ++ y1 in
    let g0 : Goes ws y0 (state j.queue None false [] [] []) = queue-read ws few y0 j.queue (state 8 None false [] [] []) fine.some_queue fine.short_queue (goes-start ws) in
    let g1 : Goes ws y1 (state j.queue j.trace false [] [] []) = trace-read ws few y1 j.trace (state j.queue None false [] [] []) fine.trace g0 in
    let g2 : Goes ws y2 (state j.queue j.trace j.keeps [] [] []) = keeps-read ws few y2 j.keeps (state j.queue j.trace false [] [] []) g1 in
    let g3 : Goes ws y3 (state j.queue j.trace j.keeps j.graphs [] []) = graphs-read ws few y3 j.graphs (state j.queue j.trace j.keeps [] [] []) fine.graphs (omega (arith, fine.few_graphs)) g2 in
    let g4 : Goes ws y4 (state j.queue j.trace j.keeps j.graphs j.inputs []) = inputs-read ws few y4 j.inputs (state j.queue j.trace j.keeps j.graphs [] []) fine.inputs (omega (arith, fine.few_inputs)) g3 in
    outputs-read ws few [] j.outputs (state j.queue j.trace j.keeps j.graphs j.inputs []) fine.outputs (omega (arith, fine.few_outputs)) g4

none_left : (ws : List Text) (at : ℕ) → drop at ws ≡ [] → length ws ≤ at
none_left [] at h = omega arith
none_left (w ∷ ws) zero h = cc
none_left (w ∷ ws) (suc i) h = (let past : length ws ≤ i = none_left ws i h in omega (arith, past))

fine_end : (no_input no_output same : Bool) (count : ℕ) → no_input ≡ false → no_output ≡ false → same ≡ false
    → (if no_input then Some (fault count NoInput) else (if no_output then Some (fault count NoOutput) else (if same then Some (fault count SameName) else None))) ≡ None
fine_end false false false count h k l = refl
fine_end true b c count h k l = cc
fine_end false true c count h k l = cc
fine_end false false true count h k l = cc

job-read : (j : Job) → IsFineJob j → length (job_words j) ≤ 1024 → IsAnswer (job_words j) (Ok (asked.Run j))
job-read j fine few =
    let g : Goes (job_words j) [] (done j) = all-read j fine few in
    let no_output : (length j.outputs == 0) ≡ false = ne_eqb (length j.outputs) 0 (λ e. omega (arith, e, fine.some_outputs)) in
    let right : end_wrong (length (job_words j)) (done j) ≡ None =
    fine_end (lacks_input j.inputs j.graphs) (length j.outputs == 0) (shares_name j) (length (job_words j)) fine.some_inputs no_output
    (ap (λ b. b || is_twice stdin (read_names j)) fine.names ∙ fine.one_stdin) in
    ended (job_words j) g.at (done j) g.stands (Ok (asked.Run j)) (none_left (job_words j) g.at g.behind) (right, refl)

-- a word that stands alone
abbrev alone : Solo → ℕ → Reader
alone s at = record (state 8 None false [] [] []) { solo = Some s; pending = record (pending []) { before_input = Some at; before_output = Some at; at_end = Some at } }

help-read : IsAnswer (solo_words Help) (Ok (asked.Solo Help))
help-read =
    let ws : List Text = solo_words Help in
    let start : Goes ws ws (reader []) = goes-start ws in
    let g : Goes ws [] (alone Help start.at) = goes-switch ws (omega arith) (codes "-h") [] (state 8 None false [] [] []) Alone kind.Help (value.Solo Help) start refl line-help refl refl (omega arith) refl in
    ended ws g.at (alone Help start.at) g.stands (Ok (asked.Solo Help)) (none_left ws g.at g.behind) (refl, refl)

version-read : IsAnswer (solo_words Version) (Ok (asked.Solo Version))
version-read =
    let ws : List Text = solo_words Version in
    let start : Goes ws ws (reader []) = goes-start ws in
    let g : Goes ws [] (alone Version start.at) = goes-switch ws (omega arith) (codes "-version") [] (state 8 None false [] [] []) Alone kind.Version (value.Solo Version) start refl line-version refl refl (omega arith) refl in
    ended ws g.at (alone Version start.at) g.stands (Ok (asked.Solo Version)) (none_left ws g.at g.behind) (refl, refl)

self_run-read : (n : ℕ) → n ≤ 3600 → IsAnswer (solo_words (SelfRun n)) (Ok (asked.Solo (SelfRun n)))
self_run-read n high =
    let ws : List Text = solo_words (SelfRun n) in
    let small : n < 10 ^ 9 = omega (arith, high) in
    let start : Goes ws ws (reader []) = goes-start ws in
    let old : Reader = state 8 None false [] [] [] in
    let after : Reader = alone (SelfRun n) start.at in
    let g : Goes ws [] after =
    goes-option ws (omega arith) (codes "-selfrun") (decimal n) [] old Alone kind.SelfRun (value.Solo (SelfRun n)) start refl line-self_run refl (omega arith) (omega (arith, number-short n small)) refl refl
    (Ok n, (is-number n small, omega arith, high), refl) in
    ended ws g.at after g.stands (Ok (asked.Solo (SelfRun n))) (none_left ws g.at g.behind) (refl, refl)

solo-read : (s : Solo) → IsFineSolo s → IsAnswer (solo_words s) (Ok (asked.Solo s))
solo-read Help fine = help-read
solo-read Version fine = version-read
solo-read (SelfRun n) fine = self_run-read n fine

pub written-read : (c : Command) → IsFineCommand c → length (command_words c) ≤ 1024 → IsAnswer (command_words c) (Ok c)
written-read (asked.Run j) fine few = job-read j fine few
written-read (asked.Solo s) fine few = solo-read s fine
