-- What holds of every job that words ask for: of what one pass keeps, by each further entry.
use Rattle.std.proofs.Common.{◌≡◌, ℕ, ◌+◌, ◌≤◌, Bool, true, false, Option, Some, None, Result, Ok, Err, List, [], ◌∷◌, ◌++◌, length, refl, sym, ap, subst, ◌∙◌, arith, length-append}
use Rattle.std.specs.Prelude.{codes}
use Rattle.std.specs.Prelude.{if◌then◌else◌, not, is_some, nat_le, unwrap_or, ◌==◌, ◌||◌}
use Rattle.std.specs.List.{AllByRecursion}
use Rattle.std.specs.Str.{bytes_eq}
use Rattle.ff_lang.specs.declared.graph.Graph.{Graph}
use Rattle.ff_words.specs.declared.maps.map.MapSpec.{MapSpec}
use Rattle.ff_frame.specs.declared.head.Codec.{Codec}
use Rattle.ff_frame.specs.declared.hash.HashKind.TheVariants.{Sha256, Md5}
use Rattle.ff_words.specs.declared.error.Fault.{Fault}
use Rattle.ff_words.specs.declared.error.WordKind.{WordKind}
use Rattle.ff_words.specs.declared.error.WordKind.TheVariants.{TooMany, BadValue, NoInput, NoOutput, SameName}
use Rattle.ff_format.specs.declared.format.FileFormat.{FileFormat}
use Rattle.ff_format.specs.declared.format.FileFormat.TheVariants.{FrameHash}
use Rattle.ff_format.specs.declared.format.Rf64.TheVariants.{Never, Auto, Always}
use Rattle.ff_words.specs.declared.job.InputJob.{InputJob}
use Rattle.ff_words.specs.declared.job.OutputJob.{OutputJob}
use Rattle.ff_words.specs.declared.job.Job.{Job}
use Rattle.ff_words.specs.declared.job.Command.TheVariants as asked
use Rattle.ff_words.specs.declared.job.Solo.{Solo}
use Rattle.ff_words.specs.declared.job.Solo.TheVariants.{Help, Version, SelfRun}
use Rattle.ff_words.specs.declared.table.Concern.{Concern}
use Rattle.ff_words.specs.declared.table.Kind.{Kind}
use Rattle.ff_words.specs.declared.table.Kind.TheVariants as kind
use Rattle.ff_words.specs.declared.table.Named.{Named}
use Rattle.ff_words.specs.declared.table.Rule.{Rule}
use Rattle.ff_words.specs.declared.reader.Reader.{Reader}
use Rattle.ff_words.specs.declared.value.Value.{Value}
use Rattle.ff_words.specs.declared.value.Value.TheVariants as value
use Rattle.ff_words.specs.laws.Bounds.{HasFewMaps, IsBounded}
use Rattle.ff_words.specs.Table.{option_named, format_named, audio_codec, video_codec, is_level, is_frame_mode, is_sync_mode}
use Rattle.ff_words.specs.Values.{Reads, ReadsWhole, ReadsTime, ReadsGraph, ReadsMap, Makes, made, switched, or_bad, format_value, codec_value, name_value, hash_value, rf64_value, pixels_value, size_value, is_spelled, mode_value, ReadsLevel, ReadsRate}
use Rattle.ff_words.specs.Names.{stdin, input_name, trace_name}
use Rattle.ff_words.specs.Numbers.{size_of}
use Rattle.ff_words.specs.declared.job.Size.{Size}
use Rattle.ff_frame.specs.declared.video.Format.TheVariants.{C420, C422, C444, Mono}
use Rattle.ff_words.specs.Table.{format_ending}
use Rattle.ff_words.specs.Words.{Token, Entry, fault, early, option_fault, given_fault, is_full, is_too_much, is_dashed, is_file, is_output, late, misplaced, bad_at, own_early, or_else, takes, placed, IsOption, IsNamed, IsToken, TokenReads, IsEntry, AreRead, IsAnswer, tokens, command, job, last, as_solo, end_fault, end_by, stands_alone, run_fault, groups, inputs, outputs, lacks_input, same_name, is_twice, shares_name, read_names, job_name, output_format, command_by, first_place, not_before_input, not_before_output, not_at_end, unreadable, unwritable}
use Rattle.ff_words.specs.laws.Reading.{reader, optioned, with_input, with_output}
use Rattle.ff_words.proofs.Snoc.{entry, filed-is, output-filed, reader-snoc, reader-input}
use Rattle.ff_words.proofs.Steps.{early-option}

-- ---- what an option of a kind reads as

-- what an option of this kind may read as: what adds up is of its own kind, and a size is in its range
abbrev OfKind : Value → Kind → Type 0
OfKind (value.Complex g) k = k ≡ kind.Complex
OfKind (value.Queue n) k = (1 ≤ n) × (n ≤ 1024)
OfKind (value.Map m) k = k ≡ kind.Map
OfKind (value.Output n x) k = ⊥
OfKind _ k = Unit {0}

makes-ok : {X : Type 0} (make : X → Value) (Is : Result X WordKind → Type 0) (v : Value) (q : Result X WordKind) → Is q → Ok v ≡ made make q → (x : X) × Is (Ok x) × (v ≡ make x)
makes-ok make Is v (Ok x) is e = (x, is, cc)
makes-ok make Is v (Err k) is e = absurd cc

of-made : {X : Type 0} (make : X → Value) (Is : Result X WordKind → Type 0) (v : Value) (k : Kind) → ((x : X) → Is (Ok x) → OfKind (make x) k) → Makes make Is (Ok v) → OfKind v k
of-made make Is v k each h = (let m = makes-ok make Is v h.0 h.1 h.2 in subst (λ w. OfKind w k) (sym m.2) (each m.0 m.1))

of-named : (v : Value) (k : Kind) (o : Option Value) → ((w : Value) → o ≡ Some w → OfKind w k) → Ok v ≡ or_bad o → OfKind v k
of-named v k (Some w) each e = (let same : v ≡ w = cc in subst (λ x. OfKind x k) (sym same) (each w refl))
of-named v k None each e = absurd cc

of-format : (k : Kind) (o : Option Named) (w : Value) → format_value o ≡ Some w → OfKind w k
of-format k (Some n) w e = (let same : value.Format n.format n.read n.written ≡ w = cc in subst (λ x. OfKind x k) same tt)
of-format k None w e = absurd cc

of-codec : (make : Codec → Value) (k : Kind) → ((c : Codec) → OfKind (make c) k) → (o : Option Codec) (w : Value) → codec_value make o ≡ Some w → OfKind w k
of-codec make k each (Some c) w e = (let same : make c ≡ w = cc in subst (λ x. OfKind x k) same (each c))
of-codec make k each None w e = absurd cc

of-test : (v : Value) (k : Kind) → OfKind v k → (b : Bool) (o : Option Value) → ((w : Value) → o ≡ Some w → OfKind w k) → (w : Value) → (if b then Some v else o) ≡ Some w → OfKind w k
of-test v k is true o other w e = (let same : v ≡ w = cc in subst (λ x. OfKind x k) same is)
of-test v k is false o other w e = other w e

of-none : (k : Kind) (w : Value) → None ≡ Some w → OfKind w k
of-none k w e = absurd cc

of-name : (make : List ℕ → Value) (k : Kind) → ((name : List ℕ) → OfKind (make name) k) → (o : Option (List ℕ)) (w : Value) → name_value make o ≡ Some w → OfKind w k
of-name make k each (Some name) w e = (let same : make name ≡ w = cc in subst (λ x. OfKind x k) same (each name))
of-name make k each None w e = absurd cc

of-size : (o : Option Size) (w : Value) → size_value o ≡ Some w → OfKind w kind.Size
of-size (Some s) w e = (let same : value.Size s ≡ w = cc in subst (λ x. OfKind x kind.Size) same tt)
of-size None w e = absurd cc

of-mode : (v : Value) (k : Kind) → OfKind value.Nothing k → (b : Bool) → Ok v ≡ or_bad (mode_value b) → OfKind v k
of-mode v k is b h = of-named v k (mode_value b) (of-test value.Nothing k is b None (of-none k)) h

of-level : (v : Value) (b : Bool) (text : List ℕ) → ReadsLevel b text (Ok v) → OfKind v kind.Level
of-level v true text h = (let same : value.Nothing ≡ v = cc in subst (λ x. OfKind x kind.Level) same tt)
of-level v false text h = of-made (λ n. value.Nothing) (ReadsWhole 0 999999999 text) v kind.Level (λ x is. tt) h

reads-kind : (k : Kind) (text : List ℕ) (v : Value) → Reads k text (Ok v) → OfKind v k
reads-kind kind.Nothing text v h = absurd h
reads-kind kind.Keeps text v h = absurd h
reads-kind kind.Replaces text v h = absurd h
reads-kind kind.NoStats text v h = absurd h
reads-kind kind.NoVideo text v h = absurd h
reads-kind kind.NoAudio text v h = absurd h
reads-kind kind.Shortest text v h = absurd h
reads-kind kind.Help text v h = absurd h
reads-kind kind.Version text v h = absurd h
reads-kind kind.Level text v h = of-level v (is_level text) text h
reads-kind kind.Word text v h = (let same : value.Nothing ≡ v = cc in subst (λ x. OfKind x kind.Word) same tt)
reads-kind kind.Number text v h = of-made (λ n. value.Nothing) (ReadsWhole 0 999999999 text) v kind.Number (λ x is. tt) h
reads-kind kind.FrameMode text v h = of-mode v kind.FrameMode tt (is_frame_mode text) h
reads-kind kind.SyncMode text v h = of-mode v kind.SyncMode tt (is_sync_mode text) h
reads-kind kind.Complex text v h = of-made value.Complex (ReadsGraph text) v kind.Complex (λ x is. refl) h
reads-kind kind.Queue text v h = of-made value.Queue (ReadsWhole 1 1024 text) v kind.Queue (λ x is. (is.1, is.2)) h
reads-kind kind.Trace text v h = of-named v kind.Trace (name_value value.Trace (trace_name text)) (of-name value.Trace kind.Trace (λ name. tt) (trace_name text)) h
reads-kind kind.SelfRun text v h = of-made (λ n. value.Solo (SelfRun n)) (ReadsWhole 0 3600 text) v kind.SelfRun (λ x is. tt) h
reads-kind kind.Format text v h = of-named v kind.Format (format_value (format_named text)) (of-format kind.Format (format_named text)) h
reads-kind kind.Start text v h = of-made value.Start (ReadsTime text) v kind.Start (λ x is. tt) h
reads-kind kind.Length text v h = of-made value.Length (ReadsTime text) v kind.Length (λ x is. tt) h
reads-kind kind.End text v h = of-made (λ us. value.End us (length text)) (ReadsTime text) v kind.End (λ x is. tt) h
reads-kind kind.Input text v h = of-named v kind.Input (name_value value.Input (input_name text)) (of-name value.Input kind.Input (λ name. tt) (input_name text)) h
reads-kind kind.Map text v h = of-made value.Map (ReadsMap text) v kind.Map (λ x is. refl) h
reads-kind kind.AudioCodec text v h = of-named v kind.AudioCodec (codec_value value.AudioCodec (audio_codec text)) (of-codec value.AudioCodec kind.AudioCodec (λ c. tt) (audio_codec text)) h
reads-kind kind.VideoCodec text v h = of-named v kind.VideoCodec (codec_value value.VideoCodec (video_codec text)) (of-codec value.VideoCodec kind.VideoCodec (λ c. tt) (video_codec text)) h
reads-kind kind.VideoGraph text v h = of-made value.VideoGraph (ReadsGraph text) v kind.VideoGraph (λ x is. tt) h
reads-kind kind.AudioGraph text v h = of-made value.AudioGraph (ReadsGraph text) v kind.AudioGraph (λ x is. tt) h
reads-kind kind.Frames text v h = of-made value.Frames (ReadsWhole 0 999999999 text) v kind.Frames (λ x is. tt) h
reads-kind kind.Rate text v h = of-made value.Rate (ReadsWhole 1 999999999 text) v kind.Rate (λ x is. tt) h
reads-kind kind.Channels text v h = of-made value.Channels (ReadsWhole 1 8 text) v kind.Channels (λ x is. tt) h
reads-kind kind.Pixels text v h =
    of-named v kind.Pixels (pixels_value text)
    (of-test (value.Pixels C420) kind.Pixels tt (bytes_eq text (codes "yuv420p")) (if bytes_eq text (codes "yuv422p") then Some (value.Pixels C422) else (if bytes_eq text (codes "yuv444p") then Some (value.Pixels C444) else (if bytes_eq text (codes "gray") then Some (value.Pixels Mono) else None)))
    (of-test (value.Pixels C422) kind.Pixels tt (bytes_eq text (codes "yuv422p")) (if bytes_eq text (codes "yuv444p") then Some (value.Pixels C444) else (if bytes_eq text (codes "gray") then Some (value.Pixels Mono) else None))
    (of-test (value.Pixels C444) kind.Pixels tt (bytes_eq text (codes "yuv444p")) (if bytes_eq text (codes "gray") then Some (value.Pixels Mono) else None)
    (of-test (value.Pixels Mono) kind.Pixels tt (bytes_eq text (codes "gray")) None
    (of-none kind.Pixels)))))
    h
reads-kind kind.FrameRate text v h = of-made value.FrameRate (ReadsRate text) v kind.FrameRate (λ x is. tt) h
reads-kind kind.Size text v h = of-named v kind.Size (size_value (size_of text)) (of-size (size_of text)) h
reads-kind kind.Hash text v h =
    of-named v kind.Hash (hash_value text)
    (of-test (value.Hash Sha256) kind.Hash tt (is_spelled text (codes "SHA256")) (if is_spelled text (codes "MD5") then Some (value.Hash Md5) else None)
    (of-test (value.Hash Md5) kind.Hash tt (is_spelled text (codes "MD5")) None (of-none kind.Hash)))
    h
reads-kind kind.Rf64 text v h =
    of-named v kind.Rf64 (rf64_value text)
    (of-test (value.Rf64 Never) kind.Rf64 tt (bytes_eq text (codes "never")) (if bytes_eq text (codes "auto") then Some (value.Rf64 Auto) else if bytes_eq text (codes "always") then Some (value.Rf64 Always) else None)
    (of-test (value.Rf64 Auto) kind.Rf64 tt (bytes_eq text (codes "auto")) (if bytes_eq text (codes "always") then Some (value.Rf64 Always) else None)
    (of-test (value.Rf64 Always) kind.Rf64 tt (bytes_eq text (codes "always")) None (of-none kind.Rf64))))
    h

switched-kind : (k : Kind) (w : Value) → switched k ≡ Some w → OfKind w k
switched-kind kind.Nothing w e = (let same : value.Nothing ≡ w = cc in subst (λ x. OfKind x kind.Nothing) same tt)
switched-kind kind.Keeps w e = (let same : value.Keeps true ≡ w = cc in subst (λ x. OfKind x kind.Keeps) same tt)
switched-kind kind.Replaces w e = (let same : value.Keeps false ≡ w = cc in subst (λ x. OfKind x kind.Replaces) same tt)
switched-kind kind.NoStats w e = (let same : value.Nothing ≡ w = cc in subst (λ x. OfKind x kind.NoStats) same tt)
switched-kind kind.NoVideo w e = (let same : value.NoVideo ≡ w = cc in subst (λ x. OfKind x kind.NoVideo) same tt)
switched-kind kind.NoAudio w e = (let same : value.NoAudio ≡ w = cc in subst (λ x. OfKind x kind.NoAudio) same tt)
switched-kind kind.Shortest w e = (let same : value.Shortest ≡ w = cc in subst (λ x. OfKind x kind.Shortest) same tt)
switched-kind kind.Help w e = (let same : value.Solo Help ≡ w = cc in subst (λ x. OfKind x kind.Help) same tt)
switched-kind kind.Version w e = (let same : value.Solo Version ≡ w = cc in subst (λ x. OfKind x kind.Version) same tt)
switched-kind kind.Level w e = absurd cc
switched-kind kind.Word w e = absurd cc
switched-kind kind.Number w e = absurd cc
switched-kind kind.FrameMode w e = absurd cc
switched-kind kind.SyncMode w e = absurd cc
switched-kind kind.Complex w e = absurd cc
switched-kind kind.Queue w e = absurd cc
switched-kind kind.Trace w e = absurd cc
switched-kind kind.SelfRun w e = absurd cc
switched-kind kind.Format w e = absurd cc
switched-kind kind.Start w e = absurd cc
switched-kind kind.Length w e = absurd cc
switched-kind kind.End w e = absurd cc
switched-kind kind.Input w e = absurd cc
switched-kind kind.Map w e = absurd cc
switched-kind kind.AudioCodec w e = absurd cc
switched-kind kind.VideoCodec w e = absurd cc
switched-kind kind.VideoGraph w e = absurd cc
switched-kind kind.AudioGraph w e = absurd cc
switched-kind kind.Frames w e = absurd cc
switched-kind kind.Rate w e = absurd cc
switched-kind kind.Channels w e = absurd cc
switched-kind kind.Pixels w e = absurd cc
switched-kind kind.FrameRate w e = absurd cc
switched-kind kind.Size w e = absurd cc
switched-kind kind.Hash w e = absurd cc
switched-kind kind.Rf64 w e = absurd cc

placed-kind : (at : ℕ) (rule : Rule) (text : List ℕ) (v : Value) (read : Result Value WordKind) → Reads rule.kind text read → Ok v ≡ placed (at + 1) read → OfKind v rule.kind
placed-kind at rule text v (Ok w) reads e = (let same : w ≡ v = cc in reads-kind rule.kind text v (subst (λ x. Reads rule.kind text (Ok x)) same reads))
placed-kind at rule text v (Err k) reads e = absurd cc

option-kind : (at : ℕ) (rule : Rule) (o : Option Value) (given : Option (List ℕ)) (concern : Concern) (v : Value) → switched rule.kind ≡ o → IsOption at rule o given concern (Ok v) → OfKind v rule.kind
option-kind at rule (Some w) given concern v s h = (let same : w ≡ v = (let e : Ok v ≡ Ok w = h.1 in cc) in subst (λ x. OfKind x rule.kind) same (switched-kind rule.kind w s))
option-kind at rule None None concern v s h = absurd h
option-kind at rule None (Some text) concern v s h = placed-kind at rule text v h.1 h.2 h.3

-- a value that is no output is that of an option in the list
abbrev HasRule : Token → Value → Type 0
HasRule token v = (rule : Rule) × (is_dashed token.word ≡ true) × (option_named token.word ≡ Some rule) × OfKind v rule.kind

named-rule : (token : Token) (o : Option Rule) (concern : Concern) (v : Value) → is_dashed token.word ≡ true → option_named token.word ≡ o → IsNamed token o concern (Ok v) → HasRule token v
named-rule token None concern v dashed named h = absurd h
named-rule token (Some rule) concern v dashed named h = (rule, dashed, named, option-kind token.at rule (switched rule.kind) token.value concern v refl h)

abbrev is_written : Value → Bool
is_written (value.Output name ending) = true
is_written _ = false

token-rule : (token : Token) (b : Bool) (concern : Concern) (v : Value) → is_dashed token.word ≡ b → is_written v ≡ false → IsToken token b concern (Ok v) → HasRule token v
token-rule token false concern v dashed not_written h = absurd (let same : v ≡ value.Output token.word (format_ending token.word) = (let e = h.1 in cc) in (let w : is_written v ≡ true = ap is_written same in cc))
token-rule token true concern v dashed not_written h = named-rule token (option_named token.word) concern v dashed refl h

-- ---- what the faults of a token leave

none-of : {X : Type 0} (b : Bool) (x : X) (o : Option X) → (if b then Some x else o) ≡ None → (b ≡ false) × (o ≡ None)
none-of true x o e = absurd cc
none-of false x o e = (refl, e)

none-behind : (o : Option ℕ) (other : Option Fault) → misplaced o other ≡ None → other ≡ None
none-behind (Some at) other e = absurd cc
none-behind None other e = e

not-full : (n : ℕ) → nat_le 16 n ≡ false → n + 1 ≤ 16
not-full n e = grind arith

given-room : (es : List Entry) (at : ℕ) (k : Kind) (given : Option (List ℕ)) → given_fault es at k given ≡ None → is_full es k ≡ false
given-room es at k None e = absurd cc
given-room es at k (Some v) e = (none-of (is_full es k) (fault at TooMany) (if is_too_much (at + 1) v then Some (fault (at + 1) TooMany) else None) e).0

-- a token whose option adds up isn't one too many
has-room : (es : List Entry) (token : Token) (rule : Rule) → early es token ≡ None → is_dashed token.word ≡ true → option_named token.word ≡ Some rule → takes (Some rule) ≡ true
    → is_full es rule.kind ≡ false
has-room es token rule fine dashed named valued =
    let short : is_too_much token.at token.word ≡ false = (none-of (is_too_much token.at token.word) (fault token.at TooMany) (if is_dashed token.word then option_fault es token (option_named token.word) else None) fine).0 in
    let given : given_fault es token.at rule.kind token.value ≡ None =
    ap (λ b. if b then given_fault es token.at rule.kind token.value else None) (sym valued) ∙ (sym (early-option es token rule short dashed named) ∙ fine) in
    given-room es token.at rule.kind token.value given

-- ---- how many there are

-- of what a reader keeps: the size of the queues, and how many there are of what may be sixteen
record Few (queue : ℕ) (graphs : List Graph) (ins : List InputJob) (outs : List OutputJob) (maps : List MapSpec) : Type 0 where
  some_queue : 1 ≤ queue
  short_queue : queue ≤ 1024
  few_graphs : length graphs ≤ 16
  few_inputs : length ins ≤ 16
  few_outputs : length outs ≤ 16
  few_maps : AllByRecursion HasFewMaps outs
  few_waiting : length maps ≤ 16

abbrev Small : Reader → Type 0
Small r = Few r.queue r.graphs r.inputs r.outputs r.pending.maps

one-more : {X : Type 0} (xs : List X) (x : X) → length xs + 1 ≤ 16 → length (xs ++ x ∷ []) ≤ 16
one-more xs x e = omega (arith, length-append xs (x ∷ []), e)

all-more : {X : Type 0} (P : X → Type 0) (xs : List X) (x : X) → AllByRecursion P xs → P x → AllByRecursion P (xs ++ x ∷ [])
all-more P [] x all is = (is, tt)
all-more P (y ∷ xs) x all is = (all.0, all-more P xs x all.1 is)

kind-room : (es : List Entry) (token : Token) (rule : Rule) (k : Kind) → early es token ≡ None → is_dashed token.word ≡ true → option_named token.word ≡ Some rule → rule.kind ≡ k → switched k ≡ None
    → is_full es k ≡ false
kind-room es token rule k fine dashed named is valued =
    subst (λ l. is_full es l ≡ false) is
    (has-room es token rule fine dashed named (ap (λ l. not (is_some (switched l))) is ∙ ap (λ o. not (is_some o)) valued))

-- an option that waits or concerns all
small-option : (es : List Entry) (token : Token) (at : ℕ) (concern : Concern) (v : Value) → is_file v ≡ false → early es token ≡ None → HasRule token v
    → Small (reader es) → Small (optioned (entry at concern v) (reader es))
small-option es token at concern value.Nothing plain fine h s = s
small-option es token at concern (value.Keeps b) plain fine h s = s
small-option es token at concern value.NoVideo plain fine h s = s
small-option es token at concern value.NoAudio plain fine h s = s
small-option es token at concern value.Shortest plain fine h s = s
small-option es token at concern (value.Complex g) plain fine h s = record { some_queue = s.some_queue; short_queue = s.short_queue; few_graphs = one-more (reader es).graphs g (not-full (length (reader es).graphs) (kind-room es token h.0 kind.Complex fine h.1 h.2 h.3 refl)); few_inputs = s.few_inputs; few_outputs = s.few_outputs; few_maps = s.few_maps; few_waiting = s.few_waiting }
small-option es token at concern (value.Queue n) plain fine h s = record { some_queue = h.3.0; short_queue = h.3.1; few_graphs = s.few_graphs; few_inputs = s.few_inputs; few_outputs = s.few_outputs; few_maps = s.few_maps; few_waiting = s.few_waiting }
small-option es token at concern (value.Trace n) plain fine h s = s
small-option es token at concern (value.Solo n) plain fine h s = s
small-option es token at concern (value.Format f read written) plain fine h s = s
small-option es token at concern (value.Start m) plain fine h s = s
small-option es token at concern (value.Length m) plain fine h s = s
small-option es token at concern (value.End us n) plain fine h s = s
small-option es token at concern (value.Input n) plain fine h s = absurd cc
small-option es token at concern (value.Map m) plain fine h s = record { some_queue = s.some_queue; short_queue = s.short_queue; few_graphs = s.few_graphs; few_inputs = s.few_inputs; few_outputs = s.few_outputs; few_maps = s.few_maps; few_waiting = one-more (reader es).pending.maps m (not-full (length (reader es).pending.maps) (kind-room es token h.0 kind.Map fine h.1 h.2 h.3 refl)) }
small-option es token at concern (value.AudioCodec c) plain fine h s = s
small-option es token at concern (value.VideoCodec c) plain fine h s = s
small-option es token at concern (value.VideoGraph g) plain fine h s = s
small-option es token at concern (value.AudioGraph g) plain fine h s = s
small-option es token at concern (value.Frames n) plain fine h s = s
small-option es token at concern (value.Rate n) plain fine h s = s
small-option es token at concern (value.Channels n) plain fine h s = s
small-option es token at concern (value.Pixels f) plain fine h s = s
small-option es token at concern (value.FrameRate base) plain fine h s = s
small-option es token at concern (value.Size z) plain fine h s = s
small-option es token at concern (value.Hash d) plain fine h s = s
small-option es token at concern (value.Rf64 mode) plain fine h s = s
small-option es token at concern (value.Output n x) plain fine h s = absurd cc

small-input : (es : List Entry) (at : ℕ) (name : List ℕ) → late es at (value.Input name) ≡ None → Small (reader es) → Small (with_input name (reader es))
small-input es at name fine s =
    let behind : Option Fault = or_else (own_early (groups es).behind) (bad_at (unreadable (groups es).behind)) in
    let room : nat_le 16 (length (inputs es)) ≡ false = (none-of (nat_le 16 (length (inputs es))) (fault (at + 1) TooMany) behind (none-behind (first_place not_before_input (groups es).behind) (if nat_le 16 (length (inputs es)) then Some (fault (at + 1) TooMany) else behind) fine)).0 in
    record {
      some_queue = s.some_queue;
      short_queue = s.short_queue;
      few_graphs = s.few_graphs;
      few_inputs = one-more (inputs es) _ (not-full (length (inputs es)) room);
      few_outputs = s.few_outputs;
      few_maps = s.few_maps;
      few_waiting = omega arith;
    }

small-output : (es : List Entry) (at : ℕ) (word name : List ℕ) (ending : Option FileFormat) (format : FileFormat) → late es at (value.Output word ending) ≡ None → Small (reader es) → Small (with_output name format (reader es))
small-output es at word name ending format fine s =
    let behind : Option Fault = or_else (own_early (groups es).behind) (or_else (bad_at (unwritable (groups es).behind)) (if is_output word (output_format (groups es).behind ending) then None else Some (fault at BadValue))) in
    let room : nat_le 16 (length (outputs es)) ≡ false = (none-of (nat_le 16 (length (outputs es))) (fault at TooMany) behind (none-behind (first_place not_before_output (groups es).behind) (if nat_le 16 (length (outputs es)) then Some (fault at TooMany) else behind) fine)).0 in
    record {
      some_queue = s.some_queue;
      short_queue = s.short_queue;
      few_graphs = s.few_graphs;
      few_inputs = s.few_inputs;
      few_outputs = one-more (outputs es) _ (not-full (length (outputs es)) room);
      few_maps = all-more HasFewMaps (outputs es) _ s.few_maps s.few_waiting;
      few_waiting = omega arith;
    }

-- ---- by each further entry

-- what holds of what was read behind no entry, and behind one more holds still, holds behind all
along : (P : List Entry → Type 0) → ((es : List Entry) (token : Token) (e : Entry) → IsEntry es token e → P es → P (es ++ e ∷ []))
    → (es : List Entry) (ts : List Token) (all : List Entry) → AreRead es ts all → P es → P all
along P step es [] all read p = subst P read p
along P step es (token ∷ ts) all read p = along P step (es ++ read.0 ∷ []) ts all read.2 (step es token read.0 read.1 p)

-- one more entry, by whether it is a file
by-value : (P : Reader → Type 0) (es : List Entry) (token : Token) (at : ℕ) (concern : Concern) (v : Value) → early es token ≡ None → TokenReads token concern (Ok v) → late es token.at v ≡ None
    → (is_file v ≡ false → HasRule token v → P (optioned (entry at concern v) (reader es)))
    → ((name : List ℕ) → late es token.at (value.Input name) ≡ None → P (with_input name (reader es)))
    → ((word name : List ℕ) (ending : Option FileFormat) (format : FileFormat) → late es token.at (value.Output word ending) ≡ None → P (with_output name format (reader es)))
    → P (reader (es ++ entry at concern v ∷ []))
by-value P es token at concern value.Nothing before reads fine option ins outs = subst P (sym (reader-snoc es (entry at concern value.Nothing) refl)) (option refl (token-rule token (is_dashed token.word) concern value.Nothing refl refl reads))
by-value P es token at concern (value.Keeps b) before reads fine option ins outs = subst P (sym (reader-snoc es (entry at concern (value.Keeps b)) refl)) (option refl (token-rule token (is_dashed token.word) concern (value.Keeps b) refl refl reads))
by-value P es token at concern value.NoVideo before reads fine option ins outs = subst P (sym (reader-snoc es (entry at concern value.NoVideo) refl)) (option refl (token-rule token (is_dashed token.word) concern value.NoVideo refl refl reads))
by-value P es token at concern value.NoAudio before reads fine option ins outs = subst P (sym (reader-snoc es (entry at concern value.NoAudio) refl)) (option refl (token-rule token (is_dashed token.word) concern value.NoAudio refl refl reads))
by-value P es token at concern value.Shortest before reads fine option ins outs = subst P (sym (reader-snoc es (entry at concern value.Shortest) refl)) (option refl (token-rule token (is_dashed token.word) concern value.Shortest refl refl reads))
by-value P es token at concern (value.Complex g) before reads fine option ins outs = subst P (sym (reader-snoc es (entry at concern (value.Complex g)) refl)) (option refl (token-rule token (is_dashed token.word) concern (value.Complex g) refl refl reads))
by-value P es token at concern (value.Queue n) before reads fine option ins outs = subst P (sym (reader-snoc es (entry at concern (value.Queue n)) refl)) (option refl (token-rule token (is_dashed token.word) concern (value.Queue n) refl refl reads))
by-value P es token at concern (value.Trace n) before reads fine option ins outs = subst P (sym (reader-snoc es (entry at concern (value.Trace n)) refl)) (option refl (token-rule token (is_dashed token.word) concern (value.Trace n) refl refl reads))
by-value P es token at concern (value.Solo n) before reads fine option ins outs = subst P (sym (reader-snoc es (entry at concern (value.Solo n)) refl)) (option refl (token-rule token (is_dashed token.word) concern (value.Solo n) refl refl reads))
by-value P es token at concern (value.Format f read written) before reads fine option ins outs = subst P (sym (reader-snoc es (entry at concern (value.Format f read written)) refl)) (option refl (token-rule token (is_dashed token.word) concern (value.Format f read written) refl refl reads))
by-value P es token at concern (value.Start m) before reads fine option ins outs = subst P (sym (reader-snoc es (entry at concern (value.Start m)) refl)) (option refl (token-rule token (is_dashed token.word) concern (value.Start m) refl refl reads))
by-value P es token at concern (value.Length m) before reads fine option ins outs = subst P (sym (reader-snoc es (entry at concern (value.Length m)) refl)) (option refl (token-rule token (is_dashed token.word) concern (value.Length m) refl refl reads))
by-value P es token at concern (value.End us n) before reads fine option ins outs = subst P (sym (reader-snoc es (entry at concern (value.End us n)) refl)) (option refl (token-rule token (is_dashed token.word) concern (value.End us n) refl refl reads))
by-value P es token at concern (value.Input n) before reads fine option ins outs = subst P (sym (reader-input es at concern n)) (ins n fine)
by-value P es token at concern (value.Map m) before reads fine option ins outs = subst P (sym (reader-snoc es (entry at concern (value.Map m)) refl)) (option refl (token-rule token (is_dashed token.word) concern (value.Map m) refl refl reads))
by-value P es token at concern (value.AudioCodec c) before reads fine option ins outs = subst P (sym (reader-snoc es (entry at concern (value.AudioCodec c)) refl)) (option refl (token-rule token (is_dashed token.word) concern (value.AudioCodec c) refl refl reads))
by-value P es token at concern (value.VideoCodec c) before reads fine option ins outs = subst P (sym (reader-snoc es (entry at concern (value.VideoCodec c)) refl)) (option refl (token-rule token (is_dashed token.word) concern (value.VideoCodec c) refl refl reads))
by-value P es token at concern (value.VideoGraph g) before reads fine option ins outs = subst P (sym (reader-snoc es (entry at concern (value.VideoGraph g)) refl)) (option refl (token-rule token (is_dashed token.word) concern (value.VideoGraph g) refl refl reads))
by-value P es token at concern (value.AudioGraph g) before reads fine option ins outs = subst P (sym (reader-snoc es (entry at concern (value.AudioGraph g)) refl)) (option refl (token-rule token (is_dashed token.word) concern (value.AudioGraph g) refl refl reads))
by-value P es token at concern (value.Frames n) before reads fine option ins outs = subst P (sym (reader-snoc es (entry at concern (value.Frames n)) refl)) (option refl (token-rule token (is_dashed token.word) concern (value.Frames n) refl refl reads))
by-value P es token at concern (value.Rate n) before reads fine option ins outs = subst P (sym (reader-snoc es (entry at concern (value.Rate n)) refl)) (option refl (token-rule token (is_dashed token.word) concern (value.Rate n) refl refl reads))
by-value P es token at concern (value.Channels n) before reads fine option ins outs = subst P (sym (reader-snoc es (entry at concern (value.Channels n)) refl)) (option refl (token-rule token (is_dashed token.word) concern (value.Channels n) refl refl reads))
by-value P es token at concern (value.Pixels f) before reads fine option ins outs = subst P (sym (reader-snoc es (entry at concern (value.Pixels f)) refl)) (option refl (token-rule token (is_dashed token.word) concern (value.Pixels f) refl refl reads))
by-value P es token at concern (value.FrameRate base) before reads fine option ins outs = subst P (sym (reader-snoc es (entry at concern (value.FrameRate base)) refl)) (option refl (token-rule token (is_dashed token.word) concern (value.FrameRate base) refl refl reads))
by-value P es token at concern (value.Size s) before reads fine option ins outs = subst P (sym (reader-snoc es (entry at concern (value.Size s)) refl)) (option refl (token-rule token (is_dashed token.word) concern (value.Size s) refl refl reads))
by-value P es token at concern (value.Hash h) before reads fine option ins outs = subst P (sym (reader-snoc es (entry at concern (value.Hash h)) refl)) (option refl (token-rule token (is_dashed token.word) concern (value.Hash h) refl refl reads))
by-value P es token at concern (value.Rf64 mode) before reads fine option ins outs = subst P (sym (reader-snoc es (entry at concern (value.Rf64 mode)) refl)) (option refl (token-rule token (is_dashed token.word) concern (value.Rf64 mode) refl refl reads))
by-value P es token at concern (value.Output n x) before reads fine option ins outs = subst P (sym (filed-is es (entry at concern (value.Output n x)) refl ∙ output-filed n x es)) (outs n (job_name (unwrap_or (output_format (groups es).behind x) FrameHash) n) x (unwrap_or (output_format (groups es).behind x) FrameHash) fine)

small-step : (es : List Entry) (token : Token) (e : Entry) → IsEntry es token e → Small (reader es) → Small (reader (es ++ e ∷ []))
small-step es token e is s =
    by-value Small es token e.at e.concern e.value is.0 is.1 is.3
    (λ plain has. small-option es token e.at e.concern e.value plain is.0 has s)
    (λ name fine. small-input es token.at name fine s)
    (λ word name ending format fine. small-output es token.at word name ending format fine s)

small-none : Small (reader [])
small-none = record { some_queue = omega arith; short_queue = omega arith; few_graphs = omega arith; few_inputs = omega arith; few_outputs = omega arith; few_maps = tt; few_waiting = omega arith }

small-all : (es : List Entry) (ts : List Token) → AreRead [] ts es → Small (reader es)
small-all es ts read = along (λ xs. Small (reader xs)) small-step [] ts es read small-none

-- ---- the end

not-none : (n : ℕ) → (n == 0) ≡ false → 1 ≤ n
not-none n e = grind arith

neither : (a b : Bool) → (a || b) ≡ false → (a ≡ false) × (b ≡ false)
neither true b e = absurd cc
neither false b e = (refl, e)

bounded-job : (es : List Entry) (count : ℕ) → Small (reader es) → run_fault count (job es) ≡ None → IsBounded (job es)
bounded-job es count s fine =
    let ins = none-of (lacks_input (job es).inputs (job es).graphs) (fault count NoInput) (if length (job es).outputs == 0 then Some (fault count NoOutput) else (if shares_name (job es) then Some (fault count SameName) else None)) fine in
    let outs = none-of (length (job es).outputs == 0) (fault count NoOutput) (if shares_name (job es) then Some (fault count SameName) else None) ins.1 in
    let names = none-of (shares_name (job es)) (fault count SameName) None outs.1 in
    let apart = neither (same_name (job es)) (is_twice stdin (read_names (job es))) names.0 in
    record {
      some_queue = s.some_queue;
      short_queue = s.short_queue;
      few_graphs = s.few_graphs;
      some_inputs = ins.0;
      few_inputs = s.few_inputs;
      some_outputs = not-none (length (job es).outputs) outs.0;
      few_outputs = s.few_outputs;
      few_maps = s.few_maps;
      names = apart.0;
      one_stdin = apart.1;
    }

stands-not : (count : ℕ) (o : Option Solo) → o ≡ None → stands_alone count o ≡ false
stands-not count o none = ap (stands_alone count) none

none-when : {X : Type 0} (b : Bool) (o : Option X) → b ≡ false → (if b then None else o) ≡ None → o ≡ None
none-when true o is e = absurd cc
none-when false o is e = e

-- the end of words that ask for a run
ends-run : (es : List Entry) (count : ℕ) (o : Option Solo) (j : Job) → last as_solo es ≡ o → end_fault count es ≡ None → asked.Run j ≡ command_by o es → (j ≡ job es) × (run_fault count (job es) ≡ None)
ends-run es count (Some n) j self fine is = absurd cc
ends-run es count None j self fine is =
    let alone : stands_alone count (last as_solo es) ≡ false = stands-not count (last as_solo es) self in
    let behind : misplaced (first_place not_at_end (groups es).behind) (end_by count (command es)) ≡ None = (none-when (stands_alone count (last as_solo es)) (misplaced (first_place not_at_end (groups es).behind) (end_by count (command es))) alone fine) in
    let ended : end_by count (command es) ≡ None = none-behind (first_place not_at_end (groups es).behind) (end_by count (command es)) behind in
    (cc, ap (λ c. end_by count (command_by c es)) (sym self) ∙ ended)

pub bounded : (words : List (List ℕ)) (j : Job) → IsAnswer words (Ok (asked.Run j)) → IsBounded j
bounded words j h =
    let end = ends-run h.0 (length words) (last as_solo h.0) j refl h.2 h.3 in
    subst IsBounded (sym end.0) (bounded-job h.0 (length words) (small-all h.0 (tokens 0 words) h.1) end.1)
