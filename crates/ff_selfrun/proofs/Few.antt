-- Words that ask for the run over generated input ask for 3,600 seconds at most.
use Rattle.std.proofs.Common.{◌≡◌, ℕ, ◌+◌, ◌≤◌, Bool, true, false, Option, Some, None, Result, Ok, Err, List, [], ◌∷◌, ◌++◌, length, refl, sym, subst}
use Rattle.std.specs.Prelude.{if◌then◌else◌, codes}
use Rattle.std.specs.Str.{bytes_eq}
use Rattle.ff_format.specs.declared.format.Rf64.TheVariants.{Never, Auto, Always}
use Rattle.ff_frame.specs.declared.head.Codec.{Codec}
use Rattle.ff_frame.specs.declared.hash.HashKind.TheVariants.{Sha256, Md5}
use Rattle.ff_words.specs.declared.error.WordKind.{WordKind}
use Rattle.ff_words.specs.declared.job.Command.TheVariants as asked
use Rattle.ff_words.specs.declared.job.Solo.{Solo}
use Rattle.ff_words.specs.declared.job.Solo.TheVariants.{Help, Version, SelfRun}
use Rattle.ff_words.specs.declared.table.Concern.{Concern}
use Rattle.ff_words.specs.declared.table.Kind.{Kind}
use Rattle.ff_words.specs.declared.table.Kind.TheVariants as kind
use Rattle.ff_words.specs.declared.table.Named.{Named}
use Rattle.ff_words.specs.declared.table.Rule.{Rule}
use Rattle.ff_words.specs.declared.value.Value.{Value}
use Rattle.ff_words.specs.declared.value.Value.TheVariants as value
use Rattle.ff_words.specs.Names.{input_name, trace_name}
use Rattle.ff_words.specs.Table.{option_named, format_named, format_ending, audio_codec, video_codec, is_level, is_frame_mode, is_sync_mode}
use Rattle.ff_words.specs.Values.{Reads, ReadsWhole, ReadsTime, ReadsGraph, ReadsMap, Makes, made, switched, or_bad, format_value, codec_value, name_value, mode_value, ReadsLevel, ReadsRate, hash_value, rf64_value, pixels_value, size_value, is_spelled}
use Rattle.ff_words.specs.Numbers.{size_of}
use Rattle.ff_words.specs.declared.job.Size.{Size}
use Rattle.ff_frame.specs.declared.video.Format.TheVariants.{C420, C422, C444, Mono}
use Rattle.ff_words.specs.Words.{Token, Entry, is_dashed, placed, IsOption, IsNamed, IsToken, AreRead, tokens, command_by, last, as_solo, or_else}
use Rattle.ff_selfrun.specs.SelfRun.{SecondsAreFew}

-- a value that asks for no more
abbrev FewSolo : Solo → Type 0
FewSolo (SelfRun n) = n ≤ 3600
FewSolo _ = Unit {0}

abbrev Few : Value → Type 0
Few (value.Solo s) = FewSolo s
Few _ = Unit {0}

made-few : {X : Type 0} (make : X → Value) (Is : Result X WordKind → Type 0) (v : Value) (q : Result X WordKind) → ((x : X) → Is (Ok x) → Few (make x)) → Is q → Ok v ≡ made make q → Few v
made-few make Is v (Ok x) each is e = (let same : v ≡ make x = cc in subst Few (sym same) (each x is))
made-few make Is v (Err k) each is e = absurd cc

makes-few : {X : Type 0} (make : X → Value) (Is : Result X WordKind → Type 0) (v : Value) → ((x : X) → Is (Ok x) → Few (make x)) → Makes make Is (Ok v) → Few v
makes-few make Is v each h = made-few make Is v h.0 each h.1 h.2

named-few : (v : Value) (o : Option Value) → ((w : Value) → o ≡ Some w → Few w) → Ok v ≡ or_bad o → Few v
named-few v (Some w) each e = (let same : v ≡ w = cc in subst Few (sym same) (each w refl))
named-few v None each e = absurd cc

none-few : (w : Value) → None ≡ Some w → Few w
none-few w e = absurd cc

test-few : (v : Value) → Few v → (b : Bool) (o : Option Value) → ((w : Value) → o ≡ Some w → Few w) → (w : Value) → (if b then Some v else o) ≡ Some w → Few w
test-few v is true o other w e = (let same : v ≡ w = cc in subst Few same is)
test-few v is false o other w e = other w e

format-few : (o : Option Named) (w : Value) → format_value o ≡ Some w → Few w
format-few (Some n) w e = (let same : value.Format n.format n.read n.written ≡ w = cc in subst Few same tt)
format-few None w e = absurd cc

codec-few : (make : Codec → Value) → ((c : Codec) → Few (make c)) → (o : Option Codec) (w : Value) → codec_value make o ≡ Some w → Few w
codec-few make each (Some c) w e = (let same : make c ≡ w = cc in subst Few same (each c))
codec-few make each None w e = absurd cc

name-few : (make : List ℕ → Value) → ((name : List ℕ) → Few (make name)) → (o : Option (List ℕ)) (w : Value) → name_value make o ≡ Some w → Few w
name-few make each (Some name) w e = (let same : make name ≡ w = cc in subst Few same (each name))
name-few make each None w e = absurd cc

size-few : (o : Option Size) (w : Value) → size_value o ≡ Some w → Few w
size-few (Some n) w e = (let same : value.Size n ≡ w = cc in subst Few same tt)
size-few None w e = absurd cc

mode-few : (v : Value) (b : Bool) → Ok v ≡ or_bad (mode_value b) → Few v
mode-few v b h = named-few v (mode_value b) (test-few value.Nothing tt b None none-few) h

level-few : (v : Value) (b : Bool) (text : List ℕ) → ReadsLevel b text (Ok v) → Few v
level-few v true text h = (let same : value.Nothing ≡ v = cc in subst Few same tt)
level-few v false text h = makes-few (λ n. value.Nothing) (ReadsWhole 0 999999999 text) v (λ x is. tt) h

reads-few : (k : Kind) (text : List ℕ) (v : Value) → Reads k text (Ok v) → Few v
reads-few kind.Nothing text v h = absurd h
reads-few kind.Keeps text v h = absurd h
reads-few kind.Replaces text v h = absurd h
reads-few kind.NoStats text v h = absurd h
reads-few kind.NoVideo text v h = absurd h
reads-few kind.NoAudio text v h = absurd h
reads-few kind.Shortest text v h = absurd h
reads-few kind.Help text v h = absurd h
reads-few kind.Version text v h = absurd h
reads-few kind.Level text v h = level-few v (is_level text) text h
reads-few kind.Word text v h = (let same : value.Nothing ≡ v = cc in subst Few same tt)
reads-few kind.Number text v h = makes-few (λ n. value.Nothing) (ReadsWhole 0 999999999 text) v (λ x is. tt) h
reads-few kind.FrameMode text v h = mode-few v (is_frame_mode text) h
reads-few kind.SyncMode text v h = mode-few v (is_sync_mode text) h
reads-few kind.Complex text v h = makes-few value.Complex (ReadsGraph text) v (λ x is. tt) h
reads-few kind.Queue text v h = makes-few value.Queue (ReadsWhole 1 1024 text) v (λ x is. tt) h
reads-few kind.Trace text v h = named-few v (name_value value.Trace (trace_name text)) (name-few value.Trace (λ name. tt) (trace_name text)) h
reads-few kind.SelfRun text v h = makes-few (λ n. value.Solo (SelfRun n)) (ReadsWhole 0 3600 text) v (λ n is. is.2) h
reads-few kind.Format text v h = named-few v (format_value (format_named text)) (format-few (format_named text)) h
reads-few kind.Start text v h = makes-few value.Start (ReadsTime text) v (λ x is. tt) h
reads-few kind.Length text v h = makes-few value.Length (ReadsTime text) v (λ x is. tt) h
reads-few kind.End text v h = makes-few (λ us. value.End us (length text)) (ReadsTime text) v (λ x is. tt) h
reads-few kind.Input text v h = named-few v (name_value value.Input (input_name text)) (name-few value.Input (λ name. tt) (input_name text)) h
reads-few kind.Map text v h = makes-few value.Map (ReadsMap text) v (λ x is. tt) h
reads-few kind.AudioCodec text v h = named-few v (codec_value value.AudioCodec (audio_codec text)) (codec-few value.AudioCodec (λ c. tt) (audio_codec text)) h
reads-few kind.VideoCodec text v h = named-few v (codec_value value.VideoCodec (video_codec text)) (codec-few value.VideoCodec (λ c. tt) (video_codec text)) h
reads-few kind.VideoGraph text v h = makes-few value.VideoGraph (ReadsGraph text) v (λ x is. tt) h
reads-few kind.AudioGraph text v h = makes-few value.AudioGraph (ReadsGraph text) v (λ x is. tt) h
reads-few kind.Frames text v h = makes-few value.Frames (ReadsWhole 0 999999999 text) v (λ x is. tt) h
reads-few kind.Rate text v h = makes-few value.Rate (ReadsWhole 1 999999999 text) v (λ x is. tt) h
reads-few kind.Channels text v h = makes-few value.Channels (ReadsWhole 1 8 text) v (λ x is. tt) h
reads-few kind.Pixels text v h =
    named-few v (pixels_value text)
    (test-few (value.Pixels C420) tt (bytes_eq text (codes "yuv420p")) (if bytes_eq text (codes "yuv422p") then Some (value.Pixels C422) else (if bytes_eq text (codes "yuv444p") then Some (value.Pixels C444) else (if bytes_eq text (codes "gray") then Some (value.Pixels Mono) else None)))
    (test-few (value.Pixels C422) tt (bytes_eq text (codes "yuv422p")) (if bytes_eq text (codes "yuv444p") then Some (value.Pixels C444) else (if bytes_eq text (codes "gray") then Some (value.Pixels Mono) else None))
    (test-few (value.Pixels C444) tt (bytes_eq text (codes "yuv444p")) (if bytes_eq text (codes "gray") then Some (value.Pixels Mono) else None)
    (test-few (value.Pixels Mono) tt (bytes_eq text (codes "gray")) None
    none-few))))
    h
reads-few kind.FrameRate text v h = makes-few value.FrameRate (ReadsRate text) v (λ x is. tt) h
reads-few kind.Size text v h = named-few v (size_value (size_of text)) (size-few (size_of text)) h
reads-few kind.Hash text v h =
    named-few v (hash_value text)
    (test-few (value.Hash Sha256) tt (is_spelled text (codes "SHA256")) (if is_spelled text (codes "MD5") then Some (value.Hash Md5) else None)
    (test-few (value.Hash Md5) tt (is_spelled text (codes "MD5")) None none-few))
    h
reads-few kind.Rf64 text v h =
    named-few v (rf64_value text)
    (test-few (value.Rf64 Never) tt (bytes_eq text (codes "never")) (if bytes_eq text (codes "auto") then Some (value.Rf64 Auto) else if bytes_eq text (codes "always") then Some (value.Rf64 Always) else None)
    (test-few (value.Rf64 Auto) tt (bytes_eq text (codes "auto")) (if bytes_eq text (codes "always") then Some (value.Rf64 Always) else None)
    (test-few (value.Rf64 Always) tt (bytes_eq text (codes "always")) None none-few)))
    h

switched-few : (k : Kind) (w : Value) → switched k ≡ Some w → Few w
switched-few kind.Nothing w e = (let same : value.Nothing ≡ w = cc in subst Few same tt)
switched-few kind.Keeps w e = (let same : value.Keeps true ≡ w = cc in subst Few same tt)
switched-few kind.Replaces w e = (let same : value.Keeps false ≡ w = cc in subst Few same tt)
switched-few kind.NoStats w e = (let same : value.Nothing ≡ w = cc in subst Few same tt)
switched-few kind.NoVideo w e = (let same : value.NoVideo ≡ w = cc in subst Few same tt)
switched-few kind.NoAudio w e = (let same : value.NoAudio ≡ w = cc in subst Few same tt)
switched-few kind.Shortest w e = (let same : value.Shortest ≡ w = cc in subst Few same tt)
switched-few kind.Help w e = (let same : value.Solo Help ≡ w = cc in subst Few same tt)
switched-few kind.Version w e = (let same : value.Solo Version ≡ w = cc in subst Few same tt)
switched-few kind.Level w e = absurd cc
switched-few kind.Word w e = absurd cc
switched-few kind.Number w e = absurd cc
switched-few kind.FrameMode w e = absurd cc
switched-few kind.SyncMode w e = absurd cc
switched-few kind.Complex w e = absurd cc
switched-few kind.Queue w e = absurd cc
switched-few kind.Trace w e = absurd cc
switched-few kind.SelfRun w e = absurd cc
switched-few kind.Format w e = absurd cc
switched-few kind.Start w e = absurd cc
switched-few kind.Length w e = absurd cc
switched-few kind.End w e = absurd cc
switched-few kind.Input w e = absurd cc
switched-few kind.Map w e = absurd cc
switched-few kind.AudioCodec w e = absurd cc
switched-few kind.VideoCodec w e = absurd cc
switched-few kind.VideoGraph w e = absurd cc
switched-few kind.AudioGraph w e = absurd cc
switched-few kind.Frames w e = absurd cc
switched-few kind.Rate w e = absurd cc
switched-few kind.Channels w e = absurd cc
switched-few kind.Pixels w e = absurd cc
switched-few kind.FrameRate w e = absurd cc
switched-few kind.Size w e = absurd cc
switched-few kind.Hash w e = absurd cc
switched-few kind.Rf64 w e = absurd cc

-- ---- of each token, and of all

placed-few : (k : Kind) (text : List ℕ) (at : ℕ) (v : Value) (r : Result Value WordKind) → Reads k text r → Ok v ≡ placed at r → Few v
placed-few k text at v (Ok w) reads e = (let same : w ≡ v = cc in subst Few same (reads-few k text w reads))
placed-few k text at v (Err kind) reads e = absurd cc

option-few : (at : ℕ) (rule : Rule) (s : Option Value) (given : Option (List ℕ)) (c : Concern) (v : Value) → switched rule.kind ≡ s → IsOption at rule s given c (Ok v) → Few v
option-few at rule (Some w) given c v is h = (let same : w ≡ v = cc in subst Few same (switched-few rule.kind w is))
option-few at rule None None c v is h = absurd h
option-few at rule None (Some text) c v is h = placed-few rule.kind text (at + 1) v h.1 h.2 h.3

named-token : (token : Token) (o : Option Rule) (c : Concern) (v : Value) → IsNamed token o c (Ok v) → Few v
named-token token None c v h = absurd h
named-token token (Some rule) c v h = option-few token.at rule (switched rule.kind) token.value c v refl h

token-few : (token : Token) (dashed : Bool) (c : Concern) (v : Value) → IsToken token dashed c (Ok v) → Few v
token-few token false c v h = (let same : value.Output token.word (format_ending token.word) ≡ v = cc in subst Few same tt)
token-few token true c v h = named-token token (option_named token.word) c v h

abbrev AllFew : List Entry → Type 0
AllFew [] = Unit {0}
AllFew (e ∷ es) = Few e.value × AllFew es

snoc-few : (es : List Entry) (e : Entry) → AllFew es → Few e.value → AllFew (es ++ e ∷ [])
snoc-few [] e all is = (is, tt)
snoc-few (x ∷ es) e all is = (all.0, snoc-few es e all.1 is)

read-few : (es : List Entry) (ts : List Token) (all : List Entry) → AreRead es ts all → AllFew es → AllFew all
read-few es [] all h few = subst AllFew h few
read-few es (token ∷ ts) all h few = read-few (es ++ h.0 ∷ []) ts all h.2 (snoc-few es h.0 few (token-few token (is_dashed token.word) h.0.concern h.0.value h.1.1))

-- the last that asks for it
abbrev FewAsked : Option Solo → Type 0
FewAsked None = Unit {0}
FewAsked (Some s) = FewSolo s

asked-few : (v : Value) → Few v → FewAsked (as_solo v)
asked-few (value.Solo s) h = h
asked-few value.Nothing h = tt
asked-few (value.Keeps b) h = tt
asked-few value.NoVideo h = tt
asked-few value.NoAudio h = tt
asked-few value.Shortest h = tt
asked-few (value.Complex g) h = tt
asked-few (value.Queue n) h = tt
asked-few (value.Trace n) h = tt
asked-few (value.Format f read written) h = tt
asked-few (value.Start m) h = tt
asked-few (value.Length m) h = tt
asked-few (value.End us n) h = tt
asked-few (value.Input n) h = tt
asked-few (value.Map m) h = tt
asked-few (value.AudioCodec c) h = tt
asked-few (value.VideoCodec c) h = tt
asked-few (value.VideoGraph g) h = tt
asked-few (value.AudioGraph g) h = tt
asked-few (value.Frames n) h = tt
asked-few (value.Rate n) h = tt
asked-few (value.Channels n) h = tt
asked-few (value.Pixels f) h = tt
asked-few (value.FrameRate base) h = tt
asked-few (value.Size s) h = tt
asked-few (value.Hash d) h = tt
asked-few (value.Rf64 mode) h = tt
asked-few (value.Output n x) h = tt

either-few : (a b : Option Solo) → FewAsked a → FewAsked b → FewAsked (or_else a b)
either-few None b p q = q
either-few (Some s) b p q = p

last-few : (es : List Entry) → AllFew es → FewAsked (last as_solo es)
last-few [] h = tt
last-few (e ∷ es) h = either-few (last as_solo es) (as_solo e.value) (last-few es h.1) (asked-few e.value h.0)

command-few : (o : Option Solo) (es : List Entry) (n : ℕ) → FewAsked o → asked.Solo (SelfRun n) ≡ command_by o es → n ≤ 3600
command-few None es n h e = absurd cc
command-few (Some s) es n h e = (let same : s ≡ SelfRun n = cc in subst FewSolo same h)

pub seconds_few : SecondsAreFew
seconds_few words n h = command-few (last as_solo h.0) h.0 n (last-few h.0 (read-few [] (tokens 0 words) h.0 h.1 tt)) h.3
