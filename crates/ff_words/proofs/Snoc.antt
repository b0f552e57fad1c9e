-- One more entry at the end.
use Rattle.std.proofs.Common.{◌≡◌, ℕ, Bool, true, false, Option, Some, None, List, [], ◌∷◌, ◌++◌, refl, sym, ap, ◌∙◌, append_assoc}
use Rattle.std.specs.Prelude.{if◌then◌else◌, unwrap_or, option_to_list}
use Rattle.std.proofs.lemmas.List.{append-nil}
use Rattle.ff_words.specs.declared.table.Concern.{Concern}
use Rattle.ff_words.specs.declared.value.Value.{Value}
use Rattle.ff_words.specs.declared.value.Value.TheVariants as value
use Rattle.ff_words.specs.declared.reader.Pending.{Pending}
use Rattle.ff_words.specs.declared.reader.Reader.{Reader}
use Rattle.ff_format.specs.declared.format.FileFormat.{FileFormat}
use Rattle.ff_format.specs.declared.format.FileFormat.TheVariants.{FrameHash}
use Rattle.ff_words.specs.Words.{not_before_input, not_before_output, not_at_end, as_format, as_start, as_length, as_end, as_map, as_audio, as_video, as_vf, as_af, as_no_audio, as_no_video, as_shortest, as_frames, as_rate, as_channels, as_pixels, as_base, as_size, as_hash, as_rf64, as_queue, as_trace, as_keeps, as_graph, as_solo, Entry, Group, Groups, groups, led, is_file, or_else, last, each, first_place, last_place, unread_place, unwritten_place, inputs, outputs, group_input, group_output}
use Rattle.std.specs.Prelude.{flat_map}
use Rattle.ff_words.specs.Words.{output_format, job_name, late}
use Rattle.ff_words.specs.laws.Reading.{with_input, with_output, input_wrong, output_wrong, pending_format, valued, noted, whole, pending, reader, waiting, optioned, kept}

or_else_assoc : {X : Type 0} (a b c : Option X) → or_else (or_else a b) c ≡ or_else a (or_else b c)
or_else_assoc (Some x) b c = refl
or_else_assoc None b c = refl

or_else_none : {X : Type 0} (a : Option X) → or_else a None ≡ a
or_else_none (Some x) = refl
or_else_none None = refl

pub last-snoc : {X : Type 0} (f : Value → Option X) (es : List Entry) (e : Entry) → last f (es ++ e ∷ []) ≡ or_else (f e.value) (last f es)
last-snoc f [] e = sym (or_else_none (f e.value))
last-snoc f (x ∷ es) e = ap (λ o. or_else o (f x.value)) (last-snoc f es e) ∙ or_else_assoc (f e.value) (last f es) (f x.value)

pub place-snoc : {X : Type 0} (f : ℕ → Value → Option X) (es : List Entry) (e : Entry) → last_place f (es ++ e ∷ []) ≡ or_else (f e.at e.value) (last_place f es)
place-snoc f [] e = sym (or_else_none (f e.at e.value))
place-snoc f (x ∷ es) e = ap (λ o. or_else o (f x.at x.value)) (place-snoc f es e) ∙ or_else_assoc (f e.at e.value) (last_place f es) (f x.at x.value)

pub each-snoc : {X : Type 0} (f : Value → Option X) (es : List Entry) (e : Entry) → each f (es ++ e ∷ []) ≡ each f es ++ option_to_list (f e.value)
each-snoc f [] e = append-nil (option_to_list (f e.value))
each-snoc f (x ∷ es) e = ap (λ t. option_to_list (f x.value) ++ t) (each-snoc f es e) ∙ sym (append_assoc (option_to_list (f x.value)) (each f es) (option_to_list (f e.value)))

if_kept : (b : Bool) (at : ℕ) (o : Option ℕ) (other : Option ℕ) → (if b then Some at else (or_else o other)) ≡ or_else (if b then Some at else o) other
if_kept true at o other = refl
if_kept false at o other = refl

pub first-snoc : (test : Concern → Bool) (es : List Entry) (e : Entry) → first_place test (es ++ e ∷ []) ≡ kept (first_place test es) (test e.concern) e.at
first-snoc test [] e = refl
first-snoc test (x ∷ es) e =
    ap (λ o. if test x.concern then Some x.at else o) (first-snoc test es e)
    ∙ if_kept (test x.concern) x.at (first_place test es) (if test e.concern then Some e.at else None)

abbrev pub groups_added : Bool → Entry → Groups → Groups
groups_added true e g = record { files = g.files ++ (record { own = g.behind; file = e.value }) ∷ []; behind = [] }
groups_added false e g = record { files = g.files; behind = g.behind ++ e ∷ [] }

led_added : (b : Bool) (x e : Entry) (fs : List Group) (behind : List Entry)
    → led x (groups_added b e (record { files = fs; behind = behind })).files (groups_added b e (record { files = fs; behind = behind })).behind ≡ groups_added b e (led x fs behind)
led_added true x e [] behind = refl
led_added true x e (f ∷ fs) behind = refl
led_added false x e [] behind = refl
led_added false x e (f ∷ fs) behind = refl

file_added : (b : Bool) (x e : Entry) (g : Groups) → (record { files = (record { own = []; file = x.value }) ∷ (groups_added b e g).files; behind = (groups_added b e g).behind }) ≡ groups_added b e (record { files = (record { own = []; file = x.value }) ∷ g.files; behind = g.behind })
file_added true x e g = refl
file_added false x e g = refl

abbrev one_more : Bool → Entry → Groups → Groups
one_more true x g = record { files = (record { own = []; file = x.value }) ∷ g.files; behind = g.behind }
one_more false x g = led x g.files g.behind

more_added : (c b : Bool) (x e : Entry) (g : Groups) → one_more c x (groups_added b e g) ≡ groups_added b e (one_more c x g)
more_added true b x e g = file_added b x e g
more_added false b x e g = led_added b x e g.files g.behind

by_case : (b : Bool) (x : Entry) (g : Groups) → (if b then (record { files = (record { own = []; file = x.value }) ∷ g.files; behind = g.behind }) else led x g.files g.behind) ≡ one_more b x g
by_case true x g = refl
by_case false x g = refl

groups_one : (x : Entry) (es : List Entry) → groups (x ∷ es) ≡ one_more (is_file x.value) x (groups es)
groups_one x es = by_case (is_file x.value) x (groups es)

groups_last : (b : Bool) (e : Entry) → one_more b e (record { files = []; behind = [] }) ≡ groups_added b e (record { files = []; behind = [] })
groups_last true e = refl
groups_last false e = refl

pub groups-snoc : (es : List Entry) (e : Entry) → groups (es ++ e ∷ []) ≡ groups_added (is_file e.value) e (groups es)
groups-snoc [] e = groups_one e [] ∙ groups_last (is_file e.value) e
groups-snoc (x ∷ es) e =
    groups_one x (es ++ e ∷ []) ∙ (ap (one_more (is_file x.value) x) (groups-snoc es e)
    ∙ (more_added (is_file x.value) (is_file e.value) x e (groups es) ∙ ap (groups_added (is_file e.value) e) (sym (groups_one x es))))

abbrev pub pushed : {X : Type 0} → Option X → List X → List X
pushed None xs = xs
pushed (Some x) xs = xs ++ x ∷ []

pushed-is : {X : Type 0} (o : Option X) (xs : List X) → xs ++ option_to_list o ≡ pushed o xs
pushed-is None xs = append-nil xs
pushed-is (Some x) xs = refl

pub each-pushed : {X : Type 0} (f : Value → Option X) (es : List Entry) (e : Entry) → each f (es ++ e ∷ []) ≡ pushed (f e.value) (each f es)
each-pushed f es e = each-snoc f es e ∙ pushed-is (f e.value) (each f es)

-- what waits with one more option, field by field
abbrev merged : ℕ → Concern → Value → List Entry → Pending
merged at concern v own =
    record {
      before_input = kept (first_place not_before_input own) (not_before_input concern) at;
      before_output = kept (first_place not_before_output own) (not_before_output concern) at;
      at_end = kept (first_place not_at_end own) (not_at_end concern) at;
      format = or_else (as_format v) (last as_format own);
      unreadable = unwrap_or (or_else (unread_place at v) (last_place unread_place own)) None;
      unwritable = unwrap_or (or_else (unwritten_place at v) (last_place unwritten_place own)) None;
      start = or_else (as_start v) (last as_start own);
      length = or_else (as_length v) (last as_length own);
      end = or_else (as_end at v) (last_place as_end own);
      maps = pushed (as_map v) (each as_map own);
      audio = or_else (as_audio v) (last as_audio own);
      video = or_else (as_video v) (last as_video own);
      vf = or_else (as_vf v) (last as_vf own);
      af = or_else (as_af v) (last as_af own);
      no_audio = unwrap_or (or_else (as_no_audio v) (last as_no_audio own)) false;
      no_video = unwrap_or (or_else (as_no_video v) (last as_no_video own)) false;
      frames = or_else (as_frames v) (last as_frames own);
      asked = record {
        rate = or_else (as_rate v) (last as_rate own);
        channels = or_else (as_channels v) (last as_channels own);
        pixels = or_else (as_pixels v) (last as_pixels own);
        base = or_else (as_base v) (last as_base own);
        size = or_else (as_size v) (last as_size own);
      };
      shortest = unwrap_or (or_else (as_shortest v) (last as_shortest own)) false;
      hash = or_else (as_hash v) (last as_hash own);
      rf64 = or_else (as_rf64 v) (last as_rf64 own);
    }

merged-is : (own : List Entry) (e : Entry) → pending (own ++ e ∷ []) ≡ merged e.at e.concern e.value own
merged-is own e =
    simp (
      first-snoc not_before_input own e,
      first-snoc not_before_output own e,
      first-snoc not_at_end own e,
      last-snoc as_format own e,
      place-snoc unread_place own e,
      place-snoc unwritten_place own e,
      last-snoc as_start own e,
      last-snoc as_length own e,
      place-snoc as_end own e,
      each-pushed as_map own e,
      last-snoc as_audio own e,
      last-snoc as_video own e,
      last-snoc as_vf own e,
      last-snoc as_af own e,
      last-snoc as_no_audio own e,
      last-snoc as_no_video own e,
      last-snoc as_frames own e,
      last-snoc as_rate own e,
      last-snoc as_channels own e,
      last-snoc as_pixels own e,
      last-snoc as_base own e,
      last-snoc as_size own e,
      last-snoc as_shortest own e,
      last-snoc as_hash own e,
      last-snoc as_rf64 own e,
    ) refl

waits : (at : ℕ) (concern : Concern) (v : Value) (own : List Entry) → merged at concern v own ≡ valued at v (noted at concern (pending own))
waits at concern value.Nothing own = refl
waits at concern (value.Keeps b) own = refl
waits at concern value.NoVideo own = refl
waits at concern value.NoAudio own = refl
waits at concern value.Shortest own = refl
waits at concern (value.Complex g) own = refl
waits at concern (value.Queue n) own = refl
waits at concern (value.Trace n) own = refl
waits at concern (value.Solo n) own = refl
waits at concern (value.Format f read written) own = refl
waits at concern (value.Start n) own = refl
waits at concern (value.Length n) own = refl
waits at concern (value.End us n) own = refl
waits at concern (value.Input n) own = refl
waits at concern (value.Map m) own = refl
waits at concern (value.AudioCodec c) own = refl
waits at concern (value.VideoCodec c) own = refl
waits at concern (value.VideoGraph g) own = refl
waits at concern (value.AudioGraph g) own = refl
waits at concern (value.Frames n) own = refl
waits at concern (value.Rate n) own = refl
waits at concern (value.Channels n) own = refl
waits at concern (value.Pixels f) own = refl
waits at concern (value.FrameRate base) own = refl
waits at concern (value.Size s) own = refl
waits at concern (value.Hash h) own = refl
waits at concern (value.Rf64 mode) own = refl
waits at concern (value.Output n x) own = refl

pub pending-snoc : (own : List Entry) (e : Entry) → pending (own ++ e ∷ []) ≡ waiting e (pending own)
pending-snoc own e = merged-is own e ∙ waits e.at e.concern e.value own

-- ---- the whole reader

abbrev joined : Value → List Entry → Pending → Reader
joined v es p =
    record {
      queue = unwrap_or (or_else (as_queue v) (last as_queue es)) 8;
      trace = or_else (as_trace v) (last as_trace es);
      keeps = unwrap_or (or_else (as_keeps v) (last as_keeps es)) false;
      solo = or_else (as_solo v) (last as_solo es);
      graphs = pushed (as_graph v) (each as_graph es);
      inputs = inputs es;
      outputs = outputs es;
      pending = p;
    }

same_files : (es : List Entry) (e : Entry) → is_file e.value ≡ false → groups (es ++ e ∷ []) ≡ record { files = (groups es).files; behind = (groups es).behind ++ e ∷ [] }
same_files es e plain = groups-snoc es e ∙ ap (λ b. groups_added b e (groups es)) plain

joined-is : (es : List Entry) (e : Entry) → is_file e.value ≡ false → reader (es ++ e ∷ []) ≡ joined e.value es (waiting e (pending (groups es).behind))
joined-is es e plain =
    simp (last-snoc as_queue es e, last-snoc as_trace es e, last-snoc as_keeps es e, last-snoc as_solo es e, each-pushed as_graph es e, same_files es e plain, pending-snoc (groups es).behind e) refl

joins : (e : Entry) (v : Value) (es : List Entry) (p : Pending) → is_file v ≡ false → joined v es p ≡ whole v (record (reader es) { pending = p })
joins e value.Nothing es p plain = refl
joins e (value.Keeps b) es p plain = refl
joins e value.NoVideo es p plain = refl
joins e value.NoAudio es p plain = refl
joins e value.Shortest es p plain = refl
joins e (value.Complex g) es p plain = refl
joins e (value.Queue n) es p plain = refl
joins e (value.Trace n) es p plain = refl
joins e (value.Solo n) es p plain = refl
joins e (value.Format f read written) es p plain = refl
joins e (value.Start n) es p plain = refl
joins e (value.Length n) es p plain = refl
joins e (value.End us n) es p plain = refl
joins e (value.Input n) es p plain = cc
joins e (value.Map m) es p plain = refl
joins e (value.AudioCodec c) es p plain = refl
joins e (value.VideoCodec c) es p plain = refl
joins e (value.VideoGraph g) es p plain = refl
joins e (value.AudioGraph g) es p plain = refl
joins e (value.Frames n) es p plain = refl
joins e (value.Rate n) es p plain = refl
joins e (value.Channels n) es p plain = refl
joins e (value.Pixels f) es p plain = refl
joins e (value.FrameRate base) es p plain = refl
joins e (value.Size s) es p plain = refl
joins e (value.Hash h) es p plain = refl
joins e (value.Rf64 mode) es p plain = refl
joins e (value.Output n x) es p plain = cc

-- an option behind the entries
pub reader-snoc : (es : List Entry) (e : Entry) → is_file e.value ≡ false → reader (es ++ e ∷ []) ≡ optioned e (reader es)
reader-snoc es e plain = joined-is es e plain ∙ joins e e.value es (waiting e (pending (groups es).behind)) plain

-- ---- files behind the entries

flat_snoc : {X Y : Type 0} (f : X → List Y) (xs : List X) (x : X) → flat_map f (xs ++ x ∷ []) ≡ flat_map f xs ++ f x
flat_snoc f [] x = append-nil (f x)
flat_snoc f (y ∷ xs) x = ap (λ t. f y ++ t) (flat_snoc f xs x) ∙ sym (append_assoc (f y) (flat_map f xs) (f x))

ended : (es : List Entry) (e : Entry) → is_file e.value ≡ true → groups (es ++ e ∷ []) ≡ record { files = (groups es).files ++ (record { own = (groups es).behind; file = e.value }) ∷ []; behind = [] }
ended es e file = groups-snoc es e ∙ ap (λ b. groups_added b e (groups es)) file

-- the reader behind a file, by the values of its own options
abbrev pub filed : Value → List Entry → Reader
filed v es =
    record {
      queue = unwrap_or (or_else (as_queue v) (last as_queue es)) 8;
      trace = or_else (as_trace v) (last as_trace es);
      keeps = unwrap_or (or_else (as_keeps v) (last as_keeps es)) false;
      solo = or_else (as_solo v) (last as_solo es);
      graphs = pushed (as_graph v) (each as_graph es);
      inputs = inputs es ++ group_input (groups es).behind v;
      outputs = outputs es ++ group_output (groups es).behind v;
      pending = pending [];
    }

pub filed-is : (es : List Entry) (e : Entry) → is_file e.value ≡ true → reader (es ++ e ∷ []) ≡ filed e.value es
filed-is es e file =
    simp (
      last-snoc as_queue es e,
      last-snoc as_trace es e,
      last-snoc as_keeps es e,
      last-snoc as_solo es e,
      each-pushed as_graph es e,
      ended es e file,
      flat_snoc (λ (g : Group). group_input g.own g.file) (groups es).files (record { own = (groups es).behind; file = e.value }),
      flat_snoc (λ (g : Group). group_output g.own g.file) (groups es).files (record { own = (groups es).behind; file = e.value }),
    ) refl

abbrev pub entry : ℕ → Concern → Value → Entry
entry at concern v = record { at = at; concern = concern; value = v }

input-filed : (name : List ℕ) (es : List Entry) → filed (value.Input name) es ≡ with_input name (reader es)
input-filed name es = ap (λ t. record (with_input name (reader es)) { outputs = t }) (append-nil (outputs es))

pub output-filed : (name : List ℕ) (ending : Option FileFormat) (es : List Entry)
    → filed (value.Output name ending) es
    ≡ with_output (job_name (unwrap_or (output_format (groups es).behind ending) FrameHash) name) (unwrap_or (output_format (groups es).behind ending) FrameHash) (reader es)
output-filed name ending es =
    let f : FileFormat = unwrap_or (output_format (groups es).behind ending) FrameHash in
    ap (λ t. record (with_output (job_name f name) f (reader es)) { inputs = t }) (append-nil (inputs es))

pub reader-input : (es : List Entry) (at : ℕ) (concern : Concern) (name : List ℕ) → reader (es ++ entry at concern (value.Input name) ∷ []) ≡ with_input name (reader es)
reader-input es at concern name = filed-is es (entry at concern (value.Input name)) refl ∙ input-filed name es

pub reader-output : (es : List Entry) (at : ℕ) (concern : Concern) (name : List ℕ) (ending : Option FileFormat) (format : FileFormat) → output_format (groups es).behind ending ≡ Some format
    → reader (es ++ entry at concern (value.Output name ending) ∷ []) ≡ with_output (job_name format name) format (reader es)
reader-output es at concern name ending format is =
    filed-is es (entry at concern (value.Output name ending)) refl ∙ (output-filed name ending es ∙ ap (λ o. with_output (job_name (unwrap_or o FrameHash) name) (unwrap_or o FrameHash) (reader es)) is)

-- ---- what was taken

pub taken-input : (es : List Entry) (at : ℕ) (concern : Concern) (v : Value) (name : List ℕ) (old new : Reader) → v ≡ value.Input name → old ≡ reader es
    → None ≡ input_wrong at old → new ≡ with_input name old → (late es at v ≡ None) × (new ≡ reader (es ++ entry at concern v ∷ []))
taken-input es at concern v name old new is stands fine made = (
  ap (late es at) is ∙ (ap (input_wrong at) (sym stands) ∙ sym fine),
  made ∙ (ap (with_input name) stands ∙ (sym (reader-input es at concern name) ∙ ap (λ w. reader (es ++ entry at concern w ∷ [])) (sym is))),
)

plain_late : (es : List Entry) (at : ℕ) (v : Value) → is_file v ≡ false → late es at v ≡ None
plain_late es at value.Nothing plain = refl
plain_late es at (value.Keeps b) plain = refl
plain_late es at value.NoVideo plain = refl
plain_late es at value.NoAudio plain = refl
plain_late es at value.Shortest plain = refl
plain_late es at (value.Complex g) plain = refl
plain_late es at (value.Queue n) plain = refl
plain_late es at (value.Trace n) plain = refl
plain_late es at (value.Solo n) plain = refl
plain_late es at (value.Format f read written) plain = refl
plain_late es at (value.Start n) plain = refl
plain_late es at (value.Length n) plain = refl
plain_late es at (value.End us n) plain = refl
plain_late es at (value.Input n) plain = cc
plain_late es at (value.Map m) plain = refl
plain_late es at (value.AudioCodec c) plain = refl
plain_late es at (value.VideoCodec c) plain = refl
plain_late es at (value.VideoGraph g) plain = refl
plain_late es at (value.AudioGraph g) plain = refl
plain_late es at (value.Frames n) plain = refl
plain_late es at (value.Rate n) plain = refl
plain_late es at (value.Channels n) plain = refl
plain_late es at (value.Pixels f) plain = refl
plain_late es at (value.FrameRate base) plain = refl
plain_late es at (value.Size s) plain = refl
plain_late es at (value.Hash h) plain = refl
plain_late es at (value.Rf64 mode) plain = refl
plain_late es at (value.Output n x) plain = cc

pub taken-option : (es : List Entry) (at : ℕ) (concern : Concern) (v : Value) (old new : Reader) → is_file v ≡ false → old ≡ reader es
    → new ≡ optioned (entry at concern v) old → (late es at v ≡ None) × (new ≡ reader (es ++ entry at concern v ∷ []))
taken-option es at concern v old new plain stands made =
    (plain_late es at v plain, made ∙ (ap (optioned (entry at concern v)) stands ∙ sym (reader-snoc es (entry at concern v) plain)))

pub not_file : (v : Value) → ((name : List ℕ) → v ≡ value.Input name → ⊥) → ((name : List ℕ) (ending : Option FileFormat) → v ≡ value.Output name ending → ⊥) → is_file v ≡ false
not_file value.Nothing i o = refl
not_file (value.Keeps b) i o = refl
not_file value.NoVideo i o = refl
not_file value.NoAudio i o = refl
not_file value.Shortest i o = refl
not_file (value.Complex g) i o = refl
not_file (value.Queue n) i o = refl
not_file (value.Trace n) i o = refl
not_file (value.Solo n) i o = refl
not_file (value.Format f read written) i o = refl
not_file (value.Start n) i o = refl
not_file (value.Length n) i o = refl
not_file (value.End us n) i o = refl
not_file (value.Input n) i o = absurd (i n refl)
not_file (value.Map m) i o = refl
not_file (value.AudioCodec c) i o = refl
not_file (value.VideoCodec c) i o = refl
not_file (value.VideoGraph g) i o = refl
not_file (value.AudioGraph g) i o = refl
not_file (value.Frames n) i o = refl
not_file (value.Rate n) i o = refl
not_file (value.Channels n) i o = refl
not_file (value.Pixels f) i o = refl
not_file (value.FrameRate base) i o = refl
not_file (value.Size s) i o = refl
not_file (value.Hash h) i o = refl
not_file (value.Rf64 mode) i o = refl
not_file (value.Output n x) i o = absurd (o n x refl)

pub taken-output : (es : List Entry) (at : ℕ) (concern : Concern) (v : Value) (name : List ℕ) (ending : Option FileFormat) (format : FileFormat) (old new : Reader) → v ≡ value.Output name ending
    → old ≡ reader es → None ≡ output_wrong at name ending old → Some format ≡ pending_format old.pending ending → new ≡ with_output (job_name format name) format old
    → (late es at v ≡ None) × (new ≡ reader (es ++ entry at concern v ∷ []))
taken-output es at concern v name ending format old new is stands fine told made = (
  ap (late es at) is ∙ (ap (output_wrong at name ending) (sym stands) ∙ sym fine),
  made ∙ (ap (with_output (job_name format name) format) stands ∙ (sym (reader-output es at concern name ending format (ap (λ r. pending_format r.pending ending) (sym stands) ∙ sym told))
      ∙ ap (λ w. reader (es ++ entry at concern w ∷ [])) (sym is))),
)
