-- Words have one answer.
use Rattle.std.proofs.Common.{◌≡◌, ℕ, ◌+◌, ◌≤◌, ◌^◌, ◌⊎◌, inl, inr, Bool, true, false, Option, Some, None, Result, Ok, Err, IsErrOf, List, [], ◌∷◌, ◌++◌, length, refl, sym, ap, subst, ◌∙◌, append_assoc, arith}
use Rattle.std.proofs.Props.{props}
use Rattle.ff_lang.specs.declared.graph.Graph.{Graph}
use Rattle.ff_lang.proofs.Places.{IsGraph-unique}
use Rattle.ff_lang.proofs.Places as graph
use Rattle.ff_words.specs.declared.maps.map.MapSpec.{MapSpec}
use Rattle.ff_words.proofs.MapsLemmas.Places.{IsMap-unique}
use Rattle.ff_words.proofs.MapsLemmas.Places as map_text
use Rattle.ff_time.specs.Duration as time
use Rattle.ff_time.specs.declared.error.TimeError.{TimeError}
use Rattle.ff_time.specs.declared.error.TimeError.TheVariants as error
use Rattle.ff_time.proofs.Spellings.{IsDuration-unique}
use Rattle.ff_time.proofs.Places.{Reads-bad}
use Rattle.ff_words.specs.declared.error.Fault.{Fault}
use Rattle.ff_words.specs.declared.error.WordError.{WordError}
use Rattle.ff_words.specs.declared.error.WordError.TheVariants.{At, NoMemory}
use Rattle.ff_words.specs.declared.error.WordKind.{WordKind}
use Rattle.ff_words.specs.declared.error.WordKind.TheVariants.{BadTime, BadMap, BadGraph}
use Rattle.ff_words.specs.declared.job.Command.{Command}
use Rattle.ff_words.specs.declared.job.Solo.TheVariants.{SelfRun}
use Rattle.ff_words.specs.declared.table.Concern.{Concern}
use Rattle.ff_words.specs.declared.table.Kind.{Kind}
use Rattle.ff_words.specs.declared.table.Kind.TheVariants as kind
use Rattle.ff_words.specs.declared.table.Rule.{Rule}
use Rattle.ff_words.specs.declared.value.Micros.{Micros}
use Rattle.ff_words.specs.declared.value.Value.{Value}
use Rattle.ff_words.specs.declared.value.Value.TheVariants as value
use Rattle.ff_words.specs.Table.{option_named, is_level}
use Rattle.ff_words.specs.Values.{Reads, ReadsWhole, ReadsNumber, ReadsLevel, ReadsTime, ReadsRate, ReadsGraph, ReadsMap, Makes, made, switched}
use Rattle.ff_time.specs.Fraction.{Fraction}
use Rattle.ff_words.proofs.Rates.{IsRate-unique}
use Rattle.ff_words.specs.Words.{Token, Entry, late, placed, is_dashed, IsOption, IsNamed, IsToken, TokenReads, IsEntry, IsFaultAt, AreRead, Stops, IsAnswer, tokens, command, end_fault, EndsBetween, FaultOfFront}
use Rattle.ff_words.specs.laws.Reading.{Answers, as_error}

-- ---- values

whole-one : (low high : ℕ) (text : List ℕ) (p q : Result ℕ WordKind) → ReadsWhole low high text p → ReadsWhole low high text q → p ≡ q
whole-one low high text (Ok m) (Ok n) h k = ap Ok (h.0.value ∙ sym k.0.value)
whole-one low high text (Ok m) (Err e) h k = absurd (k.1 m h.0 h.1 h.2)
whole-one low high text (Err e) (Ok n) h k = absurd (h.1 n k.0 k.1 k.2)
whole-one low high text (Err d) (Err e) h k = ap Err (h.0 ∙ sym k.0)

bound-one : (us : ℕ) (p q : us ≤ 10 ^ 15) → p ≡ q
bound-one us p q = (let one : IsProp (us ≤ 10 ^ 15) = hlevel props in one p q)

micros-at : (us : ℕ) (p q : us ≤ 10 ^ 15) → (let m : Micros = record { us = us; bound = p } in m) ≡ record { us = us; bound = q }
micros-at us p q = ap (λ (b : us ≤ 10 ^ 15). record { us = us; bound = b }) (bound-one us p q)

micros-one : (m n : Micros) → m.us ≡ n.us → m ≡ n
micros-one m n e = subst (λ us. (b : us ≤ 10 ^ 15) → m ≡ record { us = us; bound = b }) e (λ b. micros-at m.us m.bound b) n.bound

abbrev time_err : ℕ → Result ℕ TimeError
time_err a = Err (error.BadTime a)

bad-time-one : (text : List ℕ) (a b : ℕ) → time.IsBadAt text a → time.IsBadAt text b → a ≡ b
bad-time-one text a b x y = let same : time_err a ≡ time_err b = ((Reads-bad text a x).bad_time b).1 y in cc

time-one : (text : List ℕ) (p q : Result Micros WordKind) → ReadsTime text p → ReadsTime text q → p ≡ q
time-one text (Ok m) (Ok n) h k = ap Ok (micros-one m n (IsDuration-unique text m.us n.us h k))
time-one text (Ok m) (Err e) h (inl k) = absurd (k.1.no_duration m.us h)
time-one text (Ok m) (Err e) h (inr k) = absurd (omega (arith, IsDuration-unique text m.us k.0 h k.1, m.bound, k.2))
time-one text (Err e) (Ok n) (inl h) k = absurd (h.1.no_duration n.us k)
time-one text (Err e) (Ok n) (inr h) k = absurd (omega (arith, IsDuration-unique text n.us h.0 k h.1, n.bound, h.2))
time-one text (Err d) (Err e) (inl h) (inl k) = ap Err (h.2 ∙ (ap BadTime (bad-time-one text h.0 k.0 h.1 k.1) ∙ sym k.2))
time-one text (Err d) (Err e) (inl h) (inr k) = absurd (h.1.no_duration k.0 k.1)
time-one text (Err d) (Err e) (inr h) (inl k) = absurd (k.1.no_duration h.0 h.1)
time-one text (Err d) (Err e) (inr h) (inr k) = ap Err (h.3 ∙ sym k.3)

graph-one : (text : List ℕ) (p q : Result Graph WordKind) → ReadsGraph text p → ReadsGraph text q → p ≡ q
graph-one text (Ok g) (Ok h) x y = ap Ok (IsGraph-unique text g h x y)
graph-one text (Ok g) (Err e) x y = absurd (y.1.no_graph g x)
graph-one text (Err e) (Ok g) x y = absurd (x.1.no_graph g y)
graph-one text (Err d) (Err e) x y = ap Err (x.2 ∙ (ap BadGraph (graph.IsBadAt-unique text x.0 y.0 x.1 y.1) ∙ sym y.2))

map-one : (text : List ℕ) (p q : Result MapSpec WordKind) → ReadsMap text p → ReadsMap text q → p ≡ q
map-one text (Ok g) (Ok h) x y = ap Ok (IsMap-unique text g h x y)
map-one text (Ok g) (Err e) x y = absurd (y.1.no_map g x)
map-one text (Err e) (Ok g) x y = absurd (x.1.no_map g y)
map-one text (Err d) (Err e) x y = ap Err (x.2 ∙ (ap BadMap (map_text.IsBadAt-unique text x.0 y.0 x.1 y.1) ∙ sym y.2))

rate-one : (text : List ℕ) (p q : Result Fraction WordKind) → ReadsRate text p → ReadsRate text q → p ≡ q
rate-one text (Ok t) (Ok u) h k = ap Ok (IsRate-unique text t u h k)
rate-one text (Ok t) (Err e) h k = absurd (k.1 t h)
rate-one text (Err e) (Ok u) h k = absurd (h.1 u k)
rate-one text (Err d) (Err e) h k = ap Err (h.0 ∙ sym k.0)

makes-one : {X : Type 0} (make : X → Value) (Is : Result X WordKind → Type 0) (r s : Result Value WordKind) → ((p q : Result X WordKind) → Is p → Is q → p ≡ q) → Makes make Is r → Makes make Is s → r ≡ s
makes-one make Is r s one h k = h.2 ∙ (ap (made make) (one h.0 k.0 h.1 k.1) ∙ sym k.2)

number-one : (text : List ℕ) (r s : Result Value WordKind) → ReadsNumber text r → ReadsNumber text s → r ≡ s
number-one text r s h j = makes-one (λ n. value.Nothing) (ReadsWhole 0 999999999 text) r s (whole-one 0 999999999 text) h j

level-one : (b : Bool) (text : List ℕ) (r s : Result Value WordKind) → ReadsLevel b text r → ReadsLevel b text s → r ≡ s
level-one true text r s h j = h ∙ sym j
level-one false text r s h j = number-one text r s h j

reads-one : (k : Kind) (text : List ℕ) (r s : Result Value WordKind) → Reads k text r → Reads k text s → r ≡ s
reads-one kind.Nothing text r s h j = absurd h
reads-one kind.Keeps text r s h j = absurd h
reads-one kind.Replaces text r s h j = absurd h
reads-one kind.NoStats text r s h j = absurd h
reads-one kind.NoVideo text r s h j = absurd h
reads-one kind.NoAudio text r s h j = absurd h
reads-one kind.Shortest text r s h j = absurd h
reads-one kind.Help text r s h j = absurd h
reads-one kind.Version text r s h j = absurd h
reads-one kind.Level text r s h j = level-one (is_level text) text r s h j
reads-one kind.Word text r s h j = h ∙ sym j
reads-one kind.Number text r s h j = number-one text r s h j
reads-one kind.FrameMode text r s h j = h ∙ sym j
reads-one kind.SyncMode text r s h j = h ∙ sym j
reads-one kind.Complex text r s h j = makes-one value.Complex (ReadsGraph text) r s (graph-one text) h j
reads-one kind.Queue text r s h j = makes-one value.Queue (ReadsWhole 1 1024 text) r s (whole-one 1 1024 text) h j
reads-one kind.Trace text r s h j = h ∙ sym j
reads-one kind.SelfRun text r s h j = makes-one (λ n. value.Solo (SelfRun n)) (ReadsWhole 0 3600 text) r s (whole-one 0 3600 text) h j
reads-one kind.Format text r s h j = h ∙ sym j
reads-one kind.Start text r s h j = makes-one value.Start (ReadsTime text) r s (time-one text) h j
reads-one kind.Length text r s h j = makes-one value.Length (ReadsTime text) r s (time-one text) h j
reads-one kind.End text r s h j = makes-one (λ us. value.End us (length text)) (ReadsTime text) r s (time-one text) h j
reads-one kind.Input text r s h j = h ∙ sym j
reads-one kind.Map text r s h j = makes-one value.Map (ReadsMap text) r s (map-one text) h j
reads-one kind.AudioCodec text r s h j = h ∙ sym j
reads-one kind.VideoCodec text r s h j = h ∙ sym j
reads-one kind.VideoGraph text r s h j = makes-one value.VideoGraph (ReadsGraph text) r s (graph-one text) h j
reads-one kind.AudioGraph text r s h j = makes-one value.AudioGraph (ReadsGraph text) r s (graph-one text) h j
reads-one kind.Frames text r s h j = makes-one value.Frames (ReadsWhole 0 999999999 text) r s (whole-one 0 999999999 text) h j
reads-one kind.Rate text r s h j = makes-one value.Rate (ReadsWhole 1 999999999 text) r s (whole-one 1 999999999 text) h j
reads-one kind.Channels text r s h j = makes-one value.Channels (ReadsWhole 1 8 text) r s (whole-one 1 8 text) h j
reads-one kind.Pixels text r s h j = h ∙ sym j
reads-one kind.FrameRate text r s h j = makes-one value.FrameRate (ReadsRate text) r s (rate-one text) h j
reads-one kind.Size text r s h j = h ∙ sym j
reads-one kind.Hash text r s h j = h ∙ sym j
reads-one kind.Rf64 text r s h j = h ∙ sym j

-- ---- tokens

option-one : (at : ℕ) (rule : Rule) (o : Option Value) (given : Option (List ℕ)) (c d : Concern) (r s : Result Value Fault)
    → IsOption at rule o given c r → IsOption at rule o given d s → (c ≡ d) × (r ≡ s)
option-one at rule (Some v) given c d r s h k = (h.0 ∙ sym k.0, h.1 ∙ sym k.1)
option-one at rule None None c d r s h k = absurd h
option-one at rule None (Some text) c d r s h k =
    (h.0 ∙ sym k.0, h.3 ∙ (ap (placed (at + 1)) (reads-one rule.kind text h.1 k.1 h.2 k.2) ∙ sym k.3))

named-one : (t : Token) (o : Option Rule) (c d : Concern) (r s : Result Value Fault) → IsNamed t o c r → IsNamed t o d s → (c ≡ d) × (r ≡ s)
named-one t None c d r s h k = absurd h
named-one t (Some rule) c d r s h k = option-one t.at rule (switched rule.kind) t.value c d r s h k

token-one : (t : Token) (b : Bool) (c d : Concern) (r s : Result Value Fault) → IsToken t b c r → IsToken t b d s → (c ≡ d) × (r ≡ s)
token-one t false c d r s h k = (h.0 ∙ sym k.0, h.1 ∙ sym k.1)
token-one t true c d r s h k = named-one t (option_named t.word) c d r s h k

reading-one : (t : Token) (c d : Concern) (r s : Result Value Fault) → TokenReads t c r → TokenReads t d s → (c ≡ d) × (r ≡ s)
reading-one t c d r s h k = token-one t (is_dashed t.word) c d r s h k

abbrev entry : ℕ → Concern → Value → Entry
entry at c v = record { at = at; concern = c; value = v }

same-entry : (a b : ℕ) (c d : Concern) (v w : Value) → a ≡ b → c ≡ d → v ≡ w → entry a c v ≡ entry b d w
same-entry a b c d v w e f g = ap (λ x. entry x c v) e ∙ (ap (λ x. entry b x v) f ∙ ap (λ x. entry b d x) g)

abbrev Ok' : Value → Result Value Fault
Ok' v = Ok v

abbrev Err' : Fault → Result Value Fault
Err' f = Err f

ok-value : (v w : Value) → Ok' v ≡ Ok' w → v ≡ w
ok-value v w e = cc

pub entry-one : (es : List Entry) (t : Token) (e d : Entry) → IsEntry es t e → IsEntry es t d → e ≡ d
entry-one es t e d h k =
    let r : (e.concern ≡ d.concern) × (Ok' e.value ≡ Ok' d.value) = reading-one t e.concern d.concern (Ok e.value) (Ok d.value) h.1 k.1 in
    same-entry e.at d.at e.concern d.concern e.value d.value (h.2 ∙ sym k.2) r.0 (ok-value e.value d.value r.1)

pub not-both : (es : List Entry) (t : Token) (e : Entry) (f : Fault) → IsEntry es t e → IsFaultAt es t f → ⊥
not-both es t e f h (inl k) = cc (h.0, k)
not-both es t e f h (inr (inl k)) = (let r : (e.concern ≡ k.0) × (Ok' e.value ≡ Err' f) = reading-one t e.concern k.0 (Ok e.value) (Err f) h.1 k.2 in cc (r.1))
not-both es t e f h (inr (inr k)) =
    (let r : (e.concern ≡ k.0) × (Ok' e.value ≡ Ok' k.1) = reading-one t e.concern k.0 (Ok e.value) (Ok k.1) h.1 k.3 in
    let same : late es t.at e.value ≡ late es t.at k.1 = ap (late es t.at) (ok-value e.value k.1 r.1) in
    cc (h.3, k.4, same))

fault-one : (es : List Entry) (t : Token) (f g : Fault) → IsFaultAt es t f → IsFaultAt es t g → f ≡ g
fault-one es t f g (inl h) (inl k) = cc (h, k)
fault-one es t f g (inl h) (inr (inl k)) = cc (h, k.1)
fault-one es t f g (inl h) (inr (inr k)) = cc (h, k.2)
fault-one es t f g (inr (inl h)) (inl k) = cc (h.1, k)
fault-one es t f g (inr (inr h)) (inl k) = cc (h.2, k)
fault-one es t f g (inr (inl h)) (inr (inl k)) = (let r : (h.0 ≡ k.0) × (Err' f ≡ Err' g) = reading-one t h.0 k.0 (Err f) (Err g) h.2 k.2 in cc (r.1))
fault-one es t f g (inr (inl h)) (inr (inr k)) = (let r : (h.0 ≡ k.0) × (Err' f ≡ Ok' k.1) = reading-one t h.0 k.0 (Err f) (Ok k.1) h.2 k.3 in cc (r.1))
fault-one es t f g (inr (inr h)) (inr (inl k)) = (let r : (h.0 ≡ k.0) × (Ok' h.1 ≡ Err' g) = reading-one t h.0 k.0 (Ok h.1) (Err g) h.3 k.2 in cc (r.1))
fault-one es t f g (inr (inr h)) (inr (inr k)) =
    (let r : (h.0 ≡ k.0) × (Ok' h.1 ≡ Ok' k.1) = reading-one t h.0 k.0 (Ok h.1) (Ok k.1) h.3 k.3 in
    let same : late es t.at h.1 ≡ late es t.at k.1 = ap (late es t.at) (ok-value h.1 k.1 r.1) in
    cc (h.4, k.4, same))

-- ---- whole lists

pub read-one : (ts : List Token) (es all other : List Entry) → AreRead es ts all → AreRead es ts other → all ≡ other
read-one [] es all other h k = sym h ∙ k
read-one (t ∷ ts) es all other h k =
    let same : k.0 ≡ h.0 = entry-one es t k.0 h.0 k.1 h.1 in
    read-one ts (es ++ h.0 ∷ []) all other h.2 (subst (λ e. AreRead (es ++ e ∷ []) ts other) same k.2)

abbrev Parts : List Entry → Token → List Token → Fault → Type 0
Parts es t ts f = IsFaultAt es t f ⊎ ((e : Entry) × IsEntry es t e × Stops (es ++ e ∷ []) ts f)

first-same : (t u : Token) (ts us : List Token) → t ∷ ts ≡ u ∷ us → t ≡ u
first-same t u ts us e = cc

rest-same : (t u : Token) (ts us : List Token) → t ∷ ts ≡ u ∷ us → ts ≡ us
rest-same t u ts us e = cc

parts-of : (es : List Entry) (t : Token) (ts : List Token) (f : Fault) (front : List Token) (u : Token) (behind : List Token) (all : List Entry)
    → t ∷ ts ≡ front ++ u ∷ behind → AreRead es front all → IsFaultAt all u f → Parts es t ts f
parts-of es t ts f [] u behind all e h k =
    inl (subst (λ x. IsFaultAt x t f) (sym h) (subst (λ x. IsFaultAt all x f) (sym (first-same t u ts behind e)) k))
parts-of es t ts f (x ∷ front) u behind all e h k =
    inr (h.0, subst (λ y. IsEntry es y h.0) (sym (first-same t x ts (front ++ u ∷ behind) e)) h.1, (front, u, behind, all, rest-same t x ts (front ++ u ∷ behind) e, h.2, k))

pub stops-parts : (es : List Entry) (t : Token) (ts : List Token) (f : Fault) → Stops es (t ∷ ts) f → Parts es t ts f
stops-parts es t ts f h = parts-of es t ts f h.0 h.1 h.2 h.3 h.4 h.5 h.6

empty-parts : (front : List Token) (u : Token) (behind : List Token) → [] ≡ front ++ u ∷ behind → ⊥
empty-parts [] u behind e = cc
empty-parts (x ∷ front) u behind e = cc

stops-empty : (es : List Entry) (f : Fault) → Stops es [] f → ⊥
stops-empty es f h = empty-parts h.0 h.1 h.2 h.4

not-read : (ts : List Token) (es all : List Entry) (f : Fault) → AreRead es ts all → Stops es ts f → ⊥
not-read [] es all f h k = stops-empty es f k
not-read (t ∷ ts) es all f h k =
    elim (stops-parts es t ts f k) [
      | inl at ↦ not-both es t h.0 f h.1 at
      | inr on ↦ (let same : on.0 ≡ h.0 = entry-one es t on.0 h.0 on.1 h.1 in
          not-read ts (es ++ h.0 ∷ []) all f h.2 (subst (λ e. Stops (es ++ e ∷ []) ts f) same on.2))
    ]

stops-one : (ts : List Token) (es : List Entry) (f g : Fault) → Stops es ts f → Stops es ts g → f ≡ g
stops-one [] es f g h k = absurd (stops-empty es f h)
stops-one (t ∷ ts) es f g h k =
    elim (stops-parts es t ts f h) [
      | inl at ↦ elim (stops-parts es t ts g k) [
        | inl here ↦ fault-one es t f g at here
        | inr on ↦ absurd (not-both es t on.0 f on.1 at)
      ]
      | inr on ↦ elim (stops-parts es t ts g k) [
        | inl here ↦ absurd (not-both es t on.0 g on.1 here)
        | inr too ↦ (let same : too.0 ≡ on.0 = entry-one es t too.0 on.0 too.1 on.1 in
            stops-one ts (es ++ on.0 ∷ []) f g on.2 (subst (λ e. Stops (es ++ e ∷ []) ts g) same too.2))
      ]
    ]

pub answer-one : (words : List (List ℕ)) (a b : Result Command Fault) → IsAnswer words a → IsAnswer words b → a ≡ b
answer-one words (Ok c) (Ok d) h k = ap Ok (h.3 ∙ (ap command (read-one (tokens 0 words) [] h.0 k.0 h.1 k.1) ∙ sym k.3))
answer-one words (Ok c) (Err f) h (inl k) = absurd (not-read (tokens 0 words) [] h.0 f h.1 k)
answer-one words (Ok c) (Err f) h (inr k) =
    (let same : end_fault (length words) h.0 ≡ end_fault (length words) k.0 = ap (end_fault (length words)) (read-one (tokens 0 words) [] h.0 k.0 h.1 k.1) in
    cc (h.2, k.2, same))
answer-one words (Err f) (Ok c) (inl h) k = absurd (not-read (tokens 0 words) [] k.0 f k.1 h)
answer-one words (Err f) (Ok c) (inr h) k =
    (let same : end_fault (length words) h.0 ≡ end_fault (length words) k.0 = ap (end_fault (length words)) (read-one (tokens 0 words) [] h.0 k.0 h.1 k.1) in
    cc (h.2, k.2, same))
answer-one words (Err f) (Err g) (inl h) (inl k) = ap Err (stops-one (tokens 0 words) [] f g h k)
answer-one words (Err f) (Err g) (inl h) (inr k) = absurd (not-read (tokens 0 words) [] k.0 f k.1 h)
answer-one words (Err f) (Err g) (inr h) (inl k) = absurd (not-read (tokens 0 words) [] h.0 g h.1 k)
answer-one words (Err f) (Err g) (inr h) (inr k) =
    (let same : end_fault (length words) h.0 ≡ end_fault (length words) k.0 = ap (end_fault (length words)) (read-one (tokens 0 words) [] h.0 k.0 h.1 k.1) in
    cc (h.2, k.2, same))

-- ---- the call's answer

abbrev pub as_answer : Result Command Fault → Result Command WordError
as_answer (Ok c) = Ok c
as_answer (Err f) = Err (as_error f)

pub known : (words : List (List ℕ)) (r : Result Command WordError) (a : Result Command Fault) → Answers words r → IsAnswer words a → (r ≡ as_answer a) ⊎ IsErrOf r NoMemory
known words (Ok c) a h k = inl (ap as_answer (answer-one words (Ok c) a h k))
known words (Err (At w kind)) a h k = inl (ap as_answer (answer-one words (Err (record { word = w; kind = kind })) a h k))
known words (Err NoMemory) a h k = inr refl

-- ---- what stands behind a fault

pub fault-stays : (front behind : List (List ℕ)) (f : Fault) → EndsBetween front → FaultOfFront front f → IsAnswer (front ++ behind) (Err f)
fault-stays front behind f ends h =
    let rest : List Token = tokens (length front) behind in
    inl (h.0, h.1, h.2 ++ rest, h.3, ends behind ∙ (ap (λ ts. ts ++ rest) h.4 ∙ append_assoc h.0 (h.1 ∷ h.2) rest), h.5, h.6)
