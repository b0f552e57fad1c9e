-- What a step of the pass shows.
use Rattle.std.proofs.Common.{◌≡◌, ℕ, ◌+◌, inl, inr, true, false, Some, None, Result, Ok, Err, List, refl, sym, ap, subst, ◌∙◌}
use Rattle.std.specs.Prelude.{if◌then◌else◌, not, is_some}
use Rattle.ff_words.specs.declared.error.Fault.{Fault}
use Rattle.ff_words.specs.declared.error.WordKind.{WordKind}
use Rattle.ff_words.specs.declared.error.WordKind.TheVariants.{UnknownOption, MissingValue, TooMany}
use Rattle.ff_words.specs.declared.error.WordError.{WordError}
use Rattle.ff_words.specs.declared.error.WordError.TheVariants.{At, NoMemory}
use Rattle.ff_words.specs.declared.table.Concern.{Concern}
use Rattle.ff_words.specs.declared.table.Concern.TheVariants.{Itself}
use Rattle.ff_words.specs.declared.table.Rule.{Rule}
use Rattle.ff_words.specs.declared.table.Kind.{Kind}
use Rattle.ff_words.specs.declared.table.Kind.TheVariants as kind
use Rattle.ff_words.specs.declared.value.Value.{Value}
use Rattle.ff_words.specs.declared.value.Value.TheVariants as value
use Rattle.ff_words.specs.declared.reader.Reader.{Reader}
use Rattle.ff_words.specs.Table.{option_named, format_ending}
use Rattle.ff_words.specs.Values.{Reads, switched}
use Rattle.ff_words.specs.Words.{Entry, Token, option_fault, fault, early, given_fault, value_fault, is_full, takes, placed, is_too_much, is_dashed, IsToken, IsNamed, IsOption, TokenReads, IsFaultAt}
use Rattle.ff_words.specs.laws.Reading.{reader, full, Taken, Steps}

-- an option's early fault, once its word and its rule are known
pub early-option : (es : List Entry) (t : Token) (rule : Rule) → is_too_much t.at t.word ≡ false → is_dashed t.word ≡ true → option_named t.word ≡ Some rule
    → early es t ≡ (if takes (Some rule) then given_fault es t.at rule.kind t.value else None)
early-option es t rule short dashed named = simp (short, dashed, named) refl

pub early-output : (es : List Entry) (t : Token) → is_too_much t.at t.word ≡ false → is_dashed t.word ≡ false → early es t ≡ None
early-output es t short dashed =
    ap (λ b. if b then Some (fault t.at TooMany) else (if is_dashed t.word then option_fault es t (option_named t.word) else None)) short
    ∙ ap (λ b. if b then option_fault es t (option_named t.word) else None) dashed

pub early-far : (es : List Entry) (t : Token) → is_too_much t.at t.word ≡ true → early es t ≡ Some (fault t.at TooMany)
early-far es t far = simp far refl

pub early-unknown : (es : List Entry) (t : Token) → is_too_much t.at t.word ≡ false → is_dashed t.word ≡ true → option_named t.word ≡ None → early es t ≡ Some (fault t.at UnknownOption)
early-unknown es t short dashed named = simp (short, dashed, named) refl

takes-value : (rule : Rule) → switched rule.kind ≡ None → takes (Some rule) ≡ true
takes-value rule s = ap (λ o. not (is_some o)) s

takes-none : (rule : Rule) (v : Value) → switched rule.kind ≡ Some v → takes (Some rule) ≡ false
takes-none rule v s = ap (λ o. not (is_some o)) s

pub early-switch : (es : List Entry) (t : Token) (rule : Rule) (v : Value) → is_too_much t.at t.word ≡ false → is_dashed t.word ≡ true → option_named t.word ≡ Some rule
    → switched rule.kind ≡ Some v → early es t ≡ None
early-switch es t rule v short dashed named s =
    early-option es t rule short dashed named ∙ ap (λ b. if b then given_fault es t.at rule.kind t.value else None) (takes-none rule v s)

pub early-missing : (es : List Entry) (t : Token) (rule : Rule) → is_too_much t.at t.word ≡ false → is_dashed t.word ≡ true → option_named t.word ≡ Some rule
    → switched rule.kind ≡ None → t.value ≡ None → early es t ≡ Some (fault t.at MissingValue)
early-missing es t rule short dashed named s missing =
    early-option es t rule short dashed named ∙ (ap (λ b. if b then given_fault es t.at rule.kind t.value else None) (takes-value rule s) ∙ ap (given_fault es t.at rule.kind) missing)

pub early-value : (es : List Entry) (t : Token) (rule : Rule) (text : List ℕ) → is_too_much t.at t.word ≡ false → is_dashed t.word ≡ true → option_named t.word ≡ Some rule
    → switched rule.kind ≡ None → t.value ≡ Some text → early es t ≡ value_fault es t.at rule.kind text
early-value es t rule text short dashed named s given =
    early-option es t rule short dashed named ∙ (ap (λ b. if b then given_fault es t.at rule.kind t.value else None) (takes-value rule s) ∙ ap (given_fault es t.at rule.kind) given)

pub early-fine : (es : List Entry) (t : Token) (rule : Rule) (text : List ℕ) → is_too_much t.at t.word ≡ false → is_dashed t.word ≡ true → option_named t.word ≡ Some rule
    → switched rule.kind ≡ None → t.value ≡ Some text → is_full es rule.kind ≡ false → is_too_much (t.at + 1) text ≡ false → early es t ≡ None
early-fine es t rule text short dashed named s given room value_short =
    early-value es t rule text short dashed named s given ∙ simp (room, value_short) refl

-- ---- what a token reads as

pub reads-output : (t : Token) → is_dashed t.word ≡ false → TokenReads t Itself (Ok (value.Output t.word (format_ending t.word)))
reads-output t dashed = subst (λ b. IsToken t b Itself (Ok (value.Output t.word (format_ending t.word)))) (sym dashed) (refl, refl)

reads-named : (t : Token) (rule : Rule) (r : Result Value Fault) → is_dashed t.word ≡ true → option_named t.word ≡ Some rule
    → IsOption t.at rule (switched rule.kind) t.value rule.concern r → TokenReads t rule.concern r
reads-named t rule r dashed named h =
    subst (λ b. IsToken t b rule.concern r) (sym dashed) (subst (λ o. IsNamed t o rule.concern r) (sym named) h)

pub reads-switch : (t : Token) (rule : Rule) (v : Value) → is_dashed t.word ≡ true → option_named t.word ≡ Some rule → switched rule.kind ≡ Some v → TokenReads t rule.concern (Ok v)
reads-switch t rule v dashed named s =
    reads-named t rule (Ok v) dashed named (subst (λ o. IsOption t.at rule o t.value rule.concern (Ok v)) (sym s) (refl, refl))

pub reads-value : (t : Token) (rule : Rule) (text : List ℕ) (read : Result Value WordKind) → is_dashed t.word ≡ true → option_named t.word ≡ Some rule → switched rule.kind ≡ None
    → t.value ≡ Some text → Reads rule.kind text read → TokenReads t rule.concern (placed (t.at + 1) read)
reads-value t rule text read dashed named s given h =
    reads-named t rule (placed (t.at + 1) read) dashed named
    (subst (λ o. IsOption t.at rule o t.value rule.concern (placed (t.at + 1) read)) (sym s)
    (subst (λ o. IsOption t.at rule None o rule.concern (placed (t.at + 1) read)) (sym given) (refl, read, h, refl)))

-- ---- steps

pub taken-steps : (es : List Entry) (t : Token) (concern : Concern) (v : Value) (result : Result (Unit {0}) WordError) (new : Reader)
    → early es t ≡ None → TokenReads t concern (Ok v) → Taken es t.at concern v result new → Steps es t result new
taken-steps es t concern v (Ok u) new before reads h =
    (record { at = t.at; concern = concern; value = v }, (before, reads, refl, h.0), h.1)
taken-steps es t concern v (Err (At w k)) new before reads h = inr (inr (concern, v, before, reads, h))
taken-steps es t concern v (Err NoMemory) new before reads h = tt

pub full-is : (es : List Entry) (k : Kind) → full k (reader es) ≡ is_full es k
full-is es kind.Nothing = refl
full-is es kind.Keeps = refl
full-is es kind.Replaces = refl
full-is es kind.NoStats = refl
full-is es kind.NoVideo = refl
full-is es kind.NoAudio = refl
full-is es kind.Shortest = refl
full-is es kind.Help = refl
full-is es kind.Version = refl
full-is es kind.Level = refl
full-is es kind.Word = refl
full-is es kind.Number = refl
full-is es kind.FrameMode = refl
full-is es kind.SyncMode = refl
full-is es kind.Complex = refl
full-is es kind.Queue = refl
full-is es kind.Trace = refl
full-is es kind.SelfRun = refl
full-is es kind.Format = refl
full-is es kind.Start = refl
full-is es kind.Length = refl
full-is es kind.End = refl
full-is es kind.Input = refl
full-is es kind.Map = refl
full-is es kind.AudioCodec = refl
full-is es kind.VideoCodec = refl
full-is es kind.VideoGraph = refl
full-is es kind.AudioGraph = refl
full-is es kind.Frames = refl
full-is es kind.Rate = refl
full-is es kind.Channels = refl
full-is es kind.Pixels = refl
full-is es kind.FrameRate = refl
full-is es kind.Size = refl
full-is es kind.Hash = refl
full-is es kind.Rf64 = refl

pub given-fine : (es : List Entry) (t : Token) (rule : Rule) (text : List ℕ) (at : ℕ) (old : Reader) → t.at ≡ at → old ≡ reader es → is_too_much t.at t.word ≡ false → is_dashed t.word ≡ true
    → option_named t.word ≡ Some rule → switched rule.kind ≡ None → t.value ≡ Some text → full rule.kind old ≡ false → is_too_much (at + 1) text ≡ false → early es t ≡ None
given-fine es t rule text at old here stands short dashed named s given room value_short =
    early-fine es t rule text short dashed named s given (sym (full-is es rule.kind) ∙ (ap (full rule.kind) (sym stands) ∙ room)) (ap (λ n. is_too_much (n + 1) text) here ∙ value_short)

pub given-ok : (es : List Entry) (t : Token) (rule : Rule) (text : List ℕ) (at : ℕ) (v : Value) (result : Result (Unit {0}) WordError) (new : Reader) → t.at ≡ at → is_dashed t.word ≡ true
    → option_named t.word ≡ Some rule → switched rule.kind ≡ None → t.value ≡ Some text → early es t ≡ None → Reads rule.kind text (Ok v) → Taken es at rule.concern v result new → Steps es t result new
given-ok es t rule text at v result new here dashed named s given fine reads taken =
    taken-steps es t rule.concern v result new fine (reads-value t rule text (Ok v) dashed named s given reads) (subst (λ n. Taken es n rule.concern v result new) (sym here) taken)

pub given-bad : (es : List Entry) (t : Token) (rule : Rule) (text : List ℕ) (at : ℕ) (k : WordKind) → t.at ≡ at → is_dashed t.word ≡ true
    → option_named t.word ≡ Some rule → switched rule.kind ≡ None → t.value ≡ Some text → early es t ≡ None → Reads rule.kind text (Err k) → IsFaultAt es t (fault (at + 1) k)
given-bad es t rule text at k here dashed named s given fine reads =
    subst (λ n. IsFaultAt es t (fault (n + 1) k)) here (inr (inl (rule.concern, fine, reads-value t rule text (Err k) dashed named s given reads)))
