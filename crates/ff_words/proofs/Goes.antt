-- Reading goes on over an option and over a file.
use Rattle.std.proofs.Common.{zero, suc, ◌≡◌, ℕ, ◌+◌, ◌<◌, ◌≤◌, Bool, true, false, ◌||◌, Option, Some, None, Ok, List, [], ◌∷◌, length, refl, sym, ap, subst, ◌∙◌, arith}
use Rattle.std.specs.Prelude.{if◌then◌else◌, drop, slice_get, nat_le, nat_lt, unwrap_or}
use Rattle.std.proofs.lemmas.Bool.{lt-leb}
use Rattle.ff_words.specs.declared.table.Concern.{Concern}
use Rattle.ff_words.specs.declared.table.Concern.TheVariants.{Itself}
use Rattle.ff_words.specs.declared.table.Kind.{Kind}
use Rattle.ff_words.specs.declared.table.Kind.TheVariants as kind
use Rattle.ff_words.specs.declared.table.Rule.{Rule}
use Rattle.ff_words.specs.declared.value.Value.{Value}
use Rattle.ff_words.specs.declared.value.Value.TheVariants as value
use Rattle.ff_words.specs.declared.reader.Reader.{Reader}
use Rattle.ff_format.specs.declared.format.FileFormat.{FileFormat}
use Rattle.ff_words.specs.Names.{input_name}
use Rattle.ff_words.specs.Table.{option_named, format_ending}
use Rattle.ff_words.specs.Values.{Reads, switched}
use Rattle.ff_words.specs.Words.{Entry, takes, takes_value, is_too_much, is_dashed, name_as, job_name, is_file, or_else}
use Rattle.ff_words.specs.laws.Reading.{reader, Stands, Taken, Steps, full, word_at, token_at, width, optioned, with_input, with_output, input_wrong, output_wrong, pending_format}
use Rattle.ff_words.proofs.Known.{rule, no-option, reads-input}
use Rattle.ff_words.proofs.Snoc.{taken-option, taken-input, taken-output}
use Rattle.ff_words.proofs.Steps.{given-ok, given-fine}
use Rattle.ff_words.proofs.Tokens.{token-given, token-switch, token-output, value-is, get_there, drop_at, stands-on, stands-start}

-- some front of the words was read, and these stand behind it
pub record Goes (ws : List (List ℕ)) (rest : List (List ℕ)) (r : Reader) : Type 0 where
  pub at : ℕ
  pub stands : Stands ws at r
  pub behind : drop at ws ≡ rest

pub goes-start : (ws : List (List ℕ)) → Goes ws ws (reader [])
goes-start ws = record { at = 0; stands = stands-start ws (reader []) refl; behind = refl }

pub goes-by : (ws rest others : List (List ℕ)) (r : Reader) → rest ≡ others → Goes ws rest r → Goes ws others r
goes-by ws rest others r e g = record { at = g.at; stands = g.stands; behind = g.behind ∙ e }

-- ---- the words at a place

some-there : (ws : List (List ℕ)) (at : ℕ) (w : List ℕ) (rest : List (List ℕ)) → drop at ws ≡ w ∷ rest → at < length ws
some-there [] zero w rest h = cc
some-there [] (suc i) w rest h = cc
some-there (x ∷ ws) zero w rest h = omega arith
some-there (x ∷ ws) (suc i) w rest h = (let before : i < length ws = some-there ws i w rest h in omega (arith, before))

head-same : (v w : List ℕ) (vs ws : List (List ℕ)) → v ∷ vs ≡ w ∷ ws → v ≡ w
head-same v w vs ws e = cc

tail-same : (v w : List ℕ) (vs ws : List (List ℕ)) → v ∷ vs ≡ w ∷ ws → vs ≡ ws
tail-same v w vs ws e = cc

word-is : (ws : List (List ℕ)) (at : ℕ) (w : List ℕ) (rest : List (List ℕ)) → drop at ws ≡ w ∷ rest → word_at ws at ≡ w
word-is ws at w rest h = head-same (word_at ws at) w (drop (suc at) ws) rest (sym (drop_at ws at (some-there ws at w rest h)) ∙ h)

rest-is : (ws : List (List ℕ)) (at : ℕ) (w : List ℕ) (rest : List (List ℕ)) → drop at ws ≡ w ∷ rest → drop (at + 1) ws ≡ rest
rest-is ws at w rest h =
    let next : at + 1 ≡ suc at = omega arith in
    ap (λ n. drop n ws) next ∙ tail-same (word_at ws at) w (drop (suc at) ws) rest (sym (drop_at ws at (some-there ws at w rest h)) ∙ h)

fits : (at : ℕ) (w : List ℕ) → at < 1024 → length w ≤ 65536 → is_too_much at w ≡ false
fits at w h k =
    let a : nat_le 1024 at ≡ false = lt-leb 1024 at h in
    let b : nat_lt 65536 (length w) ≡ false = lt-leb 65537 (length w) (omega (arith, k)) in
    ap (λ x. x || nat_lt 65536 (length w)) a ∙ b

-- ---- an option with its value

abbrev entry : ℕ → Concern → Value → Entry
entry at c v = record { at = at; concern = c; value = v }

abbrev Text : Type 0
Text = List ℕ

-- the step over the words there, whatever the value makes of the reader
given-step : (ws : List Text) (few : length ws ≤ 1024) (at : ℕ) (w v : Text) (rest : List Text) (r new : Reader) (rl : Rule) (x : Value) (s : Stands ws at r) → drop at ws ≡ w ∷ v ∷ rest
    → is_dashed w ≡ true → option_named w ≡ Some rl → switched rl.kind ≡ None → length w ≤ 65536 → length v ≤ 65536 → full rl.kind r ≡ false → Reads rl.kind v (Ok x)
    → Taken s.es at rl.concern x (Ok tt) new → Goes ws rest new
given-step ws few at w v rest r new rl x s h dashed named valued short small room reads taken =
    let there : at < length ws = some-there ws at w (v ∷ rest) h in
    let is : word_at ws at ≡ w = word-is ws at w (v ∷ rest) h in
    let behind : drop (at + 1) ws ≡ v ∷ rest = rest-is ws at w (v ∷ rest) h in
    let there2 : at + 1 < length ws = some-there ws (at + 1) v rest behind in
    let is2 : word_at ws (at + 1) ≡ v = word-is ws (at + 1) v rest behind in
    let given : slice_get ws (at + 1) ≡ Some (word_at ws (at + 1)) = get_there ws (at + 1) there2 in
    let named' : option_named (word_at ws at) ≡ Some rl = ap option_named is ∙ named in
    let token_value : (token_at ws at).value ≡ Some (word_at ws (at + 1)) = value-is ws at rl named' valued ∙ given in
    let wide : at + 2 ≡ at + width (token_at ws at).value = ap (λ o. at + width o) (sym token_value) in
    let value_short : is_too_much (at + 1) (word_at ws (at + 1)) ≡ false = ap (is_too_much (at + 1)) is2 ∙ fits (at + 1) v (omega (arith, there2, few)) small in
    let reads' : Reads rl.kind (word_at ws (at + 1)) (Ok x) = subst (λ t. Reads rl.kind t (Ok x)) (sym is2) reads in
    let step : Steps s.es (token_at ws at) (Ok tt) new =
    token-given s.es ws at rl (Ok tt) new (ap (is_too_much at) is ∙ fits at w (omega (arith, there, few)) short) (ap is_dashed is ∙ dashed) named' valued given
    (λ t here tv too d n sw. given-ok s.es t rl (word_at ws (at + 1)) at x (Ok tt) new here d n sw tv
    (given-fine s.es t rl (word_at ws (at + 1)) at r here s.kept too d n sw tv room value_short) reads' taken) in
    let again : at + 1 + 1 ≡ at + 2 = omega arith in
    record {
      at = at + 2;
      stands = stands-on ws at (at + 2) r new s there (omega (arith, there, few)) wide step;
      behind = ap (λ n. drop n ws) (sym again) ∙ rest-is ws (at + 1) v rest behind;
    }

pub goes-option : (ws : List Text) (few : length ws ≤ 1024) (w v : Text) (rest : List Text) (r : Reader) (c : Concern) (k : Kind) (x : Value) (g : Goes ws (w ∷ v ∷ rest) r) → is_dashed w ≡ true
    → option_named w ≡ Some (rule c k) → switched k ≡ None → length w ≤ 65536 → length v ≤ 65536 → full k r ≡ false → is_file x ≡ false → Reads k v (Ok x)
    → Goes ws rest (optioned (entry g.at c x) r)
goes-option ws few w v rest r c k x g dashed named valued short small room plain reads =
    given-step ws few g.at w v rest r (optioned (entry g.at c x) r) (rule c k) x g.stands g.behind dashed named valued short small room reads
    (taken-option g.stands.es g.at c x r (optioned (entry g.at c x) r) plain g.stands.kept refl)

pub goes-input : (ws : List Text) (few : length ws ≤ 1024) (w v name : Text) (rest : List Text) (r : Reader) (g : Goes ws (w ∷ v ∷ rest) r) → is_dashed w ≡ true
    → option_named w ≡ Some (rule Itself kind.Input) → length w ≤ 65536 → length v ≤ 65536 → input_name v ≡ Some name → None ≡ input_wrong g.at r → Goes ws rest (with_input name r)
goes-input ws few w v name rest r g dashed named short small read fine =
    given-step ws few g.at w v rest r (with_input name r) (rule Itself kind.Input) (value.Input name) g.stands g.behind dashed named refl short small refl (reads-input v name read)
    (taken-input g.stands.es g.at Itself (value.Input name) name r (with_input name r) refl g.stands.kept fine refl)

-- ---- a word without a value

none_if : (b : Bool) (o : Option Text) → b ≡ false → (if b then o else None) ≡ None
none_if b o h = ap (λ x. if x then o else None) h

one-step : (ws : List Text) (few : length ws ≤ 1024) (at : ℕ) (w : Text) (rest : List Text) (r new : Reader) (s : Stands ws at r) → drop at ws ≡ w ∷ rest → takes_value w ≡ false
    → Steps s.es (token_at ws at) (Ok tt) new → Goes ws rest new
one-step ws few at w rest r new s h takes_none step =
    let there : at < length ws = some-there ws at w rest h in
    let is : word_at ws at ≡ w = word-is ws at w rest h in
    let none : (token_at ws at).value ≡ None = none_if (takes_value (word_at ws at)) (slice_get ws (at + 1)) (ap takes_value is ∙ takes_none) in
    let wide : at + 1 ≡ at + width (token_at ws at).value = ap (λ o. at + width o) (sym none) in
    record {
      at = at + 1;
      stands = stands-on ws at (at + 1) r new s there (omega (arith, there, few)) wide step;
      behind = rest-is ws at w rest h;
    }

pub goes-switch : (ws : List Text) (few : length ws ≤ 1024) (w : Text) (rest : List Text) (r : Reader) (c : Concern) (k : Kind) (x : Value) (g : Goes ws (w ∷ rest) r) → is_dashed w ≡ true
    → option_named w ≡ Some (rule c k) → switched k ≡ Some x → takes (Some (rule c k)) ≡ false → length w ≤ 65536 → is_file x ≡ false → Goes ws rest (optioned (entry g.at c x) r)
goes-switch ws few w rest r c k x g dashed named valued no_value short plain =
    let there : g.at < length ws = some-there ws g.at w rest g.behind in
    let is : word_at ws g.at ≡ w = word-is ws g.at w rest g.behind in
    one-step ws few g.at w rest r (optioned (entry g.at c x) r) g.stands g.behind (ap takes named ∙ no_value)
    (token-switch g.stands.es ws g.at (rule c k) x (Ok tt) (optioned (entry g.at c x) r) (ap (is_too_much g.at) is ∙ fits g.at w (omega (arith, there, few)) short)
    (ap is_dashed is ∙ dashed) (ap option_named is ∙ named) valued (taken-option g.stands.es g.at c x r (optioned (entry g.at c x) r) plain g.stands.kept refl))

pub goes-output : (ws : List Text) (few : length ws ≤ 1024) (word name : Text) (rest : List Text) (r : Reader) (f : FileFormat) (g : Goes ws (word ∷ rest) r) → is_dashed word ≡ false
    → name_as f word ≡ Some name → length word ≤ 65536
    → ((ending : Option FileFormat) → None ≡ output_wrong g.at word ending r) → r.pending.format ≡ Some f → Goes ws rest (with_output name f r)
goes-output ws few word name rest r f g plain read short fine told =
    let there : g.at < length ws = some-there ws g.at word rest g.behind in
    let is : word_at ws g.at ≡ word = word-is ws g.at word rest g.behind in
    let ending : Option FileFormat = format_ending (word_at ws g.at) in
    let same : value.Output (word_at ws g.at) ending ≡ value.Output word ending = ap (λ n. value.Output n ending) is in
    let has : Some f ≡ pending_format r.pending ending = ap (λ o. or_else o ending) (sym told) in
    let made : with_output name f r ≡ with_output (job_name f word) f r = ap (λ o. with_output (unwrap_or o word) f r) (sym read) in
    one-step ws few g.at word rest r (with_output name f r) g.stands g.behind (ap takes (no-option word plain))
    (token-output g.stands.es ws g.at (Ok tt) (with_output name f r) (ap (is_too_much g.at) is ∙ fits g.at word (omega (arith, there, few)) short)
    (ap is_dashed is ∙ plain)
    (taken-output g.stands.es g.at Itself (value.Output (word_at ws g.at) ending) word ending f r (with_output name f r) same g.stands.kept (fine ending) has made))
