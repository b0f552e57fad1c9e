-- From what was checked to how `concat` is configured.
use Rattle.std.proofs.Common.{◌≡◌, ℕ, zero, suc, ◌+◌, ◌<◌, ◌≤◌, Bool, true, false, ◌||◌, List, [], ◌∷◌, length, take, get_or, Result, Ok, Err, refl, inl, inr, sym, subst, arith}
use Rattle.std.specs.Prelude.{IfOk, IfErr, ◌==◌}
use Rattle.ff_frame.specs.declared.config.ConfigError.{ConfigError}
use Rattle.ff_frame.specs.declared.config.ConfigError.TheVariants.{Pads, Kind, NoMemory}
use Rattle.ff_frame.specs.declared.head.StreamHead.{StreamHead}
use Rattle.ff_lang.specs.declared.graph.Arg.{Arg}
use Rattle.ff_filter.specs.Options.{AreRead, IsRefused, Checked}
use Rattle.ff_filter.specs.Views.{View}
use Rattle.ff_filter.specs.laws.spread.Many.{AreMade}
use Rattle.ff_concat.specs.declared.settings.Asked.{Asked}
use Rattle.ff_concat.specs.declared.settings.ConcatSettings.{ConcatSettings}
use Rattle.ff_concat.specs.Arguments.{one_if, asked, concat_manual, concat_start}
use Rattle.ff_concat.specs.ConcatOptions.{AreJoined, AfterRead, are_of_kinds, IsConcat, start_view, start_heads}
use Rattle.ff_concat.specs.Pads.{inputs_of}

checked : {X : Type 0} (b : Bool) (e : ConfigError) (next : Result X ConfigError → Type 0) (r : Result X ConfigError) → b ≡ true → next r → Checked b e next r
checked true e next r t h = h
checked false e next r t h = cc

-- what is made of the heads is what is made of both, where nothing is refused before
pub joined_is : (args : List Arg) (hs : List StreamHead) (a : Asked) (s : ConcatSettings) (r : Result (List StreamHead × ℕ) ConfigError) → a ≡ asked args
    → (length hs == inputs_of a) ≡ true → are_of_kinds a hs ≡ true → AreRead concat_manual false 0 (concat_start args) args (Ok s) → AreJoined a hs r
    → IsConcat args hs r
joined_is args hs a s r is count kinds read joined =
    let next : Result (List StreamHead × ℕ) ConfigError → Type 0 = λ u. (q : Result ConcatSettings ConfigError) × AreRead concat_manual false 0 (concat_start args) args q
    × AfterRead (AreJoined (asked args) hs) q u in
    checked (length hs == inputs_of (asked args)) Pads (λ q. Checked (are_of_kinds (asked args) hs) Kind next q) r
    (subst (λ (b : Asked). (length hs == inputs_of b) ≡ true) is count)
    (checked (are_of_kinds (asked args) hs) Kind next r (subst (λ (b : Asked). are_of_kinds b hs ≡ true) is kinds)
    (Ok s, read, subst (λ (b : Asked). AreJoined b hs r) is joined))

pub made_by : (P Q : Result (List StreamHead × ℕ) ConfigError → Type 0) → ((r : Result (List StreamHead × ℕ) ConfigError) → P r → Q r)
    → {X : Type 0} (v : X → View) (f : X → List StreamHead) (r : Result X ConfigError) → IfOk r (λ x. AreMade P start_view start_heads (v x) (f x))
    → IfOk r (λ x. AreMade Q start_view start_heads (v x) (f x))
made_by P Q h v f (Ok x) m = (m.0, h (Ok m.0) m.1, m.2, m.3)
made_by P Q h v f (Err e) m = m

-- the machine of these heads
pub made_of : (P : Result (List StreamHead × ℕ) ConfigError → Type 0) (hs : List StreamHead) (n : ℕ) → P (Ok (hs, n)) → {X : Type 0} (v : X → View) (f : X → List StreamHead)
    (r : Result X ConfigError) → IfOk r (λ x. v x ≡ start_view (hs, n)) → IfOk r (λ x. f x ≡ hs) → IfOk r (λ x. AreMade P start_view start_heads (v x) (f x))
made_of P hs n p v f (Ok x) a b = ((hs, n), p, a, b)
made_of P hs n p v f (Err e) a b = a

pub no_memory : (P : Result (List StreamHead × ℕ) ConfigError → Type 0) → {X : Type 0} (r : Result X ConfigError) → IfErr r (λ e. e ≡ NoMemory) → IfErr r (IsRefused P)
no_memory P (Ok x) e = e
no_memory P (Err f) e = inl e

pub get_same : (hs : List StreamHead) (p : ℕ) (d r : StreamHead) → p < length hs → r ≡ get_or hs p r → get_or hs p d ≡ r
get_same [] p d r lt e = absurd (omega arith)
get_same (h ∷ hs) zero d r lt e = sym e
get_same (h ∷ hs) (suc p) d r lt e = get_same hs p d r (omega arith) e

pub refused_by : (P Q : Result (List StreamHead × ℕ) ConfigError → Type 0) → ((r : Result (List StreamHead × ℕ) ConfigError) → P r → Q r)
    → {X : Type 0} (r : Result X ConfigError) → IfErr r (IsRefused P) → IfErr r (IsRefused Q)
refused_by P Q h (Ok x) m = m
refused_by P Q h (Err e) (inl n) = inl n
refused_by P Q h (Err e) (inr p) = inr (h (Err e) p)

pub take_two : (hs : List StreamHead) (d e : StreamHead) → 2 ≤ length hs → take 2 hs ≡ get_or hs 0 d ∷ get_or hs 1 e ∷ []
take_two [] d e le = absurd (omega arith)
take_two (h ∷ []) d e le = absurd (omega arith)
take_two (h ∷ i ∷ hs) d e le = refl

pub take_one : (hs : List StreamHead) (d : StreamHead) → 1 ≤ length hs → take 1 hs ≡ get_or hs 0 d ∷ []
take_one [] d le = absurd (omega arith)
take_one (h ∷ hs) d le = refl

pub one_stream_of : (v a : Bool) → (v || a) ≡ true → (one_if v + one_if a ≡ 2 → ⊥) → one_if v + one_if a ≡ 1
one_stream_of true true e n = absurd (n refl)
one_stream_of true false e n = refl
one_stream_of false true e n = refl
one_stream_of false false e n = cc
