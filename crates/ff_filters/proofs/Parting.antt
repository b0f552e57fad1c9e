-- What a filter that isn't refused was made of.
use Rattle.std.proofs.Common.{◌≡◌, ℕ, Bool, true, false, cond, Option, Some, None, Result, Ok, Err, List, [], ◌∷◌, refl, ap, subst}
use Rattle.ff_frame.specs.declared.config.ConfigError.{ConfigError}
use Rattle.ff_frame.specs.declared.config.ConfigError.TheVariants.{Kind}
use Rattle.ff_frame.specs.declared.head.StreamHead.{StreamHead}
use Rattle.ff_lang.specs.declared.graph.Arg.{Arg}
use Rattle.ff_filter.specs.Options.{Manual, only_head}
use Rattle.ff_filters.specs.ReadBy.{and_then, unless, read_by, configured_by}

pub if_ok : {X : Type 0} (c : Bool) (r : Result X ConfigError) (e : ConfigError) (x : X) → cond c r (Err e) ≡ Ok x → (c ≡ true) × (r ≡ Ok x)
if_ok true r e x h = (refl, h)
if_ok false r e x h = cc

pub then_ok : {A X : Type 0} (next : A → Result X ConfigError) (r : Result A ConfigError) (x : X) → and_then next r ≡ Ok x → (a : A) × (r ≡ Ok a) × (next a ≡ Ok x)
then_ok next (Ok a) x h = (a, refl, h)
then_ok next (Err e) x h = cc

pub unless_ok : {X : Type 0} (o : Option ConfigError) (r : Result X ConfigError) (x : X) → unless o r ≡ Ok x → (o ≡ None) × (r ≡ Ok x)
unless_ok None r x h = (refl, h)
unless_ok (Some e) r x h = cc

one_head : (wanted : StreamHead → Bool) (heads : List StreamHead) (h : StreamHead) → only_head wanted heads ≡ Ok h → (heads ≡ h ∷ []) × (wanted h ≡ true)
one_head wanted [] h e = cc
one_head wanted (i ∷ []) h e =
    let k = if_ok (wanted i) (Ok i) Kind h e in
    let same : i ≡ h = cc in
    (ap (λ (j : StreamHead). j ∷ []) same, subst (λ (j : StreamHead). wanted j ≡ true) same k.0)
one_head wanted (i ∷ j ∷ hs) h e = cc

-- a filter of one input: its head and settings
pub record Parts {S T X : Type 0} (wanted : StreamHead → Bool) (manual : Manual S) (set : T → ℕ → List ℕ → Option T) (t : T)
    (made : StreamHead → T → Result X ConfigError) (args : List Arg) (heads : List StreamHead) (x : X) : Type 0 where
  pub head : StreamHead
  pub settings : T
  pub only : heads ≡ head ∷ []
  pub kind : wanted head ≡ true
  pub read : read_by manual set false 0 t args ≡ Ok settings
  pub made_is : made head settings ≡ Ok x

pub parts_of : {S T X : Type 0} (wanted : StreamHead → Bool) (manual : Manual S) (set : T → ℕ → List ℕ → Option T) (t : T)
    (made : StreamHead → T → Result X ConfigError) (args : List Arg) (heads : List StreamHead) (x : X)
    → configured_by wanted manual set t made args heads ≡ Ok x → Parts wanted manual set t made args heads x
parts_of wanted manual set t made args heads x h =
    let first = then_ok (λ head. and_then (made head) (read_by manual set false 0 t args)) (only_head wanted heads) x h in
    let second = then_ok (made first.0) (read_by manual set false 0 t args) x first.2 in
    let one = one_head wanted heads first.0 first.1 in
    record { head = first.0; settings = second.0; only = one.0; kind = one.1; read = second.1; made_is = second.2 }
