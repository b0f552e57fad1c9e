-- What a filter of one input owes, by what its head and settings make.
use Rattle.std.proofs.Common.{◌≡◌, ℕ, Bool, true, false, Option, Some, Result, Ok, List, [], ◌∷◌, map, sym, ap, subst, ◌∙◌, arith}
use Rattle.ff_frame.specs.declared.config.ConfigError.{ConfigError}
use Rattle.ff_frame.specs.declared.head.StreamHead.{StreamHead}
use Rattle.ff_stream.specs.declared.item.Lane.TheVariants.{Frames}
use Rattle.ff_lang.specs.declared.graph.Arg.{Arg}
use Rattle.ff_filter.specs.Options.{Manual}
use Rattle.ff_filter.specs.Plain.{no_manual}
use Rattle.ff_filter.specs.Views.{View, IsNew}
use Rattle.ff_filters.specs.Configured.{plain_by}
use Rattle.ff_filters.specs.Definitions.{single, one}
use Rattle.ff_filters.specs.ReadBy.{configured_by}
use Rattle.ff_filters.specs.SetBy.{set_none}
use Rattle.ff_filters.proofs.LimitedLemmas.Opening.{Owes}
use Rattle.ff_filters.proofs.Owing.{Becomes, Owed, merging_owed}
use Rattle.ff_filters.proofs.Parting.{parts_of}
use Rattle.ff_filters.proofs.Refusing.{HasReason, configured-so}
use Rattle.ff_filters.proofs.Settings.{same_ok, read_keeps}

-- one that is seen so, where its input has the head h and its output the head k
pub record IsSingle (h : StreamHead) (v : View) (k : StreamHead) : Type 0 where
  pub ins : v.ins ≡ Frames h ∷ []
  pub outs : v.outs ≡ Frames k ∷ []
  pub new : IsNew v
  pub owes : Owes v.ins v.outs v.rest
  pub becomes : Becomes (h ∷ []) k

-- `Fits` is what each value keeps of the settings
module _ {S T X : Type 0} (takes_sound : Bool) (wanted : StreamHead → Bool) (is : List Arg → List StreamHead → Result X ConfigError → Type 0)
    (manual : Manual S) (set : T → ℕ → List ℕ → Option T) (t : T) where
  pub single_owed : (made : StreamHead → T → Result X ConfigError) (shown : X → View) (head : X → StreamHead)
      → ((args : List Arg) (heads : List StreamHead) (r : Result X ConfigError) → is args heads r → configured_by wanted manual set t made args heads ≡ r)
      → ((h : StreamHead) (u : T) → HasReason (made h u))
      → (Fits : T → Type 0) → Fits t → ((u : T) (option : ℕ) (value : List ℕ) (w : T) → Fits u → set u option value ≡ Some w → Fits w)
      → ((h : StreamHead) (u : T) (m : X) → wanted h ≡ true → Fits u → made h u ≡ Ok m → IsSingle h (shown m) (head m))
      → Owed (single takes_sound (configured_by wanted manual set t made) shown head) (one is (λ heads. shown) head)
  single_owed made shown head same so Fits start next each =
      merging_owed is (configured_by wanted manual set t made) same (λ args heads. configured-so wanted manual set t made args heads so)
      (λ args. 1) (λ args pad. takes_sound) (λ heads. shown) head (λ args. omega arith)
      (λ args heads m e.
      let p = parts_of wanted manual set t made args heads m e in
      let o = each p.head p.settings m p.kind (read_keeps manual set Fits next false 0 t args p.settings start p.read) p.made_is in
      record {
        first = p.head;
        others = [];
        fed = p.only;
        ins = o.ins ∙ ap (map Frames) (sym p.only);
        outs = o.outs;
        new = o.new;
        owes = λ timed. o.owes;
        becomes = o.becomes;
      })

  -- where no head and settings are refused
  pub sure_owed : (of : StreamHead → T → X) (shown : X → View) (head : X → StreamHead)
      → ((args : List Arg) (heads : List StreamHead) (r : Result X ConfigError) → is args heads r
      → configured_by wanted manual set t (λ h u. Ok (of h u)) args heads ≡ r)
      → (Fits : T → Type 0) → Fits t → ((u : T) (option : ℕ) (value : List ℕ) (w : T) → Fits u → set u option value ≡ Some w → Fits w)
      → ((h : StreamHead) (u : T) → wanted h ≡ true → Fits u → IsSingle h (shown (of h u)) (head (of h u)))
      → Owed (single takes_sound (configured_by wanted manual set t (λ h u. Ok (of h u))) shown head) (one is (λ heads. shown) head)
  sure_owed of shown head same Fits start next each =
      single_owed (λ h u. Ok (of h u)) shown head same (λ h u. tt) Fits start next
      (λ h u m k f e. subst (λ (n : X). IsSingle h (shown n) (head n)) (same_ok (of h u) m e) (each h u k f))

  -- and no value is asked anything of
  pub free_owed : (of : StreamHead → T → X) (shown : X → View) (head : X → StreamHead)
      → ((args : List Arg) (heads : List StreamHead) (r : Result X ConfigError) → is args heads r
      → configured_by wanted manual set t (λ h u. Ok (of h u)) args heads ≡ r)
      → ((h : StreamHead) (u : T) → wanted h ≡ true → IsSingle h (shown (of h u)) (head (of h u)))
      → Owed (single takes_sound (configured_by wanted manual set t (λ h u. Ok (of h u))) shown head) (one is (λ heads. shown) head)
  free_owed of shown head same each = sure_owed of shown head same (λ u. Unit {0}) tt (λ u option value w f e. tt) (λ h u k f. each h u k)

-- of no option
pub plain_owed : {X : Type 0} (takes_sound : Bool) (wanted : StreamHead → Bool) (is : List Arg → List StreamHead → Result X ConfigError → Type 0) (of : StreamHead → X)
    (shown : X → View) (head : X → StreamHead)
    → ((args : List Arg) (heads : List StreamHead) (r : Result X ConfigError) → is args heads r → plain_by wanted of args heads ≡ r)
    → ((h : StreamHead) → wanted h ≡ true → IsSingle h (shown (of h)) (head (of h)))
    → Owed (single takes_sound (plain_by wanted of) shown head) (one is (λ heads. shown) head)
plain_owed takes_sound wanted is of shown head same each =
    free_owed takes_sound wanted is no_manual set_none (record {}) (λ h u. of h) shown head same (λ h u k. each h k)
