-- What the arguments are read as, is what the function says.
use Rattle.std.proofs.Common.{◌≡◌, ℕ, ◌+◌, Bool, false, ◌||◌, is_some, Option, Some, None, Result, Ok, Err, List, [], ◌∷◌, inl, inr, refl, sym, ap, subst, ◌∙◌}
use Rattle.ff_frame.specs.declared.config.ConfigError.{ConfigError}
use Rattle.ff_frame.specs.declared.head.StreamHead.{StreamHead}
use Rattle.ff_lang.specs.declared.graph.Arg.{Arg}
use Rattle.ff_filter.specs.Options.{Manual, option_of, IsReadBy, AreRead, only_head, with_head, AfterHead, AfterSet, IsConfigured}
use Rattle.ff_filters.specs.ReadBy.{and_then, taken_by, given_by, read_by, configured_by}

-- `set` makes of settings as they are shown what the manual says
pub record SetsBy {S T : Type 0} (manual : Manual S) (shown : S → T) (set : T → ℕ → List ℕ → Option T) : Type 0 where
  pub sets : (s : S) (option : ℕ) (value : List ℕ) (t : S) → manual.Sets s option value t → set (shown s) option value ≡ Some (shown t)
  pub takes : (s : S) (option : ℕ) (value : List ℕ) (u : T) → set (shown s) option value ≡ Some u → (t : S) × manual.Sets s option value t

-- settings as they are shown, or why there are none
abbrev pub result_of : {S T : Type 0} → (S → T) → Result S ConfigError → Result T ConfigError
result_of shown (Ok s) = Ok (shown s)
result_of shown (Err e) = Err e

module _ {S T : Type 0} (manual : Manual S) (shown : S → T) (set : T → ℕ → List ℕ → Option T) (is : SetsBy manual shown set) where
  not_taken : (s : S) (option : ℕ) (value : List ℕ) (o : Option T) → set (shown s) option value ≡ o → ((t : S) → manual.Sets s option value t → ⊥) → o ≡ None
  not_taken s option value None e none = refl
  not_taken s option value (Some u) e none = (let k = is.takes s option value u e in absurd (none k.0 k.1))

  one_read : (s : S) (value : List ℕ) (Others : S → Result S ConfigError → Type 0) (others : T → Result T ConfigError)
      → ((t : S) (q : Result S ConfigError) → Others t q → others (shown t) ≡ result_of shown q)
      → (o : Option ℕ) (r : Result S ConfigError) → IsReadBy manual s value Others o r
      → given_by (λ option. set (shown s) option value) others o ≡ result_of shown r
  one_read s value Others others same None r e = ap (result_of shown) (sym e)
  one_read s value Others others same (Some option) r (inl h) =
      ap (taken_by others) (is.sets s option value h.0 h.1) ∙ same h.0 r h.2
  one_read s value Others others same (Some option) r (inr h) =
      ap (taken_by others) (not_taken s option value (set (shown s) option value) refl h.0) ∙ ap (result_of shown) (sym h.1)

  pub read_is : (keyed : Bool) (place : ℕ) (s : S) (args : List Arg) (r : Result S ConfigError) → AreRead manual keyed place s args r
      → read_by manual set keyed place (shown s) args ≡ result_of shown r
  read_is keyed place s [] r e = ap (result_of shown) (sym e)
  read_is keyed place s (a ∷ others) r h =
      one_read s a.value (λ t. AreRead manual (keyed || is_some a.key) (place + 1) t others)
      (λ u. read_by manual set (keyed || is_some a.key) (place + 1) u others)
      (λ t q k. read_is (keyed || is_some a.key) (place + 1) t others q k) (option_of manual keyed place a.key) r h

  module _ {X : Type 0} (makes : StreamHead → S → Result X ConfigError → Type 0) (made : StreamHead → T → Result X ConfigError)
      (same : (head : StreamHead) (s : S) (r : Result X ConfigError) → makes head s r → made head (shown s) ≡ r) where
    after_read : (head : StreamHead) (read : Result S ConfigError) (q : Result (StreamHead × S) ConfigError) (r : Result X ConfigError)
        → q ≡ with_head head read → AfterSet makes q r → and_then (made head) (result_of shown read) ≡ r
    after_read head (Ok s) q r e h = same head s r (subst (λ x. AfterSet makes x r) e h)
    after_read head (Err d) q r e h = sym (subst (λ x. AfterSet makes x r) e h)

    after_head : (s : S) (args : List Arg) (head : Result StreamHead ConfigError) (q : Result (StreamHead × S) ConfigError) (r : Result X ConfigError)
        → AfterHead manual s args q head → AfterSet makes q r → and_then (λ h. and_then (made h) (read_by manual set false 0 (shown s) args)) head ≡ r
    after_head s args (Ok head) q r h k =
        ap (and_then (made head)) (read_is false 0 s args h.0 h.1) ∙ after_read head h.0 q r h.2 k
    after_head s args (Err e) q r h k = sym (subst (λ x. AfterSet makes x r) h k)

    pub configured_is : (wanted : StreamHead → Bool) (s : S) (args : List Arg) (heads : List StreamHead) (r : Result X ConfigError)
        → IsConfigured wanted manual s makes args heads r → configured_by wanted manual set (shown s) made args heads ≡ r
    configured_is wanted s args heads r h = after_head s args (only_head wanted heads) h.0 r h.1 h.2
