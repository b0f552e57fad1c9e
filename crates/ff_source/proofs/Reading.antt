-- What arguments leave as it was.
use Rattle.std.proofs.Common.{◌≡◌, inl, inr, ℕ, ◌+◌, Bool, false, ◌||◌, is_some, Option, Some, None, List, [], ◌∷◌, Result, Ok, Err, refl, sym, ◌∙◌, subst}
use Rattle.ff_frame.specs.declared.config.ConfigError.{ConfigError}
use Rattle.ff_frame.specs.declared.config.ConfigError.TheVariants.{UnknownOption, BadOption}
use Rattle.ff_lang.specs.declared.graph.Arg.{Arg}
use Rattle.ff_filter.specs.Options.{Manual, AreRead, IsReadBy, option_of}
use Rattle.ff_source.specs.laws.Readings.{IsMadeBy, AfterRead}

pub no_error : {X : Type 0} (x : X) (e : ConfigError) → Ok x ≡ Err e → ⊥
no_error x e h = cc (h)

pub one_ok : {X : Type 0} (x y : X) (r : Result X ConfigError) → r ≡ Ok x → r ≡ Ok y → x ≡ y
one_ok x y r a b = cc (a, b)

module _ {S : Type 0} (manual : Manual S) (P : S → Type 0) (step : (s : S) (option : ℕ) (value : List ℕ) (t : S) → manual.Sets s option value t → P s → P t) where
  -- what each option keeps, arguments keep
  pub kept_by : (args : List Arg) (keyed : Bool) (place : ℕ) (s t : S) (r : Result S ConfigError) → AreRead manual keyed place s args r → r ≡ Ok t → P s → P t
  kept_by [] keyed place s t r read e p = subst P (one_ok s t r read e) p
  kept_by (a ∷ args) keyed place s t r read e p =
      pick (option_of manual keyed place a.key) read (λ u h q. kept_by args (keyed || is_some a.key) (place + 1) u t r h e q)
    where
      others : S → Result S ConfigError → Type 0
      others u q = AreRead manual (keyed || is_some a.key) (place + 1) u args q

      pick : (o : Option ℕ) → IsReadBy manual s a.value others o r → ((u : S) → others u r → P u → P t) → P t
      pick None h go = absurd (no_error t UnknownOption (sym e ∙ h))
      pick (Some option) (inl h) go = go h.0 h.2 (step s option a.value h.0 h.1 p)
      pick (Some option) (inr h) go = absurd (no_error t BadOption (sym e ∙ h.1))

-- what is made of arguments is made of settings
pub made_of : {S X : Type 0} (manual : Manual S) (s : S) (makes : S → Result X ConfigError → Type 0) (args : List Arg) (x : X) → IsMadeBy manual s makes args (Ok x)
    → (t : S) × AreRead manual false 0 s args (Ok t) × makes t (Ok x)
made_of manual s makes args x (Ok t, read, after) = (t, read, after)
made_of manual s makes args x (Err e, read, after) = absurd (no_error x e after)

-- settings that are read make it
pub made_by_read : {S X : Type 0} (manual : Manual S) (s t : S) (makes : S → Result X ConfigError → Type 0) (args : List Arg) (q : Result S ConfigError) (r : Result X ConfigError)
    → AreRead manual false 0 s args q → q ≡ Ok t → makes t r → IsMadeBy manual s makes args r
made_by_read manual s t makes args q r read is made = (q, read, subst (λ x. AfterRead makes r x) (sym is) made)

pub refused_by_read : {S X : Type 0} (manual : Manual S) (s : S) (makes : S → Result X ConfigError → Type 0) (args : List Arg) (q : Result S ConfigError) (e : ConfigError)
    → AreRead manual false 0 s args q → q ≡ Err e → IsMadeBy manual s makes args (Err e)
refused_by_read manual s makes args q e read is = (q, read, subst (λ x. AfterRead makes (Err e) x) (sym is) refl)
