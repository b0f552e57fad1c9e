-- What arguments that aren't refused leave of settings, and what they count.
use Rattle.std.proofs.Common.{◌≡◌, ℕ, ◌+◌, ◌==◌, ◌&&◌, nat_lt, nat_le, ◌≤◌, not, Bool, true, false, ◌||◌, is_some, cond, Option, Some, None, option_map, Result, Ok, List, [], ◌∷◌, codes, refl, sym, ap, subst, ◌∙◌, arith}
use Rattle.std.specs.Prelude.{if◌then◌else◌}
use Rattle.std.specs.Str.{bytes_eq}
use Rattle.std.proofs.lemmas.Bool.Decides.{nat_tests}
use Rattle.ff_time.specs.Digits.{number_of, ratio_of}
use Rattle.ff_time.specs.Fraction.{Fraction, IsBase}
use Rattle.ff_lang.specs.declared.graph.Arg.{Arg}
use Rattle.ff_filter.specs.Options.{Manual, option_of, ranged, gives}
use Rattle.ff_filter.specs.declared.spread.copies.SplitSettings.{SplitSettings}
use Rattle.ff_filter.specs.spread.Splits.{split_manual}
use Rattle.ff_vfilter.specs.declared.fps.FpsSettings.{FpsSettings}
use Rattle.ff_fsync.specs.stacks.Options.{taken_inputs, inputs_of as stack_inputs, gives_inputs, counted}
use Rattle.ff_joins.specs.Arguments.{or_else, last_from}
use Rattle.ff_filters.specs.ReadBy.{taken_by, given_by, read_by}
use Rattle.ff_filters.specs.SetBy.{set_fps, set_split}
use Rattle.ff_filters.specs.Texts.{on_some, base_of, rate_base}
use Rattle.ff_filters.proofs.LowestTerms.{base_out}
use Rattle.ff_filters.proofs.SettingsBy.{from_map, ranged_out}

pub same_ok : {X E : Type 0} (x y : X) → (let r : Result X E = Ok x in r) ≡ Ok y → x ≡ y
same_ok x y e = cc

some_same : {A : Type 0} (x y : A) → Some x ≡ Some y → x ≡ y
some_same x y e = cc

no_some : {A : Type 0} (x : A) → None ≡ Some x → ⊥
no_some x e = cc

-- what each value keeps, all arguments do
module _ {S T : Type 0} (manual : Manual S) (set : T → ℕ → List ℕ → Option T) (P : T → Type 0)
    (each : (t : T) (option : ℕ) (value : List ℕ) (u : T) → P t → set t option value ≡ Some u → P u) where
  pub read_keeps : (keyed : Bool) (place : ℕ) (t : T) (args : List Arg) (s : T) → P t → read_by manual set keyed place t args ≡ Ok s → P s
  read_keeps keyed place t [] s p e = subst P (same_ok t s e) p
  read_keeps keyed place t (a ∷ others) s p e =
      given (option_of manual keyed place a.key) (λ u. read_keeps (keyed || is_some a.key) (place + 1) u others s) e
    where
      taken : (option : ℕ) (o : Option T) → set t option a.value ≡ o
          → ((u : T) → P u → read_by manual set (keyed || is_some a.key) (place + 1) u others ≡ Ok s → P s)
          → taken_by (λ u. read_by manual set (keyed || is_some a.key) (place + 1) u others) o ≡ Ok s → P s
      taken option None h more f = absurd cc
      taken option (Some u) h more f = more u (each t option a.value u p h) f

      given : (o : Option ℕ) → ((u : T) → P u → read_by manual set (keyed || is_some a.key) (place + 1) u others ≡ Ok s → P s)
          → given_by (λ option. set t option a.value) (λ u. read_by manual set (keyed || is_some a.key) (place + 1) u others) o ≡ Ok s → P s
      given None more f = absurd cc
      given (Some option) more f = taken option (set t option a.value) refl more f

-- ---- the time base of a rate is one

on_there : {A B : Type 0} (f : A → Option B) (o : Option A) (u : B) → on_some f o ≡ Some u → (x : A) × (f x ≡ Some u)
on_there f None u e = absurd (no_some u e)
on_there f (Some x) u e = (x, e)

pub rate_keeps : (t : FpsSettings) (option : ℕ) (value : List ℕ) (u : FpsSettings) → IsBase t.base → set_fps t option value ≡ Some u → IsBase u.base
rate_keeps t option value u p e =
    let k = from_map (λ (b : Fraction). let f : FpsSettings = record { base = b } in f) (rate_base value) u e in
    let r = on_there base_of (ratio_of value) k.0 k.1 in
    let is = base_out r.0.0 r.0.1 k.0 r.1 in
    subst (λ (f : FpsSettings). IsBase f.base) k.2 is.1

-- ---- how many outputs `split` has, is what its arguments say

named_zero : (b : Bool) (option : ℕ) → (if b then Some 0 else None) ≡ Some option → (option == 0) ≡ true
named_zero true option e = (let same : 0 ≡ option = some_same 0 option e in grind (arith, nat_tests))
named_zero false option e = absurd (no_some option e)

place_zero : (place option : ℕ) (c keyed : Bool) → nat_lt place 1 ≡ c → (if c && not keyed then Some place else None) ≡ Some option → (option == 0) ≡ true
place_zero place option true false h e = (let same : place ≡ option = some_same place option e in grind (arith, nat_tests))
place_zero place option true true h e = absurd (no_some option e)
place_zero place option false keyed h e = absurd (no_some option e)

option_zero : (keyed : Bool) (place : ℕ) (key : Option (List ℕ)) (option : ℕ) → option_of split_manual keyed place key ≡ Some option → (option == 0) ≡ true
option_zero keyed place (Some k) option e = named_zero (bytes_eq k (codes "outputs")) option e
option_zero keyed place None option e = place_zero place option (nat_lt place 1) keyed refl e

pub split_read : (keyed : Bool) (place : ℕ) (t : SplitSettings) (args : List Arg) (s : SplitSettings) → read_by split_manual set_split keyed place t args ≡ Ok s
    → s.outputs ≡ last_from split_manual 0 1 16 2 keyed place t.outputs args
split_read keyed place t [] s e = ap (λ (x : SplitSettings). x.outputs) (sym (same_ok t s e))
split_read keyed place t (a ∷ others) s e =
    given (option_of split_manual keyed place a.key) refl (λ u. split_read (keyed || is_some a.key) (place + 1) u others s) e
  where
    taken : (r : Option ℕ) → ((u : SplitSettings) → read_by split_manual set_split (keyed || is_some a.key) (place + 1) u others ≡ Ok s
        → s.outputs ≡ last_from split_manual 0 1 16 2 (keyed || is_some a.key) (place + 1) u.outputs others) → taken_by (λ u. read_by split_manual set_split (keyed || is_some a.key) (place + 1) u others) (option_map (λ n. let c : SplitSettings = record { outputs = n } in c) r) ≡ Ok s
        → s.outputs ≡ last_from split_manual 0 1 16 2 (keyed || is_some a.key) (place + 1) (or_else 2 r) others
    taken None more f = absurd cc
    taken (Some n) more f = more (record { outputs = n }) f

    given : (o : Option ℕ) → option_of split_manual keyed place a.key ≡ o
        → ((u : SplitSettings) → read_by split_manual set_split (keyed || is_some a.key) (place + 1) u others ≡ Ok s
        → s.outputs ≡ last_from split_manual 0 1 16 2 (keyed || is_some a.key) (place + 1) u.outputs others)
        → given_by (λ option. set_split t option a.value) (λ u. read_by split_manual set_split (keyed || is_some a.key) (place + 1) u others) o ≡ Ok s
        → s.outputs ≡ last_from split_manual 0 1 16 2 (keyed || is_some a.key) (place + 1) (cond (gives 0 o) (or_else 2 (ranged 1 16 a.value)) t.outputs) others
    given None h more f = absurd cc
    given (Some option) h more f =
        taken (ranged 1 16 a.value) more f
        ∙ ap (λ (b : Bool). last_from split_manual 0 1 16 2 (keyed || is_some a.key) (place + 1) (cond b (or_else 2 (ranged 1 16 a.value)) t.outputs) others)
        (sym (option_zero keyed place a.key option h))

-- ---- what arguments count lies in its range

or_else_few : (lo hi d : ℕ) (text : List ℕ) (o : Option ℕ) → ranged lo hi text ≡ o → d ≤ hi → or_else d o ≤ hi
or_else_few lo hi d text None e few = few
or_else_few lo hi d text (Some n) e few = (ranged_out lo hi n text e).high

either_few : (b : Bool) (m n hi : ℕ) → m ≤ hi → n ≤ hi → cond b m n ≤ hi
either_few true m n hi f g = f
either_few false m n hi f g = g

pub last_few : {S : Type 0} (manual : Manual S) (option lo hi d : ℕ) (keyed : Bool) (place n : ℕ) (args : List Arg) → d ≤ hi → n ≤ hi
    → last_from manual option lo hi d keyed place n args ≤ hi
last_few manual option lo hi d keyed place n [] f g = g
last_few manual option lo hi d keyed place n (a ∷ others) f g =
    last_few manual option lo hi d (keyed || is_some a.key) (place + 1) (cond (gives option (option_of manual keyed place a.key)) (or_else d (ranged lo hi a.value)) n) others f
    (either_few (gives option (option_of manual keyed place a.key)) (or_else d (ranged lo hi a.value)) n hi (or_else_few lo hi d a.value (ranged lo hi a.value) refl f) g)

checked_few : (n : ℕ) (b : Bool) → (nat_le 2 n && nat_le n 16) ≡ b → cond b n 2 ≤ 16
checked_few n true e = grind (arith, nat_tests)
checked_few n false e = omega arith

taken_few : (o : Option ℕ) → taken_inputs o ≤ 16
taken_few None = omega arith
taken_few (Some n) = checked_few n (nat_le 2 n && nat_le n 16) refl

pub counted_few : (keyed : Bool) (place n : ℕ) (args : List Arg) → n ≤ 16 → counted keyed place n args ≤ 16
counted_few keyed place n [] few = few
counted_few keyed place n (a ∷ others) few =
    counted_few (keyed || is_some a.key) (place + 1) (cond (gives_inputs keyed place a.key) (stack_inputs a.value) n) others
    (either_few (gives_inputs keyed place a.key) (stack_inputs a.value) n 16 (taken_few (number_of 5 a.value)) few)

or_least : (lo hi d : ℕ) (text : List ℕ) (o : Option ℕ) → ranged lo hi text ≡ o → lo ≤ d → lo ≤ or_else d o
or_least lo hi d text None e le = le
or_least lo hi d text (Some n) e le = (ranged_out lo hi n text e).low

either_least : (b : Bool) (lo m n : ℕ) → lo ≤ m → lo ≤ n → lo ≤ cond b m n
either_least true lo m n a b = a
either_least false lo m n a b = b

pub last_least : {S : Type 0} (manual : Manual S) (option lo hi d : ℕ) (keyed : Bool) (place n : ℕ) (args : List Arg) → lo ≤ d → lo ≤ n
    → lo ≤ last_from manual option lo hi d keyed place n args
last_least manual option lo hi d keyed place n [] a b = b
last_least manual option lo hi d keyed place n (x ∷ args) a b =
    last_least manual option lo hi d (keyed || is_some x.key) (place + 1) (cond (gives option (option_of manual keyed place x.key)) (or_else d (ranged lo hi x.value)) n)
    args a (either_least (gives option (option_of manual keyed place x.key)) lo (or_else d (ranged lo hi x.value)) n
    (or_least lo hi d x.value (ranged lo hi x.value) refl a) b)
