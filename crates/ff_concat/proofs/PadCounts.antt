-- How many pads `concat` has by its arguments.
use Rattle.std.proofs.Common.{◌≡◌, ℕ, ◌+◌, ◌*◌, ◌≤◌, Bool, true, false, ◌||◌, cond, nat_le, nat_lt, is_some, Option, Some, None}
use Rattle.std.proofs.Common.{List, [], ◌∷◌, refl, arith}
use Rattle.std.specs.Prelude.{IfSome, ◌==◌, ◌&&◌}
use Rattle.std.proofs.lemmas.Bool.Decides.{nat_tests}
use Rattle.ff_time.specs.Digits.{number_of}
use Rattle.ff_lang.specs.declared.graph.Arg.{Arg}
use Rattle.ff_filter.specs.Options.{option_of, number_between, ranged, gives}
use Rattle.ff_concat.specs.declared.settings.Asked.{Asked}
use Rattle.ff_concat.specs.Arguments.{one_if, too_many, concat_manual, said_from, said, ends_with_n}
use Rattle.ff_concat.specs.Arguments.{or_two, video_alone, asked_of, asked_by, asked, streams_of}
use Rattle.ff_concat.specs.Pads.{inputs_of}

abbrev IsBetween : ℕ → ℕ → Option ℕ → Type 0
IsBetween lo hi o = IfSome o (λ n. (lo ≤ n) × (n ≤ hi))

between : (lo hi : ℕ) (o : Option ℕ) → IsBetween lo hi (number_between lo hi o)
between lo hi None = tt
between lo hi (Some n) = at (nat_le lo n) (nat_le n hi) refl refl
  where
    at : (b c : Bool) → nat_le lo n ≡ b → nat_le n hi ≡ c → IsBetween lo hi (cond (b && c) (Some n) None)
    at true true e f = (grind (arith, nat_tests, e), grind (arith, nat_tests, f))
    at true false e f = tt
    at false c e f = tt

pick : (lo hi : ℕ) (b : Bool) (o p : Option ℕ) → IsBetween lo hi o → IsBetween lo hi p → IsBetween lo hi (cond b o p)
pick lo hi true o p h k = h
pick lo hi false o p h k = k

said_between : (option lo hi : ℕ) (keyed : Bool) (place : ℕ) (n : Option ℕ) (args : List Arg) → IsBetween lo hi n
    → IsBetween lo hi (said_from option lo hi keyed place n args)
said_between option lo hi keyed place n [] h = h
said_between option lo hi keyed place n (a ∷ others) h =
    let given = gives option (option_of concat_manual keyed place a.key) in
    said_between option lo hi (keyed || is_some a.key) (place + 1) (cond given (ranged lo hi a.value) n) others
    (pick lo hi given (ranged lo hi a.value) n (between lo hi (number_of 5 a.value)) h)

-- what is asked for has 2 to 16 segments of some kind, and at most 16 inputs
pub record IsFit (a : Asked) : Type 0 where
  pub some : 2 ≤ a.segments
  pub few : a.segments ≤ 16
  pub kinds : (a.video || a.audio) ≡ true
  pub inputs : inputs_of a ≤ 16

alone_fit : (n : ℕ) → 2 ≤ n → n ≤ 16 → IsFit (video_alone n)
alone_fit n some few = record { some = some; few = few; kinds = refl; inputs = omega (arith, few) }

two_fit : (v a : Bool) → (v || a) ≡ true → IsFit (record { segments = 2; video = v; audio = a })
two_fit true true e = record { some = omega arith; few = omega arith; kinds = refl; inputs = omega arith }
two_fit true false e = record { some = omega arith; few = omega arith; kinds = refl; inputs = omega arith }
two_fit false true e = record { some = omega arith; few = omega arith; kinds = refl; inputs = omega arith }
two_fit false false e = cc

not_many : (n i : ℕ) → nat_lt n i ≡ false → i ≤ n
not_many n i e = grind (arith, nat_tests)

of_fit : (n : ℕ) (v a last : Bool) → 2 ≤ n → n ≤ 16 → IsFit (asked_of n v a last)
of_fit n v a last some few = at (v || a) (too_many n v a) last refl refl
  where
    at : (k m l : Bool) → (v || a) ≡ k → too_many n v a ≡ m
        → IsFit (cond k (cond m (cond l (record { segments = 2; video = v; audio = a }) (video_alone n)) (record { segments = n; video = v; audio = a })) (video_alone n))
    at true true true e f = two_fit v a e
    at true true false e f = alone_fit n some few
    at true false l e f = record { some = some; few = few; kinds = e; inputs = not_many 16 (n * (one_if v + one_if a)) f }
    at false m l e f = alone_fit n some few

two_or : (n : Option ℕ) → IsBetween 2 16 n → (2 ≤ or_two n) × (or_two n ≤ 16)
two_or None h = (omega arith, omega arith)
two_or (Some n) h = h

by_fit : (n v a : Option ℕ) (last : Bool) → IsBetween 2 16 n → IsFit (asked_by n v a last)
by_fit n None a last h = let t = two_or n h in alone_fit (or_two n) t.0 t.1
by_fit n (Some v) None last h = let t = two_or n h in alone_fit (or_two n) t.0 t.1
by_fit n (Some v) (Some a) last h = let t = two_or n h in of_fit (or_two n) (v == 1) (a == 1) last t.0 t.1

pub asked_fit : (args : List Arg) → IsFit (asked args)
asked_fit args =
    by_fit (said 0 2 16 2 args) (said 1 0 1 1 args) (said 2 0 1 0 args) (ends_with_n false false 0 args)
    (said_between 0 2 16 false 0 (Some 2) args (omega arith, omega arith))

-- a segment has one stream or two
pub streams_few : (a : Asked) → (a.video || a.audio) ≡ true → (1 ≤ streams_of a) × (streams_of a ≤ 2)
streams_few a e = at a.video a.audio e
  where
    at : (v w : Bool) → (v || w) ≡ true → (1 ≤ one_if v + one_if w) × (one_if v + one_if w ≤ 2)
    at true true e = (omega arith, omega arith)
    at true false e = (omega arith, omega arith)
    at false true e = (omega arith, omega arith)
    at false false e = cc
