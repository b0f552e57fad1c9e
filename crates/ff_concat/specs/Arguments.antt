-- The arguments of `concat`, and what they ask for.
use Rattle.std.specs.Prelude.{◌≡◌, ℕ, ◌+◌, ◌-◌, ◌*◌, ◌==◌, nat_le, nat_lt, ◌&&◌, Bool, true, false, ◌||◌, not, cond, is_some, Option, Some, None, List, [], ◌∷◌, codes}
use Rattle.ff_lang.specs.declared.graph.Arg.{Arg}
use Rattle.ff_filter.specs.Options.{Manual, option_of, ranged, gives}
use Rattle.ff_concat.specs.declared.settings.Asked.{Asked}
use Rattle.ff_concat.specs.declared.settings.ConcatSettings.{ConcatSettings}

abbrev pub one_if : Bool → ℕ
one_if b = cond b 1 0

-- there are more inputs than a filter may have
abbrev pub too_many : ℕ → Bool → Bool → Bool
too_many n video audio = nat_lt 16 (n * (one_if video + one_if audio))

-- Refused behind the last argument that gives `v` or `a`, where neither is 1; and behind the last one that gives any
-- option, where there are too many inputs.
abbrev pub allowed : ConcatSettings → Option ConcatSettings
allowed s = cond (s.kinds_left == 0 && not (s.video || s.audio)) None (cond (s.left == 0 && too_many s.segments s.video s.audio) None (Some s))

abbrev pub set_segments : ConcatSettings → Option ℕ → Option ConcatSettings
set_segments s None = None
set_segments s (Some n) = allowed (record { segments = n; video = s.video; audio = s.audio; kinds_left = s.kinds_left; left = s.left - 1 })

abbrev pub set_video : ConcatSettings → Option ℕ → Option ConcatSettings
set_video s None = None
set_video s (Some n) = allowed (record { segments = s.segments; video = n == 1; audio = s.audio; kinds_left = s.kinds_left - 1; left = s.left - 1 })

abbrev pub set_audio : ConcatSettings → Option ℕ → Option ConcatSettings
set_audio s None = None
set_audio s (Some n) = allowed (record { segments = s.segments; video = s.video; audio = n == 1; kinds_left = s.kinds_left - 1; left = s.left - 1 })

abbrev pub concat_set : ConcatSettings → ℕ → List ℕ → Option ConcatSettings
concat_set s option value = cond (option == 0) (set_segments s (ranged 2 16 value))
    (cond (option == 1) (set_video s (ranged 0 1 value)) (set_audio s (ranged 0 1 value)))

-- `n` is 2 to 16, `v` and `a` are each 0 or 1
abbrev pub concat_manual : Manual ConcatSettings
concat_manual = record {
  names = (codes "n", 0) ∷ (codes "v", 1) ∷ (codes "a", 2) ∷ [];
  places = 3;
  Sets = λ s option value t. concat_set s option value ≡ Some t;
}

-- What the last of these arguments says that gives the option: a number from lo to hi, or none such. Where none gives it, it
-- is n.
abbrev pub said_from : ℕ → ℕ → ℕ → Bool → ℕ → Option ℕ → List Arg → Option ℕ
said_from option lo hi keyed place n [] = n
said_from option lo hi keyed place n (a ∷ others) =
    said_from option lo hi (keyed || is_some a.key) (place + 1) (cond (gives option (option_of concat_manual keyed place a.key)) (ranged lo hi a.value) n) others

abbrev pub said : ℕ → ℕ → ℕ → ℕ → List Arg → Option ℕ
said option lo hi otherwise args = said_from option lo hi false 0 (Some otherwise) args

-- the argument gives an option from this number on
abbrev pub from_number : ℕ → Option ℕ → Bool
from_number least None = false
from_number least (Some o) = nat_le least o

-- how many of these arguments give an option from this number on
abbrev pub times_from : ℕ → Bool → ℕ → List Arg → ℕ
times_from least keyed place [] = 0
times_from least keyed place (x ∷ others) =
    one_if (from_number least (option_of concat_manual keyed place x.key)) + times_from least (keyed || is_some x.key) (place + 1) others

abbrev pub concat_start : List Arg → ConcatSettings
concat_start args = record { segments = 2; video = true; audio = false; kinds_left = times_from 1 false 0 args; left = times_from 0 false 0 args }

-- whether `n` is the last option that these arguments give
abbrev pub ends_with_n : Bool → Bool → ℕ → List Arg → Bool
ends_with_n last keyed place [] = last
ends_with_n last keyed place (a ∷ others) =
    ends_with_n (cond (from_number 0 (option_of concat_manual keyed place a.key)) (gives 0 (option_of concat_manual keyed place a.key)) last) (keyed || is_some a.key)
    (place + 1) others

abbrev pub or_two : Option ℕ → ℕ
or_two None = 2
or_two (Some n) = n

abbrev pub video_alone : ℕ → Asked
video_alone n = record { segments = n; video = true; audio = false }

-- Where no kind is asked for, the kinds are refused. Where there are too many inputs, so is the last option that is given.
abbrev pub asked_of : ℕ → Bool → Bool → Bool → Asked
asked_of n video audio last =
    cond (video || audio) (cond (too_many n video audio) (cond last (record { segments = 2; video = video; audio = audio }) (video_alone n))
    (record { segments = n; video = video; audio = audio })) (video_alone n)

-- What the arguments ask for, whatever they are refused for. For a number `n` that is refused stands 2, and for `v` and `a`,
-- where one of them is refused, video alone.
abbrev pub asked_by : Option ℕ → Option ℕ → Option ℕ → Bool → Asked
asked_by n None a last = video_alone (or_two n)
asked_by n (Some v) None last = video_alone (or_two n)
asked_by n (Some v) (Some a) last = asked_of (or_two n) (v == 1) (a == 1) last

abbrev pub asked : List Arg → Asked
asked args = asked_by (said 0 2 16 2 args) (said 1 0 1 1 args) (said 2 0 1 0 args) (ends_with_n false false 0 args)

-- how many streams a segment has
abbrev pub streams_of : Asked → ℕ
streams_of a = one_if a.video + one_if a.audio
