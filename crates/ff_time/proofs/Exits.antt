-- What each way out of the reader's loop says of the text.
use Rattle.std.proofs.Common.{◌≡◌, ℕ, ◌+◌, ◌<◌, ◌≤◌, Err, Option, Some, None, option_map, List, [], ◌∷◌, ◌++◌, length, take, get_or, sym, subst, arith}
use Rattle.std.proofs.lemmas.List.{take_more, length-take-le, take_all}
use Rattle.ff_time.specs.Duration.{GoesOn}
use Rattle.ff_time.specs.Reading.{Exact, IsSound, cap, shown, next_of, letter_of, missing_of, value_of}
use Rattle.ff_time.specs.declared.reading.Reading.{Reading}
use Rattle.ff_time.specs.declared.error.TimeError.TheVariants.{BadTime}
use Rattle.ff_time.proofs.Following.{Follows, Follows-next, stuck_none, stuck_room, Follows-goes_on, Follows-value, Follows-none, Outcome}
use Rattle.ff_time.proofs.Places.{IsBadAt-inside, IsBadAt-end, Reads, Reads-bad}

-- what one more byte makes of the reading
abbrev pub Steps : List ℕ → ℕ → Reading → Option Reading → Type 0
Steps text at s out = (r : Exact) → IsSound r → s ≡ shown r → out ≡ option_map shown (next_of r (letter_of (get_or text at 0)))

abbrev pub Misses : Reading → ℕ → Type 0
Misses t m = (r : Exact) → t ≡ shown r → m ≡ missing_of r

abbrev pub Ends : Reading → Option ℕ → Type 0
Ends s out = (r : Exact) → IsSound r → s ≡ shown r → out ≡ option_map cap (value_of r)

stuck_at : (text : List ℕ) (at : ℕ) (s : Reading) → at < length text → Follows (take at text) s → ¬ GoesOn (take at text ++ (get_or text at 0 ∷ [])) → Reads text (Err (BadTime at))
stuck_at text at s lt h stop =
    Reads-bad text at (IsBadAt-inside text at lt (Follows-goes_on (take at text) s h) (λ g. stop (subst GoesOn (take_more text at 0 lt) g)))

pub exit_none : (text : List ℕ) (at : ℕ) (s : Reading) → at < length text → Follows (take at text) s → Steps text at s None → Reads text (Err (BadTime at))
exit_none text at s lt h steps =
    stuck_at text at s lt h (stuck_none (take at text) s (get_or text at 0) h (record { step = steps }))

pub exit_room : (text : List ℕ) (at m : ℕ) (s t : Reading) → at < length text → Follows (take at text) s → Steps text at s (Some t) → Misses t m → 64 < at + 1 + m → Reads text (Err (BadTime at))
exit_room text at m s t lt h steps misses full =
    stuck_at text at s lt h (stuck_room (take at text) s t (get_or text at 0) m h (record { step = steps }) misses (omega (arith, full, length-take-le at text (omega (arith, lt)))))

pub goes_on : (text : List ℕ) (at m : ℕ) (s t : Reading) → at < length text → Follows (take at text) s → Steps text at s (Some t) → Misses t m → at + 1 + m ≤ 64 → Follows (take (at + 1) text) t
goes_on text at m s t lt h steps misses room =
    subst (λ x. Follows x t) (sym (take_more text at 0 lt))
    (Follows-next (take at text) s t (get_or text at 0) m h (record { step = steps }) misses (omega (arith, room, length-take-le at text (omega (arith, lt)))))

pub exit_value : (text : List ℕ) (at x : ℕ) (s : Reading) → length text ≤ at → Follows (take at text) s → Ends s (Some x) → Outcome text x
exit_value text at x s le h ends = Follows-value text s x (subst (λ t. Follows t s) (take_all at text le) h) ends

pub exit_end : (text : List ℕ) (at : ℕ) (s : Reading) → length text ≤ at → Follows (take at text) s → Ends s None → Reads text (Err (BadTime (length text)))
exit_end text at s le h ends =
    let all : Follows text s = subst (λ t. Follows t s) (take_all at text le) h in
    Reads-bad text (length text) (IsBadAt-end text (Follows-goes_on text s all) (Follows-none text s all ends))
