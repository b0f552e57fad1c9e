-- What is known of the streams of a segment where nothing more comes.
use Rattle.std.proofs.Common.{◌≡◌, ℕ, suc, ◌+◌, ◌*◌, ◌<◌, List, length, get_or, refl, ap, sym, ◌∙◌}
use Rattle.std.specs.Prelude.{max, slice_index}
use Rattle.ff_stream.specs.Stream.{Mark}
use Rattle.ff_stream.specs.Ports.{nothing}
use Rattle.ff_filter.specs.declared.after.After.{After}
use Rattle.ff_filter.specs.declared.after.After.TheVariants.{More, Whole, Broke}
use Rattle.ff_filter.specs.Joins.{silence}
use Rattle.ff_filter.specs.Made.{mark_after}
use Rattle.ff_concat.specs.declared.reach.Reach.{Reach}
use Rattle.ff_concat.specs.Tails.{both, together, latest}
use Rattle.ff_concat.specs.laws.Tracks.{after_at, end_at, tail_on, tails}
use Rattle.ff_concat.proofs.Lookups.{after_get, end_get}

pub silent_mark : (e : ℕ) (a : After) → (tail_on e a nothing).mark ≡ mark_after a
silent_mark e More = refl
silent_mark e Whole = refl
silent_mark e Broke = refl

pub silent_end : (e : ℕ) (a : After) → (tail_on e a nothing).end ≡ e
silent_end e More = refl
silent_end e Whole = refl
silent_end e Broke = refl

-- one stream more
pub together_more : (rs : List Reach) (k p : ℕ) (r : Reach) (a b : After) → p + k < length rs
    → mark_after a ≡ together k p (tails rs silence) → mark_after b ≡ both (mark_after a) (mark_after (get_or rs (p + k) r).after)
    → mark_after b ≡ together (suc k) p (tails rs silence)
together_more rs k p r a b lt h g =
    g ∙ (ap (λ (m : Mark). both m (mark_after (get_or rs (p + k) r).after)) h
    ∙ ap (λ (m : Mark). both (together k p (tails rs silence)) m)
    (ap (λ (c : After). mark_after c) (sym (after_get rs (p + k) r lt)) ∙ sym (silent_mark (end_at rs (p + k)) (after_at rs (p + k)))))

pub latest_more : (tick_list : List ℕ) (rs : List Reach) (k p : ℕ) (r : Reach) (l m : ℕ) → p + k < length rs
    → l ≡ latest tick_list k p (tails rs silence) → m ≡ max l ((get_or rs (p + k) r).end * slice_index tick_list k)
    → m ≡ latest tick_list (suc k) p (tails rs silence)
latest_more tick_list rs k p r l m lt h g =
    g ∙ (ap (λ (n : ℕ). max n ((get_or rs (p + k) r).end * slice_index tick_list k)) h
    ∙ ap (λ (n : ℕ). max (latest tick_list k p (tails rs silence)) (n * slice_index tick_list k))
    (sym (end_get rs (p + k) r lt) ∙ sym (silent_end (end_at rs (p + k)) (after_at rs (p + k)))))
