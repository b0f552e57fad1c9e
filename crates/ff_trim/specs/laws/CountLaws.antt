-- The laws of a cut by number, and of one behind a cut in time.
use Rattle.std.specs.Prelude.{◌≡◌, ℕ, zero, suc, ◌≤◌, Bool, true, false, cond, nat_le, Option, Some, None, List, [], ◌∷◌, length, take, refl}
use Rattle.std.proofs.Common.{ap, sym, ◌∙◌, subst, arith}
use Rattle.std.specs.Option.{ForSome}
use Rattle.std.proofs.Math.Dec.{leb-zero, leb-suc-zero, leb-suc-suc}
use Rattle.ff_stream.specs.declared.item.Item.{Item}
use Rattle.ff_stream.specs.declared.item.Item.TheVariants.{Audio, Video, Packet, Trailer, End, Broken}
use Rattle.ff_stream.specs.Stream.{Mark, still_open, whole, broken, whole_stream, LiesBelow, opened}
use Rattle.ff_stream.specs.Ports.{nothing, IsClosed}
use Rattle.ff_stream.specs.laws.Order.{below_self, below_trans}
use Rattle.ff_filter.specs.declared.after.After.{After}
use Rattle.ff_filter.specs.declared.after.After.TheVariants.{More, Whole, Broke}
use Rattle.ff_filter.specs.Joins.{Flow, one, joined}
use Rattle.ff_filter.specs.Made.{made_of}
use Rattle.ff_filter.specs.Views.{closes}
use Rattle.ff_filter.specs.laws.Runs.{Stepped, run, run_at, no_more, run_below, run_calm, run_settles}
use Rattle.ff_trim.specs.declared.counted.FirstOf.{FirstOf}
use Rattle.ff_trim.specs.Cuts.{first_frames, counted}
use Rattle.ff_trim.specs.laws.Taps.{runs_of, runs_first}
use Rattle.ff_trim.specs.laws.CutLaws.{runs-below, runs-calm, runs-settles, runs-waits, runs-ends, runs-breaks}

-- there are so many
abbrev are_there : ℕ → List Item → Bool
are_there zero xs = true
are_there (suc n) [] = false
are_there (suc n) (x ∷ xs) = are_there n xs

as_many : (n : ℕ) (xs : List Item) → nat_le n (length xs) ≡ are_there n xs
as_many zero xs = leb-zero (length xs)
as_many (suc n) [] = leb-suc-zero n
as_many (suc n) (x ∷ xs) = leb-suc-suc n (length xs) ∙ as_many n xs

-- the same, by going through the frames
abbrev pub first_there : ℕ → Flow → Flow
first_there n s = record { items = take n s.items; mark = cond (are_there n s.items) whole s.mark }

pub there_is : (n : ℕ) (s : Flow) → first_frames n s ≡ first_there n s
there_is n s = ap (λ (b : Bool). let r : Flow = record { items = take n s.items; mark = cond b whole s.mark } in r) (as_many n s.items)

-- a frame, behind which so many are still to come
abbrev pub count_step : ℕ → Item → Stepped ℕ
count_step zero x = record { made = whole_stream (x ∷ []); next = zero }
count_step (suc k) x = record { made = record { items = x ∷ []; mark = still_open }; next = k }

run_is : (k : ℕ) (xs : List Item) (m : Mark) → run_at count_step no_more k xs m ≡ first_there (suc k) (record { items = xs; mark = m })
run_is k [] still_open = refl
run_is k [] whole = refl
run_is k [] broken = refl
run_is zero (x ∷ xs) m = refl
run_is (suc k) (x ∷ xs) m = ap (λ (s : Flow). joined (record { items = x ∷ []; mark = still_open }) s) (run_is k xs m)

first-is : (k : ℕ) → ◌≡◌ {A = Flow → Flow} (λ s. run count_step no_more k s) (λ s. first_frames (suc k) s)
first-is k i s = (run_is k s.items s.mark ∙ sym (there_is (suc k) s)) i

none-is : ◌≡◌ {A = Flow → Flow} (λ s. whole_stream []) (λ s. first_frames 0 s)
none-is i s = (sym (there_is 0 s)) i

pub counted-below : (o : Option ℕ) (r s : Flow) → LiesBelow r s → LiesBelow (counted o r) (counted o s)
counted-below None r s h = h
counted-below (Some zero) r s h = subst (λ (f : Flow → Flow). LiesBelow (f r) (f s)) none-is (below_self (whole_stream []))
counted-below (Some (suc k)) r s h = subst (λ (f : Flow → Flow). LiesBelow (f r) (f s)) (first-is k) (run_below count_step no_more k r s h)

pub counted-calm : (o : Option ℕ) (r : Flow) → LiesBelow (opened (counted o r)) (counted o (opened r))
counted-calm None r = below_self (opened r)
counted-calm (Some zero) r = subst (λ (f : Flow → Flow). LiesBelow (opened (f r)) (f (opened r))) none-is (below_self (whole_stream []))
counted-calm (Some (suc k)) r = subst (λ (f : Flow → Flow). LiesBelow (opened (f r)) (f (opened r))) (first-is k) (run_calm count_step no_more k r)

whole_closed : (xs : List Item) → IsClosed (whole_stream xs)
whole_closed xs = λ e. cc

pub counted-settles : (o : Option ℕ) (r : Flow) → IsClosed r → IsClosed (counted o r)
counted-settles None r c = c
counted-settles (Some zero) r c = subst (λ (f : Flow → Flow). IsClosed (f r)) none-is (whole_closed [])
counted-settles (Some (suc k)) r c = subst (λ (f : Flow → Flow). IsClosed (f r)) (first-is k) (run_settles count_step no_more k r c)

-- ---- where some frames are still to come

abbrev pub IsSome : Option ℕ → Type 0
IsSome o = ForSome o (λ n. 1 ≤ n)

counted-bare : (o : Option ℕ) (m : Mark) → IsSome o → counted o (record { items = []; mark = m }) ≡ record { items = []; mark = m }
counted-bare None m h = refl
counted-bare (Some zero) m h = absurd (omega (arith, h zero refl))
counted-bare (Some (suc k)) m h = there_is (suc k) (record { items = []; mark = m })

-- nothing was given, and the stream goes on so
pub counted-none : (o : Option ℕ) (a : After) (r : Flow) → IsSome o → counted o (joined (made_of None a) r) ≡ joined (made_of None a) (counted o r)
counted-none o More r h = refl
counted-none o Whole r h = counted-bare o whole h
counted-none o Broke r h = counted-bare o broken h

-- the last frame was given
last_there : (x : Item) (a : After) (r t : Flow) → closes x ≡ false → first_there 1 (joined (made_of (Some x) a) r) ≡ joined (made_of (Some x) Whole) t
last_there (Audio f) More r t c = refl
last_there (Audio f) Whole r t c = refl
last_there (Audio f) Broke r t c = refl
last_there (Video f) More r t c = refl
last_there (Video f) Whole r t c = refl
last_there (Video f) Broke r t c = refl
last_there (Packet p) More r t c = refl
last_there (Packet p) Whole r t c = refl
last_there (Packet p) Broke r t c = refl
last_there (Trailer p) More r t c = refl
last_there (Trailer p) Whole r t c = refl
last_there (Trailer p) Broke r t c = refl
last_there End a r t c = cc
last_there Broken a r t c = cc

pub counted-last : (x : Item) (a : After) (r t : Flow) → closes x ≡ false → counted (Some 1) (joined (made_of (Some x) a) r) ≡ joined (made_of (Some x) Whole) t
counted-last x a r t c = there_is 1 (joined (made_of (Some x) a) r) ∙ last_there x a r t c

-- one was given, and more are to come
more_there : (k : ℕ) (x : Item) (a : After) (r : Flow) → closes x ≡ false
    → first_there (suc (suc k)) (joined (made_of (Some x) a) r) ≡ joined (made_of (Some x) a) (first_there (suc k) r)
more_there k (Audio f) More r c = refl
more_there k (Audio f) Whole r c = refl
more_there k (Audio f) Broke r c = refl
more_there k (Video f) More r c = refl
more_there k (Video f) Whole r c = refl
more_there k (Video f) Broke r c = refl
more_there k (Packet p) More r c = refl
more_there k (Packet p) Whole r c = refl
more_there k (Packet p) Broke r c = refl
more_there k (Trailer p) More r c = refl
more_there k (Trailer p) Whole r c = refl
more_there k (Trailer p) Broke r c = refl
more_there k End a r c = cc
more_there k Broken a r c = cc

pub counted-more : (k : ℕ) (x : Item) (a : After) (r : Flow) → closes x ≡ false
    → counted (Some (suc (suc k))) (joined (made_of (Some x) a) r) ≡ joined (made_of (Some x) a) (counted (Some (suc k)) r)
counted-more k x a r c =
    there_is (suc (suc k)) (joined (made_of (Some x) a) r) ∙ (more_there k x a r c ∙ ap (λ (s : Flow). joined (made_of (Some x) a) s) (sym (there_is (suc k) r)))

-- ---- behind a cut in time

pub first-below : (m : FirstOf) (r s : Flow) → LiesBelow r s → LiesBelow (runs_first m r) (runs_first m s)
first-below m r s h = counted-below m.left (runs_of m.cut r) (runs_of m.cut s) (runs-below m.cut r s h)

pub first-calm : (m : FirstOf) (r : Flow) → LiesBelow (opened (runs_first m r)) (runs_first m (opened r))
first-calm m r =
    below_trans (opened (runs_first m r)) (counted m.left (opened (runs_of m.cut r))) (runs_first m (opened r))
    (counted-calm m.left (runs_of m.cut r)) (counted-below m.left (opened (runs_of m.cut r)) (runs_of m.cut (opened r)) (runs-calm m.cut r))

pub first-settles : (m : FirstOf) (r : Flow) → IsClosed r → IsClosed (runs_first m r)
first-settles m r h = counted-settles m.left (runs_of m.cut r) (runs-settles m.cut r h)

pub first-waits : (m : FirstOf) → runs_first m nothing ≡ nothing
first-waits m = ap (λ (s : Flow). counted m.left s) (runs-waits m.cut) ∙ counted-bare m.left still_open m.some

pub first-ends : (m : FirstOf) → runs_first m (one End) ≡ one End
first-ends m = ap (λ (s : Flow). counted m.left s) (runs-ends m.cut) ∙ counted-bare m.left whole m.some

pub first-breaks : (m : FirstOf) → runs_first m (one Broken) ≡ one Broken
first-breaks m = ap (λ (s : Flow). counted m.left s) (runs-breaks m.cut) ∙ counted-bare m.left broken m.some
