-- The limits of a stream, item by item; and a function of one stream with the limits behind it.
use Rattle.std.specs.Prelude.{◌≡◌, ℕ, ◌+◌, Bool, true, false, cond, Option, Some, None, List, [], ◌∷◌, refl}
use Rattle.std.proofs.Common.{ap, sym, ◌∙◌}
use Rattle.ff_stream.specs.declared.item.Item.{Item}
use Rattle.ff_stream.specs.declared.item.Item.TheVariants.{Audio, Video, Packet, Trailer, End, Broken}
use Rattle.ff_stream.specs.Stream.{Mark, still_open, whole, broken}
use Rattle.ff_stream.specs.Within.{some_pass, before_pass, within}
use Rattle.ff_filter.specs.declared.after.After.{After}
use Rattle.ff_filter.specs.declared.after.After.TheVariants as after
use Rattle.ff_filter.specs.Joins.{Flow, one, before, joined, joined_assoc}
use Rattle.ff_filter.specs.Views.{closes}
use Rattle.ff_filter.specs.Made.{made_of, mark_after}
use Rattle.ff_filter.specs.laws.Runs.{Stepped, run, run_at, no_more}

abbrev pub limit_step : (ℕ → Item → Bool) → ℕ → Item → Stepped ℕ
limit_step passes n x = record {
  made = cond (passes n x) (record { items = []; mark = broken }) (record { items = x ∷ []; mark = still_open });
  next = n + 1;
}

-- from the item of this number on
abbrev pub limited : (ℕ → Item → Bool) → ℕ → Flow → Flow
limited passes n s = run (limit_step passes) no_more n s

within_at : (passes : ℕ → Item → Bool) (n : ℕ) (xs : List Item) (m : Mark)
    → run_at (limit_step passes) no_more n xs m ≡ record { items = before_pass passes n xs; mark = cond (some_pass passes n xs) broken m }
within_at passes n [] still_open = refl
within_at passes n [] whole = refl
within_at passes n [] broken = refl
within_at passes n (x ∷ xs) m = pick (passes n x) (within_at passes (n + 1) xs m)
  where
    pick : (b : Bool) → run_at (limit_step passes) no_more (n + 1) xs m
        ≡ record { items = before_pass passes (n + 1) xs; mark = cond (some_pass passes (n + 1) xs) broken m }
        → joined (cond b (record { items = []; mark = broken }) (record { items = x ∷ []; mark = still_open })) (run_at (limit_step passes) no_more (n + 1) xs m)
        ≡ record { items = cond b [] (x ∷ before_pass passes (n + 1) xs); mark = cond (cond b true (some_pass passes (n + 1) xs)) broken m }
    pick true e = refl
    pick false e = ap (λ (s : Flow). joined (record { items = x ∷ []; mark = still_open }) s) e

-- it is the stream within its limits
pub limited_is : (passes : ℕ → Item → Bool) (s : Flow) → limited passes 0 s ≡ within passes s
limited_is passes s = within_at passes 0 s.items s.mark

-- of an item that closes nothing, the step is made
pub run_next : {S : Type 0} (step : S → Item → Stepped S) (finish : S → List Item) (s : S) (x : Item) (t : Flow) → closes x ≡ false
    → run step finish s (before x t) ≡ joined (step s x).made (run step finish (step s x).next t)
run_next step finish s (Audio f) t c = refl
run_next step finish s (Video f) t c = refl
run_next step finish s (Packet p) t c = refl
run_next step finish s (Trailer p) t c = refl
run_next step finish s End t c = cc
run_next step finish s Broken t c = cc

pub single : (x : Item) → closes x ≡ false → made_of (Some x) after.More ≡ record { items = x ∷ []; mark = still_open }
single (Audio f) c = refl
single (Video f) c = refl
single (Packet p) c = refl
single (Trailer p) c = refl
single End c = cc
single Broken c = cc

none_then : (passes : ℕ → Item → Bool) (n : ℕ) (a : After) (r : Flow) → limited passes n (joined (made_of None a) r) ≡ joined (made_of None a) (limited passes n r)
none_then passes n after.More r = refl
none_then passes n after.Whole r = refl
none_then passes n after.Broke r = refl

-- nothing was given
pub limited_none : (passes : ℕ → Item → Bool) (n : ℕ) (a : After) (q r : Flow) → q ≡ joined (made_of None a) r
    → limited passes n q ≡ joined (made_of None a) (limited passes n r)
limited_none passes n a q r e = ap (λ (s : Flow). limited passes n s) e ∙ none_then passes n a r

-- what was given passes a limit
pub limited_cut : (passes : ℕ → Item → Bool) (n : ℕ) (y : Item) (a : After) (q r t : Flow) → closes y ≡ false → passes n y ≡ true → q ≡ joined (made_of (Some y) a) r
    → limited passes n q ≡ joined (made_of None after.Broke) t
limited_cut passes n y a q r t c p e =
    ap (λ (s : Flow). limited passes n s) (e ∙ joined_assoc (one y) (record { items = []; mark = mark_after a }) r)
    ∙ (run_next (limit_step passes) no_more n y (joined (record { items = []; mark = mark_after a }) r) c
    ∙ ap (λ (b : Bool). joined (cond b (record { items = []; mark = broken }) (record { items = y ∷ []; mark = still_open }))
    (limited passes (n + 1) (joined (record { items = []; mark = mark_after a }) r))) p)

-- what was given passes none
pub limited_some : (passes : ℕ → Item → Bool) (n : ℕ) (y : Item) (a : After) (q r : Flow) → closes y ≡ false → passes n y ≡ false → q ≡ joined (made_of (Some y) a) r
    → limited passes n q ≡ joined (made_of (Some y) a) (limited passes (n + 1) r)
limited_some passes n y a q r c p e =
    ap (λ (s : Flow). limited passes n s) (e ∙ joined_assoc (one y) (record { items = []; mark = mark_after a }) r)
    ∙ (run_next (limit_step passes) no_more n y (joined (record { items = []; mark = mark_after a }) r) c
    ∙ (ap (λ (b : Bool). joined (cond b (record { items = []; mark = broken }) (record { items = y ∷ []; mark = still_open }))
    (limited passes (n + 1) (joined (record { items = []; mark = mark_after a }) r))) p
    ∙ (ap (λ (s : Flow). joined s (limited passes (n + 1) (joined (record { items = []; mark = mark_after a }) r))) (sym (single y c))
    ∙ (ap (λ (s : Flow). joined (made_of (Some y) after.More) s) (none_then passes (n + 1) a r) ∙ last y a (limited passes (n + 1) r) c))))
  where
    last : (y : Item) (a : After) (r : Flow) → closes y ≡ false → joined (made_of (Some y) after.More) (joined (made_of None a) r) ≡ joined (made_of (Some y) a) r
    last (Audio f) after.More r c = refl
    last (Audio f) after.Whole r c = refl
    last (Audio f) after.Broke r c = refl
    last (Video f) after.More r c = refl
    last (Video f) after.Whole r c = refl
    last (Video f) after.Broke r c = refl
    last (Packet f) after.More r c = refl
    last (Packet f) after.Whole r c = refl
    last (Packet f) after.Broke r c = refl
    last (Trailer f) after.More r c = refl
    last (Trailer f) after.Whole r c = refl
    last (Trailer f) after.Broke r c = refl
    last End a r c = cc
    last Broken a r c = cc

-- what a step's definition says is what the code gave
pub stepped_by : {S : Type 0} (step : S → Item → Stepped S) (finish : S → List Item) (s s' : S) (x : Item) (item : Option Item) (a : After) → closes x ≡ false
    → (step s x).made ≡ made_of item a → (step s x).next ≡ s'
    → (t : Flow) → run step finish s (before x t) ≡ joined (made_of item a) (run step finish s' t)
stepped_by step finish s s' x item a c m n t =
    run_next step finish s x t c ∙ (ap (λ (q : Flow). joined q (run step finish (step s x).next t)) m ∙ ap (λ (u : _). joined (made_of item a) (run step finish u t)) n)
