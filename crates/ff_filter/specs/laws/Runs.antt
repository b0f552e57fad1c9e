-- Functions of one stream that go through it item by item.
use Rattle.std.specs.Prelude.{◌≡◌, ◌≢◌, List, [], ◌∷◌, refl}
use Rattle.std.proofs.Common.{inl, ap, sym, ◌∙◌}
use Rattle.ff_stream.specs.declared.item.Item.{Item}
use Rattle.ff_stream.specs.Stream.{Mark, still_open, whole, broken, LiesBelow, opened, opened_mark}
use Rattle.ff_stream.specs.Ports.{nothing, IsClosed}
use Rattle.ff_stream.specs.laws.Order.{below_self}
use Rattle.ff_filter.specs.Joins.{Flow, Ports, joined, joined_at, joined_assoc, joined_closed, opened_joined, Grows, grows_by_rest}

-- what is given for an item, and how it goes on; `made` is closed where the item was the last to matter
pub record Stepped (S : Type 0) : Type 0 where
  pub made : Flow
  pub next : S

-- the items one by one, and at a whole end what `finish` gives
abbrev pub run_at : {S : Type 0} → (S → Item → Stepped S) → (S → List Item) → S → List Item → Mark → Flow
run_at step finish s [] still_open = nothing
run_at step finish s [] whole = record { items = finish s; mark = whole }
run_at step finish s [] broken = record { items = []; mark = broken }
run_at step finish s (x ∷ xs) m = joined (step s x).made (run_at step finish (step s x).next xs m)

abbrev pub run : {S : Type 0} → (S → Item → Stepped S) → (S → List Item) → S → Flow → Flow
run step finish s r = run_at step finish s r.items r.mark

-- nothing comes at the end
abbrev pub no_more : {S : Type 0} → S → List Item
no_more s = []

-- what it gives from then on, where the stream goes on as t
abbrev pub rest_of : {S : Type 0} → (S → Item → Stepped S) → (S → List Item) → S → List Item → Mark → Flow → Flow
rest_of step finish s [] still_open t = run step finish s t
rest_of step finish s [] whole t = nothing
rest_of step finish s [] broken t = nothing
rest_of step finish s (x ∷ xs) m t = rest_of step finish (step s x).next xs m t

pub run_on : {S : Type 0} (step : S → Item → Stepped S) (finish : S → List Item) (s : S) (xs : List Item) (m : Mark) (t : Flow)
    → run step finish s (joined_at xs m t) ≡ joined (run_at step finish s xs m) (rest_of step finish s xs m t)
run_on step finish s [] still_open t = refl
run_on step finish s [] whole t = refl
run_on step finish s [] broken t = refl
run_on step finish s (x ∷ xs) still_open t =
    ap (λ (r : Flow). joined (step s x).made r) (run_on step finish (step s x).next xs still_open t)
    ∙ sym (joined_assoc (step s x).made (run_at step finish (step s x).next xs still_open) (rest_of step finish (step s x).next xs still_open t))
run_on step finish s (x ∷ xs) whole t =
    ap (λ (r : Flow). joined (step s x).made r) (run_on step finish (step s x).next xs whole t)
    ∙ sym (joined_assoc (step s x).made (run_at step finish (step s x).next xs whole) (rest_of step finish (step s x).next xs whole t))
run_on step finish s (x ∷ xs) broken t =
    ap (λ (r : Flow). joined (step s x).made r) (run_on step finish (step s x).next xs broken t)
    ∙ sym (joined_assoc (step s x).made (run_at step finish (step s x).next xs broken) (rest_of step finish (step s x).next xs broken t))

-- the same as a function of ports, with one input and one output
abbrev pub run_ports : {S : Type 0} → (S → Item → Stepped S) → (S → List Item) → S → Ports → Ports
run_ports step finish s ss q = run step finish s (ss 0)

pub run-grows : {S : Type 0} (step : S → Item → Stepped S) (finish : S → List Item) (s : S) → Grows (run_ports step finish s)
run-grows step finish s = grows_by_rest (run_ports step finish s)
    (λ rs ts q. (rest_of step finish s (rs 0).items (rs 0).mark (ts 0), run_on step finish s (rs 0).items (rs 0).mark (ts 0)))

pub run_below : {S : Type 0} (step : S → Item → Stepped S) (finish : S → List Item) (s : S) (q r : Flow) → LiesBelow q r
    → LiesBelow (run step finish s q) (run step finish s r)
run_below step finish s q r h = run-grows step finish s (λ p. q) (λ p. r) (λ p. h) 0

calm_at : {S : Type 0} (step : S → Item → Stepped S) (finish : S → List Item) (s : S) (xs : List Item) (m : Mark)
    → LiesBelow (opened (run_at step finish s xs m)) (run_at step finish s xs (opened_mark m))
calm_at step finish s [] still_open = below_self nothing
calm_at step finish s [] whole = inl refl
calm_at step finish s [] broken = below_self nothing
calm_at step finish s (x ∷ xs) m =
    opened_joined (step s x).made (run_at step finish (step s x).next xs m) (run_at step finish (step s x).next xs (opened_mark m))
    (calm_at step finish (step s x).next xs m)

pub run_calm : {S : Type 0} (step : S → Item → Stepped S) (finish : S → List Item) (s : S) (r : Flow)
    → LiesBelow (opened (run step finish s r)) (run step finish s (opened r))
run_calm step finish s r = calm_at step finish s r.items r.mark

closed_at : {S : Type 0} (step : S → Item → Stepped S) (finish : S → List Item) (s : S) (xs : List Item) (m : Mark) → m ≢ still_open
    → IsClosed (run_at step finish s xs m)
closed_at step finish s [] still_open c = absurd (c refl)
closed_at step finish s [] whole c = c
closed_at step finish s [] broken c = c
closed_at step finish s (x ∷ xs) m c = joined_closed (step s x).made (run_at step finish (step s x).next xs m) (closed_at step finish (step s x).next xs m c)

-- where the input closes, so does the output
pub run_settles : {S : Type 0} (step : S → Item → Stepped S) (finish : S → List Item) (s : S) (r : Flow) → IsClosed r → IsClosed (run step finish s r)
run_settles step finish s r c = closed_at step finish s r.items r.mark c
