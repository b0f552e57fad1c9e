-- One stream behind another, and streams by the number of their port.
use Rattle.std.specs.Prelude.{◌≡◌, ◌≢◌, ℕ, ◌==◌, Bool, true, false, List, [], ◌∷◌, ◌++◌, refl}
use Rattle.std.proofs.Common.{inl, inr, ap, sym, ◌∙◌, subst, append_assoc}
use Rattle.std.proofs.lemmas.List.{append-nil}
use Rattle.ff_stream.specs.declared.item.Item.{Item}
use Rattle.ff_stream.specs.Stream.{Mark, still_open, whole, broken, Stream, LiesBelow, opened}
use Rattle.ff_stream.specs.Items.{with_item}
use Rattle.ff_stream.specs.Ports.{nothing, IsClosed}
use Rattle.ff_stream.specs.laws.Order.{prefix_self, below_trans, closed_below}

-- a stream of items
abbrev pub Flow : Type 0
Flow = Stream Item

-- streams by the number of their port
abbrev pub Ports : Type 0
Ports = ℕ → Flow

-- nothing comes on any port
abbrev pub silence : Ports
silence p = nothing

-- these items and what comes behind them, unless they are all
abbrev pub joined_at : List Item → Mark → Flow → Flow
joined_at xs still_open t = record { items = xs ++ t.items; mark = t.mark }
joined_at xs whole t = record { items = xs; mark = whole }
joined_at xs broken t = record { items = xs; mark = broken }

-- s, and then t where s is open
abbrev pub joined : Flow → Flow → Flow
joined s t = joined_at s.items s.mark t

-- the stream of one item
abbrev pub one : Item → Flow
one x = with_item nothing x

-- an item, and then a stream
abbrev pub before : Item → Flow → Flow
before x t = joined (one x) t

-- items one by one, and then a stream
abbrev pub before_all : List Item → Flow → Flow
before_all [] t = t
before_all (x ∷ xs) t = before x (before_all xs t)

abbrev pub before_if : Bool → Item → Flow → Flow
before_if true x t = before x t
before_if false x t = t

-- the same at one port
abbrev pub before_at : ℕ → Item → Ports → Ports
before_at p x ss q = before_if (q == p) x (ss q)

abbrev pub all_joined : Ports → Ports → Ports
all_joined ss ts p = joined (ss p) (ts p)

abbrev pub all_opened : Ports → Ports
all_opened ss p = opened (ss p)

-- port by port
abbrev pub EachBelow : Ports → Ports → Type 0
EachBelow rs ss = (p : ℕ) → LiesBelow (rs p) (ss p)

-- streams further on give streams further on
abbrev pub Grows : (Ports → Ports) → Type 0
Grows f = (rs ss : Ports) → EachBelow rs ss → EachBelow (f rs) (f ss)

-- whoever isn't told of the breaks in the inputs gets no less
abbrev pub HidesBreaks : (Ports → Ports) → Type 0
HidesBreaks f = (rs : Ports) → EachBelow (all_opened (f rs)) (f (all_opened rs))

joined_at-assoc : (xs : List Item) (m : Mark) (ys : List Item) (n : Mark) (t : Flow)
    → joined (joined_at xs m (record { items = ys; mark = n })) t ≡ joined_at xs m (joined_at ys n t)
joined_at-assoc xs still_open ys still_open t = ap (λ (zs : List Item). let r : Flow = record { items = zs; mark = t.mark } in r) (append_assoc xs ys t.items)
joined_at-assoc xs still_open ys whole t = refl
joined_at-assoc xs still_open ys broken t = refl
joined_at-assoc xs whole ys n t = refl
joined_at-assoc xs broken ys n t = refl

pub joined_assoc : (r s t : Flow) → joined (joined r s) t ≡ joined r (joined s t)
joined_assoc r s t = joined_at-assoc r.items r.mark s.items s.mark t

joined_at-nothing : (xs : List Item) (m : Mark) → joined_at xs m nothing ≡ record { items = xs; mark = m }
joined_at-nothing xs still_open = ap (λ (zs : List Item). let r : Flow = record { items = zs; mark = still_open } in r) (append-nil xs)
joined_at-nothing xs whole = refl
joined_at-nothing xs broken = refl

pub joined_nothing : (s : Flow) → joined s nothing ≡ s
joined_nothing s = joined_at-nothing s.items s.mark

joined_at-above : (xs : List Item) (m : Mark) (t : Flow) → LiesBelow (record { items = xs; mark = m }) (joined_at xs m t)
joined_at-above xs still_open t = inr (refl, (t.items, refl))
joined_at-above xs whole t = inl refl
joined_at-above xs broken t = inl refl

pub joined_above : (s t : Flow) → LiesBelow s (joined s t)
joined_above s t = joined_at-above s.items s.mark t

rest_at : (xs : List Item) (m : Mark) (s : Flow) → LiesBelow (record { items = xs; mark = m }) s → (t : Flow) × (joined_at xs m t ≡ s)
rest_at xs m s (inl e) = (nothing, joined_at-nothing xs m ∙ e)
rest_at xs still_open s (inr p) = (record { items = p.1.0; mark = s.mark }, ap (λ (zs : List Item). let r : Flow = record { items = zs; mark = s.mark } in r) p.1.1)
rest_at xs whole s (inr p) = (nothing, cc (p.0))
rest_at xs broken s (inr p) = (nothing, cc (p.0))

-- what lies above a stream goes on from it
pub below_rest : (r s : Flow) → LiesBelow r s → (t : Flow) × (joined r t ≡ s)
below_rest r s h = rest_at r.items r.mark s h

joined_at-keeps : (xs : List Item) (m : Mark) (s t : Flow) → LiesBelow s t → LiesBelow (joined_at xs m s) (joined_at xs m t)
joined_at-keeps xs m s t (inl e) = inl (ap (λ (x : Flow). joined_at xs m x) e)
joined_at-keeps xs still_open s t (inr p) = inr (p.0, (p.1.0, append_assoc xs s.items p.1.0 ∙ ap (λ (zs : List Item). xs ++ zs) p.1.1))
joined_at-keeps xs whole s t (inr h) = inl refl
joined_at-keeps xs broken s t (inr h) = inl refl

pub joined_keeps : (r s t : Flow) → LiesBelow s t → LiesBelow (joined r s) (joined r t)
joined_keeps r s t h = joined_at-keeps r.items r.mark s t h

-- a function that goes on from what it has given is monotone
pub grows_by_rest : (f : Ports → Ports) → ((rs ts : Ports) (q : ℕ) → (g : Flow) × (f (all_joined rs ts) q ≡ joined (f rs q) g)) → Grows f
grows_by_rest f rest rs ss h q =
    let ts : Ports = λ p. (below_rest (rs p) (ss p) (h p)).0 in
    let g = rest rs ts q in
    let same : all_joined rs ts ≡ ss = λ i p. (below_rest (rs p) (ss p) (h p)).1 i in
    subst (λ (xs : Ports). LiesBelow (f rs q) (f xs q)) same (subst (λ (x : Flow). LiesBelow (f rs q) x) (sym g.1) (joined_above (f rs q) g.0))

pub grows_after : (f g : Ports → Ports) → Grows f → Grows g → Grows (λ ss. g (f ss))
grows_after f g mf mg rs ss h = mg (f rs) (f ss) (mf rs ss h)

pub hides_after : (f g : Ports → Ports) → HidesBreaks f → HidesBreaks g → Grows g → HidesBreaks (λ ss. g (f ss))
hides_after f g cf cg mg rs p = below_trans (opened (g (f rs) p)) (g (all_opened (f rs)) p) (g (f (all_opened rs)) p) (cg (f rs) p)
    (mg (all_opened (f rs)) (f (all_opened rs)) (cf rs) p)

opened_joined_at : (xs : List Item) (m : Mark) (s t : Flow) → LiesBelow (opened s) t → LiesBelow (opened (joined_at xs m s)) (joined_at xs m t)
opened_joined_at xs still_open s t h = joined_at-keeps xs still_open (opened s) t h
opened_joined_at xs whole s t h = inl refl
opened_joined_at xs broken s t h = inr (refl, prefix_self xs)

pub opened_joined : (e s t : Flow) → LiesBelow (opened s) t → LiesBelow (opened (joined e s)) (joined e t)
opened_joined e s t h = opened_joined_at e.items e.mark s t h

joined_at-closed : (xs : List Item) (m : Mark) (t : Flow) → IsClosed t → IsClosed (joined_at xs m t)
joined_at-closed xs still_open t c = c
joined_at-closed xs whole t c = λ e. cc
joined_at-closed xs broken t c = λ e. cc

pub joined_closed : (s t : Flow) → IsClosed t → IsClosed (joined s t)
joined_closed s t c = joined_at-closed s.items s.mark t c

closed_joined_at : (xs : List Item) (m : Mark) (t : Flow) → m ≢ still_open → IsClosed (joined_at xs m t)
closed_joined_at xs still_open t c = absurd (c refl)
closed_joined_at xs whole t c = c
closed_joined_at xs broken t c = c

pub closed_joined : (s t : Flow) → IsClosed s → IsClosed (joined s t)
closed_joined s t c = closed_joined_at s.items s.mark t c

-- what closed stays closed
pub closed_above : (r s : Flow) → LiesBelow r s → IsClosed r → IsClosed s
closed_above r s h c = let e = closed_below r s h c in λ o. c (ap (λ (x : Flow). x.mark) e ∙ o)

pub before_all-keeps : (xs : List Item) (s t : Flow) → LiesBelow s t → LiesBelow (before_all xs s) (before_all xs t)
before_all-keeps [] s t h = h
before_all-keeps (x ∷ xs) s t h = joined_keeps (one x) (before_all xs s) (before_all xs t) (before_all-keeps xs s t h)

pub before_all-opened : (xs : List Item) (s t : Flow) → LiesBelow (opened s) t → LiesBelow (opened (before_all xs s)) (before_all xs t)
before_all-opened [] s t h = h
before_all-opened (x ∷ xs) s t h = opened_joined (one x) (before_all xs s) (before_all xs t) (before_all-opened xs s t h)

pub before_all-closed : (xs : List Item) (t : Flow) → IsClosed t → IsClosed (before_all xs t)
before_all-closed [] t c = c
before_all-closed (x ∷ xs) t c = joined_closed (one x) (before_all xs t) (before_all-closed xs t c)

pub before_all-last : (xs : List Item) (y : Item) (t : Flow) → before_all (xs ++ y ∷ []) t ≡ before_all xs (before y t)
before_all-last [] y t = refl
before_all-last (x ∷ xs) y t = ap (λ (r : Flow). before x r) (before_all-last xs y t)
