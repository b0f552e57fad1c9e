-- The order of streams.
use Rattle.std.specs.Prelude.{◌≡◌, ◌≢◌, ℕ, zero, suc, List, [], ◌∷◌, ◌++◌, map, refl}
use Rattle.std.proofs.Common.{inl, inr, ap, sym, ◌∙◌, subst, append_assoc}
use Rattle.std.proofs.lemmas.List.{append-nil}
use mathlib.Core.List.{IsPrefix}
use Rattle.ff_stream.specs.declared.item.Item.{Item}
use Rattle.ff_stream.specs.declared.item.Item.TheVariants.{Audio, Video, Packet, Trailer, End, Broken}
use Rattle.ff_stream.specs.Stream.{Mark, still_open, whole, broken, Stream, LiesBelow, opened, opened_mark}
use Rattle.ff_stream.specs.Items.{Closes, with_item, Leads}
use Rattle.ff_stream.specs.Ports.{nothing, stream_at, AllBelow, IsClosed, IsUnbroken, IsWhole}

pub prefix_self : {A : Type 0} (xs : List A) → IsPrefix xs xs
prefix_self [] = ([], refl)
prefix_self (x ∷ xs) = ([], append-nil (x ∷ xs))

pub prefix_trans : {A : Type 0} (xs ys zs : List A) → IsPrefix xs ys → IsPrefix ys zs → IsPrefix xs zs
prefix_trans xs ys zs p q = (p.0 ++ q.0, sym (append_assoc xs p.0 q.0) ∙ (ap (λ w. w ++ q.0) p.1 ∙ q.1))

-- two lists that are prefixes of each other are one
pub prefix_both : {A : Type 0} (xs ys : List A) → IsPrefix xs ys → IsPrefix ys xs → xs ≡ ys
prefix_both [] [] p q = refl
prefix_both [] (y ∷ ys) p q = let e : y ∷ (ys ++ q.0) ≡ [] = q.1 in cc
prefix_both (x ∷ xs) [] p q = let e : x ∷ (xs ++ p.0) ≡ [] = p.1 in cc
prefix_both (x ∷ xs) (y ∷ ys) p q =
    let e : x ∷ (xs ++ p.0) ≡ y ∷ ys = p.1 in
    let f : y ∷ (ys ++ q.0) ≡ x ∷ xs = q.1 in
    let rest : xs ≡ ys = prefix_both xs ys (p.0, cc (e)) (q.0, cc (f)) in
    let first : x ≡ y = cc (e) in
    cc (rest, first)

-- a stream is its items and its mark
pub same_stream : {A : Type 0} (r s : Stream A) → r.items ≡ s.items → r.mark ≡ s.mark → r ≡ s
same_stream {A} r s items mark =
    let with_items : List A → Stream A = λ xs. record { items = xs; mark = r.mark } in
    let with_mark : Mark → Stream A = λ m. record { items = s.items; mark = m } in
    ap with_items items ∙ ap with_mark mark

pub below_self : {A : Type 0} (s : Stream A) → LiesBelow s s
below_self s = inl refl

pub below_trans : {A : Type 0} (r s t : Stream A) → LiesBelow r s → LiesBelow s t → LiesBelow r t
below_trans r s t (inl e) q = subst (λ x. LiesBelow x t) (sym e) q
below_trans r s t (inr p) (inl e) = inr (p.0, subst (λ x. IsPrefix r.items x.items) e p.1)
below_trans r s t (inr p) (inr q) = inr (p.0, prefix_trans r.items s.items t.items p.1 q.1)

-- two streams that lie below each other are one
pub below_both : {A : Type 0} (r s : Stream A) → LiesBelow r s → LiesBelow s r → r ≡ s
below_both r s (inl e) q = e
below_both r s (inr p) (inl e) = sym e
below_both r s (inr p) (inr q) =
    same_stream r s (prefix_both r.items s.items p.1 q.1) (p.0 ∙ sym q.0)

-- nothing but itself lies above a closed stream
pub closed_below : {A : Type 0} (r s : Stream A) → LiesBelow r s → IsClosed r → r ≡ s
closed_below r s (inl e) c = e
closed_below r s (inr p) c = absurd (c p.0)

pub nothing_below : {A : Type 0} (s : Stream A) → LiesBelow nothing s
nothing_below s = inr (refl, (s.items, refl))

opened_mark_twice : (m : Mark) → opened_mark (opened_mark m) ≡ opened_mark m
opened_mark_twice still_open = refl
opened_mark_twice whole = refl
opened_mark_twice broken = refl

pub opened_twice : {A : Type 0} (s : Stream A) → opened (opened s) ≡ opened s
opened_twice {A} s = ap (λ (m : Mark). let r : Stream A = record { items = s.items; mark = m } in r) (opened_mark_twice s.mark)

opened_at : {A : Type 0} (xs : List A) (m : Mark) → LiesBelow (record { items = xs; mark = opened_mark m }) (record { items = xs; mark = m })
opened_at xs still_open = inl refl
opened_at xs whole = inl refl
opened_at xs broken = inr (refl, prefix_self xs)

pub opened_below : {A : Type 0} (s : Stream A) → LiesBelow (opened s) s
opened_below s = opened_at s.items s.mark

pub opened_keeps : {A : Type 0} (r s : Stream A) → LiesBelow r s → LiesBelow (opened r) (opened s)
opened_keeps r s (inl e) = inl (ap opened e)
opened_keeps r s (inr p) = inr (ap opened_mark p.0, p.1)

-- what lies below an unbroken stream is unbroken
pub unbroken_below : {A : Type 0} (r s : Stream A) → LiesBelow r s → IsUnbroken s → IsUnbroken r
unbroken_below r s (inl e) u b = u (sym (ap (λ x. x.mark) e) ∙ b)
unbroken_below r s (inr p) u b = cc

whole_at : (m : Mark) → m ≢ still_open → m ≢ broken → m ≡ whole
whole_at still_open c u = absurd (c refl)
whole_at whole c u = refl
whole_at broken c u = absurd (u refl)

pub whole_if_closed : {A : Type 0} (s : Stream A) → IsClosed s → IsUnbroken s → IsWhole s
whole_if_closed s c u = whole_at s.mark c u

-- the items of what lies below are the first ones
pub below_items : {A : Type 0} (r s : Stream A) → LiesBelow r s → IsPrefix r.items s.items
below_items r s (inl e) = subst (λ x. IsPrefix r.items x.items) e (prefix_self r.items)
below_items r s (inr p) = p.1

pub all_self : {A : Type 0} (ss : List (Stream A)) → AllBelow ss ss
all_self ss p = below_self (stream_at ss p)

pub all_trans : {A : Type 0} (rs ss ts : List (Stream A)) → AllBelow rs ss → AllBelow ss ts → AllBelow rs ts
all_trans rs ss ts p q k = below_trans (stream_at rs k) (stream_at ss k) (stream_at ts k) (p k) (q k)

pub stream_at-opened : {A : Type 0} (ss : List (Stream A)) (p : ℕ) → stream_at (map opened ss) p ≡ opened (stream_at ss p)
stream_at-opened [] p = refl
stream_at-opened (s ∷ ss) zero = refl
stream_at-opened (s ∷ ss) (suc p) = stream_at-opened ss p

pub all_opened_keeps : {A : Type 0} (rs ss : List (Stream A)) → AllBelow rs ss → AllBelow (map opened rs) (map opened ss)
all_opened_keeps rs ss h p = rw (stream_at-opened rs p, stream_at-opened ss p) (opened_keeps (stream_at rs p) (stream_at ss p) (h p))

pub all_opened_twice : {A : Type 0} (ss : List (Stream A)) → map opened (map opened ss) ≡ map opened ss
all_opened_twice [] = refl
all_opened_twice (s ∷ ss) = cc (opened_twice s, all_opened_twice ss)

pub with_item_above : (s : Stream Item) (x : Item) → s.mark ≡ still_open → LiesBelow s (with_item s x)
with_item_above s (Audio f) o = inr (o, (Audio f ∷ [], refl))
with_item_above s (Video f) o = inr (o, (Video f ∷ [], refl))
with_item_above s (Packet p) o = inr (o, (Packet p ∷ [], refl))
with_item_above s (Trailer t) o = inr (o, (Trailer t ∷ [], refl))
with_item_above s End o = inr (o, prefix_self s.items)
with_item_above s Broken o = inr (o, prefix_self s.items)

pub with_item_open : (s : Stream Item) (x : Item) → (Closes x → ⊥) → s.mark ≡ still_open → (with_item s x).mark ≡ still_open
with_item_open s (Audio f) goes_on o = o
with_item_open s (Video f) goes_on o = o
with_item_open s (Packet p) goes_on o = o
with_item_open s (Trailer t) goes_on o = o
with_item_open s End goes_on o = absurd (goes_on tt)
with_item_open s Broken goes_on o = absurd (goes_on tt)

pub with_item_closed : (s : Stream Item) (x : Item) → Closes x → IsClosed (with_item s x)
with_item_closed s (Audio f) c = absurd c
with_item_closed s (Video f) c = absurd c
with_item_closed s (Packet p) c = absurd c
with_item_closed s (Trailer t) c = absurd c
with_item_closed s End c = λ e. cc
with_item_closed s Broken c = λ e. cc

-- what items lead to lies above
pub leads_below : (xs : List Item) (s t : Stream Item) → Leads s xs t → LiesBelow s t
leads_below [] s t e = inl e
leads_below (x ∷ xs) s t h = below_trans s (with_item s x) t (with_item_above s x h.0) (leads_below xs (with_item s x) t h.1)

-- one item more at the end
pub leads_push : (xs : List Item) (s t : Stream Item) (x : Item) → Leads s xs t → t.mark ≡ still_open → Leads s (xs ++ x ∷ []) (with_item t x)
leads_push [] s t x e o = (ap (λ (r : Stream Item). r.mark) e ∙ o, ap (λ (r : Stream Item). with_item r x) e)
leads_push (y ∷ xs) s t x h o = (h.0, leads_push xs (with_item s y) t x h.1 o)
