-- One output changes, and the others are as they were.
use Rattle.std.proofs.Common.{◌≡◌, ◌≢◌, ℕ, zero, suc, ◌+◌, ◌<◌, ◌≤◌, List, [], ◌∷◌, ◌++◌, ◌⊎◌, length, slice_index_or, slice_set, Some, true, Bool, refl, ap, sym, ◌∙◌, subst, arith, inl, inr, get_or-set_same, get_or-set_other, false}
use Rattle.std.proofs.lemmas.List.{length-set}
use Rattle.ff_stream.specs.declared.item.Item.{Item}
use Rattle.ff_filter.specs.declared.after.After.{After}
use Rattle.ff_net.proofs.Flows.{same_or_not}
use Rattle.ff_node_codec.specs.declared.ready.Ready.{Ready}
use Rattle.ff_node_codec.specs.laws.Lines.{line_of, line_at, next_at, HasRoom, HaveRoom, closing_items, AreSame}
use Rattle.ff_node_codec.specs.laws.Puts.{IsLast, AreNext}
use Rattle.ff_node_codec.specs.Spreads.{Line}

pub line_is : (rs : List Ready) (q : ℕ) (r : Ready) → q < length rs → r ≡ slice_index_or rs q r → line_at rs q ≡ line_of r
line_is [] q r lt is = absurd (omega arith)
line_is (x ∷ rs) zero r lt is = ap line_of (sym is)
line_is (x ∷ rs) (suc q) r lt is = line_is rs q r (omega arith) is

pub next_is : (rs : List Ready) (q : ℕ) (r : Ready) → q < length rs → r ≡ slice_index_or rs q r → next_at rs q ≡ r.next
next_is [] q r lt is = absurd (omega arith)
next_is (x ∷ rs) zero r lt is = ap (λ (y : Ready). y.next) (sym is)
next_is (x ∷ rs) (suc q) r lt is = next_is rs q r (omega arith) is

pub line_set_same : (rs : List Ready) (q : ℕ) (r : Ready) → q < length rs → line_at (slice_set rs q r) q ≡ line_of r
line_set_same [] q r lt = absurd (omega arith)
line_set_same (x ∷ rs) zero r lt = refl
line_set_same (x ∷ rs) (suc q) r lt = line_set_same rs q r (omega arith)

pub line_set_other : (rs : List Ready) (q k : ℕ) (r : Ready) → k ≢ q → line_at (slice_set rs q r) k ≡ line_at rs k
line_set_other [] q k r n = refl
line_set_other (x ∷ rs) zero zero r n = absurd (n refl)
line_set_other (x ∷ rs) zero (suc k) r n = refl
line_set_other (x ∷ rs) (suc q) zero r n = refl
line_set_other (x ∷ rs) (suc q) (suc k) r n = line_set_other rs q k r (λ e. n (ap suc e))

pub next_set_same : (rs : List Ready) (q : ℕ) (r : Ready) → q < length rs → next_at (slice_set rs q r) q ≡ r.next
next_set_same [] q r lt = absurd (omega arith)
next_set_same (x ∷ rs) zero r lt = refl
next_set_same (x ∷ rs) (suc q) r lt = next_set_same rs q r (omega arith)

pub next_set_other : (rs : List Ready) (q k : ℕ) (r : Ready) → k ≢ q → next_at (slice_set rs q r) k ≡ next_at rs k
next_set_other [] q k r n = refl
next_set_other (x ∷ rs) zero zero r n = absurd (n refl)
next_set_other (x ∷ rs) zero (suc k) r n = refl
next_set_other (x ∷ rs) (suc q) zero r n = refl
next_set_other (x ∷ rs) (suc q) (suc k) r n = next_set_other rs q k r (λ e. n (ap suc e))

pub same_self : (rs : List Ready) → AreSame rs rs
same_self rs = record { count = refl; lines = λ q. refl }

pub same_then : (rs ss ts : List Ready) → AreSame rs ss → AreSame ss ts → AreSame rs ts
same_then rs ss ts a b = record { count = b.count ∙ a.count; lines = λ q. b.lines q ∙ a.lines q }

pub set_count : (rs : List Ready) (q : ℕ) (r : Ready) → length (slice_set rs q r) ≡ length rs
set_count rs q r = simp length-set

-- an output that is as it was
pub same_set : (rs : List Ready) (q : ℕ) (old new : Ready) → q < length rs → old ≡ slice_index_or rs q old → line_of new ≡ line_of old
    → AreSame rs (slice_set rs q new)
same_set rs q old new lt is e = record {
  count = set_count rs q new;
  lines = λ k. elim (same_or_not k q) as (λ _. line_at (slice_set rs q new) k ≡ line_at rs k) [
    | inl s ↦ subst (λ (j : ℕ). line_at (slice_set rs q new) j ≡ line_at rs j) (sym s) (line_set_same rs q new lt ∙ (e ∙ sym (line_is rs q old lt is)))
    | inr n ↦ line_set_other rs q k new n
  ];
}

-- where each has room
pub room_set : (rs : List Ready) (q : ℕ) (new : Ready) → q < length rs → HaveRoom rs → HasRoom new → HaveRoom (slice_set rs q new)
room_set rs q new lt h r k d less = elim (same_or_not k q) as (λ _. HasRoom (slice_index_or (slice_set rs q new) k d)) [
  | inl s ↦ subst (λ (j : ℕ). HasRoom (slice_index_or (slice_set rs q new) j d)) (sym s) (rw (get_or-set_same rs q new d lt) r)
  | inr n ↦ rw (get_or-set_other rs q k new d n) (h k d (subst (λ (m : ℕ). k < m) (set_count rs q new) less))
]

pub room_is : (rs : List Ready) (q : ℕ) (r : Ready) → q < length rs → r ≡ slice_index_or rs q r → HaveRoom rs → HasRoom r
room_is rs q r lt is h = subst (λ (x : Ready). HasRoom x) (sym is) (h q r lt)

-- one output more
pub line_front : (rs : List Ready) (r : Ready) (k : ℕ) → k < length rs → line_at (rs ++ r ∷ []) k ≡ line_at rs k
line_front [] r k lt = absurd (omega arith)
line_front (x ∷ rs) r zero lt = refl
line_front (x ∷ rs) r (suc k) lt = line_front rs r k (omega arith)

pub line_last : (rs : List Ready) (r : Ready) (k : ℕ) → k ≡ length rs → line_at (rs ++ r ∷ []) k ≡ line_of r
line_last [] r zero e = refl
line_last [] r (suc k) e = absurd (omega arith)
line_last (x ∷ rs) r zero e = absurd (omega arith)
line_last (x ∷ rs) r (suc k) e = line_last rs r k (omega arith)

pub lower_or_same : (k q : ℕ) → k < q + 1 → (k < q) ⊎ (k ≡ q)
lower_or_same k q lt = elim (same_or_not k q) as (λ _. (k < q) ⊎ (k ≡ q)) [ inl e ↦ inr e | inr n ↦ inl (omega (arith, lt, n)) ]

-- each below it has room, and it has
pub room_more : (rs : List Ready) (q : ℕ) (new : Ready) → q < length rs
    → ((k : ℕ) (d : Ready) → k < q → k < length rs → HasRoom (slice_index_or rs k d)) → HasRoom new
    → (k : ℕ) (d : Ready) → k < q + 1 → k < length (slice_set rs q new) → HasRoom (slice_index_or (slice_set rs q new) k d)
room_more rs q new lt h r k d low less = elim (lower_or_same k q low) as (λ _. HasRoom (slice_index_or (slice_set rs q new) k d)) [
  | inl l ↦ (let n : k ≢ q = omega (arith, l) in rw (get_or-set_other rs q k new d n) (h k d l (subst (λ (m : ℕ). k < m) (set_count rs q new) less)))
  | inr s ↦ subst (λ (j : ℕ). HasRoom (slice_index_or (slice_set rs q new) j d)) (sym s) (rw (get_or-set_same rs q new d lt) r)
]

-- each above it has room
pub room_rest : (rs : List Ready) (q : ℕ) (new : Ready) → ((k : ℕ) (d : Ready) → q ≤ k → k < length rs → HasRoom (slice_index_or rs k d))
    → (k : ℕ) (d : Ready) → q + 1 ≤ k → k < length (slice_set rs q new) → HasRoom (slice_index_or (slice_set rs q new) k d)
room_rest rs q new h k d le less =
    let n : k ≢ q = omega (arith, le) in
    rw (get_or-set_other rs q k new d n) (h k d (omega (arith, le)) (subst (λ (m : ℕ). k < m) (set_count rs q new) less))

not_both : (b : Bool) → b ≡ true → b ≡ false → ⊥
not_both b t e = let clash : true ≡ false = sym t ∙ e in cc

-- it is to be put next there as well
pub next_more : (made : Item) (rs : List Ready) (q : ℕ) (old new : Ready) → q < length rs → old ≡ slice_index_or rs q old
    → line_of new ≡ line_of old → AreNext made q rs → (old.stopped ≡ false → new.next ≡ Some made)
    → AreNext made (q + 1) (slice_set rs q new)
next_more made rs q old new lt is e h n k low on = elim (lower_or_same k q low) as (λ _. next_at (slice_set rs q new) k ≡ Some made) [
  | inl l ↦ (let other : k ≢ q = omega (arith, l) in next_set_other rs q k new other ∙ h k l (sym (ap (λ (x : Line). x.stopped) (line_set_other rs q k new other)) ∙ on))
  | inr s ↦ subst (λ (j : ℕ). next_at (slice_set rs q new) j ≡ Some made) (sym s)
      (next_set_same rs q new lt ∙ n (sym (ap (λ (x : Line). x.stopped) (line_set_same rs q new lt ∙ e)) ∙ (sym (ap (λ (j : ℕ). (line_at (slice_set rs q new) j).stopped) s) ∙ on)))
]

-- below the last that is wanted and there, so everywhere
pub next_all : (made : Item) (outs rs : List Ready) (q : ℕ) (old new : Ready) → IsLast outs q → AreSame outs rs → old ≡ slice_index_or rs q old
    → line_of new ≡ line_of old → AreNext made q rs → new.next ≡ Some made
    → AreNext made (length outs) (slice_set rs q new)
next_all made outs rs q old new last same is e h n k less on = elim (same_or_not k q) as (λ _. next_at (slice_set rs q new) k ≡ Some made) [
  | inl s ↦ subst (λ (j : ℕ). next_at (slice_set rs q new) j ≡ Some made) (sym s) (next_set_same rs q new lt ∙ n)
  | inr other ↦ (
      let goes : (line_at rs k).stopped ≡ false = sym (ap (λ (x : Line). x.stopped) (line_set_other rs q k new other)) ∙ on in
      let wanted : (line_at outs k).stopped ≡ false = sym (ap (λ (x : Line). x.stopped) (same.lines k)) ∙ goes in
      next_set_other rs q k new other ∙ elim (lower_or_above k q other) as (λ _. next_at rs k ≡ Some made) [
        | inl l ↦ h k l goes
        | inr g ↦ absurd (not_both (line_at outs k).stopped (last.no_later k g less) wanted)
      ]
      )
]
  where
    lt : q < length rs
    lt = subst (λ (m : ℕ). q < m) (sym same.count) last.there

    lower_or_above : (a b : ℕ) → a ≢ b → (a < b) ⊎ (b < a)
    lower_or_above zero zero m = absurd (m refl)
    lower_or_above zero (suc b) m = inl (omega arith)
    lower_or_above (suc a) zero m = inr (omega arith)
    lower_or_above (suc a) (suc b) m =
        elim (lower_or_above a b (λ s. m (ap suc s))) as (λ _. (suc a < suc b) ⊎ (suc b < suc a)) [ inl l ↦ inl (omega arith) | inr g ↦ inr (omega arith) ]

-- the item that was to be put next was put
pub put_queue : (made : Item) (after : After) (first rs : List Ready) (q : ℕ) (old new : Ready) → q < length rs → old ≡ slice_index_or rs q old
    → line_at rs q ≡ line_at first q → next_at rs q ≡ next_at first q → next_at first q ≡ Some made → (line_at first q).stopped ≡ false
    → ((x : Item) → old.next ≡ Some x → old.stopped ≡ false → new.queue.items ≡ old.queue.items ++ x ∷ closing_items after)
    → (line_at (slice_set rs q new) q).queue ≡ (line_at first q).queue ++ made ∷ closing_items after
put_queue made after first rs q old new lt is line next some on puts =
    let old_line : line_of old ≡ line_at first q = sym (line_is rs q old lt is) ∙ line in
    let old_next : old.next ≡ Some made = sym (next_is rs q old lt is) ∙ (next ∙ some) in
    let goes : old.stopped ≡ false = ap (λ (x : Line). x.stopped) old_line ∙ on in
    ap (λ (x : Line). x.queue) (line_set_same rs q new lt) ∙ (puts made old_next goes ∙ ap (λ (x : Line). x.queue ++ made ∷ closing_items after) old_line)

pub put_stopped : (first rs : List Ready) (q k : ℕ) (old new : Ready) → q < length rs → old ≡ slice_index_or rs q old → new.stopped ≡ old.stopped
    → (line_at rs k).stopped ≡ (line_at first k).stopped → (line_at (slice_set rs q new) k).stopped ≡ (line_at first k).stopped
put_stopped first rs q k old new lt is same was =
    elim (same_or_not k q) as (λ _. (line_at (slice_set rs q new) k).stopped ≡ (line_at first k).stopped) [
      | inl s ↦ (
          let here : (line_at (slice_set rs q new) q).stopped ≡ (line_at rs q).stopped =
          ap (λ (x : Line). x.stopped) (line_set_same rs q new lt) ∙ (same ∙ sym (ap (λ (x : Line). x.stopped) (line_is rs q old lt is))) in
          subst (λ (j : ℕ). (line_at (slice_set rs q new) j).stopped ≡ (line_at rs j).stopped) (sym s) here ∙ was
          )
      | inr n ↦ ap (λ (x : Line). x.stopped) (line_set_other rs q k new n) ∙ was
    ]

-- of the outputs below q the last that is wanted is this one, or none is
abbrev pub NoneBelow : List Ready → ℕ → Type 0
NoneBelow rs q = (k : ℕ) → k < q → (line_at rs k).stopped ≡ true

abbrev pub LastBelow : List Ready → ℕ → ℕ → Type 0
LastBelow rs q k = (k < q) × ((line_at rs k).stopped ≡ false) × ((j : ℕ) → k < j → j < q → (line_at rs j).stopped ≡ true)

pub none_more : (rs : List Ready) (q : ℕ) → (line_at rs q).stopped ≡ true → NoneBelow rs q → NoneBelow rs (q + 1)
none_more rs q t h k low =
    elim (lower_or_same k q low) as (λ _. (line_at rs k).stopped ≡ true) [ inl l ↦ h k l | inr s ↦ ap (λ (j : ℕ). (line_at rs j).stopped) s ∙ t ]

pub last_more : (rs : List Ready) (q k : ℕ) → (line_at rs q).stopped ≡ true → LastBelow rs q k → LastBelow rs (q + 1) k
last_more rs q k t h = (
  let lt : k < q = h.0 in omega (arith, lt),
  h.1,
  λ j g low. elim (lower_or_same j q low) as (λ _. (line_at rs j).stopped ≡ true) [ inl l ↦ h.2 j g l | inr s ↦ ap (λ (i : ℕ). (line_at rs i).stopped) s ∙ t ],
)

pub last_here : (rs : List Ready) (q : ℕ) → (line_at rs q).stopped ≡ false → LastBelow rs (q + 1) q
last_here rs q f = (omega arith, f, λ j g low. absurd (omega (arith, g, low)))
