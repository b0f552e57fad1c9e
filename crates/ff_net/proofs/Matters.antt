-- Inputs of which nothing more matters.
use Rattle.std.proofs.Common.{◌≡◌, ◌≢◌, ℕ, zero, suc, ◌<◌, ◌≤◌, ◌⊎◌, inl, inr, List, [], ◌∷◌, length, refl, ap, sym, ◌∙◌, subst, arith}
use Rattle.ff_stream.specs.declared.item.Item.{Item}
use Rattle.ff_stream.specs.declared.item.Lane.{Lane}
use Rattle.ff_stream.specs.Stream.{Mark, still_open, whole, broken, LiesBelow}
use Rattle.ff_stream.specs.Ports.{nothing, stream_at, AllBelow, IsClosed, IsMonotone}
use Rattle.ff_stream.specs.laws.Order.{all_trans, prefix_self, below_both, below_self, closed_below}
use Rattle.ff_net.specs.Ways.{Flow, lane_at, IsValidOn, AreValid}
use Rattle.ff_net.specs.Pasts.{Task, Past, IsIn}
use Rattle.ff_net.specs.laws.Laws.{OutputsClose, NoMatter, MaySpend, Settles}
use Rattle.ff_net.proofs.Flows.{broken_valid_on, same_or_not}

-- where each output that wasn't stopped is closed, nothing more of any input matters
pub close_no_matter : (ins : List Lane) (past : Past) (n p : ℕ) → AreValid ins past.got → IsMonotone (AreValid ins) past.task.means → OutputsClose n past → NoMatter ins n past p
close_no_matter ins past n p v mono c ss ts vs vt bs bt same q lt on =
    let closed : IsClosed (stream_at (past.task.means past.got) q) = c q lt on in
    sym (closed_below (stream_at (past.task.means past.got) q) (stream_at (past.task.means ss) q) (mono past.got ss v vs bs q) closed)
    ∙ closed_below (stream_at (past.task.means past.got) q) (stream_at (past.task.means ts) q) (mono past.got ts v vt bt q) closed

-- an input may be spent where it has closed, or there are outputs and each that wasn't stopped is closed
pub may_spend : (ins : List Lane) (past : Past) (n p : ℕ) → AreValid ins past.got → IsMonotone (AreValid ins) past.task.means → IsClosed (stream_at past.got p) ⊎ ((0 < n) × OutputsClose n past) → MaySpend ins n past p
may_spend ins past n p v mono (inl c) = inl c
may_spend ins past n p v mono (inr o) = inr (o.0, close_no_matter ins past n p v mono o.1)

-- it lasts while more is fed and stopped
pub no_matter_lasts : (ins : List Lane) (past since : Past) (n p : ℕ) → since.task ≡ past.task → AllBelow past.got since.got → ((q : ℕ) → IsIn q past.stopped → IsIn q since.stopped) → NoMatter ins n past p → NoMatter ins n since p
no_matter_lasts ins past since n p task b stops h ss ts vs vt bs bt same q lt on =
    subst (λ (t : Task). stream_at (t.means ss) q ≡ stream_at (t.means ts) q) (sym task)
    (h ss ts vs vt (all_trans past.got since.got ss b bs) (all_trans past.got since.got ts b bt) same q lt (λ i. on (stops q i)))

abbrev ended_at : List Item → Mark → Flow
ended_at xs still_open = record { items = xs; mark = whole }
ended_at xs whole = record { items = xs; mark = whole }
ended_at xs broken = record { items = xs; mark = broken }

-- the stream, with its end where it is open
abbrev ended : Flow → Flow
ended s = ended_at s.items s.mark

ended_above : (xs : List Item) (m : Mark) → LiesBelow (record { items = xs; mark = m }) (ended_at xs m)
ended_above xs still_open = inr (refl, prefix_self xs)
ended_above xs whole = inl refl
ended_above xs broken = inl refl

ended_items : (xs : List Item) (m : Mark) → (ended_at xs m).items ≡ xs
ended_items xs still_open = refl
ended_items xs whole = refl
ended_items xs broken = refl

ended_closed : (xs : List Item) (m : Mark) → IsClosed (ended_at xs m)
ended_closed xs still_open = λ e. cc
ended_closed xs whole = λ e. cc
ended_closed xs broken = λ e. cc

ended_same : (xs : List Item) (m : Mark) → m ≢ still_open → ended_at xs m ≡ record { items = xs; mark = m }
ended_same xs still_open c = absurd (c refl)
ended_same xs whole c = refl
ended_same xs broken c = refl

-- the first k streams, ended where they are open
abbrev ended_first : ℕ → List Flow → List Flow
ended_first zero ss = ss
ended_first (suc k) [] = ended nothing ∷ ended_first k []
ended_first (suc k) (s ∷ ss) = ended s ∷ ended_first k ss

first_above : (k : ℕ) (ss : List Flow) → AllBelow ss (ended_first k ss)
first_above zero ss p = below_self (stream_at ss p)
first_above (suc k) [] zero = ended_above [] still_open
first_above (suc k) [] (suc p) = first_above k [] p
first_above (suc k) (s ∷ ss) zero = ended_above s.items s.mark
first_above (suc k) (s ∷ ss) (suc p) = first_above k ss p

first_items : (k : ℕ) (ss : List Flow) (p : ℕ) → (stream_at (ended_first k ss) p).items ≡ (stream_at ss p).items
first_items zero ss p = refl
first_items (suc k) [] zero = refl
first_items (suc k) [] (suc p) = first_items k [] p
first_items (suc k) (s ∷ ss) zero = ended_items s.items s.mark
first_items (suc k) (s ∷ ss) (suc p) = first_items k ss p

first_later : (k : ℕ) (ss : List Flow) (p : ℕ) → k ≤ p → stream_at (ended_first k ss) p ≡ stream_at ss p
first_later zero ss p le = refl
first_later (suc k) [] zero le = absurd (omega arith)
first_later (suc k) [] (suc p) le = first_later k [] p (omega arith)
first_later (suc k) (s ∷ ss) zero le = absurd (omega arith)
first_later (suc k) (s ∷ ss) (suc p) le = first_later k ss p (omega arith)

first_next : (k : ℕ) (ss : List Flow) → stream_at (ended_first (suc k) ss) k ≡ ended (stream_at ss k)
first_next zero [] = refl
first_next zero (s ∷ ss) = refl
first_next (suc k) [] = first_next k []
first_next (suc k) (s ∷ ss) = first_next k ss

first_other : (k : ℕ) (ss : List Flow) (i : ℕ) → i ≢ k → stream_at (ended_first k ss) i ≡ stream_at (ended_first (suc k) ss) i
first_other zero [] zero n = absurd (n refl)
first_other zero [] (suc i) n = refl
first_other zero (s ∷ ss) zero n = absurd (n refl)
first_other zero (s ∷ ss) (suc i) n = refl
first_other (suc k) [] zero n = refl
first_other (suc k) [] (suc i) n = first_other k [] i (λ e. n (ap suc e))
first_other (suc k) (s ∷ ss) zero n = refl
first_other (suc k) (s ∷ ss) (suc i) n = first_other k ss i (λ e. n (ap suc e))

first_closed : (k : ℕ) (ss : List Flow) (p : ℕ) → p < k → IsClosed (stream_at (ended_first k ss) p)
first_closed zero ss p lt = absurd (omega arith)
first_closed (suc k) [] zero lt = λ e. cc
first_closed (suc k) [] (suc p) lt = first_closed k [] p (omega arith)
first_closed (suc k) (s ∷ ss) zero lt = ended_closed s.items s.mark
first_closed (suc k) (s ∷ ss) (suc p) lt = first_closed k ss p (omega arith)

below_or : (p n : ℕ) → (p < n) ⊎ (n ≤ p)
below_or p zero = inr (omega arith)
below_or zero (suc n) = inl (omega arith)
below_or (suc p) (suc n) = elim (below_or p n) [ inl a ↦ inl (omega (arith, a)) | inr b ↦ inr (omega (arith, b)) ]

module _ (ins : List Lane) (past : Past) (n : ℕ) (valid : AreValid ins past.got) (mono : IsMonotone (AreValid ins) past.task.means) where
  first_valid : (k : ℕ) → k ≤ length ins → AreValid ins (ended_first k past.got)
  first_valid k le p = elim (below_or p (length ins)) as (λ _. IsValidOn (lane_at ins p) (stream_at (ended_first k past.got) p)) [
    | inl lt ↦ broken_valid_on ins p (stream_at past.got p) (stream_at (ended_first k past.got) p) lt (first_items k past.got p) (valid p)
    | inr ge ↦ subst (λ (s : Flow). IsValidOn (lane_at ins p) s) (sym (first_later k past.got p (omega (arith, le, ge)))) (valid p)
  ]

  -- streams that are the same at each port mean the same
  same_means : (ss ts : List Flow) → AreValid ins ss → AreValid ins ts → ((i : ℕ) → stream_at ss i ≡ stream_at ts i) → (q : ℕ) → stream_at (past.task.means ss) q ≡ stream_at (past.task.means ts) q
  same_means ss ts v w e q = below_both (stream_at (past.task.means ss) q) (stream_at (past.task.means ts) q) (mono ss ts v w (λ i. inl (e i)) q) (mono ts ss w v (λ i. inl (sym (e i))) q)

  one_more : (k : ℕ) → k < length ins → IsClosed (stream_at past.got k) ⊎ NoMatter ins n past k → (q : ℕ) → q < n → (IsIn q past.stopped → ⊥) → stream_at (past.task.means (ended_first k past.got)) q ≡ stream_at (past.task.means (ended_first (suc k) past.got)) q
  one_more k lt (inr h) q ql on = h (ended_first k past.got) (ended_first (suc k) past.got) (first_valid k (omega (arith, lt))) (first_valid (suc k) (omega (arith, lt))) (first_above k past.got) (first_above (suc k) past.got) (first_other k past.got) q ql on
  one_more k lt (inl c) q ql on = same_means (ended_first k past.got) (ended_first (suc k) past.got) (first_valid k (omega (arith, lt))) (first_valid (suc k) (omega (arith, lt))) at q
    where
      at : (i : ℕ) → stream_at (ended_first k past.got) i ≡ stream_at (ended_first (suc k) past.got) i
      at i = elim (same_or_not i k) as (λ _. stream_at (ended_first k past.got) i ≡ stream_at (ended_first (suc k) past.got) i) [
        | inl e ↦ subst (λ (j : ℕ). stream_at (ended_first k past.got) j ≡ stream_at (ended_first (suc k) past.got) j) (sym e)
            (first_later k past.got k (omega arith) ∙ (sym (ended_same (stream_at past.got k).items (stream_at past.got k).mark c) ∙ sym (first_next k past.got)))
        | inr d ↦ first_other k past.got i d
      ]

  so_far : (k : ℕ) → k ≤ length ins → ((p : ℕ) → p < length ins → IsClosed (stream_at past.got p) ⊎ NoMatter ins n past p) → (q : ℕ) → q < n → (IsIn q past.stopped → ⊥) → stream_at (past.task.means past.got) q ≡ stream_at (past.task.means (ended_first k past.got)) q
  so_far zero le h q ql on = refl
  so_far (suc k) le h q ql on = so_far k (omega (arith, le)) h q ql on ∙ one_more k (omega (arith, le)) (h k (omega (arith, le))) q ql on

  -- where each input has closed or matters no more, each output that wasn't stopped is closed
  pub all_close : Settles ins n past.task.means → ((p : ℕ) → p < length ins → IsClosed (stream_at past.got p) ⊎ NoMatter ins n past p) → OutputsClose n past
  all_close settles h q ql on = subst (λ (s : Flow). IsClosed s) (sym (so_far (length ins) (omega arith) h q ql on))
      (settles (ended_first (length ins) past.got) (first_valid (length ins) (omega arith)) (first_closed (length ins) past.got) q ql)
