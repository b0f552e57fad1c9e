-- Which outputs of a graph are over.
use Rattle.std.specs.Prelude.{◌≡◌, ℕ, zero, suc, ◌<◌, ◌||◌, ◌&&◌, Bool, true, false, List, [], ◌∷◌, length, slice_index_or, refl}
use Rattle.std.proofs.Common.{◌⊎◌, inl, inr, sym, ◌∙◌, arith}
use Rattle.std.proofs.Math.Nat.{ℕ_set}
use Rattle.std.proofs.Math.Bool.{Bool-set}
use Rattle.ff_stream.specs.Ports.{IsClosed}
use Rattle.ff_filter.specs.Joins.{silence}
use Rattle.ff_filter.specs.Views.{View, IsSpent, AllDone}
use Rattle.ff_graph_dag.specs.laws.Readings.{left_true, right_true}

abbrev pub all_true : List Bool → Bool
all_true [] = true
all_true (b ∷ bs) = b && all_true bs

-- there are outputs, and each is over
abbrev pub each_over : List Bool → Bool
each_over [] = false
each_over (b ∷ bs) = all_true (b ∷ bs)

-- an output is over where its closing item was given, or it was stopped
pub record Told (v : View) (bs : List Bool) : Type 0 where
  pub size : length bs ≡ length v.outs
  pub flag : (q : ℕ) → q < length v.outs → slice_index_or bs q false ≡ (v.ended q || v.stopped q)

pub Told-prop : (v : View) (bs : List Bool) → IsProp (Told v bs)
Told-prop v bs = hlevel (ℕ_set, Bool-set)

-- an input is spent where it has closed, or each output is over
abbrev pub graph_spends : View → List Bool → ℕ → Bool
graph_spends v bs p = v.shut p || each_over bs

both : (a b : Bool) → (a && b) ≡ true → (a ≡ true) × (b ≡ true)
both true b e = (refl, e)
both false b e = cc

and_both : (a b : Bool) → a ≡ true → b ≡ true → (a && b) ≡ true
and_both true b e f = f
and_both false b e f = cc

either : (a b : Bool) → (a || b) ≡ true → (a ≡ true) ⊎ (b ≡ true)
either true b e = inl refl
either false b e = inr e

wanted_ended : (a b : Bool) → (a || b) ≡ true → b ≡ false → a ≡ true
wanted_ended true b e w = refl
wanted_ended false b e w = let clash : true ≡ false = sym e ∙ w in cc

pub true_at : (bs : List Bool) (q : ℕ) → q < length bs → all_true bs ≡ true → slice_index_or bs q false ≡ true
true_at [] q lt e = absurd (omega arith)
true_at (b ∷ bs) zero lt e = (both b (all_true bs) e).0
true_at (b ∷ bs) (suc q) lt e = true_at bs q (omega arith) (both b (all_true bs) e).1

pub not_all : (bs : List Bool) (q : ℕ) → q < length bs → slice_index_or bs q false ≡ false → all_true bs ≡ false
not_all bs q lt e = at (all_true bs) refl
  where
    at : (b : Bool) → all_true bs ≡ b → b ≡ false
    at true k = let clash : true ≡ false = sym (true_at bs q lt k) ∙ e in cc
    at false k = refl

pub true_all : (bs : List Bool) → ((q : ℕ) → q < length bs → slice_index_or bs q false ≡ true) → all_true bs ≡ true
true_all [] h = refl
true_all (b ∷ bs) h = and_both b (all_true bs) (h zero (omega arith)) (true_all bs (λ q lt. h (suc q) (omega arith)))

some_over : (bs : List Bool) → each_over bs ≡ true → (0 < length bs) × (all_true bs ≡ true)
some_over [] e = cc
some_over (b ∷ bs) e = (omega arith, e)

over_each : (bs : List Bool) → 0 < length bs → all_true bs ≡ true → each_over bs ≡ true
over_each [] lt e = absurd (omega arith)
over_each (b ∷ bs) lt e = e

pub graph_spent_only : (v : View) (bs : List Bool) (p : ℕ) → Told v bs → graph_spends v bs p ≡ true → IsSpent v p
graph_spent_only v bs p t e = elim (either (v.shut p) (each_over bs) e) as (λ _. IsSpent v p) [
  | inl s ↦ inl s
  | inr o ↦ inr (out_there o, all_ended o)
]
  where
    out_there : each_over bs ≡ true → 0 < length v.outs
    out_there o = let k : 0 < length bs = (some_over bs o).0 in omega (arith, t.size, k)

    all_ended : each_over bs ≡ true → (q : ℕ) → q < length v.outs → v.stopped q ≡ false → (v.ended q ≡ true) ⊎ IsClosed (v.rest silence q)
    all_ended o q lt w = inl (wanted_ended (v.ended q) (v.stopped q) (sym (t.flag q lt) ∙ true_at bs q (omega (arith, t.size, lt)) (some_over bs o).1) w)

pub graph_shut_spent : (v : View) (bs : List Bool) (p : ℕ) → v.shut p ≡ true → graph_spends v bs p ≡ true
graph_shut_spent v bs p e = left_true (v.shut p) (each_over bs) e

pub graph_done_spent : (v : View) (bs : List Bool) (p : ℕ) → Told v bs → 0 < length v.outs → AllDone v → graph_spends v bs p ≡ true
graph_done_spent v bs p t z d = right_true (v.shut p) (each_over bs) (over_each bs (omega (arith, t.size, z)) (true_all bs over))
  where
    over : (q : ℕ) → q < length bs → slice_index_or bs q false ≡ true
    over q lt = t.flag q (omega (arith, t.size, lt)) ∙ elim (d q (omega (arith, t.size, lt))) as (λ _. (v.ended q || v.stopped q) ≡ true)
        [ inl e ↦ left_true (v.ended q) (v.stopped q) e | inr e ↦ right_true (v.ended q) (v.stopped q) e ]
