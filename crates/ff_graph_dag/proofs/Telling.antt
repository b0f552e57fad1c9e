-- What is told of the outputs stays true over each call.
use Rattle.std.proofs.Common.{Result, Ok, Err, OnOk, OnErr, ◌≡◌, ◌≢◌, ℕ, zero, suc, ◌<◌, ◌==◌, ◌||◌, Bool, true, false, List, [], ◌∷◌, length, slice_index_or}
use Rattle.std.proofs.Common.{slice_set, replicate, refl, ap, sym, ◌∙◌, subst, arith}
use Rattle.std.proofs.lemmas.Bool.Decides.{nat_tests}
use Rattle.std.proofs.lemmas.List.{get_or-set_same, get_or-set_other}
use Rattle.ff_stream.specs.declared.item.Item.{Item}
use Rattle.ff_stream.specs.declared.item.Lane.{Lane}
use Rattle.ff_filter.specs.Views.{View, SamePorts, Same, Fed, Gave, Stopped, IsNew, closes}
use Rattle.ff_graph_dag.specs.laws.Over.{Told}

pub told_same : (u v : View) (bs : List Bool) → SamePorts u v → ((q : ℕ) → v.ended q ≡ u.ended q) → ((q : ℕ) → v.stopped q ≡ u.stopped q) → Told u bs → Told v bs
told_same u v bs p e s t = record {
  size = t.size ∙ ap (λ (ls : List Lane). length ls) (sym p.outs);
  flag = λ q lt. t.flag q (subst (λ (ls : List Lane). q < length ls) p.outs lt) ∙ (ap (λ (b : Bool). b || u.stopped q) (sym (e q)) ∙ ap (λ (b : Bool). v.ended q || b)
      (sym (s q)));
}

pub told_fed : {R : Type 0} (u v : View) (bs : List Bool) (p : ℕ) (x : Item) (r : Result (Unit {0}) R) → OnOk r (Fed u v p x) → OnErr r (Same u v) → Told u bs
    → Told v bs
told_fed u v bs p x (Ok y) f s t = told_same u v bs f.ports f.ended f.stopped t
told_fed u v bs p x (Err y) f s t = told_same u v bs s.ports s.ended s.stopped t

or_none : (b : Bool) → (b || false) ≡ b
or_none true = refl
or_none false = refl

or_true : (b : Bool) → (b || true) ≡ true
or_true true = refl
or_true false = refl

set_size : (bs : List Bool) (q : ℕ) (b : Bool) → length (slice_set bs q b) ≡ length bs
set_size [] q b = refl
set_size (c ∷ bs) zero b = refl
set_size (c ∷ bs) (suc q) b = ap (λ (n : ℕ). suc n) (set_size bs q b)

pub told_gave : (u v : View) (bs : List Bool) (q : ℕ) (x : Item) → q < length u.outs → u.stopped q ≡ false → Gave u v q x → Told u bs
    → Told v (slice_set bs q (closes x))
told_gave u v bs q x qlt w g t = record {
  size = set_size bs q (closes x) ∙ (t.size ∙ ap (λ (ls : List Lane). length ls) (sym g.ports.outs));
  flag = λ o lt. at o (subst (λ (ls : List Lane). o < length ls) g.ports.outs lt) (o == q) refl;
}
  where
    at : (o : ℕ) → o < length u.outs → (b : Bool) → (o == q) ≡ b → slice_index_or (slice_set bs q (closes x)) o false ≡ (v.ended o || v.stopped o)
    at o lt true e =
        let is : o ≡ q = grind (arith, nat_tests) in
        rw (is, g.ended_here, g.stopped q, w) (get_or-set_same bs q (closes x) false (omega (arith, t.size, qlt)) ∙ sym (or_none (closes x)))
    at o lt false e =
        let other : o ≢ q = grind (arith, nat_tests) in
        get_or-set_other bs q o (closes x) false other ∙ (t.flag o lt ∙ (ap (λ (b : Bool). b || u.stopped o) (sym (g.ended_others o lt other))
        ∙ ap (λ (b : Bool). v.ended o || b) (sym (g.stopped o))))

pub told_stopped : (u v : View) (bs : List Bool) (q : ℕ) → q < length u.outs → Stopped u v q → Told u bs → Told v (slice_set bs q true)
told_stopped u v bs q qlt g t = record {
  size = set_size bs q true ∙ (t.size ∙ ap (λ (ls : List Lane). length ls) (sym g.ports.outs));
  flag = λ o lt. at o (subst (λ (ls : List Lane). o < length ls) g.ports.outs lt) (o == q) refl;
}
  where
    at : (o : ℕ) → o < length u.outs → (b : Bool) → (o == q) ≡ b → slice_index_or (slice_set bs q true) o false ≡ (v.ended o || v.stopped o)
    at o lt true e =
        let is : o ≡ q = grind (arith, nat_tests) in
        rw (is, g.stopped_here) (get_or-set_same bs q true false (omega (arith, t.size, qlt)) ∙ sym (or_true (v.ended q)))
    at o lt false e =
        let other : o ≢ q = grind (arith, nat_tests) in
        get_or-set_other bs q o true false other ∙ (t.flag o lt ∙ (ap (λ (b : Bool). b || u.stopped o) (sym (g.ended o)) ∙ ap (λ (b : Bool). v.ended o || b)
        (sym (g.stopped_others o lt other))))

none_at : (n q : ℕ) → slice_index_or (replicate n false) q false ≡ false
none_at zero q = refl
none_at (suc n) zero = refl
none_at (suc n) (suc q) = none_at n q

none_size : (n : ℕ) → length (replicate n false) ≡ n
none_size zero = refl
none_size (suc n) = ap (λ (m : ℕ). suc m) (none_size n)

pub told_new : (v : View) → IsNew v → Told v (replicate (length v.outs) false)
told_new v f = record { size = none_size (length v.outs); flag = λ q lt. rw (f.ended q, f.stopped q) (none_at (length v.outs) q) }
