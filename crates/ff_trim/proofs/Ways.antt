-- The outputs of a filter with cuts behind them, one by one.
use Rattle.std.proofs.Common.{◌≡◌, ◌≢◌, ℕ, zero, suc, ◌<◌, ◌≤◌, ◌⊎◌, inl, inr, false, None, List, [], ◌∷◌, ◌++◌, length, refl, ap, sym, ◌∙◌, subst, arith, get_or, set, take}
use Rattle.std.proofs.lemmas.List.{length-set}
use Rattle.ff_frame.specs.declared.head.StreamHead.{StreamHead}
use Rattle.ff_stream.specs.Ports.{nothing}
use Rattle.ff_filter.specs.Joins.{Flow}
use Rattle.ff_trim.specs.declared.counted.OutputCut.{OutputCut}
use Rattle.ff_trim.specs.declared.tap.Tap.{Tap}
use Rattle.ff_trim.specs.Cuts.{cut_at}
use Rattle.ff_trim.specs.laws.CountLaws.{first-waits}
use Rattle.ff_trim.specs.laws.Taps.{Way, no_way, way_of, ways_of, way_at, still_cut, IsNewWay, AreNewWays}

-- one output was replaced
pub record Replaced (ws us : List Way) (q : ℕ) (n : Way) : Type 0 where
  pub long : length us ≡ length ws
  pub here : way_at us q ≡ n
  pub others : (o : ℕ) → o ≢ q → way_at us o ≡ way_at ws o

pub way_there : (ts : List Tap) (q : ℕ) (t : Tap) → q < length ts → t ≡ get_or ts q t → way_at (ways_of ts) q ≡ way_of t
way_there [] q t lt e = absurd (omega (arith, lt))
way_there (s ∷ ts) zero t lt e = ap (λ (x : Tap). way_of x) (sym e)
way_there (s ∷ ts) (suc q) t lt e = way_there ts q t (omega (arith, lt)) e

pub long_ways : (ts : List Tap) → length (ways_of ts) ≡ length ts
long_ways [] = refl
long_ways (t ∷ ts) = ap suc (long_ways ts)

set_here : (ts : List Tap) (q : ℕ) (t : Tap) → q < length ts → way_at (ways_of (set ts q t)) q ≡ way_of t
set_here [] q t lt = absurd (omega (arith, lt))
set_here (s ∷ ts) zero t lt = refl
set_here (s ∷ ts) (suc q) t lt = set_here ts q t (omega (arith, lt))

set_others : (ts : List Tap) (q o : ℕ) (t : Tap) → o ≢ q → way_at (ways_of (set ts q t)) o ≡ way_at (ways_of ts) o
set_others [] q o t n = refl
set_others (s ∷ ts) zero zero t n = absurd (n refl)
set_others (s ∷ ts) zero (suc o) t n = refl
set_others (s ∷ ts) (suc q) zero t n = refl
set_others (s ∷ ts) (suc q) (suc o) t n = set_others ts q o t (λ e. n (ap suc e))

pub replaced : (ts : List Tap) (q : ℕ) (t : Tap) → q < length ts → Replaced (ways_of ts) (ways_of (set ts q t)) q (way_of t)
replaced ts q t lt = record {
  long = long_ways (set ts q t) ∙ (length-set ts q t ∙ sym (long_ways ts));
  here = set_here ts q t lt;
  others = λ o n. set_others ts q o t n;
}

pub unreplaced : (ws : List Way) (q : ℕ) → Replaced ws ws q (way_at ws q)
unreplaced ws q = record { long = refl; here = refl; others = λ o n. refl }

-- an output is there, or is none
pub there_or : (ws : List Way) (q : ℕ) → (q < length ws) ⊎ (way_at ws q ≡ no_way)
there_or [] q = inr refl
there_or (w ∷ ws) zero = inl (omega arith)
there_or (w ∷ ws) (suc q) = elim (there_or ws q) as (λ _. (suc q < length (w ∷ ws)) ⊎ (way_at ws q ≡ no_way)) [ inl lt ↦ inl (omega (arith, lt)) | inr e ↦ inr e ]

-- of nothing a cut makes nothing
pub runs_nothing : (ts : List Tap) (q : ℕ) → (way_at (ways_of ts) q).runs nothing ≡ nothing
runs_nothing [] q = refl
runs_nothing (t ∷ ts) zero = first-waits t.cut
runs_nothing (t ∷ ts) (suc q) = runs_nothing ts q

-- one output more
pub new_more : (hs ks : List StreamHead) (cs ds : List OutputCut) (ts : List Tap) (t : Tap) (h : StreamHead) (c : OutputCut) → ks ≡ hs ++ h ∷ [] → ds ≡ cs ++ c ∷ [] → length cs ≡ length hs
    → AreNewWays hs cs (ways_of ts) → IsNewWay h c (way_of t) → AreNewWays ks ds (ways_of (ts ++ t ∷ []))
new_more hs ks cs ds ts t h c e d same a n = subst (λ (js : List StreamHead). AreNewWays js ds (ways_of (ts ++ t ∷ []))) (sym e)
    (subst (λ (bs : List OutputCut). AreNewWays (hs ++ h ∷ []) bs (ways_of (ts ++ t ∷ []))) (sym d) (record {
      long = longer ts hs a.long;
      cuts = λ q s. cuts ts hs cs q s a.long same (λ o u. a.cuts o u);
      held = held ts a.held;
      ended = ended ts a.ended;
      stopped = stopped ts a.stopped;
    }))
  where
    longer : (ts : List Tap) (hs : List StreamHead) → length (ways_of ts) ≡ length hs → length (ways_of (ts ++ t ∷ [])) ≡ length (hs ++ h ∷ [])
    longer [] [] e = refl
    longer [] (g ∷ hs) e = absurd (omega (arith, e))
    longer (r ∷ ts) [] e = absurd (omega (arith, e))
    longer (r ∷ ts) (g ∷ hs) e = ap suc (longer ts hs (omega (arith, e)))

    cuts : (ts : List Tap) (hs : List StreamHead) (cs : List OutputCut) (q : ℕ) (s : Flow) → length (ways_of ts) ≡ length hs → length cs ≡ length hs
        → ((o : ℕ) (u : Flow) → still_cut (way_at (ways_of ts) o) u ≡ cut_at hs cs o u) → still_cut (way_at (ways_of (ts ++ t ∷ [])) q) s ≡ cut_at (hs ++ h ∷ []) (cs ++ c ∷ []) q s
    cuts [] [] [] zero s l m k = n.cuts s
    cuts [] [] [] (suc q) s l m k = refl
    cuts [] [] (d ∷ cs) q s l m k = absurd (omega (arith, m))
    cuts [] (g ∷ hs) cs q s l m k = absurd (omega (arith, l))
    cuts (r ∷ ts) [] cs q s l m k = absurd (omega (arith, l))
    cuts (r ∷ ts) (g ∷ hs) [] q s l m k = absurd (omega (arith, m))
    cuts (r ∷ ts) (g ∷ hs) (d ∷ cs) zero s l m k = k zero s
    cuts (r ∷ ts) (g ∷ hs) (d ∷ cs) (suc q) s l m k = cuts ts hs cs q s (omega (arith, l)) (omega (arith, m)) (λ o u. k (suc o) u)

    held : (ts : List Tap) → ((o : ℕ) → (way_at (ways_of ts) o).held ≡ None) → (q : ℕ) → (way_at (ways_of (ts ++ t ∷ [])) q).held ≡ None
    held [] k zero = n.held
    held [] k (suc q) = refl
    held (r ∷ ts) k zero = k zero
    held (r ∷ ts) k (suc q) = held ts (λ o. k (suc o)) q

    ended : (ts : List Tap) → ((o : ℕ) → (way_at (ways_of ts) o).ended ≡ false) → (q : ℕ) → (way_at (ways_of (ts ++ t ∷ [])) q).ended ≡ false
    ended [] k zero = n.ended
    ended [] k (suc q) = refl
    ended (r ∷ ts) k zero = k zero
    ended (r ∷ ts) k (suc q) = ended ts (λ o. k (suc o)) q

    stopped : (ts : List Tap) → ((o : ℕ) → (way_at (ways_of ts) o).stopped ≡ false) → (q : ℕ) → (way_at (ways_of (ts ++ t ∷ [])) q).stopped ≡ false
    stopped [] k zero = n.stopped
    stopped [] k (suc q) = refl
    stopped (r ∷ ts) k zero = k zero
    stopped (r ∷ ts) k (suc q) = stopped ts (λ o. k (suc o)) q

all_heads : (n : ℕ) (hs : List StreamHead) → length hs ≤ n → take n hs ≡ hs
all_heads zero [] le = refl
all_heads zero (h ∷ hs) le = absurd (omega (arith, le))
all_heads (suc n) [] le = refl
all_heads (suc n) (h ∷ hs) le = ap (λ (ks : List StreamHead). h ∷ ks) (all_heads n hs (omega (arith, le)))

all_cuts : (n : ℕ) (cs : List OutputCut) → length cs ≤ n → take n cs ≡ cs
all_cuts zero [] le = refl
all_cuts zero (c ∷ cs) le = absurd (omega (arith, le))
all_cuts (suc n) [] le = refl
all_cuts (suc n) (c ∷ cs) le = ap (λ (ds : List OutputCut). c ∷ ds) (all_cuts n cs (omega (arith, le)))

pub all_new : (n : ℕ) (hs : List StreamHead) (cs : List OutputCut) (ts : List Tap) → length hs ≤ n → length cs ≡ length hs → AreNewWays (take n hs) (take n cs) (ways_of ts)
    → AreNewWays hs cs (ways_of ts)
all_new n hs cs ts le same a = subst (λ (ks : List StreamHead). AreNewWays ks cs (ways_of ts)) (all_heads n hs le)
    (subst (λ (ds : List OutputCut). AreNewWays (take n hs) ds (ways_of ts)) (all_cuts n cs (omega (arith, le, same))) a)
