-- The laws of a function with its limits behind it.
use Rattle.std.specs.Prelude.{◌≡◌, ℕ, Bool}
use Rattle.std.proofs.Common.{ap}
use Rattle.ff_stream.specs.declared.item.Item.{Item}
use Rattle.ff_stream.specs.declared.item.Item.TheVariants.{End, Broken}
use Rattle.ff_stream.specs.Stream.{LiesBelow, opened}
use Rattle.ff_stream.specs.Ports.{nothing, IsClosed}
use Rattle.ff_stream.specs.laws.Order.{below_trans}
use Rattle.ff_filter.specs.Joins.{Flow, one}
use Rattle.ff_filter.specs.laws.Runs.{no_more, run_below, run_calm, run_settles}
use Rattle.ff_filter.specs.laws.Limits.{limit_step, limited}

module _ (passes : ℕ → Item → Bool) (n : ℕ) (runs : Flow → Flow) where
  pub limited-waits : runs nothing ≡ nothing → limited passes n (runs nothing) ≡ nothing
  limited-waits e = ap (λ (s : Flow). limited passes n s) e

  pub limited-ends : runs (one End) ≡ one End → limited passes n (runs (one End)) ≡ one End
  limited-ends e = ap (λ (s : Flow). limited passes n s) e

  pub limited-breaks : runs (one Broken) ≡ one Broken → limited passes n (runs (one Broken)) ≡ one Broken
  limited-breaks e = ap (λ (s : Flow). limited passes n s) e

  pub limited-below : ((r s : Flow) → LiesBelow r s → LiesBelow (runs r) (runs s)) → (r s : Flow) → LiesBelow r s
      → LiesBelow (limited passes n (runs r)) (limited passes n (runs s))
  limited-below below r s h = run_below (limit_step passes) no_more n (runs r) (runs s) (below r s h)

  pub limited-calm : ((r : Flow) → LiesBelow (opened (runs r)) (runs (opened r))) → (r : Flow)
      → LiesBelow (opened (limited passes n (runs r))) (limited passes n (runs (opened r)))
  limited-calm calm r = below_trans (opened (limited passes n (runs r))) (limited passes n (opened (runs r))) (limited passes n (runs (opened r)))
      (run_calm (limit_step passes) no_more n (runs r)) (run_below (limit_step passes) no_more n (opened (runs r)) (runs (opened r)) (calm r))

  pub limited-settles : ((r : Flow) → IsClosed r → IsClosed (runs r)) → (r : Flow) → IsClosed r → IsClosed (limited passes n (runs r))
  limited-settles settles r c = run_settles (limit_step passes) no_more n (runs r) (settles r c)
