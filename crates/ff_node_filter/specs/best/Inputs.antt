-- What is kept of the inputs: when the last item of each ends, and whether it has closed.
use Rattle.std.specs.Prelude.{◌≡◌, ℕ, zero, suc, ℤ, Bool, false, Option, None, List, [], ◌∷◌, map}
use Rattle.ff_time.specs.Fraction.{Fraction}
use Rattle.ff_frame.specs.declared.head.StreamHead.{StreamHead}
use Rattle.ff_frame.specs.Heads.{base_of_head}
use Rattle.ff_net.specs.Ways.{Flow}
use Rattle.ff_node_filter.specs.best.Bests.{end_in, closed_in, base_at, earlier_of, earliest_to}
use Rattle.ff_node_filter.specs.declared.best.input.Input.{Input}

abbrev pub bases_of : List Input → List Fraction
bases_of is = map (λ (i : Input). i.tb) is

abbrev pub bases_of_heads : List StreamHead → List Fraction
bases_of_heads heads = map base_of_head heads

abbrev pub end_at : List Input → ℕ → Option ℤ
end_at [] p = None
end_at (i ∷ is) zero = i.end
end_at (i ∷ is) (suc p) = end_at is p

abbrev pub closed_at : List Input → ℕ → Bool
closed_at [] p = false
closed_at (i ∷ is) zero = i.closed
closed_at (i ∷ is) (suc p) = closed_at is p

-- among the first n, the one that is the best by what is kept
abbrev pub kept_to : List Input → ℕ → Option ℕ
kept_to is n = earliest_to (base_at (bases_of is)) (end_at is) (closed_at is) n

abbrev pub kept_of : List Input → Option ℕ → ℕ → ℕ
kept_of is = earlier_of (base_at (bases_of is)) (end_at is) (closed_at is)

-- what is kept is that of these streams
pub record Keeps (is : List Input) (ss : List Flow) : Type 0 where
  pub ends : (p : ℕ) → end_at is p ≡ end_in ss p
  pub closed : (p : ℕ) → closed_at is p ≡ closed_in ss p
