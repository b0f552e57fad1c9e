-- Passes of a cell with one source.
use Rattle.std.specs.Prelude.{◌≡◌, ◌<◌, []}
use Rattle.ff_sched.specs.laws.Passing.{Passing, Scheduler}

-- a pass of this cell that has added nothing; the cell has a source
pub record IsSeat (cell : Scheduler) (pass : Passing) : Type 0 where
  pub cell_is : pass.cell ≡ cell
  pub none : pass.log ≡ []
  pub some : 0 < cell.routes.sources

-- five of them
pub record AreSeats (cell : Scheduler) (a b c d e : Passing) : Type 0 where
  pub first : IsSeat cell a
  pub second : IsSeat cell b
  pub third : IsSeat cell c
  pub fourth : IsSeat cell d
  pub fifth : IsSeat cell e
