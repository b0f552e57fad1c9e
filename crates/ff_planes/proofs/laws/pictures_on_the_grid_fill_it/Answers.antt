use Rattle.ff_planes.proofs.GridLaws.{columns_filled, rows_filled}
use Rattle.ff_planes.proofs.laws.pictures_on_the_grid_fill_it.Goals as goal

pub returns : goal.returns
returns c = record { columns = columns_filled; rows = rows_filled }
