-- How output streams hang on sources.
use Rattle.std.specs.Prelude.{◌≤◌, [], length, All}
use Rattle.ff_sched.specs.declared.routes.Routes.{Routes}

-- at most 16 of each
pub record AreRoutes (r : Routes) : Type 0 where
  pub sources : r.sources ≤ 16
  pub streams : length r.streams ≤ 16
  pub graphs : length r.graphs ≤ 16
  pub inputs : All (λ ways. length ways ≤ 16) r.graphs

abbrev pub no_routes : Routes
no_routes = record { sources = 0; streams = []; graphs = [] }
