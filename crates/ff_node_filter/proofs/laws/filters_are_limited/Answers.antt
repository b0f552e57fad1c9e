use Rattle.ff_node_filter.proofs.Limits.{single_limited, ended_limited, spread_limited}
use Rattle.ff_node_filter.proofs.laws.filters_are_limited.Goals as goal

pub returns-clause-single : goal.returns-clause-single
returns-clause-single c lane_in head f below calm sound = single_limited lane_in head f below calm sound

pub returns-clause-at_once : goal.returns-clause-at_once
returns-clause-at_once c lane_in head f = ended_limited lane_in head f

pub returns-clause-several : goal.returns-clause-several
returns-clause-several c lane_in lane_out n shared v = spread_limited lane_in lane_out n shared v
