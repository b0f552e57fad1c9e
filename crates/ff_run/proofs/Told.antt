-- A run that did all tells something of each output.
use Rattle.ff_run.specs.laws.build.Events.{some_events}
use Rattle.ff_run.specs.build.Parts.{all_kinds}
use Rattle.ff_run_plan.specs.Asked.{asked_of}
use Rattle.ff_run_plan.proofs.Histories.{tells_some}
use Rattle.ff_run.specs.laws.Telling.{NoneIsEmpty}

pub none_is_empty : NoneIsEmpty
none_is_empty words files outputs h =
    let job = h.0 in
    let told = h.2.2 in
    tells_some all_kinds (asked_of job told.0.texts told.0.made told.0.nodes) h.2.0 _ told.0.nodes told.0.edges some_events (outputs job h.1) told.2.told
