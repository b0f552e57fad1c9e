use Rattle.ff_concat.specs.Arguments.{asked}
use Rattle.ff_concat.proofs.PadCounts.{asked_fit, streams_few}
use Rattle.ff_concat.proofs.PadKinds.{pad_kind}
use Rattle.ff_concat.proofs.laws.few_inputs_are_asked_for.Goals as goal

pub returns-clause-segments : goal.returns-clause-segments
returns-clause-segments c args = let fit = asked_fit args in (fit.some, fit.few)

pub returns-clause-inputs : goal.returns-clause-inputs
returns-clause-inputs c args = (asked_fit args).inputs

pub returns-clause-streams : goal.returns-clause-streams
returns-clause-streams c args = streams_few (asked args) (asked_fit args).kinds

pub returns-clause-kinds : goal.returns-clause-kinds
returns-clause-kinds c args heads p d kinds lt = pad_kind (asked args) heads p d (asked_fit args).kinds kinds lt
