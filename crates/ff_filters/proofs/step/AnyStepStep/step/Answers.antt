use Rattle.ff_filters.proofs.step.AnyStepStep.step.Goals as goal

pub returns-in-Crop-clause-unchanged : goal.returns-in-Crop-clause-unchanged
returns-in-Crop-clause-unchanged c = rw c.in-Crop.is c.step-in-Crop.ensures.unchanged

pub returns-in-Pad-clause-unchanged : goal.returns-in-Pad-clause-unchanged
returns-in-Pad-clause-unchanged c = rw c.in-Pad.is c.step-in-Pad.ensures.unchanged
