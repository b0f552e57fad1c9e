use Rattle.std.proofs.Common.{sym, subst}
use Rattle.std.specs.Prelude.{IfSome}
use Rattle.ff_command.specs.Command.{Ask, IsNamed}
use Rattle.ff_command.specs.Steps.{IsOfJob}
use Rattle.ff_command.proofs.command.name_of.Goals as goal

pub name_of_file-requires : goal.name_of_file-requires
name_of_file-requires c = subst (λ j. IsOfJob j c.in-Device.file) c.in-Some.is (c.requires c.in-Device.file c.in-Device.is)

pub unreachable-requires : goal.unreachable-requires
unreachable-requires c = subst (λ j. IsOfJob j c.in-Device.file) c.in-None.is (c.requires c.in-Device.file c.in-Device.is)

pub returns-in-Some : goal.returns-in-Some
returns-in-Some c = λ words asked.
    let has = subst (λ j. IsOfJob j c.in-Device.file) c.in-Some.is (c.requires c.in-Device.file c.in-Device.is) in
    let asks = subst (λ o. IfSome o (λ j. Ask words j)) c.in-Some.is asked in
    subst (λ s. IsNamed words s c.name_of_file.result.now) (sym c.in-Device.is) (c.in-Some.job, asks, (has, c.name_of_file.ensures))
