use Rattle.std.proofs.Common.{rules, Result, Ok, Err, IfOk}
use Rattle.ff_run.specs.build.Parts.{all_kinds}
use Rattle.ff_run_plan.specs.laws.Accepting.{IsAccepted}
use Rattle.ff_run.proofs.Accepted.{accepted}
use Rattle.ff_run.proofs.worker.ThreadedWorker.plan.Goals as goal

pub plan-requires : goal.plan-requires
plan-requires g c =
    let may : IsAccepted all_kinds c.args.job.now c.args.heads.now = accepted c.args.job.now c.args.heads.now c.requires.1 in
    let asked = (c.requires.0.0 c.args.job c.args.heads may).0 in
    search (rules, asked)

-- with what holds of each
if_ok_more : {A E : Type 0} (P R : A → Type 0) (r : Result A E) → IfOk r P → ((x : A) → P x → R x) → IfOk r R
if_ok_more P R (Ok x) p f = f x p
if_ok_more P R (Err e) p f = tt

pub returns-clause-ok : goal.returns-clause-ok
returns-clause-ok g c =
    let may : IsAccepted all_kinds c.args.job.now c.args.heads.now = accepted c.args.job.now c.args.heads.now c.requires.1 in
    let said = (c.requires.0.0 c.args.job c.args.heads may).1 c.plan.result c.plan.ensures in
    if_ok_more _ _ c.plan.result said.ok (λ plan for. (for, c.requires.0.1))

pub returns-clause-some : goal.returns-clause-some
returns-clause-some g c =
    let may : IsAccepted all_kinds c.args.job.now c.args.heads.now = accepted c.args.job.now c.args.heads.now c.requires.1 in
    ((c.requires.0.0 c.args.job c.args.heads may).1 c.plan.result c.plan.ensures).some

pub returns-clause-refused : goal.returns-clause-refused
returns-clause-refused g c why =
    let may : IsAccepted all_kinds c.args.job.now c.args.heads.now = accepted c.args.job.now c.args.heads.now c.requires.1 in
    ((c.requires.0.0 c.args.job c.args.heads may).1 c.plan.result c.plan.ensures).refused why
