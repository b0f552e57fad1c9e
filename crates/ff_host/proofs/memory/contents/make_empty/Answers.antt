use Rattle.std.proofs.Common.{ap, Some, ◌∙◌, ◌≡◌, [], subst, string_bytes}
use Rattle.std.specs.Option.{option_map}
use Rattle.ff_host.specs.laws.memory.Contents.{file_at}
use Rattle.ff_lists.proofs.TextMap.{here, elsewhere}
use Rattle.ff_host.proofs.memory.contents.make_empty.Goals as goal

pub returns-clause-ok : goal.returns-clause-ok
returns-clause-ok c =
    let m = c.args.contents.now in
    let n = c.insert.new.self in
    let same : string_bytes c.in_ok-key.key ≡ c.args.name.now = c.in_ok-key.ensures.ok in
    let u = c.in_ok-insert.ensures.updates in
    record {
      others = λ other ne. ap (option_map (λ v. v.items)) (elsewhere (string_bytes c.in_ok-key.key) m n _ u other (λ e. ne (e ∙ same)));
      here = subst (λ x. file_at n x ≡ Some []) same (ap (option_map (λ v. v.items)) (here (string_bytes c.in_ok-key.key) m n _ u) ∙ ap Some c.new.ensures.items);
    }
