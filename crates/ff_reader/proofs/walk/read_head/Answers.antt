use Rattle.std.proofs.Common.{◌∙◌, ap, [], refl, lit≤}
use Rattle.ff_reader.specs.Walks.{answer_by}
use Rattle.ff_reader.proofs.GrammarLaws.{answer_not_yet, answer_decided, answer_stays, answer_sound}
use Rattle.ff_reader.proofs.walk.read_head.Goals as goal

pub returns-clause-not_yet : goal.returns-clause-not_yet
returns-clause-not_yet g c =
    let is = c.read.ensures.exact ([], c.args.bytes.now, refl, lit≤ tt, c.new-walk.ensures) in
    rw is (answer_not_yet g.F.HeadFormat.grammar g.met.F.HeadFormat.lawful c.args.whole c.args.bytes.now)

pub returns-clause-decided : goal.returns-clause-decided
returns-clause-decided g c =
    let is = c.read.ensures.exact ([], c.args.bytes.now, refl, lit≤ tt, c.new-walk.ensures) in
    rw is (answer_decided g.F.HeadFormat.grammar c.args.whole c.args.bytes.now)

pub returns-clause-stays : goal.returns-clause-stays
returns-clause-stays g c =
    let G = g.F.HeadFormat.grammar in
    let is = c.read.ensures.exact ([], c.args.bytes.now, refl, lit≤ tt, c.new-walk.ensures) in
    λ n w. answer_stays G g.met.F.HeadFormat.lawful c.args.bytes.now (λ e. n (is ∙ (ap (λ b. answer_by G b c.args.bytes.now) w ∙ e)))

pub returns-clause-sound : goal.returns-clause-sound
returns-clause-sound g c =
    let F = g.F.HeadFormat in
    let law = g.met.F.HeadFormat in
    let is = c.read.ensures.exact ([], c.args.bytes.now, refl, lit≤ tt, c.new-walk.ensures) in
    rw is (answer_sound F.grammar F.is_known F.is_sound law.begins law.keeps c.args.whole c.args.bytes.now)
