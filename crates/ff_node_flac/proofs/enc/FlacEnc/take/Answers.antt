use Rattle.std.proofs.Common.{rules, ◌≡◌, true, false, sym, ◌∙◌}
use Rattle.ff_node_flac.proofs.Gathers.{on_ok}
use Rattle.ff_node_flac.proofs.EncoderSteps.{frame_over, frame_fed, frame_taken}
use Rattle.ff_node_flac.proofs.enc.FlacEnc.take.Goals as goal

pub returns-then-self-clause-fed : goal.returns-then-self-clause-fed
returns-then-self-clause-fed g c past s o v =
    let m = c.args.self.now in
    frame_over m.head m.queue m.shut m.told m.over m.stopped m.long past s c.args.frame o v (λ a b. search rules)

pub returns-then-not-takes-clause-fed : goal.returns-then-not-takes-clause-fed
returns-then-not-takes-clause-fed g c past s o v =
    let m = c.args.self.now in
    let t = frame_taken m.head m.queue m.shut m.told m.over m.stopped m.long past s c.args.frame v in
    let yes_taken : c.takes.result ≡ true = c.takes.ensures.all t.0 t.1 in
    let no_taken : c.takes.result ≡ false = search rules in
    absurd (let clash : true ≡ false = sym yes_taken ∙ no_taken in cc)

pub returns-clause-fed : goal.returns-clause-fed
returns-clause-fed g c =
    let m = c.args.self.now in
    on_ok c.feed.result _ _
    (λ h past s o v. frame_fed m.head m.queue m.shut m.told m.over m.stopped m.long past s c.args.frame
    c.feed.new.self c.requires o v h c.feed.ensures.ended c.feed.ensures.format)
    c.feed.ensures.ok
