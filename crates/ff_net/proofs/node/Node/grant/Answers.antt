use Rattle.std.proofs.Common.{◌≡◌, ℕ, ◌⊎◌, inl, inr, None, Some, is_some, refl, ap, sym, ◌∙◌, subst, Option}
use Rattle.ff_sched.specs.laws.Passing.{Passing}
use Rattle.ff_frame.specs.declared.event.Ticket.{Ticket}
use Rattle.ff_net.specs.laws.Logs.{WasChoked}
use Rattle.ff_net.specs.laws.Nodes.{IsSound}
use Rattle.ff_net.specs.laws.Ports.{AreDone}
use Rattle.ff_net.specs.laws.Steps.{IsUngranted}
use Rattle.ff_net.proofs.Acting.{none_if_not_some}
use Rattle.ff_net.proofs.Changes.{true_not_false}
use Rattle.ff_net.proofs.Granting.{granted_once, grants_join, grants_taken, once_between, same_tickets}
use Rattle.ff_net.proofs.Rounds.{or_false}
use Rattle.ff_net.proofs.node.Node.grant.Goals as goal

pub take_grant-took-requires : goal.take_grant-took-requires
take_grant-took-requires g c = record { cell = c.requires.cell; source = sym c.source.ensures ∙ c.in-Some.is }

pub returns-clause-stepped : goal.returns-clause-stepped
returns-clause-stepped g c wires =
    let view = g.M.Machine.view in
    let node = c.args.self.now in
    let mid = c.take_grant-took.new.self in
    let t = c.take_grant-took.ensures in
    let ok : IsSound view node = c.fault.ensures.sound (none_if_not_some c.fault.result (sym c.is_some.ensures ∙ c.if-is_some.false)) in
    let busy : AreDone node.outs.items → ⊥ = λ d. true_not_false (sym (c.all_out_done.ensures.1 d) ∙ c.if-all_out_done.false) in
    grants_join view c.take_grant-took.result c.offer-offered.result node mid c.offer-offered.new.self wires
    (grants_taken view c.take_grant-took.result c.in-Some.source node mid ok c.requires.outputs c.requires.held busy (sym c.source.ensures ∙ c.in-Some.is) (ap (λ n. n.machine) t.node) (ap (λ n. n.ins) t.node) (ap (λ n. n.outs) t.node) t.refused (ap (λ n. n.quiet) t.node) t.passes t.yes t.no wires)
    (c.offer-offered.ensures.stepped wires)

pub returns-clause-still : goal.returns-clause-still
returns-clause-still g c still =
    let n = or_false c.take_grant-took.result c.offer-offered.result still in
    ap (λ (p : Passing). p.log) c.offer-offered.ensures.pass ∙ (c.take_grant-took.ensures.no n.0).1

pub returns-clause-fine : goal.returns-clause-fine
returns-clause-fine g c moved = c.fault.ensures.sound (none_if_not_some c.fault.result (sym c.is_some.ensures ∙ c.if-is_some.false))

pub returns-clause-back : goal.returns-clause-back
returns-clause-back g c still ok goes_on =
    let view = g.M.Machine.view in
    let node = c.args.self.now in
    let last = c.offer-offered.new.self in
    let t = c.take_grant-took.ensures in
    let o = c.offer-offered.ensures in
    let n = or_false c.take_grant-took.result c.offer-offered.result still in
    let s : ℕ = c.in-Some.source in
    let source : (view node.machine).source ≡ Some s = sym c.source.ensures ∙ c.in-Some.is in
    let machine : c.take_grant-took.new.self.machine ≡ node.machine = ap (λ m. m.machine) t.node in
    elim (t.why n.0) as (λ _. (view node.machine).holds ⊎ IsUngranted view node last) [
      | inl some ↦
          elim (o.back n.1 (ap (λ (h : Option Ticket). is_some h) (t.no n.0).0 ∙ some)) [
            | inl none ↦ absurd (let no_source : None ≡ Some s = sym none ∙ (ap (λ m. (view m).source) machine ∙ source) in cc (no_source))
            | inr holds ↦ inl (subst (λ m. (view m).holds) machine holds)
          ]
      | inr rest ↦ elim rest [
        | inl refused ↦ absurd (true_not_false (sym (o.refused ∙ refused) ∙ ok.0))
        | inr choked ↦ inr (inr (s, o.source ∙ (ap (λ m. (view m).source) machine ∙ source), subst (λ (p : Passing). WasChoked node.pass s p) (sym o.pass) choked))
      ]
    ]

pub returns-clause-once : goal.returns-clause-once
returns-clause-once g c =
    let t = c.take_grant-took.ensures in
    let before = c.args.self.now.pass in
    let mid = c.take_grant-took.new.self.pass in
    let last = c.offer-offered.new.self.pass in
    once_between before.log before.log mid.log last.log refl (same_tickets mid last c.offer-offered.ensures.pass) (granted_once c.take_grant-took.result c.in-Some.source before.log mid.log (λ e. let y = t.yes e in (y.1.0, y.1.2)) (λ e. (t.no e).1))
