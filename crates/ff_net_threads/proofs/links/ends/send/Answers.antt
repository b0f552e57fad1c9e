use Rattle.std.proofs.Common.{[], inl, inr, ◌∷◌, arith, Some, refl, sym, ap, ◌∙◌, is_some}
use Rattle.ff_stream.specs.declared.item.Item.{Item}
use Rattle.ff_net.specs.laws.Worlds.{lanes_of}
use Rattle.ff_link.specs.laws.Views.{Sending}
use Rattle.ff_net_threads.proofs.LinksLemmas.Carrying.{may_carry, may_send, out_sent, out_looked, out_told, on_wires_self}
use Rattle.ff_net_threads.proofs.LinksLemmas.Turns.{sent_item, sent_differs, sent_none}
use Rattle.ff_net_threads.proofs.links.ends.send.Goals as goal

pub try_put-requires : goal.try_put-requires
try_put-requires g c =
    may_carry c.args.end.now c.in-Some.item c.puts.result c.puts.ensures (let few = c.if-puts-gt-MOST_ITEMS.false in omega arith) (λ claims.
    let s = c.requires.stands claims in
    may_send c.args.end.now (lanes_of c.args.wires.now) c.args.end.now.wire s.world c.args.wires.now c.in-Some.item refl s.stand s.fits (sym c.take.ensures.value ∙ c.in-Some.is) c.requires.goes_on)

pub returns-in-Done-clause-stands : goal.returns-in-Done-clause-stands
returns-in-Done-clause-stands g c world past stand o =
    let some = sym c.take.ensures.value ∙ c.in-Some.is in
    let after = c.in-Done.ensures.after in
    on_wires_self (c.args.end.now.wire ∷ []) [] c.args.wires.now world past _ c.args.end.now.wire stand
    (out_sent c.args.end.now _ _ (world c.args.end.now.wire) c.in-Some.item o some c.requires.goes_on c.take.ensures.after (ap (λ (s : Sending). s.lane) after) (ap (λ (s : Sending). s.sent) after) (may_send c.args.end.now (lanes_of c.args.wires.now) c.args.end.now.wire world c.args.wires.now c.in-Some.item refl stand o some c.requires.goes_on) c.closes-closes.ensures)

pub returns-in-Full-clause-stands : goal.returns-in-Full-clause-stands
returns-in-Full-clause-stands g c world past stand o =
    let some = sym c.take.ensures.value ∙ c.in-Some.is in
    let after = c.in-Full.ensures.after in
    let back = c.in-Full.ensures.back in
    on_wires_self (c.args.end.now.wire ∷ []) [] c.args.wires.now world past _ c.args.end.now.wire stand
    (out_looked c.args.end.now _ _ (world c.args.end.now.wire) o (ap (λ (x : Item). Some x) back ∙ sym some) refl c.requires.goes_on (ap (λ (s : Sending). s.lane) after) (ap (λ (s : Sending). s.sent) after))

pub returns-in-Finished-clause-stands : goal.returns-in-Finished-clause-stands
returns-in-Finished-clause-stands g c world past stand o =
    let after = c.in-Finished.ensures.after in
    out_told c.args.end.now _ _ world c.args.end.now.wire past _ o refl (ap (λ (s : Sending). is_some s.told) after) (ap (λ (s : Sending). s.lane) after) (ap (λ (s : Sending). s.sent) after) (c.finish.ensures.finished world stand)

pub returns-in-Done-clause-sends : goal.returns-in-Done-clause-sends
returns-in-Done-clause-sends g c = sent_item c.args.end.now _ c.in-Some.item c.requires.goes_on (ap (λ (s : Sending). s.sent) c.in-Done.ensures.after) c.closes-closes.ensures.1

pub returns-in-Done-clause-moved : goal.returns-in-Done-clause-moved
returns-in-Done-clause-moved g c t = inl (sent_differs _ _ c.in-Some.item (ap (λ (s : Sending). s.sent) c.in-Done.ensures.after))

pub returns-in-Full-clause-sends : goal.returns-in-Full-clause-sends
returns-in-Full-clause-sends g c = sent_none c.args.end.now _ c.requires.goes_on (ap (λ (s : Sending). s.sent) c.in-Full.ensures.after)

pub returns-in-Full-clause-still : goal.returns-in-Full-clause-still
returns-in-Full-clause-still g c n = (
  record {
    sent = ap (λ (s : Sending). s.sent) c.in-Full.ensures.after;
    done = refl;
    held = ap (λ (x : Item). Some x) c.in-Full.ensures.back ∙ sym (sym c.take.ensures.value ∙ c.in-Some.is);
  },
  refl,
)

pub returns-in-Finished-clause-sends : goal.returns-in-Finished-clause-sends
returns-in-Finished-clause-sends g c = sent_none c.args.end.now _ c.requires.goes_on (ap (λ (s : Sending). s.sent) c.in-Finished.ensures.after)

pub returns-then-puts-gt-MOST_ITEMS-clause-why : goal.returns-then-puts-gt-MOST_ITEMS-clause-why
returns-then-puts-gt-MOST_ITEMS-clause-why g c n = inr (inr (let many = c.if-puts-gt-MOST_ITEMS.true in let is = c.puts.ensures in omega (arith, many, is)))

pub returns-in_default-clause-why : goal.returns-in_default-clause-why
returns-in_default-clause-why g c n = inl c.take.ensures.after

pub returns-in-Full-clause-why : goal.returns-in-Full-clause-why
returns-in-Full-clause-why g c n = inr (inl (c.in-Full.item, refl, c.in-Full.ensures.after, c.in-Full.ensures.full))
