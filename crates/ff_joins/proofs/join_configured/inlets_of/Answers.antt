use Rattle.std.proofs.Common.{rules, ◌≡◌, ◌<◌, ◌++◌, ◌∷◌, [], ◌∙◌, ℕ, ℤ, List, take, ap, sym, subst, arith, length}
use Rattle.ff_frame.specs.declared.head.StreamHead.{StreamHead}
use Rattle.ff_filter.specs.declared.after.After.{After}
use Rattle.ff_filter.specs.declared.after.After.TheVariants.{More}
use Rattle.ff_joins.specs.declared.sound_inlet.SoundInlet.{SoundInlet}
use Rattle.ff_joins.specs.JoinOptions.{channels_of}
use Rattle.ff_joins.specs.JoinView.{AreEmpty}
use Rattle.ff_joins.specs.laws.Lots.{Lot, lot_of}
use Rattle.ff_joins.proofs.JoinStarting.{long_more, heads_next, empty_more}
use Rattle.ff_joins.proofs.join_configured.inlets_of.Goals as goal

pub push_reserved-requires : goal.push_reserved-requires
push_reserved-requires c = let a = c.inlets.invariant.count in let b = c.inlets.invariant.room in omega (arith, a, b)

pub inlets-preserved : goal.inlets-preserved
inlets-preserved c =
    let hs = c.args.heads.now in
    let p = c.inlets.p in
    let is = c.inlets.inlets.items in
    let i = c.new.result in
    let h = c.index-heads-p.result in
    let lt : p < length hs = omega arith in
    let head : i.head ≡ h = search rules in
    let lot : ℕ → ℕ → List ℤ → After → Lot = λ n k xs a. record { channels = n; count = k; samples = xs; after = a } in
    let empty : lot_of i ≡ record { channels = channels_of h; count = 0; samples = []; after = More } =
    ap (λ (g : StreamHead). lot (channels_of g) i.count i.samples i.after) head
    ∙ (ap (λ (k : ℕ). lot (channels_of h) k i.samples i.after) c.new.ensures.count
    ∙ (ap (λ (xs : List ℤ). lot (channels_of h) 0 xs i.after) c.new.ensures.samples ∙ ap (λ (a : After). lot (channels_of h) 0 [] a) c.new.ensures.after)) in
    let items = c.push_reserved.ensures.items in
    record {
      empty = subst (λ (gs : List StreamHead). AreEmpty gs c.push_reserved.new.self.items) (sym (heads_next hs p h lt c.index-heads-p.is))
          (subst (λ (js : List SoundInlet). AreEmpty (take p hs ++ h ∷ []) js) (sym items) (empty_more (take p hs) is h i c.inlets.invariant.empty head empty));
      count = let a = long_more is i in let b = ap (λ (js : List SoundInlet). length js) items in let d = c.inlets.invariant.count in omega (arith, a, b, d);
      room = let a = c.inlets.invariant.room in let b = c.push_reserved.ensures.capacity in omega (arith, a, b);
    }
