-- An item is taken in, put, or taken out.
use Rattle.std.proofs.Common.{◌≡◌, true, false, List, [], ◌∷◌, ◌++◌, cond, refl, ap, ◌∙◌}
use Rattle.ff_stream.specs.declared.item.Item.{Item}
use Rattle.ff_stream.specs.declared.item.Item.TheVariants.{Audio, Video, Packet, Trailer, End, Broken}
use Rattle.ff_filter.specs.declared.after.After.{After}
use Rattle.ff_filter.specs.declared.after.After.TheVariants.{More, Whole, Broke}
use Rattle.ff_filter.specs.Joins.{Flow, before, before_all, before_all-last}
use Rattle.ff_filter.specs.Views.{closes, none_closes}
use Rattle.ff_filter.specs.Made.{is_over, waiting}

pub put_in : (queue queue' : List Item) (after : After) (x : Item) → is_over after ≡ false → queue' ≡ queue ++ x ∷ [] → (t : Flow) → waiting queue' after t ≡ waiting queue after (before x t)
put_in queue queue' More x o e t = ap (λ (xs : List Item). before_all xs t) e ∙ before_all-last queue x t
put_in queue queue' Whole x o e t = cc
put_in queue queue' Broke x o e t = cc

pub none_closes-last : (queue : List Item) (x : Item) → none_closes queue ≡ true → closes x ≡ false → none_closes (queue ++ x ∷ []) ≡ true
none_closes-last [] x q c = rw c refl
none_closes-last (y ∷ ys) x q c = at (closes y) q (λ h. none_closes-last ys x h c)
  where
    at : (b : _) → cond b false (none_closes ys) ≡ true → (none_closes ys ≡ true → none_closes (ys ++ x ∷ []) ≡ true) → cond b false (none_closes (ys ++ x ∷ [])) ≡ true
    at true e h = cc
    at false e h = h e

pub none_closes-first : (x : Item) (xs : List Item) → none_closes (x ∷ xs) ≡ true → closes x ≡ false
none_closes-first (Audio f) xs e = refl
none_closes-first (Video f) xs e = refl
none_closes-first (Packet p) xs e = refl
none_closes-first (Trailer p) xs e = refl
none_closes-first End xs e = cc
none_closes-first Broken xs e = cc

pub none_closes-rest : (x : Item) (xs : List Item) → none_closes (x ∷ xs) ≡ true → none_closes xs ≡ true
none_closes-rest (Audio f) xs e = e
none_closes-rest (Video f) xs e = e
none_closes-rest (Packet p) xs e = e
none_closes-rest (Trailer p) xs e = e
none_closes-rest End xs e = cc
none_closes-rest Broken xs e = cc

pub none_closes-to : (queue queue' : List Item) (x : Item) → queue' ≡ queue ++ x ∷ [] → none_closes queue ≡ true → closes x ≡ false → none_closes queue' ≡ true
none_closes-to queue queue' x e q c = ap (λ (xs : List Item). none_closes xs) e ∙ none_closes-last queue x q c
