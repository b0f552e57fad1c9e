-- What known bytes are after several appends.
use Rattle.std.proofs.Common.{◌≡◌, List, ℕ, ◌++◌, Option, Some, None, append_assoc, ◌∙◌, ap}
use Rattle.std.specs.Io.KnownBytes.{Appends}
use Rattle.ff_lists.specs.Appends.{AppendsPrefix}

pub grows : (old mid new : Option (List ℕ)) (a b : List ℕ) → Appends old mid a → Appends mid new b → Appends old new (a ++ b)
grows None mid new a b c d = tt
grows (Some x) None new a b c d = absurd c
grows (Some x) (Some y) None a b c d = absurd d
grows (Some x) (Some y) (Some z) a b c d = d ∙ ap (λ m. m ++ b) c ∙ append_assoc x a b

pub front_after : (old mid new : Option (List ℕ)) (a b c whole : List ℕ) → Appends old mid a → AppendsPrefix mid new b → whole ≡ (a ++ b) ++ c → AppendsPrefix old new whole
front_after None mid new a b c whole d p e = tt
front_after (Some x) None new a b c whole d p e = absurd d
front_after (Some x) (Some y) None a b c whole d p e = absurd p
front_after (Some x) (Some y) (Some z) a b c whole d p e = (
  a ++ p.0,
  p.1 ++ c,
  e ∙ ap (λ m. (a ++ m) ++ c) p.2 ∙ simp append_assoc,
  p.3 ∙ ap (λ m. m ++ p.0) d ∙ append_assoc x a p.0,
)

-- a front of a front
pub front_of : (old new : Option (List ℕ)) (a b whole : List ℕ) → AppendsPrefix old new a → whole ≡ a ++ b → AppendsPrefix old new whole
front_of None new a b whole p e = tt
front_of (Some x) None a b whole p e = absurd p
front_of (Some x) (Some z) a b whole p e = (p.0, p.1 ++ b, e ∙ ap (λ m. m ++ b) p.2 ∙ append_assoc p.0 p.1 b, p.3)
