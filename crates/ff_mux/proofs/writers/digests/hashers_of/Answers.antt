use Rattle.std.proofs.Common.{◌∷◌, [], ap, sym, subst, arith, length, length-append, List}
use Rattle.ff_mux.specs.laws.Hashers.{AllTaken, AreOfKind}
use Rattle.ff_mux.specs.declared.digest.Hasher.{Hasher}
use Rattle.ff_mux.proofs.StreamDigests.{kind_more, none_more}
use Rattle.ff_mux.proofs.writers.digests.hashers_of.Goals as goal

pub streams-preserved : goal.streams-preserved
streams-preserved c =
    let hs = c.streams.hashers.items in
    let h = c.new.result in
    let is = c.in_ok-push.ensures.items in
    let i = c.streams.invariant in record {
      inside = omega (arith, c.streams-test.true);
      len = omega (arith, i.len, ap {A = List Hasher} length is, length-append hs (h ∷ []));
      kinds = subst (λ (gs : List Hasher). AreOfKind c.args.kind gs) (sym {A = List Hasher} is) (kind_more c.args.kind hs h c.new.ensures.kind i.kinds);
      none = λ k. subst (λ (gs : List Hasher). AllTaken k gs []) (sym {A = List Hasher} is) (none_more hs k h c.new.ensures.none (i.none k));
    }
