-- Where what still comes on an input changes nothing that a filter still gives, nothing more of it matters to the machine.
use Rattle.std.specs.Prelude.{◌≡◌, ◌≢◌, ℕ, ◌<◌, ◌==◌, Bool, true, false, cond, List, length}
use Rattle.std.proofs.Common.{refl, ap, sym, ◌∙◌, arith}
use Rattle.std.proofs.lemmas.Bool.Decides.{nat_tests}
use Rattle.ff_stream.specs.Ports.{stream_at, AllBelow}
use Rattle.ff_net.specs.Pasts.{Past}
use Rattle.ff_net.specs.laws.Laws.{NoMatter}
use Rattle.ff_filter.specs.Joins.{Flow, Ports, joined, all_joined, below_rest}
use Rattle.ff_filter.specs.Views.{View}
use Rattle.ff_node_filter.specs.Tasks.{Stands}
use Rattle.ff_node_filter.specs.laws.StandLaws.{stream_at-listed, goes_on}
use Rattle.ff_graph_dag.proofs.Spending.{SameElse}

-- what comes after some streams, port by port
abbrev rest_of : (rs ss : List Flow) → AllBelow rs ss → Ports
rest_of rs ss b i = (below_rest (stream_at rs i) (stream_at ss i) (b i)).0

-- the same, but for one port
abbrev rest_at : ℕ → Ports → Ports → Ports
rest_at p here others i = cond (i == p) (here i) (others i)

module _ (v : View) (hurt long : Bool) (past : Past) (s : Stands v hurt long past) (p : ℕ)
    (free : (ext ext' : Ports) → SameElse p ext ext' → (q : ℕ) → v.rest ext q ≡ v.rest ext' q) where
  means_at : (ss : List Flow) (q : ℕ) → q < length v.outs → stream_at (past.task.means ss) q ≡ s.f (stream_at ss) q
  means_at ss q lt = ap (λ (g : List Flow → List Flow). stream_at (g ss) q) s.means_is ∙ stream_at-listed (length v.outs) (s.f (stream_at ss)) q lt

  pub no_matter : NoMatter v.ins (length v.outs) past p
  no_matter ss ts vs vt bs bt same q lt on =
      means_at ss q lt ∙ (ap (λ (xs : Ports). s.f xs q) (sym first) ∙ (s.goes ext q lt wanted
      ∙ (ap (λ (t : Flow). joined (stream_at past.gave q) t) (free ext ext' others q)
      ∙ (sym (s.goes ext' q lt wanted) ∙ (ap (λ (xs : Ports). s.f xs q) second ∙ sym (means_at ts q lt))))))
    where
      ext : Ports
      ext = rest_of past.got ss bs

      ext' : Ports
      ext' = rest_at p (rest_of past.got ts bt) ext

      wanted : v.stopped q ≡ false
      wanted = goes_on v v hurt long past s q lt on

      others : SameElse p ext ext'
      others j n = let other : (j == p) ≡ false = grind (arith, nat_tests) in ap (λ (b : Bool). cond b (rest_of past.got ts bt j) (ext j)) (sym other)

      first : all_joined (stream_at past.got) ext ≡ stream_at ss
      first i q = (below_rest (stream_at past.got q) (stream_at ss q) (bs q)).1 i

      second_at : (i : ℕ) (b : Bool) → (i == p) ≡ b → joined (stream_at past.got i) (cond b (rest_of past.got ts bt i) (ext i)) ≡ stream_at ts i
      second_at i true b = (below_rest (stream_at past.got i) (stream_at ts i) (bt i)).1
      second_at i false b = let other : i ≢ p = grind (arith, nat_tests) in (below_rest (stream_at past.got i) (stream_at ss i) (bs i)).1 ∙ same i other

      second : all_joined (stream_at past.got) ext' ≡ stream_at ts
      second i q = second_at q (q == p) refl i
