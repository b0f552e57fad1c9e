-- A graph of filters behind limits is behind limits.
use Rattle.std.proofs.Common.{◌≡◌, ℕ, zero, suc, ◌<◌, ◌≤◌, ◌==◌, ◌||◌, Bool, true, false, if◌then◌else◌, List, [], ◌∷◌, length, slice_get, Option, None, Some, refl, ap, sym, ◌∙◌, subst, ◌⊎◌, inl, inr, arith}
use Rattle.std.proofs.lemmas.Bool.Decides.{nat_tests}
use Rattle.ff_stream.specs.declared.item.Lane.{Lane}
use Rattle.ff_stream.specs.Stream.{LiesBelow, opened, broken}
use Rattle.ff_stream.specs.Ports.{nothing, stream_at, AllUnbroken, IsUnbroken}
use Rattle.ff_stream.specs.laws.Order.{below_self, below_trans}
use Rattle.ff_stream.specs.Lanes.{IsValid}
use Rattle.ff_stream.specs.laws.LaneLaws.{nothing_valid}
use Rattle.ff_net.specs.Ways.{lane_at, IsValidOn, AreValid}
use Rattle.ff_filter.specs.Joins.{Flow, Ports, EachBelow, all_opened}
use Rattle.ff_filter.specs.Views.{View}
use Rattle.ff_node_filter.specs.Tasks.{listed, ported}
use Rattle.ff_node_filter.specs.laws.StandLaws.{stream_at-listed, stream_at-beyond, listed_below}
use Rattle.ff_node_filter.specs.Limiting.{IsLimited}
use Rattle.ff_graph_links.specs.declared.pads.drawn.Pad.{Pad}
use Rattle.ff_graph_dag.specs.wiring.Flows.{Flows, no_flows, pad_place, stream_into, streams_into, with_outputs, flows_from, source_at}
use Rattle.ff_graph_dag.specs.wiring.Limits.{flows_at, Takes, Suits, AreLimited, cuts_from, Leave}

some_same : {A : Type 0} (x y : A) → Some x ≡ Some y → x ≡ y
some_same x y e = cc

no_some : {A B : Type 0} (x : A) → None ≡ Some x → B
no_some x e = cc

lane_below : (ls : List Lane) (i : ℕ) (l : Lane) → lane_at ls i ≡ Some l → i < length ls
lane_below [] i l e = no_some l e
lane_below (m ∷ ls) zero l e = omega arith
lane_below (m ∷ ls) (suc i) l e = let h : i < length ls = lane_below ls i l e in omega arith

lane_above : (ls : List Lane) (i : ℕ) → lane_at ls i ≡ None → length ls ≤ i
lane_above [] i e = omega arith
lane_above (m ∷ ls) zero e = cc
lane_above (m ∷ ls) (suc i) e = let h : length ls ≤ i = lane_above ls i e in omega arith

either : (a b : Bool) → (a || b) ≡ true → (a ≡ true) ⊎ (b ≡ true)
either true b e = inl refl
either false b e = inr e

or_left : (a b : Bool) → a ≡ true → (a || b) ≡ true
or_left true b e = refl
or_left false b e = cc

or_right : (a b : Bool) → b ≡ true → (a || b) ≡ true
or_right true b e = refl
or_right false b e = e

neither : (a b : Bool) → (a || b) ≡ false → (a ≡ false) × (b ≡ false)
neither true b e = cc
neither false b e = (refl, e)

-- pad by pad
abbrev pub FlowsBelow : Flows → Flows → Type 0
FlowsBelow f g = (p : Pad) → LiesBelow (f p) (g p)

abbrev pub FlowsCalm : Flows → Flows → Type 0
FlowsCalm f g = (p : Pad) → LiesBelow (opened (f p)) (g p)

at_below : (os : List Pad) (f g : Flows) → FlowsBelow f g → EachBelow (flows_at os f) (flows_at os g)
at_below [] f g h q = below_self nothing
at_below (p ∷ os) f g h zero = h p
at_below (p ∷ os) f g h (suc q) = at_below os f g h q

at_calm : (os : List Pad) (f g : Flows) → FlowsCalm f g → EachBelow (all_opened (flows_at os f)) (flows_at os g)
at_calm [] f g h q = below_self nothing
at_calm (p ∷ os) f g h zero = h p
at_calm (p ∷ os) f g h (suc q) = at_calm os f g h q

pub at_got : (os : List Pad) (f : Flows) (q : ℕ) (p : Pad) → slice_get os q ≡ Some p → flows_at os f q ≡ f p
at_got [] f q p e = no_some p e
at_got (o ∷ os) f zero p e = ap f (some_same o p e)
at_got (o ∷ os) f (suc q) p e = at_got os f q p e

with_below : (k : ℕ) (a b : Ports) (f g : Flows) → EachBelow a b → FlowsBelow f g → FlowsBelow (with_outputs k a f) (with_outputs k b g)
with_below k a b f g h i p = at (p.filter == k)
  where
    at : (c : Bool) → LiesBelow (if c then a p.pad else f p) (if c then b p.pad else g p)
    at true = h p.pad
    at false = i p

with_calm : (k : ℕ) (a b : Ports) (f g : Flows) → EachBelow (all_opened a) b → FlowsCalm f g → FlowsCalm (with_outputs k a f) (with_outputs k b g)
with_calm k a b f g h i p = at (p.filter == k)
  where
    at : (c : Bool) → LiesBelow (opened (if c then a p.pad else f p)) (if c then b p.pad else g p)
    at true = h p.pad
    at false = i p

module _ (sources : List (List (Option Pad))) (opens : List Pad) where
  into_below : (e d : Ports) (f g : Flows) → EachBelow e d → FlowsBelow f g → (k : ℕ) → EachBelow (streams_into sources opens e f k) (streams_into sources opens d g k)
  into_below e d f g h i k j = at (source_at sources k j)
    where
      at : (o : Option (Option Pad)) → LiesBelow (stream_into opens e f (record { filter = k; pad = j }) o) (stream_into opens d g (record { filter = k; pad = j }) o)
      at None = below_self nothing
      at (Some None) = h (pad_place opens (record { filter = k; pad = j }))
      at (Some (Some from)) = i from

  into_calm : (e d : Ports) (f g : Flows) → EachBelow (all_opened e) d → FlowsCalm f g → (k : ℕ)
      → EachBelow (all_opened (streams_into sources opens e f k)) (streams_into sources opens d g k)
  into_calm e d f g h i k j = at (source_at sources k j)
    where
      at : (o : Option (Option Pad)) → LiesBelow (opened (stream_into opens e f (record { filter = k; pad = j }) o))
          (stream_into opens d g (record { filter = k; pad = j }) o)
      at None = below_self nothing
      at (Some None) = h (pad_place opens (record { filter = k; pad = j }))
      at (Some (Some from)) = i from

  module _ (ins : List Lane) (lanes : Pad → Option Lane) where
    flows_below : (ks : List ℕ) (vs : List View) (cs : List (List Flow → Bool)) → AreLimited sources opens ins lanes ks vs cs
        → (e d : Ports) (f g : Flows) → EachBelow e d
        → FlowsBelow f g → FlowsBelow (flows_from sources opens e f ks vs) (flows_from sources opens d g ks vs)
    flows_below [] vs cs l e d f g h i = i
    flows_below (k ∷ ks) [] cs l e d f g h i = i
    flows_below (k ∷ ks) (v ∷ vs) [] l e d f g h i = absurd l
    flows_below (k ∷ ks) (v ∷ vs) (c ∷ cs) l e d f g h i =
        let a : Ports = streams_into sources opens e f k in
        let b : Ports = streams_into sources opens d g k in
        flows_below ks vs cs l.2 e d (with_outputs k (v.rest a) f) (with_outputs k (v.rest b) g) h
        (with_below k (v.rest a) (v.rest b) f g (l.1.grows a b (into_below e d f g h i k)) i)

    flows_calm : (ks : List ℕ) (vs : List View) (cs : List (List Flow → Bool)) → AreLimited sources opens ins lanes ks vs cs
        → (e d : Ports) (f g : Flows) → EachBelow (all_opened e) d
        → FlowsCalm f g → FlowsCalm (flows_from sources opens e f ks vs) (flows_from sources opens d g ks vs)
    flows_calm [] vs cs l e d f g h i = i
    flows_calm (k ∷ ks) [] cs l e d f g h i = i
    flows_calm (k ∷ ks) (v ∷ vs) [] l e d f g h i = absurd l
    flows_calm (k ∷ ks) (v ∷ vs) (c ∷ cs) l e d f g h i =
        let a : Ports = streams_into sources opens e f k in
        let b : Ports = streams_into sources opens d g k in
        flows_calm ks vs cs l.2 e d (with_outputs k (v.rest a) f) (with_outputs k (v.rest b) g) h
        (with_calm k (v.rest a) (v.rest b) f g
        (λ q. below_trans (opened (v.rest a q)) (v.rest (all_opened a) q) (v.rest b q) (l.1.hides a q) (l.1.grows (all_opened a) b (into_calm e d f g h i k) q)) i)

    abbrev pub ValidIn : Ports → Type 0
    ValidIn e = (q : ℕ) (l : Lane) → lane_at ins q ≡ Some l → IsValid l (e q)

    abbrev pub ValidAll : Flows → Type 0
    ValidAll f = (p : Pad) (l : Lane) → lanes p ≡ Some l → IsValid l (f p)

    abbrev pub UnbrokenAll : Flows → Type 0
    UnbrokenAll f = (p : Pad) (l : Lane) → lanes p ≡ Some l → IsUnbroken (f p)

    -- one filter
    module _ (k : ℕ) (v : View) (s : Suits sources opens ins lanes k v) (e : Ports) (f : Flows) where
      abbrev pub come : Ports
      come = streams_into sources opens e f k

      abbrev pub came : List Flow
      came = listed (length v.ins) come

      listed_as : (i : ℕ) → stream_at came i ≡ come i
      listed_as i = at (source_at sources k i) refl (s.takes i)
        where
          at : (o : Option (Option Pad)) → source_at sources k i ≡ o → Takes ins opens lanes (record { filter = k; pad = i }) (lane_at v.ins i) o
              → stream_at came i ≡ come i
          at None is t = stream_at-beyond (length v.ins) come i (lane_above v.ins i t)
              ∙ sym (ap (λ (o : Option (Option Pad)). stream_into opens e f (record { filter = k; pad = i }) o) is)
          at (Some None) is t = stream_at-listed (length v.ins) come i (lane_below v.ins i t.0 t.2)
          at (Some (Some from)) is t = stream_at-listed (length v.ins) come i (lane_below v.ins i t.0 t.2)

      all_listed : stream_at came ≡ come
      all_listed = λ j i. listed_as i j

      into_valid : ValidIn e → ValidAll f → AreValid v.ins came
      into_valid h g i = at (source_at sources k i) refl (s.takes i)
        where
          at : (o : Option (Option Pad)) → source_at sources k i ≡ o → Takes ins opens lanes (record { filter = k; pad = i }) (lane_at v.ins i) o
              → IsValidOn (lane_at v.ins i) (stream_at came i)
          at None is t = subst (λ (a : Option Lane). IsValidOn a (stream_at came i)) (sym t) (stream_at-beyond (length v.ins) come i (lane_above v.ins i t))
          at (Some None) is t = subst (λ (a : Option Lane). IsValidOn a (stream_at came i)) (sym t.2)
              (subst (λ (r : Flow). IsValid t.0 r)
              (sym (listed_as i ∙ ap (λ (o : Option (Option Pad)). stream_into opens e f (record { filter = k; pad = i }) o) is))
              (h (pad_place opens (record { filter = k; pad = i })) t.0 t.1))
          at (Some (Some from)) is t = subst (λ (a : Option Lane). IsValidOn a (stream_at came i)) (sym t.2)
              (subst (λ (r : Flow). IsValid t.0 r)
              (sym (listed_as i ∙ ap (λ (o : Option (Option Pad)). stream_into opens e f (record { filter = k; pad = i }) o) is)) (g from t.0 t.1))

      into_unbroken : ((q : ℕ) → IsUnbroken (e q)) → UnbrokenAll f → AllUnbroken came
      into_unbroken h g i = subst (λ (r : Flow). IsUnbroken r) (sym (listed_as i)) (at (source_at sources k i) (s.takes i))
        where
          at : (o : Option (Option Pad)) → Takes ins opens lanes (record { filter = k; pad = i }) (lane_at v.ins i) o
              → IsUnbroken (stream_into opens e f (record { filter = k; pad = i }) o)
          at None t = λ b. cc
          at (Some None) t = h (pad_place opens (record { filter = k; pad = i }))
          at (Some (Some from)) t = g from t.0 t.1

      own_lane : (p : Pad) (l : Lane) → (p.filter == k) ≡ true → lanes p ≡ Some l → lane_at v.outs p.pad ≡ Some l
      own_lane p l q is =
          let x : p.filter ≡ k = grind (arith, nat_tests) in
          sym (s.gives p.pad) ∙ (ap (λ (n : ℕ). lanes (record { filter = n; pad = p.pad })) (sym x) ∙ is)

      next_valid : (c : List Flow → Bool) → IsLimited v.ins v.outs v.rest c → ValidIn e → ValidAll f → ValidAll (with_outputs k (v.rest come) f)
      next_valid c lim h g p l is = at (p.filter == k) refl
        where
          at : (b : Bool) → (p.filter == k) ≡ b → IsValid l (if b then v.rest come p.pad else f p)
          at true q =
              let lane : lane_at v.outs p.pad ≡ Some l = own_lane p l q is in
              let kept : IsValidOn (lane_at v.outs p.pad) (stream_at (ported (length v.outs) v.rest came) p.pad) = lim.keeps came (into_valid h g) p.pad in
              subst (λ (r : Flow). IsValid l r)
              (stream_at-listed (length v.outs) (v.rest (stream_at came)) p.pad (lane_below v.outs p.pad l lane) ∙ ap (λ (r : Ports). v.rest r p.pad) all_listed)
              (subst (λ (a : Option Lane). IsValidOn a (stream_at (ported (length v.outs) v.rest came) p.pad)) lane kept)
          at false q = g p l is

      next_unbroken : (c : List Flow → Bool) → IsLimited v.ins v.outs v.rest c → c came ≡ false → ValidIn e → ValidAll f → ((q : ℕ) → IsUnbroken (e q)) → UnbrokenAll f
          → UnbrokenAll (with_outputs k (v.rest come) f)
      next_unbroken c lim off h g u w p l is = at (p.filter == k) refl
        where
          at : (b : Bool) → (p.filter == k) ≡ b → IsUnbroken (if b then v.rest come p.pad else f p)
          at true q = λ x.
              let lane : lane_at v.outs p.pad ≡ Some l = own_lane p l q is in
              let cut : c came ≡ true = lim.breaks came p.pad (lane_below v.outs p.pad l lane) (into_valid h g) (into_unbroken u w)
              (ap (λ (r : Ports). (v.rest r p.pad).mark) all_listed ∙ x) in
              let no : true ≡ false = sym cut ∙ off in
              cc
          at false q = w p l is

    flows_valid : (ks : List ℕ) (vs : List View) (cs : List (List Flow → Bool)) → AreLimited sources opens ins lanes ks vs cs
        → (e : Ports) (f : Flows) → ValidIn e → ValidAll f
        → ValidAll (flows_from sources opens e f ks vs)
    flows_valid [] vs cs l e f h g = g
    flows_valid (k ∷ ks) [] cs l e f h g = g
    flows_valid (k ∷ ks) (v ∷ vs) [] l e f h g = absurd l
    flows_valid (k ∷ ks) (v ∷ vs) (c ∷ cs) l e f h g =
        flows_valid ks vs cs l.2 e (with_outputs k (v.rest (streams_into sources opens e f k)) f) h (next_valid k v l.0 e f c l.1 h g)

    -- a cut stays a cut
    cuts_stay : (ks : List ℕ) (vs : List View) (cs : List (List Flow → Bool)) → AreLimited sources opens ins lanes ks vs cs
        → (e d : Ports) (f g : Flows) → EachBelow e d
        → FlowsBelow f g → ValidIn e → ValidIn d → ValidAll f → ValidAll g → cuts_from sources opens e f ks vs cs ≡ true → cuts_from sources opens d g ks vs cs ≡ true
    cuts_stay [] vs cs l e d f g h i x y m n k = k
    cuts_stay (k ∷ ks) [] cs l e d f g h i x y m n t = t
    cuts_stay (k ∷ ks) (v ∷ vs) [] l e d f g h i x y m n t = absurd l
    cuts_stay (k ∷ ks) (v ∷ vs) (c ∷ cs) l e d f g h i x y m n t =
        let a : Ports = streams_into sources opens e f k in
        let b : Ports = streams_into sources opens d g k in
        let below : EachBelow a b = into_below e d f g h i k in
        let more : Bool = cuts_from sources opens d (with_outputs k (v.rest b) g) ks vs cs in
        elim (either (c (listed (length v.ins) a)) (cuts_from sources opens e (with_outputs k (v.rest a) f) ks vs cs) t) as
        (λ _. (c (listed (length v.ins) b) || more) ≡ true) [
          | inl z ↦ or_left (c (listed (length v.ins) b)) more (l.1.stays (listed (length v.ins) a) (listed (length v.ins) b)
              (into_valid k v l.0 e f x m) (into_valid k v l.0 d g y n)
              (listed_below (length v.ins) a b below) z)
          | inr z ↦ or_right (c (listed (length v.ins) b)) more (cuts_stay ks vs cs l.2 e d (with_outputs k (v.rest a) f) (with_outputs k (v.rest b) g) h
              (with_below k (v.rest a) (v.rest b) f g (l.1.grows a b below) i) x y (next_valid k v l.0 e f c l.1 x m) (next_valid k v l.0 d g c l.1 y n) z)
        ]

    -- where nothing cuts, nothing breaks
    flows_unbroken : (ks : List ℕ) (vs : List View) (cs : List (List Flow → Bool)) → AreLimited sources opens ins lanes ks vs cs
        → (e : Ports) (f : Flows) → ValidIn e → ValidAll f
        → ((q : ℕ) → IsUnbroken (e q)) → UnbrokenAll f → cuts_from sources opens e f ks vs cs ≡ false → UnbrokenAll (flows_from sources opens e f ks vs)
    flows_unbroken [] vs cs l e f h g u w t = w
    flows_unbroken (k ∷ ks) [] cs l e f h g u w t = w
    flows_unbroken (k ∷ ks) (v ∷ vs) [] l e f h g u w t = absurd l
    flows_unbroken (k ∷ ks) (v ∷ vs) (c ∷ cs) l e f h g u w t =
        let a : Ports = streams_into sources opens e f k in
        let n = neither (c (listed (length v.ins) a)) (cuts_from sources opens e (with_outputs k (v.rest a) f) ks vs cs) t in
        flows_unbroken ks vs cs l.2 e (with_outputs k (v.rest a) f) h (next_valid k v l.0 e f c l.1 h g) u (next_unbroken k v l.0 e f c l.1 n.0 h g u w) n.1

    module _ (outs : List Lane) (os : List Pad) (leave : Leave lanes os outs) (ks : List ℕ) (vs : List View) (cs : List (List Flow → Bool))
        (l : AreLimited sources opens ins lanes ks vs cs) where
      abbrev pub graph : Ports → Ports
      graph e = flows_at os (flows_from sources opens e no_flows ks vs)

      abbrev pub cuts : List Flow → Bool
      cuts ss = cuts_from sources opens (stream_at ss) no_flows ks vs cs

      none_valid : ValidAll no_flows
      none_valid p m e = nothing_valid m

      none_unbroken : UnbrokenAll no_flows
      none_unbroken p m e = λ b. cc

      given_valid : (ss : List Flow) → AreValid ins ss → ValidIn (stream_at ss)
      given_valid ss v q m e = subst (λ (a : Option Lane). IsValidOn a (stream_at ss q)) e (v q)

      keeps : (ss : List Flow) → AreValid ins ss → AreValid outs (ported (length outs) graph ss)
      keeps ss v q = at (lane_at outs q) refl
        where
          at : (o : Option Lane) → lane_at outs q ≡ o → IsValidOn o (stream_at (ported (length outs) graph ss) q)
          at None e = stream_at-beyond (length outs) (graph (stream_at ss)) q (lane_above outs q e)
          at (Some m) e =
              let p = leave q m e in
              subst (λ (r : Flow). IsValid m r)
              (sym (stream_at-listed (length outs) (graph (stream_at ss)) q (lane_below outs q m e)
              ∙ at_got os (flows_from sources opens (stream_at ss) no_flows ks vs) q p.0 p.1))
              (flows_valid ks vs cs l (stream_at ss) no_flows (given_valid ss v) none_valid p.0 m p.2)

      lane_there : (ms : List Lane) (q : ℕ) → q < length ms → (m : Lane) × (lane_at ms q ≡ Some m)
      lane_there [] q lt = absurd (omega arith)
      lane_there (m ∷ ms) zero lt = (m, refl)
      lane_there (m ∷ ms) (suc q) lt = lane_there ms q (omega arith)

      breaks : (ss : List Flow) (q : ℕ) → q < length outs → AreValid ins ss → AllUnbroken ss → (graph (stream_at ss) q).mark ≡ broken → cuts ss ≡ true
      breaks ss q lt v u e = at (cuts ss) refl
        where
          at : (b : Bool) → cuts ss ≡ b → cuts ss ≡ true
          at true k = k
          at false k =
              let m = lane_there outs q lt in
              let p = leave q m.0 m.1 in
              absurd (flows_unbroken ks vs cs l (stream_at ss) no_flows (given_valid ss v) none_valid u none_unbroken k p.0 m.0 p.2
              (sym (ap (λ (r : Flow). r.mark) (at_got os (flows_from sources opens (stream_at ss) no_flows ks vs) q p.0 p.1)) ∙ e))

      pub graph_limited : IsLimited ins outs (λ e. flows_at os (flows_from sources opens e no_flows ks vs))
          (λ ss. cuts_from sources opens (stream_at ss) no_flows ks vs cs)
      graph_limited = record {
        grows = λ e d h. at_below os (flows_from sources opens e no_flows ks vs) (flows_from sources opens d no_flows ks vs)
            (flows_below ks vs cs l e d no_flows no_flows h (λ p. below_self nothing));
        hides = λ e. at_calm os (flows_from sources opens e no_flows ks vs) (flows_from sources opens (all_opened e) no_flows ks vs)
            (flows_calm ks vs cs l e (all_opened e) no_flows no_flows (λ q. below_self (opened (e q))) (λ p. below_self nothing));
        keeps = keeps;
        stays = λ rs ss v w b t. cuts_stay ks vs cs l (stream_at rs) (stream_at ss) no_flows no_flows b (λ p. below_self nothing) (given_valid rs v) (given_valid ss w)
            none_valid none_valid t;
        breaks = breaks;
      }
