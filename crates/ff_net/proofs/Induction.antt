-- From node to node upward.
use Rattle.std.proofs.Common.{◌≡◌, ◌≢◌, ℕ, zero, suc, ◌⊎◌, inl, inr, Bool, true, false, ◌==◌, if◌then◌else◌, List, [], ◌∷◌, ◌++◌, map, refl, ap, sym, ◌∙◌, subst, arith, Option, Some}
use Rattle.std.proofs.lemmas.Bool.Decides.{nat_tests}
use Rattle.ff_stream.specs.declared.item.Lane.{Lane}
use Rattle.ff_stream.specs.Stream.{LiesBelow, opened}
use Rattle.ff_stream.specs.laws.Order.{below_self, below_trans, opened_below, opened_keeps, unbroken_below, all_trans, all_opened_keeps, all_opened_twice}
use Rattle.ff_stream.specs.Ports.{nothing, stream_at, AllBelow, IsMonotone, IsCalm, IsUnbroken}
use Rattle.ff_net.specs.Ways.{Flow, lane_at, IsValidOn, AreValid}
use Rattle.ff_net.specs.Pasts.{IsIn}
use Rattle.ff_net.specs.Nets.{Part, put_all, solve_from, solve, IsUpward}
use Rattle.ff_net.specs.laws.Worlds.{Wire}
use Rattle.ff_net.proofs.Flows.{valid_on_below}
use Rattle.ff_net.proofs.Queues.{nothing_valid_on}

-- a part in a run, with a fault or without
pub record Placed : Type 0 where
  pub part : Part
  pub faulty : Bool

abbrev pub parts : List Placed → List Part
parts xs = map (λ x. x.part) xs

abbrev pub IsInputOf : List Placed → ℕ → Type 0
IsInputOf [] w = ⊥
IsInputOf (x ∷ xs) w = IsIn w x.part.ins ⊎ IsInputOf xs w

abbrev pub IsOutputOf : List Placed → ℕ → Type 0
IsOutputOf [] w = ⊥
IsOutputOf (x ∷ xs) w = IsIn w x.part.outs ⊎ IsOutputOf xs w

abbrev pub got_of : (ℕ → Wire) → Part → List Flow
got_of wires n = map (λ w. (wires w).taken) n.ins

abbrev pub gave_of : (ℕ → Wire) → Part → List Flow
gave_of wires n = map (λ w. (wires w).sent) n.outs

-- what holds of each node in each moment
pub record IsLawful (lanes : List Lane) (wires : ℕ → Wire) (n : Part) (faulty : Bool) : Type 0 where
  pub ins_lanes : map (lane_at lanes) n.ins ≡ map Some n.in_lanes
  pub outs_lanes : map (lane_at lanes) n.outs ≡ map Some n.out_lanes
  pub monotone : IsMonotone (AreValid n.in_lanes) n.means
  pub calm : IsCalm (AreValid n.in_lanes) n.means
  pub keeps : (ss : List Flow) → AreValid n.in_lanes ss → AreValid n.out_lanes (n.means ss)
  pub gives : faulty ≡ false → AllBelow (gave_of wires n) (n.means (got_of wires n))
  pub gives_opened : AllBelow (map opened (gave_of wires n)) (n.means (got_of wires n))
  pub breaks_nothing : faulty ≡ false → ((w : ℕ) → IsIn w n.ins → IsUnbroken (wires w).taken) → (w : ℕ) → IsIn w n.outs → IsUnbroken (wires w).sent

abbrev pub AreLawful : List Lane → (ℕ → Wire) → List Placed → Type 0
AreLawful lanes wires [] = Unit {0}
AreLawful lanes wires (x ∷ xs) = IsLawful lanes wires x.part x.faulty × AreLawful lanes wires xs

abbrev pub AreFaultless : List Placed → Type 0
AreFaultless [] = Unit {0}
AreFaultless (x ∷ xs) = (x.faulty ≡ false) × AreFaultless xs

-- the nodes are lawful, their edges go upward, and what was taken from a wire is the beginning of what was sent
pub record IsNet (lanes : List Lane) (xs : List Placed) (wires : ℕ → Wire) : Type 0 where
  pub lawful : AreLawful lanes wires xs
  pub upward : IsUpward [] (parts xs)
  pub ordered : (w : ℕ) → LiesBelow (wires w).taken (wires w).sent
  pub valid : (w : ℕ) → IsValidOn (lane_at lanes w) (wires w).sent

pub is_in-append : (w : ℕ) (xs ys : List ℕ) → IsIn w (xs ++ ys) → IsIn w xs ⊎ IsIn w ys
is_in-append w [] ys h = inr h
is_in-append w (x ∷ xs) ys (inl e) = inl (inl e)
is_in-append w (x ∷ xs) ys (inr h) = elim (is_in-append w xs ys h) [ inl a ↦ inl (inr a) | inr b ↦ inr b ]

is_in-right : (x : ℕ) (xs ys : List ℕ) → IsIn x ys → IsIn x (xs ++ ys)
is_in-right x [] ys i = i
is_in-right x (y ∷ xs) ys i = inr (is_in-right x xs ys i)

is_in-left : (x : ℕ) (xs ys : List ℕ) → IsIn x xs → IsIn x (xs ++ ys)
is_in-left x [] ys i = absurd i
is_in-left x (y ∷ xs) ys (inl e) = inl e
is_in-left x (y ∷ xs) ys (inr i) = inr (is_in-left x xs ys i)

choice : (v : ℕ → Flow) (o w : ℕ) (a b : Flow) (t : Bool) → (o == w) ≡ t → LiesBelow (v o) a → ((o ≢ w) → LiesBelow (v w) b) → LiesBelow (v w) (if t then a else b)
choice v o w a b true e h k =
    let same : o ≡ w = grind (arith, nat_tests) in
    subst (λ (x : ℕ). LiesBelow (v x) a) same h
choice v o w a b false e h k =
    let other : o ≢ w = grind (arith, nat_tests) in
    k other

put_below : (v σ : ℕ → Flow) (os : List ℕ) (gives : ℕ → Flow) (w : ℕ) → ((p : ℕ) → LiesBelow (stream_at (map v os) p) (gives p)) → IsIn w os ⊎ LiesBelow (v w) (σ w) → LiesBelow (v w) (put_all os gives σ w)
put_below v σ [] gives w h (inl n) = absurd n
put_below v σ [] gives w h (inr b) = b
put_below v σ (o ∷ os) gives w h k =
    choice v o w (gives 0) (put_all os (λ p. gives (suc p)) σ w) (o == w) refl (h zero)
    (λ ne. put_below v σ os (λ p. gives (suc p)) w (λ p. h (suc p)) (elim k [ inl i ↦ elim i [ inl e ↦ absurd (ne e) | inr j ↦ inl j ] | inr b ↦ inr b ]))

-- streams on the edges that are valid stay so where a node's outputs are put on theirs
put_valid : (lanes : List Lane) (σ : ℕ → Flow) (os : List ℕ) (ports : List Lane) (gives : ℕ → Flow) → map (lane_at lanes) os ≡ map Some ports → ((p : ℕ) → IsValidOn (lane_at ports p) (gives p)) → ((w : ℕ) → IsValidOn (lane_at lanes w) (σ w)) → (w : ℕ) → IsValidOn (lane_at lanes w) (put_all os gives σ w)
put_valid lanes σ [] ports gives e h v w = v w
put_valid lanes σ (o ∷ os) [] gives e h v w = cc
put_valid lanes σ (o ∷ os) (l ∷ ls) gives e h v w =
    let here : lane_at lanes o ≡ Some l = cc (e) in
    let rest : map (lane_at lanes) os ≡ map Some ls = cc (e) in
    pick (o == w) refl here (put_valid lanes σ os ls (λ p. gives (suc p)) rest (λ p. h (suc p)) v w)
  where
    pick : (t : Bool) → (o == w) ≡ t → lane_at lanes o ≡ Some l → IsValidOn (lane_at lanes w) (put_all os (λ p. gives (suc p)) σ w) → IsValidOn (lane_at lanes w) (if t then gives 0 else put_all os (λ p. gives (suc p)) σ w)
    pick true t here rest = let same : o ≡ w = grind (arith, nat_tests) in subst (λ (x : ℕ). IsValidOn (lane_at lanes x) (gives 0)) same (subst (λ (m : Option Lane). IsValidOn m (gives 0)) (sym here) (h zero))
    pick false t here rest = rest

pub map_valid : (lanes : List Lane) (σ : ℕ → Flow) (ws : List ℕ) (ports : List Lane) → map (lane_at lanes) ws ≡ map Some ports → ((w : ℕ) → IsValidOn (lane_at lanes w) (σ w)) → AreValid ports (map σ ws)
map_valid lanes σ [] [] e v p = refl
map_valid lanes σ [] (l ∷ ls) e v p = cc
map_valid lanes σ (w ∷ ws) [] e v p = cc
map_valid lanes σ (w ∷ ws) (l ∷ ls) e v zero =
    let here : lane_at lanes w ≡ Some l = cc (e) in
    subst (λ (m : Option Lane). IsValidOn m (σ w)) here (v w)
map_valid lanes σ (w ∷ ws) (l ∷ ls) e v (suc p) = let rest : map (lane_at lanes) ws ≡ map Some ls = cc (e) in map_valid lanes σ ws ls rest v p

-- a view of the wires that a node respects: where what it reads is below, what it writes is below
abbrev Passes : (ℕ → Flow) → Part → Type 0
Passes v n = (σ : ℕ → Flow) → ((w : ℕ) → IsIn w n.ins → LiesBelow (v w) (σ w)) → AreValid n.in_lanes (map σ n.ins) → AllBelow (map v n.outs) (n.means (map σ n.ins))

abbrev AllPass : (ℕ → Flow) → List Placed → Type 0
AllPass v [] = Unit {0}
AllPass v (x ∷ xs) = Passes v x.part × AllPass v xs

module _ (lanes : List Lane) (wires : ℕ → Wire) where
  next_valid : (σ : ℕ → Flow) (n : Part) (faulty : Bool) → IsLawful lanes wires n faulty → ((w : ℕ) → IsValidOn (lane_at lanes w) (σ w)) → (w : ℕ) → IsValidOn (lane_at lanes w) (put_all n.outs (stream_at (n.means (map σ n.ins))) σ w)
  next_valid σ n faulty law v = put_valid lanes σ n.outs n.out_lanes (stream_at (n.means (map σ n.ins))) law.outs_lanes (law.keeps (map σ n.ins) (map_valid lanes σ n.ins n.in_lanes law.ins_lanes v)) v

  pub solve_valid : (σ : ℕ → Flow) (xs : List Placed) → AreLawful lanes wires xs → ((w : ℕ) → IsValidOn (lane_at lanes w) (σ w)) → (w : ℕ) → IsValidOn (lane_at lanes w) (solve_from σ (parts xs) w)
  solve_valid σ [] l v w = v w
  solve_valid σ (x ∷ xs) l v w = solve_valid (put_all x.part.outs (stream_at (x.part.means (map σ x.part.ins))) σ) xs l.1 (next_valid σ x.part x.faulty l.0 v) w

  -- what the nodes read and write is below
  climb : (v σ : ℕ → Flow) (xs : List Placed) (ws : List ℕ) → AllPass v xs → AreLawful lanes wires xs → IsUpward ws (parts xs) → ((w : ℕ) → IsIn w ws → LiesBelow (v w) (σ w)) → ((w : ℕ) → IsValidOn (lane_at lanes w) (σ w))
      → (w : ℕ) → IsIn w ws ⊎ IsInputOf xs w ⊎ IsOutputOf xs w → LiesBelow (v w) (solve_from σ (parts xs) w)
  climb v σ [] ws p l u h a w (inl i) = h w i
  climb v σ [] ws p l u h a w (inr k) = elim k [ inl n ↦ absurd n | inr n ↦ absurd n ]
  climb v σ (x ∷ xs) ws p l u h a w k =
      let n : Part = x.part in
      let σ' : ℕ → Flow = put_all n.outs (stream_at (n.means (map σ n.ins))) σ in
      let read : AreValid n.in_lanes (map σ n.ins) = map_valid lanes σ n.ins n.in_lanes l.0.ins_lanes a in
      let gives : AllBelow (map v n.outs) (n.means (map σ n.ins)) = p.0 σ (λ y i. h y (u.0 y i)) read in
      let h' : (y : ℕ) → IsIn y (n.outs ++ ws) → LiesBelow (v y) (σ' y) =
      λ y i. put_below v σ n.outs (stream_at (n.means (map σ n.ins))) y gives (elim (is_in-append y n.outs ws i) [ inl b ↦ inl b | inr b ↦ inr (h y b) ]) in
      climb v σ' xs (n.outs ++ ws) p.1 l.1 u.1 h' (next_valid σ n x.faulty l.0 a) w (go n.outs n.ins ws u.0 k)
    where
      go : (outs ins vs : List ℕ) → ((y : ℕ) → IsIn y ins → IsIn y vs) → IsIn w vs ⊎ (IsIn w ins ⊎ IsInputOf xs w) ⊎ (IsIn w outs ⊎ IsOutputOf xs w) → IsIn w (outs ++ vs) ⊎ IsInputOf xs w ⊎ IsOutputOf xs w
      go outs ins vs up (inl i) = inl (is_in-right w outs vs i)
      go outs ins vs up (inr j) = elim j [
        | inl b ↦ elim b [ inl i ↦ inl (is_in-right w outs vs (up w i)) | inr r ↦ inr (inl r) ]
        | inr b ↦ elim b [ inl o ↦ inl (is_in-left w outs vs o) | inr r ↦ inr (inr r) ]
      ]

  module _ (ord : (w : ℕ) → LiesBelow (wires w).taken (wires w).sent) (ok : (w : ℕ) → IsValidOn (lane_at lanes w) (wires w).sent) where
    taken_valid : (w : ℕ) → IsValidOn (lane_at lanes w) (wires w).taken
    taken_valid w = valid_on_below (lane_at lanes w) (wires w).taken (wires w).sent (ord w) (ok w)

    opened_valid : (w : ℕ) → IsValidOn (lane_at lanes w) (opened (wires w).taken)
    opened_valid w = valid_on_below (lane_at lanes w) (opened (wires w).taken) (wires w).taken (opened_below (wires w).taken) (taken_valid w)

    map_opened : (f : ℕ → Flow) (ws : List ℕ) → map opened (map f ws) ≡ map (λ w. opened (f w)) ws
    map_opened f [] = refl
    map_opened f (w ∷ ws) = ap (λ ss. opened (f w) ∷ ss) (map_opened f ws)

    map_below : (f σ : ℕ → Flow) (ws : List ℕ) → ((w : ℕ) → IsIn w ws → LiesBelow (f w) (σ w)) → AllBelow (map f ws) (map σ ws)
    map_below f σ [] k p = below_self nothing
    map_below f σ (w ∷ ws) k zero = k w (inl refl)
    map_below f σ (w ∷ ws) k (suc p) = map_below f σ ws (λ x i. k x (inr i)) p

    -- a node's law, for the wires as they were sent
    passes_exact : (n : Part) → IsLawful lanes wires n false → Passes (λ w. (wires w).sent) n
    passes_exact n law σ h read =
        all_trans (gave_of wires n) (n.means (got_of wires n)) (n.means (map σ n.ins)) (law.gives refl)
        (law.monotone (got_of wires n) (map σ n.ins) (map_valid lanes (λ w. (wires w).taken) n.ins n.in_lanes law.ins_lanes taken_valid) read
        (map_below (λ w. (wires w).taken) σ n.ins (λ w i. below_trans (wires w).taken (wires w).sent (σ w) (ord w) (h w i))))

    -- the same for the wires as one sees them who isn't told of a break
    passes_opened : (n : Part) (faulty : Bool) → IsLawful lanes wires n faulty → Passes (λ w. opened (wires w).sent) n
    passes_opened n faulty law σ h read =
        let got = got_of wires n in
        let gave = gave_of wires n in
        let got_ok : AreValid n.in_lanes got = map_valid lanes (λ w. (wires w).taken) n.ins n.in_lanes law.ins_lanes taken_valid in
        let opened_ok : AreValid n.in_lanes (map opened got) = subst (λ ss. AreValid n.in_lanes ss) (sym (map_opened (λ w. (wires w).taken) n.ins)) (map_valid lanes (λ w. opened (wires w).taken) n.ins n.in_lanes law.ins_lanes opened_valid) in
        let seen : AllBelow (map opened got) (map σ n.ins) = subst (λ ss. AllBelow ss (map σ n.ins)) (sym (map_opened (λ w. (wires w).taken) n.ins))
        (map_below (λ w. opened (wires w).taken) σ n.ins (λ w i. below_trans (opened (wires w).taken) (opened (wires w).sent) (σ w) (opened_keeps (wires w).taken (wires w).sent (ord w)) (h w i))) in
        let a : AllBelow (map opened (map opened gave)) (map opened (n.means got)) = all_opened_keeps (map opened gave) (n.means got) law.gives_opened in
        let b : AllBelow (map opened gave) (map opened (n.means got)) = subst (λ (ss : List Flow). AllBelow ss (map opened (n.means got))) (all_opened_twice gave) a in
        let c : AllBelow (map opened gave) (n.means (map opened got)) = all_trans (map opened gave) (map opened (n.means got)) (n.means (map opened got)) b (law.calm got got_ok) in
        let d : AllBelow (map opened gave) (n.means (map σ n.ins)) = all_trans (map opened gave) (n.means (map opened got)) (n.means (map σ n.ins)) c (law.monotone (map opened got) (map σ n.ins) opened_ok read seen) in
        subst (λ (ss : List Flow). AllBelow ss (n.means (map σ n.ins))) (map_opened (λ w. (wires w).sent) n.outs) d

    all_pass_exact : (xs : List Placed) → AreLawful lanes wires xs → AreFaultless xs → AllPass (λ w. (wires w).sent) xs
    all_pass_exact [] law fine = tt
    all_pass_exact (x ∷ xs) law fine = (passes_exact x.part (subst (λ (b : Bool). IsLawful lanes wires x.part b) fine.0 law.0), all_pass_exact xs law.1 fine.1)

    all_pass_opened : (xs : List Placed) → AreLawful lanes wires xs → AllPass (λ w. opened (wires w).sent) xs
    all_pass_opened [] law = tt
    all_pass_opened (x ∷ xs) law = (passes_opened x.part x.faulty law.0, all_pass_opened xs law.1)

    -- no break comes from nowhere
    unbroken : (xs : List Placed) (ws : List ℕ) → AreLawful lanes wires xs → AreFaultless xs → IsUpward ws (parts xs) → ((w : ℕ) → IsIn w ws → IsUnbroken (wires w).sent) → (w : ℕ) → IsInputOf xs w → IsUnbroken (wires w).sent
    unbroken [] ws law fine up h w i = absurd i
    unbroken (x ∷ xs) ws law fine up h w (inl i) = h w (up.0 w i)
    unbroken (x ∷ xs) ws law fine up h w (inr i) =
        let outs : (y : ℕ) → IsIn y x.part.outs → IsUnbroken (wires y).sent = law.0.breaks_nothing fine.0 (λ y j. unbroken_below (wires y).taken (wires y).sent (ord y) (h y (up.0 y j))) in
        unbroken xs (x.part.outs ++ ws) law.1 fine.1 up.1 (λ y j. elim (is_in-append y x.part.outs ws j) [ inl a ↦ outs y a | inr b ↦ h y b ]) w i

abbrev none : ℕ → Flow
none w = nothing

pub opened_solve : (lanes : List Lane) (xs : List Placed) (wires : ℕ → Wire) (w : ℕ) → IsNet lanes xs wires → IsInputOf xs w → LiesBelow (opened (wires w).taken) (solve (parts xs) w)
opened_solve lanes xs wires w net i =
    below_trans (opened (wires w).taken) (opened (wires w).sent) (solve (parts xs) w) (opened_keeps (wires w).taken (wires w).sent (net.ordered w))
    (climb lanes wires (λ y. opened (wires y).sent) none xs [] (all_pass_opened lanes wires net.ordered net.valid xs net.lawful) net.lawful net.upward (λ y n. absurd n) (λ y. nothing_valid_on (lane_at lanes y)) w (inr (inl i)))

pub exact_solve : (lanes : List Lane) (xs : List Placed) (wires : ℕ → Wire) (w : ℕ) → IsNet lanes xs wires → AreFaultless xs → IsInputOf xs w ⊎ IsOutputOf xs w → LiesBelow (wires w).sent (solve (parts xs) w)
exact_solve lanes xs wires w net fine i =
    climb lanes wires (λ y. (wires y).sent) none xs [] (all_pass_exact lanes wires net.ordered net.valid xs net.lawful fine) net.lawful net.upward (λ y n. absurd n) (λ y. nothing_valid_on (lane_at lanes y)) w (inr i)

pub sent_unbroken : (lanes : List Lane) (xs : List Placed) (wires : ℕ → Wire) (w : ℕ) → IsNet lanes xs wires → AreFaultless xs → IsInputOf xs w → IsUnbroken (wires w).sent
sent_unbroken lanes xs wires w net fine i = unbroken lanes wires net.ordered net.valid xs [] net.lawful fine net.upward (λ y n. absurd n) w i

put_other : (os : List ℕ) (gives σ : ℕ → Flow) (w : ℕ) → (IsIn w os → ⊥) → put_all os gives σ w ≡ σ w
put_other [] gives σ w n = refl
put_other (o ∷ os) gives σ w n = pick (o == w) refl (put_other os (λ p. gives (suc p)) σ w (λ i. n (inr i)))
  where
    pick : (b : Bool) → (o == w) ≡ b → put_all os (λ p. gives (suc p)) σ w ≡ σ w → (if b then gives 0 else put_all os (λ p. gives (suc p)) σ w) ≡ σ w
    pick true e rest = let same : o ≡ w = grind (arith, nat_tests) in absurd (n (inl same))
    pick false e rest = rest

solve_other : (xs : List Placed) (σ : ℕ → Flow) (w : ℕ) → (IsOutputOf xs w → ⊥) → solve_from σ (parts xs) w ≡ σ w
solve_other [] σ w n = refl
solve_other (x ∷ xs) σ w n = solve_other xs (put_all x.part.outs (stream_at (x.part.means (map σ x.part.ins))) σ) w (λ i. n (inr i)) ∙ put_other x.part.outs (stream_at (x.part.means (map σ x.part.ins))) σ w (λ i. n (inl i))

solve_append : (xs ys : List Placed) (σ : ℕ → Flow) (w : ℕ) → solve_from σ (parts (xs ++ ys)) w ≡ solve_from (solve_from σ (parts xs)) (parts ys) w
solve_append [] ys σ w = refl
solve_append (x ∷ xs) ys σ w = solve_append xs ys (put_all x.part.outs (stream_at (x.part.means (map σ x.part.ins))) σ) w

upward_first : (xs ys : List Placed) (ws : List ℕ) → IsUpward ws (parts (xs ++ ys)) → IsUpward ws (parts xs)
upward_first [] ys ws u = tt
upward_first (x ∷ xs) ys ws u = (u.0, upward_first xs ys (x.part.outs ++ ws) u.1)

comes_from : (xs ys : List Placed) (x : Placed) (ws : List ℕ) (w : ℕ) → IsUpward ws (parts (xs ++ x ∷ ys)) → IsIn w x.part.ins → IsIn w ws ⊎ IsOutputOf xs w
comes_from [] ys x ws w u i = inl (u.0 w i)
comes_from (y ∷ xs) ys x ws w u i =
    elim (comes_from xs ys x (y.part.outs ++ ws) w u.1 i) [ inl a ↦ elim (is_in-append w y.part.outs ws a) [ inl b ↦ inr (inl b) | inr c ↦ inl c ] | inr b ↦ inr (inr b) ]

lawful_first : (lanes : List Lane) (wires : ℕ → Wire) (xs ys : List Placed) → AreLawful lanes wires (xs ++ ys) → AreLawful lanes wires xs
lawful_first lanes wires [] ys l = tt
lawful_first lanes wires (x ∷ xs) ys l = (l.0, lawful_first lanes wires xs ys l.1)

-- at a node below which none has a fault
pub exact_before : (lanes : List Lane) (xs ys : List Placed) (x : Placed) (wires : ℕ → Wire) (w : ℕ) → IsNet lanes (xs ++ x ∷ ys) wires → AreFaultless xs → ((v : ℕ) → IsOutputOf xs v → IsOutputOf (x ∷ ys) v → ⊥) → IsIn w x.part.ins
    → LiesBelow (wires w).taken (solve (parts (xs ++ x ∷ ys)) w)
exact_before lanes xs ys x wires w net fine once i =
    let from : IsOutputOf xs w = elim (comes_from xs ys x [] w net.upward i) [ inl a ↦ absurd a | inr b ↦ b ] in
    let below : IsNet lanes xs wires = record { lawful = lawful_first lanes wires xs (x ∷ ys) net.lawful; upward = upward_first xs (x ∷ ys) [] net.upward; ordered = net.ordered; valid = net.valid } in
    let here : LiesBelow (wires w).sent (solve (parts xs) w) = exact_solve lanes xs wires w below fine (inr from) in
    let same : solve (parts (xs ++ x ∷ ys)) w ≡ solve (parts xs) w = solve_append xs (x ∷ ys) none w ∙ solve_other (x ∷ ys) (solve (parts xs)) w (λ o. once w from o) in
    below_trans (wires w).taken (wires w).sent (solve (parts (xs ++ x ∷ ys)) w) (net.ordered w) (subst (λ (s : Flow). LiesBelow (wires w).sent s) (sym same) here)
