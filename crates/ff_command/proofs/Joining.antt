-- A text that is made part by part.
use Rattle.std.proofs.Common.{◌≡◌, ℕ, List, [], ◌++◌, ap, ◌∙◌, append_assoc}

two : (o p q a b : List ℕ) → p ≡ o ++ a → q ≡ p ++ b → q ≡ o ++ (a ++ b)
two o p q a b e f = f ∙ (ap (λ x. x ++ b) e ∙ append_assoc o a b)

pub ten_parts : (a b c d e f g h i j o0 o1 o2 o3 o4 o5 o6 o7 o8 o9 o10 : List ℕ) → o0 ≡ [] → o1 ≡ o0 ++ a → o2 ≡ o1 ++ b → o3 ≡ o2 ++ c → o4 ≡ o3 ++ d → o5 ≡ o4 ++ e → o6 ≡ o5 ++ f → o7 ≡ o6 ++ g → o8 ≡ o7 ++ h → o9 ≡ o8 ++ i → o10 ≡ o9 ++ j
    → o10 ≡ a ++ (b ++ (c ++ (d ++ (e ++ (f ++ (g ++ (h ++ (i ++ j))))))))
ten_parts a b c d e f g h i j o0 o1 o2 o3 o4 o5 o6 o7 o8 o9 o10 e0 e1 e2 e3 e4 e5 e6 e7 e8 e9 e10 =
    two o0 o1 o10 a (b ++ (c ++ (d ++ (e ++ (f ++ (g ++ (h ++ (i ++ j)))))))) e1
    (two o1 o2 o10 b (c ++ (d ++ (e ++ (f ++ (g ++ (h ++ (i ++ j))))))) e2
    (two o2 o3 o10 c (d ++ (e ++ (f ++ (g ++ (h ++ (i ++ j)))))) e3
    (two o3 o4 o10 d (e ++ (f ++ (g ++ (h ++ (i ++ j))))) e4
    (two o4 o5 o10 e (f ++ (g ++ (h ++ (i ++ j)))) e5
    (two o5 o6 o10 f (g ++ (h ++ (i ++ j))) e6
    (two o6 o7 o10 g (h ++ (i ++ j)) e7
    (two o7 o8 o10 h (i ++ j) e8
    (two o8 o9 o10 i j e9 e10))))))))
    ∙ ap (λ x. x ++ (a ++ (b ++ (c ++ (d ++ (e ++ (f ++ (g ++ (h ++ (i ++ j)))))))))) e0

-- behind what was there
pub four_parts : (a b c d o0 o1 o2 o3 o4 : List ℕ) → o1 ≡ o0 ++ a → o2 ≡ o1 ++ b → o3 ≡ o2 ++ c → o4 ≡ o3 ++ d → o4 ≡ o0 ++ (a ++ (b ++ (c ++ d)))
four_parts a b c d o0 o1 o2 o3 o4 e1 e2 e3 e4 = two o0 o1 o4 a (b ++ (c ++ d)) e1 (two o1 o2 o4 b (c ++ d) e2 (two o2 o3 o4 c d e3 e4))
