-- Lists that differ right above those with which they begin.
use Rattle.std.proofs.Common.{◌≡◌, ℕ, zero, suc, ◌≤◌, Bool, true, false, [], ◌∷◌, ◌++◌, length, take, refl, sym, ap, ◌∙◌, subst, arith, ◌⊎◌, inl, inr}
use Rattle.std.specs.Prelude.{Contains}
use Rattle.pt_instr.specs.declared.kinds.Kind.{Kind}
use Rattle.pt_instr.specs.Effects.{Kinds}
use Rattle.pt_kinds.specs.Forest.{Begins}
use Rattle.pt_kinds.specs.Common.{IsCommon}
use Rattle.pt_kind_flow.specs.declared.edges.Edge.{Edge}
use Rattle.pt_kind_flow.specs.Flow as F
use Rattle.pt_kind_flow.specs.Flow.{raised, led_by, given, led, Graph, edges_at, Comes, ComesSome, Part, IsExact}
use Rattle.pt_kind_flow.proofs.Beginnings.{Starts, starts, begins, begins_same}

-- edges keep apart what is apart, or what is apart is cut off

abbrev Led : (n : ℕ) (given : Kinds) (r : Bool) (ks one other : Kinds) → Type 0
Led n given r ks one other = Part (led_by n given r ks) (led_by n given r one) (led_by n given r other)
    ⊎ (led_by n given r one ≡ led_by n given r ks)

behind_part : (given ks one other : Kinds) → Part ks one other → Part (given ++ ks) (given ++ one) (given ++ other)
behind_part [] ks one other p = p
behind_part (g ∷ given) ks one other p = (refl, (refl, behind_part given ks one other p))

same_raised : (r : Bool) (k m : Kind) (ks ls : Kinds) → m ≡ k → raised r (k ∷ ks) ≡ raised r (m ∷ ls)
same_raised false k m ks ls e = refl
same_raised true k m ks ls e = ap (λ x. x ∷ []) (sym e)

pub led_part : (n : ℕ) (given : Kinds) (r : Bool) (ks one other : Kinds) → Part ks one other → Led n given r ks one other
led_part zero given false [] (k ∷ one) (l ∷ other) p = inr refl
led_part zero given true [] (k ∷ one) (l ∷ other) p = inl (behind_part given [] (k ∷ []) (l ∷ []) p)
led_part zero given r (m ∷ ks) (k ∷ one) (l ∷ other) p = inr (ap (λ xs. given ++ xs) (same_raised r k m one ks p.0))
led_part (suc n) given r [] (k ∷ one) (l ∷ other) p = inl p
led_part (suc n) given r (m ∷ ks) (k ∷ one) (l ∷ other) p = elim (led_part n given r ks one other p.1.1) [
  | inl q ↦ inl (p.0, (p.1.0, q))
  | inr e ↦ inr (ap (λ x. x ∷ led_by n given r one) (sym p.0) ∙ ap (λ xs. m ∷ xs) e)
]
led_part n given r [] [] other p = absurd p
led_part n given r (m ∷ ks) [] other p = absurd p
led_part n given r [] (k ∷ one) [] p = absurd p
led_part n given r (m ∷ ks) (k ∷ one) [] p = absurd p

-- what two lists have in common is one of them, or they part there
abbrev Common : (ks ls xs : Kinds) → Type 0
Common ks ls xs = (xs ≡ ks) ⊎ ((xs ≡ ls) ⊎ Part xs ks ls)

abbrev head_or : Kind → Kinds → Kind
head_or d [] = d
head_or d (k ∷ ks) = k

abbrev tail : Kinds → Kinds
tail [] = []
tail (k ∷ ks) = ks

common_part : (n : ℕ) (ks ls : Kinds) → n ≤ length ks → n ≤ length ls → take n ks ≡ take n ls
    → ((m : ℕ) → m ≤ length ks → m ≤ length ls → take m ks ≡ take m ls → m ≤ n) → Common ks ls (take n ks)
common_part zero [] ls h g same most = inl refl
common_part zero (k ∷ ks) [] h g same most = inr (inl refl)
common_part zero (k ∷ ks) (l ∷ ls) h g same most = inr (inr (λ e. absurd (let m : 1 ≤ 0 = most 1 (omega arith) (omega arith) (ap (λ x. x ∷ []) e) in omega (arith, m))))
common_part (suc n) [] ls h g same most = absurd (omega (arith, h))
common_part (suc n) (k ∷ ks) [] h g same most = absurd (omega (arith, g))
common_part (suc n) (k ∷ ks) (l ∷ ls) h g same most =
    let first : k ≡ l = ap (head_or k) same in
    elim (common_part n ks ls (omega (arith, h)) (omega (arith, g)) (ap tail same)
    (λ m i j e. let r = most (suc m) (omega (arith, i)) (omega (arith, j)) (ap (λ x. x ∷ take m ks) first ∙ ap (λ xs. l ∷ xs) e) in omega (arith, r))) [
      | inl e ↦ inl (ap (λ xs. k ∷ xs) e)
      | inr (inl e) ↦ inr (inl (ap (λ x. x ∷ take n ks) first ∙ ap (λ xs. l ∷ xs) e))
      | inr (inr p) ↦ inr (inr (refl, (first, p)))
    ]

pub common_parts : (ks ls : Kinds) (n : ℕ) → IsCommon ks ls n → Common ks ls (take n ks)
common_parts ks ls n c = common_part n ks ls c.inside.0 c.inside.1 c.same c.most

-- longer lists part where those part with which they begin
part_longer : (xs ks ls one other : Kinds) → Part xs ks ls → Starts ks one → Starts ls other → Part xs one other
part_longer [] (k ∷ ks) (l ∷ ls) (a ∷ one) (c ∷ other) p s t = λ e. p (s.0 ∙ (e ∙ sym t.0))
part_longer (x ∷ xs) (k ∷ ks) (l ∷ ls) (a ∷ one) (c ∷ other) p s t =
    (p.0 ∙ s.0, (p.1.0 ∙ t.0, part_longer xs ks ls one other p.1.1 s.1 t.1))
part_longer [] [] ls one other p s t = absurd p
part_longer (x ∷ xs) [] ls one other p s t = absurd p
part_longer [] (k ∷ ks) [] one other p s t = absurd p
part_longer (x ∷ xs) (k ∷ ks) [] one other p s t = absurd p
part_longer xs (k ∷ ks) (l ∷ ls) [] other p s t = absurd s
part_longer xs (k ∷ ks) (l ∷ ls) (a ∷ one) [] p s t = absurd t

-- what both begin with is no longer
part_longest : (x ks one other : Kinds) → Part ks one other → Starts x one → Starts x other → Starts x ks
part_longest [] ks one other p s t = tt
part_longest (a ∷ x) [] (k ∷ one) (l ∷ other) p s t = absurd (p (sym s.0 ∙ t.0))
part_longest (a ∷ x) (m ∷ ks) (k ∷ one) (l ∷ other) p s t = (s.0 ∙ sym p.0, part_longest x ks one other p.1.1 s.1 t.1)
part_longest (a ∷ x) ks [] other p s t = absurd s
part_longest (a ∷ x) ks (k ∷ one) [] p s t = absurd t

part_starts : (ks one other : Kinds) → Part ks one other → Starts ks one
part_starts [] one other p = tt
part_starts (m ∷ ks) (k ∷ one) (l ∷ other) p = (p.0, part_starts ks one other p.1.1)
part_starts (m ∷ ks) [] other p = absurd p
part_starts (m ∷ ks) (k ∷ one) [] p = absurd p

-- no longer list begins all that come

pub exact_starts : (g : Graph) (v : ℕ) (ks : Kinds) → IsExact g v ks → (one : Kinds) × (Comes g v one × Starts ks one)
exact_starts g v ks (F.whole c) = (ks, (c, starts ks ks (begins_same ks)))
exact_starts g v ks (F.parts {one} {other} c d p) = (one, (c, part_starts ks one other p))

pub exact_some : (g : Graph) (v : ℕ) (ks : Kinds) → IsExact g v ks → ComesSome g v
exact_some g v ks x = let (one, (c, s)) = exact_starts g v ks x in record { kinds = one; comes = c }

pub exact_longest : (g : Graph) (v : ℕ) (ks : Kinds) → IsExact g v ks → (x : Kinds) → ((ls : Kinds) → Comes g v ls → Begins x ls) → Begins x ks
exact_longest g v ks (F.whole c) x h = h ks c
exact_longest g v ks (F.parts {one} {other} c d p) x h =
    begins x ks (part_longest x ks one other p (starts x one (h one c)) (starts x other (h other d)))

pub exact_more : (g g' : Graph) (v : ℕ) (ks ls : Kinds) → ((u : ℕ) (ms : Kinds) → Comes g u ms → Comes g' u ms) → ks ≡ ls → IsExact g v ks → IsExact g' v ls
exact_more g g' v ks ls more e x = subst (IsExact g' v) e (on x)
  where
    on : IsExact g v ks → IsExact g' v ks
    on (F.whole c) = F.whole (more v ks c)
    on (F.parts {one} {other} c d p) = F.parts (more v one c) (more v other d) p

-- what comes along an edge
pub exact_led : (g : Graph) (v : ℕ) (ks : Kinds) (e : Edge) → IsExact g v ks → Contains (edges_at g.edges v) e → IsExact g e.to (led e ks)
exact_led g v ks e (F.whole c) edge = F.whole (F.goes c edge)
exact_led g v ks e (F.parts {one} {other} c d p) edge = elim (led_part e.keeps (given e) e.raises ks one other p) [
  | inl q ↦ F.parts (F.goes c edge) (F.goes d edge) q
  | inr same ↦ F.whole (subst (Comes g e.to) same (F.goes c edge))
]

pub exact_common : (g : Graph) (v : ℕ) (ks ls : Kinds) (count : ℕ) → IsExact g v ks → IsExact g v ls → IsCommon ks ls count → IsExact g v (take count ks)
exact_common g v ks ls count x y c = elim (common_parts ks ls count c) [
  | inl e ↦ subst (IsExact g v) (sym e) x
  | inr (inl e) ↦ subst (IsExact g v) (sym e) y
  | inr (inr p) ↦ (let (one, (d, s)) = exact_starts g v ks x in let (other, (f, t)) = exact_starts g v ls y in
      F.parts d f (part_longer (take count ks) ks ls one other p s t))
]
