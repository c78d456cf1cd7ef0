-- How far two lists are the same, by runs.
use Rattle.std.proofs.Common.{◌≡◌, ℕ, zero, suc, ◌+◌, ◌-◌, ◌<◌, ◌≤◌, Bool, true, false, List, [], ◌∷◌, ◌++◌, length, take, replicate, Some, refl, sym, ap, ◌∙◌, subst, arith, append_assoc, length-append, ◌⊎◌, inl, inr}
use Rattle.std.specs.Prelude.{slice_get, MatchBool}
use Rattle.std.proofs.lemmas.List.{length-replicate, length-take-le, take-take}
use Rattle.std.proofs.lemmas.Option.{same_Some}
use Rattle.pt_instr.specs.declared.kinds.Kind.{Kind}
use Rattle.pt_instr.specs.Effects.{Kinds}
use Rattle.pt_kinds.specs.declared.forest.Node.{Node}
use Rattle.pt_kinds.specs.declared.forest.Forest.{Forest}
use Rattle.pt_kinds.specs.declared.common.RunUpon.{RunUpon}
use Rattle.pt_kinds.specs.Forest.{list_at, IsApart, IsForest, IsRoot, IsFloor}
use Rattle.pt_kinds.specs.Common.{IsCommon, IsRunAt, IsSameRun, list_of_run}
use Rattle.pt_kinds.proofs.RunLemmas.{replicate_last, same_runs, get_last}
use Rattle.pt_kinds.proofs.ForestLemmas.{are_distinct}
use Rattle.pt_kinds.proofs.WayLemmas.{floor_whole, floor_behind, floor_part, low_inside}

abbrev run_upon : ℕ → ℕ → Kind → RunUpon
run_upon p c k = record { parent = p; count = c; kind = k }

long_run : (ps : Kinds) (c : ℕ) (k : Kind) → length (ps ++ replicate c k) ≡ length ps + c
long_run ps c k = length-append ps (replicate c k) ∙ ap (λ n. length ps + n) (length-replicate c k)

module _ (f : Forest) (is : IsForest f) where
  node_run : (i : ℕ) (n : Node) → slice_get f.nodes.items i ≡ Some n → (list_at f i ≡ list_at f n.parent ++ replicate n.count n.kind)
      × ((0 < n.count → IsApart (list_at f n.parent) n.kind) × (n.count ≡ 0 → list_at f n.parent ≡ []))
  node_run zero n e = (
    is.first.none ∙ sym (ap (λ ks. ks ++ replicate n.count n.kind) nil ∙ ap (λ c. replicate c n.kind) r.count),
    ((λ h. absurd (let z = r.count in omega (arith, h, z))), (λ z. nil)),
  )
    where
      r : IsRoot n
      r = subst IsRoot (same_Some is.first.node n (sym is.first.stands ∙ e)) is.first.root

      nil : list_at f n.parent ≡ []
      nil = ap (λ j. list_at f j) r.parent ∙ is.first.none
  node_run (suc i) n e = let r = is.each (suc i) n (omega arith) e in (r.is, ((λ h. r.apart), (λ z. absurd (let s = r.some in omega (arith, s, z)))))

  module _ (list depth i : ℕ) (floor : IsFloor f list depth i) (n : Node) (e : slice_get f.nodes.items i ≡ Some n) where
    pub run_whole : n.length ≤ depth → IsRunAt f list depth (run_upon n.parent n.count n.kind)
    run_whole h = let r = node_run i n e in record {
      is = sym (floor_whole f is list depth i floor n e h).is ∙ r.0;
      inside = low_inside f is i n floor.inside e;
      apart = r.1.0;
      none = r.1.1;
    }

    pub run_part : depth < n.length → (below count : ℕ) → below ≡ length (list_at f n.parent) → count ≡ depth - below → IsRunAt f list depth (run_upon n.parent count n.kind)
    run_part h below count b d = let p = floor_part f is list depth i floor n e h below b in record {
      is = sym p.1 ∙ ap (λ c. list_at f n.parent ++ replicate c n.kind) (sym d);
      inside = low_inside f is i n floor.inside e;
      apart = λ some. (is.each i n (floor_behind f is list depth i floor n e h) e).apart;
      none = λ z. absurd (let l = p.0 in omega (arith, l, z, d));
    }

  -- two runs make one list exactly where they are the same
  module _ (one other : RunUpon) where
    none_of : (r : RunUpon) → (r.count ≡ 0 → list_at f r.parent ≡ []) → r.count ≡ 0 → list_of_run f r ≡ []
    none_of r none z = ap (λ ks. ks ++ replicate r.count r.kind) (none z) ∙ ap (λ c. replicate c r.kind) z

    long_of : (r : RunUpon) → list_of_run f r ≡ [] → r.count ≡ 0
    long_of r e = let l : 0 ≡ length (list_at f r.parent) + r.count = sym (ap (λ ks. length ks) e) ∙ long_run (list_at f r.parent) r.count r.kind in omega (arith, l)

    module _ (list other_list depth : ℕ) (a : IsRunAt f list depth one) (b : IsRunAt f other_list depth other) where
      same_lists : IsSameRun one other → list_of_run f one ≡ list_of_run f other
      same_lists s = elim s.rest [
        | inl z ↦ none_of one a.none z ∙ sym (none_of other b.none (sym s.count ∙ z))
        | inr (p, k) ↦ ap (λ i. list_at f i ++ replicate one.count one.kind) p ∙ (ap (λ c. list_at f other.parent ++ replicate c one.kind) s.count
            ∙ ap (λ x. list_at f other.parent ++ replicate other.count x) k)
      ]

      same_run : list_of_run f one ≡ list_of_run f other → IsSameRun one other
      same_run e = by_counts one.count other.count refl refl
        where
          by_counts : (c d : ℕ) → one.count ≡ c → other.count ≡ d → IsSameRun one other
          by_counts zero d g h = record { count = g ∙ sym (long_of other (sym e ∙ none_of one a.none g)); rest = inl g }
          by_counts (suc c) zero g h = absurd (let z = long_of one (e ∙ none_of other b.none h) in omega (arith, z, g))
          by_counts (suc c) (suc d) g h =
              let r = same_runs one.count other.count (list_at f one.parent) (list_at f other.parent) one.kind other.kind (omega (arith, g)) (omega (arith, h))
              (a.apart (omega (arith, g))) (b.apart (omega (arith, h))) e in
              record { count = r.1.0; rest = inr (are_distinct f is one.parent other.parent a.inside b.inside r.0, r.1.1) }

      pub told_agree : (t : Bool) → MatchBool t (IsSameRun one other) (IsSameRun one other → ⊥)
          → MatchBool t (take depth (list_at f list) ≡ take depth (list_at f other_list)) (take depth (list_at f list) ≡ take depth (list_at f other_list) → ⊥)
      told_agree true s = a.is ∙ (same_lists s ∙ sym b.is)
      told_agree false s = λ e. s (same_run (sym a.is ∙ (e ∙ b.is)))

get_take : {X : Type 0} (n : ℕ) (xs : List X) → slice_get (take (suc n) xs) n ≡ slice_get xs n
get_take zero [] = refl
get_take zero (x ∷ xs) = refl
get_take (suc n) [] = refl
get_take (suc n) (x ∷ xs) = get_take n xs

get_top : (ps : Kinds) (c : ℕ) (k : Kind) → slice_get (ps ++ replicate (suc c) k) (length ps + c) ≡ Some k
get_top ps c k = ap (λ ks. slice_get (ps ++ ks) (length ps + c)) (replicate_last c k) ∙ (ap (λ ks. slice_get ks (length ps + c)) (sym (append_assoc ps (replicate c k) (k ∷ [])))
    ∙ subst (λ n. slice_get ((ps ++ replicate c k) ++ k ∷ []) n ≡ Some k) (long_run ps c k) (get_last (ps ++ replicate c k) k))

pub slot_is : (f : Forest) (list at : ℕ) (run : RunUpon) → at < length (list_at f list) → IsRunAt f list (at + 1) run → Some run.kind ≡ slice_get (list_at f list) at
slot_is f list at run h r = by_count run.count refl
  where
    e : take (suc at) (list_at f list) ≡ list_of_run f run
    e = subst (λ n. take n (list_at f list) ≡ list_of_run f run) (let z : at + 1 ≡ suc at = omega arith in z) r.is

    long : suc at ≡ length (list_at f run.parent) + run.count
    long = sym (length-take-le (suc at) (list_at f list) (omega (arith, h))) ∙ (ap (λ ks. length ks) e ∙ long_run (list_at f run.parent) run.count run.kind)

    by_count : (c : ℕ) → run.count ≡ c → Some run.kind ≡ slice_get (list_at f list) at
    by_count zero z = absurd (let l = long in let n : length (list_at f run.parent) ≡ 0 = ap (λ ks. length ks) (r.none z) in omega (arith, l, n, z))
    by_count (suc c) z = sym (sym (get_take at (list_at f list)) ∙ (ap (λ ks. slice_get ks at) (e ∙ ap (λ m. list_at f run.parent ++ replicate m run.kind) z)
        ∙ subst (λ n. slice_get (list_at f run.parent ++ replicate (suc c) run.kind) n ≡ Some run.kind) (let l = long in omega (arith, l, z)) (get_top (list_at f run.parent) c run.kind)))

-- the search for how far two lists are the same
pub record IsCommonWithin (ks ls : Kinds) (low high : ℕ) : Type 0 where
  pub order : low ≤ high
  pub inside : (high ≤ length ks) × (high ≤ length ls)
  pub same : take low ks ≡ take low ls
  pub most : (n : ℕ) → n ≤ length ks → n ≤ length ls → take n ks ≡ take n ls → n ≤ high

take_none : (ks : Kinds) → take 0 ks ≡ []
take_none [] = refl
take_none (k ∷ ks) = refl

pub common_start : (ks ls : Kinds) (high : ℕ) → high ≤ length ks → high ≤ length ls → ((n : ℕ) → n ≤ length ks → n ≤ length ls → n ≤ high) → IsCommonWithin ks ls 0 high
common_start ks ls high h k m = record { order = omega arith; inside = (h, k); same = take_none ks ∙ sym (take_none ls); most = λ n a b e. m n a b }

less_same : (ks ls : Kinds) (m n : ℕ) → m ≤ n → take n ks ≡ take n ls → take m ks ≡ take m ls
less_same ks ls m n h e = sym (take-take m n ks h) ∙ (ap (λ xs. take m xs) e ∙ take-take m n ls h)

module _ (ks ls : Kinds) (low high : ℕ) (c : IsCommonWithin ks ls low high) (middle : ℕ) (above : low < middle) (under : middle ≤ high) where
  pub common_more : take middle ks ≡ take middle ls → IsCommonWithin ks ls middle high
  common_more e = record { order = under; inside = c.inside; same = e; most = c.most }

  pub common_less : (take middle ks ≡ take middle ls → ⊥) → (below : ℕ) → below + 1 ≡ middle → IsCommonWithin ks ls low below
  common_less ne below b = record {
    order = omega (arith, above, b);
    inside = let i = c.inside in (omega (arith, i.0, under, b), omega (arith, i.1, under, b));
    same = c.same;
    most = λ n h k e. by_order n e (nat_order n middle);
  }
    where
      nat_order : (n m : ℕ) → (n < m) ⊎ (m ≤ n)
      nat_order n zero = inr (omega arith)
      nat_order zero (suc m) = inl (omega arith)
      nat_order (suc n) (suc m) = elim (nat_order n m) [ inl h ↦ inl (omega (arith, h)) | inr h ↦ inr (omega (arith, h)) ]

      by_order : (n : ℕ) → take n ks ≡ take n ls → (n < middle) ⊎ (middle ≤ n) → n ≤ below
      by_order n e (inl h) = omega (arith, h, b)
      by_order n e (inr h) = absurd (ne (less_same ks ls middle n h e))

pub common_end : (ks ls : Kinds) (low high : ℕ) → IsCommonWithin ks ls low high → high ≤ low → IsCommon ks ls low
common_end ks ls low high c h = record {
  inside = let i = c.inside in let o = c.order in (omega (arith, i.0, o), omega (arith, i.1, o));
  same = c.same;
  most = λ n a b e. let m = c.most n a b e in omega (arith, m, h);
}

-- the shorter list is the beginning of the other
pub common_whole : (ks ls : Kinds) (high : ℕ) → high ≤ length ks → high ≤ length ls → ((n : ℕ) → n ≤ length ks → n ≤ length ls → n ≤ high) → take high ks ≡ take high ls → IsCommon ks ls high
common_whole ks ls high h k m e = record { inside = (h, k); same = e; most = λ n a b _. m n a b }
