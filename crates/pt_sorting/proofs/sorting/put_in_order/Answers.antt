-- A stable sort by an order in which any two values compare gives what putting one after another in its place gives.
use Rattle.std.proofs.Common.{◌≡◌, ◌∙◌, ◌++◌, ◌<◌, ◌≤◌, ℕ, suc, ℤ, Bool, true, false, cond, not, ◌&&◌, List, [], ◌∷◌, Option, Some, None, length, get_or, filter, int_lt, nat_lt, if◌then◌else◌, is_lt, int_cmp, Less, Equal, Greater, chars, refl, sym, ap, true≢false, append-nil, append_assoc, arith, rules}
use Rattle.std.specs.Bool.{⊤}
use Rattle.std.specs.Cmp.{IsStrictWeakOrder, int_cmp_total}
use Rattle.std.specs.List.Sorted.{IsSortedBy, IsStableBy, ties}
use Rattle.std.proofs.lemmas.Fn.{always_returns_same}
use Rattle.std.proofs.lemmas.List.Sorted.{sorted_far, IsStrictWeakOrder-by_number, ranks_by}
use Rattle.pt_heap.specs.declared.value.Value.{Value}
use Rattle.pt_heap.specs.declared.object.Object.{Object}
use Rattle.pt_content.specs.Operands.{text_of}
use Rattle.pt_comparisons.specs.Orders.{is_before}
use Rattle.pt_sorting.specs.declared.keys.Kind.{Kind}
use Rattle.pt_sorting.specs.declared.keys.Kind.TheVariants as kind
use Rattle.pt_sorting.specs.Keys.{items_of, key_before, number_before, number_of, plain_before, row_before, text_before}
use Rattle.pt_sorting.specs.Sorting.{put, sorted_behind, stands_before}
use Rattle.pt_sorting.proofs.sorting.put_in_order.Goals as goal

by-cmp : (a b : ℤ) → is_lt (int_cmp a b) ≡ int_lt a b
by-cmp a b = by (int_lt a b) (int_lt b a)
  where
    by : (p q : Bool) → is_lt (cond p Less (cond q Greater Equal)) ≡ p
    by true q = refl
    by false true = refl
    by false false = refl

int-order : IsStrictWeakOrder int_lt
int-order = record {
  one_way = λ x y h. sym (by-cmp y x) ∙ (ranks_by int_cmp_total (λ (z : ℤ). z)).one_way x y (by-cmp x y ∙ h);
  chain = λ x y z a b. sym (by-cmp x z) ∙ (ranks_by int_cmp_total (λ (z : ℤ). z)).chain x y z (by-cmp x y ∙ a) (by-cmp y z ∙ b);
}

nat-order : IsStrictWeakOrder nat_lt
nat-order = IsStrictWeakOrder-by_number (λ (n : ℕ). n)

-- by the first items, and where these tie by what is behind them
abbrev by_first : (before behind otherwise : Bool) → Bool
by_first a b c = if a then true else (if b then false else c)

first-one_way : (a b c d : Bool) → by_first a b c ≡ true → (a ≡ true → b ≡ false) → (c ≡ true → d ≡ false) → by_first b a d ≡ false
first-one_way true true c d h o k = absurd (true≢false (o refl))
first-one_way true false c d h o k = refl
first-one_way false true c d h o k = absurd (true≢false (sym h))
first-one_way false false c d h o k = k h

first-chain : (xy yx yz zy xz zx c d e : Bool) → by_first xy yx c ≡ false → by_first yz zy d ≡ false
    → (xy ≡ false → yz ≡ false → xz ≡ false) → (zx ≡ false → xy ≡ false → zy ≡ false) → (yz ≡ false → zx ≡ false → yx ≡ false)
    → (c ≡ false → d ≡ false → e ≡ false) → by_first xz zx e ≡ false
first-chain true yx yz zy xz zx c d e h i k l m n = absurd (true≢false h)
first-chain false yx true zy xz zx c d e h i k l m n = absurd (true≢false i)
first-chain false yx false zy true zx c d e h i k l m n = absurd (true≢false (k refl refl))
first-chain false yx false zy false true c d e h i k l m n = refl
first-chain false true false zy false false c d e h i k l m n = absurd (true≢false (m refl refl))
first-chain false false false true false false c d e h i k l m n = absurd (true≢false (l refl refl))
first-chain false false false false false false c d e h i k l m n = n h i

text-one_way : (s t : List ℕ) → is_before s t ≡ true → is_before t s ≡ false
text-one_way [] [] h = refl
text-one_way [] (d ∷ t) h = refl
text-one_way (c ∷ s) [] h = absurd (true≢false (sym h))
text-one_way (c ∷ s) (d ∷ t) h = first-one_way (nat_lt c d) (nat_lt d c) (is_before s t) (is_before t s) h (nat-order.one_way c d) (text-one_way s t)

text-chain : (s t u : List ℕ) → is_before s t ≡ false → is_before t u ≡ false → is_before s u ≡ false
text-chain [] t [] h i = refl
text-chain (c ∷ s) t [] h i = refl
text-chain s [] (e ∷ u) h i = absurd (true≢false i)
text-chain [] (d ∷ t) (e ∷ u) h i = absurd (true≢false h)
text-chain (c ∷ s) (d ∷ t) (e ∷ u) h i =
    first-chain (nat_lt c d) (nat_lt d c) (nat_lt d e) (nat_lt e d) (nat_lt c e) (nat_lt e c) (is_before s t) (is_before t u) (is_before s u)
    h i (nat-order.chain c d e) (nat-order.chain e c d) (nat-order.chain d e c) (text-chain s t u)

some-text-one_way : (s t : Option (List ℕ)) → text_before s t ≡ true → text_before t s ≡ false
some-text-one_way (Some s) (Some t) h = text-one_way (chars s) (chars t) h
some-text-one_way (Some s) None h = absurd (true≢false (sym h))
some-text-one_way None (Some t) h = refl
some-text-one_way None None h = absurd (true≢false (sym h))

some-text-chain : (s t u : Option (List ℕ)) → text_before s t ≡ false → text_before t u ≡ false → text_before s u ≡ false
some-text-chain (Some s) t None h i = refl
some-text-chain None t None h i = refl
some-text-chain (Some s) (Some t) (Some u) h i = text-chain (chars s) (chars t) (chars u) h i
some-text-chain (Some s) None (Some u) h i = absurd (true≢false i)
some-text-chain None (Some t) (Some u) h i = absurd (true≢false h)
some-text-chain None None (Some u) h i = absurd (true≢false i)

number-one_way : (a b : Option ℤ) (o p : Bool) → number_before a b o ≡ true → (o ≡ true → p ≡ false) → number_before b a p ≡ false
number-one_way (Some a) (Some b) o p h k = int-order.one_way a b h
number-one_way (Some a) None o p h k = refl
number-one_way None (Some b) o p h k = absurd (true≢false (sym h))
number-one_way None None o p h k = k h

number-chain : (a b c : Option ℤ) (o p q : Bool) → number_before a b o ≡ false → number_before b c p ≡ false → (o ≡ false → p ≡ false → q ≡ false) → number_before a c q ≡ false
number-chain (Some a) (Some b) (Some c) o p q h i k = int-order.chain a b c h i
number-chain (Some a) (Some b) None o p q h i k = absurd (true≢false i)
number-chain (Some a) None c o p q h i k = absurd (true≢false h)
number-chain None (Some b) (Some c) o p q h i k = refl
number-chain None None (Some c) o p q h i k = refl
number-chain None (Some b) None o p q h i k = absurd (true≢false i)
number-chain None None None o p q h i k = k h i

module _ (h : List Object) where
  plain-order : IsStrictWeakOrder (plain_before h)
  plain-order = record {
    one_way = λ v w e. number-one_way (number_of h v) (number_of h w) (text_before (text_of h v) (text_of h w)) (text_before (text_of h w) (text_of h v)) e (some-text-one_way (text_of h v) (text_of h w));
    chain = λ v w x e f. number-chain (number_of h v) (number_of h w) (number_of h x)
        (text_before (text_of h v) (text_of h w)) (text_before (text_of h w) (text_of h x)) (text_before (text_of h v) (text_of h x)) e f
        (some-text-chain (text_of h v) (text_of h w) (text_of h x));
  }

  row-one_way : (vs ws : List Value) → row_before h vs ws ≡ true → row_before h ws vs ≡ false
  row-one_way [] [] e = refl
  row-one_way [] (w ∷ ws) e = refl
  row-one_way (v ∷ vs) [] e = absurd (true≢false (sym e))
  row-one_way (v ∷ vs) (w ∷ ws) e =
      first-one_way (plain_before h v w) (plain_before h w v) (row_before h vs ws) (row_before h ws vs) e (plain-order.one_way v w) (row-one_way vs ws)

  row-chain : (vs ws xs : List Value) → row_before h vs ws ≡ false → row_before h ws xs ≡ false → row_before h vs xs ≡ false
  row-chain [] ws [] e f = refl
  row-chain (v ∷ vs) ws [] e f = refl
  row-chain vs [] (x ∷ xs) e f = absurd (true≢false f)
  row-chain [] (w ∷ ws) (x ∷ xs) e f = absurd (true≢false e)
  row-chain (v ∷ vs) (w ∷ ws) (x ∷ xs) e f =
      first-chain (plain_before h v w) (plain_before h w v) (plain_before h w x) (plain_before h x w) (plain_before h v x) (plain_before h x v)
      (row_before h vs ws) (row_before h ws xs) (row_before h vs xs) e f (plain-order.chain v w x) (plain-order.chain x v w) (plain-order.chain w x v) (row-chain vs ws xs)

  key-order : (k : Kind) → IsStrictWeakOrder (key_before k h)
  key-order kind.Number = record { one_way = λ v w. plain-order.one_way v w; chain = λ v w x. plain-order.chain v w x }
  key-order kind.Text = record { one_way = λ v w. plain-order.one_way v w; chain = λ v w x. plain-order.chain v w x }
  key-order kind.Row = record {
    one_way = λ v w. row-one_way (items_of h v) (items_of h w);
    chain = λ v w x. row-chain (items_of h v) (items_of h w) (items_of h x);
  }
  key-order kind.Other = record { one_way = λ v w. plain-order.one_way v w; chain = λ v w x. plain-order.chain v w x }

  pair-order : (k : Kind) (falling : Bool) → IsStrictWeakOrder (λ (p q : Value × Value). stands_before h k falling p.0 q.0)
  pair-order k true = record {
    one_way = λ p q. (key-order k).one_way q.0 p.0;
    chain = λ p q r a b. (key-order k).chain r.0 q.0 p.0 b a;
  }
  pair-order k false = record {
    one_way = λ p q. (key-order k).one_way p.0 q.0;
    chain = λ p q r. (key-order k).chain p.0 q.0 r.0;
  }

-- A list is known by its order and by what ties with each.
module _ {X : Type 0} (lt : X → X → Bool) (o : IsStrictWeakOrder lt) where
  -- none of these stands before x
  abbrev Above : X → List X → Type 0
  Above x [] = ⊤
  Above x (y ∷ ys) = (lt y x ≡ false) × Above x ys

  abbrev Up : List X → Type 0
  Up [] = ⊤
  Up (x ∷ xs) = Above x xs × Up xs

  above_of : (x : X) (xs : List X) → ((k : ℕ) → k < length xs → lt (get_or xs k x) x ≡ false) → Above x xs
  above_of x [] h = tt
  above_of x (y ∷ ys) h = (h 0 (omega arith), above_of x ys (λ k p. h (suc k) (omega arith)))

  up_of : (xs : List X) → ((i j : ℕ) (d : X) → i ≤ j → j < length xs → lt (get_or xs j d) (get_or xs i d) ≡ false) → Up xs
  up_of [] h = tt
  up_of (x ∷ xs) h = (above_of x xs (λ k p. h 0 (suc k) x (omega arith) (omega arith)), up_of xs (λ i j d p q. h (suc i) (suc j) d (omega arith) (omega arith)))

  itself : (x : X) → lt x x ≡ false
  itself x = by (lt x x) refl
    where
      by : (b : Bool) → lt x x ≡ b → lt x x ≡ false
      by true e = o.one_way x x e
      by false e = e

  tie : (x y : X) → lt x y ≡ false → lt y x ≡ false → ties lt x y ≡ true
  tie x y a b = by (lt x y) (lt y x) a b
    where
      by : (p q : Bool) → p ≡ false → q ≡ false → not p && not q ≡ true
      by true q a b = absurd (true≢false a)
      by false true a b = absurd (true≢false b)
      by false false a b = refl

  neither : (p q : Bool) → not p && not q ≡ true → (p ≡ false) × (q ≡ false)
  neither true q e = absurd (true≢false (sym e))
  neither false true e = absurd (true≢false (sym e))
  neither false false e = (refl, refl)

  -- what ties with x stands before nothing else that does
  no-tie : (x p r : X) → ties lt x p ≡ true → lt p r ≡ true → ties lt x r ≡ false
  no-tie x p r t e = by (lt x r) refl
    where
      by : (b : Bool) → lt x r ≡ b → not b && not (lt r x) ≡ false
      by true f = refl
      by false f = absurd (true≢false (sym e ∙ o.chain p x r (neither (lt x p) (lt p x) t).1 f))

  further : (p q r : X) → lt p q ≡ true → lt r q ≡ false → lt p r ≡ true
  further p q r e f = by (lt p r) refl
    where
      by : (b : Bool) → lt p r ≡ b → lt p r ≡ true
      by true g = g
      by false g = absurd (true≢false (sym e ∙ o.chain p r q g f))

  none-tie : (x p q : X) (qs : List X) → ties lt x p ≡ true → lt p q ≡ true → Above q qs → filter (ties lt x) qs ≡ []
  none-tie x p q [] t e a = refl
  none-tie x p q (r ∷ qs) t e a =
      ap (λ b. cond b (r ∷ filter (ties lt x) qs) (filter (ties lt x) qs)) (no-tie x p r t (further p q r e a.0)) ∙ none-tie x p q qs t e a.1

  above-through : (p q : X) (qs : List X) → lt q p ≡ false → Above q qs → Above p qs
  above-through p q [] e a = tt
  above-through p q (r ∷ qs) e a = (o.chain r q p a.0 e, above-through p q qs e a.1)

  -- the first that ties with y is no lower than what is below all
  no-lower : (x y z : X) (zs rest : List X) → Above z zs → filter (ties lt x) zs ≡ y ∷ rest → lt y z ≡ false
  no-lower x y z [] rest a e = absurd cc
  no-lower x y z (w ∷ zs) rest a e = by (ties lt x w) (no-lower x y z zs rest a.1) e
    where
      by : (b : Bool) → (filter (ties lt x) zs ≡ y ∷ rest → lt y z ≡ false) → cond b (w ∷ filter (ties lt x) zs) (filter (ties lt x) zs) ≡ y ∷ rest → lt y z ≡ false
      by true behind f = let same : w ≡ y = cc in sym (ap (λ u. lt u z) same) ∙ a.0
      by false behind f = behind f

  begins : (x y : X) (ys : List X) → ties lt x y ≡ true → filter (ties lt x) (y ∷ ys) ≡ y ∷ filter (ties lt x) ys
  begins x y ys t = ap (λ b. cond b (y ∷ filter (ties lt x) ys) (filter (ties lt x) ys)) t

  no-nothing : (y : X) (ys : List X) → [] ≡ y ∷ ys → ⊥
  no-nothing y ys e = cc

  rest-alike : (y : X) (b : Bool) (l m : List X) → cond b (y ∷ l) l ≡ cond b (y ∷ m) m → l ≡ m
  rest-alike y true l m e = cc
  rest-alike y false l m e = e

  one-list : (ys zs : List X) → Up ys → Up zs → ((x : X) → filter (ties lt x) ys ≡ filter (ties lt x) zs) → ys ≡ zs
  one-list [] [] u v h = refl
  one-list [] (z ∷ zs) u v h = absurd (no-nothing z (filter (ties lt z) zs) (h z ∙ begins z z zs (tie z z (itself z) (itself z))))
  one-list (y ∷ ys) [] u v h = absurd (no-nothing y (filter (ties lt y) ys) (sym (h y) ∙ begins y y ys (tie y y (itself y) (itself y))))
  one-list (y ∷ ys) (z ∷ zs) u v h =
      let low : lt y z ≡ false = no-lower y y z (z ∷ zs) (filter (ties lt y) ys) (itself z, v.0) (sym (h y) ∙ begins y y ys (tie y y (itself y) (itself y))) in
      let high : lt z y ≡ false = no-lower z z y (y ∷ ys) (filter (ties lt z) zs) (itself y, u.0) (h z ∙ begins z z zs (tie z z (itself z) (itself z))) in
      let firsts : y ∷ filter (ties lt y) ys ≡ z ∷ filter (ties lt y) zs = sym (begins y y ys (tie y y (itself y) (itself y))) ∙ h y ∙ begins y z zs (tie y z low high) in
      let first : y ≡ z = cc in
      let behind : ys ≡ zs = one-list ys zs u.1 v.1 (λ x. rest-alike y (ties lt x y) (filter (ties lt x) ys) (filter (ties lt x) zs)
      (h x ∙ sym (ap (λ w. cond (ties lt x w) (w ∷ filter (ties lt x) zs) (filter (ties lt x) zs)) first))) in
      ap (λ w. w ∷ ys) first ∙ ap (λ l. z ∷ l) behind

module _ (h : List Object) (common : Kind) (falling : Bool) where
  abbrev before : (Value × Value) → (Value × Value) → Bool
  before p q = stands_before h common falling p.0 q.0

  ordered : IsStrictWeakOrder before
  ordered = pair-order h common falling

  put-above : (q p : Value × Value) (qs : List (Value × Value)) → before p q ≡ false → Above before ordered q qs → Above before ordered q (put h common falling p qs)
  put-above q p [] e a = (e, tt)
  put-above q p (r ∷ qs) e a = by (before p r) (put-above q p qs e a.1)
    where
      by : (b : Bool) → Above before ordered q (put h common falling p qs) → Above before ordered q (if b then p ∷ (r ∷ qs) else r ∷ put h common falling p qs)
      by true behind = (e, a)
      by false behind = (a.0, behind)

  put-up : (p : Value × Value) (qs : List (Value × Value)) → Up before ordered qs → Up before ordered (put h common falling p qs)
  put-up p [] u = (tt, tt)
  put-up p (q ∷ qs) u = by (before p q) refl (put-up p qs u.1)
    where
      by : (b : Bool) → before p q ≡ b → Up before ordered (put h common falling p qs) → Up before ordered (if b then p ∷ (q ∷ qs) else q ∷ put h common falling p qs)
      by true e behind = ((ordered.one_way p q e, above-through before ordered p q qs (ordered.one_way p q e) u.0), u)
      by false e behind = (put-above q p qs e u.0, behind)

  -- what is put stands behind all that tie with it
  put-ties : (x p : Value × Value) (qs : List (Value × Value)) → Up before ordered qs
      → filter (ties before x) (put h common falling p qs) ≡ filter (ties before x) qs ++ filter (ties before x) (p ∷ [])
  put-ties x p [] u = refl
  put-ties x p (q ∷ qs) u = by (before p q) refl (put-ties x p qs u.1)
    where
      in-front : (b : Bool) (l : List (Value × Value)) → (b ≡ true → l ≡ []) → cond b (p ∷ l) l ≡ l ++ cond b (p ∷ []) []
      in-front true l none = ap (λ m. p ∷ m) (none refl) ∙ sym (ap (λ m. m ++ p ∷ []) (none refl))
      in-front false l none = sym (append-nil l)

      with-first : (b : Bool) (l m : List (Value × Value)) → l ≡ m ++ filter (ties before x) (p ∷ []) → cond b (q ∷ l) l ≡ cond b (q ∷ m) m ++ filter (ties before x) (p ∷ [])
      with-first true l m e = ap (λ n. q ∷ n) e
      with-first false l m e = e

      by : (b : Bool) → before p q ≡ b → filter (ties before x) (put h common falling p qs) ≡ filter (ties before x) qs ++ filter (ties before x) (p ∷ [])
          → filter (ties before x) (if b then p ∷ (q ∷ qs) else q ∷ put h common falling p qs) ≡ filter (ties before x) (q ∷ qs) ++ filter (ties before x) (p ∷ [])
      by true e behind = in-front (ties before x p) (filter (ties before x) (q ∷ qs)) (λ t. none-tie before ordered x p q (q ∷ qs) t e (itself before ordered q, u.0))
      by false e behind = with-first (ties before x q) (filter (ties before x) (put h common falling p qs)) (filter (ties before x) qs) behind

  sorted-up : (qs ps : List (Value × Value)) → Up before ordered qs → Up before ordered (sorted_behind h common falling qs ps)
  sorted-up qs [] u = u
  sorted-up qs (p ∷ ps) u = sorted-up (put h common falling p qs) ps (put-up p qs u)

  sorted-ties : (x : Value × Value) (qs ps : List (Value × Value)) → Up before ordered qs
      → filter (ties before x) (sorted_behind h common falling qs ps) ≡ filter (ties before x) qs ++ filter (ties before x) ps
  sorted-ties x qs [] u = sym (append-nil (filter (ties before x) qs))
  sorted-ties x qs (p ∷ ps) u =
      sorted-ties x (put h common falling p qs) ps (put-up p qs u)
      ∙ ap (λ l. l ++ filter (ties before x) ps) (put-ties x p qs u)
      ∙ append_assoc (filter (ties before x) qs) (filter (ties before x) (p ∷ [])) (filter (ties before x) ps)
      ∙ ap (λ l. filter (ties before x) qs ++ l) (joined (ties before x p))
    where
      joined : (b : Bool) → cond b (p ∷ []) [] ++ filter (ties before x) ps ≡ cond b (p ∷ filter (ties before x) ps) (filter (ties before x) ps)
      joined true = refl
      joined false = refl

  sorted-is : (ps qs : List (Value × Value)) → IsSortedBy before qs → IsStableBy before ps qs → qs ≡ sorted_behind h common falling [] ps
  sorted-is ps qs up stable =
      one-list before ordered qs (sorted_behind h common falling [] ps) (up_of before ordered qs (sorted_far before ordered qs up)) (sorted-up [] ps tt)
      (λ x. stable x ∙ sym (sorted-ties x [] ps tt))

pub returns : goal.returns
returns c =
    let h = c.args.heap.now in
    let before = λ (p q : Value × Value). stands_before h c.args.kind c.args.falling p.0 q.0 in
    sorted-is h c.args.kind c.args.falling _ _
    (c.in_ok-sort_by.ensures.sorted before (pair-order h c.args.kind c.args.falling) (always_returns_same _ _ _ (λ a r q k. search rules)))
    (c.sort_by.ensures.stable before (pair-order h c.args.kind c.args.falling) (always_returns_same _ _ _ (λ a r q k. search rules)))
