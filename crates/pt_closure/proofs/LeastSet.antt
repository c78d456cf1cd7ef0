-- The search and the least set.
use Rattle.std.proofs.Common.{◌≡◌, Bool, true, false, List, [], ◌∷◌, ◌++◌, length, ◌⊎◌, inl, inr, refl, sym, ap, ◌∙◌, subst, arith}
use Rattle.std.specs.Prelude.{Contains, cond}
use Rattle.std.specs.Ordering.{nat_cmp, is_eq}
use Rattle.std.specs.declared.cmp.Ordering.{Ordering}
use Rattle.std.specs.declared.cmp.Ordering.TheVariants.{Less, Equal, Greater}
use Rattle.std.specs.BTreeSet.{contains, Updates}
use Rattle.std.proofs.lemmas.Bool.{false≢true}
use Rattle.std.proofs.lemmas.List.Elements.{Contains-push, Contains-push_cases, Contains-append_left, Contains-append_right, Contains-append_cases}
use Rattle.std.proofs.lemmas.Map.Lookups.{CmpEqualImpliesEq, exact_pairs, exact_unsigned}
use Rattle.pt_closure.specs.declared.found.Found.{Found}
use Rattle.pt_closure.specs.Closure.{Pair, Derived, given, follows, IsClosure, Open, pair_cmp, AreSeen, AddsNew, Knows}

none_in : (x : Pair) → Contains [] x → ⊥
none_in x (k, lt, is) = absurd (omega arith)

exact : CmpEqualImpliesEq pair_cmp
exact = exact_pairs nat_cmp nat_cmp exact_unsigned exact_unsigned

is_equal : (o : Ordering) → is_eq o ≡ true → o ≡ Equal
is_equal Less e = absurd (false≢true e)
is_equal Equal e = refl
is_equal Greater e = absurd (false≢true e)

-- a pair that is in a set with one more is the new one, or was in it
was_in : (x y : Pair) (old new t : Bool) → is_eq (pair_cmp x y) ≡ t → new ≡ cond t true old → new ≡ true → (old ≡ true) ⊎ (x ≡ y)
was_in x y old new true e u h = inr (exact x y (is_equal _ e))
was_in x y old new false e u h = inl (sym u ∙ h)

stays_in : (t old new : Bool) → new ≡ cond t true old → old ≡ true → new ≡ true
stays_in true old new u h = u
stays_in false old new u h = u ∙ h

pub adds_new : (x : Pair) (old new : Found) → AreSeen old → Updates pair_cmp old.seen new.seen x true → new.pairs.items ≡ old.pairs.items ++ x ∷ []
    → AddsNew x old new
adds_new x old new seen up pairs = record {
  pairs = pairs;
  seen = record {
    sound = λ y h. subst (λ ps. Contains ps y) (sym pairs) (elim (was_in x y (contains pair_cmp old.seen y) (contains pair_cmp new.seen y) (is_eq (pair_cmp x y)) refl (up.0 y) h) [
      | inl k ↦ Contains-append_left old.pairs.items (x ∷ []) y (seen.sound y k)
      | inr same ↦ subst (λ z. Contains (old.pairs.items ++ x ∷ []) z) same (Contains-push old.pairs.items x)
    ]);
    whole = λ y h. elim (Contains-push_cases old.pairs.items x y (subst (λ ps. Contains ps y) pairs h)) [
      | inl k ↦ stays_in (is_eq (pair_cmp x y)) _ _ (up.0 y) (seen.whole y k)
      | inr same ↦ subst (λ z. contains pair_cmp new.seen z ≡ true) same up.1
    ];
  };
}

pub knows : (x : Pair) (old new : Found) → AreSeen old → Updates pair_cmp old.seen new.seen x true → contains pair_cmp old.seen x ≡ true
    → new.pairs.items ≡ old.pairs.items → Knows x old new
knows x old new seen up had pairs = record {
  pairs = pairs;
  among = seen.sound x had;
  seen = record {
    sound = λ y h. subst (λ ps. Contains ps y) (sym pairs) (elim (was_in x y (contains pair_cmp old.seen y) (contains pair_cmp new.seen y) (is_eq (pair_cmp x y)) refl (up.0 y) h) [
      | inl k ↦ seen.sound y k
      | inr same ↦ subst (λ z. Contains old.pairs.items z) same (seen.sound x had)
    ]);
    whole = λ y h. stays_in (is_eq (pair_cmp x y)) _ _ (up.0 y) (seen.whole y (subst (λ ps. Contains ps y) pairs h));
  };
}

module _ (next : Pair → List Pair) (seeds : List Pair) where
  pub open_start : (found : List Pair) → found ≡ [] → Open next seeds seeds found
  open_start found e = record {
    sound = λ x c. absurd (none_in x (subst (λ ps. Contains ps x) e c));
    due = λ x c. given c;
    given = λ x c. inr c;
    closed = λ x y c d. absurd (none_in x (subst (λ ps. Contains ps x) e c));
  }

  -- a pair that is known is taken away from what is due
  pub open_known : (work found : List Pair) (x : Pair) → Open next seeds (work ++ x ∷ []) found → Contains found x → Open next seeds work found
  open_known work found x o c = record {
    sound = o.sound;
    due = λ y d. o.due y (Contains-append_left work (x ∷ []) y d);
    given = λ y d. left y (o.given y d);
    closed = λ y z d f. left z (o.closed y z d f);
  } where
    left : (y : Pair) → Contains found y ⊎ Contains (work ++ x ∷ []) y → Contains found y ⊎ Contains work y
    left y (inl d) = inl d
    left y (inr d) = elim (Contains-push_cases work x y d) [ inl k ↦ inr k | inr same ↦ inl (subst (λ z. Contains found z) same c) ]

  -- a new one is found, and what follows from it is due
  pub open_new : (work found : List Pair) (x : Pair) → Open next seeds (work ++ x ∷ []) found → Open next seeds (work ++ next x) (found ++ x ∷ [])
  open_new work found x o = record {
    sound = λ y c. elim (Contains-push_cases found x y c) [ inl k ↦ o.sound y k | inr same ↦ subst (λ z. Derived next seeds z) same derived ];
    due = λ y c. elim (Contains-append_cases work (next x) y c) [ inl k ↦ o.due y (Contains-append_left work (x ∷ []) y k) | inr k ↦ follows derived k ];
    given = λ y c. moved y (o.given y c);
    closed = λ y z c d. elim (Contains-push_cases found x y c) [
      | inl k ↦ moved z (o.closed y z k d)
      | inr same ↦ inr (Contains-append_right work (next x) z (subst (λ v. Contains (next v) z) (sym same) d))
    ];
  } where
    derived : Derived next seeds x
    derived = o.due x (Contains-push work x)

    moved : (y : Pair) → Contains found y ⊎ Contains (work ++ x ∷ []) y → Contains (found ++ x ∷ []) y ⊎ Contains (work ++ next x) y
    moved y (inl d) = inl (Contains-append_left found (x ∷ []) y d)
    moved y (inr d) = elim (Contains-push_cases work x y d) [
      | inl k ↦ inr (Contains-append_left work (next x) y k)
      | inr same ↦ inl (subst (λ z. Contains (found ++ x ∷ []) z) same (Contains-push found x))
    ]

  module _ (found : List Pair) (o : Open next seeds [] found) where
    all_in : (x : Pair) → Derived next seeds x → Contains found x
    all_in _ (given {x = x} c) = elim (o.given x c) [ inl k ↦ k | inr k ↦ absurd (none_in x k) ]
    all_in _ (follows {x = x} {y = y} d c) = elim (o.closed x y (all_in x d) c) [ inl k ↦ k | inr k ↦ absurd (none_in y k) ]

    pub closes : IsClosure next seeds found
    closes = record { sound = o.sound; whole = all_in }

-- what is left of a list that is popped

pub is_empty : (xs : List Pair) → length xs ≡ 0 → xs ≡ []
is_empty [] h = refl
is_empty (x ∷ xs) h = absurd (omega arith)

pub no_more : (xs ys : List Pair) → xs ≡ ys ++ [] → ys ≡ [] → xs ≡ []
no_more xs ys e h = e ∙ ap (λ zs. zs ++ []) h
