-- What lists have that are made of options or of two others.
use Rattle.std.proofs.Common.{◌≡◌, zero, suc, List, [], ◌∷◌, ◌++◌, Option, Some, None, refl, sym, ap, subst, arith, ◌⊎◌, inl, inr}
use Rattle.std.specs.Prelude.{Contains, option_to_list}
use Rattle.std.proofs.lemmas.List.Elements.{Contains-append_left, Contains-append_right, Contains-append_cases}
use Rattle.pt_joins.specs.declared.joins.Join.{Join}
use Rattle.pt_row_joins.specs.Rows.{Lists}

pub none_in : {X : Type 0} (x : X) → Contains [] x → ⊥
none_in x (k, lt, is) = absurd (omega arith)

pub some_none : {X : Type 0} (x : X) → None ≡ Some x → ⊥
some_none x e = cc

pub the_one : {X : Type 0} (x : X) → Contains (x ∷ []) x
the_one x = (zero, omega arith, refl)

pub only_one : {X : Type 0} (x y : X) → Contains (x ∷ []) y → x ≡ y
only_one x y (zero, lt, e) = e
only_one x y (suc k, lt, e) = absurd (omega arith)

pub in_option : {X : Type 0} (o : Option X) (x : X) → Contains (option_to_list o) x → o ≡ Some x
in_option None x c = absurd (none_in x c)
in_option (Some y) x c = ap (λ z. Some z) (only_one y x c)

pub option_in : {X : Type 0} (o : Option X) (x : X) → o ≡ Some x → Contains (option_to_list o) x
option_in o x e = subst (λ o. Contains (option_to_list o) x) (sym e) (the_one x)

-- two lists in one
pub both_list : (P Q : Join → Type 0) (xs ys : List Join) → Lists P xs → Lists Q ys → Lists (λ j. P j ⊎ Q j) (xs ++ ys)
both_list P Q xs ys a b = record {
  only = λ j c. elim (Contains-append_cases xs ys j c) [ inl x ↦ inl (a.only j x) | inr y ↦ inr (b.only j y) ];
  all = λ j c. elim c [ inl p ↦ Contains-append_left xs ys j (a.all j p) | inr q ↦ Contains-append_right xs ys j (b.all j q) ];
}
