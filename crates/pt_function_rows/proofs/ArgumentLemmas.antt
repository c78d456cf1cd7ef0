-- The arguments of a call by the roles of its operands.
use Rattle.std.proofs.Common.{◌≡◌, ◌∙◌, ◌+◌, ◌-◌, ◌<◌, ◌≤◌, ℕ, zero, suc, true, List, [], ◌∷◌, ◌++◌, length, take, drop, get_or, map, replicate, refl, sym, ap, append_assoc, add-one, arith}
use Rattle.std.proofs.Math.Seq.{drop-cons}
use Rattle.pt_tree.specs.Syntax.{Name}
use Rattle.sem_control.specs.control.Turn as T
use Rattle.pt_heap.specs.declared.value.Value.{Value}
use Rattle.pt_heap.specs.declared.view.Binding.{Binding}
use Rattle.pt_heap.specs.declared.object.Object.{Object}
use Rattle.sem_code.specs.slots.Instructions.{all_positional, last_named}
use Rattle.pt_moves.specs.sem_rows.pt_host.Arguments.{plain_arguments, named_arguments, arguments, are_arguments}
use Rattle.pt_moves.specs.sem_rows.pt_host.Calls.{defaults_of}
use Rattle.pt_function_rows.specs.Arguments.{named_last}

none_given : (xs : List Name) → defaults_of xs [] ≡ []
none_given [] = refl
none_given (x ∷ xs) = refl

module _ (h : List Object) where
  plain_of_named : (xs : List Name) (vs : List Value) → plain_arguments h (map T.named xs) vs ≡ []
  plain_of_named [] vs = refl
  plain_of_named (x ∷ xs) [] = refl
  plain_of_named (x ∷ xs) (v ∷ vs) = plain_of_named xs vs

  named_of_named : (xs : List Name) (vs : List Value) → named_arguments h (map T.named xs) vs ≡ defaults_of xs vs
  named_of_named [] vs = refl
  named_of_named (x ∷ xs) [] = refl
  named_of_named (x ∷ xs) (v ∷ vs) = ap (λ l. record { name = x; value = v } ∷ l) (named_of_named xs vs)

  plain_of : (k : ℕ) (xs : List Name) (vs : List Value) → plain_arguments h (replicate k T.positional ++ map T.named xs) vs ≡ take k vs
  plain_of zero xs vs = plain_of_named xs vs
  plain_of (suc k) xs [] = refl
  plain_of (suc k) xs (v ∷ vs) = ap (λ l. v ∷ l) (plain_of k xs vs)

  named_of : (k : ℕ) (xs : List Name) (vs : List Value) → named_arguments h (replicate k T.positional ++ map T.named xs) vs ≡ defaults_of xs (drop k vs)
  named_of zero xs vs = named_of_named xs vs
  named_of (suc k) xs [] = sym (none_given xs)
  named_of (suc k) xs (v ∷ vs) = named_of k xs vs

  -- none is spread
  named_are_given : (xs : List Name) (vs : List Value) → are_arguments h (map T.named xs) vs ≡ true
  named_are_given [] vs = refl
  named_are_given (x ∷ xs) [] = refl
  named_are_given (x ∷ xs) (v ∷ vs) = named_are_given xs vs

  pub last_are_given : (k : ℕ) (xs : List Name) (vs : List Value) → are_arguments h (replicate k T.positional ++ map T.named xs) vs ≡ true
  last_are_given zero xs vs = named_are_given xs vs
  last_are_given (suc k) xs [] = refl
  last_are_given (suc k) xs (v ∷ vs) = last_are_given k xs vs

  pub all_are_given : (n : ℕ) (vs : List Value) → are_arguments h (all_positional n) vs ≡ true
  all_are_given zero vs = refl
  all_are_given (suc n) [] = refl
  all_are_given (suc n) (v ∷ vs) = all_are_given n vs

  pub named_last_is : (xs : List Name) (vs : List Value) → arguments h (last_named (length vs) xs) vs ≡ named_last xs vs
  named_last_is xs vs = λ j. record { plain = plain_of (length vs - length xs) xs vs j; named = named_of (length vs - length xs) xs vs j }

  plain_all : (vs : List Value) → plain_arguments h (replicate (length vs) T.positional) vs ≡ vs
  plain_all [] = refl
  plain_all (v ∷ vs) = ap (λ l. v ∷ l) (plain_all vs)

  named_all : (vs : List Value) → named_arguments h (replicate (length vs) T.positional) vs ≡ []
  named_all [] = refl
  named_all (v ∷ vs) = named_all vs

  pub all_plain_is : (vs : List Value) → arguments h (all_positional (length vs)) vs ≡ record { plain = vs; named = [] }
  all_plain_is vs = λ j. record { plain = plain_all vs j; named = named_all vs j }

-- names with values, one after the other

pub drop_past : {A : Type 0} (xs : List A) (at : ℕ) → length xs ≤ at → drop at xs ≡ []
drop_past [] zero h = refl
drop_past [] (suc at) h = refl
drop_past (x ∷ xs) zero h = absurd (omega (arith, h))
drop_past (x ∷ xs) (suc at) h = drop_past xs at (omega (arith, h))

nothing_behind : {A : Type 0} (xs : List A) → xs ++ [] ≡ xs
nothing_behind [] = refl
nothing_behind (x ∷ xs) = ap (λ l. x ∷ l) (nothing_behind xs)

module _ (bs : List Binding) (xs : List Name) (vs : List Value) (at : ℕ) where
  pub bound_next : (x : Name) (v : Value) (d : Name) (e : Value) → at < length xs → at < length vs → x ≡ get_or xs at d → v ≡ get_or vs at e
      → (bs ++ record { name = x; value = v } ∷ []) ++ defaults_of (drop (at + 1) xs) (drop (at + 1) vs) ≡ bs ++ defaults_of (drop at xs) (drop at vs)
  bound_next x v d e h k is are =
      append_assoc bs (record { name = x; value = v } ∷ []) (defaults_of (drop (at + 1) xs) (drop (at + 1) vs))
      ∙ ap (λ l. bs ++ l) (
      (λ j. defaults_of (is j ∷ drop (add-one at j) xs) (are j ∷ drop (add-one at j) vs))
      ∙ sym (ap (λ l. defaults_of l (drop at vs)) (drop-cons xs at d h) ∙ ap (λ l. defaults_of (get_or xs at d ∷ drop (suc at) xs) l) (drop-cons vs at e k)))

  pub no_more_values : length vs ≤ at → bs ++ defaults_of (drop at xs) (drop at vs) ≡ bs
  no_more_values h = ap (λ l. bs ++ defaults_of (drop at xs) l) (drop_past vs at h) ∙ (ap (λ l. bs ++ l) (none_given (drop at xs)) ∙ nothing_behind bs)

  pub no_more_names : length xs ≤ at → bs ++ defaults_of (drop at xs) (drop at vs) ≡ bs
  no_more_names h = ap (λ l. bs ++ defaults_of l (drop at vs)) (drop_past xs at h) ∙ nothing_behind bs
