-- The first positional argument of a call, argument by argument.
use Rattle.std.proofs.Common.{◌≡◌, ◌∙◌, ◌≤◌, ◌<◌, ℕ, suc, ◌+◌, ◌-◌, List, [], ◌∷◌, Bool, true, false, Option, Some, None, drop, get_or, length, refl, sym, ap}
use Rattle.std.proofs.lemmas.List.{at_drop_more, at_drop_all}
use Rattle.std.specs.Prelude.{slice_get, if◌then◌else◌, codes}
use Rattle.std.specs.Option.{option_or}
use Rattle.std.specs.Str.{bytes_eq}
use Rattle.pt_tree.specs.Syntax.{Name}
use Rattle.sem_control.specs.control.Turn as T
use Rattle.pt_heap.specs.declared.value.Value.{Value}
use Rattle.pt_heap.specs.declared.object.Object.{Object}
use Rattle.pt_content.specs.pt_attrs.Look.{object_of}
use Rattle.pt_frames.specs.declared.slot.Slot.{Slot}
use Rattle.sem_code.specs.slots.Instructions.{role_of}
use Rattle.pt_foretelling.specs.Calls.{value_in, first_item, first_of, first_by}

role_by : (x : Name) (a b : Bool) → (x ≡ [] → ⊥) → bytes_eq x (codes "*") ≡ a → bytes_eq x (codes "**") ≡ b
    → role_of x ≡ (if a then T.spread else (if b then T.spread_named else T.named x))
role_by [] a b n e f = absurd (n refl)
role_by (c ∷ cs) a b n e f = λ j. if e j then T.spread else (if f j then T.spread_named else T.named (c ∷ cs))

module _ (h : List Object) (x : Name) (v : Value) where
  pub by_position : x ≡ [] → Some v ≡ first_of h (role_of x) v
  by_position e = ap (λ y. first_of h (role_of y) v) (sym e)

  pub by_spread : (x ≡ [] → ⊥) → bytes_eq x (codes "*") ≡ true
      → first_item (object_of h v) ≡ first_of h (role_of x) v
  by_spread n e = ap (λ r. first_of h r v) (sym (role_by x true (bytes_eq x (codes "**")) n e refl))

  none-by : (b : Bool) → None ≡ first_of h (if b then T.spread_named else T.named x) v
  none-by true = refl
  none-by false = refl

  pub by_name : (x ≡ [] → ⊥) → bytes_eq x (codes "*") ≡ false → None ≡ first_of h (role_of x) v
  by_name n e =
      none-by (bytes_eq x (codes "**"))
      ∙ ap (λ r. first_of h r v) (sym (role_by x false (bytes_eq x (codes "**")) n e refl))

-- among those that are left
module _ (h : List Object) (xs : List Name) (slots : List Slot) (k : ℕ) (x : Name)
    (within : k < length xs) (is : x ≡ get_or xs k x) (left : ℕ) where
  next-of : first_by h (drop k xs) (suc left) slots
      ≡ option_or (first_of h (role_of x) (value_in (slice_get slots left))) (first_by h (drop (k + 1) xs) left slots)
  next-of =
      at_drop_more (λ ys. first_by h ys (suc left) slots) xs k x within
      ∙ ap (λ y. option_or (first_of h (role_of y) (value_in (slice_get slots left))) (first_by h (drop (k + 1) xs) left slots)) (sym is)

  pub first_found : (v : Value) → Some v ≡ first_of h (role_of x) (value_in (slice_get slots left))
      → (r : Option Value) → first_by h (drop k xs) (suc left) slots ≡ r → Some v ≡ r
  first_found v e r whole =
      ap (λ o. option_or o (first_by h (drop (k + 1) xs) left slots)) e ∙ sym next-of ∙ whole

  pub first_behind : None ≡ first_of h (role_of x) (value_in (slice_get slots left))
      → (r : Option Value) → first_by h (drop k xs) (suc left) slots ≡ r
      → first_by h (drop (k + 1) xs) left slots ≡ r
  first_behind e r whole =
      ap (λ o. option_or o (first_by h (drop (k + 1) xs) left slots)) e ∙ sym next-of ∙ whole

none-of : (h : List Object) (ys : List Name) (slots : List Slot) → first_by h ys 0 slots ≡ None
none-of h [] slots = refl
none-of h (y ∷ ys) slots = refl

pub none_left : (h : List Object) (ys : List Name) (slots : List Slot) (r : Option Value)
    → first_by h ys 0 slots ≡ r → None ≡ r
none_left h ys slots r whole = sym (none-of h ys slots) ∙ whole

pub no_more : (h : List Object) (xs : List Name) (slots : List Slot) (k left : ℕ) (r : Option Value)
    → length xs ≤ k → first_by h (drop k xs) left slots ≡ r → None ≡ r
no_more h xs slots k left r past whole = sym (at_drop_all (λ ys. first_by h ys left slots) xs k past) ∙ whole
