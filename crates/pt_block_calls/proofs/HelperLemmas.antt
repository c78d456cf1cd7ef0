-- The arguments of functions that are written in Python, and the objects that are made for them.
use Rattle.std.proofs.Common.{◌≡◌, ◌∙◌, ℕ, List, [], ◌∷◌, ◌++◌, Option, Some, None, refl, sym, ap, subst}
use Rattle.std.proofs.lemmas.List.{append-nil}
use Rattle.std.specs.Prelude.{option_map, codes}
use Rattle.pt_base.specs.declared.what.What.{What}
use Rattle.pt_base.specs.declared.what.What.TheVariants.{Heap}
use Rattle.pt_heap.specs.declared.value.Value.{Value}
use Rattle.pt_heap.specs.declared.object.Object.{Object}
use Rattle.pt_heap.specs.declared.object.Object.TheVariants as object
use Rattle.pt_bind.specs.declared.arguments.Args.{Args}
use Rattle.pt_content.specs.declared.answer.Operator.{Operator}
use Rattle.pt_content.specs.declared.answer.Helper.{Helper as Asked}
use Rattle.pt_content.specs.declared.answer.Helper.TheVariants as asked
use Rattle.sem_run.specs.run.Host.{answer, leave, made, beyond}
use Rattle.pt_operators.specs.pt_moves.sem_rows.pt_host.World.{Allotted, IsAllotted, Stores, allot, with_objects}
use Rattle.pt_operators.specs.pt_moves.sem_rows.pt_host.Trees.{Tree, answer_with, made_all, then_with}
use Rattle.pt_operators.specs.pt_moves.sem_rows.pt_host.Operators.{method_name, reflected_name, sign_of}
use Rattle.pt_operators.specs.pt_moves.sem_rows.pt_host.Calls.{helper_arguments, objects_for, or_usual}
use Rattle.pt_class_rows.proofs.ObjectLemmas.{only_heap}
use Rattle.pt_block_calls.specs.BlockCalls.{AreMade, MakesArguments, three_of, without_names}

-- values alone

alone : (vs : List Value) → without_names vs ≡ record { plain = vs ++ []; named = [] }
alone vs = ap (λ l. without_names l) (sym (append-nil vs))

pub no_sort : (vs : List Value) → ((l key turned : Value) → vs ≡ l ∷ key ∷ turned ∷ [] → ⊥) → without_names vs ≡ helper_arguments asked.SortOf vs []
no_sort [] n = refl
no_sort (a ∷ []) n = alone (a ∷ [])
no_sort (a ∷ b ∷ []) n = alone (a ∷ b ∷ [])
no_sort (a ∷ b ∷ c ∷ []) n = absurd (n a b c refl)
no_sort (a ∷ b ∷ c ∷ d ∷ vs) n = alone (a ∷ b ∷ c ∷ d ∷ vs)

pub not_in : (vs : List Value) → ((v x : Value) → vs ≡ v ∷ x ∷ [] → ⊥) → without_names vs ≡ helper_arguments asked.InOf vs []
not_in [] n = refl
not_in (a ∷ []) n = alone (a ∷ [])
not_in (a ∷ b ∷ []) n = absurd (n a b refl)
not_in (a ∷ b ∷ c ∷ vs) n = alone (a ∷ b ∷ c ∷ vs)

-- objects that are made one behind the other

one_made : (o : Object) (heap grown : List Object) (v : Value) (st : Stores) (a : Allotted) → a ≡ allot o heap → IsAllotted a (Some v) grown
    → ◌≡◌ {A = Tree Value} (answer_with (allot o heap) (with_objects heap st)) (answer v (with_objects grown st))
one_made o heap grown v st (made w k) e (f, g) =
    let one : v ≡ w = cc in
    ap (λ x. answer_with x (with_objects heap st)) (sym e) ∙ (ap (λ x. answer x (with_objects k st)) (sym one) ∙ ap (λ x. answer v (with_objects x st)) (sym g))
one_made o heap grown v st (beyond w) e f = absurd (cc)

abbrev leaves : What → Tree Value
leaves w = leave w

one_lacks : (o : Object) (heap grown : List Object) (st : Stores) (a : Allotted) → a ≡ allot o heap → IsAllotted a None grown
    → ◌≡◌ {A = Tree Value} (answer_with (allot o heap) (with_objects heap st)) (leave Heap)
one_lacks o heap grown st (made w k) e (f, g) = absurd (cc)
one_lacks o heap grown st (beyond w) e f =
    ap (λ x. answer_with x (with_objects heap st)) (sym e) ∙ ap (λ (x : What). leaves x) (only_heap o heap w (sym e))

module _ (o : Object) (os : List Object) (heap mid grown : List Object) where
  abbrev first : Tree Value → Tree (List Value)
  first t = then_with t (λ v st1. then_with (made_all os st1) (λ vs st2. answer (v ∷ vs) st2))

  cons_made : (v : Value) (vs : List Value) → IsAllotted (allot o heap) (Some v) mid → AreMade os mid (Some vs) grown → AreMade (o ∷ os) heap (Some (v ∷ vs)) grown
  unfolding AreMade then_with
  cons_made v vs is rest st =
      ap first (one_made o heap mid v st (allot o heap) refl is)
      ∙ ap (λ (t : Tree (List Value)). then_with t (λ us st2. answer (v ∷ us) st2)) (rest st)

  cons_lacks : IsAllotted (allot o heap) None mid → AreMade (o ∷ os) heap None grown
  unfolding AreMade then_with
  cons_lacks is st = ap first (one_lacks o heap mid st (allot o heap) refl is)

  later_lacks : (v : Value) → IsAllotted (allot o heap) (Some v) mid → AreMade os mid None grown → AreMade (o ∷ os) heap None grown
  unfolding AreMade then_with
  later_lacks v is rest st =
      ap first (one_made o heap mid v st (allot o heap) refl is)
      ∙ ap (λ (t : Tree (List Value)). then_with t (λ us st2. answer (v ∷ us) st2)) (rest st)

none_made : (heap : List Object) → AreMade [] heap (Some []) heap
unfolding AreMade
none_made heap st = refl

module _ (a b c : Object) (heap first second third : List Object) where
  pub three_made : (v w x : Value) → IsAllotted (allot a heap) (Some v) first → IsAllotted (allot b first) (Some w) second → IsAllotted (allot c second) (Some x) third
      → AreMade (a ∷ b ∷ c ∷ []) heap (Some (v ∷ w ∷ x ∷ [])) third
  three_made v w x e f g =
      cons_made a (b ∷ c ∷ []) heap first third v (w ∷ x ∷ []) e
      (cons_made b (c ∷ []) first second third w (x ∷ []) f (cons_made c [] second third third x [] g (none_made third)))

  pub no_first : IsAllotted (allot a heap) None first → AreMade (a ∷ b ∷ c ∷ []) heap None first
  no_first e = cons_lacks a (b ∷ c ∷ []) heap first first e

  pub no_second : (v : Value) → IsAllotted (allot a heap) (Some v) first → IsAllotted (allot b first) None second → AreMade (a ∷ b ∷ c ∷ []) heap None second
  no_second v e f = later_lacks a (b ∷ c ∷ []) heap first second v e (cons_lacks b (c ∷ []) first second second f)

  pub no_third : (v w : Value) → IsAllotted (allot a heap) (Some v) first → IsAllotted (allot b first) (Some w) second → IsAllotted (allot c second) None third
      → AreMade (a ∷ b ∷ c ∷ []) heap None third
  no_third v w e f g =
      later_lacks a (b ∷ c ∷ []) heap first third v e (later_lacks b (c ∷ []) first second third w f (cons_lacks c [] second third third g))

-- of an operator

module _ (heap grown : List Object) (x y z : Object) (m : Option (Value × (Value × Value)))
    (are : AreMade (x ∷ y ∷ z ∷ []) heap (option_map three_of m) grown) where
  made_so : (q : Value × (Value × Value)) → m ≡ Some q → (os : List Object) → x ∷ y ∷ z ∷ [] ≡ os → AreMade os heap (Some (three_of q)) grown
  made_so q e os same = subst (λ l. AreMade l heap (Some (three_of q)) grown) same (subst (λ k. AreMade (x ∷ y ∷ z ∷ []) heap (option_map three_of k) grown) e are)

  lacks_so : m ≡ None → (os : List Object) → x ∷ y ∷ z ∷ [] ≡ os → AreMade os heap None grown
  lacks_so e os same = subst (λ l. AreMade l heap None grown) same (subst (λ k. AreMade (x ∷ y ∷ z ∷ []) heap (option_map three_of k) grown) e are)

  three_same : (a b c : Object) → x ≡ a → y ≡ b → z ≡ c → ◌≡◌ {A = List Object} (x ∷ y ∷ z ∷ []) (a ∷ b ∷ c ∷ [])
  three_same a b c e f g = ap (λ k. k ∷ y ∷ z ∷ []) e ∙ (ap (λ k. a ∷ k ∷ z ∷ []) f ∙ ap (λ k. a ∷ b ∷ k ∷ []) g)

  module _ (vs : List Value) (o : Operator) (e : x ≡ object.Str (method_name o)) (f : y ≡ object.Str (reflected_name o)) (g : z ≡ object.Str (sign_of o)) where
    pub operator_given : (q : Value × (Value × Value)) (plain : List Value) → m ≡ Some q → plain ≡ vs ++ (q.0 ∷ q.1.0 ∷ q.1.1 ∷ [])
        → MakesArguments (asked.BinaryOf o) vs heap (Some (record { plain = plain; named = [] })) grown
    unfolding MakesArguments
    operator_given q plain is stands =
        (three_of q, (made_so q is (objects_for (asked.BinaryOf o) vs) (three_same _ _ _ e f g), ap (λ l. without_names l) stands))

    pub operator_lacks : m ≡ None → MakesArguments (asked.BinaryOf o) vs heap None grown
    unfolding MakesArguments
    operator_lacks is = lacks_so is (objects_for (asked.BinaryOf o) vs) (three_same _ _ _ e f g)

  -- of what is printed
  module _ (s t : Value) (us : List Value) (e : x ≡ object.Tuple us) (f : y ≡ object.Str (codes " ")) (g : z ≡ object.Str (10 ∷ [])) where
    pub print_given : (q : Value × (Value × Value)) (between behind : Value) → m ≡ Some q → between ≡ or_usual q.1.0 s → behind ≡ or_usual q.1.1 t
        → MakesArguments asked.PrintOf (s ∷ t ∷ us) heap (Some (record { plain = q.0 ∷ between ∷ behind ∷ []; named = [] })) grown
    unfolding MakesArguments
    print_given q between behind is first second = (
      three_of q,
      (
        made_so q is (objects_for asked.PrintOf (s ∷ t ∷ us)) (three_same _ _ _ e f g),
        ap (λ k. without_names (q.0 ∷ k ∷ behind ∷ [])) first ∙ ap (λ k. without_names (q.0 ∷ or_usual q.1.0 s ∷ k ∷ [])) second,
      ),
    )

    pub print_lacks : m ≡ None → MakesArguments asked.PrintOf (s ∷ t ∷ us) heap None grown
    unfolding MakesArguments
    print_lacks is = lacks_so is (objects_for asked.PrintOf (s ∷ t ∷ us)) (three_same _ _ _ e f g)

-- none are made

pub none_printed : (vs : List Value) (heap : List Object) (args : Args) → ((s t : Value) (us : List Value) → vs ≡ s ∷ t ∷ us → ⊥) → args ≡ without_names vs
    → MakesArguments asked.PrintOf vs heap (Some args) heap
unfolding MakesArguments
none_printed [] heap args n so = ([], (none_made heap, so))
none_printed (a ∷ []) heap args n so = ([], (none_made heap, so ∙ alone (a ∷ [])))
none_printed (a ∷ b ∷ us) heap args n so = absurd (n a b us refl)

module _ (vs : List Value) where
  no_objects : (a : Asked) → ((o : Operator) → a ≡ asked.BinaryOf o → ⊥) → (a ≡ asked.PrintOf → ⊥) → objects_for a vs ≡ []
  no_objects (asked.BinaryOf o) n m = absurd (n o refl)
  no_objects asked.TruthOf n m = refl
  no_objects asked.PrintOf n m = absurd (m refl)
  no_objects asked.StrOf n m = refl
  no_objects asked.ReprOf n m = refl
  no_objects asked.LenOf n m = refl
  no_objects asked.IterOf n m = refl
  no_objects asked.NextOf n m = refl
  no_objects asked.NextOrOf n m = refl
  no_objects asked.InOf n m = refl
  no_objects asked.SameOf n m = refl
  no_objects asked.PairsOf n m = refl
  no_objects (asked.TakeOf k) n m = refl
  no_objects asked.ListOf n m = refl
  no_objects asked.TupleOf n m = refl
  no_objects asked.SetOf n m = refl
  no_objects asked.DictOf n m = refl
  no_objects asked.ExtendOf n m = refl
  no_objects asked.UpdateOf n m = refl
  no_objects asked.JoinOf n m = refl
  no_objects asked.SortOf n m = refl

  pub plain_given : (a : Asked) (heap : List Object) (args : Args) → ((o : Operator) → a ≡ asked.BinaryOf o → ⊥) → (a ≡ asked.PrintOf → ⊥) → args ≡ helper_arguments a vs []
      → MakesArguments a vs heap (Some args) heap
  unfolding MakesArguments
  plain_given a heap args n m so = ([], (subst (λ l. AreMade l heap (Some []) heap) (sym (no_objects a n m)) (none_made heap), so))

  print_plain : (us : List Value) → without_names us ≡ helper_arguments asked.PrintOf us []
  print_plain [] = refl
  print_plain (a ∷ []) = alone (a ∷ [])
  print_plain (a ∷ b ∷ us) = alone (a ∷ b ∷ us)

  pub plain_arguments : (a : Asked) → (a ≡ asked.SortOf → ⊥) → (a ≡ asked.InOf → ⊥) → (a ≡ asked.StrOf → ⊥) → (a ≡ asked.ReprOf → ⊥)
      → ((n : ℕ) → a ≡ asked.TakeOf n → ⊥) → without_names vs ≡ helper_arguments a vs []
  plain_arguments (asked.BinaryOf o) n1 n2 n3 n4 n5 = alone vs
  plain_arguments asked.TruthOf n1 n2 n3 n4 n5 = alone vs
  plain_arguments asked.PrintOf n1 n2 n3 n4 n5 = print_plain vs
  plain_arguments asked.StrOf n1 n2 n3 n4 n5 = absurd (n3 refl)
  plain_arguments asked.ReprOf n1 n2 n3 n4 n5 = absurd (n4 refl)
  plain_arguments asked.LenOf n1 n2 n3 n4 n5 = alone vs
  plain_arguments asked.IterOf n1 n2 n3 n4 n5 = alone vs
  plain_arguments asked.NextOf n1 n2 n3 n4 n5 = alone vs
  plain_arguments asked.NextOrOf n1 n2 n3 n4 n5 = alone vs
  plain_arguments asked.InOf n1 n2 n3 n4 n5 = absurd (n2 refl)
  plain_arguments asked.SameOf n1 n2 n3 n4 n5 = alone vs
  plain_arguments asked.PairsOf n1 n2 n3 n4 n5 = alone vs
  plain_arguments (asked.TakeOf n) n1 n2 n3 n4 n5 = absurd (n5 n refl)
  plain_arguments asked.ListOf n1 n2 n3 n4 n5 = alone vs
  plain_arguments asked.TupleOf n1 n2 n3 n4 n5 = alone vs
  plain_arguments asked.SetOf n1 n2 n3 n4 n5 = alone vs
  plain_arguments asked.DictOf n1 n2 n3 n4 n5 = alone vs
  plain_arguments asked.ExtendOf n1 n2 n3 n4 n5 = alone vs
  plain_arguments asked.UpdateOf n1 n2 n3 n4 n5 = alone vs
  plain_arguments asked.JoinOf n1 n2 n3 n4 n5 = alone vs
  plain_arguments asked.SortOf n1 n2 n3 n4 n5 = absurd (n1 refl)
