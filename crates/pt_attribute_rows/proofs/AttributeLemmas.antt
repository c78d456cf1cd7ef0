-- Rows of attributes.
use Rattle.std.proofs.Common.{◌≡◌, ◌∙◌, Bool, true, false, List, [], ◌∷◌, ◌++◌, length, Option, Some, None, refl, sym, ap, subst}
use Rattle.std.specs.Prelude.{drop, nat_eq, if◌then◌else◌}
use Rattle.pt_base.specs.declared.what.What.TheVariants.{Feature, Heap}
use Rattle.pt_tree.specs.Syntax.{Name}
use Rattle.sem_control.specs.control.Turn as T
use Rattle.pt_instr.specs.declared.Instr.TheVariants.{Attr, SetAttr, DelAttr}
use Rattle.pt_instr.specs.declared.TextNo.{TextNo}
use Rattle.pt_heap.specs.Limits.{object_limit}
use Rattle.pt_heap.specs.declared.value.Value.{Value}
use Rattle.pt_heap.specs.declared.object.Object.{Object}
use Rattle.pt_heap.specs.declared.object.Object.TheVariants as object
use Rattle.pt_frames.specs.declared.slot.Slot.{Slot}
use Rattle.pt_frames.specs.declared.slot.Slot.TheVariants as slot
use Rattle.pt_code.specs.View.{Ins}
use Rattle.sem_run.specs.run.Host.{made, beyond}
use Rattle.pt_content.specs.Changes.{next_object}
use Rattle.pt_content.specs.pt_attrs.Look.{object_of}
use Rattle.pt_content.specs.declared.method_name.MethodName.{MethodName}
use Rattle.pt_prims.specs.pt_methods.declared.attribute.Attribute.{Attribute}
use Rattle.pt_prims.specs.pt_methods.declared.attribute.Attribute.TheVariants as attribute
use Rattle.pt_prims.specs.pt_methods.Attributes.{attribute_of, receiver_of}
use Rattle.sem_rows.specs.pt_host.World.{Stores, CodeFacts, Allotted, IsAllotted, allot, with_objects}
use Rattle.sem_rows.specs.pt_host.HeapHost.{heap_host}
use Rattle.sem_rows.specs.pt_host.Trees.{Tree, answer_with}
use Rattle.sem_rows.specs.sem_code_machine.rows.Rows.{row_of}
use Rattle.sem_rows.specs.pt_host.Attributes.{method_object, bound_object, name_of, arguments_in, by_attribute, set_attribute, delete_attribute}
use Rattle.sem_rows.specs.declared.heap_rows.progress.Progress.{Progress}
use Rattle.sem_rows.specs.declared.heap_rows.progress.Progress.TheVariants as progress
use Rattle.sem_rows.specs.heap_rows.Leads.{by_tree, giving, behind}
use Rattle.sem_rows.specs.heap_rows.RowsIn.{Standpoint, RowsIn}
use Rattle.sem_rows.specs.heap_rows.Told.{block_id, told}
use Rattle.sem_rows.specs.heap_rows.Views.{slots_view}
use Rattle.sem_rows.proofs.heap_rows.RowLemmas.{deeds_lead, operations_lead}
use Rattle.pt_operators.specs.pt_moves.Operands.{one_value, two_values}
use Rattle.pt_operators.proofs.pt_moves.TakeLemmas.{one_on, two_on}
use Rattle.pt_operators.proofs.pt_moves.MoveLemmas.{lacks_one, lacks_two, stuck_row}
use Rattle.pt_operators.proofs.OperatorLemmas.{lacks_one_of}
use Rattle.pt_function_rows.specs.Attributes.{Sets, Deletes, missing_attribute}
use Rattle.pt_function_rows.specs.pt_code_facts.declared.facts.Blocks.{Blocks}
use Rattle.pt_attribute_rows.specs.Attributes.{Places, Gives, Knows, RowsAttribute, RowsNamed, name_in}

-- a new object, where there is room
module _ (o : Object) (old : List Slot) (heap : List Object) (new : List Slot) (grown : List Object) where
  placed_by : (a : Allotted) (w : Value) (s : Standpoint) (i : Ins) (st : Stores) → IsAllotted a (Some w) grown → new ≡ slot.Value w ∷ old
      → told s.program s.code i s.here progress.Next (slots_view new) (with_objects grown st)
      ≡ by_tree s.code i (giving s.code i (slots_view old)) (slots_view old) (answer_with a (with_objects heap st))
  placed_by (made u k) w s i st is e =
      ap (λ ss. told s.program s.code i s.here progress.Next (slots_view ss) (with_objects grown st)) e
      ∙ (ap (λ g. told s.program s.code i s.here progress.Next (slots_view (slot.Value w ∷ old)) (with_objects g st)) is.1
      ∙ ap (λ x. told s.program s.code i s.here progress.Next (slots_view (slot.Value x ∷ old)) (with_objects k st))
      (let q : w ≡ u = let h : ◌≡◌ {A = Option Value} (Some w) (Some u) = is.0 in cc in q))
  placed_by (beyond what) w s i st is e = absurd (let h : ◌≡◌ {A = Option Value} (Some w) None = is in cc)

  pub placed : (w : Value) → IsAllotted (allot o heap) (Some w) grown → new ≡ slot.Value w ∷ old → Places o old heap progress.Next new grown
  unfolding Places
  placed w a e s i st = placed_by (allot o heap) w s i st a e

module _ (o : Object) (old : List Slot) (heap : List Object) (grown : List Object) where
  pub full : IsAllotted (allot o heap) None grown → Places o old heap (progress.Outside Heap) old grown
  unfolding Places
  full is s i st = by (nat_eq (length heap) object_limit) is
    where
      by : (b : Bool) → IsAllotted (if b then beyond Heap else made (next_object heap) (heap ++ o ∷ [])) None grown
          → told s.program s.code i s.here (progress.Outside Heap) (slots_view old) (with_objects grown st)
          ≡ by_tree s.code i (giving s.code i (slots_view old)) (slots_view old)
          (answer_with (if b then beyond Heap else made (next_object heap) (heap ++ o ∷ [])) (with_objects heap st))
      by true e = refl
      by false e = absurd (let h : ◌≡◌ {A = Option Value} None (Some (next_object heap)) = e.0 in cc)

-- the blocks of a program have the names that are known
named_alike : (s : Standpoint) (blocks : Blocks) → Knows s blocks → (o : Option Object) → name_of s.program o ≡ name_in blocks o
named_alike s blocks knows None = refl
named_alike s blocks knows (Some (object.Class c)) = refl
named_alike s blocks knows (Some (object.Function f)) = ap (λ (g : CodeFacts). g.name) (knows (block_id f.block f.hidden))
named_alike s blocks knows (Some (object.Str t)) = refl
named_alike s blocks knows (Some (object.List vs)) = refl
named_alike s blocks knows (Some (object.Tuple vs)) = refl
named_alike s blocks knows (Some (object.Dict d)) = refl
named_alike s blocks knows (Some (object.Set d)) = refl
named_alike s blocks knows (Some (object.Range r)) = refl
named_alike s blocks knows (Some (object.Slice r)) = refl
named_alike s blocks knows (Some (object.Cursor c)) = refl
named_alike s blocks knows (Some (object.View w)) = refl
named_alike s blocks knows (Some (object.Method m)) = refl
named_alike s blocks knows (Some (object.Builtin b)) = refl
named_alike s blocks knows (Some (object.Instance y)) = refl
named_alike s blocks knows (Some (object.Error y)) = refl
named_alike s blocks knows (Some (object.Generator n)) = refl
named_alike s blocks knows (Some (object.Frame n)) = refl
named_alike s blocks knows (Some (object.CodeRef b hidden)) = refl
named_alike s blocks knows (Some (object.Module m)) = refl
named_alike s blocks knows (Some (object.Super y)) = refl

-- what an attribute comes to, by what it is
module _ (blocks : Blocks) (x : Name) (v : Value) (a : Attribute) (old : List Slot) (heap : List Object) where
  module _ (p : Progress) (new : List Slot) (grown : List Object) where
    -- a new object
    object_given : (o : Object) → ((s : Standpoint) (st : Stores) → Knows s blocks
        → by_attribute s.program x v a s.here (with_objects heap st) ≡ answer_with (allot o heap) (with_objects heap st))
        → Places o old heap p new grown → Gives blocks x v a old heap p new grown
    unfolding Places Gives
    object_given o is done s i st knows =
        done s i st ∙ ap (λ t. by_tree s.code i (giving s.code i (slots_view old)) (slots_view old) t) (sym (is s st knows))

    abbrev answered : Object → Stores → Tree Value
    answered o st = answer_with (allot o heap) (with_objects heap st)

    -- as what it is
    abbrev seen : Standpoint → Stores → Attribute → Tree Value
    seen s st b = by_attribute s.program x v b s.here (with_objects heap st)

    pub method_given : (m : MethodName) (o : Object) → a ≡ attribute.Method m → o ≡ method_object m v → Places o old heap p new grown → Gives blocks x v a old heap p new grown
    method_given m o is e done = object_given o (λ s st knows. ap (λ b. seen s st b) is ∙ ap (λ y. answered y st) (sym e)) done

    pub bound_given : (f r : Value) → a ≡ attribute.Bound f → r ≡ receiver_of heap v → Places (bound_object f r) old heap p new grown → Gives blocks x v a old heap p new grown
    bound_given f r is e done = object_given (bound_object f r) (λ s st knows. ap (λ b. seen s st b) is ∙ ap (λ y. answered (bound_object f y) st) (sym e)) done

    pub name_given : (n : Name) → a ≡ attribute.NameOf → n ≡ name_in blocks (object_of heap v) → Places (object.Str n) old heap p new grown → Gives blocks x v a old heap p new grown
    name_given n is e done = object_given (object.Str n)
        (λ s st knows. ap (λ b. seen s st b) is ∙ ap (λ y. answered (object.Str y) st) (named_alike s blocks knows (object_of heap v) ∙ sym e)) done

    pub arguments_given : (vs : List Value) → a ≡ attribute.Arguments → vs ≡ arguments_in (object_of heap v) → Places (object.Tuple vs) old heap p new grown
        → Gives blocks x v a old heap p new grown
    arguments_given vs is e done = object_given (object.Tuple vs) (λ s st knows. ap (λ b. seen s st b) is ∙ ap (λ y. answered (object.Tuple y) st) (sym e)) done

  pub held_given : (w : Value) (new : List Slot) → a ≡ attribute.Held w → new ≡ slot.Value w ∷ old → Gives blocks x v a old heap progress.Next new heap
  unfolding Gives
  held_given w new is e = subst (λ b. Gives blocks x v b old heap progress.Next new heap) (sym is)
      (subst (λ ss. Gives blocks x v (attribute.Held w) old heap progress.Next ss heap) (sym e) so)
    where
      so : Gives blocks x v (attribute.Held w) old heap progress.Next (slot.Value w ∷ old) heap
      so s i st knows = refl

  pub missing_given : (p : Progress) → a ≡ attribute.Missing → p ≡ missing_attribute heap v x → Gives blocks x v a old heap p old heap
  unfolding Gives
  missing_given p is e =
      subst (λ b. Gives blocks x v b old heap p old heap) (sym is) (subst (λ q. Gives blocks x v attribute.Missing old heap q old heap) (sym e) so)
    where
      so : Gives blocks x v attribute.Missing old heap (missing_attribute heap v x) old heap
      so s i st knows = refl

  pub unbuilt_given : a ≡ attribute.Unbuilt → Gives blocks x v a old heap (progress.Outside Feature) old heap
  unfolding Gives
  unbuilt_given is = subst (λ b. Gives blocks x v b old heap (progress.Outside Feature) old heap) (sym is) so
    where
      so : Gives blocks x v attribute.Unbuilt old heap (progress.Outside Feature) old heap
      so s i st knows = refl

-- the row
module _ (blocks : Blocks) (x : Name) (t : TextNo) (old below : List Slot) (heap : List Object) (new : List Slot) (grown : List Object) where
  row_of_value : (v : Value) (p : Progress) → old ≡ slot.Value v ∷ below → Gives blocks x v (attribute_of heap v x) below heap p new grown
      → RowsAttribute blocks x t old heap p new grown
  unfolding Gives RowsAttribute RowsIn
  row_of_value v p e done st s pc i truths (knows, is) =
      done s i st knows
      ∙ (ap (λ y. by_tree s.code i (giving s.code i (slots_view below)) (slots_view below) (by_attribute s.program y v (attribute_of heap v y) s.here (with_objects heap st))) (sym is)
      ∙ (sym (operations_lead s.program s.code i s.here (with_objects heap st) (T.get (s.code.pool.text t.0)) (v ∷ []) (slots_view below))
      ∙ ap (λ ss. row_of (heap_host s.program) s.code pc i (Attr t) (slots_view ss) s.here (with_objects heap st)) (sym e)))

  pub attribute_row : (v : Value) (p : Progress) (a : Attribute) → one_value old ≡ Some v → below ≡ drop 1 old → a ≡ attribute_of heap v x
      → Gives blocks x v a below heap p new grown → RowsAttribute blocks x t old heap p new grown
  attribute_row v p a e f is done =
      row_of_value v p (one_on old v e ∙ ap (λ ss. slot.Value v ∷ ss) (sym f)) (subst (λ b. Gives blocks x v b below heap p new grown) is done)

pub attribute_lacks : (blocks : Blocks) (x : Name) (t : TextNo) (old : List Slot) (heap : List Object) (new : List Slot) (grown : List Object) → one_value old ≡ None
    → RowsAttribute blocks x t old heap progress.Lacks new grown
unfolding RowsAttribute RowsIn
attribute_lacks blocks x t old heap new grown e st s pc i truths knows = stuck_row s.program s.here (with_objects heap st) _ (lacks_one_of old e [] _)

-- attributes that are set and deleted
module _ (x : Name) (t : TextNo) (old below : List Slot) (heap : List Object) (grown : List Object) (p : Progress) where
  set_row_of : (v a : Value) → old ≡ slot.Value a ∷ (slot.Value v ∷ below) → Sets x a v heap p grown → RowsNamed x t (SetAttr t) old heap p below grown
  unfolding Sets RowsNamed RowsIn
  set_row_of v a e done st s pc i truths is =
      done s i (slots_view below) st
      ∙ (ap (λ y. by_tree s.code i (behind s.code i (slots_view below)) (slots_view below) (set_attribute y a v s.here (with_objects heap st))) (sym is)
      ∙ (sym (deeds_lead s.program s.code i s.here (with_objects heap st) (T.set_attribute (s.code.pool.text t.0) a v) (slots_view below))
      ∙ ap (λ ss. row_of (heap_host s.program) s.code pc i (SetAttr t) (slots_view ss) s.here (with_objects heap st)) (sym e)))

  pub set_row : (q : Value × Value) → two_values old ≡ Some q → below ≡ drop 2 old → Sets x q.1 q.0 heap p grown → RowsNamed x t (SetAttr t) old heap p below grown
  set_row q e f done = set_row_of q.0 q.1 (two_on old q.0 q.1 e ∙ ap (λ ss. slot.Value q.1 ∷ (slot.Value q.0 ∷ ss)) (sym f)) done

  delete_row_of : (a : Value) → old ≡ slot.Value a ∷ below → Deletes x a heap p grown → RowsNamed x t (DelAttr t) old heap p below grown
  unfolding Deletes RowsNamed RowsIn
  delete_row_of a e done st s pc i truths is =
      done s i (slots_view below) st
      ∙ (ap (λ y. by_tree s.code i (behind s.code i (slots_view below)) (slots_view below) (delete_attribute y a s.here (with_objects heap st))) (sym is)
      ∙ (sym (deeds_lead s.program s.code i s.here (with_objects heap st) (T.delete_attribute (s.code.pool.text t.0) a) (slots_view below))
      ∙ ap (λ ss. row_of (heap_host s.program) s.code pc i (DelAttr t) (slots_view ss) s.here (with_objects heap st)) (sym e)))

  pub delete_row : (a : Value) → one_value old ≡ Some a → below ≡ drop 1 old → Deletes x a heap p grown → RowsNamed x t (DelAttr t) old heap p below grown
  delete_row a e f done = delete_row_of a (one_on old a e ∙ ap (λ ss. slot.Value a ∷ ss) (sym f)) done

module _ (x : Name) (t : TextNo) (old : List Slot) (heap : List Object) (new : List Slot) (grown : List Object) where
  pub set_lacks : two_values old ≡ None → RowsNamed x t (SetAttr t) old heap progress.Lacks new grown
  unfolding RowsNamed RowsIn
  set_lacks e st s pc i truths is = stuck_row s.program s.here (with_objects heap st) _ (lacks_two old e _)

  pub delete_lacks : one_value old ≡ None → RowsNamed x t (DelAttr t) old heap progress.Lacks new grown
  unfolding RowsNamed RowsIn
  delete_lacks e st s pc i truths is = stuck_row s.program s.here (with_objects heap st) _ (lacks_one old e _)
