-- Each answer of the host keeps the names of the activation that asks, and opens blocks with theirs.
use Rattle.std.proofs.Common.{◌≡◌, ◌∙◌, ◌+◌, ◌-◌, ℕ, Bool, true, false, List, [], ◌∷◌, ◌++◌, length, map, drop, Option, Some, None, if◌then◌else◌, refl, sym, ap, arith, zero, suc, append-nil}
use Rattle.std.specs.Prelude.{Result, Ok, Err, option_map, slice_get, slice_set, ◌==◌, codes}
use Rattle.std.specs.List.{list_all, list_any}
use Rattle.std.specs.Str.{bytes_eq}
use Rattle.std.specs.Map.{keys_of}
use Rattle.std.proofs.lemmas.List.{length-map, length-drop, map-append}
use Rattle.pt_base.specs.declared.numbers.ObjId.{ObjId}
use Rattle.pt_base.specs.declared.what.What.TheVariants.{Feature, Special}
use Rattle.sem_control.specs.control.Turn as T
use Rattle.sem_control.specs.control.Turn.{Ask, Seek, Deed, Throw, Operation, Role, Scope, Variable, End, gave, left_by}
use Rattle.pt_tree.specs.Syntax.{Name}
use Rattle.pt_heap.specs.declared.value.Value.{Value}
use Rattle.pt_heap.specs.declared.value.Value.TheVariants as value
use Rattle.pt_heap.specs.declared.object.Builtin.{Builtin as BuiltinObject}
use Rattle.pt_heap.specs.declared.object.Class.{Class as ClassObject}
use Rattle.pt_heap.specs.declared.object.Function.{Function}
use Rattle.pt_heap.specs.declared.object.Method.{Method}
use Rattle.pt_heap.specs.declared.object.Object.{Object}
use Rattle.pt_heap.specs.declared.object.Object.TheVariants as object
use Rattle.pt_names.specs.Names.{Named}
use Rattle.pt_bind.specs.Binding.{binding_with}
use Rattle.pt_bind.specs.declared.arguments.Args.{Args}
use Rattle.pt_bind.specs.declared.arguments.BindErr.{BindErr}
use Rattle.pt_bind.specs.declared.arguments.Locals.{Locals}
use Rattle.pt_bind.specs.declared.arguments.Params.{Params}
use Rattle.pt_content.specs.Changes.{added, changed, has_kind, has_room, holding, made as new_object, replaced}
use Rattle.pt_content.specs.Classes.{class_name}
use Rattle.pt_content.specs.Functions.{of_function}
use Rattle.pt_content.specs.Operands.{text_of}
use Rattle.pt_content.specs.pt_attrs.Store.{assigned, unassigned}
use Rattle.pt_content.specs.pt_attrs.declared.look.Found.{Found}
use Rattle.pt_content.specs.pt_attrs.declared.look.Found.TheVariants as found
use Rattle.pt_content.specs.declared.answer.Helper.{Helper as Asked}
use Rattle.pt_content.specs.declared.answer.Helper.TheVariants as asks
use Rattle.pt_content.specs.declared.answer.PrimAns.{PrimAns}
use Rattle.pt_content.specs.declared.answer.PrimAns.TheVariants as prim
use Rattle.pt_content.specs.declared.content.Change.{Change}
use Rattle.pt_content.specs.declared.content.Content.{Content}
use Rattle.pt_content.specs.declared.content.Content.TheVariants as content
use Rattle.pt_content.specs.declared.content.Mutable.{Mutable}
use Rattle.pt_content.specs.declared.content.Mutable.TheVariants as mutable
use Rattle.pt_content.specs.declared.content.NewObject.{NewObject}
use Rattle.pt_content.specs.declared.content.NewObject.TheVariants as new
use Rattle.pt_content.specs.declared.content.Replacement.{Replacement}
use Rattle.pt_content.specs.declared.function.Function.{Function as BuiltinFunction}
use Rattle.pt_content.specs.declared.function.Function.TheVariants as builtin
use Rattle.pt_content.specs.declared.method_name.MethodName.{MethodName}
use Rattle.pt_content.specs.declared.op.Op.{Op}
use Rattle.pt_content.specs.declared.op.Op.TheVariants as op
use Rattle.sem_rows.specs.pt_host.pt_methods.declared.attribute.Attribute.{Attribute}
use Rattle.sem_rows.specs.pt_host.pt_methods.declared.attribute.Attribute.TheVariants as attribute
use Rattle.sem_rows.specs.pt_host.pt_methods.Attributes.{attribute_of, receiver_of}
use Rattle.sem_rows.specs.pt_host.pt_methods.Names.{of_method_number}
use Rattle.pt_prims.specs.Classes.{derives}
use Rattle.pt_prims.specs.pt_special_methods.Instances.{method_of}
use Rattle.pt_prims.specs.Operations.{content_of, grown, prim_answer, prim_heap}
use Rattle.pt_helper_objects.specs.Objects.{helper_place}
use Rattle.pt_helper_objects.specs.pt_prelude.Asked.{function_of}
use Rattle.pt_helper_objects.specs.pt_prelude.declared.kinds.Helper.{Helper}
use Rattle.sem_run.specs.run.Machine.{BlockId}
use Rattle.sem_run.specs.run.Host.{Here, BlockResult, Item, an_item, no_item, answer, raise, print, leave, request, opens, made, beyond}
use Rattle.sem_rows.specs.pt_host.World.{Names, Stores, CodeFacts, Program, Allotted, with_objects, allot}
use Rattle.sem_rows.specs.pt_host.Trees.{Tree, answer_with, made_all, raise_with, then_with}
use Rattle.sem_rows.specs.pt_host.Builtins as B
use Rattle.sem_rows.specs.pt_host.Builtins.{meaning}
use Rattle.sem_rows.specs.pt_host.Errors.{error_saying, raise_saying, arise_while, context_in, cut, cut_at, cut_within, error, in_context, object_place, with_context}
use Rattle.sem_rows.specs.pt_host.declared.places.TheConstants.{ATTRIBUTE_ERROR, BASE_EXCEPTION, IMPORT_ERROR, MODULE_NOT_FOUND_ERROR, OBJECT, RECURSION_ERROR, SYS, TYPE_ERROR, ASSERTION_ERROR, RUNTIME_ERROR}
use Rattle.sem_rows.specs.pt_host.Texts.{unbound_text, unbound_class, binding_text, missing_text, no_module_text, no_name_text, not_callable_text}
use Rattle.sem_rows.specs.pt_host.Variables.{cell_number, free_number, with_cell, put, make_anew, raise_unbound, by_builtin, unless_bound, readable_value, variable_value, load_by, is_no_method, delete_by}
use Rattle.sem_rows.specs.pt_host.Primitives.{Awaited, answer_if, of_prim, prim_asked, one_value, done, a_truth, so_many, item_or_end, arguments_of}
use Rattle.sem_rows.specs.pt_host.Calls.{not_callable, number_of, function_object, first_value, cells_from, cells_along, result_of, block_of, parameters_given, run_block, run_given, call_bound, call_function, Values, values_given, operands_of, method_operands, helper_arguments, helper_of_class, call_hidden, call_at, ask, ask_with, asked_in_place, behind_helper, by_prim_or_helper, objects_for, operate_or_ask, operated, standing_for, call_builtin, call_method, call_builtin_object, class_function, call_other_class, call_by, call_found, call_limit, call_object, call_special, called_within, Called, call_value, call, are_arguments, arguments, unnamed_operands, exception_class, make_exception, call_setattr, instance, parameters_without, initializer, with_receiver, made_unless, call_function_at, initialized, instance_by, make_instance, new_object as plain_object, call_super, call_class, takes_arguments}
use Rattle.sem_rows.specs.pt_host.Attributes.{method_object, bound_object, bound_of, name_of, arguments_in, raise_missing, by_attribute, is_fixed, by_changed, set_attribute, delete_attribute, set_named}
use Rattle.sem_rows.specs.pt_host.Supers.{class_around, first_value as first_here, may_have_super, super_object, super_by, super_of}
use Rattle.sem_rows.specs.pt_host.Classes.{class_object, with_own_cell, next_cell, class_made, class_on, class_by, cell_if, class_from, class_block, base_of}
use Rattle.sem_rows.specs.pt_host.declared.classes.Base.{Base}
use Rattle.sem_rows.specs.pt_host.declared.classes.Base.TheVariants.{On, Unavailable, NoBase}
use Rattle.sem_rows.specs.pt_host.Imports.{import_module, by_imported}
use Rattle.pt_content.specs.pt_attrs.Look.{object_of}
use Rattle.sem_rows.specs.pt_host.Leaving.{error_at, is_stop}
use Rattle.sem_rows.specs.pt_host.Raising.{Standing, as_standing, raisable, standing, with_cause, raise_object, raise_neither, raise_caused, raise_from, raise_with_cause, raise_standing, raise_active, is_found, throws, handler_classes, is_exception_class, is_of_class, is_taken, matches}
use Rattle.sem_rows.specs.pt_host.declared.raising.Raisable.{Raisable}
use Rattle.sem_rows.specs.pt_host.declared.raising.Raisable.TheVariants as raisables
use Rattle.sem_rows.specs.pt_host.declared.managers.Manager.{Manager}
use Rattle.sem_rows.specs.pt_host.declared.managers.Manager.TheVariants.{Methods, NoEnter, NoExit, Unavailable as NoCall}
use Rattle.sem_rows.specs.pt_host.Managers.{exit_arguments, manager_of}
use Rattle.sem_rows.specs.pt_host.Answers.{call_exit, change_by, change_of, change_or, changed_by, by_change, entered, exit, next_by, or_end, or_end_behind, swallows, unpacked_by, unpacking, deeds, operation_of, by_operation, named_method, operate, operate_by, seeks, special_name, special_or, answers}
use Rattle.sem_rows.proofs.pt_host.AskedEnds.{Ends, AllotsIn, answered-ends, asked-ends}
use Rattle.law_frames.specs.RunNames.{HasItsNames, TakesCells, AllTakeCells, StoresHaveNames}
use Rattle.law_frames.proofs.StarredCells.{values-take, ValuesTakeCells}
use Rattle.law_frames.proofs.ObjectNames.{ChangedTakes, assigned-takes, unassigned-takes}
use Rattle.law_frames.proofs.Stores.{IsOneOf, put-keeps, bound-names, all-both, all-set, all-get, AllotsCells, allotted, error-allotted, saying-allotted, other-objects}

-- what an ask of a block's code names: a name that is given another cell is one that has one, and a function or a class gets as many cells as its block has
-- free names
module _ (program : Program) (b : BlockId) where
  abbrev pub IsMadeAnew : Scope → Name → Type 0
  IsMadeAnew T.cell x = IsOneOf ((program.facts b).cells ++ (program.facts b).frees) x
  IsMadeAnew s x = Unit {0}

  abbrev pub NamesInDeed : Deed Value → Type 0
  NamesInDeed (T.fresh x) = IsMadeAnew x.scope x.name
  NamesInDeed d = Unit {0}

  abbrev pub NamesInOperation : Operation → List Value → Type 0
  NamesInOperation (T.function n xs) vs = length vs ≡ length xs + length (program.facts (record { hidden = b.hidden; number = n })).frees
  NamesInOperation (T.class n) vs = length vs ≡ suc (length (program.facts (record { hidden = b.hidden; number = n })).frees)
  NamesInOperation o vs = Unit {0}

  abbrev pub NamesInSeek : Seek Value → Type 0
  NamesInSeek (T.operate o vs) = NamesInOperation o vs
  NamesInSeek s = Unit {0}

  abbrev pub NamesInAsk : Ask Value → Type 0
  NamesInAsk (T.seek s) = NamesInSeek s
  NamesInAsk (T.deed d) = NamesInDeed d
  NamesInAsk a = Unit {0}

  -- an answer in the making
  abbrev pub Keeps : {A : Type 0} → Tree A → Type 0
  Keeps (answer x st) = StoresHaveNames program b st
  Keeps (raise v st) = StoresHaveNames program b st
  Keeps (print t k) = Keeps k
  Keeps (leave what) = Unit {0}
  Keeps (request (opens o) st k) =
      StoresHaveNames program b st × (HasItsNames (program.facts o.block) o.names × ((r : BlockResult Names Value) (st1 : Stores)
      → StoresHaveNames program b st1 → Keeps (k r st1)))
  Keeps (request r st k) = Unit {0}

-- what the names of a block begin with
keys-of-firsts : {A : Type 0} (f : Name → A) (xs : List Name) → keys_of (map (λ x. (x, f x)) xs) ≡ xs
keys-of-firsts f [] = refl
keys-of-firsts f (x ∷ xs) = ap (λ ys. x ∷ ys) (keys-of-firsts f xs)

keys-from : (n : ℕ) (xs : List Name) → keys_of (cells_from n xs) ≡ xs
keys-from n [] = refl
keys-from n (x ∷ xs) = ap (λ ys. x ∷ ys) (keys-from (n + 1) xs)

keys-along : (xs : List Name) (ns : List ℕ) → length ns ≡ length xs → keys_of (cells_along xs ns) ≡ xs
keys-along [] [] e = refl
keys-along [] (n ∷ ns) e = refl
keys-along (x ∷ xs) [] e = absurd (omega (arith, e))
keys-along (x ∷ xs) (n ∷ ns) e = ap (λ ys. x ∷ ys) (keys-along xs ns (omega (arith, e)))

pub opened-names : (facts : CodeFacts) (f : Name → Option Value) (n : ℕ) (ns : List ℕ) → length ns ≡ length facts.frees
    → HasItsNames facts (record { values = map (λ x. (x, f x)) facts.locals; cells = cells_from n facts.cells ++ cells_along facts.frees ns })
opened-names facts f n ns e = record {
  of_class = [];
  values = keys-of-firsts f facts.locals ∙ sym (append-nil facts.locals);
  apart = tt;
  cells = map-append (λ p. p.0) (cells_from n facts.cells) (cells_along facts.frees ns)
      ∙ (ap (λ xs. xs ++ keys_of (cells_along facts.frees ns)) (keys-from n facts.cells) ∙ ap (λ xs. facts.cells ++ xs) (keys-along facts.frees ns e));
}

-- so many cells are taken along, whichever of them is the class's own
along-own : (c : ℕ) (xs : List Name) (ns : List ℕ) → length ns ≡ length xs → length (with_own_cell c xs ns) ≡ length xs
along-own c [] [] e = refl
along-own c [] (n ∷ ns) e = refl
along-own c (x ∷ xs) [] e = absurd (omega (arith, e))
along-own c (x ∷ xs) (n ∷ ns) e = let rest = along-own c xs ns (omega (arith, e)) in omega (arith, rest)

module _ (program : Program) (b : BlockId) where
  abbrev K : {A : Type 0} → Tree A → Type 0
  K t = Keeps program b t

  abbrev Has : Stores → Type 0
  Has st = StoresHaveNames program b st

  -- what requests nothing keeps them where its stores do
  ends-keep : {A : Type 0} (t : Tree A) → Ends Has t → K t
  ends-keep (answer x st) e = e
  ends-keep (raise v st) e = e
  ends-keep (print t k) e = ends-keep k e
  ends-keep (leave what) e = tt
  ends-keep (request r st k) e = absurd e

  either-tree : {A : Type 0} (c : Bool) (x y : Tree A) → K x → K y → K (if c then x else y)
  either-tree true x y p q = p
  either-tree false x y p q = q

  -- so does what is made of an answer
  then-keeps : {A B : Type 0} (t : Tree A) (f : A → Stores → Tree B) → K t → ((x : A) (st : Stores) → Has st → K (f x st)) → K (then_with t f)
  unfolding then_with
  then-keeps (answer x st) f k g = g x st k
  then-keeps (raise v st) f k g = k
  then-keeps (print t r) f k g = then-keeps r f k g
  then-keeps (leave what) f k g = tt
  then-keeps (request (opens o) st r) f k g = (k.0, (k.1.0, λ x st1 h. then-keeps (r x st1) f (k.1.1 x st1 h) g))
  then-keeps (request q st r) f k g = tt

  answered : (a : Allotted) (st : Stores) → Has st → AllotsCells program a → K (answer_with a st)
  answered (made v h) st s m = other-objects program b st h s m
  answered (beyond what) st s m = tt

  raised : (A : Type 0) (a : Allotted) (st : Stores) → Has st → AllotsCells program a → K (raise_with {A = A} a st)
  raised A (made v h) st s m = other-objects program b st h s m
  raised A (beyond what) st s m = tt

  saying-keeps : (A : Type 0) (c : ObjId) (t : List ℕ) (h : Here Value) (st : Stores) → Has st → K (raise_saying {A = A} c t h st)
  saying-keeps A c t h st s = raised A (error_saying c t None h.active st.world.heap) st s (saying-allotted program c t None h.active st.world.heap s.functions)

  unbound-keeps : (A : Type 0) (s : Scope) (x : Name) (h : Here Value) (st : Stores) → Has st → K (raise_unbound {A = A} s x h st)
  unbound-keeps A s x h st has = saying-keeps A (unbound_class s) (unbound_text s x) h st has

  not-callable-keeps : (v : Value) (h : Here Value) (st : Stores) → Has st → K (not_callable v h st)
  not-callable-keeps v h st s = saying-keeps Value TYPE_ERROR (not_callable_text (class_name st.world.heap v)) h st s

  -- no change of the heap makes a function
  new-takes : (o : NewObject) → TakesCells program (new_object o)
  new-takes (new.Text t) = tt
  new-takes (new.List vs) = tt
  new-takes (new.Tuple vs) = tt
  new-takes (new.Dict es) = tt
  new-takes (new.Set es) = tt
  new-takes (new.Range r) = tt
  new-takes (new.Slice x) = tt
  new-takes (new.Cursor c) = tt
  new-takes (new.View v) = tt
  new-takes (new.Method m) = tt
  new-takes (new.Builtin b) = tt

  all-new : (os : List NewObject) → AllTakeCells program (map new_object os)
  all-new [] = tt
  all-new (o ∷ os) = (new-takes o, all-new os)

  holding-takes : (m : Mutable) → TakesCells program (holding m)
  holding-takes (mutable.List vs) = tt
  holding-takes (mutable.Dict es) = tt
  holding-takes (mutable.Set es) = tt
  holding-takes (mutable.Cursor c) = tt

  replaced-takes : (r : Option Replacement) (h : List Object) → AllTakeCells program h → AllTakeCells program (replaced r h)
  replaced-takes None h all = all
  replaced-takes (Some r) h all = by (has_kind r.object (slice_get h r.id.0))
    where
      by : (c : Bool) → AllTakeCells program (if c then slice_set h r.id.0 (holding r.object) else h)
      by true = all-set (TakesCells program) h r.id.0 (holding r.object) all (holding-takes r.object)
      by false = all

  changed-takes : (c : Change) (h : List Object) → AllTakeCells program h → AllTakeCells program (changed c h)
  changed-takes c h all = by (has_room c.objects h)
    where
      by : (r : Bool) → AllTakeCells program (if r then replaced c.replacement (h ++ map new_object c.objects) else h)
      by true = replaced-takes c.replacement (h ++ map new_object c.objects) (all-both (TakesCells program) h (map new_object c.objects) all (all-new c.objects))
      by false = all

  grown-takes : (c : Content) (h : List Object) → AllTakeCells program h → AllTakeCells program (grown c h)
  grown-takes (content.Value v) h all = all
  grown-takes (content.New o) h all = changed-takes (added (o ∷ [])) h all
  grown-takes (content.NewValues os) h all = changed-takes (added os) h all
  grown-takes (content.Raise class t) h all = changed-takes (added (new.Text t ∷ [])) h all
  grown-takes (content.Help helper inverted) h all = all
  grown-takes (content.Print t) h all = all
  grown-takes (content.Outside what) h all = all
  grown-takes (content.Changed c x) h all = changed-takes c h all

  -- operations on values
  allots-in : (a : Allotted) (st : Stores) → Has st → AllotsCells program a → AllotsIn Has st a
  allots-in (made v h) st s m = other-objects program b st h s m
  allots-in (beyond what) st s m = tt

  asked-keeps : {A : Type 0} (w : Awaited A) (o : Op) (vs : List Value) (h : Here Value) (st : Stores) → Has st → K (prim_asked w o vs h st)
  asked-keeps w o vs h st s =
      let k : List Object = prim_heap o vs st.world.heap in
      let has : Has (with_objects k st) = other-objects program b st k s (grown-takes (content_of o vs st.world.heap) st.world.heap s.functions) in
      ends-keep (prim_asked w o vs h st)
      (asked-ends Has w h o vs st has (λ c args. allots-in _ (with_objects k st) has (error-allotted program c args None h.active k has.functions)))

  -- names
  by-builtin-keeps : (u : B.Builtin) (s : Scope) (x : Name) (h : Here Value) (st : Stores) → Has st → K (by_builtin u s x h st)
  by-builtin-keeps (B.is v) s x h st has = has
  by-builtin-keeps B.unavailable s x h st has = tt
  by-builtin-keeps B.no_builtin s x h st has = unbound-keeps Value s x h st has

  unless-bound-keeps : (s : Scope) (x : Name) (h : Here Value) (st : Stores) → Has st → K (unless_bound s x h st)
  unless-bound-keeps T.global x h st has = by-builtin-keeps (meaning h.block.hidden x) T.global x h st has
  unless-bound-keeps T.of_class x h st has = by-builtin-keeps (meaning h.block.hidden x) T.of_class x h st has
  unless-bound-keeps s x h st has = unbound-keeps Value s x h st has

  load-keeps : (o : Option Value) (s : Scope) (x : Name) (h : Here Value) (st : Stores) → Has st → K (load_by o s x h st)
  load-keeps (Some v) s x h st has = has
  load-keeps None s x h st has = unless-bound-keeps s x h st has

  cell-put : (o : Option ℕ) (v : Option Value) (st : Stores) → Has st → Has (with_cell o v st)
  cell-put (Some n) v st has = record { names = has.names; functions = has.functions }
  cell-put None v st has = has

  own-put : (x : Name) (v : Option Value) (st : Stores) → Has st → Has (put T.local x v st)
  own-put x v st has = record { names = bound-names (program.facts b) st.names x v has.names; functions = has.functions }

  put-keeps-names : (s : Scope) (x : Name) (v : Option Value) (st : Stores) → Has st → Has (put s x v st)
  put-keeps-names T.local x v st has = own-put x v st has
  put-keeps-names T.of_class x v st has = own-put x v st has
  put-keeps-names T.cell x v st has = cell-put (cell_number x st.names) v st has
  put-keeps-names T.free x v st has = cell-put (free_number x st.names) v st has
  put-keeps-names T.global x v st has = record { names = has.names; functions = has.functions }

  made-anew : (s : Scope) (x : Name) (st : Stores) → Has st → IsMadeAnew program b s x → Has (make_anew s x st)
  made-anew T.cell x st has i = record {
    names = record {
      of_class = has.names.of_class;
      values = has.names.values;
      apart = has.names.apart;
      cells = put-keeps ((program.facts b).cells ++ (program.facts b).frees) st.names.cells x (length st.world.cells) has.names.cells i;
    };
    functions = has.functions;
  }
  made-anew T.local x st has i = put-keeps-names T.local x None st has
  made-anew T.of_class x st has i = put-keeps-names T.of_class x None st has
  made-anew T.free x st has i = put-keeps-names T.free x None st has
  made-anew T.global x st has i = put-keeps-names T.global x None st has

  delete-keeps : (o : Option Value) (s : Scope) (x : Name) (h : Here Value) (st : Stores) → Has st → K (delete_by o s x h st)
  delete-keeps (Some v) s x h st has = put-keeps-names s x None st has
  delete-keeps None s x h st has = unbound-keeps (Unit {0}) s x h st has

  -- functions
  taken : (xs : List Name) (vs : List Value) (n : ℕ) → length vs ≡ length xs + n → length (map number_of (drop (length xs) vs)) ≡ n
  taken xs vs n e =
      let l : length (map number_of (drop (length xs) vs)) ≡ length (drop (length xs) vs) = length-map (drop (length xs) vs) number_of in
      let k : length (drop (length xs) vs) ≡ length vs - length xs = length-drop (length xs) vs in
      omega (arith, e, l, k)

  -- calls
  result-keeps : (e : End Value) (st : Stores) → Has st → K (result_of e st)
  result-keeps (gave v) st s = s
  result-keeps (left_by v) st s = s

  block-keeps : (f : Function) (ps : Named) (st : Stores) → Has st → TakesCells program (object.Function f) → K (run_block (program.facts (block_of f)) f ps st)
  block-keeps f ps st s t = (
    record { names = s.names; functions = s.functions },
    (
      opened-names (program.facts (block_of f)) (λ x. first_value (program.facts (block_of f)) ps x)
          (length st.world.cells) f.cells t,
      λ r st1 h. result-keeps r.end st1 h,
    ),
  )

  given-keeps : (f : Function) (v : Values) (st : Stores) → Has st → ValuesTakeCells program v → TakesCells program (object.Function f)
      → K (run_given (program.facts (block_of f)) f v st)
  given-keeps f (made vs k) st s w t =
      block-keeps f (parameters_given (program.facts (block_of f)).locals vs) (with_objects k st) (other-objects program b st k s w) t
  given-keeps f (beyond what) st s w t = tt

  bound-keeps : (f : Function) (r : Result Locals BindErr) (h : Here Value) (st : Stores) → Has st → TakesCells program (object.Function f)
      → K (call_bound (program.facts (block_of f)) f r h st)
  bound-keeps f (Ok ls) h st s t =
      let params : Params = (program.facts (block_of f)).params in
      given-keeps f (values_given params ls st.world.heap) st s (values-take program params ls st.world.heap s.functions) t
  bound-keeps f (Err e) h st s t =
      let text : List ℕ = binding_text (program.facts (block_of f)).name e in
      either-tree f.hidden (leave Feature) (raise_saying TYPE_ERROR text h st) tt (saying-keeps Value TYPE_ERROR text h st s)

  function-keeps : (f : Function) (args : Args) (h : Here Value) (st : Stores) → Has st → TakesCells program (object.Function f)
      → K (call_function (program.facts (block_of f)) f args h st)
  function-keeps f args h st s t =
      let facts : CodeFacts = program.facts (block_of f) in
      either-tree facts.yields (leave Feature) (call_bound facts f (binding_with facts.params f.defaults args) h st) tt
      (bound-keeps f (binding_with facts.params f.defaults args) h st s t)

  -- names that objects are given, or that are taken from them
  missing-keeps : (A : Type 0) (x : Name) (v : Value) (h : Here Value) (st : Stores) → Has st → K (raise_missing {A = A} x v h st)
  missing-keeps A x v h st s = saying-keeps A ATTRIBUTE_ERROR (missing_text (class_name st.world.heap v) x) h st s

  changed-keeps : (fixed : Bool) (x : Name) (a : Value) (o : Option (List Object)) (h : Here Value) (st : Stores) → Has st → ChangedTakes program o
      → K (by_changed fixed x a o h st)
  changed-keeps true x a (Some k) h st s t = tt
  changed-keeps false x a (Some k) h st s t = other-objects program b st k s t
  changed-keeps true x a None h st s t = missing-keeps (Unit {0}) x a h st s
  changed-keeps false x a None h st s t = missing-keeps (Unit {0}) x a h st s

  set-keeps : (x : Name) (a v : Value) (h : Here Value) (st : Stores) → Has st → K (set_attribute x a v h st)
  set-keeps x a v h st s =
      changed-keeps (is_fixed (object_of st.world.heap a) x) x a (assigned st.world.heap a x v) h st s (assigned-takes program st.world.heap a x v s.functions)

  unset-keeps : (x : Name) (a : Value) (h : Here Value) (st : Stores) → Has st → K (delete_attribute x a h st)
  unset-keeps x a h st s =
      changed-keeps (is_fixed (object_of st.world.heap a) x) x a (unassigned st.world.heap a x) h st s (unassigned-takes program st.world.heap a x s.functions)

  named-keeps : (o : Option (List ℕ)) (a v : Value) (h : Here Value) (st : Stores) → Has st → K (set_named o a v h st)
  named-keeps (Some x) a v h st s = set-keeps x a v h st s
  named-keeps None a v h st s = saying-keeps (Unit {0}) TYPE_ERROR (codes "bad argument") h st s

  setattr-keeps : (o : Option (List Value)) (h : Here Value) (st : Stores) → Has st → K (call_setattr o h st)
  setattr-keeps (Some (a ∷ name ∷ v ∷ [])) h st s =
      then-keeps (set_named (text_of st.world.heap name) a v h st) (λ u st1. answer value.None st1)
      (named-keeps (text_of st.world.heap name) a v h st s) (λ u st1 s1. s1)
  setattr-keeps o h st s = tt

  -- a function that is written in Python is called as any other
  hidden-keeps : (o : Option Object) (place : ℕ) (args : Args) (h : Here Value) (st : Stores) → slice_get st.world.heap place ≡ o → Has st
      → K (call_hidden program o args h st)
  hidden-keeps (Some (object.Function f)) place args h st e s = function-keeps f args h st s
      (all-get (TakesCells program) st.world.heap place (object.Function f) s.functions e)
  hidden-keeps o place args h st e s = tt

  at-keeps : (o : Option ℕ) (args : Args) (h : Here Value) (st : Stores) → Has st → K (call_at program o args h st)
  at-keeps (Some place) args h st s = hidden-keeps (slice_get st.world.heap place) place args h st refl s
  at-keeps None args h st s = tt

  ask-keeps : (f : Helper) (args : Args) (h : Here Value) (st : Stores) → Has st → K (ask program f args h st)
  ask-keeps f args h st s = at-keeps (helper_place f) args h st s

  -- its arguments make no function
  made-all-keeps : (os : List Object) (st : Stores) → Has st → AllTakeCells program os → K (made_all os st)
  made-all-keeps [] st s t = s
  made-all-keeps (o ∷ os) st s t =
      then-keeps (answer_with (allot o st.world.heap) st) (λ v st1. then_with (made_all os st1) (λ vs st2. answer (v ∷ vs) st2))
      (answered (allot o st.world.heap) st s (allotted program o st.world.heap s.functions t.0))
      (λ v st1 s1. then-keeps (made_all os st1) (λ vs st2. answer (v ∷ vs) st2) (made-all-keeps os st1 s1 t.1) (λ vs st2 s2. s2))

  objects-take : (a : Asked) (vs : List Value) → AllTakeCells program (objects_for a vs)
  objects-take (asks.BinaryOf o) vs = (tt, (tt, (tt, tt)))
  objects-take asks.PrintOf (separator ∷ end ∷ vs) = (tt, (tt, (tt, tt)))
  objects-take a vs = tt

  ask-with-keeps : (a : Asked) (vs : List Value) (h : Here Value) (st : Stores) → Has st → K (ask_with program a vs h st)
  ask-with-keeps a vs h st s =
      then-keeps (made_all (objects_for a vs) st) (λ ms st1. ask program (function_of a) (helper_arguments a vs ms) h st1)
      (made-all-keeps (objects_for a vs) st s (objects-take a vs)) (λ ms st1 s1. ask-keeps (function_of a) (helper_arguments a vs ms) h st1 s1)

  given-if-keeps : {A : Type 0} (o : Option A) (st : Stores) → Has st → K (answer_if o st)
  given-if-keeps (Some x) st s = s
  given-if-keeps None st s = tt

  behind-keeps : {A : Type 0} (w : Awaited A) (o : Op) (a : Asked) (vs : List Value) (inverted : Bool) (v : Value) (h : Here Value) (st : Stores) → Has st
      → K (behind_helper w o a vs inverted v h st)
  behind-keeps w (op.Format c) a (x ∷ spec ∷ vs) inverted v h st s = asked-keeps w (op.Format None) (v ∷ spec ∷ []) h st s
  behind-keeps w op.Truth a vs inverted v h st s = given-if-keeps (w.value v) st s
  behind-keeps w op.Iter a vs inverted v h st s = given-if-keeps (w.value v) st s
  behind-keeps w o a vs inverted v h st s = given-if-keeps (w.value (standing_for o a vs inverted v)) st s

  answer-keeps : {A : Type 0} (w : Awaited A) (a : PrimAns) (h : Here Value) (st : Stores) → Has st → K (of_prim w a h st)
  answer-keeps w a h st s =
      ends-keep (of_prim w a h st) (answered-ends Has w h a st s (λ c args. allots-in _ st s (error-allotted program c args None h.active st.world.heap s.functions)))

  in-place-keeps : {A : Type 0} (w : Awaited A) (o : Op) (a : PrimAns) (h : Here Value) (st : Stores) → Has st → K (asked_in_place program w o a h st)
  in-place-keeps w o (prim.Help a vs inverted) h st s =
      then-keeps (ask_with program a vs h st) (λ v st1. behind_helper w o a vs inverted v h st1) (ask-with-keeps a vs h st s)
      (λ v st1 s1. behind-keeps w o a vs inverted v h st1 s1)
  in-place-keeps w o a h st s = answer-keeps w a h st s

  -- the stores behind an operation
  behind-operation : (o : Op) (vs : List Value) (st : Stores) → Has st → Has (with_objects (prim_heap o vs st.world.heap) st)
  behind-operation o vs st s = other-objects program b st (prim_heap o vs st.world.heap) s (grown-takes (content_of o vs st.world.heap) st.world.heap s.functions)

  operated-keeps : {A : Type 0} (w : Awaited A) (o : Op) (vs : List Value) (h : Here Value) (st : Stores) → Has st → K (operated program w o vs h st)
  unfolding operated
  operated-keeps w o vs h st s =
      in-place-keeps w o (prim_answer o vs st.world.heap) h (with_objects (prim_heap o vs st.world.heap) st) (behind-operation o vs st s)

  by-either-keeps : (o : Op) (vs : List Value) (h : Here Value) (st : Stores) → Has st → K (by_prim_or_helper program o vs h st)
  by-either-keeps o vs h st s = operated-keeps one_value o vs h st s

  -- items of an iterator, up to the StopIteration by which it ends, and what is unpacked
  or-end-keeps : (t : Tree (Item Value)) → K t → K (or_end t)
  unfolding or_end
  or-end-keeps (answer x st) k = k
  or-end-keeps (raise e st) k = either-tree (is_stop e st.world) (answer (no_item (Some e)) st) (raise e st) k k
  or-end-keeps (print t u) k = or-end-keeps u k
  or-end-keeps (leave what) k = tt
  or-end-keeps (request (opens o) st f) k = (k.0, (k.1.0, λ x st1 s1. or-end-keeps (f x st1) (k.1.1 x st1 s1)))
  or-end-keeps (request q st f) k = tt

  or-end-behind-keeps : (t : Tree (Item Value)) → K t → K (or_end_behind t)
  or-end-behind-keeps (answer x st) k = k
  or-end-behind-keeps (raise e st) k = k
  or-end-behind-keeps (print t u) k = or-end-behind-keeps u k
  or-end-behind-keeps (leave what) k = tt
  or-end-behind-keeps (request (opens o) st f) k = (k.0, (k.1.0, λ x st1 s1. or-end-keeps (f x st1) (k.1.1 x st1 s1)))
  or-end-behind-keeps (request q st f) k = tt

  next-by-keeps : (a : PrimAns) (h : Here Value) (st : Stores) → Has st → K (next_by program a h st)
  next-by-keeps (prim.Help a vs inverted) h st s =
      or-end-behind-keeps (then_with (ask_with program a vs h st) (λ v st1. answer (an_item v) st1))
      (then-keeps (ask_with program a vs h st) (λ v st1. answer (an_item v) st1) (ask-with-keeps a vs h st s) (λ v st1 s1. s1))
  next-by-keeps a h st s = answer-keeps item_or_end a h st s

  unpacked-by-keeps : (n : ℕ) (star : Option ℕ) (a : PrimAns) (h : Here Value) (st : Stores) → Has st → K (unpacked_by program n star a h st)
  unpacked-by-keeps n star (prim.Help a vs inverted) h st s =
      then-keeps (ask_with program a vs h st) (λ v st1. prim_asked (so_many n) (unpacking n star) (v ∷ []) h st1) (ask-with-keeps a vs h st s)
      (λ v st1 s1. asked-keeps (so_many n) (unpacking n star) (v ∷ []) h st1 s1)
  unpacked-by-keeps n star a h st s = answer-keeps (so_many n) a h st s

  operate-or-ask-keeps : (f : Op) (o : Option (List Value)) (h : Here Value) (st : Stores) → Has st → K (operate_or_ask program f o h st)
  operate-or-ask-keeps f (Some vs) h st s = by-either-keeps f vs h st s
  operate-or-ask-keeps f None h st s = tt

  builtin-keeps : (o : Option BuiltinFunction) (args : Args) (h : Here Value) (st : Stores) → Has st → K (call_builtin program o args h st)
  builtin-keeps (Some builtin.Setattr) args h st s = setattr-keeps (unnamed_operands args.named args.plain) h st s
  builtin-keeps (Some f) args h st s = operate-or-ask-keeps (op.Call f) (operands_of f args) h st s
  builtin-keeps None args h st s = tt

  method-keeps : (o : Option MethodName) (v : Value) (args : Args) (h : Here Value) (st : Stores) → Has st → K (call_method program o v args h st)
  method-keeps (Some m) v args h st s = operate-or-ask-keeps (op.CallMethod m) (option_map (λ vs. v ∷ vs) (method_operands m args)) h st s
  method-keeps None v args h st s = tt

  builtin-object-keeps : (u : BuiltinObject) (o : Option Value) (args : Args) (h : Here Value) (st : Stores) → Has st → K (call_builtin_object program u o args h st)
  builtin-object-keeps u None args h st s = builtin-keeps (of_function u.number) args h st s
  builtin-object-keeps u (Some v) args h st s = method-keeps (of_method_number u.number) v args h st s

  -- attributes: no method takes cells
  attribute-keeps : (x : Name) (v : Value) (a : Attribute) (h : Here Value) (st : Stores) → Has st → K (by_attribute program x v a h st)
  attribute-keeps x v (attribute.Method m) h st s =
      answered (allot (method_object m v) st.world.heap) st s (allotted program (method_object m v) st.world.heap s.functions tt)
  attribute-keeps x v (attribute.Held u) h st s = s
  attribute-keeps x v (attribute.Bound f) h st s =
      let o : Object = bound_object f (receiver_of st.world.heap v) in answered (allot o st.world.heap) st s (allotted program o st.world.heap s.functions tt)
  attribute-keeps x v attribute.NameOf h st s =
      let o : Object = object.Str (name_of program (object_of st.world.heap v)) in answered (allot o st.world.heap) st s (allotted program o st.world.heap s.functions tt)
  attribute-keeps x v attribute.Arguments h st s =
      let o : Object = object.Tuple (arguments_in (object_of st.world.heap v)) in answered (allot o st.world.heap) st s (allotted program o st.world.heap s.functions tt)
  attribute-keeps x v attribute.Missing h st s = missing-keeps Value x v h st s
  attribute-keeps x v attribute.Unbuilt h st s = tt

  -- modules and their names
  import-keeps : (x : Name) (h : Here Value) (st : Stores) → Has st → K (import_module x h st)
  import-keeps x h st s =
      either-tree (bytes_eq x (codes "sys")) (answer (value.Obj SYS) st) (raise_saying MODULE_NOT_FOUND_ERROR (no_module_text x) h st) s
      (saying-keeps Value MODULE_NOT_FOUND_ERROR (no_module_text x) h st s)

  imported-keeps : (x : Name) (m : Value) (a : Attribute) (h : Here Value) (st : Stores) → Has st → K (by_imported program x m a h st)
  imported-keeps x m attribute.Missing h st s = saying-keeps Value IMPORT_ERROR (no_name_text x) h st s
  imported-keeps x m a h st s = attribute-keeps x m a h st s

  -- classes of exceptions
  made-keeps : (o : Option ObjId) (vs : Option (List Value)) (st : Stores) → Has st → K (make_exception o vs st)
  made-keeps (Some id) (Some vs) st s = answered (allot (error id vs None None) st.world.heap) st s (error-allotted program id vs None None st.world.heap s.functions)
  made-keeps (Some id) None st s = tt
  made-keeps None vs st s = tt

  -- functions that are called as others' methods
  at-object : (h : List Object) (v : Value) (f : Function) → AllTakeCells program h → object_of h v ≡ Some (object.Function f)
      → TakesCells program (object.Function f)
  at-object h (value.Obj id) f all e = all-get (TakesCells program) h id.0 (object.Function f) all e
  at-object h v f all e = absurd (cc)

  function-at-keeps : (o : Option Object) (f : Value) (args : Args) (h : Here Value) (st : Stores) → object_of st.world.heap f ≡ o → Has st
      → K (call_function_at program o args h st)
  function-at-keeps (Some (object.Function g)) f args h st e s = function-keeps g args h st s (at-object st.world.heap f g s.functions e)
  function-at-keeps o f args h st e s = tt

  -- instances of a script's classes
  initialized-keeps : (f v : Value) (args : Args) (h : Here Value) (st : Stores) → Has st → K (initialized program f v args h st)
  initialized-keeps f v args h st s =
      then-keeps (call_function_at program (object_of st.world.heap f) (with_receiver v args) h st) (λ r st1. answer v st1)
      (function-at-keeps (object_of st.world.heap f) f (with_receiver v args) h st refl s) (λ r st1 s1. s1)

  instance-takes : (e : Bool) (id : ObjId) (vs : List Value) → TakesCells program (instance e id vs)
  instance-takes true id vs = tt
  instance-takes false id vs = tt

  instance-answered : (e : Bool) (id : ObjId) (vs : List Value) (st : Stores) → Has st → K (answer_with (allot (instance e id vs) st.world.heap) st)
  instance-answered e id vs st s =
      answered (allot (instance e id vs) st.world.heap) st s (allotted program (instance e id vs) st.world.heap s.functions (instance-takes e id vs))

  unless-keeps-made : (r : Result Locals BindErr) (c : ClassObject) (e : Bool) (id : ObjId) (vs : List Value) (h : Here Value) (st : Stores) → Has st
      → K (made_unless r c (instance e id vs) h st)
  unless-keeps-made (Ok ls) c e id vs h st s = instance-answered e id vs st s
  unless-keeps-made (Err r) c e id vs h st s = saying-keeps Value TYPE_ERROR (binding_text c.name r) h st s

  instance-keeps : (e : Bool) (o : Option Found) (id : ObjId) (c : ClassObject) (args : Args) (h : Here Value) (st : Stores) → Has st
      → K (instance_by program e o id c args h st)
  instance-keeps e None id c args h st s = unless-keeps-made (binding_with (parameters_without e) [] args) c e id args.plain h st s
  instance-keeps e (Some (found.Bound f)) id c args h st s =
      then-keeps (answer_with (allot (instance e id args.plain) st.world.heap) st) (λ v st1. initialized program f v args h st1)
      (instance-answered e id args.plain st s) (λ v st1 s1. initialized-keeps f v args h st1 s1)
  instance-keeps e (Some (found.Plain v)) id c args h st s = tt
  instance-keeps e (Some found.Unbuilt) id c args h st s = tt

  other-class-keeps : (o : Option Helper) (c : ClassObject) (v : Value) (args : Args) (h : Here Value) (st : Stores) → Has st
      → K (call_other_class program o c v args h st)
  other-class-keeps (Some f) c v args h st s = ask-keeps f args h st s
  other-class-keeps None c (value.Obj id) args h st s =
      let x : Option ObjId = exception_class st.world.heap (value.Obj id) c in
      let vs : Option (List Value) = unnamed_operands args.named args.plain in
      either-tree c.scripted (make_instance program id c args h st) (make_exception x vs st)
      (instance-keeps (derives st.world.heap BASE_EXCEPTION id) (initializer st.world.heap id) id c args h st s) (made-keeps x vs st s)
  other-class-keeps None c v args h st s = tt

  -- what `super` gives
  super-by-keeps : (id : ObjId) (o : Option Object) (r : Value) (h : Here Value) (st : Stores) → Has st → K (super_by id o r h st)
  super-by-keeps id (Some (object.Class c)) r h st s =
      either-tree (may_have_super st.world.heap (value.Obj id) r) (answer_with (allot (super_object id r) st.world.heap) st)
      (raise_saying TYPE_ERROR (codes "bad argument") h st)
      (answered (allot (super_object id r) st.world.heap) st s (allotted program (super_object id r) st.world.heap s.functions tt))
      (saying-keeps Value TYPE_ERROR (codes "bad argument") h st s)
  super-by-keeps id o r h st s = saying-keeps Value RUNTIME_ERROR (codes "bad argument") h st s

  super-of-keeps : (c r : Option Value) (h : Here Value) (st : Stores) → Has st → K (super_of c r h st)
  super-of-keeps (Some (value.Obj id)) (Some r) h st s = super-by-keeps id (slice_get st.world.heap id.0) r h st s
  super-of-keeps c r h st s = saying-keeps Value RUNTIME_ERROR (codes "bad argument") h st s

  super-keeps : (o : Option (List Value)) (h : Here Value) (st : Stores) → Has st → K (call_super program o h st)
  super-keeps (Some []) h st s =
      let facts : CodeFacts = program.facts h.block in super-of-keeps (class_around facts st) (first_here facts st facts.params.plain) h st s
  super-keeps (Some (v ∷ vs)) h st s = tt
  super-keeps None h st s = tt

  new-object-keeps : (o : Option (List Value)) (st : Stores) → Has st → K (plain_object o st)
  new-object-keeps (Some []) st s = instance-answered false OBJECT [] st s
  new-object-keeps (Some (v ∷ vs)) st s = tt
  new-object-keeps None st s = tt

  class-keeps : (o : Option BuiltinFunction) (c : ClassObject) (v : Value) (args : Args) (h : Here Value) (st : Stores) → Has st
      → K (call_class program o c v args h st)
  class-keeps (Some builtin.Object) c v args h st s = new-object-keeps (unnamed_operands args.named args.plain) st s
  class-keeps (Some builtin.Super) c v args h st s = super-keeps (unnamed_operands args.named args.plain) h st s
  class-keeps (Some f) c v args h st s = operate-or-ask-keeps (op.Call f) (operands_of f args) h st s
  class-keeps None c v args h st s = other-class-keeps (helper_of_class v) c v args h st s

  -- classes that a script makes
  class-made-keeps : (c : Option ℕ) (a : Allotted) (st : Stores) → Has st → AllotsCells program a → K (class_made c a st)
  class-made-keeps c (made v k) st s all = cell-put c (Some v) (with_objects k st) (other-objects program b st k s all)
  class-made-keeps c (beyond what) st s all = tt

  class-on-keeps : (base : Base) (facts : CodeFacts) (c : Option ℕ) (ns : Named) (h : Here Value) (st : Stores) → Has st → K (class_on base facts c ns h st)
  class-on-keeps (On base) facts c ns h st s =
      class-made-keeps c (allot (class_object facts base ns) st.world.heap) st s (allotted program (class_object facts base ns) st.world.heap s.functions tt)
  class-on-keeps Unavailable facts c ns h st s = tt
  class-on-keeps NoBase facts c ns h st s = saying-keeps Value TYPE_ERROR (codes "bad argument") h st s

  class-by-keeps : (e : End Value) (base : Value) (facts : CodeFacts) (c : Option ℕ) (ns : Named) (h : Here Value) (st : Stores) → Has st
      → K (class_by e base facts c ns h st)
  class-by-keeps (gave v) base facts c ns h st s = class-on-keeps (base_of st.world.heap base) facts c ns h st s
  class-by-keeps (left_by v) base facts c ns h st s = s

  class-from-keeps : (k : BlockId) (base : Value) (ns : List ℕ) (h : Here Value) (st : Stores) → Has st → length ns ≡ length (program.facts k).frees
      → K (class_from k (program.facts k) base ns h st)
  class-from-keeps k base ns h st s e =
      let facts : CodeFacts = program.facts k in
      let c : ℕ = next_cell facts st.world in (
        record { names = s.names; functions = s.functions },
        (
          opened-names facts (λ x. first_value facts [] x) (length st.world.cells) (with_own_cell c facts.frees ns) (along-own c facts.frees ns e),
          λ r st1 s1. class-by-keeps r.end base facts (cell_if facts c) r.names.values h st1 s1,
        ),
      )

  -- a context or a cause makes no function
  context-keeps : (c : Option ObjId) (id : ObjId) (o : Option Object) (h : List Object) → AllTakeCells program h → AllTakeCells program (with_context c id o h)
  context-keeps c id (Some (object.Error x)) h all = all-set (TakesCells program) h id.0 (object.Error (record x { context = c })) all tt
  context-keeps c id o h all = all

  cause-keeps : (c : Option ObjId) (id : ObjId) (o : Option Object) (h : List Object) → AllTakeCells program h → AllTakeCells program (with_cause c id o h)
  cause-keeps c id (Some (object.Error x)) h all = all-set (TakesCells program) h id.0 (object.Error (record x { cause = c; hides_context = true })) all tt
  cause-keeps c id o h all = all

  unless-keeps : (c : Bool) (h k : List Object) → AllTakeCells program h → AllTakeCells program k → AllTakeCells program (if c then h else k)
  unless-keeps true h k p q = p
  unless-keeps false h k p q = q

  cut-at-keeps : (further : ObjId → List Object) (back id : ObjId) (o : Option ObjId) (h : List Object) → ((c : ObjId) → AllTakeCells program (further c)) → AllTakeCells program h
      → AllTakeCells program (cut_at further back id o h)
  cut-at-keeps further back id None h f all = all
  cut-at-keeps further back id (Some c) h f all =
      unless-keeps (c.0 == back.0) (with_context None id (slice_get h id.0) h) (further c) (context-keeps None id (slice_get h id.0) h all) (f c)

  cut-keeps : (h : List Object) (most : ℕ) (back id : ObjId) → AllTakeCells program h → AllTakeCells program (cut_within h most back id)
  unfolding cut_within
  cut-keeps h zero back id all = all
  cut-keeps h (suc most) back id all = cut-at-keeps (cut_within h most back) back id (context_in (slice_get h id.0)) h (λ c. cut-keeps h most back c all) all

  arise-keeps : (o : Option ObjId) (id : ObjId) (h : List Object) → AllTakeCells program h → AllTakeCells program (arise_while o id h)
  arise-keeps None id h all = all
  arise-keeps (Some c) id h all =
      let k : List Object = cut id c h in
      unless-keeps (c.0 == id.0) h (in_context c id k) all (context-keeps (Some c) id (slice_get k id.0) k (cut-keeps h (length h) id c all))

  -- what a value stands for
  abbrev StandsSo : Standing → Type 0
  StandsSo (made o k) = AllTakeCells program k
  StandsSo (beyond what) = Unit {0}

  as-stands : (a : Allotted) → AllotsCells program a → StandsSo (as_standing a)
  as-stands (made v k) all = all
  as-stands (beyond what) all = tt

  unless-stands : (c : Bool) (x y : Standing) → StandsSo x → StandsSo y → StandsSo (if c then x else y)
  unless-stands true x y p q = p
  unless-stands false x y p q = q

  stands : (r : Raisable) (h : List Object) → AllTakeCells program h → StandsSo (standing r h)
  stands (raisables.Exception id) h all = all
  stands (raisables.Class id true) h all =
      let a : Allotted = allot (error id [] None None) h in
      unless-stands (is_found (initializer h id)) (beyond Feature) (as_standing a) tt (as-stands a (error-allotted program id [] None None h all))
  stands (raisables.Class id false) h all = as-stands (allot (error id [] None None) h) (error-allotted program id [] None None h all)
  stands raisables.Neither h all = all

  module _ (A : Type 0) (h : Here Value) (st : Stores) (s : Has st) where
    object-raised : (id : ObjId) (k : List Object) → AllTakeCells program k → K (raise_object {A = A} id k h st)
    object-raised id k all = other-objects program b st (arise_while (object_place h.active) id k) s (arise-keeps (object_place h.active) id k all)

    neither-raised : (k : List Object) → AllTakeCells program k → K (raise_neither {A = A} k h st)
    neither-raised k all = saying-keeps A TYPE_ERROR (codes "exceptions must derive from BaseException") h (with_objects k st) (other-objects program b st k s all)

    caused-raised : (c : Option ObjId) (id : ObjId) (k : List Object) → AllTakeCells program k → K (raise_caused {A = A} c id k h st)
    caused-raised c id k all = object-raised id (with_cause c id (slice_get k id.0) k) (cause-keeps c id (slice_get k id.0) k all)

    from-raised : (id : ObjId) (t : Standing) → StandsSo t → K (raise_from {A = A} id t h st)
    from-raised id (made (Some c) k) all = caused-raised (Some c) id k all
    from-raised id (made None k) all = neither-raised k all
    from-raised id (beyond what) all = tt

    with-cause-raised : (id : ObjId) (c : Option Value) (k : List Object) → AllTakeCells program k → K (raise_with_cause {A = A} id c k h st)
    with-cause-raised id None k all = object-raised id k all
    with-cause-raised id (Some value.None) k all = caused-raised None id k all
    with-cause-raised id (Some (value.Obj c)) k all = from-raised id (standing (raisable k (value.Obj c)) k) (stands (raisable k (value.Obj c)) k all)
    with-cause-raised id (Some (value.Bool x)) k all = from-raised id (standing (raisable k (value.Bool x)) k) (stands (raisable k (value.Bool x)) k all)
    with-cause-raised id (Some (value.Int z)) k all = from-raised id (standing (raisable k (value.Int z)) k) (stands (raisable k (value.Int z)) k all)
    with-cause-raised id (Some value.Ellipsis) k all = from-raised id (standing (raisable k value.Ellipsis) k) (stands (raisable k value.Ellipsis) k all)
    with-cause-raised id (Some value.NotImplemented) k all = from-raised id (standing (raisable k value.NotImplemented) k) (stands (raisable k value.NotImplemented) k all)

    standing-raised : (t : Standing) (c : Option Value) → StandsSo t → K (raise_standing {A = A} t c h st)
    standing-raised (made (Some id) k) c all = with-cause-raised id c k all
    standing-raised (made None k) c all = neither-raised k all
    standing-raised (beyond what) c all = tt

    again-raised : (a : Option Value) → K (raise_active {A = A} a h st)
    again-raised (Some v) = s
    again-raised None = saying-keeps A RUNTIME_ERROR (codes "no active exception") h st s

    throws-keep : (t : Throw Value) → K (throws {A = A} t h st)
    throws-keep (T.raising v c) = standing-raised (standing (raisable st.world.heap v) st.world.heap) c (stands (raisable st.world.heap v) st.world.heap s.functions)
    throws-keep T.raising_again = again-raised h.active
    throws-keep (T.failing m) =
        raised A (allot (error ASSERTION_ERROR (arguments_of m) None h.active) st.world.heap) st s
        (error-allotted program ASSERTION_ERROR (arguments_of m) None h.active st.world.heap s.functions)

  taken-keeps : (e : Value) (cs : List Value) (h : Here Value) (st : Stores) → Has st → K (is_taken e cs h st)
  taken-keeps e cs h st s =
      either-tree (list_all (is_exception_class st.world.heap) cs) (answer (list_any (is_of_class st.world.heap (error_at st.world.heap e)) cs) st)
      (raise_saying TYPE_ERROR (codes "bad argument") h st) s (saying-keeps Bool TYPE_ERROR (codes "bad argument") h st s)

  matches-keep : (e c : Value) (h : Here Value) (st : Stores) → Has st → K (matches e c h st)
  matches-keep e value.None h st s = s
  matches-keep e (value.Obj c) h st s = taken-keeps e (handler_classes (value.Obj c) (object_of st.world.heap (value.Obj c))) h st s
  matches-keep e (value.Bool x) h st s = taken-keeps e (handler_classes (value.Bool x) None) h st s
  matches-keep e (value.Int z) h st s = taken-keeps e (handler_classes (value.Int z) None) h st s
  matches-keep e value.Ellipsis h st s = taken-keeps e (handler_classes value.Ellipsis None) h st s
  matches-keep e value.NotImplemented h st s = taken-keeps e (handler_classes value.NotImplemented None) h st s

  -- calls, also of what stands in the place of an instance
  abbrev NextKeeps : Called → Type 0
  NextKeeps next = (v : Value) (args : Args) (h : Here Value) (st : Stores) → Has st → K (next v args h st)

  by-keeps : (next : Called) → NextKeeps next → (o : Option Found) (v : Value) (args : Args) (h : Here Value) (st : Stores) → Has st → K (call_by program next o v args h st)
  by-keeps next more (Some (found.Bound f)) v args h st s = function-at-keeps (object_of st.world.heap f) f (with_receiver v args) h st refl s
  by-keeps next more (Some (found.Plain w)) v args h st s = more w args h st s
  by-keeps next more o v args h st s = not-callable-keeps v h st s

  object-keeps : (next : Called) → NextKeeps next → (o : Option Object) (i : ℕ) (v : Value) (args : Args) (h : Here Value) (st : Stores) → slice_get st.world.heap i ≡ o → Has st
      → K (call_object program next o v args h st)
  object-keeps next more (Some (object.Function f)) i v args h st e s = function-keeps f args h st s
      (all-get (TakesCells program) st.world.heap i (object.Function f) s.functions e)
  object-keeps next more (Some (object.Builtin u)) i v args h st e s = builtin-object-keeps u u.receiver args h st s
  object-keeps next more (Some (object.Class c)) i v args h st e s = class-keeps (class_function v) c v args h st s
  object-keeps next more (Some (object.Method m)) i v args h st e s =
      function-at-keeps (object_of st.world.heap m.function) m.function (with_receiver m.receiver args) h st refl s
  object-keeps next more o i v args h st e s = by-keeps next more (method_of st.world.heap v (codes "__call__")) v args h st s

  called-keeps : (n : ℕ) → NextKeeps (called_within program n)
  unfolding called_within
  called-keeps zero v args h st s = saying-keeps Value RECURSION_ERROR (codes "too many activations") h st s
  called-keeps (suc n) (value.Obj id) args h st s =
      object-keeps (called_within program n) (λ u more g st1 s1. called-keeps n u more g st1 s1) (slice_get st.world.heap id.0) id.0 (value.Obj id) args h st refl s
  called-keeps (suc n) v args h st s = not-callable-keeps v h st s

  value-keeps : (v : Value) (args : Args) (h : Here Value) (st : Stores) → Has st → K (call_value program v args h st)
  value-keeps v args h st s = called-keeps (suc call_limit) v args h st s

  special-keeps : (o : Option Found) (v : Value) (vs : List Value) (otherwise : Tree Value) (h : Here Value) (st : Stores) → Has st → K otherwise
      → K (call_special program o v vs otherwise h st)
  special-keeps (Some (found.Bound f)) v vs otherwise h st s k =
      function-at-keeps (object_of st.world.heap f) f (record { plain = v ∷ vs; named = [] }) h st refl s
  special-keeps (Some (found.Plain w)) v vs otherwise h st s k = value-keeps w (record { plain = vs; named = [] }) h st s
  special-keeps o v vs otherwise h st s k = k

  found-keeps : (o : Option Found) (v : Value) (vs : List Value) (otherwise : Tree Value) (h : Here Value) (st : Stores) → Has st → K otherwise
      → K (call_found program o v vs otherwise h st)
  found-keeps (Some (found.Bound f)) v vs otherwise h st s k =
      function-at-keeps (object_of st.world.heap f) f (record { plain = v ∷ vs; named = [] }) h st refl s
  found-keeps (Some (found.Plain w)) v vs otherwise h st s k = tt
  found-keeps (Some found.Unbuilt) v vs otherwise h st s k = tt
  found-keeps None v vs otherwise h st s k = k

  -- context managers
  entered-keeps : (m : Manager) (v : Value) (h : Here Value) (st : Stores) → Has st → K (entered program m v h st)
  entered-keeps (Methods e f) v h st s =
      then-keeps (answer_with (allot (bound_object f v) st.world.heap) st)
      (λ w st1. then_with (call_found program (Some e) v [] (leave Feature) h st1) (λ given st2. answer (w, given) st2))
      (answered (allot (bound_object f v) st.world.heap) st s (allotted program (bound_object f v) st.world.heap s.functions tt))
      (λ w st1 s1.
      then-keeps (call_found program (Some e) v [] (leave Feature) h st1) (λ given st2. answer (w, given) st2) (found-keeps (Some e) v [] (leave Feature) h st1 s1 tt)
      (λ given st2 s2. s2))
  entered-keeps NoEnter v h st s = missing-keeps (Value × Value) (codes "__enter__") v h st s
  entered-keeps NoExit v h st s = missing-keeps (Value × Value) (codes "__exit__") v h st s
  entered-keeps NoCall v h st s = tt

  exit-called-keeps : (o : Option Method) (vs : List Value) (h : Here Value) (st : Stores) → Has st → K (call_exit program o vs h st)
  exit-called-keeps (Some m) vs h st s =
      let args : Args = record { plain = m.receiver ∷ vs; named = [] } in
      either-tree (takes_arguments program (object_of st.world.heap m.function) args)
      (call_function_at program (object_of st.world.heap m.function) args h st) (leave Feature)
      (function-at-keeps (object_of st.world.heap m.function) m.function args h st refl s) tt
  exit-called-keeps None vs h st s = tt

  swallows-keeps : (o : Option Value) (v : Value) (h : Here Value) (st : Stores) → Has st → K (swallows o v h st)
  swallows-keeps (Some e) v h st s = asked-keeps a_truth op.Truth (v ∷ []) h st s
  swallows-keeps None v h st s = s

  exit-keeps : (w : Value) (o : Option Value) (h : Here Value) (st : Stores) → Has st → K (exit program w o h st)
  exit-keeps w o h st s =
      let heap : List Object = st.world.heap in
      then-keeps (call_exit program (bound_of heap w) (exit_arguments heap o) h st) (λ v st1. swallows o v h st1)
      (exit-called-keeps (bound_of heap w) (exit_arguments heap o) h st s) (λ v st1 s1. swallows-keeps o v h st1 s1)

  call-keeps : (rs : List Role) (f : Value) (vs : List Value) (h : Here Value) (st : Stores) → Has st → K (call program rs f vs h st)
  call-keeps rs f vs h st s =
      let heap : List Object = st.world.heap in
      either-tree (are_arguments heap rs vs) (call_value program f (arguments heap rs vs) h st) (leave Feature)
      (value-keeps f (arguments heap rs vs) h st s) tt

  module _ (h : Here Value) (is : h.block ≡ b) (st : Stores) (s : Has st) where
    function-made : (n : ℕ) (xs : List Name) (vs : List Value) → NamesInOperation program b (T.function n xs) vs
        → TakesCells program (function_object n h.block.hidden xs vs)
    function-made n xs vs e =
        taken xs vs (length (program.facts (record { hidden = h.block.hidden; number = n })).frees)
        (e ∙ ap (λ (k : BlockId). length xs + length (program.facts (record { hidden = k.hidden; number = n })).frees) (sym is))

    along-class : (n : ℕ) (v : Value) (vs : List Value) → NamesInOperation program b (T.class n) (v ∷ vs)
        → length (map number_of vs) ≡ length (program.facts (class_block h.block.hidden n)).frees
    along-class n v vs e =
        let l : length (map number_of vs) ≡ length vs = length-map vs number_of in
        let k : length (program.facts (class_block b.hidden n)).frees ≡ length (program.facts (class_block h.block.hidden n)).frees =
        ap (λ (q : BlockId). length (program.facts (class_block q.hidden n)).frees) (sym is) in
        omega (arith, e, l, k)

    special-or-keeps : (v : Value) (rest : List Value) (o : Op) (vs : List Value) → K (special_or program v rest o vs h st)
    special-or-keeps v rest o vs =
        special-keeps (named_method st.world.heap (special_name o) v) v rest (by_prim_or_helper program o vs h st) h st s (by-either-keeps o vs h st s)

    operate-by-keeps : (o : Op) (vs : List Value) → K (operate_by program o vs h st)
    operate-by-keeps (op.Unary u) (v ∷ []) = special-or-keeps v [] (op.Unary u) (v ∷ [])
    operate-by-keeps op.Item (a ∷ i ∷ []) = special-or-keeps a (i ∷ []) op.Item (a ∷ i ∷ [])
    operate-by-keeps o vs = by-either-keeps o vs h st s

    operation-keeps : (o : Option Op) (vs : List Value) → K (by_operation program o vs h st)
    operation-keeps (Some o) vs = operate-by-keeps o vs
    operation-keeps None vs = tt

    operate-keeps : (o : Operation) (vs : List Value) → NamesInOperation program b o vs → K (operate program o vs h st)
    operate-keeps (T.call rs) [] i = tt
    operate-keeps (T.call rs) (f ∷ vs) i = call-keeps rs f vs h st s
    operate-keeps (T.function n xs) vs i =
        answered (allot (function_object n h.block.hidden xs vs) st.world.heap) st s
        (allotted program (function_object n h.block.hidden xs vs) st.world.heap s.functions (function-made n xs vs i))
    operate-keeps (T.class n) [] i = tt
    operate-keeps (T.class n) (v ∷ vs) i = class-from-keeps (class_block h.block.hidden n) v (map number_of vs) h st s (along-class n v vs i)
    operate-keeps (T.get x) [] i = tt
    operate-keeps (T.get x) (v ∷ []) i = attribute-keeps x v (attribute_of st.world.heap v x) h st s
    operate-keeps (T.get x) (v ∷ u ∷ vs) i = tt
    operate-keeps (T.import x) [] i = import-keeps x h st s
    operate-keeps (T.import x) (v ∷ vs) i = tt
    operate-keeps (T.import_name x) [] i = tt
    operate-keeps (T.import_name x) (m ∷ []) i = imported-keeps x m (attribute_of st.world.heap m x) h st s
    operate-keeps (T.import_name x) (m ∷ u ∷ vs) i = tt
    operate-keeps o vs i = operation-keeps (operation_of o) vs

    seeks-keep : (a : Seek Value) → NamesInSeek program b a → K (seeks program a h st)
    seeks-keep (T.const k) i = s
    seeks-keep (T.load x) i = load-keeps (readable_value h.block.hidden x.scope x.name st) x.scope x.name h st s
    seeks-keep (T.operate o vs) i = operate-keeps o vs i
    seeks-keep (T.cell_of x) i = s
    seeks-keep (T.yielding v) i = tt

    -- what changes an object
    changed-by-keeps : (o : Option Found) (v : Value) (vs : List Value) (otherwise : Tree (Unit {0})) → K otherwise → K (changed_by program o v vs otherwise h st)
    changed-by-keeps (Some m) v vs otherwise k =
        then-keeps (call_found program (Some m) v vs (leave Feature) h st) (λ r st1. answer tt st1) (found-keeps (Some m) v vs (leave Feature) h st s tt) (λ r st1 s1. s1)
    changed-by-keeps None v vs otherwise k = k

    change-or-keeps : (v : Value) (rest : List Value) (o : Op) (vs : List Value) → K (change_or program v rest o vs h st)
    change-or-keeps v rest o vs =
        changed-by-keeps (named_method st.world.heap (special_name o) v) v rest (operated program done o vs h st) (operated-keeps done o vs h st s)

    change-by-keeps : (o : Op) (vs : List Value) → K (change_by program o vs h st)
    change-by-keeps op.SetItem (v ∷ a ∷ i ∷ []) = change-or-keeps a (i ∷ v ∷ []) op.SetItem (v ∷ a ∷ i ∷ [])
    change-by-keeps op.DelItem (a ∷ i ∷ []) = change-or-keeps a (i ∷ []) op.DelItem (a ∷ i ∷ [])
    change-by-keeps o vs = operated-keeps done o vs h st s

    change-keeps : (o : Option (Op × List Value)) → K (by_change program o h st)
    change-keeps (Some p) = change-by-keeps p.0 p.1
    change-keeps None = tt

    deeds-keep : (d : Deed Value) → NamesInDeed program b d → K (deeds program d h st)
    deeds-keep (T.delete x) i = delete-keeps (variable_value x.scope x.name st) x.scope x.name h st s
    deeds-keep (T.store x v) i =
        either-tree (is_no_method x.scope x.name) (leave Special) (answer tt (put x.scope x.name (Some v) st)) tt (put-keeps-names x.scope x.name (Some v) st s)
    deeds-keep (T.set_attribute x a v) i = set-keeps x a v h st s
    deeds-keep (T.delete_attribute x a) i = unset-keeps x a h st s
    deeds-keep (T.discard v) i = s
    deeds-keep (T.fresh x) i = made-anew x.scope x.name st s i
    deeds-keep T.nothing i = s
    deeds-keep d i = change-keeps (change_of d)

    pub answers-keep : (a : Ask Value) → NamesInAsk program b a → K (answers program a h st)
    answers-keep (T.seek a) i = seeks-keep a i
    answers-keep (T.deed d) i = deeds-keep d i
    answers-keep (T.leave l) i = s
    answers-keep (T.throw t) i = throws-keep ⊥ h st s t
    answers-keep (T.test (T.matches e c)) i = matches-keep e c h st s
    answers-keep (T.test (T.branch v)) i = operated-keeps a_truth op.Truth (v ∷ []) h st s
    answers-keep (T.test (T.exit_of w o)) i = exit-keeps w o h st s
    answers-keep (T.iter_of v) i = by-either-keeps op.Iter (v ∷ []) h st s
    answers-keep (T.next_of v) i =
        next-by-keeps (prim_answer op.Next (v ∷ []) st.world.heap) h (with_objects (prim_heap op.Next (v ∷ []) st.world.heap) st) (behind-operation op.Next (v ∷ []) st s)
    answers-keep (T.enter v) i = entered-keeps (manager_of st.world.heap v) v h st s
    answers-keep (T.unpack v n star) i =
        unpacked-by-keeps n star (prim_answer (unpacking n star) (v ∷ []) st.world.heap) h (with_objects (prim_heap (unpacking n star) (v ∷ []) st.world.heap) st)
        (behind-operation (unpacking n star) (v ∷ []) st s)
    answers-keep (T.delegate d r) i = tt
