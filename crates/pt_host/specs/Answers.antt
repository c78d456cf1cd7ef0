-- What each ask of control answers (Language Reference 6, 7). An ask of a form that isn't supported
-- yet leaves the profile.
use Rattle.std.specs.Prelude.{ℕ, suc, ◌+◌, ◌-◌, Bool, false, List, [], ◌∷◌, length, codes, Option, Some, None, position, if◌then◌else◌}
use Rattle.std.specs.Str.{bytes_eq}
use Rattle.pt_heap.specs.declared.object.Method.{Method}
use Rattle.pt_heap.specs.declared.object.Object.{Object}
use Rattle.pt_content.specs.pt_attrs.declared.look.Found.{Found}
use Rattle.pt_content.specs.pt_attrs.Look.{object_of}
use Rattle.pt_base.specs.declared.what.What.TheVariants.{Feature}
use Rattle.pt_bind.specs.declared.arguments.Args.{Args}
use Rattle.pt_tree.specs.declared.expression.Constant.{Constant}
use Rattle.pt_tree.specs.declared.expression.Constant.TheVariants as constant
use Rattle.sem_control.specs.control.Turn as T
use Rattle.sem_control.specs.control.Turn.{Ask, Seek, Deed, Operation, Row}
use Rattle.pt_heap.specs.declared.value.Value.{Value}
use Rattle.pt_heap.specs.declared.value.Value.TheVariants as value
use Rattle.pt_builtin_objects.specs.Start.{start_rows}
use Rattle.pt_helper_objects.specs.Objects.{helper_rows}
use Rattle.pt_content.specs.declared.answer.PrimAns.{PrimAns}
use Rattle.pt_content.specs.declared.answer.PrimAns.TheVariants as prim
use Rattle.pt_content.specs.declared.op.Op.{Op}
use Rattle.pt_content.specs.declared.op.Op.TheVariants as op
use Rattle.sem_run.specs.run.Host.{Here, Finding, Item, an_item, no_item, answer, leave, print, raise, request}
use Rattle.pt_host.specs.World.{Stores, Program, allot, with_objects}
use Rattle.pt_host.specs.Trees.{Tree, answer_with, then_with}
use Rattle.pt_host.specs.Variables.{load, store, delete, make_anew, cell_of}
use Rattle.pt_host.specs.Primitives.{done, a_truth, item_or_end, of_prim, prim_asked, so_many}
use Rattle.pt_host.specs.Operators.{unary_name}
use Rattle.pt_host.specs.Calls.{ask_with, by_prim_or_helper, call, call_found, call_function_at, call_special, make_function, operated, takes_arguments}
use Rattle.pt_prims.specs.Operations.{prim_answer, prim_heap}
use Rattle.pt_prims.specs.pt_special_methods.Instances.{method_of}
use Rattle.pt_host.specs.Attributes.{attribute, bound_object, bound_of, delete_attribute, raise_missing, set_attribute}
use Rattle.pt_host.specs.Classes.{make_class}
use Rattle.pt_host.specs.Imports.{import_module, import_name}
use Rattle.pt_host.specs.declared.managers.Manager.{Manager}
use Rattle.pt_host.specs.declared.managers.Manager.TheVariants.{Methods, NoEnter, NoExit, Unavailable}
use Rattle.pt_host.specs.Managers.{exit_arguments, manager_of}
use Rattle.pt_host.specs.Raising.{matches, throws}
use Rattle.pt_host.specs.Leaving.{is_stop}

-- what is done by an operation on values, with the operands in the order in which they are evaluated
abbrev pub change_of : Deed Value → Option (Op × List Value)
change_of (T.set_item a i v) = Some (op.SetItem, v ∷ a ∷ i ∷ [])
change_of (T.delete_item a i) = Some (op.DelItem, a ∷ i ∷ [])
change_of (T.add_to_list made v) = Some (op.ListAdd, made ∷ v ∷ [])
change_of (T.add_to_set made v) = Some (op.SetAdd, made ∷ v ∷ [])
change_of (T.add_to_dict made k v) = Some (op.DictAdd, made ∷ k ∷ v ∷ [])
change_of d = None

abbrev pub unpacking : (targets : ℕ) → (star : Option ℕ) → Op
unpacking n None = op.Unpack n
unpacking n (Some before) = op.UnpackStar before (n - suc before)

-- the operation on values that an operation of control is, if it is one that is there
abbrev pub operation_of : Operation → Option Op
operation_of T.tuple = Some op.Tuple
operation_of T.list = Some op.List
operation_of T.set = Some op.Set
operation_of T.dict = Some op.Dict
operation_of T.item = Some op.Item
operation_of T.slice = Some op.Slice
operation_of (T.unary o) = Some (op.Unary o)
operation_of T.inverted = Some op.Not
operation_of (T.binary o) = Some (op.Binary o)
operation_of (T.in_place o) = Some (op.InPlace o)
operation_of (T.compare o) = Some (op.Compare o)
operation_of (T.format c) = Some (op.Format c)
operation_of T.join = Some op.Join
operation_of T.spread_out = Some op.SpreadOut
operation_of T.spread_named_out = Some op.SpreadNamed
operation_of o = None

-- a StopIteration that arises where the next item is asked for is the end (8.3)
abbrev pub ended_by : (exception : Value) → Stores → Tree (Item Value)
ended_by e st = if is_stop e st.world then answer (no_item (Some e)) st else raise e st

unfoldable pub or_end : Tree (Item Value) → Tree (Item Value)
or_end (answer x st) = answer x st
or_end (raise e st) = ended_by e st
or_end (print t k) = print t (or_end k)
or_end (leave what) = leave what
or_end (request r st k) = request r st (λ x st1. or_end (k x st1))

-- only what a block comes to ends an iterator: what arises as it is called doesn't
abbrev pub or_end_behind : Tree (Item Value) → Tree (Item Value)
or_end_behind (print t k) = print t (or_end_behind k)
or_end_behind (request r st k) = request r st (λ x st1. or_end (k x st1))
or_end_behind t = t

-- its truth swallows a raise
abbrev pub swallows : Option Value → Value → Here Value → Stores → Tree Bool
swallows (Some e) v h st = prim_asked a_truth op.Truth (v ∷ []) h st
swallows None v h st = answer false st

-- the special method of an operation with one operand or with an item (3.3.7, 3.3.8)
abbrev pub special_name : Op → Option (List ℕ)
special_name (op.Unary o) = Some (unary_name o)
special_name op.Item = Some (codes "__getitem__")
special_name op.SetItem = Some (codes "__setitem__")
special_name op.DelItem = Some (codes "__delitem__")
special_name o = None

abbrev pub named_method : List Object → Option (List ℕ) → Value → Option Found
named_method h (Some name) v = method_of h v name
named_method h None v = None

module _ (program : Program) where
  abbrev pub branch : Value → Here Value → Stores → Tree Bool
  branch v h st = operated program a_truth op.Truth (v ∷ []) h st

  -- an instance is asked for the method of an operation; what has none is operated on
  abbrev pub special_or : (receiver : Value) → List Value → Op → List Value → Here Value → Stores → Tree Value
  special_or v rest o vs h st =
      call_special program (named_method st.world.heap (special_name o) v) v rest (by_prim_or_helper program o vs h st) h st

  abbrev pub operate_by : Op → List Value → Here Value → Stores → Tree Value
  operate_by (op.Unary u) (v ∷ []) h st = special_or v [] (op.Unary u) (v ∷ []) h st
  operate_by op.Item (a ∷ i ∷ []) h st = special_or a (i ∷ []) op.Item (a ∷ i ∷ []) h st
  operate_by o vs h st = by_prim_or_helper program o vs h st

  abbrev pub by_operation : Option Op → List Value → Here Value → Stores → Tree Value
  by_operation (Some o) vs h st = operate_by o vs h st
  by_operation None vs h st = leave Feature

  -- the same of what changes an object: the value of the method is dropped
  abbrev pub changed_by : Option Found → (receiver : Value) → List Value → (otherwise : Tree (Unit {0})) → Here Value → Stores → Tree (Unit {0})
  changed_by (Some m) v vs otherwise h st =
      then_with (call_found program (Some m) v vs (leave Feature) h st) (λ r st1. answer tt st1)
  changed_by None v vs otherwise h st = otherwise

  abbrev pub change_or : (receiver : Value) → List Value → Op → List Value → Here Value → Stores → Tree (Unit {0})
  change_or v rest o vs h st =
      changed_by (named_method st.world.heap (special_name o) v) v rest (operated program done o vs h st) h st

  abbrev pub change_by : Op → List Value → Here Value → Stores → Tree (Unit {0})
  change_by op.SetItem (v ∷ a ∷ i ∷ []) h st = change_or a (i ∷ v ∷ []) op.SetItem (v ∷ a ∷ i ∷ []) h st
  change_by op.DelItem (a ∷ i ∷ []) h st = change_or a (i ∷ []) op.DelItem (a ∷ i ∷ []) h st
  change_by o vs h st = operated program done o vs h st

  abbrev pub by_change : Option (Op × List Value) → Here Value → Stores → Tree (Unit {0})
  by_change (Some p) h st = change_by p.0 p.1 h st
  by_change None h st = leave Feature

  abbrev pub deeds : Deed Value → Here Value → Stores → Tree (Unit {0})
  deeds (T.store x v) h st = store x v st
  deeds (T.delete x) h st = delete x h st
  deeds (T.discard v) h st = answer tt st
  deeds (T.set_attribute x a v) h st = set_attribute x a v h st
  deeds (T.delete_attribute x a) h st = delete_attribute x a h st
  deeds (T.fresh x) h st = answer tt (make_anew x.scope x.name st)
  deeds T.nothing h st = answer tt st
  deeds d h st = by_change (change_of d) h st

  -- iterators and their items (8.3), and what is unpacked (7.2)
  abbrev pub iterator_of : Value → Here Value → Stores → Tree Value
  iterator_of v h st = by_prim_or_helper program op.Iter (v ∷ []) h st

  abbrev pub next_by : PrimAns → Here Value → Stores → Tree (Item Value)
  next_by (prim.Help a vs inverted) h st =
      or_end_behind (then_with (ask_with program a vs h st) (λ v st1. answer (an_item v) st1))
  next_by p h st = of_prim item_or_end p h st

  abbrev pub next_item : (iterator : Value) → Here Value → Stores → Tree (Item Value)
  next_item v h st =
      next_by (prim_answer op.Next (v ∷ []) st.world.heap) h (with_objects (prim_heap op.Next (v ∷ []) st.world.heap) st)

  -- the items of the list that the function gives which it asks
  abbrev pub unpacked_by : (n : ℕ) → (star : Option ℕ) → PrimAns → Here Value → Stores → Tree (Row Value n)
  unpacked_by n star (prim.Help a vs inverted) h st =
      then_with (ask_with program a vs h st) (λ v st1. prim_asked (so_many n) (unpacking n star) (v ∷ []) h st1)
  unpacked_by n star p h st = of_prim (so_many n) p h st

  abbrev pub unpacked : Value → (n : ℕ) → (star : Option ℕ) → Here Value → Stores →
      Tree (Row Value n)
  unpacked v n star h st =
      unpacked_by n star (prim_answer (unpacking n star) (v ∷ []) st.world.heap) h
      (with_objects (prim_heap (unpacking n star) (v ∷ []) st.world.heap) st)

  -- a context manager is entered by the call of its method, and keeps what is called as it is left (8.5)
  abbrev pub entered : Manager → (manager : Value) → Here Value → Stores → Tree (Value × Value)
  entered (Methods e f) v h st =
      then_with (answer_with (allot (bound_object f v) st.world.heap) st)
      (λ w st1. then_with (call_found program (Some e) v [] (leave Feature) h st1) (λ given st2. answer (w, given) st2))
  entered NoEnter v h st = raise_missing (codes "__enter__") v h st
  entered NoExit v h st = raise_missing (codes "__exit__") v h st
  entered Unavailable v h st = leave Feature

  abbrev pub enter : (manager : Value) → Here Value → Stores → Tree (Value × Value)
  enter v h st = entered (manager_of st.world.heap v) v h st

  -- what is called as it is left takes three arguments: that it doesn't isn't told yet
  abbrev pub exits : Option Object → Args → Here Value → Stores → Tree Value
  exits o args h st = if takes_arguments program o args then call_function_at program o args h st else leave Feature

  abbrev pub call_exit : Option Method → List Value → Here Value → Stores → Tree Value
  call_exit (Some m) vs h st =
      exits (object_of st.world.heap m.function) (record { plain = m.receiver ∷ vs; named = [] }) h st
  call_exit None vs h st = leave Feature

  abbrev pub exit : (exit : Value) → (raised : Option Value) → Here Value → Stores → Tree Bool
  exit w r h st =
      then_with (call_exit (bound_of st.world.heap w) (exit_arguments st.world.heap r) h st) (λ v st1. swallows r v h st1)

  -- the object of a constant's text
  abbrev pub text_object : Option ℕ → Value
  text_object (Some i) = value.Obj (record { 0 = length start_rows + length helper_rows + i })
  text_object None = value.None

  abbrev pub constant_value : Constant → Value
  constant_value constant.None = value.None
  constant_value (constant.Bool b) = value.Bool b
  constant_value constant.Ellipsis = value.Ellipsis
  constant_value (constant.Int z) = value.Int z
  constant_value (constant.Str t) = text_object (position (bytes_eq t) program.texts)

  abbrev pub operate : Operation → List Value → Here Value → Stores → Tree Value
  operate (T.call rs) (f ∷ vs) h st = call program rs f vs h st
  operate (T.function b xs) vs h st = make_function b xs vs h st
  operate (T.class b) vs h st = make_class program b vs h st
  operate (T.get x) (v ∷ []) h st = attribute program x v h st
  operate (T.import x) [] h st = import_module x h st
  operate (T.import_name x) (m ∷ []) h st = import_name program x m h st
  operate o vs h st = by_operation (operation_of o) vs h st

  abbrev pub seeks : Seek Value → Here Value → Stores → Tree Value
  seeks (T.const k) h st = answer (constant_value k) st
  seeks (T.load x) h st = load x h st
  seeks (T.operate o vs) h st = operate o vs h st
  seeks (T.cell_of x) h st = cell_of x st
  seeks (T.yielding v) h st = leave Feature

  abbrev pub answers : (a : Ask Value) → Here Value → Stores → Tree (Finding Value a)
  answers (T.seek s) h st = seeks s h st
  answers (T.deed d) h st = deeds d h st
  answers (T.leave l) h st = answer tt st
  answers (T.throw t) h st = throws t h st
  answers (T.test (T.branch v)) h st = branch v h st
  answers (T.test (T.matches e c)) h st = matches e c h st
  answers (T.iter_of v) h st = iterator_of v h st
  answers (T.next_of i) h st = next_item i h st
  answers (T.test (T.exit_of w r)) h st = exit w r h st
  answers (T.enter v) h st = enter v h st
  answers (T.unpack v n star) h st = unpacked v n star h st
  answers a h st = leave Feature
