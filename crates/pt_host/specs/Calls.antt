-- How functions are made and called (Language Reference 6.3.4, 6.14, 8.7).
use Rattle.std.specs.Prelude.{ℕ, zero, suc, ◌+◌, pos, Bool, true, false, not, ◌&&◌, ◌||◌, List, [], ◌∷◌, ◌++◌, map, drop}
use Rattle.std.specs.Prelude.{nat_eq, length, codes, Option, Some, None, option_map, Result, Ok, Err, slice_get}
use Rattle.std.specs.Prelude.{if◌then◌else◌}
use Rattle.std.specs.Str.{bytes_eq}
use Rattle.pt_base.specs.declared.numbers.ObjId.{ObjId}
use Rattle.pt_base.specs.declared.what.What.TheVariants.{Feature}
use Rattle.pt_base.specs.declared.what.What.TheVariants as what
use Rattle.pt_tree.specs.Syntax.{Name}
use Rattle.sem_control.specs.control.Turn.{Role, End, gave, left_by}
use Rattle.pt_heap.specs.declared.value.Value.{Value}
use Rattle.pt_heap.specs.declared.value.Value.TheVariants as value
use Rattle.pt_heap.specs.declared.view.Binding.{Binding}
use Rattle.pt_heap.specs.declared.object.Builtin.{Builtin as BuiltinObject}
use Rattle.pt_heap.specs.declared.object.Class.{Class as ClassObject}
use Rattle.pt_heap.specs.declared.object.Function.{Function}
use Rattle.pt_heap.specs.declared.object.Object.{Object}
use Rattle.pt_heap.specs.declared.object.Object.TheVariants as object
use Rattle.pt_names.specs.Names.{Named, name_value}
use Rattle.pt_bind.specs.declared.arguments.Params.{Params}
use Rattle.pt_bind.specs.NameSets.{is_among}
use Rattle.pt_bind.specs.Binding.{value_of, binding_with}
use Rattle.pt_bind.specs.declared.arguments.Args.{Args}
use Rattle.pt_bind.specs.declared.arguments.BindErr.{BindErr}
use Rattle.pt_bind.specs.declared.arguments.Locals.{Locals}
use Rattle.pt_content.specs.Classes.{class_name}
use Rattle.pt_content.specs.Functions.{of_class, of_function}
use Rattle.pt_content.specs.Operands.{text_of}
use Rattle.pt_content.specs.pt_attrs.Look.{as_method, object_of}
use Rattle.pt_content.specs.pt_attrs.declared.look.Found.{Found}
use Rattle.pt_content.specs.pt_attrs.declared.look.Found.TheVariants as found
use Rattle.pt_content.specs.pt_attrs.pt_dicts.Chain.{class_value}
use Rattle.pt_content.specs.pt_attrs.pt_dicts.Keys.{name_codes}
use Rattle.pt_content.specs.declared.function.Function.{Function as Builtin}
use Rattle.pt_content.specs.declared.function.Function.TheVariants as builtin
use Rattle.pt_content.specs.declared.method_name.MethodName.{MethodName}
use Rattle.pt_content.specs.declared.method_name.MethodName.TheVariants as method
use Rattle.pt_content.specs.declared.answer.Helper.{Helper as Asked}
use Rattle.pt_content.specs.declared.answer.Helper.TheVariants as asked
use Rattle.pt_content.specs.declared.answer.PrimAns.{PrimAns}
use Rattle.pt_content.specs.declared.answer.PrimAns.TheVariants as prim
use Rattle.pt_content.specs.declared.op.Op.{Op}
use Rattle.pt_content.specs.declared.op.Op.TheVariants as op
use Rattle.pt_prims.specs.pt_methods.Names.{of_method_number}
use Rattle.sem_run.specs.run.Machine.{BlockId}
use Rattle.sem_run.specs.run.Host.{Here, Opening, answer, raise, leave, request, opens, made, beyond}
use Rattle.pt_host.specs.declared.places.TheConstants.{BASE_EXCEPTION, OBJECT, RECURSION_ERROR, TYPE_ERROR}
use Rattle.pt_host.specs.World.{Names, World, Stores, CodeFacts, Program, start_world, in_world, with_objects, allot}
use Rattle.pt_host.specs.Trees.{Tree, answer_with, made_all, then_with}
use Rattle.pt_host.specs.Primitives.{Awaited, answer_if, of_prim, one_value, prim_asked}
use Rattle.pt_host.specs.Operators.{method_name, reflected_name, sign_of}
use Rattle.pt_prims.specs.pt_special_methods.Instances.{method_of}
use Rattle.pt_host.specs.Texts.{binding_text, not_callable_text}
use Rattle.pt_host.specs.Errors.{error, raise_saying}
use Rattle.pt_host.specs.Attributes.{set_named}
use Rattle.pt_host.specs.Supers.{make_super}
use Rattle.pt_prims.specs.Classes.{derives}
use Rattle.pt_prims.specs.Operations.{prim_answer, prim_heap}
use Rattle.pt_helper_objects.specs.Objects.{helper_place}
use Rattle.pt_helper_objects.specs.pt_prelude.declared.kinds.Helper.{Helper}
use Rattle.pt_helper_objects.specs.pt_prelude.declared.kinds.Helper.TheVariants as helper
use Rattle.pt_helper_objects.specs.pt_prelude.Asked.{function_of}
pub use Rattle.pt_host.specs.Arguments.{are_arguments, arguments}
pub use Rattle.pt_host.specs.Starred.{Values, values_given}
pub use Rattle.pt_host.specs.Primitives.{by_prim, arguments_of}

-- a function of a block, with the values of defaults and then the numbers of cells
abbrev pub defaults_of : List Name → List Value → List Binding
defaults_of (x ∷ xs) (v ∷ vs) = record { name = x; value = v } ∷ defaults_of xs vs
defaults_of _ _ = []

abbrev pub number_of : Value → ℕ
number_of (value.Int (pos n)) = n
number_of _ = 0

abbrev pub function_object : (block : ℕ) → (hidden : Bool) → List Name → List Value → Object
function_object b hidden xs vs =
    object.Function (record {
      block = record { 0 = b };
      hidden = hidden;
      defaults = defaults_of xs vs;
      cells = map number_of (drop (length xs) vs);
    })

abbrev pub make_function : (block : ℕ) → List Name → List Value → Here Value → Stores →
    Tree Value
make_function b xs vs h st =
    answer_with (allot (function_object b h.block.hidden xs vs) st.world.heap) st

-- what the names of a block begin with: a parameter that has a cell has its value there
abbrev pub parameters_given : List Name → List (Option Value) → Named
parameters_given (x ∷ xs) (v ∷ vs) = (x, v) ∷ parameters_given xs vs
parameters_given _ _ = []

abbrev pub first_value : CodeFacts → Named → Name → Option Value
first_value facts ps x = if is_among facts.cells x then None else name_value x ps

abbrev pub first_values : CodeFacts → Named → Named
first_values facts ps = map (λ x. (x, first_value facts ps x)) facts.locals

abbrev pub cells_from : (number : ℕ) → List Name → List (Name × ℕ)
cells_from n [] = []
cells_from n (x ∷ xs) = (x, n) ∷ cells_from (n + 1) xs

abbrev pub cells_along : List Name → List ℕ → List (Name × ℕ)
cells_along (x ∷ xs) (n ∷ ns) = (x, n) ∷ cells_along xs ns
cells_along _ _ = []

abbrev pub with_cells : CodeFacts → Named → World → World
with_cells facts ps w = record w { cells = w.cells ++ map (λ x. name_value x ps) facts.cells }

abbrev pub names_along : CodeFacts → (along : List ℕ) → Named → World → Names
names_along facts ns ps w = record {
  values = first_values facts ps;
  cells = cells_from (length w.cells) facts.cells ++ cells_along facts.frees ns;
}

abbrev pub names_from : CodeFacts → Function → Named → World → Names
names_from facts f ps w = names_along facts f.cells ps w

-- a run begins in its module, block 0, which is given nothing and takes no cells along (4.1): its
-- names of comprehensions are unbound, and their cells hold nothing
abbrev pub module_block : BlockId
module_block = record { hidden = false; number = 0 }

abbrev pub module_names : Program → Names
module_names p = names_along (p.facts module_block) [] [] (start_world p)

abbrev pub module_world : Program → World
module_world p = with_cells (p.facts module_block) [] (start_world p)

-- the value that a block gives, or the exception that leaves it
abbrev pub result_of : End Value → Stores → Tree Value
result_of (gave v) st = answer v st
result_of (left_by v) st = raise v st

abbrev pub block_of : Function → BlockId
block_of f = record { hidden = f.hidden; number = f.block.0 }

abbrev pub opening : CodeFacts → Function → Named → World → Opening Names Value
opening facts f ps w = record {
  block = block_of f;
  iterator = None;
  names = names_from facts f ps w;
}

abbrev pub run_block : CodeFacts → Function → Named → Stores → Tree Value
run_block facts f ps st =
    request (opens (opening facts f ps st.world)) (in_world (with_cells facts ps st.world) st)
    (λ r st1. result_of r.end st1)

-- the local names of a block begin with those of its parameters
abbrev pub run_given : CodeFacts → Function → Values → Stores → Tree Value
run_given facts f (made vs h) st =
    run_block facts f (parameters_given facts.locals vs) (with_objects h st)
run_given facts f (beyond what) st = leave what

-- arguments that a builtin doesn't take leave the profile, also of one that is written in Python
abbrev pub misfit : CodeFacts → Function → BindErr → Here Value → Stores → Tree Value
misfit facts f e h st = if f.hidden then leave Feature else raise_saying TYPE_ERROR (binding_text facts.name e) h st

abbrev pub call_bound : CodeFacts → Function → Result Locals BindErr → Here Value → Stores →
    Tree Value
call_bound facts f (Ok ls) h st = run_given facts f (values_given facts.params ls st.world.heap) st
call_bound facts f (Err e) h st = misfit facts f e h st

-- generators aren't there yet
abbrev pub call_block : CodeFacts → Function → Result Locals BindErr → Here Value → Stores →
    Tree Value
call_block facts f r h st = if facts.yields then leave Feature else call_bound facts f r h st

abbrev pub call_function : CodeFacts → Function → Args → Here Value → Stores → Tree Value
call_function facts f args h st =
    call_block facts f (binding_with facts.params f.defaults args) h st

-- arguments by one of two names, each once
abbrev pub is_either : (x y name : Name) → Bool
is_either x y name = bytes_eq name x || bytes_eq name y

abbrev pub are_either : (x y : Name) → List Binding → Bool
are_either x y [] = true
are_either x y (b ∷ []) = is_either x y b.name
are_either x y (b ∷ c ∷ []) =
    (is_either x y b.name && is_either x y c.name) && not (bytes_eq b.name c.name)
are_either x y bs = false

-- `print` takes `sep` and `end` by name (Library Reference, "Built-in Functions")
abbrev pub are_print_names : List Binding → Bool
are_print_names bs = are_either (codes "sep") (codes "end") bs

abbrev pub or_none : Option Value → Value
or_none (Some v) = v
or_none None = value.None

abbrev pub print_operands : Args → List Value
print_operands args =
    or_none (value_of (codes "sep") args.named) ∷ or_none (value_of (codes "end") args.named)
    ∷ args.plain

abbrev pub unnamed_operands : (named : List Binding) → List Value → Option (List Value)
unnamed_operands [] vs = Some vs
unnamed_operands bs vs = None

-- the operands of a builtin function, which takes arguments without names but for `print`
abbrev pub operands_of : Builtin → Args → Option (List Value)
operands_of builtin.Print args =
    if are_print_names args.named then Some (print_operands args) else None
operands_of f args = unnamed_operands args.named args.plain

-- the operands of a method behind its object: `sort` takes `key` and `reverse` by name, and no
-- other argument (Library Reference, "Mutable Sequence Types")
abbrev pub are_sort_names : List Binding → Bool
are_sort_names bs = are_either (codes "key") (codes "reverse") bs

abbrev pub sort_operands : (named : List Binding) → List Value → Option (List Value)
sort_operands bs [] =
    if are_sort_names bs then
    Some (or_none (value_of (codes "key") bs) ∷ or_none (value_of (codes "reverse") bs) ∷ [])
    else None
sort_operands bs vs = None

abbrev pub method_operands : MethodName → Args → Option (List Value)
method_operands method.Sort args = sort_operands args.named args.plain
method_operands m args = unnamed_operands args.named args.plain

-- the arguments of a function that is written in Python, by the operands of the operation that asks it
abbrev pub named_argument : List ℕ → Value → Binding
named_argument x v = record { name = x; value = v }

-- objects that are made for it: the names of an operator's methods and its sign; the tuple of what is printed, and the usual texts between and behind
abbrev pub objects_for : Asked → List Value → List Object
objects_for (asked.BinaryOf o) vs = object.Str (method_name o) ∷ object.Str (reflected_name o) ∷ object.Str (sign_of o) ∷ []
objects_for asked.PrintOf (separator ∷ end ∷ vs) = object.Tuple vs ∷ object.Str (codes " ") ∷ object.Str (10 ∷ []) ∷ []
objects_for a vs = []

abbrev pub or_usual : (usual given : Value) → Value
or_usual u value.None = u
or_usual u v = v

abbrev pub helper_arguments : Asked → List Value → (made : List Value) → Args
helper_arguments asked.SortOf (l ∷ key ∷ turned ∷ []) ms =
    record { plain = l ∷ []; named = named_argument (codes "key") key ∷ named_argument (codes "reverse") turned ∷ [] }
helper_arguments asked.InOf (v ∷ x ∷ []) ms = record { plain = x ∷ v ∷ []; named = [] }
helper_arguments asked.PrintOf (separator ∷ end ∷ vs) (printed ∷ blank ∷ line ∷ []) =
    record { plain = printed ∷ or_usual blank separator ∷ or_usual line end ∷ []; named = [] }
helper_arguments asked.StrOf (v ∷ vs) ms = record { plain = v ∷ []; named = [] }
helper_arguments asked.ReprOf (v ∷ vs) ms = record { plain = v ∷ []; named = [] }
helper_arguments (asked.TakeOf n) vs ms = record { plain = vs ++ value.Int (pos n) ∷ []; named = [] }
helper_arguments a vs ms = record { plain = vs ++ ms; named = [] }

-- what stands for the value that such a function gives, if that isn't the operation's own: the opposite where it is asked that it isn't
-- so (6.10.2), and the list that `+=` changed (7.2.1)
abbrev pub opposite : Value → Value
opposite (value.Bool b) = value.Bool (not b)
opposite v = v

abbrev pub standing_for : Op → Asked → List Value → (inverted : Bool) → Value → Value
standing_for (op.InPlace o) asked.ExtendOf (l ∷ vs) inverted v = l
standing_for o a vs true v = opposite v
standing_for o a vs false v = v

-- what is made of it, for what is awaited: the text of a field is laid out (2.4.3)
abbrev pub behind_helper : {A : Type 0} → Awaited A → Op → Asked → List Value → (inverted : Bool) → (given : Value) → Here Value → Stores → Tree A
behind_helper w (op.Format c) a (x ∷ spec ∷ vs) inverted v h st = prim_asked w (op.Format None) (v ∷ spec ∷ []) h st
behind_helper w op.Truth a vs inverted v h st = answer_if (w.value v) st
behind_helper w op.Iter a vs inverted v h st = answer_if (w.value v) st
behind_helper w o a vs inverted v h st = answer_if (w.value (standing_for o a vs inverted v)) st

-- the functions that calls of builtin classes ask, by the places of these
abbrev pub class_helpers : List (ℕ × Helper)
class_helpers = (5, helper.ListOf) ∷ (6, helper.TupleOf) ∷ (7, helper.SetOf) ∷ (8, helper.DictOf) ∷ []

abbrev pub value_at : List (ℕ × Helper) → (place : ℕ) → Option Helper
value_at [] place = None
value_at ((p, f) ∷ rows) place = if nat_eq place p then Some f else value_at rows place

abbrev pub helper_of_class : Value → Option Helper
helper_of_class (value.Obj id) = value_at class_helpers id.0
helper_of_class v = None

module _ (program : Program) where
  -- such a function is called, if a run has it
  abbrev pub call_hidden : Option Object → Args → Here Value → Stores → Tree Value
  call_hidden (Some (object.Function f)) args h st = call_function (program.facts (block_of f)) f args h st
  call_hidden o args h st = leave what.Helper

  abbrev pub call_at : Option ℕ → Args → Here Value → Stores → Tree Value
  call_at (Some place) args h st = call_hidden (slice_get st.world.heap place) args h st
  call_at None args h st = leave what.Helper

  abbrev pub ask : Helper → Args → Here Value → Stores → Tree Value
  ask f args h st = call_at (helper_place f) args h st

  abbrev pub ask_with : Asked → List Value → Here Value → Stores → Tree Value
  ask_with a vs h st =
      then_with (made_all (objects_for a vs) st) (λ ms st1. ask (function_of a) (helper_arguments a vs ms) h st1)

  -- an operation on values, or the function that it asks in its place
  abbrev pub asked_in_place : {A : Type 0} → Awaited A → Op → PrimAns → Here Value → Stores → Tree A
  asked_in_place w o (prim.Help a vs inverted) h st =
      then_with (ask_with a vs h st) (λ v st1. behind_helper w o a vs inverted v h st1)
  asked_in_place w o p h st = of_prim w p h st

  unfoldable pub operated : {A : Type 0} → Awaited A → Op → List Value → Here Value → Stores → Tree A
  operated w op vs h st =
      asked_in_place w op (prim_answer op vs st.world.heap) h
      (with_objects (prim_heap op vs st.world.heap) st)

  abbrev pub by_prim_or_helper : Op → List Value → Here Value → Stores → Tree Value
  by_prim_or_helper op vs h st = operated one_value op vs h st

  abbrev pub operate_or_ask : Op → Option (List Value) → Here Value → Stores → Tree Value
  operate_or_ask o (Some vs) h st = by_prim_or_helper o vs h st
  operate_or_ask o None h st = leave Feature

-- `setattr`, which takes three arguments
abbrev pub call_setattr : Option (List Value) → Here Value → Stores → Tree Value
call_setattr (Some (a ∷ name ∷ v ∷ [])) h st =
    then_with (set_named (text_of st.world.heap name) a v h st) (λ u st1. answer value.None st1)
call_setattr o h st = leave Feature

-- what else functions of `sys` do isn't there yet
abbrev pub call_builtin : Program → Option Builtin → Args → Here Value → Stores → Tree Value
call_builtin p (Some builtin.Setattr) args h st = call_setattr (unnamed_operands args.named args.plain) h st
call_builtin p (Some f) args h st = operate_or_ask p (op.Call f) (operands_of f args) h st
call_builtin p None args h st = leave Feature

-- a method of a builtin value, of its object
abbrev pub call_method : Program → Option MethodName → (receiver : Value) → Args → Here Value → Stores → Tree Value
call_method p (Some m) r args h st =
    operate_or_ask p (op.CallMethod m) (option_map (λ vs. r ∷ vs) (method_operands m args)) h st
call_method p None r args h st = leave Feature

abbrev pub call_builtin_object : Program → BuiltinObject → (receiver : Option Value) → Args → Here Value → Stores → Tree Value
call_builtin_object p b None args h st = call_builtin p (of_function b.number) args h st
call_builtin_object p b (Some r) args h st = call_method p (of_method_number b.number) r args h st

-- the builtin class that a value is
abbrev pub class_function : Value → Option Builtin
class_function (value.Obj id) = of_class id
class_function v = None

-- the class of exceptions that a builtin class is, if it is one
abbrev pub exception_class : List Object → Value → ClassObject → Option ObjId
exception_class h (value.Obj id) c =
    if derives h BASE_EXCEPTION id && not c.scripted then Some id else None
exception_class h v c = None

-- an exception, of any arguments without names (Library Reference, "Built-in Exceptions")
abbrev pub make_exception : Option ObjId → Option (List Value) → Stores → Tree Value
make_exception (Some id) (Some vs) st =
    answer_with (allot (error id vs None None) st.world.heap) st
make_exception o vs st = leave Feature

-- A call of a script's class makes an instance, for which `__init__` is called with the arguments, whatever that gives (3.3.1). An exception has those
-- without names as its `args`, too.
abbrev pub instance : (exception : Bool) → (class : ObjId) → List Value → Object
instance true id vs = error id vs None None
instance false id vs = object.Instance (record { class = id; names = [] })

-- without `__init__` only an exception takes arguments
abbrev pub parameters_without : (exception : Bool) → Params
parameters_without e = record { plain = []; only = []; star = e; stars = false; defaults = [] }

abbrev pub initializer : List Object → ObjId → Option Found
initializer h id = as_method h (class_value h (name_codes (codes "__init__")) id)

abbrev pub with_receiver : Value → Args → Args
with_receiver v args = record args { plain = v ∷ args.plain }

abbrev pub made_unless : Result Locals BindErr → ClassObject → Object → Here Value → Stores → Tree Value
made_unless (Ok ls) c o h st = answer_with (allot o st.world.heap) st
made_unless (Err e) c o h st = raise_saying TYPE_ERROR (binding_text c.name e) h st

abbrev pub is_bound : Result Locals BindErr → Bool
is_bound (Ok ls) = true
is_bound (Err e) = false

module _ (program : Program) where
  -- whether the parameters of a function take arguments
  abbrev pub takes_arguments : Option Object → Args → Bool
  takes_arguments (Some (object.Function f)) args = is_bound (binding_with (program.facts (block_of f)).params f.defaults args)
  takes_arguments o args = false

  abbrev pub call_function_at : Option Object → Args → Here Value → Stores → Tree Value
  call_function_at (Some (object.Function f)) args h st = call_function (program.facts (block_of f)) f args h st
  call_function_at o args h st = leave Feature

  abbrev pub initialized : (function made : Value) → Args → Here Value → Stores → Tree Value
  initialized f v args h st =
      then_with (call_function_at (object_of st.world.heap f) (with_receiver v args) h st) (λ r st1. answer v st1)

  -- what is no function isn't called yet
  abbrev pub instance_by : (exception : Bool) → Option Found → ObjId → ClassObject → Args → Here Value → Stores → Tree Value
  instance_by e None id c args h st =
      made_unless (binding_with (parameters_without e) [] args) c (instance e id args.plain) h st
  instance_by e (Some (found.Bound f)) id c args h st =
      then_with (answer_with (allot (instance e id args.plain) st.world.heap) st) (λ v st1. initialized f v args h st1)
  instance_by e o id c args h st = leave Feature

  abbrev pub make_instance : ObjId → ClassObject → Args → Here Value → Stores → Tree Value
  make_instance id c args h st =
      instance_by (derives st.world.heap BASE_EXCEPTION id) (initializer st.world.heap id) id c args h st

-- a list, a tuple, a set and a dictionary are made by functions that are written in Python
abbrev pub call_other_class : Program → Option Helper → ClassObject → (class : Value) → Args →
    Here Value → Stores → Tree Value
call_other_class p (Some f) c v args h st = ask p f args h st
call_other_class p None c (value.Obj id) args h st =
    if c.scripted then make_instance p id c args h st
    else make_exception (exception_class st.world.heap (value.Obj id) c) (unnamed_operands args.named args.plain) st
call_other_class p None c v args h st = leave Feature

-- `object` and `super` take no arguments
abbrev pub new_object : Option (List Value) → Stores → Tree Value
new_object (Some []) st = answer_with (allot (instance false OBJECT []) st.world.heap) st
new_object o st = leave Feature

abbrev pub call_super : Program → Option (List Value) → Here Value → Stores → Tree Value
call_super p (Some []) h st = make_super p h st
call_super p o h st = leave Feature

abbrev pub call_class : Program → Option Builtin → ClassObject → (class : Value) → Args →
    Here Value → Stores → Tree Value
call_class p (Some builtin.Object) c v args h st = new_object (unnamed_operands args.named args.plain) st
call_class p (Some builtin.Super) c v args h st = call_super p (unnamed_operands args.named args.plain) h st
call_class p (Some f) c v args h st = operate_or_ask p (op.Call f) (operands_of f args) h st
call_class p None c v args h st = call_other_class p (helper_of_class v) c v args h st

abbrev pub not_callable : Value → Here Value → Stores → Tree Value
not_callable v h st = raise_saying TYPE_ERROR (not_callable_text (class_name st.world.heap v)) h st

-- so many instances may be called in turn
abbrev pub call_limit : ℕ
call_limit = 1000

-- how values are called
abbrev pub Called : Type 0
Called = Value → Args → Here Value → Stores → Tree Value

module _ (program : Program) where
  -- an instance is called by its `__call__`, which may be an instance in turn
  abbrev pub call_by : Called → Option Found → Value → Args → Here Value → Stores → Tree Value
  call_by next (Some (found.Bound f)) v args h st =
      call_function_at program (object_of st.world.heap f) (with_receiver v args) h st
  call_by next (Some (found.Plain w)) v args h st = next w args h st
  call_by next o v args h st = not_callable v h st

  abbrev pub call_object : Called → Option Object → Value → Args → Here Value → Stores → Tree Value
  call_object next (Some (object.Function f)) v args h st =
      call_function (program.facts (block_of f)) f args h st
  call_object next (Some (object.Builtin b)) v args h st = call_builtin_object program b b.receiver args h st
  call_object next (Some (object.Class c)) v args h st = call_class program (class_function v) c v args h st
  call_object next (Some (object.Method m)) v args h st =
      call_function_at program (object_of st.world.heap m.function) (with_receiver m.receiver args) h st
  call_object next o v args h st = call_by next (method_of st.world.heap v (codes "__call__")) v args h st

  unfoldable pub called_within : (instances : ℕ) → Value → Args → Here Value → Stores → Tree Value
  called_within zero v args h st = raise_saying RECURSION_ERROR (codes "too many activations") h st
  called_within (suc n) (value.Obj id) args h st =
      call_object (called_within n) (slice_get st.world.heap id.0) (value.Obj id) args h st
  called_within (suc n) v args h st = not_callable v h st

  abbrev pub call_value : Value → Args → Here Value → Stores → Tree Value
  call_value v args h st = called_within (suc call_limit) v args h st

  -- the special method of an instance is called with these arguments
  abbrev pub call_special : Option Found → (receiver : Value) → List Value → (otherwise : Tree Value) → Here Value → Stores → Tree Value
  call_special (Some (found.Bound f)) v vs otherwise h st =
      call_function_at program (object_of st.world.heap f) (record { plain = v ∷ vs; named = [] }) h st
  call_special (Some (found.Plain w)) v vs otherwise h st = call_value w (record { plain = vs; named = [] }) h st
  call_special o v vs otherwise h st = otherwise

  -- so is one whose value isn't the operation's own, where it is a function; what is none isn't called yet
  abbrev pub call_found : Option Found → (receiver : Value) → List Value → (otherwise : Tree Value) → Here Value → Stores → Tree Value
  call_found (Some (found.Bound f)) v vs otherwise h st =
      call_function_at program (object_of st.world.heap f) (record { plain = v ∷ vs; named = [] }) h st
  call_found (Some o) v vs otherwise h st = leave Feature
  call_found None v vs otherwise h st = otherwise

  abbrev pub call : List Role → (callee : Value) → List Value → Here Value → Stores → Tree Value
  call rs f vs h st =
      if are_arguments st.world.heap rs vs
      then call_value f (arguments st.world.heap rs vs) h st
      else leave Feature
