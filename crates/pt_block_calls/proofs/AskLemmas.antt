-- What functions that are written in Python come to, and operations that may ask one.
use Rattle.std.proofs.Common.{◌≡◌, ◌∙◌, Bool, true, false, List, [], ◌∷◌, Option, Some, None, Ok, Err, refl, sym, ap, subst}
use Rattle.std.specs.Prelude.{option_map, slice_get}
use Rattle.pt_base.specs.declared.numbers.ObjId.{ObjId}
use Rattle.pt_base.specs.declared.what.What.TheVariants as what
use Rattle.pt_heap.specs.declared.value.Value.{Value}
use Rattle.pt_heap.specs.declared.value.Value.TheVariants as value
use Rattle.pt_heap.specs.declared.object.Object.{Object}
use Rattle.pt_heap.specs.declared.object.Object.TheVariants as object
use Rattle.pt_prelude.specs.declared.kinds.Helper.{Helper}
use Rattle.pt_prelude.specs.Asked.{function_of as function_asked}
use Rattle.pt_helper_objects.specs.Objects.{helper_place}
use Rattle.pt_bind.specs.declared.arguments.Args.{Args}
use Rattle.pt_frames.specs.declared.slot.Slot.{Slot}
use Rattle.pt_content.specs.declared.op.Op.{Op}
use Rattle.pt_content.specs.declared.op.Op.TheVariants as op
use Rattle.pt_content.specs.declared.answer.Helper.{Helper as Asked}
use Rattle.pt_content.specs.declared.answer.Helper.TheVariants as asked
use Rattle.pt_content.specs.declared.answer.PrimAns.{PrimAns}
use Rattle.pt_content.specs.declared.answer.PrimAns.TheVariants as prim
use Rattle.pt_code.specs.View.{Ins}
use Rattle.sem_code.specs.slots.Slots.{Slots}
use Rattle.sem_code.specs.slots.CodeObject.{CodeObject}
use Rattle.sem_run.specs.run.Host.{Here, answer, raise, print, leave, request}
use Rattle.pt_operators.specs.pt_prims.Operations.{prim_answer, prim_heap}
use Rattle.pt_operators.specs.pt_moves.sem_rows.pt_host.Primitives.{Awaited, of_prim, one_value}
use Rattle.pt_operators.specs.pt_moves.sem_rows.pt_host.World.{Stores, Program}
use Rattle.pt_operators.specs.pt_moves.sem_rows.pt_host.Trees.{Tree, made_all, then_with}
use Rattle.pt_operators.specs.pt_moves.sem_rows.pt_host.Calls.{ask, ask_with, asked_in_place, behind_helper, call_at, call_function_at, call_hidden, helper_arguments, objects_for, operated}
use Rattle.pt_operators.specs.pt_moves.sem_rows.declared.heap_rows.progress.Progress.{Progress}
use Rattle.pt_operators.specs.pt_moves.sem_rows.declared.heap_rows.progress.Progress.TheVariants as progress
use Rattle.pt_operators.specs.pt_moves.sem_rows.heap_rows.Leads.{by_tree, giving}
use Rattle.pt_operators.specs.pt_moves.sem_rows.heap_rows.Told.{told}
use Rattle.pt_operators.specs.pt_moves.sem_rows.heap_rows.Views.{slots_view}
use Rattle.pt_operators.specs.Operates.{over_value, progress_of, value_given}
use Rattle.pt_operators.proofs.OperatorLemmas.{answer_told}
use Rattle.pt_function_rows.specs.pt_code_facts.declared.facts.Blocks.{Blocks}
use Rattle.pt_class_rows.specs.Calls.{Calls, with_parts}
use Rattle.pt_block_calls.specs.declared.blocks.Given.{Given}
use Rattle.pt_block_calls.specs.declared.blocks.Given.TheVariants as gives
use Rattle.pt_block_calls.specs.BlockCalls.{AreMade, AsksFor, AsksHelper, AsksWith, CallsAnswered, CallsFunctionAt, IsPlaceOf, MakesArguments, OperatesOrAsks, function_in, function_of, given_for, is_help, led_for}
use Rattle.pt_block_calls.proofs.BlockLemmas.{left_alike}

-- what stands at the place of such a function is called if it is one

module _ (program : Program) (args : Args) (h : Here Value) (st : Stores) where
  hidden_function : (o : Option Object) → (function_in o ≡ None → ⊥)
      → ◌≡◌ {A = Tree Value} (call_function_at program o args h st) (call_hidden program o args h st)
  hidden_function None n = absurd (n refl)
  hidden_function (Some (object.Str s)) n = absurd (n refl)
  hidden_function (Some (object.List l)) n = absurd (n refl)
  hidden_function (Some (object.Tuple l)) n = absurd (n refl)
  hidden_function (Some (object.Dict d)) n = absurd (n refl)
  hidden_function (Some (object.Set d)) n = absurd (n refl)
  hidden_function (Some (object.Range r)) n = absurd (n refl)
  hidden_function (Some (object.Slice r)) n = absurd (n refl)
  hidden_function (Some (object.Cursor r)) n = absurd (n refl)
  hidden_function (Some (object.View r)) n = absurd (n refl)
  hidden_function (Some (object.Function g)) n = refl
  hidden_function (Some (object.Method m)) n = absurd (n refl)
  hidden_function (Some (object.Builtin b)) n = absurd (n refl)
  hidden_function (Some (object.Class c)) n = absurd (n refl)
  hidden_function (Some (object.Instance x)) n = absurd (n refl)
  hidden_function (Some (object.Error x)) n = absurd (n refl)
  hidden_function (Some (object.Generator m)) n = absurd (n refl)
  hidden_function (Some (object.Frame m)) n = absurd (n refl)
  hidden_function (Some (object.CodeRef b hid)) n = absurd (n refl)
  hidden_function (Some (object.Module m)) n = absurd (n refl)
  hidden_function (Some (object.Super x)) n = absurd (n refl)

  hidden_none : (o : Option Object) → function_in o ≡ None → ◌≡◌ {A = Tree Value} (call_hidden program o args h st) (leave what.Helper)
  hidden_none None e = refl
  hidden_none (Some (object.Str s)) e = refl
  hidden_none (Some (object.List l)) e = refl
  hidden_none (Some (object.Tuple l)) e = refl
  hidden_none (Some (object.Dict d)) e = refl
  hidden_none (Some (object.Set d)) e = refl
  hidden_none (Some (object.Range r)) e = refl
  hidden_none (Some (object.Slice r)) e = refl
  hidden_none (Some (object.Cursor r)) e = refl
  hidden_none (Some (object.View r)) e = refl
  hidden_none (Some (object.Function g)) e = absurd (cc)
  hidden_none (Some (object.Method m)) e = refl
  hidden_none (Some (object.Builtin b)) e = refl
  hidden_none (Some (object.Class c)) e = refl
  hidden_none (Some (object.Instance x)) e = refl
  hidden_none (Some (object.Error x)) e = refl
  hidden_none (Some (object.Generator m)) e = refl
  hidden_none (Some (object.Frame m)) e = refl
  hidden_none (Some (object.CodeRef b hid)) e = refl
  hidden_none (Some (object.Module m)) e = refl
  hidden_none (Some (object.Super x)) e = refl

module _ (x : Helper) (blocks : Blocks) (args : Args) (give : Given) (slots : List Slot) (cells : List (Option Value)) (heap : List Object) where
  -- by the place that code found
  module _ (o : Option ObjId) (at : IsPlaceOf x o) where
    stands_so : (q : Option ObjId) → o ≡ q → option_map (λ (id : ObjId). id.0) q ≡ helper_place x
    unfolding IsPlaceOf
    stands_so q e = sym (ap (λ k. option_map (λ (id : ObjId). id.0) k) e) ∙ at

    pub nowhere_asked : o ≡ None → AsksHelper x blocks args give slots cells heap (progress.Outside what.Helper) cells heap
    unfolding AsksHelper
    nowhere_asked e program code i h st knows =
        sym (left_alike program code i (slots_view slots) h give what.Helper)
        ∙ ap (λ k. led_for program code i give (slots_view slots) h (call_at program k args h (with_parts cells heap st))) (stands_so None e)

    module _ (place : ObjId) (is : o ≡ Some place) where
      pub none_asked : function_of heap (value.Obj place) ≡ None → AsksHelper x blocks args give slots cells heap (progress.Outside what.Helper) cells heap
      unfolding AsksHelper
      none_asked e program code i h st knows =
          sym (left_alike program code i (slots_view slots) h give what.Helper)
          ∙ ap (λ (t : Tree Value). led_for program code i give (slots_view slots) h t)
          (sym (hidden_none program args h (with_parts cells heap st) (slice_get heap place.0) e)
          ∙ ap (λ k. call_at program k args h (with_parts cells heap st)) (stands_so (Some place) is))

      pub function_asks : (p : Progress) (changed : List (Option Value)) (grown : List Object)
          → (function_of heap (value.Obj place) ≡ None → ⊥) → CallsFunctionAt blocks (value.Obj place) args give slots cells heap p changed grown
          → AsksHelper x blocks args give slots cells heap p changed grown
      unfolding AsksHelper CallsFunctionAt
      function_asks p changed grown n done program code i h st knows =
          done program code i h st knows
          ∙ ap (λ (t : Tree Value). led_for program code i give (slots_view slots) h t)
          (hidden_function program args h (with_parts cells heap st) (slice_get heap place.0) n
          ∙ ap (λ k. call_at program k args h (with_parts cells heap st)) (stands_so (Some place) is))

-- with objects that are made for it

module _ (a : Asked) (vs : List Value) (give : Given) (blocks : Blocks) (slots : List Slot) (cells : List (Option Value)) (heap : List Object) where
  abbrev asks_behind : Program → Here Value → Tree (List Value) → Tree Value
  asks_behind program h t = then_with t (λ ms st1. ask program (function_asked a) (helper_arguments a vs ms) h st1)

  pub lacks_room : (o : Option Args) (grown : List Object) → MakesArguments a vs heap o grown → o ≡ None
      → AsksWith a vs give blocks slots cells heap (progress.Outside what.Heap) cells grown
  unfolding AsksWith MakesArguments AreMade then_with
  lacks_room (Some args) grown makes e program code i h st knows = absurd (cc)
  lacks_room None grown makes e program code i h st knows =
      sym (left_alike program code i (slots_view slots) h give what.Heap)
      ∙ ap (λ (t : Tree (List Value)). led_for program code i give (slots_view slots) h (asks_behind program h t)) (sym (makes (with_parts cells heap st)))

  pub asked_so : (o : Option Args) (args : Args) (between : List Object) (f : Helper) (p : Progress) (changed : List (Option Value)) (grown : List Object)
      → MakesArguments a vs heap o between → o ≡ Some args → f ≡ function_asked a → AsksHelper f blocks args give slots cells between p changed grown
      → AsksWith a vs give blocks slots cells heap p changed grown
  unfolding AsksWith AsksHelper MakesArguments AreMade then_with
  asked_so None args between f p changed grown makes e is done program code i h st knows = absurd (cc)
  asked_so (Some all) args between f p changed grown makes e is done program code i h st knows =
      let same : args ≡ all = cc in
      done program code i h st knows
      ∙ ap (λ (t : Tree Value). led_for program code i give (slots_view slots) h t)
      (ap (λ k. ask program k args h (with_parts cells between st)) is
      ∙ (ap (λ k. ask program (function_asked a) k h (with_parts cells between st)) (same ∙ makes.1.1)
      ∙ ap (asks_behind program h) (sym (makes.1.0 (with_parts cells heap st)))))

-- what is made of the value of such a function

pub unit : (t : Tree Value) → t ≡ then_with t (λ v st. answer v st)
unfolding then_with
unit (answer v st) = refl
unit (raise v st) = refl
unit (print t k) = ap (λ x. print t x) (unit k)
unit (leave w) = refl
unit (request r st k) = λ j. request r st (λ x st1. unit (k x st1) j)

module _ (program : Program) (code : CodeObject Value) (i : Ins) (ss : Slots Value) (h : Here Value) (t : Tree Value) where
  abbrev Behind : Op → Asked → List Value → Bool → Type 0
  Behind o a vs b =
      led_for program code i (given_for o a vs b) ss h t ≡ by_tree code i (giving code i ss) ss (then_with t (λ v st. behind_helper one_value o a vs b v h st))

  itself : by_tree code i (giving code i ss) ss t ≡ by_tree code i (giving code i ss) ss (then_with t (λ v st. answer v st))
  itself = ap (λ (k : Tree Value). by_tree code i (giving code i ss) ss k) (unit t)

  in_place_behind : (o : _) (a : Asked) (vs : List Value) (b : Bool) → Behind (op.InPlace o) a vs b
  in_place_behind o asked.ExtendOf [] true = refl
  in_place_behind o asked.ExtendOf [] false = itself
  in_place_behind o asked.ExtendOf (l ∷ vs) b = refl
  in_place_behind o asked.TruthOf vs true = refl
  in_place_behind o asked.TruthOf vs false = itself
  in_place_behind o (asked.BinaryOf k) vs true = refl
  in_place_behind o (asked.BinaryOf k) vs false = itself
  in_place_behind o asked.PrintOf vs true = refl
  in_place_behind o asked.PrintOf vs false = itself
  in_place_behind o asked.StrOf vs true = refl
  in_place_behind o asked.StrOf vs false = itself
  in_place_behind o asked.ReprOf vs true = refl
  in_place_behind o asked.ReprOf vs false = itself
  in_place_behind o asked.LenOf vs true = refl
  in_place_behind o asked.LenOf vs false = itself
  in_place_behind o asked.IterOf vs true = refl
  in_place_behind o asked.IterOf vs false = itself
  in_place_behind o asked.NextOf vs true = refl
  in_place_behind o asked.NextOf vs false = itself
  in_place_behind o asked.NextOrOf vs true = refl
  in_place_behind o asked.NextOrOf vs false = itself
  in_place_behind o asked.InOf vs true = refl
  in_place_behind o asked.InOf vs false = itself
  in_place_behind o asked.SameOf vs true = refl
  in_place_behind o asked.SameOf vs false = itself
  in_place_behind o asked.PairsOf vs true = refl
  in_place_behind o asked.PairsOf vs false = itself
  in_place_behind o (asked.TakeOf n) vs true = refl
  in_place_behind o (asked.TakeOf n) vs false = itself
  in_place_behind o asked.ListOf vs true = refl
  in_place_behind o asked.ListOf vs false = itself
  in_place_behind o asked.TupleOf vs true = refl
  in_place_behind o asked.TupleOf vs false = itself
  in_place_behind o asked.SetOf vs true = refl
  in_place_behind o asked.SetOf vs false = itself
  in_place_behind o asked.DictOf vs true = refl
  in_place_behind o asked.DictOf vs false = itself
  in_place_behind o asked.UpdateOf vs true = refl
  in_place_behind o asked.UpdateOf vs false = itself
  in_place_behind o asked.JoinOf vs true = refl
  in_place_behind o asked.JoinOf vs false = itself
  in_place_behind o asked.SortOf vs true = refl
  in_place_behind o asked.SortOf vs false = itself

  pub given_behind : (o : Op) (a : Asked) (vs : List Value) (b : Bool) → Behind o a vs b
  given_behind (op.InPlace o) a vs b = in_place_behind o a vs b
  given_behind (op.Format c) a [] true = refl
  given_behind (op.Format c) a [] false = itself
  given_behind (op.Format c) a (x ∷ []) true = refl
  given_behind (op.Format c) a (x ∷ []) false = itself
  given_behind (op.Format c) a (x ∷ spec ∷ vs) b = refl
  given_behind op.Truth a vs b = itself
  given_behind op.Not a vs true = refl
  given_behind op.Not a vs false = itself
  given_behind (op.Unary u) a vs true = refl
  given_behind (op.Unary u) a vs false = itself
  given_behind (op.Binary u) a vs true = refl
  given_behind (op.Binary u) a vs false = itself
  given_behind (op.Compare u) a vs true = refl
  given_behind (op.Compare u) a vs false = itself
  given_behind op.Tuple a vs true = refl
  given_behind op.Tuple a vs false = itself
  given_behind op.List a vs true = refl
  given_behind op.List a vs false = itself
  given_behind op.Set a vs true = refl
  given_behind op.Set a vs false = itself
  given_behind op.Dict a vs true = refl
  given_behind op.Dict a vs false = itself
  given_behind op.Item a vs true = refl
  given_behind op.Item a vs false = itself
  given_behind op.SetItem a vs true = refl
  given_behind op.SetItem a vs false = itself
  given_behind op.DelItem a vs true = refl
  given_behind op.DelItem a vs false = itself
  given_behind op.Slice a vs true = refl
  given_behind op.Slice a vs false = itself
  given_behind op.Join a vs true = refl
  given_behind op.Join a vs false = itself
  given_behind op.Iter a vs b = itself
  given_behind op.Next a vs true = refl
  given_behind op.Next a vs false = itself
  given_behind (op.Unpack n) a vs true = refl
  given_behind (op.Unpack n) a vs false = itself
  given_behind (op.UnpackStar n m) a vs true = refl
  given_behind (op.UnpackStar n m) a vs false = itself
  given_behind op.ListAdd a vs true = refl
  given_behind op.ListAdd a vs false = itself
  given_behind op.SetAdd a vs true = refl
  given_behind op.SetAdd a vs false = itself
  given_behind op.DictAdd a vs true = refl
  given_behind op.DictAdd a vs false = itself
  given_behind op.SpreadOut a vs true = refl
  given_behind op.SpreadOut a vs false = itself
  given_behind op.SpreadNamed a vs true = refl
  given_behind op.SpreadNamed a vs false = itself
  given_behind op.TupleJoin a vs true = refl
  given_behind op.TupleJoin a vs false = itself
  given_behind op.DictMerge a vs true = refl
  given_behind op.DictMerge a vs false = itself
  given_behind (op.Call f) a vs true = refl
  given_behind (op.Call f) a vs false = itself
  given_behind (op.CallMethod m) a vs true = refl
  given_behind (op.CallMethod m) a vs false = itself

-- of what an operation answered

not_help : (a : PrimAns) → ((x : Asked) (us : List Value) (b : Bool) → a ≡ prim.Help x us b → ⊥) → is_help a ≡ false
not_help (prim.Value v) n = refl
not_help (prim.Values vs) n = refl
not_help prim.End n = refl
not_help (prim.Raise class arg) n = refl
not_help (prim.Help x us b) n = absurd (n x us b refl)
not_help (prim.Print t) n = refl
not_help (prim.Outside w) n = refl

module _ {A : Type 0} (w : Awaited A) (program : Program) (o : Op) (h : Here Value) where
  in_place : (st : Stores) (a : PrimAns) → is_help a ≡ false → ◌≡◌ {A = Tree A} (asked_in_place program w o a h st) (of_prim w a h st)
  in_place st (prim.Value v) n = refl
  in_place st (prim.Values vs) n = refl
  in_place st prim.End n = refl
  in_place st (prim.Raise class arg) n = refl
  in_place st (prim.Help x us b) n = absurd (cc)
  in_place st (prim.Print t) n = refl
  in_place st (prim.Outside what) n = refl

module _ (o : Op) (a : PrimAns) (blocks : Blocks) (old : List Slot) (cells : List (Option Value)) (heap : List Object) where
  pub value_answered : (p : Progress) (new : List Slot) → ((x : Asked) (us : List Value) (b : Bool) → a ≡ prim.Help x us b → ⊥)
      → p ≡ progress_of a → new ≡ over_value (value_given a) old → CallsAnswered o a blocks old cells heap p new cells heap
  unfolding CallsAnswered Calls
  value_answered p new n q stands program code i h st knows =
      ap (λ x. told program code i h x (slots_view new) (with_parts cells heap st)) q
      ∙ (ap (λ ss. told program code i h (progress_of a) (slots_view ss) (with_parts cells heap st)) stands
      ∙ (answer_told a program code i h (with_parts cells heap st) old
      ∙ ap (λ (t : Tree Value). by_tree code i (giving code i (slots_view old)) (slots_view old) t) (sym (in_place one_value program o h (with_parts cells heap st) a (not_help a n)))))

  pub helper_answered : (x : Asked) (us : List Value) (b : Bool) (vs : List Value) (give : Given) (p : Progress) (changed : List (Option Value)) (grown : List Object)
      → a ≡ prim.Help x us b → vs ≡ us → give ≡ given_for o x vs b → AsksWith x vs give blocks old cells heap p changed grown
      → CallsAnswered o a blocks old cells heap p old changed grown
  unfolding AsksWith CallsAnswered Calls
  helper_answered x us b vs give p changed grown is same gives_so done program code i h st knows =
      done program code i h st knows
      ∙ (ap (λ k. led_for program code i k (slots_view old) h (ask_with program x vs h (with_parts cells heap st))) gives_so
      ∙ (given_behind program code i (slots_view old) h (ask_with program x vs h (with_parts cells heap st)) o x vs b
      ∙ ap (λ (t : Tree Value). by_tree code i (giving code i (slots_view old)) (slots_view old) t)
      (ap (λ l. asked_in_place program one_value o (prim.Help x l b) h (with_parts cells heap st)) same
      ∙ ap (λ k. asked_in_place program one_value o k h (with_parts cells heap st)) (sym is))))

-- of an operation

module _ (o : Op) (vs : List Value) (blocks : Blocks) (old : List Slot) (cells : List (Option Value)) (heap : List Object) where
  pub operation_answered : (a : PrimAns) (p : Progress) (new : List Slot) (changed : List (Option Value)) (between grown : List Object)
      → a ≡ prim_answer o vs heap → between ≡ prim_heap o vs heap → CallsAnswered o a blocks old cells between p new changed grown
      → OperatesOrAsks o vs blocks old cells heap p new changed grown
  unfolding OperatesOrAsks CallsAnswered Calls operated
  operation_answered a p new changed between grown answers changes done program code i h st knows =
      done program code i h st knows
      ∙ ap (λ (t : Tree Value). by_tree code i (giving code i (slots_view old)) (slots_view old) t)
      (ap (λ k. asked_in_place program one_value o k h (with_parts cells between st)) answers
      ∙ ap (λ k. asked_in_place program one_value o (prim_answer o vs heap) h (with_parts cells k st)) changes)

-- of an operation whose value isn't given as it is

module _ (o : Op) (vs : List Value) (g : Given) (blocks : Blocks) (cells : List (Option Value)) (heap : List Object) where
  pub answered_alone : (a : PrimAns) (grown : List Object) → ((x : Asked) (us : List Value) (b : Bool) → a ≡ prim.Help x us b → ⊥)
      → a ≡ prim_answer o vs heap → grown ≡ prim_heap o vs heap → AsksFor o vs g blocks cells heap (Ok a) cells grown
  unfolding AsksFor
  answered_alone a grown n answers grows = ((answers, not_help a n), (grows, refl))

  pub asked_for : (a : PrimAns) (x : Asked) (us ws : List Value) (b : Bool) (p : Progress) (changed : List (Option Value)) (between grown : List Object)
      → a ≡ prim.Help x us b → a ≡ prim_answer o vs heap → ws ≡ us → between ≡ prim_heap o vs heap
      → ((slots : List Slot) → AsksWith x ws g blocks slots cells between p changed grown) → AsksFor o vs g blocks cells heap (Err p) changed grown
  unfolding AsksFor
  asked_for a x us ws b p changed between grown is answers same grows done = (
    x,
    (
      ws,
      (
        b,
        (
          sym answers ∙ (is ∙ ap (λ l. prim.Help x l b) (sym same)),
          λ slots. subst (λ k. AsksWith x ws g blocks slots cells k p changed grown) grows (done slots),
        ),
      ),
    ),
  )

-- what an operation answers alone is the host's answer

module _ (o : Op) (vs : List Value) (g : Given) (blocks : Blocks) (cells : List (Option Value)) (heap : List Object) (changed : List (Option Value))
    (grown : List Object) where
  pub alone_is : {A : Type 0} (w : Awaited A) (a : PrimAns) (program : Program) (h : Here Value) (st : Stores) → AsksFor o vs g blocks cells heap (Ok a) changed grown
      → ◌≡◌ {A = Tree A} (of_prim w a h (with_parts changed grown st)) (operated program w o vs h (with_parts cells heap st))
  unfolding AsksFor operated
  alone_is {A = A} w a program h st asks =
      sym (in_place w program o h (with_parts changed grown st) a asks.0.1)
      ∙ (ap (λ k. asked_in_place program w o k h (with_parts changed grown st)) asks.0.0
      ∙ (ap (λ k. asked_in_place program w o (prim_answer o vs heap) h (with_parts changed k st)) asks.1.0
      ∙ ap (λ k. asked_in_place program w o (prim_answer o vs heap) h (with_parts k (prim_heap o vs heap) st)) asks.1.1))
