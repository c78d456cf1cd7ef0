-- What calls of builtin functions come to.
use Rattle.std.proofs.Common.{◌≡◌, ◌∙◌, true, false, List, ◌∷◌, Option, Some, None, refl, sym, ap}
use Rattle.pt_base.specs.declared.what.What.TheVariants.{Feature}
use Rattle.pt_heap.specs.declared.value.Value.{Value}
use Rattle.pt_heap.specs.declared.object.Object.{Object}
use Rattle.pt_bind.specs.declared.arguments.Args.{Args}
use Rattle.pt_frames.specs.declared.slot.Slot.{Slot}
use Rattle.pt_content.specs.declared.function.Function.{Function as Builtin}
use Rattle.pt_content.specs.declared.function.Function.TheVariants as builtin
use Rattle.pt_content.specs.declared.op.Op.TheVariants as op
use Rattle.sem_run.specs.run.Host.{Here}
use Rattle.pt_block_calls.specs.pt_operators.pt_moves.sem_rows.pt_host.World.{Stores, Program}
use Rattle.pt_block_calls.specs.pt_operators.pt_moves.sem_rows.pt_host.Trees.{Tree}
use Rattle.pt_block_calls.specs.pt_operators.pt_moves.sem_rows.pt_host.Calls.{call_builtin, call_setattr, operands_of, operate_or_ask}
use Rattle.pt_block_calls.specs.pt_operators.pt_moves.sem_rows.declared.heap_rows.progress.Progress.{Progress}
use Rattle.pt_block_calls.specs.pt_operators.pt_moves.sem_rows.declared.heap_rows.progress.Progress.TheVariants as progress
use Rattle.pt_block_calls.specs.pt_operators.pt_moves.sem_rows.heap_rows.Leads.{by_tree, giving}
use Rattle.pt_block_calls.specs.pt_operators.pt_moves.sem_rows.heap_rows.Views.{slots_view}
use Rattle.pt_block_calls.specs.pt_function_rows.pt_code_facts.declared.facts.Blocks.{Blocks}
use Rattle.pt_block_calls.specs.pt_class_rows.Calls.{Calls, Makes, with_parts}
use Rattle.pt_block_calls.specs.pt_class_rows.Instances.{SetsNamed, unnamed}
use Rattle.pt_block_calls.specs.BlockCalls.{OperatesOrAsks}
use Rattle.pt_call_rows.specs.CallRows.{CallsBuiltin, CallsOperation, is_setattr}

module _ (args : Args) (blocks : Blocks) (old : List Slot) (cells : List (Option Value)) (heap : List Object) where
  pub operated : (f : Builtin) (o : Option (List Value)) (vs : List Value) (p : Progress) (new : List Slot) (changed : List (Option Value)) (grown : List Object)
      → o ≡ operands_of f args → o ≡ Some vs → OperatesOrAsks (op.Call f) vs blocks old cells heap p new changed grown
      → CallsOperation f args blocks old cells heap p new changed grown
  unfolding CallsOperation OperatesOrAsks Calls
  operated f o vs p new changed grown has is done program code i h st knows =
      done program code i h st knows
      ∙ ap (λ q. by_tree code i (giving code i (slots_view old)) (slots_view old) (operate_or_ask program (op.Call f) q h (with_parts cells heap st))) (sym is ∙ has)

  pub misnamed : (f : Builtin) (o : Option (List Value)) → o ≡ operands_of f args → o ≡ None
      → CallsOperation f args blocks old cells heap (progress.Outside Feature) old cells heap
  unfolding CallsOperation Calls
  misnamed f o has is program code i h st knows =
      ap (λ q. by_tree code i (giving code i (slots_view old)) (slots_view old) (operate_or_ask program (op.Call f) q h (with_parts cells heap st))) (sym is ∙ has)

  -- a builtin function is called so, but for `setattr`
  operated_by : (program : Program) (g : Builtin) (h : Here Value) (st : Stores) → is_setattr g ≡ false
      → ◌≡◌ {A = Tree Value} (operate_or_ask program (op.Call g) (operands_of g args) h st) (call_builtin program (Some g) args h st)
  operated_by program builtin.Print h st e = refl
  operated_by program builtin.Len h st e = refl
  operated_by program builtin.Repr h st e = refl
  operated_by program builtin.Isinstance h st e = refl
  operated_by program builtin.Issubclass h st e = refl
  operated_by program builtin.Iter h st e = refl
  operated_by program builtin.Next h st e = refl
  operated_by program builtin.Abs h st e = refl
  operated_by program builtin.Divmod h st e = refl
  operated_by program builtin.Ord h st e = refl
  operated_by program builtin.Chr h st e = refl
  operated_by program builtin.Hasattr h st e = refl
  operated_by program builtin.Getattr h st e = refl
  operated_by program builtin.Setattr h st e = absurd (cc)
  operated_by program builtin.Callable h st e = refl
  operated_by program builtin.Exit h st e = refl
  operated_by program builtin.Object h st e = refl
  operated_by program builtin.Type h st e = refl
  operated_by program builtin.Int h st e = refl
  operated_by program builtin.Bool h st e = refl
  operated_by program builtin.Str h st e = refl
  operated_by program builtin.Range h st e = refl
  operated_by program builtin.Super h st e = refl
  operated_by program builtin.MakeTuple h st e = refl
  operated_by program builtin.MakeSet h st e = refl
  operated_by program builtin.IsOf h st e = refl
  operated_by program builtin.JoinItems h st e = refl
  operated_by program builtin.SortItems h st e = refl
  operated_by program builtin.Refill h st e = refl
  operated_by program builtin.HasName h st e = refl
  operated_by program builtin.GetName h st e = refl
  operated_by program builtin.Refuse h st e = refl
  operated_by program builtin.IsError h st e = refl
  operated_by program builtin.HoldsInstance h st e = refl
  operated_by program builtin.PlainRepr h st e = refl
  operated_by program builtin.Dots h st e = refl
  operated_by program builtin.Parts h st e = refl
  operated_by program builtin.Wrap h st e = refl
  operated_by program builtin.TextGiven h st e = refl
  operated_by program builtin.TruthGiven h st e = refl
  operated_by program builtin.LengthGiven h st e = refl
  operated_by program builtin.Write h st e = refl

  pub function_operated : (f : Builtin) (o : Option Builtin) (p : Progress) (new : List Slot) (changed : List (Option Value)) (grown : List Object)
      → o ≡ Some f → is_setattr f ≡ false → CallsOperation f args blocks old cells heap p new changed grown → CallsBuiltin o args blocks old cells heap p new changed grown
  unfolding CallsOperation CallsBuiltin Calls
  function_operated f o p new changed grown is n done program code i h st knows =
      done program code i h st knows
      ∙ ap (λ (t : Tree Value). by_tree code i (giving code i (slots_view old)) (slots_view old) t)
      (operated_by program f h (with_parts cells heap st) n ∙ ap (λ x. call_builtin program x args h (with_parts cells heap st)) (sym is))

  setattr_is : (g : Builtin) → is_setattr g ≡ true → builtin.Setattr ≡ g
  setattr_is builtin.Print e = absurd (cc)
  setattr_is builtin.Len e = absurd (cc)
  setattr_is builtin.Repr e = absurd (cc)
  setattr_is builtin.Isinstance e = absurd (cc)
  setattr_is builtin.Issubclass e = absurd (cc)
  setattr_is builtin.Iter e = absurd (cc)
  setattr_is builtin.Next e = absurd (cc)
  setattr_is builtin.Abs e = absurd (cc)
  setattr_is builtin.Divmod e = absurd (cc)
  setattr_is builtin.Ord e = absurd (cc)
  setattr_is builtin.Chr e = absurd (cc)
  setattr_is builtin.Hasattr e = absurd (cc)
  setattr_is builtin.Getattr e = absurd (cc)
  setattr_is builtin.Setattr e = refl
  setattr_is builtin.Callable e = absurd (cc)
  setattr_is builtin.Exit e = absurd (cc)
  setattr_is builtin.Object e = absurd (cc)
  setattr_is builtin.Type e = absurd (cc)
  setattr_is builtin.Int e = absurd (cc)
  setattr_is builtin.Bool e = absurd (cc)
  setattr_is builtin.Str e = absurd (cc)
  setattr_is builtin.Range e = absurd (cc)
  setattr_is builtin.Super e = absurd (cc)
  setattr_is builtin.MakeTuple e = absurd (cc)
  setattr_is builtin.MakeSet e = absurd (cc)
  setattr_is builtin.IsOf e = absurd (cc)
  setattr_is builtin.JoinItems e = absurd (cc)
  setattr_is builtin.SortItems e = absurd (cc)
  setattr_is builtin.Refill e = absurd (cc)
  setattr_is builtin.HasName e = absurd (cc)
  setattr_is builtin.GetName e = absurd (cc)
  setattr_is builtin.Refuse e = absurd (cc)
  setattr_is builtin.IsError e = absurd (cc)
  setattr_is builtin.HoldsInstance e = absurd (cc)
  setattr_is builtin.PlainRepr e = absurd (cc)
  setattr_is builtin.Dots e = absurd (cc)
  setattr_is builtin.Parts e = absurd (cc)
  setattr_is builtin.Wrap e = absurd (cc)
  setattr_is builtin.TextGiven e = absurd (cc)
  setattr_is builtin.TruthGiven e = absurd (cc)
  setattr_is builtin.LengthGiven e = absurd (cc)
  setattr_is builtin.Write e = absurd (cc)

  pub attribute_set : (f : Builtin) (o : Option Builtin) (p : Progress) (new : List Slot) (grown : List Object) → o ≡ Some f → is_setattr f ≡ true
      → SetsNamed args old heap p new grown → CallsBuiltin o args blocks old cells heap p new cells grown
  unfolding SetsNamed Makes CallsBuiltin Calls
  attribute_set f o p new grown is e done program code i h st knows =
      done cells program code i h st tt
      ∙ ap (λ x. by_tree code i (giving code i (slots_view old)) (slots_view old) (call_builtin program x args h (with_parts cells heap st)))
      (ap (λ x. Some x) (setattr_is f e) ∙ sym is)

  pub no_operation : (o : Option Builtin) → o ≡ None → CallsBuiltin o args blocks old cells heap (progress.Outside Feature) old cells heap
  unfolding CallsBuiltin Calls
  no_operation o is program code i h st knows =
      ap (λ x. by_tree code i (giving code i (slots_view old)) (slots_view old) (call_builtin program x args h (with_parts cells heap st))) (sym is)
