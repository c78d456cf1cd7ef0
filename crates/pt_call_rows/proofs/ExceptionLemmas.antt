-- Calls of classes of exceptions.
use Rattle.std.proofs.Common.{◌≡◌, ◌∙◌, List, [], ◌∷◌, Option, Some, None, refl, sym, ap}
use Rattle.pt_base.specs.declared.numbers.ObjId.{ObjId}
use Rattle.pt_base.specs.declared.what.What.TheVariants.{Feature}
use Rattle.pt_heap.specs.declared.value.Value.{Value}
use Rattle.pt_heap.specs.declared.view.Binding.{Binding}
use Rattle.pt_heap.specs.declared.object.Object.{Object}
use Rattle.pt_frames.specs.declared.slot.Slot.{Slot}
use Rattle.pt_bind.specs.declared.arguments.Args.{Args}
use Rattle.pt_block_calls.specs.pt_operators.pt_moves.sem_rows.pt_host.World.{allot}
use Rattle.pt_block_calls.specs.pt_operators.pt_moves.sem_rows.pt_host.Trees.{answer_with}
use Rattle.pt_block_calls.specs.pt_operators.pt_moves.sem_rows.pt_host.Errors.{error}
use Rattle.pt_block_calls.specs.pt_operators.pt_moves.sem_rows.pt_host.Calls.{make_exception, unnamed_operands}
use Rattle.pt_block_calls.specs.pt_operators.pt_moves.sem_rows.declared.heap_rows.progress.Progress.{Progress}
use Rattle.pt_block_calls.specs.pt_operators.pt_moves.sem_rows.declared.heap_rows.progress.Progress.TheVariants as progress
use Rattle.pt_block_calls.specs.pt_class_rows.Instances.{GivesNew}
use Rattle.pt_block_calls.proofs.pt_class_rows.ObjectLemmas.{left_out, made_as}
use Rattle.pt_call_rows.specs.CallRows.{MakesException}

module _ (o : Option ObjId) (args : Args) (slots : List Slot) (heap : List Object) where
  pub no_class : o ≡ None → MakesException o args slots heap (progress.Outside Feature) slots heap
  unfolding MakesException
  no_class is = left_out heap (λ h st. make_exception o (unnamed_operands args.named args.plain) st) slots Feature slots heap
      (λ h st at. ap (λ x. make_exception x (unnamed_operands args.named args.plain) st) (sym is))

  unnamed : (bs : List Binding) → (bs ≡ [] → ⊥) → None ≡ unnamed_operands bs args.plain
  unnamed [] e = absurd (e refl)
  unnamed (b ∷ bs) e = refl

  pub named : (c : ObjId) → o ≡ Some c → (args.named ≡ [] → ⊥) → MakesException o args slots heap (progress.Outside Feature) slots heap
  unfolding MakesException
  named c is given = left_out heap (λ h st. make_exception o (unnamed_operands args.named args.plain) st) slots Feature slots heap
      (λ h st at. ap (λ vs. make_exception (Some c) vs st) (unnamed args.named given)
      ∙ ap (λ x. make_exception x (unnamed_operands args.named args.plain) st) (sym is))

  pub made_one : (c : ObjId) (vs : List Value) (x : Object) (p : Progress) (new : List Slot) (grown : List Object) → o ≡ Some c → args.named ≡ [] → vs ≡ args.plain
      → x ≡ error c vs None None → GivesNew x slots heap p new grown → MakesException o args slots heap p new grown
  unfolding GivesNew MakesException
  made_one c vs x p new grown is none plain exception done =
      made_as heap (λ h st. make_exception o (unnamed_operands args.named args.plain) st) slots (λ h st. answer_with (allot x st.world.heap) st) p new grown
      (λ h st at. ap (λ y. answer_with (allot y st.world.heap) st) (exception ∙ ap (λ us. error c us None None) plain)
      ∙ (ap (λ bs. make_exception (Some c) (unnamed_operands bs args.plain) st) (sym none)
      ∙ ap (λ y. make_exception y (unnamed_operands args.named args.plain) st) (sym is))) done
