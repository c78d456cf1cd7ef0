-- A constant is given as it is known, or as the host answers it.
use Rattle.std.proofs.Common.{◌≡◌, ◌∙◌, ◌∷◌, List, Option, Some, None, refl, sym, ap, subst}
use Rattle.std.specs.Prelude.{option_map}
use Rattle.pt_ranges.specs.declared.lines.ActMark.{ActMark}
use Rattle.pt_tree.specs.declared.expression.Constant.{Constant}
use Rattle.pt_tree.specs.declared.expression.Constant.TheVariants as constant
use Rattle.pt_heap.specs.declared.value.Value.{Value}
use Rattle.pt_frames.specs.declared.slot.Slot.{Slot}
use Rattle.pt_frames.specs.declared.slot.Slot.TheVariants as slot
use Rattle.pt_code.specs.View.{Ins}
use Rattle.sem_control.specs.control.Turn as T
use Rattle.sem_code.specs.slots.Slots.{Slots}
use Rattle.sem_code.specs.slots.CodeObject.{CodeObject}
use Rattle.sem_code.specs.slots.Steps.{mark_of, unmarked, after, gives_known, known}
use Rattle.sem_run.specs.run.Host.{Here}
use Rattle.sem_rows.specs.pt_host.World.{Stores, Program}
use Rattle.sem_rows.specs.pt_host.Answers.{constant_value}
use Rattle.sem_run.specs.transitions.Successors.{to}
use Rattle.sem_rows.specs.declared.heap_rows.progress.Progress.TheVariants as progress
use Rattle.sem_rows.specs.heap_rows.Leads.{HasHeapTruths, giving}
use Rattle.sem_rows.specs.heap_rows.Laws.{reached}
use Rattle.sem_rows.specs.heap_rows.Views.{slots_view}
use Rattle.pt_moves.specs.Operands.{RowsConstant}

module _ (program : Program) (code : CodeObject Value) (i : Ins) (h : Here Value) (st : Stores) (ss : Slots Value) where
  -- an ask for a constant
  asked : (c : Constant) (m : Option ActMark) → reached program code i h st (T.act (option_map mark_of m) (T.seek (T.const c)) (after code i ss (giving code i ss)))
      ≡ to (giving code i ss (constant_value program c)) st
  asked c None = refl
  asked c (Some m) = refl

  -- one that is known by its value
  known_given : (c : Constant) (v : Value) (m : Option ActMark) → constant_value program c ≡ v
      → reached program code i h st (unmarked m (giving code i ss v) (T.act (option_map mark_of m) (T.seek (T.const c)) (after code i ss (giving code i ss))))
      ≡ to (giving code i ss v) st
  known_given c v None e = refl
  known_given c v (Some m) e = ap (λ x. to (giving code i ss x) st) e

  constant_leads : (c : Constant) (v : Value) → HasHeapTruths code → constant_value program c ≡ v → reached program code i h st (gives_known code i c (known code c) ss) ≡ to (giving code i ss v) st
  constant_leads constant.None v k e = ap (λ x. reached program code i h st (unmarked i.mark (giving code i ss x) (T.act (option_map mark_of i.mark) (T.seek (T.const constant.None)) (after code i ss (giving code i ss))))) (k.null ∙ e)
      ∙ known_given constant.None v i.mark e
  constant_leads (constant.Bool b) v k e = ap (λ x. reached program code i h st (unmarked i.mark (giving code i ss x) (T.act (option_map mark_of i.mark) (T.seek (T.const (constant.Bool b))) (after code i ss (giving code i ss))))) (k.truth b ∙ e)
      ∙ known_given (constant.Bool b) v i.mark e
  constant_leads (constant.Int z) v k e = asked (constant.Int z) i.mark ∙ ap (λ x. to (giving code i ss x) st) e
  constant_leads (constant.Str t) v k e = asked (constant.Str t) i.mark ∙ ap (λ x. to (giving code i ss x) st) e
  constant_leads constant.Ellipsis v k e = asked constant.Ellipsis i.mark ∙ ap (λ x. to (giving code i ss x) st) e

constant_of : (v : Value) (old : List Slot) → RowsConstant v old progress.Next (slot.Value v ∷ old)
unfolding RowsConstant
constant_of v old k program code pc i h st known e = sym (constant_leads program code i h st (slots_view old) (code.pool.constant k.0) v known e)

pub constant_row : (v : Value) (old new : List Slot) → new ≡ slot.Value v ∷ old → RowsConstant v old progress.Next new
constant_row v old new e = subst (λ n. RowsConstant v old progress.Next n) (sym e) (constant_of v old)
