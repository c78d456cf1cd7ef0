-- What each instruction asks tells an exception plainly, but for `raise` alone.
use Rattle.std.proofs.Common.{◌≡◌, ℕ, ◌+◌, zero, suc, Bool, true, false, List, [], ◌∷◌, Option, Some, None, refl}
use Rattle.pt_ranges.specs.declared.lines.ActMark.{ActMark}
use Rattle.pt_tree.specs.declared.expression.Constant.{Constant}
use Rattle.pt_instr.specs.declared.Instr.{Instr}
use Rattle.pt_instr.specs.declared.Instr.TheVariants as instr
use Rattle.pt_heap.specs.declared.value.Value.{Value}
use Rattle.pt_code.specs.View.{Ins}
use Rattle.sem_control.specs.control.Turn as T
use Rattle.sem_control.specs.control.Turn.{Seek, Deed, Leave, Test, Reply, Turn, stuck}
use Rattle.sem_code.specs.slots.Slots.{raise, return, jump_to, Completion, normal, by, Slot, value, cell, iterator, exception, pending, exit, Slots, State}
use Rattle.sem_code.specs.slots.CodeObject.{CodeObject}
use Rattle.sem_code.specs.slots.Pops.{Next, values, cells, one, two, three, an_iterator, movable, an_exception, a_completion, an_exit, the_value}
use Rattle.sem_code.specs.slots.Steps.{unmarked, known, gives_known, branches, lets_go}
use Rattle.sem_code.specs.slots.Instructions.{perform}
use Rattle.pt_machine_state.specs.Views.{IsPlain}

pub plain_seek : (a : Seek Value) → IsPlain (T.seek a)
plain_seek a None v = refl
plain_seek a (Some e) v = refl

pub plain_deed : (a : Deed Value) → IsPlain (T.deed a)
plain_deed a None v = refl
plain_deed a (Some e) v = refl

plain_leave : (a : Leave Value) → IsPlain (T.leave a)
plain_leave a None v = refl
plain_leave a (Some e) v = refl

plain_raising : (u : Value) (c : Option Value) → IsPlain (T.throw (T.raising u c))
plain_raising u c None v = refl
plain_raising u c (Some e) v = refl

plain_failing : (m : Option Value) → IsPlain (T.throw (T.failing m))
plain_failing m None v = refl
plain_failing m (Some e) v = refl

plain_test : (a : Test Value) → IsPlain (T.test a)
plain_test a None v = refl
plain_test a (Some e) v = refl

plain_iter : (a : Value) → IsPlain (T.iter_of a)
plain_iter a None v = refl
plain_iter a (Some e) v = refl

plain_next : (a : Value) → IsPlain (T.next_of a)
plain_next a None v = refl
plain_next a (Some e) v = refl

plain_enter : (a : Value) → IsPlain (T.enter a)
plain_enter a None v = refl
plain_enter a (Some e) v = refl

plain_unpack : (a : Value) (n : ℕ) (s : Option ℕ) → IsPlain (T.unpack a n s)
plain_unpack a n s None v = refl
plain_unpack a n s (Some e) v = refl

plain_delegate : (a : Value) (r : Reply Value Value) → IsPlain (T.delegate a r)
plain_delegate a r None v = refl
plain_delegate a r (Some e) v = refl

-- of a turn
abbrev pub Plainly : Turn (State Value) Value → Type 0
Plainly (T.act m a k) = IsPlain a
Plainly t = Unit {0}

-- what holds of a stuck turn and of what goes on, whatever is popped, holds of popping
module _ (P : Turn (State Value) Value → Type 0) (p : P stuck) where
  if_one : (ss : Slots Value) (next : Next Value Value) → ((v : Value) (below : Slots Value) → P (next v below)) → P (one ss next)
  if_one (value v ∷ ss) next f = f v ss
  if_one ss next f = p

  if_two : (ss : Slots Value) (next : Value → Next Value Value) → ((a b : Value) (below : Slots Value) → P (next a b below)) → P (two ss next)
  if_two (value b ∷ value a ∷ ss) next f = f a b ss
  if_two ss next f = p

  if_three : (ss : Slots Value) (next : Value → Value → Next Value Value) → ((a b c : Value) (below : Slots Value) → P (next a b c below)) → P (three ss next)
  if_three (value c ∷ value b ∷ value a ∷ ss) next f = f a b c ss
  if_three ss next f = p

  if_values : (n : ℕ) (above : List Value) (ss : Slots Value) (next : Next Value (List Value)) → ((vs : List Value) (below : Slots Value) → P (next vs below)) → P (values n above ss next)
  if_values zero above ss next f = f above ss
  if_values (suc n) above (value v ∷ ss) next f = if_values n (v ∷ above) ss next f
  if_values (suc n) above ss next f = p

  if_cells : (n : ℕ) (above : List Value) (ss : Slots Value) (next : Next Value (List Value)) → ((vs : List Value) (below : Slots Value) → P (next vs below)) → P (cells n above ss next)
  if_cells zero above ss next f = f above ss
  if_cells (suc n) above (cell v ∷ ss) next f = if_cells n (v ∷ above) ss next f
  if_cells (suc n) above ss next f = p

  if_iterator : (ss : Slots Value) (next : Next Value Value) → ((v : Value) (below : Slots Value) → P (next v below)) → P (an_iterator ss next)
  if_iterator (iterator v ∷ ss) next f = f v ss
  if_iterator ss next f = p

  if_movable : (ss : Slots Value) (next : Next Value (Slot Value)) → ((s : Slot Value) (below : Slots Value) → P (next s below)) → P (movable ss next)
  if_movable (value v ∷ ss) next f = f (value v) ss
  if_movable (iterator v ∷ ss) next f = f (iterator v) ss
  if_movable ss next f = p

  if_exception : (ss : Slots Value) (next : Next Value Value) → ((v : Value) (below : Slots Value) → P (next v below)) → P (an_exception ss next)
  if_exception (exception v ∷ ss) next f = f v ss
  if_exception ss next f = p

  if_completion : (ss : Slots Value) (next : Next Value (Completion Value)) → ((c : Completion Value) (below : Slots Value) → P (next c below)) → P (a_completion ss next)
  if_completion (pending c ∷ ss) next f = f c ss
  if_completion ss next f = p

  if_exit : (ss : Slots Value) (next : Next Value Value) → ((v : Value) (below : Slots Value) → P (next v below)) → P (an_exit ss next)
  if_exit (exit v ∷ ss) next f = f v ss
  if_exit ss next f = p

  if_value_below : (n : ℕ) (ss : Slots Value) (next : Value → Turn (State Value) Value) → ((v : Value) → P (next v)) → P (the_value n ss next)
  if_value_below zero ss next f = p
  if_value_below (suc zero) [] next f = p
  if_value_below (suc (suc n)) [] next f = p
  if_value_below (suc zero) (value v ∷ ss) next f = f v
  if_value_below (suc zero) (s ∷ ss) next f = p
  if_value_below (suc (suc n)) (s ∷ ss) next f = if_value_below (suc n) ss next f

unmarked_plain : (m : Option ActMark) (s : State Value) (t : Turn (State Value) Value) → Plainly t → Plainly (unmarked m s t)
unmarked_plain None s t p = tt
unmarked_plain (Some m) s t p = p

module _ (code : CodeObject Value) (pc : ℕ) (i : Ins) where
  known_plain : (k : Constant) (o : Option Value) (ss : Slots Value) → Plainly (gives_known code i k o ss)
  known_plain k None ss = plain_seek _
  known_plain k (Some v) ss = unmarked_plain i.mark _ _ (plain_seek _)

  branches_plain : (o : Option Bool) (t f : Value → Slots Value → State Value) (v : Value) (ss : Slots Value) → Plainly (branches code i o t f v ss)
  branches_plain None t f v ss = plain_test _
  branches_plain (Some b) t f v ss = unmarked_plain i.mark _ _ (plain_test _)

  let_go_plain : (c : Completion Value) (ss : Slots Value) → Plainly (lets_go code i c ss)
  let_go_plain normal ss = unmarked_plain i.mark _ _ (plain_deed _)
  let_go_plain (by (raise v)) ss = unmarked_plain i.mark _ _ (plain_deed _)
  let_go_plain (by (return v)) ss = unmarked_plain i.mark _ _ (plain_deed _)
  let_go_plain (by (jump_to t)) ss = unmarked_plain i.mark _ _ (plain_deed _)

  pub plain_instruction : (j : Instr) (ss : Slots Value) → (j ≡ instr.RaiseAgain → ⊥) → Plainly (perform code pc i j ss)
  plain_instruction instr.Nop ss other = unmarked_plain i.mark _ _ (plain_deed _)
  plain_instruction (instr.Const k) ss other = known_plain (code.pool.constant k.0) (known code (code.pool.constant k.0)) ss
  plain_instruction (instr.Local x) ss other = plain_seek _
  plain_instruction (instr.DelLocal x) ss other = plain_deed _
  plain_instruction (instr.FreshLocal x) ss other = plain_deed _
  plain_instruction (instr.Cell x) ss other = plain_seek _
  plain_instruction (instr.DelCell x) ss other = plain_deed _
  plain_instruction (instr.FreshCell x) ss other = plain_deed _
  plain_instruction (instr.PushCell x) ss other = plain_seek _
  plain_instruction (instr.Global x) ss other = plain_seek _
  plain_instruction (instr.DelGlobal x) ss other = plain_deed _
  plain_instruction (instr.Name x) ss other = plain_seek _
  plain_instruction (instr.DelName x) ss other = plain_deed _
  plain_instruction (instr.SetLocal x) ss other = if_one Plainly tt ss _ (λ v below. plain_deed _)
  plain_instruction (instr.SetCell x) ss other = if_one Plainly tt ss _ (λ v below. plain_deed _)
  plain_instruction (instr.SetGlobal x) ss other = if_one Plainly tt ss _ (λ v below. plain_deed _)
  plain_instruction (instr.SetName x) ss other = if_one Plainly tt ss _ (λ v below. plain_deed _)
  plain_instruction instr.Pop ss other = if_one Plainly tt ss _ (λ v below. unmarked_plain i.mark _ _ (plain_deed _))
  plain_instruction instr.Copy ss other = if_one Plainly tt ss _ (λ v below. unmarked_plain i.mark _ _ (plain_deed _))
  plain_instruction instr.Copy2 ss other = if_two Plainly tt ss _ (λ a b below. unmarked_plain i.mark _ _ (plain_deed _))
  plain_instruction instr.Swap ss other = if_one Plainly tt ss _ (λ v below. if_movable Plainly tt below _ (λ s under. unmarked_plain i.mark _ _ (plain_deed _)))
  plain_instruction instr.Rot3 ss other = if_three Plainly tt ss _ (λ a b c below. unmarked_plain i.mark _ _ (plain_deed _))
  plain_instruction (instr.Attr t) ss other = if_values Plainly tt 1 [] ss _ (λ vs below. plain_seek _)
  plain_instruction (instr.SetAttr t) ss other = if_two Plainly tt ss _ (λ a b below. plain_deed _)
  plain_instruction (instr.DelAttr t) ss other = if_one Plainly tt ss _ (λ v below. plain_deed _)
  plain_instruction instr.Item ss other = if_values Plainly tt 2 [] ss _ (λ vs below. plain_seek _)
  plain_instruction instr.SetItem ss other = if_three Plainly tt ss _ (λ a b c below. plain_deed _)
  plain_instruction instr.DelItem ss other = if_two Plainly tt ss _ (λ a b below. plain_deed _)
  plain_instruction instr.Slice ss other = if_values Plainly tt 3 [] ss _ (λ vs below. plain_seek _)
  plain_instruction (instr.Unary o) ss other = if_values Plainly tt 1 [] ss _ (λ vs below. plain_seek _)
  plain_instruction instr.Not ss other = if_values Plainly tt 1 [] ss _ (λ vs below. plain_seek _)
  plain_instruction (instr.Binary o) ss other = if_values Plainly tt 2 [] ss _ (λ vs below. plain_seek _)
  plain_instruction (instr.InPlace o) ss other = if_values Plainly tt 2 [] ss _ (λ vs below. plain_seek _)
  plain_instruction (instr.Compare o) ss other = if_values Plainly tt 2 [] ss _ (λ vs below. plain_seek _)
  plain_instruction (instr.Tuple n) ss other = if_values Plainly tt n [] ss _ (λ vs below. plain_seek _)
  plain_instruction (instr.List n) ss other = if_values Plainly tt n [] ss _ (λ vs below. plain_seek _)
  plain_instruction (instr.Set n) ss other = if_values Plainly tt n [] ss _ (λ vs below. plain_seek _)
  plain_instruction (instr.Join n) ss other = if_values Plainly tt n [] ss _ (λ vs below. plain_seek _)
  plain_instruction (instr.Dict n) ss other = if_values Plainly tt (n + n) [] ss _ (λ vs below. plain_seek _)
  plain_instruction (instr.ListAdd n) ss other = if_one Plainly tt ss _ (λ v below. if_value_below Plainly tt n below _ (λ m. plain_deed _))
  plain_instruction (instr.SetAdd n) ss other = if_one Plainly tt ss _ (λ v below. if_value_below Plainly tt n below _ (λ m. plain_deed _))
  plain_instruction (instr.DictAdd n) ss other = if_two Plainly tt ss _ (λ k v below. if_value_below Plainly tt n below _ (λ m. plain_deed _))
  plain_instruction (instr.Format c) ss other = if_values Plainly tt 2 [] ss _ (λ vs below. plain_seek _)
  plain_instruction instr.TupleJoin ss other = if_values Plainly tt 2 [] ss _ (λ vs below. plain_seek _)
  plain_instruction instr.DictMerge ss other = if_values Plainly tt 2 [] ss _ (λ vs below. plain_seek _)
  plain_instruction instr.Super ss other = if_values Plainly tt 2 [] ss _ (λ vs below. plain_seek _)
  plain_instruction (instr.Unpack n) ss other = if_one Plainly tt ss _ (λ v below. plain_unpack _ _ _)
  plain_instruction (instr.UnpackStar n m) ss other = if_one Plainly tt ss _ (λ v below. plain_unpack _ _ _)
  plain_instruction instr.Spread ss other = if_values Plainly tt 1 [] ss _ (λ vs below. plain_seek _)
  plain_instruction instr.SpreadMap ss other = if_values Plainly tt 1 [] ss _ (λ vs below. plain_seek _)
  plain_instruction (instr.Call n) ss other = if_values Plainly tt (suc n) [] ss _ (λ vs below. plain_seek _)
  plain_instruction (instr.CallKw n l) ss other = if_values Plainly tt (suc n) [] ss _ (λ vs below. plain_seek _)
  plain_instruction (instr.CallSpread n l) ss other = if_values Plainly tt (suc n) [] ss _ (λ vs below. plain_seek _)
  plain_instruction (instr.MakeFunction b n l) ss other = if_cells Plainly tt (code.pool.captures b.0) [] ss _ (λ cs below. if_values Plainly tt n cs below _ (λ vs under. plain_seek _))
  plain_instruction (instr.MakeClass b) ss other = if_cells Plainly tt (code.pool.captures b.0) [] ss _ (λ cs below. if_one Plainly tt below _ (λ v under. plain_seek _))
  plain_instruction (instr.MakeGenerator b) ss other = if_cells Plainly tt (code.pool.captures b.0) [] ss _ (λ cs below. if_iterator Plainly tt below _ (λ v under. plain_seek _))
  plain_instruction instr.Iter ss other = if_one Plainly tt ss _ (λ v below. plain_iter _)
  plain_instruction (instr.Next t) ss other = if_iterator Plainly tt ss _ (λ v below. plain_next _)
  plain_instruction (instr.Jump t) ss other = unmarked_plain i.mark _ _ (plain_deed _)
  plain_instruction (instr.JumpIf t) ss other = if_one Plainly tt ss _ (λ v below. branches_plain (code.is_truth v) _ _ v below)
  plain_instruction (instr.JumpUnless t) ss other = if_one Plainly tt ss _ (λ v below. branches_plain (code.is_truth v) _ _ v below)
  plain_instruction (instr.JumpIfKeep t) ss other = if_one Plainly tt ss _ (λ v below. branches_plain (code.is_truth v) _ _ v below)
  plain_instruction (instr.JumpUnlessKeep t) ss other = if_one Plainly tt ss _ (λ v below. branches_plain (code.is_truth v) _ _ v below)
  plain_instruction instr.Return ss other = if_one Plainly tt ss _ (λ v below. unmarked_plain i.mark _ _ (plain_leave _))
  plain_instruction instr.Yield ss other = if_one Plainly tt ss _ (λ v below. plain_seek _)
  plain_instruction instr.Delegate ss other = if_one Plainly tt ss _ (λ v below. if_iterator Plainly tt below _ (λ it under. plain_delegate _ _))
  plain_instruction instr.Raise ss other = if_one Plainly tt ss _ (λ v below. plain_raising _ _)
  plain_instruction instr.RaiseFrom ss other = if_two Plainly tt ss _ (λ a b below. plain_raising _ _)
  plain_instruction instr.RaiseAgain ss other = absurd (other refl)
  plain_instruction (instr.AssertFail false) ss other = plain_failing _
  plain_instruction (instr.AssertFail true) ss other = if_one Plainly tt ss _ (λ v below. plain_failing _)
  plain_instruction (instr.Leave t) ss other = unmarked_plain i.mark _ _ (plain_leave _)
  plain_instruction instr.Match ss other = if_one Plainly tt ss _ (λ c below. if_exception Plainly tt below _ (λ e under. plain_test _))
  plain_instruction instr.Caught ss other = if_exception Plainly tt ss _ (λ e below. unmarked_plain i.mark _ _ (plain_deed _))
  plain_instruction instr.EndHandler ss other = if_exception Plainly tt ss _ (λ e below. unmarked_plain i.mark _ _ (plain_deed _))
  plain_instruction instr.Rethrow ss other = if_exception Plainly tt ss _ (λ e below. unmarked_plain i.mark _ _ (plain_deed _))
  plain_instruction instr.Enter ss other = if_one Plainly tt ss _ (λ v below. plain_enter _)
  plain_instruction instr.Normal ss other = unmarked_plain i.mark _ _ (plain_deed _)
  plain_instruction instr.Exit ss other = if_completion Plainly tt ss _ (λ c below. if_exit Plainly tt below _ (λ w under. plain_test _))
  plain_instruction instr.EndFinally ss other = if_completion Plainly tt ss _ (λ c below. let_go_plain c below)
  plain_instruction (instr.Import t) ss other = plain_seek _
  plain_instruction (instr.ImportName t) ss other = if_one Plainly tt ss _ (λ v below. plain_seek _)
