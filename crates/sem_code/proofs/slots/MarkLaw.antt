-- Where an instruction has a mark, an act with it begins, and where it has none, no act does.
use Rattle.std.proofs.Common.{◌≡◌, ℕ, ◌+◌, zero, suc, Bool, true, false, List, [], ◌∷◌, Option, Some, None, refl, sym, subst, option_map}
use Rattle.pt_ranges.specs.declared.lines.ActMark.{ActMark}
use Rattle.pt_tree.specs.declared.expression.Constant.{Constant}
use Rattle.pt_instr.specs.declared.Instr.{Instr}
use Rattle.pt_instr.specs.declared.Instr.TheVariants as instr
use Rattle.pt_code.specs.View.{Ins}
use Rattle.sem_control.specs.control.Turn.{Turn, stuck}
use Rattle.sem_code.specs.slots.Slots.{raise, return, jump_to, Completion, normal, by, Slot, value, cell, iterator, exception, pending, exit, Slots, State, on}
use Rattle.sem_code.specs.slots.CodeObject.{CodeObject}
use Rattle.sem_code.specs.slots.Pops.{Next, values, cells, one, two, three, an_iterator, movable, an_exception, a_completion, an_exit, the_value}
use Rattle.sem_code.specs.slots.Steps.{mark_of, unmarked, gives_known, branches, lets_go}
use Rattle.sem_code.specs.slots.Instructions.{perform}
use Rattle.sem_code.specs.slots.Machine.{turn, here}
use Rattle.sem_code.specs.slots.Needs.{Begins}

-- what holds of a stuck turn and of what goes on, whatever is popped, holds of popping
module _ {V : Type 0} (P : Turn (State V) V → Type 0) (p : P stuck) where
  if_one : (ss : Slots V) (next : Next V V) → ((v : V) (below : Slots V) → P (next v below)) → P (one ss next)
  if_one (value v ∷ ss) next f = f v ss
  if_one ss next f = p

  if_two : (ss : Slots V) (next : V → Next V V) → ((a b : V) (below : Slots V) → P (next a b below)) → P (two ss next)
  if_two (value b ∷ value a ∷ ss) next f = f a b ss
  if_two ss next f = p

  if_three : (ss : Slots V) (next : V → V → Next V V) → ((a b c : V) (below : Slots V) → P (next a b c below)) → P (three ss next)
  if_three (value c ∷ value b ∷ value a ∷ ss) next f = f a b c ss
  if_three ss next f = p

  if_values : (n : ℕ) (above : List V) (ss : Slots V) (next : Next V (List V)) → ((vs : List V) (below : Slots V) → P (next vs below)) → P (values n above ss next)
  if_values zero above ss next f = f above ss
  if_values (suc n) above (value v ∷ ss) next f = if_values n (v ∷ above) ss next f
  if_values (suc n) above ss next f = p

  if_cells : (n : ℕ) (above : List V) (ss : Slots V) (next : Next V (List V)) → ((vs : List V) (below : Slots V) → P (next vs below)) → P (cells n above ss next)
  if_cells zero above ss next f = f above ss
  if_cells (suc n) above (cell v ∷ ss) next f = if_cells n (v ∷ above) ss next f
  if_cells (suc n) above ss next f = p

  if_iterator : (ss : Slots V) (next : Next V V) → ((v : V) (below : Slots V) → P (next v below)) → P (an_iterator ss next)
  if_iterator (iterator v ∷ ss) next f = f v ss
  if_iterator ss next f = p

  if_movable : (ss : Slots V) (next : Next V (Slot V)) → ((s : Slot V) (below : Slots V) → P (next s below)) → P (movable ss next)
  if_movable (value v ∷ ss) next f = f (value v) ss
  if_movable (iterator v ∷ ss) next f = f (iterator v) ss
  if_movable ss next f = p

  if_exception : (ss : Slots V) (next : Next V V) → ((v : V) (below : Slots V) → P (next v below)) → P (an_exception ss next)
  if_exception (exception v ∷ ss) next f = f v ss
  if_exception ss next f = p

  if_completion : (ss : Slots V) (next : Next V (Completion V)) → ((c : Completion V) (below : Slots V) → P (next c below)) → P (a_completion ss next)
  if_completion (pending c ∷ ss) next f = f c ss
  if_completion ss next f = p

  if_exit : (ss : Slots V) (next : Next V V) → ((v : V) (below : Slots V) → P (next v below)) → P (an_exit ss next)
  if_exit (exit v ∷ ss) next f = f v ss
  if_exit ss next f = p

  if_value_below : (n : ℕ) (ss : Slots V) (next : V → Turn (State V) V) → ((v : V) → P (next v)) → P (the_value n ss next)
  if_value_below zero ss next f = p
  if_value_below (suc zero) [] next f = p
  if_value_below (suc (suc n)) [] next f = p
  if_value_below (suc zero) (value v ∷ ss) next f = f v
  if_value_below (suc zero) (s ∷ ss) next f = p
  if_value_below (suc (suc n)) (s ∷ ss) next f = if_value_below (suc n) ss next f

module _ {V : Type 0} where
  begins_unmarked : (m : Option ActMark) (s : State V) (t : Turn (State V) V) → Begins (option_map mark_of m) t → Begins (option_map mark_of m) (unmarked m s t)
  begins_unmarked None s t b = refl
  begins_unmarked (Some m) s t b = b

  module _ (code : CodeObject V) (pc : ℕ) (i : Ins) where
    abbrev B : Turn (State V) V → Type 0
    B t = Begins (option_map mark_of i.mark) t

    begins_known : (k : Constant) (o : Option V) (ss : Slots V) → B (gives_known code i k o ss)
    begins_known k None ss = refl
    begins_known k (Some v) ss = begins_unmarked i.mark _ _ refl

    begins_branches : (o : Option Bool) (t f : V → Slots V → State V) (v : V) (ss : Slots V) → B (branches code i o t f v ss)
    begins_branches None t f v ss = refl
    begins_branches (Some b) t f v ss = begins_unmarked i.mark _ _ refl

    begins_let_go : (c : Completion V) (ss : Slots V) → B (lets_go code i c ss)
    begins_let_go normal ss = begins_unmarked i.mark _ _ refl
    begins_let_go (by (raise v)) ss = begins_unmarked i.mark _ _ refl
    begins_let_go (by (return v)) ss = begins_unmarked i.mark _ _ refl
    begins_let_go (by (jump_to t)) ss = begins_unmarked i.mark _ _ refl

    by_instruction : (j : Instr) (ss : Slots V) → B (perform code pc i j ss)
    by_instruction instr.Nop ss = begins_unmarked i.mark _ _ refl
    by_instruction (instr.Const k) ss = begins_known (code.pool.constant k.0) _ ss
    by_instruction (instr.Local x) ss = refl
    by_instruction (instr.DelLocal x) ss = refl
    by_instruction (instr.FreshLocal x) ss = refl
    by_instruction (instr.Cell x) ss = refl
    by_instruction (instr.DelCell x) ss = refl
    by_instruction (instr.FreshCell x) ss = refl
    by_instruction (instr.PushCell x) ss = refl
    by_instruction (instr.Global x) ss = refl
    by_instruction (instr.DelGlobal x) ss = refl
    by_instruction (instr.Name x) ss = refl
    by_instruction (instr.DelName x) ss = refl
    by_instruction (instr.SetLocal x) ss = if_one B tt ss _ (λ v below. refl)
    by_instruction (instr.SetCell x) ss = if_one B tt ss _ (λ v below. refl)
    by_instruction (instr.SetGlobal x) ss = if_one B tt ss _ (λ v below. refl)
    by_instruction (instr.SetName x) ss = if_one B tt ss _ (λ v below. refl)
    by_instruction instr.Pop ss = if_one B tt ss _ (λ v below. begins_unmarked i.mark _ _ refl)
    by_instruction instr.Copy ss = if_one B tt ss _ (λ v below. begins_unmarked i.mark _ _ refl)
    by_instruction instr.Copy2 ss = if_two B tt ss _ (λ a b below. begins_unmarked i.mark _ _ refl)
    by_instruction instr.Swap ss = if_one B tt ss _ (λ v below. if_movable B tt below _ (λ s under. begins_unmarked i.mark _ _ refl))
    by_instruction instr.Rot3 ss = if_three B tt ss _ (λ a b c below. begins_unmarked i.mark _ _ refl)
    by_instruction (instr.Attr t) ss = if_values B tt 1 [] ss _ (λ vs below. refl)
    by_instruction (instr.SetAttr t) ss = if_two B tt ss _ (λ a b below. refl)
    by_instruction (instr.DelAttr t) ss = if_one B tt ss _ (λ v below. refl)
    by_instruction instr.Item ss = if_values B tt 2 [] ss _ (λ vs below. refl)
    by_instruction instr.SetItem ss = if_three B tt ss _ (λ a b c below. refl)
    by_instruction instr.DelItem ss = if_two B tt ss _ (λ a b below. refl)
    by_instruction instr.Slice ss = if_values B tt 3 [] ss _ (λ vs below. refl)
    by_instruction (instr.Unary o) ss = if_values B tt 1 [] ss _ (λ vs below. refl)
    by_instruction instr.Not ss = if_values B tt 1 [] ss _ (λ vs below. refl)
    by_instruction (instr.Binary o) ss = if_values B tt 2 [] ss _ (λ vs below. refl)
    by_instruction (instr.InPlace o) ss = if_values B tt 2 [] ss _ (λ vs below. refl)
    by_instruction (instr.Compare o) ss = if_values B tt 2 [] ss _ (λ vs below. refl)
    by_instruction (instr.Tuple n) ss = if_values B tt n [] ss _ (λ vs below. refl)
    by_instruction (instr.List n) ss = if_values B tt n [] ss _ (λ vs below. refl)
    by_instruction (instr.Set n) ss = if_values B tt n [] ss _ (λ vs below. refl)
    by_instruction (instr.Join n) ss = if_values B tt n [] ss _ (λ vs below. refl)
    by_instruction (instr.Dict n) ss = if_values B tt (n + n) [] ss _ (λ vs below. refl)
    by_instruction (instr.ListAdd n) ss = if_one B tt ss _ (λ v below. if_value_below B tt n below _ (λ m. refl))
    by_instruction (instr.SetAdd n) ss = if_one B tt ss _ (λ v below. if_value_below B tt n below _ (λ m. refl))
    by_instruction (instr.DictAdd n) ss = if_two B tt ss _ (λ k v below. if_value_below B tt n below _ (λ m. refl))
    by_instruction (instr.Format c) ss = if_values B tt 2 [] ss _ (λ vs below. refl)
    by_instruction instr.TupleJoin ss = if_values B tt 2 [] ss _ (λ vs below. refl)
    by_instruction instr.DictMerge ss = if_values B tt 2 [] ss _ (λ vs below. refl)
    by_instruction instr.Super ss = if_values B tt 2 [] ss _ (λ vs below. refl)
    by_instruction (instr.Unpack n) ss = if_one B tt ss _ (λ v below. refl)
    by_instruction (instr.UnpackStar n m) ss = if_one B tt ss _ (λ v below. refl)
    by_instruction instr.Spread ss = if_values B tt 1 [] ss _ (λ vs below. refl)
    by_instruction instr.SpreadMap ss = if_values B tt 1 [] ss _ (λ vs below. refl)
    by_instruction (instr.Call n) ss = if_values B tt (suc n) [] ss _ (λ vs below. refl)
    by_instruction (instr.CallKw n l) ss = if_values B tt (suc n) [] ss _ (λ vs below. refl)
    by_instruction (instr.CallSpread n l) ss = if_values B tt (suc n) [] ss _ (λ vs below. refl)
    by_instruction (instr.MakeFunction b n l) ss = if_cells B tt (code.pool.captures b.0) [] ss _ (λ cs below. if_values B tt n cs below _ (λ vs under. refl))
    by_instruction (instr.MakeClass b) ss = if_cells B tt (code.pool.captures b.0) [] ss _ (λ cs below. if_one B tt below _ (λ v under. refl))
    by_instruction (instr.MakeGenerator b) ss = if_cells B tt (code.pool.captures b.0) [] ss _ (λ cs below. if_iterator B tt below _ (λ v under. refl))
    by_instruction instr.Iter ss = if_one B tt ss _ (λ v below. refl)
    by_instruction (instr.Next t) ss = if_iterator B tt ss _ (λ v below. refl)
    by_instruction (instr.Jump t) ss = begins_unmarked i.mark _ _ refl
    by_instruction (instr.JumpIf t) ss = if_one B tt ss _ (λ v below. begins_branches (code.is_truth v) _ _ v below)
    by_instruction (instr.JumpUnless t) ss = if_one B tt ss _ (λ v below. begins_branches (code.is_truth v) _ _ v below)
    by_instruction (instr.JumpIfKeep t) ss = if_one B tt ss _ (λ v below. begins_branches (code.is_truth v) _ _ v below)
    by_instruction (instr.JumpUnlessKeep t) ss = if_one B tt ss _ (λ v below. begins_branches (code.is_truth v) _ _ v below)
    by_instruction instr.Return ss = if_one B tt ss _ (λ v below. begins_unmarked i.mark _ _ refl)
    by_instruction instr.Yield ss = if_one B tt ss _ (λ v below. refl)
    by_instruction instr.Delegate ss = if_one B tt ss _ (λ v below. if_iterator B tt below _ (λ it under. refl))
    by_instruction instr.Raise ss = if_one B tt ss _ (λ v below. refl)
    by_instruction instr.RaiseFrom ss = if_two B tt ss _ (λ a b below. refl)
    by_instruction instr.RaiseAgain ss = refl
    by_instruction (instr.AssertFail false) ss = refl
    by_instruction (instr.AssertFail true) ss = if_one B tt ss _ (λ v below. refl)
    by_instruction (instr.Leave t) ss = begins_unmarked i.mark _ _ refl
    by_instruction instr.Match ss = if_one B tt ss _ (λ c below. if_exception B tt below _ (λ e under. refl))
    by_instruction instr.Caught ss = if_exception B tt ss _ (λ e below. begins_unmarked i.mark _ _ refl)
    by_instruction instr.EndHandler ss = if_exception B tt ss _ (λ e below. begins_unmarked i.mark _ _ refl)
    by_instruction instr.Rethrow ss = if_exception B tt ss _ (λ e below. begins_unmarked i.mark _ _ refl)
    by_instruction instr.Enter ss = if_one B tt ss _ (λ v below. refl)
    by_instruction instr.Normal ss = begins_unmarked i.mark _ _ refl
    by_instruction instr.Exit ss = if_completion B tt ss _ (λ c below. if_exit B tt below _ (λ w under. refl))
    by_instruction instr.EndFinally ss = if_completion B tt ss _ (λ c below. begins_let_go c below)
    by_instruction (instr.Import t) ss = refl
    by_instruction (instr.ImportName t) ss = if_one B tt ss _ (λ v below. refl)

    at_place : (o : Option Ins) (ss : Slots V) → o ≡ Some i → B (here code pc o ss)
    at_place o ss e = subst (λ o. B (here code pc o ss)) (sym e) (by_instruction i.instr ss)

    pub begins_at : (ss : Slots V) → code.at pc ≡ Some i → B (turn code (on pc ss))
    begins_at ss e = at_place (code.at pc) ss e
