-- Where no value may be given on, an instruction asks for nothing to which a host's answer gives one on.
use Rattle.std.proofs.Common.{◌≡◌, ℕ, ◌+◌, zero, suc, Bool, true, false, List, [], ◌∷◌, map, Option, Some, None, sym, ◌∙◌}
use Rattle.std.proofs.lemmas.Bool.{false≢true}
use Rattle.pt_ranges.specs.declared.lines.ActMark.{ActMark}
use Rattle.pt_tree.specs.declared.expression.Constant.{Constant}
use Rattle.pt_instr.specs.declared.Instr.{Instr}
use Rattle.pt_instr.specs.declared.Instr.TheVariants as instr
use Rattle.pt_code.specs.declared.BlockKind.{BlockKind}
use Rattle.pt_code.specs.View.{Ins}
use Rattle.sem_control.specs.control.Turn as T
use Rattle.sem_control.specs.control.Turn.{Operation, Turn}
use Rattle.sem_code.specs.slots.Slots.{raise, return, jump_to, Completion, normal, by, Slot, value, cell, iterator, exception, pending, exit, Slots, State}
use Rattle.sem_code.specs.slots.CodeObject.{CodeObject}
use Rattle.sem_code.specs.slots.Pops.{Next, values, cells, one, two, three, an_iterator, movable, an_exception, a_completion, an_exit, the_value}
use Rattle.sem_code.specs.slots.Steps.{unmarked, gives_known, branches, lets_go}
use Rattle.sem_code.specs.slots.Instructions.{conversion_of, all_positional, last_named, role_of, operates, jumps, perform}
use Rattle.sem_fits.specs.fits.Block.{Links}
use Rattle.sem_fits.specs.fits.Standing.{may_yield, may_stand}
use Rattle.pt_bare_runs.specs.Laws.{AsksPlainly}

abbrev pub IsPlain : {S V : Type 0} → Turn S V → Type 0
IsPlain (T.act m a k) = AsksPlainly a
IsPlain t = Unit {0}

-- what goes on behind what is taken
module _ {V : Type 0} where
  abbrev P : Turn (State V) V → Type 0
  P t = IsPlain t

  plain_unmarked : (o : Option ActMark) (s : State V) (t : Turn (State V) V) → P t → P (unmarked o s t)
  plain_unmarked None s t p = tt
  plain_unmarked (Some m) s t p = p

  plain_values : (n : ℕ) (over : List V) (ss : Slots V) (next : Next V (List V)) → ((vs : List V) (below : Slots V) → P (next vs below)) → P (values n over ss next)
  plain_values zero over ss next f = f over ss
  plain_values (suc n) over (value v ∷ ss) next f = plain_values n (v ∷ over) ss next f
  plain_values (suc n) over ss next f = tt

  plain_cells : (n : ℕ) (over : List V) (ss : Slots V) (next : Next V (List V)) → ((vs : List V) (below : Slots V) → P (next vs below)) → P (cells n over ss next)
  plain_cells zero over ss next f = f over ss
  plain_cells (suc n) over (cell v ∷ ss) next f = plain_cells n (v ∷ over) ss next f
  plain_cells (suc n) over ss next f = tt

  plain_one : (ss : Slots V) (next : Next V V) → ((v : V) (below : Slots V) → P (next v below)) → P (one ss next)
  plain_one (value v ∷ ss) next f = f v ss
  plain_one ss next f = tt

  plain_two : (ss : Slots V) (next : V → Next V V) → ((u v : V) (below : Slots V) → P (next u v below)) → P (two ss next)
  plain_two (value v ∷ value u ∷ ss) next f = f u v ss
  plain_two ss next f = tt

  plain_three : (ss : Slots V) (next : V → V → Next V V) → ((u v w : V) (below : Slots V) → P (next u v w below)) → P (three ss next)
  plain_three (value w ∷ value v ∷ value u ∷ ss) next f = f u v w ss
  plain_three ss next f = tt

  plain_iterator : (ss : Slots V) (next : Next V V) → ((v : V) (below : Slots V) → P (next v below)) → P (an_iterator ss next)
  plain_iterator (iterator v ∷ ss) next f = f v ss
  plain_iterator ss next f = tt

  plain_movable : (ss : Slots V) (next : Next V (Slot V)) → ((s : Slot V) (below : Slots V) → P (next s below)) → P (movable ss next)
  plain_movable (value v ∷ ss) next f = f (value v) ss
  plain_movable (iterator v ∷ ss) next f = f (iterator v) ss
  plain_movable ss next f = tt

  plain_exception : (ss : Slots V) (next : Next V V) → ((v : V) (below : Slots V) → P (next v below)) → P (an_exception ss next)
  plain_exception (exception v ∷ ss) next f = f v ss
  plain_exception ss next f = tt

  plain_completion : (ss : Slots V) (next : Next V (Completion V)) → ((c : Completion V) (below : Slots V) → P (next c below)) → P (a_completion ss next)
  plain_completion (pending c ∷ ss) next f = f c ss
  plain_completion ss next f = tt

  plain_exit : (ss : Slots V) (next : Next V V) → ((v : V) (below : Slots V) → P (next v below)) → P (an_exit ss next)
  plain_exit (exit v ∷ ss) next f = f v ss
  plain_exit ss next f = tt

  plain_the_value : (n : ℕ) (ss : Slots V) (next : V → Turn (State V) V) → ((v : V) → P (next v)) → P (the_value n ss next)
  plain_the_value (suc zero) (value v ∷ ss) next f = f v
  plain_the_value (suc (suc n)) (s ∷ ss) next f = plain_the_value (suc n) ss next f
  plain_the_value n ss next f = tt

module _ {V : Type 0} (code : CodeObject V) (pc : ℕ) (i : Ins) where
  plain_known : (k : Constant) (o : Option V) (ss : Slots V) → IsPlain (gives_known code i k o ss)
  plain_known k None ss = tt
  plain_known k (Some v) ss = plain_unmarked i.mark _ _ tt

  plain_branches : (o : Option Bool) (f g : V → Slots V → State V) (v : V) (ss : Slots V) → IsPlain (branches code i o f g v ss)
  plain_branches None f g v ss = tt
  plain_branches (Some b) f g v ss = plain_unmarked i.mark _ _ tt

  plain_jumps : (f g : V → Slots V → State V) (ss : Slots V) → IsPlain (jumps code pc i f g ss)
  plain_jumps f g ss = plain_one ss _ (λ v below. plain_branches (code.is_truth v) f g v below)

  plain_lets_go : (c : Completion V) (ss : Slots V) → IsPlain (lets_go code i c ss)
  plain_lets_go normal ss = plain_unmarked i.mark _ _ tt
  plain_lets_go (by (raise e)) ss = plain_unmarked i.mark _ _ tt
  plain_lets_go (by (return v)) ss = plain_unmarked i.mark _ _ tt
  plain_lets_go (by (jump_to t)) ss = plain_unmarked i.mark _ _ tt

  plain_operates : (op : Operation) (n : ℕ) (ss : Slots V) → IsPlain (operates code pc i op n ss)
  plain_operates op n ss = plain_values n [] ss _ (λ vs below. tt)

  module _ (kind : BlockKind) (links : Links) (silent : may_yield kind ≡ false) where
    pub plain : (j : Instr) → may_stand kind links j ≡ true → (ss : Slots V) → IsPlain (perform code pc i j ss)
    plain instr.Nop e ss = plain_unmarked i.mark _ _ tt
    plain (instr.Const k) e ss = plain_known (code.pool.constant k.0) _ ss
    plain (instr.SetLocal x) e ss = plain_one ss _ (λ v below. tt)
    plain (instr.SetCell x) e ss = plain_one ss _ (λ v below. tt)
    plain (instr.SetGlobal t) e ss = plain_one ss _ (λ v below. tt)
    plain (instr.SetName t) e ss = plain_one ss _ (λ v below. tt)
    plain instr.Pop e ss = plain_one ss _ (λ v below. plain_unmarked i.mark _ _ tt)
    plain instr.Copy e ss = plain_one ss _ (λ v below. plain_unmarked i.mark _ _ tt)
    plain instr.Copy2 e ss = plain_two ss _ (λ u v below. plain_unmarked i.mark _ _ tt)
    plain instr.Swap e ss = plain_one ss _ (λ v below. plain_movable below _ (λ s under. plain_unmarked i.mark _ _ tt))
    plain instr.Rot3 e ss = plain_three ss _ (λ u v w below. plain_unmarked i.mark _ _ tt)
    plain (instr.Attr t) e ss = plain_operates (T.get (code.pool.text t.0)) 1 ss
    plain (instr.SetAttr t) e ss = plain_two ss _ (λ u v below. tt)
    plain (instr.DelAttr t) e ss = plain_one ss _ (λ v below. tt)
    plain instr.Item e ss = plain_operates T.item 2 ss
    plain instr.SetItem e ss = plain_three ss _ (λ u v w below. tt)
    plain instr.DelItem e ss = plain_two ss _ (λ u v below. tt)
    plain instr.Slice e ss = plain_operates T.slice 3 ss
    plain (instr.Unary o) e ss = plain_operates (T.unary o) 1 ss
    plain instr.Not e ss = plain_operates T.inverted 1 ss
    plain (instr.Binary o) e ss = plain_operates (T.binary o) 2 ss
    plain (instr.InPlace o) e ss = plain_operates (T.in_place o) 2 ss
    plain (instr.Compare o) e ss = plain_operates (T.compare o) 2 ss
    plain (instr.Tuple n) e ss = plain_operates T.tuple n ss
    plain (instr.List n) e ss = plain_operates T.list n ss
    plain (instr.Set n) e ss = plain_operates T.set n ss
    plain (instr.Dict n) e ss = plain_operates T.dict (n + n) ss
    plain (instr.ListAdd n) e ss = plain_one ss _ (λ v below. plain_the_value n below _ (λ made. tt))
    plain (instr.SetAdd n) e ss = plain_one ss _ (λ v below. plain_the_value n below _ (λ made. tt))
    plain (instr.DictAdd n) e ss = plain_two ss _ (λ u v below. plain_the_value n below _ (λ made. tt))
    plain (instr.Format c) e ss = plain_operates (T.format (conversion_of c)) 2 ss
    plain (instr.Join n) e ss = plain_operates T.join n ss
    plain instr.TupleJoin e ss = plain_operates code.extras.tuple_join 2 ss
    plain instr.DictMerge e ss = plain_operates code.extras.dict_merge 2 ss
    plain (instr.Unpack n) e ss = plain_one ss _ (λ v below. tt)
    plain (instr.UnpackStar n m) e ss = plain_one ss _ (λ v below. tt)
    plain instr.Spread e ss = plain_operates T.spread_out 1 ss
    plain instr.SpreadMap e ss = plain_operates T.spread_named_out 1 ss
    plain (instr.Call n) e ss = plain_operates (T.call (all_positional n)) (suc n) ss
    plain (instr.CallKw n l) e ss = plain_operates (T.call (last_named n (code.pool.texts l.0))) (suc n) ss
    plain (instr.CallSpread n l) e ss = plain_operates (T.call (map role_of (code.pool.texts l.0))) (suc n) ss
    plain instr.Super e ss = plain_operates code.extras.super 2 ss
    plain (instr.MakeFunction b n l) e ss = plain_cells _ [] ss _ (λ cs below. plain_values n cs below _ (λ vs under. tt))
    plain (instr.MakeClass b) e ss = plain_cells _ [] ss _ (λ cs below. plain_one below _ (λ v under. tt))
    plain (instr.MakeGenerator b) e ss = plain_cells _ [] ss _ (λ cs below. plain_iterator below _ (λ v under. tt))
    plain instr.Iter e ss = plain_one ss _ (λ v below. tt)
    plain (instr.Next t) e ss = plain_iterator ss _ (λ v below. tt)
    plain (instr.Jump t) e ss = plain_unmarked i.mark _ _ tt
    plain (instr.JumpIf t) e ss = plain_jumps _ _ ss
    plain (instr.JumpUnless t) e ss = plain_jumps _ _ ss
    plain (instr.JumpIfKeep t) e ss = plain_jumps _ _ ss
    plain (instr.JumpUnlessKeep t) e ss = plain_jumps _ _ ss
    plain instr.Return e ss = plain_one ss _ (λ v below. plain_unmarked i.mark _ _ tt)
    plain instr.Yield e ss = absurd (false≢true (sym silent ∙ e))
    plain instr.Delegate e ss = absurd (false≢true (sym silent ∙ e))
    plain instr.Raise e ss = plain_one ss _ (λ v below. tt)
    plain instr.RaiseFrom e ss = plain_two ss _ (λ u v below. tt)
    plain (instr.AssertFail false) e ss = tt
    plain (instr.AssertFail true) e ss = plain_one ss _ (λ v below. tt)
    plain (instr.Leave t) e ss = plain_unmarked i.mark _ _ tt
    plain instr.Match e ss = plain_one ss _ (λ v below. plain_exception below _ (λ x under. tt))
    plain instr.Caught e ss = plain_exception ss _ (λ x below. plain_unmarked i.mark _ _ tt)
    plain instr.EndHandler e ss = plain_exception ss _ (λ x below. plain_unmarked i.mark _ _ tt)
    plain instr.Rethrow e ss = plain_exception ss _ (λ x below. plain_unmarked i.mark _ _ tt)
    plain instr.Enter e ss = plain_one ss _ (λ v below. tt)
    plain instr.Normal e ss = plain_unmarked i.mark _ _ tt
    plain instr.Exit e ss = plain_completion ss _ (λ c below. plain_exit below _ (λ w under. tt))
    plain instr.EndFinally e ss = plain_completion ss _ (λ c below. plain_lets_go c below)
    plain (instr.Import t) e ss = plain_operates (T.import (code.pool.text t.0)) 0 ss
    plain (instr.ImportName t) e ss = plain_one ss _ (λ m below. tt)
    plain j e ss = tt
