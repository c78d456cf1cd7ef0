-- A state at an instruction is stuck exactly where its slots haven't what the row of the effect takes.
use Rattle.std.proofs.Common.{◌≡◌, ℕ, ◌+◌, zero, suc, Bool, true, false, not, ◌&&◌, List, [], ◌∷◌, ◌++◌, reverse, replicate, drop, subst, Option, Some, None, refl, sym, ap, ◌∙◌, arith}
use Rattle.std.proofs.lemmas.List.{reverse-append, replicate-append-replicate}
use Rattle.pt_ranges.specs.declared.lines.ActMark.{ActMark}
use Rattle.pt_tree.specs.declared.expression.Constant.{Constant}
use Rattle.pt_instr.specs.declared.Instr.{Instr}
use Rattle.pt_instr.specs.declared.Instr.TheVariants as instr
use Rattle.pt_instr.specs.declared.kinds.Kind.{Kind}
use Rattle.pt_instr.specs.declared.kinds.Kind.TheVariants as kind
use Rattle.pt_instr.specs.Effects.{effect_of}
use Rattle.pt_code.specs.View.{Ins}
use Rattle.sem_control.specs.control.Turn.{Operation, Turn, stuck}
use Rattle.sem_code.specs.slots.Slots as S
use Rattle.sem_code.specs.slots.Slots.{raise, return, jump_to, Completion, normal, by, Slot, value, iterator, Slots, State, on, thrown_to}
use Rattle.sem_code.specs.slots.CodeObject.{CodeObject}
use Rattle.sem_code.specs.slots.Pops.{Next, values, cells, one, two, three, an_iterator, an_exception, the_value}
use Rattle.sem_code.specs.slots.Steps.{unmarked, gives_known, branches, lets_go}
use Rattle.sem_code.specs.slots.Instructions.{operates, jumps, perform}
use Rattle.sem_code.specs.slots.Machine.{turn, here, thrown_here}
use Rattle.sem_code.specs.slots.Needs.{is_stuck, begin_with, has_value_at, have, needs}

and_true : (b : Bool) → (b && true) ≡ b
and_true false = refl
and_true true = refl

and_false : (b : Bool) → (b && false) ≡ false
and_false false = refl
and_false true = refl

reverse_replicate : {A : Type 0} (n : ℕ) (a : A) → reverse (replicate n a) ≡ replicate n a
reverse_replicate zero a = refl
reverse_replicate (suc n) a =
    reverse-append (a ∷ []) (replicate n a) ∙ (ap (λ xs. xs ++ a ∷ []) (reverse_replicate n a) ∙ (replicate-append-replicate n 1 a ∙ ap (λ m. replicate m a) one_more))
  where
    one_more : n + 1 ≡ suc n
    one_more = omega arith

module _ {V : Type 0} where
  -- a turn that isn't stuck, whatever was taken
  free_unmarked : (m : Option ActMark) (s : State V) (t : Turn (State V) V) → is_stuck t ≡ false → is_stuck (unmarked m s t) ≡ false
  free_unmarked None s t f = refl
  free_unmarked (Some m) s t f = f

  at_one : (ss : Slots V) (next : Next V V) → ((v : V) (below : Slots V) → is_stuck (next v below) ≡ false) → is_stuck (one ss next) ≡ not (begin_with (kind.Value ∷ []) ss)
  at_one (value v ∷ ss) next f = f v ss
  at_one ss next f = refl

  at_two : (ss : Slots V) (next : V → Next V V) → ((a b : V) (below : Slots V) → is_stuck (next a b below) ≡ false)
      → is_stuck (two ss next) ≡ not (begin_with (kind.Value ∷ kind.Value ∷ []) ss)
  at_two (value b ∷ value a ∷ ss) next f = f a b ss
  at_two ss next f = refl

  at_three : (ss : Slots V) (next : V → V → Next V V) → ((a b c : V) (below : Slots V) → is_stuck (next a b c below) ≡ false)
      → is_stuck (three ss next) ≡ not (begin_with (kind.Value ∷ kind.Value ∷ kind.Value ∷ []) ss)
  at_three (value c ∷ value b ∷ value a ∷ ss) next f = f a b c ss
  at_three ss next f = refl

  at_iterator : (ss : Slots V) (next : Next V V) → ((v : V) (below : Slots V) → is_stuck (next v below) ≡ false)
      → is_stuck (an_iterator ss next) ≡ not (begin_with (kind.Iter ∷ []) ss)
  at_iterator (iterator v ∷ ss) next f = f v ss
  at_iterator ss next f = refl

  at_exception : (ss : Slots V) (next : Next V V) → ((v : V) (below : Slots V) → is_stuck (next v below) ≡ false)
      → is_stuck (an_exception ss next) ≡ not (begin_with (kind.Exc ∷ []) ss)
  at_exception (S.exception v ∷ ss) next f = f v ss
  at_exception ss next f = refl

  at_values : (n : ℕ) (above : List V) (ss : Slots V) (next : Next V (List V)) → ((vs : List V) (below : Slots V) → is_stuck (next vs below) ≡ false)
      → is_stuck (values n above ss next) ≡ not (begin_with (replicate n kind.Value) ss)
  at_values zero above ss next f = f above ss
  at_values (suc n) above (value v ∷ ss) next f = at_values n (v ∷ above) ss next f
  at_values (suc n) above ss next f = refl

  at_cells : (n : ℕ) (ks : List Kind) (above : List V) (ss : Slots V) (next : Next V (List V))
      → ((vs : List V) (below : Slots V) → is_stuck (next vs below) ≡ not (begin_with ks below))
      → is_stuck (cells n above ss next) ≡ not (begin_with (replicate n kind.Cell ++ ks) ss)
  at_cells zero ks above ss next f = f above ss
  at_cells (suc n) ks above (S.cell v ∷ ss) next f = at_cells n ks (v ∷ above) ss next f
  at_cells (suc n) ks above ss next f = refl

  at_value_below : (n : ℕ) (ss : Slots V) (next : V → Turn (State V) V) → ((v : V) → is_stuck (next v) ≡ false)
      → is_stuck (the_value n ss next) ≡ not (has_value_at n ss && true)
  at_value_below zero ss next f = refl
  at_value_below (suc zero) [] next f = refl
  at_value_below (suc (suc n)) [] next f = refl
  at_value_below (suc zero) (value v ∷ ss) next f = f v
  at_value_below (suc zero) (s ∷ ss) next f = refl
  at_value_below (suc (suc n)) (s ∷ ss) next f = at_value_below (suc n) ss next f

  module _ (code : CodeObject V) (pc : ℕ) (i : Ins) where
    free_known : (k : Constant) (o : Option V) (ss : Slots V) → is_stuck (gives_known code i k o ss) ≡ false
    free_known k None ss = refl
    free_known k (Some v) ss = free_unmarked i.mark _ _ refl

    free_branches : (o : Option Bool) (t f : V → Slots V → State V) (v : V) (ss : Slots V) → is_stuck (branches code i o t f v ss) ≡ false
    free_branches None t f v ss = refl
    free_branches (Some b) t f v ss = free_unmarked i.mark _ _ refl

    free_let_go : (c : Completion V) (ss : Slots V) → is_stuck (lets_go code i c ss) ≡ false
    free_let_go normal ss = free_unmarked i.mark _ _ refl
    free_let_go (by (raise v)) ss = free_unmarked i.mark _ _ refl
    free_let_go (by (return v)) ss = free_unmarked i.mark _ _ refl
    free_let_go (by (jump_to t)) ss = free_unmarked i.mark _ _ refl

    at_operands : (op : Operation) (n : ℕ) (ss : Slots V) → is_stuck (operates code pc i op n ss) ≡ not (begin_with (reverse (replicate n kind.Value)) ss)
    at_operands op n ss = at_values n [] ss _ (λ vs below. refl) ∙ ap (λ ks. not (begin_with ks ss)) (sym (reverse_replicate n kind.Value))

    at_jumps : (t f : V → Slots V → State V) (ss : Slots V) → is_stuck (jumps code pc i t f ss) ≡ not (begin_with (kind.Value ∷ []) ss)
    at_jumps t f ss = at_one ss _ (λ v below. free_branches (code.is_truth v) t f v below)

    at_swap : (ss : Slots V) → is_stuck (perform code pc i instr.Swap ss) ≡ not (have ss (needs code.pool instr.Swap))
    unfolding effect_of
    at_swap (value b ∷ value a ∷ ss) = free_unmarked i.mark _ _ refl
    at_swap (value b ∷ iterator a ∷ ss) = free_unmarked i.mark _ _ refl
    at_swap ss = refl

    at_delegate : (ss : Slots V) → is_stuck (perform code pc i instr.Delegate ss) ≡ not (have ss (needs code.pool instr.Delegate))
    unfolding effect_of
    at_delegate (value v ∷ iterator a ∷ ss) = refl
    at_delegate ss = refl

    at_match : (ss : Slots V) → is_stuck (perform code pc i instr.Match ss) ≡ not (have ss (needs code.pool instr.Match))
    unfolding effect_of
    at_match (value c ∷ S.exception e ∷ ss) = refl
    at_match ss = refl

    at_exit : (ss : Slots V) → is_stuck (perform code pc i instr.Exit ss) ≡ not (have ss (needs code.pool instr.Exit))
    unfolding effect_of
    at_exit (S.pending c ∷ S.exit w ∷ ss) = refl
    at_exit ss = refl

    at_held : (ss : Slots V) → is_stuck (perform code pc i instr.EndFinally ss) ≡ not (have ss (needs code.pool instr.EndFinally))
    unfolding effect_of
    at_held (S.pending c ∷ ss) = free_let_go c ss
    at_held ss = refl

    at_added : (n : ℕ) (ss : Slots V) (next : V → V → Slots V → Turn (State V) V) → ((v m : V) (below : Slots V) → is_stuck (next v m below) ≡ false)
        → is_stuck (one ss (λ v below. the_value n below (λ made. next v made below))) ≡ not (has_value_at n (drop 1 ss) && begin_with (kind.Value ∷ []) ss)
    at_added n (value v ∷ ss) next f = at_value_below n ss _ (λ m. f v m ss)
    at_added n [] next f = ap not (sym (and_false (has_value_at n (drop {A = Slot V} 1 []))))
    at_added n (s ∷ ss) next f = ap not (sym (and_false (has_value_at n ss)))

    at_entry_added : (n : ℕ) (ss : Slots V) (next : V → V → V → Slots V → Turn (State V) V) → ((k v m : V) (below : Slots V) → is_stuck (next k v m below) ≡ false)
        → is_stuck (two ss (λ k v below. the_value n below (λ made. next k v made below)))
        ≡ not (has_value_at n (drop 2 ss) && begin_with (kind.Value ∷ kind.Value ∷ []) ss)
    at_entry_added n (value v ∷ value k ∷ ss) next f = at_value_below n ss _ (λ m. f k v m ss)
    at_entry_added n [] next f = ap not (sym (and_false (has_value_at n (drop {A = Slot V} 2 []))))
    at_entry_added n (s ∷ ss) next f = ap not (sym (and_false (has_value_at n (drop 1 ss))))

    turned : (f n : ℕ) (ss : Slots V)
        → not (begin_with (replicate f kind.Cell ++ replicate n kind.Value) ss) ≡ not (begin_with (reverse (replicate n kind.Value ++ replicate f kind.Cell)) ss)
    turned f n ss = ap (λ ks. not (begin_with ks ss))
        (sym (reverse-append (replicate n kind.Value) (replicate f kind.Cell) ∙ (ap (λ ks. ks ++ reverse (replicate n kind.Value)) (reverse_replicate f kind.Cell)
        ∙ ap (λ ks. replicate f kind.Cell ++ ks) (reverse_replicate n kind.Value))))

    turned_under : (f : ℕ) (k : Kind) (ss : Slots V)
        → not (begin_with (replicate f kind.Cell ++ k ∷ []) ss) ≡ not (begin_with (reverse (k ∷ replicate f kind.Cell)) ss)
    turned_under f k ss = ap (λ ks. not (begin_with ks ss))
        (sym (reverse-append (k ∷ []) (replicate f kind.Cell) ∙ ap (λ ks. ks ++ k ∷ []) (reverse_replicate f kind.Cell)))

    by_instruction : (j : Instr) (ss : Slots V) → is_stuck (perform code pc i j ss) ≡ not (have ss (needs code.pool j))
    unfolding effect_of
    by_instruction instr.Nop ss = free_unmarked i.mark _ _ refl
    by_instruction (instr.Const k) ss = free_known (code.pool.constant k.0) _ ss
    by_instruction (instr.Local x) ss = refl
    by_instruction (instr.DelLocal x) ss = refl
    by_instruction (instr.FreshLocal x) ss = refl
    by_instruction (instr.Cell x) ss = refl
    by_instruction (instr.DelCell x) ss = refl
    by_instruction (instr.FreshCell x) ss = refl
    by_instruction (instr.PushCell x) ss = refl
    by_instruction (instr.Global x) ss = refl
    by_instruction (instr.DelGlobal x) ss = refl
    by_instruction (instr.Name x) ss = refl
    by_instruction (instr.DelName x) ss = refl
    by_instruction (instr.SetLocal x) ss = at_one ss _ (λ v below. refl)
    by_instruction (instr.SetCell x) ss = at_one ss _ (λ v below. refl)
    by_instruction (instr.SetGlobal x) ss = at_one ss _ (λ v below. refl)
    by_instruction (instr.SetName x) ss = at_one ss _ (λ v below. refl)
    by_instruction instr.Pop ss = at_one ss _ (λ v below. free_unmarked i.mark _ _ refl)
    by_instruction instr.Copy ss = at_one ss _ (λ v below. free_unmarked i.mark _ _ refl)
    by_instruction instr.Copy2 ss = at_two ss _ (λ a b below. free_unmarked i.mark _ _ refl)
    by_instruction instr.Swap ss = at_swap ss
    by_instruction instr.Rot3 ss = at_three ss _ (λ a b c below. free_unmarked i.mark _ _ refl)
    by_instruction (instr.Attr t) ss = at_operands _ 1 ss
    by_instruction (instr.SetAttr t) ss = at_two ss _ (λ a b below. refl)
    by_instruction (instr.DelAttr t) ss = at_one ss _ (λ v below. refl)
    by_instruction instr.Item ss = at_operands _ 2 ss
    by_instruction instr.SetItem ss = at_three ss _ (λ a b c below. refl)
    by_instruction instr.DelItem ss = at_two ss _ (λ a b below. refl)
    by_instruction instr.Slice ss = at_operands _ 3 ss
    by_instruction (instr.Unary o) ss = at_operands _ 1 ss
    by_instruction instr.Not ss = at_operands _ 1 ss
    by_instruction (instr.Binary o) ss = at_operands _ 2 ss
    by_instruction (instr.InPlace o) ss = at_operands _ 2 ss
    by_instruction (instr.Compare o) ss = at_operands _ 2 ss
    by_instruction (instr.Tuple n) ss = at_operands _ n ss
    by_instruction (instr.List n) ss = at_operands _ n ss
    by_instruction (instr.Set n) ss = at_operands _ n ss
    by_instruction (instr.Join n) ss = at_operands _ n ss
    by_instruction (instr.Dict n) ss = at_operands _ (n + n) ss ∙ ap (λ ks. not (begin_with (reverse ks) ss)) (sym (replicate-append-replicate n n kind.Value))
    by_instruction (instr.ListAdd n) ss = at_added n ss _ (λ v m below. refl)
    by_instruction (instr.SetAdd n) ss = at_added n ss _ (λ v m below. refl)
    by_instruction (instr.DictAdd n) ss = at_entry_added n ss _ (λ k v m below. refl)
    by_instruction (instr.Format c) ss = at_operands _ 2 ss
    by_instruction instr.TupleJoin ss = at_operands _ 2 ss
    by_instruction instr.DictMerge ss = at_operands _ 2 ss
    by_instruction instr.Super ss = at_operands _ 2 ss
    by_instruction (instr.Unpack n) ss = at_one ss _ (λ v below. refl)
    by_instruction (instr.UnpackStar n m) ss = at_one ss _ (λ v below. refl)
    by_instruction instr.Spread ss = at_operands _ 1 ss
    by_instruction instr.SpreadMap ss = at_operands _ 1 ss
    by_instruction (instr.Call n) ss = at_operands _ (suc n) ss
    by_instruction (instr.CallKw n l) ss = at_operands _ (suc n) ss
    by_instruction (instr.CallSpread n l) ss = at_operands _ (suc n) ss
    by_instruction (instr.MakeFunction b n l) ss = at_cells (code.pool.captures b.0) (replicate n kind.Value) [] ss _ (λ cs below. at_values n cs below _ (λ vs under. refl)) ∙ turned (code.pool.captures b.0) n ss
    by_instruction (instr.MakeClass b) ss = at_cells (code.pool.captures b.0) (kind.Value ∷ []) [] ss _ (λ cs below. at_one below _ (λ v under. refl)) ∙ turned_under (code.pool.captures b.0) kind.Value ss
    by_instruction (instr.MakeGenerator b) ss = at_cells (code.pool.captures b.0) (kind.Iter ∷ []) [] ss _ (λ cs below. at_iterator below _ (λ v under. refl)) ∙ turned_under (code.pool.captures b.0) kind.Iter ss
    by_instruction instr.Iter ss = at_one ss _ (λ v below. refl)
    by_instruction (instr.Next t) ss = at_iterator ss _ (λ v below. refl)
    by_instruction (instr.Jump t) ss = free_unmarked i.mark _ _ refl
    by_instruction (instr.JumpIf t) ss = at_jumps _ _ ss
    by_instruction (instr.JumpUnless t) ss = at_jumps _ _ ss
    by_instruction (instr.JumpIfKeep t) ss = at_jumps _ _ ss
    by_instruction (instr.JumpUnlessKeep t) ss = at_jumps _ _ ss
    by_instruction instr.Return ss = at_one ss _ (λ v below. free_unmarked i.mark _ _ refl)
    by_instruction instr.Yield ss = at_one ss _ (λ v below. refl)
    by_instruction instr.Delegate ss = at_delegate ss
    by_instruction instr.Raise ss = at_one ss _ (λ v below. refl)
    by_instruction instr.RaiseFrom ss = at_two ss _ (λ a b below. refl)
    by_instruction instr.RaiseAgain ss = refl
    by_instruction (instr.AssertFail false) ss = refl
    by_instruction (instr.AssertFail true) ss = at_one ss _ (λ v below. refl)
    by_instruction (instr.Leave t) ss = free_unmarked i.mark _ _ refl
    by_instruction instr.Match ss = at_match ss
    by_instruction instr.Caught ss = at_exception ss _ (λ v below. free_unmarked i.mark _ _ refl)
    by_instruction instr.EndHandler ss = at_exception ss _ (λ v below. free_unmarked i.mark _ _ refl)
    by_instruction instr.Rethrow ss = at_exception ss _ (λ v below. free_unmarked i.mark _ _ refl)
    by_instruction instr.Enter ss = at_one ss _ (λ v below. refl)
    by_instruction instr.Normal ss = free_unmarked i.mark _ _ refl
    by_instruction instr.Exit ss = at_exit ss
    by_instruction instr.EndFinally ss = at_held ss
    by_instruction (instr.Import t) ss = refl
    by_instruction (instr.ImportName t) ss = at_one ss _ (λ v below. refl)

    at_place : (o : Option Ins) (ss : Slots V) → o ≡ Some i → is_stuck (here code pc o ss) ≡ not (have ss (needs code.pool i.instr))
    at_place o ss e = subst (λ o. is_stuck (here code pc o ss) ≡ not (have ss (needs code.pool i.instr))) (sym e) (by_instruction i.instr ss)

    pub stuck_at : (ss : Slots V) → code.at pc ≡ Some i → is_stuck (turn code (on pc ss)) ≡ not (have ss (needs code.pool i.instr))
    stuck_at ss e = at_place (code.at pc) ss e

    stuck_sent_here : (o : Option Ins) (e : V) (ss : Slots V) → o ≡ Some i → is_stuck (thrown_here code pc o e ss) ≡ not (begin_with (kind.Value ∷ kind.Iter ∷ []) ss)
    stuck_sent_here o e ss eq = subst (λ o. is_stuck (thrown_here code pc o e ss) ≡ not (begin_with (kind.Value ∷ kind.Iter ∷ []) ss)) (sym eq) (sent ss)
      where
        sent : (ss : Slots V) → is_stuck (thrown_here code pc (Some i) e ss) ≡ not (begin_with (kind.Value ∷ kind.Iter ∷ []) ss)
        sent (value v ∷ iterator a ∷ ss) = refl
        sent ss = refl

    pub stuck_sent : (e : V) (ss : Slots V) → code.at pc ≡ Some i → is_stuck (turn code (thrown_to pc e ss)) ≡ not (begin_with (kind.Value ∷ kind.Iter ∷ []) ss)
    stuck_sent e ss eq = stuck_sent_here (code.at pc) e ss eq

  nowhere_here : (code : CodeObject V) (pc : ℕ) (o : Option Ins) (ss : Slots V) → o ≡ None → here code pc o ss ≡ stuck
  nowhere_here code pc o ss eq = subst (λ o. here code pc o ss ≡ stuck) (sym eq) refl

  nowhere_sent : (code : CodeObject V) (pc : ℕ) (o : Option Ins) (e : V) (ss : Slots V) → o ≡ None → thrown_here code pc o e ss ≡ stuck
  nowhere_sent code pc o e ss eq = subst (λ o. thrown_here code pc o e ss ≡ stuck) (sym eq) refl

  pub stuck_nowhere : (code : CodeObject V) (pc : ℕ) (e : V) (ss : Slots V) → code.at pc ≡ None → (turn code (on pc ss) ≡ stuck) × (turn code (thrown_to pc e ss) ≡ stuck)
  stuck_nowhere code pc e ss eq = (nowhere_here code pc (code.at pc) ss eq, nowhere_sent code pc (code.at pc) e ss eq)
