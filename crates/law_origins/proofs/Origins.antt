-- Of each instruction its place and a number of slots tell where a raise of a hook lands.
use Rattle.std.proofs.Common.{◌≡◌, ℕ, ◌+◌, zero, suc, Bool, true, false, List, [], ◌∷◌, ◌++◌, map, Option, Some, None, length, refl, sym, ap, ◌∙◌, subst, append_assoc}
use Rattle.pt_ranges.specs.declared.lines.ActMark.{ActMark}
use Rattle.pt_tree.specs.declared.expression.Constant.{Constant}
use Rattle.pt_instr.specs.declared.Instr.{Instr}
use Rattle.pt_instr.specs.declared.Instr.TheVariants as instr
use Rattle.pt_code.specs.View.{Ins}
use Rattle.sem_control.specs.control.Turn as T
use Rattle.sem_control.specs.control.Turn.{Ask, Answer, Operation, Turn}
use Rattle.sem_control.specs.control.Events.{answered}
use Rattle.sem_code.specs.slots.Slots.{raise, return, jump_to, Completion, normal, by, Slot, value, cell, iterator, exception, pending, exit, Slots, State, on}
use Rattle.sem_code.specs.slots.CodeObject.{CodeObject}
use Rattle.sem_code.specs.slots.Landing.{cut, land}
use Rattle.sem_code.specs.slots.Pops.{Next, values, cells, one, two, three, an_iterator, movable, an_exception, a_completion, an_exit, the_value}
use Rattle.sem_code.specs.slots.Steps.{unmarked, asks, gives, gives_known, branches, decided, dropped, kept, with_item, lets_go}
use Rattle.sem_code.specs.slots.Instructions.{conversion_of, all_positional, last_named, role_of, operates, jumps, perform}
use Rattle.law_origins.specs.Landings.{lands_with}
use Rattle.law_origins.specs.Laws.{IsTold, HasOrigin, InstructionsHaveOrigins}
use Rattle.law_origins.proofs.Landing.{cut_given, given, landed, left}

module _ {V : Type 0} where
  -- slots that lie lowest among others
  data Lowest (all : Slots V) : Slots V → Type 0 where
    lies : (above below : Slots V) → above ++ below ≡ all → Lowest all below

  popped : (all : Slots V) (s : Slot V) (ss : Slots V) → Lowest all (s ∷ ss) → Lowest all ss
  popped all s ss (lies above _ e) = lies (above ++ s ∷ []) ss (append_assoc above (s ∷ []) ss ∙ e)

  all_lowest : (all : Slots V) → Lowest all all
  all_lowest all = lies [] all refl

  cut_lowest : (all below : Slots V) → Lowest all below → cut (length below) all ≡ below
  cut_lowest all _ (lies above below e) =
      subst (λ ss. cut (length below) ss ≡ below) e (cut_given above below)

  -- a state that has these below what was given
  record Above (below : Slots V) (s : State V) : Type 0 where
    pc : ℕ
    over : Slots V
    stands : s ≡ on pc (over ++ below)

  abbrev slots_in : State V → Slots V
  slots_in (on pc ss) = ss
  slots_in _ = []

module _ {V : Type 0} (code : CodeObject V) (pc : ℕ) (i : Ins) (all : Slots V) where
  abbrev P : Turn (State V) V → Type 0
  P t = HasOrigin code i all t

  -- an ask, of whose answers those that are told leave in place what lies below
  asking : (a : Ask V) (below : Slots V) (next : Answer V a → State V) → Lowest all below
      → ((x : Answer V a) → IsTold a x → Above below (next x)) → P (asks code i a below next)
  asking a below next l f = record {
    below = below;
    lowest = cut_lowest all below l;
    behind = λ x t q slots e v.
        let n = f x t in
        let s : n.over ++ below ≡ slots = ap slots_in (sym n.stands ∙ e) in
        subst (λ ss. lands_with code i.rows (length below) ss v ≡ land code i.rows (raise v) below) s
        (given code i.rows n.over below v);
    again = λ e v q held under is. landed code i.rows below under held q e v is;
    left = λ e v end n slots is. left code i.rows below slots n end e v is;
  }

  -- of which nothing is told
  silent : (a : Ask V) (below : Slots V) (next : Answer V a → State V) → Lowest all below
      → ((x : Answer V a) → answered a x ≡ []) → P (asks code i a below next)
  silent a below next l f = asking a below next l (λ x t. absurd (t (f x)))

  of_unmarked : (o : Option ActMark) (s : State V) (t : Turn (State V) V) → P t
      → P (unmarked o s t)
  of_unmarked None s t p = tt
  of_unmarked (Some m) s t p = p

  of_values : (n : ℕ) (over : List V) (ss : Slots V) (next : Next V (List V)) → Lowest all ss
      → ((vs : List V) (below : Slots V) → Lowest all below → P (next vs below))
      → P (values n over ss next)
  of_values zero over ss next l f = f over ss l
  of_values (suc n) over (value v ∷ ss) next l f =
      of_values n (v ∷ over) ss next (popped all (value v) ss l) f
  of_values (suc n) over ss next l f = tt

  of_cells : (n : ℕ) (over : List V) (ss : Slots V) (next : Next V (List V)) → Lowest all ss
      → ((vs : List V) (below : Slots V) → Lowest all below → P (next vs below))
      → P (cells n over ss next)
  of_cells zero over ss next l f = f over ss l
  of_cells (suc n) over (cell v ∷ ss) next l f =
      of_cells n (v ∷ over) ss next (popped all (cell v) ss l) f
  of_cells (suc n) over ss next l f = tt

  of_one : (ss : Slots V) (next : Next V V) → Lowest all ss
      → ((v : V) (below : Slots V) → Lowest all below → P (next v below)) → P (one ss next)
  of_one (value v ∷ ss) next l f = f v ss (popped all (value v) ss l)
  of_one ss next l f = tt

  of_two : (ss : Slots V) (next : V → Next V V) → Lowest all ss
      → ((u v : V) (below : Slots V) → Lowest all below → P (next u v below)) → P (two ss next)
  of_two (value v ∷ value u ∷ ss) next l f =
      f u v ss (popped all (value u) ss (popped all (value v) (value u ∷ ss) l))
  of_two ss next l f = tt

  of_three : (ss : Slots V) (next : V → V → Next V V) → Lowest all ss
      → ((u v w : V) (below : Slots V) → Lowest all below → P (next u v w below))
      → P (three ss next)
  of_three (value w ∷ value v ∷ value u ∷ ss) next l f =
      f u v w ss
      (popped all (value u) ss (popped all (value v) (value u ∷ ss) (popped all (value w) (value v ∷ value u ∷ ss) l)))
  of_three ss next l f = tt

  of_iterator : (ss : Slots V) (next : Next V V) → Lowest all ss
      → ((v : V) (below : Slots V) → Lowest all below → P (next v below))
      → P (an_iterator ss next)
  of_iterator (iterator v ∷ ss) next l f = f v ss (popped all (iterator v) ss l)
  of_iterator ss next l f = tt

  of_movable : (ss : Slots V) (next : Next V (Slot V)) → Lowest all ss
      → ((s : Slot V) (below : Slots V) → Lowest all below → P (next s below))
      → P (movable ss next)
  of_movable (value v ∷ ss) next l f = f (value v) ss (popped all (value v) ss l)
  of_movable (iterator v ∷ ss) next l f = f (iterator v) ss (popped all (iterator v) ss l)
  of_movable ss next l f = tt

  of_exception : (ss : Slots V) (next : Next V V) → Lowest all ss
      → ((v : V) (below : Slots V) → Lowest all below → P (next v below))
      → P (an_exception ss next)
  of_exception (exception v ∷ ss) next l f = f v ss (popped all (exception v) ss l)
  of_exception ss next l f = tt

  of_completion : (ss : Slots V) (next : Next V (Completion V)) → Lowest all ss
      → ((c : Completion V) (below : Slots V) → Lowest all below → P (next c below))
      → P (a_completion ss next)
  of_completion (pending c ∷ ss) next l f = f c ss (popped all (pending c) ss l)
  of_completion ss next l f = tt

  of_exit : (ss : Slots V) (next : Next V V) → Lowest all ss
      → ((v : V) (below : Slots V) → Lowest all below → P (next v below)) → P (an_exit ss next)
  of_exit (exit v ∷ ss) next l f = f v ss (popped all (exit v) ss l)
  of_exit ss next l f = tt

  of_the_value : (n : ℕ) (ss : Slots V) (next : V → Turn (State V) V) → ((v : V) → P (next v))
      → P (the_value n ss next)
  of_the_value (suc zero) (value v ∷ ss) next f = f v
  of_the_value (suc (suc n)) (s ∷ ss) next f = of_the_value (suc n) ss next f
  of_the_value n ss next f = tt

  -- a move, and an act that asks for nothing
  going : (s : State V) (ss : Slots V) → Lowest all ss
      → P (unmarked i.mark s (asks code i (T.deed T.nothing) ss (λ u. s)))
  going s ss l = of_unmarked i.mark s _ (silent (T.deed T.nothing) ss (λ u. s) l (λ x. refl))

  giving : (a : T.Seek V) (ss : Slots V) → Lowest all ss
      → P (asks code i (T.seek a) ss (λ v. on i.next (value v ∷ ss)))
  giving a ss l = silent (T.seek a) ss _ l (λ x. refl)

  doing : (d : T.Deed V) (ss : Slots V) → Lowest all ss
      → P (asks code i (T.deed d) ss (λ u. on i.next ss))
  doing d ss l = silent (T.deed d) ss _ l (λ x. refl)

  leaving : (a : T.Leave V) (s : State V) (ss : Slots V) → Lowest all ss
      → P (unmarked i.mark s (asks code i (T.leave a) ss (λ u. s)))
  leaving a s ss l = of_unmarked i.mark s _ (silent (T.leave a) ss _ l (λ x. refl))

  of_known : (k : Constant) (o : Option V) (ss : Slots V) → Lowest all ss
      → P (gives_known code i k o ss)
  of_known k None ss l = giving (T.const k) ss l
  of_known k (Some v) ss l = of_unmarked i.mark _ _ (giving (T.const k) ss l)

  -- a test that goes on with the slots below, and perhaps what it tested
  abbrev Goes_above : (V → Slots V → State V) → Type 0
  Goes_above f = (v : V) (ss : Slots V) → Above ss (f v ss)

  dropping : (to : ℕ) → Goes_above (dropped to)
  dropping to v ss = record { pc = to; over = []; stands = refl }

  keeping : (to : ℕ) → Goes_above (kept to)
  keeping to v ss = record { pc = to; over = value v ∷ []; stands = refl }

  decides : (b : Bool) (f g : V → Slots V → State V) (v : V) (ss : Slots V) → Goes_above f
      → Goes_above g → Above ss (decided code b f g v ss)
  decides true f g v ss p q = p v ss
  decides false f g v ss p q = q v ss

  testing : (f g : V → Slots V → State V) (v : V) (ss : Slots V) → Lowest all ss → Goes_above f
      → Goes_above g → P (asks code i (T.test (T.branch v)) ss (λ b. decided code b f g v ss))
  testing f g v ss l p q =
      asking (T.test (T.branch v)) ss (λ b. decided code b f g v ss) l (λ b t. decides b f g v ss p q)

  of_branches : (o : Option Bool) (f g : V → Slots V → State V) (v : V) (ss : Slots V)
      → Lowest all ss → Goes_above f → Goes_above g → P (branches code i o f g v ss)
  of_branches None f g v ss l p q = testing f g v ss l p q
  of_branches (Some b) f g v ss l p q = of_unmarked i.mark _ _ (testing f g v ss l p q)

  of_jumps : (f g : V → Slots V → State V) (ss : Slots V) → Lowest all ss → Goes_above f
      → Goes_above g → P (jumps code pc i f g ss)
  of_jumps f g ss l p q =
      of_one ss _ l (λ v below m. of_branches (code.is_truth v) f g v below m p q)

  -- a next item, or none
  item_above : (to : ℕ) (it : V) (ss : Slots V) (o : Option V)
      → Above ss (with_item code i to it ss o)
  item_above to it ss (Some v) = record { pc = i.next; over = value v ∷ iterator it ∷ []; stands = refl }
  item_above to it ss None = record { pc = to; over = []; stands = refl }

  of_lets_go : (c : Completion V) (ss : Slots V) → Lowest all ss → P (lets_go code i c ss)
  of_lets_go normal ss l = going _ ss l
  of_lets_go (by (raise e)) ss l = going _ ss l
  of_lets_go (by (return v)) ss l = going _ ss l
  of_lets_go (by (jump_to t)) ss l = going _ ss l

  of_operates : (op : Operation) (n : ℕ) (ss : Slots V) → Lowest all ss
      → P (operates code pc i op n ss)
  of_operates op n ss l = of_values n [] ss _ l (λ vs below m. giving (T.operate op vs) below m)

  -- the tests of handlers give what they found above the exception's own slots
  matching : (e c : V) (ss : Slots V) → Lowest all ss
      → P (asks code i (T.test (T.matches e c)) ss (λ b. on i.next (value (code.truth b) ∷ ss)))
  matching e c ss l =
      asking (T.test (T.matches e c)) ss (λ b. on i.next (value (code.truth b) ∷ ss)) l
      (λ b t. record { pc = i.next; over = value (code.truth b) ∷ []; stands = refl })

  of_each : (j : Instr) (ss : Slots V) → Lowest all ss → P (perform code pc i j ss)
  of_each instr.Nop ss l = going _ ss l
  of_each (instr.Const k) ss l = of_known (code.pool.constant k.0) _ ss l
  of_each (instr.Local x) ss l = giving _ ss l
  of_each (instr.SetLocal x) ss l = of_one ss _ l (λ v below m. doing _ below m)
  of_each (instr.DelLocal x) ss l = doing _ ss l
  of_each (instr.FreshLocal x) ss l = doing _ ss l
  of_each (instr.Cell x) ss l = giving _ ss l
  of_each (instr.SetCell x) ss l = of_one ss _ l (λ v below m. doing _ below m)
  of_each (instr.DelCell x) ss l = doing _ ss l
  of_each (instr.FreshCell x) ss l = doing _ ss l
  of_each (instr.PushCell x) ss l = silent _ ss _ l (λ y. refl)
  of_each (instr.Global t) ss l = giving _ ss l
  of_each (instr.SetGlobal t) ss l = of_one ss _ l (λ v below m. doing _ below m)
  of_each (instr.DelGlobal t) ss l = doing _ ss l
  of_each (instr.Name t) ss l = giving _ ss l
  of_each (instr.SetName t) ss l = of_one ss _ l (λ v below m. doing _ below m)
  of_each (instr.DelName t) ss l = doing _ ss l
  of_each instr.Pop ss l = of_one ss _ l (λ v below m. of_unmarked i.mark _ _ (doing (T.discard v) below m))
  of_each instr.Copy ss l = of_one ss _ l (λ v below m. going _ below m)
  of_each instr.Copy2 ss l = of_two ss _ l (λ u v below m. going _ below m)
  of_each instr.Swap ss l = of_one ss _ l (λ v below m. of_movable below _ m (λ s under k. going _ under k))
  of_each instr.Rot3 ss l = of_three ss _ l (λ u v w below m. going _ below m)
  of_each (instr.Attr t) ss l = of_operates (T.get (code.pool.text t.0)) 1 ss l
  of_each (instr.SetAttr t) ss l = of_two ss _ l (λ u v below m. doing _ below m)
  of_each (instr.DelAttr t) ss l = of_one ss _ l (λ v below m. doing _ below m)
  of_each instr.Item ss l = of_operates T.item 2 ss l
  of_each instr.SetItem ss l = of_three ss _ l (λ u v w below m. doing _ below m)
  of_each instr.DelItem ss l = of_two ss _ l (λ u v below m. doing _ below m)
  of_each instr.Slice ss l = of_operates T.slice 3 ss l
  of_each (instr.Unary o) ss l = of_operates (T.unary o) 1 ss l
  of_each instr.Not ss l = of_operates T.inverted 1 ss l
  of_each (instr.Binary o) ss l = of_operates (T.binary o) 2 ss l
  of_each (instr.InPlace o) ss l = of_operates (T.in_place o) 2 ss l
  of_each (instr.Compare o) ss l = of_operates (T.compare o) 2 ss l
  of_each (instr.Tuple n) ss l = of_operates T.tuple n ss l
  of_each (instr.List n) ss l = of_operates T.list n ss l
  of_each (instr.Set n) ss l = of_operates T.set n ss l
  of_each (instr.Dict n) ss l = of_operates T.dict (n + n) ss l
  of_each (instr.ListAdd n) ss l = of_one ss _ l (λ v below m. of_the_value n below _ (λ made. doing _ below m))
  of_each (instr.SetAdd n) ss l = of_one ss _ l (λ v below m. of_the_value n below _ (λ made. doing _ below m))
  of_each (instr.DictAdd n) ss l = of_two ss _ l (λ u v below m. of_the_value n below _ (λ made. doing _ below m))
  of_each (instr.Format c) ss l = of_operates (T.format (conversion_of c)) 2 ss l
  of_each (instr.Join n) ss l = of_operates T.join n ss l
  of_each instr.TupleJoin ss l = of_operates code.extras.tuple_join 2 ss l
  of_each instr.DictMerge ss l = of_operates code.extras.dict_merge 2 ss l
  of_each (instr.Unpack n) ss l = of_one ss _ l (λ v below m. silent _ below _ m (λ y. refl))
  of_each (instr.UnpackStar n k) ss l = of_one ss _ l (λ v below m. silent _ below _ m (λ y. refl))
  of_each instr.Spread ss l = of_operates T.spread_out 1 ss l
  of_each instr.SpreadMap ss l = of_operates T.spread_named_out 1 ss l
  of_each (instr.Call n) ss l = of_operates (T.call (all_positional n)) (suc n) ss l
  of_each (instr.CallKw n k) ss l = of_operates (T.call (last_named n (code.pool.texts k.0))) (suc n) ss l
  of_each (instr.CallSpread n k) ss l = of_operates (T.call (map role_of (code.pool.texts k.0))) (suc n) ss l
  of_each instr.Super ss l = of_operates code.extras.super 2 ss l
  of_each (instr.MakeFunction b n k) ss l =
      of_cells (code.pool.captures b.0) [] ss
      (λ cs below. values n cs below (λ vs under. gives code i (T.operate (T.function b.0 (code.pool.texts k.0)) vs) under)) l
      (λ cs below m. of_values n cs below (λ vs under. gives code i (T.operate (T.function b.0 (code.pool.texts k.0)) vs) under) m
      (λ vs under u. giving (T.operate (T.function b.0 (code.pool.texts k.0)) vs) under u))
  of_each (instr.MakeClass b) ss l =
      of_cells (code.pool.captures b.0) [] ss
      (λ cs below. one below (λ base under. gives code i (T.operate (T.class b.0) (base ∷ cs)) under)) l
      (λ cs below m. of_one below (λ base under. gives code i (T.operate (T.class b.0) (base ∷ cs)) under) m
      (λ base under u. giving (T.operate (T.class b.0) (base ∷ cs)) under u))
  of_each (instr.MakeGenerator b) ss l =
      of_cells (code.pool.captures b.0) [] ss
      (λ cs below. an_iterator below (λ it under. gives code i (T.operate (T.generator b.0) (it ∷ cs)) under)) l
      (λ cs below m. of_iterator below (λ it under. gives code i (T.operate (T.generator b.0) (it ∷ cs)) under) m
      (λ it under u. giving (T.operate (T.generator b.0) (it ∷ cs)) under u))
  of_each instr.Iter ss l = of_one ss _ l (λ v below m. silent _ below _ m (λ y. refl))
  of_each (instr.Next t) ss l = of_iterator ss _ l (λ v below m. asking (T.next_of v) below (with_item code i t.0 v below) m (λ o y. item_above t.0 v below o))
  of_each (instr.Jump t) ss l = going _ ss l
  of_each (instr.JumpIf t) ss l = of_jumps (dropped t.0) (dropped i.next) ss l (dropping t.0) (dropping i.next)
  of_each (instr.JumpUnless t) ss l = of_jumps (dropped i.next) (dropped t.0) ss l (dropping i.next) (dropping t.0)
  of_each (instr.JumpIfKeep t) ss l = of_jumps (kept t.0) (dropped i.next) ss l (keeping t.0) (dropping i.next)
  of_each (instr.JumpUnlessKeep t) ss l = of_jumps (dropped i.next) (kept t.0) ss l (dropping i.next) (keeping t.0)
  of_each instr.Return ss l = of_one ss _ l (λ v below m. leaving _ _ below m)
  of_each instr.Yield ss l = of_one ss _ l (λ v below m. giving _ below m)
  of_each instr.Delegate ss l = of_one ss _ l (λ v below m. of_iterator below _ m (λ it under u. silent _ under _ u (λ y. refl)))
  of_each instr.Raise ss l = of_one ss _ l (λ v below m. silent _ below _ m (λ y. refl))
  of_each instr.RaiseFrom ss l = of_two ss _ l (λ u v below m. silent _ below _ m (λ y. refl))
  of_each instr.RaiseAgain ss l = silent _ ss _ l (λ y. refl)
  of_each (instr.AssertFail false) ss l = silent _ ss _ l (λ y. refl)
  of_each (instr.AssertFail true) ss l = of_one ss _ l (λ v below m. silent _ below _ m (λ y. refl))
  of_each (instr.Leave t) ss l = leaving _ _ ss l
  of_each instr.Match ss l = of_one ss _ l (λ c below m. of_exception below _ m (λ e under u. matching e c below m))
  of_each instr.Caught ss l = of_exception ss _ l (λ x below m. going _ ss l)
  of_each instr.EndHandler ss l = of_exception ss _ l (λ x below m. going _ below m)
  of_each instr.Rethrow ss l = of_exception ss _ l (λ x below m. going _ below m)
  of_each instr.Enter ss l = of_one ss _ l (λ v below m. silent _ below _ m (λ y. refl))
  of_each instr.Normal ss l = going _ ss l
  of_each instr.Exit ss l = of_completion ss _ l (λ c below m. of_exit below _ m (λ w under u. silent _ under _ u (λ y. refl)))
  of_each instr.EndFinally ss l = of_completion ss _ l (λ c below m. of_lets_go c below m)
  of_each (instr.Import t) ss l = of_operates (T.import (code.pool.text t.0)) 0 ss l
  of_each (instr.ImportName t) ss l = of_one ss _ l (λ v below m. silent _ ss _ l (λ y. refl))

pub have_origins : {V : Type 0} (code : CodeObject V) (i : Ins) → InstructionsHaveOrigins code i
have_origins code i pc j ss = of_each code pc i ss j ss (all_lowest ss)
