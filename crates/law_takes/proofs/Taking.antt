-- Each instruction takes so many slots, and a raise lands by those below.
use Rattle.std.proofs.Common.{◌≡◌, ℕ, ◌+◌, ◌-◌, zero, suc, Bool, true, false, List, [], ◌∷◌, ◌++◌, map, Option, Some, None, length, refl, sym, ap, ◌∙◌, subst, arith, drop}
use Rattle.std.proofs.lemmas.List.{drop-drop}
use Rattle.pt_ranges.specs.declared.lines.ActMark.{ActMark}
use Rattle.pt_tree.specs.declared.expression.Constant.{Constant}
use Rattle.pt_instr.specs.declared.Instr.{Instr}
use Rattle.pt_instr.specs.declared.Instr.TheVariants as instr
use Rattle.pt_code.specs.View.{Ins}
use Rattle.sem_control.specs.control.Turn as T
use Rattle.sem_control.specs.control.Turn.{Ask, Answer, Operation, Row, Turn}
use Rattle.sem_code.specs.slots.Slots.{raise, return, jump_to, Completion, normal, by, Slot, value, cell, iterator, exception, pending, exit, left_of, Slots, State, on}
use Rattle.sem_code.specs.slots.CodeObject.{CodeObject}
use Rattle.sem_code.specs.slots.Landing.{land}
use Rattle.sem_code.specs.slots.Pops.{Next, values, cells, one, two, three, an_iterator, movable, an_exception, a_completion, an_exit, the_value, giving}
use Rattle.sem_code.specs.slots.Steps.{unmarked, asks, gives, gives_known, branches, decided, dropped, kept, with_item, lets_go}
use Rattle.sem_code.specs.slots.Instructions.{conversion_of, all_positional, last_named, role_of, operates, jumps, perform}
use Rattle.law_origins.specs.Landings.{lands_with}
use Rattle.law_origins.proofs.Landing.{below_what_is_given}
use Rattle.law_takes.specs.Taking.{taken, Gives}
use Rattle.law_takes.specs.Laws.{TakesIfAsked, InstructionsTake}

module _ {V : Type 0} where
  -- these are left where so many are taken
  data Taken (all : Slots V) : ℕ → Slots V → Type 0 where
    nothing : Taken all 0 all
    more : (n : ℕ) (s : Slot V) (ss : Slots V) → Taken all n (s ∷ ss) → Taken all (suc n) ss

  counted : (all : Slots V) (n : ℕ) (below : Slots V) → Taken all n below
      → length all ≡ n + length below
  counted all _ _ nothing = omega arith
  counted all _ _ (more n s ss t) = omega (arith, counted all n (s ∷ ss) t)

  are_left : (all : Slots V) (n : ℕ) (below : Slots V) → Taken all n below → drop n all ≡ below
  are_left all _ _ nothing = refl
  are_left all _ _ (more n s ss t) =
      let one_more : suc n ≡ n + 1 = omega arith in
      ap (λ k. drop k all) one_more ∙ sym (drop-drop 1 n all) ∙ ap (λ us. drop 1 us) (are_left all n (s ∷ ss) t)

  -- a state that has these below what was given
  record Above (below : Slots V) (s : State V) : Type 0 where
    pc : ℕ
    over : Slots V
    stands : s ≡ on pc (over ++ below)

  abbrev slots_in : State V → Slots V
  slots_in (on pc ss) = ss
  slots_in _ = []

  -- so many values lie above the others
  row_above : (m : ℕ) (vs : Row V m) (ss : Slots V)
      → (over : Slots V) × (giving m vs ss ≡ over ++ ss)
  row_above zero u ss = ([], refl)
  row_above (suc m) (v, vs) ss =
      let r = row_above m vs ss in (value v ∷ r.0, ap (λ us. value v ∷ us) r.1)

module _ {V : Type 0} (code : CodeObject V) (pc : ℕ) (i : Ins) (all : Slots V) where
  abbrev P : ℕ → Turn (State V) V → Type 0
  P n t = TakesIfAsked code i n all t

  -- an ask, whose answers leave in place what lies below, if they give something
  asking : {n : ℕ} (a : Ask V) (below : Slots V) (next : Answer V a → State V) → Taken all n below
      → (Gives a → (x : Answer V a) → Above below (next x)) → P n (asks code i a below next)
  asking {n} a below next l f =
      let e = are_left all n below l in
      let c = counted all n below l in
      let d : length all - n ≡ length below = omega (arith, c) in
      record {
        there = omega (arith, c);
        raises = λ v. ap (λ ss. land code i.rows (raise v) ss) (sym e);
        given = λ g x q slots is v.
            let above = f g x in
            let s : above.over ++ below ≡ slots = ap slots_in (sym above.stands ∙ is) in
            ap (λ m. lands_with code i.rows m slots v) d
            ∙ subst (λ ss. lands_with code i.rows (length below) ss v ≡ land code i.rows (raise v) below) s
            (below_what_is_given code i.rows above.over below v);
      }

  -- one that gives nothing
  silent : {n : ℕ} (a : Ask V) (below : Slots V) (next : Answer V a → State V) → Taken all n below
      → (Gives a → ⊥) → P n (asks code i a below next)
  silent a below next l f = asking a below next l (λ g. absurd (f g))

  of_unmarked : (n : ℕ) (o : Option ActMark) (s : State V) (t : Turn (State V) V) → P n t
      → P n (unmarked o s t)
  of_unmarked n None s t p = tt
  of_unmarked n (Some m) s t p = p

  of_values : {n : ℕ} (k : ℕ) (m : ℕ) (over : List V) (ss : Slots V) (next : Next V (List V))
      → Taken all n ss → k ≡ m + n
      → ((vs : List V) (below : Slots V) → Taken all k below → P k (next vs below))
      → P k (values m over ss next)
  of_values {n} k zero over ss next l e f =
      let d : n ≡ k = omega (arith, e) in f over ss (subst (λ j. Taken all j ss) d l)
  of_values {n} k (suc m) over (value v ∷ ss) next l e f =
      of_values _ m (v ∷ over) ss next (more n (value v) ss l) (omega (arith, e)) f
  of_values k (suc m) over ss next l e f = tt

  of_cells : {n : ℕ} (k : ℕ) (m : ℕ) (over : List V) (ss : Slots V) (next : Next V (List V))
      → Taken all n ss
      → ((vs : List V) (below : Slots V) → Taken all (m + n) below → P k (next vs below))
      → P k (cells m over ss next)
  of_cells {n} k zero over ss next l f =
      let d : n ≡ 0 + n = omega arith in f over ss (subst (λ j. Taken all j ss) d l)
  of_cells {n} k (suc m) over (cell v ∷ ss) next l f =
      of_cells _ m (v ∷ over) ss next (more n (cell v) ss l)
      (λ vs below t. let e : m + suc n ≡ suc m + n = omega arith in f vs below (subst (λ j. Taken all j below) e t))
  of_cells k (suc m) over ss next l f = tt

  of_one : {n : ℕ} (k : ℕ) (ss : Slots V) (next : Next V V) → Taken all n ss
      → ((v : V) (below : Slots V) → Taken all (suc n) below → P k (next v below)) → P k (one ss next)
  of_one {n} k (value v ∷ ss) next l f = f v ss (more n (value v) ss l)
  of_one k ss next l f = tt

  of_two : {n : ℕ} (k : ℕ) (ss : Slots V) (next : V → Next V V) → Taken all n ss
      → ((u v : V) (below : Slots V) → Taken all (suc (suc n)) below → P k (next u v below))
      → P k (two ss next)
  of_two {n} k (value v ∷ value u ∷ ss) next l f =
      f u v ss (more (suc n) (value u) ss (more n (value v) (value u ∷ ss) l))
  of_two k ss next l f = tt

  of_three : {n : ℕ} (k : ℕ) (ss : Slots V) (next : V → V → Next V V) → Taken all n ss
      → ((u v w : V) (below : Slots V) → Taken all (suc (suc (suc n))) below
      → P k (next u v w below)) → P k (three ss next)
  of_three {n} k (value w ∷ value v ∷ value u ∷ ss) next l f =
      f u v w ss
      (more (suc (suc n)) (value u) ss (more (suc n) (value v) (value u ∷ ss) (more n (value w) (value v ∷ value u ∷ ss) l)))
  of_three k ss next l f = tt

  of_iterator : {n : ℕ} (k : ℕ) (ss : Slots V) (next : Next V V) → Taken all n ss
      → ((v : V) (below : Slots V) → Taken all (suc n) below → P k (next v below))
      → P k (an_iterator ss next)
  of_iterator {n} k (iterator v ∷ ss) next l f = f v ss (more n (iterator v) ss l)
  of_iterator k ss next l f = tt

  of_exception : {n : ℕ} (k : ℕ) (ss : Slots V) (next : Next V V) → Taken all n ss
      → ((v : V) (below : Slots V) → Taken all (suc n) below → P k (next v below))
      → P k (an_exception ss next)
  of_exception {n} k (exception v ∷ ss) next l f = f v ss (more n (exception v) ss l)
  of_exception k ss next l f = tt

  of_exit : {n : ℕ} (k : ℕ) (ss : Slots V) (next : Next V V) → Taken all n ss
      → ((v : V) (below : Slots V) → Taken all (suc n) below → P k (next v below))
      → P k (an_exit ss next)
  of_exit {n} k (exit v ∷ ss) next l f = f v ss (more n (exit v) ss l)
  of_exit k ss next l f = tt

  of_completion : {n : ℕ} (k : ℕ) (ss : Slots V) (next : Next V (Completion V)) → Taken all n ss
      → ((v : Completion V) (below : Slots V) → Taken all (suc n) below → P k (next v below))
      → P k (a_completion ss next)
  of_completion {n} k (pending v ∷ ss) next l f = f v ss (more n (pending v) ss l)
  of_completion k ss next l f = tt

  of_movable : {n : ℕ} (k : ℕ) (ss : Slots V) (next : Next V (Slot V)) → Taken all n ss
      → ((s : Slot V) (below : Slots V) → Taken all (suc n) below → P k (next s below))
      → P k (movable ss next)
  of_movable {n} k (value v ∷ ss) next l f = f (value v) ss (more n (value v) ss l)
  of_movable {n} k (iterator v ∷ ss) next l f = f (iterator v) ss (more n (iterator v) ss l)
  of_movable k ss next l f = tt

  of_the_value : (k n : ℕ) (ss : Slots V) (next : V → Turn (State V) V)
      → ((v : V) → P k (next v)) → P k (the_value n ss next)
  of_the_value k (suc zero) (value v ∷ ss) next f = f v
  of_the_value k (suc (suc n)) (s ∷ ss) next f = of_the_value _ (suc n) ss next f
  of_the_value k n ss next f = tt

  -- a move, and an act that asks for nothing
  going : {n : ℕ} (s : State V) (ss : Slots V) → Taken all n ss
      → P n (unmarked i.mark s (asks code i (T.deed T.nothing) ss (λ u. s)))
  going s ss l = of_unmarked _ i.mark s _ (silent (T.deed T.nothing) ss (λ u. s) l (λ g. g))

  giving_one : {n : ℕ} (a : T.Seek V) (ss : Slots V) → Taken all n ss
      → P n (asks code i (T.seek a) ss (λ v. on i.next (value v ∷ ss)))
  giving_one a ss l =
      asking (T.seek a) ss _ l (λ g v. record { pc = i.next; over = value v ∷ []; stands = refl })

  doing : {n : ℕ} (d : T.Deed V) (ss : Slots V) → Taken all n ss
      → P n (asks code i (T.deed d) ss (λ u. on i.next ss))
  doing d ss l = silent (T.deed d) ss _ l (λ g. g)

  leaving : {n : ℕ} (a : T.Leave V) (s : State V) (ss : Slots V) → Taken all n ss
      → P n (unmarked i.mark s (asks code i (T.leave a) ss (λ u. s)))
  leaving a s ss l = of_unmarked _ i.mark s _ (silent (T.leave a) ss _ l (λ g. g))

  of_known : {n : ℕ} (k : Constant) (o : Option V) (ss : Slots V) → Taken all n ss
      → P n (gives_known code i k o ss)
  of_known k None ss l = giving_one (T.const k) ss l
  of_known k (Some v) ss l = of_unmarked _ i.mark _ _ (giving_one (T.const k) ss l)

  -- a test that goes on with the slots below, and perhaps what it tested
  abbrev Goes_above : (V → Slots V → State V) → Type 0
  Goes_above f = (v : V) (ss : Slots V) → Above ss (f v ss)

  dropping : (to : ℕ) → Goes_above (dropped to)
  dropping to v ss = record { pc = to; over = []; stands = refl }

  keeping : (to : ℕ) → Goes_above (kept to)
  keeping to v ss = record { pc = to; over = value v ∷ []; stands = refl }

  decides : (b : Bool) (f g : V → Slots V → State V) (v : V) (ss : Slots V) → Goes_above f
      → Goes_above g → Above ss (decided code b f g v ss)
  decides true f g v ss p q = p v ss
  decides false f g v ss p q = q v ss

  testing : {n : ℕ} (f g : V → Slots V → State V) (v : V) (ss : Slots V) → Taken all n ss
      → Goes_above f → Goes_above g
      → P n (asks code i (T.test (T.branch v)) ss (λ b. decided code b f g v ss))
  testing f g v ss l p q =
      asking (T.test (T.branch v)) ss (λ b. decided code b f g v ss) l (λ x b. decides b f g v ss p q)

  of_branches : {n : ℕ} (o : Option Bool) (f g : V → Slots V → State V) (v : V) (ss : Slots V)
      → Taken all n ss → Goes_above f → Goes_above g → P n (branches code i o f g v ss)
  of_branches None f g v ss l p q = testing f g v ss l p q
  of_branches (Some b) f g v ss l p q = of_unmarked _ i.mark _ _ (testing f g v ss l p q)

  of_jumps : (f g : V → Slots V → State V) (ss : Slots V) → Taken all 0 ss → Goes_above f
      → Goes_above g → P 1 (jumps code pc i f g ss)
  of_jumps f g ss l p q =
      of_one _ ss _ l (λ v below m. of_branches (code.is_truth v) f g v below m p q)

  -- a next item, or none
  item_above : (to : ℕ) (it : V) (ss : Slots V) (o : Option V)
      → Above ss (with_item code i to it ss o)
  item_above to it ss (Some v) = record { pc = i.next; over = value v ∷ iterator it ∷ []; stands = refl }
  item_above to it ss None = record { pc = to; over = []; stands = refl }

  -- what is unpacked
  unpacked : (m : ℕ) (vs : Row V m) (ss : Slots V) → Above ss (on i.next (giving m vs ss))
  unpacked m vs ss =
      let r = row_above m vs ss in
      record { pc = i.next; over = r.0; stands = ap (λ us. on i.next us) r.1 }

  of_lets_go : {n : ℕ} (c : Completion V) (ss : Slots V) → Taken all n ss
      → P n (lets_go code i c ss)
  of_lets_go normal ss l = going _ ss l
  of_lets_go (by (raise e)) ss l = going _ ss l
  of_lets_go (by (return v)) ss l = going _ ss l
  of_lets_go (by (jump_to t)) ss l = going _ ss l

  of_operates : (op : Operation) (m : ℕ) (ss : Slots V) → Taken all 0 ss
      → P m (operates code pc i op m ss)
  of_operates op m ss l =
      let e : m ≡ m + 0 = omega arith in
      of_values _ m [] ss _ l e (λ vs below t. giving_one (T.operate op vs) below t)

  -- the tests of handlers give what they found above the exception's own slots
  matching : {n : ℕ} (e c : V) (ss : Slots V) → Taken all n ss
      → P n (asks code i (T.test (T.matches e c)) ss (λ b. on i.next (value (code.truth b) ∷ ss)))
  matching e c ss l =
      asking (T.test (T.matches e c)) ss (λ b. on i.next (value (code.truth b) ∷ ss)) l
      (λ g b. record { pc = i.next; over = value (code.truth b) ∷ []; stands = refl })

  as_many : {n : ℕ} (below : Slots V) → Taken all (n + 0) below → Taken all n below
  as_many {n} below t = let e : n + 0 ≡ n = omega arith in subst (λ k. Taken all k below) e t

  of_each : (j : Instr) (ss : Slots V) → Taken all 0 ss
      → P (taken code.pool j) (perform code pc i j ss)
  of_each instr.Nop ss l = going _ ss l
  of_each (instr.Const k) ss l = of_known (code.pool.constant k.0) _ ss l
  of_each (instr.Local x) ss l = giving_one _ ss l
  of_each (instr.SetLocal x) ss l = of_one _ ss _ l (λ v below m. doing _ below m)
  of_each (instr.DelLocal x) ss l = doing _ ss l
  of_each (instr.FreshLocal x) ss l = doing _ ss l
  of_each (instr.Cell x) ss l = giving_one _ ss l
  of_each (instr.SetCell x) ss l = of_one _ ss _ l (λ v below m. doing _ below m)
  of_each (instr.DelCell x) ss l = doing _ ss l
  of_each (instr.FreshCell x) ss l = doing _ ss l
  of_each (instr.PushCell x) ss l = asking _ ss _ l (λ g y. record { pc = i.next; over = cell y ∷ []; stands = refl })
  of_each (instr.Global t) ss l = giving_one _ ss l
  of_each (instr.SetGlobal t) ss l = of_one _ ss _ l (λ v below m. doing _ below m)
  of_each (instr.DelGlobal t) ss l = doing _ ss l
  of_each (instr.Name t) ss l = giving_one _ ss l
  of_each (instr.SetName t) ss l = of_one _ ss _ l (λ v below m. doing _ below m)
  of_each (instr.DelName t) ss l = doing _ ss l
  of_each instr.Pop ss l = of_one _ ss _ l (λ v below m. of_unmarked _ i.mark _ _ (doing (T.discard v) below m))
  of_each instr.Copy ss l = of_one _ ss _ l (λ v below m. going _ below m)
  of_each instr.Copy2 ss l = of_two _ ss _ l (λ u v below m. going _ below m)
  of_each instr.Swap ss l = of_one _ ss _ l (λ v below m. of_movable _ below _ m (λ s under k. going _ under k))
  of_each instr.Rot3 ss l = of_three _ ss _ l (λ u v w below m. going _ below m)
  of_each (instr.Attr t) ss l = of_operates (T.get (code.pool.text t.0)) 1 ss l
  of_each (instr.SetAttr t) ss l = of_two _ ss _ l (λ u v below m. doing _ below m)
  of_each (instr.DelAttr t) ss l = of_one _ ss _ l (λ v below m. doing _ below m)
  of_each instr.Item ss l = of_operates T.item 2 ss l
  of_each instr.SetItem ss l = of_three _ ss _ l (λ u v w below m. doing _ below m)
  of_each instr.DelItem ss l = of_two _ ss _ l (λ u v below m. doing _ below m)
  of_each instr.Slice ss l = of_operates T.slice 3 ss l
  of_each (instr.Unary o) ss l = of_operates (T.unary o) 1 ss l
  of_each instr.Not ss l = of_operates T.inverted 1 ss l
  of_each (instr.Binary o) ss l = of_operates (T.binary o) 2 ss l
  of_each (instr.InPlace o) ss l = of_operates (T.in_place o) 2 ss l
  of_each (instr.Compare o) ss l = of_operates (T.compare o) 2 ss l
  of_each (instr.Tuple n) ss l = of_operates T.tuple n ss l
  of_each (instr.List n) ss l = of_operates T.list n ss l
  of_each (instr.Set n) ss l = of_operates T.set n ss l
  of_each (instr.Dict n) ss l = of_operates T.dict (n + n) ss l
  of_each (instr.ListAdd n) ss l = of_one _ ss _ l (λ v below m. of_the_value _ n below _ (λ made. doing _ below m))
  of_each (instr.SetAdd n) ss l = of_one _ ss _ l (λ v below m. of_the_value _ n below _ (λ made. doing _ below m))
  of_each (instr.DictAdd n) ss l = of_two _ ss _ l (λ u v below m. of_the_value _ n below _ (λ made. doing _ below m))
  of_each (instr.Format c) ss l = of_operates (T.format (conversion_of c)) 2 ss l
  of_each (instr.Join n) ss l = of_operates T.join n ss l
  of_each instr.TupleJoin ss l = of_operates code.extras.tuple_join 2 ss l
  of_each instr.DictMerge ss l = of_operates code.extras.dict_merge 2 ss l
  of_each (instr.Unpack n) ss l = of_one _ ss _ l (λ v below m. asking _ below _ m (λ g vs. unpacked n vs below))
  of_each (instr.UnpackStar n k) ss l = of_one _ ss _ l (λ v below m. asking _ below _ m (λ g vs. unpacked (n + 1 + k) vs below))
  of_each instr.Spread ss l = of_operates T.spread_out 1 ss l
  of_each instr.SpreadMap ss l = of_operates T.spread_named_out 1 ss l
  of_each (instr.Call n) ss l = of_operates (T.call (all_positional n)) (suc n) ss l
  of_each (instr.CallKw n k) ss l = of_operates (T.call (last_named n (code.pool.texts k.0))) (suc n) ss l
  of_each (instr.CallSpread n k) ss l = of_operates (T.call (map role_of (code.pool.texts k.0))) (suc n) ss l
  of_each instr.Super ss l = of_operates code.extras.super 2 ss l
  of_each (instr.MakeFunction b n k) ss l =
      of_cells _ (code.pool.captures b.0) [] ss
      (λ cs below. values n cs below (λ vs under. gives code i (T.operate (T.function b.0 (code.pool.texts k.0)) vs) under)) l
      (λ cs below m. of_values _ n cs below (λ vs under. gives code i (T.operate (T.function b.0 (code.pool.texts k.0)) vs) under) m
      (let e : n + code.pool.captures b.0 ≡ n + (code.pool.captures b.0 + 0) = omega arith in e)
      (λ vs under u. giving_one (T.operate (T.function b.0 (code.pool.texts k.0)) vs) under u))
  of_each (instr.MakeClass b) ss l =
      of_cells _ (code.pool.captures b.0) [] ss
      (λ cs below. one below (λ base under. gives code i (T.operate (T.class b.0) (base ∷ cs)) under)) l
      (λ cs below m. of_one _ below (λ base under. gives code i (T.operate (T.class b.0) (base ∷ cs)) under) (as_many below m)
      (λ base under u. giving_one (T.operate (T.class b.0) (base ∷ cs)) under u))
  of_each (instr.MakeGenerator b) ss l =
      of_cells _ (code.pool.captures b.0) [] ss
      (λ cs below. an_iterator below (λ it under. gives code i (T.operate (T.generator b.0) (it ∷ cs)) under)) l
      (λ cs below m. of_iterator _ below (λ it under. gives code i (T.operate (T.generator b.0) (it ∷ cs)) under) (as_many below m)
      (λ it under u. giving_one (T.operate (T.generator b.0) (it ∷ cs)) under u))
  of_each instr.Iter ss l = of_one _ ss _ l (λ v below m. asking _ below _ m (λ g y. record { pc = i.next; over = iterator y ∷ []; stands = refl }))
  of_each (instr.Next t) ss l = of_iterator _ ss _ l (λ v below m. asking (T.next_of v) below (with_item code i t.0 v below) m (λ g o. item_above t.0 v below o))
  of_each (instr.Jump t) ss l = going _ ss l
  of_each (instr.JumpIf t) ss l = of_jumps (dropped t.0) (dropped i.next) ss l (dropping t.0) (dropping i.next)
  of_each (instr.JumpUnless t) ss l = of_jumps (dropped i.next) (dropped t.0) ss l (dropping i.next) (dropping t.0)
  of_each (instr.JumpIfKeep t) ss l = of_jumps (kept t.0) (dropped i.next) ss l (keeping t.0) (dropping i.next)
  of_each (instr.JumpUnlessKeep t) ss l = of_jumps (dropped i.next) (kept t.0) ss l (dropping i.next) (keeping t.0)
  of_each instr.Return ss l = of_one _ ss _ l (λ v below m. leaving _ _ below m)
  of_each instr.Yield ss l = of_one _ ss _ l (λ v below m. giving_one _ below m)
  of_each instr.Delegate ss l = of_one _ ss _ l (λ v below m. of_iterator _ below _ m (λ it under u. silent _ under _ u (λ g. g)))
  of_each instr.Raise ss l = of_one _ ss _ l (λ v below m. silent _ below _ m (λ g. g))
  of_each instr.RaiseFrom ss l = of_two _ ss _ l (λ u v below m. silent _ below _ m (λ g. g))
  of_each instr.RaiseAgain ss l = silent _ ss _ l (λ g. g)
  of_each (instr.AssertFail false) ss l = silent _ ss _ l (λ g. g)
  of_each (instr.AssertFail true) ss l = of_one _ ss _ l (λ v below m. silent _ below _ m (λ g. g))
  of_each (instr.Leave t) ss l = leaving _ _ ss l
  of_each instr.Match ss l = of_one _ ss _ l (λ c below m. of_exception _ below _ m (λ e under u. matching e c below m))
  of_each instr.Caught ss l = of_exception _ ss _ l (λ x below m. going _ ss l)
  of_each instr.EndHandler ss l = of_exception _ ss _ l (λ x below m. going _ below m)
  of_each instr.Rethrow ss l = of_exception _ ss _ l (λ x below m. going _ below m)
  of_each instr.Enter ss l = of_one _ ss _ l (λ v below m. asking _ below _ m (λ g y. record { pc = i.next; over = value y.1 ∷ exit y.0 ∷ []; stands = refl }))
  of_each instr.Normal ss l = going _ ss l
  of_each instr.Exit ss l = of_completion _ ss _ l (λ c below m. of_exit _ below _ m (λ w under u. asking _ under _ u (λ g y. record { pc = i.next; over = pending (left_of y c) ∷ []; stands = refl })))
  of_each instr.EndFinally ss l = of_completion _ ss _ l (λ c below m. of_lets_go c below m)
  of_each (instr.Import t) ss l = of_operates (T.import (code.pool.text t.0)) 0 ss l
  of_each (instr.ImportName t) ss l = of_one _ ss _ l (λ v below m. giving_one _ ss l)

pub instructions_take : {V : Type 0} (code : CodeObject V) (i : Ins) → InstructionsTake code i
instructions_take code i pc j ss = of_each code pc i ss j ss nothing
