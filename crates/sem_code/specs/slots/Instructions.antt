-- What each instruction does, as a table. The slots that are taken stand in the order in which acts give them, the last on top.
use Rattle.std.specs.Prelude.{ℕ, suc, ◌+◌, ◌-◌, List, [], ◌∷◌, ◌++◌, length, map, replicate, true, false, Option, Some, None, if◌then◌else◌, codes}
use Rattle.std.specs.Str.{bytes_eq}
use Rattle.pt_tree.specs.declared.expression.Conversion.{Conversion}
use Rattle.pt_tree.specs.declared.expression.Conversion.TheVariants as tree
use Rattle.pt_tree.specs.Syntax.{Name}
use Rattle.pt_instr.specs.declared.Conversion.{Conversion as Formatting}
use Rattle.pt_instr.specs.declared.Conversion.TheVariants as formatting
use Rattle.pt_instr.specs.declared.Instr.{Instr}
use Rattle.pt_instr.specs.declared.Instr.TheVariants as instr
use Rattle.pt_code.specs.View.{Ins}
use Rattle.sem_control.specs.control.Turn as T
use Rattle.sem_control.specs.control.Turn.{Role, Operation, Turn, got, seek, test, iter_of, next_of, enter, unpack}
use Rattle.sem_code.specs.slots.Slots.{return, jump_to, normal, value, cell, iterator, pending, exit, raise_of, left_of, Slots, State, on, reraises}
use Rattle.sem_code.specs.slots.CodeObject.{CodeObject, local, global, named}
use Rattle.sem_code.specs.slots.Pops.{values, cells, one, two, three, an_iterator, movable, an_exception, a_completion, an_exit, the_value, giving}
use Rattle.sem_code.specs.slots.Steps.{unmarked, dropped, kept, asks, gives, does, throws, goes, leaves, known, gives_known, branches, with_item, delegates, lets_go}

abbrev pub conversion_of : Formatting → Option Conversion
conversion_of formatting.Plain = None
conversion_of formatting.Str = Some tree.Str
conversion_of formatting.Repr = Some tree.Repr

-- how arguments are passed (6.3.4): all by position; the last ones by the names of a list; each as its text says
abbrev pub all_positional : ℕ → List Role
all_positional n = replicate n T.positional

abbrev pub last_named : (n : ℕ) → List Name → List Role
last_named n xs = replicate (n - length xs) T.positional ++ map T.named xs

abbrev pub role_of : Name → Role
role_of [] = T.positional
role_of x = if bytes_eq x (codes "*") then T.spread else (if bytes_eq x (codes "**") then T.spread_named else T.named x)

module _ {V : Type 0} (code : CodeObject V) (pc : ℕ) (i : Ins) where
  -- an operation on so many values
  abbrev pub operates : Operation → (n : ℕ) → Slots V → Turn (State V) V
  operates op n ss = values n [] ss (λ vs below. gives code i (T.operate op vs) below)

  -- a truth decides where it goes on, with the value kept or dropped
  abbrev pub jumps : (if_true if_false : V → Slots V → State V) → Slots V → Turn (State V) V
  jumps on_true on_false ss = one ss (λ v below. branches code i (code.is_truth v) on_true on_false v below)

  abbrev pub perform : Instr → Slots V → Turn (State V) V
  perform instr.Nop ss = goes code i (on i.next ss) ss
  perform (instr.Const k) ss = gives_known code i (code.pool.constant k.0) (known code (code.pool.constant k.0)) ss
  -- names (4.2.2, 7.2, 7.5)
  perform (instr.Local x) ss = gives code i (T.load (local (code.pool.local x.0))) ss
  perform (instr.SetLocal x) ss = one ss (λ v below. does code i (T.store (local (code.pool.local x.0)) v) below)
  perform (instr.DelLocal x) ss = does code i (T.delete (local (code.pool.local x.0))) ss
  perform (instr.FreshLocal x) ss = does code i (T.fresh (local (code.pool.local x.0))) ss
  perform (instr.Cell x) ss = gives code i (T.load (code.pool.cell x.0)) ss
  perform (instr.SetCell x) ss = one ss (λ v below. does code i (T.store (code.pool.cell x.0) v) below)
  perform (instr.DelCell x) ss = does code i (T.delete (code.pool.cell x.0)) ss
  perform (instr.FreshCell x) ss = does code i (T.fresh (code.pool.cell x.0)) ss
  perform (instr.PushCell x) ss = asks code i (seek (T.cell_of (code.pool.cell x.0))) ss (λ v. on i.next (cell v ∷ ss))
  perform (instr.Global t) ss = gives code i (T.load (global (code.pool.text t.0))) ss
  perform (instr.SetGlobal t) ss = one ss (λ v below. does code i (T.store (global (code.pool.text t.0)) v) below)
  perform (instr.DelGlobal t) ss = does code i (T.delete (global (code.pool.text t.0))) ss
  perform (instr.Name t) ss = gives code i (T.load (named code.pool.name_scope (code.pool.text t.0))) ss
  perform (instr.SetName t) ss = one ss (λ v below. does code i (T.store (named code.pool.name_scope (code.pool.text t.0)) v) below)
  perform (instr.DelName t) ss = does code i (T.delete (named code.pool.name_scope (code.pool.text t.0))) ss
  -- slots are dropped, copied and moved
  perform instr.Pop ss = one ss (λ v below. unmarked i.mark (on i.next below) (does code i (T.discard v) below))
  perform instr.Copy ss = one ss (λ v below. goes code i (on i.next (value v ∷ value v ∷ below)) below)
  perform instr.Copy2 ss = two ss (λ a b below. goes code i (on i.next (value b ∷ value a ∷ value b ∷ value a ∷ below)) below)
  perform instr.Swap ss = one ss (λ b below. movable below (λ a under. goes code i (on i.next (a ∷ value b ∷ under)) under))
  perform instr.Rot3 ss = three ss (λ a b c below. goes code i (on i.next (value b ∷ value a ∷ value c ∷ below)) below)
  -- attributes and items (6.3.1, 6.3.2, 7.2, 7.5)
  perform (instr.Attr t) ss = operates (T.get (code.pool.text t.0)) 1 ss
  perform (instr.SetAttr t) ss = two ss (λ v a below. does code i (T.set_attribute (code.pool.text t.0) a v) below)
  perform (instr.DelAttr t) ss = one ss (λ a below. does code i (T.delete_attribute (code.pool.text t.0) a) below)
  perform instr.Item ss = operates T.item 2 ss
  perform instr.SetItem ss = three ss (λ v a j below. does code i (T.set_item a j v) below)
  perform instr.DelItem ss = two ss (λ a j below. does code i (T.delete_item a j) below)
  perform instr.Slice ss = operates T.slice 3 ss
  -- operators (6.5 to 6.12, 7.2.1)
  perform (instr.Unary o) ss = operates (T.unary o) 1 ss
  perform instr.Not ss = operates T.inverted 1 ss
  perform (instr.Binary o) ss = operates (T.binary o) 2 ss
  perform (instr.InPlace o) ss = operates (T.in_place o) 2 ss
  perform (instr.Compare o) ss = operates (T.compare o) 2 ss
  -- displays and comprehensions (6.2.4 to 6.2.7); f-strings (2.4.3)
  perform (instr.Tuple n) ss = operates T.tuple n ss
  perform (instr.List n) ss = operates T.list n ss
  perform (instr.Set n) ss = operates T.set n ss
  perform (instr.Dict n) ss = operates T.dict (n + n) ss
  perform (instr.ListAdd n) ss = one ss (λ v below. the_value n below (λ made. does code i (T.add_to_list made v) below))
  perform (instr.SetAdd n) ss = one ss (λ v below. the_value n below (λ made. does code i (T.add_to_set made v) below))
  perform (instr.DictAdd n) ss = two ss (λ k v below. the_value n below (λ made. does code i (T.add_to_dict made k v) below))
  perform (instr.Format c) ss = operates (T.format (conversion_of c)) 2 ss
  perform (instr.Join n) ss = operates T.join n ss
  perform instr.TupleJoin ss = operates code.extras.tuple_join 2 ss
  perform instr.DictMerge ss = operates code.extras.dict_merge 2 ss
  -- what is unpacked (7.2)
  perform (instr.Unpack n) ss = one ss (λ v below. asks code i (unpack v n None) below (λ vs. on i.next (giving n vs below)))
  perform (instr.UnpackStar n m) ss = one ss (λ v below. asks code i (unpack v (n + 1 + m) (Some n)) below (λ vs. on i.next (giving (n + 1 + m) vs below)))
  -- calls (6.3.4)
  perform instr.Spread ss = operates T.spread_out 1 ss
  perform instr.SpreadMap ss = operates T.spread_named_out 1 ss
  perform (instr.Call n) ss = operates (T.call (all_positional n)) (suc n) ss
  perform (instr.CallKw n l) ss = operates (T.call (last_named n (code.pool.texts l.0))) (suc n) ss
  perform (instr.CallSpread n l) ss = operates (T.call (map role_of (code.pool.texts l.0))) (suc n) ss
  perform instr.Super ss = operates code.extras.super 2 ss
  -- functions, classes and generator expressions, with the cells that their blocks take along (6.2.8, 6.14, 8.7, 8.8)
  perform (instr.MakeFunction b n l) ss =
      cells (code.pool.captures b.0) [] ss
      (λ cs below. values n cs below (λ vs under. gives code i (T.operate (T.function b.0 (code.pool.texts l.0)) vs) under))
  perform (instr.MakeClass b) ss =
      cells (code.pool.captures b.0) [] ss (λ cs below. one below (λ base under. gives code i (T.operate (T.class b.0) (base ∷ cs)) under))
  perform (instr.MakeGenerator b) ss =
      cells (code.pool.captures b.0) [] ss (λ cs below. an_iterator below (λ it under. gives code i (T.operate (T.generator b.0) (it ∷ cs)) under))
  -- iterators (6.2.4, 8.3), and places that are gone to (6.11, 6.13, 8.1, 8.2)
  perform instr.Iter ss = one ss (λ v below. asks code i (iter_of v) below (λ it. on i.next (iterator it ∷ below)))
  perform (instr.Next t) ss = an_iterator ss (λ it below. asks code i (next_of it) below (with_item code i t.0 it below))
  perform (instr.Jump t) ss = goes code i (on t.0 ss) ss
  perform (instr.JumpIf t) ss = jumps (dropped t.0) (dropped i.next) ss
  perform (instr.JumpUnless t) ss = jumps (dropped i.next) (dropped t.0) ss
  perform (instr.JumpIfKeep t) ss = jumps (kept t.0) (dropped i.next) ss
  perform (instr.JumpUnlessKeep t) ss = jumps (dropped i.next) (kept t.0) ss
  -- yields (6.2.9), and what leaves (7.3, 7.6, 7.8 to 7.10)
  perform instr.Return ss = one ss (λ v below. leaves code i (T.returning v) (return v) below)
  perform instr.Yield ss = one ss (λ v below. gives code i (T.yielding v) below)
  perform instr.Delegate ss = one ss (λ v below. an_iterator below (λ it under. delegates code pc i (got v) it v under))
  perform instr.Raise ss = one ss (λ v below. throws code i (T.raising v None) below)
  perform instr.RaiseFrom ss = two ss (λ v c below. throws code i (T.raising v (Some c)) below)
  perform instr.RaiseAgain ss = throws code i T.raising_again ss
  perform (instr.AssertFail false) ss = throws code i (T.failing None) ss
  perform (instr.AssertFail true) ss = one ss (λ m below. throws code i (T.failing (Some m)) below)
  perform (instr.Leave t) ss = leaves code i T.jumping (jump_to t.0) ss
  -- handlers, exits and what is held (8.4, 8.5)
  perform instr.Match ss =
      one ss (λ c below. an_exception below (λ e under. asks code i (test (T.matches e c)) below (λ b. on i.next (value (code.truth b) ∷ below))))
  perform instr.Caught ss = an_exception ss (λ e below. goes code i (on i.next (value e ∷ ss)) ss)
  perform instr.EndHandler ss = an_exception ss (λ e below. goes code i (on i.next below) below)
  perform instr.Rethrow ss = an_exception ss (λ e below. goes code i (reraises e i.rows below) below)
  perform instr.Enter ss = one ss (λ v below. asks code i (enter v) below (λ p. on i.next (value p.1 ∷ exit p.0 ∷ below)))
  perform instr.Normal ss = goes code i (on i.next (pending normal ∷ ss)) ss
  perform instr.Exit ss =
      a_completion ss (λ c below. an_exit below
      (λ w under. asks code i (test (T.exit_of w (raise_of c))) under (λ b. on i.next (pending (left_of b c) ∷ under))))
  perform instr.EndFinally ss = a_completion ss (λ c below. lets_go code i c below)
  -- modules (7.11)
  perform (instr.Import t) ss = operates (T.import (code.pool.text t.0)) 0 ss
  perform (instr.ImportName t) ss =
      one ss (λ m below. asks code i (seek (T.operate (T.import_name (code.pool.text t.0)) (m ∷ []))) ss (λ v. on i.next (value v ∷ ss)))
