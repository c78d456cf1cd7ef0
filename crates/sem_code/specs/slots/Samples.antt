-- The code of scripts, to follow the machine by, beside control over the same scripts. A place is the number of its instruction.
use Rattle.std.specs.Prelude.{ℕ, ◌+◌, zero, suc, pos, List, [], ◌∷◌, codes, filter, Bool, true, false, Option, Some, None}
use Rattle.pt_base.specs.declared.operators.BinOp.TheVariants.{Add}
use Rattle.pt_base.specs.declared.operators.CompareOp.TheVariants.{Less}
use Rattle.pt_ranges.specs.declared.lines.ActMark.{ActMark}
use Rattle.pt_ranges.specs.declared.handlers.Handler.{Handler}
use Rattle.pt_ranges.specs.Rows.{covers}
use Rattle.pt_tree.specs.declared.expression.Constant.{Constant}
use Rattle.pt_tree.specs.declared.expression.Constant.TheVariants as constant
use Rattle.pt_tree.specs.Syntax as S
use Rattle.pt_tree.specs.Syntax.{Name, Exp, Stms, none, more}
use Rattle.pt_instr.specs.declared.Instr.{Instr}
use Rattle.pt_instr.specs.declared.Instr.TheVariants as instr
use Rattle.pt_code.specs.View.{Ins}
use Rattle.sem_control.specs.control.Turn as T
use Rattle.sem_control.specs.control.Control as control
use Rattle.sem_control.specs.control.Lines.{numbers}
use Rattle.sem_code.specs.slots.CodeObject.{Pool, CodeObject}
use Rattle.sem_code.specs.slots.Machine as machine
use Rattle.sem_code.specs.slots.Traces.{Given, value, truth, item, done, throws, Told, trace}

-- an instruction, and the act that begins with it
pub record Placed : Type 0 where
  pub instr : Instr
  pub mark : Option ActMark

-- (its place is known once it is laid)
abbrev marked : Bool → (act line : ℕ) → Instr → Placed
marked g n l j = record { instr = j; mark = Some (record { pc = record { 0 = 0 }; act = record { 0 = n }; line = record { 0 = l }; again = g }) }

abbrev pub acts : (act line : ℕ) → Instr → Placed
acts n l j = marked false n l j

-- with this act a re-test begins
abbrev pub again : (act line : ℕ) → Instr → Placed
again n l j = marked true n l j

abbrev pub moves : Instr → Placed
moves j = record { instr = j; mark = None }

abbrev handler : (from to target depth : ℕ) → (always : Bool) → Handler
handler f t p d a = record { from = record { 0 = f }; to = record { 0 = t }; target = record { 0 = p }; depth = d; always = a }

abbrev mark_at : (pc : ℕ) → Option ActMark → Option ActMark
mark_at pc None = None
mark_at pc (Some m) = Some (record m { pc = record { 0 = pc } })

abbrev placed : List Handler → Placed → (pc : ℕ) → Ins
placed rows p pc = record { instr = p.instr; mark = mark_at pc p.mark; next = pc + 1; rows = filter (λ row. covers row (record { 0 = pc })) rows }

-- what stands at a place, so many instructions before which are passed
abbrev pub laid : List Handler → List Placed → (left pc : ℕ) → Option Ins
laid rows [] n pc = None
laid rows (p ∷ ps) zero pc = Some (placed rows p pc)
laid rows (p ∷ ps) (suc n) pc = laid rows ps n pc

abbrev pub item_at : {A : Type 0} → A → List A → ℕ → A
item_at a [] n = a
item_at a (x ∷ xs) zero = x
item_at a (x ∷ xs) (suc n) = item_at a xs n

abbrev pub truth_of : Bool → ℕ
truth_of true = 1
truth_of false = 2

abbrev pub known_truth : ℕ → Option Bool
known_truth zero = None
known_truth (suc zero) = Some true
known_truth (suc (suc zero)) = Some false
known_truth n = None

-- a block with names of its own alone, in which nothing jumps but to where no slots lie
abbrev pool_of : List Constant → List Name → List (List Name) → Pool
pool_of ks xs ls = record {
  constant = item_at constant.None ks;
  text = λ t. [];
  texts = item_at [] ls;
  local = item_at [] xs;
  cell = λ x. record { scope = T.cell; name = [] };
  captures = λ b. 0;
  name_scope = T.global;
}

abbrev code_object : List Constant → List Name → List (List Name) → List Handler → List Placed → CodeObject ℕ
code_object ks xs ls rows ps = record {
  at = λ pc. laid rows ps pc pc;
  depth_at = λ pc. 0;
  pool = pool_of ks xs ls;
  extras = record { tuple_join = T.tuple; dict_merge = T.dict; super = T.item };
  null = 0;
  truth = truth_of;
  is_truth = known_truth;
}

abbrev const : ℕ → Instr
const k = instr.Const (record { 0 = k })

abbrev load : ℕ → Instr
load x = instr.Local (record { 0 = x })

abbrev store : ℕ → Instr
store x = instr.SetLocal (record { 0 = x })

abbrev unbind : ℕ → Instr
unbind x = instr.DelLocal (record { 0 = x })

abbrev fresh : ℕ → Instr
fresh x = instr.FreshLocal (record { 0 = x })

abbrev next : ℕ → Instr
next t = instr.Next (record { 0 = t })

abbrev jump : ℕ → Instr
jump t = instr.Jump (record { 0 = t })

abbrev jump_if : ℕ → Instr
jump_if t = instr.JumpIf (record { 0 = t })

abbrev jump_unless : ℕ → Instr
jump_unless t = instr.JumpUnless (record { 0 = t })

abbrev jump_unless_keep : ℕ → Instr
jump_unless_keep t = instr.JumpUnlessKeep (record { 0 = t })

abbrev leave : ℕ → Instr
leave t = instr.Leave (record { 0 = t })

-- [f(x, *c) for x in d
--  if a < x < b]
abbrev pub gathering : Stms
gathering =
    more (S.expr 1 (S.comprehension 1
    (S.a_list (S.call 1 (S.name 1 (codes "f")) (S.positional (S.name 1 (codes "x")) (S.spread (S.name 1 (codes "c")) S.no_args))))
    1 (S.single (S.name_at 1 (codes "x"))) (S.name 1 (codes "d"))
    (S.only_if (S.compare 2 (S.name 2 (codes "a")) Less (S.name 2 (codes "x")) (S.link Less (S.name 2 (codes "b")) S.no_links)) S.no_clauses))) none

-- of the script that counts
abbrev pub counting_code : CodeObject ℕ
counting_code = code_object (constant.Int (pos 0) ∷ constant.Int (pos 2) ∷ constant.Int (pos 1) ∷ constant.None ∷ []) ((codes "x") ∷ (codes "print") ∷
    []) [] [] (
    acts 0 1 (const 0) ∷ acts 1 1 (store 0) ∷ acts 2 2 (load 0) ∷ acts 3 2 (const 1) ∷ acts 4 2 (instr.Compare Less) ∷
    acts 5 2 (jump_unless 14) ∷ acts 6 3 (load 0) ∷ acts 7 3 (const 2) ∷ acts 8 3 (instr.InPlace Add) ∷ acts 9 3 (store 0) ∷
    again 2 2 (load 0) ∷ acts 3 2 (const 1) ∷ acts 4 2 (instr.Compare Less) ∷ acts 5 2 (jump_if 6) ∷ acts 10 4 (load 1) ∷
    acts 11 4 (load 0) ∷ acts 12 4 (instr.Call 1) ∷ acts 13 4 instr.Pop ∷ moves (const 3) ∷ moves instr.Return ∷
    [])

-- a `return` that a `finally` part holds, and a `break` that replaces it
abbrev pub nested_code : CodeObject ℕ
nested_code = code_object (constant.Int (pos 3) ∷ constant.Int (pos 1) ∷ constant.Str (codes "f") ∷ constant.Int (pos 2) ∷ constant.None ∷
    []) ((codes "range") ∷ (codes "i") ∷ (codes "print") ∷ []) [] (handler 8 12 12 1 true ∷ handler 7 19 19 1 true ∷ []) (
    acts 0 2 (load 0) ∷ acts 1 2 (const 0) ∷ acts 2 2 (instr.Call 1) ∷ acts 3 2 instr.Iter ∷ acts 4 2 (next 23) ∷
    acts 5 2 (store 1) ∷ acts 6 3 instr.Nop ∷ acts 7 4 instr.Nop ∷ acts 8 5 (const 1) ∷ acts 9 5 instr.Return ∷ moves (jump 11) ∷
    moves instr.Normal ∷ acts 10 7 (load 2) ∷ acts 11 7 (const 2) ∷ acts 12 7 (instr.Call 1) ∷ acts 13 7 instr.Pop ∷
    moves instr.EndFinally ∷ moves (jump 18) ∷ moves instr.Normal ∷ acts 14 9 (leave 23) ∷ moves instr.EndFinally ∷
    again 4 2 (next 23) ∷ moves (jump 5) ∷ acts 15 10 (const 3) ∷ acts 16 10 instr.Return ∷ moves (const 4) ∷ moves instr.Return ∷
    [])

-- handlers, one with a name
abbrev pub handled_code : CodeObject ℕ
handled_code = code_object (constant.None ∷ []) ((codes "x") ∷ (codes "ValueError") ∷ (codes "e") ∷ (codes "print") ∷ []) [] (handler 2 4 5 0 false ∷
    handler 10 12 12 1 true ∷ handler 1 19 20 0 false ∷ []) (
    acts 0 1 instr.Nop ∷ acts 1 2 instr.Nop ∷ acts 2 3 (load 0) ∷ acts 3 3 instr.Raise ∷ moves (jump 19) ∷ acts 4 4 (load 1) ∷
    acts 5 4 instr.Match ∷ moves (jump_unless 18) ∷ moves instr.Caught ∷ acts 6 4 (store 2) ∷ acts 7 5 instr.Nop ∷
    moves instr.Normal ∷ moves (const 0) ∷ moves (store 2) ∷ moves (unbind 2) ∷ moves instr.EndFinally ∷ moves instr.EndHandler ∷
    moves (jump 19) ∷ moves instr.Rethrow ∷ moves (jump 30) ∷ moves (const 0) ∷ acts 8 6 instr.Match ∷ moves (jump_unless 29) ∷
    acts 9 7 (load 3) ∷ acts 10 7 (load 2) ∷ acts 11 7 (instr.Call 1) ∷ acts 12 7 instr.Pop ∷ moves instr.EndHandler ∷
    moves (jump 30) ∷ moves instr.Rethrow ∷ moves (const 0) ∷ moves instr.Return ∷
    [])

-- a comprehension, a chain of comparisons and an argument that is spread
abbrev pub gathering_code : CodeObject ℕ
gathering_code = code_object (constant.None ∷ []) ((codes "d") ∷ (codes "x") ∷ (codes "a") ∷ (codes "b") ∷ (codes "f") ∷ (codes "c") ∷
    []) (([] ∷ (codes "*") ∷ []) ∷ []) [] (
    acts 0 1 (load 0) ∷ acts 1 1 instr.Iter ∷ acts 2 1 (instr.List 0) ∷ moves instr.Swap ∷ moves (fresh 1) ∷ acts 3 1 (next 26) ∷
    acts 4 1 (store 1) ∷ acts 5 2 (load 2) ∷ acts 6 2 (load 1) ∷ moves instr.Copy ∷ moves instr.Rot3 ∷
    acts 7 2 (instr.Compare Less) ∷ acts 8 2 (jump_unless_keep 16) ∷ acts 9 2 (load 3) ∷ acts 10 2 (instr.Compare Less) ∷
    moves (jump 18) ∷ moves instr.Swap ∷ moves instr.Pop ∷ acts 11 1 (jump_unless 5) ∷ acts 12 1 (load 4) ∷ acts 13 1 (load 1) ∷
    acts 14 1 (load 5) ∷ acts 15 1 instr.Spread ∷ acts 16 1 (instr.CallSpread 2 (record { 0 = 0 })) ∷ acts 17 1 (instr.ListAdd 2) ∷
    moves (jump 5) ∷ acts 18 1 instr.Pop ∷ moves (const 0) ∷ moves instr.Return ∷
    [])

-- the answers that are given
abbrev pub counting_given : List Given
counting_given =
    value 11 ∷ done ∷ value 13 ∷ value 14 ∷ value 15 ∷ truth true ∷ value 17 ∷ value 18 ∷ value 19 ∷ done ∷ value 21 ∷ value 22 ∷
    value 23 ∷ truth true ∷ value 25 ∷ value 26 ∷ value 27 ∷ done ∷ value 29 ∷ value 30 ∷ value 31 ∷ truth false ∷ value 33 ∷
    value 34 ∷ value 35 ∷ done ∷ []

abbrev pub nested_given : List Given
nested_given =
    value 11 ∷ value 12 ∷ value 13 ∷ value 14 ∷ item (Some 15) ∷ done ∷ done ∷ done ∷ value 19 ∷ done ∷ value 21 ∷ value 22 ∷
    value 23 ∷ done ∷ done ∷ value 26 ∷ done ∷ []

abbrev pub handled_given : List Given
handled_given =
    done ∷ done ∷ value 13 ∷ throws 14 ∷ value 15 ∷ truth true ∷ done ∷ done ∷ []

abbrev pub falls_through_given : List Given
falls_through_given =
    done ∷ done ∷ value 13 ∷ throws 14 ∷ value 15 ∷ truth false ∷ truth true ∷ value 18 ∷ value 19 ∷ value 20 ∷ done ∷ []

abbrev pub gathering_given : List Given
gathering_given =
    value 11 ∷ value 12 ∷ value 13 ∷ item (Some 15) ∷ done ∷ value 17 ∷ value 18 ∷ value 19 ∷ truth true ∷ value 21 ∷ value 22 ∷
    truth true ∷ value 24 ∷ value 25 ∷ value 26 ∷ value 27 ∷ value 28 ∷ done ∷ item (Some 30) ∷ done ∷ value 32 ∷ value 33 ∷
    value 34 ∷ truth false ∷ truth true ∷ value 37 ∷ value 38 ∷ value 39 ∷ value 40 ∷ value 41 ∷ done ∷ item (Some 43) ∷ done ∷
    value 45 ∷ value 46 ∷ value 47 ∷ truth false ∷ truth false ∷ item None ∷ done ∷ []

-- what is told of a script by its tree, and by its code
abbrev pub by_tree : Stms → List Given → List Told
by_tree ss gs = trace (control.turn numbers) 100 gs (control.start numbers ss)

abbrev pub by_code : CodeObject ℕ → List Given → List Told
by_code code gs = trace (machine.turn code) 100 gs machine.start
