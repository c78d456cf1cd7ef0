-- A block that holds every statement, and its code.
use Rattle.std.specs.Prelude.{ℕ, pos, List, [], ◌∷◌, codes, true, false, Some, None}
use Rattle.pt_base.specs.declared.operators.BinOp.TheVariants as binary
use Rattle.pt_ranges.specs.declared.handlers.Handler.{Handler}
use Rattle.pt_code.specs.declared.Start.{Start}
use Rattle.pt_tree.specs.declared.expression.Constant.{Constant}
use Rattle.pt_tree.specs.declared.expression.Constant.TheVariants as constant
use Rattle.pt_tree.specs.Syntax as S
use Rattle.pt_tree.specs.Syntax.{Name, Stms}
use Rattle.pt_instr.specs.declared.Instr.TheVariants as instr
use Rattle.sem_control.specs.control.Turn as T
use Rattle.sem_control.specs.control.Turn.{Variable}
use Rattle.sem_code.specs.slots.CodeObject.{Pool, CodeObject}
use Rattle.sem_code.specs.slots.Samples.{Placed, acts, again, moves, laid, item_at, truth_of, known_truth}
use Rattle.sem_code.specs.comp_expr.Samples.{cell}

-- a.x = b, *c[0] = d = e
-- a += 1
-- a.x -= b
-- a[b] *= c
-- a.x: b
-- b: a = c
-- assert a
-- assert a, b
-- del a, b.x, c[d]
-- import m, n as o
-- from m import p, q as r
--
-- if a:
--     pass
-- elif b:
--     raise
-- else:
--     raise a from b
-- while a:
--     if b:
--         break
--     continue
-- else:
--     raise a
-- for a in b:
--     try:
--         try:
--             break
--         except b as c:
--             continue
--         except d:
--             return a
--         except:
--             a
--         else:
--             pass
--     finally:
--         a
-- else:
--     pass
-- with a as (b, c), d:
--     try:
--         a
--     finally:
--         return
-- @a
-- @b
-- def f(x, y=c):
--     pass
-- class K:
--     pass
-- @a
-- class L(b):
--     pass
-- global a
abbrev pub every_statement : Stms
every_statement =
    (S.more (S.assign 1 (S.more_targets (S.single (S.attribute_at 1 (S.name 1 (codes "a")) (codes "x"))) (S.more_targets (S.several 1 S.as_tuple
    (S.more_targets (S.single (S.name_at 1 (codes "b"))) (S.more_targets (S.starred 1 (S.single (S.item_at 1 (S.name 1 (codes "c")) (S.constant 1
    (constant.Int (pos 0)))))) S.no_targets))) (S.more_targets (S.single (S.name_at 1 (codes "d"))) S.no_targets))) (S.name 1 (codes "e"))) (S.more
    (S.augmented 2 (S.name_at 2 (codes "a")) binary.Add (S.constant 2 (constant.Int (pos 1)))) (S.more (S.augmented 3 (S.attribute_at 3 (S.name 3
    (codes "a")) (codes "x")) binary.Sub (S.name 3 (codes "b"))) (S.more (S.augmented 4 (S.item_at 4 (S.name 4 (codes "a")) (S.name 4 (codes "b")))
    binary.Mul (S.name 4 (codes "c"))) (S.more (S.annotated 5 (S.attribute_at 5 (S.name 5 (codes "a")) (codes "x")) (S.name 5 (codes "b")) S.absent)
    (S.more (S.annotated 6 (S.name_at 6 (codes "b")) (S.name 6 (codes "a")) (S.given (S.name 6 (codes "c")))) (S.more (S.assert 7 (S.name 7 (codes
    "a")) S.absent) (S.more (S.assert 8 (S.name 8 (codes "a")) (S.given (S.name 8 (codes "b")))) (S.more (S.del 9 (S.more_targets (S.single (S.name_at
    9 (codes "a"))) (S.more_targets (S.single (S.attribute_at 9 (S.name 9 (codes "b")) (codes "x"))) (S.more_targets (S.single (S.item_at 9 (S.name 9
    (codes "c")) (S.name 9 (codes "d")))) S.no_targets)))) (S.more (S.import 10 ((record { name = codes "m"; alias = None }) ∷ ((record {
      name = codes
          "n";
      alias = (Some (codes "o"));
    }) ∷ []))) (S.more (S.import_from 11 (codes "m") ((record { name = codes "p"; alias = None }) ∷ ((record {
      name =
          codes "q";
      alias = (Some (codes "r"));
    }) ∷ []))) (S.more (S.choice 13 (S.branch 13 (S.name 13 (codes
    "a")) (S.more (S.pass 14) S.none) (S.branch 15 (S.name 15 (codes "b")) (S.more (S.raise_again 16) S.none) S.no_branches)) (S.more (S.raise 18
    (S.name 18 (codes "a")) (S.given (S.name 18 (codes "b")))) S.none)) (S.more (S.while 19 (S.name 19 (codes "a")) (S.more (S.choice 20 (S.branch 20
    (S.name 20 (codes "b")) (S.more (S.break 21) S.none) S.no_branches) S.none) (S.more (S.continue 22) S.none)) (S.more (S.raise 24 (S.name 24 (codes
    "a")) S.absent) S.none)) (S.more (S.for 25 (S.single (S.name_at 25 (codes "a"))) (S.name 25 (codes "b")) (S.more (S.try 26 (S.more (S.try 27
    (S.more (S.break 28) S.none) (S.handler 29 (S.given (S.name 29 (codes "b"))) (Some (codes "c")) (S.more (S.continue 30) S.none) (S.handler 31
    (S.given (S.name 31 (codes "d"))) None (S.more (S.return 32 (S.given (S.name 32 (codes "a")))) S.none) (S.handler 33 S.absent None (S.more (S.expr
    34 (S.name 34 (codes "a"))) S.none) S.no_handlers))) (S.more (S.pass 36) S.none) S.none) S.none) S.no_handlers S.none (S.more (S.expr 38 (S.name
    38 (codes "a"))) S.none)) S.none) (S.more (S.pass 40) S.none)) (S.more (S.with 41 (S.with_item 41 (S.name 41 (codes "a")) (Some (S.several 41
    S.as_tuple (S.more_targets (S.single (S.name_at 41 (codes "b"))) (S.more_targets (S.single (S.name_at 41 (codes "c"))) S.no_targets))))
    (S.with_item 41 (S.name 41 (codes "d")) None S.no_items)) (S.more (S.try 42 (S.more (S.expr 43 (S.name 43 (codes "a"))) S.none) S.no_handlers
    S.none (S.more (S.return 45 S.absent) S.none)) S.none)) (S.more (S.def 46 (S.decorator 46 (S.name 46 (codes "a")) (S.decorator 47 (S.name 47
    (codes "b")) S.no_decorators)) 48 1 (codes "f") (S.parameters (S.formal 48 (codes "x") S.absent S.absent (S.formal 48 (codes "y") S.absent
    (S.given (S.name 48 (codes "c"))) S.no_formals)) None S.no_formals None) S.absent (S.more (S.pass 49) S.none)) (S.more (S.class 50 S.no_decorators
    50 2 (codes "K") S.absent (S.more (S.pass 51) S.none)) (S.more (S.class 52 (S.decorator 52 (S.name 52 (codes "a")) S.no_decorators) 53 3 (codes
    "L") (S.given (S.name 53 (codes "b"))) (S.more (S.pass 54) S.none)) (S.more (S.global 55 ((codes "a") ∷ [])) S.none)))))))))))))))))))

abbrev pub row_0 : Handler
row_0 = record { from = record { 0 = 94 }; to = record { 0 = 97 }; target = record { 0 = 99 }; depth = 1; always = false }

abbrev pub row_1 : Handler
row_1 = record { from = record { 0 = 104 }; to = record { 0 = 108 }; target = record { 0 = 108 }; depth = 2; always = true }

abbrev pub row_2 : Handler
row_2 = record { from = record { 0 = 93 }; to = record { 0 = 136 }; target = record { 0 = 136 }; depth = 1; always = true }

abbrev pub row_3 : Handler
row_3 = record { from = record { 0 = 151 }; to = record { 0 = 154 }; target = record { 0 = 154 }; depth = 2; always = true }

abbrev pub row_4 : Handler
row_4 = record { from = record { 0 = 149 }; to = record { 0 = 160 }; target = record { 0 = 160 }; depth = 2; always = true }

abbrev pub row_5 : Handler
row_5 = record { from = record { 0 = 144 }; to = record { 0 = 163 }; target = record { 0 = 163 }; depth = 1; always = true }

-- inner rows first
abbrev rows : List Handler
rows = row_0 ∷ row_1 ∷ row_2 ∷ row_3 ∷ row_4 ∷ row_5 ∷ []

abbrev placed : List Placed
placed =
    acts 0 1 (instr.Local (record { 0 = 0 })) ∷ moves instr.Copy ∷ acts 1 1 (instr.Local (record { 0 = 1 })) ∷
    acts 2 1 (instr.SetAttr (record { 0 = 0 })) ∷ moves instr.Copy ∷ acts 3 1 (instr.UnpackStar 1 0) ∷ acts 4 1 (instr.SetLocal (record { 0 = 2 })) ∷
    acts 5 1 (instr.Local (record { 0 = 3 })) ∷ acts 6 1 (instr.Const (record { 0 = 0 })) ∷ acts 7 1 instr.SetItem ∷
    acts 8 1 (instr.SetLocal (record { 0 = 4 })) ∷ acts 9 2 (instr.Local (record { 0 = 1 })) ∷ acts 10 2 (instr.Const (record { 0 = 1 })) ∷
    acts 11 2 (instr.InPlace binary.Add) ∷ acts 12 2 (instr.SetLocal (record { 0 = 1 })) ∷ acts 13 3 (instr.Local (record { 0 = 1 })) ∷
    moves instr.Copy ∷ acts 14 3 (instr.Attr (record { 0 = 0 })) ∷ acts 15 3 (instr.Local (record { 0 = 2 })) ∷
    acts 16 3 (instr.InPlace binary.Sub) ∷ moves instr.Swap ∷ acts 17 3 (instr.SetAttr (record { 0 = 0 })) ∷
    acts 18 4 (instr.Local (record { 0 = 1 })) ∷ acts 19 4 (instr.Local (record { 0 = 2 })) ∷ moves instr.Copy2 ∷ acts 20 4 instr.Item ∷
    acts 21 4 (instr.Local (record { 0 = 3 })) ∷ acts 22 4 (instr.InPlace binary.Mul) ∷ moves instr.Rot3 ∷ acts 23 4 instr.SetItem ∷
    acts 24 5 instr.Nop ∷ acts 25 6 (instr.Local (record { 0 = 3 })) ∷ acts 26 6 (instr.SetLocal (record { 0 = 2 })) ∷
    acts 27 7 (instr.Local (record { 0 = 1 })) ∷ acts 28 7 (instr.JumpIf (record { 0 = 36 })) ∷ acts 29 7 (instr.AssertFail false) ∷
    acts 30 8 (instr.Local (record { 0 = 1 })) ∷ acts 31 8 (instr.JumpIf (record { 0 = 40 })) ∷ acts 32 8 (instr.Local (record { 0 = 2 })) ∷
    acts 33 8 (instr.AssertFail true) ∷ acts 34 9 (instr.DelLocal (record { 0 = 1 })) ∷ acts 35 9 (instr.Local (record { 0 = 2 })) ∷
    acts 36 9 (instr.DelAttr (record { 0 = 0 })) ∷ acts 37 9 (instr.Local (record { 0 = 3 })) ∷ acts 38 9 (instr.Local (record { 0 = 4 })) ∷
    acts 39 9 instr.DelItem ∷ acts 40 10 (instr.Import (record { 0 = 1 })) ∷ acts 41 10 (instr.SetLocal (record { 0 = 5 })) ∷
    acts 42 10 (instr.Import (record { 0 = 2 })) ∷ acts 43 10 (instr.SetLocal (record { 0 = 6 })) ∷ acts 44 11 (instr.Import (record { 0 = 1 })) ∷
    acts 45 11 (instr.ImportName (record { 0 = 3 })) ∷ acts 46 11 (instr.SetLocal (record { 0 = 7 })) ∷
    acts 47 11 (instr.ImportName (record { 0 = 4 })) ∷ acts 48 11 (instr.SetLocal (record { 0 = 8 })) ∷ moves instr.Pop ∷
    acts 49 13 (instr.Local (record { 0 = 1 })) ∷ acts 50 13 (instr.JumpUnless (record { 0 = 60 })) ∷ acts 51 14 instr.Nop ∷
    moves (instr.Jump (record { 0 = 71 })) ∷ acts 52 15 (instr.Local (record { 0 = 2 })) ∷ acts 53 15 (instr.JumpUnless (record { 0 = 66 })) ∷
    moves (instr.Const (record { 0 = 2 })) ∷ moves (instr.JumpUnless (record { 0 = 65 })) ∷ acts 54 16 instr.RaiseAgain ∷
    moves (instr.Jump (record { 0 = 71 })) ∷ moves (instr.Const (record { 0 = 2 })) ∷ moves (instr.JumpUnless (record { 0 = 71 })) ∷
    acts 55 18 (instr.Local (record { 0 = 1 })) ∷ acts 56 18 (instr.Local (record { 0 = 2 })) ∷ acts 57 18 instr.RaiseFrom ∷
    acts 58 19 (instr.Local (record { 0 = 1 })) ∷ acts 59 19 (instr.JumpUnless (record { 0 = 84 })) ∷ acts 60 20 (instr.Local (record { 0 = 2 })) ∷
    acts 61 20 (instr.JumpUnless (record { 0 = 79 })) ∷ moves (instr.Const (record { 0 = 2 })) ∷ moves (instr.JumpUnless (record { 0 = 78 })) ∷
    acts 62 21 (instr.Leave (record { 0 = 88 })) ∷ moves (instr.Jump (record { 0 = 79 })) ∷ moves (instr.Const (record { 0 = 2 })) ∷
    moves (instr.JumpUnless (record { 0 = 82 })) ∷ acts 63 22 (instr.Leave (record { 0 = 82 })) ∷ again 58 19 (instr.Local (record { 0 = 1 })) ∷
    acts 59 19 (instr.JumpIf (record { 0 = 73 })) ∷ moves (instr.Const (record { 0 = 2 })) ∷ moves (instr.JumpUnless (record { 0 = 88 })) ∷
    acts 64 24 (instr.Local (record { 0 = 1 })) ∷ acts 65 24 instr.Raise ∷ acts 66 25 (instr.Local (record { 0 = 2 })) ∷ acts 67 25 instr.Iter ∷
    acts 68 25 (instr.Next (record { 0 = 141 })) ∷ acts 69 25 (instr.SetLocal (record { 0 = 1 })) ∷ acts 70 26 instr.Nop ∷ acts 71 27 instr.Nop ∷
    moves (instr.Const (record { 0 = 2 })) ∷ moves (instr.JumpUnless (record { 0 = 97 })) ∷ acts 72 28 (instr.Leave (record { 0 = 142 })) ∷
    acts 84 36 instr.Nop ∷ moves (instr.Jump (record { 0 = 135 })) ∷ acts 73 29 (instr.Local (record { 0 = 2 })) ∷ acts 74 29 instr.Match ∷
    moves (instr.JumpUnless (record { 0 = 114 })) ∷ moves instr.Caught ∷ acts 75 29 (instr.SetLocal (record { 0 = 3 })) ∷
    moves (instr.Const (record { 0 = 2 })) ∷ moves (instr.JumpUnless (record { 0 = 107 })) ∷ acts 76 30 (instr.Leave (record { 0 = 139 })) ∷
    moves instr.Normal ∷ moves (instr.Const (record { 0 = 3 })) ∷ moves (instr.SetLocal (record { 0 = 3 })) ∷
    moves (instr.DelLocal (record { 0 = 3 })) ∷ moves instr.EndFinally ∷ moves instr.EndHandler ∷ moves (instr.Jump (record { 0 = 135 })) ∷
    acts 77 31 (instr.Local (record { 0 = 4 })) ∷ acts 78 31 instr.Match ∷ moves (instr.JumpUnless (record { 0 = 125 })) ∷ moves instr.Caught ∷ moves instr.Pop ∷
    moves (instr.Const (record { 0 = 2 })) ∷ moves (instr.JumpUnless (record { 0 = 123 })) ∷ acts 79 32 (instr.Local (record { 0 = 1 })) ∷
    acts 80 32 instr.Return ∷ moves instr.EndHandler ∷ moves (instr.Jump (record { 0 = 135 })) ∷ moves (instr.Const (record { 0 = 3 })) ∷
    acts 81 33 instr.Match ∷ moves (instr.JumpUnless (record { 0 = 134 })) ∷ moves instr.Caught ∷ moves instr.Pop ∷ acts 82 34 (instr.Local (record { 0 = 1 })) ∷ acts 83 34 instr.Pop ∷
    moves instr.EndHandler ∷ moves (instr.Jump (record { 0 = 135 })) ∷ moves instr.Rethrow ∷ moves instr.Normal ∷
    acts 85 38 (instr.Local (record { 0 = 1 })) ∷ acts 86 38 instr.Pop ∷ moves instr.EndFinally ∷ again 68 25 (instr.Next (record { 0 = 141 })) ∷
    moves (instr.Jump (record { 0 = 91 })) ∷ acts 87 40 instr.Nop ∷ acts 88 41 (instr.Local (record { 0 = 1 })) ∷ acts 89 41 instr.Enter ∷
    acts 90 41 (instr.Unpack 2) ∷ acts 91 41 (instr.SetLocal (record { 0 = 2 })) ∷ acts 92 41 (instr.SetLocal (record { 0 = 3 })) ∷
    acts 93 41 (instr.Local (record { 0 = 4 })) ∷ acts 94 41 instr.Enter ∷ moves instr.Pop ∷ acts 95 42 instr.Nop ∷
    acts 96 43 (instr.Local (record { 0 = 1 })) ∷ acts 97 43 instr.Pop ∷ moves instr.Normal ∷ moves (instr.Const (record { 0 = 2 })) ∷
    moves (instr.JumpUnless (record { 0 = 158 })) ∷ moves (instr.Const (record { 0 = 3 })) ∷ acts 98 45 instr.Return ∷ moves instr.EndFinally ∷
    moves instr.Normal ∷ acts 99 41 instr.Exit ∷ moves instr.EndFinally ∷ moves instr.Normal ∷ acts 100 41 instr.Exit ∷ moves instr.EndFinally ∷
    acts 101 46 (instr.Local (record { 0 = 1 })) ∷ acts 102 47 (instr.Local (record { 0 = 2 })) ∷ acts 103 48 (instr.Local (record { 0 = 3 })) ∷
    moves (instr.PushCell (record { 0 = 0 })) ∷ acts 104 48 (instr.MakeFunction (record { 0 = 1 }) 1 (record { 0 = 0 })) ∷
    acts 105 47 (instr.Call 1) ∷ acts 106 46 (instr.Call 1) ∷ acts 107 48 (instr.SetLocal (record { 0 = 9 })) ∷
    moves (instr.Const (record { 0 = 3 })) ∷ moves (instr.PushCell (record { 0 = 0 })) ∷ acts 108 50 (instr.MakeClass (record { 0 = 2 })) ∷
    acts 109 50 (instr.SetLocal (record { 0 = 10 })) ∷ acts 110 52 (instr.Local (record { 0 = 1 })) ∷ acts 111 53 (instr.Local (record { 0 = 2 })) ∷
    moves (instr.PushCell (record { 0 = 0 })) ∷ acts 112 53 (instr.MakeClass (record { 0 = 3 })) ∷ acts 113 52 (instr.Call 1) ∷
    acts 114 53 (instr.SetLocal (record { 0 = 11 })) ∷ moves instr.Nop ∷ moves (instr.Const (record { 0 = 3 })) ∷ moves instr.Return ∷ []

abbrev constants : List Constant
constants = (constant.Int (pos 0)) ∷ (constant.Int (pos 1)) ∷ (constant.Bool true) ∷ constant.None ∷ []

abbrev names : List Name
names = codes "e" ∷ codes "a" ∷ codes "b" ∷ codes "c" ∷ codes "d" ∷ codes "m" ∷ codes "o" ∷ codes "p" ∷ codes "r" ∷ codes "f" ∷ codes "K" ∷ codes "L" ∷ []

abbrev texts : List Name
texts = codes "x" ∷ codes "m" ∷ codes "n" ∷ codes "p" ∷ codes "q" ∷ []

abbrev lists : List (List Name)
lists = (codes "y" ∷ []) ∷ []

abbrev start : (pc line : ℕ) → Start
start p l = record { pc = record { 0 = p }; line = record { 0 = l } }

abbrev pub every_statement_starts : List Start
every_statement_starts =
    start 0 1 ∷ start 11 2 ∷ start 15 3 ∷ start 22 4 ∷ start 30 5 ∷ start 31 6 ∷ start 33 7 ∷ start 36 8 ∷ start 40 9 ∷ start 46 10 ∷ start 50 11 ∷
    start 56 13 ∷ start 58 14 ∷ start 62 16 ∷ start 66 18 ∷ start 71 19 ∷ start 73 20 ∷ start 75 21 ∷ start 79 22 ∷ start 84 24 ∷
    start 88 25 ∷ start 92 26 ∷ start 93 27 ∷ start 94 28 ∷ start 97 36 ∷ start 104 30 ∷ start 119 32 ∷ start 130 34 ∷ start 136 38 ∷ start 141 40 ∷
    start 142 41 ∷ start 150 42 ∷ start 151 43 ∷ start 154 45 ∷ start 165 46 ∷ start 173 50 ∷ start 177 52 ∷ start 183 55 ∷ []

-- how many slots lie where loops go on and end
abbrev depths : List ℕ
depths =
    0 ∷ 0 ∷ 0 ∷ 0 ∷ 0 ∷ 0 ∷ 0 ∷ 0 ∷ 0 ∷ 0 ∷ 0 ∷ 0 ∷ 0 ∷ 0 ∷ 0 ∷ 0 ∷ 0 ∷ 0 ∷ 0 ∷ 0 ∷ 0 ∷ 0 ∷ 0 ∷ 0 ∷ 0 ∷ 0 ∷ 0 ∷ 0 ∷ 0 ∷ 0 ∷ 0 ∷ 0 ∷ 0 ∷ 0 ∷ 0 ∷ 0 ∷
    0 ∷ 0 ∷ 0 ∷ 0 ∷ 0 ∷ 0 ∷ 0 ∷ 0 ∷ 0 ∷ 0 ∷ 0 ∷ 0 ∷ 0 ∷ 0 ∷ 0 ∷ 0 ∷ 0 ∷ 0 ∷ 0 ∷ 0 ∷ 0 ∷ 0 ∷ 0 ∷ 0 ∷ 0 ∷ 0 ∷ 0 ∷ 0 ∷ 0 ∷ 0 ∷ 0 ∷ 0 ∷ 0 ∷ 0 ∷ 0 ∷ 0 ∷
    0 ∷ 0 ∷ 0 ∷ 0 ∷ 0 ∷ 0 ∷ 0 ∷ 0 ∷ 0 ∷ 0 ∷ 0 ∷ 0 ∷ 0 ∷ 0 ∷ 0 ∷ 0 ∷ 0 ∷ 0 ∷ 0 ∷ 0 ∷ 0 ∷ 0 ∷ 0 ∷ 0 ∷ 0 ∷ 0 ∷ 0 ∷ 0 ∷ 0 ∷ 0 ∷ 0 ∷ 0 ∷ 0 ∷ 0 ∷ 0 ∷ 0 ∷
    0 ∷ 0 ∷ 0 ∷ 0 ∷ 0 ∷ 0 ∷ 0 ∷ 0 ∷ 0 ∷ 0 ∷ 0 ∷ 0 ∷ 0 ∷ 0 ∷ 0 ∷ 0 ∷ 0 ∷ 0 ∷ 0 ∷ 0 ∷ 0 ∷ 0 ∷ 0 ∷ 0 ∷ 0 ∷ 0 ∷ 0 ∷ 0 ∷ 0 ∷ 0 ∷ 0 ∷ 1 ∷ []

abbrev pool : Pool
pool = record {
  constant = item_at constant.None constants;
  text = item_at [] texts;
  texts = item_at [] lists;
  local = item_at [] names;
  cell = λ x. cell;
  captures = λ b. 1;
  name_scope = T.global;
}

abbrev pub every_statement_code : CodeObject ℕ
every_statement_code = record {
  at = λ pc. laid rows placed pc pc;
  depth_at = item_at 0 depths;
  pool = pool;
  extras = record { tuple_join = T.tuple; dict_merge = T.dict; super = T.item };
  null = 0;
  truth = truth_of;
  is_truth = known_truth;
}
