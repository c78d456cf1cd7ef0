-- An expression that holds every form, and its code.
use Rattle.std.specs.Prelude.{ℕ, pos, List, [], ◌∷◌, codes, Some, None}
use Rattle.pt_base.specs.declared.operators.BinOp.TheVariants as binary
use Rattle.pt_base.specs.declared.operators.UnOp.TheVariants as unary
use Rattle.pt_base.specs.declared.operators.CompareOp.TheVariants as comparison
use Rattle.pt_tree.specs.declared.expression.Constant.{Constant}
use Rattle.pt_tree.specs.declared.expression.Constant.TheVariants as constant
use Rattle.pt_tree.specs.declared.expression.Conversion.TheVariants as tree
use Rattle.pt_tree.specs.Syntax as S
use Rattle.pt_tree.specs.Syntax.{Name, Exp}
use Rattle.pt_instr.specs.declared.Conversion.TheVariants as formatting
use Rattle.pt_instr.specs.declared.Instr.TheVariants as instr
use Rattle.sem_control.specs.control.Turn as T
use Rattle.sem_control.specs.control.Turn.{Variable, Around}
use Rattle.sem_code.specs.slots.CodeObject.{Pool, CodeObject, local}
use Rattle.sem_code.specs.slots.Samples.{Placed, acts, moves, laid, item_at, truth_of, known_truth}

-- each name is a local one, and each block takes the cell of `c` along
abbrev pub cell : Variable
cell = record { scope = T.cell; name = codes "c" }

abbrev pub sample_block : Around ℕ
sample_block = record { null = 0; variable = λ within x. local x; spelled = λ x. x; captured = λ block. cell ∷ [] }

-- ( d and not e if a < b <= c else d or 7 or e,
--   f(1, *g, k=-h, **o), a.x(1 + b, k=[]), a[1::c], a[:c:], f"x={x!r:>{w}}{y:d}",
--   lambda p, q=1, *, r=z: p, (v for v in t), {"k": (yield {1})}, (yield), [x for x in t if x],
--   {k: v for k, *v in t for a.x in u for b[0] in w}, {x for [x] in t}, (yield from u), None)
abbrev pub every_form : Exp
every_form =
    (S.tuple 1 (S.more_exps (S.conditional 1 (S.compare 1 (S.name 1 (codes "a")) comparison.Less (S.name 1 (codes "b")) (S.link comparison.LessEqual
    (S.name 2 (codes "c")) S.no_links)) (S.and 2 (S.name 2 (codes "d")) (S.more_exps (S.not_of 2 (S.name 2 (codes "e"))) S.no_exps)) (S.or 3 (S.name 3
    (codes "d")) (S.more_exps (S.constant 3 (constant.Int (pos 7))) (S.more_exps (S.name 3 (codes "e")) S.no_exps)))) (S.more_exps (S.call 4 (S.name 4
    (codes "f")) (S.positional (S.constant 4 (constant.Int (pos 1))) (S.spread (S.name 5 (codes "g")) (S.named (codes "k") (S.unary 5 unary.Minus
    (S.name 5 (codes "h"))) (S.spread_named (S.name 5 (codes "o")) S.no_args))))) (S.more_exps (S.call 6 (S.attribute 6 (S.name 6 (codes "a")) (codes
    "x")) (S.positional (S.binary 6 binary.Add (S.constant 6 (constant.Int (pos 1))) (S.name 6 (codes "b"))) (S.named (codes "k") (S.list 6 S.no_exps)
    S.no_args))) (S.more_exps (S.item 7 (S.name 7 (codes "a")) (S.slice 7 (S.given (S.constant 7 (constant.Int (pos 1)))) S.absent (S.given (S.name 7
    (codes "c"))))) (S.more_exps (S.item 7 (S.name 7 (codes "a")) (S.slice 7 S.absent (S.given (S.name 7 (codes "c"))) S.absent)) (S.more_exps
    (S.joined 8 (S.literal 8 (codes "x=") (S.field 8 (S.name 8 (codes "x")) (Some tree.Repr) (S.literal 8 (codes ">") (S.field 8 (S.name 8 (codes
    "w")) None S.no_pieces S.no_pieces)) (S.field 8 (S.name 8 (codes "y")) None (S.literal 8 (codes "d") S.no_pieces) S.no_pieces)))) (S.more_exps
    (S.lambda 9 1 (S.parameters (S.formal 9 (codes "p") S.absent S.absent (S.formal 9 (codes "q") S.absent (S.given (S.constant 9 (constant.Int (pos
    1)))) S.no_formals)) None (S.formal 9 (codes "r") S.absent (S.given (S.name 9 (codes "z"))) S.no_formals) None) (S.name 9 (codes "p")))
    (S.more_exps (S.generator 10 2 (S.name 10 (codes "v")) 10 (S.single (S.name_at 10 (codes "v"))) (S.name 10 (codes "t")) S.no_clauses) (S.more_exps
    (S.dict 11 (S.entry (S.constant 11 (constant.Str (codes "k"))) (S.yield 11 (S.given (S.set 11 (S.more_exps (S.constant 11 (constant.Int (pos 1)))
    S.no_exps)))) S.no_entries)) (S.more_exps (S.yield 12 S.absent) (S.more_exps (S.comprehension 14 (S.a_list (S.name 14 (codes "x"))) 14 (S.single
    (S.name_at 14 (codes "x"))) (S.name 14 (codes "t")) (S.only_if (S.name 14 (codes "x")) S.no_clauses)) (S.more_exps (S.comprehension 15 (S.a_dict
    (S.name 15 (codes "k")) (S.name 15 (codes "v"))) 15 (S.several 15 S.as_tuple (S.more_targets (S.single (S.name_at 15 (codes "k"))) (S.more_targets
    (S.starred 15 (S.single (S.name_at 15 (codes "v")))) S.no_targets))) (S.name 15 (codes "t")) (S.for_each 16 (S.single (S.attribute_at 16 (S.name
    16 (codes "a")) (codes "x"))) (S.name 16 (codes "u")) (S.for_each 17 (S.single (S.item_at 17 (S.name 17 (codes "b")) (S.constant 17 (constant.Int
    (pos 0))))) (S.name 17 (codes "w")) S.no_clauses))) (S.more_exps (S.comprehension 18 (S.a_set (S.name 18 (codes "x"))) 18 (S.several 18 S.as_list
    (S.more_targets (S.single (S.name_at 18 (codes "x"))) S.no_targets)) (S.name 18 (codes "t")) S.no_clauses) (S.more_exps (S.yield_from 12 (S.name
    12 (codes "u"))) (S.more_exps (S.constant 13 constant.None) S.no_exps))))))))))))))))

abbrev placed : List Placed
placed =
    acts 0 1 (instr.Local (record { 0 = 0 })) ∷ acts 1 1 (instr.Local (record { 0 = 1 })) ∷ moves instr.Copy ∷ moves instr.Rot3 ∷
    acts 2 1 (instr.Compare comparison.Less) ∷ acts 3 1 (instr.JumpUnlessKeep (record { 0 = 9 })) ∷
    acts 4 2 (instr.Local (record { 0 = 2 })) ∷ acts 5 1 (instr.Compare comparison.LessEqual) ∷ moves (instr.Jump (record { 0 = 11 })) ∷
    moves instr.Swap ∷ moves instr.Pop ∷ acts 6 1 (instr.JumpUnless (record { 0 = 17 })) ∷ acts 7 2 (instr.Local (record { 0 = 3 })) ∷
    acts 8 2 (instr.JumpUnlessKeep (record { 0 = 16 })) ∷ acts 9 2 (instr.Local (record { 0 = 4 })) ∷ acts 10 2 instr.Not ∷
    moves (instr.Jump (record { 0 = 22 })) ∷ acts 11 3 (instr.Local (record { 0 = 3 })) ∷ acts 12 3 (instr.JumpIfKeep (record { 0 = 22 })) ∷
    acts 13 3 (instr.Const (record { 0 = 0 })) ∷ acts 14 3 (instr.JumpIfKeep (record { 0 = 22 })) ∷
    acts 15 3 (instr.Local (record { 0 = 4 })) ∷ acts 16 4 (instr.Local (record { 0 = 5 })) ∷ acts 17 4 (instr.Const (record { 0 = 1 })) ∷
    acts 18 5 (instr.Local (record { 0 = 6 })) ∷ acts 19 4 instr.Spread ∷ acts 20 5 (instr.Local (record { 0 = 7 })) ∷
    acts 21 5 (instr.Unary unary.Minus) ∷ acts 22 5 (instr.Local (record { 0 = 8 })) ∷ acts 23 4 instr.SpreadMap ∷
    acts 24 4 (instr.CallSpread 4 (record { 0 = 0 })) ∷ acts 25 6 (instr.Local (record { 0 = 0 })) ∷
    acts 26 6 (instr.Attr (record { 0 = 0 })) ∷ acts 27 6 (instr.Const (record { 0 = 1 })) ∷ acts 28 6 (instr.Local (record { 0 = 1 })) ∷
    acts 29 6 (instr.Binary binary.Add) ∷ acts 30 6 (instr.List 0) ∷ acts 31 6 (instr.CallKw 2 (record { 0 = 1 })) ∷
    acts 32 7 (instr.Local (record { 0 = 0 })) ∷ acts 33 7 (instr.Const (record { 0 = 1 })) ∷ moves (instr.Const (record { 0 = 2 })) ∷
    acts 34 7 (instr.Local (record { 0 = 2 })) ∷ acts 35 7 instr.Slice ∷ acts 36 7 instr.Item ∷ acts 37 7 (instr.Local (record { 0 = 0 })) ∷
    moves (instr.Const (record { 0 = 2 })) ∷ acts 38 7 (instr.Local (record { 0 = 2 })) ∷ moves (instr.Const (record { 0 = 2 })) ∷
    acts 39 7 instr.Slice ∷ acts 40 7 instr.Item ∷ acts 41 8 (instr.Const (record { 0 = 3 })) ∷ acts 42 8 (instr.Local (record { 0 = 9 })) ∷
    acts 43 8 (instr.Const (record { 0 = 4 })) ∷ acts 44 8 (instr.Local (record { 0 = 10 })) ∷ moves (instr.Const (record { 0 = 2 })) ∷
    acts 45 8 (instr.Format formatting.Plain) ∷ acts 46 8 (instr.Join 2) ∷ acts 47 8 (instr.Format formatting.Repr) ∷
    acts 48 8 (instr.Local (record { 0 = 11 })) ∷ acts 49 8 (instr.Const (record { 0 = 5 })) ∷ acts 50 8 (instr.Format formatting.Plain) ∷
    acts 51 8 (instr.Join 3) ∷ acts 52 9 (instr.Const (record { 0 = 1 })) ∷ acts 53 9 (instr.Local (record { 0 = 12 })) ∷
    moves (instr.PushCell (record { 0 = 0 })) ∷ acts 54 9 (instr.MakeFunction (record { 0 = 1 }) 2 (record { 0 = 2 })) ∷
    acts 55 10 (instr.Local (record { 0 = 13 })) ∷ acts 56 10 instr.Iter ∷ moves (instr.PushCell (record { 0 = 0 })) ∷
    acts 57 10 (instr.MakeGenerator (record { 0 = 2 })) ∷ acts 58 11 (instr.Const (record { 0 = 6 })) ∷
    acts 59 11 (instr.Const (record { 0 = 1 })) ∷ acts 60 11 (instr.Set 1) ∷ acts 61 11 instr.Yield ∷ acts 62 11 (instr.Dict 1) ∷
    moves (instr.Const (record { 0 = 2 })) ∷ acts 63 12 instr.Yield ∷ acts 64 14 (instr.Local (record { 0 = 13 })) ∷ acts 65 14 instr.Iter ∷
    acts 66 14 (instr.List 0) ∷ moves instr.Swap ∷ moves (instr.FreshLocal (record { 0 = 9 })) ∷
    acts 67 14 (instr.Next (record { 0 = 89 })) ∷ acts 68 14 (instr.SetLocal (record { 0 = 9 })) ∷
    acts 69 14 (instr.Local (record { 0 = 9 })) ∷ acts 70 14 (instr.JumpUnless (record { 0 = 82 })) ∷
    acts 71 14 (instr.Local (record { 0 = 9 })) ∷ acts 72 14 (instr.ListAdd 2) ∷ moves (instr.Jump (record { 0 = 82 })) ∷
    acts 73 15 (instr.Local (record { 0 = 13 })) ∷ acts 74 15 instr.Iter ∷ acts 75 15 (instr.Dict 0) ∷ moves instr.Swap ∷
    moves (instr.FreshLocal (record { 0 = 14 })) ∷ moves (instr.FreshLocal (record { 0 = 15 })) ∷
    acts 76 15 (instr.Next (record { 0 = 114 })) ∷ acts 77 15 (instr.UnpackStar 1 0) ∷ acts 78 15 (instr.SetLocal (record { 0 = 14 })) ∷
    acts 79 15 (instr.SetLocal (record { 0 = 15 })) ∷ acts 80 16 (instr.Local (record { 0 = 16 })) ∷ acts 81 16 instr.Iter ∷
    acts 82 16 (instr.Next (record { 0 = 95 })) ∷ acts 83 16 (instr.Local (record { 0 = 0 })) ∷
    acts 84 16 (instr.SetAttr (record { 0 = 0 })) ∷ acts 85 17 (instr.Local (record { 0 = 10 })) ∷ acts 86 17 instr.Iter ∷
    acts 87 17 (instr.Next (record { 0 = 101 })) ∷ acts 88 17 (instr.Local (record { 0 = 1 })) ∷
    acts 89 17 (instr.Const (record { 0 = 7 })) ∷ acts 90 17 instr.SetItem ∷ acts 91 15 (instr.Local (record { 0 = 14 })) ∷
    acts 92 15 (instr.Local (record { 0 = 15 })) ∷ acts 93 15 (instr.DictAdd 4) ∷ moves (instr.Jump (record { 0 = 106 })) ∷
    acts 94 18 (instr.Local (record { 0 = 13 })) ∷ acts 95 18 instr.Iter ∷ acts 96 18 (instr.Set 0) ∷ moves instr.Swap ∷
    moves (instr.FreshLocal (record { 0 = 9 })) ∷ acts 97 18 (instr.Next (record { 0 = 125 })) ∷ acts 98 18 (instr.Unpack 1) ∷
    acts 99 18 (instr.SetLocal (record { 0 = 9 })) ∷ acts 100 18 (instr.Local (record { 0 = 9 })) ∷ acts 101 18 (instr.SetAdd 2) ∷
    moves (instr.Jump (record { 0 = 119 })) ∷ acts 102 12 (instr.Local (record { 0 = 16 })) ∷ acts 103 12 instr.Iter ∷
    moves (instr.Const (record { 0 = 2 })) ∷ acts 104 12 instr.Delegate ∷ acts 105 13 (instr.Const (record { 0 = 2 })) ∷
    acts 106 1 (instr.Tuple 15) ∷
    []

abbrev constants : List Constant
constants = constant.Int (pos 7) ∷ constant.Int (pos 1) ∷ constant.None ∷ constant.Str (codes "x=") ∷ constant.Str (codes ">") ∷
    constant.Str (codes "d") ∷ constant.Str (codes "k") ∷ constant.Int (pos 0) ∷ []

abbrev names : List Name
names = (codes "a") ∷ (codes "b") ∷ (codes "c") ∷ (codes "d") ∷ (codes "e") ∷ (codes "f") ∷ (codes "g") ∷ (codes "h") ∷ (codes "o") ∷ (codes "x") ∷
    (codes "w") ∷ (codes "y") ∷ (codes "z") ∷ (codes "t") ∷ (codes "k") ∷ (codes "v") ∷ (codes "u") ∷ []

abbrev texts : List Name
texts = (codes "x") ∷ []

abbrev lists : List (List Name)
lists = ([] ∷ (codes "*") ∷ (codes "k") ∷ (codes "**") ∷ []) ∷ ((codes "k") ∷ []) ∷ ((codes "q") ∷ (codes "r") ∷ []) ∷ []

abbrev pool : Pool
pool = record {
  constant = item_at constant.None constants;
  text = item_at [] texts;
  texts = item_at [] lists;
  local = item_at [] names;
  cell = λ x. cell;
  captures = λ b. 1;
  name_scope = T.global;
}

abbrev pub every_form_code : CodeObject ℕ
every_form_code = record {
  at = λ pc. laid [] placed pc pc;
  depth_at = λ pc. 0;
  pool = pool;
  extras = record { tuple_join = T.tuple; dict_merge = T.dict; super = T.item };
  null = 0;
  truth = truth_of;
  is_truth = known_truth;
}
