-- Scripts to follow control by.
use Rattle.std.specs.Prelude.{ℕ, List, [], ◌∷◌, true, false, codes, Some, None}
use Rattle.pt_base.specs.declared.operators.BinOp.TheVariants.{Add, Sub}
use Rattle.pt_base.specs.declared.operators.CompareOp.TheVariants.{Less}
use Rattle.pt_tree.specs.declared.expression.Constant.TheVariants.{Int, Str}
use Rattle.std.specs.Prelude.{pos}
use Rattle.pt_tree.specs.Syntax as S
use Rattle.pt_tree.specs.Syntax.{Name, Exp, Args, Stm, Stms, none, more}
use Rattle.sem_control.specs.control.Frames.{Nest, Way, Control, by, raise, stms, raises, rest, guarded, handling, ensuring, noting}
use Rattle.sem_control.specs.control.Bases.{way_base}
use Rattle.sem_control.specs.control.Completions.{complete}
use Rattle.sem_control.specs.control.Control.{start_lambda}
use Rattle.sem_control.specs.control.Turn.{raised_again}
use Rattle.sem_control.specs.control.Lines.{numbers, Given, truth, item, throws, value, opens, resumes, starts}

abbrev x : Name
x = codes "x"

abbrev number : (line n : ℕ) → Exp
number l n = S.constant l (Int (pos n))

abbrev named : (line : ℕ) → Name → Exp
named l y = S.name l y

abbrev call : (line : ℕ) → Exp → Args → Exp
call l f args = S.call l f args

abbrev one : Exp → Args
one e = S.positional e S.no_args

abbrev put : (line : ℕ) → Name → Exp → Stm
put l y e = S.assign l (S.more_targets (S.single (S.name_at l y)) S.no_targets) e

abbrev no_params : S.Params
no_params = S.parameters S.no_formals None S.no_formals None

-- x = 0
-- while x < 2:
--     x += 1
-- print(x)
abbrev pub counting : Stms
counting =
    more (put 1 x (number 1 0))
    (more (S.while 2 (S.compare 2 (named 2 x) Less (number 2 2) S.no_links) (more (S.augmented 3 (S.name_at 3 x) Add (number 3 1)) none) none)
    (more (S.expr 4 (call 4 (named 4 (codes "print")) (one (named 4 x)))) none))

-- x = 2
-- while x: x -= 1
abbrev pub on_one_line : Stms
on_one_line =
    more (put 1 x (number 1 2))
    (more (S.while 2 (named 2 x) (more (S.augmented 2 (S.name_at 2 x) Sub (number 2 1)) none) none) none)

-- def g():
--     yield 1
--     yield 2
-- for v in g():
--     print(v)
abbrev pub generator_body : Stms
generator_body = more (S.expr 2 (S.yield 2 (S.given (number 2 1)))) (more (S.expr 3 (S.yield 3 (S.given (number 3 2)))) none)

abbrev pub generating : Stms
generating =
    more (S.def 1 S.no_decorators 1 1 (codes "g") no_params S.absent generator_body)
    (more (S.for 4 (S.single (S.name_at 4 (codes "v"))) (call 4 (named 4 (codes "g")) S.no_args) (more (S.expr 5 (call 5 (named 5 (codes "print")) (one (named 5 (codes "v"))))) none) none) none)

--  1 def f():
--  2     for i in range(3):
--  3         try:
--  4             try:
--  5                 return 1
--  6             finally:
--  7                 print("f")
--  8         finally:
--  9             break
-- 10     return 2
-- 11 print(f())
abbrev pub inner_try : Stm
inner_try =
    S.try 4 (more (S.return 5 (S.given (number 5 1))) none) S.no_handlers none
    (more (S.expr 7 (call 7 (named 7 (codes "print")) (one (S.constant 7 (Str (codes "f")))))) none)

abbrev pub outer_try : Stm
outer_try = S.try 3 (more inner_try none) S.no_handlers none (more (S.break 9) none)

abbrev pub nested_body : Stms
nested_body =
    more (S.for 2 (S.single (S.name_at 2 (codes "i"))) (call 2 (named 2 (codes "range")) (one (number 2 3))) (more outer_try none) none)
    (more (S.return 10 (S.given (number 10 2))) none)

abbrev pub nested : Stms
nested =
    more (S.def 1 S.no_decorators 1 1 (codes "f") no_params S.absent nested_body)
    (more (S.expr 11 (call 11 (named 11 (codes "print")) (one (call 11 (named 11 (codes "f")) S.no_args)))) none)

-- 1 for i in range(2):
-- 2     x = i
-- 3 try:
-- 4     y = 1
-- 5 finally:
-- 6     z = 2
-- 7 print(x, z)
abbrev pub last_of_jumping : Stms
last_of_jumping =
    more (S.expr 7 (call 7 (named 7 (codes "print")) (S.positional (named 7 x) (S.positional (named 7 (codes "z")) S.no_args)))) none

abbrev pub jumping : Stms
jumping =
    more (S.for 1 (S.single (S.name_at 1 (codes "i"))) (call 1 (named 1 (codes "range")) (one (number 1 2))) (more (put 2 x (named 2 (codes "i"))) none) none)
    (more (S.try 3 (more (put 4 (codes "y") (number 4 1)) none) S.no_handlers none (more (put 6 (codes "z") (number 6 2)) none))
    last_of_jumping)

-- 1 try:
-- 2     raise ..
-- 3 except ..:
-- 4     f()
-- and f raises again:
-- 9 raise
abbrev pub in_a_handler : Stms
in_a_handler =
    more (S.try 1 (more (S.raise 2 (named 2 x) S.absent) none) (S.handler 3 S.absent None (more (S.expr 4 (call 4 (named 4 (codes "f")) S.no_args)) none) S.no_handlers) none none) none

abbrev pub raises_alone : Stms
raises_alone = more (S.raise_again 9) none

-- 1 try:
-- 2     try:
-- 3         a = 1
-- 4     finally:
-- 5         global g
-- 6 finally:
-- 7     b = 1
abbrev pub part_without_acts : Stms
part_without_acts =
    more (S.try 1 (more (S.try 2 (more (put 3 (codes "a") (number 3 1)) none) S.no_handlers none (more (S.global 5 (codes "g" ∷ [])) none)) none) S.no_handlers none
    (more (put 7 (codes "b") (number 7 1)) none)) none

-- 1 try:
-- 2     x = 1
-- 3     global g
-- 4 finally:
-- 5     print("fin")
abbrev pub only_global : Stms
only_global = more (S.global 3 (codes "g" ∷ [])) none

abbrev pub printing : Stms
printing = more (S.expr 5 (call 5 (named 5 (codes "print")) (one (S.constant 5 (Str (codes "fin")))))) none

abbrev pub ends_in_global : Stms
ends_in_global = more (S.try 1 (more (put 2 x (number 2 1)) only_global) S.no_handlers none printing) none

-- the jump's target in it: no act of its own, within the body
abbrev pub at_the_global : Way ℕ
at_the_global = stms 3 only_global (guarded 3 S.no_handlers none ∷ ensuring 0 3 printing ∷ rest 7 none ∷ [])

-- 1 try:
-- 2     raise ..
-- 3 except ..:
-- 4     try:
-- 5         raise ..
-- 6     finally:
-- 7         pass
abbrev pub raises_in_a_handler : Stms
raises_in_a_handler =
    more (S.try 1 (more (S.raise 2 (named 2 x) S.absent) none)
    (S.handler 3 S.absent None (more (S.try 4 (more (S.raise 5 (named 5 x) S.absent) none) S.no_handlers none (more (S.pass 7) none)) none) S.no_handlers) none none) none

-- 1 try:
-- 2     try:
-- 3         raise ..
-- 4     except ValueError as e:
-- 5         pass
-- 6 except:
-- 7     print(e)
abbrev pub names_its_exception : Stms
names_its_exception =
    more (S.try 1 (more (S.try 2 (more (S.raise 3 (named 3 x) S.absent) none)
    (S.handler 4 (S.given (named 4 (codes "ValueError"))) (Some (codes "e")) (more (S.pass 5) none) S.no_handlers) none none) none)
    (S.handler 6 S.absent None (more (S.expr 7 (call 7 (named 7 (codes "print")) (one (named 7 (codes "e"))))) none) S.no_handlers) none none) none

-- 1 f = lambda: (
-- 2     1)
-- 3 f()
abbrev pub lambda_below : Stms
lambda_below =
    more (put 1 (codes "f") (S.lambda 1 1 no_params (number 2 1))) (more (S.expr 3 (call 3 (named 3 (codes "f")) S.no_args)) none)

-- 1 def f(*a): return a      (the tree leaves its parameter out)
-- 2 x = [1]
-- 3 f(
-- 4     *x,
-- 5     *x)
abbrev pub spread_body : Stms
spread_body = more (S.return 1 (S.given (named 1 (codes "a")))) none

abbrev pub spreading : Stms
spreading =
    more (S.def 1 S.no_decorators 1 1 (codes "f") no_params S.absent spread_body)
    (more (put 2 x (S.list 2 (S.more_exps (number 2 1) S.no_exps)))
    (more (S.expr 3 (call 3 (named 3 (codes "f")) (S.spread (named 4 x) (S.spread (named 5 x) S.no_args)))) none))

-- what is given to these scripts
abbrev pub twice : List Given
twice = truth true ∷ truth true ∷ truth false ∷ []

abbrev pub two_items : List Given
two_items = value ∷ opens (starts generator_body) ∷ value ∷ resumes ∷ value ∷ resumes ∷ []

abbrev pub in_the_handler : List Given
in_the_handler = throws 1 ∷ truth true ∷ throws 2 ∷ []

-- where the handler of the first exception is left by the second
abbrev pub handler_left : Nest ℕ
handler_left = rest 8 none ∷ handling 3 1 ∷ ensuring 0 8 none ∷ rest 8 none ∷ []

abbrev pub going_on : Control ℕ
going_on = noting (raised_again 2) (raises 2 handler_left) handler_left

abbrev pub at_a_match : List Given
at_a_match = throws 1 ∷ throws 2 ∷ truth true ∷ []

abbrev pub back_at_the_store : Way ℕ
back_at_the_store = stms 1 (more (put 2 x (number 2 1)) only_global) (guarded 3 S.no_handlers none ∷ ensuring 0 3 printing ∷ rest 7 none ∷ [])

abbrev pub lambda_starts : Control ℕ
lambda_starts = start_lambda numbers 1 (number 2 1)

abbrev pub nested_lines : List ℕ
nested_lines = 1 ∷ 11 ∷ 2 ∷ 3 ∷ 4 ∷ 5 ∷ 7 ∷ 9 ∷ 10 ∷ []

abbrev pub spread_lines : List ℕ
spread_lines = 1 ∷ 2 ∷ 3 ∷ 4 ∷ 3 ∷ 5 ∷ 3 ∷ 1 ∷ []

abbrev pub nested_call : List Given
nested_call = opens (starts nested_body) ∷ value ∷ item true ∷ []

abbrev pub global_nest : Nest ℕ
global_nest = way_base at_the_global

-- a raise before anything there has begun
abbrev pub raised_from : Way ℕ → Control ℕ
raised_from k = complete numbers (by (raise 0)) (way_base k)
