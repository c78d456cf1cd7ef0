-- Small wide trees whose faults, and whose trees, are known.
use Rattle.std.specs.Prelude.{ℕ, None, codes, true, false}
use Rattle.pt_base.specs.declared.operators.BinOp.TheVariants.{Add}
use Rattle.pt_wide.specs.declared.expression.Comprehension.TheVariants as form
use Rattle.pt_wide.specs.declared.expression.WideBinOp.TheVariants.{MatMul}
use Rattle.pt_tree.specs.Syntax as T
use Rattle.pt_tree.specs.Syntax.{Name}
use Rattle.pt_wide.specs.Syntax as W
use Rattle.pt_wide.specs.Syntax.{Args, Clauses, Exp, Exps, Params, Stm}

abbrev x : Name
x = codes "x"

abbrev pub read : (line : ℕ) → Exp
read l = W.name l x

abbrev one : Exp → Exps
one e = W.more_exps e W.no_exps

abbrev two : Exp → Exp → Exps
two d e = W.more_exps d (one e)

abbrev star : (line : ℕ) → Exp
star l = W.starred l (read l)

abbrev binds : Exp → Stm
binds t = W.assign 1 (one t) (read 9)

-- `x() = x`
abbrev pub call_row : Stm
call_row = binds (W.call 1 (read 1) W.no_args)

-- `(x()) = x`, the call on a line of its own
abbrev pub grouped_call_row : Stm
grouped_call_row = binds (W.parenthesized 1 (W.call 2 (read 2) W.no_args))

-- `(x if x else x) = x`, the condition on a line of its own
abbrev pub grouped_condition_row : Stm
grouped_condition_row = binds (W.parenthesized 1 (W.conditional 2 (read 2) (read 2) (read 2)))

-- `x = x @ x`
abbrev pub matrix_row : Stm
matrix_row = W.assign 1 (one (read 1)) (W.binary 1 MatMul (read 1) (read 1))

-- `x() = x @ x`
abbrev pub call_and_matrix_row : Stm
call_and_matrix_row = W.assign 1 (one (W.call 1 (read 1) W.no_args)) (W.binary 2 MatMul (read 2) (read 2))

-- `*x, *x = x`, each on a line of its own
abbrev pub two_stars_row : Stm
two_stars_row = binds (W.tuple 1 (two (star 1) (star 2)))

-- `*x, (x, *x) = x`
abbrev pub nested_stars_row : Stm
nested_stars_row = binds (W.tuple 1 (two (star 1) (W.parenthesized 2 (W.tuple 2 (two (read 2) (star 2))))))

-- `*x = x`
abbrev pub star_row : Stm
star_row = binds (star 1)

-- `[*x] = x`
abbrev pub bracketed_star_row : Stm
bracketed_star_row = binds (W.list 1 (one (star 1)))

-- `(*x) = x`
abbrev pub grouped_star_row : Stm
grouped_star_row = binds (W.parenthesized 1 (star 2))

-- `() = x`
abbrev pub empty_row : Stm
empty_row = binds (W.parenthesized 1 (W.tuple 1 W.no_exps))

-- `x = *x, x`
abbrev pub starred_value_row : Stm
starred_value_row = W.assign 1 (one (read 1)) (W.tuple 1 (two (star 1) (read 1)))

-- `(x): x = x`
abbrev pub annotated_row : Stm
annotated_row = W.annotated 1 (W.parenthesized 1 (read 1)) (read 1) (W.given (read 1))

-- `(x) += x`
abbrev pub augmented_row : Stm
augmented_row = W.augmented 1 (W.parenthesized 1 (read 1)) Add (read 1)

-- `del x, (x, *x)`
abbrev pub deleted_star_row : Stm
deleted_star_row = W.del 1 (two (read 1) (W.parenthesized 1 (W.tuple 1 (two (read 1) (star 2)))))

-- `with x as (x, *x): pass`
abbrev pub entered_star_row : Stm
entered_star_row = W.with 1 (W.with_item 1 (read 1) (W.given (W.parenthesized 1 (W.tuple 1 (two (read 1) (star 2))))) W.no_items) (W.more (W.pass 3) W.none)

abbrev class : Args → Stm
class args = W.class 1 W.no_decorators 1 x args false (W.more (W.pass 9) W.none)

-- `class x(x, x): pass`, with an argument a line
abbrev pub bases_row : Stm
bases_row = class (W.positional (read 2) (W.positional (read 3) W.no_args))

-- `class x(x): pass`
abbrev pub base_row : Stm
base_row = class (W.positional (read 2) W.no_args)

-- `class x(x,): pass`
abbrev pub comma_row : Stm
comma_row = W.class 1 W.no_decorators 1 x (W.positional (read 2) W.no_args) true (W.more (W.pass 9) W.none)

-- `for x in x`
abbrev each : Clauses
each = W.for_each 1 (read 1) (read 1) W.no_exps W.no_clauses

abbrev generator : (line : ℕ) → Exp
generator l = W.comprehension l form.Generator (read 1) each

-- `class x(x for x in x): pass`
abbrev pub generator_base_row : Stm
generator_base_row = class (W.positional (generator 2) W.no_args)

-- `class x((x for x in x)): pass`
abbrev pub grouped_generator_base_row : Stm
grouped_generator_base_row = class (W.positional (W.parenthesized 2 (generator 3)) W.no_args)

-- `from . import x`
abbrev pub dots_row : Stm
dots_row = W.import_from 1 1 x None

-- `((x, x))`, the inner parentheses on a line of their own
abbrev pub grouped_tuple_row : Exp
grouped_tuple_row = W.parenthesized 1 (W.parenthesized 2 (W.tuple 3 (two (read 3) (read 3))))

abbrev pub tuple_tree : T.Exp
tuple_tree = T.tuple 2 (T.more_exps (T.name 3 x) (T.more_exps (T.name 3 x) T.no_exps))

abbrev defaulted : Exp → Params
defaulted e = W.parameters W.no_formals None (W.formal 1 x W.absent (W.given e) W.no_formals) None W.no_formals None

abbrev lambda : Params → Exp → Exp
lambda ps e = W.lambda 1 ps e

abbrev no_params : Params
no_params = W.parameters W.no_formals None W.no_formals None W.no_formals None

-- `lambda x=lambda: x: lambda: x`
abbrev pub lambdas_row : Exp
lambdas_row = lambda (defaulted (lambda no_params (read 1))) (lambda no_params (read 1))

abbrev no_formals : T.Params
no_formals = T.parameters T.no_formals None T.no_formals None

abbrev pub lambdas_tree : (first : ℕ) → (second : ℕ) → (third : ℕ) → T.Exp
lambdas_tree a b c = T.lambda 1 a (T.parameters (T.formal 1 x T.absent (T.given (T.lambda 1 b no_formals (T.name 1 x))) T.no_formals) None T.no_formals None) (T.lambda 1 c no_formals (T.name 1 x))
