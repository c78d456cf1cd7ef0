-- Small scripts whose scopes and refusals are known, as trees.
use Rattle.std.specs.Prelude.{ℕ, [], ◌∷◌, None, codes}
use Rattle.pt_tree.specs.Syntax as S
use Rattle.pt_tree.specs.Syntax.{Name, Exp, Exps, Formals, Params, Stm, Stms}

abbrev one : Stm → Stms
one s = S.more s S.none

abbrev two : Stm → Stm → Stms
two s t = S.more s (one t)

abbrev three : Stm → Stm → Stm → Stms
three s t u = S.more s (two t u)

abbrev read : (line : ℕ) → Name → Exp
read l x = S.name l x

abbrev reads : (line : ℕ) → Name → Stm
reads l x = S.expr l (read l x)

abbrev binds : (line : ℕ) → Name → Exp → Stm
binds l x e = S.assign l (S.more_targets (S.single (S.name_at l x)) S.no_targets) e

abbrev no_params : Params
no_params = S.parameters S.no_formals None S.no_formals None

abbrev with_params : Formals → Params
with_params ps = S.parameters ps None S.no_formals None

abbrev param : (line : ℕ) → Name → Formals → Formals
param l x ps = S.formal l x S.absent S.absent ps

abbrev def_with : (line : ℕ) → Name → Params → Stms → Stm
def_with l f ps body = S.def l S.no_decorators l 0 f ps S.absent body

abbrev def : (line : ℕ) → Name → Stms → Stm
def l f body = def_with l f no_params body

abbrev class_of : (line : ℕ) → Name → Stms → Stm
class_of l c body = S.class l S.no_decorators l 0 c S.absent body

-- `[item for x in it]`
abbrev each : (line : ℕ) → (item : Exp) → Name → (it : Exp) → Exp
each l e x it = S.comprehension l (S.a_list e) l (S.single (S.name_at l x)) it S.no_clauses

abbrev pub f : Name
f = codes "f"

abbrev pub g : Name
g = codes "g"

abbrev pub h : Name
h = codes "h"

abbrev pub x : Name
x = codes "x"

abbrev pub y : Name
y = codes "y"

abbrev pub z : Name
z = codes "z"

-- def f(): x = y; def g(): x
abbrev pub cell_row : Stms
cell_row = one (def 1 f (two (binds 2 x (read 2 y)) (def 3 g (one (reads 4 x)))))

-- def f(): x = y; def g(): def h(): x
abbrev pub passed_row : Stms
passed_row = one (def 1 f (two (binds 2 x (read 2 y)) (def 3 g (one (def 4 h (one (reads 5 x)))))))

-- class C: x = y; def f(): x
abbrev pub class_row : Stms
class_row = one (class_of 1 (codes "C") (two (binds 2 x (read 2 y)) (def 3 f (one (reads 4 x)))))

-- def f(x): class C: x = y; [x for z in x]
abbrev pub class_comprehension_row : Stms
class_comprehension_row = one (def_with 1 f (with_params (param 1 x S.no_formals)) (one (class_of 2 (codes "C") (two (binds 3 x (read 3 y)) (S.expr 4 (each 4 (read 4 x) z (read 4 x)))))))

-- def f(): [lambda: x for x in y]
abbrev pub comprehension_row : Stms
comprehension_row = one (def 1 f (one (S.expr 2 (each 2 (S.lambda 2 0 no_params (read 2 x)) x (read 2 y)))))

-- def f(): x = y; def g(): global x; def h(): x
abbrev pub global_row : Stms
global_row = one (def 1 f (two (binds 2 x (read 2 y)) (def 3 g (two (S.global 4 (x ∷ [])) (def 5 h (one (reads 6 x)))))))

-- def f(): x = y; def g(): nonlocal x; x = y
abbrev pub nonlocal_row : Stms
nonlocal_row = one (def 1 f (two (binds 2 x (read 2 y)) (def 3 g (two (S.nonlocal 4 (x ∷ [])) (binds 5 x (read 5 y))))))

-- class _C: def f(): __x = y
abbrev pub private_row : Stms
private_row = one (class_of 1 (codes "_C") (one (def 2 f (one (binds 3 (codes "__x") (read 3 y))))))

-- def f(): nonlocal x
abbrev pub no_binding_row : Stms
no_binding_row = one (def 1 f (one (S.nonlocal 2 (x ∷ []))))

-- def f(x, x): pass
abbrev pub twice_row : Stms
twice_row = one (def_with 1 f (with_params (param 1 x (param 1 x S.no_formals))) (one (S.pass 1)))

-- def f(): x; global x
abbrev pub late_row : Stms
late_row = one (def 1 f (two (reads 2 x) (S.global 3 (x ∷ []))))

-- def f(): [x for y in z]; global x
abbrev pub late_comprehension_row : Stms
late_comprehension_row = one (def 1 f (two (S.expr 2 (each 2 (read 2 x) y (read 2 z))) (S.global 3 (x ∷ []))))

-- return
abbrev pub return_row : Stms
return_row = one (S.return 1 S.absent)

-- def f(): [(yield) for x in (yield)]
abbrev pub yield_row : Stms
yield_row = one (def 1 f (one (S.expr 2 (each 2 (S.yield 2 S.absent) x (S.yield 2 S.absent)))))
