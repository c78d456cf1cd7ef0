-- Short words for parts of trees, and for rows, by which forms of the language are written with their acts.
use Rattle.std.specs.Prelude.{ℕ, true, false, List, [], ◌∷◌, Some, None, map}
use Rattle.pt_tree.specs.declared.act.ActKind.{ActKind}
use Rattle.pt_tree.specs.declared.act.ActRow.{ActRow}
use Rattle.pt_tree.specs.declared.expression.Constant.TheVariants as constant
use Rattle.pt_tree.specs.declared.statement.Alias.{Alias}
use Rattle.pt_tree.specs.Blocks.{Block}
use Rattle.pt_tree.specs.Syntax as S
use Rattle.pt_tree.specs.Syntax.{Exp, Exps, Formals, Params, Stm, Stms, Tgt}

abbrev pub row : ActKind → (line : ℕ) → ActRow
row k l = record { kind = k; line = record { 0 = l }; again = false }

abbrev pub again : ActKind → (line : ℕ) → ActRow
again k l = record { kind = k; line = record { 0 = l }; again = true }

-- an expression of one act, a Load
abbrev pub e : (line : ℕ) → Exp
e l = S.name l []

abbrev pub two : Exp → Exp → Exps
two a b = S.more_exps a (S.more_exps b S.no_exps)

-- a statement of one act, a Pass
abbrev pub p : (line : ℕ) → Stms
p l = S.more (S.pass l) S.none

-- a target of one act, a Store
abbrev pub t : (line : ℕ) → Tgt
t l = S.single (S.name_at l [])

abbrev pub defaulted : Exp → Formals
defaulted d = S.formal 99 [] S.absent (S.given d) S.no_formals

abbrev no_params : Params
no_params = S.parameters S.no_formals None S.no_formals None

-- a lambda without parameters, which is a block
abbrev pub f : (line : ℕ) → Exp
f l = S.lambda l 0 no_params (e l)

-- the target `f[g]` with two such lambdas
abbrev pub in_item : (object index : ℕ) → Tgt
in_item l k = S.single (S.item_at l (f l) (f k))

abbrev pub first_lines : List Block → List ℕ
first_lines bs = map (λ b. b.first_line) bs

abbrev pub imports : List Alias
imports = record { name = []; alias = None } ∷ record { name = []; alias = Some [] } ∷ []

-- a text that stands as a statement, and another statement
abbrev pub documented : Stms
documented = S.more (S.expr 1 (S.constant 1 (constant.Str []))) (p 2)
