-- The operations of expressions and statements name what they are to name: an operator, a name's place, a list, or a block that is there.
use Rattle.std.proofs.Common.{if◌then◌else◌, ℕ, ◌<◌, Bool, true, false, List, [], ◌∷◌, map, Option, Some, None, sym, subst, arith}
use Rattle.std.specs.List.{AllByRecursion}
use Rattle.pt_base.specs.declared.operators.UnOp.{UnOp}
use Rattle.pt_base.specs.declared.operators.UnOp.TheVariants as unary
use Rattle.pt_base.specs.declared.operators.BinOp.{BinOp}
use Rattle.pt_base.specs.declared.operators.BinOp.TheVariants as binary
use Rattle.pt_base.specs.declared.operators.CompareOp.{CompareOp}
use Rattle.pt_base.specs.declared.operators.CompareOp.TheVariants as comparison
use Rattle.pt_tree.specs.declared.expression.Conversion.{Conversion}
use Rattle.pt_tree.specs.declared.expression.Conversion.TheVariants as tree
use Rattle.pt_tree.specs.Syntax.{Name}
use Rattle.pt_instr.specs.declared.Instr.TheVariants as instr
use Rattle.pt_instr.specs.Encoding.{code_of, unary_number, binary_number, comparison_number, conversion_number}
use Rattle.sem_control.specs.control.Turn as T
use Rattle.sem_control.specs.control.Turn.{Scope, Variable, Role, Operation}
use Rattle.pt_assembler.specs.Piece as P
use Rattle.sem_compile.specs.emitter.Ops.{load_in, store_in, renew_in, cell_in, formatting_of, text_of, last_names, are_plain, call_by, operation}
use Rattle.sem_compile.specs.emitter.ExpPiece.{unpack_op}
use Rattle.sem_compile.specs.stm_pieces.StmPiece.{delete_in}
use Rattle.law_files.proofs.code_files.Placed.{NamesOp}

-- the numbers of operators

unary_below : (o : UnOp) → unary_number o < 3
unary_below unary.Plus = omega arith
unary_below unary.Minus = omega arith
unary_below unary.Invert = omega arith

binary_below : (o : BinOp) → binary_number o < 12
binary_below binary.Add = omega arith
binary_below binary.Sub = omega arith
binary_below binary.Mul = omega arith
binary_below binary.Div = omega arith
binary_below binary.FloorDiv = omega arith
binary_below binary.Mod = omega arith
binary_below binary.Pow = omega arith
binary_below binary.BitAnd = omega arith
binary_below binary.BitOr = omega arith
binary_below binary.BitXor = omega arith
binary_below binary.LeftShift = omega arith
binary_below binary.RightShift = omega arith

comparison_below : (o : CompareOp) → comparison_number o < 10
comparison_below comparison.Less = omega arith
comparison_below comparison.LessEqual = omega arith
comparison_below comparison.Greater = omega arith
comparison_below comparison.GreaterEqual = omega arith
comparison_below comparison.Equal = omega arith
comparison_below comparison.NotEqual = omega arith
comparison_below comparison.In = omega arith
comparison_below comparison.NotIn = omega arith
comparison_below comparison.Is = omega arith
comparison_below comparison.IsNot = omega arith

conversion_below : (c : Option Conversion) → conversion_number (formatting_of c) < 3
conversion_below None = omega arith
conversion_below (Some tree.Str) = omega arith
conversion_below (Some tree.Repr) = omega arith

flag_below : (b : Bool) → (if b then 1 else 0) < 2
flag_below true = omega arith
flag_below false = omega arith

-- names

-- what is so of each free name
abbrev pub FreeIs : (Name → Type 0) → Scope → Name → Type 0
FreeIs Q T.free x = Q x
FreeIs Q s x = Unit {0}

abbrev pub AllFree : (Name → Type 0) → List Variable → Type 0
AllFree Q vs = AllByRecursion (λ (v : Variable). FreeIs Q v.scope v.name) vs

pub load_names : (Q : Name → Type 0) (n : ℕ) (s : Scope) (x : Name) → FreeIs Q s x → NamesOp Q n (load_in s x)
unfolding code_of
load_names Q n T.local x f = λ w i h. (h, tt)
load_names Q n T.cell x f = λ w i h. (h, tt)
load_names Q n T.free x f = f
load_names Q n T.global x f = λ w t h. (h, tt)
load_names Q n T.of_class x f = λ w t h. (h, tt)

pub store_names : (Q : Name → Type 0) (n : ℕ) (s : Scope) (x : Name) → FreeIs Q s x → NamesOp Q n (store_in s x)
unfolding code_of
store_names Q n T.local x f = λ w i h. (h, tt)
store_names Q n T.cell x f = λ w i h. (h, tt)
store_names Q n T.free x f = f
store_names Q n T.global x f = λ w t h. (h, tt)
store_names Q n T.of_class x f = λ w t h. (h, tt)

pub delete_names : (Q : Name → Type 0) (n : ℕ) (s : Scope) (x : Name) → FreeIs Q s x → NamesOp Q n (delete_in s x)
unfolding code_of
delete_names Q n T.local x f = λ w i h. (h, tt)
delete_names Q n T.cell x f = λ w i h. (h, tt)
delete_names Q n T.free x f = f
delete_names Q n T.global x f = λ w t h. (h, tt)
delete_names Q n T.of_class x f = λ w t h. (h, tt)

pub renew_names : (Q : Name → Type 0) (n : ℕ) (s : Scope) (x : Name) → NamesOp Q n (renew_in s x)
unfolding code_of
renew_names Q n T.local x = λ w i h. (h, tt)
renew_names Q n T.cell x = λ w i h. (h, tt)
renew_names Q n T.free x = tt
renew_names Q n T.global x = tt
renew_names Q n T.of_class x = tt

pub push_names : (Q : Name → Type 0) (n : ℕ) (s : Scope) (x : Name) → FreeIs Q s x → NamesOp Q n (cell_in s x)
unfolding code_of
push_names Q n T.local x f = tt
push_names Q n T.cell x f = λ w i h. (h, tt)
push_names Q n T.free x f = f
push_names Q n T.global x f = tt
push_names Q n T.of_class x f = tt

-- operations

pub unpack_names : (Q : Name → Type 0) (n k : ℕ) (o : Option ℕ) → NamesOp Q n (unpack_op k o)
unfolding code_of
unpack_names Q n k None = λ w e. (tt, tt)
unpack_names Q n k (Some j) = λ w e. (tt, (tt, tt))

pub compare_names : (Q : Name → Type 0) (n : ℕ) (o : CompareOp) → NamesOp Q n (P.plain (instr.Compare o))
unfolding code_of
compare_names Q n o = λ w e. (comparison_below o, tt)

pub in_place_names : (Q : Name → Type 0) (n : ℕ) (o : BinOp) → NamesOp Q n (P.plain (instr.InPlace o))
unfolding code_of
in_place_names Q n o = λ w e. (binary_below o, tt)

pub fail_names : (Q : Name → Type 0) (n : ℕ) (b : Bool) → NamesOp Q n (P.plain (instr.AssertFail b))
unfolding code_of
fail_names Q n b = λ w e. (flag_below b, tt)

call_names : (Q : Name → Type 0) (n k : ℕ) (rs : List Role) (o : Option (List Name)) → NamesOp Q n (call_by k rs o)
unfolding code_of
call_names Q n k rs (Some []) = λ w e. (tt, tt)
call_names Q n k rs (Some (x ∷ xs)) = λ w l e h. (tt, (h, tt))
call_names Q n k rs None = by (are_plain rs)
  where
    by : (b : Bool) → NamesOp Q n (if b then P.with_list (instr.CallSpread k) (map text_of rs) else P.never)
    by true = λ w l e h. (tt, (h, tt))
    by false = tt

-- the block that it makes is there
abbrev pub MakesBelow : (blocks : ℕ) → Operation → Type 0
MakesBelow n (T.function b xs) = b < n
MakesBelow n (T.class b) = b < n
MakesBelow n (T.generator b) = b < n
MakesBelow n op = Unit {0}

pub operation_names : (Q : Name → Type 0) (n : ℕ) (op : Operation) (k : ℕ) → MakesBelow n op → NamesOp Q n (operation op k)
unfolding code_of
operation_names Q n T.tuple k m = λ w e. (tt, tt)
operation_names Q n T.list k m = λ w e. (tt, tt)
operation_names Q n T.set k m = λ w e. (tt, tt)
operation_names Q n T.dict k m = λ w e. (tt, tt)
operation_names Q n (T.get x) k m = λ w t h. (h, tt)
operation_names Q n T.item k m = λ w e. tt
operation_names Q n T.slice k m = λ w e. tt
operation_names Q n (T.unary o) k m = λ w e. (unary_below o, tt)
operation_names Q n T.inverted k m = λ w e. tt
operation_names Q n (T.binary o) k m = λ w e. (binary_below o, tt)
operation_names Q n (T.in_place o) k m = λ w e. (binary_below o, tt)
operation_names Q n (T.compare o) k m = λ w e. (comparison_below o, tt)
operation_names Q n (T.format c) k m = λ w e. (conversion_below c, tt)
operation_names Q n T.join k m = λ w e. (tt, tt)
operation_names Q n T.spread_out k m = λ w e. tt
operation_names Q n T.spread_named_out k m = λ w e. tt
operation_names Q n (T.call rs) k m = call_names Q n _ rs (last_names rs)
operation_names Q n (T.function b xs) k m = λ w l e h. (subst (λ j. b < j) (sym e) m, (tt, (h, tt)))
operation_names Q n (T.class b) k m = λ w e. (subst (λ j. b < j) (sym e) m, tt)
operation_names Q n (T.generator b) k m = λ w e. (subst (λ j. b < j) (sym e) m, tt)
operation_names Q n (T.import x) k m = λ w t h. (h, tt)
operation_names Q n (T.import_name x) k m = λ w t h. (h, tt)
