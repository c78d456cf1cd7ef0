-- Of the blocks of a script: which blocks they make, and how they begin.
use Rattle.std.proofs.Common.{ℕ, ◌<◌, List, [], ◌∷◌, length}
use Rattle.std.specs.List.{AllByRecursion}
use Rattle.pt_tree.specs.Syntax.{Name, Stms}
use Rattle.pt_tree.specs.Blocks as B
use Rattle.pt_tree.specs.Blocks.{Block, Code as BlockCode, blocks_script}
use Rattle.sem_control.specs.control.Turn as T
use Rattle.sem_control.specs.control.Turn.{Scope, Variable}
use Rattle.sem_names.specs.Around.{Names}
use Rattle.sem_control.specs.numbering.Numbered.{IsNumbered, numbers_stms, numbers_exp, numbers_target, numbers_clauses}
use Rattle.law_names.specs.module_names.Made.{made_code, made_exp, made_target, made_clauses}
use Rattle.sem_control.proofs.numbering.Below.{numbers_below}
use Rattle.pt_assembler.specs.Layout.{Written, with_text, number_of_text, with_local, with_cell, with_free}
use Rattle.pt_assembler.proofs.Growth.{OnlyTables, only_then, text_only, local_only, cell_only, free_only}
use Rattle.sem_compile.specs.compile.ScriptCode.{Tables, with_all, empty_block, begun_block}
use Rattle.law_files.proofs.code_files.Each.{both3}
use Rattle.law_files.proofs.code_files.Walk.{each_stms}
use Rattle.law_files.proofs.code_files.Operations.{FreeIs, AllFree}
use Rattle.law_files.proofs.code_files.Direct.{direct_exp, direct_target, direct_clauses, direct_stms}

-- the blocks in what a block runs are there
abbrev pub BelowCode : ℕ → BlockCode → Type 0
BelowCode N (B.of_module ss) = AllByRecursion (λ b. b < N) (numbers_stms ss)
BelowCode N (B.of_function ss) = AllByRecursion (λ b. b < N) (numbers_stms ss)
BelowCode N (B.of_class ss) = AllByRecursion (λ b. b < N) (numbers_stms ss)
BelowCode N (B.of_lambda l e) = AllByRecursion (λ b. b < N) (numbers_exp e)
BelowCode N (B.of_generator l e k t cs) =
    AllByRecursion (λ b. b < N) (numbers_exp e) × (AllByRecursion (λ b. b < N) (numbers_target t) × AllByRecursion (λ b. b < N) (numbers_clauses cs))

pub made_below : (N : ℕ) (c : BlockCode) → BelowCode N c → AllByRecursion (λ b. b < N) (made_code c)
made_below N (B.of_module ss) h = direct_stms (λ b. b < N) ss h
made_below N (B.of_function ss) h = direct_stms (λ b. b < N) ss h
made_below N (B.of_class ss) h = direct_stms (λ b. b < N) ss h
made_below N (B.of_lambda l e) h = direct_exp (λ b. b < N) e h
made_below N (B.of_generator l e k t cs) h =
    both3 (λ b. b < N) (made_exp e) (made_target t) (made_clauses cs) (direct_exp (λ b. b < N) e h.0) (direct_target (λ b. b < N) t h.1.0)
    (direct_clauses (λ b. b < N) cs h.1.1)

pub blocks_below : (ss : Stms) → IsNumbered ss → AllByRecursion (λ (k : Block). BelowCode (length (blocks_script ss)) k.code) (blocks_script ss)
blocks_below ss is =
    let N = length (blocks_script ss) in
    let h = numbers_below ss is in (
      h,
      each_stms (λ b. b < N) (λ (k : Block). BelowCode N k.code) (λ x l ps body i. i) (λ x l body i. i) (λ x l ps e i. i)
          (λ x l e k t cs i j m. (i, (j, m))) (λ x k i. i) ss h,
    )

-- nothing is asked of free names

abbrev pub Anything : Name → Type 0
Anything x = Unit {0}

pub any_free : (s : Scope) (x : Name) → FreeIs Anything s x
any_free T.local x = tt
any_free T.cell x = tt
any_free T.free x = tt
any_free T.global x = tt
any_free T.of_class x = tt

pub all_any : (vs : List Variable) → AllFree Anything vs
all_any [] = tt
all_any (v ∷ vs) = (any_free v.scope v.name, all_any vs)

-- a block begins without instructions, and with the label of its start

all-only : (f : Name → Written → Written) → ((x : Name) (w : Written) → OnlyTables w (f x w)) → (xs : List Name) (w v : Written) → OnlyTables w v
    → OnlyTables w (with_all f xs v)
all-only f g [] w v h = h
all-only f g (x ∷ xs) w v h = all-only f g xs w (f x v) (only_then w v (f x v) h (g x v))

local-only : (x : Name) (w : Written) → OnlyTables w (with_local x w)
local-only x w = only_then w (with_text x w) (with_local x w) (text_only x w) (local_only (number_of_text x w) (with_text x w))

cell-only : (x : Name) (w : Written) → OnlyTables w (with_cell x w)
cell-only x w = only_then w (with_text x w) (with_cell x w) (text_only x w) (cell_only (number_of_text x w) (with_text x w))

free-only : (x : Name) (w : Written) → OnlyTables w (with_free x w)
free-only x w = only_then w (with_text x w) (with_free x w) (text_only x w) (free_only (number_of_text x w) (with_text x w))

pub begun-only : (t : Tables) (ns : Names) (k : Block) → OnlyTables (empty_block t k.code) (begun_block t ns k)
begun-only t ns k =
    let w = empty_block t k.code in
    let v = with_text k.name w in
    let a = with_all with_local ns.locals v in
    let b = with_all with_cell ns.cells a in
    all-only with_free free-only ns.frees w b (all-only with_cell cell-only ns.cells w a (all-only with_local local-only ns.locals w v (text_only k.name w)))
