-- The instructions of a script's code name what the code has: texts, constants, lists, blocks, and the locals and cells of their block.
use Rattle.std.proofs.Common.{◌≡◌, ℕ, ◌<◌, Bool, List, [], ◌∷◌, length, map, flat_map, Some, None, refl, sym, ap, ◌∙◌, subst, arith, length-append}
use Rattle.std.specs.Prelude.{slice_get}
use Rattle.std.specs.List.{AllByRecursion}
use Rattle.std.proofs.lemmas.List.Concat.{flat_map-cons}
use Rattle.pt_tree.specs.Syntax.{Name, Stms}
use Rattle.pt_tree.specs.Blocks as B
use Rattle.pt_tree.specs.Blocks.{Block, Code as BlockCode, blocks_script}
use Rattle.pt_instr.specs.declared.Instr.{Instr}
use Rattle.pt_instr.specs.Encoding.{encoding}
use Rattle.pt_code.specs.declared.Code.{Code}
use Rattle.pt_code.specs.declared.parts.Within.{Within}
use Rattle.pt_code.specs.File.{naming, inside, names_of as names_of_block}
use Rattle.sem_control.specs.control.Turn as T
use Rattle.sem_control.specs.control.Turn.{Around, Scope, Variable}
use Rattle.sem_names.specs.Around.{Names, around_of, names_of}
use Rattle.pt_assembler.specs.declared.operation.Operation.{Operation}
use Rattle.pt_assembler.specs.declared.operation.Act.{Act}
use Rattle.pt_assembler.specs.declared.operation.Placed.{Placed}
use Rattle.pt_assembler.specs.Layout.{Written, with_text, number_of_text, with_local, with_cell, with_free, put, put_act, layout, instr_in, instrs_of, bytes_of}
use Rattle.pt_assembler.specs.Laws.{IsBlockOf}
use Rattle.pt_assembler.proofs.Growth.{tabled_same, only_then, text_only, local_only, cell_only, free_only}
use Rattle.sem_compile.specs.stm_pieces.StmPiece.{code_piece}
use Rattle.sem_compile.specs.compile.ScriptCode.{Tables, with_all, empty_block, begun_block, BlockLayout, layout_of, script_layouts, code_block, code_of}
use Rattle.sem_compile.proofs.compile.Blocks.{blocks_are_laid_out, as_many_blocks}
use Rattle.sem_control.specs.numbering.Numbered.{IsNumbered, numbers_stms, numbers_exp, numbers_target, numbers_clauses}
use Rattle.law_names.specs.module_names.Made.{made_code, made_exp, made_target, made_clauses}
use Rattle.sem_control.proofs.numbering.Below.{numbers_below}
use Rattle.law_files.specs.code_files.Laws.{NamesInside, InstructionsNameInside}
use Rattle.law_files.proofs.code_files.Each.{both3, mapped, each_at, at_each}
use Rattle.law_files.proofs.code_files.Walk.{each_stms}
use Rattle.law_files.proofs.code_files.Known.{begins_count}
use Rattle.law_files.proofs.code_files.Wrapped.{NamesIn, spelled_again}
use Rattle.law_files.proofs.code_files.Placed.{layout_good}
use Rattle.law_files.proofs.code_files.Operations.{FreeIs, AllFree}
use Rattle.law_files.proofs.code_files.Direct.{direct_exp, direct_target, direct_clauses, direct_stms}
use Rattle.law_files.proofs.code_files.Statements.{code_names}

-- numbers of blocks

-- the blocks in what a block runs are there
abbrev BelowCode : ℕ → BlockCode → Type 0
BelowCode N (B.of_module ss) = AllByRecursion (λ b. b < N) (numbers_stms ss)
BelowCode N (B.of_function ss) = AllByRecursion (λ b. b < N) (numbers_stms ss)
BelowCode N (B.of_class ss) = AllByRecursion (λ b. b < N) (numbers_stms ss)
BelowCode N (B.of_lambda l e) = AllByRecursion (λ b. b < N) (numbers_exp e)
BelowCode N (B.of_generator l e k t cs) =
    AllByRecursion (λ b. b < N) (numbers_exp e) × (AllByRecursion (λ b. b < N) (numbers_target t) × AllByRecursion (λ b. b < N) (numbers_clauses cs))

made_below : (N : ℕ) (c : BlockCode) → BelowCode N c → AllByRecursion (λ b. b < N) (made_code c)
made_below N (B.of_module ss) h = direct_stms (λ b. b < N) ss h
made_below N (B.of_function ss) h = direct_stms (λ b. b < N) ss h
made_below N (B.of_class ss) h = direct_stms (λ b. b < N) ss h
made_below N (B.of_lambda l e) h = direct_exp (λ b. b < N) e h
made_below N (B.of_generator l e k t cs) h =
    both3 (λ b. b < N) (made_exp e) (made_target t) (made_clauses cs) (direct_exp (λ b. b < N) e h.0) (direct_target (λ b. b < N) t h.1.0)
    (direct_clauses (λ b. b < N) cs h.1.1)

-- nothing is asked of free names

abbrev Anything : Name → Type 0
Anything x = Unit {0}

any_free : (s : Scope) (x : Name) → FreeIs Anything s x
any_free T.local x = tt
any_free T.cell x = tt
any_free T.free x = tt
any_free T.global x = tt
any_free T.of_class x = tt

all_any : (vs : List Variable) → AllFree Anything vs
all_any [] = tt
all_any (v ∷ vs) = (any_free v.scope v.name, all_any vs)

blocks_below : (ss : Stms) → IsNumbered ss → AllByRecursion (λ (k : Block). BelowCode (length (blocks_script ss)) k.code) (blocks_script ss)
blocks_below ss is =
    let N = length (blocks_script ss) in
    let h = numbers_below ss is in (
      h,
      each_stms (λ b. b < N) (λ (k : Block). BelowCode N k.code) (λ x l ps body i. i) (λ x l body i. i) (λ x l ps e i. i)
          (λ x l e k t cs i j m. (i, (j, m))) (λ x k i. i) ss h,
    )

-- a block begins without instructions

all_empty : (f : Name → Written → Written) → ((x : Name) (w : Written) → (f x w).instrs ≡ w.instrs) → (xs : List Name) (w : Written)
    → (with_all f xs w).instrs ≡ w.instrs
all_empty f g [] w = refl
all_empty f g (x ∷ xs) w = all_empty f g xs (f x w) ∙ g x w

local_empty : (x : Name) (w : Written) → (with_local x w).instrs ≡ w.instrs
local_empty x w = (only_then w (with_text x w) (with_local x w) (text_only x w) (local_only (number_of_text x w) (with_text x w))).instrs

cell_empty : (x : Name) (w : Written) → (with_cell x w).instrs ≡ w.instrs
cell_empty x w = (only_then w (with_text x w) (with_cell x w) (text_only x w) (cell_only (number_of_text x w) (with_text x w))).instrs

free_empty : (x : Name) (w : Written) → (with_free x w).instrs ≡ w.instrs
free_empty x w = (only_then w (with_text x w) (with_free x w) (text_only x w) (free_only (number_of_text x w) (with_text x w))).instrs

begun_empty : (t : Tables) (ns : Names) (k : Block) → (begun_block t ns k).instrs ≡ []
begun_empty t ns k =
    let v = with_text k.name (empty_block t k.code) in
    let a = with_all with_local ns.locals v in
    let b = with_all with_cell ns.cells a in
    all_empty with_free free_empty ns.frees b ∙ all_empty with_cell cell_empty ns.cells a ∙ all_empty with_local local_empty ns.locals v
    ∙ (text_only k.name (empty_block t k.code)).instrs

-- each block has an instruction

put_some : (o : Operation) (w : Written) → 0 < length (put o w).instrs
unfolding put
put_some o w = omega (arith, length-append w.instrs (record { operation = o; act = None } ∷ []))

put_act_some : (o : Operation) (a : Act) (w : Written) → 0 < length (put_act o a w).instrs
unfolding put_act
put_act_some o a w = omega (arith, length-append w.instrs (record { operation = o; act = Some a } ∷ []))

some_code : (a : Around (Unit {0})) (c : BlockCode) (w : Written) → 0 < length (layout (code_piece a c) [] w).instrs
some_code a (B.of_module ss) w = put_some _ _
some_code a (B.of_function ss) w = put_some _ _
some_code a (B.of_class ss) w = put_some _ _
some_code a (B.of_lambda l e) w = put_act_some _ _ _
some_code a (B.of_generator l e k t cs) w = put_some _ _

some_mapped : {A B : Type 0} (f : A → B) (xs : List A) → 0 < length xs → 0 < length (map f xs)
some_mapped f [] h = absurd (omega arith)
some_mapped f (x ∷ xs) h = omega arith

some_bytes : (is : List Instr) → 0 < length is → 0 < length (flat_map encoding is)
some_bytes [] h = absurd (omega arith)
some_bytes (i ∷ is) h = omega (arith, ap length (flat_map-cons encoding i is), length-append (encoding i) (flat_map encoding is))

-- layouts

abbrev within_of : Code → (first : Bool) → BlockLayout → Within
within_of c first b = naming (inside (length c.texts) (length c.constants) (length c.lists) (length c.blocks) first) (names_of_block (code_block b))

abbrev Named : Code → (first : Bool) → BlockLayout → Type 0
Named c first b = AllByRecursion (NamesIn (within_of c first b)) (instrs_of b.written)

layout_named : (c : Code) (first : Bool) (N : ℕ) → length c.blocks ≡ N → (t : Tables) (a : Around (Unit {0})) (ns : Names) (k : Block) → BelowCode N k.code
    → IsBlockOf (layout_of t a ns k).written c (code_block (layout_of t a ns k)) → Named c first (layout_of t a ns k)
layout_named c first N count t a ns k below is =
    let b = layout_of t a ns k in
    let within = within_of c first b in
    mapped (NamesIn within) (λ (p : Placed). instr_in b.written p.operation) b.written.instrs
    (layout_good Anything b.written within N count (begins_count b.written.texts c.texts is.texts) (begins_count b.written.constants c.constants is.constants)
    (begins_count b.written.lists c.lists is.lists) (omega arith) (omega arith) (code_piece a k.code) [] (begun_block t ns k)
    (code_names a N Anything (λ b. b < N) (λ b h. h) (λ within x. any_free (a.variable within x).scope (a.variable within x).name)
    (λ b h. all_any (a.captured b)) k.code (made_below N k.code below)) (tabled_same b.written)
    (subst (AllByRecursion (λ (p : Placed). NamesIn within (instr_in b.written p.operation))) (sym (begun_empty t ns k)) tt))

some_laid : (t : Tables) (a : Around (Unit {0})) (ns : Names) (k : Block) → 0 < length (bytes_of (layout_of t a ns k).written)
some_laid t a ns k =
    let w = (layout_of t a ns k).written in
    some_bytes (instrs_of w) (some_mapped (λ (p : Placed). instr_in w p.operation) w.instrs (some_code a k.code (begun_block t ns k)))

block_named : (ss : Stms) → IsNumbered ss → (first : Bool) (n : ℕ) (b : BlockLayout) → slice_get (script_layouts ss) n ≡ Some b
    → NamesInside (code_of ss) first (code_block b)
block_named ss is first n b at =
    let c = code_of ss in
    let l = blocks_are_laid_out ss n b at in
    let a = around_of tt ss n in
    let ns = names_of ss n in
    let below = each_at (λ (k : Block). BelowCode (length (blocks_script ss)) k.code) (blocks_script ss) n l.block l.is_block (blocks_below ss is) in
    let named = subst (λ (d : BlockLayout). IsBlockOf d.written c (code_block d) → Named c first d) (sym l.is)
    (layout_named c first (length (blocks_script ss)) (as_many_blocks ss) l.tables a ns l.block below) l.whole in
    let again = spelled_again (within_of c first b) (instrs_of b.written) named in
    record {
      some = subst (λ (d : BlockLayout). 0 < length (bytes_of d.written)) (sym l.is) (some_laid l.tables a ns l.block);
      instrs = again.instrs;
      spelled = sym again.same;
      named = again.named;
    }

pub instructions_name_inside : InstructionsNameInside
instructions_name_inside ss is first =
    mapped (NamesInside (code_of ss) first) code_block (script_layouts ss)
    (at_each (λ (b : BlockLayout). NamesInside (code_of ss) first (code_block b)) (script_layouts ss) (block_named ss is first))
