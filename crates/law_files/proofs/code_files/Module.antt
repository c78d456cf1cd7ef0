-- The module of a script has no free names.
use Rattle.std.proofs.Common.{◌≡◌, ℕ, ◌<◌, List, [], ◌∷◌, length, None, refl, ap, ◌∙◌}
use Rattle.std.specs.Prelude.{nat_eq, codes}
use Rattle.std.specs.List.{AllByRecursion}
use Rattle.pt_tree.specs.Syntax.{Name, Stms}
use Rattle.pt_tree.specs.Blocks as B
use Rattle.pt_tree.specs.Blocks.{Block, blocks_script, no_params}
use Rattle.pt_scopes.specs.Mentions.{places_script}
use Rattle.pt_scopes.specs.Refusals.{fault_of}
use Rattle.pt_instr.specs.declared.TextNo.{TextNo}
use Rattle.sem_control.specs.control.Turn as T
use Rattle.sem_control.specs.control.Turn.{Around, Scope, Variable}
use Rattle.sem_control.specs.numbering.Numbered.{IsNumbered}
use Rattle.sem_control.proofs.numbering.Below.{numbers_below}
use Rattle.sem_names.specs.Around.{Names, around_of, names_of}
use Rattle.law_names.specs.module_names.Made.{made_stms}
use Rattle.law_names.proofs.module_names.Variables.{not_free}
use Rattle.law_names.proofs.module_names.Classes.{module_has_no_frees}
use Rattle.law_names.proofs.module_names.Taken.{AllOwned, all_owned}
use Rattle.pt_assembler.specs.Layout.{with_text, with_local, with_cell, with_free, layout}
use Rattle.sem_compile.specs.stm_pieces.StmPiece.{code_piece}
use Rattle.sem_compile.specs.compile.ScriptCode.{Tables, no_tables, with_all, empty_block, begun_block, code_of}
use Rattle.law_files.specs.code_files.Laws.{FirstHasNoFree}
use Rattle.law_files.proofs.code_files.Operations.{FreeIs, AllFree}
use Rattle.law_files.proofs.code_files.Direct.{direct_stms}
use Rattle.law_files.proofs.code_files.Statements.{code_names}
use Rattle.law_files.proofs.code_files.NoFree.{Nothing, text_free, local_free, cell_free, all_free, layout_free}

owned_is : (s : Scope) (x : Name) → (s ≡ T.free → ⊥) → FreeIs Nothing s x
owned_is T.local x h = tt
owned_is T.cell x h = tt
owned_is T.free x h = h refl
owned_is T.global x h = tt
owned_is T.of_class x h = tt

all_owned_are : (vs : List Variable) → AllOwned vs → AllFree Nothing vs
all_owned_are [] h = tt
all_owned_are (v ∷ vs) h = (owned_is v.scope v.name h.0, all_owned_are vs h.1)

together : {A : Type 0} (P Q : A → Type 0) (xs : List A) → AllByRecursion P xs → AllByRecursion Q xs → AllByRecursion (λ x. P x × Q x) xs
together P Q [] h k = tt
together P Q (x ∷ xs) h k = ((h.0, k.0), together P Q xs h.1 k.1)

begun_free : (t : Tables) (ns : Names) (k : Block) → ns.frees ≡ [] → (begun_block t ns k).free ≡ []
begun_free t ns k e =
    let v = with_text k.name (empty_block t k.code) in
    let a = with_all with_local ns.locals v in
    let b = with_all with_cell ns.cells a in
    ap (λ l. (with_all with_free l b).free) e ∙ all_free with_cell cell_free ns.cells a ∙ all_free with_local local_free ns.locals v
    ∙ text_free k.name (empty_block t k.code)

pub module_has_no_free : (ss : Stms) → IsNumbered ss → fault_of (places_script ss) ≡ None → FirstHasNoFree (code_of ss).blocks
module_has_no_free ss numbered none =
    let N = length (blocks_script ss) in
    let a : Around (Unit {0}) = around_of tt ss 0 in
    let ns = names_of ss 0 in
    let k : Block = record { name = codes "<module>"; first_line = 1; class = None; params = no_params; code = B.of_module ss } in
    let R : ℕ → Type 0 = λ b. (b < N) × AllOwned (a.captured b) in
    let made = together (λ b. b < N) (λ b. AllOwned (a.captured b)) (made_stms ss)
    (direct_stms (λ b. b < N) ss (numbers_below ss numbered)) (all_owned {V = Unit {0}} tt ss numbered) in
    let piece = code_names a N Nothing R (λ b h. h.0) (λ within x. owned_is (a.variable within x).scope (a.variable within x).name (λ free. not_free {V = Unit {0}} tt ss none within x free))
    (λ b h. all_owned_are (a.captured b) h.1) (B.of_module ss) made in
    let free : (layout (code_piece a (B.of_module ss)) [] (begun_block no_tables ns k)).free ≡ [] =
    layout_free N (code_piece a (B.of_module ss)) [] (begun_block no_tables ns k) piece ∙ begun_free no_tables ns k (module_has_no_frees ss) in
    ap (λ (l : List TextNo). nat_eq (length l) 0) free
