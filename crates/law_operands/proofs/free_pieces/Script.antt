-- The free names of the blocks of a script.
use Rattle.std.proofs.Common.{◌≡◌, ℕ, zero, suc, ◌+◌, List, [], ◌∷◌, Some, None, refl, sym, ap, ◌∙◌, subst, arith}
use Rattle.std.specs.Prelude.{slice_get}
use Rattle.pt_scopes.specs.declared.region.Mention.{Mention}
use Rattle.law_files.proofs.code_files.Each.{weaken}
use Rattle.pt_tree.specs.Syntax.{Name, Stms}
use Rattle.pt_tree.specs.Blocks.{Block, blocks_script}
use Rattle.sem_control.specs.numbering.Numbered.{IsNumbered, counted_from, numbers_stms}
use Rattle.pt_scopes.specs.declared.region.Kind.TheVariants.{Module}
use Rattle.pt_scopes.specs.Mentions.{places_script}
use Rattle.pt_scopes.specs.Names.{mangled}
use Rattle.pt_scopes.specs.Places.{module_context}
use Rattle.pt_scopes.specs.Refusals.{fault_of}
use Rattle.sem_control.specs.control.Turn as T
use Rattle.sem_control.specs.control.Turn.{Scope, Variable}
use Rattle.sem_names.specs.Around.{around_of, captured_in, names_at}
use Rattle.sem_names.specs.BlockNames.{free_names}
use Rattle.sem_names.specs.Naming.{variable_in}
use Rattle.sem_names.specs.Script.{Naming, class_name_of, functions_of, naming_script, shape_in}
use Rattle.law_files.specs.sem_compile.stm_pieces.StmPiece.{code_piece}
use Rattle.law_files.proofs.sem_compile.compile.Blocks.{blocks_are_laid_out}
use Rattle.law_operands.specs.free_names.FreeNames.{Among, FreeOperands, NamedOperands, OnlyFree, StandsIn}
use Rattle.law_operands.proofs.free_names.Begun.{operands_leave}
use Rattle.law_operands.proofs.free_names.Lookups.{looked_up}
use Rattle.law_operands.proofs.free_names.Taken.{taken_along_is_free}
use Rattle.law_operands.proofs.piece_names.Standing.{All_good, good_at}
use Rattle.law_operands.proofs.piece_names.Script.{mapped_at, module_stands}
use Rattle.law_operands.specs.free_pieces.Laws.{BlocksHaveTheirFreeNames}
use Rattle.law_operands.proofs.free_pieces.Blocks.{KnowsNames, LooksUp, Slots, Slots_named}
use Rattle.law_operands.proofs.free_pieces.Operands.{CellIs, SlotIs}
use Rattle.law_operands.proofs.free_pieces.Statements.{stms}

number_at : {A : Type 0} (n : ℕ) (xs : List A) (i b : ℕ) → slice_get (counted_from n xs) i ≡ Some b → b ≡ n + i
number_at n [] i b is = absurd (let no : None ≡ Some b = is in cc)
number_at n (x ∷ xs) zero b is =
    let same : n ≡ b = (let there : Some n ≡ Some b = is in cc) in
    let plain : n ≡ n + 0 = omega arith in
    sym same ∙ plain
number_at n (x ∷ xs) (suc i) b is = let plain : suc n + i ≡ n + suc i = omega arith in number_at (suc n) xs i b is ∙ plain

-- of any names of which that is known
pub all_named : (ss : Stms) (At : Slots) → KnowsNames (naming_script ss) (0 ∷ numbers_stms ss) At
    → All_good (naming_script ss) (0 ∷ numbers_stms ss) (Slots_named (naming_script ss) At) [] (places_script ss).blocks (blocks_script ss)
all_named ss At all =
    let g = naming_script ss in
    let walk = stms g (0 ∷ numbers_stms ss) At all ss 0 module_context [] in
    let body = module_stands ss in
    let own = walk.own 1 1 body in (
      (
        (record { kind = Module; around = 0; home = 0 }, refl, refl),
        λ b at shape. (
          own b (record {
            at = record { region = at; spelled = λ x. ap (λ o. mangled (class_name_of o) x) shape };
            stands = refl;
            home = refl;
          }) refl _,
          (tt, tt),
        ),
      ),
      walk.inner 1 1 body,
    )

pub place_is_number : (ss : Stms) → IsNumbered ss → (place n : ℕ) → slice_get (0 ∷ numbers_stms ss) place ≡ Some n → n ≡ place
place_is_number ss numbered place n is =
    let same : 0 + place ≡ place = omega arith in
    number_at 0 (blocks_script ss) place n (subst (λ l. slice_get (0 ∷ l) place ≡ Some n) numbered is) ∙ same

-- operands of the block with a number name such names alone
pub block_named : (ss : Stms) (At : Slots) → KnowsNames (naming_script ss) (0 ∷ numbers_stms ss) At → (n : ℕ) (k : Block) → slice_get (blocks_script ss) n ≡ Some k
    → (h : ℕ) × (slice_get (places_script ss).blocks n ≡ Some h) × NamedOperands (At h) (code_piece (around_of {V = Unit {0}} tt ss n) k.code)
block_named ss At all n k is =
    let g = naming_script ss in
    let h = good_at g (0 ∷ numbers_stms ss) (Slots_named g At) [] (places_script ss).blocks (blocks_script ss) (all_named ss At all) n k is in
    (h.0, h.1, h.2.1 n h.1 (mapped_at (shape_in []) (blocks_script ss) n k is))

-- free names of the block with a region
abbrev Frees : Naming → Slots
Frees g h s x = OnlyFree (Among (free_names g.places (functions_of g) h)) s x

free_slot : (Q : Name → Type 0) (s : Scope) (x : Name) → (s ≡ T.free → Q x) → SlotIs (OnlyFree Q) s x
free_slot Q T.local x f = tt
free_slot Q T.cell x f = tt
free_slot Q T.free x f = f refl
free_slot Q T.global x f = tt
free_slot Q T.of_class x f = tt

free_cell : (Q : Name → Type 0) (s : Scope) (x : Name) → (s ≡ T.free → Q x) → CellIs (OnlyFree Q) s x
free_cell Q T.local x f = tt
free_cell Q T.cell x f = tt
free_cell Q T.free x f = f refl
free_cell Q T.global x f = tt
free_cell Q T.of_class x f = tt

knows_free_names : (ss : Stms) → fault_of (places_script ss) ≡ None → IsNumbered ss → KnowsNames (naming_script ss) (0 ∷ numbers_stms ss) (Frees (naming_script ss))
knows_free_names ss none numbered =
    let g = naming_script ss in
    let Q : ℕ → Name → Type 0 = λ h. Among (free_names g.places (functions_of g) h) in
    record {
      looked_up = λ b h within at.
          weaken (λ (m : Mention). StandsIn g h within m.region → (variable_in g b within m.name).scope ≡ T.free → Q h (variable_in g b within m.name).name)
          (LooksUp g (Frees g) b h within)
          (λ m f stands. free_slot (Q h) (variable_in g b within m.name).scope (variable_in g b within m.name).name (f stands))
          g.places.mentions (looked_up ss b h within none at);
      taken_along = λ h n k block at is made.
          weaken (λ (v : Variable). v.scope ≡ T.free → Q h v.name) (λ (v : Variable). CellIs (Frees g h) v.scope v.name)
          (λ v f. free_cell (Q h) v.scope v.name f) (captured_in g n) (taken_along_is_free ss h n k block at is made);
      number_is = place_is_number ss numbered;
    }

pub blocks_have_free_names : BlocksHaveTheirFreeNames
blocks_have_free_names ss none numbered unused n layout at =
    let g = naming_script ss in
    let l = blocks_are_laid_out ss n layout at in
    let h = block_named ss (Frees g) (knows_free_names ss none numbered) n l.block l.is_block in
    let frees = ap (λ o. (names_at g n o (slice_get (places_script ss).blocks n)).frees) l.is_block ∙ ap (λ o. (names_at g n (Some l.block) o).frees) h.1 in
    operands_leave ss n layout l.block at l.is_block unused
    (subst (λ (xs : List Name). FreeOperands (Among xs) (code_piece (around_of {V = Unit {0}} tt ss n) l.block.code)) (sym frees) h.2)
