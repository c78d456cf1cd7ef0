-- The names in the blocks of a script.
use Rattle.std.proofs.Common.{◌≡◌, ℕ, zero, suc, List, [], ◌∷◌, map, Some, None, refl, ap}
use Rattle.std.specs.Prelude.{slice_get}
use Rattle.pt_scopes.specs.BlockKinds.{code_kind}
use Rattle.pt_scopes.specs.declared.region.Region.{Region}
use Rattle.pt_scopes.specs.declared.region.Kind.TheVariants.{Module}
use Rattle.pt_scopes.specs.Mentions.{places_script, places_stms}
use Rattle.pt_scopes.specs.Names.{mangled}
use Rattle.pt_scopes.specs.Places.{module_context, only_module}
use Rattle.pt_tree.specs.Syntax.{Stms}
use Rattle.pt_tree.specs.Blocks.{Block, Code, blocks_script}
use Rattle.sem_control.specs.numbering.Numbered.{numbers_stms}
use Rattle.sem_names.specs.Nexts.{nexts_stms}
use Rattle.sem_names.specs.Script.{Naming, class_name_of, naming_script, shape_in}
use Rattle.law_names.proofs.next_numbers.Found.{found}
use Rattle.law_operands.specs.piece_names.Laws.{NamesAreFound}
use Rattle.law_operands.proofs.piece_names.Standing.{All_good, Stands, good_at, itself, right_stands}
use Rattle.law_operands.proofs.piece_names.Own.{Comprehends}
use Rattle.law_operands.proofs.piece_names.Quiet.{all_undeclared}
use Rattle.law_operands.proofs.piece_names.Expressions.{Found}
use Rattle.law_operands.proofs.piece_names.Statements.{stms}

comprehends : (ss : Stms) → Comprehends (naming_script ss)
comprehends ss = record { found = found ss; undeclared = all_undeclared ss }

pub mapped_at : {A B : Type 0} (f : A → B) (xs : List A) (i : ℕ) (x : A) → slice_get xs i ≡ Some x → slice_get (map f xs) i ≡ Some (f x)
mapped_at f [] i x at = absurd (let no : None ≡ Some x = at in cc)
mapped_at f (y ∷ ys) zero x at = let same : y ≡ x = (let there : Some y ≡ Some x = at in cc) in ap (λ z. Some (f z)) same
mapped_at f (y ∷ ys) (suc i) x at = mapped_at f ys i x at

-- the module stands in front of what is in it
pub module_stands : (ss : Stms) → Stands (naming_script ss) (0 ∷ numbers_stms ss) 1 1 (places_stms module_context [] ss 1) (nexts_stms ss 0) (numbers_stms ss)
module_stands ss =
    let g = naming_script ss in
    let numbers : List ℕ = 0 ∷ numbers_stms ss in
    right_stands g numbers 0 0 only_module (places_stms module_context [] ss 1) (None ∷ []) (nexts_stms ss 0) (0 ∷ []) (numbers_stms ss) refl refl (itself g numbers)

all_good : {V : Type 0} (null : V) (ss : Stms)
    → All_good (naming_script ss) (0 ∷ numbers_stms ss) (Found null (naming_script ss)) [] (places_script ss).blocks (blocks_script ss)
all_good null ss =
    let g = naming_script ss in
    let walk = stms null g (0 ∷ numbers_stms ss) (comprehends ss) ss 0 module_context [] in
    let body = module_stands ss in
    let own = walk.own 1 1 body in
    (((record { kind = Module; around = 0; home = 0 }, refl, refl), λ b at shape q. own b (record { region = at; spelled = λ x. ap (λ o. mangled (class_name_of o) x) shape }) refl q), walk.inner 1 1 body)

pub names_are_found : {V : Type 0} → NamesAreFound V
names_are_found null ss n block is plain =
    let g = naming_script ss in
    let h = good_at g (0 ∷ numbers_stms ss) (Found null g) [] (places_script ss).blocks (blocks_script ss) (all_good null ss) n block is in
    h.2.1 n h.1 (mapped_at (shape_in []) (blocks_script ss) n block is) plain

-- the region of a block, which is of its kind
pub record HasRegion (ss : Stms) (n : ℕ) (block : Block) : Type 0 where
  pub region : ℕ
  pub here : Region
  pub is_region : slice_get (places_script ss).blocks n ≡ Some region
  pub is_here : slice_get (places_script ss).regions region ≡ Some here
  pub same_kind : here.kind ≡ code_kind block.code

pub has_region : (ss : Stms) (n : ℕ) (block : Block) → slice_get (blocks_script ss) n ≡ Some block → HasRegion ss n block
has_region ss n block is =
    let g = naming_script ss in
    let h = good_at g (0 ∷ numbers_stms ss) (Found {V = Unit {0}} tt g) [] (places_script ss).blocks (blocks_script ss) (all_good {V = Unit {0}} tt ss) n block is in
    record { region = h.0; here = h.2.0.0; is_region = h.1; is_here = h.2.0.1; same_kind = h.2.0.2 }

no_region_at : (g : Naming) (numbers : List ℕ) (Asked : (block region : ℕ) → Code → Type 0) (rs : List ℕ) (bs : List Block) → All_good g numbers Asked [] rs bs → (n : ℕ) → slice_get bs n ≡ None → slice_get rs n ≡ None
no_region_at g numbers Asked [] [] h n is = refl
no_region_at g numbers Asked [] (b ∷ bs) h n is = absurd h
no_region_at g numbers Asked (r ∷ rs) [] h n is = absurd h
no_region_at g numbers Asked (r ∷ rs) (b ∷ bs) h zero is = absurd (let there : Some b ≡ None = is in cc)
no_region_at g numbers Asked (r ∷ rs) (b ∷ bs) h (suc n) is = no_region_at g numbers Asked rs bs h.1 n is

pub has_no_region : (ss : Stms) (n : ℕ) → slice_get (blocks_script ss) n ≡ None → slice_get (places_script ss).blocks n ≡ None
has_no_region ss n is =
    let g = naming_script ss in
    no_region_at g (0 ∷ numbers_stms ss) (Found {V = Unit {0}} tt g) (places_script ss).blocks (blocks_script ss) (all_good {V = Unit {0}} tt ss) n is
