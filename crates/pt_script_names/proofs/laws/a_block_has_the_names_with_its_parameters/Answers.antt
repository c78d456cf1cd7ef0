use Rattle.std.proofs.Common.{◌≡◌, ◌∙◌, ℕ, refl, ap}
use Rattle.std.specs.Prelude.{slice_get, Option, Some, None}
use Rattle.pt_block_names.specs.Named.{names_in_region}
use Rattle.sem_names.specs.Around.{names_at}
use Rattle.sem_names.specs.Script.{Naming, naming_script}
use Rattle.pt_tree.specs.Blocks.{Block}
use Rattle.pt_script_names.proofs.laws.a_block_has_the_names_with_its_parameters.Goals as goal

by_region : (g : Naming) (b : ℕ) (k : Block) (h : Option ℕ) → names_at g b (Some k) h ≡ names_in_region g b k.params h
by_region g b k None = refl
by_region g b k (Some h) = refl

pub returns : goal.returns
returns c = λ ss b k there.
    let g = naming_script ss in
    let h = slice_get g.places.blocks b in
    ap (λ (o : Option Block). names_at g b o h) there ∙ by_region g b k h
