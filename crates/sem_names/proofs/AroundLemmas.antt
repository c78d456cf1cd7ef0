-- How names of a block that is there are spelled.
use Rattle.std.proofs.Common.{◌≡◌, ℕ, zero, suc, List, [], ◌∷◌, map, Option, Some, ap}
use Rattle.std.specs.Prelude.{slice_get}
use Rattle.std.specs.Option.{unwrap_or}
use Rattle.pt_scopes.specs.Names.{mangled}
use Rattle.pt_scopes.specs.Places.{Places}
use Rattle.pt_tree.specs.Blocks.{Block}
use Rattle.pt_tree.specs.Syntax.{Name}
use Rattle.sem_names.specs.declared.block_shape.BlockShape.{BlockShape}
use Rattle.sem_names.specs.Naming.{own}
use Rattle.sem_names.specs.Script.{class_name_of, shape_in}
use Rattle.sem_names.proofs.OutwardsLemmas.{nothing_is}

mapped_at : {A B : Type 0} (f : A → B) (xs : List A) (i : ℕ) (x : A) → slice_get xs i ≡ Some x → slice_get (map f xs) i ≡ Some (f x)
mapped_at f [] i x at = nothing_is x at
mapped_at f (y ∷ ys) zero x at = let same : y ≡ x = (let there : Some y ≡ Some x = at in cc) in ap (λ z. Some (f z)) same
mapped_at f (y ∷ ys) (suc i) x at = mapped_at f ys i x at

pub names_are_own : (g : Places) (bs : List Block) (b : ℕ) (k : Block) (x : Name) → slice_get bs b ≡ Some k
    → own g b (mangled (class_name_of (slice_get (map (shape_in []) bs) b)) x) ≡ own g b (mangled (unwrap_or k.class []) x)
names_are_own g bs b k x is = ap (λ (o : Option BlockShape). own g b (mangled (class_name_of o) x)) (mapped_at (shape_in []) bs b k is)
