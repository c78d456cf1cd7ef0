use Rattle.std.proofs.Common.{◌≡◌, ◌<◌, ℕ, zero, suc, List, [], ◌∷◌, length, set, Some, refl, ap, arith}
use Rattle.std.specs.Prelude.{slice_get}
use Rattle.std.specs.Option.{option_map}
use Rattle.pt_gen.specs.declared.generator.Generator.TheVariants.{Suspended}
use Rattle.pt_gen.specs.States.{resumption}
use Rattle.pt_gen.proofs.laws.suspended_goes_on.Goals as goal

slice_get-set : {X : Type 0} (xs : List X) (n : ℕ) (x : X) → n < length xs → slice_get (set xs n x) n ≡ Some x
slice_get-set [] n x h = absurd (omega arith)
slice_get-set (y ∷ ys) zero x h = refl
slice_get-set (y ∷ ys) (suc n) x h = slice_get-set ys n x (omega arith)

pub returns : goal.returns
returns g c = λ gens n a how h. ap (option_map (resumption how)) (slice_get-set gens n (Suspended a) h)
