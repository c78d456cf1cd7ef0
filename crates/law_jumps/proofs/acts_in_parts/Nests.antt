-- Where a place lies in the parts of a nest with what they hold.
use Rattle.std.proofs.Common.{◌≡◌, ℕ, List, [], ◌∷◌, refl, ap, ◌∙◌, subst}
use Rattle.sem_control.specs.control.Frames as F
use Rattle.sem_control.specs.control.Frames.{Nest}
use Rattle.sem_control.specs.control.Jump as J
use Rattle.sem_control.specs.control.Jump.{Part, exit_part, with_part, parts, Shape, shape}
use Rattle.sem_code.specs.slots.Slots.{Slots}
use Rattle.sem_code.specs.comp.Surroundings.{Surroundings}
use Rattle.sem_code.specs.comp.Law.{Above}
use Rattle.sem_fits.specs.comp_jumps.Parts.{Closed}
use Rattle.sem_fits.specs.comp_jumps.Filled.{Filled, of_none, of_rest, of_looping, of_iterating, of_guarded, of_testing, of_handling, of_naming, of_ensuring, of_ending, of_withing}
use Rattle.sem_code.specs.slots.CodeObject.{CodeObject}
use Rattle.sem_fits.specs.fits.Block.{Block}
use Rattle.sem_run.specs.run.Machine.{BlockId}
use Rattle.sem_run.specs.run.Source.{Source}
use Rattle.law_code_runs.specs.code_run.CodeMachine.{Place, CodeSource}
use Rattle.law_code_runs.specs.code_run.Parts.{LiesIn, InParts, in_nest, at_exit}
use Rattle.law_parts.specs.act_parts.Laws.{placed_in}
use Rattle.law_jumps.specs.filled_nests.Laws as holds
use Rattle.law_jumps.specs.filled_nests.Laws.{HoldsEnds}

-- the parts of a nest are those of its shape
shape_parts : {V : Type 0} (s : Nest V) → parts (shape s) ≡ parts s
shape_parts [] = refl
shape_parts (F.rest n ss ∷ s) = shape_parts s
shape_parts (F.looping l n c body els ∷ s) = shape_parts s
shape_parts (F.iterating l n i t body els ∷ s) = ap (λ ps. J.for_part n ∷ ps) (shape_parts s)
shape_parts (F.guarded n hs els ∷ s) = shape_parts s
shape_parts (F.testing n e ∷ s) = ap (λ ps. J.tests_part n ∷ ps) (shape_parts s)
shape_parts (F.handling n e ∷ s) = ap (λ ps. J.handler_part n ∷ ps) (shape_parts s)
shape_parts (F.naming x ∷ s) = shape_parts s
shape_parts (F.ensuring t n fin ∷ s) = shape_parts s
shape_parts (F.ending t held ∷ s) = ap (λ ps. J.finally_part t ∷ ps) (shape_parts s)
shape_parts (F.withing l n w ∷ s) = ap (λ ps. J.with_part n ∷ ps) (shape_parts s)
shape_parts (F.exiting n w held ∷ s) = ap (λ ps. J.exit_part n ∷ ps) (shape_parts s)

-- no exit is due in a nest whose slots are filled
placed_so : {V : Type 0} (object : CodeObject V) (sh : Shape) (xs : List Surroundings) (s : Nest V)
    (σ : Slots V) → Filled object sh xs s σ → placed_in sh ≡ parts sh
placed_so object _ _ _ _ of_none = refl
placed_so object _ _ _ _ (of_rest n ss sh xs s σ f) = refl
placed_so object _ _ _ _ (of_looping l n c body els sh xs s σ f) = refl
placed_so object _ _ _ _ (of_iterating l n i t body els sh xs s σ f) = refl
placed_so object _ _ _ _ (of_guarded n hs els sh xs s σ f) = refl
placed_so object _ _ _ _ (of_testing n e sh xs s σ f) = refl
placed_so object _ _ _ _ (of_handling n e sh xs s σ f) = refl
placed_so object _ _ _ _ (of_naming y sh xs s σ f) = refl
placed_so object _ _ _ _ (of_ensuring t n fin sh xs s σ f) = refl
placed_so object _ _ _ _ (of_ending t held x sh xs s σ m f) = refl
placed_so object _ _ _ _ (of_withing l n w sh xs s σ f) = refl

module _ {V : Type 0} (source : Source V) (code : CodeSource V) (b : BlockId) (block : Block)
    (part : Part → Closed block) (ending : ℕ → Surroundings) where
  lies_so : (pc : ℕ) (ps qs : List Part) → ps ≡ qs → LiesIn block part pc ps
      → LiesIn block part pc qs
  lies_so pc ps qs e h = subst (LiesIn block part pc) e h

  pub in_parts : (s : Nest V) (τ : Slots V) (p : Place V) → HoldsEnds (code.object b) ending s τ
      → τ ≡ p.slots → LiesIn block part p.pc (placed_in (shape s))
      → InParts source code b block part ending s p
  in_parts _ _ p (holds.in_nest s σ τ f a) e lies =
      in_nest s p σ
      (lies_so p.pc _ _ (placed_so (code.object b) (shape s) _ s σ f ∙ shape_parts s) lies) f
      (subst (Above σ) e a)
  in_parts _ _ p (holds.in_exit n w held s τ) e lies =
      at_exit n w held s p
      (lies_so p.pc _ _ (ap (λ ps. exit_part n ∷ with_part n ∷ ps) (shape_parts s)) lies)
