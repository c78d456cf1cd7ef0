-- The line of the newest visible activation among those that are left.
use Rattle.std.proofs.Common.{◌≡◌, ◌∙◌, ◌+◌, ℕ, zero, suc, List, [], ◌∷◌, drop, Some, sym, ap, add-one}
use Rattle.std.specs.Prelude.{slice_get, if◌then◌else◌}
use Rattle.std.specs.Option.{option_map}
use Rattle.pt_frames.specs.declared.activation.Activation.{Activation}
use Rattle.pt_frames.specs.declared.activations.OpenActivation.{OpenActivation}
use Rattle.pt_machine_state.specs.declared.blocks.Blocks.{Blocks}
use Rattle.pt_machine_state.specs.Changes.{first_visible, line_in}

module _ (blocks : Blocks) (otherwise : ℕ) where
  visible-suc : (os : List OpenActivation) (n : ℕ) (a : Activation) → option_map (λ o. o.activation) (slice_get os n) ≡ Some a
      → first_visible blocks otherwise (drop n os) ≡ (if a.hidden then first_visible blocks otherwise (drop (suc n) os) else line_in blocks a)
  visible-suc [] n a h = cc
  visible-suc (o ∷ os) zero a h = let same : o.activation ≡ a = cc in ap (λ b. if b.hidden then first_visible blocks otherwise os else line_in blocks b) same
  visible-suc (o ∷ os) (suc n) a h = visible-suc os n a h

  pub visible_next : (os : List OpenActivation) (n : ℕ) (a : Activation) → option_map (λ o. o.activation) (slice_get os n) ≡ Some a
      → first_visible blocks otherwise (drop n os) ≡ (if a.hidden then first_visible blocks otherwise (drop (n + 1) os) else line_in blocks a)
  visible_next os n a h = visible-suc os n a h ∙ ap (λ m. if a.hidden then first_visible blocks otherwise (drop m os) else line_in blocks a) (sym (add-one n))
