-- The line of the newest visible activation among those that are left.
use Rattle.std.proofs.Common.{◌≡◌, ◌∙◌, ◌+◌, ℕ, zero, suc, List, [], ◌∷◌, drop, Some, sym, ap, add-one}
use Rattle.std.specs.Prelude.{slice_get, if◌then◌else◌}
use Rattle.pt_closing.specs.pt_beginning.pt_machine_state.declared.blocks.Blocks.{Blocks}
use Rattle.pt_closing.specs.pt_beginning.pt_machine_state.Changes.{line_in}
use Rattle.pt_closing.specs.pt_purposes.declared.opener.Opener.{Opener}
use Rattle.pt_advancing.specs.Lines.{first_visible}

module _ (blocks : Blocks) (otherwise : ℕ) where
  visible-suc : (os : List Opener) (n : ℕ) (o : Opener) → slice_get os n ≡ Some o
      → first_visible blocks otherwise (drop n os)
      ≡ (if o.running.activation.hidden then first_visible blocks otherwise (drop (suc n) os) else line_in blocks o.running.activation)
  visible-suc [] n o h = cc
  visible-suc (p ∷ os) zero o h =
      let same : p ≡ o = cc in
      ap (λ q. if q.running.activation.hidden then first_visible blocks otherwise os else line_in blocks q.running.activation) same
  visible-suc (p ∷ os) (suc n) o h = visible-suc os n o h

  pub visible_next : (os : List Opener) (n : ℕ) (o : Opener) → slice_get os n ≡ Some o
      → first_visible blocks otherwise (drop n os)
      ≡ (if o.running.activation.hidden then first_visible blocks otherwise (drop (n + 1) os) else line_in blocks o.running.activation)
  visible_next os n o h =
      visible-suc os n o h
      ∙ ap (λ m. if o.running.activation.hidden then first_visible blocks otherwise (drop m os) else line_in blocks o.running.activation) (sym (add-one n))
