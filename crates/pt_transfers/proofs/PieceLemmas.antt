-- One piece behind the others.
use Rattle.std.proofs.Common.{◌≡◌, ◌∙◌, ℕ, List, [], ◌∷◌, ◌++◌, Bool, true, false, refl, sym, ap, map, append-nil}
use Rattle.std.proofs.lemmas.List.{map-append}
use Rattle.pt_machine_state.specs.declared.writes.Write.{Write}
use Rattle.pt_machine_state.specs.declared.writes.Write.TheVariants as write
use Rattle.pt_machine_state.specs.declared.writes.Writes.{Writes}
use Rattle.pt_machine_state.specs.Writing.{Adds, event_line, event_text, kept, piece_of, pieces_of, print_piece}

kept-print : (b : Bool) (t : List ℕ) → kept b (print_piece t ∷ []) ≡ print_piece t ∷ []
kept-print true t = refl
kept-print false t = refl

behind : (old new : Writes) (w : Write) → new.items.items ≡ old.items.items ++ w ∷ [] → pieces_of new ≡ pieces_of old ++ piece_of w ∷ []
behind old new w e = ap (λ ws. map piece_of ws) e ∙ map-append piece_of old.items.items (w ∷ [])

pub printed : (old new : Writes) (t : List ℕ) → new.items.items ≡ old.items.items ++ write.Print t ∷ [] → new.events ≡ old.events → Adds old new (print_piece t ∷ [])
printed old new t e same = record { pieces = behind old new (write.Print t) e ∙ ap (λ ws. pieces_of old ++ ws) (sym (kept-print old.events t)); events = same }

pub logged : (old new : Writes) (word : List ℕ) (line : ℕ) (name told : List ℕ) → old.events ≡ true → new.items.items ≡ old.items.items ++ write.Log (event_text word line name told) ∷ []
    → new.events ≡ old.events → Adds old new (event_line word line name told ∷ [])
logged old new word line name told on e same =
    record { pieces = behind old new (write.Log (event_text word line name told)) e ∙ ap (λ b. pieces_of old ++ kept b (event_line word line name told ∷ [])) (sym on); events = same }

pub not_logged : (w : Writes) (word : List ℕ) (line : ℕ) (name told : List ℕ) → w.events ≡ false → Adds w w (event_line word line name told ∷ [])
not_logged w word line name told off =
    record { pieces = sym (append-nil (pieces_of w)) ∙ ap (λ b. pieces_of w ++ kept b (event_line word line name told ∷ [])) (sym off); events = refl }
