-- Rows are taken off one by one there and here.
use Rattle.std.proofs.Common.{◌≡◌, Bool, true, false, cond, List, [], ◌∷◌, refl, ap, ◌∙◌}
use Rattle.pt_base.specs.declared.numbers.Pc.{Pc}
use Rattle.pt_heap.specs.declared.value.Value.{Value}
use Rattle.pt_ranges.specs.declared.handlers.Handler.{Handler}
use Rattle.sem_code.specs.slots.Slots.{Abrupt, raise, return, jump_to, Slots, on}
use Rattle.sem_code.specs.slots.CodeObject.{CodeObject}
use Rattle.sem_code.specs.slots.Landing as slots
use Rattle.sem_code.specs.slots.Landing.{cut, held_by}
use Rattle.pt_unwind.specs.Landings.{entry_of, landing_among}
use Rattle.pt_unwind.specs.Steps.{completion_of, state_behind, TakesSame, LandsSame}

pub takes_same : (row : Handler) (a : Abrupt Value) → TakesSame row a
takes_same row (raise v) = refl
takes_same row (return v) = refl
takes_same row (jump_to t) = refl

pub lands_same : (code : CodeObject Value) (rows : List Handler) (from : Pc) (a : Abrupt Value) (ss : Slots Value) → LandsSame code rows from a ss
lands_same code [] from (raise v) ss = refl
lands_same code [] from (return v) ss = refl
lands_same code [] from (jump_to t) ss = refl
lands_same code (row ∷ rows) from a ss =
    by (lands_same code rows from a ss) (slots.takes row a)
    ∙ ap (λ b. state_behind code a ss (cond b (entry_of row) (landing_among rows from (completion_of a)))) (takes_same row a)
  where
    by : LandsSame code rows from a ss
        → (b : Bool)
        → cond b (on row.target.0 (held_by row.always a ∷ cut row.depth ss)) (slots.land code rows a ss) ≡ state_behind code a ss (cond b (entry_of row) (landing_among rows from (completion_of a)))
    by rest true = refl
    by rest false = rest
