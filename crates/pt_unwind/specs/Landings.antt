-- Where a completion goes on that leaves a place of code (Language Reference 8.4 "The try statement", 7.6 "return", 7.9
-- "break", 7.10 "continue"): it takes off the handlers around the place, from the innermost outwards, until one takes it.
use Rattle.std.specs.Prelude.{Bool, true, false, not, ◌&&◌, List, [], ◌∷◌, filter, if◌then◌else◌}
use Rattle.pt_base.specs.declared.numbers.Pc.{Pc}
use Rattle.pt_heap.specs.declared.completion.Completion.{Completion}
use Rattle.pt_heap.specs.declared.completion.Completion.TheVariants.{Normal, Raise, Return, Leave}
use Rattle.pt_ranges.specs.declared.handlers.Handler.{Handler}
use Rattle.pt_ranges.specs.Rows.{covers}
use Rattle.pt_unwind.specs.declared.Landing.{Landing}
use Rattle.pt_unwind.specs.declared.Landing.TheVariants.{Enter, Jump, Out}

-- `except` takes a raise. `finally` and the exit of a `with` take each completion that leaves their part
abbrev pub takes : Handler → Completion → Bool
takes row Normal = false
takes row (Raise v) = true
takes row (Return v) = row.always
takes row (Leave target) = row.always && not (covers row target)

-- at the handler of a row
abbrev pub entry_of : Handler → Landing
entry_of row = Enter row.target row.depth row.always

-- past all handlers. A raise and a return leave the block
abbrev pub way_out : (from : Pc) → Completion → Landing
way_out from Normal = Jump from
way_out from (Raise v) = Out
way_out from (Return v) = Out
way_out from (Leave target) = Jump target

-- the rows around a place, inner rows first, are taken off one by one
abbrev pub landing_among : List Handler → (from : Pc) → Completion → Landing
landing_among [] from how = way_out from how
landing_among (row ∷ rows) from how = if takes row how then entry_of row else landing_among rows from how

-- of a block's rows those that cover the place stand around it
abbrev pub landing_of : List Handler → (from : Pc) → Completion → Landing
landing_of rows from how = landing_among (filter (λ row. covers row from) rows) from how
