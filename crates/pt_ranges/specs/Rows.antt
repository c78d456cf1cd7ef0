-- Handler rows, inner rows first.
use Rattle.std.specs.Prelude.{Bool, ◌&&◌, List, nat_le, nat_lt, find, Option}
use Rattle.pt_base.specs.declared.numbers.Pc.{Pc}
use Rattle.pt_ranges.specs.declared.handlers.Handler.{Handler}

-- the place is from the row's first up to its end
abbrev pub covers : Handler → Pc → Bool
covers row pc = nat_le row.from.0 pc.0 && nat_lt pc.0 row.to.0

-- the first of the rows that cover the place
abbrev pub first_over : List Handler → Pc → Option Handler
first_over rows pc = find (λ row. covers row pc) rows
