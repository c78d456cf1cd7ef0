-- Act marks in the order of their places.
use Rattle.std.specs.Prelude.{List, [], ◌∷◌, map, nat_le, if◌then◌else◌, Option, None, Some}
use Rattle.std.specs.Option.{option_or}
use Rattle.std.specs.List.Sorted.{IsStrictlyIncreasing}
use Rattle.pt_base.specs.declared.numbers.Pc.{Pc}
use Rattle.pt_ranges.specs.declared.lines.ActMark.{ActMark}

-- each mark stands before the next
abbrev pub Rises : List ActMark → Type 0
Rises marks = IsStrictlyIncreasing (map (λ m. m.pc.0) marks)

-- the last of the marks that stand at the place or before it
abbrev pub mark_over : List ActMark → Pc → Option ActMark
mark_over [] pc = None
mark_over (m ∷ ms) pc = option_or (mark_over ms pc) (if nat_le m.pc.0 pc.0 then Some m else None)
