-- What the code of a statement depends on: the handler rows that cover it, how many slots lie below, the loop around it, and the starts of the block.
use Rattle.std.specs.Prelude.{◌≡◌, ℕ, suc, List, [], ◌∷◌, Bool, true, false, not, ◌&&◌, Option, Some, None}
use Rattle.pt_ranges.specs.declared.handlers.Handler.{Handler}
use Rattle.pt_ranges.specs.Rows.{covers}
use Rattle.pt_code.specs.declared.Start.{Start}
use Rattle.sem_control.specs.control.Frames as F
use Rattle.sem_control.specs.control.Frames.{Nest}
use Rattle.sem_code.specs.slots.Slots as slots
use Rattle.sem_code.specs.slots.Slots.{jump_to}
use Rattle.sem_code.specs.slots.CodeObject.{CodeObject}

-- the places to which a `continue` and a `break` go, and how many slots lie there (7.9, 7.10)
pub record Loop : Type 0 where
  pub next : ℕ
  pub next_depth : ℕ
  pub end : ℕ
  pub end_depth : ℕ

-- the rows stand inner first
pub record Surroundings : Type 0 where
  pub rows : List Handler
  pub depth : ℕ
  pub loop : Option Loop
  pub starts : List Start

abbrev pub outermost : List Start → Surroundings
outermost starts = record { rows = []; depth = 0; loop = None; starts = starts }

-- in the body of a `while`, and in that of a `for`, whose iterator lies in a slot
abbrev pub in_while : (next end : ℕ) → Surroundings → Surroundings
in_while next end x = record x { loop = Some (record { next = next; next_depth = x.depth; end = end; end_depth = x.depth }) }

abbrev pub in_for : (next end : ℕ) → Surroundings → Surroundings
in_for next end x = record x { depth = suc x.depth; loop = Some (record { next = next; next_depth = suc x.depth; end = end; end_depth = x.depth }) }

-- above one slot more, and under one row more
abbrev pub deeper : Surroundings → Surroundings
deeper x = record x { depth = suc x.depth }

abbrev pub under : Handler → Surroundings → Surroundings
under r x = record x { rows = r ∷ x.rows }

abbrev pub covers_place : Handler → (pc : ℕ) → Bool
covers_place r p = covers r (record { 0 = p })

-- a place that is left for from under these rows: none of them takes that
abbrev pub Reached : (pc : ℕ) → List Handler → Type 0
Reached p [] = Unit {0}
Reached p (r ∷ rows) = ((r.always && not (covers_place r p)) ≡ false) × Reached p rows

-- a row covers no place to which the loop around is left
abbrev pub Within_loop : Handler → Option Loop → Type 0
Within_loop r None = Unit {0}
Within_loop r (Some l) = (covers_place r l.next ≡ false) × (covers_place r l.end ≡ false)

-- a row that takes each completion from what it covers, and one that takes raises alone
pub record TakesAll (r : Handler) (x : Surroundings) : Type 0 where
  pub depth : r.depth ≡ x.depth
  pub always : r.always ≡ true
  pub around : Within_loop r x.loop

pub record TakesRaises (r : Handler) (x : Surroundings) : Type 0 where
  pub depth : r.depth ≡ x.depth
  pub except : r.always ≡ false

-- how code has a completion of control; a `break` and a `continue` come within loops alone
abbrev pub end_place : Option Loop → ℕ
end_place None = 0
end_place (Some l) = l.end

abbrev pub next_place : Option Loop → ℕ
next_place None = 0
next_place (Some l) = l.next

module _ {V : Type 0} where
  abbrev pub as_code : F.Abrupt V → Surroundings → slots.Abrupt V
  as_code (F.raise v) x = slots.raise v
  as_code (F.return v) x = slots.return v
  as_code F.break x = jump_to (end_place x.loop)
  as_code F.continue x = jump_to (next_place x.loop)

  abbrev pub held_as : F.Completion V → Surroundings → slots.Completion V
  held_as F.normal x = slots.normal
  held_as (F.by a) x = slots.by (as_code a x)

module _ {V : Type 0} (code : CodeObject V) where
  -- as many slots lie there as is said
  abbrev pub Ends : Option Loop → Type 0
  Ends None = ⊥
  Ends (Some l) = code.depth_at l.end ≡ l.end_depth

  abbrev pub Goes_on : Option Loop → Type 0
  Goes_on None = ⊥
  Goes_on (Some l) = code.depth_at l.next ≡ l.next_depth

  abbrev pub May : F.Abrupt V → Surroundings → Type 0
  May (F.raise v) x = Unit {0}
  May (F.return v) x = Unit {0}
  May F.break x = Ends x.loop
  May F.continue x = Goes_on x.loop

  abbrev pub May_hold : F.Completion V → Surroundings → Type 0
  May_hold F.normal x = Unit {0}
  May_hold (F.by a) x = May a x
