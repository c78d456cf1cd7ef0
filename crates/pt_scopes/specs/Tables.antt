-- What the tables of names say.
use Rattle.std.specs.Prelude.{ℕ, Bool, not, ◌||◌, ◌&&◌, ◌==◌, List, bytes_eq}
use Rattle.pt_scopes.specs.declared.refusals.Seen.{Seen}
use Rattle.pt_scopes.specs.declared.region.Earlier.{Earlier}
use Rattle.pt_scopes.specs.declared.region.Facts.{Facts}
use Rattle.pt_scopes.specs.declared.region.Mention.{Mention}
use Rattle.pt_scopes.specs.declared.region.Region.{Region}
use Rattle.pt_scopes.specs.declared.region.Role.{Role}
use Rattle.pt_scopes.specs.declared.region.Role.TheVariants.{Read, Bind, Parameter, Global, Nonlocal, Misplaced}
use Rattle.pt_scopes.specs.declared.table.Names.{Names}
use Rattle.pt_scopes.specs.NameSets.{is_in}
use Rattle.pt_scopes.specs.Refusals.{is_seat, seat_from}
use Rattle.pt_scopes.specs.Scope.{home_of, is_just, is_of, meant}
use Rattle.pt_tree.specs.Syntax.{Name}

abbrev pub facts_in : Names → Name → (region : ℕ) → Facts
facts_in n x r = record { binds = is_in n.bound r x; global = is_in n.global r x; nonlocal = is_in n.nonlocal r x }

-- the facts with one mention more
abbrev pub noted : Role → Mention → Name → (region : ℕ) → Facts → Facts
noted Read m x r f = f
noted Bind m x r f = record f { binds = f.binds || is_of r x m }
noted Parameter m x r f = record f { binds = f.binds || is_of r x m }
noted Global m x r f = record f { global = f.global || is_of r x m }
noted Nonlocal m x r f = record f { nonlocal = f.nonlocal || is_of r x m }
noted Misplaced m x r f = f

abbrev pub earlier_in : Seen → Name → (region : ℕ) → Earlier
earlier_in s x r = record { parameter = is_in s.parameters r x; global = is_in s.global r x; nonlocal = is_in s.nonlocal r x; used = is_in s.used r x }

-- with one use more
abbrev pub used_too : List Region → (Name → ℕ → Facts) → Mention → Name → (region : ℕ) → Earlier → Earlier
used_too rs look m x r e = record e { used = e.used || (is_seat (seat_from rs (look m.name) m.region) r && bytes_eq m.name x) }

-- with one mention more
abbrev pub seen : List Region → (Name → ℕ → Facts) → Role → Mention → Name → (region : ℕ) → Earlier → Earlier
seen rs look Read m x r e = used_too rs look m x r e
seen rs look Bind m x r e = used_too rs look m x r e
seen rs look Parameter m x r e = record e { parameter = e.parameter || is_of r x m }
seen rs look Global m x r e = record e { global = e.global || is_of r x m }
seen rs look Nonlocal m x r e = record e { nonlocal = e.nonlocal || is_of r x m }
seen rs look Misplaced m x r e = e

-- whether a name is captured, with one mention more
abbrev pub captured_too : List Region → (Name → ℕ → Facts) → Mention → (region : ℕ) → Name → Bool → Bool
captured_too rs look m r x b = b || (is_just (meant rs (look m.name) m.region) r && not (home_of rs m.region == r) && bytes_eq m.name x)
