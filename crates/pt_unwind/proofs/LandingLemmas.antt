-- The first row that covers a place and takes a completion is the one at which the rows that are taken off end.
use Rattle.std.proofs.Common.{◌≡◌, ◌∙◌, Bool, true, false, cond, ◌&&◌, List, [], ◌∷◌, Option, None, Some, filter, find, refl, ap}
use Rattle.pt_base.specs.declared.numbers.Pc.{Pc}
use Rattle.pt_heap.specs.declared.completion.Completion.{Completion}
use Rattle.pt_ranges.specs.declared.handlers.Handler.{Handler}
use Rattle.pt_ranges.specs.Rows.{covers, first_over}
use Rattle.pt_unwind.specs.declared.Landing.{Landing}
use Rattle.pt_unwind.specs.Landings.{takes, entry_of, way_out, landing_among, landing_of}

-- where the row that was found leads
abbrev pub landing_at : Option Handler → Pc → Completion → Landing
landing_at None from how = way_out from how
landing_at (Some row) from how = entry_of row

-- the rows around a place
abbrev around : List Handler → Pc → List Handler
around rows from = filter (λ row. covers row from) rows

abbrev pub taking : List Handler → Pc → Completion → Option Handler
taking rows from how = find (λ row. covers row from && takes row how) rows

pub landing_of-found : (rows : List Handler) (from : Pc) (how : Completion) → landing_of rows from how ≡ landing_at (taking rows from how) from how
landing_of-found [] from how = refl
landing_of-found (row ∷ rows) from how = by (landing_of-found rows from how) (covers row from)
  where
    taken : landing_of rows from how ≡ landing_at (taking rows from how) from how
        → (t : Bool) → cond t (entry_of row) (landing_among (around rows from) from how) ≡ landing_at (cond t (Some row) (taking rows from how)) from how
    taken rest true = refl
    taken rest false = rest

    by : landing_of rows from how ≡ landing_at (taking rows from how) from how
        → (b : Bool) → landing_among (cond b (row ∷ around rows from) (around rows from)) from how ≡ landing_at (cond (b && takes row how) (Some row) (taking rows from how)) from how
    by rest true = taken rest (takes row how)
    by rest false = rest

-- where no row covers the place
pub landing_of-none : (rows : List Handler) (from : Pc) (how : Completion) → first_over rows from ≡ None → landing_of rows from how ≡ way_out from how
landing_of-none [] from how h = refl
landing_of-none (row ∷ rows) from how h = by (landing_of-none rows from how) (covers row from) h
  where
    by : (first_over rows from ≡ None → landing_of rows from how ≡ way_out from how)
        → (b : Bool) → cond b (Some row) (first_over rows from) ≡ None → landing_among (cond b (row ∷ around rows from) (around rows from)) from how ≡ way_out from how
    by rest true n = cc
    by rest false n = rest n

-- where the innermost row takes it
pub landing_of-innermost : (rows : List Handler) (from : Pc) (how : Completion) (row : Handler) → first_over rows from ≡ Some row → takes row how ≡ true
    → landing_of rows from how ≡ entry_of row
landing_of-innermost [] from how row h t = cc
landing_of-innermost (r ∷ rows) from how row h t = by (λ s. landing_of-innermost rows from how row s t) (covers r from) h
  where
    by : (first_over rows from ≡ Some row → landing_of rows from how ≡ entry_of row)
        → (b : Bool) → cond b (Some r) (first_over rows from) ≡ Some row → landing_among (cond b (r ∷ around rows from) (around rows from)) from how ≡ entry_of row
    by rest true s =
        let same : r ≡ row = cc in
        ap (λ x. cond (takes x how) (entry_of x) (landing_among (around rows from) from how)) same
        ∙ ap (λ b. cond b (entry_of row) (landing_among (around rows from) from how)) t
    by rest false s = rest s

-- of rows that cover the place the first that takes the completion
pub landing_among-found : (rows : List Handler) (from : Pc) (how : Completion) → landing_among rows from how ≡ landing_at (find (λ row. takes row how) rows) from how
landing_among-found [] from how = refl
landing_among-found (row ∷ rows) from how = by (landing_among-found rows from how) (takes row how)
  where
    by : landing_among rows from how ≡ landing_at (find (λ row. takes row how) rows) from how
        → (b : Bool) → cond b (entry_of row) (landing_among rows from how) ≡ landing_at (cond b (Some row) (find (λ row. takes row how) rows)) from how
    by rest true = refl
    by rest false = rest
