-- The row that takes a completion is the first of those that are asked for it.
use Rattle.std.proofs.Common.{◌≡◌, ◌∙◌, Bool, true, false, ◌&&◌, if◌then◌else◌, List, [], ◌∷◌, None, Some, refl, sym, ap}
use Rattle.std.specs.Prelude.{not}
use Rattle.pt_base.specs.declared.numbers.Pc.{Pc}
use Rattle.pt_heap.specs.declared.value.Value.{Value}
use Rattle.pt_heap.specs.declared.completion.Completion.{Completion}
use Rattle.pt_heap.specs.declared.completion.Completion.TheVariants.{Normal, Raise, Return, Leave}
use Rattle.pt_ranges.specs.declared.handlers.Handler.{Handler}
use Rattle.pt_ranges.specs.Rows.{covers, first_over}
use Rattle.pt_places.specs.Innermost.{always_rows, first_left}
use Rattle.pt_unwind.specs.Landings.{takes, entry_of, way_out, landing_among, landing_of}
use Rattle.pt_unwind.proofs.LandingLemmas.{taking, landing_at, landing_of-found}

pub for_none : (rows : List Handler) (pc : Pc) → None ≡ taking rows pc Normal
for_none [] pc = refl
for_none (row ∷ rows) pc = by (covers row pc) (for_none rows pc)
  where
    by : (b : Bool) → None ≡ taking rows pc Normal → None ≡ (if b && false then Some row else taking rows pc Normal)
    by true e = e
    by false e = e

pub for_raise : (rows : List Handler) (pc : Pc) (v : Value) → first_over rows pc ≡ taking rows pc (Raise v)
for_raise [] pc v = refl
for_raise (row ∷ rows) pc v = by (covers row pc) (for_raise rows pc v)
  where
    by : (b : Bool) → first_over rows pc ≡ taking rows pc (Raise v) → (if b then Some row else first_over rows pc) ≡ (if b && true then Some row else taking rows pc (Raise v))
    by true e = refl
    by false e = e

pub for_return : (rows : List Handler) (pc : Pc) (v : Value) → first_over (always_rows rows) pc ≡ taking rows pc (Return v)
for_return [] pc v = refl
for_return (row ∷ rows) pc v = by row.always (covers row pc) (for_return rows pc v)
  where
    by : (t b : Bool) → first_over (always_rows rows) pc ≡ taking rows pc (Return v)
        → first_over (if t then row ∷ always_rows rows else always_rows rows) pc ≡ (if covers row pc && t then Some row else taking rows pc (Return v))
    by true b e = here (covers row pc)
      where
        here : (c : Bool) → (if c then Some row else first_over (always_rows rows) pc) ≡ (if c && true then Some row else taking rows pc (Return v))
        here true = refl
        here false = e
    by false b e = here (covers row pc)
      where
        here : (c : Bool) → first_over (always_rows rows) pc ≡ (if c && false then Some row else taking rows pc (Return v))
        here true = e
        here false = e

pub for_jump : (rows : List Handler) (pc target : Pc) → first_left (always_rows rows) pc target ≡ taking rows pc (Leave target)
for_jump [] pc target = refl
for_jump (row ∷ rows) pc target = by row.always (for_jump rows pc target)
  where
    by : (t : Bool) → first_left (always_rows rows) pc target ≡ taking rows pc (Leave target)
        → first_left (if t then row ∷ always_rows rows else always_rows rows) pc target ≡ (if covers row pc && (t && not (covers row target)) then Some row else taking rows pc (Leave target))
    by true e = ap (λ rest. if covers row pc && not (covers row target) then Some row else rest) e
    by false e = here (covers row pc)
      where
        here : (c : Bool) → first_left (always_rows rows) pc target ≡ (if c && false then Some row else taking rows pc (Leave target))
        here true = e
        here false = e

-- a row that was found takes the completion
found_takes : (rows : List Handler) (pc : Pc) (how : Completion) (row : Handler) → taking rows pc how ≡ Some row → takes row how ≡ true
found_takes [] pc how row e = absurd (cc)
found_takes (r ∷ rows) pc how row e = by (covers r pc) (takes r how) refl (found_takes rows pc how row) e
  where
    by : (c t : Bool) → takes r how ≡ t → (taking rows pc how ≡ Some row → takes row how ≡ true) → (if c && t then Some r else taking rows pc how) ≡ Some row → takes row how ≡ true
    by true true s rest h = ap (λ x. takes x how) (let q : row ≡ r = cc in q) ∙ s
    by true false s rest h = rest h
    by false t s rest h = rest h

pub lands_at : (rows : List Handler) (pc : Pc) (how : Completion) (row : Handler) → taking rows pc how ≡ Some row → landing_among (row ∷ []) pc how ≡ landing_of rows pc how
lands_at rows pc how row e = ap (λ t. if t then entry_of row else way_out pc how) (found_takes rows pc how row e)
    ∙ sym (landing_of-found rows pc how ∙ ap (λ o. landing_at o pc how) e)

pub lands_nowhere : (rows : List Handler) (pc : Pc) (how : Completion) → taking rows pc how ≡ None → landing_among [] pc how ≡ landing_of rows pc how
lands_nowhere rows pc how e = sym (landing_of-found rows pc how ∙ ap (λ o. landing_at o pc how) e)
