-- A block with a closed part of each kind, and that its parts are closed.
use Rattle.std.specs.Prelude.{◌≡◌, ℕ, List, [], ◌∷◌, Bool, true, false, nat_eq}
use Rattle.std.specs.List.{list_any}
use Rattle.pt_instr.specs.declared.Instr.{Instr}
use Rattle.pt_instr.specs.declared.Instr.TheVariants as instr
use Rattle.sem_fits.specs.fits.Block.{Block}
use Rattle.sem_fits.specs.fits.Leaves.{Common}
use Rattle.sem_fits.specs.fits.Samples.{module_of, handler, load_none}
use Rattle.sem_fits.specs.comp_jumps.Parts.{Shut}

-- for x in None:
--     try:
--         pass
--     except None:
--         pass
--     try:
--         pass
--     finally:
--         pass
--     with None:
--         pass
abbrev pub all_parts : List Instr
all_parts =
    load_none ∷ instr.Iter ∷ instr.Next (record { 0 = 58 }) ∷ instr.Pop ∷
    instr.Nop ∷ instr.Jump (record { 0 = 39 }) ∷
    load_none ∷ instr.Match ∷ instr.JumpUnless (record { 0 = 38 }) ∷ instr.Caught ∷ instr.Pop ∷
    instr.Nop ∷ instr.EndHandler ∷ instr.Jump (record { 0 = 39 }) ∷ instr.Rethrow ∷
    instr.Nop ∷ instr.Normal ∷ instr.Nop ∷ instr.EndFinally ∷
    load_none ∷ instr.Enter ∷ instr.Pop ∷ instr.Normal ∷ instr.Exit ∷ instr.EndFinally ∷
    instr.Jump (record { 0 = 6 }) ∷ load_none ∷ instr.Return ∷
    []

abbrev pub with_all_parts : Block
with_all_parts = module_of
    (handler 12 13 18 1 false ∷ handler 39 41 41 1 true ∷ handler 49 51 51 2 true ∷ []) all_parts

abbrev pub is_among : List ℕ → ℕ → Bool
is_among ps q = list_any (nat_eq q) ps

-- these places are a closed part, with this slot
pub record Is_closed (b : Block) (places : List ℕ) (slot : ℕ) : Type 0 where
  pub shut : Shut b (is_among places) slot
  pub whole : (q r : ℕ) → is_among places q ≡ true → is_among places r ≡ true
      → Common b b.size slot q r

abbrev pub ForIsClosed : Type 0
ForIsClosed = Is_closed with_all_parts
    (53 ∷ 52 ∷ 51 ∷ 50 ∷ 49 ∷ 48 ∷ 43 ∷ 42 ∷ 41 ∷ 40 ∷ 39 ∷ 33 ∷ 32 ∷ 31 ∷ 30 ∷ 38 ∷ 29 ∷ 24 ∷ 23
    ∷ 18 ∷ 13 ∷ 12 ∷ 11 ∷ 6 ∷ []) 0

abbrev pub TestsAreClosed : Type 0
TestsAreClosed = Is_closed with_all_parts (38 ∷ 29 ∷ 24 ∷ 23 ∷ 18 ∷ []) 1

abbrev pub HandlerIsClosed : Type 0
HandlerIsClosed = Is_closed with_all_parts (32 ∷ 31 ∷ 30 ∷ []) 1

abbrev pub FinallyIsClosed : Type 0
FinallyIsClosed = Is_closed with_all_parts (42 ∷ 41 ∷ []) 1

abbrev pub WithIsClosed : Type 0
WithIsClosed = Is_closed with_all_parts (51 ∷ 50 ∷ 49 ∷ []) 1

abbrev pub ExitIsClosed : Type 0
ExitIsClosed = Is_closed with_all_parts (51 ∷ []) 2
