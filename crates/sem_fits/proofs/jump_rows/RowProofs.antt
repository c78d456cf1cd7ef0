-- The parts of the row are closed, as is computed from the table of its kinds.
use Rattle.std.proofs.Common.{◌≡◌, List, [], ◌∷◌, true, refl}
use Rattle.pt_instr.specs.declared.kinds.Kind.TheVariants.{Value, Iter, Exc, Pending, With}
use Rattle.pt_instr.specs.Effects.{effect_of}
use Rattle.pt_instr.specs.Encoding.{code_of}
use Rattle.sem_fits.proofs.fits.Certificates.{Entry, entry}
use Rattle.sem_fits.specs.jump_rows.Rows.{with_all_parts, ForIsClosed, TestsAreClosed, HandlerIsClosed, FinallyIsClosed, WithIsClosed, ExitIsClosed}
use Rattle.sem_fits.proofs.jump_rows.Tables.{has_all, leaves_nowhere, grown, closed_by}

abbrev table : List Entry
table =
    entry 63 (Value ∷ []) ∷ entry 58 [] ∷ entry 53 (Iter ∷ []) ∷ entry 52 (Iter ∷ Pending ∷ []) ∷
    entry 51 (Iter ∷ With ∷ Pending ∷ []) ∷ entry 50 (Iter ∷ With ∷ []) ∷ entry 49 (Iter ∷ With ∷ Value ∷ []) ∷
    entry 48 (Iter ∷ Value ∷ []) ∷ entry 43 (Iter ∷ []) ∷ entry 42 (Iter ∷ Pending ∷ []) ∷ entry 41 (Iter ∷ Pending ∷ []) ∷
    entry 40 (Iter ∷ []) ∷ entry 39 (Iter ∷ []) ∷ entry 33 (Iter ∷ []) ∷ entry 32 (Iter ∷ Exc ∷ []) ∷
    entry 31 (Iter ∷ Exc ∷ []) ∷ entry 30 (Iter ∷ Exc ∷ Value ∷ []) ∷ entry 38 (Iter ∷ Exc ∷ []) ∷ entry 29 (Iter ∷ Exc ∷ []) ∷
    entry 24 (Iter ∷ Exc ∷ Value ∷ []) ∷ entry 23 (Iter ∷ Exc ∷ Value ∷ []) ∷ entry 18 (Iter ∷ Exc ∷ []) ∷ entry 13 (Iter ∷ []) ∷
    entry 12 (Iter ∷ []) ∷ entry 11 (Iter ∷ Value ∷ []) ∷ entry 6 (Iter ∷ []) ∷ entry 5 (Value ∷ []) ∷ entry 0 [] ∷ []

all_listed : has_all with_all_parts table ≡ true
unfolding code_of effect_of
all_listed = refl

none_leaves : leaves_nowhere with_all_parts table ≡ true
unfolding code_of effect_of
none_leaves = refl

all_grown : grown with_all_parts table ≡ true
unfolding code_of effect_of
all_grown = refl

pub for_is_closed : ForIsClosed
unfolding code_of effect_of
for_is_closed = closed_by with_all_parts table all_listed none_leaves all_grown _ 0 refl refl

pub tests_are_closed : TestsAreClosed
unfolding code_of effect_of
tests_are_closed = closed_by with_all_parts table all_listed none_leaves all_grown _ 1 refl refl

pub handler_is_closed : HandlerIsClosed
unfolding code_of effect_of
handler_is_closed = closed_by with_all_parts table all_listed none_leaves all_grown _ 1 refl refl

pub finally_is_closed : FinallyIsClosed
unfolding code_of effect_of
finally_is_closed = closed_by with_all_parts table all_listed none_leaves all_grown _ 1 refl refl

pub with_is_closed : WithIsClosed
unfolding code_of effect_of
with_is_closed = closed_by with_all_parts table all_listed none_leaves all_grown _ 1 refl refl

pub exit_is_closed : ExitIsClosed
unfolding code_of effect_of
exit_is_closed = closed_by with_all_parts table all_listed none_leaves all_grown _ 2 refl refl
