-- What is known of slots answers jumps as is said of slots.
use Rattle.std.proofs.Common.{◌≡◌, ℕ, zero, suc, Bool, true, false, not, if◌then◌else◌, Option, Some, None, refl}
use Rattle.std.specs.Prelude.{MatchBool}
use Rattle.pt_instr.specs.Effects.{Kinds}
use Rattle.sem_fits.specs.fits.Block.{Block}
use Rattle.sem_fits.specs.fits.Places.{Gets}
use Rattle.sem_fits.specs.fits.Leaves.{Common}
use Rattle.sem_fits.specs.fits.Jumps.{Jumps, out_of_finally, into_block, lands}
use Rattle.pt_jump.specs.Slots as S
use Rattle.pt_jump.specs.Slots.{IsApart, IsTogether, AnswersAt, size_at, held_at}
use Rattle.pt_jump.specs.Targets.{first_on}
use Rattle.pt_jump.proofs.Targeting.{nowhere, somewhere}
use Rattle.law_code_jumps.specs.jump_answers.Known.{SlotsKnown, KnowsSlots, is_apart, answer_at, answer_to}
use Rattle.law_code_jumps.specs.jump_answers.Laws.{AnswersBySlots}

module _ (b : Block) (k : SlotsKnown) (knows : KnowsSlots b k) (from : ℕ) where
  module _ (to : ℕ) where
    topmost : (slot : ℕ) (t : Bool)
        → MatchBool t (Common b b.size slot from to) (Common b b.size slot from to → ⊥)
        → MatchBool (not t) (IsApart b from to (suc slot)) (IsTogether b from to (suc slot))
    topmost slot true c = S.topmost c
    topmost slot false none = record { slot = slot; last = refl; apart = none }

    tells_apart : (n : ℕ)
        → MatchBool (is_apart k from to n) (IsApart b from to n) (IsTogether b from to n)
    tells_apart zero = S.none
    tells_apart (suc slot) = topmost slot (k.is_shared slot from to) (knows.shared slot from to)

    abbrev held : ℕ
    held = held_at k.told from to

    abbrev size : ℕ
    size = size_at k.told to

    by_both : (x y : Bool) → MatchBool x (IsApart b from to held) (IsTogether b from to held)
        → MatchBool y (IsApart b from to size) (IsTogether b from to size)
        → AnswersAt b k.told from to
        (if x then out_of_finally else (if y then into_block else lands to size))
    by_both true y a c = S.through a
    by_both false true a c = S.enters a c
    by_both false false a c = S.goes a c

    answers : AnswersAt b k.told from to (answer_at k from to)
    answers =
        by_both (is_apart k from to held) (is_apart k from to size) (tells_apart held)
        (tells_apart size)

  module _ (ks : Kinds) (got : Gets b b.size from ks) (line : ℕ) where
    by_first : (first : Option ℕ) → first_on k.told line None b.starts ≡ first
        → Jumps b from ks line (answer_to k from first)
    by_first None e = nowhere b k.told knows.told from ks got line e
    by_first (Some to) e =
        somewhere b k.told knows.told from ks got line to e (answer_at k from to) (answers to)

pub answers_by_slots : (b : Block) (k : SlotsKnown) → AnswersBySlots b k
answers_by_slots b k knows from ks line got =
    by_first b k knows from ks got line (first_on k.told line None b.starts) refl
