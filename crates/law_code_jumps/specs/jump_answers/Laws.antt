-- What laws say of the answers to jumps (Library Reference, "inspect": `f_lineno`).
use Rattle.std.specs.Prelude.{◌≡◌, ℕ}
use Rattle.pt_instr.specs.Effects.{Kinds}
use Rattle.sem_fits.specs.fits.Block.{Block}
use Rattle.sem_fits.specs.fits.Places.{Gets}
use Rattle.sem_fits.specs.fits.Fits.{Fits}
use Rattle.sem_fits.specs.fits.Jumps.{Answer, Jumps}
use Rattle.law_code_jumps.specs.jump_answers.Known.{SlotsKnown, KnowsSlots, answer_by}

-- where slots are known, the answer by them is the one that is said of slots
abbrev pub AnswersBySlots : Block → SlotsKnown → Type 0
AnswersBySlots b k = KnowsSlots b k → (from : ℕ) (ks : Kinds) (line : ℕ) → Gets b b.size from ks
    → Jumps b from ks line (answer_by k b.starts from line)

-- in a block that fits there is no other one
abbrev pub HasOneAnswer : Block → Type 0
HasOneAnswer b = Fits b → (from : ℕ) (ks : Kinds) (line : ℕ) (one other : Answer)
    → Jumps b from ks line one → Jumps b from ks line other → one ≡ other
