-- What is said of the tables of a block.
use Rattle.std.specs.Prelude.{◌≡◌, ◌↔◌, ℕ}
use Rattle.sem_fits.specs.fits.Block.{Block}
use Rattle.sem_fits.specs.fits.Leaves.{Common}
use Rattle.pt_jump.specs.Slots.{TellsSlots}
use Rattle.pt_place_slots.specs.declared.tables.BlockSlots.{BlockSlots}
use Rattle.pt_place_slots.specs.Tables.{IsNumber, IsSound, TellsSlotsOf, told_of}

abbrev pub NumbersTell : Block → BlockSlots → Type 0
NumbersTell b s = TellsSlotsOf b s → (slot q r m n : ℕ) → IsNumber s q slot m → IsNumber s r slot n
    → (m ≡ n) ↔ Common b b.size slot q r

abbrev pub AnswerJumps : Block → BlockSlots → Type 0
AnswerJumps b s = IsSound s → TellsSlotsOf b s → TellsSlots b (told_of s)
