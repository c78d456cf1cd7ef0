-- The tables of a block answer what a jump asks.
use Rattle.std.proofs.Common.{◌≡◌, ℕ, length, Option, Some, None, refl, sym, ap, ◌∙◌, subst}
use Rattle.std.specs.Prelude.{option_map}
use Rattle.std.proofs.lemmas.Option.{same_Some}
use Rattle.pt_instr.specs.Effects.{Kinds}
use Rattle.pt_places.specs.PlaceTable.{entry}
use Rattle.sem_fits.specs.fits.Block.{Block}
use Rattle.sem_fits.specs.fits.Places.{Gets}
use Rattle.pt_jump.specs.Slots.{GetsMany, IsHeld}
use Rattle.pt_kinds.specs.Forest.{list_at}
use Rattle.pt_block_kinds.specs.Told.{TellsListAt}
use Rattle.pt_place_slots.specs.declared.lists.KindList.{KindList}
use Rattle.pt_place_slots.specs.declared.tables.BlockSlots.{BlockSlots}
use Rattle.pt_place_slots.specs.Tables.{IsSound, TellsSlotsOf, held_of}
use Rattle.pt_place_slots.specs.Laws.{AnswerJumps}
use Rattle.pt_place_slots.proofs.Elements.{none_some}

module _ (b : Block) (s : BlockSlots) (is : IsSound s) (t : TellsSlotsOf b s) (pc : ℕ) where
  many : (n : ℕ) (o : Option KindList) → entry s.places.items pc ≡ o → option_map (λ l. l.count) o ≡ Some n
      → TellsListAt b b.size pc (option_map (λ l. list_at s.forest l.list) o) → GetsMany b pc n
  many n (Some l) e f (g, only) = record {
    kinds = list_at s.forest l.list;
    gets = g;
    many = sym (is.listed pc l e).count ∙ same_Some l.count n f;
  }
  many n None e f none = absurd (none_some n f)

  counted : (ks : Kinds) → Gets b b.size pc ks → (o : Option KindList) → entry s.places.items pc ≡ o
      → TellsListAt b b.size pc (option_map (λ l. list_at s.forest l.list) o) → option_map (λ l. l.count) o ≡ Some (length ks)
  counted ks g (Some l) e (h, only) = ap (λ n. Some n) ((is.listed pc l e).count ∙ ap length (sym (only ks g)))
  counted ks g None e none = absurd (none ks g)

  held : (ks : Kinds) → Gets b b.size pc ks → (o : Option KindList) → entry s.places.items pc ≡ o
      → TellsListAt b b.size pc (option_map (λ l. list_at s.forest l.list) o) → IsHeld ks (held_of o)
  held ks g (Some l) e (h, only) = subst (λ ls. IsHeld ls l.held) (sym (only ks g)) (is.listed pc l e).held
  held ks g None e none = absurd (none ks g)

pub answer_jumps : (b : Block) (s : BlockSlots) → AnswerJumps b s
answer_jumps b s is t = record {
  sound = λ pc n e. many b s is t pc n (entry s.places.items pc) refl e (t.lists pc);
  whole = λ pc ks g. counted b s is t pc ks g (entry s.places.items pc) refl (t.lists pc);
  held = λ pc ks g. held b s is t pc ks g (entry s.places.items pc) refl (t.lists pc);
}
