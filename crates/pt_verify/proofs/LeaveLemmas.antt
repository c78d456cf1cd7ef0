-- Where no Leave stands, no slot holds one.
use Rattle.std.proofs.Common.{◌≡◌, ℕ, ◌<◌, ◌≤◌, List, [], length, Option, Some, None, ap, ◌∙◌, arith}
use Rattle.pt_code.specs.View.{Ins, IsView}
use Rattle.pt_code.specs.declared.Code.{Code}
use Rattle.pt_code.specs.declared.CodeBlock.{CodeBlock}
use Rattle.pt_places.specs.declared.places.Place.{Place}
use Rattle.pt_places.specs.PlaceTable.{HasPlaces, place_at, place_of}
use Rattle.sem_fits.specs.fits.Block.{block_of}
use Rattle.sem_fits.proofs.fits.Certificates.{Stands, holds_stands}
use Rattle.pt_verify_leaves.specs.Held.{HasHeldUpTo}
use Rattle.pt_kind_failures.proofs.Seen.{is_seen}
use Rattle.pt_verify.specs.Leaves.{HasLeave, is_leave}

some_is_none : {X : Type 0} (x : X) → None ≡ Some x → ⊥
some_is_none x e = cc

module _ (c : Code) (block : CodeBlock) (view : ℕ → Option Ins) (v : IsView block view) (places : List (Option Place)) (has : HasPlaces view places)
    (p end : ℕ) (below : (pc : ℕ) → pc < length block.instructions → pc ≤ p → pc < end) where
  has_leave : Stands (block_of c block view) p → HasLeave places end
  has_leave s = record {
    pc = s.pc;
    low = below s.pc ((is_seen c block view v (length block.instructions) (omega arith)).below s.pc s.ins s.reached.stands) s.reached.low;
    here = ap is_leave (has s.pc ∙ ap place_at s.reached.stands) ∙ ap (λ i. is_leave (Some (place_of i s.ins.mark s.ins.next))) s.is;
  }

  pub none_held : (HasLeave places end → ⊥) → HasHeldUpTo (block_of c block view) p [] []
  none_held none = record {
    sound = λ pc t i. absurd (some_is_none i.bundle i.is);
    whole = λ pc t l. absurd (none (has_leave (holds_stands l.holds)));
  }
