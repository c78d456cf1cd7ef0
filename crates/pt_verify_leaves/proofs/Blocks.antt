-- What is known of a block by its view.
use Rattle.std.proofs.Common.{◌≡◌, ℕ, ◌<◌, ◌≤◌, List, length, Option, Some, refl, sym, ap, ◌∙◌, arith}
use Rattle.pt_code.specs.declared.Code.{Code}
use Rattle.pt_code.specs.declared.CodeBlock.{CodeBlock}
use Rattle.pt_code.specs.View.{Ins, IsView}
use Rattle.pt_places.specs.declared.places.Place.{Place}
use Rattle.pt_places.specs.PlaceTable.{HasPlaces}
use Rattle.pt_sizes.specs.Flow.{entry}
use Rattle.sem_fits.specs.fits.Block.{block_of}
use Rattle.sem_fits.proofs.fits.ViewLaid.{view_is_laid}
use Rattle.pt_verify_depths.specs.PlaceTable.{AreSizesUpTo}
use Rattle.pt_joins.specs.declared.joins.Node.{Node}
use Rattle.pt_common_slots.specs.Common.{RowsLead, TellsCommon}
use Rattle.pt_block_limits.proofs.SilentLemmas.{rows_laid}
use Rattle.pt_takers.specs.declared.takers.Takers.{Takers}
use Rattle.pt_takers.specs.Takers.{TellsTakers}
use Rattle.pt_top_slots.specs.declared.tops.TopSlots.{TopSlots}
use Rattle.pt_top_slots.specs.TopSlots.{AreTops}
use Rattle.pt_verify_leaves.specs.Onto.{Knows, rows_at}
use Rattle.pt_verify_leaves.specs.Search.{HasSearched}
use Rattle.pt_verify_leaves.specs.Held.{HasHeldUpTo}
use Rattle.pt_verify_leaves.proofs.Parts.{seen}
use Rattle.pt_verify_leaves.proofs.Going.{has_held}

module _ (code : Code) (block : CodeBlock) (view : ℕ → Option Ins) (v : IsView block view) (places : List (Option Place)) (shown : HasPlaces view places) where
  pub rows_are : (pc : ℕ) (i : Ins) → view pc ≡ Some i → i.rows ≡ rows_at block.handlers pc
  rows_are pc i e = rows_laid block 0 v.instrs pc i (sym (ap (λ f. f pc) v.view_is) ∙ e)

  module _ (count : ℕ) (takers : Takers) (tells : TellsTakers block.handlers count takers) (more : length block.instructions < count) where
    below : (pc : ℕ) (p : Place) → entry places pc ≡ Some p → pc < count
    below pc p e = let s = seen (view pc) p (sym (shown pc) ∙ e) in let le = view_is_laid code block view v pc s.ins s.is in omega (arith, le, more)

    pub knows : Knows places block.handlers takers
    knows = record { count = count; tells = tells; below = below }

pub held_of : (code : Code) (block : CodeBlock) (view : ℕ → Option Ins) → IsView block view → (places : List (Option Place)) → HasPlaces view places
    → (sizes : List (Option ℕ)) (p : ℕ) → AreSizesUpTo (block_of code block view) p sizes → RowsLead (block_of code block view)
    → (nodes : List Node) (t : TellsCommon (block_of code block view) p nodes) (tops : TopSlots) → AreTops t.joins sizes tops
    → (end : ℕ) → ((pc : ℕ) → pc < length sizes → pc ≤ p → pc < end) → ((pc : ℕ) → pc < end → pc ≤ p)
    → (bundles : List (List ℕ)) (held : List (Option ℕ)) → HasSearched places block.handlers tops.classes.items tops.count sizes end bundles held
    → HasHeldUpTo (block_of code block view) p bundles held
held_of code block view v places shown sizes p are lead nodes t tops at end inside low bundles held h =
    has_held (block_of code block view) p sizes are lead places shown (rows_are code block view v places shown) nodes t tops at tops.count end refl
    inside low bundles held h
