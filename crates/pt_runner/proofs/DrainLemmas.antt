-- Pieces that are written one after another.
use Rattle.std.proofs.Common.{◌≡◌, ℕ, ◌+◌, ◌<◌, List, [], ◌∷◌, ◌++◌, take, drop, get_or, length, sym, ap, ◌∙◌, subst}
use Rattle.std.specs.Prelude.{map}
use Rattle.std.proofs.lemmas.List.{take_more, take-append-drop, map-append}
use Rattle.pt_base.specs.Taken.{Pieces}
use Rattle.pt_sinks.specs.Writing.{Took, TookFront}
use Rattle.pt_sinks.specs.declared.writing.WriteErr.{WriteErr}
use Rattle.pt_sinks.proofs.WritingLemmas.{took_behind, front_behind, front_before}
use Rattle.pt_transfers.specs.pt_machine_state.declared.writes.Write.{Write}
use Rattle.pt_transfers.specs.pt_machine_state.Writing.{piece_of}

module _ (items : List Write) (i : ℕ) (d : Write) (within : i < length items) (is : d ≡ get_or items i d) where
  one_more : map piece_of (take (i + 1) items) ≡ map piece_of (take i items) ++ piece_of d ∷ []
  one_more =
      ap (map piece_of) (take_more items i d within) ∙ map-append piece_of (take i items) (get_or items i d ∷ [])
      ∙ ap (λ x. map piece_of (take i items) ++ piece_of x ∷ []) (sym is)

  all_pieces : map piece_of items ≡ (map piece_of (take i items) ++ piece_of d ∷ []) ++ map piece_of (drop (i + 1) items)
  all_pieces =
      sym (ap (map piece_of) (take-append-drop (i + 1) items)) ∙ map-append piece_of (take (i + 1) items) (drop (i + 1) items)
      ∙ ap (λ ps. ps ++ map piece_of (drop (i + 1) items)) one_more

  module _ (oo om on lo lm ln : Pieces → Pieces → Type 0) (before : Took oo om lo lm (map piece_of (take i items))) where
    pub took_one_more : Took om on lm ln (piece_of d ∷ []) → Took oo on lo ln (map piece_of (take (i + 1) items))
    took_one_more t =
        subst (Took oo on lo ln) (sym one_more)
        (took_behind oo om on lo lm ln (map piece_of (take i items)) (piece_of d ∷ []) before t)

    pub front_of_one_more : (why : WriteErr) (all : List Write) → items ≡ all → TookFront om on lm ln why (piece_of d ∷ [])
        → TookFront oo on lo ln why (map piece_of all)
    front_of_one_more why all same t =
        subst (TookFront oo on lo ln why) (sym all_pieces ∙ ap (map piece_of) same)
        (front_before oo on lo ln why (map piece_of (take i items) ++ piece_of d ∷ []) (map piece_of (drop (i + 1) items))
        (front_behind oo om on lo lm ln why (map piece_of (take i items)) (piece_of d ∷ []) before t))
