-- The tables of a block that fits tell of it.
use Rattle.std.proofs.Common.{◌≡◌, inl, inr, ℕ, ◌<◌, ◌≤◌, List, length, Option, Some, None, refl, sym, ap, ◌∙◌, subst, arith}
use Rattle.std.specs.Prelude.{option_map, slice_get}
use Rattle.pt_instr.specs.declared.kinds.Kind.{Kind}
use Rattle.pt_code.specs.View.{Ins}
use Rattle.pt_places.specs.declared.places.Place.{Place}
use Rattle.pt_places.specs.PlaceTable.{entry, place_at, HasPlaces}
use Rattle.sem_fits.specs.fits.Block.{Block}
use Rattle.sem_fits.specs.fits.Agreement as A
use Rattle.sem_fits.specs.fits.Fits.{Fits}
use Rattle.pt_verify_depths.specs.PlaceTable.{AreSizes}
use Rattle.pt_kinds.specs.Forest as K
use Rattle.pt_kinds.specs.Forest.{list_at}
use Rattle.pt_kind_flow.specs.Search.{IsFlow}
use Rattle.pt_block_kinds.specs.declared.graph.BlockKinds.{BlockKinds}
use Rattle.pt_block_kinds.specs.Graph.{IsSeen}
use Rattle.pt_block_kinds.specs.Drawing.{Draws}
use Rattle.pt_block_kinds.specs.Told as D
use Rattle.pt_block_kinds.specs.Told.{TellsListAt, TwoMeet}
use Rattle.pt_joins.specs.Joins.{IsForest, Root}
use Rattle.pt_joins.specs.Joins as J
use Rattle.pt_joins.specs.declared.joins.Joins.{Joins}
use Rattle.pt_joins.specs.declared.joins.Node.{Node}
use Rattle.pt_common_slots.specs.Common.{TellsCommon}
use Rattle.pt_place_slots.specs.declared.lists.KindList.{KindList}
use Rattle.pt_place_slots.specs.declared.tables.BlockSlots.{BlockSlots}
use Rattle.pt_place_slots.specs.Lists.{AreListed, Lists}
use Rattle.pt_place_slots.specs.Tables.{HasLists, HasSlot, IsSound, TellsSlotsOf, TellsSlotAt}
use Rattle.pt_place_slots.proofs.Elements.{none_some, some_none, entry_behind, low_or}
use Rattle.pt_kind_failures.proofs.Seen.{has_sizes}
use Rattle.pt_place_slots.proofs.Seen.{gotten_stands, all_sizes}

-- no place of a block that fits gets two lists
apart : (b : Block) → Fits b → TwoMeet b b.size → ⊥
apart b fits (D.two g h e) = fits.agrees.kinds (A.two g h e)

module _ (b : Block) (fits : Fits b) (places : List (Option Place)) (has : HasPlaces b.at places) (sizes : List (Option ℕ)) (are : AreSizes b sizes)
    (seen : IsSeen b (length sizes)) (kinds : BlockKinds) (draws : Draws b b.size sizes kinds) (table : List (Option KindList))
    (listed : AreListed kinds places (length sizes) table) where
  -- where an instruction starts its list is told
  told_there : (pc : ℕ) (i : Ins) → b.at pc ≡ Some i → TellsListAt b b.size pc (option_map (λ l. list_at kinds.flow.forest l.list) (entry table pc))
  told_there pc i e = (listed.tells pc (seen.below pc i e)).told b b.size sizes draws seen (has_sizes b b.size sizes (all_sizes b sizes are)) (apart b fits) i e
      (λ none. some_none _ (sym (has pc ∙ ap place_at e) ∙ none))

  nothing_there : (pc : ℕ) → b.at pc ≡ None → entry table pc ≡ None
  nothing_there pc e = elim (low_or pc (length sizes)) [
    | inl lt ↦ (listed.tells pc lt).nowhere (has pc ∙ ap place_at e)
    | inr le ↦ entry_behind table pc (let l = listed.long in omega (arith, l, le))
  ]

  pub lists_tell : (pc : ℕ) → TellsListAt b b.size pc (option_map (λ l. list_at kinds.flow.forest l.list) (entry table pc))
  lists_tell pc = by_place (b.at pc) refl
    where
      by_place : (o : Option Ins) → b.at pc ≡ o → TellsListAt b b.size pc (option_map (λ l. list_at kinds.flow.forest l.list) (entry table pc))
      by_place (Some i) e = told_there pc i e
      by_place None e = subst (λ o. TellsListAt b b.size pc (option_map (λ l. list_at kinds.flow.forest l.list) o)) (sym (nothing_there pc e))
          (λ ks g. let (i, s) = gotten_stands b g in none_some i (sym e ∙ s))

  pub tells_block : (s : BlockSlots) → s.places.items ≡ table → s.forest ≡ kinds.flow.forest → TellsCommon b b.size s.joins.nodes.items → TellsSlotsOf b s
  tells_block s t f common = record {
    lists = λ pc. subst (λ xs. TellsListAt b b.size pc (option_map (λ l. list_at s.forest l.list) (entry xs pc))) (sym t)
        (subst (λ g. TellsListAt b b.size pc (option_map (λ l. list_at g l.list) (entry table pc))) (sym f) (lists_tell pc));
    common = common;
  }

-- a root is one of the numbers
pub root_inside : {nodes : List Node} {level i r : ℕ} → Root nodes level i r → r < length nodes
root_inside (J.top lt e) = lt
root_inside (J.link lt e r) = root_inside r

pub sound : (kinds : BlockKinds) (places : List (Option Place)) (count : ℕ) (s : BlockSlots) (joins : Joins) → IsFlow kinds.flow → IsForest joins.nodes.items
    → s.joins ≡ joins → HasLists kinds places count s → count ≤ length joins.nodes.items → length joins.nodes.items ≤ 4294967295 → IsSound s
sound kinds places count s joins flow forest same has wide few = record {
  kinds = subst K.IsForest (sym has.forest) flow.opens.forest;
  joins = subst (λ (j : Joins). IsForest j.nodes.items) (sym same) forest;
  listed = λ pc. subst (λ f. Lists f (entry s.places.items pc)) (sym has.forest) (has.lists.listed pc);
  wide = (let l = has.lists.long in let n = ap (λ (j : Joins). length j.nodes.items) same in omega (arith, l, n, wide));
  few = (let n = ap (λ (j : Joins). length j.nodes.items) same in omega (arith, n, few));
}

module _ (b : Block) (s : BlockSlots) (is : IsSound s) (t : TellsSlotsOf b s) (pc slot : ℕ) where
  pub no_list : entry s.places.items pc ≡ None → TellsSlotAt b s pc slot None
  no_list e ks g = absurd (subst (λ o. TellsListAt b b.size pc (option_map (λ l. list_at s.forest l.list) o)) e (t.lists pc) ks g)

  module _ (l : KindList) (e : entry s.places.items pc ≡ Some l) where
    told : TellsListAt b b.size pc (Some (list_at s.forest l.list))
    told = subst (λ o. TellsListAt b b.size pc (option_map (λ l. list_at s.forest l.list) o)) e (t.lists pc)

    pub no_slot : None ≡ slice_get (list_at s.forest l.list) slot → TellsSlotAt b s pc slot None
    no_slot f ks g = ap (λ ls. slice_get ls slot) (told.1 ks g) ∙ sym f

    pub has_slot : (kind : Kind) (n : ℕ) → Some kind ≡ slice_get (list_at s.forest l.list) slot → Root s.joins.nodes.items slot pc n
        → HasSlot b s pc slot kind n
    has_slot kind n f r = record {
      kinds = list_at s.forest l.list;
      gets = told.0;
      is = sym f;
      numbered = record { root = r };
    }
