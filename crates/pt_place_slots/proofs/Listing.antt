-- The lists of places, place by place.
use Rattle.std.proofs.Common.{◌≡◌, inl, inr, ℕ, ◌+◌, List, [], ◌∷◌, ◌++◌, length, Option, Some, None, refl, sym, ap, ◌∙◌, subst, arith, length-append, true, Bor}
use Rattle.std.specs.Prelude.{is_some, option_map}
use Rattle.std.proofs.lemmas.Bool.{false≢true}
use Rattle.std.proofs.lemmas.Option.{same_Some}
use Rattle.pt_code.specs.View.{Ins}
use Rattle.pt_places.specs.declared.places.Place.{Place}
use Rattle.pt_places.specs.PlaceTable.{entry}
use Rattle.sem_fits.specs.fits.Block.{Block}
use Rattle.pt_kinds.specs.Forest.{list_at}
use Rattle.pt_block_kinds.specs.declared.graph.BlockKinds.{BlockKinds}
use Rattle.pt_block_kinds.specs.Graph.{HasSizes, IsSeen}
use Rattle.pt_block_kinds.specs.Drawing.{Draws}
use Rattle.pt_block_kinds.specs.Told.{TellsListAt, TwoMeet}
use Rattle.pt_place_slots.specs.declared.lists.KindList.{KindList}
use Rattle.pt_place_slots.specs.Lists.{AreListed, IsListed, Lists, TellsListed}
use Rattle.pt_place_slots.proofs.Elements.{none_some, some_none, entry_last, entry_left, entry_cases, below_or}

pub no_lists : (kinds : BlockKinds) (places : List (Option Place)) (table : List (Option KindList)) → table ≡ [] → AreListed kinds places 0 table
no_lists kinds places table e = record {
  long = ap length e;
  listed = λ pc l h. absurd (none_some l (sym (ap (λ t. entry t pc) e) ∙ h));
  tells = λ pc lt. absurd (omega (arith, lt));
}

pub lists_more : (kinds : BlockKinds) (places : List (Option Place)) (at : ℕ) (table table' : List (Option KindList)) (o : Option KindList)
    → AreListed kinds places at table → table' ≡ table ++ o ∷ [] → TellsListed kinds (entry places at) at o → Lists kinds.flow.forest o
    → AreListed kinds places (at + 1) table'
lists_more kinds places at table table' o are e told listed = subst (AreListed kinds places (at + 1)) (sym e) (record {
  long = length-append table (o ∷ []) ∙ (let l = are.long in let x : length table + length (o ∷ []) ≡ at + 1 = omega (arith, l) in x);
  listed = λ pc l h. elim (entry_cases table o pc) [ inl x ↦ listed l (sym x ∙ h) | inr x ↦ are.listed pc l (sym x ∙ h) ];
  tells = λ pc lt. elim (below_or pc at lt) [
    | inl low ↦ subst (TellsListed kinds (entry places pc) pc) (sym (entry_left table o pc (let l = are.long in omega (arith, low, l)))) (are.tells pc low)
    | inr same ↦ subst (λ k. TellsListed kinds (entry places k) k (entry (table ++ o ∷ []) k)) (sym same)
        (subst (TellsListed kinds (entry places at) at) (sym (ap (λ k. entry (table ++ o ∷ []) k) (sym are.long) ∙ entry_last table o)) told)
  ];
})

module _ (kinds : BlockKinds) (place : Option Place) (pc : ℕ) where
  pub nowhere_listed : place ≡ None → TellsListed kinds place pc None
  nowhere_listed e = record {
    nowhere = λ f. refl;
    told = λ b p sizes d s h m i stands some. absurd (some e);
  }

  abbrev pub ToldAt : Option ℕ → Type 0
  ToldAt list = (b : Block) (p : ℕ) (sizes : List (Option ℕ)) → Draws b p sizes kinds → IsSeen b (length sizes) → HasSizes b p sizes
      → (TwoMeet b p → ⊥) → (i : Ins) → b.at pc ≡ Some i → TellsListAt b p pc (option_map (list_at kinds.flow.forest) list)

  pub none_listed : ToldAt None → TellsListed kinds place pc None
  none_listed t = record { nowhere = λ f. refl; told = λ b p sizes d s h m i stands some. t b p sizes d s h m i stands }

  pub one_listed : (list : ℕ) (l : KindList) → (place ≡ None → ⊥) → l.list ≡ list → ToldAt (Some list) → TellsListed kinds place pc (Some l)
  one_listed list l some e t = record {
    nowhere = λ f. absurd (some f);
    told = λ b p sizes d s h m i stands f. subst (λ k. TellsListAt b p pc (Some (list_at kinds.flow.forest k))) (sym e) (t b p sizes d s h m i stands);
  }

-- where one stands it is none
pub place_stands : (r : Option (Bor Place)) (place : Option Place) → option_map (λ p. p.now) r ≡ place → is_some r ≡ true → place ≡ None → ⊥
place_stands (Some p) place e t none = some_none p.now (e ∙ none)
place_stands None place e t none = false≢true t

pub one_is_listed : (kinds : BlockKinds) (l : KindList) → IsListed kinds.flow.forest l → Lists kinds.flow.forest (Some l)
one_is_listed kinds l is m e = subst (IsListed kinds.flow.forest) (same_Some l m e) is

pub none_is_listed : (kinds : BlockKinds) → Lists kinds.flow.forest None
none_is_listed kinds m e = absurd (none_some m e)
