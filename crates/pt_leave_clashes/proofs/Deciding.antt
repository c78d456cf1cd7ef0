-- What lists tell of Leaves at their own places.
use Rattle.std.proofs.Common.{◌≡◌, ℕ, ◌+◌, ◌≤◌, min, Bool, true, false, ◌&&◌, List, length, Option, Some, None, refl, sym, ap, ◌∙◌, subst, arith}
use Rattle.std.specs.Prelude.{not, is_some, option_map, MatchBool}
use Rattle.std.specs.Bool.{Decides}
use Rattle.std.proofs.lemmas.Bool.{false≢true}
use Rattle.pt_base.specs.declared.numbers.Pc.{Pc}
use Rattle.pt_instr.specs.declared.Instr.{Instr}
use Rattle.pt_instr.specs.declared.Instr.TheVariants.{Leave}
use Rattle.pt_instr.specs.Effects.{Kinds}
use Rattle.pt_code.specs.View.{Ins}
use Rattle.pt_places.specs.declared.places.Place.{Place}
use Rattle.pt_places.specs.PlaceTable.{HasPlaces, place_at}
use Rattle.pt_sizes.specs.Flow.{entry}
use Rattle.sem_fits.specs.fits.Block.{Block}
use Rattle.sem_fits.specs.fits.Steps.{is_prefix}
use Rattle.sem_fits.specs.fits.Places.{Gets}
use Rattle.sem_fits.proofs.fits.KindLemmas.{both}
use Rattle.sem_fits.proofs.fits.Ways.{place_of}
use Rattle.pt_verify_depths.specs.PlaceTable.{AreSizesUpTo, deep}
use Rattle.pt_verify_depths.specs.Refusals.{LeaveLacks}
use Rattle.pt_verify_depths.proofs.SizeLemmas.{kinds_have_sizes, sizes_have_kinds}
use Rattle.pt_kinds.specs.Forest.{list_at}
use Rattle.pt_kind_flow.specs.declared.flow.Flow.{Flow}
use Rattle.pt_kind_flow.specs.Flow.{told}
use Rattle.pt_block_kinds.specs.declared.graph.BlockKinds.{BlockKinds}
use Rattle.pt_block_kinds.specs.Graph.{HasSizes, IsSeen}
use Rattle.pt_block_kinds.specs.Drawing.{Draws}
use Rattle.pt_block_kinds.specs.Told as B
use Rattle.pt_block_kinds.specs.Told.{TellsListAt, TwoMeet}
use Rattle.pt_block_kinds.proofs.Failing.{kinds_told}
use Rattle.pt_common_slots.specs.Common.{RowsLead}
use Rattle.pt_refusals.specs.Told as T
use Rattle.pt_refusals.specs.Told.{Clashes, LeaveClashes}
use Rattle.pt_leave_clashes.specs.Others.{LeavesOthers, lists_differ, leave_differs, place_differs, AnyDiffers}
use Rattle.pt_leave_clashes.proofs.Law.{clash_at_places}

module _ (b : Block) (p : ℕ) (places : List (Option Place)) (has : HasPlaces b.at places) (sizes : List (Option ℕ)) (kinds : BlockKinds)
    (draws : Draws b p sizes kinds) (seen : IsSeen b (length sizes)) (are : AreSizesUpTo b p sizes) (fine : Clashes b p → ⊥) where
  abbrev f : Flow
  f = kinds.flow

  has_sizes : HasSizes b p sizes
  has_sizes = record {
    whole = are.whole;
    stands = λ q n e none. let (i, at) = place_of (sizes_have_kinds b p q n (are.sound q n e)).gets in let h : ⊥ = cc in h;
    within = λ row d. are.agree (deep row d);
  }

  none_meet : TwoMeet b p → ⊥
  none_meet (B.two g h e) = fine (T.two g h e)

  list_told : (q : ℕ) (i : Ins) → b.at q ≡ Some i → TellsListAt b p q (told f q)
  list_told q i at = kinds_told b p sizes kinds draws seen has_sizes none_meet q i at

  -- the list of a place that gets kinds
  record IsList (q : ℕ) (ks : Kinds) : Type 0 where
    pub list : ℕ
    pub is : entry f.table.items q ≡ Some list
    pub same : list_at f.forest list ≡ ks

  list_of : (q : ℕ) (ks : Kinds) → Gets b p q ks → IsList q ks
  list_of q ks g = let (i, at) = place_of g in by (entry f.table.items q) refl i at
    where
      by : (o : Option ℕ) → entry f.table.items q ≡ o → (i : Ins) → b.at q ≡ Some i → IsList q ks
      by None e i at = absurd (subst (TellsListAt b p q) (ap (option_map (list_at f.forest)) e) (list_told q i at) ks g)
      by (Some l) e i at = record { list = l; is = e; same = sym ((subst (TellsListAt b p q) (ap (option_map (list_at f.forest)) e) (list_told q i at)).1 ks g) }

  sized : (q : ℕ) (ks : Kinds) → Gets b p q ks → entry sizes q ≡ Some (length ks)
  sized q ks g = are.whole q (length ks) (kinds_have_sizes b p q ks g)

  -- a Leave that differs is found
  found : LeavesOthers b p → AnyDiffers f places sizes (min (length sizes) (p + 1))
  found o =
      let here = list_of o.pc o.kinds o.reached.gets in
      let there = list_of o.target o.there o.gets in
      let inside = seen.below o.pc o.ins o.reached.stands in
      let low = o.reached.low in
      record {
        pc = o.pc;
        low = omega (arith, inside, low);
        here = ap (λ z. place_differs f sizes o.pc z) (has o.pc ∙ ap (λ z. place_at z) o.reached.stands)
            ∙ (ap (λ z. leave_differs f sizes o.pc z) o.leaves
            ∙ (ap (λ z. is_some z && lists_differ f.forest (entry f.table.items o.pc) (entry f.table.items o.target)) (sized o.target o.there o.gets)
            ∙ (ap (λ z. lists_differ f.forest z (entry f.table.items o.target)) here.is
            ∙ (ap (λ z. lists_differ f.forest (Some here.list) z) there.is
            ∙ (ap (λ z. not (is_prefix z (list_at f.forest here.list))) there.same
            ∙ (ap (λ z. not (is_prefix o.there z)) here.same ∙ ap not o.differs))))));
      }

  -- and what is found is one
  leave_is : (pc : ℕ) (i : Instr) → leave_differs f sizes pc i ≡ true
      → (t : Pc) × ((i ≡ Leave t) × ((is_some (entry sizes t.0) && lists_differ f.forest (entry f.table.items pc) (entry f.table.items t.0)) ≡ true))
  leave_is pc (Leave t) e = (t, (refl, e))
  leave_is pc i e = absurd (false≢true e)

  record Differ (pc t : ℕ) : Type 0 where
    pub one : ℕ
    pub other : ℕ
    pub one_is : entry f.table.items pc ≡ Some one
    pub other_is : entry f.table.items t ≡ Some other
    pub differs : is_prefix (list_at f.forest other) (list_at f.forest one) ≡ false

  from_not : (t : Bool) → not t ≡ true → t ≡ false
  from_not true e = absurd (false≢true e)
  from_not false e = refl

  differ_is : (pc t : ℕ) → lists_differ f.forest (entry f.table.items pc) (entry f.table.items t) ≡ true → Differ pc t
  differ_is pc t e = by (entry f.table.items pc) (entry f.table.items t) refl refl e
    where
      by : (o z : Option ℕ) → entry f.table.items pc ≡ o → entry f.table.items t ≡ z → lists_differ f.forest o z ≡ true → Differ pc t
      by (Some l) (Some m) x y e = record { one = l; other = m; one_is = x; other_is = y; differs = from_not (is_prefix (list_at f.forest m) (list_at f.forest l)) e }
      by (Some l) None x y e = absurd (false≢true e)
      by None z x y e = absurd (false≢true e)

  got : (q l : ℕ) (i : Ins) → b.at q ≡ Some i → entry f.table.items q ≡ Some l → Gets b p q (list_at f.forest l)
  got q l i at e = (subst (TellsListAt b p q) (ap (option_map (list_at f.forest)) e) (list_told q i at)).0

  target_stands : (t : ℕ) → is_some (entry sizes t) ≡ true → (i : Ins) × (b.at t ≡ Some i)
  target_stands t e = by (entry sizes t) refl e
    where
      by : (o : Option ℕ) → entry sizes t ≡ o → is_some o ≡ true → (i : Ins) × (b.at t ≡ Some i)
      by None x e = absurd (false≢true e)
      by (Some n) x e = place_of (sizes_have_kinds b p t n (are.sound t n x)).gets

  differs_at : (pc : ℕ) → pc ≤ p → place_differs f sizes pc (entry places pc) ≡ true → LeavesOthers b p
  differs_at pc low e = by (b.at pc) refl
    where
      by : (o : Option Ins) → b.at pc ≡ o → LeavesOthers b p
      by None at = absurd (false≢true (sym (ap (λ z. place_differs f sizes pc z) (has pc ∙ ap (λ z. place_at z) at)) ∙ e))
      by (Some i) at =
          let (t, (leaves, d)) = leave_is pc i.instr (sym (ap (λ z. place_differs f sizes pc z) (has pc ∙ ap (λ z. place_at z) at)) ∙ e) in
          let (some, other) = both (is_some (entry sizes t.0)) (lists_differ f.forest (entry f.table.items pc) (entry f.table.items t.0)) d in
          let x = differ_is pc t.0 other in
          let (j, stands) = target_stands t.0 some in
          record {
            pc = pc;
            ins = i;
            kinds = list_at f.forest x.one;
            reached = record { gets = got pc x.one i at x.one_is; low = low; stands = at };
            target = t.0;
            leaves = leaves;
            there = list_at f.forest x.other;
            gets = got t.0 x.other j stands x.other_is;
            differs = x.differs;
          }

  is_found : AnyDiffers f places sizes (min (length sizes) (p + 1)) → LeavesOthers b p
  is_found a = differs_at a.pc (let l = a.low in omega (arith, l)) a.here

  pub decides_clash : (t : Bool)
      → MatchBool t (AnyDiffers f places sizes (min (length sizes) (p + 1))) (AnyDiffers f places sizes (min (length sizes) (p + 1)) → ⊥)
      → RowsLead b → (LeaveLacks b p → ⊥) → Decides t (LeaveClashes b p)
  decides_clash true a lead enough = let law = clash_at_places b p are.agree lead fine enough in (λ e. law.1 (is_found a), λ c. refl)
  decides_clash false none lead enough = let law = clash_at_places b p are.agree lead fine enough in
      (λ e. absurd (false≢true e), λ c. absurd (none (found (law.0 c))))
