-- What is told of a block by kinds, of what each part tells.
use Rattle.std.proofs.Common.{◌≡◌, ℕ, ◌+◌, Bool, true, false, List, length, Option, Some, None, refl, sym, ap, ◌∙◌, subst, arith}
use Rattle.std.specs.Prelude.{not, option_map, MatchBool}
use Rattle.std.specs.Bool.{Decides}
use Rattle.std.proofs.lemmas.Bool.{false≢true}
use Rattle.pt_code.specs.declared.Code.{Code}
use Rattle.pt_code.specs.declared.CodeBlock.{CodeBlock}
use Rattle.pt_code.specs.View.{Ins}
use Rattle.pt_places.specs.declared.places.Place.{Place}
use Rattle.pt_places.specs.PlaceTable.{entry, place_of, place_at, HasPlaces}
use Rattle.sem_fits.specs.fits.Block.{Block, block_of, effect}
use Rattle.sem_fits.specs.fits.Steps.{finds}
use Rattle.pt_verify_depths.specs.Refusals.{CutsOf}
use Rattle.pt_kinds.specs.Forest.{list_at}
use Rattle.pt_block_kinds.specs.declared.graph.BlockKinds.{BlockKinds}
use Rattle.pt_block_kinds.specs.Graph.{HasSizes, IsSeen}
use Rattle.pt_block_kinds.specs.Drawing.{Draws}
use Rattle.pt_block_kinds.specs.Told as K
use Rattle.pt_block_kinds.specs.Told.{CutsUnder, TellsCut, TellsListAt, TwoMeet}
use Rattle.pt_block_kinds.proofs.Failing.{kinds_told}
use Rattle.pt_refusals.specs.Told as R
use Rattle.pt_refusals.specs.Told.{Clashes, TellsLeast}
use Rattle.pt_standing.specs.Misplaced.{Misplaced}
use Rattle.pt_kind_failures.specs.Lacking.{FindsAnother, AnyLacks, lacks_in}

-- rows are counted through the marks before them
pub tells_row : (b : Block) (p : ℕ) (o : Option ℕ) → TellsCut b p o → TellsLeast (CutsOf b p) (option_map (λ k. length b.marks + k) o)
tells_row b p (Some n) t = record {
  holds = t.holds;
  least = λ m lt c. let k = c.number.counted in
      t.least c.number.among (omega (arith, lt, k)) (subst (λ x. CutsOf b p x) k c);
}
tells_row b p None t = λ m c. t c.number.among (subst (λ x. CutsOf b p x) c.number.counted c)

module _ (c : Code) (block : CodeBlock) (view : ℕ → Option Ins) (places : List (Option Place)) (has : HasPlaces view places) (p : ℕ)
    (sizes : List (Option ℕ)) (kinds : BlockKinds) (d : Draws (block_of c block view) p sizes kinds)
    (seen : IsSeen (block_of c block view) (length sizes)) (fits : HasSizes (block_of c block view) p sizes) where
  abbrev b : Block
  b = block_of c block view

  abbrev lists : List (Option ℕ)
  lists = kinds.flow.table.items

  not_false : (t : Bool) → not t ≡ true → t ≡ false
  not_false false e = refl
  not_false true e = absurd (false≢true e)

  told_at : (TwoMeet b p → ⊥) → (q : ℕ) (i : Ins) → view q ≡ Some i → (o : Option ℕ) → entry lists q ≡ o
      → TellsListAt b p q (option_map (list_at kinds.flow.forest) o)
  told_at none q i at o e = subst (λ x. TellsListAt b p q (option_map (list_at kinds.flow.forest) x)) e (kinds_told b p sizes kinds d seen fits none q i at)

  lacks_found : (TwoMeet b p → ⊥) → FindsAnother b p → AnyLacks kinds.flow.forest b.links lists places p
  lacks_found none x = by (entry lists x.pc) refl
    where
      place : entry places x.pc ≡ Some (place_of x.ins.instr x.ins.mark x.ins.next)
      place = has x.pc ∙ ap place_at x.reached.stands

      by : (o : Option ℕ) → entry lists x.pc ≡ o → AnyLacks kinds.flow.forest b.links lists places p
      by None e = absurd (told_at none x.pc x.ins x.reached.stands None e x.kinds x.reached.gets)
      by (Some l) e = let same = (told_at none x.pc x.ins x.reached.stands (Some l) e).1 x.kinds x.reached.gets in
          record {
            pc = x.pc;
            low = x.reached.low;
            here = ap (λ o. lacks_in kinds.flow.forest b.links o (entry places x.pc)) e
                ∙ (ap (λ o. lacks_in kinds.flow.forest b.links (Some l) o) place
                ∙ ap not (sym (ap (finds (effect b.links x.ins.instr)) same) ∙ x.fails));
          }

  found_lacks : (TwoMeet b p → ⊥) → AnyLacks kinds.flow.forest b.links lists places p → FindsAnother b p
  found_lacks none x = by (view x.pc) refl (entry lists x.pc) refl
    where
      by : (i : Option Ins) → view x.pc ≡ i → (o : Option ℕ) → entry lists x.pc ≡ o → FindsAnother b p
      by i at o e = here i at o e (ap (λ y. lacks_in kinds.flow.forest b.links o y) (sym (has x.pc ∙ ap place_at at))
          ∙ (ap (λ y. lacks_in kinds.flow.forest b.links y (entry places x.pc)) (sym e) ∙ x.here))
        where
          here : (i : Option Ins) → view x.pc ≡ i → (o : Option ℕ) → entry lists x.pc ≡ o → lacks_in kinds.flow.forest b.links o (place_at i) ≡ true → FindsAnother b p
          here (Some i) at (Some l) e h = record {
            pc = x.pc;
            ins = i;
            kinds = list_at kinds.flow.forest l;
            reached = record { gets = (told_at none x.pc i at (Some l) e).0; low = x.low; stands = at };
            fails = not_false (finds (effect b.links i.instr) (list_at kinds.flow.forest l)) h;
          }
          here (Some i) at None e h = absurd (false≢true h)
          here None at (Some l) e h = absurd (false≢true h)
          here None at None e h = absurd (false≢true h)

  pub met : (t : Bool) → Decides t (TwoMeet b p) → t ≡ true → Decides true (Clashes b p)
  met t told e = (λ x. by (told.0 e), λ x. refl)
    where
      by : TwoMeet b p → Clashes b p
      by (K.two one other apart) = R.two one other apart

  pub none_met : (t : Bool) → Decides t (TwoMeet b p) → t ≡ false → TwoMeet b p → ⊥
  none_met t told e m = false≢true (sym e ∙ told.1 m)

  pub lacking : (TwoMeet b p → ⊥) → AnyLacks kinds.flow.forest b.links lists places p → Decides true (Clashes b p)
  lacking none x = (λ e. (let l = found_lacks none x in R.lacks l.reached l.fails), λ x. refl)

  pub standing : (TwoMeet b p → ⊥) → (AnyLacks kinds.flow.forest b.links lists places p → ⊥) → (t : Bool) → Decides t (Misplaced b p) → Decides t (Clashes b p)
  standing none finding t told = (λ e. (let m = told.0 e in R.misplaced m.reached m.fails), λ x. by x)
    where
      by : Clashes b p → t ≡ true
      by (R.two one other apart) = absurd (none (K.two one other apart))
      by (R.lacks {q} {i} {ks} reached fails) = absurd (finding (lacks_found none (record { pc = q; ins = i; kinds = ks; reached = reached; fails = fails })))
      by (R.misplaced {q} {i} {ks} reached fails) = told.1 (record { pc = q; ins = i; kinds = ks; reached = reached; fails = fails })

module _ (A : Type 0) where
  pub found : (t : Bool) → MatchBool t A (A → ⊥) → t ≡ true → A
  found true x e = x
  found false x e = absurd (false≢true e)

  pub not_found : (t : Bool) → MatchBool t A (A → ⊥) → t ≡ false → A → ⊥
  not_found true x e = absurd (false≢true (sym e))
  not_found false x e = x
