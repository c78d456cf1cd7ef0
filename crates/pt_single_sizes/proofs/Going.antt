-- A search by one way on, of each block that is read so.
use Rattle.std.proofs.Common.{◌≡◌, ℕ, ◌<◌, ◌≤◌, List, [], ◌∷◌, ◌++◌, length, Option, Some, None, refl, sym, ap, ◌∙◌, subst, arith, set}
use Rattle.std.proofs.lemmas.List.{length-set}
use Rattle.std.proofs.lemmas.Option.{same_Some}
use Rattle.pt_places.specs.declared.places.Place.{Place}
use Rattle.pt_places.specs.PlaceTable.{place_of, place_at}
use Rattle.pt_code.specs.View.{Ins}
use Rattle.pt_sizes.specs.Flow.{entry}
use Rattle.pt_sizes.specs.Waiting.{AllDescend, Level}
use Rattle.pt_sizes.proofs.Tables.{some_or_none}
use Rattle.sem_fits.specs.fits.Block.{Block, Links, effect}
use Rattle.sem_fits.specs.fits.Steps.{target_of}
use Rattle.pt_verify_depths.specs.Sizes.{SizeStep}
use Rattle.pt_single_sizes.specs.Search.{GoesOn, IsRead, Spreads, Went}
use Rattle.pt_single_sizes.proofs.Spreading.{passed, met, ends, goes_on}

pub record StandsThere (b : Block) (pc : ℕ) (place : Place) : Type 0 where
  pub ins : Ins
  pub is : b.at pc ≡ Some ins
  pub same : place_of ins.instr ins.mark ins.next ≡ place

module _ (b : Block) (table : List (Option Place)) (has : (pc : ℕ) → entry table pc ≡ place_at (b.at pc)) where
  pub none_there : (pc : ℕ) → entry table pc ≡ None → b.at pc ≡ None
  none_there pc e = by (b.at pc) refl
    where
      by : (x : Option Ins) → b.at pc ≡ x → b.at pc ≡ None
      by None f = f
      by (Some i) f = absurd (some_or_none (place_of i.instr i.mark i.next) (sym (has pc ∙ ap place_at f) ∙ e))

  pub stands_there : (pc : ℕ) (place : Place) → entry table pc ≡ Some place → StandsThere b pc place
  stands_there pc place e = by (b.at pc) refl
    where
      by : (x : Option Ins) → b.at pc ≡ x → StandsThere b pc place
      by None f = absurd (some_or_none place (sym e ∙ (has pc ∙ ap place_at f)))
      by (Some i) f = record { ins = i; is = f; same = same_Some (place_of i.instr i.mark i.next) place (sym (has pc ∙ ap place_at f) ∙ e) }

module _ (links : Links) (table : List (Option Place)) (limit : ℕ) (T : List (Option ℕ)) (W : List SizeStep) (levels : List Level) where
  pub stays : AllDescend levels → GoesOn links table limit T W levels T W levels
  stays sorted = record { sorted = sorted; long = refl; spreads = λ b count read apart o. o }

  -- one after the other
  pub then_on : (T' T'' : List (Option ℕ)) (W' W'' : List SizeStep) (levels' levels'' : List Level)
      → GoesOn links table limit T W levels T' W' levels' → GoesOn links table limit T' W' levels' T'' W'' levels''
      → GoesOn links table limit T W levels T'' W'' levels''
  then_on T' T'' W' W'' levels' levels'' g h = record {
    sorted = h.sorted;
    long = h.long ∙ g.long;
    spreads = λ b count read apart o. h.spreads b count read apart (g.spreads b count read apart o);
  }

  module _ (s : SizeStep) (sorted : AllDescend levels) where
    abbrev Next : List (Option ℕ) → List SizeStep → List Level → Type 0
    Next T' W' levels' = GoesOn links table limit T (W ++ s ∷ []) levels T' W' levels'

    pub none_stands : entry table s.to ≡ None → Next T W levels
    none_stands e = record { sorted = sorted; long = refl; spreads = λ b count read apart o. passed b limit count read.seen T W levels s o (none_there b table read.places s.to e) }

    pub behind_all : length T ≤ s.to → Next T W levels
    behind_all h = record { sorted = sorted; long = refl; spreads = λ b count read apart o. passed b limit count read.seen T W levels s o (none b count read o) }
      where
        none : (b : Block) (count : ℕ) → IsRead b links table count → Spreads b limit count T (W ++ s ∷ []) levels → b.at s.to ≡ None
        none b count read o = by (b.at s.to) refl
          where
            by : (x : Option Ins) → b.at s.to ≡ x → b.at s.to ≡ None
            by None f = f
            by (Some i) f = absurd (let l = read.seen.below s.to i f in let e = o.long in omega (arith, l, e, h))

    pub has_size : (n : ℕ) → entry T s.to ≡ Some n → Next T W levels
    has_size n h = record { sorted = sorted; long = refl; spreads = λ b count read apart o. met b limit count read.seen T W levels s o apart n h }

    module _ (place : Place) (is : entry table s.to ≡ Some place) (none : entry T s.to ≡ None) where
      pub not_on : limit < s.to → Next (set T s.to (Some s.size)) W levels
      not_on lt = record {
        sorted = sorted;
        long = length-set T s.to (Some s.size);
        spreads = λ b count read apart o. let t = stands_there b table read.places s.to place is in ends b limit count read.seen T W levels s o t.ins t.is none lt;
      }

      pub on : s.to ≤ limit → (T' : List (Option ℕ)) (W' : List SizeStep) (levels' : List Level)
          → Went (effect links place.instr) s.to s.size place.next.0 (target_of place.instr) (set T s.to (Some s.size)) T' W W' levels levels' → Next T' W' levels'
      on le T' W' levels' w = record {
        sorted = w.landed.sorted;
        long = ap length w.same ∙ length-set T s.to (Some s.size);
        spreads = λ b count read apart o. subst (λ x. Spreads b limit count x W' levels') (sym w.same) (by b count read o (stands_there b table read.places s.to place is));
      }
        where
          by : (b : Block) (count : ℕ) → IsRead b links table count → Spreads b limit count T (W ++ s ∷ []) levels → StandsThere b s.to place
              → Spreads b limit count (set T s.to (Some s.size)) W' levels'
          by b count read o t = goes_on b limit count read.seen T W levels s o t.ins t.is none le W' levels' (at_ins t.same)
            where
              at_ins : place_of t.ins.instr t.ins.mark t.ins.next ≡ place
                  → Went (effect b.links t.ins.instr) s.to s.size t.ins.next (target_of t.ins.instr) (set T s.to (Some s.size)) (set T s.to (Some s.size)) W W' levels levels'
              at_ins e = subst (λ ls. Went (effect ls t.ins.instr) s.to s.size t.ins.next (target_of t.ins.instr) (set T s.to (Some s.size)) (set T s.to (Some s.size)) W W' levels levels') (sym read.links)
                  (subst (λ x. Went (effect links x.instr) s.to s.size x.next.0 (target_of x.instr) (set T s.to (Some s.size)) (set T s.to (Some s.size)) W W' levels levels') (sym e)
                  (record { same = refl; owned = w.owned; own = w.own; landed = w.landed }))
