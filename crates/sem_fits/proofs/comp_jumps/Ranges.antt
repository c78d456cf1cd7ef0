-- A slot in common stays on its side of a border that no step keeps it across, so closed parts tell slots apart.
use Rattle.std.proofs.Common.{◌≡◌, ℕ, List, Bool, refl, sym, subst, ◌∙◌}
use Rattle.sem_control.specs.control.Jump.{Part}
use Rattle.sem_fits.specs.fits.Block.{Block}
use Rattle.sem_fits.specs.fits.Leaves as L
use Rattle.sem_fits.specs.fits.Leaves.{Common}
use Rattle.sem_fits.specs.comp_jumps.Parts.{Lies, Shut, Closed, Around_place}
use Rattle.sem_fits.specs.comp_jumps.Law.{StaysIn, ClosedTellApart}

module _ (b : Block) (range : ℕ → Bool) where
  stays : {d q r : ℕ} → Shut b range d → Common b b.size d q r → range q ≡ range r
  stays s (L.kept g l) = s _ _ _ g l
  stays s L.same = refl
  stays s (L.back c) = sym (stays s c)
  stays s (L.along c e) = stays s c ∙ stays s e

pub stays_in : (b : Block) → StaysIn b
stays_in b range d s q r c = stays b range s c

module _ (b : Block) (part : Part → Closed b) where
  -- a slot in common is of the same part at the other place
  same_there : (p r : ℕ) (ps rs : List Part) (d : ℕ) (q : Part) → Around_place b part p ps → Around_place b part r rs → Common b b.size d p r
      → Lies d q ps → Lies d q rs
  same_there p r ps rs d q here there c h =
      let l = here.lies d q h in
      let e = stays b (part q).range (part q).shut (subst (λ k. Common b b.size k p r) l.1 c) in
      subst (λ k. Lies k q rs) (sym l.1) (there.found q (sym e ∙ l.0))

  alike : (p r : ℕ) (ps rs : List Part) (d : ℕ) (q : Part) → Around_place b part p ps → Around_place b part r rs → Lies d q ps → Lies d q rs
      → Common b b.size d p r
  alike p r ps rs d q here there h g =
      let l = here.lies d q h in
      subst (λ k. Common b b.size k p r) (sym l.1) ((part q).whole p r l.0 (there.lies d q g).0)

pub closed_tell_apart : (b : Block) → ClosedTellApart b
closed_tell_apart b part from to ps ts here there = record {
  stays = λ d q c h. same_there b part from to ps ts d q here there c h;
  stayed = λ d q c h. same_there b part to from ts ps d q there here (L.back c) h;
  together = λ d q h g. alike b part from to ps ts d q here there h g;
  level = λ d e q h g. (here.lies d q h).1 ∙ sym (there.lies e q g).1;
}
