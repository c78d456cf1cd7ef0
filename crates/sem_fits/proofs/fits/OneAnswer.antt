-- Code that fits isn't refused, and there is one refusal at most.
use Rattle.std.proofs.Common.{◌≡◌, ◌⊎◌, inl, inr, ℕ, ◌≤◌, ◌<◌, List, Some, refl, sym, ap, subst}
use Rattle.std.proofs.lemmas.Bool.{cases_order}
use Rattle.pt_ranges.specs.declared.handlers.Handler.{Handler}
use Rattle.pt_instr.specs.Effects.{Kinds}
use Rattle.pt_code.specs.View.{Ins}
use Rattle.sem_fits.specs.fits.Block.{Block}
use Rattle.sem_fits.specs.fits.Places as P
use Rattle.sem_fits.specs.fits.Places.{Gets, Reached}
use Rattle.sem_fits.specs.fits.Leaves as L
use Rattle.sem_fits.specs.fits.Leaves.{Departs, Goes, Common, Holds, Leaving}
use Rattle.sem_fits.specs.fits.Agreement as A
use Rattle.sem_fits.specs.fits.Agreement.{LengthsMeet, HandlerFails, TooFew, KindsClash, Strays, Agrees}
use Rattle.sem_fits.specs.fits.Fits as F
use Rattle.sem_fits.specs.fits.Fits.{IsLeast, IsLost, Arrives, AllArrive, TooDeep, SilentLoop, TablesHold, Fits, Misfit, stack, kind, target, table, silent_loop, depth, Disagrees, NumberFails, RefusedAt, Refused}
use Rattle.sem_fits.specs.fits.Laws.{IsLaid, FitsUnrefused, OneRefusal}
use Rattle.sem_fits.proofs.fits.Ways.{place_of}
use Rattle.sem_fits.proofs.fits.Certificates.{no_disagreement}

one_least : {P : ℕ → Type 0} (m n : ℕ) → IsLeast P m → IsLeast P n → m ≡ n
one_least {P = P} m n f g = by_order (cases_order m n)
  where
    by_order : (m ≡ n) ⊎ ((m < n) ⊎ (n < m)) → m ≡ n
    by_order (inl e) = e
    by_order (inr (inl l)) = absurd (g.least m l f.holds)
    by_order (inr (inr l)) = absurd (f.least n l g.holds)

not_lost : {b : Block} {pc : ℕ} → AllArrive b → IsLost b pc → ⊥
not_lost {pc = pc} a l = let w = a pc l.ins l.kinds l.reached l.target l.leaves in l.lost w.kinds w.gets

one_at_place : {b : Block} {p : ℕ} {m n : Misfit} → RefusedAt b p m → RefusedAt b p n → m ≡ n
one_at_place (F.lengths f) (F.lengths g) = refl
one_at_place (F.lengths f) (F.handlers n i g) = absurd (n f)
one_at_place (F.lengths f) (F.enough n h g) = absurd (n f)
one_at_place (F.lengths f) (F.kinds n h e g) = absurd (n f)
one_at_place (F.lengths f) (F.inside n h e k g) = absurd (n f)
one_at_place (F.handlers n i f) (F.lengths g) = absurd (n g)
one_at_place (F.handlers n i f) (F.handlers o j g) = ap table (one_least i j f g)
one_at_place (F.handlers n i f) (F.enough o h g) = absurd (h f.holds.row f.holds.fails)
one_at_place (F.handlers n i f) (F.kinds o h e g) = absurd (h f.holds.row f.holds.fails)
one_at_place (F.handlers n i f) (F.inside o h e k g) = absurd (h f.holds.row f.holds.fails)
one_at_place (F.enough n h f) (F.lengths g) = absurd (n g)
one_at_place (F.enough n h f) (F.handlers o j g) = absurd (h g.holds.row g.holds.fails)
one_at_place (F.enough n h f) (F.enough o i g) = refl
one_at_place (F.enough n h f) (F.kinds o i e g) = absurd (e f)
one_at_place (F.enough n h f) (F.inside o i e k g) = absurd (e f)
one_at_place (F.kinds n h e f) (F.lengths g) = absurd (n g)
one_at_place (F.kinds n h e f) (F.handlers o j g) = absurd (h g.holds.row g.holds.fails)
one_at_place (F.kinds n h e f) (F.enough o i g) = absurd (e g)
one_at_place (F.kinds n h e f) (F.kinds o i d g) = refl
one_at_place (F.kinds n h e f) (F.inside o i d k g) = absurd (k f)
one_at_place (F.inside n h e k f) (F.lengths g) = absurd (n g)
one_at_place (F.inside n h e k f) (F.handlers o j g) = absurd (h g.holds.row g.holds.fails)
one_at_place (F.inside n h e k f) (F.enough o i g) = absurd (e g)
one_at_place (F.inside n h e k f) (F.kinds o i d g) = absurd (k g)
one_at_place (F.inside n h e k f) (F.inside o i d l g) = refl

-- what holds up to a place holds up to each that has as many instructions
module _ {b : Block} {p s : ℕ} (up : (q : ℕ) (i : Ins) → b.at q ≡ Some i → q ≤ p → q ≤ s) where
  pub gets_up : {q : ℕ} {ks : Kinds} → Gets b p q ks → Gets b s q ks
  gets_up (P.start i e) = P.start i e
  gets_up (P.onward {q = q} g l c j e) = P.onward (gets_up g) (let (i, f) = place_of g in up q i f l) c j e

  pub reached_up : {q : ℕ} {i : Ins} {ks : Kinds} → Reached b p q i ks → Reached b s q i ks
  reached_up {q = q} {i = i} r = record { gets = gets_up r.gets; low = up q i r.stands r.low; stands = r.stands }

  mutual
    pub departs_up : {t q : ℕ} {rows : List Handler} {ks : Kinds} → Departs b p t q rows ks → Departs b s t q rows ks
    departs_up (L.leaves r e) = L.leaves (reached_up r) e
    departs_up (L.let_go r e h) = L.let_go (reached_up r) e (holds_up h)

    pub goes_up : {q r k : ℕ} → Goes b p q r k → Goes b s q r k
    goes_up (L.by_row r c e) = L.by_row (reached_up r) c e
    goes_up (L.by_leave c g) = L.by_leave (departs_up c) (gets_up g)

    pub common_up : {d q r : ℕ} → Common b p d q r → Common b s d q r
    common_up (L.kept g l) = L.kept (goes_up g) l
    common_up L.same = L.same
    common_up (L.back c) = L.back (common_up c)
    common_up (L.along c d) = L.along (common_up c) (common_up d)

    pub holds_up : {t q d : ℕ} → Holds b p t q d → Holds b s t q d
    holds_up (L.caught c row e) = L.caught (departs_up c) row e
    holds_up (L.exited r e h) = L.exited (reached_up r) e (holds_up h)
    holds_up (L.shared c h) = L.shared (common_up c) (holds_up h)

  pub leaving_up : {t : ℕ} {ks : Kinds} → Leaving b p t ks → Leaving b s t ks
  leaving_up (L.free c) = L.free (departs_up c)
  leaving_up (L.held c row e) = L.held (departs_up c) row e

  pub disagrees_up : Disagrees b p → Disagrees b s
  disagrees_up (F.lengths (A.two g h e)) = F.lengths (A.two (gets_up g) (gets_up h) e)
  disagrees_up (F.handlers row (A.too_deep r c e)) = F.handlers row (A.too_deep (reached_up r) c e)
  disagrees_up (F.handlers row (A.differs r c u d e)) = F.handlers row (A.differs (reached_up r) c (reached_up u) d e)
  disagrees_up (F.enough (A.lacks r e)) = F.enough (A.lacks (reached_up r) e)
  disagrees_up (F.enough (A.leaves l g e)) = F.enough (A.leaves (leaving_up l) (gets_up g) e)
  disagrees_up (F.kinds (A.two g h e)) = F.kinds (A.two (gets_up g) (gets_up h) e)
  disagrees_up (F.kinds (A.lacks r e)) = F.kinds (A.lacks (reached_up r) e)
  disagrees_up (F.kinds (A.misplaced r e)) = F.kinds (A.misplaced (reached_up r) e)
  disagrees_up (F.kinds (A.leaves l g e)) = F.kinds (A.leaves (leaving_up l) (gets_up g) e)
  disagrees_up (F.inside (A.goes r c e)) = F.inside (A.goes (reached_up r) c e)
  disagrees_up (F.inside (A.leaves r t e n)) = F.inside (A.leaves (reached_up r) t e n)

module _ {b : Block} (inside : IsLaid b) where
  never_disagrees : Agrees b b.size → (p : ℕ) → Disagrees b p → ⊥
  never_disagrees a p d = no_disagreement a (disagrees_up (λ q i e l. inside q i e) d)

  same_place : {m n : Misfit} (p q : ℕ) → IsLeast (Disagrees b) p → IsLeast (Disagrees b) q → RefusedAt b p m → RefusedAt b q n → m ≡ n
  same_place {n = n} p q f g r s = one_at_place r (subst (λ q. RefusedAt b q n) (sym (one_least p q f g)) s)

  one_refusal : {m n : Misfit} → Refused b m → Refused b n → m ≡ n
  one_refusal (F.tables i f) (F.tables j g) = ap table (one_least i j f g)
  one_refusal (F.tables i f) (F.disagrees t p g r) = absurd (t i f.holds)
  one_refusal (F.tables i f) (F.lost t a pc g) = absurd (t i f.holds)
  one_refusal (F.tables i f) (F.too_deep t a l g) = absurd (t i f.holds)
  one_refusal (F.tables i f) (F.loops t a l d pc g) = absurd (t i f.holds)
  one_refusal (F.disagrees t p f r) (F.tables j g) = absurd (t j g.holds)
  one_refusal (F.disagrees t p f r) (F.disagrees u q g s) = same_place p q f g r s
  one_refusal (F.disagrees t p f r) (F.lost u a pc g) = absurd (never_disagrees a p f.holds)
  one_refusal (F.disagrees t p f r) (F.too_deep u a l g) = absurd (never_disagrees a p f.holds)
  one_refusal (F.disagrees t p f r) (F.loops u a l d pc g) = absurd (never_disagrees a p f.holds)
  one_refusal (F.lost t a pc f) (F.tables j g) = absurd (t j g.holds)
  one_refusal (F.lost t a pc f) (F.disagrees u q g s) = absurd (never_disagrees a q g.holds)
  one_refusal (F.lost t a pc f) (F.lost u c q g) = ap target (one_least pc q f g)
  one_refusal (F.lost t a pc f) (F.too_deep u c l g) = absurd (not_lost l f.holds)
  one_refusal (F.lost t a pc f) (F.loops u c l d q g) = absurd (not_lost l f.holds)
  one_refusal (F.too_deep t a l f) (F.tables j g) = absurd (t j g.holds)
  one_refusal (F.too_deep t a l f) (F.disagrees u q g s) = absurd (never_disagrees a q g.holds)
  one_refusal (F.too_deep t a l f) (F.lost u c q g) = absurd (not_lost l g.holds)
  one_refusal (F.too_deep t a l f) (F.too_deep u c k g) = refl
  one_refusal (F.too_deep t a l f) (F.loops u c k d q g) = absurd (d f)
  one_refusal (F.loops t a l d pc f) (F.tables j g) = absurd (t j g.holds)
  one_refusal (F.loops t a l d pc f) (F.disagrees u q g s) = absurd (never_disagrees a q g.holds)
  one_refusal (F.loops t a l d pc f) (F.lost u c q g) = absurd (not_lost l g.holds)
  one_refusal (F.loops t a l d pc f) (F.too_deep u c k g) = absurd (d g)
  one_refusal (F.loops t a l d pc f) (F.loops u c k e q g) = ap silent_loop (one_least pc q f g)

  fits_unrefused : Fits b → {m : Misfit} → Refused b m → ⊥
  fits_unrefused f (F.tables j g) = f.tables j g.holds
  fits_unrefused f (F.disagrees u q g s) = never_disagrees f.agrees q g.holds
  fits_unrefused f (F.lost u c q g) = not_lost f.arrives g.holds
  fits_unrefused f (F.too_deep u c k g) = f.shallow g
  fits_unrefused f (F.loops u c k e q g) = f.loops q g.holds

pub fits_isnt_refused : (b : Block) → FitsUnrefused b
fits_isnt_refused b inside f m r = fits_unrefused inside f r

pub one_refusal_at_most : (b : Block) → OneRefusal b
one_refusal_at_most b inside m n r s = one_refusal inside r s
