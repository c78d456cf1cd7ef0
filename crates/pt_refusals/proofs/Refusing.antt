-- What refuses a block: what does at its first place, and what is told of one that agrees.
use Rattle.std.proofs.Common.{ℕ, zero, suc, ◌<◌, true, false, Some, None, arith}
use Rattle.pt_cycles.specs.declared.cycles.Cycles.TheVariants as cycles
use Rattle.sem_fits.specs.fits.Block.{Block}
use Rattle.sem_fits.specs.fits.Agreement as A
use Rattle.sem_fits.specs.fits.Fits as F
use Rattle.sem_fits.specs.fits.Fits.{Disagrees}
use Rattle.sem_fits.proofs.fits.Certificates.{no_disagreement}
use Rattle.pt_verify_depths.specs.Refusals as R
use Rattle.pt_verify_depths.specs.Refusals.{NeedsKinds}
use Rattle.pt_verify_depths.proofs.RefusalLemmas.{refused_first}
use Rattle.pt_refusals.specs.Laws.{AgreeingBlocksAreTold, AgreesBefore, FirstPlaceRefuses}
use Rattle.pt_refusals.proofs.Staying.{disagreement_stays}

none_before : (b : Block) (p : ℕ) → AgreesBefore b p → (q : ℕ) → q < p → Disagrees b q → ⊥
none_before b zero a q lt d = absurd (omega (arith, lt))
none_before b (suc p) a q lt d = no_disagreement a (disagreement_stays b q p (omega (arith, lt)) d)

disagrees : {b : Block} {p : ℕ} → NeedsKinds b p → Disagrees b p
disagrees (R.cuts row (R.differs r c s d e)) = F.handlers row (A.differs r c s d e)
disagrees (R.leaves (R.leaves l g e)) = F.enough (A.leaves l g e)
disagrees (R.kinds k) = F.kinds k
disagrees (R.inside s) = F.inside s

pub first_place_refuses : (b : Block) → FirstPlaceRefuses b
first_place_refuses b hold p a m r = refused_first b p (λ q lt d. absurd (none_before b p a q lt d))
    (λ q lt n. none_before b p a q lt (disagrees n)) hold m r

pub agreeing_blocks_are_told : (b : Block) → AgreeingBlocksAreTold b
agreeing_blocks_are_told b hold a (Some pc) l deep d loops t = F.lost hold a pc l
agreeing_blocks_are_told b hold a None l true d loops t = F.too_deep hold a l d
agreeing_blocks_are_told b hold a None l false d (cycles.Ranks table) t = record {
  tables = hold;
  agrees = a;
  arrives = l;
  shallow = d;
  loops = λ pc s. let falls = t pc pc s in omega (arith, falls);
}
agreeing_blocks_are_told b hold a None l false d (cycles.Least pc) t = F.loops hold a l d pc t
