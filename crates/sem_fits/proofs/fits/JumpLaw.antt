-- Behind a jump that is permitted the slots have the kinds of its target.
use Rattle.std.proofs.Common.{◌≡◌, ℕ, ◌<◌, [], ◌∷◌, length, reverse, take, subst, arith}
use Rattle.sem_code.specs.slots.Slots.{raise, return, jump_to, normal, by, Slot, value, cell, iterator, exception, pending, exit, Slots}
use Rattle.sem_code.specs.slots.Landing as landing
use Rattle.sem_fits.specs.fits.Block.{Block}
use Rattle.sem_fits.specs.fits.Leaves as L
use Rattle.sem_fits.specs.fits.Leaves.{Common}
use Rattle.sem_fits.specs.fits.Fits.{Fits}
use Rattle.sem_fits.specs.fits.Jumps as J
use Rattle.sem_fits.specs.fits.Jumps.{lands, Jumps}
use Rattle.sem_fits.specs.fits.Laws.{MayHold, AllMayHold, Stack, At, JumpsLand}
use Rattle.sem_fits.proofs.fits.SlotLaw.{size_of, cut_stack}
use Rattle.sem_fits.proofs.fits.CommonSlots.{front, common_kind}

module _ {V : Type 0} (b : Block) (fits : Fits b) where
  still_holds : {q r d : ℕ} (s : Slot V) → Common b b.size d q r → MayHold b q d s → MayHold b r d s
  still_holds (pending (by (jump_to t))) c h = L.shared c h
  still_holds (pending (by (raise v))) c h = tt
  still_holds (pending (by (return v))) c h = tt
  still_holds (pending normal) c h = tt
  still_holds (value v) c h = tt
  still_holds (cell v) c h = tt
  still_holds (iterator v) c h = tt
  still_holds (exception v) c h = tt
  still_holds (exit v) c h = tt

  all_still : {q r : ℕ} (ss : Slots V) → ((d : ℕ) → d < length ss → Common b b.size d q r) → AllMayHold b q ss → AllMayHold b r ss
  all_still [] f h = tt
  all_still (s ∷ ss) f (h, hs) = (still_holds s (f (length ss) (omega arith)) h, all_still ss (λ d l. f d (omega (arith, l))) hs)

  jump_lands : (from : ℕ) (ss : Slots V) (a : At b from ss) (line to depth : ℕ) → Jumps b from a.kinds line (lands to depth) → At b to (landing.cut depth ss)
  jump_lands from ss a line _ _ (J.goes to ls least g f c) = let s = lowest_slots (front a.kinds ls (λ d l. common_kind b fits (c d l) a.gets g)) in
      record { kinds = ls; gets = g; stack = record { kinds = s.kinds; holds = all_still _ (λ d l. c d (let n = size_of b from ls _ s in omega (arith, l, n))) s.holds } }
    where
      lowest_slots : take (length ls) a.kinds ≡ ls → Stack b from (reverse ls) (landing.cut (length ls) ss)
      lowest_slots e = subst (λ ks. Stack b from (reverse ks) (landing.cut (length ls) ss)) e (cut_stack b from (length ls) a.kinds ss a.stack)

pub jumps_land : (V : Type 0) (b : Block) → JumpsLand V b
jumps_land V b fits from ss a line to depth j = jump_lands b fits from ss a line to depth j
