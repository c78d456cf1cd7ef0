-- Code that fits is never stuck, whatever is replied.
use Rattle.std.proofs.Common.{◌≡◌, reverse, false, refl, sym, ap, subst}
use Rattle.sem_control.specs.control.Turn.{Turn, act, note, move, over, stuck}
use Rattle.sem_code.specs.slots.Slots.{State}
use Rattle.sem_code.specs.slots.CodeObject.{CodeObject}
use Rattle.sem_code.specs.slots.Machine.{turn}
use Rattle.sem_code.specs.slots.Needs.{is_stuck}
use Rattle.sem_fits.specs.fits.Block.{Block, kinds_at_start}
use Rattle.sem_fits.specs.fits.Places as P
use Rattle.sem_fits.specs.fits.Fits.{Fits}
use Rattle.sem_fits.specs.fits.Laws as laws
use Rattle.sem_fits.specs.fits.Laws.{Runs, Sound, GoesOn, Comes, Starts, NeverStuck}
use Rattle.sem_fits.specs.fits.Jumps.{lands, Jumps}
use Rattle.sem_fits.proofs.fits.SlotLaw.{slots_fit}
use Rattle.sem_fits.proofs.fits.CommonSlots.{one_list}
use Rattle.sem_fits.proofs.fits.JumpLaw.{jumps_land}

not_stuck : {V : Type 0} (b : Block) (t : Turn (State V) V) → GoesOn b t → is_stuck t ≡ false
not_stuck b (act m a next) g = refl
not_stuck b (note n next) g = refl
not_stuck b (move s) g = refl
not_stuck b (over e) g = refl
not_stuck b stuck g = absurd g

starts_sound : {V : Type 0} (b : Block) {s : State V} → Starts b s → Sound b s
starts_sound b (laws.empty i e k) = record { kinds = kinds_at_start b.kind; gets = P.start i e; stack = record { kinds = ap reverse (sym k); holds = tt } }
starts_sound b (laws.iterating i e k v) = record { kinds = kinds_at_start b.kind; gets = P.start i e; stack = record { kinds = ap reverse (sym k); holds = (tt, tt) } }

module _ {V : Type 0} (code : CodeObject V) (b : Block) (runs : Runs code b) (fits : Fits b) where
  goes_on : (s : State V) (t : Turn (State V) V) → Sound b s → turn code s ≡ t → GoesOn b t
  goes_on s t sound e = subst (GoesOn b) e (slots_fit code b runs fits s sound)

  stays_sound : {s t : State V} → Comes code b s t → Sound b s → Sound b t
  stays_sound laws.here sound = sound
  stays_sound (laws.moves c e) sound = goes_on _ _ (stays_sound c sound) e
  stays_sound (laws.acts c e r) sound = goes_on _ _ (stays_sound c sound) e r
  stays_sound (laws.notes c e r) sound = goes_on _ _ (stays_sound c sound) e r
  stays_sound (laws.jumps {pc = pc} {ss = ss} c ks g line to depth j) sound = let a = stays_sound c sound in
      jumps_land V b fits pc ss a line to depth (subst (λ ls. Jumps b pc ls line (lands to depth)) (one_list b fits g a.gets) j)

  nowhere_stuck : (s t : State V) → Starts b s → Comes code b s t → is_stuck (turn code t) ≡ false
  nowhere_stuck s t f c = not_stuck b (turn code t) (slots_fit code b runs fits t (stays_sound c (starts_sound b f)))

pub never_stuck : {V : Type 0} (code : CodeObject V) (b : Block) → NeverStuck code b
never_stuck code b runs fits s t f c = nowhere_stuck code b runs fits s t f c
