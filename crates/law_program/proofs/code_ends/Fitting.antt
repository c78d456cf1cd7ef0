-- In a block that fits jumps go on to places that get kinds alone, and a turn leads soundly on.
use Rattle.std.proofs.Common.{◌≡◌, ℕ, ◌∷◌, length, refl, sym, ◌∙◌, subst, reverse}
use Rattle.pt_instr.specs.declared.Instr.{Instr}
use Rattle.pt_instr.specs.declared.Instr.TheVariants as instr
use Rattle.pt_instr.specs.Effects.{Kinds}
use Rattle.pt_code.specs.View.{Ins}
use Rattle.sem_control.specs.control.Turn.{Turn, act, note, move, over, stuck}
use Rattle.sem_code.specs.slots.Slots.{jump_to, Completion, by, pending, Slots, State, on, thrown_to, reraises, off}
use Rattle.sem_code.specs.slots.CodeObject.{CodeObject, Extras}
use Rattle.sem_code.specs.slots.Machine.{turn}
use Rattle.sem_fits.specs.fits.Block.{Block}
use Rattle.sem_fits.specs.fits.Places.{Gets, Reached}
use Rattle.sem_fits.specs.fits.Fits.{Fits, Arrives}
use Rattle.sem_fits.specs.fits.Laws.{Runs, MayHold, Stack, At, Sound, GoesOn}
use Rattle.sem_fits.proofs.fits.Ways.{place_of, holds_arrive}
use Rattle.sem_fits.proofs.fits.SlotLaw.{slots_fit}
use Rattle.law_program.proofs.code_ends.Strides.{TurnIn}
use Rattle.law_program.proofs.code_ends.Turns.{HeldAlike, JumpsAlike, AlikeHere, AlikeAt}

pub goes_in : {V : Type 0} (b : Block) (t : Turn (State V) V) → GoesOn b t → TurnIn (λ s. Sound b s) t
goes_in b (act m a next) g = g
goes_in b (note n next) g = g
goes_in b (move s) g = g
goes_in b (over e) g = tt
goes_in b stuck g = tt

module _ {V : Type 0} (code : CodeObject V) (b : Block) (runs : Runs code b) (fits : Fits b) (depth_at : ℕ → ℕ) (extras : Extras)
    (depths : (pc : ℕ) (ks : Kinds) → Gets b b.size pc ks → depth_at pc ≡ length ks) where
  arrived : (t : ℕ) → Arrives b t → code.depth_at t ≡ depth_at t
  arrived t a = runs.depth_at t a.kinds a.gets ∙ sym (depths t a.kinds a.gets)

  held_alike : (pc d : ℕ) (c : Completion V) → MayHold {V = V} b pc d (pending c) → HeldAlike code depth_at extras c
  held_alike pc d (by (jump_to t)) h = arrived t (holds_arrive b fits h)
  held_alike pc d c h = tt

  jumps_alike : (pc : ℕ) (i : Ins) (ks : Kinds) → Reached b b.size pc i ks → (j : Instr) → i.instr ≡ j → (ss : Slots V) → Stack b pc (reverse ks) ss
      → JumpsAlike code depth_at extras j ss
  jumps_alike pc i ks r (instr.Leave t) e ss st = arrived t.0 (fits.arrives pc i ks r t.0 e)
  jumps_alike pc i ks r instr.EndFinally e (pending c ∷ ss) st = held_alike pc (length ss) c st.holds.0
  jumps_alike pc i ks r j e ss st = tt

  here_alike : (pc : ℕ) (ss : Slots V) → At b pc ss → AlikeHere code depth_at extras (code.at pc) ss
  here_alike pc ss a =
      let (i, e) = place_of a.gets in
      subst (λ o. AlikeHere code depth_at extras o ss) (sym (runs.at pc ∙ e))
      (jumps_alike pc i a.kinds (record { gets = a.gets; low = runs.inside pc i e; stands = e }) i.instr refl ss a.stack)

  pub sound_alike : (s : State V) → Sound b s → AlikeAt code depth_at extras s
  sound_alike (on pc ss) a = here_alike pc ss a
  sound_alike (thrown_to pc v ss) h = tt
  sound_alike (reraises v rows ss) h = tt
  sound_alike (off e) h = tt

pub turn_in : {V : Type 0} (code : CodeObject V) (b : Block) → Runs code b → Fits b → (s : State V) → Sound b s → TurnIn (λ s. Sound b s) (turn code s)
turn_in code b runs fits s sound = goes_in b (turn code s) (slots_fit code b runs fits s sound)
