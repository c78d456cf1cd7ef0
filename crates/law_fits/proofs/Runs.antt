-- A run of code that fits goes on among states whose slots have the kinds of their places.
use Rattle.std.proofs.Common.{◌≡◌, ℕ, true, false, Some, sym, ap, ◌∙◌, subst, reverse}
use Rattle.std.proofs.lemmas.Bool.{false≢true, true_from_ne_false}
use Rattle.pt_instr.specs.Effects.{Kinds}
use Rattle.pt_code.specs.View.{Ins}
use Rattle.sem_control.specs.control.Turn.{Turn, act, note, move, over, stuck}
use Rattle.sem_code.specs.slots.Slots.{Slots, State, on, thrown_to, reraises, off}
use Rattle.sem_code.specs.slots.CodeObject.{CodeObject}
use Rattle.sem_code.specs.slots.Machine.{turn, here}
use Rattle.sem_fits.specs.fits.Block.{Block, kinds_at_start}
use Rattle.sem_fits.specs.fits.Places as places
use Rattle.sem_fits.specs.fits.Places.{Gets, Reached}
use Rattle.sem_fits.specs.fits.Standing.{may_yield, may_stand}
use Rattle.sem_fits.specs.fits.Agreement as agreement
use Rattle.sem_fits.specs.fits.Fits.{Fits}
use Rattle.sem_fits.specs.fits.Laws as laws
use Rattle.sem_fits.specs.fits.Laws.{Runs, At, Sent, Sound, GoesOn, Starts}
use Rattle.sem_fits.proofs.fits.Ways.{place_of}
use Rattle.sem_fits.proofs.fits.SlotLaw.{slots_fit}
use Rattle.sem_run.specs.run.Machine.{BlockId}
use Rattle.pt_bare_runs.specs.Laws.{GivesNothingOn, TurnStays}
use Rattle.pt_bare_runs.proofs.NeverStuck.{never_stuck}
use Rattle.sem_code_machine.specs.code_machine.CodeBlocks.{CodeBlocks, machine}
use Rattle.law_fits.specs.Laws.{AreFitting, CodeThatFitsRunsOn}
use Rattle.law_fits.proofs.PlainAsks.{IsPlain, plain}

pub starts_sound : {V : Type 0} (b : Block) {s : State V} → Starts b s → Sound b s
starts_sound b (laws.empty i e k) = record { kinds = kinds_at_start b.kind; gets = places.start i e; stack = record { kinds = ap reverse (sym k); holds = tt } }
starts_sound b (laws.iterating i e k v) =
    record { kinds = kinds_at_start b.kind; gets = places.start i e; stack = record { kinds = ap reverse (sym k); holds = (tt, tt) } }

stays : {V : Type 0} (b : Block) (t : Turn (State V) V) → GoesOn b t → IsPlain t → TurnStays (λ s. Sound b s) t
stays b (act m a next) g p = (p, g)
stays b (note n next) g p = g
stays b (move s) g p = g
stays b (over e) g p = tt
stays b stuck g p = absurd g

-- in a block in which no value may be given on
module _ {V : Type 0} (code : CodeObject V) (b : Block) (runs : Runs code b) (fits : Fits b) (silent : may_yield b.kind ≡ false) where
  reached : {pc : ℕ} {ks : Kinds} (i : Ins) → b.at pc ≡ Some i → Gets b b.size pc ks → Reached b b.size pc i ks
  reached {pc = pc} i e g = record { gets = g; low = runs.inside pc i e; stands = e }

  stands : {pc : ℕ} {ks : Kinds} (i : Ins) → Reached b b.size pc i ks → may_stand b.kind b.links i.instr ≡ true
  stands i r = true_from_ne_false _ (λ e. fits.agrees.kinds (agreement.misplaced r e))

  plain_at : (pc : ℕ) (ss : Slots V) → At b pc ss → IsPlain (here code pc (code.at pc) ss)
  plain_at pc ss a =
      let (i, e) = place_of a.gets in
      subst (λ o. IsPlain (here code pc o ss)) (sym (runs.at pc ∙ e)) (plain code pc i b.kind b.links silent i.instr (stands i (reached i e a.gets)) ss)

  -- nothing is sent to a delegation, which may not stand there
  none_sent : {pc : ℕ} {ss : Slots V} → Sent b pc ss → ⊥
  none_sent s =
      false≢true (sym silent ∙ subst (λ j. may_stand b.kind b.links j ≡ true) s.delegates (stands s.ins (reached s.ins s.stands s.here.gets)))

  plain_turn : (s : State V) → Sound b s → IsPlain (turn code s)
  plain_turn (on pc ss) a = plain_at pc ss a
  plain_turn (thrown_to pc v ss) s = absurd (none_sent s)
  plain_turn (reraises v rows ss) r = tt
  plain_turn (off e) s = tt

  turn_stays : (s : State V) → Sound b s → TurnStays (λ s. Sound b s) (turn code s)
  turn_stays s sound = stays b (turn code s) (slots_fit code b runs fits s sound) (plain_turn s sound)

module _ {V : Type 0} (code : CodeBlocks V) (blocks : BlockId → Block) (are : AreFitting code blocks) where
  abbrev Within : BlockId → State V → Type 0
  Within b s = Sound (blocks b) s

  gives_nothing : GivesNothingOn (machine code) Within
  gives_nothing = record {
    starts = λ b iterator. starts_sound (blocks b) (are.starts b iterator);
    turns = λ b s sound. turn_stays (code.object b) (blocks b) (are.runs b) (are.fits b) (are.gives_nothing_on b) s sound;
  }

pub runs_on : {V N W : Type 0} → CodeThatFitsRunsOn V N W
runs_on code blocks are host opens n b names world =
    never_stuck (machine code) host n (Within code blocks are) (gives_nothing code blocks are) opens b names world
