-- The run of code that fits stays among states whose slots have the kinds of their places.
use Rattle.std.proofs.Common.{◌≡◌, ℕ, Bool, true, false, if◌then◌else◌, Option, Some, None, refl, sym, subst}
use Rattle.sem_control.specs.control.Turn as T
use Rattle.sem_control.specs.control.Turn.{Turn}
use Rattle.sem_code.specs.slots.Slots.{State}
use Rattle.sem_code.specs.slots.Landing.{cut}
use Rattle.sem_code.specs.slots.Machine as slots
use Rattle.sem_fits.specs.fits.Block.{Block}
use Rattle.sem_fits.specs.fits.Laws.{At, Sound, GoesOn}
use Rattle.sem_fits.specs.fits.Jumps.{Answer, no_statement, out_of_finally, into_block, lands, Jumps}
use Rattle.sem_fits.proofs.fits.SlotLaw.{slots_fit}
use Rattle.sem_fits.proofs.fits.JumpLaw.{jumps_land}
use Rattle.sem_run.specs.run.Machine as M
use Rattle.sem_run.specs.run.Machine.{BlockId, Machine, is_act, turn_in, not_at_line}
use Rattle.sem_run.specs.run.Follows.{TurnStays, JumpStays, Stays}
use Rattle.sem_run.proofs.run.Staying.{stays_never_halts}
use Rattle.pt_bare_code.specs.law_code_runs.code_run.CodeMachine as code_of
use Rattle.pt_bare_code.specs.law_code_runs.code_run.CodeMachine.{Place, CodeSource, Position, at_statement, state_at, place_of, raised_at, start_of, landing, jump_from, machine}
use Rattle.pt_bare_code.specs.law_code_runs.code_run.Parts.{jump_of_answer}
use Rattle.law_code_jumps.specs.told_code.Laws.{AreFitting, FittingCodeNeverHalts}
use Rattle.law_code_jumps.proofs.told_code.Sound.{raised, starts_sound, at_place}

module _ {V : Type 0} (code : CodeSource V) (blocks : BlockId → Block)
    (are : AreFitting code blocks) where
  abbrev coded : Machine (Position V) V
  coded = machine code

  -- states whose slots have the kinds of their places, and places where jumps have landed
  data Within (b : BlockId) : Position V → Type 0 where
    within : (t : State V) → Sound (blocks b) t → Within b (code_of.at t)

  data Landed (b : BlockId) : Position V → Type 0 where
    landed : (p : Place V) → At (blocks b) p.pc p.slots → Landed b (at_statement p)

  turn_stays : (b : BlockId) (t : Turn (State V) V) → GoesOn (blocks b) t
      → TurnStays coded Within Landed b (turn_in code_of.at t)
  turn_stays b (T.act m a k) g = λ r. within (k r) (g r)
  turn_stays b (T.note a k) g = λ r. within (k r) (g r)
  turn_stays b (T.move t) g = within t g
  turn_stays b (T.over e) g = tt
  turn_stays b T.stuck g = absurd g

  turns : (b : BlockId) (q : Position V) → Within b q
      → TurnStays coded Within Landed b (coded.turn b q)
  turns b _ (within t sound) =
      turn_stays b (slots.turn (code.object b) t)
      (slots_fit (code.object b) (blocks b) (are.runs b) (are.fits b) t sound)

  -- where a jump lands, the slots have the kinds of the target, and so have those under which a
  -- raise goes from there
  by_answer : (b : BlockId) (p : Place V) (a : At (blocks b) p.pc p.slots) (line : ℕ) (x : Answer)
      → Jumps (blocks b) p.pc a.kinds line x
      → JumpStays coded Within Landed b (landing code b (jump_of_answer x p))
  by_answer b p a line no_statement j = tt
  by_answer b p a line out_of_finally j = tt
  by_answer b p a line into_block j = tt
  by_answer b p a line (lands to depth) j =
      let q : Place V = record { pc = to; slots = cut depth p.slots } in
      let there : At (blocks b) q.pc q.slots =
      jumps_land V (blocks b) (are.fits b) p.pc p.slots a line to depth j in (
        landed q there,
        within (state_at q) there,
        λ v. within (raised_at (code.object b) q v)
            (raised (code.object b) (blocks b) (are.runs b) (are.fits b) q v there),
      )

  from_place : (b : BlockId) (p : Place V) (a : At (blocks b) p.pc p.slots) (line : ℕ)
      → JumpStays coded Within Landed b (landing code b (code.jump b p line))
  from_place b p a line =
      let so = are.answers b p a.kinds line a.gets in
      subst (λ j. JumpStays coded Within Landed b (landing code b j)) (sym so.given)
      (by_answer b p a line so.answer so.said)

  from_state : (b : BlockId) (t : State V) → Sound (blocks b) t → (line : ℕ) (o : Option (Place V))
      → place_of t ≡ o → JumpStays coded Within Landed b (jump_from code b o line)
  from_state b t sound line None e = tt
  from_state b t sound line (Some p) e = from_place b p (at_place (blocks b) t p sound e) line

  at_act : (b : BlockId) (line : ℕ) (o : Option (Place V)) (act : Bool)
      → JumpStays coded Within Landed b (jump_from code b o line)
      → JumpStays coded Within Landed b
      (if act then jump_from code b o line else M.refuses not_at_line)
  at_act b line o true h = h
  at_act b line o false h = tt

  jumps : (b : BlockId) (q : Position V) (line : ℕ) → Within b q
      → is_act (coded.turn b q) ≡ true → JumpStays coded Within Landed b (coded.jump b q line)
  jumps b _ line (within t sound) e =
      at_act b line (place_of t) (is_act (slots.turn (code.object b) t))
      (from_state b t sound line (place_of t) refl)

  jumps_again : (b : BlockId) (q : Position V) (line : ℕ) → Landed b q
      → JumpStays coded Within Landed b (coded.jump b q line)
  jumps_again b _ line (landed p a) = from_place b p a line

  stays : Stays coded Within Landed
  stays = record {
    starts = λ b i.
        within (start_of code b i) (starts_sound (blocks b) (start_of code b i) (are.starts b i));
    turns = turns;
    jumps = jumps;
    jumps_again = jumps_again;
  }

pub fitting_code_never_halts : {D N V W : Type 0} → FittingCodeNeverHalts D N V W
fitting_code_never_halts code blocks are host ask n block names world d =
    stays_never_halts (machine code) (Within code blocks are) (Landed code blocks are)
    (stays code blocks are) host ask n block names world d
