-- Where the acts of a block that fits lie in its closed parts, runs come to slots that have the
-- kinds of their places, also behind jumps.
use Rattle.std.proofs.Common.{◌≡◌, ℕ, List, length, Option, Some, None, refl, sym, ◌∙◌, subst}
use Rattle.pt_instr.specs.Effects.{Kinds}
use Rattle.sem_control.specs.control.Turn.{Turn}
use Rattle.sem_control.specs.control.Frames.{Control, Way}
use Rattle.sem_control.specs.control.Jump as J
use Rattle.sem_control.specs.control.Jump.{Part, parts, Target, Verdict, permitted, verdict, starts_of, on_line}
use Rattle.sem_code.specs.slots.Slots.{State}
use Rattle.sem_code.specs.slots.Landing.{cut}
use Rattle.sem_code.specs.slots.Machine as slots
use Rattle.sem_code.specs.comp.Surroundings.{Surroundings}
use Rattle.sem_fits.specs.fits.Block.{Block}
use Rattle.sem_fits.specs.fits.Places.{Gets}
use Rattle.sem_fits.specs.fits.Laws.{At, Sound, GoesOn}
use Rattle.sem_fits.specs.fits.Jumps as S
use Rattle.sem_fits.specs.fits.Jumps.{Answer, Jumps}
use Rattle.sem_fits.proofs.fits.CommonSlots.{one_list}
use Rattle.sem_fits.proofs.fits.JumpLaw.{jumps_land}
use Rattle.sem_fits.specs.comp_jumps.Parts.{Closed, Begins, Around_place, answer_of}
use Rattle.sem_fits.proofs.comp_jumps.Ranges.{closed_tell_apart}
use Rattle.sem_fits.proofs.comp_jumps.Verdicts.{jumps_by_parts}
use Rattle.sem_run.specs.run.Machine.{BlockId, Reason}
use Rattle.sem_run.specs.run.Source.{Source}
use Rattle.law_code_runs.specs.code_run.CodeMachine.{Place, refuses, goes_to, CodeSource}
use Rattle.law_code_runs.specs.code_run.Parts.{jump_of_answer, StartsInParts}
use Rattle.law_code_runs.specs.code_run.Reached as R
use Rattle.law_code_runs.specs.code_run.Reached.{Reached, Landed}
use Rattle.law_code_jumps.proofs.told_code.Sound.{goes_on, raised, starts_sound, at_place}
use Rattle.law_jumps.specs.reached_acts.Laws.{AtAct, KeepsToParts, ReachedAreSound, ActsAreAtKinds}

module _ {V : Type 0} (source : Source V) (code : CodeSource V) (b : BlockId) (block : Block)
    (part : Part → Closed block) (ending : ℕ → Surroundings)
    (keeps : KeepsToParts source code b block part ending) where
  -- slots that have the kinds of a place in these parts
  record Settled (p : Place V) : Type 0 where
    pub at : At block p.pc p.slots
    pub within : List Part
    pub begins : Begins at.kinds within
    pub around : Around_place block part p.pc within

  settle : (p : Place V) (ps : List Part) (ks : Kinds) → At block p.pc p.slots
      → Gets block block.size p.pc ks → Begins ks ps → Around_place block part p.pc ps
      → Settled p
  settle p ps ks a g h r = record {
    at = a;
    within = ps;
    begins = subst (λ ls. Begins ls ps) (one_list block keeps.fits g a.gets) h;
    around = r;
  }

  no_refusal : {x : Reason} {q : Place V} → refuses x ≡ goes_to q → ⊥
  no_refusal e = cc

  same_place : {p q : Place V} → goes_to p ≡ goes_to q → p ≡ q
  same_place e = cc

  answers : (p : Place V) (line : ℕ) (s : Settled p) {a : Answer}
      → Jumps block p.pc s.at.kinds line a
      → code.jump b p line ≡ jump_of_answer a p
  answers p line s j = keeps.by_slots p s.at.kinds line _ s.at.gets j

  -- a jump from there, by the verdict on it
  by_verdict : (p q : Place V) (line : ℕ) (s : Settled p) → code.jump b p line ≡ goes_to q
      → (t : Target) (st : StartsInParts source code b block part ending line t) (v : Verdict)
      → Jumps block p.pc s.at.kinds line (answer_of v st.stands.place (length st.kinds)) → Settled q
  by_verdict p q line s e t st permitted j =
      let r : Place V = record { pc = st.stands.place; slots = cut (length st.kinds) p.slots } in
      let same : r ≡ q = same_place (sym (answers p line s j) ∙ e) in
      let there = jumps_land V block keeps.fits p.pc p.slots s.at line _ _ j in
      subst (λ x. Settled x) same
      (settle r (parts t.within) st.kinds there st.gets st.fills.begins st.around)
  by_verdict p q line s e t st J.no_statement j = absurd (no_refusal (sym (answers p line s j) ∙ e))
  by_verdict p q line s e t st J.into_block j = absurd (no_refusal (sym (answers p line s j) ∙ e))
  by_verdict p q line s e t st J.out_of_finally j =
      absurd (no_refusal (sym (answers p line s j) ∙ e))

  by_line : (p q : Place V) (line : ℕ) → Settled p → code.jump b p line ≡ goes_to q
      → (o : Option Target) → on_line line (starts_of (source.code b)) ≡ o → Settled q
  by_line p q line s e None first =
      absurd
      (no_refusal (sym (answers p line s (S.nowhere (λ pc. keeps.no_others line pc first))) ∙ e))
  by_line p q line s e (Some t) first =
      let st = keeps.starts line t first in
      let to = st.stands.place in
      let ts = parts t.within in
      let apart = closed_tell_apart block part p.pc to s.within ts s.around st.around in
      by_verdict p q line s e t st (verdict s.within ts)
      (jumps_by_parts block p.pc to line s.at.kinds st.kinds s.within ts st.least st.gets s.begins
      st.fills apart)

  turned : (t : State V) (x : Turn (State V) V) → Sound block t → slots.turn (code.object b) t ≡ x
      → GoesOn block x
  turned t x s e = goes_on (code.object b) block keeps.runs keeps.fits t x s e

  jumped : (p q : Place V) (line : ℕ) → Settled p → code.jump b p line ≡ goes_to q → Settled q
  jumped p q line s e = by_line p q line s e (on_line line (starts_of (source.code b))) refl

  mutual
    sound : (c : Control V) (t : State V) → Reached source code b c t → Sound block t
    sound _ _ (R.begins i) = starts_sound block _ (keeps.begins i)
    sound _ _ (R.moves c t u h e) = turned t _ (sound c t h) e
    sound _ _ (R.by_reply c t m a k l h e f r) = turned t _ (sound c t h) f r
    sound _ _ (R.by_note c t a k l h e f r) = turned t _ (sound c t h) f r
    sound _ _ (R.goes_on k p l) = (settled k p l).at
    sound _ _ (R.raises k p l v) =
        raised (code.object b) block keeps.runs keeps.fits p v (settled k p l).at

    settled : (k : Way V) (p : Place V) → Landed source code b k p → Settled p
    settled _ _ (R.from_act c t p q k line h m e f g i j) =
        let a = at_place block t p (sound c t h) g in
        let act : AtAct source code b c t p =
        record { reached = h; alike = m; acts = e; placed = g } in
        let lies = keeps.acts c t p a.kinds act a.gets in
        let l = lies.1 in jumped p q line (settle p lies.0 l.kinds a l.gets l.begins l.around) j
    settled _ _ (R.from_landing j k p q line l i e) = jumped p q line (settled j p l) e

module _ {V : Type 0} (source : Source V) (code : CodeSource V) (b : BlockId) (block : Block) where
  pub reached_are_sound : ReachedAreSound source code b block
  reached_are_sound part ending keeps c t r = sound source code b block part ending keeps c t r

  pub acts_are_at_kinds : ActsAreAtKinds source code b block
  acts_are_at_kinds part ending keeps c t p a =
      at_place block t p (sound source code b block part ending keeps c t a.reached) a.placed
