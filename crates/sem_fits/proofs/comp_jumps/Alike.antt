-- What a jump said of slots answers is what control answers.
use Rattle.std.proofs.Common.{◌≡◌, ℕ, Some, refl, sym, ap, subst, ◌∙◌, length}
use Rattle.pt_tree.specs.Blocks.{Code}
use Rattle.sem_control.specs.control.Frames.{Nest}
use Rattle.sem_control.specs.control.Jump.{Target, Verdict, permitted, no_statement, into_block, out_of_finally, parts, verdict, starts_of, on_line, at_target, by_verdict, by_target}
use Rattle.sem_control.proofs.control.JumpLemmas.{jump_lands}
use Rattle.sem_fits.specs.fits.Block.{Block}
use Rattle.sem_fits.specs.fits.Jumps as J
use Rattle.sem_fits.specs.fits.Jumps.{Starts, Jumps}
use Rattle.sem_fits.specs.comp_jumps.Parts.{answer_of, answer_to}
use Rattle.sem_fits.specs.comp_jumps.Law.{AnsweredAlike, RefusedAlike}
use Rattle.sem_fits.proofs.comp_jumps.Verdicts.{jumps_by_parts}

module _ {V : Type 0} where
  by_each : (c : Code) (place : Nest V) (line to d : ℕ) (t : Target) → on_line line (starts_of c) ≡ Some t → (v : Verdict)
      → verdict (parts place) (parts t.within) ≡ v → answer_of v to d ≡ answer_to (by_verdict v t place) to d
  by_each c place line to d t first permitted e =
      let r = jump_lands c line place t first e in ap (λ o. answer_to (at_target t o) to d) (sym r.filled_so)
  by_each c place line to d t first no_statement e = refl
  by_each c place line to d t first into_block e = refl
  by_each c place line to d t first out_of_finally e = refl

pub answered_alike : (V : Type 0) (b : Block) → AnsweredAlike V b
answered_alike V b c place from to line ks ls t first least gets begins fills told =
    let v = verdict (parts place) (parts t.within) in
    let same = by_each c place line to (length ls) t first v refl ∙ ap (λ o. answer_to (by_target o place) to (length ls)) (sym first) in
    subst (Jumps b from ks line) same (jumps_by_parts b from to line ks ls (parts place) (parts t.within) least gets begins fills told)

pub refused_alike : (V : Type 0) (b : Block) → RefusedAlike V b
refused_alike V b c place from line to depth ks first none =
    subst (Jumps b from ks line) (ap (λ o. answer_to (by_target o place) to depth) (sym first)) (J.nowhere none)
