-- A suspended activation is kept as it is.
use Rattle.std.proofs.Common.{◌≡◌, ℕ, Bool, true, false, refl, ap, ◌∙◌, if◌then◌else◌}
use Rattle.sem_run.specs.run.Machine.{Machine}
use Rattle.sem_run.specs.run.Host.{Host, GeneratorResult, Made, made, beyond, by_next, by_send, by_throw, by_close}
use Rattle.sem_run.specs.run.State.{Activation, OpenYield, Rest, State, is_full}
use Rattle.sem_run.specs.run.Requests.{throw_exit}
use Rattle.sem_run.specs.run.Step.{give_on, by_phase}
use Rattle.sem_run.specs.run.Laws.{generators_after, IsMade, SuspendsAsItIs, ResumesAsItWas}

module _ {S N V W : Type 0} (machine : Machine S V) (host : Host N V W) where
  pub suspends_as_it_is : (n : ℕ) (s : State S N V W) → SuspendsAsItIs machine host n s
  suspends_as_it_is n s a g r os y v e f =
      ap (λ p. generators_after (by_phase machine host n p s)) e ∙ ap (λ o. (give_on machine host o y v s).generators) f

  opens : (b : Bool) (s t : State S N V W) (a : Activation S N V) → b ≡ false → t.here ≡ a → (if b then s else t).here ≡ a
  opens true s t a e h = absurd cc
  opens false s t a e h = h

  closes : (z : Made V W) (a : Activation S N V) (y : OpenYield S V) (g : ℕ) (r : Rest S N V W (GeneratorResult V)) (s : State S N V W) → is_full s ≡ false → IsMade z →
      (throw_exit machine host g a y r z s).here ≡ a
  closes (made v w) a y g r s e m = opens (is_full s) _ _ a e refl
  closes (beyond what) a y g r s e m = absurd m

  pub resumes_as_it_was : (s : State S N V W) → ResumesAsItWas machine host s
  resumes_as_it_was s a y by_next g r e m = opens (is_full s) _ _ a e refl
  resumes_as_it_was s a y (by_send v) g r e m = opens (is_full s) _ _ a e refl
  resumes_as_it_was s a y (by_throw v) g r e m = opens (is_full s) _ _ a e refl
  resumes_as_it_was s a y by_close g r e m = closes _ a y g r s e m
