-- What keeps a text, or a list of texts, from being there.
use Rattle.std.proofs.Common.{◌≡◌, ◌∙◌, ℕ, List, Result, Ok, Err, IfOk, refl, sym, ap}
use Rattle.std.specs.Result.{IsErr}
use Rattle.std.proofs.lemmas.Bool.{false≢true}
use Rattle.pt_heap.specs.declared.object.Object.{Object}
use Rattle.pt_strs.specs.declared.error.StrErr.{StrErr}
use Rattle.pt_strs.specs.declared.error.StrErr.TheVariants.{Length, Format, Empty, Memory}
use Rattle.pt_strs.specs.Answer.{Answers, AnswersAll}
use Rattle.pt_content.specs.declared.content.Content.{Content}
use Rattle.pt_text_operations.specs.Answers.{answered, refused}
use Rattle.pt_text_operations.specs.Lists.{listed_if}

module _ {M : Type 0} where
  pub refusal : (r : Result Content M) (e : StrErr) (wanted : Result (List ℕ) StrErr) → IfOk r (λ c. c ≡ refused e) → (e ≡ Memory → IsErr r) → Answers (Err e) wanted → IfOk r (λ c. c ≡ answered wanted)
  refusal (Err m) e wanted k i h = tt
  refusal (Ok c) Length wanted k i h = k ∙ ap answered (sym h)
  refusal (Ok c) Format wanted k i h = k ∙ ap answered (sym h)
  refusal (Ok c) Empty wanted k i h = k ∙ ap answered (sym h)
  refusal (Ok c) Memory wanted k i h = absurd (false≢true (i refl))

  pub refusal-of-list : (heap : List Object) (r : Result Content M) (e : StrErr) (wanted : Result (List (List ℕ)) StrErr) → IfOk r (λ c. c ≡ refused e) → (e ≡ Memory → IsErr r) → AnswersAll (Err e) wanted → IfOk r (λ c. c ≡ listed_if heap wanted)
  refusal-of-list heap (Err m) e wanted k i h = tt
  refusal-of-list heap (Ok c) Length wanted k i h = k ∙ ap (listed_if heap) (sym h)
  refusal-of-list heap (Ok c) Format wanted k i h = k ∙ ap (listed_if heap) (sym h)
  refusal-of-list heap (Ok c) Empty wanted k i h = k ∙ ap (listed_if heap) (sym h)
  refusal-of-list heap (Ok c) Memory wanted k i h = absurd (false≢true (i refl))
