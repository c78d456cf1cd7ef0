-- Who is asked next from each place in the order of all.
use Rattle.std.proofs.Common.{◌≡◌, ◌+◌, ◌<◌, ◌≤◌, ℕ, zero, suc, Bool, true, false, ◌&&◌, List, [], ◌∷◌, ◌++◌, append-nil, Option, Some, None, drop, refl, ap, sym, subst, ◌∙◌, arith}
use Rattle.std.specs.Prelude.{◌==◌}
use Rattle.std.proofs.lemmas.List.{drop_all}
use Rattle.pt_heap.specs.declared.value.Value.{Value}
use Rattle.sem_run.specs.run.Events.{Event, is_for_debugger}
use Rattle.sem_run.specs.run.Host as H
use Rattle.sem_run.specs.run.Host.{Hook}
use Rattle.sem_run.specs.run.Hooks.{all_hooks}
use Rattle.sem_run.specs.run.Outcome.{Output, Question, about}
use Rattle.sem_steps.specs.Steps.{minded}
use Rattle.sem_steps.specs.Asking as steps
use Rattle.sem_steps.specs.Asking.{if_minded, if_due}
use Rattle.pt_pendings.specs.declared.telling.Left.TheVariants.{From}
use Rattle.pt_asking.specs.declared.asked.Hook.TheVariants.{Tool, Tracer}
use Rattle.pt_asking.specs.declared.asked.Question.TheVariants as question
use Rattle.pt_asking.specs.declared.asked.Next.{Next}
use Rattle.pt_asking.specs.declared.asked.Next.TheVariants.{Nobody, Consulted, Called}
use Rattle.pt_asking.specs.Asking.{next_view, asked_view, IsNextFrom}

is-zero : (n : ℕ) → (n == 0) ≡ true → n ≡ 0
is-zero n h = grind arith

above-zero : (n : ℕ) → (n == 0) ≡ false → 0 < n
above-zero n h = grind arith

-- a tool has its place in the order
tool-place : (k : ℕ) → k < 6 → drop (k + 2) all_hooks ≡ H.tool k ∷ drop (k + 1 + 2) all_hooks
tool-place zero h = refl
tool-place (suc zero) h = refl
tool-place (suc (suc zero)) h = refl
tool-place (suc (suc (suc zero))) h = refl
tool-place (suc (suc (suc (suc zero)))) h = refl
tool-place (suc (suc (suc (suc (suc zero))))) h = refl
tool-place (suc (suc (suc (suc (suc (suc k)))))) h = absurd (omega arith)

-- the log is not among them
abbrev is_log : Hook → Bool
is_log H.log = true
is_log h = false

abbrev NoLog : List Hook → Type 0
NoLog [] = Unit {0}
NoLog (h ∷ hs) = (is_log h ≡ false) × NoLog hs

without-log : (n : ℕ) (hs : List Hook) → NoLog hs → NoLog (drop n hs)
without-log zero hs u = u
without-log (suc n) [] u = u
without-log (suc n) (h ∷ hs) u = without-log n hs u.1

unwritten-minded : (b : Bool) (q : Question Value) (hs : List Hook) (a : steps.Asked Value)
    → a.outputs ≡ [] → (if_minded b q hs a).outputs ≡ []
unwritten-minded true q hs a e = refl
unwritten-minded false q hs a e = e

unwritten-due : (o : Option Value) (h : Hook) (hs : List Hook) (a : steps.Asked Value)
    → a.outputs ≡ [] → (if_due o h hs a).outputs ≡ []
unwritten-due (Some f) h hs a e = refl
unwritten-due None h hs a e = e

module _ (minds : Bool) (due : Hook → Option Value) (e : Event Value) where
  abbrev Is : (place : ℕ) → Next → Type 0
  Is = IsNextFrom minds due e

  abbrev these : List Hook → (lines : List (Output Value)) → steps.Asked Value
  these hs lines = steps.asked (minded (λ e. minds)) lines due e hs

  abbrev from : (place : ℕ) → (lines : List (Output Value)) → steps.Asked Value
  from n lines = these (drop n all_hooks) lines

  unwritten : (hs : List Hook) (lines : List (Output Value)) → NoLog hs
      → (these hs lines).outputs ≡ []
  unwritten [] lines u = refl
  unwritten (H.log ∷ hs) lines u = absurd (let e : true ≡ false = u.0 in cc)
  unwritten (H.debugger ∷ hs) lines u =
      unwritten-minded (is_for_debugger e.what && minds) (about e) hs (these hs lines)
      (unwritten hs lines u.1)
  unwritten (H.landing l ∷ hs) lines u = refl
  unwritten (H.refusal r ∷ hs) lines u = refl
  unwritten (H.tool k ∷ hs) lines u =
      unwritten-due (due (H.tool k)) (H.tool k) hs (these hs lines) (unwritten hs lines u.1)
  unwritten (H.tracer ∷ hs) lines u =
      unwritten-due (due H.tracer) H.tracer hs (these hs lines) (unwritten hs lines u.1)

  -- lines are written where the log is still to be asked, and nowhere else
  written-first : (lines : List (Output Value)) → (from 0 lines).outputs ≡ lines
  written-first lines =
      ap (λ os. lines ++ os)
      (unwritten (drop 1 all_hooks) lines (refl, (refl, (refl, (refl, (refl, (refl, (refl, (refl, tt)))))))))
      ∙ append-nil lines

  unwritten-later : (n : ℕ) (lines : List (Output Value)) → 0 < n → (from n lines).outputs ≡ []
  unwritten-later zero lines h = absurd (omega arith)
  unwritten-later (suc n) lines h =
      unwritten (drop (suc n) all_hooks) lines
      (without-log n (drop 1 all_hooks) (refl, (refl, (refl, (refl, (refl, (refl, (refl, (refl, tt)))))))))

  pub nobody_behind_all : (n : ℕ) → 9 ≤ n → Is n Nobody
  nobody_behind_all n h = record {
    next = λ lines. ap (λ hs. (these hs lines).next) (drop_all n all_hooks h);
  }

  -- the log is passed, and the debugger asked or passed
  at-debugger : (n : ℕ) (lines : List (Output Value)) → n < 2
      → (from n lines).next ≡ (from 1 lines).next
  at-debugger zero lines h = refl
  at-debugger (suc zero) lines h = refl
  at-debugger (suc (suc n)) lines h = absurd (omega arith)

  abbrev by_debugger : Bool → List (Output Value) → steps.Next Value
  by_debugger b lines = (if_minded b (about e) (drop 2 all_hooks) (from 2 lines)).next

  pub debugger_asked : (n : ℕ) → n < 2 → (is_for_debugger e.what && minds) ≡ true
      → Is n (Consulted question.Event (From 2))
  debugger_asked n h is = record {
    next = λ lines. at-debugger n lines h ∙ ap (λ b. by_debugger b lines) is;
  }

  pub debugger_passed : (n : ℕ) (r : Next) → n < 2 → (is_for_debugger e.what && minds) ≡ false
      → Is 2 r → Is n r
  debugger_passed n r h is later = record {
    next = λ lines. at-debugger n lines h ∙ ap (λ b. by_debugger b lines) is ∙ later.next lines;
  }

  abbrev by_tool : (k : ℕ) → Option Value → List (Output Value) → steps.Next Value
  by_tool k o lines =
      (if_due o (H.tool k) (drop (k + 1 + 2) all_hooks) (from (k + 1 + 2) lines)).next

  at-tool : (k : ℕ) (lines : List (Output Value)) → k < 6
      → (from (k + 2) lines).next ≡ by_tool k (due (H.tool k)) lines
  at-tool k lines h = ap (λ hs. (these hs lines).next) (tool-place k h)

  pub tool_called : (k : ℕ) (f : Value) → k < 6 → due (H.tool k) ≡ Some f
      → Is (k + 2) (Called (Tool k) f (From (k + 1 + 2)))
  tool_called k f h is = record {
    next = λ lines. at-tool k lines h ∙ ap (λ o. by_tool k o lines) is;
  }

  pub tool_passed : (k : ℕ) (r : Next) → k < 6 → due (H.tool k) ≡ None → Is (k + 1 + 2) r
      → Is (k + 2) r
  tool_passed k r h is later = record {
    next = λ lines. at-tool k lines h ∙ ap (λ o. by_tool k o lines) is ∙ later.next lines;
  }

  abbrev by_tracer : Option Value → steps.Next Value
  by_tracer o = (if_due o H.tracer [] (steps.asks steps.nobody)).next

  pub tracer_called : (f : Value) → due H.tracer ≡ Some f → Is 8 (Called Tracer f (From 9))
  tracer_called f is = record { next = λ lines. ap (λ o. by_tracer o) is }

  pub tracer_passed : due H.tracer ≡ None → Is 8 Nobody
  tracer_passed is = record { next = λ lines. ap (λ o. by_tracer o) is }

  abbrev asked_with : List (Output Value) → steps.Next Value → steps.Asked Value
  asked_with os x = record { outputs = os; next = x }

  by_parts : (a : steps.Asked Value) (os : List (Output Value)) (x : steps.Next Value)
      → a.outputs ≡ os → a.next ≡ x → asked_with os x ≡ a
  by_parts a os x o n = sym (ap (λ os. asked_with os a.next) o ∙ ap (λ x. asked_with os x) n)

  told_by : (b : Bool) (n : ℕ) (r : Next) → (b ≡ true → n ≡ 0) → (b ≡ false → 0 < n) → Is n r
      → (lines : List (Output Value))
      → asked_view lines e (record { logs = b; next = r }) ≡ from n lines
  told_by true n r first later is lines =
      by_parts (from n lines) lines (next_view e r)
      (subst (λ n. (from n lines).outputs ≡ lines) (sym (first refl)) (written-first lines))
      (is.next lines)
  told_by false n r first later is lines =
      by_parts (from n lines) [] (next_view e r) (unwritten-later n lines (later refl))
      (is.next lines)

  pub told_from : (n : ℕ) (r : Next) → Is n r → (lines : List (Output Value))
      → asked_view lines e (record { logs = n == 0; next = r }) ≡ from n lines
  told_from n r is lines = told_by (n == 0) n r (is-zero n) (above-zero n) is lines
