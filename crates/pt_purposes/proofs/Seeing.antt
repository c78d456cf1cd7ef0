-- Activations that wait are seen as their parts tell.
use Rattle.std.proofs.Common.{◌≡◌, ℕ, suc, List, [], ◌∷◌, map, length, ◌||◌, Option, refl, ap, sym}
use Rattle.std.specs.Prelude.{nat_le}
use Rattle.pt_heap.specs.declared.value.Value.{Value}
use Rattle.sem_control.specs.control.Bases.{or_else}
use Rattle.sem_run.specs.run.Machine.{BlockId, Machine}
use Rattle.sem_run.specs.run.Host.{Here}
use Rattle.sem_run.specs.run.State as run
use Rattle.sem_run.specs.run.State.{is_hook_open, most_activations}
use Rattle.law_steps.specs.waiting.Seen as seen
use Rattle.law_steps.specs.waiting.Seen.{IsSeen, AllSeen, active_by, hook_runs_by}
use Rattle.sem_rows.specs.pt_host.World.{Names, World, CodeFacts, Program}
use Rattle.pt_settrace.specs.Tracing.{Tracing}
use Rattle.pt_frames.specs.declared.activation.Activation.{Activation}
use Rattle.pt_openers.specs.Openers.{active_in, hook_runs}
use Rattle.pt_frames.specs.declared.purpose.Purpose.{Purpose as For}
use Rattle.pt_purposes.specs.declared.purpose.Purpose.{Purpose}
use Rattle.pt_purposes.specs.declared.opener.Opener.{Opener}
use Rattle.pt_purposes.specs.Seen.{block_of, waits_for_hook, active_of, has_hook, seen_of}
use Rattle.pt_purposes.specs.Openers as openers
use Rattle.pt_purposes.specs.Openers.{Ways, IsOpenFor, block_of_ask, generator_of_ask, generator_of_delegation, block_of_hook, asked_in, IsOpener, AreOpeners}
use Rattle.pt_purposes.specs.Laws.{OpenersAreSeen, PartsTell}

module _ {S : Type 0} (program : Program) (machine : Machine S Value) (ways : Ways S)
    (h : Tracing) where
  hook_seen : (a : Activation) (c : S) (why : For) (here : Here Value) (facts : CodeFacts)
      (g : Option ℕ) (p : Purpose) (q : run.Purpose S Names Value World)
      → IsOpenFor machine ways a c why here facts g p q → is_hook_open q ≡ waits_for_hook p
  hook_seen a c why here facts _ _ _ (block_of_ask called b q f x y) = refl
  hook_seen a c why here facts _ _ _ (generator_of_ask g called b q f x y) = refl
  hook_seen a c why here facts _ _ _ (generator_of_delegation g s i r k b f x y z) = refl
  hook_seen a c why here facts _ _ _ (block_of_hook hook s active t x f y z) = refl

  one_seen : (above : BlockId) (e : Opener) (o : run.Opener S Names Value World)
      → IsOpener program machine ways h above e o → IsSeen machine (seen_of program h e) o
  one_seen above e o is = record {
    frame = is.running.frame;
    active = is.active;
    hook = hook_seen e.running.activation o.activation.state e.why
        (asked_in e.running.activation e.context) (program.facts above) e.generator e.purpose o.purpose is.purpose;
  }

  all_seen : (above : BlockId) (es : List Opener) (os : List (run.Opener S Names Value World))
      → AreOpeners program machine ways h above es os
      → AllSeen machine (map (seen_of program h) es) os
  all_seen _ _ _ (openers.none above) = seen.none
  all_seen _ _ _ (openers.more above e o es os is are) =
      seen.more (seen_of program h e) o (map (seen_of program h) es) os (one_seen above e o is)
      (all_seen (block_of e.running.activation) es os are)

pub openers_are_seen : {S : Type 0} (program : Program) (machine : Machine S Value) (ways : Ways S)
    (h : Tracing) → OpenersAreSeen program machine ways h
openers_are_seen program machine ways h above es os are =
    all_seen program machine ways h above es os are

module _ (program : Program) (h : Tracing) where
  as-many : (es : List Opener) → length (map (seen_of program h) es) ≡ length es
  as-many [] = refl
  as-many (e ∷ es) = ap suc (as-many es)

  hook_told : (es : List Opener)
      → hook_runs has_hook es ≡ hook_runs_by (map (seen_of program h) es)
  hook_told [] = refl
  hook_told (e ∷ es) = ap (λ b. has_hook e || b) (hook_told es)

  active_told : (es : List Opener)
      → active_in active_of es ≡ active_by (map (seen_of program h) es)
  active_told [] = refl
  active_told (e ∷ es) = ap (λ o. or_else (active_of e) o) (active_told es)

  pub parts_tell : (es : List Opener) → PartsTell program h es
  parts_tell es = record {
    full = ap (λ n. nat_le most_activations (suc n)) (sym (as-many es));
    hook = hook_told es;
    active = active_told es;
  }
