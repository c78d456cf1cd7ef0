-- Those are asked whom a run asks.
use Rattle.std.proofs.Common.{◌≡◌, Bool, ◌&&◌, List, [], ◌∷◌, if◌then◌else◌, Option, Some, None, refl, ap, sym, ◌∙◌}
use Rattle.pt_heap.specs.declared.value.Value.{Value}
use Rattle.sem_run.specs.run.Machine.{Machine}
use Rattle.sem_run.specs.run.Events.{Event, TraceKind, a_call, a_line, a_return, an_exception, trace_kind, is_for_debugger}
use Rattle.sem_run.specs.run.Host as H
use Rattle.sem_run.specs.run.Host.{Host, Hook, Frame}
use Rattle.sem_run.specs.run.State.{State}
use Rattle.sem_run.specs.run.Outcome.{Output, Question, about, about_landing, about_refusal}
use Rattle.sem_run.specs.run.Tools.{Tools}
use Rattle.sem_run.specs.run.Hooks.{trace_due, own_trace}
use Rattle.sem_steps.specs.Asking.{Asked, asked, behind_log, if_minded, if_due, due_in}
use Rattle.pt_settrace.specs.Tracing.{Tracing, frame_in, function_in}
use Rattle.pt_settrace.specs.Laws.{IsKept}
use Rattle.pt_monitor.specs.Laws.{AnswerAlike}
use Rattle.pt_monitor.proofs.Calls.{answer_alike}
use Rattle.pt_asking.specs.Due.{location_of, due_by}
use Rattle.pt_asking.specs.Laws.{AreHooksOf, AsksAsRun}

-- by the functions that are due of each hook
module _ (minds : Question Value → Bool) (lines : List (Output Value)) (e : Event Value)
    (d g : Hook → Option Value) (same : (h : Hook) → d h ≡ g h) where
  abbrev by_d : List Hook → Asked Value
  by_d hs = asked minds lines d e hs

  abbrev by_g : List Hook → Asked Value
  by_g hs = asked minds lines g e hs

  asked_alike : (hs : List Hook) → by_d hs ≡ by_g hs
  asked_alike [] = refl
  asked_alike (H.log ∷ hs) = ap (λ a. behind_log lines a) (asked_alike hs)
  asked_alike (H.debugger ∷ hs) =
      ap (λ a. if_minded (is_for_debugger e.what && minds (about e)) (about e) hs a) (asked_alike hs)
  asked_alike (H.landing l ∷ hs) =
      ap (λ a. if_minded (minds (about_landing l)) (about_landing l) hs a) (asked_alike hs)
  asked_alike (H.refusal r ∷ hs) =
      ap (λ a. if_minded (minds (about_refusal r)) (about_refusal r) hs a) (asked_alike hs)
  asked_alike (H.tool k ∷ hs) =
      ap (λ o. if_due o (H.tool k) hs (by_d hs)) (same (H.tool k))
      ∙ ap (λ a. if_due (g (H.tool k)) (H.tool k) hs a) (asked_alike hs)
  asked_alike (H.tracer ∷ hs) =
      ap (λ o. if_due o H.tracer hs (by_d hs)) (same H.tracer)
      ∙ ap (λ a. if_due (g H.tracer) H.tracer hs a) (asked_alike hs)

-- a frame's own function, by what is kept of it
module _ {N : Type 0} (h : Tracing) (f : Frame N Value) (is : IsKept h f) where
  own : (k : TraceKind) (g : Value)
      → own_trace k g (frame_in f.number h) ≡ own_trace k g f
  own a_call g = refl
  own a_line g =
      ap (λ b. if b then function_in f.number h else None) (sym is.lines)
      ∙ ap (λ o. if f.traces_lines then o else None) (sym is.function)
  own a_return g = sym is.function
  own an_exception g = sym is.function

  by_kind : (k : Option TraceKind) (g : Option Value)
      → trace_due k g (frame_in f.number h) ≡ trace_due k g f
  by_kind (Some k) (Some g) = own k g
  by_kind (Some k) None = refl
  by_kind None g = refl

module _ {S N W : Type 0} (machine : Machine S Value) (host : Host N Value W) (h : Tracing)
    (ts : Tools Value) (s : State S N Value W) (are : AreHooksOf h ts s) (e : Event Value)
    (here : e.frame ≡ s.here.frame.number) where
  due_alike : (k : Hook) → due_by h ts e k ≡ due_in machine host e s k
  due_alike (H.tool k) =
      let alike : AnswerAlike ts s.tools = answer_alike ts s.tools are.tools in
      alike.due (location_of k e)
  due_alike H.tracer =
      ap (λ n. trace_due (trace_kind e.what) h.global (frame_in n h)) here
      ∙ ap (λ g. trace_due (trace_kind e.what) g (frame_in s.here.frame.number h)) (sym are.global)
      ∙ by_kind h s.here.frame are.frame (trace_kind e.what) s.trace
  due_alike H.log = refl
  due_alike H.debugger = refl
  due_alike (H.landing l) = refl
  due_alike (H.refusal r) = refl

pub asks_as_run : {S N W : Type 0} (machine : Machine S Value) (host : Host N Value W)
    (minds : Question Value → Bool) → AsksAsRun machine host minds
asks_as_run machine host minds h ts s are e here lines hs =
    asked_alike minds lines e (due_by h ts e) (due_in machine host e s)
    (due_alike machine host h ts s are e here) hs
