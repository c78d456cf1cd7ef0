-- A run that writes nothing is broken off.
use Rattle.std.proofs.Common.{◌≡◌, ℕ, Bool, true, false, [], refl, sym, subst}
use Rattle.pt_base.specs.Taken.{Pieces}
use Rattle.pt_tree.specs.Syntax.{Stms}
use Rattle.pt_bare_writes.specs.Fronts.{within}
use Rattle.pt_machine_state.specs.Writing.{kept}
use Rattle.pt_sinks.specs.Writing.{TookFront}
use Rattle.pt_sinks.specs.declared.writing.WriteErr.TheVariants as error
use Rattle.pt_sinks.proofs.WritingLemmas.{took_nothing, front_of_all}
use Rattle.pt_run_script.specs.ScriptRun.{ScriptBrokeOff, ScriptWritesFirst}

none_kept : (events : Bool) → kept events [] ≡ []
none_kept true = refl
none_kept false = refl

pub writes_nothing_first : (prelude ss : Stms) (n : ℕ) → ScriptWritesFirst prelude ss n []
writes_nothing_first prelude ss n = within _ [] _ refl

module _ (prelude ss : Stms) (n : ℕ) (events : Bool) (out_old out_new log_old log_new : Pieces → Pieces → Type 0) where
  pub broke_off_at_once : ((g h : Pieces) → out_old g h → out_new g h) → ((g h : Pieces) → log_old g h → log_new g h)
      → ScriptBrokeOff prelude ss n events out_old out_new log_old log_new error.Memory
  broke_off_at_once a b = record {
    written = [];
    first = writes_nothing_first prelude ss n;
    took = subst (TookFront out_old out_new log_old log_new error.Memory) (sym (none_kept events))
        (front_of_all out_old out_new log_old log_new [] (took_nothing out_old out_new log_old log_new a b));
  }
