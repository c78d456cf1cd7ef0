-- The run of a script over a log that counts its lines: what was written to the log below, and how many lines it began.
use Rattle.std.proofs.Common.{◌≡◌, ◌∙◌, ℕ, Bool, true, false, List, [], ◌∷◌, ◌++◌, Result, Ok, Err, IfOk, IfErr, refl, sym, ap, subst, append-nil}
use Rattle.std.proofs.lemmas.Bool.{true≢false}
use Rattle.pt_base.specs.Taken.{Pieces, Takes}
use Rattle.pt_base.specs.Taken as one
use Rattle.pt_base.proofs.TakenLemmas.{front_none}
use Rattle.pt_tree.specs.Syntax.{Stms}
use Rattle.sem_run.specs.run.Run.{Sink, Write, to_log, to_out}
use Rattle.pt_machine_state.specs.Writing.{kept, prints_among, put_if_printed}
use Rattle.pt_machine_state.proofs.WriteLemmas.{kept-append}
use Rattle.pt_sinks.specs.Writing.{StoppedBy, Took, TookFront, first, if_log, if_out, logs, outs}
use Rattle.pt_sinks.specs.declared.writing.Out.{Out}
use Rattle.pt_sinks.specs.declared.writing.Out.TheVariants as stream
use Rattle.pt_sinks.specs.declared.writing.WriteErr.{WriteErr}
use Rattle.pt_sinks.specs.declared.writing.WriteErr.TheVariants as error
use Rattle.pt_run_script.specs.pt_run_code.pt_runner.declared.ending.Ended.{Ended}
use Rattle.pt_run_script.specs.ScriptRun.{ScriptBrokeOff, ScriptFinished}
use Rattle.pt_cover.specs.Reports.{if_asked}
use Rattle.pt_cover.specs.Since.{start_of}
use Rattle.pt_generated.specs.Lines.{HasTakenLines, events_key, line_count}
use Rattle.pt_generated.proofs.LineLemmas.{begins, counts-nothing, has-counted, has-front, has-taken, nothing-taken}
use Rattle.pt_prog.specs.Counted.{HasCounted, with_lines}

-- what is kept of writes goes to out as it stands, and to the log where it has the events
outs-prints : (ws : List Write) → outs (prints_among ws) ≡ outs ws
outs-prints [] = refl
outs-prints (w ∷ ws) = by w.sink refl (outs-prints ws)
  where
    by : (k : Sink) → w.sink ≡ k → outs (prints_among ws) ≡ outs ws → outs (put_if_printed k w (prints_among ws)) ≡ if_out k w.text (outs ws)
    by to_out is more = ap (λ k. if_out k w.text (outs (prints_among ws))) is ∙ ap (λ ps. w.text ∷ ps) more
    by to_log is more = more

logs-prints : (ws : List Write) → logs (prints_among ws) ≡ []
logs-prints [] = refl
logs-prints (w ∷ ws) = by w.sink refl (logs-prints ws)
  where
    by : (k : Sink) → w.sink ≡ k → logs (prints_among ws) ≡ [] → logs (put_if_printed k w (prints_among ws)) ≡ []
    by to_out is none = ap (λ k. if_log k w.text (logs (prints_among ws))) is ∙ none
    by to_log is none = none

outs-kept : (events : Bool) (ws : List Write) → outs (kept events ws) ≡ outs ws
outs-kept true ws = refl
outs-kept false ws = outs-prints ws

logs-kept : (events : Bool) (ws : List Write) → logs (kept events ws) ≡ if_asked events (logs ws)
logs-kept true ws = refl
logs-kept false ws = logs-prints ws

-- the first of what is printed
module _ (T : Pieces → Type 0) (h : Pieces) where
  first-print : (rest : List Write) → one.TookFront T h (outs (first rest)) → one.TookFront T h (outs (first (prints_among rest)))
  first-print [] t = t
  first-print (w ∷ ws) t = by w.sink refl
    where
      by : (k : Sink) → w.sink ≡ k → one.TookFront T h (outs (first (put_if_printed k w (prints_among ws))))
      by to_out is = t
      by to_log is = front_none T h (outs (first (prints_among ws))) (subst (λ k. one.TookFront T h (if_out k w.text [])) is t)

first-unlogged : (rest : List Write) → logs (first (prints_among rest)) ≡ []
first-unlogged [] = refl
first-unlogged (w ∷ ws) = by w.sink refl (first-unlogged ws)
  where
    by : (k : Sink) → w.sink ≡ k → logs (first (prints_among ws)) ≡ [] → logs (first (put_if_printed k w (prints_among ws))) ≡ []
    by to_out is none = ap (λ k. if_log k w.text []) is
    by to_log is none = none

-- the log fails only where it gets the events
abbrev FailsSo : (events : Bool) → WriteErr → Type 0
FailsSo events why = why ≡ error.Failed stream.Log → events ≡ true

still-stopped : (why : WriteErr) (rest : List Write) → FailsSo false why → StoppedBy why rest → StoppedBy why (prints_among rest)
still-stopped (error.Failed which) [] so s = absurd s
still-stopped (error.Failed stream.Log) (w ∷ ws) so s = absurd (true≢false (sym (so refl)))
still-stopped (error.Failed stream.Out) (w ∷ ws) so s =
    subst (λ k. StoppedBy (error.Failed stream.Out) (put_if_printed k w (prints_among ws))) (sym s) s
still-stopped error.Memory rest so s = tt

module _ (n n' : ℕ) (e e' : Bool) (out_old out_new below old new : Pieces → Pieces → Type 0) (none : n ≡ 0) (same : e' ≡ e) (same_log : below ≡ old) where
  abbrev Counting : Pieces → Pieces → Type 0
  Counting = HasTakenLines n e below

  abbrev Counted : Pieces → Pieces → Type 0
  Counted = HasTakenLines n' e' new

  start_old : (g h : Pieces) → old g h → Counting (start_of (events_key e') g h) []
  start_old g h had =
      subst (λ b. Counting (start_of (events_key b) g h) []) (sym same) (begins n e below none g h (subst (λ L. L g h) (sym same_log) had))

  taken : (ws : List Write) → Took out_old out_new Counting Counted ws → Took out_old out_new old new (kept e' ws)
  taken ws t = record {
    out = subst (Takes out_old out_new) (sym (outs-kept e' ws)) t.out;
    log = λ g h had. subst (λ ps. new g (h ++ ps)) (sym (logs-kept e' ws))
        (has-taken n' e' new g h (logs ws) (t.log (start_of (events_key e') g h) [] (start_old g h had)));
  }

  counts : (ws : List Write) → Took out_old out_new Counting Counted ws → n' ≡ line_count (logs ws)
  counts ws t = has-counted n' e' new (logs ws) (t.log [] [] (counts-nothing n e below none))

  front : (why : WriteErr) (ws : List Write) → FailsSo e' why → TookFront out_old out_new Counting Counted why ws
      → TookFront out_old out_new old new why (kept e' ws)
  front why ws so t = go e' refl
    where
      go : (b : Bool) → e' ≡ b → TookFront out_old out_new old new why (kept b ws)
      go true is = record {
        done = t.done;
        rest = t.rest;
        is_front = t.is_front;
        stopped = t.stopped;
        out = t.out;
        log = λ g h had. has-front n' e' new is g h (logs t.done) (logs (first t.rest)) (t.log (start_of (events_key e') g h) [] (start_old g h had));
      }
      go false is = record {
        done = prints_among t.done;
        rest = prints_among t.rest;
        is_front = ap prints_among t.is_front ∙ kept-append false t.done t.rest;
        stopped = still-stopped why t.rest (λ q. sym is ∙ so q) t.stopped;
        out = λ g h had. first-print (out_new g) (h ++ outs (prints_among t.done)) t.rest
            (subst (λ ps. one.TookFront (out_new g) (h ++ ps) (outs (first t.rest))) (sym (outs-prints t.done)) (t.out g h had));
        log = λ g h had. subst (λ ps. one.TookFront (new g) (h ++ logs (prints_among t.done)) ps) (sym (first-unlogged t.rest))
            (subst (λ ps. new g (h ++ ps)) (sym (logs-prints t.done))
            (subst (new g) (sym (append-nil h))
            (nothing-taken n' e' new is g h (logs t.done) (logs (first t.rest)) (t.log (start_of (events_key e') g h) [] (start_old g h had)))));
      }

  -- of the run
  module _ (prelude ss : Stms) (bound : ℕ) where
    abbrev Finished : Ended → Type 0
    Finished = ScriptFinished prelude ss bound true out_old out_new Counting Counted

    abbrev Broke : WriteErr → Type 0
    Broke = ScriptBrokeOff prelude ss bound true out_old out_new Counting Counted

    finished : (x : Ended) → Finished x → ScriptFinished prelude ss bound e' out_old out_new old new x
    finished x f = record {
      outcome = f.outcome;
      runs = f.runs;
      work = f.work;
      code_runs = f.code_runs;
      units = f.units;
      instructions = f.instructions;
      depth = f.depth;
      ends = f.ends;
      took = taken f.outcome.written f.took;
    }

    pub all-counted : (r : Result Ended WriteErr) → IfOk r Finished
        → IfOk (with_lines n' r) (HasCounted prelude ss bound e' out_old out_new old new)
    unfolding finished
    all-counted (Ok x) f = record { finished = finished x f; counts = counts f.outcome.written f.took }
    all-counted (Err why) f = tt

    pub some-counted : (r : Result Ended WriteErr) → (r ≡ Err (error.Failed stream.Log) → e' ≡ true) → IfErr r Broke
        → IfErr (with_lines n' r) (ScriptBrokeOff prelude ss bound e' out_old out_new old new)
    some-counted (Ok x) so b = tt
    some-counted (Err why) so b =
        record { written = b.written; first = b.first; took = front why b.written (λ is. so (ap (λ w. Err w) is)) b.took }

-- a run that was broken off is so, whether or not its lines are counted
pub failed-uncounted : (n : ℕ) (r : Result Ended WriteErr) (which : Out) → with_lines n r ≡ Err (error.Failed which) → r ≡ Err (error.Failed which)
failed-uncounted n (Ok x) which e = absurd (let no : with_lines n (Ok x) ≡ Err (error.Failed which) = e in cc)
failed-uncounted n (Err why) which e = let same : why ≡ error.Failed which = cc in ap (λ w. Err w) same
