-- Writes that are taken one after another.
use Rattle.std.proofs.Common.{◌≡◌, ℕ, List, [], ◌∷◌, ◌++◌, refl, sym, ap, ◌∙◌, subst, append_assoc, append-nil}
use Rattle.pt_base.specs.Taken.{Pieces, Takes, TakesFront}
use Rattle.pt_base.specs.Taken as one
use Rattle.pt_base.proofs.TakenLemmas.{takes_nothing, takes_then, front_none}
use Rattle.sem_run.specs.run.Run.{Sink, to_out, to_log, Write, write}
use Rattle.pt_sinks.specs.declared.writing.Out.{Out}
use Rattle.pt_sinks.specs.declared.writing.Out.TheVariants as out
use Rattle.pt_sinks.specs.declared.writing.WriteErr.{WriteErr}
use Rattle.pt_sinks.specs.declared.writing.WriteErr.TheVariants as error
use Rattle.pt_sinks.specs.Writing.{sink_of, if_out, if_log, outs, logs, first, StoppedBy, Took, TookFront}

if_out_append : (k : Sink) (x : List ℕ) (a b : Pieces) → if_out k x a ++ b ≡ if_out k x (a ++ b)
if_out_append to_out x a b = refl
if_out_append to_log x a b = refl

if_log_append : (k : Sink) (x : List ℕ) (a b : Pieces) → if_log k x a ++ b ≡ if_log k x (a ++ b)
if_log_append to_out x a b = refl
if_log_append to_log x a b = refl

pub outs_append : (ws vs : List Write) → outs (ws ++ vs) ≡ outs ws ++ outs vs
outs_append [] vs = refl
outs_append (w ∷ ws) vs = ap (if_out w.sink w.text) (outs_append ws vs) ∙ sym (if_out_append w.sink w.text (outs ws) (outs vs))

pub logs_append : (ws vs : List Write) → logs (ws ++ vs) ≡ logs ws ++ logs vs
logs_append [] vs = refl
logs_append (w ∷ ws) vs = ap (if_log w.sink w.text) (logs_append ws vs) ∙ sym (if_log_append w.sink w.text (logs ws) (logs vs))

module _ (out_old out_new log_old log_new : Pieces → Pieces → Type 0) where
  pub took_nothing : ((g h : Pieces) → out_old g h → out_new g h) → ((g h : Pieces) → log_old g h → log_new g h) → Took out_old out_new log_old log_new []
  took_nothing a b = record { out = takes_nothing out_old out_new a; log = takes_nothing log_old log_new b }

  -- all of them is a front that no failed write ends
  pub front_of_all : (ws : List Write) → Took out_old out_new log_old log_new ws → TookFront out_old out_new log_old log_new error.Memory ws
  front_of_all ws t = record { done = ws; rest = []; is_front = sym (append-nil ws); stopped = tt; out = t.out; log = t.log }

  before_more : (Took : Pieces → Type 0) (texts : List Write → Pieces) → texts [] ≡ [] → (h : Pieces) (rest vs : List Write)
      → one.TookFront Took h (texts (first rest)) → one.TookFront Took h (texts (first (rest ++ vs)))
  before_more Took texts none h [] vs t = front_none Took h (texts (first vs)) (subst (one.TookFront Took h) none t)
  before_more Took texts none h (w ∷ rest) vs t = t

  stopped_before : (why : WriteErr) (rest vs : List Write) → StoppedBy why rest → StoppedBy why (rest ++ vs)
  stopped_before (error.Failed which) [] vs s = absurd s
  stopped_before (error.Failed which) (w ∷ rest) vs s = s
  stopped_before error.Memory rest vs s = tt

  -- a front of some is a front of more
  pub front_before : (why : WriteErr) (ws vs : List Write) → TookFront out_old out_new log_old log_new why ws
      → TookFront out_old out_new log_old log_new why (ws ++ vs)
  front_before why ws vs t = record {
    done = t.done;
    rest = t.rest ++ vs;
    is_front = ap (λ q. q ++ vs) t.is_front ∙ append_assoc t.done t.rest vs;
    stopped = stopped_before why t.rest vs t.stopped;
    out = λ g h o. before_more (out_new g) outs refl (h ++ outs t.done) t.rest vs (t.out g h o);
    log = λ g h o. before_more (log_new g) logs refl (h ++ logs t.done) t.rest vs (t.log g h o);
  }

  -- and nothing is one of any
  pub front_of_none : (ws : List Write) → ((g h : Pieces) → out_old g h → out_new g h) → ((g h : Pieces) → log_old g h → log_new g h)
      → TookFront out_old out_new log_old log_new error.Memory ws
  front_of_none ws a b = front_before error.Memory [] ws (front_of_all [] (took_nothing a b))

  -- one write, of which the sink took a front
  front_of_out : (why : WriteErr) (piece : List ℕ) → StoppedBy why (write to_out piece ∷ []) → TakesFront out_old out_new (piece ∷ [])
      → ((g h : Pieces) → log_old g h → log_new g h) → TookFront out_old out_new log_old log_new why (write to_out piece ∷ [])
  front_of_out why piece s t same = record {
    done = [];
    rest = write to_out piece ∷ [];
    is_front = refl;
    stopped = s;
    out = λ g h o. rw append-nil (t.front g h o);
    log = λ g h o. rw append-nil (same g h o);
  }

  front_of_log : (why : WriteErr) (piece : List ℕ) → StoppedBy why (write to_log piece ∷ []) → ((g h : Pieces) → out_old g h → out_new g h)
      → TakesFront log_old log_new (piece ∷ []) → TookFront out_old out_new log_old log_new why (write to_log piece ∷ [])
  front_of_log why piece s same t = record {
    done = [];
    rest = write to_log piece ∷ [];
    is_front = refl;
    stopped = s;
    out = λ g h o. rw append-nil (same g h o);
    log = λ g h o. rw append-nil (t.front g h o);
  }

  pub front_in_out : (which : Out) → which ≡ out.Out → (why : WriteErr) (piece : List ℕ) → StoppedBy why (write to_out piece ∷ [])
      → TakesFront out_old out_new (piece ∷ []) → ((g h : Pieces) → log_old g h → log_new g h)
      → TookFront out_old out_new log_old log_new why (write (sink_of which) piece ∷ [])
  front_in_out which is why piece s t same =
      subst (λ w. TookFront out_old out_new log_old log_new why (write (sink_of w) piece ∷ [])) (sym is) (front_of_out why piece s t same)

  pub front_in_log : (which : Out) → which ≡ out.Log → (why : WriteErr) (piece : List ℕ) → StoppedBy why (write to_log piece ∷ [])
      → ((g h : Pieces) → out_old g h → out_new g h) → TakesFront log_old log_new (piece ∷ [])
      → TookFront out_old out_new log_old log_new why (write (sink_of which) piece ∷ [])
  front_in_log which is why piece s same t =
      subst (λ w. TookFront out_old out_new log_old log_new why (write (sink_of w) piece ∷ [])) (sym is) (front_of_log why piece s same t)

module _ (out_old out_mid out_new log_old log_mid log_new : Pieces → Pieces → Type 0) where
  -- writes behind others that were taken whole: whole, or a front of them
  pub took_behind : (ws vs : List Write) → Took out_old out_mid log_old log_mid ws → Took out_mid out_new log_mid log_new vs
      → Took out_old out_new log_old log_new (ws ++ vs)
  took_behind ws vs a b = record {
    out = subst (Takes out_old out_new) (sym (outs_append ws vs)) (takes_then out_old out_mid out_new (outs ws) (outs vs) a.out b.out);
    log = subst (Takes log_old log_new) (sym (logs_append ws vs)) (takes_then log_old log_mid log_new (logs ws) (logs vs) a.log b.log);
  }

  behind_some : (Took : Pieces → Type 0) (h a b c : Pieces) (ps : Pieces) → c ≡ a ++ b → one.TookFront Took ((h ++ a) ++ b) ps → one.TookFront Took (h ++ c) ps
  behind_some Took h a b c ps e t =
      subst (λ q. one.TookFront Took q ps) (append_assoc h a b ∙ ap (λ q. h ++ q) (sym e)) t

  pub front_behind : (why : WriteErr) (ws vs : List Write) → Took out_old out_mid log_old log_mid ws → TookFront out_mid out_new log_mid log_new why vs
      → TookFront out_old out_new log_old log_new why (ws ++ vs)
  front_behind why ws vs a b = record {
    done = ws ++ b.done;
    rest = b.rest;
    is_front = ap (λ q. ws ++ q) b.is_front ∙ sym (append_assoc ws b.done b.rest);
    stopped = b.stopped;
    out = λ g h o. behind_some (out_new g) h (outs ws) (outs b.done) (outs (ws ++ b.done)) (outs (first b.rest)) (outs_append ws b.done) (b.out g (h ++ outs ws) (a.out g h o));
    log = λ g h o. behind_some (log_new g) h (logs ws) (logs b.done) (logs (ws ++ b.done)) (logs (first b.rest)) (logs_append ws b.done) (b.log g (h ++ logs ws) (a.log g h o));
  }
