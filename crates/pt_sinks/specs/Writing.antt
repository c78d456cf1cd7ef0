-- What out and the log take of the writes of a run. Each takes its own in their order; a front is one of the writes to both.
use Rattle.std.specs.Prelude.{◌≡◌, ℕ, List, [], ◌∷◌, ◌++◌}
use Rattle.pt_base.specs.Taken.{Pieces, Takes}
use Rattle.pt_base.specs.Taken as one
use Rattle.sem_run.specs.run.Run.{Sink, to_out, to_log, Write}
use Rattle.pt_sinks.specs.declared.writing.Out.{Out}
use Rattle.pt_sinks.specs.declared.writing.Out.TheVariants as out
use Rattle.pt_sinks.specs.declared.writing.WriteErr.{WriteErr}
use Rattle.pt_sinks.specs.declared.writing.WriteErr.TheVariants as error

abbrev pub sink_of : Out → Sink
sink_of out.Out = to_out
sink_of out.Log = to_log

-- the texts that go to out, and those that go to the log
abbrev pub if_out : Sink → List ℕ → Pieces → Pieces
if_out to_out text texts = text ∷ texts
if_out to_log text texts = texts

abbrev pub if_log : Sink → List ℕ → Pieces → Pieces
if_log to_out text texts = texts
if_log to_log text texts = text ∷ texts

abbrev pub outs : List Write → Pieces
outs [] = []
outs (w ∷ ws) = if_out w.sink w.text (outs ws)

abbrev pub logs : List Write → Pieces
logs [] = []
logs (w ∷ ws) = if_log w.sink w.text (logs ws)

abbrev pub first : List Write → List Write
first [] = []
first (w ∷ ws) = w ∷ []

-- why no more was taken than what comes before these writes: the first of them goes to the stream whose write failed
abbrev pub StoppedBy : WriteErr → (rest : List Write) → Type 0
StoppedBy (error.Failed which) [] = ⊥
StoppedBy (error.Failed which) (w ∷ ws) = w.sink ≡ sink_of which
StoppedBy error.Memory rest = Unit {0}

-- each sink as it was and as it is
module _ (out_old out_new log_old log_new : Pieces → Pieces → Type 0) where
  -- the writes were taken whole
  pub record Took (ws : List Write) : Type 0 where
    pub out : Takes out_old out_new (outs ws)
    pub log : Takes log_old log_new (logs ws)

  -- a front of the writes was taken, and of the one behind it perhaps a part; where a write failed, that is the one
  pub record TookFront (why : WriteErr) (ws : List Write) : Type 0 where
    pub done : List Write
    pub rest : List Write
    pub is_front : ws ≡ done ++ rest
    pub stopped : StoppedBy why rest
    pub out : (g h : Pieces) → out_old g h → one.TookFront (out_new g) (h ++ outs done) (outs (first rest))
    pub log : (g h : Pieces) → log_old g h → one.TookFront (log_new g) (h ++ logs done) (logs (first rest))
