-- What a bare run writes first the run in which nobody is asked writes first: each stride is steps of that.
use Rattle.std.proofs.Common.{◌≡◌, ℕ, List, [], ◌∷◌, ◌++◌, true, false, None, refl, sym, ap, ◌∙◌, subst, append_assoc, append-nil}
use Rattle.sem_run.specs.run.Machine.{BlockId, Machine}
use Rattle.sem_run.specs.run.Host.{Host}
use Rattle.sem_run.specs.run.State as run
use Rattle.sem_run.specs.run.State.{turning}
use Rattle.sem_run.specs.run.Outcome.{Output}
use Rattle.sem_run.specs.run.Run.{Write, writes, nobody, move}
use Rattle.sem_run.specs.run.Laws.{Begins, so_far}
use Rattle.sem_run.specs.run.Shown as shown
use Rattle.sem_run.proofs.run.Showing.{writes_append, begins_behind}
use Rattle.pt_bare_runs.specs.Strides.{State, Stride, goes, stride}
use Rattle.pt_bare_runs.proofs.Steps.{Point, stand, solo, Leads, to_turn, to_ending, is_stuck, block_begins}
use Rattle.pt_bare_runs.proofs.BareRuns.{turn_leads}
use Rattle.pt_bare_writes.specs.Fronts.{written_by, WritesFirst, within, beyond, RunWritesItFirst}

module _ {S N V W : Type 0} (machine : Machine S V) (host : Host N V W) (n : ℕ) where
  abbrev Begun : run.State S N V W → List (Output V) → Type 0
  Begun s os = Begins machine host nobody n (move machine host nobody n (solo machine host n s)) os

  -- from a state of the run on, this is written first
  record Fronted (s : run.State S N V W) (ws : List Write) : Type 0 where
    outputs : List (Output V)
    begins : Begun s outputs
    rest : List Write
    front : writes true outputs ≡ ws ++ rest

  -- of a stride itself
  own : (m : Stride S N V W) (s : run.State S N V W) (ws rest : List Write) → Leads machine host n s m → written_by m ≡ ws ++ rest → Fronted s ws
  own _ s ws rest (to_turn vs b h) e = record {
    outputs = h.outputs ++ [];
    begins = begins_behind machine host nobody n (solo machine host n s) (solo machine host n (stand turning h.point)) h.outputs [] h.goes (so_far _);
    rest = rest;
    front = ap (writes true) (append-nil h.outputs) ∙ h.written ∙ e;
  }
  own _ s ws rest (to_ending vs u f h) e = record {
    outputs = h.outputs ++ [];
    begins = begins_behind machine host nobody n (solo machine host n s) (solo machine host n h.last) h.outputs [] h.goes (so_far _);
    rest = rest;
    front = ap (writes true) (append-nil h.outputs) ∙ h.written ∙ e;
  }
  own _ s ws rest is_stuck e = record { outputs = []; begins = so_far _; rest = rest; front = e }

  fronts : (m : Stride S N V W) (s : run.State S N V W) (ws : List Write) → Leads machine host n s m → WritesFirst machine host n m ws → Fronted s ws
  fronts m s ws h (within _ _ rest e) = own m s ws rest h e
  fronts _ s _ (to_turn _ _ a) (beyond ws b vs f) =
      let k = fronts (stride machine host n b) (stand turning a.point) vs
      (subst (λ z. Leads machine host n (stand turning a.point) (stride machine host n z)) a.is_bare (turn_leads machine host n _ a.point a.plain refl)) f in
      record {
        outputs = a.outputs ++ k.outputs;
        begins = begins_behind machine host nobody n (solo machine host n s) (solo machine host n (stand turning a.point)) a.outputs k.outputs a.goes k.begins;
        rest = k.rest;
        front = writes_append a.outputs k.outputs ∙ ap (λ xs. xs ++ writes true k.outputs) a.written ∙ ap (λ xs. ws ++ xs) k.front ∙ sym (append_assoc ws vs k.rest);
      }

  pub runs_write_it_first : (b : BlockId) (names : N) (world : W) → RunWritesItFirst machine host n b names world
  runs_write_it_first b names world ws f =
      let k = fronts _ _ ws (block_begins machine host n first (refl, tt)) f in
      record { outputs = k.outputs; begins = k.begins; rest = k.rest; front = k.front }
    where
      first : Point S N V W
      first = record { here = run.activation_of machine b None names 0 false; waiters = []; world = world; units = 0; frames = 1; past = [] }
