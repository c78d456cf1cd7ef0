-- States to which control of a block and its code both come: from the beginning, by replies and by jumps.
use Rattle.std.specs.Prelude.{◌≡◌, ℕ, true, Option, Some}
use Rattle.sem_control.specs.control.Turn as T
use Rattle.sem_control.specs.control.Turn.{Mark, Ask, Answer, Reply, Note}
use Rattle.sem_control.specs.control.Frames.{by, raise, Way, Control}
use Rattle.sem_control.specs.control.Bases.{way_base}
use Rattle.sem_control.specs.control.Completions.{complete}
use Rattle.sem_control.specs.control.Control as control
use Rattle.sem_control.specs.control.Reached.{start_code}
use Rattle.sem_control.specs.control.Jump.{jump, lands}
use Rattle.sem_code.specs.slots.Slots.{State}
use Rattle.sem_code.specs.slots.Machine as slots
use Rattle.sem_code.specs.comp.Law.{Match}
use Rattle.sem_run.specs.run.Machine.{BlockId, is_act}
use Rattle.sem_run.specs.run.Source.{Source, or_null}
use Rattle.law_code_runs.specs.code_run.CodeMachine.{Place, goes_to, CodeSource, state_at, place_of, raised_at, start_of}

module _ {V : Type 0} (source : Source V) (code : CodeSource V) (b : BlockId) where
  mutual
    pub data Reached : Control V → State V → Type 0 where
      begins : (i : Option V) → Reached (start_code (source.around b) (source.code b) (or_null (source.around b).null i)) (start_of code b i)
      moves : (c : Control V) (t u : State V) → Reached c t → slots.turn (code.object b) t ≡ T.move u → Reached c u
      by_reply : (c : Control V) (t : State V) (m : Option Mark) (a : Ask V) (k : Reply V (Answer V a) → Control V)
          (k' : Reply V (Answer V a) → State V) → Reached c t → control.turn (source.around b) c ≡ T.act m a k
          → slots.turn (code.object b) t ≡ T.act m a k' → (r : Reply V (Answer V a)) → Reached (k r) (k' r)
      by_note : (c : Control V) (t : State V) (a : Note V) (k : Reply V (Unit {0}) → Control V) (k' : Reply V (Unit {0}) → State V)
          → Reached c t → control.turn (source.around b) c ≡ T.note a k → slots.turn (code.object b) t ≡ T.note a k'
          → (r : Reply V (Unit {0})) → Reached (k r) (k' r)
      goes_on : (k : Way V) (p : Place V) → Landed k p → Reached (control.go (source.around b) k) (state_at p)
      raises : (k : Way V) (p : Place V) → Landed k p → (v : V)
          → Reached (complete (source.around b) (by (raise v)) (way_base k)) (raised_at (code.object b) p v)

    -- a jump has landed, from an act or from where another one has landed
    pub data Landed : Way V → Place V → Type 0 where
      from_act : (c : Control V) (t : State V) (p q : Place V) (k : Way V) (line : ℕ) → Reached c t
          → Match (source.around b) (code.object b) c t → is_act (control.turn (source.around b) c) ≡ true → is_act (slots.turn (code.object b) t) ≡ true → place_of t ≡ Some p
          → jump (source.code b) (control.nest_at c) line ≡ lands k → code.jump b p line ≡ goes_to q → Landed k q
      from_landing : (j k : Way V) (p q : Place V) (line : ℕ) → Landed j p → jump (source.code b) (way_base j) line ≡ lands k
          → code.jump b p line ≡ goes_to q → Landed k q
