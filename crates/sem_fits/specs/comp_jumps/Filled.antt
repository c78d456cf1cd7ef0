-- Where the code of each statement of a block stands, and with which slots it goes on there
-- (Library Reference, "inspect": `f_lineno`).
use Rattle.std.specs.Prelude.{ℕ, List, [], ◌∷◌, Contains}
use Rattle.pt_tree.specs.Syntax.{Name, Exp, Tgt, Stms, Handlers}
use Rattle.pt_code.specs.declared.Start.{Start}
use Rattle.sem_control.specs.control.Turn.{Around}
use Rattle.sem_control.specs.control.Frames as F
use Rattle.sem_control.specs.control.Frames.{Completion, Nest}
use Rattle.sem_control.specs.control.Jump.{Shape, Target}
use Rattle.sem_code.specs.slots.Slots.{iterator, exception, pending, exit, Slots}
use Rattle.sem_code.specs.slots.CodeObject.{CodeObject}
use Rattle.sem_code.specs.comp.Surroundings.{Surroundings, held_as, May_hold}
use Rattle.sem_code.specs.comp.Law.{Way_on}

module _ {V : Type 0} (code : CodeObject V) where
  -- a nest of a shape with its slots, one for each closed part. What a `finally` part holds depends
  -- on the surroundings of that part: these, the innermost part's first
  pub data Filled : Shape → List Surroundings → Nest V → Slots V → Type 0 where
    of_none : Filled [] [] [] []
    of_rest : (n : ℕ) (ss : Stms) (sh : Shape) (xs : List Surroundings) (s : Nest V) (σ : Slots V)
        → Filled sh xs s σ → Filled (F.rest n ss ∷ sh) xs (F.rest n ss ∷ s) σ
    of_looping : (l n : ℕ) (c : Exp) (body els : Stms) (sh : Shape) (xs : List Surroundings)
        (s : Nest V) (σ : Slots V) → Filled sh xs s σ
        → Filled (F.looping l n c body els ∷ sh) xs (F.looping l n c body els ∷ s) σ
    of_iterating : (l n : ℕ) (i : V) (t : Tgt) (body els : Stms) (sh : Shape)
        (xs : List Surroundings) (s : Nest V) (σ : Slots V) → Filled sh xs s σ
        → Filled (F.iterating l n tt t body els ∷ sh) xs (F.iterating l n i t body els ∷ s)
        (iterator i ∷ σ)
    of_guarded : (n : ℕ) (hs : Handlers) (els : Stms) (sh : Shape) (xs : List Surroundings)
        (s : Nest V) (σ : Slots V) → Filled sh xs s σ
        → Filled (F.guarded n hs els ∷ sh) xs (F.guarded n hs els ∷ s) σ
    of_testing : (n : ℕ) (e : V) (sh : Shape) (xs : List Surroundings) (s : Nest V) (σ : Slots V)
        → Filled sh xs s σ → Filled (F.testing n tt ∷ sh) xs (F.testing n e ∷ s) (exception e ∷ σ)
    of_handling : (n : ℕ) (e : V) (sh : Shape) (xs : List Surroundings) (s : Nest V) (σ : Slots V)
        → Filled sh xs s σ → Filled (F.handling n tt ∷ sh) xs (F.handling n e ∷ s) (exception e ∷ σ)
    of_naming : (y : Name) (sh : Shape) (xs : List Surroundings) (s : Nest V) (σ : Slots V)
        → Filled sh xs s σ → Filled (F.naming y ∷ sh) xs (F.naming y ∷ s) σ
    of_ensuring : (tried n : ℕ) (fin : Stms) (sh : Shape) (xs : List Surroundings) (s : Nest V)
        (σ : Slots V) → Filled sh xs s σ
        → Filled (F.ensuring tried n fin ∷ sh) xs (F.ensuring tried n fin ∷ s) σ
    of_ending : (tried : ℕ) (held : Completion V) (x : Surroundings) (sh : Shape)
        (xs : List Surroundings) (s : Nest V) (σ : Slots V) → May_hold code held x
        → Filled sh xs s σ
        → Filled (F.ending tried F.normal ∷ sh) (x ∷ xs) (F.ending tried held ∷ s)
        (pending (held_as held x) ∷ σ)
    of_withing : (l n : ℕ) (w : V) (sh : Shape) (xs : List Surroundings) (s : Nest V) (σ : Slots V)
        → Filled sh xs s σ → Filled (F.withing l n tt ∷ sh) xs (F.withing l n w ∷ s) (exit w ∷ σ)

module _ {V : Type 0} (block : Around V) (code : CodeObject V) where
  -- the place where a statement starts, which the table of starts has with its line: there code
  -- goes on as control does in each nest of the statement's shape
  pub record Stands (starts : List Start) (t : Target) : Type 0 where
    pub place : ℕ
    pub surroundings : Surroundings
    pub endings : List Surroundings
    pub listed : Contains starts
        (record { pc = record { 0 = place }; line = record { 0 = t.line } })
    pub goes_on : (s : Nest V) (σ : Slots V) → Filled code t.within endings s σ
        → Way_on block code (F.stms t.n t.ss s) surroundings σ place
