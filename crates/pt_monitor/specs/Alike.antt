-- Tools that can't be told apart: they differ at most in the order in which sets, callbacks and places came, and in what was replaced.
use Rattle.std.specs.Prelude.{◌≡◌, ℕ, List, length}
use Rattle.sem_run.specs.run.Machine.{BlockId}
use Rattle.sem_run.specs.run.Rows.{row_at}
use Rattle.sem_run.specs.run.Tools.{Tool, Tools, Location, or_unused, local_set, callback, is_off}

-- the same places are off
abbrev pub AreOffAlike : (ls ms : List Location) → Type 0
AreOffAlike ls ms = (l : Location) → is_off l ls ≡ is_off l ms

module _ {V : Type 0} where
  pub record IsAlike (t u : Tool V) : Type 0 where
    pub name : t.name ≡ u.name
    pub set : t.set ≡ u.set
    pub local : (b : BlockId) → local_set t.local b ≡ local_set u.local b
    pub callbacks : (b : ℕ) → callback t.callbacks b ≡ callback u.callbacks b

  -- as many tools, and those of the same id alike
  pub record AreAlike (ts us : List (Tool V)) : Type 0 where
    pub count : length ts ≡ length us
    pub tools : (n : ℕ) → IsAlike (or_unused (row_at n ts)) (or_unused (row_at n us))

  pub record ToolsAlike (a b : Tools V) : Type 0 where
    pub tools : AreAlike a.tools b.tools
    pub off : AreOffAlike a.off b.off
