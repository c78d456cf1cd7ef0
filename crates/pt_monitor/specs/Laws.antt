-- What follows for tools.
use Rattle.std.specs.Prelude.{◌≡◌, false, None}
use Rattle.sem_run.specs.run.Tools as run
use Rattle.sem_run.specs.run.Tools.{Tools, ToolCall, Location, tool_call, wants, switch_off, without, same_location, is_off}
use Rattle.pt_monitor.specs.Alike.{ToolsAlike}
use Rattle.pt_monitor.specs.Kept.{is_wanted}

module _ {V : Type 0} where
  -- who can't tell tools apart can't tell what a call answers, nor whose callback is due, nor what comes of either
  pub record AnswerAlike (a b : Tools V) : Type 0 where
    pub answers : (c : ToolCall V) → (tool_call c a).0 ≡ (tool_call c b).0
    pub calls : (c : ToolCall V) → ToolsAlike (tool_call c a).1 (tool_call c b).1
    pub due : (l : Location) → wants a l ≡ wants b l
    pub switched_off : (l : Location) → ToolsAlike (switch_off l a) (switch_off l b)
    pub removed : (l : Location) → ToolsAlike (without l a) (without l b)

  -- DISABLE at one place: nobody is asked there, and at each other place whoever was asked before
  pub record SwitchesOff (l : Location) (ts : Tools V) : Type 0 where
    pub here : wants (switch_off l ts) l ≡ None
    pub elsewhere : (m : Location) → same_location m l ≡ false → wants (switch_off l ts) m ≡ wants ts m

  -- restart: no place is off any more, whoever switched it off
  abbrev pub RestartsAll : Tools V → Type 0
  RestartsAll ts = (l : Location) → is_off l (tool_call run.restart ts).1.off ≡ false

  -- at an event that a block's mask lacks nobody's callback is due
  abbrev pub IsToldByMask : Tools V → Location → Type 0
  IsToldByMask ts l = is_wanted l.block l.bit ts.tools ≡ false → wants ts l ≡ None
