-- What commands and events leave as it is, and what comes of them.
use Rattle.std.proofs.Common.{◌≡◌, ◌∙◌, ◌++◌, ◌&&◌, ◌||◌, Bool, true, false, not, cond, nat_lt, List, ℕ, [], Option, Some, None, is_some, refl, true≢false, sym, ap, append_assoc}
use Rattle.std.proofs.lemmas.List.{append-nil}
use Rattle.std.specs.Option.{option_map}
use Rattle.pt_bdb.specs.declared.event.Event.{Event}
use Rattle.pt_bdb.specs.declared.row.Hit.{Hit}
use Rattle.pt_bdb.specs.declared.stops.StopData.{StopData}
use Rattle.pt_bdb.specs.Breakpoints.{Table, with_rows}
use Rattle.pt_bdb.specs.Effective.{Judgment, hit_in, rows_behind}
use Rattle.pt_bdb.specs.Stops.{stops_at, until_data}
use Rattle.pt_heap.specs.declared.view.ViewFrame.{ViewFrame}
use Rattle.pt_commands.specs.declared.command.Command.{Command}
use Rattle.pt_commands.specs.declared.command.Command.TheVariants as command
use Rattle.pt_sessions.specs.declared.session.Outcome.TheVariants.{Answered, Goes, Asks}
use Rattle.pt_sessions.specs.OnBreakpoints.{table_behind}
use Rattle.pt_sessions.specs.Going.{data_behind, data_by}
use Rattle.pt_sessions.specs.Sessions.{Session, are_tried, behind_command, behind_event, command_text, event_text, hit_text, is_asked, is_line, outcome_of, session_stops, until_text}

-- what is asked of the run is not answered here, and changes nothing
pub asked_quiet : (s : Session) (f : ViewFrame) (e : Event) (c : Command) → is_asked c ≡ true → (command_text s f c ≡ []) × (behind_command f e c s ≡ s)
asked_quiet s f e (command.Jump line) h = (refl, refl)
asked_quiet s f e command.Up h = (refl, refl)
asked_quiet s f e command.Down h = (refl, refl)
asked_quiet s f e command.Where h = (refl, refl)
asked_quiet s f e command.Args h = (refl, refl)
asked_quiet s f e (command.Print expression) h = (refl, refl)
asked_quiet s f e command.Quit h = (refl, refl)
asked_quiet s f e (command.Break line t c) h = absurd (true≢false (sym h))
asked_quiet s f e command.List h = absurd (true≢false (sym h))
asked_quiet s f e (command.Clear n) h = absurd (true≢false (sym h))
asked_quiet s f e command.ClearAll h = absurd (true≢false (sym h))
asked_quiet s f e (command.Condition n c) h = absurd (true≢false (sym h))
asked_quiet s f e (command.Ignore n k) h = absurd (true≢false (sym h))
asked_quiet s f e (command.Enable n on) h = absurd (true≢false (sym h))
asked_quiet s f e command.Step h = absurd (true≢false (sym h))
asked_quiet s f e command.Next h = absurd (true≢false (sym h))
asked_quiet s f e command.Return h = absurd (true≢false (sym h))
asked_quiet s f e command.Continue h = absurd (true≢false (sym h))
asked_quiet s f e (command.Until line) h = absurd (true≢false (sym h))
asked_quiet s f e command.Repeat h = absurd (true≢false (sym h))
asked_quiet s f e command.Bad h = absurd (true≢false (sym h))

-- a command by which the run goes on isn't answered, and leaves the breakpoints
pub going_quiet : (s : Session) (f : ViewFrame) (c : Command) → is_some (data_by f c) ≡ true → (command_text s f c ≡ []) × (table_behind c s.breaks ≡ s.breaks)
going_quiet s f command.Step h = (refl, refl)
going_quiet s f command.Next h = (refl, refl)
going_quiet s f command.Return h = (refl, refl)
going_quiet s f command.Continue h = (refl, refl)
going_quiet s f (command.Until None) h = (refl, refl)
going_quiet s f (command.Until (Some line)) h = (by (nat_lt f.line.0 line.0) h, refl)
  where
    by : (b : Bool) → is_some (option_map (until_data f.frame) (cond b (Some line) None)) ≡ true → until_text (Some line) (cond b (Some line) None) ++ [] ≡ []
    by true h = refl
    by false h = absurd (true≢false (sym h))
going_quiet s f (command.Break line t c) h = absurd (true≢false (sym h))
going_quiet s f command.List h = absurd (true≢false (sym h))
going_quiet s f (command.Clear n) h = absurd (true≢false (sym h))
going_quiet s f command.ClearAll h = absurd (true≢false (sym h))
going_quiet s f (command.Condition n c) h = absurd (true≢false (sym h))
going_quiet s f (command.Ignore n k) h = absurd (true≢false (sym h))
going_quiet s f (command.Enable n on) h = absurd (true≢false (sym h))
going_quiet s f (command.Jump line) h = absurd (true≢false (sym h))
going_quiet s f command.Up h = absurd (true≢false (sym h))
going_quiet s f command.Down h = absurd (true≢false (sym h))
going_quiet s f command.Where h = absurd (true≢false (sym h))
going_quiet s f command.Args h = absurd (true≢false (sym h))
going_quiet s f (command.Print expression) h = absurd (true≢false (sym h))
going_quiet s f command.Quit h = absurd (true≢false (sym h))
going_quiet s f command.Repeat h = absurd (true≢false (sym h))
going_quiet s f command.Bad h = absurd (true≢false (sym h))

pub going_new : (s t : Session) (f : ViewFrame) (e : Event) (c : Command) (d : StopData) → s ≡ t → is_some (data_by f c) ≡ true → d ≡ data_behind e (data_by f c) s.stops
    → record s { stops = d } ≡ behind_command f e c t
going_new s t f e c d same h is =
    ap (λ (x : StopData). record s { stops = x }) is
    ∙ sym (ap (λ (b : Table). record s { breaks = b; stops = data_behind e (data_by f c) s.stops }) (going_quiet s f c h).1)
    ∙ ap (behind_command f e c) same

-- nothing is written
pub no_more : (out text : List ℕ) → text ≡ [] → out ≡ out ++ text
no_more out text h = sym (ap (λ (t : List ℕ). out ++ t) h ∙ append-nil out)

-- one text is written behind another
pub two_more : (out a b old new : List ℕ) → old ≡ out ++ a → new ≡ old ++ b → new ≡ out ++ (a ++ b)
two_more out a b old new first second = second ∙ ap (λ (t : List ℕ). t ++ b) first ∙ append_assoc out a b

module _ (f : ViewFrame) (c : Command) where
  pub outcome_asks : is_asked c ≡ true → Asks c ≡ outcome_of f c
  outcome_asks h = sym (ap (λ (b : Bool). cond b (Asks c) (cond (is_some (data_by f c)) Goes Answered)) h)

  unasked : is_asked c ≡ false → cond (is_some (data_by f c)) Goes Answered ≡ outcome_of f c
  unasked h = sym (ap (λ (b : Bool). cond b (Asks c) (cond (is_some (data_by f c)) Goes Answered)) h)

  pub outcome_goes : is_asked c ≡ false → is_some (data_by f c) ≡ true → Goes ≡ outcome_of f c
  outcome_goes h going = sym (ap (λ (b : Bool). cond b Goes Answered) going) ∙ unasked h

  pub outcome_answered : is_asked c ≡ false → is_some (data_by f c) ≡ false → Answered ≡ outcome_of f c
  outcome_answered h stays = sym (ap (λ (b : Bool). cond b Goes Answered) stays) ∙ unasked h

-- whether the breakpoints are tried
untried : (line stops : Bool) (o : Option Hit) → (line && not stops) ≡ false → stops ≡ (stops || is_some (cond (line && not stops) o None))
untried true true o h = refl
untried true false o h = absurd (true≢false h)
untried false true o h = refl
untried false false o h = refl

tried : (line stops : Bool) (o : Option Hit) → (line && not stops) ≡ true → is_some o ≡ (stops || is_some (cond (line && not stops) o None))
tried true true o h = absurd (true≢false (sym h))
tried true false o h = refl
tried false true o h = absurd (true≢false (sym h))
tried false false o h = absurd (true≢false (sym h))

module _ (judge : Judgment) (e : Event) (s : Session) where
  abbrev found : Option Hit
  found = hit_in judge e.line s.breaks.rows

  abbrev behind : Session
  behind = record s { breaks = with_rows (rows_behind judge e.line s.breaks.rows) s.breaks }

  pub untried_stops : are_tried e s ≡ false → stops_at s.stops e ≡ session_stops judge e s
  untried_stops h = untried (is_line e.kind) (stops_at s.stops e) found h

  pub untried_text : are_tried e s ≡ false → event_text judge e s ≡ []
  untried_text h = ap (λ (b : Bool). hit_text s.file e.line (cond b found None)) h

  pub untried_new : are_tried e s ≡ false → s ≡ behind_event judge e s
  untried_new h = sym (ap (λ (b : Bool). cond b behind s) h)

  pub tried_stops : are_tried e s ≡ true → is_some found ≡ session_stops judge e s
  tried_stops h = tried (is_line e.kind) (stops_at s.stops e) found h

  pub tried_text : are_tried e s ≡ true → hit_text s.file e.line found ≡ event_text judge e s
  tried_text h = sym (ap (λ (b : Bool). hit_text s.file e.line (cond b found None)) h)

  pub tried_new : are_tried e s ≡ true → behind ≡ behind_event judge e s
  tried_new h = sym (ap (λ (b : Bool). cond b behind s) h)

pub ruleset tried_at = (tried_stops, tried_text, tried_new)
