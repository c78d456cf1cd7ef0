use Rattle.std.proofs.Common.{◌≡◌, ◌∙◌, ℕ, ap, arith}
use Rattle.sem_run.specs.run.Tools.{Location, Tool, callback, has_event, is_off, tool_at, wants}
use Rattle.pt_heap.specs.declared.value.Value.{Value}
use Rattle.pt_monitor.specs.Answers.{Tools}
use Rattle.pt_monitor.specs.Events.{bit_of}
use Rattle.pt_monitor.specs.Kept.{block, locations}
use Rattle.pt_monitor.proofs.Told.{none_beyond, none_without, none_off, due_there}
use Rattle.pt_monitor.proofs.tools.Tools.due.Goals as goal

pub returns-then-at-count : goal.returns-then-at-count
returns-then-at-count c =
    let u : Tools = record { tools = c.self.inside.tools; off = locations c.self.inside.off.keys } in
    let l : Location = record { tool = c.args.tool; bit = bit_of c.args.event; block = block c.args.block.0; act = c.args.act.0 } in
    none_beyond u l (omega arith) ∙ ap (λ (s : Tools). wants s l) c.self.view_is

pub returns-then-not-has_event : goal.returns-then-not-has_event
returns-then-not-has_event c =
    let u : Tools = record { tools = c.self.inside.tools; off = locations c.self.inside.off.keys } in
    let l : Location = record { tool = c.args.tool; bit = bit_of c.args.event; block = block c.args.block.0; act = c.args.act.0 } in
    let asked : c.tool_at-asked.result.now ≡ tool_at c.args.tool u = c.tool_at-asked.ensures ∙ ap (λ (n : ℕ). tool_at n u) c.from-at.ensures in
    let has : c.has_event.result ≡ has_event (tool_at c.args.tool u) l = c.has_event.ensures c.args.tool c.args.act.0 ∙ ap (λ (r : Tool Value). has_event r l) asked in
    none_without u l c.has_event.result has c.if-not-has_event.true ∙ ap (λ (s : Tools). wants s l) c.self.view_is

pub returns-then-is_off_at : goal.returns-then-is_off_at
returns-then-is_off_at c =
    let u : Tools = record { tools = c.self.inside.tools; off = locations c.self.inside.off.keys } in
    let l : Location = record { tool = c.args.tool; bit = bit_of c.args.event; block = block c.args.block.0; act = c.args.act.0 } in
    let off : c.is_off_at.result ≡ is_off l u.off = c.is_off_at.ensures ∙ ap (λ (p : Location). is_off p u.off) c.place_of-place.ensures in
    none_off u l c.is_off_at.result off c.if-is_off_at.true ∙ ap (λ (s : Tools). wants s l) c.self.view_is

pub returns : goal.returns
returns c =
    let u : Tools = record { tools = c.self.inside.tools; off = locations c.self.inside.off.keys } in
    let l : Location = record { tool = c.args.tool; bit = bit_of c.args.event; block = block c.args.block.0; act = c.args.act.0 } in
    let asked : c.tool_at-asked.result.now ≡ tool_at c.args.tool u = c.tool_at-asked.ensures ∙ ap (λ (n : ℕ). tool_at n u) c.from-at.ensures in
    let has : c.has_event.result ≡ has_event (tool_at c.args.tool u) l = c.has_event.ensures c.args.tool c.args.act.0 ∙ ap (λ (r : Tool Value). has_event r l) asked in
    let off : c.is_off_at.result ≡ is_off l u.off = c.is_off_at.ensures ∙ ap (λ (p : Location). is_off p u.off) c.place_of-place.ensures in
    c.callback.ensures ∙ ap (λ (r : Tool Value). callback r.callbacks (bit_of c.args.event)) asked
    ∙ due_there u l c.has_event.result c.is_off_at.result has c.if-not-has_event.false off c.if-is_off_at.false ∙ ap (λ (s : Tools). wants s l) c.self.view_is
