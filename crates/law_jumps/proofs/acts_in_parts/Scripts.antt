-- The acts of a script begin in the closed parts of control's nest.
use Rattle.std.proofs.Common.{◌≡◌, ℕ, Option, Some, None, sym, ap, ◌∙◌, subst}
use Rattle.pt_tree.specs.Syntax.{Stms}
use Rattle.pt_scopes.specs.Mentions.{places_script}
use Rattle.pt_scopes.specs.Refusals.{fault_of}
use Rattle.pt_instr.specs.Effects.{Kinds}
use Rattle.pt_ranges.specs.declared.lines.ActMark.{ActMark}
use Rattle.pt_code.specs.View.{Ins}
use Rattle.sem_control.specs.control.Frames.{Control}
use Rattle.sem_control.specs.control.Control.{nest_at}
use Rattle.sem_control.specs.control.Jump.{shape, Shape, starts_of, on_line}
use Rattle.sem_control.specs.control.Nests.{Code_says}
use Rattle.sem_code.specs.slots.Slots.{State, on, thrown_to, reraises, off}
use Rattle.sem_code.specs.slots.CodeObject.{CodeObject}
use Rattle.sem_code.specs.comp_expr.Law.{slots_in}
use Rattle.sem_fits.specs.fits.Block as F
use Rattle.sem_fits.specs.fits.Places.{Gets}
use Rattle.sem_fits.specs.fits.Fits.{Fits}
use Rattle.sem_run.specs.run.Machine.{BlockId}
use Rattle.sem_run.specs.run.Source.{Source}
use Rattle.law_code_runs.specs.code_run.CodeMachine.{Place, CodeSource, place_of}
use Rattle.law_code_runs.specs.code_run.Parts.{LiesIn}
use Rattle.law_code_runs.specs.code_follows.Laws.{HasItsFreeNames, IsOfScript}
use Rattle.law_parts.specs.part_slots.Text.{Code_grammatical, Code_else_apart}
use Rattle.law_typed_pieces.proofs.script_tables.Starting.{script_starts_have_statements}
use Rattle.law_jumps.specs.start_nests.Laws.{own_block, own_ending, HasOwnParts}
use Rattle.law_jumps.proofs.start_nests.Scripts.{script_starts_in_parts}
use Rattle.law_parts.specs.act_parts.Laws.{placed_in}
use Rattle.law_jumps.proofs.script_act_parts.Scripts.{script_acts_lie}
use Rattle.law_jumps.proofs.filled_nests.Reached.{reached_hold_ends}
use Rattle.law_jumps.specs.reached_acts.Laws.{ActBegins, AtAct, KeepsToParts}
use Rattle.law_jumps.proofs.reached_acts.Marks.{act_at, acts_are_said}
use Rattle.law_jumps.proofs.reached_acts.Sound.{acts_are_at_kinds}
use Rattle.law_jumps.specs.acts_in_parts.Laws.{JumpsBySlots, ActsInParts, ScriptActsAreInParts}
use Rattle.law_jumps.proofs.acts_in_parts.Blocks.{runs, begins}
use Rattle.law_jumps.proofs.acts_in_parts.Nests.{in_parts}

same_some : {A : Type 0} {x y : A} (o : Option A) → o ≡ Some x → o ≡ Some y → x ≡ y
same_some o e f = let s : Some _ ≡ Some _ = sym e ∙ f in cc

module _ {V : Type 0} (null : V) (ss : Stms) (source : Source V) (code : CodeSource V) (b : BlockId)
    (no_fault : fault_of (places_script ss) ≡ None) (free_names : HasItsFreeNames ss)
    (of : IsOfScript null ss source code b) (parts : HasOwnParts null ss source code b of)
    (grammatical : Code_grammatical of.block.code) (apart : Code_else_apart of.block.code)
    (jumps : JumpsBySlots code b (own_block null ss source code b of))
    (fits : Fits (own_block null ss source code b of)) where
  abbrev own : F.Block
  own = own_block null ss source code b of

  abbrev object : CodeObject V
  object = code.object b

  abbrev At : (c : Control V) (t : State V) (p : Place V) → Type 0
  At c t p = AtAct source code b c t p

  -- the number of the act that begins at a place is told by its mark
  one_number : (n pc : ℕ) (i : Ins) (k : ActMark) → object.at pc ≡ Some i → i.mark ≡ Some k
      → ActBegins object n pc → n ≡ k.act.0
  one_number n pc i k e f a =
      let ins : a.ins ≡ i = same_some _ a.there e in
      let mark : a.mark ≡ k = same_some _ (sym (ap (λ (j : Ins). j.mark) ins) ∙ a.marked) f in
      a.number ∙ ap (λ (m : ActMark). m.act.0) mark

  lies : (c : Control V) (t : State V) (p : Place V) (ks : Kinds) → At c t p
      → Gets own own.size p.pc ks
      → LiesIn own parts.parts.part p.pc (placed_in (shape (nest_at c)))
  lies c t p ks a gets =
      let begun = (act_at source code b c t p a).2 in
      let Says : Shape → ℕ → Type 0 =
      λ s n. n ≡ begun.mark.act.0 → LiesIn own parts.parts.part p.pc (placed_in s) in
      let says = script_acts_lie null ss source code b no_fault free_names of parts grammatical
      p.pc begun.ins begun.mark ks begun.there begun.marked gets in
      let here = subst (Code_says Says) (sym of.same_code) says in
      let said = acts_are_said Says source code b here c t p a in
      said.said (one_number said.act p.pc begun.ins begun.mark begun.there begun.marked said.begins)

  keeps : KeepsToParts source code b own parts.parts.part (own_ending null ss source code b of)
  keeps =
      let has = of.has_object in
      record {
        runs = runs null ss source code b no_fault free_names of fits;
        fits = fits;
        begins = begins null ss source code b no_fault free_names of;
        by_slots = jumps;
        starts = script_starts_in_parts null ss source code b no_fault free_names of parts
            grammatical apart;
        no_others = λ line pc e s.
            script_starts_have_statements ss of.number of.block has.layout object line pc has.is_block
            has.is_layout (ap (λ c. on_line line (starts_of c)) (sym of.same_code) ∙ e) s;
        acts = λ c t p ks a gets. (placed_in (shape (nest_at c)), lies c t p ks a gets);
      }

  slots_there : (t : State V) (p : Place V) → place_of t ≡ Some p → slots_in t ≡ p.slots
  slots_there (on pc ss) p e = let s : Some _ ≡ Some p = e in cc
  slots_there (thrown_to pc v ss) p e = let s : Some _ ≡ Some p = e in cc
  slots_there (reraises v rows ss) p e = absurd (let s : None ≡ Some p = e in cc)
  slots_there (off v) p e = absurd (let s : None ≡ Some p = e in cc)

  act_in_parts : ActsInParts source code b own parts.parts.part
      (own_ending null ss source code b of)
  act_in_parts c t p reached alike acts placed =
      let a : At c t p =
      record { reached = reached; alike = alike; acts = acts; placed = placed } in
      let ending = own_ending null ss source code b of in
      let there = acts_are_at_kinds source code b own parts.parts.part ending keeps c t p a in
      let ends = reached_hold_ends null ss source code b no_fault free_names of grammatical c t
      reached alike in
      in_parts source code b own parts.parts.part ending (nest_at c) (slots_in t) p ends
      (slots_there t p placed)
      (lies c t p there.kinds a there.gets)

pub script_acts_are_in_parts : {V : Type 0} → ScriptActsAreInParts V
script_acts_are_in_parts null ss source code b no_fault names of parts gram apart jumps fits c t p =
    act_in_parts null ss source code b no_fault names of parts gram apart jumps fits c t p
