-- The lines that a run of a script begins have names of its blocks.
use Rattle.std.proofs.Common.{◌≡◌, ◌∙◌, ℕ, zero, suc, Bool, true, false, List, [], ◌∷◌, ◌++◌, map, Option, Some, None, refl, sym, ap, subst}
use Rattle.std.specs.Prelude.{◌||◌, codes, slice_get, if◌then◌else◌}
use Rattle.std.specs.List.{list_any, AllByRecursion}
use Rattle.std.specs.Str.{bytes_eq}
use Rattle.std.proofs.lemmas.Slice.Eq.{bytes_eq-Decides}
use Rattle.pt_base.specs.Taken.{Pieces}
use Rattle.pt_tree.specs.Syntax.{Stms}
use Rattle.pt_tree.specs.Blocks.{Block, blocks_script, blocks_stms}
use Rattle.pt_heap.specs.declared.value.Value.TheVariants as value
use Rattle.sem_run.specs.run.Machine.{BlockId}
use Rattle.sem_run.specs.run.Run.{Write, Sink, to_out, to_log}
use Rattle.pt_sinks.specs.Writing.{logs, if_log}
use Rattle.pt_host.specs.HeapHost.{heap_host}
use Rattle.pt_host.specs.Calls.{module_names, module_world}
use Rattle.pt_prog.specs.pt_run_script.law_compile.script_runs.Blocks.{the_module}
use Rattle.pt_prog.specs.pt_run_script.law_compile.script_runs.ProgramBlocks.{program_machine, text_of}
use Rattle.pt_prog.specs.pt_run_script.pt_run_code.law_loading.script_program.ScriptProgram.{program_of, facts_at, block_or_module}
use Rattle.pt_prog.specs.Answer.{last_writes, script_read}
use Rattle.pt_cover.specs.Pieces.{Text, events_in, is_totals}
use Rattle.pt_reported.specs.Reported.{block_name, lines_of, names_of}
use Rattle.law_block_names.specs.Names.{HasNoLineEnd}
use Rattle.law_block_names.proofs.Names.{blocks_have_such_names}
use Rattle.law_logs.specs.LogLines.{IsLogLine, AreLoggedSo}
use Rattle.law_logs.proofs.Strides.{outcomes_log_their_events}
use Rattle.law_reports.specs.Named.{AreNamed, IsOneLine, AreOneLine}
use Rattle.law_reports.proofs.ProfileLemmas as profile
use Rattle.law_program.specs.reports.Laws.{OwnLinesAddUp}
use Rattle.law_program.proofs.reports.LogTexts.{text_named}

either-true : (b : Bool) → (b || true) ≡ true
either-true true = refl
either-true false = refl

abbrev IsNameIn : List Text → Text → Type 0
IsNameIn names name = (list_any (bytes_eq name) names ≡ true) × IsOneLine name

here : (name : Text) (names : List Text) → list_any (bytes_eq name) (name ∷ names) ≡ true
here name names = ap (λ t. t || list_any (bytes_eq name) names) ((bytes_eq-Decides name name).1 refl)

found : (bs : List Block) (k : ℕ) (b : Block) → slice_get bs k ≡ Some b → AreOneLine (map block_name bs) → IsNameIn (map block_name bs) b.name
found [] k b e one = absurd (let no : None ≡ Some b = e in cc)
found (c ∷ cs) zero b e one =
    let same : c ≡ b = (let is : Some c ≡ Some b = e in cc) in
    subst (λ x. IsNameIn (map block_name (c ∷ cs)) x.name) same (here c.name (map block_name cs), one.0)
found (c ∷ cs) (suc k) b e one =
    let more : IsNameIn (map block_name cs) b.name = found cs k b e one.1 in
    (ap (λ t. bytes_eq b.name c.name || t) more.0 ∙ either-true (bytes_eq b.name c.name), more.1)

module _ (ss : Stms) (one : AreOneLine (names_of ss)) where
  by_number : (n : ℕ) (o : Option Block) → slice_get (blocks_script ss) n ≡ o → IsNameIn (names_of ss) (block_or_module ss o).name
  by_number n (Some k) e = found (blocks_script ss) n k e one
  by_number n None e = (here (codes "<module>") (map block_name (blocks_stms ss)), one.0)

  block_named : (b : BlockId) → IsNameIn (names_of ss) (facts_at ss b).name
  block_named b = by_number b.number (slice_get (blocks_script ss) b.number) refl

  module _ (prelude : Stms) where
    visible_named : (b : BlockId) → b.hidden ≡ false → IsNameIn (names_of ss) (facts_at (text_of prelude ss b.hidden) b).name
    visible_named b v = subst (λ h. IsNameIn (names_of ss) (facts_at (text_of prelude ss h) b).name) (sym v) (block_named b)

    line_named : (text : Text) (ts : Pieces) → IsLogLine (heap_host (program_of prelude ss)) text → AreNamed (names_of ss) ts → AreNamed (names_of ss) (text ∷ ts)
    line_named text ts it more =
        let name = (facts_at (text_of prelude ss it.event.block.hidden) it.event.block).name in
        let named = visible_named it.event.block it.visible in
        subst (λ x. AreNamed (names_of ss) (x ∷ ts)) (sym it.is_text) (text_named name it.event it.world (names_of ss) named.1 named.0, more)

    all_named : (ws : List Write) → AreLoggedSo (heap_host (program_of prelude ss)) ws → AreNamed (names_of ss) (logs ws)
    all_named [] a = tt
    all_named (w ∷ ws) a = by_sink w.sink a.0 (all_named ws a.1)
      where
        by_sink : (s : Sink) → (s ≡ to_log → IsLogLine (heap_host (program_of prelude ss)) w.text) → AreNamed (names_of ss) (logs ws)
            → AreNamed (names_of ss) (if_log s w.text (logs ws))
        by_sink to_out l more = more
        by_sink to_log l more = line_named w.text (logs ws) (l refl) more

-- the events before the totals are among what a run writes to the log before them
before_totals : (names : List Text) (ps : Pieces) (t : Text) (qs : Pieces) → is_totals t ≡ true → AreNamed names ps → AreNamed names (events_in (ps ++ (t ∷ qs)))
before_totals names [] t qs is named = subst (λ b. AreNamed names (if b then [] else t ∷ events_in qs)) (sym is) tt
before_totals names (p ∷ ps) t qs is named = by (is_totals p) (before_totals names ps t qs is named.1)
  where
    by : (b : Bool) → AreNamed names (events_in (ps ++ (t ∷ qs))) → AreNamed names (if b then [] else p ∷ events_in (ps ++ (t ∷ qs)))
    by true more = tt
    by false more = (named.0, more)

logs_both : (ws vs : List Write) → logs (ws ++ vs) ≡ logs ws ++ logs vs
logs_both [] vs = refl
logs_both (w ∷ ws) vs = by w.sink (logs_both ws vs)
  where
    by : (s : Sink) → logs (ws ++ vs) ≡ logs ws ++ logs vs → if_log s w.text (logs (ws ++ vs)) ≡ if_log s w.text (logs ws) ++ logs vs
    by to_out more = more
    by to_log more = ap (λ ts. w.text ∷ ts) more

each_one_line : (bs : List Block) → AllByRecursion (λ (b : Block). HasNoLineEnd b.name) bs → AreOneLine (map block_name bs)
each_one_line [] h = tt
each_one_line (b ∷ bs) h = (h.0, each_one_line bs h.1)

pub own_lines_add_up : OwnLinesAddUp
own_lines_add_up a text prelude script o w t built runs is =
    let one = each_one_line (blocks_script script) (blocks_have_such_names text script built.is_script) in
    let p = program_of prelude script in
    let logged = outcomes_log_their_events (program_machine value.None prelude script) (heap_host p) a.steps the_module (module_names p) (module_world p) o runs in
    let q = script_read a text prelude script in
    let named = all_named script one prelude o.written logged in
    let before = before_totals (names_of script) (logs o.written) _ (logs (last_writes q a.steps o.ending)) refl named in
    profile.profiles_add_up (lines_of script) (names_of script) _ t
    (subst (λ ps. AreNamed (names_of script) (events_in ps)) (sym (logs_both o.written _)) before) is
