use Rattle.std.proofs.Common.{rules, ◌≤◌, length, map, refl, string_bytes, sym, subst}
use Rattle.pt_base.specs.Told.{IsWhole}
use Rattle.pt_generated.specs.Script.{script_of}
use Rattle.pt_words.specs.Asked.{asked}
use Rattle.pt_words.proofs.CommandLemmas.{count_fits}
use Rattle.pt_sinks.specs.Writing.{Took}
use Rattle.pt_prog.specs.LogText.{final}
use Rattle.pt_prog.specs.Answer.{IsSource, IsTextOf, read_fault, too_long, usage}
use Rattle.pt_prog.specs.Limits.{limit_of}
use Rattle.pt_prog.specs.declared.end.End.TheVariants as end
use Rattle.pt_prog.specs.declared.end.File.TheVariants as file
use Rattle.pt_prog.proofs.AnswerLemmas.{complete, count_within, end_said, final_only, its_text, made_complete, makes_script, no_fault, no_text, reads_file}
use Rattle.pt_prog.proofs.program.top.Goals as goal

pub returns-in-Err-Usage-clause-only_usage : goal.returns-in-Err-Usage-clause-only_usage
returns-in-Err-Usage-clause-only_usage g c none =
    rw c.ended.ensures (final_only c.write_final.result end.Usage
    (λ e. Took (g.O.Sink.taken c.args.out.now) (g.O.Sink.taken c.write_final.new.out) (g.L.Sink.taken c.args.log.now) (g.L.Sink.taken c.write_final.new.log) (final end.Usage))
    c.write_final.ensures.ok c.write_final.ensures.log_only)

pub returns-in-Err-Usage-clause-writes : goal.returns-in-Err-Usage-clause-writes
returns-in-Err-Usage-clause-writes g c =
    rw c.ended.ensures (no_text _ c.args.words.now (g.F.Shelf.told c.args.shelf.now) _ _ _ _ c.write_final.result end.Usage (final end.Usage)
    (usage (c.in-Err-Usage.ensures c.in-Err-Usage.field-0-is) refl refl) c.write_final.ensures.ok c.write_final.ensures.err)

-- a script that the command makes
pub answer_made-requires-clause-makes : goal.answer_made-requires-clause-makes
answer_made-requires-clause-makes g c =
    makes_script c.in-Ok.line.command c.made_by-made.result c.made_by-made.ensures.made c.in-Some.count c.in-Some.is

pub answer_made-requires-clause-fits : goal.answer_made-requires-clause-fits
answer_made-requires-clause-fits g c =
    count_within c.made_by-made.result c.in-Some.count
    (c.made_by-made.ensures.fits (count_fits (map string_bytes c.args.words.now) (asked c.in-Ok.line) c.in-Ok.ensures)) c.in-Some.is

pub returns-in-Some-clause-writes : goal.returns-in-Some-clause-writes
returns-in-Some-clause-writes g c =
    let makes = makes_script c.in-Ok.line.command c.made_by-made.result c.made_by-made.ensures.made c.in-Some.count c.in-Some.is in
    let is : IsTextOf c.args.words.now (g.F.Shelf.told c.args.shelf.now) (asked c.in-Ok.line) (script_of c.in-Some.count) =
    record {
      asked = c.in-Ok.ensures;
      is_source = subst (λ m. IsSource m (g.F.Shelf.told c.args.shelf.now c.in-Ok.line.script.now) (limit_of c.in-Ok.line.command) (script_of c.in-Some.count))
          (sym makes) refl;
    } in
    rw c.ended-in-Some.ensures (its_text _ c.args.words.now (g.F.Shelf.told c.args.shelf.now) _ _ _ _ (asked c.in-Ok.line) (script_of c.in-Some.count) is
    c.answer_made.result c.answer_made.ensures.ok c.answer_made.ensures.err)

pub returns-in-Some-clause-complete : goal.returns-in-Some-clause-complete
returns-in-Some-clause-complete g c no_read no_out no_log a text is holds =
    let makes = makes_script c.in-Ok.line.command c.made_by-made.result c.made_by-made.ensures.made c.in-Some.count c.in-Some.is in
    let never = no_fault c.answer_made.result (λ f. no_out (c.answer_made.ensures.out_failed f).0) (λ f. no_log (c.answer_made.ensures.log_failed f).0) in
    rw c.ended-in-Some.ensures (made_complete c.args.words.now (g.F.Shelf.told c.args.shelf.now) (asked c.in-Ok.line) c.in-Ok.ensures
    (script_of c.in-Some.count) makes _
    (end_said (asked c.in-Ok.line) (script_of c.in-Some.count) _ _ _ _ c.answer_made.result c.answer_made.ensures.ok never) a text is holds)

-- the text of a file
pub returns-in-Ok-read-clause-writes : goal.returns-in-Ok-read-clause-writes
returns-in-Ok-read-clause-writes g c =
    let whole = subst (IsWhole (g.F.Shelf.told c.args.shelf.now c.in-Ok.line.script.now)) (sym c.as_slice.ensures.value) c.in-Ok-read.ensures.whole in
    let within : length c.as_slice.result.now ≤ limit_of c.in-Ok.line.command = search rules in
    let reads = reads_file c.in-Ok.line.command c.made_by-made.result c.made_by-made.ensures.made c.in_default.is in
    let is : IsTextOf c.args.words.now (g.F.Shelf.told c.args.shelf.now) (asked c.in-Ok.line) c.as_slice.result.now =
    record {
      asked = c.in-Ok.ensures;
      is_source = subst (λ m. IsSource m (g.F.Shelf.told c.args.shelf.now c.in-Ok.line.script.now) (limit_of c.in-Ok.line.command) c.as_slice.result.now)
          (sym reads) (whole, within);
    } in
    rw c.ended-in-Ok-read.ensures (its_text _ c.args.words.now (g.F.Shelf.told c.args.shelf.now) _ _ _ _ (asked c.in-Ok.line) c.as_slice.result.now is c.answer_file.result
    c.answer_file.ensures.ok c.answer_file.ensures.err)

pub returns-in-Ok-read-clause-complete : goal.returns-in-Ok-read-clause-complete
returns-in-Ok-read-clause-complete g c no_read no_out no_log a text is holds =
    let whole = subst (IsWhole (g.F.Shelf.told c.args.shelf.now c.in-Ok.line.script.now)) (sym c.as_slice.ensures.value) c.in-Ok-read.ensures.whole in
    let reads = reads_file c.in-Ok.line.command c.made_by-made.result c.made_by-made.ensures.made c.in_default.is in
    let never = no_fault c.answer_file.result (λ f. no_out (c.answer_file.ensures.out_failed f).0) (λ f. no_log (c.answer_file.ensures.log_failed f).0) in
    rw c.ended-in-Ok-read.ensures (complete c.args.words.now (g.F.Shelf.told c.args.shelf.now) (asked c.in-Ok.line) c.in-Ok.ensures c.as_slice.result.now reads whole _
    (end_said (asked c.in-Ok.line) c.as_slice.result.now _ _ _ _ c.answer_file.result c.answer_file.ensures.ok never) a text is holds)

pub returns-in-Err-Failed-clause-writes : goal.returns-in-Err-Failed-clause-writes
returns-in-Err-Failed-clause-writes g c =
    let reads = reads_file c.in-Ok.line.command c.made_by-made.result c.made_by-made.ensures.made c.in_default.is in
    rw c.ended-in-Err-Failed.ensures (no_text _ c.args.words.now (g.F.Shelf.told c.args.shelf.now) _ _ _ _ c.write_final-in-Err-Failed.result end.ReadFault (final end.ReadFault)
    (read_fault (asked c.in-Ok.line) c.in-Ok.ensures reads (search rules) refl refl) c.write_final-in-Err-Failed.ensures.ok c.write_final-in-Err-Failed.ensures.err)

pub returns-in-Err-TooLong-clause-writes : goal.returns-in-Err-TooLong-clause-writes
returns-in-Err-TooLong-clause-writes g c =
    let reads = reads_file c.in-Ok.line.command c.made_by-made.result c.made_by-made.ensures.made c.in_default.is in
    rw c.ended-in-Err-TooLong.ensures (no_text _ c.args.words.now (g.F.Shelf.told c.args.shelf.now) _ _ _ _ c.write_final-in-Err-TooLong.result (end.TooLong file.First)
    (final (end.TooLong file.First)) (too_long (asked c.in-Ok.line) c.in-Ok.ensures reads (search rules) refl refl) c.write_final-in-Err-TooLong.ensures.ok
    c.write_final-in-Err-TooLong.ensures.err)
