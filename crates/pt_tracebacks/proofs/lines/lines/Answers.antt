use Rattle.std.proofs.Common.{◌∙◌, [], map, sym, ap, append-nil}
use Rattle.std.proofs.lemmas.List.{map_push}
use Rattle.pt_tracebacks.specs.Lines.{lines}
use Rattle.pt_tracebacks.proofs.LineLemmas.{one_line}
use Rattle.pt_tracebacks.proofs.lines.lines.Goals as goal

pub loop-lines-preserved : goal.loop-lines-preserved
loop-lines-preserved c =
    one_line (map (λ l. l.now) c.loop-lines.lines.items) (lines c.args.text.now) c.loop-lines.rest.now c.first_len-len.result c.first_len-len.ensures.len
    c.loop-lines.invariant _ _
    (ap (map (λ l. l.now)) c.in_ok-push.ensures.items ∙ map_push (λ l. l.now) c.loop-lines.lines.items _) c.in-Some.ensures.0

pub returns-in-None : goal.returns-in-None
returns-in-None c =
    sym (append-nil (map (λ l. l.now) c.push.new.self.items))
    ∙ one_line (map (λ l. l.now) c.loop-lines.lines.items) (lines c.args.text.now) c.loop-lines.rest.now c.first_len-len.result c.first_len-len.ensures.len
    c.loop-lines.invariant _ []
    (ap (map (λ l. l.now)) c.in_ok-push.ensures.items ∙ map_push (λ l. l.now) c.loop-lines.lines.items _) c.in-None.ensures
