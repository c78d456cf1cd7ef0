use Rattle.std.proofs.Common.{◌≡◌, true, false, sym, ◌∙◌, ap, length, arith}
use Rattle.pt_readers.proofs.Exits.{shift_carries, some_more}
use Rattle.pt_grammar.specs.Lexemes.{line_at}
use Rattle.pt_grammar.specs.ReadViews.{gathered_read}
use Rattle.pt_grammar.proofs.Ranks.{signed_next}
use Rattle.pt_grammar.proofs.ParameterLists.{slash_bad, slash_shifts, slash_held}
use Rattle.pt_expr.proofs.reader.Reader.slash.Goals as goal

pub returns-then-not-takes_slash : goal.returns-then-not-takes_slash
returns-then-not-takes_slash c =
    let n = signed_next _ c.requires.slash in
    let e : c.takes_slash.result ≡ false = grind arith in record {
      value = λ b d h. slash_bad b d (gathered_read c.args.parameters) n.0 _ n.1 (sym c.takes_slash.ensures ∙ e) h.fits;
      held = tt;
      shorter = tt;
    }

pub returns : goal.returns
returns c =
    let n = signed_next _ c.requires.slash in
    let e : c.takes_slash.result ≡ true = grind arith in
    let q = sym c.takes_slash.ensures ∙ e in record {
      value = λ b d h. rw (c.with_slash.ensures, c.line-line.ensures, ap line_at n.1, c.skip.ensures.value) (shift_carries (slash_shifts b d (gathered_read c.args.parameters) n.0 q) n.1);
      held = λ d h. rw c.with_slash.ensures (slash_held d (gathered_read c.args.parameters) c.line-line.result.0 q h);
      shorter = omega (arith, ap length c.skip.ensures.value, some_more _ n.1);
    }
