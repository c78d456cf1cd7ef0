use Rattle.std.proofs.Common.{◌≡◌, ℕ, Bool, true, false, List, Some, sym, ◌∙◌, ap, subst, length, arith}
use Rattle.pt_base.specs.declared.operators.BinOp.TheVariants.{Pow}
use Rattle.pt_wide.specs.declared.expression.WideBinOp.TheVariants.{Plain}
use Rattle.pt_readers.specs.Reading.{next_of, behind, Carries}
use Rattle.pt_readers.proofs.Readers.{left, carries_all}
use Rattle.pt_readers.proofs.Exits.{shift_on, some_more}
use Rattle.pt_grammar.specs.declared.sign.Sign.TheVariants.{Operator}
use Rattle.pt_grammar.specs.Lexemes.{Lexeme, sign_at}
use Rattle.pt_grammar.specs.Nodes.{Gathered, allows_double_star}
use Rattle.pt_grammar.specs.Parts.{some_parameters}
use Rattle.pt_grammar.specs.ReadViews.{gathered_read}
use Rattle.pt_grammar.specs.ParameterSteps.{NameNext, next_parameters}
use Rattle.pt_grammar.proofs.Ranks.{signed_next}
use Rattle.pt_grammar.proofs.ParameterLists.{Doubled, double_bad, double_over, double_shifts, double_held, doubled_bad, doubled_shifts}
use Rattle.pt_expr.proofs.reader.Reader.double_star.Goals as goal

-- behind `**`
in_double : (b : Bool) (d : ℕ) (g : Gathered) {ts mid : List Lexeme} → sign_at (next_of ts) ≡ Some (Operator (Plain Pow)) → allows_double_star g.stage ≡ true → mid ≡ behind ts
    → Carries (next_parameters b d g) ts (left (some_parameters b d) (Doubled b g)) mid
in_double b d g h q k = let n = signed_next _ h in shift_on carries_all (double_shifts b d g n.0 q) n.1 k

pub returns-then-not-takes_more : goal.returns-then-not-takes_more
returns-then-not-takes_more c =
    let n = signed_next _ c.requires.double_star in
    let e : c.takes_more.result ≡ false = grind arith in record {
      value = λ b d h. double_bad b d (gathered_read c.args.parameters) n.0 _ n.1 (sym c.takes_more.ensures ∙ e) h.fits;
      held = tt;
      shorter = tt;
    }

pub returns-then-count-ge-MAX_ITEMS : goal.returns-then-count-ge-MAX_ITEMS
returns-then-count-ge-MAX_ITEMS c =
    let n = signed_next _ c.requires.double_star in
    let e : c.takes_more.result ≡ true = grind arith in
    let q = sym c.takes_more.ensures ∙ e in record {
      value = λ b d h. double_over b d (gathered_read c.args.parameters) n.0 _ n.1 q h (omega (arith, c.count.ensures, c.if-count-ge-MAX_ITEMS.true));
      held = tt;
      shorter = tt;
    }

pub returns-in_default : goal.returns-in_default
returns-in_default c =
    let e : c.takes_more.result ≡ true = grind arith in
    let q = sym c.takes_more.ensures ∙ e in record {
      value = λ b d h. (in_double b d (gathered_read c.args.parameters) c.requires.double_star q c.skip.ensures.value).refused false _
          (doubled_bad b d (gathered_read c.args.parameters) _ (subst (λ o. NameNext (next_of c.skip.new.self) o) c.in_default.is c.in_ok-parameter.ensures) q (omega (arith, c.count.ensures, c.if-count-ge-MAX_ITEMS.false)) h);
      held = tt;
      shorter = tt;
    }

pub returns : goal.returns
returns c =
    let n = signed_next _ c.requires.double_star in
    let e : c.takes_more.result ≡ true = grind arith in
    let q = sym c.takes_more.ensures ∙ e in record {
      value = λ b d h. rw c.with_double_star.ensures (shift_on (in_double b d (gathered_read c.args.parameters) c.requires.double_star q c.skip.ensures.value) (doubled_shifts b d (gathered_read c.args.parameters) c.in-Some.parameter.line.0 c.in-Some.parameter.name) (subst (λ o. NameNext (next_of c.skip.new.self) o) c.in-Some.is c.in_ok-parameter.ensures) c.skip-2.ensures.value);
      held = λ d h. rw c.with_double_star.ensures (double_held d (gathered_read c.args.parameters) c.in-Some.parameter q (omega (arith, c.count.ensures, c.if-count-ge-MAX_ITEMS.false)) h);
      shorter = omega (arith, ap length c.skip.ensures.value, some_more _ n.1, c.skip-2.ensures.shorter);
    }
