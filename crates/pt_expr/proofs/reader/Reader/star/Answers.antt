use Rattle.std.proofs.Common.{◌≡◌, ℕ, Bool, true, false, List, Some, sym, ◌∙◌, ap, subst, length, arith}
use Rattle.pt_base.specs.declared.operators.BinOp.TheVariants.{Mul}
use Rattle.pt_wide.specs.declared.expression.WideBinOp.TheVariants.{Plain}
use Rattle.pt_readers.specs.Reading.{next_of, behind, Carries}
use Rattle.pt_readers.proofs.Readers.{left, carries_all, then_on}
use Rattle.pt_readers.proofs.Exits.{shift_on, some_more}
use Rattle.pt_grammar.specs.declared.sign.Sign.TheVariants.{Operator}
use Rattle.pt_grammar.specs.Lexemes.{Lexeme, sign_at}
use Rattle.pt_grammar.specs.Nodes.{Gathered, allows_star}
use Rattle.pt_grammar.specs.Parts.{some_parameters}
use Rattle.pt_grammar.specs.ReadViews.{gathered_read}
use Rattle.pt_grammar.specs.ParameterSteps.{NameNext, next_parameters}
use Rattle.pt_grammar.proofs.Ranks.{signed_next}
use Rattle.pt_grammar.proofs.ParameterLists.{Starred, star_bad, star_shifts, bare_star_held, star_held, alone_carries, name_shifts, star_over}
use Rattle.pt_expr.proofs.reader.Reader.star.Goals as goal

-- behind `*`
in_star : (b : Bool) (d : ℕ) (g : Gathered) {ts mid : List Lexeme} → sign_at (next_of ts) ≡ Some (Operator (Plain Mul)) → allows_star g.stage ≡ true → mid ≡ behind ts
    → Carries (next_parameters b d g) ts (left (some_parameters b d) (Starred b g)) mid
in_star b d g h q k = let n = signed_next _ h in shift_on carries_all (star_shifts b d g n.0 q) n.1 k

pub returns-then-not-takes_star : goal.returns-then-not-takes_star
returns-then-not-takes_star c =
    let n = signed_next _ c.requires.star in
    let e : c.takes_star.result ≡ false = grind arith in record {
      value = λ b d h. star_bad b d (gathered_read c.args.parameters) n.0 _ n.1 (sym c.takes_star.ensures ∙ e) h.fits;
      held = tt;
      shorter = tt;
    }

pub returns-in_default : goal.returns-in_default
returns-in_default c =
    let n = signed_next _ c.requires.star in
    let e : c.takes_star.result ≡ true = grind arith in
    let q = sym c.takes_star.ensures ∙ e in record {
      value = λ b d h. rw c.with_bare_star.ensures (then_on (in_star b d (gathered_read c.args.parameters) c.requires.star q c.skip.ensures.value) (alone_carries b d (gathered_read c.args.parameters) _ (subst (λ o. NameNext (next_of c.skip.new.self) o) c.in_default.is c.in_ok-parameter.ensures)));
      held = λ d h. rw c.with_bare_star.ensures (bare_star_held d (gathered_read c.args.parameters) q h);
      shorter = omega (arith, ap length c.skip.ensures.value, some_more _ n.1);
    }

pub returns-then-count-ge-MAX_ITEMS : goal.returns-then-count-ge-MAX_ITEMS
returns-then-count-ge-MAX_ITEMS c =
    let e : c.takes_star.result ≡ true = grind arith in
    let q = sym c.takes_star.ensures ∙ e in record {
      value = λ b d h. (in_star b d (gathered_read c.args.parameters) c.requires.star q c.skip.ensures.value).refused true _
          (star_over b d (gathered_read c.args.parameters) c.in-Some.parameter.line.0 c.in-Some.parameter.name _ (subst (λ o. NameNext (next_of c.skip.new.self) o) c.in-Some.is c.in_ok-parameter.ensures) h q (omega (arith, c.count.ensures, c.if-count-ge-MAX_ITEMS.true)));
      held = tt;
      shorter = tt;
    }

pub returns : goal.returns
returns c =
    let n = signed_next _ c.requires.star in
    let e : c.takes_star.result ≡ true = grind arith in
    let q = sym c.takes_star.ensures ∙ e in record {
      value = λ b d h. rw c.with_star.ensures (shift_on (in_star b d (gathered_read c.args.parameters) c.requires.star q c.skip.ensures.value) (name_shifts b d (gathered_read c.args.parameters) c.in-Some.parameter.line.0 c.in-Some.parameter.name) (subst (λ o. NameNext (next_of c.skip.new.self) o) c.in-Some.is c.in_ok-parameter.ensures) c.skip-2.ensures.value);
      held = λ d h. rw c.with_star.ensures (star_held d (gathered_read c.args.parameters) c.in-Some.parameter q (omega (arith, c.count.ensures, c.if-count-ge-MAX_ITEMS.false)) h);
      shorter = omega (arith, ap length c.skip.ensures.value, some_more _ n.1, c.skip-2.ensures.shorter);
    }
