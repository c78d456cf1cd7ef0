use Rattle.std.proofs.Common.{[], ◌++◌, map, length, arith, ap, false}
use Rattle.std.proofs.lemmas.List.{map-append}
use Rattle.pt_wide.specs.StatementFold.{stm_of}
use Rattle.pt_readers.proofs.Readers.{narrow_carries}
use Rattle.pt_readers.proofs.Exits.{fails_at, goes_on, found_shorter, some_more}
use Rattle.pt_grammar.specs.declared.sign.Sign.TheVariants.{Mark as mark, Layout as layout}
use Rattle.pt_grammar.specs.declared.sign.Mark.TheVariants.{Semicolon}
use Rattle.pt_grammar.specs.declared.sign.Layout.TheVariants.{Newline}
use Rattle.pt_parser.specs.Limits.{FitsStm}
use Rattle.pt_parser.specs.Parts.{a_simple}
use Rattle.pt_parser.proofs.UpTo.{each_snoc, item_binds, upto_bad, closed_found, sign_carries, behind_found, item_carries}
use Rattle.pt_parser.proofs.BlockLemmas.{block_each, simples_closable, simples_narrow}
use Rattle.pt_parser.proofs.reader.Statements.simples.Goals as goal

pub returns-in_err-first : goal.returns-in_err-first
returns-in_err-first c = fails_at _ _ _ _ _ _ c.from_residual.ensures.1 (narrow_carries (simples_narrow (map stm_of c.args.all.now) _)) (item_binds (mark Semicolon) (layout Newline) a_simple simples_closable (map stm_of c.args.all.now) (block_each (map stm_of c.args.all.now) c.requires)) c.in_err-first.ensures

pub more-init : goal.more-init
more-init c = rw (c.in_ok-push.ensures.ok, map-append) record {
  fits = each_snoc FitsStm (map stm_of c.args.all.now) _ (block_each (map stm_of c.args.all.now) c.requires) c.in_ok-first.ensures.fits;
  carries = goes_on (narrow_carries (simples_narrow (map stm_of c.args.all.now) _)) (item_binds (mark Semicolon) (layout Newline) a_simple simples_closable (map stm_of c.args.all.now) (block_each (map stm_of c.args.all.now) c.requires)) c.in_ok-first.ensures;
}

pub returns-then-take : goal.returns-then-take
returns-then-take c = closed_found (mark Semicolon) (layout Newline) a_simple simples_closable _ c.more.invariant.carries c.more.invariant.fits (c.take.ensures.found c.if-take.true)

-- behind a semicolon
pub returns-then-not-take : goal.returns-then-not-take
returns-then-not-take c = let m = c.take.ensures.none c.if-take.false in let n = c.take-in-more.ensures.none c.if-not-take.true in
    rw (n.1, m.1) (c.more.invariant.carries.refused false _ (upto_bad (mark Semicolon) (layout Newline) a_simple simples_closable _ _ c.more.invariant.fits m.0 (rw m.1 at n.0)))

pub returns-then-take-2 : goal.returns-then-take-2
returns-then-take-2 c = let m = c.take.ensures.none c.if-take.false in
    behind_found (mark Semicolon) (layout Newline) a_simple simples_closable _ (sign_carries (mark Semicolon) (layout Newline) a_simple simples_closable _ c.more.invariant.carries (rw m.1 at (c.take-in-more.ensures.found c.if-not-take.false))) c.more.invariant.fits
    (c.take-in-more-2.ensures.found c.if-take-2.true)

pub returns-in_err-next : goal.returns-in_err-next
returns-in_err-next c = let m = c.take.ensures.none c.if-take.false in
    fails_at _ _ _ _ _ _ c.from_residual-in_err-next.ensures.1
    (item_carries (mark Semicolon) (layout Newline) a_simple simples_closable _ (sign_carries (mark Semicolon) (layout Newline) a_simple simples_closable _ c.more.invariant.carries (rw m.1 at (c.take-in-more.ensures.found c.if-not-take.false))) (c.take-in-more-2.ensures.none c.if-take-2.false))
    (item_binds (mark Semicolon) (layout Newline) a_simple simples_closable _ c.more.invariant.fits) c.in_err-next.ensures

pub more-preserved : goal.more-preserved
more-preserved c = let m = c.take.ensures.none c.if-take.false in rw (c.in_ok-push-2.ensures.ok, map-append) record {
  fits = each_snoc FitsStm _ _ c.more.invariant.fits c.in_ok-next.ensures.fits;
  carries = goes_on
      (item_carries (mark Semicolon) (layout Newline) a_simple simples_closable _ (sign_carries (mark Semicolon) (layout Newline) a_simple simples_closable _ c.more.invariant.carries (rw m.1 at (c.take-in-more.ensures.found c.if-not-take.false))) (c.take-in-more-2.ensures.none c.if-take-2.false))
      (item_binds (mark Semicolon) (layout Newline) a_simple simples_closable _ c.more.invariant.fits) c.in_ok-next.ensures;
}
