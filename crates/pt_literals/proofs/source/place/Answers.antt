use Rattle.std.proofs.Common.{◌+◌, ◌++◌, ◌∷◌, [], ap, arith, length, refl}
use Rattle.std.proofs.lemmas.Iterator.{YieldsList-from_chars}
use Rattle.std.proofs.lemmas.Iterator.Consumers.{YieldsList-turn, YieldsList-end}
use Rattle.std.proofs.lemmas.List.{length_push}
use Rattle.std.proofs.lemmas.Str.{encodes-chars}
use Rattle.std.specs.Str.{chars}
use Rattle.pt_literals.specs.Source.{placed}
use Rattle.pt_literals.proofs.SourceLemmas.{next_char, placed_more, end_more, at_more, line_near, few_chars, all_placed, end_placed, length-placed}
use Rattle.pt_literals.proofs.source.place.Goals as goal

pub loop-c-init : goal.loop-c-init
loop-c-init c = record {
  spots = ap (λ x. x ++ placed 0 1 0 (chars c.args.text.now)) c.new-spots.ensures;
  end = λ whole. refl;
  at = let e = ap length (encodes-chars c.args.text.now c.utf8.text) in omega (arith, e);
  line = omega arith;
}

pub overflow_add-at : goal.overflow_add-at
overflow_add-at c =
    let t = YieldsList-turn (YieldsList-from_chars c.args.text.now c.utf8.text cc) c.loop-c.yielded _ c.loop-c.yielded_by _ _ c.in-Some.c c.in-Some.is c.next.ensures.steps in
    let e = next_char (chars c.args.text.now) (length c.loop-c.yielded) (length c.loop-c.yielded + 1) c.in-Some.c t refl in
    let h = at_more (chars c.args.text.now) (length c.loop-c.yielded) (length c.loop-c.yielded + 1) c.in-Some.c c.loop-c.at _ (length c.args.text.now) e refl c.loop-c.invariant.at in
    omega (arith, h, c.len_utf8.ensures.value)

pub loop-c-preserved : goal.loop-c-preserved
loop-c-preserved c =
    let t = YieldsList-turn (YieldsList-from_chars c.args.text.now c.utf8.text cc) c.loop-c.yielded _ c.loop-c.yielded_by _ _ c.in-Some.c c.in-Some.is c.next.ensures.steps in
    let e = next_char (chars c.args.text.now) (length c.loop-c.yielded) (length (c.loop-c.yielded ++ c.in-Some.c ∷ [])) c.in-Some.c t (length_push c.loop-c.yielded c.in-Some.c) in
    record {
      spots = placed_more (chars c.args.text.now) _ _ c.in-Some.c c.loop-c.at _ c.loop-c.line _ c.loop-c.before c.loop-c.spots _ _ e c.line_behind-line.ensures (ap (λ x. c.loop-c.at + x) c.len_utf8.ensures.value) c.in_ok-push.ensures.ok c.loop-c.invariant.spots;
      end = end_more (chars c.args.text.now) _ _ c.in-Some.c c.loop-c.at _ c.loop-c.line _ c.loop-c.before _ e c.line_behind-line.ensures (ap (λ x. c.loop-c.at + x) c.len_utf8.ensures.value) c.loop-c.invariant.end;
      at = at_more (chars c.args.text.now) _ _ c.in-Some.c c.loop-c.at _ (length c.args.text.now) e (ap (λ x. c.loop-c.at + x) c.len_utf8.ensures.value) c.loop-c.invariant.at;
      line = let h = line_near c.loop-c.line c.loop-c.before c.in-Some.c in omega (arith, h, c.line_behind-line.ensures, length_push c.loop-c.yielded c.in-Some.c);
    }

pub line_behind-line-requires : goal.line_behind-line-requires
line_behind-line-requires c =
    let t = YieldsList-turn (YieldsList-from_chars c.args.text.now c.utf8.text cc) c.loop-c.yielded _ c.loop-c.yielded_by _ _ c.in-Some.c c.in-Some.is c.next.ensures.steps in
    omega (arith, t.0, few_chars (chars c.args.text.now) c.args.text.now (encodes-chars c.args.text.now c.utf8.text))

pub line_behind-requires : goal.line_behind-requires
line_behind-requires c =
    let t = YieldsList-end (YieldsList-from_chars c.args.text.now c.utf8.text cc) c.loop-c.yielded _ c.loop-c.yielded_by _ _ c.in-None.is c.next.ensures.steps in
    omega (arith, t.1, few_chars (chars c.args.text.now) c.args.text.now (encodes-chars c.args.text.now c.utf8.text))

pub returns : goal.returns
returns c =
    let t = YieldsList-end (YieldsList-from_chars c.args.text.now c.utf8.text cc) c.loop-c.yielded _ c.loop-c.yielded_by _ _ c.in-None.is c.next.ensures.steps in
    let all = all_placed (chars c.args.text.now) _ c.loop-c.at c.loop-c.line c.loop-c.before c.loop-c.spots _ t.1 c.loop-c.invariant.spots in
    let few = few_chars (chars c.args.text.now) c.args.text.now (encodes-chars c.args.text.now c.utf8.text) in (
      all_placed (chars c.args.text.now) _ c.loop-c.at c.loop-c.line c.loop-c.before c.loop-c.spots _ t.1 c.loop-c.invariant.spots,
      end_placed (chars c.args.text.now) _ c.loop-c.at c.loop-c.line _ c.loop-c.before c.args.is_whole _ t.1 c.line_behind.ensures (c.loop-c.invariant.end c.args.is_whole),
      omega (arith, few, ap length all, length-placed 0 1 0 (chars c.args.text.now)),
    )
