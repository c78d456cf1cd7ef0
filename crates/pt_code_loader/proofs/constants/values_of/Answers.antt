use Rattle.std.proofs.Common.{◌≡◌, ◌+◌, ◌++◌, [], ◌∷◌, take, get_or, sym, ap, ◌∙◌, subst}
use Rattle.std.proofs.lemmas.List.{take_more}
use Rattle.std.specs.List.{flat_map}
use Rattle.pt_code.specs.declared.Const.TheVariants as const
use Rattle.pt_code_loader.specs.Texts.{kept_texts, text_of}
use Rattle.pt_code_loader.proofs.TextLemmas.{ValuesSoFar, one_more_text, one_more_value, all_values}
use Rattle.pt_code_loader.proofs.constants.values_of.Goals as goal

pub loop-constant-preserved : goal.loop-constant-preserved
loop-constant-preserved c =
    let i = c.loop-constant.constant-index in
    let ks = c.args.constants.now in
    let ts = c.args.texts.now in
    let first = c.args.known.now.texts in
    let k = get_or ks i const.None in
    let more : take (i + 1) ks ≡ take i ks ++ k ∷ [] = take_more ks i const.None c.loop-constant-test.true in
    let known = c.value_of.new.known.texts in
    record {
      texts = one_more_text first ts (take i ks) k c.loop-constant.known.texts known c.loop-constant.invariant.texts c.in_ok-value.ensures.texts
          ∙ ap (λ l. kept_texts first (flat_map (text_of ts) l)) (sym more);
      places = c.in_ok-value.ensures.places;
      values = subst (λ l. ValuesSoFar ts l known c.push.new.self) (sym more)
          (subst (ValuesSoFar ts (take i ks ++ k ∷ []) known) (sym c.in_ok-push.ensures.ok)
          (one_more_value ts (take i ks) k c.loop-constant.known.texts known c.loop-constant.values c.in_ok-value.value c.in_ok-value.ensures.texts
          c.loop-constant.invariant.values c.in_ok-value.ensures.value));
    }

pub returns-clause-values : goal.returns-clause-values
returns-clause-values c =
    all_values c.args.texts.now c.args.constants.now c.loop-constant.constant-index c.loop-constant.known.texts c.loop-constant.values
    c.loop-constant-test.false c.loop-constant.invariant.values
