use Rattle.std.proofs.Common.{◌∙◌, map, string_bytes, sym}
use Rattle.std.proofs.lemmas.Bool.{true≢false}
use Rattle.clap.specs.Simple.{app_of}
use Rattle.pt_words.proofs.ReaderLemmas.{all_regular, has_uses, have_no_uses}
use Rattle.pt_words.proofs.reader.uses.Goals as goal

pub returns-in-Ok-try_get_matches_from : goal.returns-in-Ok-try_get_matches_from
returns-in-Ok-try_get_matches_from c =
    has_uses (map string_bytes c.args.words.now) (all_regular c.args.words.now c.requires) (app_of c.in-Ok.form) c.in-Ok.ensures
    c.in-Ok-try_get_matches_from.matches c.in-Ok-try_get_matches_from.ensures.kinds c.in-Ok-try_get_matches_from.ensures.matches

pub returns : goal.returns
returns c u =
    have_no_uses (map string_bytes c.args.words.now) (all_regular c.args.words.now c.requires) (app_of c.in-Ok.form) c.in-Ok.ensures
    c.in-Err.error c.in-Err.ensures.kinds (λ e. let same = rw (c.kind.ensures, e) at c.eq.ensures in true≢false (sym same ∙ c.if-eq.false))
