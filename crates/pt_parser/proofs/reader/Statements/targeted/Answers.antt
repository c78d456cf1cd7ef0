use Rattle.std.proofs.Common.{◌≡◌, refl, sym, subst, map, [], ◌∷◌, ◌++◌}
use Rattle.std.proofs.lemmas.List.{map-append}
use Rattle.pt_wide.specs.Fold.{exp_of}
use Rattle.pt_wide.specs.Syntax.{given}
use Rattle.pt_readers.proofs.Readers.{carries_all}
use Rattle.pt_readers.proofs.Exits.{fails_at, goes_on}
use Rattle.pt_parser.specs.Parts.{Each}
use Rattle.pt_parser.specs.With.{item_of, FitsItem}
use Rattle.pt_parser.specs.WithLeft.{targeted, plain_items, what_is_held}
use Rattle.pt_parser.specs.Views.{item_in}
use Rattle.pt_parser.proofs.Chains.{is_found}
use Rattle.pt_parser.proofs.UpTo.{each_snoc}
use Rattle.pt_parser.proofs.HeldLemmas.{fits_plain}
use Rattle.pt_parser.proofs.HeldReaders.{place_binds, upto_binds}
use Rattle.pt_parser.proofs.reader.Statements.targeted.Goals as goal

pub returns-in_err-target : goal.returns-in_err-target
returns-in_err-target c = λ l. fails_at _ _ _ _ _ _ c.from_residual.ensures.1 carries_all (place_binds l 0 (map exp_of c.args.before.items) (exp_of c.args.last.tree) c.requires.before c.requires.last) c.in_err-target.ensures

pub enclosed_items-requires : goal.enclosed_items-requires
enclosed_items-requires c = let h : map item_in c.push.new.self ≡ (plain_items (map exp_of c.args.before.items) ++ (item_of (exp_of c.args.last.tree) (given (exp_of c.in_ok-target.target)) ∷ [])) = (rw (c.in_ok-push.ensures.ok, map-append, c.in_ok-items.ensures, c.item.ensures) refl) in
    subst (Each FitsItem) (sym h) (each_snoc FitsItem (plain_items (map exp_of c.args.before.items)) (item_of (exp_of c.args.last.tree) (given (exp_of c.in_ok-target.target))) (fits_plain (map exp_of c.args.before.items) c.requires.before)
    (c.requires.last, c.in_ok-target.ensures.fits))

pub returns-in_err-all : goal.returns-in_err-all
returns-in_err-all c = let h : map item_in c.push.new.self ≡ (plain_items (map exp_of c.args.before.items) ++ (item_of (exp_of c.args.last.tree) (given (exp_of c.in_ok-target.target)) ∷ [])) = (rw (c.in_ok-push.ensures.ok, map-append, c.in_ok-items.ensures, c.item.ensures) refl) in
    λ l. fails_at _ _ _ _ _ _ c.from_residual-in_err-all.ensures.1 (goes_on carries_all (place_binds l 0 (map exp_of c.args.before.items) (exp_of c.args.last.tree) c.requires.before c.requires.last) c.in_ok-target.ensures) (upto_binds l 0 (plain_items (map exp_of c.args.before.items) ++ (item_of (exp_of c.args.last.tree) (given (exp_of c.in_ok-target.target)) ∷ []))) (rw h at c.in_err-all.ensures)

pub returns : goal.returns
returns c = let h : map item_in c.push.new.self ≡ (plain_items (map exp_of c.args.before.items) ++ (item_of (exp_of c.args.last.tree) (given (exp_of c.in_ok-target.target)) ∷ [])) = (rw (c.in_ok-push.ensures.ok, map-append, c.in_ok-items.ensures, c.item.ensures) refl) in
    λ l. (goes_on (goes_on carries_all (place_binds l 0 (map exp_of c.args.before.items) (exp_of c.args.last.tree) c.requires.before c.requires.last) c.in_ok-target.ensures) (upto_binds l 0 (plain_items (map exp_of c.args.before.items) ++ (item_of (exp_of c.args.last.tree) (given (exp_of c.in_ok-target.target)) ∷ []))) (rw h at c.in_ok-all.ensures)).found _ _ (is_found (what_is_held l) (targeted (map item_in c.in_ok-all.all)) _ tt c.in_ok-all.ensures.fits)
