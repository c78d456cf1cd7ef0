-- Where an expression runs other code as it is written: the line of the first call, lambda, comprehension, generator expression or yield
-- that stands in it, if there is one.
use Rattle.std.specs.Prelude.{ℕ, Bool, not, Option, Some, None, is_some}
use Rattle.std.specs.Option.{option_or}
use Rattle.pt_tree.specs.Syntax as S
use Rattle.pt_tree.specs.Syntax.{Exp, Exps, Opt, Pieces, Entries, Links}

abbrev mutual
  pub run_in : Exp → Option ℕ
  run_in (S.constant l k) = None
  run_in (S.name l x) = None
  run_in (S.joined l ps) = run_in_pieces ps
  run_in (S.tuple l es) = run_in_all es
  run_in (S.list l es) = run_in_all es
  run_in (S.set l es) = run_in_all es
  run_in (S.dict l es) = run_in_entries es
  run_in (S.attribute l a x) = run_in a
  run_in (S.item l a i) = option_or (run_in a) (run_in i)
  run_in (S.slice l a b c) = option_or (run_in_part a) (option_or (run_in_part b) (run_in_part c))
  run_in (S.unary l o a) = run_in a
  run_in (S.not_of l a) = run_in a
  run_in (S.binary l o a b) = option_or (run_in a) (run_in b)
  run_in (S.compare l a o b r) = option_or (run_in a) (option_or (run_in b) (run_in_links r))
  run_in (S.and l a es) = option_or (run_in a) (run_in_all es)
  run_in (S.or l a es) = option_or (run_in a) (run_in_all es)
  run_in (S.conditional l c a b) = option_or (run_in a) (option_or (run_in c) (run_in b))
  run_in (S.call l f args) = Some l
  run_in (S.lambda l b ps e) = Some l
  run_in (S.comprehension l m k t it cs) = Some l
  run_in (S.generator l b e k t it cs) = Some l
  run_in (S.yield l v) = Some l
  run_in (S.yield_from l e) = Some l

  pub run_in_all : Exps → Option ℕ
  run_in_all S.no_exps = None
  run_in_all (S.more_exps e es) = option_or (run_in e) (run_in_all es)

  pub run_in_part : Opt → Option ℕ
  run_in_part S.absent = None
  run_in_part (S.given e) = run_in e

  -- of an f-string, the specs of its fields among them
  pub run_in_pieces : Pieces → Option ℕ
  run_in_pieces S.no_pieces = None
  run_in_pieces (S.literal l t r) = run_in_pieces r
  run_in_pieces (S.field l e c ps r) = option_or (run_in e) (option_or (run_in_pieces ps) (run_in_pieces r))

  pub run_in_entries : Entries → Option ℕ
  run_in_entries S.no_entries = None
  run_in_entries (S.entry k v r) = option_or (run_in k) (option_or (run_in v) (run_in_entries r))

  pub run_in_links : Links → Option ℕ
  run_in_links S.no_links = None
  run_in_links (S.link o b r) = option_or (run_in b) (run_in_links r)

abbrev pub is_pure : Exp → Bool
is_pure e = not (is_some (run_in e))
