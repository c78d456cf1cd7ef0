use Rattle.std.proofs.Common.{◌∙◌, ap, sym, subst, length}
use Rattle.std.specs.Prelude.{◌↔◌}
use Rattle.std.proofs.lemmas.Result.{IfOk-weaker}
use Rattle.sem_fits.specs.fits.Block.{block_of}
use Rattle.pt_joins.specs.Joins.{AreWithin, Joined}
use Rattle.pt_row_joins.specs.Rows.{Under}
use Rattle.pt_common_slots.specs.Common.{AreCommon}
use Rattle.pt_common_slots.proofs.Lists.{rows_laid}
use Rattle.pt_common_slots.proofs.Assembly.{all_within, are_common}
use Rattle.pt_common_slots.proofs.common.common_slots.Goals as goal

pub joins_of-requires : goal.joins_of-requires
joins_of-requires c = subst (λ xs. AreWithin (length c.args.sizes.now) xs) (sym c.in_ok-append.ensures.items)
    (all_within c.args.places.now c.args.sizes.now c.args.limit.0 c.in_ok-joins.joins.items c.in_ok-landings.landings.items c.in_ok-joins.ensures
    (subst (λ n. AreWithin n c.in_ok-landings.landings.items) (ap length c.deref.ensures.value ∙ c.in_ok-low.ensures.long) c.in_ok-landings.ensures.within))

pub returns-clause-exact : goal.returns-clause-exact
returns-clause-exact c =
    IfOk-weaker c.joins_of.result _ _ (λ told t code view v shown are lead. record {
      joins = c.append.new.self.items;
      count = length c.args.sizes.now;
      tells = t;
      common = subst (λ xs. AreCommon (block_of code c.args.block.now view) c.args.limit.0 xs) (sym c.in_ok-append.ensures.items)
          (are_common (block_of code c.args.block.now view) c.args.limit.0 lead
          (λ pc i e. rows_laid c.args.block.now 0 v.instrs pc i (sym (ap (λ f. f pc) v.view_is) ∙ e))
          c.args.sizes.now are c.in_ok-low.low.items c.in_ok-low.ensures c.args.places.now shown c.in_ok-joins.joins.items c.in_ok-landings.landings.items c.in_ok-joins.ensures
          (λ d q r. subst (λ low. Joined c.in_ok-landings.landings.items d q r ↔ Under low c.args.block.now.handlers d q r) c.deref.ensures.value
          (subst (λ hs. Joined c.in_ok-landings.landings.items d q r ↔ Under c.deref.result.now hs d q r) c.as_slice.ensures (c.in_ok-landings.ensures.exact d q r))));
    }) c.joins_of.ensures
