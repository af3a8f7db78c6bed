-- `planback::held` meets its contract. Assumes nothing.
use Rattle.std.proofs.Common.{rules}
use Rattle.planbytes.specs.Numbers.{Below}
use Rattle.planback.proofs.held.Goals as goal

pub returns : goal.returns
unfolding Below
returns c =
    record {
      sets_fit = (c.wide.ensures, (c.wide-2.ensures, (c.wide-3.ensures, (c.wide-4.ensures, (c.wide-5.ensures, tt)))));
      source_fits = c.rows.ensures;
      source_rows = search rules;
      target_fits = c.rows-2.ensures;
      target_rows = search rules;
      each_fits = c.subscribers.ensures;
      places = search rules;
    }
