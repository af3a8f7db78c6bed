-- `planback::subscriber` meets its contract. Assumes nothing.
use Rattle.std.proofs.Common.{rules}
use Rattle.planbytes.specs.Numbers.{Below}
use Rattle.planback.proofs.subscriber.Goals as goal

pub returns : goal.returns
unfolding Below
returns c =
    record {
      kind_fits = c.narrow.ensures;
      fixed_fit = (c.wide.ensures, (c.wide-2.ensures, (c.wide-3.ensures, tt)));
      boxes_fit = c.boxes.ensures;
      four_boxes = search rules;
    }
