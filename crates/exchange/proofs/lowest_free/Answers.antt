-- `exchange::lowest_free` meets its contract. Assumes nothing.
use Rattle.std.proofs.Common.{ap, ◌∙◌, rules, length}
use borrow.Author.Tests.{tests}
use Rattle.std.specs.Option.{unwrap_or}
use Rattle.std.proofs.lemmas.Iterator.{YieldsList-from_slice}
use Rattle.std.proofs.lemmas.Iterator.Search.{position_from_yields_List}
use Rattle.call.specs.Protocol.{is_free}
use Rattle.exchange.proofs.Lowest.{found_or_end}
use Rattle.exchange.proofs.lowest_free.Goals as goal

pub returns : goal.returns
returns c =
    let row = c.args.row.now in
    c.unwrap_or.ensures
    ∙ ap (λ o. unwrap_or o (length row)) (position_from_yields_List is_free _ _ c.position.result c.position.ensures.ran (YieldsList-from_slice row cc) (λ x b q k. search (rules, tests)))
    ∙ found_or_end row
