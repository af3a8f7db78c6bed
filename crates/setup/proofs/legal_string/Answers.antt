-- `setup::legal_string` meets its contract. Assumes nothing.
use Rattle.std.proofs.Common.{rules, tests, sym, ◌∙◌}
use Rattle.std.proofs.lemmas.Iterator.{YieldsList-from_slice}
use Rattle.std.proofs.lemmas.Iterator.Search.{all_from_yields_List}
use Rattle.typeset.proofs.Bools.{yes_or_no}
use borrow.Author.Tests.{le-leb, lt-leb}
use Rattle.setup.specs.Dialling.{symbol, legal_string}
use Rattle.typeset.proofs.Listed.{items-all}
use Rattle.setup.proofs.legal_string.Goals as goal

pub returns-then-few : goal.returns-then-few
unfolding legal_string
returns-then-few c =
    rw (le-leb _ 32 c.if-few.true)
    (all_from_yields_List symbol _ _ _ c.all.ensures.ran (YieldsList-from_slice _ c.iter.ensures.rest) (λ x b q k. search (rules, tests)) ∙ items-all symbol c.args.s.now 0)

pub returns-else-few : goal.returns-else-few
unfolding legal_string
returns-else-few c = rw (lt-leb _ 32 c.if-few.false)
