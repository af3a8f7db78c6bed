-- `embedded::all_digits` meets its contract. Assumes nothing.
use Rattle.std.proofs.Common.{rules, tests, ◌∙◌}
use Rattle.std.proofs.lemmas.Iterator.{YieldsList-from_slice}
use Rattle.std.proofs.lemmas.Iterator.Search.{all_from_yields_List}
use Rattle.typeset.proofs.Listed.{items-all}
use Rattle.embedded.specs.Embedded.{digit, all_digits}
use Rattle.embedded.proofs.all_digits.Goals as goal

pub returns : goal.returns
unfolding all_digits
returns c = all_from_yields_List digit _ _ _ c.all.ensures.ran (YieldsList-from_slice _ c.iter.ensures.rest) (λ x b q k. search (rules, tests)) ∙ items-all digit c.args.s.now 0
