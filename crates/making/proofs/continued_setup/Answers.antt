-- `making::continued_setup` meets its contract: it hands on the verdict that it has found. Assumes nothing.
use mathlib.Core.Path.{◌≡◌}
use Rattle.making.specs.Making.{continued_answer}
use Rattle.making.proofs.Numbered.{continued-said}
use Rattle.making.proofs.continued_setup.Goals as goal

pub returns : goal.returns
returns c =
    let a = c.args in
    let s = a.string.now in
    let exact : c.continued_tested.result ≡ continued_answer a.plan a.maker a.s a.source_arg s a.target_arg = rw c.sound-kept.ensures at c.continued_tested.ensures in
    record {
      value = exact;
      numbered = continued-said a.plan a.maker a.s a.source_arg s a.target_arg c.continued_tested.result exact;
    }
