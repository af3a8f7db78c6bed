-- `making::reversed_setup` meets its contract: it hands on the verdict that it has found. Assumes nothing.
use mathlib.Core.Path.{◌≡◌}
use Rattle.making.specs.Making.{reversed_answer}
use Rattle.making.proofs.Numbered.{reversed-said}
use Rattle.making.proofs.reversed_setup.Goals as goal

pub returns : goal.returns
returns c =
    let a = c.args in
    let s = a.string.now in
    let exact : c.reversed_tested.result ≡ reversed_answer a.plan a.maker a.s a.source_arg s a.target_arg = rw c.sound-kept.ensures at c.reversed_tested.ensures in
    record {
      value = exact;
      numbered = reversed-said a.plan a.maker a.s a.source_arg s a.target_arg c.reversed_tested.result exact;
    }
