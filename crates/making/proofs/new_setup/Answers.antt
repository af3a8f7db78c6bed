-- `making::new_setup` meets its contract: it hands on the verdict that it has found. Assumes nothing.
use mathlib.Core.Path.{◌≡◌}
use Rattle.making.specs.Making.{new_answer}
use Rattle.making.proofs.Numbered.{new-said}
use Rattle.making.proofs.new_setup.Goals as goal

pub returns : goal.returns
returns c =
    let a = c.args in
    let s = a.string.now in
    let exact : c.new_tested.result ≡ new_answer a.plan a.maker s a.target_arg = rw c.sound-kept.ensures at c.new_tested.ensures in
    record {
      value = exact;
      numbered = new-said a.plan a.maker s a.target_arg c.new_tested.result exact;
    }
