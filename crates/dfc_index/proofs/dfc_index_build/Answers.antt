-- `dfc_index::dfc_index_build` meets its contract. Assumes nothing.
use Rattle.std.proofs.Common.{◌≡◌, refl, sym, ap, ◌∙◌, rules}
use Rattle.dfc_index.specs.Files.{file_built, index_built, indexed_said}
use Rattle.dfc_index.proofs.dfc_index_build.Goals as goal

pub returns-in-Err : goal.returns-in-Err
unfolding file_built index_built
returns-in-Err c = rw (sym c.read.ensures.0 ∙ c.in-Err.is) (c.refused.ensures, refl)

pub returns-in-Ok : goal.returns-in-Ok
unfolding file_built index_built
returns-in-Ok c =
    let out : c.answered.result ≡ indexed_said c.build_tested.result 0 = search rules in
    rw (sym c.read.ensures.0 ∙ c.in-Ok.is) (out ∙ ap (λ s. indexed_said s 0) c.build_tested.ensures.0, c.build_tested.ensures.1)
