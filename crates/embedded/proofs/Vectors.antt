-- P3 and P4, and more strings, computed from the definition. Assumes nothing.
use Rattle.std.specs.Prelude.{Some, None}
use mathlib.Core.Path.{◌≡◌, refl}
use mathlib.Core.List.{[], ◌∷◌, map}
use Rattle.typeset.specs.Sets.{every}
use Rattle.embedded.specs.Embedded.{digit, all_digits, number_from, coded, skipped, after_code, writes_address, embedded}

-- P3: "*21300" embeds 300
pub p3 : embedded (42 ∷ 50 ∷ 49 ∷ 51 ∷ 48 ∷ 48 ∷ []) ≡ Some 300
unfolding every digit all_digits number_from coded skipped after_code writes_address embedded
p3 = refl

-- P4: "000", "*2" and "300#" embed none
pub p4 : map embedded ((48 ∷ 48 ∷ 48 ∷ []) ∷ (42 ∷ 50 ∷ []) ∷ (51 ∷ 48 ∷ 48 ∷ 35 ∷ []) ∷ []) ≡ None ∷ None ∷ None ∷ []
unfolding every digit all_digits number_from coded skipped after_code writes_address embedded
p4 = refl

-- "", "*21", "*21*22300" and ten digits embed none; "*2130" embeds 30, "0300" 300, "999999999" itself
pub more :
    map embedded ([] ∷ (42 ∷ 50 ∷ 49 ∷ []) ∷ (42 ∷ 50 ∷ 49 ∷ 42 ∷ 50 ∷ 50 ∷ 51 ∷ 48 ∷ 48 ∷ [])
    ∷ (48 ∷ 48 ∷ 48 ∷ 48 ∷ 48 ∷ 48 ∷ 48 ∷ 51 ∷ 48 ∷ 48 ∷ []) ∷ (42 ∷ 50 ∷ 49 ∷ 51 ∷ 48 ∷ []) ∷ (48 ∷ 51 ∷ 48 ∷ 48 ∷ [])
    ∷ (57 ∷ 57 ∷ 57 ∷ 57 ∷ 57 ∷ 57 ∷ 57 ∷ 57 ∷ 57 ∷ []) ∷ [])
    ≡ None ∷ None ∷ None ∷ None ∷ Some 30 ∷ Some 300 ∷ Some 999999999 ∷ []
unfolding every digit all_digits number_from coded skipped after_code writes_address embedded
more = refl
