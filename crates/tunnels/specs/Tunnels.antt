-- What goes through one tunnel. Assumes nothing.
use Rattle.std.specs.Prelude.{ℕ, cond, List, [], ◌∷◌, eqb}
use Rattle.ends.specs.declared.Signal.{Signal}
use Rattle.ends.specs.declared.Signal.TheVariants.{Upack, Ordinary, Teardown, Downack}
use Rattle.ends.specs.Ends.{kind_of}

-- of a list of signals those in the tunnel t, as the kinds that a channel knows
abbrev pub under : ℕ → List Signal → List ℕ
under t [] = []
under t (Upack ∷ w) = under t w
under t (Ordinary u x ∷ w) = cond (eqb u t) (kind_of x ∷ under t w) (under t w)
under t (Teardown ∷ w) = under t w
under t (Downack ∷ w) = under t w
