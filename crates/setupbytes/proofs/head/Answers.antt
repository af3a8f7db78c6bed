-- `setupbytes::head` meets its contract. Assumes nothing.
use Rattle.std.proofs.Common.{Option, Some, None, ◌≡◌, ℕ, refl, ◌∙◌}
use Rattle.std.specs.Option.{unwrap_or}
use Rattle.setupbytes.specs.Codec.{or_zero, head}
use Rattle.setupbytes.proofs.head.Goals as goal

as-zero : (o : Option ℕ) → unwrap_or o 0 ≡ or_zero o
as-zero None = refl
as-zero (Some n) = refl

pub returns : goal.returns
unfolding head
returns c =
    rw (← c.region_number.ensures, ← c.route_number.ensures, ← c.given.ensures, ← c.given-2.ensures, ← (c.unwrap_or.ensures ∙ as-zero c.args.s.placing), ← (c.unwrap_or-2.ensures ∙ as-zero c.args.s.outer))
    c.head_of.ensures
