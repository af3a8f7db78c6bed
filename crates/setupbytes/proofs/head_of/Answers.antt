-- `setupbytes::head_of` meets its contract. Assumes nothing.
use Rattle.std.proofs.Common.{◌∙◌}
use Rattle.planbytes.specs.Numbers.{high}
use Rattle.planbytes.specs.Format.{field}
use Rattle.planbytes.proofs.Numbers.{be-four}
use Rattle.setupbytes.specs.Codec.{head_of}
use Rattle.setupbytes.proofs.head_of.Goals as goal

pub returns : goal.returns
unfolding head_of field high
returns c = rw (c.to_be_bytes.ensures ∙ be-four c.args.source, c.to_be_bytes-2.ensures ∙ be-four c.args.target, c.to_be_bytes-3.ensures ∙ be-four c.args.outer)
