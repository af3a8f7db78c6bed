-- A link of a box (manual 11.2): a one-way connection from a source to a sink, two channel terminations. Each is a port and a channel, 16 bits each.
-- A link is one number, from high to low: sink port, sink channel, source port, source channel. So links ascend in that order as the numbers do.
-- Assumes nothing.
use Rattle.std.specs.Prelude.{ℕ, ◌+◌, ◌*◌, ◌/◌, ◌%◌, ◌^◌, Bool, not, ◌||◌, eqb}
use Rattle.links.specs.declared.Termination.{Termination}

-- a termination as a number
abbrev pub termination_number : Termination → ℕ
termination_number t = t.port * 2 ^ 16 + t.channel

-- the link from a source to a sink
unfoldable pub link : Termination → Termination → ℕ
link sink source = termination_number sink * 2 ^ 32 + termination_number source

-- and back: the sink and the source of a link, and the port of a termination
abbrev pub sink_of : ℕ → ℕ
sink_of l = l / 2 ^ 32

abbrev pub source_of : ℕ → ℕ
source_of l = l % 2 ^ 32

abbrev pub port_of : ℕ → ℕ
port_of t = t / 2 ^ 16

-- its ends are at different ports. The number 0 is no link: both ends would be at port 0
unfoldable pub apart : ℕ → Bool
apart l = not (eqb (port_of (sink_of l)) (port_of (source_of l)))

-- one of its ends is at the port
unfoldable pub touches : ℕ → ℕ → Bool
touches p l = eqb (port_of (sink_of l)) p || eqb (port_of (source_of l)) p
