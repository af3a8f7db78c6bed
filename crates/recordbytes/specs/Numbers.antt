-- COMMANDS AND ANSWERS AS NUMBERS, as a program in another language has them. Assumes nothing.
use Rattle.std.specs.Prelude.{ℕ, ◌/◌, ◌%◌, cond, eqb}
use Rattle.refusal.specs.Numbers.{number_of}
use Rattle.ends.specs.declared.Side.{Side}
use Rattle.ends.specs.declared.Side.TheVariants.{Caller, Callee}
use Rattle.signalbytes.specs.Numbers.{no_signal, status_said, signal_number, signal_tunnel, signal_code}
use Rattle.call.specs.declared.Command.{Command}
use Rattle.call.specs.declared.Command.TheVariants.{Accept, Busy, Unobtainable, Send, Teardown, Deliver}
use Rattle.call.specs.Protocol.{Answer}
use Rattle.std.specs.Prelude.{Some, None, Ok, Err}
use Rattle.call.specs.Row.{Reply, placed_at, says}
use Rattle.recordbytes.specs.declared.Commanded.{Commanded}

-- 0 is the caller, any other number the callee
abbrev pub side_of : ℕ → Side
side_of n = cond (eqb n 0) Caller Callee

-- 0 accept, 1 busy, 2 unobtainable, 3 send, 4 teardown, 5 deliver; what a command has no use for does not count. Any other kind is no command, and is told as a send of what is no signal, which is refused.
abbrev pub command_of : ℕ → ℕ → ℕ → ℕ → ℕ → Command
command_of kind side signal tunnel code =
    cond (eqb kind 0) Accept
    (cond (eqb kind 1) Busy
    (cond (eqb kind 2) Unobtainable
    (cond (eqb kind 3) (Send (side_of side) tunnel (status_said signal code))
    (cond (eqb kind 4) (Teardown (side_of side)) (cond (eqb kind 5) (Deliver (side_of side)) (Send (side_of side) tunnel no_signal))))))

-- number 0, and 1 and the signal where one was handed over; or the refusal's number, and zeros
abbrev pub commanded_said : Answer → Commanded
commanded_said (Ok None) = record { number = 0; delivered = 0; signal = 0; tunnel = 0; code = 0 }
commanded_said (Ok (Some x)) = record { number = 0; delivered = 1; signal = signal_number x; tunnel = signal_tunnel x; code = signal_code x }
commanded_said (Err r) = record { number = number_of r; delivered = 0; signal = 0; tunnel = 0; code = 0 }

-- a command is never answered by a placing
abbrev pub reply_said : Reply → Commanded
reply_said (says a) = commanded_said a
reply_said (placed_at r n) = commanded_said (Ok None)

-- AN ANSWER IN ONE WORD, which is faster than five: a byte for each number, from the lowest on
abbrev pub in_word : ℕ → Commanded
in_word w = record { number = w % 256; delivered = w / 256 % 256; signal = w / 65536 % 256; tunnel = w / 16777216 % 256; code = w / 4294967296 % 256 }
