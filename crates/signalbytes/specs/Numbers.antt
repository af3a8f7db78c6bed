-- The numbers of an end's states and of the signals: one numbering in records, in commands and in logs. The signals have the kinds of 02's ask 8: 2 upack, 3 unknown, 4 avail, 5 unavail, 6 none, 7 dtmf, 8 special, 9 teardown, 10 downack, 11 open, 12 oack, 13 onack, 14 ready, 15 close, 16 closeack; 1 is setup's, which waits in no queue.
-- Any number is read back. A state past the last stands for the last. The kind 0 is an empty place's, and reads as what an empty place holds, an upack, wherever it stands. The kind 1, and any past the last, is no signal's, and reads as a dtmf without a symbol, which no end takes: its delivery is refused.
-- A tunnel or a code that a kind has no use for does not count (tunnel and code of upack, teardown, downack; the code of all but dtmf and special). Assumes nothing.
use Rattle.std.specs.Prelude.{ℕ, cond, eqb}
use Rattle.ends.specs.declared.State.{State}
use Rattle.ends.specs.declared.State.TheVariants.{Idle, Requesting, Waiting, Linked, Unlinking}
use Rattle.ends.specs.declared.Status.{Status}
use Rattle.ends.specs.declared.Status.TheVariants.{Unknown, Avail, Unavail, None, Dtmf, Special, Open, Oack, Onack, Ready, Close, Closeack}
use Rattle.ends.specs.declared.Signal.{Signal}
use Rattle.ends.specs.declared.Signal.TheVariants.{Upack, Ordinary, Teardown, Downack}

-- ---- the numbers of the cases

abbrev pub state_number : State → ℕ
state_number Idle = 0
state_number Requesting = 1
state_number Waiting = 2
state_number Linked = 3
state_number Unlinking = 4

abbrev pub status_number : Status → ℕ
status_number Unknown = 3
status_number Avail = 4
status_number Unavail = 5
status_number None = 6
status_number (Dtmf n) = 7
status_number (Special n) = 8
status_number Open = 11
status_number Oack = 12
status_number Onack = 13
status_number Ready = 14
status_number Close = 15
status_number Closeack = 16

abbrev pub status_code : Status → ℕ
status_code Unknown = 0
status_code Avail = 0
status_code Unavail = 0
status_code None = 0
status_code (Dtmf n) = n
status_code (Special n) = n
status_code Open = 0
status_code Oack = 0
status_code Onack = 0
status_code Ready = 0
status_code Close = 0
status_code Closeack = 0

-- an ordinary signal has its status' number, its tunnel, and the status' code
abbrev pub signal_number : Signal → ℕ
signal_number Upack = 2
signal_number Teardown = 9
signal_number Downack = 10
signal_number (Ordinary t s) = status_number s

abbrev pub signal_tunnel : Signal → ℕ
signal_tunnel Upack = 0
signal_tunnel Teardown = 0
signal_tunnel Downack = 0
signal_tunnel (Ordinary t s) = t

abbrev pub signal_code : Signal → ℕ
signal_code Upack = 0
signal_code Teardown = 0
signal_code Downack = 0
signal_code (Ordinary t s) = status_code s

-- ---- and back: any number

abbrev pub state_said : ℕ → State
state_said n = cond (eqb n 0) Idle (cond (eqb n 1) Requesting (cond (eqb n 2) Waiting (cond (eqb n 3) Linked Unlinking)))

-- 255 is no symbol's
abbrev pub no_signal : Status
no_signal = Dtmf 255

abbrev pub status_said : ℕ → ℕ → Status
status_said n code =
    cond (eqb n 3) Unknown
    (cond (eqb n 4) Avail
    (cond (eqb n 5) Unavail
    (cond (eqb n 6) None
    (cond (eqb n 7) (Dtmf code)
    (cond (eqb n 8) (Special code)
    (cond (eqb n 11) Open
    (cond (eqb n 12) Oack (cond (eqb n 13) Onack (cond (eqb n 14) Ready (cond (eqb n 15) Close (cond (eqb n 16) Closeack no_signal)))))))))))

abbrev pub signal_said : ℕ → ℕ → ℕ → Signal
signal_said n tunnel code =
    cond (eqb n 0) Upack (cond (eqb n 2) Upack (cond (eqb n 9) Teardown (cond (eqb n 10) Downack (Ordinary tunnel (status_said n code)))))
