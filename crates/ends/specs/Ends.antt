-- What an end of a call is, sends and takes (01 'Calls', manual 8; 02 'Ask 2', manual 9). Assumes nothing.
use Rattle.std.specs.Prelude.{ℕ, ◌%◌, Bool, true, false, cond, not, ◌&&◌, List, Option, Some, None as Nothing, Result, Ok, Err, get_or, set, ltb, eqb}
use Rattle.refusal.specs.declared.Refusal.{Refusal}
use Rattle.refusal.specs.declared.Refusal.TheVariants.{StateForbids, TooManyWaiting, NotOrdinary, BrokenRecord, TunnelTaken, ChannelForbids}
use Rattle.channels.specs.Channels.{«open», oack, onack, ready, close, closeack, status, no_state, follows}
use Rattle.ends.specs.declared.Side.{Side}
use Rattle.ends.specs.declared.Side.TheVariants.{Caller, Callee}
use Rattle.ends.specs.declared.State.{State}
use Rattle.ends.specs.declared.State.TheVariants.{Idle, Requesting, Waiting, Linked, Unlinking}
use Rattle.ends.specs.declared.End.{End}
use Rattle.ends.specs.declared.Status.{Status}
use Rattle.ends.specs.declared.Status.TheVariants.{Unknown, Avail, Unavail, None, Dtmf, Special, Open, Oack, Onack, Ready, Close, Closeack}
use Rattle.ends.specs.declared.Signal.{Signal}
use Rattle.ends.specs.declared.Signal.TheVariants.{Upack, Ordinary, Teardown, Downack}

-- SIDES
abbrev pub other : Side → Side
other Caller = Callee
other Callee = Caller

-- STATES
abbrev pub is_idle : State → Bool
is_idle Idle = true
is_idle Requesting = false
is_idle Waiting = false
is_idle Linked = false
is_idle Unlinking = false

abbrev pub is_waiting : State → Bool
is_waiting Idle = false
is_waiting Requesting = false
is_waiting Waiting = true
is_waiting Linked = false
is_waiting Unlinking = false

abbrev pub is_linked : State → Bool
is_linked Idle = false
is_linked Requesting = false
is_linked Waiting = false
is_linked Linked = true
is_linked Unlinking = false

-- SIGNALS
-- The ordinary signals: unknown, avail, unavail and none in tunnel 0; dtmf with one of twelve symbols (0 to 9 for the digits, 10 for *, 11 for #) in a tunnel from 1 on; special with any code in any tunnel; the six channel signals, of which the channels say more.
abbrev pub is_ordinary : ℕ → Status → Bool
is_ordinary tunnel Unknown = eqb tunnel 0
is_ordinary tunnel Avail = eqb tunnel 0
is_ordinary tunnel Unavail = eqb tunnel 0
is_ordinary tunnel None = eqb tunnel 0
is_ordinary tunnel (Dtmf symbol) = ltb 0 tunnel && ltb symbol 12
is_ordinary tunnel (Special code) = true
is_ordinary tunnel Open = true
is_ordinary tunnel Oack = true
is_ordinary tunnel Onack = true
is_ordinary tunnel Ready = true
is_ordinary tunnel Close = true
is_ordinary tunnel Closeack = true

-- CHANNELS
-- The caller opens odd tunnels, the callee even ones.
abbrev pub opens : Side → ℕ → Bool
opens Caller tunnel = eqb (tunnel % 2) 1
opens Callee tunnel = not (eqb (tunnel % 2) 1)

-- What a signal is to a channel. The four statuses of tunnel 0 are of no kind that a channel knows.
abbrev pub kind_of : Status → ℕ
kind_of Unknown = 7
kind_of Avail = 7
kind_of Unavail = 7
kind_of None = 7
kind_of (Dtmf symbol) = status
kind_of (Special code) = status
kind_of Open = «open»
kind_of Oack = oack
kind_of Onack = onack
kind_of Ready = ready
kind_of Close = close
kind_of Closeack = closeack

abbrev pub is_open : Status → Bool
is_open x = eqb (kind_of x) «open»

-- Is it none of the six channel signals?
abbrev pub no_channel_signal : Status → Bool
no_channel_signal x = ltb closeack (kind_of x)

-- The state of the channel in a tunnel; no state in a tunnel past 255.
abbrev pub channel_at : ℕ → List ℕ → ℕ
channel_at tunnel cs = get_or cs tunnel no_state

-- The next state of a channel in state n as a signal is sent, or taken; no state where there is no step.
abbrev pub next_with : Side → Bool → ℕ → Status → ℕ → ℕ
next_with s sends tunnel x n = follows (opens s tunnel) sends n (kind_of x)

-- The same where a step is looked for: nothing where there is none.
abbrev pub step_with : Side → Bool → ℕ → Status → ℕ → Option ℕ
step_with s sends tunnel x n = cond (eqb (next_with s sends tunnel x n) no_state) Nothing (Some (next_with s sends tunnel x n))

abbrev pub next_channel : Side → Bool → ℕ → Status → List ℕ → ℕ
next_channel s sends tunnel x cs = next_with s sends tunnel x (channel_at tunnel cs)

-- Is an ordinary signal fit for its channel as it is sent, or taken? In tunnel 0 there is no channel, and all but channel signals are.
abbrev pub fits_with : Side → Bool → ℕ → Status → ℕ → Bool
fits_with s sends tunnel x n = cond (eqb tunnel 0) (no_channel_signal x) (not (eqb (next_with s sends tunnel x n) no_state))

abbrev pub fits : Side → Bool → ℕ → Status → List ℕ → Bool
fits s sends tunnel x cs = fits_with s sends tunnel x (channel_at tunnel cs)

-- Why a channel does not send it: 40 for an open (in tunnel 0, in a tunnel that is used, or of the wrong parity), 41 for the others.
abbrev pub forbidden : Status → Refusal
forbidden x = cond (is_open x) TunnelTaken ChannelForbids

-- The channels of an end that a signal has passed.
abbrev pub passed : Side → Bool → Signal → List ℕ → List ℕ
passed s sends Upack cs = cs
passed s sends (Ordinary tunnel x) cs = cond (eqb tunnel 0) cs (set cs tunnel (next_channel s sends tunnel x cs))
passed s sends Teardown cs = cs
passed s sends Downack cs = cs

-- WHAT AN END DOES
abbrev pub within : State → List ℕ → End
within s cs = record { state = s; channels = cs }

abbrev pub with_channel : State → ℕ → ℕ → List ℕ → End
with_channel s tunnel n cs = within s (set cs tunnel n)

-- The callee answers once: a waiting end, which is in the state `next` then.
abbrev pub answers : State → State → Result State Refusal
answers s next = cond (is_waiting s) (Ok next) (Err StateForbids)

-- A linked end may send an ordinary signal that is fit for its channel, here in state n, while fewer than 14 wait there, and stays linked: 12, 15, 40, 41, 13.
abbrev pub speaks_with : State → Side → ℕ → Status → ℕ → ℕ → Result State Refusal
speaks_with st s tunnel x n waiting =
    cond (is_linked st)
    (cond (is_ordinary tunnel x)
    (cond (fits_with s true tunnel x n) (cond (ltb waiting 14) (Ok Linked) (Err TooManyWaiting)) (Err (forbidden x)))
    (Err NotOrdinary))
    (Err StateForbids)

abbrev pub speaks : Side → End → ℕ → Status → ℕ → Result State Refusal
speaks s e tunnel x waiting = speaks_with e.state s tunnel x (channel_at tunnel e.channels) waiting

-- A linked end may send teardown, and is unlinking then.
abbrev pub tears : State → Result State Refusal
tears s = cond (is_linked s) (Ok Unlinking) (Err StateForbids)

-- An ordinary signal handed over leaves the end in its state; one outside the list, or unfit for its channel, here in state n, can't be taken.
abbrev pub hears_with : State → Side → ℕ → Status → ℕ → Result State Refusal
hears_with st s tunnel x n = cond (is_ordinary tunnel x) (cond (fits_with s false tunnel x n) (Ok st) (Err BrokenRecord)) (Err BrokenRecord)

abbrev pub hears : Side → End → ℕ → Status → Result State Refusal
hears s e tunnel x = hears_with e.state s tunnel x (channel_at tunnel e.channels)

-- the channel that a signal is for; any number for a signal that is for none
abbrev pub channel_for : Signal → List ℕ → ℕ
channel_for Upack cs = 0
channel_for (Ordinary tunnel x) cs = channel_at tunnel cs
channel_for Teardown cs = 0
channel_for Downack cs = 0

-- What an end does with a signal handed to it. Requesting takes upack and is linked; linked takes ordinary signals, and on teardown is idle; unlinking takes ordinary signals, stays on teardown, and on downack is idle. Nothing else can be taken.
abbrev pub takes_with : State → Side → Signal → ℕ → Result State Refusal
takes_with Idle s x n = Err BrokenRecord
takes_with Requesting s Upack n = Ok Linked
takes_with Requesting s (Ordinary tunnel x) n = Err BrokenRecord
takes_with Requesting s Teardown n = Err BrokenRecord
takes_with Requesting s Downack n = Err BrokenRecord
takes_with Waiting s x n = Err BrokenRecord
takes_with Linked s Upack n = Err BrokenRecord
takes_with Linked s (Ordinary tunnel x) n = hears_with Linked s tunnel x n
takes_with Linked s Teardown n = Ok Idle
takes_with Linked s Downack n = Err BrokenRecord
takes_with Unlinking s Upack n = Err BrokenRecord
takes_with Unlinking s (Ordinary tunnel x) n = hears_with Unlinking s tunnel x n
takes_with Unlinking s Teardown n = Ok Unlinking
takes_with Unlinking s Downack n = Ok Idle

abbrev pub takes : Side → End → Signal → Result State Refusal
takes s e x = takes_with e.state s x (channel_for x e.channels)
