-- CHANNELS IN A CALL (02 'Ask 2', manual 9.3 and 9.7). `placed c` and `after (placed c) ks` are as in Teardown. Proved in proofs/Media.antt. Assumes nothing.
-- Manual 9.7: 'The channel protocol does not introduce deadlock, nor does it interfere with reliable signaling.' For the call these are NoDeadlock and InOrder of Teardown, as they stand: channel signals are among the signals sent. For one channel they are `ChannelsGoOn`, but for one case that the printed programs have, and `TunnelsInOrder`.
-- Of 9.7's table of fields: the tunnel of a channel signal is `NoneInTunnel0`. A medium, which an open must have there, can't be: 02's signals have a kind, a tunnel and a code, and an open's code is 0. Additional fields are allowed there and never sent here; so a closeack has none, as it must. The origin is the queue that the signal waits in.
use Rattle.std.specs.Prelude.{ℕ, ◌≤◌, ◌<◌, ◌≡◌, Bool, true, false, cond, not, ◌&&◌, ◌||◌, List, ◌∷◌, ◌++◌, eqb}
use Rattle.channels.specs.Channels.{«open», oack, onack, ready, close, closeack, closing3, end_chan, no_state}
use Rattle.ends.specs.declared.Side.{Side}
use Rattle.ends.specs.declared.Side.TheVariants.{Caller, Callee}
use Rattle.ends.specs.declared.Status.{Status}
use Rattle.ends.specs.declared.Signal.{Signal}
use Rattle.ends.specs.declared.Signal.TheVariants.{Upack, Ordinary, Teardown, Downack}
use Rattle.ends.specs.Ends.{opens, kind_of, is_open, no_channel_signal, channel_at, fits}
use Rattle.tunnels.specs.Tunnels.{under}
use Rattle.call.specs.declared.Call.{Call}
use Rattle.call.specs.declared.Command.{Command}
use Rattle.call.specs.Protocol.{other, end_of, waiting, placed}
use Rattle.call.specs.History.{after, sent, received, tally, sent_of}
use Rattle.call.specs.Row.{Act, record_at}
use Rattle.teardown.specs.Teardown.{CallIn}

-- the channel of a tunnel at an end
abbrev pub channel_of : Side → ℕ → Call → ℕ
channel_of s t z = channel_at t (end_of s z).channels

-- NO TUNNEL IS OPENED TWICE (9.3): in a call both ends together send at most one open in a tunnel, whichever;
-- 1 for an open in the tunnel t
abbrev pub open_in : ℕ → Signal → ℕ
open_in t Upack = 0
open_in t (Ordinary u x) = cond (is_open x && eqb u t) 1 0
open_in t Teardown = 0
open_in t Downack = 0

abbrev pub NoneTwice : Type 0
NoneTwice = (c : Call) (ks : List Command) (t : ℕ) → sent_of (open_in t) (placed c) ks ≤ 1

-- in a row too, of the call that placing answered: ks are the commands on its record;
abbrev pub NoneTwiceInRow : Type 0
NoneTwiceInRow =
    (row : List Call) (r n : ℕ) (acts : List Act) (ks : List Command) → CallIn row r n acts ks → (t : ℕ) → sent_of (open_in t) (placed (record_at row r)) ks ≤ 1

-- and an end sends none in a tunnel that is the other's to open (9.3): the caller none in an even one, the callee none in an odd one.
abbrev pub OpensItsOwn : Type 0
OpensItsOwn = (c : Call) (ks : List Command) (s : Side) (t : ℕ) → opens s t ≡ false → tally (open_in t) (sent s (placed c) ks) ≡ 0

-- NO CHANNEL SIGNAL IN TUNNEL 0 is ever sent. (9.7's table: the tunnel is a natural number; 0 is the call's own.)
-- 1 for a channel signal in tunnel 0
abbrev pub in_tunnel_0 : Signal → ℕ
in_tunnel_0 Upack = 0
in_tunnel_0 (Ordinary u x) = cond (not (no_channel_signal x) && eqb u 0) 1 0
in_tunnel_0 Teardown = 0
in_tunnel_0 Downack = 0

abbrev pub NoneInTunnel0 : Type 0
NoneInTunnel0 = (c : Call) (ks : List Command) (s : Side) → tally in_tunnel_0 (sent s (placed c) ks) ≡ 0

-- EVERY CHANNEL OF A CALL IS IN A STATE: placing leaves no other number, and no step leads to one.
abbrev pub AllInStates : Type 0
AllInStates = (c : Call) (ks : List Command) (s : Side) (t : ℕ) → t < 256 → channel_of s t (after (placed c) ks) < no_state

-- NO CHANNEL IS STUCK BY ITS OWN PROGRAM (9.7): always, in every tunnel, a signal is under way, or the channel of an end has a step that sends one, or both ends are at end_chan. (Whether that end is still linked is the call's matter: unlinking ends send nothing, and the teardown ends the channels.)
pub data GoesOn (t : ℕ) (z : Call) : Type 0 where
  comes : (s : Side) (k : ℕ) (w : List ℕ) → under t (waiting s z) ≡ k ∷ w → GoesOn t z
  may_send : (s : Side) (x : Status) → fits s true t x (end_of s z).channels ≡ true → GoesOn t z
  ended : channel_of Caller t z ≡ end_chan → channel_of Callee t z ≡ end_chan → GoesOn t z
  -- or an end waits in closing3 for a closeack that will not come. The printed programs leave this: both ends closed at once, and in closing2 one took the other's closeack and went to end_chan, without sending its own. The channel is then as good as closed: nothing can be sent in it, and the call's teardown ends it. (A play of ChannelPlays leads there.)
  left_over : (s : Side) → channel_of s t z ≡ closing3 → channel_of (other s) t z ≡ end_chan → GoesOn t z

abbrev pub ChannelsGoOn : Type 0
ChannelsGoOn = (c : Call) (ks : List Command) (t : ℕ) → 0 < t → t < 256 → GoesOn t (after (placed c) ks)

-- EACH TUNNEL IS FIRST IN FIRST OUT (9.7), by the kinds of its signals: always, what an end sent in it is what the other received in it, and after that what waits. (Of the signals themselves, in all tunnels together, it is InOrder.)
abbrev pub TunnelsInOrder : Type 0
TunnelsInOrder =
    (c : Call) (ks : List Command) (s : Side) (t : ℕ)
    → under t (sent (other s) (placed c) ks) ≡ under t (received s (placed c) ks) ++ under t (waiting s (after (placed c) ks))

-- AN ANSWER ANSWERS: in a tunnel an end sends no more oacks and onacks than opens came to it, no more readies than oacks, and no more closeacks than closes.
-- 1 for a signal in the tunnel t whose kind is one of these
abbrev pub kind_in : (ℕ → Bool) → ℕ → Signal → ℕ
kind_in f t Upack = 0
kind_in f t (Ordinary u x) = cond (eqb u t && f (kind_of x)) 1 0
kind_in f t Teardown = 0
kind_in f t Downack = 0

abbrev pub AnswersWith : (ℕ → Bool) → (ℕ → Bool) → Type 0
AnswersWith answers asks =
    (c : Call) (ks : List Command) (s : Side) (t : ℕ) → 0 < t
    → tally (kind_in answers t) (sent s (placed c) ks) ≤ tally (kind_in asks t) (received s (placed c) ks)

abbrev pub AnswersAnswer : Type 0
AnswersAnswer =
    AnswersWith (λ k. eqb k oack || eqb k onack) (λ k. eqb k «open»)
    × AnswersWith (λ k. eqb k ready) (λ k. eqb k oack)
    × AnswersWith (λ k. eqb k closeack) (λ k. eqb k close)
