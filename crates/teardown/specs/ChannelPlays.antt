-- Computed from the definitions: the channels of a call (02 'Ask 2'): a channel's life, two races of the closing states, the refusals 12, 15, 40, 41, 13, 14 alone and beside later ones. (The other races, and 16, 10 and 17 beside these, are lines of the script of `call_trials`.) Assumes nothing.
use Rattle.std.specs.Prelude.{ℕ, ◌≡◌, refl, true, ◌&&◌, List, [], ◌∷◌, ◌++◌, map, replicate}
use Rattle.ends.specs.declared.State.TheVariants.{Linked, Unlinking}
use Rattle.ends.specs.declared.Status.TheVariants.{Avail, Dtmf, Special, Open, Oack, Ready, Close, Closeack}
use Rattle.ends.specs.declared.Signal.TheVariants.{Upack, Ordinary}
use Rattle.ends.specs.Ends.{channel_at}
use Rattle.channels.specs.Channels.{unused, oacked, oacking, readying, readied, closing, closing3, closed, end_chan, follows}
use Rattle.call.specs.declared.Call.{Call}
use Rattle.ends.specs.declared.Side.TheVariants.{Caller, Callee}
use Rattle.call.specs.declared.Command.{Command}
use Rattle.call.specs.declared.Command.TheVariants.{Send, Teardown as Hang-up, Deliver}
use Rattle.call.specs.Protocol.{end_of, is_free, step, number_in, placed, cleared}
use Rattle.call.specs.History.{after}
use Rattle.teardown.specs.Plays.{all_allowed, to_linked, made, asks}

-- the numbers that commands answer, one after the other
abbrev pub numbers : Call → List Command → List ℕ
numbers c [] = []
numbers c (k ∷ ks) = number_in (step c k).answer ∷ numbers (step c k).call ks

-- the states of a tunnel's channels, the caller's and the callee's
abbrev pub states : ℕ → Call → List ℕ
states t c = channel_at t (end_of Caller c).channels ∷ channel_at t (end_of Callee c).channels ∷ []

-- A LIFE: opened, acknowledged, readied, with statuses both ways, closed
abbrev acknowledged : List Command
acknowledged = Send Caller 1 Open ∷ Deliver Callee ∷ Send Callee 1 Oack ∷ Deliver Caller ∷ []

abbrev made_ready : List Command
made_ready = Send Caller 1 Ready ∷ Deliver Callee ∷ []

abbrev talked : List Command
talked = Send Caller 1 (Dtmf 3) ∷ Send Callee 1 (Special 9) ∷ Deliver Callee ∷ Deliver Caller ∷ []

abbrev closed_again : List Command
closed_again = Send Callee 1 Close ∷ Deliver Caller ∷ Send Caller 1 Closeack ∷ Deliver Callee ∷ []

abbrev pub from : List Command → Call
from ks = after (placed cleared) (to_linked ++ ks)

pub life :
    map (λ ks. states 1 (from ks)) ([] ∷ acknowledged ∷ (acknowledged ++ made_ready) ∷ (acknowledged ++ made_ready ++ talked) ∷ (acknowledged ++ made_ready ++ talked ++ closed_again) ∷ [])
    ≡ (unused ∷ unused ∷ []) ∷ (oacked ∷ oacking ∷ []) ∷ (readying ∷ readied ∷ []) ∷ (readying ∷ readied ∷ []) ∷ (end_chan ∷ end_chan ∷ []) ∷ []
unfolding follows
life = refl

pub life_allowed : all_allowed (placed cleared) (to_linked ++ acknowledged ++ made_ready ++ talked ++ closed_again) ≡ true
unfolding follows
life_allowed = refl

-- a ready that meets an answerer in closing is taken, and the teardown behind it too
abbrev crossing : List Command
crossing =
    to_linked ++ Send Caller 1 Open ∷ Deliver Callee ∷ Send Callee 1 Oack ∷ Send Callee 1 Close ∷ Deliver Caller ∷ Send Caller 1 Ready ∷ Hang-up Caller
    ∷ Deliver Caller ∷ Deliver Callee ∷ Deliver Callee ∷ Deliver Caller ∷ []

pub ready_in_closing : all_allowed (placed cleared) crossing && is_free (after (placed cleared) crossing) ≡ true
unfolding follows
ready_in_closing = refl

-- both ends close at once: each takes the other's close, and the first closeack ends the channel at the other end; the end that sent it stays in closing3, and the other sends none any more
abbrev crossed : List Command
crossed =
    acknowledged ++ made_ready ++ Send Caller 1 Close ∷ Send Callee 1 Close ∷ Deliver Caller ∷ Deliver Callee ∷ Send Caller 1 Closeack ∷ Deliver Callee ∷ []

pub both_close :
    (all_allowed (placed cleared) (to_linked ++ crossed) ≡ true)
    × (states 1 (from crossed) ≡ closing3 ∷ end_chan ∷ [])
    × (asks (from crossed) (Send Callee 1 Closeack) ≡ 41)
unfolding follows
both_close = (refl, refl, refl)

-- going idle leaves the channels; placing leaves every tunnel unused
pub placed_unused : states 1 (after (placed cleared) crossing) ∷ states 1 (placed (after (placed cleared) crossing)) ∷ [] ≡ (closed ∷ closing ∷ []) ∷ (unused ∷ unused ∷ []) ∷ []
unfolding follows
placed_unused = refl

-- REFUSALS
pub taken_40 :
    -- alone: tunnel 0, the other's parity both ways, a used tunnel, one that was used
    asks (from []) (Send Caller 0 Open)
    ∷ asks (from []) (Send Caller 2 Open)
    ∷ asks (from []) (Send Callee 1 Open)
    ∷ asks (from (Send Caller 255 Open ∷ [])) (Send Caller 255 Open)
    ∷ asks (from (acknowledged ++ made_ready ++ talked ++ closed_again)) (Send Caller 1 Open)
    -- beside 13
    ∷ asks (from (replicate 14 (Send Caller 0 Avail))) (Send Caller 2 Open)
    ∷ []
    ≡ replicate 6 40
unfolding follows
taken_40 = refl

pub forbids_41 :
    -- alone: in tunnel 0, in a state without that send, and dtmf and special where the channel is not readied
    asks (from []) (Send Caller 0 Oack)
    ∷ asks (from []) (Send Caller 0 Closeack)
    ∷ asks (from []) (Send Caller 1 Close)
    ∷ asks (from acknowledged) (Send Callee 1 Ready)
    ∷ asks (from acknowledged) (Send Caller 1 (Special 3))
    ∷ asks (from (acknowledged ++ made_ready)) (Send Caller 3 (Dtmf 3))
    -- beside 13
    ∷ asks (from (replicate 14 (Send Caller 0 Avail))) (Send Caller 1 (Dtmf 3))
    ∷ []
    ≡ replicate 7 41
unfolding follows
forbids_41 = refl

-- 15 beside 41, 12 beside 40 and 41, 13 alone for a channel signal; specials in tunnel 0 need no channel
pub others :
    asks (from []) (Send Caller 1 (Dtmf 12))
    ∷ asks (from []) (Send Caller 1 Avail)
    ∷ asks (from (Hang-up Caller ∷ [])) (Send Caller 0 Open)
    ∷ asks (from (Hang-up Caller ∷ [])) (Send Caller 1 Close)
    ∷ asks (from (replicate 14 (Send Caller 0 Avail))) (Send Caller 1 Open)
    ∷ asks (from (replicate 13 (Send Caller 0 Avail))) (Send Caller 1 Open)
    ∷ asks (from []) (Send Caller 0 (Special 200))
    ∷ []
    ≡ 15 ∷ 15 ∷ 12 ∷ 12 ∷ 13 ∷ 0 ∷ 0 ∷ []
unfolding follows
others = refl

-- 17 for a channel signal that is unfit for its channel, and for one in tunnel 0; an open is fit for the answerer alone
pub unfit_17 :
    asks (made Linked Linked 1 1 (Ordinary 1 Oack) Upack) (Deliver Caller)
    ∷ asks (made Unlinking Linked 1 1 (Ordinary 1 (Dtmf 3)) Upack) (Deliver Caller)
    ∷ asks (made Linked Linked 1 1 (Ordinary 0 Open) Upack) (Deliver Caller)
    ∷ asks (made Linked Linked 1 1 (Ordinary 1 Open) Upack) (Deliver Caller)
    ∷ asks (made Linked Linked 1 1 (Ordinary 2 Open) Upack) (Deliver Caller)
    ∷ []
    ≡ 17 ∷ 17 ∷ 17 ∷ 17 ∷ 0 ∷ []
unfolding follows
unfit_17 = refl
