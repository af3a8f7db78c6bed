-- States and signals come back from their numbers. Assumes nothing.
use mathlib.Core.Path.{◌≡◌, refl}
use Rattle.ends.specs.declared.State.{State}
use Rattle.ends.specs.declared.State.TheVariants.{Idle, Requesting, Waiting, Linked, Unlinking}
use Rattle.ends.specs.declared.Status.TheVariants.{Unknown, Avail, Unavail, None, Dtmf, Special, Open, Oack, Onack, Ready, Close, Closeack}
use Rattle.ends.specs.declared.Signal.{Signal}
use Rattle.ends.specs.declared.Signal.TheVariants.{Upack, Ordinary, Teardown, Downack}
use Rattle.signalbytes.specs.Numbers.{state_number, signal_number, signal_tunnel, signal_code, state_said, signal_said}

pub state-back : (s : State) → state_said (state_number s) ≡ s
state-back Idle = refl
state-back Requesting = refl
state-back Waiting = refl
state-back Linked = refl
state-back Unlinking = refl

pub signal-back : (x : Signal) → signal_said (signal_number x) (signal_tunnel x) (signal_code x) ≡ x
signal-back Upack = refl
signal-back Teardown = refl
signal-back Downack = refl
signal-back (Ordinary t Unknown) = refl
signal-back (Ordinary t Avail) = refl
signal-back (Ordinary t Unavail) = refl
signal-back (Ordinary t None) = refl
signal-back (Ordinary t (Dtmf n)) = refl
signal-back (Ordinary t (Special n)) = refl
signal-back (Ordinary t Open) = refl
signal-back (Ordinary t Oack) = refl
signal-back (Ordinary t Onack) = refl
signal-back (Ordinary t Ready) = refl
signal-back (Ordinary t Close) = refl
signal-back (Ordinary t Closeack) = refl
