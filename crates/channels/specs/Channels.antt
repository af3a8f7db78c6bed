-- The channel protocol (02 'Ask 2', manual 9.4): what an end's channel in a tunnel does when a signal is sent or taken there. Assumes nothing.
use Rattle.std.specs.Prelude.{ℕ, ◌≡◌, refl, Bool, true, false, not, ◌&&◌, List, [], ◌∷◌, ◌++◌, eqb}

-- THE STATES of a channel, under the names of 9.4. A state is a number. The two programs share the numbers: 1 is opening in the one and opened in the other, 2 oacked and oacking, 3 readying and readied; which program runs goes by the side and the tunnel. A number from 9 on is no state.
-- `unused` stands for end_nocall: nothing was sent or taken in this tunnel yet.
abbrev pub unused : ℕ
unused = 0

abbrev pub opening : ℕ
opening = 1

abbrev pub opened : ℕ
opened = 1

abbrev pub oacked : ℕ
oacked = 2

abbrev pub oacking : ℕ
oacking = 2

abbrev pub readying : ℕ
readying = 3

abbrev pub readied : ℕ
readied = 3

abbrev pub closing : ℕ
closing = 4

abbrev pub closing2 : ℕ
closing2 = 5

abbrev pub closing3 : ℕ
closing3 = 6

abbrev pub closed : ℕ
closed = 7

abbrev pub end_chan : ℕ
end_chan = 8

abbrev pub no_state : ℕ
no_state = 9

-- THE KINDS of signal that a channel knows. Here they are numbered from 0; in records, commands and logs (02 'Ask 8') open to closeack are the kinds 11 to 16, in the same order, and a status is a dtmf, kind 7, or a special, kind 8. (`open` is a word of the notation, so as a name it stands in «».)
abbrev pub «open» : ℕ
«open» = 0

abbrev pub oack : ℕ
oack = 1

abbrev pub onack : ℕ
onack = 2

abbrev pub ready : ℕ
ready = 3

abbrev pub close : ℕ
close = 4

abbrev pub closeack : ℕ
closeack = 5

abbrev pub status : ℕ
status = 6

-- A STEP: `s out! k goto n` where a channel in state s sends a signal of the kind k and is in state n then; `s in? k goto n` where it takes one.
pub record Arc : Type 0 where
  pub at : ℕ
  pub sends : Bool
  pub kind : ℕ
  pub to : ℕ

infix 90 ◌out!◌goto◌
infix 90 ◌in?◌goto◌
abbrev pub ◌out!◌goto◌ : ℕ → ℕ → ℕ → Arc
◌out!◌goto◌ s k n = record { at = s; sends = true; kind = k; to = n }

abbrev pub ◌in?◌goto◌ : ℕ → ℕ → ℕ → Arc
◌in?◌goto◌ s k n = record { at = s; sends = false; kind = k; to = n }

-- THE PRINTED PROGRAMS, a line for each `::` but those of downack, in the order of 9.4. (A line that is printed without a goto stays in its state.)
-- active_channel: it opens the channel.
abbrev pub active : List Arc
active =
    unused out! «open» goto opening
    ∷ opening in? oack goto oacked
    ∷ opening in? onack goto end_chan
    ∷ opening out! close goto closing
    ∷ oacked out! ready goto readying
    ∷ oacked out! close goto closing
    ∷ oacked in? close goto closed
    ∷ readying in? status goto readying
    ∷ readying out! status goto readying
    ∷ readying out! close goto closing
    ∷ readying in? close goto closed
    ∷ closing in? oack goto closing
    ∷ closing in? onack goto closing
    ∷ closing in? status goto closing
    ∷ closing in? close goto closing2
    ∷ closing in? closeack goto end_chan
    ∷ closing2 out! closeack goto closing3
    ∷ closing2 in? closeack goto end_chan
    ∷ closing3 in? closeack goto end_chan
    ∷ closed out! closeack goto end_chan
    ∷ []

-- passive_channel: it answers.
abbrev pub passive : List Arc
passive =
    unused in? «open» goto opened
    ∷ opened out! oack goto oacking
    ∷ opened out! onack goto end_chan
    ∷ opened in? close goto closed
    ∷ oacking in? ready goto readied
    ∷ oacking in? close goto closed
    ∷ oacking out! close goto closing
    ∷ readied in? status goto readied
    ∷ readied out! status goto readied
    ∷ readied out! close goto closing
    ∷ readied in? close goto closed
    ∷ closing in? status goto closing
    ∷ closing in? close goto closing2
    ∷ closing in? closeack goto end_chan
    ∷ closing2 out! closeack goto closing3
    ∷ closing2 in? closeack goto end_chan
    ∷ closing3 in? closeack goto end_chan
    ∷ closed out! closeack goto end_chan
    ∷ end_chan in? close goto closed
    ∷ []

-- THE HOUSE STEP, the only one that is not printed. The answerer may close while the opener's ready is under way. 02 'Ask 2': an end that has sent close 'still takes whatever the other end may send; where the printed programs have no step for it, its channel stays as it is'. No other signal can come where the printed programs have no step (the proof is in proofs/Lines.antt).
abbrev pub house : List Arc
house = closing in? ready goto closing ∷ []

-- the program of the end that opens, and of the one that answers
abbrev pub program : Bool → List Arc
program true = active
program false = passive ++ house

-- WHERE A PROGRAM GOES from a state with a signal of this kind that it sends, or takes: `no_state` where it has no step.
abbrev pub same : Bool → Bool → Bool
same true b = b
same false b = not b

abbrev pub goes : List Arc → Bool → ℕ → ℕ → ℕ
goes [] sends s k = no_state
goes (a ∷ as') sends s k = elim (same a.sends sends && (eqb a.at s && eqb a.kind k)) [ true ↦ a.to | false ↦ goes as' sends s k ]

-- THE STEP OF A CHANNEL: does this end open it? does it send? its state, and the kind of signal
unfoldable pub follows : Bool → Bool → ℕ → ℕ → ℕ
follows opens sends s k = goes (program opens) sends s k

-- COMPUTED: every line is a step of its program, so none hides behind another;
abbrev pub every : (Arc → Bool) → List Arc → Bool
every f [] = true
every f (a ∷ as') = f a && every f as'

abbrev is_step : Bool → Arc → Bool
is_step opens a = eqb (follows opens a.sends a.at a.kind) a.to

pub each_line : (every (is_step true) active && every (is_step false) (passive ++ house)) ≡ true
unfolding follows
each_line = refl

-- and the printed program has no step where the house has one.
pub not_printed : goes passive false closing ready ≡ no_state
not_printed = refl
