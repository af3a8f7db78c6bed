-- THE TABLES OF BOTH PROGRAMS, as docs/CHANNELS.md has them, computed from the definitions: a row for each state, from unused to end_chan, and in it the state that open, oack, onack, ready, status, close and closeack lead to, as they are sent and as they are taken. Assumes nothing.
use Rattle.std.specs.Prelude.{ℕ, ◌≡◌, refl, Bool, true, false, List, [], ◌∷◌, map}
use Rattle.channels.specs.Channels.{opening, opened, oacked, oacking, readying, readied, closing, closing2, closing3, closed, end_chan, no_state, «open», oack, onack, ready, close, closeack, status, follows}

-- no step
abbrev no : ℕ
no = no_state

abbrev row : Bool → Bool → ℕ → List ℕ
row opens sends s = map (follows opens sends s) («open» ∷ oack ∷ onack ∷ ready ∷ status ∷ close ∷ closeack ∷ [])

abbrev rows : Bool → Bool → List (List ℕ)
rows opens sends = map (row opens sends) (0 ∷ 1 ∷ 2 ∷ 3 ∷ 4 ∷ 5 ∷ 6 ∷ 7 ∷ 8 ∷ [])

pub opener_sends :
    rows true true
    ≡ (opening ∷ no ∷ no ∷ no ∷ no ∷ no ∷ no ∷ [])
    ∷ (no ∷ no ∷ no ∷ no ∷ no ∷ closing ∷ no ∷ [])
    ∷ (no ∷ no ∷ no ∷ readying ∷ no ∷ closing ∷ no ∷ [])
    ∷ (no ∷ no ∷ no ∷ no ∷ readying ∷ closing ∷ no ∷ [])
    ∷ (no ∷ no ∷ no ∷ no ∷ no ∷ no ∷ no ∷ [])
    ∷ (no ∷ no ∷ no ∷ no ∷ no ∷ no ∷ closing3 ∷ [])
    ∷ (no ∷ no ∷ no ∷ no ∷ no ∷ no ∷ no ∷ [])
    ∷ (no ∷ no ∷ no ∷ no ∷ no ∷ no ∷ end_chan ∷ [])
    ∷ (no ∷ no ∷ no ∷ no ∷ no ∷ no ∷ no ∷ [])
    ∷ []
unfolding follows
opener_sends = refl

pub opener_takes :
    rows true false
    ≡ (no ∷ no ∷ no ∷ no ∷ no ∷ no ∷ no ∷ [])
    ∷ (no ∷ oacked ∷ end_chan ∷ no ∷ no ∷ no ∷ no ∷ [])
    ∷ (no ∷ no ∷ no ∷ no ∷ no ∷ closed ∷ no ∷ [])
    ∷ (no ∷ no ∷ no ∷ no ∷ readying ∷ closed ∷ no ∷ [])
    ∷ (no ∷ closing ∷ closing ∷ no ∷ closing ∷ closing2 ∷ end_chan ∷ [])
    ∷ (no ∷ no ∷ no ∷ no ∷ no ∷ no ∷ end_chan ∷ [])
    ∷ (no ∷ no ∷ no ∷ no ∷ no ∷ no ∷ end_chan ∷ [])
    ∷ (no ∷ no ∷ no ∷ no ∷ no ∷ no ∷ no ∷ [])
    ∷ (no ∷ no ∷ no ∷ no ∷ no ∷ no ∷ no ∷ [])
    ∷ []
unfolding follows
opener_takes = refl

pub answerer_sends :
    rows false true
    ≡ (no ∷ no ∷ no ∷ no ∷ no ∷ no ∷ no ∷ [])
    ∷ (no ∷ oacking ∷ end_chan ∷ no ∷ no ∷ no ∷ no ∷ [])
    ∷ (no ∷ no ∷ no ∷ no ∷ no ∷ closing ∷ no ∷ [])
    ∷ (no ∷ no ∷ no ∷ no ∷ readied ∷ closing ∷ no ∷ [])
    ∷ (no ∷ no ∷ no ∷ no ∷ no ∷ no ∷ no ∷ [])
    ∷ (no ∷ no ∷ no ∷ no ∷ no ∷ no ∷ closing3 ∷ [])
    ∷ (no ∷ no ∷ no ∷ no ∷ no ∷ no ∷ no ∷ [])
    ∷ (no ∷ no ∷ no ∷ no ∷ no ∷ no ∷ end_chan ∷ [])
    ∷ (no ∷ no ∷ no ∷ no ∷ no ∷ no ∷ no ∷ [])
    ∷ []
unfolding follows
answerer_sends = refl

pub answerer_takes :
    rows false false
    ≡ (opened ∷ no ∷ no ∷ no ∷ no ∷ no ∷ no ∷ [])
    ∷ (no ∷ no ∷ no ∷ no ∷ no ∷ closed ∷ no ∷ [])
    ∷ (no ∷ no ∷ no ∷ readied ∷ no ∷ closed ∷ no ∷ [])
    ∷ (no ∷ no ∷ no ∷ no ∷ readied ∷ closed ∷ no ∷ [])
    ∷ (no ∷ no ∷ no ∷ closing ∷ closing ∷ closing2 ∷ end_chan ∷ [])
    ∷ (no ∷ no ∷ no ∷ no ∷ no ∷ no ∷ end_chan ∷ [])
    ∷ (no ∷ no ∷ no ∷ no ∷ no ∷ no ∷ end_chan ∷ [])
    ∷ (no ∷ no ∷ no ∷ no ∷ no ∷ no ∷ no ∷ [])
    ∷ (no ∷ no ∷ no ∷ no ∷ no ∷ closed ∷ no ∷ [])
    ∷ []
unfolding follows
answerer_takes = refl
