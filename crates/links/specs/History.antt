-- Who hears whom, by the history alone: what was asked of the box, and what was answered. Assumes nothing.
use Rattle.std.specs.Prelude.{ℕ, Bool, true, false, ◌&&◌, cond, List, [], ◌∷◌, eqb, Result, ⊤}
use Rattle.lists.specs.Lists.{elem}
use Rattle.links.specs.declared.Termination.{Termination}
use Rattle.refusal.specs.declared.Refusal.{Refusal}
use Rattle.links.specs.Links.{link, touches}
use Rattle.links.specs.Sets.{formed}
use Rattle.links.specs.Said.{is_done, said_formed, add_said, add_after, remove_after, drop_after}

-- what can be asked: each of sink and source is a termination
pub data Asked : Type 0 where
  add : (sink source : Termination) → Asked
  remove : (sink source : Termination) → Asked
  drop_port : (port : ℕ) → Asked

-- a line of the history: what was asked, and the answer
pub record Line : Type 0 where
  pub asked : Asked
  pub answer : Result ⊤ Refusal

-- ---- what the history says

-- what was asked is about the link x: to add it, to remove it, or to drop a port that it touches
abbrev pub about : ℕ → Asked → Bool
about x (add sink source) = eqb x (link sink source)
about x (remove sink source) = eqb x (link sink source)
about x (drop_port port) = touches port x

abbrev pub adds : Asked → Bool
adds (add sink source) = true
adds (remove sink source) = false
adds (drop_port port) = false

-- the link x is there after the history, whose newest line stands first: the newest line that is about x and was accepted decides; a line that was refused counts for nothing.
-- Where no line is about x, it is there if it was at the beginning
unfoldable pub there : List ℕ → List Line → ℕ → Bool
there beginning [] x = elem x beginning
there beginning (l ∷ earlier) x = cond (is_done l.answer && about x l.asked) (adds l.asked) (there beginning earlier x)

-- ---- what the operations do, one after the other

-- the answer to one, and the memory after it
abbrev pub answer_to : Asked → List ℕ → Result ⊤ Refusal
answer_to (add sink source) m = add_said (link sink source) m
answer_to (remove sink source) m = said_formed (formed m)
answer_to (drop_port port) m = said_formed (formed m)

abbrev pub memory_after : Asked → List ℕ → List ℕ
memory_after (add sink source) m = add_after (link sink source) m
memory_after (remove sink source) m = remove_after (link sink source) m
memory_after (drop_port port) m = drop_after port m

-- the memory after all that was asked, the newest first; and the history that they leave
unfoldable pub memory : List ℕ → List Asked → List ℕ
memory m [] = m
memory m (a ∷ earlier) = memory_after a (memory m earlier)

unfoldable pub history : List ℕ → List Asked → List Line
history m [] = []
history m (a ∷ earlier) = record { asked = a; answer = answer_to a (memory m earlier) } ∷ history m earlier
