-- Who hears whom after any sequence of operations is what the history says. Assumes nothing.
use mathlib.Core.Path.{◌≡◌, refl, sym, ap, ◌∙◌}
use mathlib.Core.Logic.{⊎_elim}
use mathlib.Core.Bool.{Bool, true, false, not, ◌&&◌, ◌||◌, cond}
use mathlib.Core.List.{List, [], ◌∷◌}
use Prim.Native.Nat.{ℕ, ◌+◌, ◌*◌, ◌^◌, ◌≤◌, ◌<◌}
use native.Mathlib.Omega.{arith}
use lib.Dec.{eqb, ltb}
use lib.ListN.{length, replicate}
use borrow.Author.Tests.{ltb-true}
use Rattle.typeset.proofs.Bools.{yes_or_no}
use Rattle.lists.specs.Lists.{elem, keep}
use Rattle.lists.proofs.Places.{keep-le}
use Rattle.refusal.specs.declared.Refusal.TheVariants.{NotLinks}
use Rattle.links.specs.declared.Termination.{Termination}
use Rattle.std.specs.Prelude.{Err}
use Rattle.links.specs.Links.{termination_number, link, apart, touches}
use Rattle.links.specs.Sets.{blank, formed_from, insert, added, removed, dropped, sources, links, formed}
use Rattle.links.specs.Said.{is_done, room_for, add_said, add_after, remove_after, drop_after}
use Rattle.links.specs.History.{Asked, add, remove, drop_port, about, adds, there, answer_to, memory_after, memory, history}
use Rattle.links.proofs.Order.{Small}
use Rattle.links.proofs.Memory.{links-few, places-length}
use Rattle.links.proofs.Members.{remove-holds, drop-holds, add_holds, remove-members, drop-members, add-members, sources-members}

-- memory of 64 numbers that holds a set
pub record IsSet (m : List ℕ) : Type 0 where
  pub long : length m ≡ 64
  pub set : formed m ≡ true

-- 64 zeros are an empty set
pub empty : IsSet (replicate 64 0)
unfolding formed formed_from blank
empty = record { long = refl; set = refl }

insert-length : (x : ℕ) (xs : List ℕ) → length (insert x xs) ≤ 1 + length xs
unfolding insert
insert-length x [] = omega arith
insert-length x (y ∷ ys) = ⊎_elim (λ e. rw e (omega arith)) (λ e. rw e (omega (arith, insert-length x ys))) (yes_or_no (ltb x y))

module _ (m : List ℕ) (s : IsSet m) where
  remove-set : (x : ℕ) → IsSet (remove_after x m)
  unfolding remove_after removed
  remove-set x = record { long = rw s.set (places-length (removed x (links m)) (omega (arith, keep-le (λ l. not (eqb l x)) (links m), links-few m s.long))); set = (remove-holds m s.set x).set }

  drop-set : (p : ℕ) → IsSet (drop_after p m)
  unfolding drop_after dropped
  drop-set p = record { long = rw s.set (places-length (dropped p (links m)) (omega (arith, keep-le (λ l. not (touches p l)) (links m), links-few m s.long))); set = (drop-holds m s.set p).set }

  add-set : (x : ℕ) → IsSet (add_after x m)
  unfolding add_after add_said room_for added
  add-set x =
      ⊎_elim
      (λ (a : apart x ≡ true).
      ⊎_elim
      (λ (i : elem x (links m) ≡ true). record { long = rw (s.set, a, i) (places-length (links m) (links-few m s.long)); set = (add_holds m s.set x a (rw i refl)).set })
      (λ (i : elem x (links m) ≡ false).
      ⊎_elim
      (λ (r : ltb (length (links m)) 64 ≡ true). record { long = rw (s.set, a, i, r) (places-length (insert x (links m)) (omega (arith, insert-length x (links m), ltb-true (length (links m)) 64 r))); set = (add_holds m s.set x a (rw (i, r) refl)).set })
      (λ (r : ltb (length (links m)) 64 ≡ false). record { long = rw (s.set, a, i, r) s.long; set = rw (s.set, a, i, r) s.set })
      (yes_or_no (ltb (length (links m)) 64)))
      (yes_or_no (elem x (links m))))
      (λ (a : apart x ≡ false). record { long = rw (s.set, a) s.long; set = rw (s.set, a) s.set })
      (yes_or_no (apart x))

  -- what is refused changes nothing
  accepts : (y : ℕ) → apart y ≡ true → room_for y m ≡ true → is_done (add_said y m) ≡ true
  unfolding add_said
  accepts y a r = rw (s.set, a, r)

  no_room : (y : ℕ) → apart y ≡ true → room_for y m ≡ false → is_done (add_said y m) ≡ false
  unfolding add_said
  no_room y a r = rw (s.set, a, r)

  one-port : (y : ℕ) → apart y ≡ false → is_done (add_said y m) ≡ false
  unfolding add_said
  one-port y a = rw (s.set, a)

  refused : (y : ℕ) → is_done (add_said y m) ≡ false → add_after y m ≡ m
  unfolding add_after
  refused y e = rw e

  -- so the memory holds a set after each operation, refused or not
  after-set : (a : Asked) → IsSet (memory_after a m)
  after-set (add sink source) = add-set (link sink source)
  after-set (remove sink source) = remove-set (link sink source)
  after-set (drop_port port) = drop-set port

  -- and the link x is in it where the operation's line says so, or else where it was before
  removes : (b d : Bool) → (not b && d) ≡ cond (true && b) false d
  removes true d = refl
  removes false d = refl

  takes : (b d : Bool) → (b || d) ≡ cond (true && b) true d
  takes true d = refl
  takes false d = refl

  added-line : (x y : ℕ) → elem x (links (add_after y m)) ≡ cond (is_done (add_said y m) && eqb x y) true (elem x (links m))
  added-line x y =
      ⊎_elim
      (λ (a : apart y ≡ true).
      ⊎_elim
      (λ (r : room_for y m ≡ true). add-members m s.set y x a r ∙ takes (eqb x y) (elem x (links m)) ∙ ap (λ (b : Bool). cond (b && eqb x y) true (elem x (links m))) (sym (accepts y a r)))
      (λ (r : room_for y m ≡ false). ap (λ (l : List ℕ). elem x (links l)) (refused y (no_room y a r)) ∙ ap (λ (b : Bool). cond (b && eqb x y) true (elem x (links m))) (sym (no_room y a r)))
      (yes_or_no (room_for y m)))
      (λ (a : apart y ≡ false). ap (λ (l : List ℕ). elem x (links l)) (refused y (one-port y a)) ∙ ap (λ (b : Bool). cond (b && eqb x y) true (elem x (links m))) (sym (one-port y a)))
      (yes_or_no (apart y))

  after_line : (x : ℕ) (a : Asked) → elem x (links (memory_after a m)) ≡ cond (is_done (answer_to a m) && about x a) (adds a) (elem x (links m))
  after_line x (add sink source) = added-line x (link sink source)
  after_line x (remove sink source) = rw s.set (remove-members m s.set (link sink source) x ∙ removes (eqb x (link sink source)) (elem x (links m)))
  after_line x (drop_port port) = rw s.set (drop-members m s.set port x ∙ removes (touches port x) (elem x (links m)))

-- ---- any sequence

module _ (m : List ℕ) (s : IsSet m) where
  pub always-set : (asked : List Asked) → IsSet (memory m asked)
  unfolding memory
  always-set [] = s
  always-set (a ∷ earlier) = after-set (memory m earlier) (always-set earlier) a

  -- a link is in the set where the history says so
  pub by-history : (asked : List Asked) (x : ℕ) → elem x (links (memory m asked)) ≡ there (links m) (history m asked) x
  unfolding memory history there
  by-history [] x = refl
  by-history (a ∷ earlier) x =
      after_line (memory m earlier) (always-set earlier) x a
      ∙ ap (cond (is_done (answer_to a (memory m earlier)) && about x a) (adds a)) (by-history earlier x)

  -- a source is listed for a sink where the history says that the sink hears it
  pub hears : (asked : List Asked) (sink source : Termination) → Small source
      → elem (termination_number source) (sources (termination_number sink) (links (memory m asked))) ≡ there (links m) (history m asked) (link sink source)
  unfolding link
  hears asked sink source w =
      let low : termination_number source < 2 ^ 32 = let p = w.port in let c = w.channel in omega arith in
      sources-members (termination_number sink) (termination_number source) (links (memory m asked)) low ∙ by-history asked (termination_number sink * 2 ^ 32 + termination_number source)

-- ---- memory that holds no set: every answer is 82, and it stays as it was

junk-after : (m : List ℕ) (a : Asked) → formed m ≡ false → memory_after a m ≡ m
unfolding add_after add_said remove_after drop_after
junk-after m (add sink source) f = rw f
junk-after m (remove sink source) f = rw f
junk-after m (drop_port port) f = rw f

junk-answer : (m : List ℕ) (a : Asked) → formed m ≡ false → answer_to a m ≡ Err NotLinks
unfolding add_said
junk-answer m (add sink source) f = rw f
junk-answer m (remove sink source) f = rw f
junk-answer m (drop_port port) f = rw f

pub junk-stays : (m : List ℕ) (asked : List Asked) → formed m ≡ false → memory m asked ≡ m
unfolding memory
junk-stays m [] f = refl
junk-stays m (a ∷ earlier) f = ap (memory_after a) (junk-stays m earlier f) ∙ junk-after m a f

pub junk-refused : (m : List ℕ) (asked : List Asked) (a : Asked) → formed m ≡ false → answer_to a (memory m asked) ≡ Err NotLinks
junk-refused m asked a f = ap (answer_to a) (junk-stays m asked f) ∙ junk-answer m a f

-- ---- from 64 zeros on nothing is there at the beginning

pub hears-from-empty : (asked : List Asked) (sink source : Termination) → Small source
    → elem (termination_number source) (sources (termination_number sink) (links (memory (replicate 64 0) asked))) ≡ there [] (history (replicate 64 0) asked) (link sink source)
unfolding links keep
hears-from-empty asked sink source w = hears (replicate 64 0) empty asked sink source w
