-- A queue without its head: what moving its slots down makes of it. Assumes nothing.
use Rattle.std.proofs.Common.{◌≡◌, ℕ, zero, suc, ◌+◌, List, [], ◌∷◌, ◌++◌, length, drop, set, sym, ap, ◌∙◌, arith, length-drop, drop-cons}
use Rattle.std.proofs.Math.ListN.{drop_of_length-le}
use Rattle.std.proofs.Math.Seq.{paste}
use Rattle.std.specs.List.{copy_within}
use Rattle.std.proofs.lemmas.List.Edits.{paste_all}
use Rattle.std.proofs.lemmas.List.{set_at}
use Rattle.ends.specs.declared.Signal.{Signal}
use Rattle.call.specs.Protocol.{blank, slot, slots_from}

pub drop-slots : (xs : List Signal) (n j : ℕ) → j + n ≡ length xs → slots_from n j xs ≡ drop j xs
drop-slots xs zero j h = sym (drop_of_length-le xs {i = j} (omega arith))
drop-slots xs (suc n) j h =
    ap (λ l. slot xs j ∷ l) (drop-slots xs n (suc j) (omega arith)) ∙ sym (drop-cons xs j blank (omega arith))

pub moved_down : (xs : List Signal) → length xs ≡ 16 → set (copy_within xs 1 16 0) 15 blank ≡ slots_from 15 1 xs ++ blank ∷ []
moved_down xs h =
    let n : length (drop 1 xs) ≡ 15 = omega (arith, length-drop 1 xs) in
    let e : paste xs 0 (drop 1 xs) 15 ≡ drop 1 xs ++ slot xs 15 ∷ [] =
    paste_all xs 0 (drop 1 xs) 15 (sym n)
    ∙ ap (λ l. drop 1 xs ++ l) (drop-cons xs 15 blank (omega arith) ∙ ap (λ l. slot xs 15 ∷ l) (drop_of_length-le xs {i = 16} (omega arith)))
    in
    rw e (set_at (drop 1 xs) (slot xs 15) [] blank 15 n ∙ ap (λ l. l ++ blank ∷ []) (sym (drop-slots xs 15 1 (omega arith))))
