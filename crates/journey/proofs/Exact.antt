-- Any two results that a contract of this crate allows are equal, and so are any two contents of the room: read off the contracts themselves, as the functions in src/ state
-- them. Assumes nothing.
use mathlib.Core.Path.{◌≡◌, sym, ◌∙◌}
use mathlib.Core.List.{List}
use Prim.Native.Nat.{ℕ}
use contract.Lifetimes.{Lfts}
use denote.Ref.{Bor, MutBor}
use denote.Triple.Clauses.{AtExit}
use borrow.Fn.Kinds.{ended_of}
use Rattle.plan.specs.declared.Plan.{Plan}
use Rattle.journey.proofs.desk.Reads as desk
use Rattle.journey.proofs.desk.Kinds as desk-kinds

pub desk-exact : (κs : Lfts 2) (plan : Plan) (line : Bor (List ℕ)) (room : MutBor (List ℕ)) (end end' : AtExit (ended_of 2 desk-kinds.ps desk-kinds.r) κs) (r s : ℕ)
    → desk.Post κs (plan, (line, (room, tt))) r end → desk.Post κs (plan, (line, (room, tt))) s end' → (r ≡ s) × (end.1.1.0.now ≡ end'.1.1.0.now)
desk-exact κs plan line room end end' r s p q = (p.0 ∙ sym q.0, p.1 ∙ sym q.1)
