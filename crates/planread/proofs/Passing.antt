-- What holds at each turn of the loop that looks through the subscribers: what holds where they are kept, for some subscribers that nobody keeps; and of these the two addresses' are at hand. Assumes nothing.
use Rattle.std.specs.Prelude.{Result, Ok, Err, ⊤}
use mathlib.Core.Path.{◌≡◌, refl, sym, ap, ◌∙◌}
use mathlib.Core.Logic.{⊎_elim}
use mathlib.Core.List.{List}
use Prim.Native.Nat.{ℕ, ◌+◌, ◌≤◌, ◌<◌}
use lib.Dec.{eqb}
use lib.ListN.{length, set, replicate}
use Rattle.refusal.specs.declared.Refusal.{Refusal}
use Rattle.typeset.proofs.Bools.{yes_or_no}
use Rattle.plan.specs.declared.Types.{Types}
use Rattle.plan.specs.declared.Subscriber.{Subscriber}
use Rattle.plan.specs.Parts.{no_subscriber}
use Rattle.plan.specs.Find.{holder_at, seen}
use Rattle.plan.proofs.Sight.{holder-new, holder-kept, holder-none}
use Rattle.planread.specs.Reading.{plan_of, ended}
use native.Mathlib.Omega.{arith}
use Rattle.plan.specs.declared.Plan.{Plan}
use Rattle.planread.specs.Scanning.{scanned, judged, shown_end, sighted}
use Rattle.planread.proofs.Places.{set-alike, set_there}
use Rattle.planread.proofs.Going.{Going, going-none}

pub record Passing (bs : List ℕ) (t : Types) (source target : List ℕ) (first second : ℕ) (taken : List ℕ) (one other : Subscriber) (count last at : ℕ) : Type 0 where
  pub subs : List Subscriber
  pub going : Going bs t source target taken subs count last at
  pub one-is : one ≡ holder_at (plan_of t source target subs count) first
  pub other-is : other ≡ holder_at (plan_of t source target subs count) second

module _ (bs : List ℕ) (t : Types) (source target : List ℕ) (first second : ℕ) where
  pub passing-none : 289 ≤ length bs → {taken : List ℕ} → taken ≡ replicate 4096 0 → {one other : Subscriber} → one ≡ no_subscriber → other ≡ no_subscriber
      → Passing bs t source target first second taken one other 0 0 289
  passing-none h e x y =
      record {
        subs = replicate 256 no_subscriber;
        going = going-none bs t source target h e;
        one-is = x ∙ sym (holder-none (plan_of t source target (replicate 256 no_subscriber) 0) first refl);
        other-is = y ∙ sym (holder-none (plan_of t source target (replicate 256 no_subscriber) 0) second refl);
      }

  -- the subscriber of an address with one more: the new one, or who it was before
  module _ (subs : List Subscriber) (count at : ℕ) (taken : List ℕ) (s : Subscriber) (room : count < 256) (places : length subs ≡ 256)
      (𝓖 : Going bs t source target taken (set subs count s) (count + 1) s.address at) (a : ℕ) where
    pub shown-new : s.address ≡ a → s ≡ holder_at (plan_of t source target (set subs count s) (count + 1)) a
    shown-new e =
        let below : count < length subs = rw places room in
        sym (holder-new (plan_of t source target subs count) (plan_of t source target (set subs count s) (count + 1)) s t room refl (set-alike subs count s) (set_there subs count s below) 𝓖.kept a e)

    pub shown-kept : ¬ (s.address ≡ a) → holder_at (plan_of t source target subs count) a ≡ holder_at (plan_of t source target (set subs count s) (count + 1)) a
    shown-kept n =
        let below : count < length subs = rw places room in
        sym (holder-kept (plan_of t source target subs count) (plan_of t source target (set subs count s) (count + 1)) s t room refl (set-alike subs count s) (set_there subs count s below) 𝓖.kept a n)

-- ---- what is answered

pub scanned-refused : (first second : ℕ) {r : Refusal} {x : Result Plan Refusal} → x ≡ Err r → scanned first second x ≡ Err r
unfolding scanned
scanned-refused first second e = rw e

pub sighted-refused : {v : Result (Subscriber × Subscriber) Refusal} (t : Types) (source target : List ℕ) {r : Refusal} → v ≡ Err r → sighted v t source target ≡ Err r
sighted-refused t source target e = rw e

-- whether the subscribers were passed
abbrev pub passed : Result (Subscriber × Subscriber) Refusal → Result ⊤ Refusal
passed (Ok two) = Ok tt
passed (Err r) = Err r

-- a file that is looked through is refused as where it is read
pub passed-answer : (v : Result (Subscriber × Subscriber) Refusal) (t : Types) (source target : List ℕ) (first second : ℕ) (x : Result Plan Refusal)
    → sighted v t source target ≡ scanned first second x → passed v ≡ judged x
unfolding scanned
passed-answer (Ok two) t source target first second (Ok p) e = refl
passed-answer (Err r) t source target first second (Err q) e = let same : r ≡ q = cc in ap Err same
passed-answer (Ok two) t source target first second (Err q) e = let never : ◌≡◌ {A = ℕ} 0 1 = cc in absurd (omega arith)
passed-answer (Err r) t source target first second (Ok p) e = let never : ◌≡◌ {A = ℕ} 0 1 = cc in absurd (omega arith)

pub sighted-end : (t : Types) (source target : List ℕ) (one other : Subscriber) (at : ℕ) (left : List ℕ)
    → sighted (ended (one, other) at left) t source target ≡ shown_end t source target one other at left
unfolding ended shown_end
sighted-end t source target one other at left = ⊎_elim (λ e. rw e) (λ e. rw e) (yes_or_no (eqb (length left) 0))

pub scanned-end : (t : Types) (source target : List ℕ) (subs : List Subscriber) (count : ℕ) (first second at : ℕ) (left : List ℕ)
    → scanned first second (ended (plan_of t source target subs count) at left)
    ≡ shown_end t source target (holder_at (plan_of t source target subs count) first) (holder_at (plan_of t source target subs count) second) at left
unfolding ended shown_end scanned seen
scanned-end t source target subs count first second at left =
    ⊎_elim (λ e. rw e refl) (λ e. rw e refl) (yes_or_no (eqb (length left) 0))
