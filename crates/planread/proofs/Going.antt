-- What holds at each turn of the loop over the subscribers. Assumes nothing.
use mathlib.Core.Path.{◌≡◌, refl, sym, ap, ◌∙◌}
use mathlib.Core.Bool.{true}
use mathlib.Core.List.{List}
use Prim.Native.Nat.{ℕ, ◌+◌, ◌-◌, ◌≤◌, ◌<◌}
use native.Mathlib.Numerals.{add-one}
use native.Mathlib.Omega.{arith}
use lib.ListN.{length, drop, set, replicate, length-set, length-replicate}
use Rattle.typeset.specs.Sets.{every}
use Rattle.typeset.proofs.Below.{every-none, every_more}
use Rattle.plan.specs.declared.Types.{Types}
use Rattle.plan.specs.declared.Subscriber.{Subscriber}
use Rattle.plan.specs.Sound.{subscriber_sound}
use Rattle.plan.specs.Table.{claimed}
use Rattle.plan.proofs.Numbers.{Taken, taken_none}
use Rattle.plan.proofs.Subscribers.{table-next}
use Rattle.planread.specs.Reading.{plan_of, read_from}
use Rattle.plan.specs.Parts.{no_subscriber}
use Rattle.planread.proofs.Places.{last_address, every-alike, taken-alike, set-alike, set_there}

pub record Going (bs : List ℕ) (t : Types) (source target : List ℕ) (taken : List ℕ) (subs : List Subscriber) (count last at : ℕ) : Type 0 where
  pub few : count ≤ 256
  pub inside : at ≤ length bs
  pub places : length subs ≡ 256
  pub last-is : last ≡ last_address subs count
  pub kept : every count (subscriber_sound t subs) ≡ true
  pub table : Taken taken subs count
  -- reading on from here gives the whole result
  pub result : read_from (257 - count) 4 (plan_of t source target subs count) at (drop at bs)
      ≡ read_from 257 4 (plan_of t source target (replicate 256 no_subscriber) 0) 289 (drop 289 bs)

module _ (bs : List ℕ) (t : Types) (source target : List ℕ) where
  pub going-none : 289 ≤ length bs → {taken : List ℕ} → taken ≡ replicate 4096 0 → Going bs t source target taken (replicate 256 no_subscriber) 0 0 289
  unfolding last_address
  going-none h e =
      record {
        few = omega arith;
        inside = h;
        places = length-replicate 256 no_subscriber;
        last-is = refl;
        kept = every-none (subscriber_sound t (replicate 256 no_subscriber));
        table = rw e (taken_none (replicate 256 no_subscriber));
        result = refl;
      }

  -- one more subscriber
  pub going_on : (taken : List ℕ) (subs : List Subscriber) (count last at at' : ℕ) (s : Subscriber) → Going bs t source target taken subs count last at
      → count < 256 → at' ≤ length bs → length s.boxes ≡ 4 → subscriber_sound t (set subs count s) count ≡ true
      → read_from (257 - count) 4 (plan_of t source target subs count) at (drop at bs)
      ≡ read_from (257 - (count + 1)) 4 (plan_of t source target (set subs count s) (count + 1)) at' (drop at' bs)
      → {taken' : List ℕ} → taken' ≡ claimed taken s → Going bs t source target taken' (set subs count s) (count + 1) s.address at'
  unfolding last_address
  going_on taken subs count last at at' s 𝓖 room fits four own step e =
      let below : count < length subs = rw 𝓖.places room in
      let there = set_there subs count s below in
      let alike = set-alike subs count s in
      let before : every count (subscriber_sound t (set subs count s)) ≡ true = sym (every-alike t subs (set subs count s) count alike) ∙ 𝓖.kept in
      record {
        few = omega arith;
        inside = fits;
        places = length-set subs count s ∙ 𝓖.places;
        last-is = rw (add-one count) (ap (λ (z : Subscriber). z.address) (sym there));
        kept = every_more count (subscriber_sound t (set subs count s)) before own;
        table = rw e (rw there at (table-next t (set subs count s) count before taken (rw there four) (taken-alike taken subs (set subs count s) count alike 𝓖.table) own));
        result = sym step ∙ 𝓖.result;
      }
