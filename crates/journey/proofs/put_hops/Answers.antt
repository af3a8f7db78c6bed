-- `journey::put_hops` meets its contract. What is still to come, stored from here on, gives the whole. Assumes nothing.
use mathlib.Core.Path.{◌≡◌, refl, sym, ap, ◌∙◌}
use mathlib.Core.List.{[]}
use Prim.Native.Nat.{◌+◌}
use native.Mathlib.Omega.{arith}
use lib.ListN.{length, length-append}
use lib.Seq.{sets, length-sets}
use Rattle.text.proofs.Stores.{sets-both}
use Rattle.journey.specs.Hops.{journey}
use Rattle.journey.specs.Trips.{hop_text, hopped}
use Rattle.journey.proofs.Trips.{todo, hop-text, hop-fine, hop-place, text-short, all_done}
use Rattle.journey.proofs.put_hops.Goals as goal

pub loop-hop-init : goal.loop-hop-init
loop-hop-init c = record { from = omega arith; to = omega arith; low = omega (arith, c.requires.2); fine = c.requires.1; same_length = refl; place = refl; stored = refl }

pub one_hop-trip-requires : goal.one_hop-trip-requires
one_hop-trip-requires c = omega (arith, c.loop-hop.invariant.low, c.loop-hop-test.true)

pub loop-hop-preserved : goal.loop-hop-preserved
loop-hop-preserved c =
    let p = c.args.plan in
    let i = c.loop-hop.invariant in
    let t = c.loop-hop.trip in
    let k = c.loop-hop.hop in
    let room = c.loop-hop.room in
    let sound = c.requires.0 in
    let text = hop-text p t k sound i.fine c.loop-hop-test.true in
    let next = hop-place p t k in
    rw (c.one_hop-trip.ensures.0, c.one_hop-trip.ensures.1) record {
      from = omega (arith, i.from);
      to = omega (arith, c.loop-hop-test.true);
      low = omega (arith, next, text-short p t k, i.low, i.from);
      fine = hop-fine p t k sound i.fine;
      same_length = length-sets room t.at (hop_text p t k) ∙ i.same_length;
      place = (let long : length (todo p t k) ≡ length (hop_text p t k) + length (todo p (hopped p t k) (k + 1)) = ap length text ∙ length-append (hop_text p t k) (todo p (hopped p t k) (k + 1)) in omega (arith, next, long, i.place));
      stored = rw next (sets-both room t.at (hop_text p t k) (todo p (hopped p t k) (k + 1)) ∙ sym (ap (sets room t.at) text) ∙ i.stored);
    }

pub shape_of-room : goal.shape_of-room
shape_of-room c = c.loop-hop.invariant.same_length

pub returns : goal.returns
unfolding journey
returns c =
    let i = c.loop-hop.invariant in
    let p = c.args.plan in
    let t = c.loop-hop.trip in
    let end : c.loop-hop.hop ≡ 66 = omega (arith, i.to, c.loop-hop-test.false) in
    let done : todo p t c.loop-hop.hop ≡ [] = ap (todo p t) end ∙ all_done p t in
    let none : length (todo p t c.loop-hop.hop) ≡ 0 = ap length done in
    (omega (arith, none, i.place), sym (ap (sets c.loop-hop.room t.at) done) ∙ i.stored)
