-- Links as numbers: the four fields come back, and the numbers ascend by sink port, sink channel, source port, source channel. Assumes nothing.
use mathlib.Core.Path.{◌≡◌, ap, ap₂, ◌∙◌}
use mathlib.Core.Logic.{⊎_elim}
use mathlib.Core.Bool.{true, false, not, ◌||◌}
use Prim.Native.Nat.{ℕ, ◌/◌, ◌%◌, ◌^◌, ◌≤◌, ◌<◌}
use native.Mathlib.Omega.{arith}
use lib.Dec.{eqb, ltb}
use borrow.Author.Tests.{ltb-true, ltb-false}
use Rattle.typeset.proofs.Bools.{yes_or_no}
use Rattle.links.specs.declared.Termination.{Termination}
use Rattle.links.specs.Links.{termination_number, link, sink_of, source_of, port_of, apart, touches}

-- fields of 16 bits
pub record Small (t : Termination) : Type 0 where
  pub port : t.port < 2 ^ 16
  pub channel : t.channel < 2 ^ 16

pub port-back : (t : Termination) → Small t → port_of (termination_number t) ≡ t.port
port-back t s = let h = s.channel in omega arith

module _ (sink source : Termination) (a : Small sink) (b : Small source) where
  pub sink-back : sink_of (link sink source) ≡ termination_number sink
  unfolding link
  sink-back = let h = a.port in let k = b.port in let i = b.channel in omega arith

  pub source-back : source_of (link sink source) ≡ termination_number source
  unfolding link
  source-back = let k = b.port in let i = b.channel in omega arith

  -- ---- 80 and dropping, by the ports of the two terminations

  sink-port : port_of (sink_of (link sink source)) ≡ sink.port
  sink-port = ap port_of sink-back ∙ port-back sink a

  source-port : port_of (source_of (link sink source)) ≡ source.port
  source-port = ap port_of source-back ∙ port-back source b

  pub apart-ports : apart (link sink source) ≡ not (eqb sink.port source.port)
  unfolding apart
  apart-ports = ap₂ (λ (p q : ℕ). not (eqb p q)) sink-port source-port

  pub touches-ports : (p : ℕ) → touches p (link sink source) ≡ (eqb sink.port p || eqb source.port p)
  unfolding touches
  touches-ports p = ap₂ (λ (q r : ℕ). eqb q p || eqb r p) sink-port source-port

-- ---- every number of 64 bits is a link

pub record IsLink (x : ℕ) : Type 0 where
  pub sink : Termination
  pub source : Termination
  pub sink-small : Small sink
  pub source-small : Small source
  pub number : link sink source ≡ x

-- the termination that has the number
abbrev termination : ℕ → Termination
termination n = record { port = n / 2 ^ 16; channel = n % 2 ^ 16 }

small : (n : ℕ) → n < 2 ^ 32 → Small (termination n)
small n h = record { port = omega arith; channel = omega arith }

pub each-a-link : (x : ℕ) → x < 2 ^ 64 → IsLink x
unfolding link
each-a-link x h =
    let high : sink_of x < 2 ^ 32 = omega arith in
    let low : source_of x < 2 ^ 32 = omega arith in
    record { sink = termination (sink_of x); source = termination (source_of x); sink-small = small (sink_of x) high; source-small = small (source_of x) low; number = omega arith }

-- ---- the order of terminations

pub data Lower (s t : Termination) : Type 0 where
  port : s.port < t.port → Lower s t
  channel : s.port ≡ t.port → s.channel < t.channel → Lower s t

pub lower-number : (s t : Termination) → Small s → Lower s t → termination_number s < termination_number t
lower-number s t a (port h) = let i = a.channel in omega arith
lower-number s t a (channel e h) = omega arith

pub number-lower : (s t : Termination) → Small t → termination_number s < termination_number t → Lower s t
number-lower s t b h =
    ⊎_elim
    (λ (e : ltb s.port t.port ≡ true). port (ltb-true s.port t.port e))
    (λ (e : ltb s.port t.port ≡ false).
    let up : t.port ≤ s.port = ltb-false s.port t.port e in
    let j = b.channel in
    channel (omega arith) (omega arith))
    (yes_or_no (ltb s.port t.port))

-- ---- and of links: by the sink, then by the source

pub data Before (sink source sink' source' : Termination) : Type 0 where
  sinks : Lower sink sink' → Before sink source sink' source'
  sources : sink.port ≡ sink'.port → sink.channel ≡ sink'.channel → Lower source source' → Before sink source sink' source'

-- what is before has the smaller number
pub before-link : (k s k' s' : Termination) → Small k → Small s → Before k s k' s' → link k s < link k' s'
unfolding link
before-link k s k' s' a b (sinks h) = let l = lower-number k k' a h in let i = b.port in let j = b.channel in omega arith
before-link k s k' s' a b (sources p c h) = let l = lower-number s s' b h in omega arith

-- and what has the smaller number is before
pub link-before : (k s k' s' : Termination) → Small k → Small s → Small k' → Small s' → link k s < link k' s' → Before k s k' s'
unfolding link
link-before k s k' s' a b a' b' h =
    ⊎_elim
    (λ (e : ltb (termination_number k) (termination_number k') ≡ true). sinks (number-lower k k' a' (ltb-true (termination_number k) (termination_number k') e)))
    (λ (e : ltb (termination_number k) (termination_number k') ≡ false).
    let up : termination_number k' ≤ termination_number k = ltb-false (termination_number k) (termination_number k') e in
    let p = b'.port in
    let c = b'.channel in
    let i = a.channel in
    let j = a'.channel in
    let same : termination_number k ≡ termination_number k' = omega arith in
    sources (omega arith) (omega arith) (number-lower s s' b' (omega arith)))
    (yes_or_no (ltb (termination_number k) (termination_number k')))
