-- `setupbytes::setup_in` meets its contract. Assumes nothing.
use borrow.Author.Tests.{eq-eqb, ne_eqb}
use Rattle.typeset.proofs.Bools.{passed, failed}
use Rattle.setupbytes.specs.Codec.{setup_in}
use Rattle.setupbytes.proofs.setup_in.Goals as goal

pub returns-then-b-ne110 : goal.returns-then-b-ne110
unfolding setup_in
returns-then-b-ne110 c = rw (c.blank_setup.ensures, ne_eqb _ 110 c.if-b-ne110.true)

pub returns-then-not-same : goal.returns-then-not-same
unfolding setup_in
returns-then-not-same c = rw (c.blank_setup-then-not-same.ensures, eq-eqb _ 110 c.if-b-ne110.false, ← c.fields_in-s.ensures, ← c.setup_bytes.ensures, failed c.same.ensures c.if-not-same.true-raw)

pub returns : goal.returns
unfolding setup_in
returns c = rw (eq-eqb _ 110 c.if-b-ne110.false, ← c.fields_in-s.ensures, ← c.setup_bytes.ensures, passed c.same.ensures c.if-not-same.false-raw)
