-- `typeset::Members` gives the types of its set. Assumes nothing.
use Rattle.std.proofs.Common.{rules, arith, refl, ◌≡◌, ◌∷◌}
use Rattle.typeset.specs.Sets.{members}
use Rattle.typeset.proofs.Listed.{members-empty, members-next}
use Rattle.typeset.proofs.NextSet.{next-set}
use Rattle.typeset.proofs.MembersIterator.next.Goals as goal

pub returns-then-set-eq0-clause-steps : goal.returns-then-set-eq0-clause-steps
returns-then-set-eq0-clause-steps c = rw c.if-set-eq0.true (members-empty, members-empty)

pub returns-clause-steps : goal.returns-clause-steps
returns-clause-steps c = rw (c.meet-self.ensures, next-set (search rules) c.if-set-eq0.false refl, c.lowest.ensures) (members-next (search rules) c.if-set-eq0.false)

pub returns-clause-goes : goal.returns-clause-goes
returns-clause-goes c =
    let next : members c.args.self.now.left ≡ c.lowest.result ∷ members c.meet-self.result =
    rw (c.meet-self.ensures, next-set (search rules) c.if-set-eq0.false refl, c.lowest.ensures) (members-next (search rules) c.if-set-eq0.false) in
    grind (arith, next)
