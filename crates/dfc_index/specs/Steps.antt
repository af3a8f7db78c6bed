-- What parts of the program promise each other. Assumes nothing.
use Rattle.std.specs.Prelude.{ℕ, ◌+◌, List, ◌++◌, length, take, drop}
use Rattle.plan.specs.declared.Subscriber.{Subscriber}
use Rattle.planbytes.specs.Numbers.{high}
use Rattle.planbytes.specs.Format.{subscriber_fields}

-- where the sets of the subscriber at place i begin in the file: past the 289 bytes that every file begins with, the fields of those before it, and the tag, length, kind and address of its own
unfoldable pub sets_at : List Subscriber → ℕ → ℕ
sets_at subs i = 297 + length (subscriber_fields (take i subs))

-- bytes with two other sets at a place
unfoldable pub reset_bytes : ℕ → ℕ → ℕ → List ℕ → List ℕ
reset_bytes place source target file = take place file ++ (high 4 source ++ high 4 target ++ drop (place + 8) file)
