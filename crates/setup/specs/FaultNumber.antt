-- What the fault of a setup is in document 01's numbers: each is refusal 5, and a well-formed setup has none. Assumes nothing.
use Rattle.std.specs.Prelude.{ℕ, Option, Some, None}
use Rattle.setup.specs.declared.Fault.{Fault}
use Rattle.setup.specs.declared.Fault.TheVariants.{BadAddressOrString, NoRoutingAddress, NoEndPart, WrongPlacing, WrongOuter}

abbrev pub number_of_fault : Option Fault → ℕ
number_of_fault None = 0
number_of_fault (Some BadAddressOrString) = 5
number_of_fault (Some NoRoutingAddress) = 5
number_of_fault (Some NoEndPart) = 5
number_of_fault (Some WrongPlacing) = 5
number_of_fault (Some WrongOuter) = 5
