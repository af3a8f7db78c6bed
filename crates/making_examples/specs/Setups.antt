-- The setups that P5 to P8 of document 01 speak of, on the teaching plan. Assumes nothing.
use Rattle.std.specs.Prelude.{ℕ, List, [], ◌∷◌, Option, Some, None}
use Rattle.plan.specs.declared.Region.{Region}
use Rattle.plan.specs.declared.Region.TheVariants.{Source, Target}
use Rattle.zone.specs.Order.{held}
use Rattle.setup.specs.declared.Route.{Route}
use Rattle.setup.specs.declared.Route.TheVariants.{Whole, Suffix, Listed}
use Rattle.setup.specs.declared.Setup.{Setup}
use Rattle.setup.specs.Dialling.{dialled}

-- "300", as ASCII codes
unfoldable pub dialled300 : List ℕ
dialled300 = 51 ∷ 48 ∷ 48 ∷ []

-- a setup with the string "300"
unfoldable pub setup_of : Region → ℕ → ℕ → Route → List ℕ → Option ℕ → Option ℕ → Setup
setup_of region source target route list placing outer = record {
  region = region;
  source = source;
  dialled = dialled dialled300;
  target = target;
  route = route;
  list = held list;
  placing = placing;
  outer = outer;
}

-- P5: what the line box of 200 sends
unfoldable pub p5_sent : Setup
p5_sent = setup_of Source 200 0 Whole [] None (Some 200)

-- P6: what type 4 at 200 received, the last of the source zone of 200; and what it sends
unfoldable pub p6_received : Setup
p6_received = setup_of Source 200 300 Listed [] None None

unfoldable pub p6_sent : Setup
p6_sent = setup_of Source 200 300 Listed [] None None

-- P7: what type 5 at 300 received, with 4 and 2 left; what it sends to 700; what type 3 at 700 received, with nothing left; and what that sends
unfoldable pub p7_received : Setup
p7_received = setup_of Target 200 300 Listed (4 ∷ 2 ∷ []) None None

unfoldable pub p7_sent : Setup
p7_sent = setup_of Target 200 700 Whole [] None None

unfoldable pub p7_received_at700 : Setup
p7_received_at700 = setup_of Target 200 700 Listed [] None None

unfoldable pub p7_sent_again : Setup
p7_sent_again = setup_of Target 200 700 Listed [] None None

-- P8: what type 4 at 200 once sent, in the source region to 300 (P6); and what it sends to reverse it
unfoldable pub p8_stored : Setup
p8_stored = p6_sent

unfoldable pub p8_sent : Setup
p8_sent = setup_of Target 300 200 Suffix [] (Some 4) None
