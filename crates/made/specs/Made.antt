-- The setup that each of the three ways makes (manual 5.4 to 5.6). Assumes nothing.
use Rattle.std.specs.Prelude.{ℕ, cond, List, [], eqb, length, Option, Some, None}
use Rattle.plan.specs.declared.Region.{Region}
use Rattle.plan.specs.declared.Region.TheVariants.{Source, Target}
use Rattle.zone.specs.declared.Zone.{Zone}
use Rattle.zone.specs.Order.{held, list_of}
use Rattle.setup.specs.declared.Dialled.{Dialled}
use Rattle.setup.specs.declared.Route.{Route}
use Rattle.setup.specs.declared.Route.TheVariants.{Whole, Suffix, Listed}
use Rattle.setup.specs.declared.Setup.{Setup}
use Rattle.setup.specs.Dialling.{dialled, string_of}
use Rattle.setup.specs.Setups.{routing, other}

-- an argument that is not 0, or else what is kept
abbrev pub or_kept : ℕ → ℕ → ℕ
or_kept argument kept = cond (eqb argument 0) kept argument

-- a string that is not empty, or else what is kept
abbrev pub string_or : List ℕ → List ℕ → List ℕ
string_or argument kept = cond (eqb (length argument) 0) kept argument

-- outer goes with a new routing address, in the source region only
abbrev pub outer_for : Region → ℕ → Option ℕ
outer_for Source a = Some a
outer_for Target a = None

-- new (5.4)
unfoldable pub new_setup : ℕ → List ℕ → ℕ → Setup
new_setup source string target = record {
  region = Source;
  source = source;
  dialled = dialled string;
  target = target;
  route = Whole;
  list = held [];
  placing = None;
  outer = Some source;
}

-- the source and the target of a setup in region r, from its routing address and the other one
abbrev pub source_in : Region → ℕ → ℕ → ℕ
source_in Source routed opposite = routed
source_in Target routed opposite = opposite

abbrev pub target_in : Region → ℕ → ℕ → ℕ
target_in Source routed opposite = opposite
target_in Target routed opposite = routed

-- What continued and reversed setups share, for a box with the address `box`, in region r. An argument for the routing address: that address, whole, and outer = the box's address in the
-- source region only. None: the routing address is the box's, the route is the one given here with its list and placing type, and outer is absent.
-- The other address is its argument, or else `kept`.
unfoldable pub further : Region → ℕ → ℕ → ℕ → ℕ → Dialled → Route → Zone → Option ℕ → Setup
further r box sourceArg targetArg kept string route list placing = record {
  region = r;
  source = source_in r (or_kept (routing r sourceArg targetArg) box) (or_kept (other r sourceArg targetArg) kept);
  dialled = string;
  target = target_in r (or_kept (routing r sourceArg targetArg) box) (or_kept (other r sourceArg targetArg) kept);
  route = cond (eqb (routing r sourceArg targetArg) 0) route Whole;
  list = cond (eqb (routing r sourceArg targetArg) 0) list (held []);
  placing = cond (eqb (routing r sourceArg targetArg) 0) placing None;
  outer = cond (eqb (routing r sourceArg targetArg) 0) None (outer_for r box);
}

-- continued (5.5): the same region; the route is kept; so are the other address and the string where none is given
unfoldable pub continued_setup : ℕ → Setup → ℕ → List ℕ → ℕ → Setup
continued_setup box s sourceArg string targetArg =
    further s.region box sourceArg targetArg (other s.region s.source s.target) (dialled (string_or string (string_of s.dialled)))
    Listed (held (list_of s.list)) None

-- the region turns
abbrev pub turned : Region → Region
turned Source = Target
turned Target = Source

-- reversed (5.6): suffix after the box's type; the other address, where none is given, is the stored source to the source region and the stored target to the target region
unfoldable pub reversed_setup : ℕ → ℕ → Setup → ℕ → List ℕ → ℕ → Setup
reversed_setup type box s sourceArg string targetArg =
    further (turned s.region) box sourceArg targetArg (routing (turned s.region) s.source s.target) (dialled (string_or string (string_of s.dialled)))
    Suffix (held []) (Some type)
