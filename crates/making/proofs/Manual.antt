-- The manual's equations for continued and reversed setups (5.5, 5.6), field by field, of the setup that is made; `Answers.antt` states them of what is answered. In them an argument 0
-- is `noAddr` and an empty string `noString`. Assumes nothing.
use Rattle.std.specs.Prelude.{Option, Some, None}
use mathlib.Core.Path.{◌≡◌, refl}
use mathlib.Core.Bool.{Bool, true, false, cond}
use mathlib.Core.List.{List}
use Prim.Native.Nat.{ℕ}
use lib.Dec.{eqb}
use lib.ListN.{length}
use Rattle.plan.specs.declared.Region.TheVariants.{Source, Target}
use Rattle.setup.specs.declared.Route.TheVariants.{Whole, Suffix, Listed}
use Rattle.setup.specs.declared.Setup.{Setup}
use Rattle.setup.specs.Dialling.{dialled, string_of}
use Rattle.zone.specs.Order.{list_of}
use Rattle.setup.specs.Setups.{routing}
use Rattle.zone.proofs.Held.{held-list}
use Rattle.making.specs.Making.{further, continued_setup, turned, reversed_setup}

-- ---- 5.5: ss is the stored setup, box the address of the box

module _ (box : ℕ) (ss : Setup) (srcArg : ℕ) (dldArg : List ℕ) (trgArg : ℕ) where
  abbrev s : Setup
  s = continued_setup box ss srcArg dldArg trgArg

  pub continued-regn : s.region ≡ ss.region
  unfolding continued_setup further
  continued-regn = refl

  pub continued-source-given : ss.region ≡ Source → eqb srcArg 0 ≡ false → (s.source ≡ srcArg) × (s.route ≡ Whole) × (s.outer ≡ Some box)
  unfolding continued_setup further
  continued-source-given r e = rw (r, e) (refl, refl, refl)

  -- the route that is kept is a list, since no other is continued (5)
  pub continued-source-kept : ss.region ≡ Source → eqb srcArg 0 ≡ true → ss.route ≡ Listed
      → (s.source ≡ box) × (s.route ≡ ss.route) × (list_of s.list ≡ list_of ss.list) × (s.outer ≡ None)
  unfolding continued_setup further list_of
  continued-source-kept r e l = rw (r, e, l) (refl, refl, held-list (list_of ss.list), refl)

  pub continued-target-given : ss.region ≡ Target → eqb trgArg 0 ≡ false → (s.target ≡ trgArg) × (s.route ≡ Whole) × (s.outer ≡ None)
  unfolding continued_setup further
  continued-target-given r e = rw (r, e) (refl, refl, refl)

  pub continued-target-kept : ss.region ≡ Target → eqb trgArg 0 ≡ true → ss.route ≡ Listed
      → (s.target ≡ box) × (s.route ≡ ss.route) × (list_of s.list ≡ list_of ss.list) × (s.outer ≡ None)
  unfolding continued_setup further list_of
  continued-target-kept r e l = rw (r, e, l) (refl, refl, held-list (list_of ss.list), refl)

  -- the other address
  pub continued-other-target : ss.region ≡ Source → (eqb trgArg 0 ≡ false → s.target ≡ trgArg) × (eqb trgArg 0 ≡ true → s.target ≡ ss.target)
  unfolding continued_setup further
  continued-other-target r = (λ e. rw (r, e) refl, λ e. rw (r, e) refl)

  pub continued-other-source : ss.region ≡ Target → (eqb srcArg 0 ≡ false → s.source ≡ srcArg) × (eqb srcArg 0 ≡ true → s.source ≡ ss.source)
  unfolding continued_setup further
  continued-other-source r = (λ e. rw (r, e) refl, λ e. rw (r, e) refl)

  -- no placing type
  either-way : (b : Bool) (placing : Option ℕ) → cond b placing placing ≡ placing
  either-way true placing = refl
  either-way false placing = refl

  pub continued-placing : s.placing ≡ None
  unfolding continued_setup further
  continued-placing = either-way (eqb (routing ss.region srcArg trgArg) 0) None

  -- the string
  pub continued-string : (eqb (length dldArg) 0 ≡ false → s.dialled ≡ dialled dldArg) × (eqb (length dldArg) 0 ≡ true → s.dialled ≡ dialled (string_of ss.dialled))
  unfolding continued_setup further
  continued-string = (λ e. rw e refl, λ e. rw e refl)

-- ---- 5.6: type is the box's type

module _ (type box : ℕ) (ss : Setup) (srcArg : ℕ) (dldArg : List ℕ) (trgArg : ℕ) where
  abbrev t : Setup
  t = reversed_setup type box ss srcArg dldArg trgArg

  pub reversed-regn : t.region ≡ turned ss.region
  unfolding reversed_setup further
  reversed-regn = refl

  -- to the source region
  pub reversed-source-given : ss.region ≡ Target → eqb srcArg 0 ≡ false → (t.source ≡ srcArg) × (t.route ≡ Whole) × (t.outer ≡ Some box) × (t.placing ≡ None)
  unfolding reversed_setup further
  reversed-source-given r e = rw (r, e) (refl, refl, refl, refl)

  pub reversed-source-box : ss.region ≡ Target → eqb srcArg 0 ≡ true → (t.source ≡ box) × (t.route ≡ Suffix) × (t.placing ≡ Some type) × (t.outer ≡ None)
  unfolding reversed_setup further
  reversed-source-box r e = rw (r, e) (refl, refl, refl, refl)

  pub reversed-other-target : ss.region ≡ Target → (eqb trgArg 0 ≡ false → t.target ≡ trgArg) × (eqb trgArg 0 ≡ true → t.target ≡ ss.source)
  unfolding reversed_setup further
  reversed-other-target r = (λ e. rw (r, e) refl, λ e. rw (r, e) refl)

  -- to the target region
  pub reversed-target-given : ss.region ≡ Source → eqb trgArg 0 ≡ false → (t.target ≡ trgArg) × (t.route ≡ Whole) × (t.outer ≡ None) × (t.placing ≡ None)
  unfolding reversed_setup further
  reversed-target-given r e = rw (r, e) (refl, refl, refl, refl)

  pub reversed-target-box : ss.region ≡ Source → eqb trgArg 0 ≡ true → (t.target ≡ box) × (t.route ≡ Suffix) × (t.placing ≡ Some type) × (t.outer ≡ None)
  unfolding reversed_setup further
  reversed-target-box r e = rw (r, e) (refl, refl, refl, refl)

  pub reversed-other-source : ss.region ≡ Source → (eqb srcArg 0 ≡ false → t.source ≡ srcArg) × (eqb srcArg 0 ≡ true → t.source ≡ ss.target)
  unfolding reversed_setup further
  reversed-other-source r = (λ e. rw (r, e) refl, λ e. rw (r, e) refl)

  pub reversed-string : (eqb (length dldArg) 0 ≡ false → t.dialled ≡ dialled dldArg) × (eqb (length dldArg) 0 ≡ true → t.dialled ≡ dialled (string_of ss.dialled))
  unfolding reversed_setup further
  reversed-string = (λ e. rw e refl, λ e. rw e refl)
