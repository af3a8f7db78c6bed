-- P1 TO P13 of document 01, on the teaching plan, as one table. Each line is computed from the definitions; proofs/Computed.antt. Assumes nothing.
use Rattle.std.specs.Prelude.{ℕ, ◌≡◌, true, List, [], ◌∷◌, Option, Some, None, Result, Ok}
use Rattle.plan.specs.declared.Region.{Region}
use Rattle.plan.specs.declared.Region.TheVariants.{Source, Target}
use Rattle.zone.specs.Order.{held}
use Rattle.zone.specs.Answer.{zone_at}
use Rattle.teaching.specs.Teaching.{teaching}
use Rattle.setup.specs.declared.Route.TheVariants.{Suffix, Listed}
use Rattle.setup.specs.declared.Setup.{Setup}
use Rattle.setup.specs.Dialling.{dialled}
use Rattle.embedded.specs.Embedded.{embedded}
use Rattle.making.specs.declared.Maker.TheVariants.{Line as LineBox, Trunk as TrunkBox, Feature as FeatureBox}
use Rattle.making.specs.Making.{new_setup, new_answer, continued_answer, reversed_answer}
use Rattle.making_examples.specs.Setups.{dialled300, setup_of, p5_sent, p6_received, p6_sent, p7_received, p7_sent, p7_received_at700, p7_sent_again, p8_stored}
use Rattle.refusal.specs.declared.Refusal.{Refusal}
use Rattle.routing.specs.declared.Callee.{Callee}
use Rattle.routing.specs.declared.Callee.TheVariants.{Feature, Trunk, Resource, Error}
use Rattle.routing.specs.Routing.{answer}
use Rattle.journey.specs.Hops.{passed_on}
use Rattle.ends.specs.declared.State.TheVariants.{Requesting, Linked, Unlinking}
use Rattle.teardown.specs.Plays.{play, shows, p11, p12, p13}

-- a box is answered the setup s
abbrev pub made : Setup → Result Setup Refusal
made s = Ok s

-- Routing s, with two lists of 32, is answered with this callee box, this setup received, and so many types left.
abbrev pub Routes : Setup → Callee → Setup → ℕ → Type 0
Routes s callee received left = answer teaching s (Ok tt) 32 32 ≡ Ok (record { callee = callee; setup = received; left = left })

-- a setup received: the region, source and target, the types left, the outer address; the string is "300", or none
abbrev pub received : Region → ℕ → ℕ → List ℕ → Option ℕ → Setup
received r source target left outer = setup_of r source target Listed left None outer

abbrev pub received_no_string : ℕ → ℕ → Setup
received_no_string source target = record {
  region = Target;
  source = source;
  dialled = dialled [];
  target = target;
  route = Listed;
  list = held [];
  placing = None;
  outer = None;
}

pub record Thirteen : Type 0 where
  -- P1 Target zone of 300: 3, 5, 4, 2. P2 Target zone of 200: 4, 2.
  pub p1 : zone_at teaching Target 300 ≡ 3 ∷ 5 ∷ 4 ∷ 2 ∷ []
  pub p2 : zone_at teaching Target 200 ≡ 4 ∷ 2 ∷ []
  -- P3 "*21300" embeds 300. P4 "000", "*2" and "300#" embed none.
  pub p3 : embedded (42 ∷ 50 ∷ 49 ∷ 51 ∷ 48 ∷ 48 ∷ []) ≡ Some 300
  pub p4_zeros : embedded (48 ∷ 48 ∷ 48 ∷ []) ≡ None
  pub p4_code : embedded (42 ∷ 50 ∷ []) ≡ None
  pub p4_hash : embedded (51 ∷ 48 ∷ 48 ∷ 35 ∷ []) ≡ None
  -- P5 The line box of 200 makes a new setup, string "300": type 1 at 200, left 2, 4, outer 200.
  pub p5_new : new_answer teaching (LineBox 200) dialled300 0 ≡ made p5_sent
  pub p5 : Routes p5_sent (Feature 1 200) (received Source 200 300 (2 ∷ 4 ∷ []) (Some 200)) 2
  -- (types 2 and 4 at 200 are reached in turn, so P6 starts from what type 4 received; so are 3 and 5 at 300 after P6, for P7)
  pub p5_to_2 : Routes (passed_on 200 (received Source 200 300 (2 ∷ 4 ∷ []) (Some 200))) (Feature 2 200) (received Source 200 300 (4 ∷ []) None) 1
  pub p5_to_4 : Routes (passed_on 200 (received Source 200 300 (4 ∷ []) None)) (Feature 4 200) p6_received 0
  -- P6 Type 4 at 200 continues with an empty list to 300: type 3 at 300, left 5, 4, 2.
  pub p6_continued : continued_answer teaching (FeatureBox 4 200) p6_received 0 [] 0 ≡ made p6_sent
  pub p6 : Routes p6_sent (Feature 3 300) (received Target 200 300 (5 ∷ 4 ∷ 2 ∷ []) None) 3
  pub p6_to_5 : Routes (passed_on 300 (received Target 200 300 (5 ∷ 4 ∷ 2 ∷ []) None)) (Feature 5 300) p7_received 2
  -- P7 Type 5 at 300 continues to 700: type 3 at 700, nothing left; its continuation reaches the error box.
  pub p7_continued : continued_answer teaching (FeatureBox 5 300) p7_received 0 [] 700 ≡ made p7_sent
  pub p7 : Routes p7_sent (Feature 3 700) p7_received_at700 0
  pub p7_again : continued_answer teaching (FeatureBox 3 700) p7_received_at700 0 [] 0 ≡ made p7_sent_again
  pub p7_error : Routes p7_sent_again (Error 700) (received Target 200 700 [] None) 0
  -- P8 Type 4 at 200 reverses a source setup to 300: source 300, target 200, suffix; type 2 at 200, nothing left.
  pub p8_reversed : reversed_answer teaching (FeatureBox 4 200) p8_stored 0 [] 0 ≡ made (setup_of Target 300 200 Suffix [] (Some 4) None)
  pub p8 : Routes (setup_of Target 300 200 Suffix [] (Some 4) None) (Feature 2 200) (received Target 300 200 [] None) 0
  -- P9 Suffix, target 700, placing 2: type 3 at 700.
  pub p9 : Routes (setup_of Target 200 700 Suffix [] (Some 2) None) (Feature 3 700) (received Target 200 700 [] None) 0
  -- P10 New from 555 to 900: box 60, no outer. To 556: error box. To 555: box 40.
  pub p10_new_900 : new_answer teaching (TrunkBox 555) [] 900 ≡ made (new_setup 555 [] 900)
  pub p10_900 : Routes (new_setup 555 [] 900) (Resource 60 900) (received_no_string 555 900) 0
  pub p10_new_556 : new_answer teaching (TrunkBox 555) [] 556 ≡ made (new_setup 555 [] 556)
  pub p10_556 : Routes (new_setup 555 [] 556) (Error 556) (received_no_string 555 556) 0
  pub p10_new_555 : new_answer teaching (TrunkBox 555) [] 555 ≡ made (new_setup 555 [] 555)
  pub p10_555 : Routes (new_setup 555 [] 555) (Trunk 40 555) (received_no_string 555 555) 0
  -- Nothing more sent: P11 Linked, queues empty, one teardown: 2 deliveries. P12 Two ordinary signals wait, teardown from both ends: 6. P13 Busy: 4.
  -- (the ends' states and how many signals wait before the deliveries; the deliveries; that both ends are idle at last)
  pub p11_two : play p11 ≡ shows Unlinking Linked 1 2 true
  pub p12_six : play p12 ≡ shows Unlinking Unlinking 4 6 true
  pub p13_four : play p13 ≡ shows Requesting Unlinking 3 4 true
