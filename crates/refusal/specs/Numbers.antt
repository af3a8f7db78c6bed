-- What each refusal is in document 01, and from 40 on in document 02: its number, and for 20 to 25 its place. Assumes nothing.
use Rattle.std.specs.Prelude.{ℕ, Bool, true, false, List, [], ◌∷◌, Option, Some, None, Result, Ok, Err, ⊤}
use Rattle.refusal.specs.declared.Refusal.{Refusal}
use Rattle.refusal.specs.declared.Refusal.TheVariants.{NoSuchType, NotForThisBox, WrongAddress, NotReversible, Malformed, NotRoutedHere, BadString, OwnAddress, AddressTooLarge, NoSuchCall, NoFreeRecord, StateForbids, TooManyWaiting, NothingWaiting, NotOrdinary, RowTooLong, BrokenRecord, ListTooShort, WrongEnd, WrongTag, WrongLength, RuleBroken, TooManySubscribers, RoomTooShort, TunnelTaken, ChannelForbids, NotInPlan, SetsBreakRule, OtherIndex, Closed, StoreFull, OnePort, LinksFull, NotLinks}

-- the number of each refusal, as the documents' tables have it
abbrev pub number_of : Refusal → ℕ
number_of NoSuchType = 1
number_of NotForThisBox = 2
number_of WrongAddress = 3
number_of NotReversible = 4
number_of Malformed = 5
number_of NotRoutedHere = 6
number_of BadString = 7
number_of OwnAddress = 8
number_of AddressTooLarge = 9
number_of NoSuchCall = 10
number_of NoFreeRecord = 11
number_of StateForbids = 12
number_of TooManyWaiting = 13
number_of NothingWaiting = 14
number_of NotOrdinary = 15
number_of RowTooLong = 16
number_of BrokenRecord = 17
number_of ListTooShort = 18
number_of (WrongEnd at) = 20
number_of (WrongTag at) = 21
number_of (WrongLength at) = 22
number_of (RuleBroken at) = 23
number_of (TooManySubscribers at) = 24
number_of (RoomTooShort at) = 25
number_of TunnelTaken = 40
number_of ChannelForbids = 41
number_of NotInPlan = 45
number_of SetsBreakRule = 46
number_of OtherIndex = 47
number_of Closed = 70
number_of StoreFull = 71
number_of OnePort = 80
number_of LinksFull = 81
number_of NotLinks = 82

-- "20 to 25 also a place": where the refusal applies, counted from 0
abbrev pub place_of : Refusal → Option ℕ
place_of NoSuchType = None
place_of NotForThisBox = None
place_of WrongAddress = None
place_of NotReversible = None
place_of Malformed = None
place_of NotRoutedHere = None
place_of BadString = None
place_of OwnAddress = None
place_of AddressTooLarge = None
place_of NoSuchCall = None
place_of NoFreeRecord = None
place_of StateForbids = None
place_of TooManyWaiting = None
place_of NothingWaiting = None
place_of NotOrdinary = None
place_of RowTooLong = None
place_of BrokenRecord = None
place_of ListTooShort = None
place_of (WrongEnd at) = Some at
place_of (WrongTag at) = Some at
place_of (WrongLength at) = Some at
place_of (RuleBroken at) = Some at
place_of (TooManySubscribers at) = Some at
place_of (RoomTooShort at) = Some at
place_of TunnelTaken = None
place_of ChannelForbids = None
place_of NotInPlan = None
place_of SetsBreakRule = None
place_of OtherIndex = None
place_of Closed = None
place_of StoreFull = None
place_of OnePort = None
place_of LinksFull = None
place_of NotLinks = None

-- what an answer is in the documents' numbers: 0 where it is no refusal, else the number of the refusal
abbrev pub number_said : {A : Type 0} → Result A Refusal → ℕ
number_said (Ok _) = 0
number_said (Err r) = number_of r

-- and its place; what is no refusal has none
abbrev pub place_said : {A : Type 0} → Result A Refusal → Option ℕ
place_said (Ok _) = None
place_said (Err r) = place_of r

-- a refusal is the answer, and what follows is not done; else what follows, of the value
infixl 10 ◌>>=◌
abbrev pub ◌>>=◌ : {A B : Type 0} → Result A Refusal → (A → Result B Refusal) → Result B Refusal
Ok a >>= f = f a
Err r >>= f = Err r

-- the refusal where the test fails, else what follows
abbrev pub unless : {A : Type 0} → Bool → Refusal → Result A Refusal → Result A Refusal
unless true r rest = rest
unless false r rest = Err r

-- a table of tests, each with the refusal that there is where it fails: the first of these
abbrev pub first_unmet : List (Bool × Refusal) → Result ⊤ Refusal
first_unmet [] = Ok tt
first_unmet (row ∷ rows) = unless row.0 row.1 (first_unmet rows)
