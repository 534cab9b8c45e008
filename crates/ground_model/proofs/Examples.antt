-- Small cases worked by hand; the checker computes each.
use Rattle.std.proofs.Common.{◌≡◌, true, false, List, [], ◌∷◌, map, None, refl, lit≤}
use Rattle.std.specs.Prelude.{count_by}
use Rattle.std.specs.List.{list_any}
use Rattle.service_model.specs.declared.journal.Entry.{Entry}
use Rattle.service_model.specs.declared.journal.What.TheVariants.{Committed, Answered}
use Rattle.service_model.specs.Standing.{Standing, client_of, newcomer}
use Rattle.service_model.proofs.Examples.{two_files}
use Rattle.ground_model.specs.Fronts.{AreOfTurn, is_change, is_pending, is_told}
use Rattle.ground_model.specs.Scenes.{held_by}

-- ---- moments

-- two commits, each with its line's answer: the first was done at moment 5, the second at moment 9
abbrev one : Entry
one = record { client = 1; line = 3; what = Committed (record { object = 1; serial = 2 } ∷ []) 5 }

abbrev one_answered : Entry
one_answered = record { client = 1; line = 3; what = Answered }

abbrev two : Entry
two = record { client = 2; line = 3; what = Committed (record { object = 1; serial = 3 } ∷ []) 9 }

abbrev two_answered : Entry
two_answered = record { client = 2; line = 3; what = Answered }

abbrev both : List Entry
both = one ∷ one_answered ∷ two ∷ two_answered ∷ []

-- a crash at moment 7 has the first one for certain
told_at_seven : map (is_told 7) both ≡ true ∷ false ∷ false ∷ false ∷ []
told_at_seven = refl

-- .. so the rest that it may have lost is from the second one on,
lost_at_seven : list_any (is_told 7) (two ∷ two_answered ∷ []) ≡ false
lost_at_seven = refl

-- but not from the first one on
not_lost_at_seven : list_any (is_told 7) both ≡ true
not_lost_at_seven = refl

-- and of what it has one is not acknowledged at the most
pending_at_seven : count_by (is_pending 7) both ≡ 1
pending_at_seven = refl

-- at moment 4 both are pending, and a crash that had both would be refused
pending_at_four : count_by (is_pending 4) both ≡ 2
pending_at_four = refl

-- the second commit and its answer are the entries of one turn that returned at moment 9
a_turn : AreOfTurn 9 (two ∷ two_answered ∷ [])
a_turn = record { moments = refl; one = lit≤ tt }

-- all four are not
no_turn : count_by is_change both ≡ 2
no_turn = refl

-- ---- numbers of clients

-- Client 1 holds three blocks. Number 0 is no client's, although a look at it shows client 1.
abbrev holding : Standing
holding = record { state = two_files; clients = record { answers = []; update = None; held = 3; noted = [] } ∷ newcomer ∷ []; made = []; upkeep = None; moment = 0; latest = 1 }

who_holds : (held_by holding 0 ∷ held_by holding 1 ∷ held_by holding 2 ∷ held_by holding 3 ∷ []) ≡ 0 ∷ 3 ∷ 0 ∷ 0 ∷ []
who_holds = refl

zero_shows_one : (client_of holding 0).held ≡ 3
zero_shows_one = refl
