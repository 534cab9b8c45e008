-- The first faults of versions made by hand. That the walk stops there is checked by computing.
use Rattle.std.proofs.Common.{◌≡◌, ℕ, List, [], ◌∷◌, Result, refl, ap, arith}
use Rattle.page_codec.specs.declared.why.Why.TheVariants as why
use Rattle.store_model.specs.Walk.{Blocks, Refused}
use Rattle.store_model.specs.Examples.{empty_slot, shared}
use Rattle.tree_listing.specs.FirstFault.{HasFault, IsFirstFault}
use Rattle.tree_listing.specs.FaultExamples.{below, four_pages, page_in, refused_at, six, top, two_faults, two_levels}
use Rattle.tree_listing.specs.Walk.{Entry, pages_from, pages_of_version}
use Rattle.tree_listing.proofs.Faults.{first_fault, first_fault_is_one, no_fault}

unfoldable walked : Blocks → ℕ → Result (List Entry) Refused
unfolding page_in pages_from pages_of_version
walked blocks root = pages_of_version blocks root

-- no page is at fault
abbrev IsFaultless : Blocks → ℕ → Type 0
IsFaultless blocks root = (path : List ℕ) (cause : Refused) → HasFault blocks root path cause → ⊥

pub all_lawful : IsFaultless (six four_pages) 1
unfolding walked
all_lawful = no_fault (six four_pages) 1 (([], []) ∷ (0 ∷ [], 10 ∷ []) ∷ (0 ∷ 0 ∷ [], 10 ∷ []) ∷ (1 ∷ [], 10 ∷ []) ∷ []) refl

pub no_such_root : IsFirstFault (six four_pages) 6 (refused_at 6 why.Reference)
unfolding walked
no_such_root = first_fault (six four_pages) 6 (refused_at 6 why.Reference) refl

pub no_such_leaf : IsFirstFault (six (top (shared 2) empty_slot ∷ below 1 (shared 6) ∷ [])) 1 (refused_at 2 why.Reference)
unfolding walked
no_such_leaf = first_fault (six (top (shared 2) empty_slot ∷ below 1 (shared 6) ∷ [])) 1 (refused_at 2 why.Reference) refl

-- `/0/0` comes before `/1`, though it is deeper
pub deeper_first : IsFirstFault (six two_faults) 1 (refused_at 4 why.Level)
unfolding walked
deeper_first = first_fault (six two_faults) 1 (refused_at 4 why.Level) refl

pub not_the_shallow : IsFirstFault (six two_faults) 1 (refused_at 5 why.Closed) → ⊥
not_the_shallow h = no (first_fault_is_one (six two_faults) 1 (refused_at 4 why.Level) (refused_at 5 why.Closed) deeper_first h)
  where
    no : refused_at 4 why.Level ≡ refused_at 5 why.Closed → ⊥
    no e = let k : 4 ≡ 5 = ap (λ (r : Refused). r.block) e in absurd (Prim.omega (arith, k))

-- slots ascend
pub lower_slot_first : IsFirstFault (six two_levels) 1 (refused_at 2 why.Level)
unfolding walked
lower_slot_first = first_fault (six two_levels) 1 (refused_at 2 why.Level) refl
