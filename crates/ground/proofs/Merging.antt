-- How many pairs of pages the clients of a run merged themselves, before and after a turn of one of them.
use Rattle.std.proofs.Common.{◌≡◌, ℕ, suc, ◌+◌, ◌-◌, ◌^◌, ◌≤◌, List, [], ◌∷◌, Option, Some, None, refl, sym, ap, ◌∙◌, subst, arith}
use Rattle.std.specs.Prelude.{min, option_and_then, slice_get, slice_set, sum_by}
use Rattle.std.specs.Option.{option_map_or}
use Rattle.std.proofs.lemmas.List.Sums.{get_or-le-sum_by, sum_by-cons, sum_by-set}
use Rattle.std.proofs.lemmas.Option.{get_or_from_slice_get, slice_get_within}
use Rattle.page_merge.specs.Jobs.{JobValue}
use Rattle.session.specs.Calls.{waiting_in}
use Rattle.session.specs.Values.{one_more}
use Rattle.session.specs.Walks.{CountsMerge}
use Rattle.session.specs.declared.session.Session.{Session}

abbrev own : Session → ℕ
own s = s.merges

-- ---- one client's number, and the number of all

one_in_all : (xs : List Session) (i : ℕ) (s s' : Session) → slice_get xs i ≡ Some s → sum_by own (slice_set xs i s') + s.merges ≡ sum_by own xs + s'.merges
one_in_all xs i s s' at =
    ap (λ (t : Session). sum_by own (slice_set xs i s') + own t) (sym (get_or_from_slice_get xs i s s at)) ∙ sum_by-set own xs i s' s (slice_get_within xs i s at)

one_within : (xs : List Session) (i : ℕ) (s : Session) → slice_get xs i ≡ Some s → s.merges ≤ sum_by own xs
one_within xs i s at = subst (λ (t : Session). own t ≤ sum_by own xs) (get_or_from_slice_get xs i s s at) (get_or-le-sum_by own xs i s (slice_get_within xs i s at))

counted_in_all : (waits offer : Option JobValue) (n n' all all' : ℕ) → all' + n ≡ all + n' → n ≤ all → CountsMerge waits offer n n'
    → CountsMerge waits offer (min all (2 ^ 64 - 1)) (min all' (2 ^ 64 - 1))
counted_in_all None offer n n' all all' sums low same = ap (λ m. min m (2 ^ 64 - 1)) (omega (arith, sums, same))
counted_in_all (Some job) offer n n' all all' sums low (same, more) = (
  λ is. (let still = same is in ap (λ m. min m (2 ^ 64 - 1)) (omega (arith, sums, still))),
  λ ne. (let one = more ne in omega (arith, sums, low, one)),
)

pub merged_in_all : (xs : List Session) (i : ℕ) (s s' : Session) (waits offer : Option JobValue) → slice_get xs i ≡ Some s → CountsMerge waits offer s.merges s'.merges
    → CountsMerge waits offer (min (sum_by own xs) (2 ^ 64 - 1)) (min (sum_by own (slice_set xs i s')) (2 ^ 64 - 1))
merged_in_all xs i s s' waits offer at counts =
    counted_in_all waits offer s.merges s'.merges (sum_by own xs) (sum_by own (slice_set xs i s')) (one_in_all xs i s s' at) (one_within xs i s at) counts

-- ---- before the first turn

pub none_merged : (xs : List Session) → ((i : ℕ) (s : Session) → slice_get xs i ≡ Some s → s.merges ≡ 0) → sum_by own xs ≡ 0
none_merged [] fresh = refl
none_merged (x ∷ xs) fresh =
    (let first = fresh 0 x refl in let rest = none_merged xs (λ i s at. fresh (suc i) s at) in let all = sum_by-cons own x xs in omega (arith, first, rest, all))
