-- Lists of parts, place by place.
use Rattle.std.proofs.Common.{◌≡◌, ℕ, zero, suc, ◌+◌, ◌<◌, List, [], ◌∷◌, map, drop, length, refl, sym, ap, subst, ◌∙◌, Option, Some, None, option_map, arith, slice_get, slice_set, add-one, ◌≤◌}
use Rattle.std.specs.Option.{option_map_or}
use Rattle.std.specs.List.{AllByRecursion}
use Rattle.joint_flush.specs.Joint.{Part}

abbrev pub number_of : Part → ℕ
number_of part = part.number

pub part_is : (x y : Part) → Some x ≡ Some y → x ≡ y
part_is x y e = ap (λ (o : Option Part). option_map_or (λ (z : Part). z) o x) e

-- what holds of all holds of one
pub each_at : (P : Part → Type 0) (parts : List Part) (k : ℕ) (part : Part) → AllByRecursion P parts → slice_get parts k ≡ Some part → P part
each_at P [] k part all at = absurd (cc)
each_at P (x ∷ parts) zero part all at = subst P (part_is x part at) all.0
each_at P (x ∷ parts) (suc k) part all at = each_at P parts k part all.1 at

-- .. and of all still, where it holds of one that is put in
pub each_set : (P : Part → Type 0) (parts : List Part) (k : ℕ) (part : Part) → AllByRecursion P parts → P part → AllByRecursion P (slice_set parts k part)
each_set P [] k part all own = all
each_set P (x ∷ parts) zero part all own = (own, all.1)
each_set P (x ∷ parts) (suc k) part all own = (all.0, each_set P parts k part all.1 own)

pub each_map : (P Q : Part → Type 0) (parts : List Part) → ((part : Part) → P part → Q part) → AllByRecursion P parts → AllByRecursion Q parts
each_map P Q [] to all = tt
each_map P Q (x ∷ parts) to all = (to x all.0, each_map P Q parts to all.1)

-- the numbers
pub number_at : (parts : List Part) (k : ℕ) → slice_get (map number_of parts) k ≡ option_map number_of (slice_get parts k)
number_at [] k = refl
number_at (x ∷ parts) zero = refl
number_at (x ∷ parts) (suc k) = number_at parts k

pub numbers_set : (parts : List Part) (k : ℕ) (part more : Part) → slice_get parts k ≡ Some part → more.number ≡ part.number
    → map number_of (slice_set parts k more) ≡ map number_of parts
numbers_set [] k part more at same = refl
numbers_set (x ∷ parts) zero part more at same = ap (λ (n : ℕ). n ∷ map number_of parts) (same ∙ sym (ap number_of (part_is x part at)))
numbers_set (x ∷ parts) (suc k) part more at same = ap (λ (ns : List ℕ). x.number ∷ ns) (numbers_set parts k part more at same)

pub count_numbers : (parts : List Part) → length (map number_of parts) ≡ length parts
count_numbers [] = refl
count_numbers (x ∷ parts) = ap suc (count_numbers parts)

-- one that is found lies within, and one past the end is not found
pub found_within : (parts : List Part) (k : ℕ) (part : Part) → slice_get parts k ≡ Some part → k < length parts
found_within [] k part at = absurd (cc)
found_within (x ∷ parts) zero part at = omega arith
found_within (x ∷ parts) (suc k) part at = (let rest = found_within parts k part at in omega (arith, rest))

pub none_past : (parts : List Part) (k : ℕ) → slice_get parts k ≡ None → length parts ≤ k
none_past [] k at = omega arith
none_past (x ∷ parts) zero at = absurd (cc)
none_past (x ∷ parts) (suc k) at = (let rest = none_past parts k at in omega (arith, rest))

-- ---- numbers

pub get_behind : (n : ℕ) (numbers : List ℕ) (k : ℕ) → slice_get (n ∷ numbers) (k + 1) ≡ slice_get numbers k
get_behind n numbers k = ap (λ (i : ℕ). slice_get (n ∷ numbers) i) (add-one k)

pub drop_behind : (n : ℕ) (numbers : List ℕ) (k : ℕ) → drop (k + 1) (n ∷ numbers) ≡ drop k numbers
drop_behind n numbers k = ap (λ (i : ℕ). drop i (n ∷ numbers)) (add-one k)

-- what is left from a place on begins with what stands there
pub drop_at : (numbers : List ℕ) (k : ℕ) → k < length numbers → (n : ℕ) × (slice_get numbers k ≡ Some n) × (drop k numbers ≡ n ∷ drop (k + 1) numbers)
drop_at [] k within = absurd (omega (arith, within))
drop_at (n ∷ numbers) zero within = (n, refl, refl)
drop_at (n ∷ numbers) (suc k) within =
    let rest = drop_at numbers k (omega (arith, within)) in
    (rest.0, rest.1, rest.2 ∙ ap (λ (ns : List ℕ). rest.0 ∷ ns) (sym (drop_behind n numbers (suc k) ∙ ap (λ (i : ℕ). drop i numbers) (sym (add-one k)))))
