-- Relations between two lists, place by place.
use Rattle.std.proofs.Common.{◌≡◌, ℕ, zero, suc, ◌<◌, List, [], ◌∷◌, ◌++◌, length, take, get_or, refl, ap, arith}
use Rattle.std.specs.List.{AllZip, slice_set}

-- the item at a place of the second list changes
pub zip_set : {A B : Type 0} (R : A → B → Type 0) (xs : List A) (ys : List B) (k : ℕ) (d : A)
    (y : B)
    → AllZip R xs ys → k < length xs → R (get_or xs k d) y → AllZip R xs (slice_set ys k y)
zip_set R [] [] k d y all inside one = absurd (omega (arith, inside))
zip_set R [] (b ∷ ys) k d y all inside one = absurd all
zip_set R (a ∷ xs) [] k d y all inside one = absurd all
zip_set R (a ∷ xs) (b ∷ ys) zero d y all inside one = (one, all.1)
zip_set R (a ∷ xs) (b ∷ ys) (suc k) d y all inside one =
    (all.0, zip_set R xs ys k d y all.1 (omega (arith, inside)) one)

-- the fronts of two lists
pub zip_take : {A B : Type 0} (R : A → B → Type 0) (xs : List A) (ys : List B) (k : ℕ)
    → AllZip R xs ys → AllZip R (take k xs) (take k ys)
zip_take R xs ys zero all = tt
zip_take R [] [] (suc k) all = tt
zip_take R [] (b ∷ ys) (suc k) all = absurd all
zip_take R (a ∷ xs) [] (suc k) all = absurd all
zip_take R (a ∷ xs) (b ∷ ys) (suc k) all = (all.0, zip_take R xs ys k all.1)

-- a weaker relation
pub zip_weaker : {A B : Type 0} (R Q : A → B → Type 0) → ((x : A) (y : B) → R x y → Q x y)
    → (xs : List A) (ys : List B) → AllZip R xs ys → AllZip Q xs ys
zip_weaker R Q weaker [] [] all = tt
zip_weaker R Q weaker [] (b ∷ ys) all = absurd all
zip_weaker R Q weaker (a ∷ xs) [] all = absurd all
zip_weaker R Q weaker (a ∷ xs) (b ∷ ys) all = (weaker a b all.0, zip_weaker R Q weaker xs ys all.1)

-- each item with itself
pub zip_same : {A : Type 0} (R : A → A → Type 0) → ((x : A) → R x x) → (xs : List A)
    → AllZip R xs xs
zip_same R one [] = tt
zip_same R one (x ∷ xs) = (one x, zip_same R one xs)

-- lists of which R holds are as long
pub zip_length : {A B : Type 0} (R : A → B → Type 0) (xs : List A) (ys : List B) → AllZip R xs ys
    → length ys ≡ length xs
zip_length R [] [] all = refl
zip_length R [] (b ∷ ys) all = absurd all
zip_length R (a ∷ xs) [] all = absurd all
zip_length R (a ∷ xs) (b ∷ ys) all = ap suc (zip_length R xs ys all.1)

-- The parts of a list that go with those of another: what comes before an item, this item, and what
-- comes after it.
pub record ZipParts {A B : Type 0} (R : A → B → Type 0) (xs : List A) (before_y : List B) (y : B)
    (after_y : List B) : Type 0 where
  pub before : List A
  pub item : A
  pub after : List A
  pub are : xs ≡ before ++ item ∷ after
  pub front : AllZip R before before_y
  pub one : R item y
  pub back : AllZip R after after_y

pub zip_parts : {A B : Type 0} (R : A → B → Type 0) (xs : List A) (before : List B) (y : B)
    (after : List B) → AllZip R xs (before ++ y ∷ after) → ZipParts R xs before y after
zip_parts R [] [] y after all = absurd all
zip_parts R [] (b ∷ before) y after all = absurd all
zip_parts R (a ∷ xs) [] y after all = record {
  before = [];
  item = a;
  after = xs;
  are = refl;
  front = tt;
  one = all.0;
  back = all.1;
}
zip_parts R (a ∷ xs) (b ∷ before) y after all =
    let rest = zip_parts R xs before y after all.1 in record {
      before = a ∷ rest.before;
      item = rest.item;
      after = rest.after;
      are = ap (λ ys. a ∷ ys) rest.are;
      front = (all.0, rest.front);
      one = rest.one;
      back = rest.back;
    }
