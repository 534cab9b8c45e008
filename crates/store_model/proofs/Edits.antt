-- Lists with the item at one place changed.
use Rattle.std.proofs.Common.{◌≡◌, ◌≢◌, ℕ, zero, suc, ◌+◌, ◌-◌, ◌<◌, List, [], ◌∷◌, ◌++◌, length, Some, None, option_map, refl, sym, ap, ◌∙◌, arith, slice_get, length-append, map}
use Rattle.store_model.specs.Laid.{LaidVersion, LaidFile, last_laid}
use Rattle.store_model.specs.Members.{longer, with_version_at}
use Rattle.store_model.specs.Found.{LaidStore, version_in, file_in, state_in}
use Rattle.store_model.specs.Changes.{changed_at, file_with, store_with}

pub some_is : {X : Type 0} {x y : X} → Some x ≡ Some y → x ≡ y
some_is h = cc

pub none_some : {X : Type 0} {A : Type 0} {x : X} → None ≡ Some x → A
none_some h = absurd cc

pub changed_other : {X : Type 0} (g : X → X) (k j : ℕ) (xs : List X) → j ≢ k → slice_get (changed_at g k xs) j ≡ slice_get xs j
changed_other g k j [] h = refl
changed_other g zero zero (x ∷ xs) h = absurd (h refl)
changed_other g zero (suc j) (x ∷ xs) h = refl
changed_other g (suc k) zero (x ∷ xs) h = refl
changed_other g (suc k) (suc j) (x ∷ xs) h = changed_other g k j xs (λ e. h (ap (λ n. suc n) e))

pub changed_same : {X : Type 0} (g : X → X) (k : ℕ) (xs : List X) (x : X) → slice_get xs k ≡ Some x → slice_get (changed_at g k xs) k ≡ Some (g x)
changed_same g k [] x e = none_some e
changed_same g zero (y ∷ xs) x e = ap (option_map g) e
changed_same g (suc k) (y ∷ xs) x e = changed_same g k xs x e

pub changed_swap : {X : Type 0} (g h : X → X) (j k : ℕ) (xs : List X) → j ≢ k → changed_at g j (changed_at h k xs) ≡ changed_at h k (changed_at g j xs)
changed_swap g h j k [] d = refl
changed_swap g h zero zero (x ∷ xs) d = absurd (d refl)
changed_swap g h zero (suc k) (x ∷ xs) d = refl
changed_swap g h (suc j) zero (x ∷ xs) d = refl
changed_swap g h (suc j) (suc k) (x ∷ xs) d = ap (λ l. x ∷ l) (changed_swap g h j k xs (λ e. d (ap (λ n. suc n) e)))

pub changed_twice : {X : Type 0} (g h : X → X) (k : ℕ) (xs : List X) → changed_at g k (changed_at h k xs) ≡ changed_at (λ x. g (h x)) k xs
changed_twice g h k [] = refl
changed_twice g h zero (x ∷ xs) = refl
changed_twice g h (suc k) (x ∷ xs) = ap (λ l. x ∷ l) (changed_twice g h k xs)

pub changed_alike : {X : Type 0} (g h : X → X) (k : ℕ) (xs : List X) (x : X) → slice_get xs k ≡ Some x → g x ≡ h x → changed_at g k xs ≡ changed_at h k xs
changed_alike g h k [] x e same = refl
changed_alike g h zero (y ∷ xs) x e same = let is : y ≡ x = some_is e in ap (λ z. z ∷ xs) (ap g is ∙ same ∙ ap h (sym is))
changed_alike g h (suc k) (y ∷ xs) x e same = ap (λ l. y ∷ l) (changed_alike g h k xs x e same)

pub changed_append : {X : Type 0} (g : X → X) (k : ℕ) (xs ys : List X) → k < length xs → changed_at g k (xs ++ ys) ≡ changed_at g k xs ++ ys
changed_append g k [] ys h = absurd (omega arith)
changed_append g zero (x ∷ xs) ys h = refl
changed_append g (suc k) (x ∷ xs) ys h = ap (λ l. x ∷ l) (changed_append g k xs ys (omega arith))

pub changed_length : {X : Type 0} (g : X → X) (k : ℕ) (xs : List X) → length (changed_at g k xs) ≡ length xs
changed_length g k [] = refl
changed_length g zero (x ∷ xs) = refl
changed_length g (suc k) (x ∷ xs) = ap (λ n. suc n) (changed_length g k xs)

pub longer_is : (place : ℕ) (version : LaidVersion) (files : List LaidFile) → with_version_at place version files ≡ changed_at (longer version) place files
longer_is place version [] = refl
longer_is zero version (file ∷ files) = refl
longer_is (suc place) version (file ∷ files) = ap (λ l. file ∷ l) (longer_is place version files)

-- ---- items

pub get_append : {X : Type 0} (xs ys : List X) (k : ℕ) (x : X) → slice_get xs k ≡ Some x → slice_get (xs ++ ys) k ≡ Some x
get_append [] ys k x e = none_some e
get_append (y ∷ xs) ys zero x e = e
get_append (y ∷ xs) ys (suc k) x e = get_append xs ys k x e

pub get_past : {X : Type 0} (xs : List X) (x : X) → slice_get (xs ++ x ∷ []) (length xs) ≡ Some x
get_past [] x = refl
get_past (y ∷ xs) x = get_past xs x

pub within : {X : Type 0} (xs : List X) (k : ℕ) (x : X) → slice_get xs k ≡ Some x → k < length xs
within [] k x e = none_some e
within (y ∷ xs) zero x e = omega arith
within (y ∷ xs) (suc k) x e = let h : k < length xs = within xs k x e in omega arith

-- an item of a list with one more is of the list, or it is that one
pub get_more : {X : Type 0} (xs : List X) (y : X) (k : ℕ) (x : X) → slice_get (xs ++ y ∷ []) k ≡ Some x → k ≢ length xs → slice_get xs k ≡ Some x
get_more [] y zero x e h = absurd (h refl)
get_more [] y (suc k) x e h = none_some e
get_more (z ∷ xs) y zero x e h = e
get_more (z ∷ xs) y (suc k) x e h = get_more xs y k x e (λ i. h (ap (λ n. suc n) i))

pub last_past : (versions : List LaidVersion) (version : LaidVersion) → last_laid (versions ++ version ∷ []) ≡ Some version
last_past versions version =
    let more : length (versions ++ version ∷ []) ≡ length versions + 1 = length-append versions (version ∷ []) in
    let one : length (versions ++ version ∷ []) - 1 ≡ length versions = omega arith in
    ap (slice_get (versions ++ version ∷ [])) one ∙ get_past versions version

-- ---- what is seen of a list with one item changed

pub map_changed : {X Y : Type 0} (f : X → Y) (g : X → X) (k : ℕ) (xs : List X) → ((x : X) → f (g x) ≡ f x) → map f (changed_at g k xs) ≡ map f xs
map_changed f g k [] h = refl
map_changed f g zero (x ∷ xs) h = ap (λ y. y ∷ map f xs) (h x)
map_changed f g (suc k) (x ∷ xs) h = ap (λ l. f x ∷ l) (map_changed f g k xs h)

-- a function that takes a change along
pub map_changes : {X Y : Type 0} (f : X → Y) (g : X → X) (h : Y → Y) (k : ℕ) (xs : List X) → ((x : X) → f (g x) ≡ h (f x)) → map f (changed_at g k xs) ≡ changed_at h k (map f xs)
map_changes f g h k [] e = refl
map_changes f g h zero (x ∷ xs) e = ap (λ y. y ∷ map f xs) (e x)
map_changes f g h (suc k) (x ∷ xs) e = ap (λ l. f x ∷ l) (map_changes f g h k xs e)

-- a change that keeps what is found of each version keeps what is found of the store
pub state_same : (change : LaidVersion → LaidVersion) (k place : ℕ) (store : LaidStore) → ((v : LaidVersion) → version_in (change v) ≡ version_in v)
    → state_in (store_with change k place store) ≡ state_in store
state_same change k place store same =
    ap (λ files. record { format = store.root.format; blocks = store.root.blocks; key = store.root.key; files = files })
    (map_changed file_in (file_with change place) k store.files
    (λ file. ap (λ versions. record { generation = file.entry.generation; secret = file.entry.secret; versions = versions }) (map_changed version_in change place file.versions same)))
