-- What is kept of the versions of a file, and that it stays where a commit reference or members change.
use Rattle.std.proofs.Common.{◌≡◌, ◌≢◌, ℕ, zero, suc, ◌+◌, ◌-◌, ◌<◌, List, [], ◌∷◌, ◌++◌, length, length-append, Option, Some, None, option_map, refl, sym, ap, ◌∙◌, arith, slice_get, get_or, map, if◌then◌else◌}
use Rattle.std.specs.Option.{is_none}
use Rattle.std.specs.List.{fold}
use Rattle.afs_base.specs.declared.head.Head.{Head}
use Rattle.store_model.specs.Laid.{LaidVersion, LaidFile, last_laid}
use Rattle.store_model.specs.Changes.{changed_at, file_with}
use Rattle.store_model.proofs.Edits.{some_is, none_some, changed_length, map_changed}
use Rattle.store_check.specs.declared.chain.FoundFile.{FoundFile}
use Rattle.store_check.specs.Counts.{kept_in}
use Rattle.store_check.specs.Versions.{shown_of}
use Rattle.store_check.specs.Files.{first_serial, kept_by, own_pages, unset_base, chain_of}
use Rattle.recovery.specs.Opening.{head_of, heads_of}

-- ---- an item of a list that was mapped

pub record MapAt {X Y : Type 0} (f : X → Y) (xs : List X) (k : ℕ) (y : Y) : Type 0 where
  pub item : X
  pub listed : slice_get xs k ≡ Some item
  pub is : f item ≡ y

pub map_at : {X Y : Type 0} (f : X → Y) (xs : List X) (k : ℕ) (y : Y) → slice_get (map f xs) k ≡ Some y → MapAt f xs k y
map_at f [] k y e = none_some e
map_at f (x ∷ xs) zero y e = record { item = x; listed = refl; is = some_is e }
map_at f (x ∷ xs) (suc k) y e =
    let m : MapAt f xs k y = map_at f xs k y e in
    record { item = m.item; listed = m.listed; is = m.is }

pub map_get : {X Y : Type 0} (f : X → Y) (xs : List X) (k : ℕ) → slice_get (map f xs) k ≡ option_map f (slice_get xs k)
map_get f [] k = refl
map_get f (x ∷ xs) zero = refl
map_get f (x ∷ xs) (suc k) = map_get f xs k

pub map_long : {X Y : Type 0} (f : X → Y) (xs : List X) → length (map f xs) ≡ length xs
map_long f [] = refl
map_long f (x ∷ xs) = ap (λ n. suc n) (map_long f xs)

-- an item that was indexed
pub get_is : {X : Type 0} (xs : List X) (i : ℕ) (x : X) → i < length xs → x ≡ get_or xs i x → slice_get xs i ≡ Some x
get_is [] i x low e = absurd (omega (arith, low))
get_is (y ∷ ys) zero x low e = ap Some (sym e)
get_is (y ∷ ys) (suc i) x low e = get_is ys i x (omega (arith, low)) e

-- an item of a list is one of a longer one
pub get_within : {X : Type 0} (xs ys : List X) (j : ℕ) → j < length xs → slice_get (xs ++ ys) j ≡ slice_get xs j
get_within [] ys j low = absurd (omega (arith, low))
get_within (x ∷ xs) ys zero low = refl
get_within (x ∷ xs) ys (suc j) low = get_within xs ys j (omega (arith, low))

pub length_more : {X : Type 0} (xs : List X) (x : X) → length (xs ++ x ∷ []) ≡ length xs + 1
length_more xs x = length-append xs (x ∷ [])

-- lists with the same items are the same
pub same_items : {X : Type 0} (xs ys : List X) → length xs ≡ length ys → ((j : ℕ) → j < length xs → slice_get xs j ≡ slice_get ys j) → xs ≡ ys
same_items [] [] long same = refl
same_items [] (y ∷ ys) long same = absurd (omega (arith, long))
same_items (x ∷ xs) [] long same = absurd (omega (arith, long))
same_items (x ∷ xs) (y ∷ ys) long same =
    let head : x ≡ y = some_is (same 0 (omega arith)) in
    ap (λ z. z ∷ xs) head ∙ ap (λ l. y ∷ l) (same_items xs ys (omega (arith, long)) (λ j low. same (suc j) (omega (arith, low))))

-- ---- what is kept of a file

pub record KeptOf (versions : List LaidVersion) (chain : FoundFile) : Type 0 where
  pub last : LaidVersion
  pub is : last_laid versions ≡ Some last
  pub shown : chain.last ≡ shown_of last
  pub unset : chain.unset ≡ unset_base versions

kept_from : (versions : List LaidVersion) (chain : FoundFile) (o : Option LaidVersion) → last_laid versions ≡ o
    → option_map (λ last. record { last = shown_of last; first = first_serial versions; unset = unset_base versions; kept = kept_by versions }) o ≡ Some chain
    → KeptOf versions chain
kept_from versions chain None is e = none_some e
kept_from versions chain (Some last) is e =
    let same : record { last = shown_of last; first = first_serial versions; unset = unset_base versions; kept = kept_by versions } ≡ chain = some_is e in
    record {
      last = last;
      is = is;
      shown = ap (λ (c : FoundFile). c.last) (sym same);
      unset = ap (λ (c : FoundFile). c.unset) (sym same);
    }

pub kept_of : (versions : List LaidVersion) (chain : FoundFile) → chain_of versions ≡ Some chain → KeptOf versions chain
kept_of versions chain e = kept_from versions chain (last_laid versions) refl e

none_from : (versions : List LaidVersion) (o : Option LaidVersion) → last_laid versions ≡ o
    → option_map (λ (last : LaidVersion). (let c : FoundFile = record { last = shown_of last; first = first_serial versions; unset = unset_base versions; kept = kept_by versions } in c)) o ≡ None
    → last_laid versions ≡ None
none_from versions None is e = is
none_from versions (Some last) is e = none_some (sym e)

pub kept_none : (versions : List LaidVersion) → chain_of versions ≡ None → last_laid versions ≡ None
kept_none versions e = none_from versions (last_laid versions) refl e

shown_from : (versions : List LaidVersion) (o : Option LaidVersion)
    → option_map shown_of o
    ≡ option_map (λ (chain : FoundFile). chain.last)
    (option_map (λ last. record { last = shown_of last; first = first_serial versions; unset = unset_base versions; kept = kept_by versions }) o)
shown_from versions None = refl
shown_from versions (Some v) = refl

-- the last version of a file is the one that is kept
pub chain_shown : (versions : List LaidVersion) (o : Option FoundFile) → chain_of versions ≡ o
    → option_map shown_of (last_laid versions) ≡ option_map (λ (chain : FoundFile). chain.last) o
chain_shown versions o e = shown_from versions (last_laid versions) ∙ ap (option_map (λ (chain : FoundFile). chain.last)) e

-- ---- the link that is outstanding

pub unset_last : (versions : List LaidVersion) (place : ℕ) (base : LaidVersion) → slice_get versions place ≡ Some base → length versions ≡ suc (suc place)
    → base.commit ≡ None → unset_base versions ≡ Some base.block
unset_last [] place base e long nil = none_some e
unset_last (a ∷ []) place base e long nil = absurd (omega (arith, long))
unset_last (a ∷ b ∷ []) zero base e long nil =
    let is : a ≡ base = some_is e in
    ap (λ (v : LaidVersion). unset_base (v ∷ b ∷ [])) is ∙ ap (λ o. (if is_none o then Some base.block else None)) nil
unset_last (a ∷ b ∷ []) (suc place) base e long nil = absurd (omega (arith, long))
unset_last (a ∷ b ∷ c ∷ vs) zero base e long nil = absurd (omega (arith, long))
unset_last (a ∷ b ∷ c ∷ vs) (suc place) base e long nil = unset_last (b ∷ c ∷ vs) place base e (omega (arith, long)) nil

-- no link of these versions is outstanding
abbrev AreSet : List LaidVersion → Type 0
AreSet versions = (place : ℕ) (base next : LaidVersion) → slice_get versions place ≡ Some base → slice_get versions (suc place) ≡ Some next → base.commit ≢ None

set_base : (o : Option ℕ) (n : ℕ) → o ≢ None → (if is_none o then Some n else None) ≡ None
set_base None n some = absurd (some refl)
set_base (Some m) n some = refl

pub unset_none : (versions : List LaidVersion) → AreSet versions → unset_base versions ≡ None
unset_none [] set = refl
unset_none (a ∷ []) set = refl
unset_none (a ∷ b ∷ []) set = set_base a.commit a.block (set 0 a b refl refl)
unset_none (a ∷ b ∷ c ∷ vs) set = unset_none (b ∷ c ∷ vs) (λ place. set (suc place))

-- ---- heads

-- a change that leaves what a head tells
pub record KeepsHead (change : LaidVersion → LaidVersion) : Type 0 where
  pub serial : (v : LaidVersion) → (change v).serial ≡ v.serial
  pub block : (v : LaidVersion) → (change v).block ≡ v.block
  pub own : (v : LaidVersion) → own_pages (change v) ≡ own_pages v

first_kept : (change : LaidVersion → LaidVersion) (place : ℕ) (versions : List LaidVersion) → KeepsHead change
    → first_serial (changed_at change place versions) ≡ first_serial versions
first_kept change place [] keeps = refl
first_kept change zero (v ∷ vs) keeps = keeps.serial v
first_kept change (suc place) (v ∷ vs) keeps = refl

-- a sum stays where an item is changed to one that counts the same
sum_from : {X : Type 0} (f : X → ℕ) (change : X → X) (place : ℕ) (xs : List X) (n : ℕ) → ((x : X) → f (change x) ≡ f x)
    → fold (λ a x. a + f x) n (changed_at change place xs) ≡ fold (λ a x. a + f x) n xs
sum_from f change place [] n same = refl
sum_from f change zero (x ∷ xs) n same = ap (λ m. fold (λ a y. a + f y) (n + m) xs) (same x)
sum_from f change (suc place) (x ∷ xs) n same = sum_from f change place xs (n + f x) same

own_kept : (change : LaidVersion → LaidVersion) (place : ℕ) (versions : List LaidVersion) → KeepsHead change
    → kept_by (changed_at change place versions) ≡ kept_by versions
own_kept change place versions keeps = sum_from own_pages change place versions 0 keeps.own

-- what a head tells of the last version
record Tip : Type 0 where
  block : ℕ
  serial : ℕ

tip_of : LaidVersion → Tip
tip_of v = record { block = v.block; serial = v.serial }

head_from : ℕ → ℕ → Option Tip → Option Head
head_from first kept tip = option_map (λ t. record { block = t.block; first = first; serial = t.serial; kept = kept }) tip

head_is : (versions : List LaidVersion) → head_of versions ≡ head_from (first_serial versions) (kept_by versions) (option_map tip_of (last_laid versions))
unfolding tip_of head_from
head_is versions = of (last_laid versions)
  where
    of : (o : Option LaidVersion)
        → option_map (λ last. (let h : Head = record { block = last.block; first = first_serial versions; serial = last.serial; kept = kept_by versions } in h)) o
        ≡ head_from (first_serial versions) (kept_by versions) (option_map tip_of o)
    of None = refl
    of (Some v) = refl

tip_same : (v w : LaidVersion) → v.block ≡ w.block → v.serial ≡ w.serial → tip_of v ≡ tip_of w
unfolding tip_of
tip_same v w b s = ap (λ n. (let t : Tip = record { block = n; serial = v.serial } in t)) b ∙ ap (λ n. (let t : Tip = record { block = w.block; serial = n } in t)) s

tip_kept : (change : LaidVersion → LaidVersion) (place : ℕ) (versions : List LaidVersion) → KeepsHead change
    → option_map tip_of (last_laid (changed_at change place versions)) ≡ option_map tip_of (last_laid versions)
unfolding tip_of
tip_kept change place versions keeps =
    let tips : map tip_of (changed_at change place versions) ≡ map tip_of versions =
    map_changed tip_of change place versions (λ v. tip_same (change v) v (keeps.block v) (keeps.serial v)) in
    let long : length (changed_at change place versions) ≡ length versions = changed_length change place versions in
    sym (map_get tip_of (changed_at change place versions) (length (changed_at change place versions) - 1))
    ∙ ap (λ n. slice_get (map tip_of (changed_at change place versions)) (n - 1)) long
    ∙ ap (λ l. slice_get l (length versions - 1)) tips
    ∙ map_get tip_of versions (length versions - 1)

pub head_kept : (change : LaidVersion → LaidVersion) (place : ℕ) (versions : List LaidVersion) → KeepsHead change
    → head_of (changed_at change place versions) ≡ head_of versions
head_kept change place versions keeps =
    head_is (changed_at change place versions)
    ∙ ap (λ n. head_from n (kept_by (changed_at change place versions)) (option_map tip_of (last_laid (changed_at change place versions)))) (first_kept change place versions keeps)
    ∙ ap (λ n. head_from (first_serial versions) n (option_map tip_of (last_laid (changed_at change place versions)))) (own_kept change place versions keeps)
    ∙ ap (λ o. head_from (first_serial versions) (kept_by versions) o) (tip_kept change place versions keeps)
    ∙ sym (head_is versions)

pub heads_kept : (change : LaidVersion → LaidVersion) (place k : ℕ) (files : List LaidFile) → KeepsHead change
    → heads_of (changed_at (file_with change place) k files) ≡ heads_of files
heads_kept change place k files keeps =
    map_changed (λ (file : LaidFile). head_of file.versions) (file_with change place) k files (λ file. head_kept change place file.versions keeps)

pub kept_kept : (change : LaidVersion → LaidVersion) (place k : ℕ) (files : List LaidFile) → KeepsHead change
    → kept_in (changed_at (file_with change place) k files) ≡ kept_in files
kept_kept change place k files keeps =
    sum_from (λ (file : LaidFile). kept_by file.versions) (file_with change place) k files 0 (λ file. own_kept change place file.versions keeps)
