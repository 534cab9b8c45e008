-- The blocks of the table, and those of a new file, after a file was changed.
use Rattle.std.proofs.Common.{◌≡◌, ◌≢◌, ◌⊎◌, inl, inr, ℕ, zero, suc, ◌+◌, ◌-◌, ◌*◌, ◌/◌, ◌^◌, ◌<◌, ◌≤◌, ◌==◌, Bool, true, false, not, ◌&&◌, ◌||◌, nat_eq, nat_lt, cond, List, [], ◌∷◌, ◌++◌, map, take, drop, length, count_by, option_to_list, Option, Some, None, refl, sym, ap, ◌∙◌, subst, arith}
use Rattle.std.specs.Prelude.{slice_get, slice_set, if◌then◌else◌}
use Rattle.std.specs.List.{list_any}
use Rattle.std.specs.Option.{option_map_or}
use Rattle.std.proofs.lemmas.Bool.{cases_eq, cases_lt, lt-ltb}
use Rattle.std.proofs.lemmas.List.{drop-map, drop-set-add, drop-set-lt, take-map, take-set-le}
use Rattle.std.proofs.lemmas.List.Sums.{sum_by_push}
use Rattle.tree_model.specs.declared.step.Step.{Step}
use Rattle.tree_model.specs.States.{State, File, Version, file_of, group_of, is_used, last_of, table_blocks}
use Rattle.tree_model.specs.Trees.{numbers_below}
use Rattle.service_model.specs.Entries.{committed_in, next_version, on_file, with_file, with_next}
use Rattle.service_model.specs.Standing.{Work}
use Rattle.service_model.specs.Upkeep.{first_open, is_open_entry, new_blocks, new_object}
use Rattle.service_model.proofs.Files.{listed_at}

-- ---- generations

abbrev generations : List File → List ℕ
generations files = map (λ (file : File). file.generation) files

any_map : {X Y : Type 0} (p : Y → Bool) (f : X → Y) (xs : List X) → list_any p (map f xs) ≡ list_any (λ x. p (f x)) xs
any_map p f [] = refl
any_map p f (x ∷ xs) = ap (λ b. p (f x) || b) (any_map p f xs)

-- whether a group of entries is used is told by the generations
used_in : (files : List File) (j : ℕ) → is_used (group_of files j) ≡ list_any (nat_lt 0) (take 63 (drop (63 * j) (generations files)))
used_in files j =
    sym (any_map (nat_lt 0) (λ (file : File). file.generation) (take 63 (drop (63 * j) files)))
    ∙ ap (list_any (nat_lt 0)) (sym (take-map (λ (file : File). file.generation) 63 (drop (63 * j) files)))
    ∙ ap (λ l. list_any (nat_lt 0) (take 63 l)) (sym (drop-map (λ (file : File). file.generation) (63 * j) files))

same_used : (files others : List File) → generations files ≡ generations others → (j : ℕ) → is_used (group_of files j) ≡ is_used (group_of others j)
same_used files others e j =
    used_in files j ∙ ap (λ l. list_any (nat_lt 0) (take 63 (drop (63 * j) l))) e ∙ sym (used_in others j)

-- two states whose tables have the same format and the same generations
pub record AreTablesAlike (state other : State) : Type 0 where
  pub format : state.format ≡ other.format
  pub generations : generations state.files ≡ generations other.files

pub same_table : (state other : State) → AreTablesAlike state other → table_blocks state ≡ table_blocks other
same_table state other alike =
    ap (λ n. if nat_eq n 1 then 1 else 1 + count_by (λ j. is_used (group_of state.files j)) (numbers_below 64)) alike.format
    ∙ (λ i. if nat_eq other.format 1 then 1 else 1 + count_by (λ j. same_used state.files other.files alike.generations j i) (numbers_below 64))

pub same_new : (state other : State) (object : ℕ) → AreTablesAlike state other → new_blocks state object ≡ new_blocks other object
same_new state other object alike =
    ap (λ n. if n == 1 then 1 else if is_used (group_of state.files ((object - 1) / 63)) then 1 else 2) alike.format
    ∙ ap (λ b. if other.format == 1 then 1 else if b then 1 else 2) (same_used state.files other.files alike.generations ((object - 1) / 63))

-- ---- one file changed

set_same_by : {Y : Type 0} (f : File → Y) (files : List File) (i : ℕ) (file new : File) → slice_get files i ≡ Some file → f new ≡ f file
    → map f (slice_set files i new) ≡ map f files
set_same_by f [] i file new at e = refl
set_same_by f (x ∷ files) zero file new at e =
    let both : Some x ≡ Some file = at in
    let same : x ≡ file = cc both in
    ap (λ y. y ∷ map f files) (e ∙ ap f (sym same))
set_same_by f (x ∷ files) (suc i) file new at e = ap (λ l. f x ∷ l) (set_same_by f files i file new at e)

-- what is so of a state and of one with another file is so of a state after a change
pub on_file_by : (P : State → Type 0) (state : State) (object : ℕ) (change : File → File) → P state
    → ((file : File) → file_of state object ≡ Some file → P (with_file state object (change file))) → P (on_file state object change)
on_file_by P state object change same other = by (file_of state object) refl
  where
    by : (o : Option File) → file_of state object ≡ o → P (option_map_or (λ file. with_file state object (change file)) o state)
    by None e = same
    by (Some file) e = other file e

-- a change that leaves the generation leaves the table
pub table_stays : (state : State) (object : ℕ) (change : File → File) → ((file : File) → (change file).generation ≡ file.generation)
    → AreTablesAlike (on_file state object change) state
table_stays state object change stays =
    on_file_by (λ x. AreTablesAlike x state) state object change (record { format = refl; generations = refl })
    (λ file e. record {
      format = refl;
      generations =
          set_same_by (λ (x : File). x.generation) state.files (object - 1) file (change file) (listed_at state object file e) (stays file);
    })

pub blocks_stay : (state : State) (object : ℕ) (change : File → File) → (on_file state object change).blocks ≡ state.blocks
blocks_stay state object change = on_file_by (λ x. x.blocks ≡ state.blocks) state object change refl (λ file e. refl)

-- ---- a commit

abbrev pub is_open_in : List File → List Bool
is_open_in files = map is_open_entry files

abbrev first_true : ℕ → List Bool → Option ℕ
first_true n [] = None
first_true n (b ∷ bs) = if b then Some n else first_true (suc n) bs

open_by : (n : ℕ) (files : List File) → first_open n files ≡ first_true n (map is_open_entry files)
open_by n [] = refl
open_by n (file ∷ files) = ap (λ o. if is_open_entry file then Some n else o) (open_by (suc n) files)

live_more : (steps : List Step) (vs : List Version)
    → nat_lt 0 (length (vs ++ map (next_version steps) (option_to_list (last_of vs)))) ≡ nat_lt 0 (length vs)
live_more steps [] = refl
live_more steps (v ∷ vs) = some (length (vs ++ map (next_version steps) (option_to_list (last_of (v ∷ vs))))) ∙ sym (some (length vs))
  where
    some : (n : ℕ) → nat_lt 0 (suc n) ≡ true
    some n = lt-ltb 0 (suc n) (omega arith)

open_still : (steps : List Step) (file : File) → is_open_entry (with_next steps file) ≡ is_open_entry file
open_still steps file = ap (λ b. not b && nat_lt file.generation (2 ^ 32 - 1)) (live_more steps file.versions)

-- what a commit leaves of the table
pub record IsTableKept (state after : State) : Type 0 where
  pub blocks : after.blocks ≡ state.blocks
  pub tables : AreTablesAlike after state
  pub new : new_object after ≡ new_object state

next_kept : (state : State) (object : ℕ) (steps : List Step) → IsTableKept state (on_file state object (with_next steps))
next_kept state object steps = record {
  blocks = blocks_stay state object (with_next steps);
  tables = table_stays state object (with_next steps) (λ file. refl);
  new =
      on_file_by (λ x. new_object x ≡ new_object state) state object (with_next steps) refl
      (λ file e. open_by 1 (slice_set state.files (object - 1) (with_next steps file))
      ∙ ap (first_true 1) (set_same_by is_open_entry state.files (object - 1) file (with_next steps file) (listed_at state object file e) (open_still steps file))
      ∙ sym (open_by 1 state.files));
}

pub commit_kept : (ws : List Work) (state : State) → IsTableKept state (committed_in state ws)
commit_kept [] state = record { blocks = refl; tables = record { format = refl; generations = refl }; new = refl }
commit_kept (w ∷ ws) state =
    let one = next_kept state w.object w.steps in
    let rest = commit_kept ws (on_file state w.object (with_next w.steps)) in
    record {
      blocks = rest.blocks ∙ one.blocks;
      tables = record {
        format = rest.tables.format ∙ one.tables.format;
        generations = rest.tables.generations ∙ one.tables.generations;
      };
      new = rest.new ∙ one.new;
    }

-- ---- a new file

abbrev one : Bool → ℕ
one b = cond b 1 0

count_push : (p : ℕ → Bool) (xs : List ℕ) (n : ℕ) → count_by p (xs ++ n ∷ []) ≡ count_by p xs + one (p n)
count_push p xs n = sum_by_push (λ (x : ℕ). one (p x)) xs n

-- of the numbers below n so many more pass a test than another one, where they differ at one number alone
module _ (p q : ℕ → Bool) (a d : ℕ) (same : (j : ℕ) → j ≢ a → one (q j) ≤ one (p j)) (here : one (q a) ≤ one (p a) + d) where
  counts : (n : ℕ) → (n ≤ a → count_by q (numbers_below n) ≤ count_by p (numbers_below n))
      × (count_by q (numbers_below n) ≤ count_by p (numbers_below n) + d)
  unfolding numbers_below
  counts zero = (λ h. omega arith, omega arith)
  counts (suc n) = (λ h. before h (counts n), by (counts n) (cases_eq n a))
    where
      left : count_by q (numbers_below n ++ n ∷ []) ≡ count_by q (numbers_below n) + one (q n)
      left = count_push q (numbers_below n) n

      right : count_by p (numbers_below n ++ n ∷ []) ≡ count_by p (numbers_below n) + one (p n)
      right = count_push p (numbers_below n) n

      before : suc n ≤ a → (n ≤ a → count_by q (numbers_below n) ≤ count_by p (numbers_below n))
          × (count_by q (numbers_below n) ≤ count_by p (numbers_below n) + d)
          → count_by q (numbers_below n ++ n ∷ []) ≤ count_by p (numbers_below n ++ n ∷ [])
      before h rest =
          let few = rest.0 (omega (arith, h)) in
          let now = same n (λ e. (let no : ⊥ = omega (arith, h, e) in no)) in
          omega (arith, few, now, left, right)

      by : (n ≤ a → count_by q (numbers_below n) ≤ count_by p (numbers_below n))
          × (count_by q (numbers_below n) ≤ count_by p (numbers_below n) + d) → (n ≡ a) ⊎ (n ≢ a)
          → count_by q (numbers_below n ++ n ∷ []) ≤ count_by p (numbers_below n ++ n ∷ []) + d
      by rest (inl e) =
          let few = rest.0 (omega (arith, e)) in
          let F : ℕ → Type 0 = λ m. one (q m) ≤ one (p m) + d in
          let now = subst F (sym e) here in
          omega (arith, few, now, left, right)
      by rest (inr ne) =
          let few = rest.1 in
          let now = same n ne in
          omega (arith, few, now, left, right)

-- a group of entries in which no entry changed
other_group : (files : List File) (i j : ℕ) (file : File) → j ≢ i / 63 → group_of (slice_set files i file) j ≡ group_of files j
other_group files i j file ne = by (cases_lt i (63 * j))
  where
    by : (i < 63 * j) ⊎ (63 * j ≤ i) → group_of (slice_set files i file) j ≡ group_of files j
    by (inl before) = ap (take 63) (drop-set-lt (63 * j) files i file before)
    by (inr from) =
        let far : 63 ≤ i - 63 * j = omega (arith, from, ne) in
        let place : i ≡ 63 * j + (i - 63 * j) = omega (arith, from) in
        ap (λ n. take 63 (drop (63 * j) (slice_set files n file))) place
        ∙ ap (take 63) (drop-set-add (63 * j) files (i - 63 * j) file)
        ∙ take-set-le 63 (drop (63 * j) files) (i - 63 * j) file far

at_most_one : (b : Bool) → one b ≤ 1
at_most_one true = omega arith
at_most_one false = omega arith

one_more_used : (p q : Bool) → one q + 1 ≤ one p + (if p then 1 else 2)
one_more_used true q = (let few = at_most_one q in omega (arith, few))
one_more_used false q = (let few = at_most_one q in omega (arith, few))

-- the table grows by what a new file takes besides its version page
pub table_grows : (state : State) (object : ℕ) (file new : File) → table_blocks (with_file state object new) + 1 ≤ table_blocks state + new_blocks state object
table_grows state object file new = by (nat_eq state.format 1)
  where
    p : ℕ → Bool
    p j = is_used (group_of state.files j)

    by : (b : Bool) → (if b then 1 else 1 + count_by (λ j. is_used (group_of (slice_set state.files (object - 1) new) j)) (numbers_below 64)) + 1
        ≤ (if b then 1 else 1 + count_by (λ j. is_used (group_of state.files j)) (numbers_below 64))
        + (if b then 1 else if is_used (group_of state.files ((object - 1) / 63)) then 1 else 2)
    by true = omega arith
    by false =
        let taken : ℕ = if is_used (group_of state.files ((object - 1) / 63)) then 1 else 2 in
        let grows = (counts (λ j. is_used (group_of state.files j)) (λ j. is_used (group_of (slice_set state.files (object - 1) new) j)) ((object - 1) / 63)
        (taken - 1)
        (λ j ne. (let is = ap (λ l. one (is_used l)) (other_group state.files (object - 1) j new ne) in omega (arith, is)))
        (let more = one_more_used (is_used (group_of state.files ((object - 1) / 63))) (is_used (group_of (slice_set state.files (object - 1) new) ((object - 1) / 63))) in
        omega (arith, more)) 64).1 in
        let some : 1 ≤ taken = some_taken (is_used (group_of state.files ((object - 1) / 63))) in
        omega (arith, grows, some)
      where
        some_taken : (b : Bool) → 1 ≤ (if b then 1 else 2)
        some_taken true = omega arith
        some_taken false = omega arith
