-- A state that has the numbers of any table and heads of as many objects: what is shown where contents are not told.
use Rattle.std.proofs.Common.{◌≡◌, ℕ, Bool, ◌+◌, ◌-◌, cond, List, [], ◌∷◌, length, map, replicate, sum_by, Option, Some, None, refl, sym, ap, ◌∙◌, arith}
use Rattle.std.specs.FinMap as finmap
use Rattle.std.specs.Option.{is_some}
use Rattle.std.proofs.lemmas.List.{length-replicate}
use Rattle.std.proofs.lemmas.List.Folds.{sum_by-replicate}
use Rattle.std.proofs.lemmas.List.Sums.{sum_by-cons}
use Rattle.page_codec.specs.Values.{EntryValue, TableValue}
use Rattle.tree_model.specs.States.{State, File, Version, is_live}
use Rattle.service_model.specs.Standing.{kept_blocks}
use Rattle.afs_base.specs.declared.head.Head.{Head}
use Rattle.store_commands.specs.Counting.{head_kept, head_versions}
use Rattle.store_commands.proofs.Counted.{HasCounts}
use Rattle.store_commands.proofs.Sums.{some_above}

-- a version with so many fresh paths
abbrev version_with : ℕ → Version
version_with n = record { serial = 0; tree = finmap.empty; fresh = replicate n [] }

abbrev versions_of : Option Head → List Version
versions_of None = []
versions_of (Some head) = version_with head.kept ∷ replicate (head.serial - head.first) (version_with 0)

abbrev file_of : EntryValue → Option Head → File
file_of entry head = record { generation = entry.generation; secret = entry.secret; versions = versions_of head }

abbrev files_of : List EntryValue → List (Option Head) → List File
files_of [] heads = []
files_of (entry ∷ entries) [] = []
files_of (entry ∷ entries) (head ∷ heads) = file_of entry head ∷ files_of entries heads

-- the state with these numbers
abbrev pub shown : TableValue → List (Option Head) → State
shown table heads = record { format = table.format; blocks = table.blocks; key = table.key; files = files_of table.entries heads }

generations_same : (entries : List EntryValue) (heads : List (Option Head)) → length heads ≡ length entries
    → map (λ (e : EntryValue). e.generation) entries ≡ map (λ (f : File). f.generation) (files_of entries heads)
generations_same [] heads even = refl
generations_same (entry ∷ entries) [] even = absurd (omega (arith, even))
generations_same (entry ∷ entries) (head ∷ heads) even = ap (λ ns. entry.generation ∷ ns) (generations_same entries heads (omega (arith, even)))

sums_along : (f : Option Head → ℕ) (g : File → ℕ) (entries : List EntryValue) (heads : List (Option Head)) → length heads ≡ length entries
    → ((entry : EntryValue) (head : Option Head) → f head ≡ g (file_of entry head)) → sum_by f heads ≡ sum_by g (files_of entries heads)
sums_along f g [] [] even same = refl
sums_along f g [] (head ∷ heads) even same = absurd (omega (arith, even))
sums_along f g (entry ∷ entries) [] even same = absurd (omega (arith, even))
sums_along f g (entry ∷ entries) (head ∷ heads) even same =
    sum_by-cons f head heads ∙ (λ i. same entry head i + sums_along f g entries heads (omega (arith, even)) same i)
    ∙ sym (sum_by-cons g (file_of entry head) (files_of entries heads))

live_is : (entry : EntryValue) (head : Option Head) → is_some head ≡ is_live (file_of entry head)
live_is entry None = refl
live_is entry (Some head) = some_above (length (replicate (head.serial - head.first) (version_with 0)))

versions_are : (entry : EntryValue) (head : Option Head) → head_versions head ≡ length (file_of entry head).versions
versions_are entry None = refl
versions_are entry (Some head) = omega (arith, length-replicate (head.serial - head.first) (version_with 0))

kept_is : (entry : EntryValue) (head : Option Head) → head_kept head ≡ kept_blocks (file_of entry head)
kept_is entry None = refl
kept_is entry (Some head) =
    let paths : Version → ℕ = λ v. length v.fresh in
    omega (
      arith,
      sum_by-cons paths (version_with head.kept) (replicate (head.serial - head.first) (version_with 0)),
      sum_by-replicate paths (head.serial - head.first) (version_with 0),
      length-replicate head.kept (let none : List ℕ = [] in none),
    )

pub shown_counts : (table : TableValue) (heads : List (Option Head)) → length heads ≡ length table.entries → HasCounts table heads (shown table heads)
shown_counts table heads even =
    record {
      format = refl;
      blocks = refl;
      generations = generations_same table.entries heads even;
      live = sums_along (λ (h : Option Head). cond (is_some h) 1 0) (λ (f : File). cond (is_live f) 1 0) table.entries heads even (λ entry head. ap (λ (b : Bool). cond b 1 0) (live_is entry head));
      versions = sums_along head_versions (λ (f : File). length f.versions) table.entries heads even versions_are;
      kept = sums_along head_kept kept_blocks table.entries heads even kept_is;
    }
