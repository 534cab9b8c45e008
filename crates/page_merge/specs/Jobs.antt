-- Two pages at one path, and what comes of them.
use Rattle.std.specs.Prelude.{ℕ, ◌+◌, Bool, ◌&&◌, List, [], ◌∷◌, if◌then◌else◌, Option, Some, None, option_map, Result, Ok, Err}
use Rattle.std.specs.Option.{option_or}
use Rattle.std.specs.List.{find}
use Rattle.afs_base.specs.declared.kind.Kind.{Kind}
use Rattle.afs_base.specs.declared.kind.Kind.TheVariants.{Data, Slot}
use Rattle.ref_flags.specs.Flagged.{Flagged}
use Rattle.tree_model.specs.Trees.{every_slot}
use Rattle.page_codec.specs.Values.{ReferenceValue, PageValue}
use Rattle.page_places.specs.Places.{has_bit}
use Rattle.page_merge.specs.declared.clash.Clash.{Clash}

-- My page at a path, with my marks there and the masks of the slots that I read and wrote; their page, with their marks; and the mask of the slots
-- of which my page keeps a copied or made child.
pub record JobValue : Type 0 where
  pub mine : PageValue
  pub marks : Flagged
  pub searched : ℕ
  pub modified : ℕ
  pub theirs : PageValue
  pub changed : Flagged
  pub kept : ℕ

-- the least slot that is in both masks
abbrev pub first_shared : ℕ → ℕ → Option ℕ
first_shared a b = find (λ s. has_bit a s && has_bit b s) every_slot

-- what I read and they wrote: the data, else the least slot
abbrev pub clash_of : JobValue → Option Kind
clash_of job =
    if job.marks.read && job.changed.written
    then Some Data
    else option_map Slot (first_shared job.searched job.theirs.modified)

-- A slot of the merged page. Of a child that I keep, my marks and their block where they have one; else my slot where I changed it; else
-- theirs.
abbrev pub merged_slot : Bool → Bool → ReferenceValue → ReferenceValue → ReferenceValue
merged_slot kept changed mine theirs =
    if kept
    then record { flags = mine.flags; block = option_or theirs.block mine.block }
    else (if changed then mine else theirs)

-- the slots from slot s on, of my slots and theirs
abbrev pub merged_slots : ℕ → ℕ → ℕ → List ReferenceValue → List ReferenceValue → List ReferenceValue
merged_slots kept changed s [] theirs = []
merged_slots kept changed s (m ∷ mine) [] = []
merged_slots kept changed s (m ∷ mine) (t ∷ theirs) =
    merged_slot (has_bit kept s) (has_bit changed s) m t ∷ merged_slots kept changed (s + 1) mine theirs

-- the merged page: my level, my mask, the slots as above, and my data where I wrote it, else theirs
abbrev pub merged : JobValue → PageValue
merged job =
    record {
      level = job.mine.level;
      modified = job.modified;
      refs = merged_slots job.kept job.modified 0 job.mine.refs job.theirs.refs;
      bytes = if job.marks.written then job.mine.bytes else job.theirs.bytes;
    }

-- what comes of a job: a clash, or the merged page
abbrev pub outcome_by : JobValue → Option Kind → Result PageValue Clash
outcome_by job None = Ok (merged job)
outcome_by job (Some kind) = Err (record { kind = kind })

abbrev pub outcome_of : JobValue → Result PageValue Clash
outcome_of job = outcome_by job (clash_of job)
