-- Which files a new store holds, and what the making of one may leave of those that were there.
use Rattle.std.specs.Prelude.{◌≡◌, ◌⊎◌, ℕ, List, map, Option, Ok, Err}
use Rattle.std.specs.List.{range_with_len}
use Rattle.tree_model.specs.States.{State, File, entry_count}
use Rattle.page_codec.specs.declared.why.Why.TheVariants.{Closed}
use Rattle.store_model.specs.Found.{found}
use Rattle.store_model.specs.NewStores.{new_file}
use Rattle.new_store.specs.declared.store.NewStore.{NewStore}
use Rattle.new_store.specs.Sizes.{format_of}

-- so many entries: each file has one version, an empty page `/`
unfoldable pub new_files : ℕ → ℕ → ℕ → List File
new_files files key count = map (new_file files key) (range_with_len 1 count)

-- the state of a new store
abbrev pub new_state : NewStore → State
new_state s =
    record {
      format = format_of s.files;
      blocks = s.blocks;
      key = s.key;
      files = new_files s.files s.key (entry_count (format_of s.files));
    }

-- contents stand for the files of others, or for none since block 0 is closed, or for the new store
abbrev pub OldNoneOrNew : NewStore → ℕ → (ℕ → Option (List ℕ)) → (ℕ → Option (List ℕ)) → Type 0
OldNoneOrNew s most f g =
    (found g most ≡ found f most) ⊎ ((found g most ≡ Err (record { block = 0; why = Closed })) ⊎ (found g most ≡ Ok (new_state s)))
