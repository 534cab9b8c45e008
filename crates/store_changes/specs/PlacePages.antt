-- Which blocks the pages of versions lie in, and which blocks show no page.
use Rattle.std.specs.Prelude.{◌≡◌, ◌⊎◌, ℕ, List, [], Some, None, Ok}
use Rattle.page_codec.specs.Values.{EntryValue, RootValue, VersionValue}
use Rattle.page_places.specs.Places.{block_at}
use Rattle.store_model.specs.Laid.{LaidVersion}
use Rattle.store_model.specs.Found.{LaidStore, laid}
use Rattle.store_model.specs.Laws.{IsVersionOf, pages_of}
use Rattle.store_model.specs.Changes.{Rewrites, with_commit, NextVersion}
use Rattle.store_model.specs.NewStores.{root_in_block}
use Rattle.store_changes.specs.Writes.{Content, part_in_block, WritesEntry, InNewPart}
use Rattle.store_changes.specs.Stands.{IsPlace, IsThereWhole}

-- Each block that a version's own block leads to is a place.
abbrev pub PagesArePlaces : Type 0
PagesArePlaces =
    (content : Content) (most : ℕ) (store : LaidStore) (places : List ℕ)
    → laid content most [] ≡ Ok (store, places)
    → (version : LaidVersion) → IsVersionOf store version
    → (p : List ℕ) (block : ℕ) → block_at (pages_of content) version.block p ≡ Some block
    → IsPlace places block

-- A block that holds a table, or a part of one, shows no page.
abbrev pub TablesShowNoPage : Type 0
TablesShowNoPage = (content : Content) (block : ℕ) (root : RootValue)
    → root_in_block content block ≡ Some root → pages_of content block ≡ None

abbrev pub PartsShowNoPage : Type 0
PartsShowNoPage =
    (content : Content) (j block : ℕ) (entries : List EntryValue)
    → part_in_block content j block ≡ Some entries → pages_of content block ≡ None

-- After a commit each version that was there is there, at its place, in its block, with its tree
-- and its own pages.
abbrev pub CommitsKeepVersions : Type 0
CommitsKeepVersions =
    (c d : Content) (most : ℕ) (store : LaidStore) (places : List ℕ)
    → laid c most [] ≡ Ok (store, places)
    → (next : NextVersion c store places) → Rewrites c d next.base.block (with_commit next.block)
    → (after : LaidStore) (order : List ℕ) → laid d most [] ≡ Ok (after, order)
    → (version : LaidVersion) (is : IsVersionOf store version)
    → IsThereWhole after is.object is.place version

-- Where a version page was written with a change that leaves its page, each block shows the page
-- that it showed: so it is where a commit reference was set, and where members were cleared.
abbrev pub LinksShowTheSame : Type 0
LinksShowTheSame =
    (c d : Content) (block : ℕ) (change : VersionValue → VersionValue) → Rewrites c d block change
    → ((page : VersionValue) → (change page).page ≡ page.page) → (n : ℕ)
    → pages_of d n ≡ pages_of c n

-- And so it is where an entry of the table was written, also with a new part.
abbrev pub EntriesShowTheSame : Type 0
EntriesShowTheSame =
    (c d : Content) (most : ℕ) (store : LaidStore) (places : List ℕ)
    → laid c most [] ≡ Ok (store, places)
    → (object : ℕ) (entry : EntryValue)
    → WritesEntry c d store.root object entry ⊎ InNewPart c d store.root places object entry
    → (n : ℕ) → pages_of d n ≡ pages_of c n
