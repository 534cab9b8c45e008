-- A store made by hand in which a flush is done of an update that wrote: `/` was written, and the page `/0` is shared. Block 3 has the next version.
use Rattle.std.proofs.Common.{◌≡◌, ◌≢◌, ◌||◌, Bool, ℕ, zero, suc, ◌<◌, true, false, List, [], ◌∷◌, replicate, Option, Some, None, Ok, refl, sym, ap, ◌∙◌, subst, arith, true≢false, slice_get, slice_index}
use Rattle.std.specs.List.{AllByRecursion}
use Rattle.ref_flags.specs.Flagged.{Flagged, no_flags}
use Rattle.ref_flags.specs.Codes.{flags_of}
use Rattle.afs_base.specs.declared.kind.Kind.TheVariants.{Data}
use Rattle.tree_model.specs.declared.step.Step.{Step}
use Rattle.tree_model.specs.declared.step.Step.TheVariants.{WriteAt}
use Rattle.tree_model.specs.Trees.{Tree}
use Rattle.page_codec.specs.Values.{PageValue, VersionValue}
use Rattle.page_codec.specs.Bounds.{IsReference, IsVersion}
use Rattle.page_codec.specs.Causes.{version_of}
use Rattle.page_codec.specs.Spelling.{page_bytes, version_bytes}
use Rattle.draft_model.specs.Views.{View, Copied, copies, WantsNone}
use Rattle.draft_model.specs.Steps.{fed_page, begun, stepped, taken}
use Rattle.draft_model.specs.Stands.{StandsFor}
use Rattle.draft_model.specs.Told.{is_one_of, IsFresh}
use Rattle.draft_model.specs.Flush.{Placed, IsPlaced, in_turn}
use Rattle.draft_model.proofs.Feeding.{begins}
use Rattle.draft_model.proofs.Runs.{runs}
use Rattle.draft_model.proofs.Telling.{unmarked}
use Rattle.store_model.specs.Laid.{LaidVersion, LaidFile, last_laid}
use Rattle.store_model.specs.Members.{names_none}
use Rattle.store_model.specs.Found.{LaidStore, version_in, laid}
use Rattle.store_model.specs.Laws.{pages_of}
use Rattle.store_model.specs.Changes.{version_in_block, Rewrites, with_commit}
use Rattle.store_model.specs.Examples.{Store, content_of, entry, table, empty_slot, own, shared, page, version}
use Rattle.store_model.specs.ChangeExamples.{links_in, page_in}
use Rattle.store_model.proofs.Held.{versions_are_held}
use Rattle.store_changes.specs.Examples.{root_with}
use Rattle.store_changes.proofs.Premises.{a_node, no_file_at, no_top}
use Rattle.version_chain.specs.Flush.{Plan, base_of, flushed_version, IsVersionBlock, IsWritten}
use Rattle.version_chain.specs.Laws.{Content}
use Rattle.flush_model.specs.Flushed.{IsFree, IsFlushed, NamesNoneOf}
use Rattle.flush_model.specs.Several.{Part, IsCommitted}
use Rattle.flush_model.proofs.Commits.{flushed_is_committed}

some_is : {X : Type 0} {x y : X} → Some x ≡ Some y → x ≡ y
some_is h = cc

-- ---- the store

abbrev the_bytes : List ℕ
the_bytes = 104 ∷ 105 ∷ []

-- the page `/` of the first version, and that of the second one
abbrev root_page : PageValue
root_page = page 0 (own 2) empty_slot []

abbrev new_page : PageValue
new_page = page 0 (shared 2) empty_slot the_bytes

abbrev written_flags : Flagged
written_flags = record { copied = true; read = false; written = true; searched = false; modified = false }

abbrev new_value : VersionValue
new_value = record { root = written_flags; page = new_page; object = 1; serial = 2; commit = None; base = Some 1; members = [] }

-- block 3 has the second version of object 1; block 1 names what it is given
abbrev the_blocks : Option ℕ → Store
the_blocks commit =
    Some (table 64 (entry 1 ∷ []) 59)
    ∷ Some (version_bytes (version 1 1 0 commit None root_page))
    ∷ Some (page_bytes (page 1 empty_slot empty_slot (10 ∷ [])))
    ∷ Some (version_bytes new_value)
    ∷ []

abbrev held : Content
held = content_of (the_blocks None)

abbrev the_first : LaidVersion
the_first =
    record {
      serial = 1;
      block = 1;
      commit = None;
      members = [];
      nodes = a_node [] 1 (flags_of 0) [] ∷ a_node (0 ∷ []) 2 (flags_of 1) (10 ∷ []) ∷ [];
    }

abbrev the_file : LaidFile
the_file = record { entry = entry 1; versions = the_first ∷ [] }

abbrev the_store : LaidStore
the_store = record { root = root_with (entry 1 ∷ []) 59; files = the_file ∷ replicate 59 no_file_at }

it_is_found : laid held 64 [] ≡ Ok (the_store, 2 ∷ 1 ∷ [])
unfolding links_in
it_is_found = refl

it_shows : pages_of held 1 ≡ Some root_page
unfolding links_in
it_shows = refl

-- ---- the draft: `/` was written

abbrev the_step : Step
the_step = WriteAt [] the_bytes

abbrev the_draft : View
the_draft = stepped (begun root_page) the_step

abbrev the_tree : Tree
the_tree = (version_in the_first).tree

none_wanted : WantsNone (copies (begun root_page)) []
none_wanted [] s c at on_way off = absurd (true≢false (sym on_way))
none_wanted (x ∷ p) s c at on_way off = absurd (true≢false (sym on_way))

it_stands : StandsFor (pages_of held) 1 the_tree (the_step ∷ []) the_draft
it_stands =
    (runs (begun root_page) the_step refl none_wanted (pages_of held) 1 the_tree []
    (begins 1 root_page (pages_of held) the_tree
    (versions_are_held held 64 the_store (2 ∷ 1 ∷ []) it_is_found the_first (record { object = 0; file = the_file; place = 0; listed = refl; kept = refl })) it_shows)).1

-- ---- its flush

abbrev the_plan : Plan
the_plan = record { placed = record { path = []; block = 3 } ∷ []; members = []; written = 1 }

abbrev the_copy : Copied
the_copy = taken false the_step [] (fed_page root_page)

root_alone : (q : List ℕ) → is_one_of ([] ∷ []) q ≡ true → IsFresh the_draft q
root_alone [] h = (refl, ([], (Data, tt, refl)))
root_alone (x ∷ q) h = absurd (true≢false (sym h))

alone_fresh : (q : List ℕ) → IsFresh the_draft q → is_one_of ([] ∷ []) q ≡ true
alone_fresh [] f = refl
alone_fresh (x ∷ q) f = absurd (true≢false (sym f.0))

it_is_placed : IsPlaced the_draft the_plan.placed
it_is_placed = record { fresh = [] ∷ []; are = record { rising = refl; each = λ q. (root_alone q, alone_fresh q) }; paths = refl }

abbrev flags_with : Bool → Flagged
flags_with t = record { copied = true; read = false; written = true; searched = t || t; modified = t }

it_is_so : flushed_version the_draft (base_of 1 1 1) the_plan.placed [] the_copy.page ≡ new_value
it_is_so = ap (λ t. record new_value { root = flags_with t }) unmarked

all_alike : {X : Type 0} (P : X → Type 0) (n : ℕ) (x : X) → P x → AllByRecursion P (replicate n x)
all_alike P zero x h = tt
all_alike P (suc n) x h = (h, all_alike P n x h)

an_empty_slot : IsReference empty_slot
an_empty_slot = record { sound = record { named = tt; empty = refl }; lawful = refl; below = tt }

a_shared_slot : IsReference (shared 2)
a_shared_slot = record { sound = record { named = omega arith; empty = tt }; lawful = refl; below = omega arith }

are_bytes : (i : ℕ) → slice_index the_bytes i < 256
are_bytes zero = omega arith
are_bytes (suc zero) = omega arith
are_bytes (suc (suc i)) = omega arith

it_is_sound : IsVersion new_value
it_is_sound =
    record {
      sound = record { top = refl; object = omega arith; serial = omega arith; commit = tt; base = omega arith };
      frame = record {
        sound = record { depth = omega arith; leaf = λ e. absurd (omega (arith, e)) };
        mask = omega arith;
        sixteen = refl;
        each = (a_shared_slot, (an_empty_slot, all_alike IsReference 14 empty_slot an_empty_slot));
        fits = omega arith;
        data_bytes = are_bytes;
      };
      lawful = refl;
      object_below = omega arith;
      serial_below = omega arith;
      commit_below = tt;
      base_below = omega arith;
      count = omega arith;
      each = tt;
    }

it_reads : version_of (version_bytes new_value) ≡ Ok new_value
unfolding links_in
it_reads = refl

its_block : IsVersionBlock (flushed_version the_draft (base_of 1 1 1) the_plan.placed [] the_copy.page) (version_bytes new_value)
its_block = subst (λ (v : VersionValue). IsVersionBlock v (version_bytes new_value)) (sym it_is_so) (it_is_sound, refl, it_reads)

abbrev IsIn : Placed → Type 0
IsIn x = (bytes : List ℕ) × (held x.block ≡ Some bytes) × IsWritten the_draft (base_of 1 1 1) the_plan x.path bytes

it_is_written : (k : ℕ) (x : Placed) → k < 1 → slice_get (in_turn the_plan.placed) k ≡ Some x → IsIn x
it_is_written zero x small at = subst IsIn (some_is at) (version_bytes new_value, refl, record { copy = the_copy; here = refl; live = refl; bytes_are = its_block })
it_is_written (suc k) x small at = absurd (omega (arith, small))

it_is_free : (k : ℕ) (x : Placed) → slice_get the_plan.placed k ≡ Some x → IsFree the_store (2 ∷ 1 ∷ []) x.block
it_is_free zero x at = subst (λ (y : Placed). IsFree the_store (2 ∷ 1 ∷ []) y.block) (some_is at) (record { low = omega arith; high = omega arith; free = refl })
it_is_free (suc k) x at = absurd cc

it_is_done : IsFlushed held the_store (2 ∷ 1 ∷ []) 0 the_first the_tree (the_step ∷ []) the_draft (base_of 1 1 1) the_plan
it_is_done =
    record {
      file = the_file;
      listed = refl;
      last_is = refl;
      root_is = refl;
      object_is = refl;
      serial_is = refl;
      stands = it_stands;
      placed = it_is_placed;
      apart = refl;
      written = it_is_written;
      all = refl;
      mine = it_is_free;
    }

-- ---- its commit

abbrev the_part : Part
the_part = record { object = 0; last = the_first; before = the_tree; steps = the_step ∷ []; draft = the_draft; base = base_of 1 1 1; plan = the_plan }

names_some_not : (k : ℕ) (file : LaidFile) (last : LaidVersion) → slice_get the_store.files k ≡ Some file → last_laid file.versions ≡ Some last → names_none last ≡ true
names_some_not zero file last at is = ap names_none (sym (some_is (ap (λ (f : LaidFile). last_laid f.versions) (some_is at) ∙ is)))
names_some_not (suc k) file last at is = absurd (no_top 59 k file last at is)

none_named : NamesNoneOf the_store (1 ∷ [])
none_named top is k member at = absurd (true≢false (sym (names_some_not is.object is.file top is.listed is.last) ∙ is.names))

page_before : version_in_block held 1 ≡ Some (version 1 1 0 None None root_page)
unfolding page_in
page_before = refl

page_then : version_in_block (content_of (the_blocks (Some 3))) 1 ≡ Some (with_commit 3 (version 1 1 0 None None root_page))
unfolding page_in
page_then = refl

the_link : Rewrites held (content_of (the_blocks (Some 3))) 1 (with_commit 3)
the_link = record { page = version 1 1 0 None None root_page; was = page_before; is = page_then; others = but_one }
  where
    but_one : (n : ℕ) → n ≢ 1 → held n ≡ content_of (the_blocks (Some 3)) n
    but_one zero h = refl
    but_one (suc zero) h = absurd (h refl)
    but_one (suc (suc n)) h = refl

it_is_committed : IsCommitted held (content_of (the_blocks (Some 3))) 64 the_store (2 ∷ 1 ∷ []) the_part []
it_is_committed =
    flushed_is_committed held (content_of (the_blocks (Some 3))) 64 the_store (2 ∷ 1 ∷ []) it_is_found the_part []
    (record { first = record { flushed = it_is_done; none = refl }; others = tt; different = (tt, tt); named = tt; none = tt }) none_named 3 refl the_link

-- what is found then, computed: the second version has the data, and shares `/0` with the first one
abbrev the_second : LaidVersion
the_second =
    record {
      serial = 2;
      block = 3;
      commit = None;
      members = [];
      nodes = a_node [] 3 written_flags the_bytes ∷ record (a_node (0 ∷ []) 2 no_flags (10 ∷ [])) { is_own = false } ∷ [];
    }

it_is_found_then :
    laid (content_of (the_blocks (Some 3))) 64 []
    ≡ Ok (
      (let s : LaidStore = record the_store {
        files = record { entry = entry 1; versions = record the_first { commit = Some 3 } ∷ the_second ∷ [] } ∷ replicate 59 no_file_at;
      } in s),
      3 ∷ 2 ∷ 1 ∷ [],
    )
unfolding links_in
it_is_found_then = refl
