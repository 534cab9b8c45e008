-- Stores made by hand in which flushes are done: the laws are applied to them. What the blocks hold is computed.
use Rattle.std.proofs.Common.{◌≡◌, ◌≢◌, ◌||◌, Bool, ℕ, zero, suc, ◌<◌, true, false, List, [], ◌∷◌, ◌++◌, replicate, Some, None, Ok, refl, sym, ap, ◌∙◌, subst, arith, true≢false, slice_get}
use Rattle.std.specs.List.{AllByRecursion}
use Rattle.ref_flags.specs.Flagged.{Flagged}
use Rattle.ref_flags.specs.Codes.{flags_of}
use Rattle.tree_model.specs.Trees.{Tree}
use Rattle.page_codec.specs.Values.{MemberValue, VersionValue}
use Rattle.page_codec.specs.Bounds.{IsReference, IsFrame, IsMember, IsVersion}
use Rattle.page_codec.specs.Causes.{version_of}
use Rattle.page_codec.specs.Spelling.{version_bytes}
use Rattle.draft_model.specs.Views.{View}
use Rattle.draft_model.specs.Steps.{fed_page, begun}
use Rattle.draft_model.specs.Stands.{StandsFor}
use Rattle.draft_model.specs.Told.{WroteAt, IsFresh}
use Rattle.draft_model.specs.Flush.{Placed, in_turn, is_block_of}
use Rattle.draft_model.proofs.Feeding.{begins}
use Rattle.draft_model.proofs.Telling.{unmarked}
use Rattle.store_model.specs.Laid.{LaidVersion, LaidFile, last_laid}
use Rattle.store_model.specs.Found.{LaidStore, version_in, laid}
use Rattle.store_model.specs.Laws.{pages_of}
use Rattle.store_model.specs.Changes.{version_in_block, Rewrites, with_commit}
use Rattle.store_model.specs.Examples.{content_of, empty_slot, blank_root, first_version}
use Rattle.store_model.specs.ChangeExamples.{links_in, page_in, before_commit, after_commit, two_next, the_commit_is_written}
use Rattle.store_model.proofs.Held.{versions_are_held}
use Rattle.store_model.proofs.PlaceLists.{in_one}
use Rattle.store_changes.proofs.Premises.{first_in, file_in_block, two_files, names_some_not}
use Rattle.version_chain.specs.Flush.{Plan, base_of, flushed_version, IsVersionBlock, IsWritten}
use Rattle.version_chain.specs.Laws.{Content}
use Rattle.flush_model.specs.Flushed.{IsFree, IsFlushed, IsNextOf, IsReady, NamesNoneOf}
use Rattle.flush_model.specs.Several.{Part, AreParts, IsNextOfPart, AreReady, IsCommitted}
use Rattle.flush_model.proofs.Flushed.{read_next}
use Rattle.flush_model.proofs.Ready.{flushed_is_ready, flushed_together}
use Rattle.flush_model.proofs.Several.{flushed_are_next}
use Rattle.flush_model.proofs.Commits.{flushed_is_committed}

some_is : {X : Type 0} {x y : X} → Some x ≡ Some y → x ≡ y
some_is h = cc

-- ---- a draft without accesses, and what is written for it

abbrev the_tree : ℕ → Tree
the_tree block = (version_in (first_in block)).tree

abbrev the_draft : View
the_draft = begun blank_root

-- the version page of object `object` after its first version, which is in the block `base`; objects count from 1 here
abbrev made : ℕ → ℕ → List MemberValue → VersionValue
made object base members =
    record { root = flags_of 1; page = blank_root; object = object; serial = 2; commit = None; base = Some base; members = members }

-- the new version page is in this block, and was written
abbrev plan_in : ℕ → List MemberValue → Plan
plan_in block members = record { placed = record { path = []; block = block } ∷ []; members = members; written = 1 }

abbrev marks_with : Bool → Flagged
marks_with t = record { copied = true; read = false; written = false; searched = t || t; modified = t }

made_is : (object base block : ℕ) (members : List MemberValue)
    → flushed_version the_draft (base_of base object 1) (plan_in block members).placed members blank_root ≡ made object base members
made_is object base block members = ap (λ t. record (made object base members) { root = marks_with t }) unmarked

all_alike : {X : Type 0} (P : X → Type 0) (n : ℕ) (x : X) → P x → AllByRecursion P (replicate n x)
all_alike P zero x h = tt
all_alike P (suc n) x h = (h, all_alike P n x h)

an_empty_slot : IsReference empty_slot
an_empty_slot = record { sound = record { named = tt; empty = refl }; lawful = refl; below = tt }

a_blank_page : IsFrame blank_root
a_blank_page =
    record {
      sound = record { depth = omega arith; leaf = λ e. absurd (omega (arith, e)) };
      mask = omega arith;
      sixteen = refl;
      each = (an_empty_slot, (an_empty_slot, all_alike IsReference 14 empty_slot an_empty_slot));
      fits = omega arith;
      data_bytes = λ i. omega arith;
    }

-- nothing was written, so nothing is fresh
nothing_fresh : (store : Content) (root : ℕ) (a : Tree) → StandsFor (pages_of store) root a [] the_draft → (q : List ℕ) → IsFresh the_draft q → ⊥
nothing_fresh store root a stands q f =
    let w : WroteAt the_draft _ = f.1.1 in
    true≢false (sym w.2 ∙ stands.stands.written _ w.0 w.1)

-- ---- a flush of it that is done

-- what is asked of the store: the block of the last version shows a page without data, and the new block is free and holds the version page
record IsWell (held : Content) (store : LaidStore) (places : List ℕ) (object last block : ℕ) (members : List MemberValue) : Type 0 where
  found : laid held 64 [] ≡ Ok (store, places)
  file : LaidFile
  listed : slice_get store.files object ≡ Some file
  only : file.versions ≡ first_in last ∷ []
  shows : pages_of held last ≡ Some blank_root
  sound : IsVersion (made (suc object) last members)
  reads : version_of (version_bytes (made (suc object) last members)) ≡ Ok (made (suc object) last members)
  holds : held block ≡ Some (version_bytes (made (suc object) last members))
  free : IsFree store places block

module _ (held : Content) (store : LaidStore) (places : List ℕ) (object last block : ℕ) (members : List MemberValue) (w : IsWell held store places object last block members) where
  stands : StandsFor (pages_of held) last (the_tree last) [] the_draft
  stands =
      begins last blank_root (pages_of held) (the_tree last)
      (versions_are_held held 64 store places w.found (first_in last)
      (record { object = object; file = w.file; place = 0; listed = w.listed; kept = ap (λ (vs : List LaidVersion). slice_get vs 0) w.only }))
      w.shows

  version_block : IsVersionBlock (flushed_version the_draft (base_of last (suc object) 1) (plan_in block members).placed members blank_root) (version_bytes (made (suc object) last members))
  version_block =
      subst (λ (v : VersionValue). IsVersionBlock v (version_bytes (made (suc object) last members))) (sym (made_is (suc object) last block members)) (w.sound, refl, w.reads)

  abbrev IsIn : Placed → Type 0
  IsIn x = (bytes : List ℕ) × (held x.block ≡ Some bytes) × IsWritten the_draft (base_of last (suc object) 1) (plan_in block members) x.path bytes

  written_in : (k : ℕ) (x : Placed) → k < 1 → slice_get (in_turn (plan_in block members).placed) k ≡ Some x → IsIn x
  written_in zero x small at =
      subst IsIn (some_is at)
      (version_bytes (made (suc object) last members), w.holds, record { copy = fed_page blank_root; here = refl; live = refl; bytes_are = version_block })
  written_in (suc k) x small at = absurd (omega (arith, small))

  free_in : (k : ℕ) (x : Placed) → slice_get (plan_in block members).placed k ≡ Some x → IsFree store places x.block
  free_in zero x at = subst (λ (y : Placed). IsFree store places y.block) (some_is at) w.free
  free_in (suc k) x at = absurd cc

  flush_done : IsFlushed held store places object (first_in last) (the_tree last) [] the_draft (base_of last (suc object) 1) (plan_in block members)
  flush_done =
      record {
        file = w.file;
        listed = w.listed;
        last_is = ap last_laid w.only;
        root_is = refl;
        object_is = refl;
        serial_is = refl;
        stands = stands;
        placed = record {
          fresh = [];
          are = record { rising = refl; each = λ q. (λ h. absurd (true≢false (sym h)), λ f. absurd (nothing_fresh held last (the_tree last) stands q f)) };
          paths = refl;
        };
        apart = refl;
        written = written_in;
        all = refl;
        mine = free_in;
      }

-- no version of the store names members
none_named : (objects : List ℕ) → NamesNoneOf two_files objects
none_named objects top is k member at = absurd (true≢false (sym (names_some_not is.object is.file top is.listed is.last) ∙ is.names))

-- ---- one file

-- block 3 has the next version of object 1, and is free
alone_is_found : laid (content_of before_commit) 64 [] ≡ Ok (two_files, 2 ∷ 1 ∷ [])
unfolding links_in
alone_is_found = refl

alone_shows : pages_of (content_of before_commit) 1 ≡ Some blank_root
unfolding links_in
alone_shows = refl

alone_sound : IsVersion (made 1 1 [])
alone_sound =
    record {
      sound = record { top = refl; object = omega arith; serial = omega arith; commit = tt; base = omega arith };
      frame = a_blank_page;
      lawful = refl;
      object_below = omega arith;
      serial_below = omega arith;
      commit_below = tt;
      base_below = omega arith;
      count = omega arith;
      each = tt;
    }

alone_reads : version_of (version_bytes (made 1 1 [])) ≡ Ok (made 1 1 [])
unfolding links_in
alone_reads = refl

alone_well : IsWell (content_of before_commit) two_files (2 ∷ 1 ∷ []) 0 1 3 []
alone_well =
    record {
      found = alone_is_found;
      file = file_in_block 1;
      listed = refl;
      only = refl;
      shows = alone_shows;
      sound = alone_sound;
      reads = alone_reads;
      holds = refl;
      free = record { low = omega arith; high = omega arith; free = refl };
    }

a_flush_is_done : IsFlushed (content_of before_commit) two_files (2 ∷ 1 ∷ []) 0 (first_in 1) (the_tree 1) [] the_draft (base_of 1 1 1) (plan_in 3 [])
a_flush_is_done = flush_done (content_of before_commit) two_files (2 ∷ 1 ∷ []) 0 1 3 [] alone_well

-- the laws, applied to it
a_next_version : (v : LaidVersion) × (new : List ℕ) × IsNextOf (content_of before_commit) 64 0 (first_in 1) (the_tree 1) [] (plan_in 3 []) v new
a_next_version =
    read_next (content_of before_commit) 64 two_files (2 ∷ 1 ∷ []) alone_is_found 0 (first_in 1) (the_tree 1) [] the_draft (base_of 1 1 1) (plan_in 3 []) a_flush_is_done

it_is_ready : IsReady (content_of before_commit) two_files (2 ∷ 1 ∷ []) 0 (first_in 1) a_next_version.0 (a_next_version.1 ++ 2 ∷ 1 ∷ []) (a_next_version.1 ++ 2 ∷ 1 ∷ [])
it_is_ready =
    (flushed_is_ready (content_of before_commit) 64 two_files (2 ∷ 1 ∷ []) alone_is_found 0 (first_in 1) (the_tree 1) [] the_draft (base_of 1 1 1) (plan_in 3 []) a_flush_is_done
    refl refl (none_named (1 ∷ [])) a_next_version.0 a_next_version.1 a_next_version.2).0

abbrev the_part : ℕ → ℕ → ℕ → List MemberValue → Part
the_part object last block members =
    record {
      object = object;
      last = first_in last;
      before = the_tree last;
      steps = [];
      draft = the_draft;
      base = base_of last (suc object) 1;
      plan = plan_in block members;
    }

one_part : AreParts (content_of before_commit) two_files (2 ∷ 1 ∷ []) (the_part 0 1 3 []) []
one_part = record { first = record { flushed = a_flush_is_done; none = refl }; others = tt; different = (tt, tt); named = tt; none = tt }

one_is_committed : IsCommitted (content_of before_commit) (content_of after_commit) 64 two_files (2 ∷ 1 ∷ []) (the_part 0 1 3 []) []
one_is_committed =
    flushed_is_committed (content_of before_commit) (content_of after_commit) 64 two_files (2 ∷ 1 ∷ []) alone_is_found (the_part 0 1 3 []) [] one_part
    (none_named (1 ∷ [])) 3 refl the_commit_is_written

-- ---- two files

-- block 3 has the next version of object 1, which names that of object 2 in block 4; both are free
abbrev both : Content
both = content_of (two_next None)

abbrev the_member : MemberValue
the_member = record { object = 2; block = 4 }

both_are_found : laid both 64 [] ≡ Ok (two_files, 2 ∷ 1 ∷ [])
unfolding links_in
both_are_found = refl

first_shows : pages_of both 1 ≡ Some blank_root
unfolding links_in
first_shows = refl

second_shows : pages_of both 2 ≡ Some blank_root
unfolding links_in
second_shows = refl

a_member : IsMember the_member
a_member = record { sound = record { object = omega arith; block = omega arith }; object_below = omega arith; block_below = omega arith }

first_sound : IsVersion (made 1 1 (the_member ∷ []))
first_sound =
    record {
      sound = record { top = refl; object = omega arith; serial = omega arith; commit = tt; base = omega arith };
      frame = a_blank_page;
      lawful = refl;
      object_below = omega arith;
      serial_below = omega arith;
      commit_below = tt;
      base_below = omega arith;
      count = omega arith;
      each = (a_member, tt);
    }

second_sound : IsVersion (made 2 2 [])
second_sound =
    record {
      sound = record { top = refl; object = omega arith; serial = omega arith; commit = tt; base = omega arith };
      frame = a_blank_page;
      lawful = refl;
      object_below = omega arith;
      serial_below = omega arith;
      commit_below = tt;
      base_below = omega arith;
      count = omega arith;
      each = tt;
    }

first_reads : version_of (version_bytes (made 1 1 (the_member ∷ []))) ≡ Ok (made 1 1 (the_member ∷ []))
unfolding links_in
first_reads = refl

second_reads : version_of (version_bytes (made 2 2 [])) ≡ Ok (made 2 2 [])
unfolding links_in
second_reads = refl

first_well : IsWell both two_files (2 ∷ 1 ∷ []) 0 1 3 (the_member ∷ [])
first_well =
    record {
      found = both_are_found;
      file = file_in_block 1;
      listed = refl;
      only = refl;
      shows = first_shows;
      sound = first_sound;
      reads = first_reads;
      holds = refl;
      free = record { low = omega arith; high = omega arith; free = refl };
    }

second_well : IsWell both two_files (2 ∷ 1 ∷ []) 1 2 4 []
second_well =
    record {
      found = both_are_found;
      file = file_in_block 2;
      listed = refl;
      only = refl;
      shows = second_shows;
      sound = second_sound;
      reads = second_reads;
      holds = refl;
      free = record { low = omega arith; high = omega arith; free = refl };
    }

abbrev top_part : Part
top_part = the_part 0 1 3 (the_member ∷ [])

abbrev member_part : Part
member_part = the_part 1 2 4 []

two_parts : AreParts both two_files (2 ∷ 1 ∷ []) top_part (member_part ∷ [])
two_parts =
    record {
      first = record { flushed = flush_done both two_files (2 ∷ 1 ∷ []) 0 1 3 (the_member ∷ []) first_well; none = refl };
      others = (record { flushed = flush_done both two_files (2 ∷ 1 ∷ []) 1 2 4 [] second_well; none = refl }, tt);
      different = ((record { objects = λ h. omega (arith, h); blocks = never }, tt), (tt, tt));
      named = ((refl, refl), tt);
      none = (refl, tt);
    }
  where
    never : (n : ℕ) → is_block_of (plan_in 3 (the_member ∷ [])).placed n ≡ true → is_block_of (plan_in 4 []).placed n ≡ true → ⊥
    never n h g = let a : n ≡ 3 = in_one 3 n h in let b : n ≡ 4 = in_one 4 n g in omega (arith, a, b)

-- the laws, applied to them
the_top : (v : LaidVersion) × (new : List ℕ) × IsNextOfPart both 64 top_part v new
the_top =
    read_next both 64 two_files (2 ∷ 1 ∷ []) both_are_found 0 (first_in 1) (the_tree 1) [] the_draft (base_of 1 1 1) (plan_in 3 (the_member ∷ [])) two_parts.first.flushed

both_are_next : AreReady both two_files top_part (member_part ∷ []) the_top.0 (the_top.1 ++ 2 ∷ 1 ∷ [])
both_are_next = flushed_are_next both 64 two_files (2 ∷ 1 ∷ []) both_are_found top_part (member_part ∷ []) two_parts the_top.0 the_top.1 the_top.2

both_are_ready : IsReady both two_files (2 ∷ 1 ∷ []) 0 (first_in 1) the_top.0 (the_top.1 ++ 2 ∷ 1 ∷ []) both_are_next.after
both_are_ready =
    flushed_together both 64 two_files (2 ∷ 1 ∷ []) both_are_found 0 (first_in 1) (the_tree 1) [] the_draft (base_of 1 1 1) (plan_in 3 (the_member ∷ [])) two_parts.first.flushed
    refl (none_named (1 ∷ 2 ∷ [])) the_top.0 the_top.1 the_top.2 both_are_next.news both_are_next.after both_are_next.are both_are_next.tried

page_before : version_in_block both 1 ≡ Some (first_version 1)
unfolding page_in
page_before = refl

page_then : version_in_block (content_of (two_next (Some 3))) 1 ≡ Some (with_commit 3 (first_version 1))
unfolding page_in
page_then = refl

the_link_to_both : Rewrites both (content_of (two_next (Some 3))) 1 (with_commit 3)
the_link_to_both = record { page = first_version 1; was = page_before; is = page_then; others = but_one }
  where
    but_one : (n : ℕ) → n ≢ 1 → both n ≡ content_of (two_next (Some 3)) n
    but_one zero h = refl
    but_one (suc zero) h = absurd (h refl)
    but_one (suc (suc n)) h = refl

both_are_committed : IsCommitted both (content_of (two_next (Some 3))) 64 two_files (2 ∷ 1 ∷ []) top_part (member_part ∷ [])
both_are_committed =
    flushed_is_committed both (content_of (two_next (Some 3))) 64 two_files (2 ∷ 1 ∷ []) both_are_found top_part (member_part ∷ []) two_parts (none_named (1 ∷ 2 ∷ [])) 3 refl
    the_link_to_both
