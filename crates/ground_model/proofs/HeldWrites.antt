-- A write of a block that a client holds: nothing that is found changes.
use Rattle.std.proofs.Common.{◌≡◌, ◌≢◌, inl, inr, ℕ, zero, suc, ◌-◌, ◌<◌, ◌≤◌, nat_eq, List, [], ◌∷◌, Some, refl, sym, ap, ◌∙◌, arith, length, true≢false}
use Rattle.std.specs.List.{list_any}
use Rattle.std.specs.Option.{option_and_then}
use Rattle.block_map.specs.States.{state_at}
use Rattle.block_map.specs.declared.states.BlockState.{BlockState}
use Rattle.block_map.specs.declared.states.BlockState.TheVariants.{Held, Kept}
use Rattle.draft_model.specs.Stands.{SameBase}
use Rattle.flush_model.specs.Flushed.{IsFree}
use Rattle.page_places.specs.Places.{block_at}
use Rattle.store_changes.specs.Stands.{IsPlace}
use Rattle.store_changes.specs.Writes.{Content}
use Rattle.store_changes.proofs.InPlaces.{pages_are_places}
use Rattle.store_changes.proofs.Keeping.{free_blocks_are_free}
use Rattle.store_model.specs.Found.{LaidStore}
use Rattle.store_model.specs.Laid.{LaidVersion}
use Rattle.store_model.specs.Laws.{IsVersionOf, page_of_block, pages_of}
use Rattle.store_model.proofs.PlaceLists.{not_in}
use Rattle.ground_model.specs.Scenes.{Scene, HasVersion, IsMapped, IsShared}
use Rattle.ground_model.specs.Own.{IsHeldBy}
use Rattle.ground_model.specs.Leaves.{IsThereAgain, KeepsVersions, LeavesOthers}
use Rattle.ground_model.specs.Steps.{IsHeldWrite}
use Rattle.ground_model.proofs.Known.{known_same}
use Rattle.ground_model.proofs.MadeOf.{made_of_stays, same_top}

-- a version of a store, by its object's number from 1, is one of its versions
abbrev pub version_of : (store : LaidStore) (object : ℕ) (version : LaidVersion) → HasVersion store object version → IsVersionOf store version
version_of store object version has = record { object = object - 1; file = has.file; place = has.place; listed = has.listed; kept = has.kept }

-- past the end of the map every block counts as kept
pub past_end : (xs : List BlockState) (n k : ℕ) → state_at xs n ≡ Held k → n < length xs
past_end [] n k e = (let none : Kept ≡ Held k = e in absurd cc)
past_end (x ∷ xs) zero k e = omega arith
past_end (x ∷ xs) (suc n) k e = (let less : n < length xs = past_end xs n k e in omega (arith, less))

-- a block that a client holds is one of the store, but not block 0, and no place
module _ (scene : Scene) (mapped : IsMapped scene) (k n : ℕ) (held : IsHeldBy scene k n) where
  pub within : n < length scene.states
  within = past_end scene.states n k held

  pub not_kept : state_at scene.states n ≢ Kept
  not_kept e = (let both : Held k ≡ Kept = sym held ∙ e in absurd cc)

  pub held_is_free : IsFree scene.store scene.places n
  held_is_free = record {
    low = positive n (λ e. not_kept ((mapped.kept n within).1 (inl e)));
    high = (let size = mapped.size in let less = within in omega (arith, size, less));
    free = not_in scene.places n (λ is. not_kept ((mapped.kept n within).1 (inr (inl is))));
  }
    where
      positive : (m : ℕ) → m ≢ 0 → 1 ≤ m
      positive zero h = absurd (h refl)
      positive (suc m) h = omega arith

-- of blocks that two clients hold none is one
pub other_block : (scene : Scene) (j k n m : ℕ) → j ≢ k → IsHeldBy scene j n → IsHeldBy scene k m → n ≢ m
other_block scene j k n m ne mine other e = (let both : Held j ≡ Held k = sym mine ∙ ap (state_at scene.states) e ∙ other in absurd (ne cc))

module _ (k block : ℕ) (old : Scene) (content : Content) (shared : IsShared old) (write : IsHeldWrite k block old content) where
  free : IsFree old.store old.places block
  free = held_is_free old shared.map k block write.held

  no_place : (n : ℕ) → n ≡ block → IsPlace old.places n → ⊥
  no_place n e is = true≢false (sym is ∙ ap (λ m. list_any (nat_eq m) old.places) e ∙ free.free)

  -- no block that a version leads to was written
  kept_below : (version : LaidVersion) → IsVersionOf old.store version → (p : List ℕ) (n : ℕ) → block_at (pages_of old.content) version.block p ≡ Some n → content n ≡ old.content n
  kept_below version is p n at = write.others n (λ e. no_place n e (pages_are_places old.content old.most old.store old.places shared.laid version is p n at))

  pages_kept : (version : LaidVersion) → IsVersionOf old.store version → SameBase (pages_of old.content) (pages_of content) version.block
  pages_kept version is p n at = ap (λ x. option_and_then page_of_block x) (kept_below version is p n at)

  pub write_shared : IsShared (record old { content = content })
  write_shared = record {
    some = shared.some;
    laid = free_blocks_are_free old.content content old.most old.store old.places shared.laid block free.low free.free (λ n ne. sym (write.others n ne));
    state = shared.state;
    map = record {
      size = shared.map.size;
      kept = shared.map.kept;
      held = shared.map.held;
      freed = shared.map.freed;
      once = shared.map.once;
      frees = shared.map.frees;
    };
    made = shared.made;
    made_of = λ i place m file before version at low listed first second serial.
        let one : IsVersionOf old.store before = record { object = m.object - 1; file = file; place = place; listed = listed; kept = first } in
        let two : IsVersionOf old.store version = record { object = m.object - 1; file = file; place = suc place; listed = listed; kept = second } in
        made_of_stays old.content content m before.block version.block (pages_kept before one) (pages_kept version two)
        (same_top old.content content version.block (kept_below version two [] version.block refl)) (shared.made_of i place m file before version at low listed first second serial);
    links = shared.links;
  }

  there_again : (object : ℕ) (version : LaidVersion) → HasVersion old.store object version → IsThereAgain old (record old { content = content }) object version
  there_again object version has = record {
    again = version;
    is = has;
    serial = refl;
    block = refl;
    tree = refl;
    pages = pages_kept version (version_of old.store object version has);
  }

  pub write_versions : KeepsVersions old (record old { content = content })
  write_versions = there_again

  pub write_leaves : LeavesOthers k old (record old { content = content })
  write_leaves j low ne = record {
    client = refl;
    clients = refl;
    upkeep = λ up mine. (λ is. is, λ is. is);
    held = λ n is. (is, write.others n (other_block old j k n block ne is write.held));
    versions = λ w version mine. there_again w.object version mine.is;
    made = λ w version mine m is object serial. is;
    known = λ w on. known_same w.object old.standing.made old.standing.made refl;
  }
