-- How many blocks the versions of a file hold: they are counted, so that one version more has room in what is told.
use Rattle.std.proofs.Common.{◌≡◌, ℕ, zero, suc, ◌-◌, ◌+◌, ◌≤◌, List, [], ◌∷◌, Option, Some, None, Ok, option_map, refl, sym, ap, ◌∙◌, arith, slice_get}
use Rattle.std.specs.Prelude.{sum_by}
use Rattle.std.proofs.lemmas.List.Sums.{sum_by-cons}
use Rattle.std.proofs.lemmas.Option.{slice_get-get_or, slice_get-map}
use Rattle.afs_base.specs.declared.head.Head.{Head}
use Rattle.page_codec.specs.Causes.{first_cause}
use Rattle.page_codec.specs.TableFacts.{RootFacts}
use Rattle.page_codec.specs.TableReading.{root_causes, root_value}
use Rattle.page_codec.proofs.TableFactLaws.{RootFacts-none}
use Rattle.recovery.specs.Opening.{head_of, heads_of}
use Rattle.service_model.specs.Standing.{Client, client_of, newcomer}
use Rattle.store_changes.specs.Writes.{Content}
use Rattle.store_check.specs.Files.{first_serial, kept_by}
use Rattle.store_model.specs.Found.{LaidStore, laid}
use Rattle.store_model.specs.Laid.{LaidFile, LaidVersion, last_laid}
use Rattle.store_model.proofs.Edits.{none_some, some_is}
use Rattle.store_model.proofs.Reading.{Uncaused, uncaused}
use Rattle.store_model.proofs.Stores.{Parts, parts_of}
use Rattle.ground_model.specs.Own.{IsClient}
use Rattle.ground_model.specs.Scenes.{AreHeads, IsShared, Scene}
use Rattle.ground_model.proofs.FreeBlocks.{all_blocks}

-- one of some numbers is at most their sum
member_low : {X : Type 0} (f : X → ℕ) (xs : List X) (i : ℕ) (x : X) → slice_get xs i ≡ Some x → f x ≤ sum_by f xs
member_low f [] i x at = absurd cc
member_low f (y ∷ xs) zero x at =
    let same : f y ≡ f x = ap f (some_is at) in
    let sum = sum_by-cons f y xs in
    omega (arith, same, sum)
member_low f (y ∷ xs) (suc i) x at =
    let low = member_low f xs i x at in
    let sum = sum_by-cons f y xs in
    omega (arith, low, sum)

-- ---- the store

-- a store has at most so many blocks
unfolded_blocks : (c : Content) (most : ℕ) (store : LaidStore) (places : List ℕ) → laid c most [] ≡ Ok (store, places) → store.root.blocks ≤ 65536
unfolding root_value
unfolded_blocks c most store places e =
    let p : Parts c most store places = parts_of c most store places e in
    let u : Uncaused (first_cause (root_causes p.held)) (root_value p.held) p.root = uncaused (first_cause (root_causes p.held)) (root_value p.held) p.root p.reads in
    let facts : RootFacts p.held = RootFacts-none p.held u.none in
    let few = facts.most in
    let here : (root_value p.held).blocks ≡ store.root.blocks = ap (λ r. r.blocks) u.value ∙ sym (ap (λ (s : LaidStore). s.root.blocks) p.made) in
    omega (arith, few, here)

-- ---- what is told

-- the file of which this is told
record KeptOf (store : LaidStore) (object : ℕ) (head : Head) : Type 0 where
  file : LaidFile
  listed : slice_get store.files object ≡ Some file
  kept : kept_by file.versions ≡ head.kept

abbrev told_by : List LaidVersion → LaidVersion → Head
told_by versions last = record { block = last.block; first = first_serial versions; serial = last.serial; kept = kept_by versions }

kept_of : (store : LaidStore) (object : ℕ) (head : Head) → slice_get (heads_of store.files) object ≡ Some (Some head) → KeptOf store object head
kept_of store object head e = by (slice_get store.files object) refl
  where
    mapped : (o : Option LaidFile) → slice_get store.files object ≡ o → option_map (λ (f : LaidFile). head_of f.versions) o ≡ Some (Some head)
    mapped o h =
        ap (option_map (λ (f : LaidFile). head_of f.versions)) (sym h)
        ∙ sym (slice_get-map (λ (f : LaidFile). head_of f.versions) store.files object) ∙ e

    last_by : (file : LaidFile) → slice_get store.files object ≡ Some file → (o : Option LaidVersion) → last_laid file.versions ≡ o → head_of file.versions ≡ Some head → KeptOf store object head
    last_by file listed None is h = none_some (sym (ap (option_map (told_by file.versions)) is) ∙ h)
    last_by file listed (Some last) is h =
        let same : told_by file.versions last ≡ head = some_is (sym (ap (option_map (told_by file.versions)) is) ∙ h) in
        record { file = file; listed = listed; kept = ap (λ (x : Head). x.kept) same }

    by : (o : Option LaidFile) → slice_get store.files object ≡ o → KeptOf store object head
    by None h = none_some (mapped None h)
    by (Some file) h = last_by file h (last_laid file.versions) refl (some_is (mapped (Some file) h))

-- what it holds and what a client holds are together no more than the blocks of the store
pub kept_low : (scene : Scene) (heads : List (Option Head)) (object k : ℕ) (head : Head) → IsShared scene → AreHeads scene heads → IsClient scene.standing k
    → slice_get heads object ≡ Some (Some head) → head.kept + (client_of scene.standing k).held ≤ 65536
kept_low scene heads object k head shared are client told =
    let t = kept_of scene.store object head (ap (λ (hs : List (Option Head)). slice_get hs object) (sym are) ∙ told) in
    let file_low : kept_by t.file.versions ≤ sum_by (λ (f : LaidFile). kept_by f.versions) scene.store.files = member_low (λ (f : LaidFile). kept_by f.versions) scene.store.files object t.file t.listed in
    let there : slice_get scene.standing.clients (k - 1) ≡ Some (client_of scene.standing k) =
    slice_get-get_or scene.standing.clients (k - 1) newcomer (let low = client.low in let high = client.high in omega (arith, low, high)) in
    let client_low : (client_of scene.standing k).held ≤ sum_by (λ (c : Client). c.held) scene.standing.clients = member_low (λ (c : Client). c.held) scene.standing.clients (k - 1) (client_of scene.standing k) there in
    let all = all_blocks scene shared in
    let few = unfolded_blocks scene.content scene.most scene.store scene.places shared.laid in
    let kept = t.kept in
    omega (arith, file_low, client_low, all, few, kept)
