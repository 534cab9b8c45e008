-- A flush that is done is ready to be committed.
use Rattle.std.proofs.Common.{◌≡◌, ℕ, suc, nat_eq, true, List, [], ◌∷◌, ◌++◌, Ok, refl, sym, ap, subst, ◌∙◌, true≢false, length, ◌==◌, map}
use Rattle.std.specs.List.{list_any}
use Rattle.tree_model.specs.declared.step.Step.{Step}
use Rattle.tree_model.specs.Trees.{Tree}
use Rattle.page_codec.specs.Values.{MemberValue}
use Rattle.draft_model.specs.Views.{View}
use Rattle.draft_model.specs.Flush.{is_block_of}
use Rattle.store_model.specs.Laid.{LaidVersion}
use Rattle.store_model.specs.Members.{Top, Linked, names_none, members_linked}
use Rattle.store_model.specs.Found.{LaidStore, laid}
use Rattle.store_model.specs.Changes.{files_committed, NextVersion}
use Rattle.store_model.specs.Together.{News, AreNext}
use Rattle.store_model.proofs.Gathering.{linked_with, members_next}
use Rattle.store_model.proofs.PlaceLists.{IsIn}
use Rattle.store_model.proofs.Steps.{blocks_of}
use Rattle.version_chain.specs.Flush.{Plan, Base}
use Rattle.version_chain.specs.Laws.{Content}
use Rattle.flush_model.specs.Flushed.{IsFree, IsFlushed, IsNextOf, IsReady, NamesNoneOf}
use Rattle.flush_model.proofs.Plans.{BlockAt, block_at}

-- none of the new blocks is a place
pub off_places : (content : Content) (store : LaidStore) (places : List ℕ) (object : ℕ) (last : LaidVersion) (a : Tree) (steps : List Step) (d : View) (base : Base) (plan : Plan)
    → IsFlushed content store places object last a steps d base plan → (n : ℕ) → is_block_of plan.placed n ≡ true → IsIn places n → ⊥
off_places content store places object last a steps d base plan is n h i =
    let b : BlockAt plan.placed n = block_at plan.placed n h in
    let f : IsFree store places b.place.block = is.mine b.k b.place b.at in
    true≢false (sym i ∙ ap (λ m. list_any (nat_eq m) places) (sym b.block) ∙ f.free)

-- it is one as a commit wants it, with the members linked
unfoldable pub next_of : (content : Content) (most : ℕ) (store : LaidStore) (places : List ℕ) → laid content most [] ≡ Ok (store, places)
    → (object : ℕ) (last : LaidVersion) (a : Tree) (steps : List Step) (d : View) (base : Base) (plan : Plan)
    → IsFlushed content store places object last a steps d base plan → names_none last ≡ true
    → NamesNoneOf store (suc object ∷ map (λ (m : MemberValue). m.object) plan.members)
    → (version : LaidVersion) (new : List ℕ) → IsNextOf content store.root.blocks object last a steps plan version new
    → (news : List News) (after : List ℕ) → map (λ (x : News). x.member) news ≡ plan.members
    → AreNext (blocks_of content store.root.blocks) (record { object = suc object; version = version }) news (files_committed object version.block version store) (new ++ places) after
    → NextVersion content store places
next_of content most store places e object last a steps d base plan is none unnamed version new nx news after are next_are =
    let top : Top = record { object = suc object; version = version } in
    let start : Linked = files_committed object version.block version store in
    let named : map (λ (x : News). x.member) news ≡ version.members = are ∙ sym nx.members in
    record {
      object = object;
      file = is.file;
      base = last;
      listed = is.listed;
      last = is.last_is;
      none = none;
      block = version.block;
      version = version;
      own = new ++ places;
      read = nx.read last.block places (λ n h i. off_places content store places object last a steps d base plan is n ((nx.places n).0 h) i);
      nil = nx.nil;
      linked = record { files = (linked_with news start).files; named = suc object ∷ (linked_with news start).named };
      after = after;
      members =
          ap (λ ms. members_linked (blocks_of content store.root.blocks) top ms start (new ++ places)) (sym named)
          ∙ members_next content store.root.blocks top news start (new ++ places) after next_are;
      unnamed = λ t t_is k member at. ap (λ ms. list_any (nat_eq member.object) (suc object ∷ map (λ (m : MemberValue). m.object) ms)) nx.members ∙ unnamed t t_is k member at;
    }

pub flushed_together : (content : Content) (most : ℕ) (store : LaidStore) (places : List ℕ) → laid content most [] ≡ Ok (store, places)
    → (object : ℕ) (last : LaidVersion) (a : Tree) (steps : List Step) (d : View) (base : Base) (plan : Plan)
    → IsFlushed content store places object last a steps d base plan → names_none last ≡ true
    → NamesNoneOf store (suc object ∷ map (λ (m : MemberValue). m.object) plan.members)
    → (version : LaidVersion) (new : List ℕ) → IsNextOf content store.root.blocks object last a steps plan version new
    → (news : List News) (after : List ℕ) → map (λ (x : News). x.member) news ≡ plan.members
    → AreNext (blocks_of content store.root.blocks) (record { object = suc object; version = version }) news (files_committed object version.block version store) (new ++ places) after
    → IsReady content store places object last version (new ++ places) after
unfolding next_of
flushed_together content most store places e object last a steps d base plan is none unnamed version new nx news after are next_are =
    record {
      next = next_of content most store places e object last a steps d base plan is none unnamed version new nx news after are next_are;
      object_is = refl;
      base_is = refl;
      block_is = refl;
      version_is = refl;
      own_is = refl;
      after_is = refl;
    }

pub flushed_is_ready : (content : Content) (most : ℕ) (store : LaidStore) (places : List ℕ) → laid content most [] ≡ Ok (store, places)
    → (object : ℕ) (last : LaidVersion) (a : Tree) (steps : List Step) (d : View) (base : Base) (plan : Plan)
    → IsFlushed content store places object last a steps d base plan → plan.members ≡ [] → names_none last ≡ true → NamesNoneOf store (suc object ∷ [])
    → (version : LaidVersion) (new : List ℕ) → IsNextOf content store.root.blocks object last a steps plan version new
    → IsReady content store places object last version (new ++ places) (new ++ places) × (names_none version ≡ true)
flushed_is_ready content most store places e object last a steps d base plan is alone none unnamed version new nx = (
  flushed_together content most store places e object last a steps d base plan is none
      (subst (λ ms. NamesNoneOf store (suc object ∷ map (λ (m : MemberValue). m.object) ms)) (sym alone) unnamed)
      version new nx [] (new ++ places) (sym alone) refl,
  ap (λ (ms : List MemberValue). length ms == 0) (nx.members ∙ alone),
)
