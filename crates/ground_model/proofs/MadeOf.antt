-- What a walk asks of a version that was made: a flush makes it so, and it stays so where the blocks of both versions show what they showed.
use Rattle.std.proofs.Common.{◌∷◌, ◌≡◌, ◌≢◌, ◌⊎◌, inl, inr, ℕ, List, [], length, Option, Some, refl, sym, ap, ◌∙◌, subst, arith}
use Rattle.std.specs.Option.{option_and_then}
use Rattle.draft_model.specs.Flush.{IsPlaced, Flushed, AreWhole, block_of, copied_flags, flushed_page}
use Rattle.draft_model.specs.Stands.{SameBase, StandsFor}
use Rattle.draft_model.specs.Views.{Copied, View}
use Rattle.draft_model.proofs.Keeping.{same_walk}
use Rattle.flush_model.proofs.Plans.{TurnAt, turn_of}
use Rattle.joint_walk.specs.Later.{IsLater, AreMarks}
use Rattle.joint_walk.proofs.Flushed.{later}
use Rattle.page_codec.specs.Causes.{version_of}
use Rattle.page_codec.specs.Values.{PageValue, VersionValue}
use Rattle.page_places.specs.Places.{Store, Holds, block_at}
use Rattle.service_model.specs.Standing.{Made}
use Rattle.store_changes.specs.Writes.{Content}
use Rattle.store_model.specs.Changes.{Rewrites, version_in_block}
use Rattle.store_model.specs.Laws.{page_of_block, pages_of, read_of}
use Rattle.store_model.proofs.Edits.{some_is}
use Rattle.store_model.proofs.Reading.{reads_page, reads_version}
use Rattle.tree_model.specs.declared.step.Step.{Step}
use Rattle.tree_model.specs.Trees.{Tree, tree_after}
use Rattle.version_chain.specs.Flush.{Plan, Base, IsBlockFor, IsWritten, flushed_version}
use Rattle.version_chain.specs.Laws.{HasWritten}
use Rattle.ground_model.specs.Scenes.{IsMadeOf}
use Rattle.ground_model.proofs.PagesWhole.{pages_whole}

-- ---- it stays so

holds_still : (old new : Store) (root : ℕ) → SameBase old new root → (a : Tree) → Holds old root a → Holds new root a
holds_still old new root same a h = record {
  page = λ p b at.
      let was : block_at old root p ≡ Some b = sym (same_walk old new root same p) ∙ at in
      let page = h.page p b was in
      (page.0, same p b was ∙ page.1, page.2, page.3);
  gone = λ p none. h.gone p (sym (same_walk old new root same p) ∙ none);
}

pub later_stays : (old new : Store) (base root : ℕ) (a : Tree) (steps : List Step) → SameBase old new base → SameBase old new root → AreWhole new
    → IsLater old base root a steps → IsLater new base root a steps
later_stays old new base root a steps below here whole h = record {
  holds = holds_still old new root here (tree_after a steps) h.holds;
  kept = h.kept;
  whole = whole;
  shares = λ p there shared. same_walk old new root here p ∙ h.shares p there shared ∙ sym (same_walk old new base below p);
  marks = λ p b page s own at read small.
      let was : block_at old root p ≡ Some b = sym (same_walk old new root here p) ∙ at in
      h.marks p b page s own was (sym (here p b was) ∙ read) small;
  mask = λ p b page s own at read small.
      let was : block_at old root p ≡ Some b = sym (same_walk old new root here p) ∙ at in
      h.mask p b page s own was (sym (here p b was) ∙ read) small;
}

-- a block holds a version page with this base and these flags of `/`
pub record HasTop (content : Content) (root : ℕ) (page : VersionValue) : Type 0 where
  pub top : VersionValue
  pub held : version_in_block content root ≡ Some top
  pub base : top.base ≡ page.base
  pub flags : top.root ≡ page.root

pub made_of_stays : (c d : Content) (m : Made) (base root : ℕ) → SameBase (pages_of c) (pages_of d) base → SameBase (pages_of c) (pages_of d) root
    → ((page : VersionValue) → version_in_block c root ≡ Some page → HasTop d root page) → IsMadeOf c m base root → IsMadeOf d m base root
made_of_stays c d m base root below here top h =
    let t : HasTop d root h.page = top h.page h.held in
    record {
      later = later_stays (pages_of c) (pages_of d) base root m.before m.steps below here (pages_whole d) h.later;
      page = t.top;
      held = t.held;
      base_is = t.base ∙ h.base_is;
      marks = subst (λ f. AreMarks m.before m.steps [] f) (sym t.flags) h.marks;
    }

-- a block that was not written has the version page that it had
pub same_top : (c d : Content) (root : ℕ) → d root ≡ c root → (page : VersionValue) → version_in_block c root ≡ Some page → HasTop d root page
same_top c d root same page is = record {
  top = page;
  held = ap (λ (o : Option (List ℕ)). option_and_then (λ bytes. read_of (version_of bytes)) o) same ∙ is;
  base = refl;
  flags = refl;
}

same_or_not : (m n : ℕ) → (m ≡ n) ⊎ (m ≢ n)
same_or_not m n = grind arith

-- so it is where one version page was written anew with its base and its flags
pub rewritten_top : (c d : Content) (n : ℕ) (change : VersionValue → VersionValue) → ((v : VersionValue) → (change v).base ≡ v.base) → ((v : VersionValue) → (change v).root ≡ v.root)
    → Rewrites c d n change → (root : ℕ) (page : VersionValue) → version_in_block c root ≡ Some page → HasTop d root page
rewritten_top c d n change base flags r root page is = by (same_or_not root n)
  where
    by : (root ≡ n) ⊎ (root ≢ n) → HasTop d root page
    by (inl e) =
        let one : r.page ≡ page = some_is (sym r.was ∙ ap (version_in_block c) (sym e) ∙ is) in
        record {
          top = change r.page;
          held = ap (version_in_block d) e ∙ r.is;
          base = base r.page ∙ ap (λ (v : VersionValue). v.base) one;
          flags = flags r.page ∙ ap (λ (v : VersionValue). v.root) one;
        }
    by (inr ne) = same_top c d root (sym (r.others root ne)) page is

-- ---- a flush makes it so

block_shows : (d : View) (base : Base) (plan : Plan) (path : List ℕ) (page : PageValue) (bytes : List ℕ) → IsBlockFor d base plan path page bytes
    → page_of_block bytes ≡ Some (flushed_page d plan.placed path page)
block_shows d base plan [] page bytes is = (reads_version (λ _. Some bytes) 0 bytes (flushed_version d base plan.placed plan.members page) refl is.2).page.is
block_shows d base plan (s ∷ p) page bytes is = (reads_page (λ _. Some bytes) 0 bytes (flushed_page d plan.placed (s ∷ p) page) refl is.2).is

module _ (content : Content) (base : Base) (top : ℕ) (tree : Tree) (steps : List Step) (d : View) (plan : Plan) (stands : StandsFor (pages_of content) base.root tree steps d)
    (placed : IsPlaced d plan.placed) (at_top : block_of plan.placed [] ≡ Some top) (written : HasWritten d base plan content) (all : plan.written ≡ length plan.placed) where
  found : (p : List ℕ) (b : ℕ) → block_of plan.placed p ≡ Some b → (bytes : List ℕ) × (content b ≡ Some bytes) × IsWritten d base plan p bytes
  found p b at = (let turn : TurnAt plan.placed p b = turn_of plan.placed p b at in
      written turn.k (record { path = p; block = b }) (let small = turn.small in omega (arith, all, small)) turn.at)

  flushed : Flushed d plan.placed base.root (pages_of content) (pages_of content)
  flushed = record { page = page_there; kept = λ p b at. refl }
    where
      page_there : (p : List ℕ) (b : ℕ) (c : Copied) → block_of plan.placed p ≡ Some b → d p ≡ Some c → pages_of content b ≡ Some (flushed_page d plan.placed p c.page)
      page_there p b c at copy =
          let w = found p b at in
          ap (option_and_then page_of_block) w.1
          ∙ block_shows d base plan p w.2.copy.page w.0 w.2.bytes_are
          ∙ ap (λ (x : Copied). Some (flushed_page d plan.placed p x.page)) (some_is (sym w.2.here ∙ copy))

  both : IsLater (pages_of content) base.root top tree steps × AreMarks tree steps [] (copied_flags (d []))
  both = later d plan.placed (pages_of content) (pages_of content) base.root top tree steps stands placed flushed (pages_whole content) at_top

  pub flush_makes : (m : Made) → m.before ≡ tree → m.steps ≡ steps → IsMadeOf content m base.root top
  flush_makes m before mine =
      let w = found [] top at_top in
      record {
        later = subst (λ t. IsLater (pages_of content) base.root top t m.steps) (sym before) (subst (λ xs. IsLater (pages_of content) base.root top tree xs) (sym mine) both.0);
        page = flushed_version d base plan.placed plan.members w.2.copy.page;
        held = ap (λ (o : Option (List ℕ)). option_and_then (λ bytes. read_of (version_of bytes)) o) w.1 ∙ ap read_of w.2.bytes_are.2;
        base_is = refl;
        marks = subst (λ t. AreMarks t m.steps [] (copied_flags (d []))) (sym before) (subst (λ xs. AreMarks tree xs [] (copied_flags (d []))) (sym mine) both.1);
      }
