-- A commit of several files, file by file.
use Rattle.std.specs.Prelude.{◌≡◌, ◌≢◌, ℕ, suc, ◌-◌, ◌==◌, true, not, nat_eq, List, [], ◌∷◌, map, Option, Some, None, Ok}
use Rattle.std.specs.List.{list_any}
use Rattle.tree_model.specs.States.{State}
use Rattle.page_codec.specs.Values.{MemberValue}
use Rattle.store_model.specs.Walk.{Blocks}
use Rattle.store_model.specs.Laid.{LaidVersion}
use Rattle.store_model.specs.Chains.{version_at}
use Rattle.store_model.specs.Members.{Top, Linked, names_none, last_in, with_version_at}
use Rattle.store_model.specs.Found.{LaidStore, version_in, state_in, laid, found}
use Rattle.store_model.specs.Changes.{Rewrites, with_commit, files_committed, NextVersion, with_version}

-- a member, and the next version of its file
pub record News : Type 0 where
  pub member : MemberValue
  pub version : LaidVersion

-- it is the next version of another live object that was not named yet; neither it nor the last version names members or a next one
pub record IsNext (blocks : Blocks) (top : Top) (news : News) (linked : Linked) (last : LaidVersion) (seen all : List ℕ) : Type 0 where
  pub live : last_in news.member.object linked.files ≡ Some last
  pub other : not (news.member.object == top.object) ≡ true
  pub unnamed : not (list_any (nat_eq news.member.object) linked.named) ≡ true
  pub none : names_none last ≡ true
  pub moved : last.block ≢ news.member.block
  pub read : version_at blocks news.member.object top.version.block news.member.block (Some last) seen ≡ Ok (news.version, all)
  pub nil : news.version.commit ≡ None
  pub few : names_none news.version ≡ true

-- the files with it, and its object as named
abbrev pub with_news : News → Linked → Linked
with_news news linked =
    record {
      files = with_version_at (news.member.object - 1) news.version linked.files;
      named = news.member.object ∷ linked.named;
    }

-- each is a next version, found after the places of those before
abbrev pub AreNext : Blocks → Top → List News → Linked → List ℕ → List ℕ → Type 0
AreNext blocks top [] linked seen all = all ≡ seen
AreNext blocks top (news ∷ others) linked seen all =
    (last : LaidVersion) × (mid : List ℕ) × IsNext blocks top news linked last seen mid × AreNext blocks top others (with_news news linked) mid all

-- a state with one more version of each of these objects
abbrev pub with_all : List News → State → State
with_all [] state = state
with_all (news ∷ others) state = with_all others (with_version (news.member.object - 1) (version_in news.version) state)

-- Where each member of the next version is the next version of its own file, the state that is found has one more version of the file and of
-- each member's, and is the same in all else: one write commits them all.
abbrev pub CommittingAll : Type 0
CommittingAll =
    (c d : ℕ → Option (List ℕ)) (most : ℕ) (store : LaidStore) (places : List ℕ)
    → laid c most [] ≡ Ok (store, places)
    → (next : NextVersion c store places)
    → (news : List News)
    → map (λ x. x.member) news ≡ next.version.members
    → AreNext
    (record { content = c; count = store.root.blocks }) (record { object = suc next.object; version = next.version })
    news (files_committed next.object next.block next.version store) next.own next.after
    → Rewrites c d next.base.block (with_commit next.block)
    → found d most ≡ Ok (with_all news (with_version next.object (version_in next.version) (state_in store)))
