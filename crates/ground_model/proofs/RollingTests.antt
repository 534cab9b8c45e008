-- What a test-and-set of a link that is left came to.
use Rattle.std.proofs.Common.{◌≡◌, inl, inr, ℕ, ◌<◌, ◌≤◌, ◌^◌, List, Option, Some, Result, Ok, Err, sym, ap, ◌∙◌, subst, arith}
use Rattle.std.proofs.lemmas.Bool.{cases_eq}
use Rattle.std.specs.Option.{option_and_then}
use Rattle.drives.specs.declared.device.Half.{Half}
use Rattle.page_codec.specs.Causes.{version_of}
use Rattle.page_codec.specs.declared.why.Why.{Why}
use Rattle.page_codec.specs.Values.{VersionValue}
use Rattle.page_codec.proofs.FrameLaws.{IsBlock}
use Rattle.pair_store.specs.Answers.{HasCommit, HasNoVersion, IsUntorn, LeftAlone}
use Rattle.pair_store.specs.Pages.{with_commit as commit_bytes}
use Rattle.pair_store.specs.declared.fault.PairFault.{PairFault}
use Rattle.pair_store.specs.declared.fault.PairFault.TheVariants.{ReadFault, WriteFault, BothClosed, BadPage}
use Rattle.pair_store.specs.declared.outcome.Tas.{Tas}
use Rattle.pair_store.specs.declared.outcome.Tas.TheVariants.{Set, Taken}
use Rattle.pair_store.specs.declared.store.Blocks.{Ghosts}
use Rattle.recovery.proofs.Links.{LinkPage, link_page}
use Rattle.recovery.proofs.Places.{laid_fits}
use Rattle.service_model.specs.declared.journal.Entry.{Entry}
use Rattle.service_model.specs.Standing.{Scripts}
use Rattle.store_changes.specs.Writes.{Content}
use Rattle.store_model.specs.Changes.{version_in_block, with_commit}
use Rattle.store_model.specs.Laws.{read_of}
use Rattle.store_model.proofs.Edits.{none_some, some_is}
use Rattle.store_model.proofs.PageBytes.{read_committed}
use Rattle.tree_model.specs.States.{State}
use Rattle.ground_model.specs.Linking.{IsLeft, Link}
use Rattle.ground_model.specs.Rolling.{IsMarkTorn, IsMarkedBy, MemberCame, MembersAreTested}
use Rattle.ground_model.specs.Runs.{IsRead, Stands}
use Rattle.ground_model.specs.Scenes.{Scene}
use Rattle.ground_model.specs.Tests.{HasTested}

ok_is : {X E : Type 0} (x y : X) → (let r : Result X E = Ok x in r) ≡ Ok y → x ≡ y
ok_is x y e = cc

not_ok : {X E : Type 0} (e : E) (x : X) → (let r : Result X E = Err e in r) ≡ Ok x → ⊥
not_ok e x h = cc

module _ {D : Type 0} (b : Ghosts D) (told : b.tells)
    (whole : (s : D) (n : ℕ) (body : List ℕ) → n < b.size s → b.content s n ≡ Some body → IsBlock body) where
  -- ---- a link

  module _ (opening : State) (scripts : Scripts) (first : ℕ) (scene : Scene) (before after : D) (es : List Entry) (link : Link)
      (st : Stands b opening scripts first scene before es) (left : IsLeft scene.store link) (high : link.member.block < 2 ^ 28) where
    its : LinkPage scene.content scene.store scene.places left.out
    its = link_page scene.content scene.most scene.store scene.places st.shared.laid left.out

    low : 1 ≤ link.member.block
    low = subst (λ n. 1 ≤ n) left.next_is its.next_low.0

    holds : scene.content link.base ≡ Some its.body
    holds = ap scene.content (sym left.base_is) ∙ its.holds

    here : b.content before link.base ≡ Some its.body
    here = ap (λ (c : Content). c link.base) (sym st.content) ∙ holds

    below : link.base < scene.store.root.blocks
    below = subst (λ n. n < scene.store.root.blocks) left.base_is its.base_low.1

    block : IsBlock its.body
    block =
        let fits = laid_fits scene.content scene.most scene.store scene.places st.shared.laid in
        let size = st.most in
        let lower = below in
        whole before link.base its.body (omega (arith, fits, size, lower)) here

    linked : version_of (commit_bytes link.member.block its.body) ≡ Ok (with_commit link.member.block its.page)
    linked = read_committed its.body its.page link.member.block block its.reads low high

    sure : b.settled before link.base
    sure = st.settled link.base below

    was : version_in_block scene.content link.base ≡ Some its.page
    was = ap (option_and_then (λ bytes. read_of (version_of bytes))) holds ∙ ap read_of its.reads

    found_page : (o : Option ℕ) → HasCommit (b.content before link.base) o → its.page.commit ≡ o
    found_page o (bytes, page, held, read, commit) =
        let same : bytes ≡ its.body = some_is (sym held ∙ here) in
        let one : page ≡ its.page = ok_is {E = Why} page its.page (sym read ∙ ap version_of same ∙ its.reads) in
        ap (λ (v : VersionValue). v.commit) (sym one) ∙ commit

    never_bad : (why : Why) → HasNoVersion (b.content before link.base) why → ⊥
    never_bad why (bytes, held, read) =
        let same : bytes ≡ its.body = some_is (sym held ∙ here) in
        not_ok {X = VersionValue} why its.page (sym read ∙ ap version_of same ∙ its.reads)

    read_only : (result : Result Tas PairFault) → HasTested b before after link.base link.member.block result → LeftAlone result → IsUntorn result → IsRead b before after
    read_only result t alone untorn = record {
      size = t.size;
      same = t.unwritten told alone;
      settled = λ n s. t.kept told untorn n (inr alone) s;
      settled_always = λ n s. t.kept_always untorn n (inr alone) s;
      images = t.images_unwritten alone;
    }

    set_here : HasTested b before after link.base link.member.block (Ok Set) → IsMarkedBy b scene before after link.base (with_commit link.member.block)
    set_here t = record {
      within = below;
      bytes = commit_bytes link.member.block its.body;
      put = record {
        size = t.size;
        here = t.written told sure its.body here tt;
        others = t.others told;
        settled = λ n s. elim (cases_eq n link.base) [
          | inl e ↦ subst (λ m. b.settled after m) (sym e) (t.settles told tt)
          | inr ne ↦ t.kept told tt n (inl ne) s
        ];
        settled_always = λ n s. elim (cases_eq n link.base) [
          | inl e ↦ subst (λ m. b.settled_always after m) (sym e) (t.settles_always told tt)
          | inr ne ↦ t.kept_always tt n (inl ne) s
        ];
        later = t.later;
        images = λ always. t.images told always its.body here;
      };
      rewrites = record {
        page = its.page;
        was = was;
        is =
            ap (option_and_then (λ bytes. read_of (version_of bytes))) (t.written told sure its.body here tt)
            ∙ ap read_of linked;
        others = λ n ne. ap (λ (c : Content). c n) st.content ∙ sym (t.others told n ne);
      };
    }

    torn_here : (half : Half) → HasTested b before after link.base link.member.block (Err (WriteFault half)) → IsMarkTorn b scene before after link.base (with_commit link.member.block)
    torn_here half t = record {
      within = below;
      page = its.page;
      was = was;
      bytes = commit_bytes link.member.block its.body;
      changed = linked;
      size = t.size;
      either = t.either told sure its.body here;
      images = λ always. t.images told always its.body here;
    }

    came : (result : Result Tas PairFault) → HasTested b before after link.base link.member.block result → MemberCame b scene before after link result
    came (Ok Set) t = set_here t
    came (Ok (Taken by)) t = none_some (sym its.nil ∙ found_page (Some by) (t.answer told sure))
    came (Err (ReadFault half)) t = read_only (Err (ReadFault half)) t tt tt
    came (Err (WriteFault half)) t = torn_here half t
    came (Err (BothClosed n)) t = none_some (sym (t.answer told sure).1 ∙ here)
    came (Err (BadPage n why)) t = never_bad why (t.answer told sure).1

  pub members_are_tested : MembersAreTested b
  members_are_tested opening scripts first scene before after es link result st left high t =
      came opening scripts first scene before after es link st left high result t
