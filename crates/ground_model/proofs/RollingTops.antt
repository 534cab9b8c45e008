-- What the clearing of the members of the top of an update came to.
use Rattle.std.proofs.Common.{◌≡◌, inl, inr, ℕ, ◌-◌, ◌<◌, List, length, Some, Result, Ok, Err, sym, ap, ◌∙◌, subst, arith}
use Rattle.std.proofs.lemmas.Bool.{cases_eq}
use Rattle.std.specs.Option.{option_and_then}
use Rattle.drives.specs.declared.device.Half.{Half}
use Rattle.page_codec.specs.Causes.{version_of}
use Rattle.page_codec.specs.declared.why.Why.{Why}
use Rattle.page_codec.specs.Values.{VersionValue}
use Rattle.page_codec.proofs.FrameLaws.{IsBlock}
use Rattle.pair_store.specs.Answers.{HasNoVersion, IsRefused, IsUntorn}
use Rattle.pair_store.specs.Pages.{without_members as cleared_bytes}
use Rattle.pair_store.specs.declared.fault.PairFault.{PairFault}
use Rattle.pair_store.specs.declared.fault.PairFault.TheVariants.{ReadFault, WriteFault, BothClosed, BadPage}
use Rattle.pair_store.specs.declared.store.Blocks.{Ghosts}
use Rattle.recovery.proofs.Places.{laid_fits}
use Rattle.service_model.specs.declared.journal.Entry.{Entry}
use Rattle.service_model.specs.Standing.{Scripts}
use Rattle.store_changes.specs.Writes.{Content}
use Rattle.store_model.specs.Changes.{without_members}
use Rattle.store_model.specs.Laws.{read_of}
use Rattle.store_model.proofs.Edits.{none_some, some_is}
use Rattle.store_model.proofs.PageBytes.{read_cleared}
use Rattle.tree_model.specs.States.{State}
use Rattle.ground_model.specs.Rolling.{ClearingCame, HasCleared, IsMarkTorn, IsMarkedBy, TopsAreCleared}
use Rattle.ground_model.specs.Runs.{IsRead, Stands}
use Rattle.ground_model.specs.Scenes.{Scene}
use Rattle.ground_model.specs.Shows.{ShowsVersion}
use Rattle.ground_model.proofs.Shows.{version_shows}

not_ok : {X E : Type 0} (e : E) (x : X) → (let r : Result X E = Err e in r) ≡ Ok x → ⊥
not_ok e x h = cc

module _ {D : Type 0} (b : Ghosts D) (told : b.tells)
    (whole : (s : D) (n : ℕ) (body : List ℕ) → n < b.size s → b.content s n ≡ Some body → IsBlock body) where
  module _ (opening : State) (scripts : Scripts) (first : ℕ) (scene : Scene) (before after : D) (es : List Entry) (object serial block : ℕ)
      (st : Stands b opening scripts first scene before es) (shown : ShowsVersion scene object serial block) where
    here : b.content before block ≡ Some shown.body
    here = ap (λ (c : Content). c block) (sym st.content) ∙ shown.holds

    a_block : IsBlock shown.body
    a_block =
        let fits = laid_fits scene.content scene.most scene.store scene.places st.shared.laid in
        let size = st.most in
        let below = shown.lies.high in
        whole before block shown.body (omega (arith, fits, size, below)) here

    cleared : version_of (cleared_bytes shown.body) ≡ Ok (without_members shown.page)
    cleared = read_cleared shown.body shown.page a_block shown.reads

    sure : b.settled before block
    sure = st.settled block shown.lies.high

    never_bad : (why : Why) → HasNoVersion (b.content before block) why → ⊥
    never_bad why (bytes, held, read) =
        let same : bytes ≡ shown.body = some_is (sym held ∙ here) in
        not_ok {X = VersionValue} why shown.page (sym read ∙ ap version_of same ∙ shown.reads)

    read_only : (result : Result (Unit {0}) PairFault) → HasCleared b before after block result → IsRefused result → IsUntorn result → IsRead b before after
    read_only result t refused untorn = record {
      size = t.size;
      same = t.unwritten told refused;
      settled = λ n s. t.kept told untorn n (inr refused) s;
      settled_always = λ n s. t.kept_always untorn n (inr refused) s;
      images = t.images_unwritten refused;
    }

    cleared_here : (x : Unit {0}) → HasCleared b before after block (Ok x) → IsMarkedBy b scene before after block without_members
    cleared_here x t = record {
      within = shown.lies.high;
      bytes = cleared_bytes shown.body;
      put = record {
        size = t.size;
        here = t.written told sure shown.body here;
        others = t.others told;
        settled = λ n s. elim (cases_eq n block) [
          | inl e ↦ subst (λ m. b.settled after m) (sym e) (t.settles told)
          | inr ne ↦ t.kept told tt n (inl ne) s
        ];
        settled_always = λ n s. elim (cases_eq n block) [
          | inl e ↦ subst (λ m. b.settled_always after m) (sym e) (t.settles_always told)
          | inr ne ↦ t.kept_always tt n (inl ne) s
        ];
        later = t.later;
        images = λ always. t.images told always shown.body here;
      };
      rewrites = record {
        page = shown.page;
        was = shown.held;
        is =
            ap (option_and_then (λ bytes. read_of (version_of bytes))) (t.written told sure shown.body here)
            ∙ ap read_of cleared;
        others = λ n ne. ap (λ (c : Content). c n) st.content ∙ sym (t.others told n ne);
      };
    }

    torn_here : (half : Half) → HasCleared {T = Unit {0}} b before after block (Err (WriteFault half)) → IsMarkTorn b scene before after block without_members
    torn_here half t = record {
      within = shown.lies.high;
      page = shown.page;
      was = shown.held;
      bytes = cleared_bytes shown.body;
      changed = cleared;
      size = t.size;
      either = t.either told sure shown.body here;
      images = λ always. t.images told always shown.body here;
    }

    came : (result : Result (Unit {0}) PairFault) → HasCleared b before after block result → ClearingCame b scene before after block result
    came (Ok x) t = cleared_here x t
    came (Err (ReadFault half)) t = read_only (Err (ReadFault half)) t tt tt
    came (Err (WriteFault half)) t = torn_here half t
    came (Err (BothClosed n)) t = none_some (sym (t.answer told sure).1 ∙ here)
    came (Err (BadPage n why)) t = never_bad why (t.answer told sure).1

  pub tops_are_cleared : TopsAreCleared b
  tops_are_cleared opening scripts first scene before after es k u made moment object block members left result st setting t =
      let top = setting.links.top in
      let shown : ShowsVersion scene object top.version.serial block =
      subst (λ n. ShowsVersion scene object top.version.serial n) top.block_is
      (version_shows scene object top.version st.shared (record { file = top.file; place = length top.file.versions - 1; counts = top.counts; listed = top.listed; kept = top.last })) in
      came opening scripts first scene before after es object top.version.serial block st shown result t
