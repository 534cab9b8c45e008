-- The members that the top of an update of several files names are cleared, as no link is left to be set.
use Rattle.std.proofs.Common.{◌≡◌, ◌≢◌, ◌⊎◌, inl, inr, ℕ, suc, ◌-◌, ◌≤◌, ◌==◌, true, false, List, [], ◌∷◌, length, Some, refl, sym, ap, ◌∙◌, subst, arith, slice_get, true≢false, ne_eqb}
use Rattle.page_codec.specs.Values.{MemberValue}
use Rattle.service_model.specs.declared.named.Named.{Named}
use Rattle.service_model.specs.Sound.{IsSound}
use Rattle.service_model.specs.Standing.{Scripts, Update, has_file}
use Rattle.service_model.proofs.Members.{at_place}
use Rattle.store_changes.specs.Stands.{IsPlace}
use Rattle.store_changes.specs.Writes.{Content}
use Rattle.store_changes.proofs.InPlaces.{pages_are_places}
use Rattle.store_model.specs.Changes.{AreLinked, IsLinked, IsTop, LiesIn, Rewrites, changed_at, cleared, file_with, store_with, without_members}
use Rattle.store_model.specs.Found.{LaidStore}
use Rattle.store_model.specs.Laid.{LaidFile, LaidVersion, last_laid}
use Rattle.store_model.specs.Links.{IsLastOfItsFile}
use Rattle.store_model.specs.Members.{names_none}
use Rattle.store_model.proofs.Clearing.{clearing_keeps}
use Rattle.store_model.proofs.Edits.{changed_length, changed_same, none_some, some_is}
use Rattle.store_model.proofs.LastLinks.{cleared_keeps, linked_after, members_are_last}
use Rattle.ground_model.specs.Linking.{HasLinks, IsSettingLinks, IsTopAt, LeavesLinks, LeavesNames}
use Rattle.ground_model.specs.Rolling.{IsMarkedTo, TopIsCleared}
use Rattle.ground_model.specs.Scenes.{AreLinksOf, IsLinking, IsShared, Scene}
use Rattle.ground_model.proofs.RollingMarks.{KeepsPages, KeepsTop, file_was, marked_to, others_files}
use Rattle.ground_model.proofs.RollingLinks.{locked_apart}

clear_keeps : KeepsPages cleared
clear_keeps = record { serial = λ v. refl; block = λ v. refl; nodes = λ v. refl; head = record { serial = λ v. refl; block = λ v. refl; own = λ v. refl } }

clear_top : KeepsTop without_members
clear_top = record { page = λ v. refl; base = λ v. refl; root = λ v. refl }

-- ---- the clearing

no_members : (v : LaidVersion) (ms : List MemberValue) → v.members ≡ ms → ms ≢ [] → names_none v ≡ false
no_members v [] e some = absurd (some refl)
no_members v (m ∷ ms) e some =
    ap (λ (xs : List MemberValue). length xs == 0) e ∙ ne_eqb (length (m ∷ ms)) 0 (λ none. absurd (let is : length (m ∷ ms) ≡ 0 = none in omega (arith, is)))

module _ (scripts : Scripts) (k : ℕ) (old : Scene) (content : Content) (u : Update) (made : List Named) (moment object block : ℕ) (members : List MemberValue)
    (shared : IsShared old) (sound : IsSound scripts old.standing) (some : members ≢ []) (setting : IsSettingLinks old k u made moment object block members [])
    (rw : Rewrites old.content content block without_members) where
  abbrev t : IsTopAt old.store object block members
  t = setting.links.top

  the_top : IsTop old.store t.version
  the_top = record { object = object - 1; file = t.file; listed = t.listed; last = t.last; names = no_members t.version members t.members_are some }

  all_set : (o : ℕ) (file : LaidFile) → has_file (suc o) u ≡ true → slice_get old.store.files o ≡ Some file → IsLinked file
  all_set o file has listed = elim (setting.links.set o file has listed) [
    | inl linked ↦ linked
    | inr x ↦ none_some (at_place [] x.0 x.1)
  ]

  are_linked : AreLinked old.store t.version.members
  are_linked i m file here listed =
      let its : IsLastOfItsFile old.store m = members_are_last old.content old.most old.store old.places shared.laid t.version the_top i m here in
      let named : has_file m.object u ≡ true = setting.links.named i m (ap (λ ms. slice_get ms i) (sym t.members_are) ∙ here) in
      all_set (m.object - 1) file (subst (λ o. has_file o u ≡ true) its.counts named) listed

  rewrites : Rewrites old.content content t.version.block without_members
  rewrites = subst (λ n. Rewrites old.content content n without_members) (sym t.block_is) rw

  abbrev at : ℕ
  at = length t.file.versions - 1

  abbrev then_lies : LaidStore
  then_lies = store_with cleared (object - 1) at old.store

  pub lies : LiesIn content old.most then_lies old.places
  unfolding the_top
  lies = (clearing_keeps old.content content old.most old.store old.places shared.laid t.version the_top are_linked rewrites).0

  place_is : IsPlace old.places t.version.block
  place_is =
      pages_are_places old.content old.most old.store old.places shared.laid t.version
      (record { object = object - 1; file = t.file; place = length t.file.versions - 1; listed = t.listed; kept = t.last }) [] t.version.block refl

  last_cleared : last_laid (file_with cleared at t.file).versions ≡ Some (cleared t.version)
  last_cleared =
      ap (λ n. slice_get (changed_at cleared at t.file.versions) (n - 1)) (changed_length cleared at t.file.versions)
      ∙ changed_same cleared at t.file.versions t.version t.last

  -- a version that names members now is of another file, and did so before
  old_top : (v : LaidVersion) (x : IsTop then_lies v) → (was : IsTop old.store v) × (was.object ≡ x.object)
  old_top v x = by (file_was cleared (object - 1) at old.store.files x.object x.file x.listed)
    where
      by : (was : LaidFile) × (slice_get old.store.files x.object ≡ Some was) × ((x.file ≡ was) ⊎ ((x.object ≡ object - 1) × (x.file ≡ file_with cleared at was))) → (was : IsTop old.store v) × (was.object ≡ x.object)
      by (was, listed, inl same) = (record { object = x.object; file = was; listed = listed; last = ap (λ (f : LaidFile). last_laid f.versions) (sym same) ∙ x.last; names = x.names }, refl)
      by (was, listed, inr (e, is)) =
          let one : was ≡ t.file = some_is (sym listed ∙ ap (slice_get old.store.files) e ∙ t.listed) in
          let v_is : Some v ≡ Some (cleared t.version) =
          sym x.last ∙ ap (λ (f : LaidFile). last_laid f.versions) is ∙ ap (λ (f : LaidFile). last_laid (file_with cleared at f).versions) one ∙ last_cleared in
          absurd (true≢false (ap names_none (sym (some_is v_is)) ∙ x.names))

  linked_on : (was file : LaidFile) (j : ℕ) → (file ≡ was) ⊎ ((j ≡ object - 1) × (file ≡ file_with cleared at was)) → IsLinked was → IsLinked file
  linked_on was file j (inl e) linked = subst IsLinked (sym e) linked
  linked_on was file j (inr both) linked = subst IsLinked (sym both.1) (linked_after cleared at was cleared_keeps linked)

  links_are : AreLinksOf then_lies old.standing
  links_are = record {
    links = λ o file listed.
        let f = file_was cleared (object - 1) at old.store.files o file listed in
        elim (shared.links.links o f.0 f.1) [ inl set ↦ inl (linked_on f.0 file o f.2 set) | inr x ↦ inr x ];
    tops = λ v x. (let was = old_top v x in subst (λ o. IsLinking old.standing (suc o)) was.1 (shared.links.tops v was.0));
    members = λ v x i m here. shared.links.members v (old_top v x).0 i m here;
  }

  top_now : IsTopAt then_lies object block []
  top_now = record {
    file = file_with cleared at t.file;
    version = cleared t.version;
    counts = t.counts;
    listed = changed_same (file_with cleared at) (object - 1) old.store.files t.file t.listed;
    last = last_cleared;
    block_is = t.block_is;
    members_are = refl;
  }

  links_now : HasLinks then_lies u object block [] []
  links_now = record {
    mine = setting.links.mine;
    top = top_now;
    named = λ i m here. none_some here;
    each = λ i l here. none_some here;
    apart = λ i j l r one two e. none_some one;
    set = λ o file has listed.
        let f = file_was cleared (object - 1) at old.store.files o file listed in
        inl (linked_on f.0 file o f.2 (all_set o f.0 has f.1));
    tops = λ v x has.
        let was = old_top v x in
        ap suc (sym was.1) ∙ setting.links.tops v was.0 (subst (λ o. has_file (suc o) u ≡ true) (sym was.1) has);
    others = λ v x i m here has. (let was = old_top v x in ap suc (sym was.1) ∙ setting.links.others v was.0 i m here has);
  }

  links_left : (j : ℕ) → 1 ≤ j → j ≢ k → LeavesLinks j old (record old { content = content; store = then_lies; places = lies.order })
  links_left j low ne o x is counts =
      others_files cleared old.store (object - 1) at (o - 1)
      (λ e.
      locked_apart scripts old.standing sound k u setting.committed.client.low setting.committed.is_open setting.committed.several j o low ne x is
      (subst (λ n. has_file n u ≡ true) (same_number object o t.counts counts e) setting.links.mine))
    where
      same_number : (m n : ℕ) → 1 ≤ m → 1 ≤ n → n - 1 ≡ m - 1 → m ≡ n
      same_number m n one two e = omega (arith, one, two, e)

  names_left : (j : ℕ) → LeavesNames j old (record old { content = content; store = then_lies; places = lies.order })
  names_left j v top i m here l e = old_top v top

  pub cleared_to : IsMarkedTo k old (record old { content = content; store = then_lies; places = lies.order }) content
  cleared_to =
      marked_to k old content t.version.block without_members clear_top cleared clear_keeps (object - 1) at (λ v. refl)
      shared place_is rewrites lies links_are (λ j low ne. (links_left j low ne, names_left j))

  pub cleared_then : IsSettingLinks (record old { content = content; store = then_lies; places = lies.order }) k u made moment object block [] []
  cleared_then = record { committed = setting.committed; links = links_now }

pub top_is_cleared : TopIsCleared
top_is_cleared scripts k old content u made moment object block members shared sound some setting rw = (
  _,
  cleared_to scripts k old content u made moment object block members shared sound some setting rw,
  cleared_then scripts k old content u made moment object block members shared sound some setting rw,
)
