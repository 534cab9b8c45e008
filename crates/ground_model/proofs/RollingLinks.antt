-- What is left to be set of the links of an update of several files: after one more of them was set, and after the top was cleared.
use Rattle.std.proofs.Common.{◌≡◌, ◌≢◌, ◌⊎◌, inl, inr, ℕ, zero, suc, ◌-◌, ◌≤◌, ◌==◌, Bool, true, false, List, [], ◌∷◌, length, Some, Contains, refl, sym, ap, ◌∙◌, subst, arith, slice_get, true≢false}
use Rattle.std.proofs.lemmas.Bool.{cases_eq}
use Rattle.page_codec.specs.Values.{MemberValue}
use Rattle.service_model.specs.declared.named.Named.{Named}
use Rattle.service_model.specs.Sound.{IsOpenAt, IsSound}
use Rattle.service_model.specs.Standing.{Scripts, Standing, Update, has_file}
use Rattle.service_model.proofs.Members.{at_place, from_place}
use Rattle.store_changes.specs.Stands.{IsPlace}
use Rattle.store_changes.specs.Writes.{Content}
use Rattle.store_changes.proofs.InPlaces.{pages_are_places}
use Rattle.store_model.specs.Changes.{IsLinked, IsTop, LiesIn, Outstanding, Rewrites, changed_at, committed, file_with, store_with, with_commit}
use Rattle.store_model.specs.Found.{LaidStore}
use Rattle.store_model.specs.Laid.{LaidFile, LaidVersion, last_laid}
use Rattle.store_model.specs.Members.{names_none}
use Rattle.store_model.proofs.Edits.{changed_length, changed_other, changed_same, none_some, some_is, within}
use Rattle.store_model.proofs.LastLinks.{committed_keeps, link_elsewhere, linked_after, linked_now}
use Rattle.store_model.proofs.SettingLinks.{linking_keeps}
use Rattle.ground_model.specs.Linking.{HasLinks, IsLeft, IsSettingLinks, IsTopAt, LeavesLinks, LeavesNames, Link}
use Rattle.ground_model.specs.Rolling.{IsMarkedTo, LinkIsSet, NobodySetsLinks, NothingIsLeft}
use Rattle.ground_model.specs.Scenes.{AreLinksOf, IsLinking, IsShared, Scene}
use Rattle.ground_model.proofs.RollingMarks.{KeepsPages, KeepsTop, file_now, file_was, marked_to, others_files}

commit_keeps : (block : ℕ) → KeepsPages (committed block)
commit_keeps block = record { serial = λ v. refl; block = λ v. refl; nodes = λ v. refl; head = record { serial = λ v. refl; block = λ v. refl; own = λ v. refl } }

commit_top : (block : ℕ) → KeepsTop (with_commit block)
commit_top block = record { page = λ v. refl; base = λ v. refl; root = λ v. refl }

-- two objects of one number from 1
same_object : (m n : ℕ) → 1 ≤ m → m - 1 ≡ n → m ≡ suc n
same_object m n low e = omega (arith, low, e)

-- the first of a list, or one behind it
first_or : {X : Type 0} (x : X) (xs : List X) (y : X) → Contains (x ∷ xs) y → (y ≡ x) ⊎ Contains xs y
first_or x xs y is = by is.0 (at_place (x ∷ xs) y is)
  where
    by : (n : ℕ) → slice_get (x ∷ xs) n ≡ Some y → (y ≡ x) ⊎ Contains xs y
    by zero e = inl (sym (some_is e))
    by (suc n) e = inr (from_place xs y n e)

-- an update of several files of another client has no file of this one's
module _ (scripts : Scripts) (s : Standing) (sound : IsSound scripts s) (k : ℕ) (u : Update) (low : 1 ≤ k) (is_open : IsOpenAt s k u) (several : u.is_super ≡ true) where
  pub locked_apart : (j object : ℕ) → 1 ≤ j → j ≢ k → (x : IsLinking s object) → x.client ≡ j → has_file object u ≡ true → ⊥
  locked_apart j object first ne x mine has =
      sound.alone x.client k x.update u x.number low (λ e. ne (sym mine ∙ e)) x.is_open is_open object x.several several x.has has

-- ---- one link

module _ (scripts : Scripts) (k : ℕ) (old : Scene) (content : Content) (u : Update) (made : List Named) (moment object block : ℕ) (members : List MemberValue) (link : Link) (left : List Link)
    (shared : IsShared old) (sound : IsSound scripts old.standing) (setting : IsSettingLinks old k u made moment object block members (link ∷ left))
    (rw : Rewrites old.content content link.base (with_commit link.member.block)) where
  pub first : IsLeft old.store link × Contains members link.member
  first = setting.links.each 0 link refl

  abbrev out : Outstanding old.store
  out = first.0.out

  rewrites : Rewrites old.content content out.base.block (with_commit out.next.block)
  rewrites =
      let F : ℕ → ℕ → Type 0 = λ m n. Rewrites old.content content m (with_commit n) in
      subst (λ m. F m out.next.block) (sym first.0.base_is) (subst (λ n. F link.base n) (sym first.0.next_is) rw)

  abbrev change : LaidVersion → LaidVersion
  change = committed out.next.block

  abbrev then_lies : LaidStore
  then_lies = store_with change out.object out.place old.store

  pub lies : LiesIn content old.most then_lies old.places
  lies = (linking_keeps old.content content old.most old.store old.places shared.laid out rewrites).0

  place_is : IsPlace old.places out.base.block
  place_is =
      pages_are_places old.content old.most old.store old.places shared.laid out.base
      (record { object = out.object; file = out.file; place = out.place; listed = out.listed; kept = out.before }) [] out.base.block refl

  -- the version with the link is not the last one of its file
  not_last : out.place ≢ length out.file.versions - 1
  not_last e = (let low = within out.file.versions (suc out.place) out.next out.after in omega (arith, low, e))

  last_kept : last_laid (changed_at change out.place out.file.versions) ≡ last_laid out.file.versions
  last_kept =
      ap (λ n. slice_get (changed_at change out.place out.file.versions) (n - 1)) (changed_length change out.place out.file.versions)
      ∙ changed_other change out.place (length out.file.versions - 1) out.file.versions (λ e. not_last (sym e))

  file_is : (was : LaidFile) (j : ℕ) → j ≡ out.object → slice_get old.store.files j ≡ Some was → was ≡ out.file
  file_is was j e listed = some_is (sym listed ∙ ap (slice_get old.store.files) e ∙ out.listed)

  last_same : (was : LaidFile) (j : ℕ) → j ≡ out.object → slice_get old.store.files j ≡ Some was → last_laid (file_with change out.place was).versions ≡ last_laid was.versions
  last_same was j e listed =
      ap (λ (f : LaidFile). last_laid (changed_at change out.place f.versions)) (file_is was j e listed) ∙ last_kept
      ∙ ap (λ (f : LaidFile). last_laid f.versions) (sym (file_is was j e listed))

  -- a version that names members now did so before
  old_top : (v : LaidVersion) (t : IsTop then_lies v) → (was : IsTop old.store v) × (was.object ≡ t.object)
  old_top v t = by (file_was change out.object out.place old.store.files t.object t.file t.listed)
    where
      by : (was : LaidFile) × (slice_get old.store.files t.object ≡ Some was) × ((t.file ≡ was) ⊎ ((t.object ≡ out.object) × (t.file ≡ file_with change out.place was))) → (was : IsTop old.store v) × (was.object ≡ t.object)
      by (was, listed, inl same) = (record { object = t.object; file = was; listed = listed; last = ap (λ (f : LaidFile). last_laid f.versions) (sym same) ∙ t.last; names = t.names }, refl)
      by (was, listed, inr (e, is)) =
          (record { object = t.object; file = was; listed = listed; last = sym (last_same was t.object e listed) ∙ ap (λ (f : LaidFile). last_laid f.versions) (sym is) ∙ t.last; names = t.names }, refl)

  linked_on : (was file : LaidFile) (j : ℕ) → (file ≡ was) ⊎ ((j ≡ out.object) × (file ≡ file_with change out.place was)) → IsLinked was → IsLinked file
  linked_on was file j (inl e) linked = subst IsLinked (sym e) linked
  linked_on was file j (inr both) linked = subst IsLinked (sym both.1) (linked_after change out.place was (committed_keeps out.next.block) linked)

  links_are : AreLinksOf then_lies old.standing
  links_are = record {
    links = λ o file listed.
        let f = file_was change out.object out.place old.store.files o file listed in
        elim (shared.links.links o f.0 f.1) [ inl set ↦ inl (linked_on f.0 file o f.2 set) | inr x ↦ inr x ];
    tops = λ v t. (let was = old_top v t in subst (λ o. IsLinking old.standing (suc o)) was.1 (shared.links.tops v was.0));
    members = λ v t i m here. shared.links.members v (old_top v t).0 i m here;
  }

  -- the object is one of the update's files
  mine : has_file (suc out.object) u ≡ true
  mine = subst (λ o. has_file o u ≡ true) first.0.object_is (setting.links.named first.1.0 link.member (at_place members link.member first.1))

  left_still : (i : ℕ) (l : Link) → slice_get left i ≡ Some l → IsLeft then_lies l × Contains members l.member
  left_still i l here =
      let was = setting.links.each (suc i) l here in
      let off : was.0.out.object ≢ out.object = λ e.
      (let same : suc i ≡ 0 = setting.links.apart (suc i) 0 l link here refl (was.0.object_is ∙ ap suc e ∙ sym first.0.object_is) in omega (arith, same)) in (
        record {
          out = link_elsewhere change out.object out.place old.store was.0.out off;
          object_is = was.0.object_is;
          base_is = was.0.base_is;
          next_is = was.0.next_is;
        },
        was.1,
      )

  set_now : (o : ℕ) (file : LaidFile) → has_file (suc o) u ≡ true → slice_get then_lies.files o ≡ Some file → IsLinked file ⊎ ((l : Link) × Contains left l × (l.member.object ≡ suc o))
  set_now o file has listed = by (file_was change out.object out.place old.store.files o file listed)
    where
      here : o ≡ out.object → IsLinked file
      here e =
          let now : Some (file_with change out.place out.file) ≡ Some file =
          sym (changed_same (file_with change out.place) out.object old.store.files out.file out.listed)
          ∙ ap (slice_get then_lies.files) (sym e) ∙ listed in
          subst IsLinked (some_is now) (linked_now old.content old.most old.store old.places shared.laid out)

      one : (l : Link) → l.member.object ≡ suc o → (l ≡ link) ⊎ Contains left l → IsLinked file ⊎ ((r : Link) × Contains left r × (r.member.object ≡ suc o))
      one l is (inl e) =
          let same : suc out.object ≡ suc o = sym first.0.object_is ∙ ap (λ (x : Link). x.member.object) (sym e) ∙ is in
          inl (here (omega (arith, same)))
      one l is (inr more) = inr (l, more, is)

      of : (was : LaidFile) → (file ≡ was) ⊎ ((o ≡ out.object) × (file ≡ file_with change out.place was)) → IsLinked was ⊎ ((l : Link) × Contains (link ∷ left) l × (l.member.object ≡ suc o))
          → IsLinked file ⊎ ((l : Link) × Contains left l × (l.member.object ≡ suc o))
      of was how (inl linked) = inl (linked_on was file o how linked)
      of was how (inr (l, is_in, is)) = one l is (first_or link left l is_in)

      by : (was : LaidFile) × (slice_get old.store.files o ≡ Some was) × ((file ≡ was) ⊎ ((o ≡ out.object) × (file ≡ file_with change out.place was)))
          → IsLinked file ⊎ ((l : Link) × Contains left l × (l.member.object ≡ suc o))
      by (was, there, how) = of was how (setting.links.set o was has there)

  top_now : IsTopAt then_lies object block members
  top_now = by (file_now change out.object out.place old.store.files (object - 1) setting.links.top.file setting.links.top.listed)
      (cases_eq (object - 1) out.object)
    where
      t : IsTopAt old.store object block members
      t = setting.links.top

      by : (now : LaidFile) × (slice_get (changed_at (file_with change out.place) out.object old.store.files) (object - 1) ≡ Some now) × ((now ≡ setting.links.top.file) ⊎ (now ≡ file_with change out.place setting.links.top.file))
          → (object - 1 ≡ out.object) ⊎ (object - 1 ≢ out.object) → IsTopAt then_lies object block members
      by (now, listed, how) (inr ne) = record {
        file = t.file;
        version = t.version;
        counts = t.counts;
        listed = changed_other (file_with change out.place) out.object (object - 1) old.store.files ne ∙ t.listed;
        last = t.last;
        block_is = t.block_is;
        members_are = t.members_are;
      }
      by (now, listed, inl same) (inl e) = record {
        file = now;
        version = t.version;
        counts = t.counts;
        listed = listed;
        last = ap (λ (f : LaidFile). last_laid f.versions) same ∙ t.last;
        block_is = t.block_is;
        members_are = t.members_are;
      }
      by (now, listed, inr is) (inl e) = record {
        file = now;
        version = t.version;
        counts = t.counts;
        listed = listed;
        last = ap (λ (f : LaidFile). last_laid f.versions) is ∙ last_same t.file (object - 1) e t.listed ∙ t.last;
        block_is = t.block_is;
        members_are = t.members_are;
      }

  links_now : HasLinks then_lies u object block members left
  links_now = record {
    mine = setting.links.mine;
    top = top_now;
    named = setting.links.named;
    each = left_still;
    apart = λ i j l r one two e. (let same : suc i ≡ suc j = setting.links.apart (suc i) (suc j) l r one two e in omega (arith, same));
    set = set_now;
    tops = λ v t has.
        let was = old_top v t in
        ap suc (sym was.1) ∙ setting.links.tops v was.0 (subst (λ o. has_file (suc o) u ≡ true) (sym was.1) has);
    others = λ v t i m here has. (let was = old_top v t in ap suc (sym was.1) ∙ setting.links.others v was.0 i m here has);
  }

  links_left : (j : ℕ) → 1 ≤ j → j ≢ k → LeavesLinks j old (record old { content = content; store = then_lies; places = lies.order })
  links_left j low ne o x is counts =
      others_files change old.store out.object out.place (o - 1)
      (λ e.
      locked_apart scripts old.standing sound k u setting.committed.client.low setting.committed.is_open setting.committed.several j o low ne x is
      (subst (λ n. has_file n u ≡ true) (sym (same_object o out.object counts e)) mine))

  names_left : (j : ℕ) → LeavesNames j old (record old { content = content; store = then_lies; places = lies.order })
  names_left j v top i m here l e = old_top v top

  pub link_set_to : IsMarkedTo k old (record old { content = content; store = then_lies; places = lies.order }) content
  link_set_to =
      marked_to k old content out.base.block (with_commit out.next.block) (commit_top out.next.block) change (commit_keeps out.next.block) out.object out.place (λ v. refl)
      shared place_is rewrites lies links_are (λ j low ne. (links_left j low ne, names_left j))

  pub link_set_then : IsSettingLinks (record old { content = content; store = then_lies; places = lies.order }) k u made moment object block members left
  link_set_then = record { committed = setting.committed; links = links_now }

pub link_is_set : LinkIsSet
link_is_set scripts k old content u made moment object block members link left shared sound setting rw = (
  _,
  link_set_to scripts k old content u made moment object block members link left shared sound setting rw,
  link_set_then scripts k old content u made moment object block members link left shared sound setting rw,
)

-- ---- nothing is left

names_or_not : (v : LaidVersion) (b : Bool) → names_none v ≡ b → (names_none v ≡ false → ⊥) → names_none v ≡ true
names_or_not v true e never = e
names_or_not v false e never = absurd (never e)

pub nothing_is_left : NothingIsLeft
nothing_is_left scene k u made at object block setting o file has listed = (linked, none)
  where
    t : IsTopAt scene.store object block []
    t = setting.links.top

    linked : IsLinked file
    linked = elim (setting.links.set o file has listed) [ inl set ↦ set | inr x ↦ none_some (at_place [] x.0 x.1) ]

    none : (v : LaidVersion) → last_laid file.versions ≡ Some v → names_none v ≡ true
    none v last = names_or_not v (names_none v) refl (λ some.
        let top : suc o ≡ object = setting.links.tops v (record { object = o; file = file; listed = listed; last = last; names = some }) has in
        let one : file ≡ t.file = some_is (sym listed ∙ ap (slice_get scene.store.files) (omega (arith, top)) ∙ t.listed) in
        let same : v ≡ t.version = some_is (sym last ∙ ap (λ (f : LaidFile). last_laid f.versions) one ∙ t.last) in
        let nothing : names_none v ≡ true = ap names_none same ∙ ap (λ (xs : List MemberValue). length xs == 0) t.members_are in
        true≢false (sym nothing ∙ some))

pub nobody_sets_links : NobodySetsLinks
nobody_sets_links scene shared nobody o file listed = (
  elim (shared.links.links o file listed) [ inl set ↦ set | inr x ↦ absurd (nobody (suc o) x) ],
  λ v last.
      names_or_not v (names_none v) refl (λ some.
      nobody (suc o) (shared.links.tops v (record { object = o; file = file; listed = listed; last = last; names = some }))),
)
