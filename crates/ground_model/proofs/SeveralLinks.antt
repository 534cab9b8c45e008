-- The links after a commit of several files: those of the members are outstanding, and their client sets them.
use Rattle.std.proofs.Common.{◌≡◌, ◌⊎◌, inl, inr, ℕ, zero, suc, ◌-◌, ◌≤◌, ◌==◌, true, length, List, [], ◌∷◌, Some, Contains, refl, sym, ap, ◌∙◌, subst, arith, slice_get, true≢false}
use Rattle.page_codec.specs.Values.{MemberValue}
use Rattle.std.specs.List.{list_any}
use Rattle.service_model.specs.Sound.{is_committing}
use Rattle.service_model.proofs.Members.{at_place}
use Rattle.service_model.specs.Standing.{Client, Update, has_file}
use Rattle.service_model.specs.declared.named.Named.{Named}
use Rattle.service_model.specs.declared.journal.What.{What}
use Rattle.store_model.specs.Changes.{IsLinked, IsTop}
use Rattle.store_model.specs.Laid.{LaidFile, LaidVersion, last_laid}
use Rattle.store_model.proofs.Edits.{some_is}
use Rattle.ground_model.specs.Leaves.{Leaves}
use Rattle.ground_model.specs.Linking.{HasLinks, IsLeft, IsSettingLinks, LeavesLinks, LeavesNames, Link, LinksStay}
use Rattle.ground_model.specs.Scenes.{Scene, AreLinksOf, IsLinking, IsShared}
use Rattle.ground_model.proofs.FilesGrown.{Item, IsItem, IsBesides, IsOf, Grows, find_item}
use Rattle.ground_model.proofs.Grown.{last_then}

module _ (k : ℕ) (old new : Scene) (u : Update) (first : Item) (others : List Item) (shared : IsShared old) (g : Grows old new (first ∷ others))
    (unlinked : (object : ℕ) → has_file object u ≡ true → IsLinking old.standing object → ⊥)
    (mine : (i : ℕ) (it : Item) → slice_get (first ∷ others) i ≡ Some it → has_file it.work.object u ≡ true)
    (none : (i : ℕ) (it : Item) → slice_get others i ≡ Some it → it.next.members ≡ [])
    (named : (i : ℕ) (m : MemberValue) → slice_get first.next.members i ≡ Some m → has_file m.object u ≡ true) where
  abbrev items : List Item
  items = first ∷ others

  of_update : (object : ℕ) (f : IsOf items object) → has_file object u ≡ true
  of_update object f = subst (λ o. has_file o u ≡ true) f.object_is (mine f.place f.item f.at)

  -- a file whose links were set by someone is none of these
  linked_besides : (object : ℕ) → IsLinking old.standing object → IsBesides items object
  linked_besides object l i it at e = unlinked object (subst (λ o. has_file o u ≡ true) e (mine i it at)) l

  -- the last version of one of these files is the new one
  last_of : (object : ℕ) (f : IsOf items (suc object)) (file : LaidFile) (version : LaidVersion) → slice_get new.store.files object ≡ Some file → last_laid file.versions ≡ Some version
      → version ≡ f.item.next
  last_of object f file version listed last =
      let x : IsItem old new f.item = g.each f.place f.item f.at in
      let object_is = f.object_is in
      let place : f.item.work.object - 1 ≡ object = omega (arith, object_is) in
      let is : file ≡ x.now = some_is (sym listed ∙ ap (slice_get new.store.files) (sym place) ∙ x.now_listed) in
      some_is (sym last ∙ ap (λ (y : LaidFile). last_laid y.versions) is ∙ last_then x.file x.now f.item.last f.item.next x.grown)

  -- a version that names members is the first file's new one, or was there
  record WasTop (version : LaidVersion) (object : ℕ) : Type 0 where
    top : IsTop old.store version
    same : top.object ≡ object
    none_of : IsBesides items (suc object)

  top_case : (version : LaidVersion) (t : IsTop new.store version) → WasTop version t.object ⊎ ((version ≡ first.next) × (suc t.object ≡ first.work.object))
  top_case version t = by (find_item items (suc t.object))
    where
      of : (place : ℕ) (it : Item) → slice_get items place ≡ Some it → version ≡ it.next → it.work.object ≡ suc t.object → (version ≡ first.next) × (suc t.object ≡ first.work.object)
      of zero it at is object =
          let same : first ≡ it = some_is at in
          (is ∙ ap (λ (x : Item). x.next) (sym same), sym object ∙ ap (λ (x : Item). x.work.object) (sym same))
      of (suc i) it at is object =
          let no : version.members ≡ [] = ap (λ (v : LaidVersion). v.members) is ∙ none i it at in
          absurd (true≢false (sym (ap (λ (ms : List MemberValue). length ms == 0) no) ∙ t.names))

      by : IsOf items (suc t.object) ⊎ IsBesides items (suc t.object) → WasTop version t.object ⊎ ((version ≡ first.next) × (suc t.object ≡ first.work.object))
      by (inl f) = inr (of f.place f.item f.at (last_of t.object f t.file version t.listed t.last) f.object_is)
      by (inr besides) = inl (record {
        top = record { object = t.object; file = t.file; listed = sym (g.beside t.object besides) ∙ t.listed; last = t.last; names = t.names };
        same = refl;
        none_of = besides;
      })

  -- ---- what the others set

  pub leaves_links : (j : ℕ) → LeavesLinks j old new
  leaves_links j object l e low =
      let back : suc (object - 1) ≡ object = omega (arith, low) in
      g.beside (object - 1) (λ i it at is. linked_besides object l i it at (is ∙ back))

  pub leaves_names : (j : ℕ) → LeavesNames j old new
  leaves_names j version t i m at l e = by (top_case version t)
    where
      by : WasTop version t.object ⊎ ((version ≡ first.next) × (suc t.object ≡ first.work.object)) → (was : IsTop old.store version) × (was.object ≡ t.object)
      by (inl w) = (w.top, w.same)
      by (inr (is, object)) = absurd (unlinked m.object (named i m (ap (λ (v : LaidVersion). slice_get v.members i) (sym is) ∙ at)) l)

  -- ---- what is outstanding

  module _ (stays : (object : ℕ) → IsLinking old.standing object → IsLinking new.standing object)
      (linking : (object : ℕ) → has_file object u ≡ true → IsLinking new.standing object) where
    pub links_then : AreLinksOf new.store new.standing
    links_then = record {
      links = λ object file listed. links_of object file listed (find_item items (suc object));
      tops = λ version t. top_of version t (top_case version t);
      members = λ version t i m at. member_of version t i m at (top_case version t);
    }
      where
        links_of : (object : ℕ) (file : LaidFile) → slice_get new.store.files object ≡ Some file → IsOf items (suc object) ⊎ IsBesides items (suc object)
            → IsLinked file ⊎ IsLinking new.standing (suc object)
        links_of object file listed (inl f) = inr (linking (suc object) (of_update (suc object) f))
        links_of object file listed (inr besides) = elim (shared.links.links object file (sym (g.beside object besides) ∙ listed)) [
          | inl set ↦ inl set
          | inr l ↦ inr (stays (suc object) l)
        ]

        top_of : (version : LaidVersion) (t : IsTop new.store version) → WasTop version t.object ⊎ ((version ≡ first.next) × (suc t.object ≡ first.work.object))
            → IsLinking new.standing (suc t.object)
        top_of version t (inl w) = stays (suc t.object) (subst (λ o. IsLinking old.standing (suc o)) w.same (shared.links.tops version w.top))
        top_of version t (inr (is, object)) = linking (suc t.object) (subst (λ o. has_file o u ≡ true) (sym object) (mine zero first refl))

        member_of : (version : LaidVersion) (t : IsTop new.store version) (i : ℕ) (m : MemberValue) → slice_get version.members i ≡ Some m
            → WasTop version t.object ⊎ ((version ≡ first.next) × (suc t.object ≡ first.work.object)) → IsLinking new.standing m.object
        member_of version t i m at (inl w) = stays m.object (shared.links.members version w.top i m at)
        member_of version t i m at (inr (is, object)) = linking m.object (named i m (ap (λ (v : LaidVersion). slice_get v.members i) (sym is) ∙ at))

  -- ---- what is left

  module _ (left : List Link) (each : (i : ℕ) (l : Link) → slice_get left i ≡ Some l → IsLeft new.store l × Contains first.next.members l.member)
      (apart : (i j : ℕ) (l r : Link) → slice_get left i ≡ Some l → slice_get left j ≡ Some r → l.member.object ≡ r.member.object → i ≡ j)
      (first_linked : IsLinked (g.each zero first refl).now)
      (of_others : (i : ℕ) (it : Item) → slice_get others i ≡ Some it → (l : Link) × Contains left l × (l.member.object ≡ it.work.object)) where
    set_then : (o : ℕ) (file : LaidFile) → has_file (suc o) u ≡ true → slice_get new.store.files o ≡ Some file → IsLinked file ⊎ ((l : Link) × Contains left l × (l.member.object ≡ suc o))
    set_then o file has listed = by (find_item items (suc o))
      where
        of : (place : ℕ) (it : Item) → slice_get items place ≡ Some it → it.work.object ≡ suc o → IsLinked file ⊎ ((l : Link) × Contains left l × (l.member.object ≡ suc o))
        of zero it at object =
            let same : first ≡ it = some_is at in
            let one : first.work.object ≡ suc o = ap (λ (x : Item). x.work.object) same ∙ object in
            let place : first.work.object - 1 ≡ o = omega (arith, one) in
            let now : (g.each zero first refl).now ≡ file =
            some_is (sym (g.each zero first refl).now_listed ∙ ap (slice_get new.store.files) place ∙ listed) in
            inl (subst IsLinked now first_linked)
        of (suc i) it at object = (let f = of_others i it at in inr (f.0, f.1, f.2 ∙ object))

        by : IsOf items (suc o) ⊎ IsBesides items (suc o) → IsLinked file ⊎ ((l : Link) × Contains left l × (l.member.object ≡ suc o))
        by (inl f) = of f.place f.item f.at f.object_is
        by (inr besides) = elim (shared.links.links o file (sym (g.beside o besides) ∙ listed)) [
          | inl set ↦ inl set
          | inr l ↦ absurd (unlinked (suc o) has l)
        ]

    pub has_links : HasLinks new.store u first.work.object first.next.block first.next.members left
    has_links = record {
      mine = mine zero first refl;
      top = record {
        file = (g.each zero first refl).now;
        version = first.next;
        counts = (g.each zero first refl).counts;
        listed = (g.each zero first refl).now_listed;
        last = last_then (g.each zero first refl).file (g.each zero first refl).now first.last first.next (g.each zero first refl).grown;
        block_is = refl;
        members_are = refl;
      };
      named = named;
      each = each;
      apart = apart;
      set = set_then;
      tops = λ version t has. top_of version t has (top_case version t);
      others = λ version t i m at has. other_of version t i m at has (top_case version t);
    }
      where
        top_of : (version : LaidVersion) (t : IsTop new.store version) → has_file (suc t.object) u ≡ true
            → WasTop version t.object ⊎ ((version ≡ first.next) × (suc t.object ≡ first.work.object)) → suc t.object ≡ first.work.object
        top_of version t has (inl w) = absurd (unlinked (suc t.object) has (subst (λ o. IsLinking old.standing (suc o)) w.same (shared.links.tops version w.top)))
        top_of version t has (inr (is, object)) = object

        other_of : (version : LaidVersion) (t : IsTop new.store version) (i : ℕ) (m : MemberValue) → slice_get version.members i ≡ Some m → has_file m.object u ≡ true
            → WasTop version t.object ⊎ ((version ≡ first.next) × (suc t.object ≡ first.work.object)) → suc t.object ≡ first.work.object
        other_of version t i m at has (inl w) = absurd (unlinked m.object has (shared.links.members version w.top i m at))
        other_of version t i m at has (inr (is, object)) = object

-- ---- the turns of others

module _ (k : ℕ) (old new : Scene) (u : Update) (made : List Named) (at object block : ℕ) (members : List MemberValue) (left : List Link)
    (leaves : Leaves k old new) (files : LeavesLinks k old new) (names : LeavesNames k old new) (is : IsSettingLinks old k u made at object block members left) where
  mine_linking : (o : ℕ) → has_file o u ≡ true → IsLinking old.standing o
  mine_linking o has = record {
    client = k;
    update = u;
    number = is.committed.client.low;
    is_open = is.committed.is_open;
    several = is.committed.several;
    committed = ap (λ (ns : List What). list_any is_committing ns) is.committed.noted;
    has = has;
  }

  file_same : (o : ℕ) → has_file (suc o) u ≡ true → slice_get new.store.files o ≡ slice_get old.store.files o
  unfolding mine_linking
  file_same o has =
      let same : suc o - 1 ≡ o = omega arith in
      subst (λ n. slice_get new.store.files n ≡ slice_get old.store.files n) same (files (suc o) (mine_linking (suc o) has) refl (omega arith))

  back : (o : ℕ) → 1 ≤ o → suc (o - 1) ≡ o
  back o low = omega (arith, low)

  top_was : (version : LaidVersion) (t : IsTop new.store version) → has_file (suc t.object) u ≡ true → IsTop old.store version
  top_was version t has = record { object = t.object; file = t.file; listed = sym (file_same t.object has) ∙ t.listed; last = t.last; names = t.names }

  left_same : (l : Link) → Contains members l.member → IsLeft old.store l → IsLeft new.store l
  left_same l c x =
      let has : has_file l.member.object u ≡ true = is.links.named c.0 l.member (at_place members l.member c) in
      record {
        out = record {
          object = x.out.object;
          file = x.out.file;
          place = x.out.place;
          base = x.out.base;
          next = x.out.next;
          listed = file_same x.out.object (subst (λ o. has_file o u ≡ true) x.object_is has) ∙ x.out.listed;
          before = x.out.before;
          after = x.out.after;
          nil = x.out.nil;
        };
        object_is = x.object_is;
        base_is = x.base_is;
        next_is = x.next_is;
      }

  pub setting_stays : IsSettingLinks new k u made at object block members left
  unfolding top_was mine_linking
  setting_stays = record {
    committed = record {
      client = record { low = is.committed.client.low; high = subst (λ n. k ≤ n) (sym leaves.clients) is.committed.client.high };
      is_open = ap (λ (c : Client). c.update) leaves.client ∙ is.committed.is_open;
      several = is.committed.several;
      noted = ap (λ (c : Client). c.noted) leaves.client ∙ is.committed.noted;
    };
    links = record {
      mine = is.links.mine;
      top = record {
        file = is.links.top.file;
        version = is.links.top.version;
        counts = is.links.top.counts;
        listed = file_same (object - 1) (subst (λ o. has_file o u ≡ true) (sym (back object is.links.top.counts)) is.links.mine) ∙ is.links.top.listed;
        last = is.links.top.last;
        block_is = is.links.top.block_is;
        members_are = is.links.top.members_are;
      };
      named = is.links.named;
      each = λ i l here. (let x = is.links.each i l here in (left_same l x.1 x.0, x.1));
      apart = is.links.apart;
      set = λ o file has listed. is.links.set o file has (sym (file_same o has) ∙ listed);
      tops = λ version t has. is.links.tops version (top_was version t has) has;
      others = λ version t i m here has.
          let was = names version t i m here (mine_linking m.object has) refl in
          ap suc (sym was.1) ∙ is.links.others version was.0 i m here has;
    };
  }

pub links_stay : LinksStay
links_stay k old new u made at object block members left leaves files names is = setting_stays k old new u made at object block members left leaves files names is
