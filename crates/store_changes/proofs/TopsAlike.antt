-- Members of tops, while one file is another one whose last version is like its own: they find the same places, and the two files get like versions.
use Rattle.std.proofs.Common.{◌≡◌, ◌≢◌, ℕ, ◌-◌, ◌==◌, ◌&&◌, true, List, [], ◌∷◌, ◌++◌, length, append-nil, append_assoc, inl, inr, nat_eq, eqb-true, eq-eqb, true≢false, Some, Ok, sym, ap, subst, ◌∙◌, slice_get}
use Rattle.std.specs.Option.{is_none}
use Rattle.tree_model.proofs.Paths.{told}
use Rattle.page_codec.specs.Values.{MemberValue}
use Rattle.store_model.specs.Walk.{Walk, bind, done}
use Rattle.store_model.specs.Laid.{LaidVersion, LaidFile, last_laid}
use Rattle.store_model.specs.Members.{Top, Linked, names_none, longer, last_in, members_linked, tops_linked}
use Rattle.store_model.specs.Changes.{changed_at}
use Rattle.store_model.proofs.Steps.{Content, blocks_of, Passed, passed, went_on, same_value, same_places}
use Rattle.store_model.proofs.Edits.{some_is, changed_other, changed_same, changed_swap, changed_twice, last_past}
use Rattle.store_model.proofs.Linking.{InFile, in_file, last_again, Already, Extended, already_goes, extended_goes, MemberRan, member_step, member_goes}
use Rattle.store_model.proofs.Aside.{member_run}
use Rattle.store_changes.proofs.Likeness.{HeadLike, VersionGoes, version_like}
use Rattle.store_changes.proofs.ChainAlike.{AllLike}

-- the last versions of two files are alike, where the one has any
abbrev pub LastLike : LaidFile → LaidFile → Type 0
LastLike f g = (last : LaidVersion) → last_laid f.versions ≡ Some last → (w : LaidVersion) × (last_laid g.versions ≡ Some w) × HeadLike last w

-- these files with another one at this place
abbrev pub swapped : ℕ → LaidFile → Linked → Linked
swapped k g linked = record { files = changed_at (λ _. g) k linked.files; named = linked.named }

abbrev pub with_more : LaidFile → List LaidVersion → LaidFile
with_more f more = record f { versions = f.versions ++ more }

-- the walk goes with the other file too, and both files get like versions
pub record TopsLike (run : Linked → Walk Linked) (k : ℕ) (f g : LaidFile) (linked : Linked) (seen : List ℕ) (after : Linked) (all : List ℕ) : Type 0 where
  pub more : List LaidVersion
  pub others : List LaidVersion
  pub likes : AllLike more others
  pub listed : slice_get after.files k ≡ Some (with_more f more)
  pub last : LastLike (with_more f more) (with_more g others)
  pub runs : run (swapped k g linked) seen ≡ Ok (swapped k (with_more g others) after, all)

same_file : (f : LaidFile) → f ≡ with_more f []
same_file f = ap (λ (vs : List LaidVersion). record f { versions = vs }) (sym (append-nil f.versions))

-- nothing more
stays_like : (run : Linked → Walk Linked) (k : ℕ) (f g : LaidFile) (linked : Linked) (seen : List ℕ) (after : Linked) (all : List ℕ)
    → slice_get after.files k ≡ Some f → LastLike f g → run (swapped k g linked) seen ≡ Ok (swapped k g after, all) → TopsLike run k f g linked seen after all
stays_like run k f g linked seen after all listed last runs =
    record {
      more = [];
      others = [];
      likes = tt;
      listed = listed ∙ ap Some (same_file f);
      last = subst (λ x. LastLike x (with_more g [])) (same_file f) (subst (LastLike f) (same_file g) last);
      runs = runs ∙ ap (λ x. Ok (swapped k x after, all)) (same_file g);
    }

pub likes_append : (xs ys vs ws : List LaidVersion) → AllLike xs ys → AllLike vs ws → AllLike (xs ++ vs) (ys ++ ws)
likes_append [] [] vs ws a b = b
likes_append [] (y ∷ ys) vs ws a b = absurd a
likes_append (x ∷ xs) [] vs ws a b = absurd a
likes_append (x ∷ xs) (y ∷ ys) vs ws a b = (a.0, likes_append xs ys vs ws a.1 b)

twice : (f : LaidFile) (xs ys : List LaidVersion) → with_more (with_more f xs) ys ≡ with_more f (xs ++ ys)
twice f xs ys = ap (λ (vs : List LaidVersion). record f { versions = vs }) (append_assoc f.versions xs ys)

both_like : (first second : Linked → Walk Linked) (k : ℕ) (f g : LaidFile) (linked : Linked) (seen : List ℕ) (mid : Linked) (places : List ℕ) (after : Linked) (all : List ℕ)
    → (a : TopsLike first k f g linked seen mid places) → TopsLike second k (with_more f a.more) (with_more g a.others) mid places after all
    → TopsLike (λ l. bind (first l) second) k f g linked seen after all
both_like first second k f g linked seen mid places after all a b =
    record {
      more = a.more ++ b.more;
      others = a.others ++ b.others;
      likes = likes_append a.more a.others b.more b.others a.likes b.likes;
      listed = b.listed ∙ ap Some (twice f a.more b.more);
      last = subst (λ x. LastLike x (with_more g (a.others ++ b.others))) (twice f a.more b.more) (subst (LastLike (with_more (with_more f a.more) b.more)) (twice g a.others b.others) b.last);
      runs = went_on (first (swapped k g linked)) second seen (swapped k (with_more g a.others) mid) places _ a.runs b.runs ∙ ap (λ x. Ok (swapped k x after, all)) (twice g a.others b.others);
    }

-- ---- a member

member_off : (c : Content) (count k : ℕ) (top : Top) (member : MemberValue) (f g : LaidFile) (linked : Linked) (seen : List ℕ) (after : Linked) (all : List ℕ)
    → slice_get linked.files k ≡ Some f → LastLike f g → member.object - 1 ≢ k → MemberRan c count top member linked seen after all
    → TopsLike (member_run c count top member) k f g linked seen after all
member_off c count k top member f g linked seen after all listed last off r = elim r.how [ inl x ↦ stays x | inr x ↦ grows x ]
  where
    files : List LaidFile
    files = changed_at (λ _. g) k linked.files

    there : last_in member.object files ≡ Some r.last
    there =
        let i : InFile member.object linked.files r.last = in_file member.object linked.files r.last r.is in
        last_again member.object files i.file r.last i.counts (changed_other (λ _. g) k (member.object - 1) linked.files off ∙ i.listed) i.is

    stays : Already member r.last linked.files after.files seen all → TopsLike (member_run c count top member) k f g linked seen after all
    stays x =
        stays_like (member_run c count top member) k f g linked seen after all (ap (λ l. slice_get l k) x.keeps ∙ listed) last
        (member_goes c count top member files files linked.named r.last seen seen there r.other r.none r.unnamed (already_goes c count top.version.block member r.last files seen x.is_last)
        ∙ ap (λ l. Ok ((let m : Linked = record { files = changed_at (λ _. g) k l; named = member.object ∷ linked.named } in m), seen)) (sym x.keeps)
        ∙ ap (λ n. Ok ((let m : Linked = record { files = changed_at (λ _. g) k after.files; named = n } in m), seen)) (sym r.named)
        ∙ ap (λ l. Ok (swapped k g after, l)) (sym x.stays))

    grows : Extended c count top.version.block member r.last linked.files after.files seen all → TopsLike (member_run c count top member) k f g linked seen after all
    grows x =
        stays_like (member_run c count top member) k f g linked seen after all
        (ap (λ l. slice_get l k) x.extends ∙ changed_other (longer x.version) (member.object - 1) k linked.files (λ e. off (sym e)) ∙ listed) last
        (member_goes c count top member files (changed_at (longer x.version) (member.object - 1) files) linked.named r.last seen all there r.other r.none r.unnamed
        (extended_goes c count top.version.block member r.last x.version files seen all x.not_last x.read x.ends)
        ∙ ap (λ l. Ok ((let m : Linked = record { files = l; named = member.object ∷ linked.named } in m), all))
        (changed_swap (longer x.version) (λ _. g) (member.object - 1) k linked.files off ∙ ap (changed_at (λ _. g) k) (sym x.extends))
        ∙ ap (λ n. Ok ((let m : Linked = record { files = changed_at (λ _. g) k after.files; named = n } in m), all)) (sym r.named))

member_on : (c : Content) (count k : ℕ) (top : Top) (member : MemberValue) (f g : LaidFile) (linked : Linked) (seen : List ℕ) (after : Linked) (all : List ℕ)
    → slice_get linked.files k ≡ Some f → LastLike f g → member.object - 1 ≡ k → MemberRan c count top member linked seen after all
    → TopsLike (member_run c count top member) k f g linked seen after all
member_on c count k top member f g linked seen after all listed last on r = of i.listed (last r.last (ap (λ (x : LaidFile). last_laid x.versions) (sym one) ∙ i.is))
  where
    i : InFile member.object linked.files r.last
    i = in_file member.object linked.files r.last r.is

    one : i.file ≡ f
    one = some_is (sym i.listed ∙ ap (slice_get linked.files) on ∙ listed)

    files : List LaidFile
    files = changed_at (λ _. g) k linked.files

    of : slice_get linked.files (member.object - 1) ≡ Some i.file → ((w : LaidVersion) × (last_laid g.versions ≡ Some w) × HeadLike r.last w) → TopsLike (member_run c count top member) k f g linked seen after all
    of was p = elim r.how [ inl x ↦ stays x | inr x ↦ grows x ]
      where
        w : LaidVersion
        w = p.0

        h : HeadLike r.last w
        h = p.2

        there : last_in member.object files ≡ Some w
        there = last_again member.object files g w i.counts (ap (slice_get files) on ∙ changed_same (λ _. g) k linked.files f listed) p.1

        none : names_none w ≡ true
        none = ap (λ (m : List MemberValue). length m == 0) (sym h.members) ∙ r.none

        stays : Already member r.last linked.files after.files seen all → TopsLike (member_run c count top member) k f g linked seen after all
        stays x =
            stays_like (member_run c count top member) k f g linked seen after all (ap (λ l. slice_get l k) x.keeps ∙ listed) last
            (member_goes c count top member files files linked.named w seen seen there r.other none r.unnamed
            (already_goes c count top.version.block member w files seen (ap (λ b. b == member.block) (sym h.block) ∙ x.is_last))
            ∙ ap (λ l. Ok ((let m : Linked = record { files = changed_at (λ _. g) k l; named = member.object ∷ linked.named } in m), seen)) (sym x.keeps)
            ∙ ap (λ n. Ok ((let m : Linked = record { files = changed_at (λ _. g) k after.files; named = n } in m), seen)) (sym r.named)
            ∙ ap (λ l. Ok (swapped k g after, l)) (sym x.stays))

        grows : Extended c count top.version.block member r.last linked.files after.files seen all → TopsLike (member_run c count top member) k f g linked seen after all
        grows x =
            let v : VersionGoes c count member.object top.version.block member.block w seen x.version all =
            version_like c count member.object top.version.block member.block r.last w seen x.version all h x.read in
            let extends : after.files ≡ changed_at (longer x.version) k linked.files = x.extends ∙ ap (λ n. changed_at (longer x.version) n linked.files) on in
            let ends : (is_none v.version.commit && names_none v.version) ≡ true =
            ap (λ o. is_none o && names_none v.version) (sym v.like.head.commit) ∙ ap (λ (m : List MemberValue). is_none x.version.commit && (length m == 0)) (sym v.like.head.members) ∙ x.ends in
            let to : changed_at (longer v.version) (member.object - 1) files ≡ changed_at (λ _. longer v.version g) k after.files =
            ap (λ n. changed_at (longer v.version) n files) on ∙ changed_twice (longer v.version) (λ _. g) k linked.files
            ∙ sym (changed_twice (λ _. longer v.version g) (longer x.version) k linked.files) ∙ ap (changed_at (λ _. longer v.version g) k) (sym extends) in
            record {
              more = x.version ∷ [];
              others = v.version ∷ [];
              likes = (v.like, tt);
              listed = ap (λ l. slice_get l k) extends ∙ changed_same (longer x.version) k linked.files f listed;
              last = λ l e. (v.version, last_past g.versions v.version, subst (λ y. HeadLike y v.version) (some_is (sym (last_past f.versions x.version) ∙ e)) v.like.head);
              runs =
                  member_goes c count top member files (changed_at (longer v.version) (member.object - 1) files) linked.named w seen all there r.other none r.unnamed
                  (extended_goes c count top.version.block member w v.version files seen all (ap (λ b. b == member.block) (sym h.block) ∙ x.not_last) v.runs ends)
                  ∙ ap (λ l. Ok ((let m : Linked = record { files = l; named = member.object ∷ linked.named } in m), all)) to
                  ∙ ap (λ n. Ok ((let m : Linked = record { files = changed_at (λ _. longer v.version g) k after.files; named = n } in m), all)) (sym r.named);
            }

pub members_alike : (c : Content) (count k : ℕ) (top : Top) (members : List MemberValue) (f g : LaidFile) (linked : Linked) (seen : List ℕ) (after : Linked) (all : List ℕ)
    → slice_get linked.files k ≡ Some f → LastLike f g → members_linked (blocks_of c count) top members linked seen ≡ Ok (after, all)
    → TopsLike (members_linked (blocks_of c count) top members) k f g linked seen after all
unfolding members_linked bind done
members_alike c count k top [] f g linked seen after all listed last e =
    let end : Linked = record { files = linked.files; named = top.object ∷ linked.named } in
    let made : end ≡ after = same_value seen all end after e in
    stays_like (members_linked (blocks_of c count) top []) k f g linked seen after all (ap (λ (l : Linked). slice_get l.files k) (sym made) ∙ listed) last
    (ap (λ (l : Linked). Ok (swapped k g l, seen)) made ∙ ap (λ l. Ok (swapped k g after, l)) (same_places seen all end after e))
members_alike c count k top (member ∷ others) f g linked seen after all listed last e =
    let p : Passed (member_run c count top member linked seen) (members_linked (blocks_of c count) top others) after all =
    passed (member_run c count top member linked seen) (members_linked (blocks_of c count) top others) after all e in
    let r : MemberRan c count top member linked seen p.value p.places = member_step c count top member linked seen p.value p.places p.first in
    let a : TopsLike (member_run c count top member) k f g linked seen p.value p.places =
    elim (told (nat_eq (member.object - 1) k)) [
      | inl t ↦ member_on c count k top member f g linked seen p.value p.places listed last (eqb-true (member.object - 1) k t) r
      | inr x ↦ member_off c count k top member f g linked seen p.value p.places listed last (λ i. true≢false (sym (eq-eqb (member.object - 1) k i) ∙ x)) r
    ] in
    both_like (member_run c count top member) (members_linked (blocks_of c count) top others) k f g linked seen p.value p.places after all a
    (members_alike c count k top others (with_more f a.more) (with_more g a.others) p.value p.places after all a.listed a.last p.second)

pub tops_alike : (c : Content) (count k : ℕ) (tops : List Top) (f g : LaidFile) (linked : Linked) (seen : List ℕ) (after : Linked) (all : List ℕ)
    → slice_get linked.files k ≡ Some f → LastLike f g → tops_linked (blocks_of c count) tops linked seen ≡ Ok (after, all)
    → TopsLike (tops_linked (blocks_of c count) tops) k f g linked seen after all
unfolding tops_linked bind done
tops_alike c count k [] f g linked seen after all listed last e =
    let made : linked ≡ after = same_value seen all linked after e in
    stays_like (tops_linked (blocks_of c count) []) k f g linked seen after all (ap (λ (l : Linked). slice_get l.files k) (sym made) ∙ listed) last
    (ap (λ (l : Linked). Ok (swapped k g l, seen)) made ∙ ap (λ l. Ok (swapped k g after, l)) (same_places seen all linked after e))
tops_alike c count k (top ∷ others) f g linked seen after all listed last e =
    let p : Passed (members_linked (blocks_of c count) top top.version.members linked seen) (tops_linked (blocks_of c count) others) after all =
    passed (members_linked (blocks_of c count) top top.version.members linked seen) (tops_linked (blocks_of c count) others) after all e in
    let a : TopsLike (members_linked (blocks_of c count) top top.version.members) k f g linked seen p.value p.places =
    members_alike c count k top top.version.members f g linked seen p.value p.places listed last p.first in
    both_like (members_linked (blocks_of c count) top top.version.members) (tops_linked (blocks_of c count) others) k f g linked seen p.value p.places after all a
    (tops_alike c count k others (with_more f a.more) (with_more g a.others) p.value p.places after all a.listed a.last p.second)
