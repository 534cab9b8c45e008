-- Lists of versions that are alike, and tops that a walk over their members cannot tell apart.
use Rattle.std.proofs.Common.{◌≡◌, ℕ, zero, suc, ◌+◌, ◌-◌, ◌<◌, ◌≤◌, ◌==◌, Bool, true, false, not, ◌&&◌, cond, nat_eq, List, [], ◌∷◌, ◌++◌, length, map, take, drop, Option, Some, None, refl, sym, ap, ◌∙◌, subst, arith, slice_get}
use Rattle.std.specs.List.{list_any}
use mathlib.Core.Path.{fun_ext}
use Rattle.page_codec.specs.declared.why.Why.TheVariants.{Member}
use Rattle.page_codec.specs.Values.{MemberValue}
use Rattle.tree_model.specs.States.{Version}
use Rattle.store_model.specs.Walk.{Blocks, Walk, bind, done, refuse, check}
use Rattle.store_model.specs.Laid.{LaidVersion, LaidFile, last_laid}
use Rattle.store_model.specs.Members.{Top, Linked, names_none, top_of, tops_from, last_in, version_linked, member_linked, members_linked, tops_linked}
use Rattle.store_model.specs.Found.{version_in}
use Rattle.store_model.specs.Changes.{changed_at}
use Rattle.store_model.proofs.Edits.{some_is, none_some}
use Rattle.store_model.proofs.Stores.{TopsSplit, tops_split}
use Rattle.store_changes.proofs.Likeness.{HeadLike, VersionLike}
use Rattle.store_changes.proofs.ChainAlike.{AllLike}

-- ---- items of lists

pub get_drop : {X : Type 0} (j i : ℕ) (xs : List X) → slice_get (drop j xs) i ≡ slice_get xs (j + i)
get_drop zero i xs = ap (slice_get xs) (let e : i ≡ 0 + i = omega arith in e)
get_drop (suc j) i [] = refl
get_drop (suc j) i (x ∷ xs) = get_drop j i xs ∙ ap (slice_get (x ∷ xs)) (let e : suc (j + i) ≡ suc j + i = omega arith in e)

pub get_front : {X : Type 0} (xs ys : List X) (k : ℕ) → k < length xs → slice_get (xs ++ ys) k ≡ slice_get xs k
get_front [] ys k h = absurd (omega arith)
get_front (x ∷ xs) ys zero h = refl
get_front (x ∷ xs) ys (suc k) h = get_front xs ys k (omega arith)

pub drop_front : {X : Type 0} (j : ℕ) (xs ys : List X) → j ≤ length xs → drop j (xs ++ ys) ≡ drop j xs ++ ys
drop_front zero xs ys h = refl
drop_front (suc j) [] ys h = absurd (omega arith)
drop_front (suc j) (x ∷ xs) ys h = drop_front j xs ys (omega arith)

pub take_front : {X : Type 0} (j : ℕ) (xs ys : List X) → j ≤ length xs → take j (xs ++ ys) ≡ take j xs
take_front zero xs ys h = refl
take_front (suc j) [] ys h = absurd (omega arith)
take_front (suc j) (x ∷ xs) ys h = ap (λ l. x ∷ l) (take_front j xs ys (omega arith))

pub map_drop : {X Y : Type 0} (f : X → Y) (j : ℕ) (xs : List X) → drop j (map f xs) ≡ map f (drop j xs)
map_drop f zero xs = refl
map_drop f (suc j) [] = refl
map_drop f (suc j) (x ∷ xs) = map_drop f j xs

-- the last of a list is the last of what is left of it
pub last_drop : (j : ℕ) (vs : List LaidVersion) → j < length vs → last_laid (drop j vs) ≡ last_laid vs
last_drop zero vs h = refl
last_drop (suc j) [] h = absurd (omega arith)
last_drop (suc j) (v ∷ []) h = absurd (omega arith)
last_drop (suc j) (v ∷ (w ∷ vs)) h =
    last_drop j (w ∷ vs) (omega arith)
    ∙ ap (slice_get (v ∷ (w ∷ vs))) (let e : suc (suc (length vs) - 1) ≡ suc (suc (length vs)) - 1 = omega arith in e)

-- ---- versions that are alike

pub head_same : (v : LaidVersion) → HeadLike v v
head_same v = record { serial = refl; block = refl; commit = refl; members = refl; blocks = λ p. refl }

-- version by version, but for what is said of their pages besides their blocks
abbrev pub HeadsLike : List LaidVersion → List LaidVersion → Type 0
HeadsLike [] [] = Unit {0}
HeadsLike [] (w ∷ ws) = ⊥
HeadsLike (v ∷ vs) [] = ⊥
HeadsLike (v ∷ vs) (w ∷ ws) = HeadLike v w × HeadsLike vs ws

pub heads_of : (vs ws : List LaidVersion) → AllLike vs ws → HeadsLike vs ws
heads_of [] [] h = tt
heads_of [] (w ∷ ws) h = h
heads_of (v ∷ vs) [] h = h
heads_of (v ∷ vs) (w ∷ ws) h = (h.0.head, heads_of vs ws h.1)

-- a version, and the one that is like it
pub record LikeAt (ws : List LaidVersion) (i : ℕ) (v : LaidVersion) : Type 0 where
  pub other : LaidVersion
  pub listed : slice_get ws i ≡ Some other
  pub like : HeadLike v other

pub like_at : (vs ws : List LaidVersion) (i : ℕ) (v : LaidVersion) → HeadsLike vs ws → slice_get vs i ≡ Some v → LikeAt ws i v
like_at [] ws i v h e = none_some e
like_at (x ∷ vs) [] i v h e = absurd h
like_at (x ∷ vs) (w ∷ ws) zero v h e = record { other = w; listed = refl; like = subst (λ y. HeadLike y w) (some_is e) h.0 }
like_at (x ∷ vs) (w ∷ ws) (suc i) v h e = let r : LikeAt ws i v = like_at vs ws i v h.1 e in record { other = r.other; listed = r.listed; like = r.like }

-- and of versions that have the same pages of their own
pub record AllLikeAt (ws : List LaidVersion) (i : ℕ) (v : LaidVersion) : Type 0 where
  pub other : LaidVersion
  pub listed : slice_get ws i ≡ Some other
  pub like : VersionLike v other

pub all_like_at : (vs ws : List LaidVersion) (i : ℕ) (v : LaidVersion) → AllLike vs ws → slice_get vs i ≡ Some v → AllLikeAt ws i v
all_like_at [] ws i v h e = none_some e
all_like_at (x ∷ vs) [] i v h e = absurd h
all_like_at (x ∷ vs) (w ∷ ws) zero v h e = record { other = w; listed = refl; like = subst (λ y. VersionLike y w) (some_is e) h.0 }
all_like_at (x ∷ vs) (w ∷ ws) (suc i) v h e =
    let r : AllLikeAt ws i v = all_like_at vs ws i v h.1 e in record { other = r.other; listed = r.listed; like = r.like }

like_length : (vs ws : List LaidVersion) → HeadsLike vs ws → length vs ≡ length ws
like_length [] [] h = refl
like_length [] (w ∷ ws) h = absurd h
like_length (v ∷ vs) [] h = absurd h
like_length (v ∷ vs) (w ∷ ws) h = ap (λ n. suc n) (like_length vs ws h.1)

pub last_like : (vs ws : List LaidVersion) (v : LaidVersion) → HeadsLike vs ws → last_laid vs ≡ Some v → LikeAt ws (length ws - 1) v
last_like vs ws v h e =
    let r : LikeAt ws (length vs - 1) v = like_at vs ws (length vs - 1) v h e in
    subst (λ n. LikeAt ws (n - 1) v) (like_length vs ws h) r

-- what is found of versions that are alike, where they have the same trees
pub versions_same : (vs ws : List LaidVersion) → AllLike vs ws
    → ((i : ℕ) (v w : LaidVersion) → slice_get vs i ≡ Some v → slice_get ws i ≡ Some w → (version_in w).tree ≡ (version_in v).tree)
    → map version_in ws ≡ map version_in vs
versions_same [] [] h trees = refl
versions_same [] (w ∷ ws) h trees = absurd h
versions_same (v ∷ vs) [] h trees = absurd h
versions_same (v ∷ vs) (w ∷ ws) h trees =
    ap (λ l. l ∷ map version_in ws) (one v w h.0 (trees 0 v w refl refl))
    ∙ ap (λ l. version_in v ∷ l) (versions_same vs ws h.1 (λ i x y a b. trees (suc i) x y a b))
  where
    one : (v w : LaidVersion) → VersionLike v w → (version_in w).tree ≡ (version_in v).tree → version_in w ≡ version_in v
    one v w like tree =
        ap (λ n. (let x : Version = record { serial = n; tree = (version_in w).tree; fresh = (version_in w).fresh } in x)) (sym like.head.serial)
        ∙ ap (λ t. (let x : Version = record { serial = v.serial; tree = t; fresh = (version_in w).fresh } in x)) tree
        ∙ ap (λ nodes. (let x : Version = record { serial = v.serial; tree = (version_in v).tree; fresh = map (λ node. node.path) nodes } in x)) like.own

-- ---- tops that are alike

-- the same object, block and members
pub record TopLike (t u : Top) : Type 0 where
  pub object : t.object ≡ u.object
  pub block : t.version.block ≡ u.version.block
  pub members : t.version.members ≡ u.version.members

abbrev pub TopsLikewise : List Top → List Top → Type 0
TopsLikewise [] [] = Unit {0}
TopsLikewise [] (u ∷ us) = ⊥
TopsLikewise (t ∷ ts) [] = ⊥
TopsLikewise (t ∷ ts) (u ∷ us) = TopLike t u × TopsLikewise ts us

tops_self : (ts : List Top) → TopsLikewise ts ts
tops_self [] = tt
tops_self (t ∷ ts) = (record { object = refl; block = refl; members = refl }, tops_self ts)

tops_both : (ts us xs ys : List Top) → TopsLikewise ts us → TopsLikewise xs ys → TopsLikewise (ts ++ xs) (us ++ ys)
tops_both [] [] xs ys a b = b
tops_both [] (u ∷ us) xs ys a b = absurd a
tops_both (t ∷ ts) [] xs ys a b = absurd a
tops_both (t ∷ ts) (u ∷ us) xs ys a b = (a.0, tops_both ts us xs ys a.1 b)

member_same : (b : Blocks) (t u : Top) (m : MemberValue) (l : Linked) (o : Option LaidVersion) → t.object ≡ u.object → t.version.block ≡ u.version.block
    → member_linked b t m l o ≡ member_linked b u m l o
unfolding member_linked
member_same b t u m l None e f = ap (λ n. refuse n Member) f
member_same b t u m l (Some last) e f = ap (λ n. body n t.version.block) e ∙ ap (λ n. body u.object n) f
  where
    body : ℕ → ℕ → Walk Linked
    body object block =
        bind (check (not (m.object == object) && names_none last && not (list_any (nat_eq m.object) l.named)) block Member)
        (λ _. bind (version_linked b block m last l.files) (λ files. done (record { files = files; named = m.object ∷ l.named })))

members_same : (b : Blocks) (t u : Top) (ms : List MemberValue) → t.object ≡ u.object → t.version.block ≡ u.version.block → members_linked b t ms ≡ members_linked b u ms
unfolding members_linked
members_same b t u [] e f = ap (λ n. λ (l : Linked). done (named_more n l)) e
  where
    named_more : ℕ → Linked → Linked
    named_more n l = record { files = l.files; named = n ∷ l.named }
members_same b t u (m ∷ ms) e f = fun_ext (λ l. by l (members_same b t u ms e f))
  where
    by : (l : Linked) → members_linked b t ms ≡ members_linked b u ms
        → bind (member_linked b t m l (last_in m.object l.files)) (members_linked b t ms) ≡ bind (member_linked b u m l (last_in m.object l.files)) (members_linked b u ms)
    by l rest =
        ap (λ w. bind w (members_linked b t ms)) (member_same b t u m l (last_in m.object l.files) e f)
        ∙ ap (λ next. bind (member_linked b u m l (last_in m.object l.files)) next) rest

pub tops_same : (b : Blocks) (ts us : List Top) → TopsLikewise ts us → tops_linked b ts ≡ tops_linked b us
unfolding tops_linked
tops_same b [] [] h = refl
tops_same b [] (u ∷ us) h = absurd h
tops_same b (t ∷ ts) [] h = absurd h
tops_same b (t ∷ ts) (u ∷ us) h = fun_ext (λ l. by l (tops_same b ts us h.1))
  where
    by : (l : Linked) → tops_linked b ts ≡ tops_linked b us
        → bind (members_linked b t t.version.members l) (tops_linked b ts) ≡ bind (members_linked b u u.version.members l) (tops_linked b us)
    by l rest =
        ap (λ (run : Linked → Walk Linked). bind (run l) (tops_linked b ts)) (members_same b t u t.version.members h.0.object h.0.block)
        ∙ ap (λ ms. bind (members_linked b u ms l) (tops_linked b ts)) h.0.members
        ∙ ap (λ next. bind (members_linked b u u.version.members l) next) rest

-- one file changed to one with a like last version
pub tops_swapped : (k : ℕ) (files : List LaidFile) (f g : LaidFile) → slice_get files k ≡ Some f
    → (v w : LaidVersion) → last_laid f.versions ≡ Some v → last_laid g.versions ≡ Some w → HeadLike v w
    → TopsLikewise (tops_from 1 (changed_at (λ _. g) k files)) (tops_from 1 files)
tops_swapped k files f g at v w last_f last_g like =
    let ts : TopsSplit k (suc k) 1 files f = tops_split k (suc k) 1 files f (let e : 1 + k ≡ suc k = omega arith in e) at in
    subst (λ l. TopsLikewise l (tops_from 1 files)) (sym (ts.other (λ _. g)))
    (subst (λ l. TopsLikewise (ts.before ++ (top_of (suc k) (last_laid g.versions) ++ ts.after)) l) (sym ts.is)
    (tops_both ts.before ts.before _ _ (tops_self ts.before)
    (tops_both (top_of (suc k) (last_laid g.versions)) (top_of (suc k) (last_laid f.versions)) ts.after ts.after
    (subst (λ o. TopsLikewise (top_of (suc k) o) (top_of (suc k) (last_laid f.versions))) (sym last_g)
    (subst (λ o. TopsLikewise (top_of (suc k) (Some w)) (top_of (suc k) o)) (sym last_f) one)) (tops_self ts.after))))
  where
    of : (a b : Bool) → a ≡ b
        → TopsLikewise (cond a [] ((let x : Top = record { object = suc k; version = w } in x) ∷ [])) (cond b [] ((let x : Top = record { object = suc k; version = v } in x) ∷ []))
    of true true e = tt
    of true false e = absurd cc
    of false true e = absurd cc
    of false false e = (record { object = refl; block = sym like.block; members = sym like.members }, tt)

    one : TopsLikewise (top_of (suc k) (Some w)) (top_of (suc k) (Some v))
    one = of (names_none w) (names_none v) (ap (λ (ms : List MemberValue). length ms == 0) (sym like.members))
