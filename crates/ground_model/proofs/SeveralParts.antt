-- The files of an update whose flushes are done are the parts of one commit.
use Rattle.std.proofs.Common.{◌≡◌, ◌≢◌, ◌⊎◌, inl, inr, ℕ, zero, suc, ◌-◌, ◌==◌, not, Bool, true, false, nat_eq, List, [], ◌∷◌, ◌++◌, map, Some, Contains, refl, sym, ap, ◌∙◌, subst, arith, slice_get, true≢false, eq-eqb}
use Rattle.std.specs.List.{list_any, AllByRecursion}
use Rattle.std.specs.Cmp.{first_so, second_so}
use Rattle.std.proofs.lemmas.Bool.{or_parts}
use Rattle.draft_model.specs.Flush.{Placed, are_apart, is_block_of}
use Rattle.draft_model.specs.Stands.{StandsFor}
use Rattle.flush_model.specs.Flushed.{NamesNoneOf}
use Rattle.flush_model.specs.Several.{Part, IsDone, AreTwo, AreDifferent, AreNamed, AreParts, is_of_some, objects_of}
use Rattle.page_codec.specs.Values.{MemberValue}
use Rattle.script_text.specs.declared.script.Line.{Line}
use Rattle.service_model.specs.Causes.{has_twice}
use Rattle.service_model.specs.Sound.{IsSound, AreLast, is_committing}
use Rattle.service_model.specs.Standing.{Scripts, Update, Work, renewed_works, serial_of}
use Rattle.service_model.proofs.Causes.{file_had}
use Rattle.service_model.proofs.Committing.{renewed_differ, renewed_in}
use Rattle.service_model.proofs.Members.{in_front, in_rest, same_list}
use Rattle.store_model.specs.Found.{state_in}
use Rattle.store_model.specs.Laid.{last_laid}
use Rattle.store_model.specs.Laws.{pages_of}
use Rattle.store_model.specs.Members.{names_none}
use Rattle.store_model.proofs.Edits.{none_some}
use Rattle.store_model.proofs.PlaceLists.{in_cons, not_in, none_in}
use Rattle.tree_model.specs.States.{State, IsState}
use Rattle.tree_model.proofs.Paths.{or_left, or_right, or_told}
use Rattle.version_chain.specs.Flush.{base_of}
use Rattle.ground_model.specs.Own.{IsHeldBy}
use Rattle.ground_model.specs.Scenes.{Scene, IsLinking, IsShared}
use Rattle.ground_model.specs.Several.{AreNamedBy, AreWritten, IsRenewed, MayCommitSeveral, Renewal, places_of, works_of}
use Rattle.ground_model.proofs.HeldWrites.{held_is_free}
use Rattle.ground_model.proofs.Latest.{last_is}
use Rattle.ground_model.proofs.SeveralNotes.{unlinked_file}

-- ---- lists

pub any_left : {X : Type 0} (p : X → Bool) (xs ys : List X) → list_any p xs ≡ true → list_any p (xs ++ ys) ≡ true
any_left p [] ys h = absurd (true≢false (sym h))
any_left p (x ∷ xs) ys h = elim (or_told (p x) (list_any p xs) h) [
  | inl e ↦ or_left (p x) (list_any p (xs ++ ys)) e
  | inr e ↦ or_right (p x) (list_any p (xs ++ ys)) (any_left p xs ys e)
]

pub any_right : {X : Type 0} (p : X → Bool) (xs ys : List X) → list_any p ys ≡ true → list_any p (xs ++ ys) ≡ true
any_right p [] ys h = h
any_right p (x ∷ xs) ys h = or_right (p x) (list_any p (xs ++ ys)) (any_right p xs ys h)

pub any_either : {X : Type 0} (p : X → Bool) (xs ys : List X) → list_any p (xs ++ ys) ≡ true → (list_any p xs ≡ true) ⊎ (list_any p ys ≡ true)
any_either p [] ys h = inr h
any_either p (x ∷ xs) ys h = elim (or_told (p x) (list_any p (xs ++ ys)) h) [
  | inl e ↦ inl (or_left (p x) (list_any p xs) e)
  | inr e ↦ elim (any_either p xs ys e) [ inl f ↦ inl (or_right (p x) (list_any p xs) f) | inr f ↦ inr f ]
]

get_either : {X : Type 0} (xs ys : List X) (i : ℕ) (x : X) → slice_get (xs ++ ys) i ≡ Some x → (slice_get xs i ≡ Some x) ⊎ ((j : ℕ) × (slice_get ys j ≡ Some x))
get_either [] ys i x at = inr (i, at)
get_either (z ∷ xs) ys zero x at = inl at
get_either (z ∷ xs) ys (suc i) x at = get_either xs ys i x at

not_both : (b : Bool) → not b ≡ true → b ≡ true → ⊥
not_both true e h = true≢false (sym e)
not_both false e h = true≢false (sym h)

-- ---- blocks no two of which are one

apart_behind : (xs ys : List Placed) → are_apart (xs ++ ys) ≡ true → are_apart ys ≡ true
apart_behind [] ys h = h
apart_behind (x ∷ xs) ys h = apart_behind xs ys (second_so (not (is_block_of (xs ++ ys) x.block)) (are_apart (xs ++ ys)) h)

apart_both : (xs ys : List Placed) → are_apart (xs ++ ys) ≡ true → (n : ℕ) → is_block_of xs n ≡ true → is_block_of ys n ≡ true → ⊥
apart_both [] ys h n one two = true≢false (sym one)
apart_both (x ∷ xs) ys h n one two = elim (or_told (nat_eq n x.block) (is_block_of xs n) one) [
  | inl e ↦ (let same : n ≡ x.block = same_block n x.block e in
      not_both (is_block_of (xs ++ ys) x.block) (first_so (not (is_block_of (xs ++ ys) x.block)) (are_apart (xs ++ ys)) h)
      (subst (λ m. is_block_of (xs ++ ys) m ≡ true) same (any_right (λ (y : Placed). nat_eq n y.block) xs ys two)))
  | inr e ↦ apart_both xs ys (second_so (not (is_block_of (xs ++ ys) x.block)) (are_apart (xs ++ ys)) h) n e two
]
  where
    same_block : (a b : ℕ) → nat_eq a b ≡ true → a ≡ b
    same_block a b e = grind arith

-- ---- the parts

abbrev pub part_of : (scene : Scene) (k : ℕ) (r : Renewal) → IsRenewed scene k r → Part
part_of scene k r is = record {
  object = r.work.object - 1;
  last = is.draft.base.version;
  before = r.work.base;
  steps = r.work.steps;
  draft = r.draft;
  base = base_of r.root r.work.object r.work.serial;
  plan = r.plan;
}

abbrev pub parts_of : (scene : Scene) (k : ℕ) (rs : List Renewal) → AllByRecursion (IsRenewed scene k) rs → List Part
parts_of scene k [] each = []
parts_of scene k (r ∷ rs) each = part_of scene k r each.0 ∷ parts_of scene k rs each.1

pub counts_back : (scene : Scene) (k : ℕ) (r : Renewal) → IsRenewed scene k r → suc (r.work.object - 1) ≡ r.work.object
counts_back scene k r is = (let low = is.draft.base.is.counts in omega (arith, low))

module _ (scene : Scene) (k : ℕ) where
  -- a block of some part is one of the places, and the other way
  pub part_places : (rs : List Renewal) (each : AllByRecursion (IsRenewed scene k) rs) (n : ℕ) → is_of_some (parts_of scene k rs each) n ≡ true → is_block_of (places_of rs) n ≡ true
  part_places [] each n h = absurd (true≢false (sym h))
  part_places (r ∷ rs) each n h = elim (or_told (is_block_of r.plan.placed n) (is_of_some (parts_of scene k rs each.1) n) h) [
    | inl e ↦ any_left (λ (x : Placed). nat_eq n x.block) r.plan.placed (places_of rs) e
    | inr e ↦ any_right (λ (x : Placed). nat_eq n x.block) r.plan.placed (places_of rs) (part_places rs each.1 n e)
  ]

  pub places_part : (rs : List Renewal) (each : AllByRecursion (IsRenewed scene k) rs) (n : ℕ) → is_block_of (places_of rs) n ≡ true → is_of_some (parts_of scene k rs each) n ≡ true
  places_part [] each n h = absurd (true≢false (sym h))
  places_part (r ∷ rs) each n h = elim (any_either (λ (x : Placed). nat_eq n x.block) r.plan.placed (places_of rs) h) [
    | inl e ↦ or_left (is_block_of r.plan.placed n) (is_of_some (parts_of scene k rs each.1) n) e
    | inr e ↦ or_right (is_block_of r.plan.placed n) (is_of_some (parts_of scene k rs each.1) n) (places_part rs each.1 n e)
  ]

  -- each place is a block that the client holds
  pub all_mine : (rs : List Renewal) → AllByRecursion (IsRenewed scene k) rs → (i : ℕ) (x : Placed) → slice_get (places_of rs) i ≡ Some x → IsHeldBy scene k x.block
  all_mine [] each i x at = none_some at
  all_mine (r ∷ rs) each i x at = elim (get_either r.plan.placed (places_of rs) i x at) [
    | inl e ↦ each.0.flush.mine i x e
    | inr (j, e) ↦ all_mine rs each.1 j x e
  ]

  two_of : (r q : Renewal) (a : IsRenewed scene k r) (b : IsRenewed scene k q) → q.work.object ≢ r.work.object
      → ((n : ℕ) → is_block_of r.plan.placed n ≡ true → is_block_of q.plan.placed n ≡ true → ⊥) → AreTwo (part_of scene k r a) (part_of scene k q b)
  two_of r q a b ne blocks = record {
    objects = λ e. ne (let one = counts_back scene k r a in let two = counts_back scene k q b in omega (arith, e, one, two));
    blocks = blocks;
  }

  two_all : (r : Renewal) (a : IsRenewed scene k r) (rs : List Renewal) (each : AllByRecursion (IsRenewed scene k) rs)
      → list_any (λ m. m == r.work.object) (map (λ (w : Work). w.object) (works_of rs)) ≡ false
      → ((n : ℕ) → is_block_of r.plan.placed n ≡ true → is_block_of (places_of rs) n ≡ true → ⊥)
      → AllByRecursion (AreTwo (part_of scene k r a)) (parts_of scene k rs each)
  two_all r a [] each differ blocks = tt
  two_all r a (q ∷ rs) each differ blocks =
      let parts = or_parts (q.work.object == r.work.object) (list_any (λ m. m == r.work.object) (map (λ (w : Work). w.object) (works_of rs))) differ in (
        two_of r q a each.0 (λ e. true≢false (sym (eq-eqb q.work.object r.work.object e) ∙ parts.0))
            (λ n one two. blocks n one (any_left (λ (x : Placed). nat_eq n x.block) q.plan.placed (places_of rs) two)),
        two_all r a rs each.1 parts.1 (λ n one two. blocks n one (any_right (λ (x : Placed). nat_eq n x.block) q.plan.placed (places_of rs) two)),
      )

  pub different_of : (rs : List Renewal) (each : AllByRecursion (IsRenewed scene k) rs) → has_twice (map (λ (w : Work). w.object) (works_of rs)) ≡ false
      → are_apart (places_of rs) ≡ true → AreDifferent (parts_of scene k rs each)
  different_of [] each differ apart = tt
  different_of (r ∷ rs) each differ apart =
      let parts = or_parts (list_any (λ m. m == r.work.object) (map (λ (w : Work). w.object) (works_of rs))) (has_twice (map (λ (w : Work). w.object) (works_of rs))) differ in
      (two_all r each.0 rs each.1 parts.0 (apart_both r.plan.placed (places_of rs) apart), different_of rs each.1 parts.1 (apart_behind r.plan.placed (places_of rs) apart))

  pub named_of : (ms : List MemberValue) (rs : List Renewal) (each : AllByRecursion (IsRenewed scene k) rs) → AreNamedBy ms rs → AreNamed ms (parts_of scene k rs each)
  named_of [] [] each named = tt
  named_of [] (r ∷ rs) each named = absurd named
  named_of (m ∷ ms) [] each named = absurd named
  named_of (m ∷ ms) (r ∷ rs) each named = ((named.0.0 ∙ sym (counts_back scene k r each.0), named.0.1), named_of ms rs each.1 named.1)

  pub none_of : (rs : List Renewal) (each : AllByRecursion (IsRenewed scene k) rs) → AllByRecursion (λ (r : Renewal). r.plan.members ≡ []) rs
      → AllByRecursion (λ (p : Part). p.plan.members ≡ []) (parts_of scene k rs each)
  none_of [] each none = tt
  none_of (r ∷ rs) each none = (none.0, none_of rs each.1 none.1)

module _ (scripts : Scripts) (k : ℕ) (old : Scene) (line : Line) (u : Update)
    (shared : IsShared old) (sound : IsSound scripts old.standing) (may : MayCommitSeveral scripts old.standing k line u) where
  lasts : AreLast old.standing.state u
  lasts = sound.locked k u may.client.low may.is_open may.several (ap (list_any is_committing) may.noted)

  state_sound : IsState (state_in old.store)
  state_sound = subst IsState (sym shared.state) sound.state

  pub nobody_links : (w : Work) → Contains u.works w → IsLinking old.standing w.object → ⊥
  nobody_links w c = unlinked_file scripts old.standing k line u sound may w.object (file_had w.object u w c refl)

  pub base_is_last : (r : Renewal) (is : IsRenewed old k r) → Contains u.works r.work → last_laid is.draft.base.is.file.versions ≡ Some is.draft.base.version
  base_is_last r is c =
      let here : serial_of old.standing.state r.work.object ≡ serial_of (state_in old.store) r.work.object = ap (λ (x : State). serial_of x r.work.object) (sym shared.state) in
      last_is old.store r.work.object is.draft.base.version is.draft.base.is state_sound (is.draft.base.serial_is ∙ lasts r.work c ∙ here)

  last_none : (r : Renewal) (is : IsRenewed old k r) → Contains u.works r.work → names_none is.draft.base.version ≡ true
  last_none r is c = by (names_none is.draft.base.version) refl
    where
      by : (b : Bool) → names_none is.draft.base.version ≡ b → names_none is.draft.base.version ≡ true
      by true e = e
      by false e = absurd (nobody_links r.work c (subst (IsLinking old.standing) (counts_back old k r is)
          (shared.links.tops is.draft.base.version (record {
            object = r.work.object - 1;
            file = is.draft.base.is.file;
            listed = is.draft.base.is.listed;
            last = base_is_last r is c;
            names = e;
          }))))

  pub done_of : (r : Renewal) (is : IsRenewed old k r) → Contains u.works r.work → IsDone old.content old.store old.places (part_of old k r is)
  done_of r is c = record {
    flushed = record {
      file = is.draft.base.is.file;
      listed = is.draft.base.is.listed;
      last_is = base_is_last r is c;
      root_is = sym is.draft.base.block_is;
      object_is = sym (counts_back old k r is);
      serial_is = sym is.draft.base.serial_is;
      stands = subst (λ n. StandsFor (pages_of old.content) n r.work.base r.work.steps r.draft) (sym is.draft.base.block_is) is.draft.stands;
      placed = is.flush.placed;
      apart = is.flush.apart;
      written = is.flush.done;
      all = is.all;
      mine = λ i x here. held_is_free old shared.map k x.block (is.flush.mine i x here);
    };
    none = last_none r is c;
  }

  pub dones_of : (rs : List Renewal) (each : AllByRecursion (IsRenewed old k) rs) → ((w : Work) → Contains (works_of rs) w → Contains u.works w)
      → AllByRecursion (IsDone old.content old.store old.places) (parts_of old k rs each)
  dones_of [] each mine = tt
  dones_of (r ∷ rs) each mine = (done_of r each.0 (mine r.work (in_front r.work (works_of rs))), dones_of rs each.1 (λ w c. mine w (in_rest r.work (works_of rs) w c)))

  -- no version names one of these files as a member
  none_linked : (rs : List Renewal) (each : AllByRecursion (IsRenewed old k) rs) → ((w : Work) → Contains (works_of rs) w → Contains u.works w)
      → (object : ℕ) → list_any (nat_eq object) (objects_of (parts_of old k rs each)) ≡ true → IsLinking old.standing object → ⊥
  none_linked [] each mine object h l = none_in object h
  none_linked (r ∷ rs) each mine object h l = elim (in_cons (suc (r.work.object - 1)) object (objects_of (parts_of old k rs each.1)) h) [
    | inl e ↦ nobody_links r.work (mine r.work (in_front r.work (works_of rs))) (subst (IsLinking old.standing) (e ∙ counts_back old k r each.0) l)
    | inr rest ↦ none_linked rs each.1 (λ w c. mine w (in_rest r.work (works_of rs) w c)) object rest l
  ]

  module _ (top : Renewal) (members : List Renewal) (done : AreWritten old k u top members) where
    pub of_update : (w : Work) → Contains (works_of (top ∷ members)) w → Contains u.works w
    of_update w c = renewed_in u w (same_list (renewed_works u) (works_of (top ∷ members)) w done.works c)

    pub differ : has_twice (map (λ (w : Work). w.object) (works_of (top ∷ members))) ≡ false
    differ =
        ap (λ ws. has_twice (map (λ (w : Work). w.object) ws)) (sym done.works)
        ∙ renewed_differ u (sound.updates k u may.client.low may.is_open).differ

    abbrev pub first : Part
    first = part_of old k top done.each.0

    abbrev pub rest : List Part
    rest = parts_of old k members done.each.1

    pub parts_are : AreParts old.content old.store old.places first rest
    parts_are =
        let all = dones_of (top ∷ members) done.each of_update in
        record {
          first = all.0;
          others = all.1;
          different = different_of old k (top ∷ members) done.each differ done.apart;
          named = named_of old k top.plan.members members done.each.1 done.named;
          none = none_of old k members done.each.1 done.none;
        }

    pub unnamed : NamesNoneOf old.store (objects_of (first ∷ rest))
    unnamed t is i member at =
        not_in (objects_of (first ∷ rest)) member.object
        (λ h. none_linked (top ∷ members) done.each of_update member.object h (shared.links.members t is i member at))
