-- What an opening comes to, from what rolling forward does.
use Rattle.std.proofs.Common.{◌≡◌, ℕ, ◌+◌, ◌<◌, ◌≤◌, ◌==◌, ◌||◌, nat_eq, false, true≢false, List, [], length, Some, None, option_map, Result, Ok, Err, inl, inr, refl, sym, ap, subst, ◌∙◌, arith, slice_get, leb-true}
use Rattle.std.specs.Prelude.{OnOk, IfOk, IfErr}
use Rattle.std.specs.List.{list_any}
use Rattle.std.proofs.Math.Path.{fun_ext}
use Rattle.block_map.specs.States.{free_count}
use Rattle.block_map.specs.declared.states.BlockState.{BlockState}
use Rattle.afs_base.specs.declared.head.Head.{Head}
use Rattle.drives.specs.Changes.{Changes}
use Rattle.drives.proofs.Composing.{goes_on, leaves_now}
use Rattle.page_codec.specs.Values.{RootValue, TableValue}
use Rattle.pair_store.specs.Blocks.{SameContents}
use Rattle.pair_store.specs.declared.store.Blocks.{Ghosts}
use Rattle.tree_model.specs.States.{State}
use Rattle.store_model.specs.Laid.{LaidFile, last_laid}
use Rattle.store_model.specs.Walk.{Refused}
use Rattle.store_model.specs.Found.{LaidStore, laid, found, state_of}
use Rattle.store_model.proofs.PlaceLists.{IsIn}
use Rattle.store_model.proofs.Steps.{Content}
use Rattle.store_model.proofs.Stores.{Parts, parts_of}
use Rattle.store_model.proofs.Edits.{none_some, some_is, within}
use Rattle.store_check.specs.Checked.{AreSettled}
use Rattle.store_check.specs.Counts.{parts_in, kept_in}
use Rattle.store_check.specs.Files.{chain_of}
use Rattle.store_check.specs.Marks.{Marks, mark_of}
use Rattle.store_check.specs.Versions.{shown_of}
use Rattle.recovery.specs.declared.known.Known.{Known}
use Rattle.recovery.specs.declared.opened.OpenedOver.{OpenedOver}
use Rattle.recovery.specs.declared.opened.UnopenedOver.{UnopenedOver}
use Rattle.recovery.specs.declared.refused.OpenRefused.{OpenRefused}
use Rattle.recovery.specs.declared.refused.OpenRefused.TheVariants.{ReadFault, WriteFault, BadStore, Memory}
use Rattle.recovery.specs.declared.rolling.Step.{Step}
use Rattle.recovery.specs.declared.rolling.Step.TheVariants.{SetLinks, ClearMembers}
use Rattle.recovery.specs.Opening.{IsBad, IsFailed, IsNoPlace, IsOpened, IsOpening, SameBeside, SameFound, store_of}
use Rattle.recovery.proofs.Rolls.{failed_since}
use Rattle.drives.specs.declared.device.Half.{Half}
use Rattle.recovery.specs.Known.{IsKnown, Knows, Tells, why_of}
use Rattle.recovery.specs.Aside.{SameAside}
use Rattle.recovery.specs.Rolling.{IsDone, IsEdited, IsHalfFailed, Rolling, Stands}
use Rattle.recovery.proofs.Heads.{MapAt, map_at, chain_shown, map_long}
use Rattle.recovery.proofs.Links.{LinkAt, LinkPage, link_at, link_none, link_page}
use Rattle.recovery.proofs.Places.{laid_again}
use Rattle.recovery.proofs.Tops.{TopAt, TopPage, top_at, top_none, top_page}
use Rattle.recovery.proofs.Turning.{FileAt, file_at, files_long, more_rolling}

-- ---- from one step to the next

-- each block of a store that was mended is settled
pub each_mended : (c : Content) (s : ℕ → Type 0) (most : ℕ) (store : LaidStore) (places : List ℕ) → laid c most [] ≡ Ok (store, places) → AreSettled s c most
    → (n : ℕ) → n < store.root.blocks → s n
each_mended c s most store places e mended n low =
    let p : Parts c most store places = parts_of c most store places e in
    let few = leb-true p.root.blocks most p.few in
    let here : n < p.root.blocks = subst (λ (x : LaidStore). n < x.root.blocks) p.made low in
    mended.others p.held p.root p.holds p.reads n here (omega (arith, here, few))

one : (store : LaidStore) (j : ℕ) (was now : LaidFile) → slice_get store.files j ≡ Some was → slice_get store.files j ≡ Some now → now ≡ was
one store j was now at listed = some_is (sym listed ∙ at)

-- no link is set yet
pub links_begin : (c : Content) (s : ℕ → Type 0) (most : ℕ) (known : Known) (store : LaidStore) (places : List ℕ) → laid c most [] ≡ Ok (store, places)
    → IsKnown known store places → AreSettled s c most → Rolling SetLinks most known 0 c s
links_begin c s most known store places e is mended =
    let stands : Stands most store places c s =
    record {
      store = store;
      order = places;
      laid = e;
      same = λ n. refl;
      like = record { root = refl; entries = refl; heads = refl; kept = refl };
      table = mended.table;
      each = each_mended c s most store places e mended;
    } in
    record {
      before = store;
      places = places;
      is = is;
      stands = stands;
      keeps = λ j was now at listed. ap (λ (f : LaidFile). option_map shown_of (last_laid f.versions)) (one store j was now at listed);
      ahead = λ j was now low at listed. one store j was now at listed;
      done = λ j now low listed. absurd (omega (arith, low));
    }

-- the links of all files are set, and no members were looked at yet
pub members_begin : (c : Content) (s : ℕ → Type 0) (most : ℕ) (known : Known) → Rolling SetLinks most known (length known.chains.items) c s
    → Rolling ClearMembers most known 0 c s
members_begin c s most known r =
    let chains : length known.chains.items ≡ length r.before.files =
    ap (λ l. length l) r.is.chains ∙ map_long (λ (file : LaidFile). chain_of file.versions) r.before.files in
    record {
      before = r.before;
      places = r.places;
      is = r.is;
      stands = r.stands;
      keeps = λ j was now at listed.
          let low : j < length r.before.files = within r.before.files j was at in
          r.done j now (omega (arith, low, chains)) listed;
      ahead = λ j was now low at listed. r.keeps j was now at listed;
      done = λ j now low listed. absurd (omega (arith, low));
    }

-- an object without a file has nothing to be done
pub none_done : (step : Step) (c : Content) (s : ℕ → Type 0) (most : ℕ) (known : Known) (k : ℕ) (r : Rolling step most known k c s)
    → slice_get known.chains.items k ≡ Some None → (now : LaidFile) → slice_get r.stands.store.files k ≡ Some now → IsDone step now
none_done SetLinks c s most known k r kept now listed = link_none most known k c s r None kept refl now listed
none_done ClearMembers c s most known k r kept now listed = top_none most known k c s r None kept (λ chain e. none_some e) now listed

-- ---- what was found

-- the map of the places is that of the places in another order
marks_same : (xs ys : List ℕ) (states : List BlockState) → ((n : ℕ) → list_any (nat_eq n) ys ≡ list_any (nat_eq n) xs) → Marks xs states → Marks ys states
marks_same xs ys states same marks k low = marks k low ∙ ap (λ b. Some (mark_of (k == 0 || b))) (sym (same k))

-- what was found once the members are cleared
pub opened_from : (c : Content) (s : ℕ → Type 0) (most : ℕ) (known : Known) → Rolling ClearMembers most known (length known.chains.items) c s
    → IsOpened c most known.table known.map known.heads.items
opened_from c s most known r =
    let like = r.stands.like in
    let is = r.is in
    let long : length r.stands.store.files ≡ length r.before.files = files_long r.before.files r.stands.store.files like.entries in
    let chains : length known.chains.items ≡ length r.before.files =
    ap (λ l. length l) is.chains ∙ map_long (λ (file : LaidFile). chain_of file.versions) r.before.files in
    record {
      store = r.stands.store;
      places = r.stands.order;
      laid = r.stands.laid;
      table = record {
        format = is.table.format ∙ ap (λ (x : RootValue). x.format) (sym like.root);
        blocks = is.table.blocks ∙ ap (λ (x : RootValue). x.blocks) (sym like.root);
        key = is.table.key ∙ ap (λ (x : RootValue). x.key) (sym like.root);
        parts = is.table.parts ∙ ap (λ (x : RootValue). x.parts) (sym like.root);
        entries = is.table.entries ∙ sym like.entries;
      };
      size = is.size ∙ ap (λ (x : RootValue). x.blocks) (sym like.root);
      marks = marks_same r.places r.stands.order known.map r.stands.same is.marks;
      heads = is.heads ∙ sym like.heads;
      rolled = λ k file listed.
          let low : k < length r.stands.store.files = within r.stands.store.files k file listed in
          let was : FileAt r.before.files k = file_at r.stands.store.files r.before.files k file (sym like.entries) listed in
          (r.keeps k was.file file was.listed listed, r.done k file (omega (arith, low, long, chains)) listed);
      free =
          ap (λ (x : RootValue). free_count known.map + 1 + parts_in x + kept_in r.stands.store.files) like.root
          ∙ ap (λ n. free_count known.map + 1 + parts_in r.before.root + n) like.kept
          ∙ is.free ∙ ap (λ (x : RootValue). x.blocks) (sym like.root);
    }

-- each block that rolling forward may write is a place
pub edited_in : (c : Content) (most : ℕ) (known : Known) (store : LaidStore) (places : List ℕ) → laid c most [] ≡ Ok (store, places) → IsKnown known store places
    → (n : ℕ) → IsEdited known n → IsIn places n
edited_in c most known store places e is n edited =
    let m : MapAt (λ (file : LaidFile). chain_of file.versions) store.files edited.object (Some edited.chain) =
    map_at (λ (file : LaidFile). chain_of file.versions) store.files edited.object (Some edited.chain)
    (ap (λ l. slice_get l edited.object) (sym is.chains) ∙ edited.listed) in
    elim edited.named [
      | inl unset ↦
          let l : LinkAt store edited.object n edited.chain.last.block = link_at c most store places e edited.object m.item edited.chain n m.listed m.is unset in
          let p : LinkPage c store places l.link = link_page c most store places e l.link in
          subst (IsIn places) l.base_is p.base_in
      | inr (last, some) ↦
          let t : TopAt store edited.object edited.chain.last.block =
          top_at store edited.object m.item edited.chain m.listed (chain_shown m.item.versions (Some edited.chain) m.is) some in
          let p : TopPage c store places t.version = top_page c most store places e t.version t.top in
          subst (IsIn places) (t.block_is ∙ last) p.in_places
    ]

-- a half that failed is no bad store
fault_bad : (outcome : Result State Refused) (e : OpenRefused) → IsHalfFailed e → IsBad outcome e
fault_bad outcome (ReadFault h) is = tt
fault_bad outcome (WriteFault h) is = tt
fault_bad outcome (BadStore block why) is = absurd is
fault_bad outcome Memory is = absurd is

pub bad_err : {D : Type 0} (outcome : Result State Refused) (r : Result (OpenedOver D) (UnopenedOver D)) → IfErr (why_of r) IsHalfFailed
    → IfErr r (λ e. IsBad outcome e.why)
bad_err outcome (Ok o) only = tt
bad_err outcome (Err e) only = fault_bad outcome e.why only

module _ {D : Type 0} (b : Ghosts D) (most : ℕ) (known : Known) where
  pub opened_ok : (settled : D → ℕ → Type 0) (r : Result (OpenedOver D) (UnopenedOver D)) → IfOk r (Tells known)
      → OnOk (why_of r) (Rolling ClearMembers most known (length known.chains.items) (b.content (store_of r)) (settled (store_of r)))
      → IfOk r (λ o. IsOpened (b.content o.store) most o.table o.map o.heads.items)
  opened_ok settled (Ok o) t done =
      subst (λ h. IsOpened (b.content o.store) most o.table o.map h) (ap (λ v. v.items) (sym t.heads))
      (subst (λ m. IsOpened (b.content o.store) most o.table m known.heads.items) (sym t.map)
      (subst (λ x. IsOpened (b.content o.store) most x known.map known.heads.items) (sym t.table)
      (opened_from (b.content o.store) (settled o.store) most known done)))
  opened_ok settled (Err e) t done = tt

  pub settled_ok : (settled : D → ℕ → Type 0) (r : Result (OpenedOver D) (UnopenedOver D)) → IfOk r (Tells known)
      → OnOk (why_of r) (Rolling ClearMembers most known (length known.chains.items) (b.content (store_of r)) (settled (store_of r)))
      → IfOk r (λ o. (n : ℕ) → n < length o.map → settled o.store n)
  settled_ok settled (Ok o) t done = λ n low. done.stands.each n (subst (λ (k : ℕ). n < k) (ap (λ l. length l) t.map ∙ done.is.size) low)
  settled_ok settled (Err e) t done = tt

-- ---- where the check of a store ended well

-- what is known of a store, and that rolling forward may begin on it
pub record Found {D : Type 0} (b : Ghosts D) (settled : D → ℕ → Type 0) (old mid : D) (known : Known) : Type 0 where
  pub store : LaidStore
  pub places : List ℕ
  pub laid : laid (b.content old) (b.size old) [] ≡ Ok (store, places)
  pub is : IsKnown known store places
  pub room : b.size old ≤ b.size mid
  pub same : b.content mid ≡ b.content old
  pub begins : Rolling SetLinks (b.size old) known 0 (b.content mid) (settled mid)

pub found_from : {D : Type 0} (b : Ghosts D) (settled : D → ℕ → Type 0) (old mid : D) (known : Known) → SameContents (b.content old) (b.content mid)
    → ((n : ℕ) → settled old n → settled mid n) → b.size mid ≡ b.size old → AreSettled (settled old) (b.content old) (b.size old)
    → {r : Result Known OpenRefused} → r ≡ Ok known → Knows r (laid (b.content old) (b.size old) []) → Found b settled old mid known
found_from b settled old mid known contents kept size mended was knows =
    let k : Knows (Ok known) (laid (b.content old) (b.size old) []) =
    subst (λ (r : Result Known OpenRefused). Knows r (laid (b.content old) (b.size old) [])) was knows in
    let same : b.content mid ≡ b.content old = fun_ext contents in
    record {
      store = k.0;
      places = k.1;
      laid = k.2;
      is = k.3;
      room = omega (arith, size);
      same = same;
      begins = subst (λ (f : Content). Rolling SetLinks (b.size old) known 0 f (settled mid)) (sym same)
          (more_rolling (settled mid) kept (links_begin (b.content old) (settled old) (b.size old) known k.0 k.1 k.2 k.3 mended));
    }

-- blocks that are no places of the store are not written
pub beside : {D : Type 0} (b : Ghosts D) (settled : D → ℕ → Type 0) (old mid : D) (known : Known) → Found b settled old mid known → (f g : Content)
    → SameAside (IsEdited known) f g → SameBeside (laid (b.content old) (b.size old) []) f g
beside b settled old mid known at f g same n none =
    same n (λ edited. true≢false (sym (edited_in (b.content old) (b.size old) known at.store at.places at.laid at.is n edited) ∙ outside))
  where
    outside : list_any (nat_eq n) at.places ≡ false
    outside = subst (λ o. IsNoPlace o n) at.laid none

-- ---- the opening

-- a store that a crash may leave where blocks are settled stands for the same files
pub left_found : {D : Type 0} (b : Ghosts D) (old mid : D) (known : Known) → Found b b.settled_always old mid known
    → AreSettled (b.settled_always old) (b.content old) (b.size old)
    → ((n : ℕ) (f : Content) → b.settled_always old n → b.may_leave old (b.moment old) f → f n ≡ b.content old n)
    → (f : Content) → b.may_leave old (b.moment old) f → SameFound (b.size old) (b.content old) f
left_found b old mid known at mended left f may =
    ap state_of
    (laid_again (b.content old) f (b.size old) at.store at.places at.laid (left 0 f mended.table may)
    (λ n low. left n f (each_mended (b.content old) (b.settled_always old) (b.size old) at.store at.places at.laid mended n low) may)
    ∙ sym at.laid)

pub opening_ok : {D : Type 0} (b : Ghosts D) (old : D) (r : Result (OpenedOver D) (UnopenedOver D)) → b.size (store_of r) ≡ b.size old
    → IfOk r (λ o. o.since ≡ b.moment old)
    → IfOk r (λ o. IsOpened (b.content o.store) (b.size old) o.table o.map o.heads.items)
    → IfOk r (λ o. (n : ℕ) → n < length o.map → b.settled o.store n)
    → IfOk r (λ o. (n : ℕ) → n < length o.map → b.settled_always o.store n)
    → SameFound (b.size old) (b.content old) (b.content (store_of r))
    → Changes b.moment b.may_leave old (store_of r) (SameFound (b.size old))
    → ((f : Content) → b.may_leave old (b.moment old) f → SameFound (b.size old) (b.content old) f)
    → IfOk r (IsOpening b)
opening_ok b old (Ok o) size since opened settled always same images left = record {
  opened = subst (λ (n : ℕ). IsOpened (b.content o.store) n o.table o.map o.heads.items) (sym size) opened;
  settled = settled;
  always = always;
  before = (let later = images.later in omega (arith, since, later));
  since = λ t f low high may.
      let from = images.own t f (omega (arith, since, low)) high may in
      subst (λ (n : ℕ). SameFound n (b.content o.store) f) (sym size) (from.2 ∙ left from.0 from.1 ∙ sym same);
}
opening_ok b old (Err e) size since opened settled always same images left = tt

-- ---- the clauses of an opening, from what rolling forward gives

-- what may be left after reads, and after what went on from there
pub images_on : {D X : Type 0} (moment : D → ℕ) (may_leave : D → ℕ → X → Type 0) (a m z : D) (Same R : X → X → Type 0)
    → Changes moment may_leave a m Same → Changes moment may_leave m z R
    → ((f g h : X) → Same f g → R g h → R f h) → ((f g : X) → Same f g → R f g) → Changes moment may_leave a z R
images_on moment may_leave a m z Same R first second by_both by_first =
    goes_on moment may_leave a m z Same Same R R first (leaves_now moment may_leave a m Same first) second
    (λ f g left q. by_first f g q) (λ f g h left q s. by_both f g h q s)

module _ {D : Type 0} (b : Ghosts D) (most : ℕ) (old mid : D) where
  pub found_images : (z : D) → Changes b.moment b.may_leave old mid SameContents → Changes b.moment b.may_leave mid z (SameFound most)
      → Changes b.moment b.may_leave old z (SameFound most)
  found_images z first second =
      images_on b.moment b.may_leave old mid z SameContents (SameFound most) first second
      (λ f g h same s. s ∙ ap (λ x. found x most) (fun_ext same)) (λ f g same. ap (λ x. found x most) (fun_ext same))

  pub aside_images : (W : ℕ → Type 0) (z : D) → Changes b.moment b.may_leave old mid SameContents → Changes b.moment b.may_leave mid z (SameAside W)
      → Changes b.moment b.may_leave old z (SameAside W)
  aside_images W z first second =
      images_on b.moment b.may_leave old mid z SameContents (SameAside W) first second
      (λ f g h same s n off. s n off ∙ same n) (λ f g same n off. same n)

-- a half that failed in a read while a store was rolled forward
pub unread_err : {D : Type 0} (b : Ghosts D) (old mid : D) (N M E : Type 0) (r : Result (OpenedOver D) (UnopenedOver D)) (h : Half)
    → b.faults old h ≤ b.faults mid h → ((N → ⊥) → M → E)
    → (why_of r ≡ Err (ReadFault h) → IsFailed (b.faults mid) (b.faults (store_of r)) (b.last_fault (store_of r)) (b.moment (store_of r)) (N → ⊥) h)
    → IfErr r (λ e. e.why ≡ ReadFault h → IsFailed (b.faults old) (b.faults e.store) (b.last_fault e.store) (b.moment e.store) (M → E) h)
unread_err b old mid N M E (Ok o) h le to failed = tt
unread_err b old mid N M E (Err e) h le to failed = λ is.
    failed_since (b.faults old) (b.faults mid) (b.faults e.store) (b.last_fault e.store) (b.moment e.store) (N → ⊥) (M → E) h le to (failed (ap Err is))

-- and in a write
pub unwritten_err : {D : Type 0} (b : Ghosts D) (old mid : D) (r : Result (OpenedOver D) (UnopenedOver D)) (h : Half)
    → b.faults old h ≤ b.faults mid h
    → (why_of r ≡ Err (WriteFault h) → IsFailed (b.faults mid) (b.faults (store_of r)) (b.last_fault (store_of r)) (b.moment (store_of r)) ⊥ h)
    → IfErr r (λ e. e.why ≡ WriteFault h → IsFailed (b.faults old) (b.faults e.store) (b.last_fault e.store) (b.moment e.store) ⊥ h)
unwritten_err b old mid (Ok o) h le failed = tt
unwritten_err b old mid (Err e) h le failed = λ is.
    failed_since (b.faults old) (b.faults mid) (b.faults e.store) (b.last_fault e.store) (b.moment e.store) ⊥ ⊥ h le (λ none. none) (failed (ap Err is))

-- what is told of the store
module _ {D : Type 0} (known : Known) (n : ℕ) where
  pub fits_ok : (r : Result (OpenedOver D) (UnopenedOver D)) → IfOk r (Tells known) → length known.map ≤ n → IfOk r (λ o. length o.map ≤ n)
  fits_ok (Ok o) t fits = subst (λ m. length m ≤ n) (sym t.map) fits
  fits_ok (Err e) t fits = tt

  pub within_ok : (r : Result (OpenedOver D) (UnopenedOver D)) → IfOk r (Tells known)
      → ((k : ℕ) (head : Head) → slice_get known.heads.items k ≡ Some (Some head) → head.block < n)
      → IfOk r (λ o. (k : ℕ) (head : Head) → slice_get o.heads.items k ≡ Some (Some head) → head.block < n)
  within_ok (Ok o) t within = λ k head is. within k head (ap (λ v. slice_get v.items k) (sym t.heads) ∙ is)
  within_ok (Err e) t within = tt

  pub even_ok : (r : Result (OpenedOver D) (UnopenedOver D)) → IfOk r (Tells known) → length known.heads.items ≡ length known.table.entries
      → IfOk r (λ o. length o.heads.items ≡ length o.table.entries)
  even_ok (Ok o) t even = ap (λ v. length v.items) t.heads ∙ even ∙ ap (λ (x : TableValue). length x.entries) (sym t.table)
  even_ok (Err e) t even = tt

pub since_ok : {D : Type 0} (since moment : ℕ) (r : Result (OpenedOver D) (UnopenedOver D)) → IfOk r (λ o. o.since ≡ since) → since ≡ moment → IfOk r (λ o. o.since ≡ moment)
since_ok since moment (Ok o) is at = is ∙ at
since_ok since moment (Err e) is at = tt
