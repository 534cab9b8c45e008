-- A step of rolling forward that changes one version of a file: what is found stays, and the step is done for one file more.
use Rattle.std.proofs.Common.{◌≡◌, ◌≢◌, ℕ, ◌+◌, ◌<◌, List, [], length, ◌⊎◌, inl, inr, Some, Ok, option_map, refl, sym, ap, subst, ◌∙◌, arith, slice_get, map}
use Rattle.std.proofs.Math.Path.{fun_ext}
use Rattle.page_codec.specs.Values.{VersionValue}
use Rattle.page_codec.specs.Causes.{version_of}
use Rattle.page_codec.proofs.FrameLaws.{IsBlock}
use Rattle.pair_store.specs.Blocks.{OldOrNew, SameOthers}
use Rattle.pair_store.specs.ContentLaws.{decide}
use Rattle.store_model.specs.Laid.{LaidVersion, LaidFile}
use Rattle.store_model.specs.Found.{LaidStore, laid, found}
use Rattle.store_model.specs.Changes.{file_with, store_with, LiesIn}
use Rattle.store_model.proofs.Steps.{Content}
use Rattle.store_model.proofs.Edits.{some_is, changed_other, changed_same, map_changed}
use Rattle.recovery.specs.declared.known.Known.{Known}
use Rattle.recovery.specs.declared.rolling.Step.{Step}
use Rattle.recovery.specs.Rolling.{IsDone, IsLike, IsReady, Keeps, Rolling, Stands}
use Rattle.recovery.proofs.Heads.{MapAt, map_at, map_get, map_long, KeepsHead, heads_kept, kept_kept}
use Rattle.recovery.proofs.Places.{laid_again}

-- ---- files before and now

-- the file at a place of one of two lists with the same entries, where the other has one there
pub record FileAt (files : List LaidFile) (j : ℕ) : Type 0 where
  pub file : LaidFile
  pub listed : slice_get files j ≡ Some file

pub file_at : (xs ys : List LaidFile) (j : ℕ) (x : LaidFile) → map (λ (file : LaidFile). file.entry) ys ≡ map (λ (file : LaidFile). file.entry) xs
    → slice_get xs j ≡ Some x → FileAt ys j
file_at xs ys j x same listed =
    let m : MapAt (λ (file : LaidFile). file.entry) ys j x.entry =
    map_at (λ (file : LaidFile). file.entry) ys j x.entry
    (ap (λ l. slice_get l j) same ∙ map_get (λ (file : LaidFile). file.entry) xs j ∙ ap (option_map (λ (file : LaidFile). file.entry)) listed) in
    record { file = m.item; listed = m.listed }

pub files_long : (xs ys : List LaidFile) → map (λ (file : LaidFile). file.entry) ys ≡ map (λ (file : LaidFile). file.entry) xs → length ys ≡ length xs
files_long xs ys same =
    sym (map_long (λ (file : LaidFile). file.entry) ys) ∙ ap (λ l. length l) same ∙ map_long (λ (file : LaidFile). file.entry) xs

-- ---- a store that stands

-- a state is one whatever else is settled
pub more_rolling : {step : Step} {most : ℕ} {known : Known} {k : ℕ} {c : Content} {s : ℕ → Type 0} (t : ℕ → Type 0) → ((n : ℕ) → s n → t n)
    → Rolling step most known k c s → Rolling step most known k c t
more_rolling {most = most} {c = c} t to r =
    let st = r.stands in
    let stands : Stands most r.before r.places c t =
    record { store = st.store; order = st.order; laid = st.laid; same = st.same; like = st.like; table = to 0 st.table; each = λ n low. to n (st.each n low) } in
    record { before = r.before; places = r.places; is = r.is; stands = stands; keeps = r.keeps; ahead = r.ahead; done = r.done }

before_or_at : (j k : ℕ) → j < k + 1 → (j < k) ⊎ (j ≡ k)
before_or_at j k low = Prim.grind arith

-- a file for which there is nothing to do
pub skipped : (step : Step) (most : ℕ) (known : Known) (k : ℕ) (c : Content) (s : ℕ → Type 0) (r : Rolling step most known k c s)
    → ((now : LaidFile) → slice_get r.stands.store.files k ≡ Some now → IsDone step now) → Rolling step most known (k + 1) c s
skipped step most known k c s r here = record {
  before = r.before;
  places = r.places;
  is = r.is;
  stands = r.stands;
  keeps = r.keeps;
  ahead = λ j was now low is listed. r.ahead j was now (omega (arith, low)) is listed;
  done = λ j now low listed. elim (before_or_at j k low) [
    | inl less ↦ r.done j now less listed
    | inr at ↦ here now (ap (slice_get r.stands.store.files) (sym at) ∙ listed)
  ];
}

-- ---- one version changed

-- a version page in a block that is settled, which the step may change
pub record PageAt (step : Step) (c : Content) (s : ℕ → Type 0) (n : ℕ) : Type 0 where
  pub body : List ℕ
  pub holds : c n ≡ Some body
  pub page : VersionValue
  pub reads : version_of body ≡ Ok page
  pub ready : IsReady step page
  pub settled : s n

-- A page of a version of the file that the step has come to, and what its edit makes of that version.
pub record Turn (step : Step) (most : ℕ) (known : Known) (k : ℕ) (c : Content) (s : ℕ → Type 0) (r : Rolling step most known k c s)
    (n : ℕ) (edit : List ℕ → List ℕ) : Type 0 where
  pub page : PageAt step c s n
  pub low : n < r.stands.store.root.blocks
  pub file : LaidFile
  pub listed : slice_get r.stands.store.files k ≡ Some file
  pub place : ℕ
  pub change : LaidVersion → LaidVersion
  pub keeps_head : KeepsHead change
  pub rewritten : (x y : Content) → laid x most [] ≡ Ok (r.stands.store, r.stands.order) → IsBlock page.body → x n ≡ Some page.body
      → y n ≡ Some (edit page.body) → SameOthers n x y
      → LiesIn y most (store_with change k place r.stands.store) r.stands.order × (found y most ≡ found x most)
  pub kept : (was : LaidFile) → slice_get r.before.files k ≡ Some was → Keeps step was (file_with change place file)
  pub done : IsDone step (file_with change place file)

module _ (step : Step) (most : ℕ) (known : Known) (k : ℕ) (c : Content) (s : ℕ → Type 0) (r : Rolling step most known k c s)
    (n : ℕ) (edit : List ℕ → List ℕ) (t : Turn step most known k c s r n edit) (whole : IsBlock t.page.body) where
  next_store : LaidStore
  next_store = store_with t.change k t.place r.stands.store

  next_file : LaidFile
  next_file = file_with t.change t.place t.file

  elsewhere : (j : ℕ) → j ≢ k → slice_get next_store.files j ≡ slice_get r.stands.store.files j
  unfolding next_store
  elsewhere j off = changed_other (file_with t.change t.place) k j r.stands.store.files off

  here : slice_get next_store.files k ≡ Some next_file
  unfolding next_store next_file
  here = changed_same (file_with t.change t.place) k r.stands.store.files t.file t.listed

  file_here : (j : ℕ) (now : LaidFile) → j ≡ k → slice_get next_store.files j ≡ Some now → next_file ≡ now
  file_here j now at listed = some_is (sym here ∙ ap (slice_get next_store.files) (sym at) ∙ listed)

  next_like : IsLike r.before next_store
  unfolding next_store
  next_like = record {
    root = r.stands.like.root;
    entries = map_changed (λ (file : LaidFile). file.entry) (file_with t.change t.place) k r.stands.store.files (λ file. refl) ∙ r.stands.like.entries;
    heads = heads_kept t.change t.place k r.stands.store.files t.keeps_head ∙ r.stands.like.heads;
    kept = kept_kept t.change t.place k r.stands.store.files t.keeps_head ∙ r.stands.like.kept;
  }

  -- the page was written anew
  module _ (d : Content) (u : ℕ → Type 0) (is : d n ≡ Some (edit t.page.body)) (others : SameOthers n c d) (settles : (m : ℕ) → s m → u m) where
    next_lies : LiesIn d most next_store r.stands.order
    unfolding next_store
    next_lies = (t.rewritten c d r.stands.laid whole t.page.holds is others).0

    next_stands : Stands most r.before r.places d u
    next_stands = record {
      store = next_store;
      order = next_lies.order;
      laid = next_lies.laid;
      same = λ m. next_lies.same m ∙ r.stands.same m;
      like = next_like;
      table = settles 0 r.stands.table;
      each = λ m low. settles m (r.stands.each m low);
    }

    pub turned : Rolling step most known (k + 1) d u
    unfolding next_stands next_file
    turned = record {
      before = r.before;
      places = r.places;
      is = r.is;
      stands = next_stands;
      keeps = λ j was now at listed. elim (decide j k) [
        | inl same ↦ subst (Keeps step was) (file_here j now same listed) (t.kept was (ap (slice_get r.before.files) (sym same) ∙ at))
        | inr off ↦ r.keeps j was now at (sym (elsewhere j off) ∙ listed)
      ];
      ahead = λ j was now low at listed.
          r.ahead j was now (Prim.omega (arith, low)) at (sym (elsewhere j (λ e. Prim.omega (arith, low, e))) ∙ listed);
      done = λ j now low listed. elim (before_or_at j k low) [
        | inl less ↦ r.done j now less (sym (elsewhere j (λ e. Prim.omega (arith, less, e))) ∙ listed)
        | inr same ↦ subst (IsDone step) (file_here j now same listed) t.done
      ];
    }

  -- all blocks are the same where this one is
  all_same : (x y : Content) → SameOthers n x y → y n ≡ x n → y ≡ x
  all_same x y others at = fun_ext (λ m. elim (decide m n) [ inl is ↦ ap y is ∙ at ∙ ap x (sym is) | inr off ↦ others m off ])

  -- contents that agree on the settled blocks stand for the same store
  laid_as : (x : Content) → ((m : ℕ) → s m → x m ≡ c m) → laid x most [] ≡ Ok (r.stands.store, r.stands.order)
  laid_as x same =
      laid_again c x most r.stands.store r.stands.order r.stands.laid (same 0 r.stands.table)
      (λ m low. same m (r.stands.each m (subst (λ (root : _). m < root.blocks) r.stands.like.root low)))

  -- what is found stays, with the old bytes and with the new ones
  pub turned_either : (x y : Content) → ((m : ℕ) → s m → x m ≡ c m) → OldOrNew n (edit t.page.body) x y → found y most ≡ found x most
  turned_either x y same change =
      elim change.here [
        | inl old ↦ ap (λ f. found f most) (all_same x y change.others old)
        | inr new ↦ (t.rewritten x y (laid_as x same) whole (same n t.page.settled ∙ t.page.holds) new change.others).1
      ]
