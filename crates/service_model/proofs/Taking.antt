-- A commit takes as many blocks as were held for it.
use Rattle.std.proofs.Common.{◌≡◌, ◌≢◌, ℕ, ◌+◌, ◌-◌, ◌≤◌, ◌==◌, true, false, List, [], ◌∷◌, ◌++◌, map, length, sum_by, Some, Contains, option_to_list, refl, sym, ap, ◌∙◌, subst, arith}
use Rattle.std.specs.Prelude.{slice_get, slice_set}
use Rattle.std.specs.List.{list_any}
use Rattle.std.specs.Option.{option_map_or}
use Rattle.std.proofs.lemmas.Bool.{eq-eqb, or_parts}
use Rattle.std.proofs.lemmas.Option.{get_or_from_slice_get, slice_get_within}
use Rattle.std.proofs.lemmas.List.Sums.{sum_by-cons, sum_by-set, sum_by_push}
use Rattle.tree_model.specs.declared.step.Step.{Step}
use Rattle.tree_model.specs.Accesses.{fresh_as_top, written_paths}
use Rattle.tree_model.specs.States.{State, File, Version, file_of}
use Rattle.service_model.specs.declared.named.Named.{Named}
use Rattle.service_model.specs.Causes.{has_twice}
use Rattle.service_model.specs.Entries.{committed_in, news_by, next_version, on_file, with_file, with_next}
use Rattle.service_model.specs.Legal.{IsCommittable}
use Rattle.service_model.specs.Sound.{IsSound, IsBased, IsOpenAt}
use Rattle.service_model.specs.Standing.{Scripts, Standing, Update, Work, Made, kept_blocks, last_tree, need, renewed_works}
use Rattle.service_model.proofs.Alike.{same_tree}
use Rattle.service_model.proofs.Committing.{AreFiles, one_more, renewed_differ, renewed_in}
use Rattle.service_model.proofs.Files.{listed_at, other_file}
use Rattle.service_model.proofs.Following.{commit_alike}
use Rattle.service_model.proofs.Members.{in_front, in_rest}
use Rattle.service_model.proofs.Versions.{IsLiveAt, live_at, live_tree}

-- the blocks of one file after it was changed
pub file_blocks : (state : State) (object : ℕ) (change : File → File) (file : File) → file_of state object ≡ Some file
    → sum_by kept_blocks (on_file state object change).files + kept_blocks file ≡ sum_by kept_blocks state.files + kept_blocks (change file)
file_blocks state object change file e =
    let listed : slice_get state.files (object - 1) ≡ Some file = listed_at state object file e in
    let F : State → Type 0 = λ x. sum_by kept_blocks x.files + kept_blocks file ≡ sum_by kept_blocks state.files + kept_blocks (change file) in
    let G : File → Type 0
    = λ x. sum_by kept_blocks (slice_set state.files (object - 1) (change file)) + kept_blocks x ≡ sum_by kept_blocks state.files + kept_blocks (change file) in
    let is : on_file state object change ≡ with_file state object (change file)
    = ap (λ x. option_map_or (λ f. with_file state object (change f)) x state) e in
    subst F (sym is)
    (subst G (get_or_from_slice_get state.files (object - 1) file file listed)
    (sum_by-set kept_blocks state.files (object - 1) (change file) file (slice_get_within state.files (object - 1) file listed)))

-- one version more takes as many blocks as it has fresh paths
version_blocks : (state : State) (object : ℕ) (steps : List Step) (live : IsLiveAt state object)
    → sum_by kept_blocks (on_file state object (with_next steps)).files
    ≡ sum_by kept_blocks state.files + length (fresh_as_top (last_tree state object) steps)
version_blocks state object steps live =
    let all = file_blocks state object (with_next steps) live.file live.is in
    let grown : kept_blocks (with_next steps live.file) ≡ sum_by (λ (v : Version). length v.fresh) (live.file.versions ++ next_version steps live.last ∷ [])
    = ap (λ o. sum_by (λ (v : Version). length v.fresh) (live.file.versions ++ map (next_version steps) (option_to_list o))) live.last_is in
    let more = sum_by_push (λ (v : Version). length v.fresh) live.file.versions (next_version steps live.last) in
    let fresh : length (fresh_as_top (last_tree state object) steps) ≡ length (next_version steps live.last).fresh
    = ap (λ t. length (fresh_as_top t steps)) (live_tree state object live) in
    omega (arith, all, grown, more, fresh)

-- how many blocks the new versions of these files take
abbrev taken_by : State → List Work → ℕ
taken_by state ws = sum_by (λ (w : Work). length (fresh_as_top (last_tree state w.object) w.steps)) ws

-- they are the same where other files changed
same_taken : (state : State) (w : Work) (ws : List Work) → list_any (λ m. m == w.object) (map (λ (x : Work). x.object) ws) ≡ false
    → taken_by (on_file state w.object (with_next w.steps)) ws ≡ taken_by state ws
same_taken state w [] none = refl
same_taken state w (x ∷ ws) none =
    let parts = or_parts (x.object == w.object) (list_any (λ m. m == w.object) (map (λ (y : Work). y.object) ws)) none in
    let ne : x.object ≢ w.object = λ e. (let no : true ≡ false = sym (eq-eqb x.object w.object e) ∙ parts.0 in cc no) in
    let tree = same_tree (on_file state w.object (with_next w.steps)) state x.object (other_file state w.object (with_next w.steps) x.object ne) in
    let here : length (fresh_as_top (last_tree (on_file state w.object (with_next w.steps)) x.object) x.steps) ≡ length (fresh_as_top (last_tree state x.object) x.steps)
    = ap (λ t. length (fresh_as_top t x.steps)) tree in
    let rest = same_taken state w ws parts.1 in
    let new = sum_by-cons (λ (y : Work). length (fresh_as_top (last_tree (on_file state w.object (with_next w.steps)) y.object) y.steps)) x ws in
    let old = sum_by-cons (λ (y : Work). length (fresh_as_top (last_tree state y.object) y.steps)) x ws in
    omega (arith, here, rest, new, old)

all_blocks : (ws : List Work) (state : State) (list : List Made) → AreFiles state list → ((w : Work) → Contains ws w → IsBased state w)
    → has_twice (map (λ (w : Work). w.object) ws) ≡ false
    → sum_by kept_blocks (committed_in state ws).files ≡ sum_by kept_blocks state.files + taken_by state ws
all_blocks [] state list files based differ = omega arith
all_blocks (w ∷ ws) state list files based differ =
    let parts = or_parts (list_any (λ m. m == w.object) (map (λ (x : Work). x.object) ws)) (has_twice (map (λ (x : Work). x.object) ws)) differ in
    let base = based w (in_front w ws) in
    let one = one_more state list w files base in
    let first = version_blocks state w.object w.steps (live_at state w.object base.version files.state base.kept) in
    let rest = all_blocks ws (on_file state w.object (with_next w.steps)) (list ++ news_by state w ∷ []) one.files
    (λ x h. one.based x (based x (in_rest w ws x h))) parts.1 in
    let same = same_taken state w ws parts.0 in
    let sum = sum_by-cons (λ (y : Work). length (fresh_as_top (last_tree state y.object) y.steps)) w ws in
    omega (arith, first, rest, same, sum)

-- sums of what is equal for each are equal
equal_sums : (f g : Work → ℕ) (ws : List Work) → ((w : Work) → Contains ws w → f w ≡ g w) → sum_by f ws ≡ sum_by g ws
equal_sums f g [] each = refl
equal_sums f g (w ∷ ws) each =
    let here = each w (in_front w ws) in
    let rest = equal_sums f g ws (λ x h. each x (in_rest w ws x h)) in
    let left = sum_by-cons f w ws in
    let right = sum_by-cons g w ws in
    omega (arith, here, rest, left, right)

-- a commit takes as many blocks as were held for it
pub commit_takes : (scripts : Scripts) (s : Standing) (k : ℕ) (u : Update) (made : List Named) → IsSound scripts s → 1 ≤ k → IsOpenAt s k u
    → IsCommittable s k u made
    → sum_by kept_blocks (committed_in s.state (renewed_works u)).files ≡ sum_by kept_blocks s.state.files + need u
commit_takes scripts s k u made sound a open_is may =
    let own = sound.updates k u a open_is in
    let files : AreFiles s.state s.made = record { state = sound.state; counted = sound.counted; low = sound.low } in
    let all = all_blocks (renewed_works u) s.state s.made files (λ w h. own.based w (renewed_in u w h)) (renewed_differ u own.differ) in
    let same = equal_sums (λ (w : Work). length (fresh_as_top (last_tree s.state w.object) w.steps)) (λ (w : Work). length (fresh_as_top w.base w.steps))
    (renewed_works u) (λ w h. ap (λ paths. length (written_paths paths)) (commit_alike scripts s k u made sound a open_is may w (renewed_in u w h)).fresh) in
    omega (arith, all, same)
