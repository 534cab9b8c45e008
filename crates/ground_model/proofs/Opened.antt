-- A store as an opening leaves it, with no client begun, is a scene.
use Rattle.std.proofs.Common.{◌≡◌, ◌⊎◌, inl, inr, ℕ, zero, suc, ◌-◌, ◌<◌, ◌≤◌, ◌||◌, ◌==◌, Bool, true, false, nat_eq, List, [], ◌∷◌, length, map, Some, None, Ok, refl, sym, ap, ◌∙◌, arith, true≢false, eqb-true}
use Rattle.std.specs.Prelude.{slice_index_or}
use Rattle.std.specs.List.{list_any, IsDistinct}
use Rattle.std.proofs.lemmas.Option.{get_or_from_slice_get}
use Rattle.block_map.specs.States.{state_at, is_held, held_count}
use Rattle.block_map.specs.declared.states.BlockState.{BlockState}
use Rattle.block_map.specs.declared.states.BlockState.TheVariants.{Free, Kept}
use Rattle.block_map.proofs.Counting.{count_by-pointwise, count_by-none}
use Rattle.pair_store.specs.declared.store.Blocks.{Ghosts}
use Rattle.recovery.specs.declared.opened.OpenedOver.{OpenedOver}
use Rattle.recovery.specs.Opening.{IsOpening}
use Rattle.script_text.specs.ScriptValue.{ScriptValue}
use Rattle.service_model.specs.Sound.{AreSayable}
use Rattle.service_model.specs.Standing.{Scripts, Client, newcomer, start, client_of}
use Rattle.store_check.specs.Marks.{Marks, mark_of, is_kept}
use Rattle.store_model.specs.Changes.{IsTop}
use Rattle.store_model.specs.Found.{found, state_in, state_of}
use Rattle.store_model.specs.Laid.{LaidVersion}
use Rattle.tree_model.specs.States.{State}
use Rattle.ground_model.specs.Fronts.{AllFronts}
use Rattle.ground_model.specs.Opened.{Begins, IsOpenedFrom, OpenedBegins}
use Rattle.ground_model.specs.Runs.{IsCalm, images_of}
use Rattle.ground_model.specs.Scenes.{Scene, IsMapped, IsShared, AreLinksOf, held_by}
use Rattle.ground_model.proofs.Fitting.{opened_is_fitting}
use Rattle.ground_model.proofs.Seals.{table_tells}
use Rattle.ground_model.proofs.Turning.{never_fronts}

-- ---- no client has begun

pub newcomers : (scripts : Scripts) (state : State) (k : ℕ) → client_of (start state scripts) k ≡ newcomer
newcomers scripts state k = at scripts (k - 1)
  where
    at : (ss : Scripts) (i : ℕ) → slice_index_or (map (λ (_ : ScriptValue). newcomer) ss) i newcomer ≡ newcomer
    at [] i = refl
    at (s ∷ ss) zero = refl
    at (s ∷ ss) (suc i) = at ss i

holds_none : (state : State) (scripts : Scripts) (k : ℕ) → held_by (start state scripts) k ≡ 0
holds_none state scripts zero = refl
holds_none state scripts (suc k) = ap (λ (c : Client). c.held) (newcomers scripts state (suc k))

-- ---- the map

module _ (places : List ℕ) (states : List BlockState) (marks : Marks places states) where
  state_is : (n : ℕ) → n < length states → state_at states n ≡ mark_of (is_kept places n)
  state_is n low = get_or_from_slice_get states n (mark_of (is_kept places n)) Kept (marks n low)

  kept_so : (n : ℕ) → (b : Bool) → is_kept places n ≡ b → mark_of b ≡ Kept → (n ≡ 0) ⊎ (list_any (nat_eq n) places ≡ true)
  kept_so n true e h = by (n == 0) refl e
    where
      by : (z : Bool) → (n == 0) ≡ z → (z || list_any (nat_eq n) places) ≡ true → (n ≡ 0) ⊎ (list_any (nat_eq n) places ≡ true)
      by true is t = inl (eqb-true n 0 is)
      by false is t = inr t
  kept_so n false e h = absurd (let no : Free ≡ Kept = h in cc)

  not_held : (k n : ℕ) → is_held k (state_at states n) ≡ false
  not_held k n = by (before_or_not n (length states))
    where
      before_or_not : (i m : ℕ) → (i < m) ⊎ (m ≤ i)
      before_or_not i m = grind arith

      marked : (b : Bool) → is_held k (mark_of b) ≡ false
      marked true = refl
      marked false = refl

      by : (n < length states) ⊎ (length states ≤ n) → is_held k (state_at states n) ≡ false
      by (inl low) = ap (is_held k) (state_is n low) ∙ marked (is_kept places n)
      by (inr past) = ap (is_held k) (past_end states n past)
        where
          past_end : (xs : List BlockState) (i : ℕ) → length xs ≤ i → state_at xs i ≡ Kept
          past_end [] i h = refl
          past_end (x ∷ xs) zero h = absurd (omega (arith, h))
          past_end (x ∷ xs) (suc i) h = past_end xs i (omega (arith, h))

  held_none : (k : ℕ) → held_count k states ≡ 0
  held_none k = count_by-pointwise (is_held k) (λ _. false) states states refl (λ n. not_held k n) ∙ count_by-none states

-- ---- the scene

module _ {D : Type 0} (b : Ghosts D) (o : OpenedOver D) (first : ℕ) (scripts : Scripts) (is : IsOpenedFrom b o first) (sayable : AreSayable scripts) where
  abbrev scene : Scene
  scene = record {
    content = b.content o.store;
    most = b.size o.store;
    store = is.opened.store;
    places = is.opened.places;
    states = o.map;
    freed = [];
    standing = start (state_in is.opened.store) scripts;
  }

  found_now : found (b.content o.store) (b.size o.store) ≡ Ok (state_in is.opened.store)
  found_now = ap state_of is.opened.laid

  map_is : IsMapped scene
  unfolding IsDistinct
  map_is = record {
    size = is.opened.size;
    kept = λ n low. (
      λ e. kept_here n (kept_so is.opened.places o.map is.opened.marks n (is_kept is.opened.places n) refl (sym (state_is is.opened.places o.map is.opened.marks n low) ∙ e)),
      λ e. state_is is.opened.places o.map is.opened.marks n low ∙ ap mark_of (is_so n e),
    );
    held = λ k. held_none is.opened.places o.map is.opened.marks k ∙ sym (holds_none (state_in is.opened.store) scripts k);
    freed = λ n none. absurd (let no : false ≡ true = none in cc);
    once = tt;
    frees = refl;
  }
    where
      kept_here : (n : ℕ) → (n ≡ 0) ⊎ (list_any (nat_eq n) is.opened.places ≡ true) → (n ≡ 0) ⊎ (list_any (nat_eq n) is.opened.places ≡ true) ⊎ (list_any (nat_eq n) [] ≡ true)
      kept_here n (inl e) = inl e
      kept_here n (inr e) = inr (inl e)

      is_so : (n : ℕ) → (n ≡ 0) ⊎ (list_any (nat_eq n) is.opened.places ≡ true) ⊎ (list_any (nat_eq n) [] ≡ true) → is_kept is.opened.places n ≡ true
      is_so n (inl e) = ap (is_kept is.opened.places) e
      is_so n (inr (inl e)) = ap (λ t. (n == 0) || t) e ∙ or_true (n == 0)
        where
          or_true : (t : Bool) → (t || true) ≡ true
          or_true true = refl
          or_true false = refl
      is_so n (inr (inr e)) = absurd (let no : false ≡ true = e in cc)

  links_are : AreLinksOf is.opened.store (start (state_in is.opened.store) scripts)
  links_are = record {
    links = λ object file listed. inl (is.opened.rolled object file listed).0;
    tops = λ version top. absurd (untopped version top);
    members = λ version top i member at. absurd (untopped version top);
  }
    where
      untopped : (version : LaidVersion) → IsTop is.opened.store version → ⊥
      untopped version top = true≢false (sym ((is.opened.rolled top.object top.file top.listed).1 version top.last) ∙ top.names)

  shared : IsShared scene
  shared = record {
    some = (let all = is.opened.free in omega (arith, all));
    laid = is.opened.laid;
    state = refl;
    map = map_is;
    made = λ k m version at. absurd (let no : None ≡ Some m = at in cc);
    made_of = λ k place m file before version at. absurd (let no : None ≡ Some m = at in cc);
    links = links_are;
  }

  first_front : IsOpening b o → o.since ≡ first → AllFronts (images_of b (b.size o.store)) (state_in is.opened.store) scripts first o.store []
  first_front opening from t f low high may = record {
    front = [];
    rest = [];
    whole = refl;
    state = opening.since t f (omega (arith, from, low)) high may ∙ found_now;
    acknowledged = refl;
    one = omega arith;
  }

  fronts : AllFronts (images_of b (b.size o.store)) (state_in is.opened.store) scripts first o.store []
  fronts = elim is.images [
    | inl spoken ↦ first_front spoken.0 spoken.1
    | inr never ↦ never_fronts b (b.size o.store) (state_in is.opened.store) scripts first o.store [] never
  ]

  below : (n : ℕ) → n < is.opened.store.root.blocks → n < length o.map
  below n low = (let size = is.opened.size in omega (arith, size, low))

  calm : IsCalm b first is.opened.store.root.blocks o.store
  calm = elim is.images [
    | inl spoken ↦ inl (λ n low. spoken.0.always n (below n low))
    | inr never ↦ inr never
  ]

  pub opened_begins_here : Begins b o first scripts scene
  opened_begins_here = record {
    stands = record {
      shared = shared;
      content = refl;
      most = refl;
      settled = λ n low. is.settled n (below n low);
      calm = calm;
      fitting = opened_is_fitting (b.content o.store) (b.size o.store) o.table o.map o.heads.items is.opened;
      sayable = sayable;
      reaches = record { legal = tt; leads = refl };
      past = refl;
      fronts = fronts;
    };
    opening = found_now;
    starts = refl;
    map = refl;
    heads = is.opened.heads;
    table = table_tells (b.content o.store) (b.size o.store) is.opened.store is.opened.places o.table is.opened.laid is.opened.table;
    resting = λ k client. record {
      client = client;
      fresh = ap (λ (c : Client). c.noted) (newcomers scripts (state_in is.opened.store) k);
      held = ap (λ (c : Client). c.held) (newcomers scripts (state_in is.opened.store) k);
      idle = λ up none mine. (let no : None ≡ Some up = none in absurd cc);
    };
    idle = λ k. ap (λ (c : Client). c.update) (newcomers scripts (state_in is.opened.store) k);
  }

pub opened_begins : {D : Type 0} (b : Ghosts D) → OpenedBegins b
opened_begins b o first scripts is sayable = (_, opened_begins_here b o first scripts is sayable)
