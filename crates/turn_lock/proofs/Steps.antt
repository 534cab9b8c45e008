-- Each step keeps the rule of the lock.
use Rattle.std.proofs.Common.{◌≡◌, ◌≢◌, ◌⊎◌, ℕ, zero, suc, ◌≤◌, eqb, List, [], ◌∷◌, ◌++◌, get_or, set, sym, refl, ap, ◌∙◌, subst, inl, inr, ⊎_elim, arith, eq-eqb, ne_eqb, Option, Some, if◌then◌else◌}
use mathlib.Core.Logic.{dite}
use mathlib.Core.Option.{none, some, some-injective, some-ne-none}
use native.Mathlib.Decide.{ℕ_discrete}
use prog.Atomic.{either}
use lib.ListN.{get_elem?}
use Rattle.atomic_table.specs.Table.{State, Me, keeps, takes, gives, stepped, Allows, Splits, Joins, Final, Seen, rest, put_back}
use Rattle.atomic_table.proofs.Lists.{at_set, at_snoc, at_longer, set_again, set_else}
use Rattle.turn_lock.specs.declared.view.View.{View}
use Rattle.turn_lock.specs.declared.view.Standing.{Standing}
use Rattle.turn_lock.specs.declared.view.Standing.TheVariants.{Idle, Held, Shut, Spent}
use Rattle.turn_lock.specs.Views.{tried, standing, spent}
use Rattle.turn_lock.specs.Rule.{Kept}
use Rattle.turn_lock.specs.Plays.{Tried, Released, Closed}

-- a list with its first part shown
pub front : {A : Type 0} (l m : List (ℕ × A)) (a : ℕ × A) → l ≡ a ∷ m → l ≡ a ∷ rest l
front l m a e = e ∙ ap (λ t. a ∷ t) (sym (ap rest e))

there : {A : Type 0} (l : List A) (i : ℕ) (a b : A) → get_elem? l i ≡ some a → get_elem? (set l i b) i ≡ some b
there [] i a b e = absurd (some-ne-none a (sym e))
there (x ∷ xs) zero a b e = refl
there (x ∷ xs) (suc i) a b e = there xs i a b e

-- what holds of every other pass and of the changed one holds of all
among : {A : Type 0} (P : ℕ → A → Type 0) (l : List A) (id : ℕ) (w : A) → ((i : ℕ) (v : A) → i ≢ id → get_elem? l i ≡ some v → P i v) → P id w
    → (i : ℕ) (v : A) → get_elem? (set l id w) i ≡ some v → P i v
among P l id w others own i v at = ⊎_elim
    (λ t. let here : P i w = subst (λ k. P k w) (sym t.0) own in subst (λ u. P i u) t.1 here)
    (λ t. others i v t.0 t.1)
    (at_set l id i w v at)

abbrev Home : Type 0 → Type 0
Home T = mathlib.Core.Option.Option (Option T)

-- one view that is another stands as it does, and has its name
pub stands_as : {N : Type 0} (v w : View N) (k : Standing) → v ≡ w → w.standing ≡ k → v.standing ≡ k
stands_as {N = N} v w k is stands = ap (λ (u : View N). u.standing) is ∙ stands

pub named_as : {N : Type 0} (v w : View N) (n : Option N) → v ≡ w → w.name ≡ n → v.name ≡ n
named_as {N = N} v w n is named = ap (λ (u : View N). u.name) is ∙ named

module _ {T N : Type 0} (name_of : T → N) (name : N) where
  abbrev St : Type 0
  St = State (Option T) (View N)

  abbrev Holds : St → Type 0
  Holds = Kept name_of name

  abbrev IsQuiet : View N → Type 0
  IsQuiet v = (v.standing ≢ Held) × (v.standing ≢ Shut)

  abbrev IsNamed : View N → Type 0
  IsNamed v = (v.standing ≡ Spent) ⊎ (v.name ≡ Some name)

  called : (s : St) → Holds s → (i : ℕ) (v : View N) → get_elem? s.views i ≡ some v → v.standing ≢ Spent → v.name ≡ Some name
  called s r i v at live = ⊎_elim (λ e. absurd (live e)) (λ e. e) (r.named i v at)

  -- two views at one place are one
  one_view : (l : List (View N)) (i j : ℕ) (v w : View N) → get_elem? l i ≡ some v → get_elem? l j ≡ some w → i ≡ j → v.standing ≡ w.standing
  one_view l i j v w a b e = ap (λ (u : View N). u.standing) (some-injective v w (sym a ∙ (ap (get_elem? l) e ∙ b)))

  -- a pass that neither holds nor has shut may know something else, as long as it keeps quiet
  stays : (s : St) → Holds s → (id : ℕ) (v w : View N) → get_elem? s.views id ≡ some v → IsQuiet v → IsQuiet w → IsNamed w
      → Holds record { words = s.words; homes = s.homes; views = set s.views id w }
  stays s r id v w at quiet calm named = record {
    word = r.word;
    by = r.by;
    words = r.words;
    small = r.small;
    named = among (λ i u. IsNamed u) s.views id w (λ i u _ t. r.named i u t) named;
    held = among (λ i u. u.standing ≡ Held → (r.word ≡ 1) × (i ≡ r.by)) s.views id w (λ i u _ t h. r.held i u t h) (λ h. absurd (calm.0 h));
    shut = among (λ i u. u.standing ≡ Shut → (r.word ≡ 2) × (i ≡ r.by)) s.views id w (λ i u _ t h. r.shut i u t h) (λ h. absurd (calm.1 h));
    holder = λ e. let t = r.holder e in (t.0, set_else s.views id r.by w (λ here. quiet.0 (sym (one_view s.views r.by id t.0 v t.1 at here) ∙ t.2)) ∙ t.1, t.2);
    shutter = λ e. let t = r.shutter e in (t.0, set_else s.views id r.by w (λ here. quiet.1 (sym (one_view s.views r.by id t.0 v t.1 at here) ∙ t.2)) ∙ t.1, t.2);
    home = r.home;
    out = r.out;
  }

  -- where the turn was free, a pass takes it
  takes_turn : (s : St) (r : Holds s) (id : ℕ) (v w : View N) → get_elem? s.views id ≡ some v → r.word ≡ 0 → w.standing ≡ Held → w.name ≡ Some name
      → Holds record { words = 1 ∷ []; homes = none ∷ []; views = set s.views id w }
  takes_turn s r id v w at free holds named = record {
    word = 1;
    by = id;
    words = refl;
    small = omega arith;
    named = among (λ i u. IsNamed u) s.views id w (λ i u _ t. r.named i u t) (inr named);
    held = among (λ i u. u.standing ≡ Held → (1 ≡ 1) × (i ≡ id)) s.views id w (λ i u _ t h. let busy = (r.held i u t h).0 in absurd (omega arith)) (λ _. (refl, refl));
    shut = among (λ i u. u.standing ≡ Shut → (1 ≡ 2) × (i ≡ id)) s.views id w (λ i u _ t h. let busy = (r.shut i u t h).0 in absurd (omega arith)) (λ h. let no : Held ≡ Shut = sym holds ∙ h in cc);
    holder = λ _. (w, there s.views id v w at, holds);
    shutter = λ e. absurd (omega arith);
    home = λ n. absurd (n refl);
    out = λ _. refl;
  }

  -- the holder stores n and is then something else; the slot goes home with a value of the name
  gives_turn : (s : St) (r : Holds s) (id : ℕ) (v w : View N) (x : T) (n : ℕ) → get_elem? s.views id ≡ some v → v.standing ≡ Held → w.name ≡ v.name → v.name ≡ Some (name_of x)
      → n ≤ 2 → n ≢ 1 → w.standing ≢ Held → (w.standing ≡ Shut → n ≡ 2) → (n ≡ 2 → w.standing ≡ Shut)
      → Holds record { words = n ∷ []; homes = some (Some x) ∷ []; views = set s.views id w }
  gives_turn s r id v w x n at holds same fits small not_held leaves to_shut of_shut =
      let mine = r.held id v at holds in
      let named : v.name ≡ Some name = called s r id v at (λ e. let no : Held ≡ Spent = sym holds ∙ e in cc) in
      let is : name_of x ≡ name = cc in record {
        word = n;
        by = id;
        words = refl;
        small = small;
        named = among (λ i u. IsNamed u) s.views id w (λ i u _ t. r.named i u t) (inr (same ∙ named));
        held = among (λ i u. u.standing ≡ Held → (n ≡ 1) × (i ≡ id)) s.views id w (λ i u other t h. absurd (other ((r.held i u t h).1 ∙ sym mine.1))) (λ h. absurd (leaves h));
        shut = among (λ i u. u.standing ≡ Shut → (n ≡ 2) × (i ≡ id)) s.views id w (λ i u _ t h. let busy = (r.shut i u t h).0 in let word = mine.0 in absurd (omega arith)) (λ h. (to_shut h, refl));
        holder = λ e. absurd (not_held e);
        shutter = λ e. (w, there s.views id v w at, of_shut e);
        home = λ _. (x, is, refl);
        out = λ e. absurd (not_held e);
      }

  -- one more idle pass
  one_more : (s : St) → Holds s → (w : View N) → IsQuiet w → IsNamed w → Holds record { words = s.words; homes = s.homes; views = s.views ++ w ∷ [] }
  one_more s r w calm named = record {
    word = r.word;
    by = r.by;
    words = r.words;
    small = r.small;
    named = λ i u at. ⊎_elim (λ t. r.named i u t) (λ e. subst (λ (k : View N). IsNamed k) e named) (at_snoc s.views w u i at);
    held = λ i u at h. ⊎_elim (λ t. r.held i u t h) (λ e. absurd (calm.0 (ap (λ (k : View N). k.standing) e ∙ h))) (at_snoc s.views w u i at);
    shut = λ i u at h. ⊎_elim (λ t. r.shut i u t h) (λ e. absurd (calm.1 (ap (λ (k : View N). k.standing) e ∙ h))) (at_snoc s.views w u i at);
    holder = λ e. let t = r.holder e in (t.0, at_longer s.views (w ∷ []) r.by t.0 t.1, t.2);
    shutter = λ e. let t = r.shutter e in (t.0, at_longer s.views (w ∷ []) r.by t.0 t.1, t.2);
    home = r.home;
    out = r.out;
  }

  idle_quiet : (v : View N) → v.standing ≡ Idle → IsQuiet v
  idle_quiet v idle = ((λ e. let no : Idle ≡ Held = sym idle ∙ e in cc), (λ e. let no : Idle ≡ Shut = sym idle ∙ e in cc))

  spent_quiet : IsQuiet (spent {N = N})
  spent_quiet = ((λ e. let no : Spent ≡ Held = e in cc), (λ e. let no : Spent ≡ Shut = e in cc))

  not_spent : (v : View N) → v.standing ≡ Idle → v.standing ≢ Spent
  not_spent v idle e = let no : Idle ≡ Spent = sym idle ∙ e in cc

  same_words : (s : St) → Holds s → set s.words 0 (get_or s.words 0 0) ≡ s.words
  same_words s r = rw r.words refl

  head_word : (s : St) (r : Holds s) → get_or s.words 0 0 ≡ r.word
  head_word s r = rw r.words refl

  pub tries : (slots id : ℕ) (me : Me (Option T) (View N)) → me.0.standing ≡ Idle → Allows Holds slots id me 0 (λ n. either (eqb n 0) 1 n) (Tried name_of me)
  tries slots id me idle s r len at fits =
      let x : ℕ = get_or s.words 0 0 in
      let w : View N = tried me.0 x in
      dite (ℕ_discrete x 0)
      (λ hit.
      let free : r.word ≡ 0 = sym (head_word s r) ∙ hit in
      let h = r.home (λ e. absurd (omega arith)) in
      let holds : w.standing ≡ Held = ap (λ b. if b then Held else Idle) (eq-eqb x 0 hit) in
      let named : me.0.name ≡ Some name = called s r id me.0 at (not_spent me.0 idle) in
      let words : set s.words 0 (either (eqb x 0) 1 x) ≡ 1 ∷ [] = ap (λ b. set s.words 0 (either b 1 x)) (eq-eqb x 0 hit) ∙ ap (λ (l : List ℕ). set l 0 1) r.words in
      let homes : set s.homes 0 none ≡ none ∷ [] = ap (λ (l : List (Home T)). set l 0 none) h.2 in (
        w,
        takes 0 (Some h.0),
        ap (λ (l : List (Home T)). get_elem? l 0) h.2,
        subst (λ (z : List ℕ × List (Home T)). Holds record { words = z.0; homes = z.1; views = set s.views id w }) (λ i. (sym words i, sym homes i)) (takes_turn s r id me.0 w at free holds named),
        (refl, (λ _. (h.0, named ∙ ap (λ (n : N). Some n) (sym h.1), refl)), λ n. absurd (n hit)),
      ))
      (λ miss.
      let idles : w.standing ≡ Idle = ap (λ b. if b then Held else Idle) (ne_eqb x 0 miss) in
      let words : set s.words 0 (either (eqb x 0) 1 x) ≡ s.words = ap (λ b. set s.words 0 (either b 1 x)) (ne_eqb x 0 miss) ∙ same_words s r in (
        w,
        keeps,
        tt,
        subst (λ (z : List ℕ). Holds record { words = z; homes = s.homes; views = set s.views id w }) (sym words) (stays s r id me.0 w at (idle_quiet me.0 idle) (idle_quiet w idles) (inr (called s r id me.0 at (not_spent me.0 idle)))),
        (refl, (λ e. absurd (miss e)), λ _. refl),
      ))

  -- the new state when the holder stores n
  stored : (s : St) (r : Holds s) (id : ℕ) (me : Me (Option T) (View N)) (w : View N) (x : T) (l : List (ℕ × Option T)) (n : ℕ) → get_elem? s.views id ≡ some me.0 → me.0.standing ≡ Held
      → me.1 ≡ (0, Some x) ∷ l → w.name ≡ me.0.name → me.0.name ≡ Some (name_of x) → n ≤ 2 → n ≢ 1 → w.standing ≢ Held → (w.standing ≡ Shut → n ≡ 2) → (n ≡ 2 → w.standing ≡ Shut)
      → Holds (stepped s 0 n id me.1 w gives)
  stored s r id me w x l n at holds carried same fits small not_held leaves to_shut of_shut =
      let mine = r.held id me.0 at holds in
      let words : set s.words 0 n ≡ n ∷ [] = ap (λ (k : List ℕ). set k 0 n) r.words in
      let homes : put_back s.homes me.1 ≡ some (Some x) ∷ [] = ap (λ k. put_back s.homes k) carried ∙ ap (λ (k : List (Home T)). set k 0 (some (Some x))) (r.out mine.0) in
      subst (λ (z : List ℕ × List (Home T)). Holds record { words = z.0; homes = z.1; views = set s.views id w }) (λ i. (sym words i, sym homes i))
      (gives_turn s r id me.0 w x n at holds same fits small not_held leaves to_shut of_shut)

  pub releases : (slots id : ℕ) (me : Me (Option T) (View N)) (x : T) (l : List (ℕ × Option T)) → me.0.standing ≡ Held → me.1 ≡ (0, Some x) ∷ l → me.0.name ≡ Some (name_of x)
      → Allows Holds slots id me 0 (λ _. 0) (λ _. Released me)
  releases slots id me x l holds carried fits s r len at small =
      (standing Idle me.0, gives, tt, stored s r id me (standing Idle me.0) x l 0 at holds carried refl fits (omega arith) (λ e. absurd (omega arith)) (λ e. let no : Idle ≡ Held = e in cc) (λ e. let no : Idle ≡ Shut = e in cc) (λ e. absurd (omega arith)), refl)

  pub shuts : (slots id : ℕ) (me : Me (Option T) (View N)) (x : T) (l : List (ℕ × Option T)) → me.0.standing ≡ Held → me.1 ≡ (0, Some x) ∷ l → me.0.name ≡ Some (name_of x)
      → Allows Holds slots id me 0 (λ _. 2) (λ _. Closed me)
  shuts slots id me x l holds carried fits s r len at small =
      (standing Shut me.0, gives, tt, stored s r id me (standing Shut me.0) x l 2 at holds carried refl fits (omega arith) (λ e. absurd (omega arith)) (λ e. let no : Shut ≡ Held = e in cc) (λ _. refl) (λ _. refl), refl)

  pub splits : (id : ℕ) (v : View N) → v.standing ≡ Idle → Splits Holds id v v v
  splits id v idle s r at = subst (λ (l : List (View N)). Holds record { words = s.words; homes = s.homes; views = l ++ v ∷ [] }) (sym (set_again s.views id v at)) (one_more s r v (idle_quiet v idle) (r.named id v at))

  pub joins : (id : ℕ) (v : View N) (other : ℕ) (w : View N) → w.standing ≡ Idle → Joins Holds id v other w v spent
  joins id v other w idle s r at apart there =
      subst (λ (l : List (View N)). get_elem? l other ≡ some w → Holds record { words = s.words; homes = s.homes; views = set l other spent }) (sym (set_again s.views id v at))
      (λ a. stays s r other w spent a (idle_quiet w idle) spent_quiet (inl refl)) there

  -- what a shut lock leaves
  pub left : (ws : List ℕ) (xs : List (Option T)) (id : ℕ) (v : View N) → v.standing ≡ Shut → Final (Seen Holds id v) ws xs → (x : T) × (v.name ≡ Some (name_of x)) × (get_elem? xs 0 ≡ some (Some x))
  left ws xs id v shut f =
      let s = f.0 in
      let r = f.1.0 in
      let at = f.1.1 in
      let two : r.word ≡ 2 = (r.shut id v at shut).0 in
      let h = r.home (λ e. absurd (omega arith)) in
      let live : v.standing ≢ Spent = (λ e. let no : Shut ≡ Spent = sym shut ∙ e in cc) in
      (h.0, called s r id v at live ∙ ap (λ (n : N). Some n) (sym h.1), f.4 0 (Some h.0) (ap (λ (l : List (Home T)). get_elem? l 0) h.2))

  -- what comes out of the slot of a shut lock
  pub last_value : (ws : List ℕ) (xs : List (Option T)) (id : ℕ) (v : View N) (r : Option T) → v.standing ≡ Shut → Final (Seen Holds id v) ws xs → get_elem? xs 0 ≡ some r → (x : T) × (r ≡ Some x) × (v.name ≡ Some (name_of x))
  last_value ws xs id v r shut f at = let t = left ws xs id v shut f in (t.0, some-injective r (Some t.0) (sym at ∙ t.2), t.1)

  pub returned : (r : Option T) (x y : T) (n : Option N) → r ≡ Some x → n ≡ Some (name_of x) → r ≡ Some y → n ≡ Some (name_of y)
  returned r x y n is named got = let same : Some x ≡ Some y = sym is ∙ got in let one : x ≡ y = cc in named ∙ ap (λ z. Some (name_of z)) one

  -- the same steps, of a seat that is known as a whole
  pub releases_as : (slots id : ℕ) (me : Me (Option T) (View N)) (v : View N) (x : T) → me ≡ (v, (0, Some x) ∷ []) → v.standing ≡ Held → v.name ≡ Some (name_of x)
      → Allows Holds slots id me 0 (λ _. 0) (λ _. Released me)
  releases_as slots id me v x is holds fits = releases slots id me x [] (ap (λ (m : Me (Option T) (View N)). m.0.standing) is ∙ holds) (ap (λ (m : Me (Option T) (View N)). m.1) is) (ap (λ (m : Me (Option T) (View N)). m.0.name) is ∙ fits)

  pub shuts_as : (slots id : ℕ) (me : Me (Option T) (View N)) (v : View N) (x : T) → me ≡ (v, (0, Some x) ∷ []) → v.standing ≡ Held → v.name ≡ Some (name_of x)
      → Allows Holds slots id me 0 (λ _. 2) (λ _. Closed me)
  shuts_as slots id me v x is holds fits = shuts slots id me x [] (ap (λ (m : Me (Option T) (View N)). m.0.standing) is ∙ holds) (ap (λ (m : Me (Option T) (View N)). m.1) is) (ap (λ (m : Me (Option T) (View N)). m.0.name) is ∙ fits)
