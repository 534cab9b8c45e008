-- Entries in the order of their paths: those under a slot stand before those under a later one, and each is found under its own slot alone.
use Rattle.std.proofs.Common.{◌≡◌, ℕ, suc, ◌≤◌, ◌<◌, Bool, true, false, cond, ◌&&◌, List, [], ◌∷◌, ◌++◌, map, Some, None, refl, sym, ap, subst, ◌∙◌, arith}
use Rattle.std.specs.Prelude.{T}
use Rattle.std.specs.Option.{option_or}
use Rattle.std.specs.declared.cmp.Ordering.{Ordering}
use Rattle.std.specs.declared.cmp.Ordering.TheVariants.{Less, Equal, Greater}
use Rattle.std.specs.Ordering.{is_eq, is_lt, nat_cmp, ordering_then}
use Rattle.std.specs.Cmp.{tied_itself, nat_cmp_total}
use Rattle.std.specs.FinMap.{nat_cmp-IsAntisymmetric}
use Rattle.std.specs.FinMap.Entries.{find, is_sorted, below_all}
use Rattle.afs_base.specs.Path.{path_cmp}
use Rattle.tree_listing.specs.Walk.{AreBelow, AreUnder, Entry, IsRising, StartsBefore, under}
use Rattle.std.specs.List.{AllByRecursion}

both : (a b : Bool) → T a → T b → T (a && b)
both true b p q = q
both false b p q = p

first : (a b : Bool) → T (a && b) → T a
first true b p = tt
first false b p = p

second : (a b : Bool) → T (a && b) → T b
second true b p = p
second false b p = absurd p

-- ---- the same slot in front

nat_same : (s : ℕ) → nat_cmp s s ≡ Equal
nat_same s = tied_itself nat_cmp_total s

pub cmp_under : (s : ℕ) (p q : List ℕ) → path_cmp (s ∷ p) (s ∷ q) ≡ path_cmp p q
cmp_under s p q = ap (λ r. ordering_then r (path_cmp p q)) (nat_same s)

pub find_under : (s : ℕ) (q : List ℕ) (es : List Entry) → find path_cmp (s ∷ q) (map (under s) es) ≡ find path_cmp q es
find_under s q [] = refl
find_under s q (e ∷ es) = λ i. cond (is_eq (cmp_under s q e.0 i)) (Some e.1) (find_under s q es i)

below_under : (s : ℕ) (p : List ℕ) (es : List Entry) → T (below_all path_cmp p es) → T (below_all path_cmp (s ∷ p) (map (under s) es))
below_under s p [] h = tt
below_under s p (e ∷ es) h =
    both _ _ (subst (λ r. T (is_lt r)) (sym (cmp_under s p e.0)) (first _ _ h)) (below_under s p es (second _ _ h))

-- ---- different slots in front

-- the path has a first slot, which is this one or a later one
abbrev pub StartsFrom : ℕ → List ℕ → Type 0
StartsFrom s [] = ⊥
StartsFrom s (t ∷ p) = s ≤ t

abbrev pub AllFrom : ℕ → List Entry → Type 0
AllFrom s [] = Unit {0}
AllFrom s (e ∷ es) = StartsFrom s e.0 × AllFrom s es

nat_less : (s t : ℕ) → s < t → nat_cmp s t ≡ Less
nat_less s t h = Prim.grind (arith)

pub cmp_less : (s : ℕ) (p q : List ℕ) → StartsFrom (suc s) q → path_cmp (s ∷ p) q ≡ Less
cmp_less s p [] h = absurd h
cmp_less s p (t ∷ q) h = ap (λ r. ordering_then r (path_cmp p q)) (nat_less s t (Prim.omega (arith, h)))

below_later : (s : ℕ) (p : List ℕ) (es : List Entry) → AllFrom (suc s) es → T (below_all path_cmp (s ∷ p) es)
below_later s p [] h = tt
below_later s p (e ∷ es) h = both _ _ (subst (λ r. T (is_lt r)) (sym (cmp_less s p e.0 h.0)) tt) (below_later s p es h.1)

pub find_earlier : (s : ℕ) (q : List ℕ) (es : List Entry) → AllFrom (suc s) es → find path_cmp (s ∷ q) es ≡ None
find_earlier s q [] h = refl
find_earlier s q (e ∷ es) h = ap (λ r. cond (is_eq r) (Some e.1) (find path_cmp (s ∷ q) es)) (cmp_less s q e.0 h.0) ∙ find_earlier s q es h.1

unlike : (r : Ordering) → (r ≡ Equal → ⊥) → (o : Ordering) → is_eq (ordering_then r o) ≡ false
unlike Less h o = refl
unlike Equal h o = absurd (h refl)
unlike Greater h o = refl

pub find_other : (s t : ℕ) (q : List ℕ) (es : List Entry) → (t ≡ s → ⊥) → find path_cmp (t ∷ q) (map (under s) es) ≡ None
find_other s t q [] h = refl
find_other s t q (e ∷ es) h =
    ap (λ b. cond b (Some e.1) (find path_cmp (t ∷ q) (map (under s) es))) (unlike (nat_cmp t s) (λ same. h (nat_cmp-IsAntisymmetric t s same)) (path_cmp q e.0))
    ∙ find_other s t q es h

pub find_root : (s : ℕ) (es : List Entry) → AllFrom s es → find path_cmp [] es ≡ None
find_root s [] h = refl
find_root s (e ∷ es) h = of e.0 h.0 (find_root s es h.1)
  where
    of : (p : List ℕ) → StartsFrom s p → find path_cmp [] es ≡ None → cond (is_eq (path_cmp [] p)) (Some e.1) (find path_cmp [] es) ≡ None
    of [] from rest = absurd from
    of (t ∷ p) from rest = rest

pub below_root : (s : ℕ) (es : List Entry) → AllFrom s es → T (below_all path_cmp [] es)
below_root s [] h = tt
below_root s (e ∷ es) h = of e.0 h.0 (below_root s es h.1)
  where
    of : (p : List ℕ) → StartsFrom s p → T (below_all path_cmp [] es) → T (is_lt (path_cmp [] p) && below_all path_cmp [] es)
    of [] from rest = absurd from
    of (t ∷ p) from rest = rest

-- ---- one after the other

pub find_append : (q : List ℕ) (xs ys : List Entry) → find path_cmp q (xs ++ ys) ≡ option_or (find path_cmp q xs) (find path_cmp q ys)
find_append q [] ys = refl
find_append q (x ∷ xs) ys = of (is_eq (path_cmp q x.0)) (find_append q xs ys)
  where
    of : (b : Bool) → find path_cmp q (xs ++ ys) ≡ option_or (find path_cmp q xs) (find path_cmp q ys)
        → cond b (Some x.1) (find path_cmp q (xs ++ ys)) ≡ option_or (cond b (Some x.1) (find path_cmp q xs)) (find path_cmp q ys)
    of true h = refl
    of false h = h

below_append : (p : List ℕ) (xs ys : List Entry) → T (below_all path_cmp p xs) → T (below_all path_cmp p ys) → T (below_all path_cmp p (xs ++ ys))
below_append p [] ys h k = k
below_append p (x ∷ xs) ys h k = both _ _ (first _ _ h) (below_append p xs ys (second _ _ h) k)

pub sorted_join : (s : ℕ) (es ys : List Entry) → T (is_sorted path_cmp es) → T (is_sorted path_cmp ys) → AllFrom (suc s) ys → T (is_sorted path_cmp (map (under s) es ++ ys))
sorted_join s [] ys h k from = k
sorted_join s (e ∷ es) ys h k from =
    both _ _ (below_append (s ∷ e.0) (map (under s) es) ys (below_under s e.0 es (first _ _ h)) (below_later s e.0 ys from))
    (sorted_join s es ys (second _ _ h) k from)

pub sorted_first : (s : ℕ) (bytes : List ℕ) (es : List Entry) → AllFrom s es → T (is_sorted path_cmp es) → T (is_sorted path_cmp (([], bytes) ∷ es))
sorted_first s bytes es from h = both _ _ (below_root s es from) h

pub from_join : (s : ℕ) (es ys : List Entry) → AllFrom (suc s) ys → AllFrom s (map (under s) es ++ ys)
from_join s [] ys h = weaker ys h
  where
    starts : (p : List ℕ) → StartsFrom (suc s) p → StartsFrom s p
    starts [] h = h
    starts (t ∷ p) h = Prim.omega (arith, h)

    weaker : (ys : List Entry) → AllFrom (suc s) ys → AllFrom s ys
    weaker [] h = tt
    weaker (y ∷ ys) h = (starts y.0 h.0, weaker ys h.1)
from_join s (e ∷ es) ys h = (Prim.omega arith, from_join s es ys h)

-- ---- slot by slot

abbrev AllBefore : ℕ → List Entry → Type 0
AllBefore k es = AllByRecursion (λ entry. StartsBefore k entry.0) es

before_root : (k : ℕ) (es : List Entry) → AllBefore k es → T (below_all path_cmp [] es)
before_root k [] h = tt
before_root k (e ∷ es) h = of e.0 h.0 (before_root k es h.1)
  where
    of : (p : List ℕ) → StartsBefore k p → T (below_all path_cmp [] es) → T (is_lt (path_cmp [] p) && below_all path_cmp [] es)
    of [] starts rest = absurd starts
    of (t ∷ p) starts rest = rest

pub rising_first : (k : ℕ) (bytes : List ℕ) (es : List Entry) → AreBelow k es → IsRising (([], bytes) ∷ es)
rising_first k bytes es h = both _ _ (before_root k es h.before) h.rising

cmp_before : (k : ℕ) (p q : List ℕ) → StartsBefore k p → path_cmp p (k ∷ q) ≡ Less
cmp_before k [] q h = absurd h
cmp_before k (s ∷ p) q h = ap (λ r. ordering_then r (path_cmp p q)) (nat_less s k h)

below_slot : (k : ℕ) (p : List ℕ) (es : List Entry) → StartsBefore k p → T (below_all path_cmp p (map (under k) es))
below_slot k p [] h = tt
below_slot k p (e ∷ es) h = both _ _ (subst (λ r. T (is_lt r)) (sym (cmp_before k p e.0 h)) tt) (below_slot k p es h)

sorted_under : (k : ℕ) (es : List Entry) → IsRising es → IsRising (map (under k) es)
sorted_under k [] h = tt
sorted_under k (e ∷ es) h = both _ _ (below_under k e.0 es (first _ _ h)) (sorted_under k es (second _ _ h))

sorted_behind : (k : ℕ) (xs es : List Entry) → IsRising xs → AllBefore k xs → IsRising es → IsRising (xs ++ map (under k) es)
sorted_behind k [] es h before g = sorted_under k es g
sorted_behind k (x ∷ xs) es h before g =
    both _ _ (below_append x.0 xs (map (under k) es) (first _ _ h) (below_slot k x.0 es before.0)) (sorted_behind k xs es (second _ _ h) before.1 g)

starts_on : (k : ℕ) (p : List ℕ) → StartsBefore k p → StartsBefore (suc k) p
starts_on k [] h = h
starts_on k (s ∷ p) h = Prim.omega (arith, h)

before_slot : (k : ℕ) (es : List Entry) → AllBefore (suc k) (map (under k) es)
before_slot k [] = tt
before_slot k (e ∷ es) = (Prim.omega arith, before_slot k es)

before_behind : (k : ℕ) (xs es : List Entry) → AllBefore k xs → AllBefore (suc k) (xs ++ map (under k) es)
before_behind k [] es before = before_slot k es
before_behind k (x ∷ xs) es before = (starts_on k x.0 before.0, before_behind k xs es before.1)

pub below_longer : (k : ℕ) (xs entries : List Entry) → AreBelow k xs → AreUnder k entries → AreBelow (suc k) (xs ++ entries)
below_longer k xs entries h g =
    let P : List Entry → Type 0 = λ ys. AreBelow (suc k) (xs ++ ys) in
    subst P (sym g.are) (record { rising = sorted_behind k xs g.seen h.rising h.before g.rising; before = before_behind k xs g.seen h.before })
