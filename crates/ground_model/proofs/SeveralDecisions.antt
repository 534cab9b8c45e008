-- What the code of a commit of several files knows of what stands, and what follows.
use Rattle.std.proofs.Common.{Contains, ◌≡◌, ◌⊎◌, inl, inr, ℕ, zero, suc, ◌+◌, ◌-◌, ◌<◌, ◌==◌, ◌^◌, ◌||◌, ◌&&◌, true, false, cond, List, [], ◌∷◌, map, filter, Option, Some, refl, sym, ap, ◌∙◌, subst, eq-eqb, eqb-true, true≢false, slice_get}
use Rattle.std.specs.Prelude.{IsSomeAnd, IsTrue, find, if◌then◌else◌, option_map}
use Rattle.std.specs.List.{list_any}
use Rattle.std.specs.Option.{option_map_or}
use Rattle.std.proofs.lemmas.Bool.{cases_Bool, false_from_ne_true, or_parts}
use Rattle.std.proofs.lemmas.List.{length-map}
use Rattle.std.proofs.lemmas.Option.{slice_get-map}
use Rattle.script_text.specs.declared.script.Line.{Line}
use Rattle.service_model.specs.declared.journal.Refusal.{Refusal}
use Rattle.service_model.specs.declared.journal.What.TheVariants as what
use Rattle.service_model.specs.declared.named.Named.{Named}
use Rattle.service_model.specs.Causes.{has_twice}
use Rattle.service_model.specs.Entries.{mode_of}
use Rattle.service_model.specs.Legal.{IsLawfulWhat, IsRefusable}
use Rattle.service_model.specs.Replies.{serial_by}
use Rattle.service_model.specs.Sound.{is_committing}
use Rattle.service_model.specs.Standing.{Scripts, Standing, Update, Work, has_writes, is_written, renewed_works, serial_of, top_and_written}
use Rattle.service_model.proofs.Committing.{renewed_in}
use Rattle.service_model.proofs.Members.{all_in, at_place, from_any, from_filtered, from_place, front_or_rest, in_any, in_filtered, in_front, in_mapped, in_rest, none_in}
use Rattle.store_model.proofs.Edits.{none_some, some_is}
use Rattle.tree_model.specs.States.{State}
use Rattle.ground_model.specs.CommitLines.{IsCommitting}
use Rattle.ground_model.specs.SeveralDecisions.{IsUndecidedOf, MayCommitSeveralIs, RefusableGivesBack, RefusableIsNoted, SerialsAreAt, SerialsOfEmpty, SerialsOfSeveral, SeveralAreBased, SeveralAreUnworn, SeveralAreWorn, serial_after, serial_at, serials_after}
use Rattle.ground_model.proofs.CommitLines.{refusal_is_noted}
use Rattle.ground_model.proofs.LineTurns.{refusal_gives_back}

-- ---- its bases

pub several_are_based : SeveralAreBased
several_are_based scripts s k u i w sound is at = sound.locked k u is.client.low is.is_open is.several is.uncommitted w (from_place u.works w i at)

pub several_are_unworn : SeveralAreUnworn
several_are_unworn scripts s k u sound is left =
    all_in (λ (w : Work). serial_of s.state w.object < 2 ^ 64 - 1) (renewed_works u)
    (λ w c. subst (λ n. n < 2 ^ 64 - 1) (sound.locked k u is.client.low is.is_open is.several is.uncommitted w (renewed_in u w c)) (left c.0 w (at_place (renewed_works u) w c)))

pub several_are_worn : SeveralAreWorn
several_are_worn scripts s k u i w sound is at worn =
    (w, i, at, sym (sound.locked k u is.client.low is.is_open is.several is.uncommitted w (renewed_in u w (from_place (renewed_works u) w i at))) ∙ worn)

-- ---- refusals

refusable_is_lawful : (scripts : Scripts) (s : Standing) (k : ℕ) (line : Line) (u : Update) (why : Refusal) → IsCommitting scripts s k line → IsUndecidedOf s k u → IsRefusable s k u why
    → IsLawfulWhat (mode_of scripts k) s k line.command (what.Refused why)
refusable_is_lawful scripts s k line u why at is cause =
    let F : Option Update → Type 0 = λ o. IsSomeAnd o (λ v. IsTrue (has_writes v) × IsRefusable s k v why) in
    (at.command, is.undecided, subst F (sym is.is_open) (is.writes, cause))

pub refusable_is_noted : RefusableIsNoted
refusable_is_noted scripts s k line u why at is cause = refusal_is_noted scripts s k line why at (refusable_is_lawful scripts s k line u why at is cause)

pub refusable_gives_back : RefusableGivesBack
refusable_gives_back scripts k scene states line u why shared at is cause gives =
    refusal_gives_back scripts k scene states line why shared at (refusable_is_lawful scripts scene.standing k line u why at is cause) gives

-- ---- the commit

pub may_commit_several_is : MayCommitSeveralIs
may_commit_several_is scripts s k line u at open_is several writes noted unworn = record {
  client = at.client;
  next = at.next;
  command = at.command;
  noted = noted;
  is_open = open_is;
  several = several;
  writes = writes;
  unworn = unworn;
}

-- ---- its answer

abbrev objects : List Work → List ℕ
objects ws = map (λ (w : Work). w.object) ws

abbrev named : State → Work → Named
named state w = record { object = w.object; serial = serial_of state w.object + 1 }

-- a file has the next serial where it is one of those that were made, else that of its base
serial_is : (state : State) (rs : List Work) (w : Work)
    → serial_by (map (named state) rs) w ≡ (if list_any (λ (x : Work). x.object == w.object) rs then serial_of state w.object + 1 else w.serial)
serial_is state [] w = refl
serial_is state (x ∷ rs) w = by (find (λ (n : Named). n.object == w.object) (map (named state) rs)) (serial_is state rs w) (cases_Bool (x.object == w.object))
  where
    by : (rest : Option Named)
        → (option_map_or (λ (n : Named). n.serial) rest w.serial ≡ (if list_any (λ (y : Work). y.object == w.object) rs then serial_of state w.object + 1 else w.serial))
        → ((x.object == w.object) ≡ true) ⊎ ((x.object == w.object) ≡ false)
        → option_map_or (λ (n : Named). n.serial) (cond (x.object == w.object) (Some (named state x)) rest) w.serial
        ≡ (if (x.object == w.object) || list_any (λ (y : Work). y.object == w.object) rs then serial_of state w.object + 1 else w.serial)
    by rest later (inl e) =
        ap (λ b. option_map_or (λ (n : Named). n.serial) (cond b (Some (named state x)) rest) w.serial) e ∙ ap (λ o. serial_of state o + 1) (eqb-true x.object w.object e)
        ∙ ap (λ b. if b || list_any (λ (y : Work). y.object == w.object) rs then serial_of state w.object + 1 else w.serial) (sym e)
    by rest later (inr e) =
        ap (λ b. option_map_or (λ (n : Named). n.serial) (cond b (Some (named state x)) rest) w.serial) e ∙ later
        ∙ ap (λ b. if b || list_any (λ (y : Work). y.object == w.object) rs then serial_of state w.object + 1 else w.serial) (sym e)

-- of files no two of which are one those with one object are one
one_file : (ws : List Work) (x y : Work) → has_twice (objects ws) ≡ false → Contains ws x → Contains ws y → (x.object == y.object) ≡ true → x ≡ y
one_file [] x y differ one two same = absurd (none_in x one)
one_file (w ∷ ws) x y differ one two same = by (one_file ws x y parts.1) (front_or_rest w ws x one) (front_or_rest w ws y two)
  where
    parts : (list_any (λ m. m == w.object) (objects ws) ≡ false) × (has_twice (objects ws) ≡ false)
    parts = or_parts (list_any (λ m. m == w.object) (objects ws)) (has_twice (objects ws)) differ

    none : (z : Work) → Contains ws z → z.object ≡ w.object → ⊥
    none z c e =
        true≢false
        (sym (in_any (λ m. m == w.object) (objects ws) z.object (in_mapped (λ (a : Work). a.object) ws z c) (eq-eqb z.object w.object e)) ∙ parts.0)

    equal : x.object ≡ y.object
    equal = eqb-true x.object y.object same

    by : (Contains ws x → Contains ws y → (x.object == y.object) ≡ true → x ≡ y) → (w ≡ x) ⊎ Contains ws x → (w ≡ y) ⊎ Contains ws y → x ≡ y
    by later (inl a) (inl b) = sym a ∙ b
    by later (inl a) (inr b) = absurd (none y b (sym equal ∙ ap (λ (z : Work). z.object) (sym a)))
    by later (inr a) (inl b) = absurd (none x a (equal ∙ ap (λ (z : Work). z.object) (sym b)))
    by later (inr a) (inr b) = later a b same

-- such a file is among those that were written where it was
among_written : (ws : List Work) (w : Work) → has_twice (objects ws) ≡ false → Contains ws w → list_any (λ (x : Work). x.object == w.object) (filter is_written ws) ≡ is_written w
among_written ws w differ c = by (cases_Bool (is_written w))
  where
    by : (is_written w ≡ true) ⊎ (is_written w ≡ false) → list_any (λ (x : Work). x.object == w.object) (filter is_written ws) ≡ is_written w
    by (inl e) = in_any (λ (x : Work). x.object == w.object) (filter is_written ws) w (in_filtered is_written ws w c e) (eq-eqb w.object w.object refl) ∙ sym e
    by (inr e) =
        false_from_ne_true (list_any (λ (x : Work). x.object == w.object) (filter is_written ws))
        (λ h.
        let found = from_any (λ (x : Work). x.object == w.object) (filter is_written ws) h in
        let old = from_filtered is_written ws found.0 found.1 in
        true≢false (sym old.1 ∙ ap is_written (one_file ws found.0 w differ old.0 c found.2) ∙ e)) ∙ sym e

same_map : (f g : Work → ℕ) (ws : List Work) → ((w : Work) → Contains ws w → f w ≡ g w) → map f ws ≡ map g ws
same_map f g [] each = refl
same_map f g (w ∷ ws) each = ap (λ n. n ∷ map f ws) (each w (in_front w ws)) ∙ ap (λ l. g w ∷ l) (same_map f g ws (λ x c. each x (in_rest w ws x c)))

module _ (state : State) (w : Work) (ws : List Work) (differ : has_twice (objects (w ∷ ws)) ≡ false) (last : (x : Work) → Contains (w ∷ ws) x → x.serial ≡ serial_of state x.object) where
  parts : (list_any (λ m. m == w.object) (objects ws) ≡ false) × (has_twice (objects ws) ≡ false)
  parts = or_parts (list_any (λ m. m == w.object) (objects ws)) (has_twice (objects ws)) differ

  first_is : serial_by (map (named state) (w ∷ filter is_written ws)) w ≡ w.serial + 1
  first_is =
      serial_is state (w ∷ filter is_written ws) w
      ∙ ap (λ b. if b || list_any (λ (x : Work). x.object == w.object) (filter is_written ws) then serial_of state w.object + 1 else w.serial) (eq-eqb w.object w.object refl)
      ∙ ap (λ n. n + 1) (sym (last w (in_front w ws)))

  apart_from : (x : Work) → Contains ws x → (w.object == x.object) ≡ false
  apart_from x c =
      false_from_ne_true (w.object == x.object) (λ h.
      true≢false
      (sym (in_any (λ m. m == w.object) (objects ws) x.object (in_mapped (λ (a : Work). a.object) ws x c) (eq-eqb x.object w.object (sym (eqb-true w.object x.object h)))) ∙ parts.0))

  other_is : (x : Work) → Contains ws x → serial_by (map (named state) (w ∷ filter is_written ws)) x ≡ serial_after x
  other_is x c =
      serial_is state (w ∷ filter is_written ws) x
      ∙ ap (λ b. if b || list_any (λ (y : Work). y.object == x.object) (filter is_written ws) then serial_of state x.object + 1 else x.serial) (apart_from x c)
      ∙ ap (λ b. if b then serial_of state x.object + 1 else x.serial) (among_written ws x parts.1 c)
      ∙ ap (λ n. if is_written x then n + 1 else x.serial) (sym (last x (in_rest w ws x c)))

  serials_are : map (serial_by (map (named state) (w ∷ filter is_written ws))) (w ∷ ws) ≡ (w.serial + 1) ∷ map serial_after ws
  serials_are =
      ap (λ n. n ∷ map (serial_by (map (named state) (w ∷ filter is_written ws))) ws) first_is
      ∙ ap (λ l. (w.serial + 1) ∷ l) (same_map (serial_by (map (named state) (w ∷ filter is_written ws))) serial_after ws other_is)

pub serials_of_several : SerialsOfSeveral
serials_of_several scripts s k line u sound may =
    ap (λ (rs : List Work). map (serial_by (map (named s.state) rs)) u.works) renewed
    ∙ by u.works (sound.updates k u may.client.low may.is_open).differ (sound.locked k u may.client.low may.is_open may.several (ap (list_any is_committing) may.noted))
  where
    renewed : renewed_works u ≡ top_and_written u.works
    renewed =
        ap (λ b. if b && has_writes u then top_and_written u.works else filter is_written u.works) may.several
        ∙ ap (λ b. if true && b then top_and_written u.works else filter is_written u.works) may.writes

    by : (ws : List Work) → has_twice (objects ws) ≡ false → ((x : Work) → Contains ws x → x.serial ≡ serial_of s.state x.object)
        → map (serial_by (map (named s.state) (top_and_written ws))) ws ≡ serials_after ws
    by [] differ last = refl
    by (w ∷ ws) differ last = serials_are s.state w ws differ last

pub serials_are_at : SerialsAreAt
serials_are_at [] = (refl, λ i w at. none_some at)
serials_are_at (x ∷ ws) = (ap suc (length-map ws serial_after), each)
  where
    each : (i : ℕ) (w : Work) → slice_get (x ∷ ws) i ≡ Some w → slice_get (serials_after (x ∷ ws)) i ≡ Some (serial_at i w)
    each zero w at = ap (λ (y : Work). Some (y.serial + 1)) (some_is at)
    each (suc i) w at = slice_get-map serial_after ws i ∙ ap (option_map serial_after) at

pub serials_of_empty : SerialsOfEmpty
serials_of_empty u = refl
