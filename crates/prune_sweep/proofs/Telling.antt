-- Blocks of a file as contents hold it are never refused.
use Rattle.std.proofs.Common.{◌≡◌, ◌≢◌, inl, inr, ℕ, suc, ◌<◌, Bool, true, false, not, ◌&&◌, ◌||◌, List, [], ◌∷◌, ◌++◌, length, Option, Some, None, Ok, refl, sym, ap, ◌∙◌, arith, slice_get, eq-eqb}
use Rattle.std.specs.List.{cons_option}
use Rattle.std.specs.Prelude.{option_to_list, is_some}
use Rattle.std.specs.Option.{is_none}
use Rattle.std.proofs.lemmas.Bool.{and_from, lt-ltb}
use Rattle.store_model.proofs.PlaceLists.{IsIn, in_cons, in_either, none_in, not_in}
use Rattle.page_codec.specs.declared.why.Why.{Why}
use Rattle.page_codec.specs.declared.why.Why.TheVariants as why
use Rattle.page_codec.specs.Values.{ReferenceValue, PageValue, VersionValue}
use Rattle.page_codec.specs.Causes.{first_cause}
use Rattle.prune_sweep.specs.declared.mark.Mark.{Mark}
use Rattle.prune_sweep.specs.declared.mark.Mark.TheVariants.{Unseen}
use Rattle.prune_sweep.specs.declared.slots.Following.{Following}
use Rattle.prune_sweep.specs.declared.stage.Stage.{Stage}
use Rattle.prune_sweep.specs.Progress.{following_at, is_reached, next_version}
use Rattle.prune_sweep.specs.Marks.{mark_at, is_unseen}
use Rattle.prune_sweep.specs.Slots.{new_block, shared_block, new_blocks, is_within, are_within}
use Rattle.prune_sweep.specs.Causes.{is_among, has_seen, page_cause, version_cause}
use Rattle.prune_sweep.proofs.Turning.{SlotOf, slot_of}
use Rattle.prune_sweep.proofs.Following.{new_names, shared_names}

-- each block that a slot names is one of the store's
pub all_within : (f : Following) (count : ℕ) (refs : List ReferenceValue)
    → ((s : ℕ) (r : ReferenceValue) (x : ℕ) → slice_get refs s ≡ Some r → r.block ≡ Some x → x < count) → are_within f count refs ≡ true
all_within f count [] each = refl
all_within f count (r ∷ refs) each =
    and_from _ _ (and_from _ _ (of (new_block f r) (new_block f r) refl (new_names f r)) (of (shared_block f r) (shared_block f r) refl (shared_names f r)))
    (all_within f count refs (λ s q x at names. each (suc s) q x at names))
  where
    of : (o p : Option ℕ) → p ≡ o → ((x : ℕ) → p ≡ Some x → r.block ≡ Some x) → is_within count p ≡ true
    of None p e names = ap (is_within count) e
    of (Some x) p e names = ap (is_within count) e ∙ lt-ltb x count (each 0 r x refl (names x e))

-- each new place was not seen, two slots name none together, and none of them is the next version, which was not seen either
pub none_seen : (marks : List Mark) (f : Following) (next : Option ℕ) (refs : List ReferenceValue)
    → ((s : ℕ) (r : ReferenceValue) (x : ℕ) → slice_get refs s ≡ Some r → new_block f r ≡ Some x → mark_at marks x ≡ Unseen)
    → ((s t : ℕ) (r q : ReferenceValue) (x : ℕ) → slice_get refs s ≡ Some r → r.block ≡ Some x → slice_get refs t ≡ Some q → q.block ≡ Some x → s ≡ t)
    → ((x : ℕ) → next ≡ Some x → mark_at marks x ≡ Unseen)
    → ((s : ℕ) (r : ReferenceValue) (x : ℕ) → slice_get refs s ≡ Some r → new_block f r ≡ Some x → next ≢ Some x)
    → has_seen marks (new_blocks f refs ++ option_to_list next) ≡ false
none_seen marks f next [] was one last apart = of next refl
  where
    of : (o : Option ℕ) → next ≡ o → has_seen marks (option_to_list o) ≡ false
    of None e = refl
    of (Some x) e = ap (λ m. not (is_unseen m) || false) (last x e)
none_seen marks f next (r ∷ refs) was one last apart =
    of (new_block f r) refl
    (none_seen marks f next refs (λ s q x at names. was (suc s) q x at names)
    (λ s t q p x at names at_too names_too. let e : suc s ≡ suc t = one (suc s) (suc t) q p x at names at_too names_too in omega (arith, e)) last
    (λ s q x at names. apart (suc s) q x at names))
  where
    once : (x : ℕ) → new_block f r ≡ Some x → IsIn (new_blocks f refs ++ option_to_list next) x → ⊥
    once x e h = elim (in_either (new_blocks f refs) (option_to_list next) x h) [
      | inl here ↦
          let sl : SlotOf (new_block f) refs x = slot_of (new_block f) refs x here in
          let z : 0 ≡ suc sl.slot = one 0 (suc sl.slot) r sl.reference x refl (new_names f r x e) sl.at (new_names f sl.reference x sl.names) in
          absurd (omega (arith, z))
      | inr there ↦ in_next next refl there
    ]
      where
        in_next : (o : Option ℕ) → next ≡ o → IsIn (option_to_list o) x → ⊥
        in_next None q g = none_in x g
        in_next (Some y) q g = elim (in_cons y x [] g) [ inl is ↦ apart 0 r x refl e (q ∙ ap Some (sym is)) | inr none ↦ none_in x none ]

    of : (o : Option ℕ) → new_block f r ≡ o → has_seen marks (new_blocks f refs ++ option_to_list next) ≡ false
        → has_seen marks (cons_option o (new_blocks f refs) ++ option_to_list next) ≡ false
    of None e rest = rest
    of (Some x) e rest =
        ap (λ m. not (is_unseen m) || (is_among x (new_blocks f refs ++ option_to_list next) || has_seen marks (new_blocks f refs ++ option_to_list next))) (was 0 r x refl e)
        ∙ ap (λ b. b || has_seen marks (new_blocks f refs ++ option_to_list next)) (not_in (new_blocks f refs ++ option_to_list next) x (once x e))
        ∙ rest

pub page_told : (marks : List Mark) (f : Following) (level : ℕ) (page : PageValue) → page.level ≡ level → are_within f (length marks) page.refs ≡ true
    → has_seen marks (new_blocks f page.refs) ≡ false → page_cause marks f level (Ok page) ≡ None
page_told marks f level page l w s =
    ap
    (λ b. first_cause ((not b, why.Level) ∷ (not (are_within f (length marks) page.refs), why.Reference) ∷ (has_seen marks (new_blocks f page.refs), why.Seen) ∷ []))
    (eq-eqb page.level level l)
    ∙ ap (λ b. first_cause ((not b, why.Reference) ∷ (has_seen marks (new_blocks f page.refs), why.Seen) ∷ [])) w
    ∙ ap (λ b. first_cause ((b, why.Seen) ∷ [])) s

-- the cause of three tests
abbrev three : Bool → Bool → Bool → Option Why
three a b c = first_cause ((not a, why.Reference) ∷ (b, why.Seen) ∷ (c, why.Serial) ∷ [])

version_cause_is : (marks : List Mark) (upto : Option ℕ) (stage : Stage) (version : VersionValue) (stays_too : Bool) (f : Following) (next : Option ℕ)
    → is_reached upto version.serial ≡ stays_too → following_at stage stays_too ≡ f → next_version upto version ≡ next
    → version_cause marks upto stage (Ok version)
    ≡ three (are_within f (length marks) version.page.refs && is_within (length marks) next) (has_seen marks (new_blocks f version.page.refs ++ option_to_list next))
    (is_some upto && (not stays_too && is_none version.commit))
version_cause_is marks upto stage version stays_too f next reached follows names =
    ap (λ b. of b (following_at stage b) (next_version upto version)) reached ∙ ap (λ g. of stays_too g (next_version upto version)) follows ∙ ap (of stays_too f) names
  where
    of : Bool → Following → Option ℕ → Option Why
    of b g o =
        three (are_within g (length marks) version.page.refs && is_within (length marks) o) (has_seen marks (new_blocks g version.page.refs ++ option_to_list o))
        (is_some upto && (not b && is_none version.commit))

pub version_told : (marks : List Mark) (upto : Option ℕ) (stage : Stage) (version : VersionValue) (stays_too : Bool) (f : Following) (next : Option ℕ)
    → is_reached upto version.serial ≡ stays_too → following_at stage stays_too ≡ f → next_version upto version ≡ next
    → are_within f (length marks) version.page.refs ≡ true → is_within (length marks) next ≡ true
    → has_seen marks (new_blocks f version.page.refs ++ option_to_list next) ≡ false → (is_some upto && (not stays_too && is_none version.commit)) ≡ false
    → version_cause marks upto stage (Ok version) ≡ None
version_told marks upto stage version stays_too f next reached follows names within next_within seen serial =
    version_cause_is marks upto stage version stays_too f next reached follows names
    ∙ ap (λ a. three a (has_seen marks (new_blocks f version.page.refs ++ option_to_list next)) (is_some upto && (not stays_too && is_none version.commit))) (and_from _ _ within next_within)
    ∙ ap (λ b. three true b (is_some upto && (not stays_too && is_none version.commit))) seen
    ∙ ap (three true false) serial

-- the cause where a block was seen
pub version_seen : (marks : List Mark) (upto : Option ℕ) (stage : Stage) (version : VersionValue) (stays_too : Bool) (f : Following) (next : Option ℕ)
    → is_reached upto version.serial ≡ stays_too → following_at stage stays_too ≡ f → next_version upto version ≡ next
    → are_within f (length marks) version.page.refs ≡ true → is_within (length marks) next ≡ true
    → has_seen marks (new_blocks f version.page.refs ++ option_to_list next) ≡ true → version_cause marks upto stage (Ok version) ≡ Some why.Seen
version_seen marks upto stage version stays_too f next reached follows names within next_within seen =
    version_cause_is marks upto stage version stays_too f next reached follows names
    ∙ ap (λ a. three a (has_seen marks (new_blocks f version.page.refs ++ option_to_list next)) (is_some upto && (not stays_too && is_none version.commit))) (and_from _ _ within next_within)
    ∙ ap (λ b. three true b (is_some upto && (not stays_too && is_none version.commit))) seen
