-- What a sweep finds is what the write of the table frees.
use Rattle.std.proofs.Common.{◌≡◌, ◌↔◌, inl, inr, ℕ, ◌+◌, nat_eq, List, [], ◌∷◌, length, take, drop, Some, sym, ap, subst, ◌∙◌, arith, slice_get, true≢false}
use Rattle.std.specs.List.{list_any}
use Rattle.tree_model.proofs.Paths.{told}
use Rattle.store_model.specs.Laid.{LaidVersion}
use Rattle.store_model.specs.Laws.{pages_of}
use Rattle.store_model.proofs.Edits.{none_some}
use Rattle.store_model.proofs.Steps.{same_places}
use Rattle.store_changes.specs.Stands.{IsPlace, IsPageOf, IsPageOfAny, Stands}
use Rattle.store_changes.specs.Pruning.{Pruned}
use Rattle.store_changes.proofs.Alike.{get_drop}
use Rattle.store_changes.proofs.Pruning.{pruning_keeps}
use Rattle.store_changes.proofs.Keeping.{kept_are_kept}
use Rattle.store_changes.proofs.Destroying.{destroying_removes}
use Rattle.std.proofs.Math.Seq.{take-length}
use Rattle.store_changes.specs.Stands as stands
use Rattle.store_changes.specs.Stands.{Another}
use Rattle.store_changes.specs.Destroying.{file_gone}
use Rattle.store_model.specs.Found.{state_in}
use Rattle.prune_sweep.specs.Line.{IsFreed}
use Rattle.prune_sweep.specs.FoundFiles.{version_blocks, FreesOf, PruningFreesTheFound, DestroyingFreesTheFound}
use Rattle.prune_sweep.proofs.FoundFiles.{freed_of_found}

-- Of places of which the later ones are told by P, those that P leaves out are freed, and all others are kept.
frees : (places order : List ℕ) (Freed : ℕ → Type 0) (P : ℕ → Type 0) → ((n : ℕ) → IsPlace order n → P n)
    → ((n : ℕ) → IsPlace places n → P n → IsPlace order n)
    → ((n : ℕ) → Freed n → P n → ⊥) → ((n : ℕ) → (Freed n → ⊥) → (P n → ⊥) → ⊥) → FreesOf places order Freed
frees places order Freed P gives makes out kept n here = (
  λ freed still. out n freed (gives n still),
  λ not. elim (told (list_any (nat_eq n) order)) [
    | inl t ↦ t
    | inr f ↦ absurd (kept n not (λ p. true≢false (sym (makes n here p) ∙ f)))
  ],
)

any_first : (place : ℕ) (vs : List LaidVersion) (first : LaidVersion) (n : ℕ) → slice_get vs place ≡ Some first → IsPageOf first n
    → IsPageOfAny (drop place vs) n
any_first place vs first n at page = (0, first, get_drop place 0 vs ∙ ap (slice_get vs) (let e : place + 0 ≡ place = omega arith in e) ∙ at, page)

pub pruning_frees_the_found : PruningFreesTheFound
pruning_frees_the_found c d most store places e object place kept written after order f =
    let pr : Pruned d most store places object place kept = pruning_keeps c d most store places e object place kept written in
    let same : pr.stands.order ≡ order = same_places pr.stands.order order pr.stands.store after (sym pr.stands.lies ∙ f) in
    subst (λ l. FreesOf places l Freed) same
    (frees places pr.stands.order Freed Stays (λ n h. ((pr.stands.places n).0 h).1) (λ n here p. (pr.stands.places n).1 (here, p)) out still)
  where
    vs : List LaidVersion
    vs = kept.file.versions

    Freed : ℕ → Type 0
    Freed n = IsFreed (pages_of c) (version_blocks kept.file) place n

    Stays : ℕ → Type 0
    Stays n = IsPageOfAny (take place vs) n → IsPageOf kept.first n

    found : (n : ℕ) → Freed n ↔ (IsPageOfAny (take place vs) n × (IsPageOfAny (drop place vs) n → ⊥))
    found n = (freed_of_found c most store places e object kept.file kept.listed place n).0

    out : (n : ℕ) → Freed n → Stays n → ⊥
    out n freed p = ((found n).0 freed).1 (any_first place vs kept.first n kept.kept (p ((found n).0 freed).0))

    -- a page of a later version that is one of an earlier version is one of the first kept version too
    first_has : (n : ℕ) → IsPageOfAny (take place vs) n → IsPageOfAny (drop place vs) n → IsPageOf kept.first n
    first_has n old later =
        kept_are_kept c d most store places e object place kept written later.0 later.1 (sym (get_drop place later.0 vs) ∙ later.2) n later.3 old

    still : (n : ℕ) → (Freed n → ⊥) → (Stays n → ⊥) → ⊥
    still n not refused = refused (λ old. absurd (not ((found n).1 (old, λ later. refused (λ _. first_has n old later)))))

none_behind : (n : ℕ) (xs : List LaidVersion) → IsPageOfAny (drop (length xs) xs) n → ⊥
none_behind n [] h = none_some h.2
none_behind n (x ∷ xs) h = none_behind n xs h

pub destroying_frees_the_found : DestroyingFreesTheFound
destroying_frees_the_found c d most store places e object file listed untied entry first written after order f =
    let s : Stands d most store (Another object) (stands.with_file object (file_gone entry) (state_in store))
    (λ n. IsPlace places n × (IsPageOfAny vs n → ⊥)) =
    destroying_removes c d most store places e object file listed untied entry first written in
    let same : s.order ≡ order = same_places s.order order s.store after (sym s.lies ∙ f) in
    subst (λ l. FreesOf places l Freed) same
    (frees places s.order Freed (λ n. IsPageOfAny vs n → ⊥) (λ n h. ((s.places n).0 h).1) (λ n here p. (s.places n).1 (here, p))
    (λ n freed p. p (subst (λ l. IsPageOfAny l n) (take-length vs) ((found n).0 freed).0))
    (λ n not refused. refused (λ old. not ((found n).1 (subst (λ l. IsPageOfAny l n) (sym (take-length vs)) old, none_behind n vs)))))
  where
    vs : List LaidVersion
    vs = file.versions

    Freed : ℕ → Type 0
    Freed n = IsFreed (pages_of c) (version_blocks file) (length vs) n

    found : (n : ℕ) → Freed n ↔ (IsPageOfAny (take (length vs) vs) n × (IsPageOfAny (drop (length vs) vs) n → ⊥))
    found n = (freed_of_found c most store places e object file listed (length vs) n).0
