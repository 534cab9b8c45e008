-- The objects whose last versions name members.
use Rattle.std.proofs.Common.{◌≡◌, ◌+◌, ◌<◌, ◌≤◌, ℕ, suc, Bool, true, false, cond, List, [], ◌∷◌, ◌++◌, length, drop, map, Option, Some, None, option_map, refl, sym, ap, ◌∙◌, append_assoc, append-nil, get_or, add-one, arith}
use Rattle.std.proofs.Math.Seq.{drop-cons}
use Rattle.std.proofs.Math.ListN.{drop_of_length-le}
use Rattle.std.proofs.lemmas.List.{map-append}
use Rattle.store_model.specs.Laid.{LaidVersion, LaidFile, last_laid}
use Rattle.store_model.specs.Members.{Top as ModelTop, top_of, tops_from, names_none}
use Rattle.store_check.specs.declared.chain.FoundFile.{FoundFile}
use Rattle.store_check.specs.declared.tops.Top.{Top}
use Rattle.store_check.specs.Files.{first_serial, unset_base, kept_by, chain_of, chains_of}
use Rattle.store_check.specs.Versions.{shown_of}
use Rattle.store_check.specs.Tops.{top_in, tops_in, shown_top}

-- the tops up to an object, and those from it on
pub record TopsSoFar (chains : List (Option FoundFile)) (i : ℕ) (tops : List Top) : Type 0 where
  pub is : tops_in 1 chains ≡ tops ++ tops_in (i + 1) (drop i chains)

pub tops_begin : (chains : List (Option FoundFile)) → TopsSoFar chains 0 []
tops_begin chains = record { is = ap (λ (n : ℕ). tops_in n chains) (let e : 1 ≡ 0 + 1 = Prim.omega arith in e) }

pub tops_on : (chains : List (Option FoundFile)) (i : ℕ) (tops more : List Top) (other : Option FoundFile) → i < length chains → TopsSoFar chains i tops
    → more ≡ tops ++ top_in (i + 1) (get_or chains i other) → TopsSoFar chains (i + 1) more
tops_on chains i tops more other low far is = record {
  is = far.is ∙ ap (λ (xs : List (Option FoundFile)). tops ++ tops_in (i + 1) xs) (drop-cons chains i other low)
      ∙ sym (append_assoc tops (top_in (i + 1) (get_or chains i other)) (tops_in (suc (i + 1)) (drop (suc i) chains)))
      ∙ ap (λ (xs : List Top). xs ++ tops_in (suc (i + 1)) (drop (suc i) chains)) (sym is)
      ∙ ap (λ (n : ℕ). more ++ tops_in n (drop (suc i) chains)) (let e : suc (i + 1) ≡ i + 1 + 1 = Prim.omega arith in e)
      ∙ ap (λ (n : ℕ). more ++ tops_in (i + 1 + 1) (drop n chains)) (sym (add-one i));
}

pub tops_end : (chains : List (Option FoundFile)) (i : ℕ) (tops : List Top) → length chains ≤ i → TopsSoFar chains i tops → tops ≡ tops_in 1 chains
tops_end chains i tops past far = sym (far.is ∙ ap (λ (xs : List (Option FoundFile)). tops ++ tops_in (i + 1) xs) (drop_of_length-le chains past) ∙ append-nil tops)

-- what is kept of the tops of files are the tops of what is kept of them
top_is : (object first : ℕ) (unset : Option ℕ) (kept : ℕ) (o : Option LaidVersion)
    → map shown_top (top_of object o) ≡ top_in object (option_map (λ last. record { last = shown_of last; first = first; unset = unset; kept = kept }) o)
top_is object first unset kept None = refl
top_is object first unset kept (Some last) = of (names_none last)
  where
    of : (b : Bool) → map shown_top (cond b [] ((let top : ModelTop = record { object = object; version = last } in top) ∷ []))
        ≡ cond b [] ((let top : Top = record { object = object; block = last.block; members = last.members } in top) ∷ [])
    of true = refl
    of false = refl

pub tops_are : (object : ℕ) (files : List LaidFile) → map shown_top (tops_from object files) ≡ tops_in object (chains_of files)
tops_are object [] = refl
tops_are object (file ∷ others) =
    map-append shown_top (top_of object (last_laid file.versions)) (tops_from (suc object) others)
    ∙ ap (λ (xs : List Top). xs ++ map shown_top (tops_from (suc object) others)) (top_is object (first_serial file.versions) (unset_base file.versions) (kept_by file.versions) (last_laid file.versions))
    ∙ ap (λ (xs : List Top). top_in object (chain_of file.versions) ++ xs) (tops_are (suc object) others)
