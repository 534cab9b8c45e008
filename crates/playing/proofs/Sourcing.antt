-- Sources that are read one after another.
use Rattle.std.proofs.Common.{◌≡◌, ℕ, suc, ◌+◌, ◌<◌, ◌≤◌, List, [], ◌∷◌, ◌++◌, length, take, drop, get_or, refl, sym, ap, subst, ◌∙◌, arith, drop-cons, take-append-drop}
use Rattle.std.specs.List.{AllZip, slice_set}
use Rattle.std.proofs.KnownBytes.{Consumes-nil}
use Rattle.std.proofs.lemmas.List.{drop-set-lt, get_or-drop, length-set, length-take-le, set_split, take_more}
use Rattle.std.proofs.lemmas.Slice.Zip.{all_zipped_more}
use Rattle.afs_base.specs.Causes.{Rose}
use Rattle.script_text.specs.declared.source.Source.{Ghosts as Reader}
use Rattle.playing.specs.Sources.{AreHeld, AreKept, AreLater, AreTaken, IsFailed, IsHeld, IsReadOf, IsTaken}
use Rattle.playing.specs.Taking.{AreTextsFault, IsTextFault}
use Rattle.playing.specs.declared.unread.Unread.{Unread}
use Rattle.playing.specs.declared.unread.Unread.TheVariants.{Source, Line, Unbuilt, Memory}
use Rattle.playing.proofs.Zips.{zip_same, zip_set, zip_take, zip_weaker}

-- the sources below a place were read, and those from there on were not touched
pub record AreSoFar {S : Type 0} (reader : Reader S) (old new : List S) (place : ℕ)
    (reads : List (List ℕ)) : Type 0 where
  pub rest : drop place new ≡ drop place old
  pub count : length new ≡ length old
  pub taken : AreTaken reader old new
  pub kept : AreKept reader old new
  pub texts : List (List ℕ)
  pub held : AreHeld reader (take place old) texts
  pub read : AllZip IsReadOf texts reads

-- none was read
pub none_so_far : {S : Type 0} (reader : Reader S) (old : List S) → AreSoFar reader old old 0 []
none_so_far reader old = record {
  rest = refl;
  count = refl;
  taken = zip_same (λ s t. IsTaken (reader.left s) (reader.left t))
      (λ s. ([], Consumes-nil (reader.left s))) old;
  kept = zip_same (λ s t. reader.faults t ≡ reader.faults s) (λ s. refl) old;
  texts = [];
  held = tt;
  read = tt;
}

-- counts that stay do not fall
pub kept_later : {S : Type 0} (reader : Reader S) (old new : List S) → AreKept reader old new
    → AreLater reader old new
kept_later reader old new kept =
    zip_weaker (λ s t. reader.faults t ≡ reader.faults s) (λ s t. reader.faults s ≤ reader.faults t)
    (λ s t same. omega (arith, same)) old new kept

-- from a place on two lists are the same
same_at : {S : Type 0} (old new : List S) (place : ℕ) (d : S) → drop place new ≡ drop place old
    → get_or new place d ≡ get_or old place d
same_at old new place d same =
    subst (λ n. get_or new n d ≡ get_or old n d) (let z : place + 0 ≡ place = omega arith in z)
    (sym (get_or-drop place new 0 d) ∙ ap (λ xs. get_or xs 0 d) same ∙ get_or-drop place old 0 d)

same_rest : {S : Type 0} (old new : List S) (place : ℕ) (d : S) → place < length old
    → place < length new → drop place new ≡ drop place old
    → drop (suc place) new ≡ drop (suc place) old
same_rest old new place d inside within same =
    ap (drop 1) (sym (drop-cons new place d within) ∙ same ∙ drop-cons old place d inside)

pub parts_at : {S : Type 0} (xs : List S) (place : ℕ) (d : S) → place < length xs
    → xs ≡ take place xs ++ get_or xs place d ∷ drop (suc place) xs
parts_at xs place d inside =
    sym (take-append-drop place xs)
    ∙ ap (λ ys. take place xs ++ ys) (drop-cons xs place d inside)

module _ {S : Type 0} (reader : Reader S) (old new : List S) (place : ℕ) (reads : List (List ℕ))
    (far : AreSoFar reader old new place reads) (d s' : S) (inside : place < length old) where
  within : place < length new
  within = let count = far.count in omega (arith, inside)

  was : get_or new place d ≡ get_or old place d
  was = same_at old new place d far.rest

  -- what is told of this source and of the others is told of all
  pub taken_set : IsTaken (reader.left (get_or new place d)) (reader.left s')
      → AreTaken reader old (slice_set new place s')
  taken_set one =
      zip_set (λ a b. IsTaken (reader.left a) (reader.left b)) old new place d s' far.taken inside
      (subst (λ s. IsTaken (reader.left s) (reader.left s')) was one)

  pub kept_set : reader.faults s' ≡ reader.faults (get_or new place d)
      → AreKept reader old (slice_set new place s')
  kept_set one =
      zip_set (λ a b. reader.faults b ≡ reader.faults a) old new place d s' far.kept inside
      (one ∙ ap (λ s. reader.faults s) was)

  pub later_set : reader.faults (get_or new place d) ≤ reader.faults s'
      → AreLater reader old (slice_set new place s')
  later_set one =
      zip_set (λ a b. reader.faults a ≤ reader.faults b) old new place d s'
      (kept_later reader old new far.kept) inside
      (subst (λ s. reader.faults s ≤ reader.faults s') was one)

  -- this source failed
  pub failed_set : (client : ℕ) → client ≡ place + 1
      → Rose (reader.faults (get_or new place d)) (reader.faults s')
      → IsFailed reader old (slice_set new place s') client
  failed_set client number rose = record {
    before = take place old;
    before' = take place new;
    source = get_or old place d;
    source' = s';
    after = drop (suc place) old;
    were = parts_at old place d inside;
    are = set_split new place s' within
        ∙ ap (λ ys. take place new ++ s' ∷ ys) (same_rest old new place d inside within far.rest);
    number = number
        ∙ ap (λ n. n + 1) (sym (length-take-le place old (omega (arith, inside))));
    kept = zip_take (λ a b. reader.faults b ≡ reader.faults a) old new place far.kept;
    rose = subst (λ s. Rose (reader.faults s) (reader.faults s')) was rose;
  }

  -- this source was not read
  pub fault_set : (client : ℕ) → client ≡ place + 1 → (unread : Unread)
      → IsTextFault client (reader.faults (get_or new place d)) (reader.faults s') unread
      → AreTextsFault reader old (slice_set new place s') unread
  fault_set client number (Source failed) fault =
      failed_set failed (fault.0 ∙ number) fault.1
  fault_set client number (Line failed line why) fault = absurd fault
  fault_set client number (Unbuilt failed line) fault = absurd fault
  fault_set client number Memory fault = kept_set fault

  -- this source was read
  pub one_more : (read : List ℕ) → IsTaken (reader.left (get_or new place d)) (reader.left s')
      → reader.faults s' ≡ reader.faults (get_or new place d)
      → (text : List ℕ) × IsHeld (reader.left (get_or new place d)) text × IsReadOf text read
      → AreSoFar reader old (slice_set new place s') (place + 1) (reads ++ read ∷ [])
  one_more read taken kept (text, held, is) = record {
    rest = drop-set-lt (place + 1) new place s' (omega arith)
        ∙ subst (λ n. drop n new ≡ drop n old) (let e : suc place ≡ place + 1 = omega arith in e)
        (same_rest old new place d inside within far.rest);
    count = length-set new place s' ∙ far.count;
    taken = taken_set taken;
    kept = kept_set kept;
    texts = far.texts ++ text ∷ [];
    held = subst (λ xs. AreHeld reader xs (far.texts ++ text ∷ []))
        (sym (take_more old place d inside))
        (all_zipped_more (λ (x : S) (t : List ℕ). IsHeld (reader.left x) t) (take place old)
        far.texts (get_or old place d) text far.held
        (subst (λ s. IsHeld (reader.left s) text) was held));
    read = all_zipped_more IsReadOf far.texts reads text read far.read is;
  }
