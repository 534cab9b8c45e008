-- The table of a store as its entries, and what a write of it makes of them.
use Rattle.std.proofs.Common.{◌≡◌, ◌≢◌, ◌⊎◌, inl, inr, ℕ, zero, suc, ◌+◌, ◌*◌, ◌≤◌, ◌<◌, ◌==◌, ◌&&◌, true, cond, nat_le, nat_lt, List, [], ◌∷◌, ◌++◌, replicate, length, Option, Some, None, Result, Ok, refl, sym, ap, ◌∙◌, subst, arith, eq-eqb, true≢false, slice_get}
use Rattle.std.specs.Option.{option_and_then}
use Rattle.std.proofs.lemmas.Bool.{le-leb, lt-ltb}
use Rattle.std.proofs.lemmas.List.{length-map, length-replicate}
use Rattle.tree_model.proofs.Paths.{both_true}
use Rattle.page_codec.specs.Values.{EntryValue, RootValue}
use Rattle.page_codec.specs.Blank.{no_entry}
use Rattle.page_codec.specs.Causes.{first_cause}
use Rattle.page_codec.specs.TableReading.{raw_entries, raw_value, entry_value, part_causes, part_value, root_of, part_of}
use Rattle.page_codec.specs.Numbers.{pieces}
use Rattle.store_model.specs.Walk.{Walk, Refused, bind, done, decoded, place}
use Rattle.store_model.specs.Tables.{Row, rows_in, part_rows, parts_from, table_rows}
use Rattle.store_model.specs.Laws.{read_of}
use Rattle.store_model.specs.Changes.{changed_at}
use Rattle.store_model.proofs.PlaceLists.{IsIn, in_head, in_tail, in_cons, in_left, in_right, in_either, in_along, none_in}
use Rattle.store_model.proofs.Steps.{Content, blocks_of, InRange, Ran, Passed, passed, went_on, same_value, same_places, in_range}
use Rattle.store_model.proofs.Locality.{framed_part, framed_parts}
use Rattle.store_model.proofs.Rewriting.{Placed, placed, Decoded, decoded_told, decodes, places_again}
use Rattle.store_model.proofs.Edits.{some_is, none_some, changed_append}
use Rattle.store_model.proofs.Reading.{uncaused}
use Rattle.store_model.proofs.KeptTrees.{length-pieces}
use Rattle.store_changes.specs.Writes.{put_at, part_in_block, part_with, with_first, with_part, InRoot, InPart, InNewPart, WritesEntry}
use Rattle.store_changes.proofs.Shown.{Told, told_of}
use Rattle.store_changes.proofs.Entries.{entries_in, AgreeBeside}

-- ---- lists of entries

pub entries_rows : (block : ℕ) (entries : List EntryValue) → entries_in (rows_in block entries) ≡ entries
entries_rows block [] = refl
entries_rows block (e ∷ es) = ap (λ l. e ∷ l) (entries_rows block es)

pub entries_append : (xs ys : List Row) → entries_in (xs ++ ys) ≡ entries_in xs ++ entries_in ys
entries_append [] ys = refl
entries_append (x ∷ xs) ys = ap (λ l. x.entry ∷ l) (entries_append xs ys)

-- an item behind the first of two lists
changed_behind : {X : Type 0} (g : X → X) (xs ys : List X) (n k : ℕ) → length xs ≡ n → changed_at g (n + k) (xs ++ ys) ≡ xs ++ changed_at g k ys
changed_behind g [] ys n k e = ap (λ m. changed_at g m ys) (let z : n + k ≡ k = omega arith in z)
changed_behind g (x ∷ xs) ys n k e =
    ap (λ m. changed_at g m (x ∷ (xs ++ ys))) (let z : n + k ≡ suc (length xs + k) = omega arith in z)
    ∙ ap (λ l. x ∷ l) (changed_behind g xs ys (length xs) k refl)

pub part_length : (j : ℕ) (b : List ℕ) (entries : List EntryValue) → part_of j b ≡ Ok entries → length entries ≡ 63
unfolding part_value raw_entries
part_length j b entries e =
    ap length (sym (uncaused (first_cause (part_causes j b)) (part_value b) entries e).value)
    ∙ length-map (raw_entries 63 b) entry_value ∙ length-map (pieces 16 63 _) raw_value ∙ length-pieces 16 63 _

-- ---- one part

-- what a part that is there was read as
pub record PartRead (c : Content) (count j block : ℕ) (seen : List ℕ) (rows : List Row) (all : List ℕ) : Type 0 where
  pub bytes : List ℕ
  pub entries : List EntryValue
  pub holds : c block ≡ Some bytes
  pub reads : part_of j bytes ≡ Ok entries
  pub ranged : (nat_le 1 block && nat_lt block count) ≡ true
  pub fresh : IsIn seen block → ⊥
  pub is : rows ≡ rows_in block entries
  pub grown : all ≡ block ∷ seen

pub part_read : (c : Content) (count j block : ℕ) (seen : List ℕ) (rows : List Row) (all : List ℕ)
    → part_rows (blocks_of c count) j (Some block) seen ≡ Ok (rows, all) → PartRead c count j block seen rows all
unfolding part_rows bind done
part_read c count j block seen rows all e =
    let p : Passed (place (blocks_of c count) 0 block seen) _ rows all = passed (place (blocks_of c count) 0 block seen) _ rows all e in
    let a : Placed count block (c block) seen p.value p.places = placed c count 0 block seen p.value p.places p.first in
    let q : Passed (decoded block (part_of j p.value) p.places) _ rows all = passed (decoded block (part_of j p.value) p.places) _ rows all p.second in
    let d : Decoded (part_of j p.value) p.places q.value q.places = decoded_told block (part_of j p.value) p.places q.value q.places q.first in
    record {
      bytes = p.value;
      entries = q.value;
      holds = a.took.holds;
      reads = d.reads;
      ranged = a.ranged;
      fresh = a.took.fresh;
      is = sym (same_value q.places all (rows_in block q.value) rows q.second);
      grown = sym (d.stays ∙ same_places q.places all (rows_in block q.value) rows q.second) ∙ a.took.grown;
    }

pub part_goes : (d : Content) (count j block : ℕ) (entries : List EntryValue) (seen : List ℕ) → (nat_le 1 block && nat_lt block count) ≡ true → (IsIn seen block → ⊥)
    → part_in_block d j block ≡ Some entries → part_rows (blocks_of d count) j (Some block) seen ≡ Ok (rows_in block entries, block ∷ seen)
unfolding part_rows done
part_goes d count j block entries seen ranged fresh is =
    let t : Told (d block) (part_of j) entries = told_of (part_of j) (d block) entries is in
    went_on _ _ seen t.bytes (block ∷ seen) _ (places_again d count 0 block seen t.bytes ranged fresh t.holds)
    (went_on _ _ (block ∷ seen) entries (block ∷ seen) _ (decodes block (part_of j t.bytes) (block ∷ seen) entries t.reads) refl)

pub no_part_goes : (d : Content) (count j : ℕ) (seen : List ℕ) → part_rows (blocks_of d count) j None seen ≡ Ok (rows_in 0 (replicate 63 no_entry), seen)
unfolding part_rows done
no_part_goes d count j seen = refl

pub rows_length : (c : Content) (count j : ℕ) (part : Option ℕ) (seen : List ℕ) (rows : List Row) (all : List ℕ)
    → part_rows (blocks_of c count) j part seen ≡ Ok (rows, all) → length (entries_in rows) ≡ 63
rows_length c count j None seen rows all e =
    ap (λ (rs : List Row). length (entries_in rs)) (sym (same_value seen all (rows_in 0 (replicate 63 no_entry)) rows (sym (no_part_goes c count j seen) ∙ e)))
    ∙ ap length (entries_rows 0 (replicate 63 no_entry)) ∙ length-replicate 63 no_entry
rows_length c count j (Some block) seen rows all e =
    let r : PartRead c count j block seen rows all = part_read c count j block seen rows all e in
    ap (λ (rs : List Row). length (entries_in rs)) r.is ∙ ap length (entries_rows block r.entries) ∙ part_length j r.bytes r.entries r.reads

-- ---- the parts

pub record PartsStep (c : Content) (count j : ℕ) (part : Option ℕ) (others : List (Option ℕ)) (seen : List ℕ) (rows : List Row) (all : List ℕ) : Type 0 where
  pub here : List Row
  pub mid : List ℕ
  pub rest : List Row
  pub first : part_rows (blocks_of c count) j part seen ≡ Ok (here, mid)
  pub later : parts_from (blocks_of c count) (suc j) others mid ≡ Ok (rest, all)
  pub is : rows ≡ here ++ rest

pub parts_step : (c : Content) (count j : ℕ) (part : Option ℕ) (others : List (Option ℕ)) (seen : List ℕ) (rows : List Row) (all : List ℕ)
    → parts_from (blocks_of c count) j (part ∷ others) seen ≡ Ok (rows, all) → PartsStep c count j part others seen rows all
unfolding parts_from bind done
parts_step c count j part others seen rows all e =
    let p : Passed (part_rows (blocks_of c count) j part seen) _ rows all = passed (part_rows (blocks_of c count) j part seen) _ rows all e in
    let q : Passed (parts_from (blocks_of c count) (suc j) others p.places) _ rows all = passed (parts_from (blocks_of c count) (suc j) others p.places) _ rows all p.second in
    record {
      here = p.value;
      mid = p.places;
      rest = q.value;
      first = p.first;
      later = q.first ∙ ap (λ z. Ok (q.value, z)) (same_places q.places all (p.value ++ q.value) rows q.second);
      is = sym (same_value q.places all (p.value ++ q.value) rows q.second);
    }

pub parts_go : (d : Content) (count j : ℕ) (part : Option ℕ) (others : List (Option ℕ)) (seen mid all : List ℕ) (here rest : List Row)
    → part_rows (blocks_of d count) j part seen ≡ Ok (here, mid) → parts_from (blocks_of d count) (suc j) others mid ≡ Ok (rest, all)
    → parts_from (blocks_of d count) j (part ∷ others) seen ≡ Ok (here ++ rest, all)
unfolding parts_from done
parts_go d count j part others seen mid all here rest first later =
    went_on (part_rows (blocks_of d count) j part) _ seen here mid _ first (went_on (parts_from (blocks_of d count) (suc j) others) _ mid rest all _ later refl)

-- the parts with one entry put into one that is there
pub record PartsPut (d : Content) (count j i at block : ℕ) (entry : EntryValue) (parts : List (Option ℕ)) (seen : List ℕ) (rows : List Row) (all : List ℕ) : Type 0 where
  pub again : List Row
  pub runs : parts_from (blocks_of d count) j parts seen ≡ Ok (again, all)
  pub are : entries_in again ≡ put_at entry (63 * i + at) (entries_in rows)
  pub here : IsIn all block
  pub fresh : IsIn seen block → ⊥
  pub range : InRange count block

put_here : (entry : EntryValue) (at block : ℕ) (entries : List EntryValue) (rest : List Row) → at < length entries
    → entries_in (rows_in block (put_at entry at entries) ++ rest) ≡ put_at entry (63 * 0 + at) (entries_in (rows_in block entries ++ rest))
put_here entry at block entries rest small =
    entries_append (rows_in block (put_at entry at entries)) rest
    ∙ ap (λ l. l ++ entries_in rest) (entries_rows block (put_at entry at entries))
    ∙ sym (changed_append (λ _. entry) at entries (entries_in rest) small)
    ∙ ap (λ l. put_at entry at (l ++ entries_in rest)) (sym (entries_rows block entries))
    ∙ ap (put_at entry at) (sym (entries_append (rows_in block entries) rest))
    ∙ ap (λ n. put_at entry n (entries_in (rows_in block entries ++ rest))) (let e : at ≡ 63 * 0 + at = omega arith in e)

put_later : (entry : EntryValue) (at i : ℕ) (here again rest : List Row) → length (entries_in here) ≡ 63 → entries_in again ≡ put_at entry (63 * i + at) (entries_in rest)
    → entries_in (here ++ again) ≡ put_at entry (63 * suc i + at) (entries_in (here ++ rest))
put_later entry at i here again rest many are =
    entries_append here again ∙ ap (λ l. entries_in here ++ l) are
    ∙ sym (changed_behind (λ _. entry) (entries_in here) (entries_in rest) 63 (63 * i + at) many)
    ∙ ap (λ n. put_at entry n (entries_in here ++ entries_in rest)) (let e : 63 + (63 * i + at) ≡ 63 * suc i + at = omega arith in e)
    ∙ ap (put_at entry (63 * suc i + at)) (sym (entries_append here rest))

pub parts_put : (c d : Content) (count j i at block : ℕ) (entry : EntryValue) (entries : List EntryValue) (parts : List (Option ℕ)) (seen : List ℕ) (rows : List Row) (all : List ℕ)
    → parts_from (blocks_of c count) j parts seen ≡ Ok (rows, all) → slice_get parts i ≡ Some (Some block) → at < 63
    → part_in_block c (j + i) block ≡ Some entries → part_in_block d (j + i) block ≡ Some (put_at entry at entries) → ((n : ℕ) → n ≢ block → c n ≡ d n)
    → PartsPut d count j i at block entry parts seen rows all
parts_put c d count j i at block entry entries [] seen rows all e named small was is others = none_some named
parts_put c d count j zero at block entry entries (part ∷ parts) seen rows all e named small was is others =
    let s : PartsStep c count j part parts seen rows all = parts_step c count j part parts seen rows all e in
    let part_is : part ≡ Some block = some_is named in
    let r : PartRead c count j block seen s.here s.mid =
    part_read c count j block seen s.here s.mid (ap (λ o. part_rows (blocks_of c count) j o seen) (sym part_is) ∙ s.first) in
    let at_j : j + 0 ≡ j = omega arith in
    let same : r.entries ≡ entries =
    some_is (sym (ap (option_and_then (λ bytes. read_of (part_of j bytes))) r.holds ∙ ap read_of r.reads) ∙ ap (λ n. part_in_block c n block) (sym at_j) ∙ was) in
    let many : length entries ≡ 63 = ap length (sym same) ∙ part_length j r.bytes r.entries r.reads in
    let one : part_rows (blocks_of d count) j part seen ≡ Ok (rows_in block (put_at entry at entries), block ∷ seen) =
    ap (λ o. part_rows (blocks_of d count) j o seen) part_is
    ∙ part_goes d count j block (put_at entry at entries) seen r.ranged r.fresh (ap (λ n. part_in_block d n block) (sym at_j) ∙ is) in
    let ran : Ran c d (InRange count) (parts_from (blocks_of d count) (suc j) parts) s.mid s.rest all = (framed_parts c d count (suc j) parts).runs s.mid s.rest all s.later in
    let in_mid : IsIn s.mid block = in_along (block ∷ seen) s.mid (sym r.grown) block (in_head block seen) in
    let two : parts_from (blocks_of d count) (suc j) parts (block ∷ seen) ≡ Ok (s.rest, all) =
    ap (parts_from (blocks_of d count) (suc j) parts) (sym r.grown)
    ∙ ran.anywhere s.mid ran.apart (λ n h. others n (λ x. ran.apart n h (subst (IsIn s.mid) (sym x) in_mid))) ∙ ap (λ l. Ok (s.rest, l)) (sym ran.grown) in
    record {
      again = rows_in block (put_at entry at entries) ++ s.rest;
      runs = parts_go d count j part parts seen (block ∷ seen) all (rows_in block (put_at entry at entries)) s.rest one two;
      are = put_here entry at block entries s.rest (subst (λ n. at < n) (sym many) small)
          ∙ ap (λ (rs : List Row). put_at entry (63 * 0 + at) (entries_in (rs ++ s.rest))) (ap (rows_in block) (sym same) ∙ sym r.is)
          ∙ ap (λ (rs : List Row). put_at entry (63 * 0 + at) (entries_in rs)) (sym s.is);
      here = in_along (ran.new ++ s.mid) all (sym ran.grown) block (in_right ran.new s.mid block in_mid);
      fresh = r.fresh;
      range = in_range count block r.ranged;
    }
parts_put c d count j (suc i) at block entry entries (part ∷ parts) seen rows all e named small was is others =
    let s : PartsStep c count j part parts seen rows all = parts_step c count j part parts seen rows all e in
    let past : j + suc i ≡ suc j + i = omega arith in
    let r : PartsPut d count (suc j) i at block entry parts s.mid s.rest all =
    parts_put c d count (suc j) i at block entry entries parts s.mid s.rest all s.later named small (ap (λ n. part_in_block c n block) (sym past) ∙ was)
    (ap (λ n. part_in_block d n block) (sym past) ∙ is) others in
    let ran : Ran c d (InRange count) (part_rows (blocks_of d count) j part) seen s.here s.mid = (framed_part c d count j part).runs seen s.here s.mid s.first in
    let one : part_rows (blocks_of d count) j part seen ≡ Ok (s.here, s.mid) =
    ran.anywhere seen ran.apart
    (λ n h. others n (λ x. r.fresh (in_along (ran.new ++ seen) s.mid (sym ran.grown) block (in_left ran.new seen block (subst (IsIn ran.new) x h)))))
    ∙ ap (λ l. Ok (s.here, l)) (sym ran.grown) in
    record {
      again = s.here ++ r.again;
      runs = parts_go d count j part parts seen s.mid all s.here r.again one r.runs;
      are = put_later entry at i s.here r.again s.rest (rows_length c count j part seen s.here s.mid s.first) r.are
          ∙ ap (λ (rs : List Row). put_at entry (63 * suc i + at) (entries_in rs)) (sym s.is);
      here = r.here;
      fresh = λ h. r.fresh (in_along (ran.new ++ seen) s.mid (sym ran.grown) block (in_right ran.new seen block h));
      range = r.range;
    }

-- the parts with one more
pub record PartsNew (d : Content) (count j i at block : ℕ) (entry : EntryValue) (parts : List (Option ℕ)) (seen : List ℕ) (rows : List Row) (all : List ℕ) : Type 0 where
  pub again : List Row
  pub after : List ℕ
  pub runs : parts_from (blocks_of d count) j (put_at (Some block) i parts) seen ≡ Ok (again, after)
  pub are : entries_in again ≡ put_at entry (63 * i + at) (entries_in rows)
  pub has : (n : ℕ) → IsIn all n → IsIn after n
  pub extra : IsIn after block
  pub only : (n : ℕ) → IsIn after n → IsIn all n ⊎ (n ≡ block)

pub parts_new : (c d : Content) (count j i at block : ℕ) (entry : EntryValue) (parts : List (Option ℕ)) (seen : List ℕ) (rows : List Row) (all : List ℕ)
    → parts_from (blocks_of c count) j parts seen ≡ Ok (rows, all) → slice_get parts i ≡ Some None → at < 63 → (nat_le 1 block && nat_lt block count) ≡ true
    → (IsIn all block → ⊥) → part_in_block d (j + i) block ≡ Some (part_with at entry) → ((n : ℕ) → 1 ≤ n → c n ≡ d n)
    → PartsNew d count j i at block entry parts seen rows all
parts_new c d count j i at block entry [] seen rows all e absent small ranged free is others = none_some absent
parts_new c d count j zero at block entry (part ∷ parts) seen rows all e absent small ranged free is others =
    let s : PartsStep c count j part parts seen rows all = parts_step c count j part parts seen rows all e in
    let part_is : part ≡ None = some_is absent in
    let nothing : part_rows (blocks_of c count) j part seen ≡ Ok (rows_in 0 (replicate 63 no_entry), seen) =
    ap (λ o. part_rows (blocks_of c count) j o seen) part_is ∙ no_part_goes c count j seen in
    let here_is : rows_in 0 (replicate 63 no_entry) ≡ s.here = same_value seen s.mid (rows_in 0 (replicate 63 no_entry)) s.here (sym nothing ∙ s.first) in
    let mid_is : seen ≡ s.mid = same_places seen s.mid (rows_in 0 (replicate 63 no_entry)) s.here (sym nothing ∙ s.first) in
    let ran : Ran c d (InRange count) (parts_from (blocks_of d count) (suc j) parts) s.mid s.rest all = (framed_parts c d count (suc j) parts).runs s.mid s.rest all s.later in
    let all_is : all ≡ ran.new ++ seen = ran.grown ∙ ap (λ l. ran.new ++ l) (sym mid_is) in
    let off : IsIn seen block → ⊥ = λ h. free (in_along (ran.new ++ seen) all (sym all_is) block (in_right ran.new seen block h)) in
    let at_j : j + 0 ≡ j = omega arith in
    let one : part_rows (blocks_of d count) j (Some block) seen ≡ Ok (rows_in block (part_with at entry), block ∷ seen) =
    part_goes d count j block (part_with at entry) seen ranged off (ap (λ n. part_in_block d n block) (sym at_j) ∙ is) in
    let two : parts_from (blocks_of d count) (suc j) parts (block ∷ seen) ≡ Ok (s.rest, ran.new ++ (block ∷ seen)) =
    ran.anywhere (block ∷ seen)
    (λ n h g. elim (in_cons block n seen g) [
      | inl x ↦ free (in_along (ran.new ++ seen) all (sym all_is) block (in_left ran.new seen block (subst (IsIn ran.new) x h)))
      | inr x ↦ ran.apart n h (in_along seen s.mid mid_is n x)
    ])
    (λ n h. others n (ran.each n h).0) in
    record {
      again = rows_in block (part_with at entry) ++ s.rest;
      after = ran.new ++ (block ∷ seen);
      runs = parts_go d count j (Some block) parts seen (block ∷ seen) (ran.new ++ (block ∷ seen)) (rows_in block (part_with at entry)) s.rest one two;
      are = entries_append (rows_in block (part_with at entry)) s.rest
          ∙ ap (λ l. l ++ entries_in s.rest) (entries_rows block (part_with at entry) ∙ ap (put_at entry at) (sym (entries_rows 0 (replicate 63 no_entry))))
          ∙ ap (λ (rs : List Row). put_at entry at (entries_in rs) ++ entries_in s.rest) here_is
          ∙ sym (changed_append (λ _. entry) at (entries_in s.here) (entries_in s.rest)
          (subst (λ n. at < n) (sym (rows_length c count j part seen s.here s.mid s.first)) small))
          ∙ ap (put_at entry at) (sym (entries_append s.here s.rest) ∙ ap entries_in (sym s.is))
          ∙ ap (λ n. put_at entry n (entries_in rows)) (let z : at ≡ 63 * 0 + at = omega arith in z);
      has = λ n h. elim (in_either ran.new seen n (in_along all (ran.new ++ seen) all_is n h)) [
        | inl x ↦ in_left ran.new (block ∷ seen) n x
        | inr x ↦ in_right ran.new (block ∷ seen) n (in_tail block n seen x)
      ];
      extra = in_right ran.new (block ∷ seen) block (in_head block seen);
      only = λ n h. elim (in_either ran.new (block ∷ seen) n h) [
        | inl x ↦ inl (in_along (ran.new ++ seen) all (sym all_is) n (in_left ran.new seen n x))
        | inr x ↦ elim (in_cons block n seen x) [ inl y ↦ inr y | inr y ↦ inl (in_along (ran.new ++ seen) all (sym all_is) n (in_right ran.new seen n y)) ]
      ];
    }
parts_new c d count j (suc i) at block entry (part ∷ parts) seen rows all e absent small ranged free is others =
    let s : PartsStep c count j part parts seen rows all = parts_step c count j part parts seen rows all e in
    let past : j + suc i ≡ suc j + i = omega arith in
    let r : PartsNew d count (suc j) i at block entry parts s.mid s.rest all =
    parts_new c d count (suc j) i at block entry parts s.mid s.rest all s.later absent small ranged free (ap (λ n. part_in_block d n block) (sym past) ∙ is) others in
    let ran : Ran c d (InRange count) (part_rows (blocks_of d count) j part) seen s.here s.mid = (framed_part c d count j part).runs seen s.here s.mid s.first in
    let one : part_rows (blocks_of d count) j part seen ≡ Ok (s.here, s.mid) =
    ran.anywhere seen ran.apart (λ n h. others n (ran.each n h).0) ∙ ap (λ l. Ok (s.here, l)) (sym ran.grown) in
    record {
      again = s.here ++ r.again;
      after = r.after;
      runs = parts_go d count j part (put_at (Some block) i parts) seen s.mid r.after s.here r.again one r.runs;
      are = put_later entry at i s.here r.again s.rest (rows_length c count j part seen s.here s.mid s.first) r.are
          ∙ ap (λ (rs : List Row). put_at entry (63 * suc i + at) (entries_in rs)) (sym s.is);
      has = r.has;
      extra = r.extra;
      only = r.only;
    }

-- ---- the two formats

pub rows_one : (c : Content) (count : ℕ) (root : RootValue) → root.format ≡ 1 → table_rows (blocks_of c count) root ≡ done (rows_in 0 root.first)
unfolding table_rows
rows_one c count root one = ap (λ b. cond b (done (rows_in 0 root.first)) (parts_from (blocks_of c count) 0 root.parts)) (eq-eqb root.format 1 one)

pub rows_two : (c : Content) (count : ℕ) (root : RootValue) → root.format ≡ 2 → table_rows (blocks_of c count) root ≡ parts_from (blocks_of c count) 0 root.parts
unfolding table_rows
rows_two c count root two = ap (λ n. cond (n == 1) (done (rows_in 0 root.first)) (parts_from (blocks_of c count) 0 root.parts)) two

-- ---- a write of the table

-- what block 0 holds after a write: a table with these entries, which lies in these places
pub record Written (c d : Content) (root : RootValue) (format : ℕ) (entries : List EntryValue) (in_table : List ℕ) (Extra : ℕ → Type 0) : Type 0 where
  pub after : RootValue
  pub bytes : List ℕ
  pub holds : d 0 ≡ Some bytes
  pub reads : root_of bytes ≡ Ok after
  pub format_is : after.format ≡ format
  pub blocks_is : after.blocks ≡ root.blocks
  pub key_is : after.key ≡ root.key
  pub rows : List Row
  pub places : List ℕ
  pub table : table_rows (blocks_of d root.blocks) after [] ≡ Ok (rows, places)
  pub are : entries_in rows ≡ entries
  pub has : (n : ℕ) → IsIn in_table n → IsIn places n
  pub extra : (n : ℕ) → Extra n → IsIn places n
  pub only : (n : ℕ) → IsIn places n → IsIn in_table n ⊎ Extra n
  pub agree : AgreeBeside c d places

in_root : (c d : Content) (root : RootValue) (rows : List Row) (in_table : List ℕ) (k : ℕ) (entry : EntryValue)
    → table_rows (blocks_of c root.blocks) root [] ≡ Ok (rows, in_table) → InRoot c d root k entry
    → Written c d root root.format (put_at entry k (entries_in rows)) in_table (λ _. ⊥)
unfolding done
in_root c d root rows in_table k entry e w =
    let t : Told (d 0) root_of (with_first (put_at entry k root.first) root) = told_of root_of (d 0) (with_first (put_at entry k root.first) root) w.is in
    let was : (let r : Result (List Row × List ℕ) Refused = Ok (rows_in 0 root.first, []) in r) ≡ Ok (rows, in_table) =
    ap (λ (walk : Walk (List Row)). walk []) (sym (rows_one c root.blocks root w.format)) ∙ e in
    let rows_are : rows_in 0 root.first ≡ rows = same_value [] in_table (rows_in 0 root.first) rows was in
    let none : [] ≡ in_table = same_places [] in_table (rows_in 0 root.first) rows was in
    record {
      after = with_first (put_at entry k root.first) root;
      bytes = t.bytes;
      holds = t.holds;
      reads = t.reads;
      format_is = refl;
      blocks_is = refl;
      key_is = refl;
      rows = rows_in 0 (put_at entry k root.first);
      places = [];
      table = ap (λ (walk : Walk (List Row)). walk []) (rows_one d root.blocks (with_first (put_at entry k root.first) root) w.format);
      are = entries_rows 0 (put_at entry k root.first) ∙ ap (put_at entry k) (sym (entries_rows 0 root.first) ∙ ap entries_in rows_are);
      has = λ n h. in_along in_table [] (sym none) n h;
      extra = λ n h. absurd h;
      only = λ n h. absurd (none_in n h);
      agree = λ n low out. w.others n (λ z. omega (arith, z, low));
    }

in_part : (c d : Content) (root : RootValue) (held : List ℕ) (rows : List Row) (in_table : List ℕ) (k : ℕ) (entry : EntryValue)
    → c 0 ≡ Some held → root_of held ≡ Ok root → table_rows (blocks_of c root.blocks) root [] ≡ Ok (rows, in_table) → InPart c d root k entry
    → Written c d root root.format (put_at entry k (entries_in rows)) in_table (λ _. ⊥)
in_part c d root held rows in_table k entry holds reads e w =
    let was : parts_from (blocks_of c root.blocks) 0 root.parts [] ≡ Ok (rows, in_table) =
    ap (λ (walk : Walk (List Row)). walk []) (sym (rows_two c root.blocks root w.format)) ∙ e in
    let at_zero : w.part ≡ 0 + w.part = omega arith in
    let r : PartsPut d root.blocks 0 w.part w.at w.block entry root.parts [] rows in_table =
    parts_put c d root.blocks 0 w.part w.at w.block entry w.entries root.parts [] rows in_table was w.named w.within
    (ap (λ n. part_in_block c n w.block) (sym at_zero) ∙ w.was) (ap (λ n. part_in_block d n w.block) (sym at_zero) ∙ w.is) w.others in
    let low : 1 ≤ w.block = r.range.0 in
    record {
      after = root;
      bytes = held;
      holds = sym (w.others 0 (λ z. omega (arith, z, low))) ∙ holds;
      reads = reads;
      format_is = refl;
      blocks_is = refl;
      key_is = refl;
      rows = r.again;
      places = in_table;
      table = ap (λ (walk : Walk (List Row)). walk []) (rows_two d root.blocks root w.format) ∙ r.runs;
      are = r.are ∙ ap (λ n. put_at entry n (entries_in rows)) (sym w.place);
      has = λ n h. h;
      extra = λ n h. absurd h;
      only = λ n h. inl h;
      agree = λ n one out. w.others n (λ z. out (subst (IsIn in_table) (sym z) r.here));
    }

-- one entry written in its block
pub entry_written : (c d : Content) (root : RootValue) (held : List ℕ) (rows : List Row) (in_table : List ℕ) (k : ℕ) (entry : EntryValue)
    → c 0 ≡ Some held → root_of held ≡ Ok root → table_rows (blocks_of c root.blocks) root [] ≡ Ok (rows, in_table) → WritesEntry c d root k entry
    → Written c d root root.format (put_at entry k (entries_in rows)) in_table (λ _. ⊥)
entry_written c d root held rows in_table k entry holds reads e (inl w) = in_root c d root rows in_table k entry e w
entry_written c d root held rows in_table k entry holds reads e (inr w) = in_part c d root held rows in_table k entry holds reads e w

-- and with a new part
pub part_written : (c d : Content) (root : RootValue) (places : List ℕ) (rows : List Row) (in_table : List ℕ) (k : ℕ) (entry : EntryValue)
    → table_rows (blocks_of c root.blocks) root [] ≡ Ok (rows, in_table) → ((n : ℕ) → IsIn in_table n → IsIn places n) → (w : InNewPart c d root places k entry)
    → Written c d root root.format (put_at entry k (entries_in rows)) in_table (λ n. n ≡ w.block)
part_written c d root places rows in_table k entry e within w =
    let after : RootValue = with_part w.part w.block root in
    let t : Told (d 0) root_of after = told_of root_of (d 0) after w.is in
    let was : parts_from (blocks_of c root.blocks) 0 root.parts [] ≡ Ok (rows, in_table) =
    ap (λ (walk : Walk (List Row)). walk []) (sym (rows_two c root.blocks root w.format)) ∙ e in
    let at_zero : w.part ≡ 0 + w.part = omega arith in
    let above : w.block ≢ 0 = (let low : 1 ≤ w.block = w.low in λ z. omega (arith, z, low)) in
    let same : c w.block ≡ d w.block = w.others w.block above in
    let r : PartsNew d root.blocks 0 w.part w.at w.block entry root.parts [] rows in_table =
    parts_new c d root.blocks 0 w.part w.at w.block entry root.parts [] rows in_table was w.absent w.within
    (both_true (nat_le 1 w.block) (nat_lt w.block root.blocks) (le-leb 1 w.block w.low) (lt-ltb w.block root.blocks w.high))
    (λ h. true≢false (sym (within w.block h) ∙ w.free))
    (ap (λ n. part_in_block d n w.block) (sym at_zero) ∙ ap (option_and_then (λ bytes. read_of (part_of w.part bytes))) (sym same) ∙ w.holds)
    (λ n low. w.others n (λ z. omega (arith, z, low))) in
    record {
      after = after;
      bytes = t.bytes;
      holds = t.holds;
      reads = t.reads;
      format_is = refl;
      blocks_is = refl;
      key_is = refl;
      rows = r.again;
      places = r.after;
      table = ap (λ (walk : Walk (List Row)). walk []) (rows_two d root.blocks after w.format) ∙ r.runs;
      are = r.are ∙ ap (λ n. put_at entry n (entries_in rows)) (sym w.place);
      has = r.has;
      extra = λ n z. subst (IsIn r.after) (sym z) r.extra;
      only = r.only;
      agree = λ n low out. w.others n (λ z. omega (arith, z, low));
    }
