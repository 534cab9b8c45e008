-- How many places a walk adds, and that they are none twice: of a version its own pages, of a table its parts.
use Rattle.std.proofs.Common.{◌≡◌, ◌==◌, ◌&&◌, ◌||◌, ◌+◌, ◌-◌, nat_eq, nat_le, nat_lt, ℕ, zero, suc, Bool, true, false, cond, List, [], ◌∷◌, ◌++◌, length, filter, map, replicate, Option, Some, None, option_map, Result, Ok, Err, refl, sym, ap, ◌∙◌, arith, slice_get, length-append, add-one}
use Rattle.std.specs.List.{count_by, list_any}
use Rattle.std.specs.Option.{is_none, is_some, option_and_then}
use Rattle.std.proofs.lemmas.List.Elements.{filter-append}
use Rattle.std.proofs.lemmas.List.Sums.{sum_by-cons, sum_by_push}
use Rattle.afs_base.specs.Path.{is_prefix}
use Rattle.page_codec.specs.declared.why.Why.{Why}
use Rattle.page_codec.specs.declared.why.Why.TheVariants.{Closed, Level, Reference, Seen, Object, Serial, Base, Code, Member}
use Rattle.page_codec.specs.Values.{ReferenceValue, VersionValue, MemberValue, RootValue}
use Rattle.page_codec.specs.Blank.{no_entry}
use Rattle.page_codec.specs.Causes.{page_of, version_of}
use Rattle.page_codec.specs.TableReading.{part_of}
use Rattle.store_model.specs.Walk.{Blocks, Walk, bind, done, refuse, check, decoded, content_at, if_some, is_new, add, place}
use Rattle.store_model.specs.Laid.{Node, LaidVersion, LaidFile, last_laid, is_block, as_shared, shared_from, lies_at}
use Rattle.store_model.specs.Pages.{page_at, own_node, Below, own_from, named_from, slot_from, slots_from, pages_below}
use Rattle.store_model.specs.Chains.{follows, has_no_members, version_at, chain_from, chain_at}
use Rattle.store_model.specs.Tables.{Row, rows_in, part_rows, parts_from, table_rows, files_from}
use Rattle.store_model.specs.Members.{Top, Linked, names_none, tops_from, last_in, longer, with_version_at, version_linked, member_linked, members_linked, tops_linked}
use Rattle.store_model.specs.Found.{LaidStore}
use Rattle.store_model.proofs.Steps.{Passed, passed, ok≢err, same_value, same_places}
use Rattle.store_check.specs.Files.{own_pages, kept_by}
use Rattle.store_check.specs.Counts.{parts_in, kept_in}
use Rattle.store_check.specs.Checked.{walk_from}

-- What a walk counts begins as a number. Each place that it finds adds one, so that it ends as this number of what it finds.
pub record Adds {X : Type 0} (walk : Walk X) (start : ℕ) (total : X → ℕ) : Type 0 where
  pub runs : (seen : List ℕ) (x : X) (all : List ℕ) → walk seen ≡ Ok (x, all) → length all + start ≡ total x + length seen

pub adds_bind : {X Y : Type 0} (walk : Walk X) (next : X → Walk Y) (start : ℕ) (between : X → ℕ) (total : Y → ℕ)
    → Adds walk start between → ((x : X) → Adds (next x) (between x) total) → Adds (bind walk next) start total
unfolding bind
adds_bind walk next start between total first second = record {
  runs = λ seen y all e.
      let p : Passed (walk seen) next y all = passed (walk seen) next y all e in
      Prim.omega (arith, first.runs seen p.value p.places p.first, (second p.value).runs p.places y all p.second);
}

pub adds_done : {X : Type 0} (x : X) (start : ℕ) (total : X → ℕ) → start ≡ total x → Adds (done x) start total
unfolding done
adds_done x start total e = record {
  runs = λ seen y all is.
      let same : total x ≡ total y = ap total (same_value seen all x y is) in
      let places : length seen ≡ length all = ap length (same_places seen all x y is) in
      Prim.omega (arith, same, places, e);
}

pub adds_refuse : {X : Type 0} (block : ℕ) (why : Why) (start : ℕ) (total : X → ℕ) → Adds (refuse block why) start total
unfolding refuse
adds_refuse block why start total = record { runs = λ seen y all is. absurd (ok≢err is) }

pub adds_check : (test : Bool) (block : ℕ) (why : Why) (start : ℕ) → Adds (check test block why) start (λ _. start)
unfolding check
adds_check true block why start = adds_done true start (λ _. start) refl
adds_check false block why start = adds_refuse block why start (λ _. start)

pub adds_decoded : {X : Type 0} (block : ℕ) (r : Result X Why) (start : ℕ) → Adds (decoded block r) start (λ _. start)
unfolding decoded
adds_decoded block (Ok x) start = adds_done x start (λ _. start) refl
adds_decoded block (Err why) start = adds_refuse block why start (λ _. start)

pub adds_content : (block : ℕ) (bytes : Option (List ℕ)) (start : ℕ) → Adds (content_at block bytes) start (λ _. start)
unfolding content_at
adds_content block None start = adds_refuse block Closed start (λ _. start)
adds_content block (Some bytes) start = adds_done bytes start (λ _. start) refl

pub adds_if : {X : Type 0} (test : Bool) (one two : Walk X) (start : ℕ) (total : X → ℕ) → (test ≡ true → Adds one start total) → (test ≡ false → Adds two start total)
    → Adds (cond test one two) start total
adds_if true one two start total first second = first refl
adds_if false one two start total first second = second refl

-- the same, from a number on
pub adds_after : {X : Type 0} (walk : Walk X) (start : ℕ) (total : X → ℕ) → Adds walk 0 total → Adds walk start (λ x. total x + start)
adds_after walk start total a = record { runs = λ seen x all e. Prim.omega (arith, a.runs seen x all e) }

-- the same, from more
pub adds_more : {X : Type 0} (walk : Walk X) (start more : ℕ) (total : X → ℕ) → Adds walk start total → Adds walk (start + more) (λ x. total x + more)
adds_more walk start more total a = record { runs = λ seen x all e. Prim.omega (arith, a.runs seen x all e) }

adds_new : (block start : ℕ) → Adds (is_new block) start (λ _. start)
unfolding is_new refuse done
adds_new block start = record { runs = λ seen x all e. of seen x all (list_any (nat_eq block) seen) e }
  where
    of : (seen : List ℕ) (x : Bool) (all : List ℕ) (b : Bool) → cond b (refuse block Seen seen) (done true seen) ≡ Ok (x, all) → length all + start ≡ start + length seen
    of seen x all true e = absurd (ok≢err e)
    of seen x all false e = let places : length seen ≡ length all = ap length (same_places seen all true x e) in Prim.omega (arith, places)

adds_one : (block start : ℕ) → Adds (add block) start (λ _. suc start)
unfolding add
adds_one block start = record {
  runs = λ seen x all e. let places : length (block ∷ seen) ≡ length all = ap length (same_places (block ∷ seen) all true x e) in Prim.omega (arith, places);
}

-- a new place is one
pub adds_place : (blocks : Blocks) (namer block start : ℕ) → Adds (place blocks namer block) start (λ _. suc start)
unfolding place
adds_place blocks namer block start =
    adds_bind _ _ start (λ _. start) (λ _. suc start) (adds_check (nat_le 1 block && nat_lt block blocks.count) namer Reference start)
    (λ _. adds_bind _ _ start (λ _. start) (λ _. suc start) (adds_new block start)
    (λ _. adds_bind _ _ start (λ _. suc start) (λ _. suc start) (adds_one block start) (λ _. adds_content block (blocks.content block) (suc start))))

-- ---- pages

-- how many of these pages are their version's own
abbrev pub own : List Node → ℕ
own nodes = length (filter (λ node. node.is_own) nodes)

none_shared : (path : List ℕ) (nodes : List Node) → own (map (as_shared path) nodes) ≡ 0
none_shared path [] = refl
none_shared path (node ∷ others) = none_shared path others

own_append : (xs ys : List Node) → own (xs ++ ys) ≡ own xs + own ys
own_append xs ys = ap length (filter-append (λ (node : Node). node.is_own) xs ys) ∙ length-append (filter (λ (node : Node). node.is_own) xs) (filter (λ (node : Node). node.is_own) ys)

pub adds_page : (blocks : Blocks) (namer block level start : ℕ) → Adds (page_at blocks namer block level) start (λ _. suc start)
unfolding page_at
adds_page blocks namer block level start =
    adds_bind _ _ start (λ _. suc start) (λ _. suc start) (adds_place blocks namer block start)
    (λ bytes. adds_bind _ _ (suc start) (λ _. suc start) (λ _. suc start) (adds_decoded block (page_of bytes) (suc start))
    (λ page. adds_bind _ _ (suc start) (λ _. suc start) (λ _. suc start) (adds_check (page.level == level) block Level (suc start)) (λ _. adds_done page (suc start) (λ _. suc start) refl)))

-- what walks over the slots of each page adds its own pages
abbrev BelowAdds : Below → Type 0
BelowAdds below = (block : ℕ) (path : List ℕ) (refs : List ReferenceValue) → Adds (below block path refs) 0 own

module _ (blocks : Blocks) (below : Below) (each : BelowAdds below) where
  adds_own : (namer : ℕ) (path : List ℕ) (reference : ReferenceValue) (block : ℕ) → Adds (own_from blocks below namer path reference block) 0 own
  unfolding own_from
  adds_own namer path reference block =
      adds_bind _ _ 0 (λ _. 1) own (adds_page blocks namer block (length path) 0)
      (λ page. adds_bind _ _ 1 (λ others. own others + 1) own (adds_after (below block path page.refs) 1 own (each block path page.refs))
      (λ others. adds_done (own_node path reference block page ∷ others) (own others + 1) own (add-one (own others))))

  adds_named : (before : Option (List Node)) (namer : ℕ) (path : List ℕ) (reference : ReferenceValue) (block : ℕ) → Adds (named_from blocks below before namer path reference block) 0 own
  unfolding named_from
  adds_named None namer path reference block = adds_own namer path reference block
  adds_named (Some before) namer path reference block =
      adds_if reference.flags.copied _ _ 0 own (λ _. adds_own namer path reference block)
      (λ _. adds_if (lies_at path block before) _ _ 0 own
      (λ _. adds_done (shared_from path before) 0 own (sym (none_shared path (filter (λ (node : Node). is_prefix path node.path) before))))
      (λ _. adds_refuse namer Reference 0 own))

  adds_slot : (before : Option (List Node)) (namer : ℕ) (path : List ℕ) (reference : ReferenceValue) (block : Option ℕ) → Adds (slot_from blocks below before namer path reference block) 0 own
  unfolding slot_from
  adds_slot before namer path reference None = adds_done [] 0 own refl
  adds_slot before namer path reference (Some block) = adds_named before namer path reference block

  adds_slots : (before : Option (List Node)) (namer : ℕ) (path : List ℕ) (slot : ℕ) (refs : List ReferenceValue) → Adds (slots_from blocks below before namer path slot refs) 0 own
  unfolding slots_from
  adds_slots before namer path slot [] = adds_done [] 0 own refl
  adds_slots before namer path slot (reference ∷ others) =
      adds_bind _ _ 0 own own (adds_slot before namer (path ++ slot ∷ []) reference reference.block)
      (λ here. adds_bind _ _ (own here) (λ rest. own rest + own here) own
      (adds_after (slots_from blocks below before namer path (suc slot) others) (own here) own (adds_slots before namer path (suc slot) others))
      (λ rest. adds_done (here ++ rest) (own rest + own here) own (Prim.omega (arith, own_append here rest))))

pub adds_below : (blocks : Blocks) (before : Option (List Node)) (depth : ℕ) → BelowAdds (pages_below blocks before depth)
unfolding pages_below
adds_below blocks before zero = λ namer path refs. adds_done [] 0 own refl
adds_below blocks before (suc depth) =
    λ namer path refs. adds_slots blocks (pages_below blocks before depth) (adds_below blocks before depth) before namer path 0 refs

-- ---- versions

adds_follows : (block : ℕ) (version : VersionValue) (before : Option LaidVersion) (start : ℕ) → Adds (follows block version before) start (λ _. start)
unfolding follows
adds_follows block version None start = adds_done true start (λ _. start) refl
adds_follows block version (Some before) start =
    adds_bind _ _ start (λ _. start) (λ _. start) (adds_check (version.serial == before.serial + 1) block Serial start)
    (λ _. adds_bind _ _ start (λ _. start) (λ _. start) (adds_check (is_block before.block version.base) block Base start) (λ _. adds_check version.root.copied block Code start))

pub adds_version : (blocks : Blocks) (object namer block : ℕ) (before : Option LaidVersion) → Adds (version_at blocks object namer block before) 0 own_pages
unfolding version_at
adds_version blocks object namer block before =
    adds_bind _ _ 0 (λ _. 1) own_pages (adds_place blocks namer block 0)
    (λ bytes. adds_bind _ _ 1 (λ _. 1) own_pages (adds_decoded block (version_of bytes) 1)
    (λ version. adds_bind _ _ 1 (λ _. 1) own_pages (adds_check (version.object == object) block Object 1)
    (λ _. adds_bind _ _ 1 (λ _. 1) own_pages (adds_follows block version before 1)
    (λ _. adds_bind _ _ 1 (λ _. 1) own_pages (adds_check (is_none version.commit || has_no_members version) block Member 1)
    (λ _. adds_bind _ _ 1 (λ others. own others + 1) own_pages
    (adds_after (pages_below blocks (option_map (λ v. v.nodes) before) 7 block [] version.page.refs) 1 own (adds_below blocks (option_map (λ v. v.nodes) before) 7 block [] version.page.refs))
    (λ others. adds_done _ (own others + 1) own_pages (add-one (own others))))))))

kept_one : (version : LaidVersion) → own_pages version ≡ kept_by (version ∷ [])
kept_one version = let e : kept_by (version ∷ []) ≡ own_pages version + 0 = sum_by-cons own_pages version [] in Prim.omega (arith, e)

kept_more : (version : LaidVersion) (later : List LaidVersion) → kept_by later + own_pages version ≡ kept_by (version ∷ later)
kept_more version later = Prim.omega (arith, sum_by-cons own_pages version later)

pub adds_some : {X Y : Type 0} (value : Option X) (walk : X → Walk (List Y)) (start : ℕ) (total : List Y → ℕ) → start ≡ total [] → ((x : X) → Adds (walk x) start total) → Adds (if_some value walk) start total
unfolding if_some
adds_some None walk start total none each = adds_done [] start total none
adds_some (Some x) walk start total none each = each x

-- a chain from a version on, which is counted already
pub adds_chain_from : (blocks : Blocks) (object most : ℕ) (version : LaidVersion) → Adds (chain_from blocks object most version) (own_pages version) kept_by
unfolding chain_from
adds_chain_from blocks object zero version = adds_done (version ∷ []) (own_pages version) kept_by (kept_one version)
adds_chain_from blocks object (suc most) version =
    adds_bind _ _ (own_pages version) (λ later. kept_by later + own_pages version) kept_by
    (adds_after (if_some version.commit (λ block. bind (version_at blocks object version.block block (Some version)) (chain_from blocks object most))) (own_pages version) kept_by
    (adds_some version.commit _ 0 kept_by refl
    (λ block. adds_bind _ _ 0 own_pages kept_by (adds_version blocks object version.block block (Some version)) (λ next. adds_chain_from blocks object most next))))
    (λ later. adds_done (version ∷ later) (kept_by later + own_pages version) kept_by (kept_more version later))

pub adds_chain : (blocks : Blocks) (object namer block : ℕ) → Adds (chain_at blocks object namer block) 0 kept_by
unfolding chain_at
adds_chain blocks object namer block =
    adds_bind _ _ 0 own_pages kept_by (adds_version blocks object namer block None) (λ first. adds_chain_from blocks object blocks.count first)

-- ---- the table

adds_part : (blocks : Blocks) (j : ℕ) (part : Option ℕ) → Adds (part_rows blocks j part) 0 (λ _. cond (is_some part) 1 0)
unfolding part_rows
adds_part blocks j None = adds_done (rows_in 0 (replicate 63 no_entry)) 0 (λ _. 0) refl
adds_part blocks j (Some block) =
    adds_bind _ _ 0 (λ _. 1) (λ _. 1) (adds_place blocks 0 block 0)
    (λ bytes. adds_bind _ _ 1 (λ _. 1) (λ _. 1) (adds_decoded block (part_of j bytes) 1) (λ entries. adds_done (rows_in block entries) 1 (λ _. 1) refl))

adds_parts : (blocks : Blocks) (j : ℕ) (parts : List (Option ℕ)) → Adds (parts_from blocks j parts) 0 (λ _. count_by is_some parts)
unfolding parts_from
adds_parts blocks j [] = adds_done [] 0 (λ _. 0) refl
adds_parts blocks j (part ∷ others) =
    adds_bind _ _ 0 (λ _. cond (is_some part) 1 0) (λ _. count_by is_some (part ∷ others)) (adds_part blocks j part)
    (λ here. adds_bind _ _ (cond (is_some part) 1 0) (λ _. count_by is_some others + cond (is_some part) 1 0) (λ _. count_by is_some (part ∷ others))
    (adds_after (parts_from blocks (suc j) others) (cond (is_some part) 1 0) (λ _. count_by is_some others) (adds_parts blocks (suc j) others))
    (λ rest. adds_done (here ++ rest) _ (λ _. count_by is_some (part ∷ others)) (Prim.omega (arith, sum_by-cons (λ p. cond (is_some p) 1 0) part others))))

pub adds_rows : (blocks : Blocks) (root : RootValue) → Adds (table_rows blocks root) 0 (λ _. parts_in root)
unfolding table_rows
adds_rows blocks root = of (root.format == 1)
  where
    of : (b : Bool) → Adds (cond b (done (rows_in 0 root.first)) (parts_from blocks 0 root.parts)) 0 (λ _. cond b 0 (count_by is_some root.parts))
    of true = adds_done (rows_in 0 root.first) 0 (λ _. 0) refl
    of false = adds_parts blocks 0 root.parts

pub kept_first : (file : LaidFile) (others : List LaidFile) → kept_in others + kept_by file.versions ≡ kept_in (file ∷ others)
kept_first file others = Prim.omega (arith, sum_by-cons (λ (f : LaidFile). kept_by f.versions) file others)

pub adds_files : (blocks : Blocks) (object : ℕ) (rows : List Row) → Adds (files_from blocks object rows) 0 kept_in
unfolding files_from
adds_files blocks object [] = adds_done [] 0 kept_in refl
adds_files blocks object (row ∷ others) =
    adds_bind _ _ 0 kept_by kept_in (adds_some row.entry.first _ 0 kept_by refl (λ block. adds_chain blocks object row.block block))
    (λ versions. adds_bind _ _ (kept_by versions) (λ rest. kept_in rest + kept_by versions) kept_in
    (adds_after (files_from blocks (suc object) others) (kept_by versions) kept_in (adds_files blocks (suc object) others))
    (λ rest. adds_done _ (kept_in rest + kept_by versions) kept_in (kept_first (record { entry = row.entry; versions = versions }) rest)))

-- ---- members

pub kept_longer : (versions : List LaidVersion) (version : LaidVersion) → kept_by (versions ++ version ∷ []) ≡ kept_by versions + own_pages version
kept_longer versions version = sum_by_push own_pages versions version

abbrev last_at : ℕ → List LaidFile → Option LaidVersion
last_at i files = option_and_then (λ file. last_laid file.versions) (slice_get files i)

pub kept_with : (i : ℕ) (version last : LaidVersion) (files : List LaidFile) → last_at i files ≡ Some last → kept_in (with_version_at i version files) ≡ kept_in files + own_pages version
kept_with i version last [] e = absurd cc
kept_with zero version last (file ∷ others) e =
    Prim.omega (arith, kept_longer file.versions version, kept_first file others, kept_first (longer version file) others)
kept_with (suc i) version last (file ∷ others) e =
    Prim.omega (arith, kept_with i version last others e, kept_first file others, kept_first file (with_version_at i version others))

last_at_place : (object : ℕ) (files : List LaidFile) (last : LaidVersion) → last_in object files ≡ Some last → last_at (object - 1) files ≡ Some last
last_at_place object files last e = of (object == 0) e
  where
    of : (b : Bool) → cond b None (last_at (object - 1) files) ≡ Some last → last_at (object - 1) files ≡ Some last
    of true h = absurd cc
    of false h = h

module _ (blocks : Blocks) where
  pub adds_linked : (namer : ℕ) (member : MemberValue) (last : LaidVersion) (files : List LaidFile) → last_in member.object files ≡ Some last
      → Adds (version_linked blocks namer member last files) (kept_in files) kept_in
  unfolding version_linked
  adds_linked namer member last files e =
      adds_if (last.block == member.block) _ _ (kept_in files) kept_in (λ _. adds_done files (kept_in files) kept_in refl)
      (λ _. adds_bind _ _ (kept_in files) (λ version. own_pages version + kept_in files) kept_in
      (adds_after (version_at blocks member.object namer member.block (Some last)) (kept_in files) own_pages (adds_version blocks member.object namer member.block (Some last)))
      (λ version. adds_bind _ _ (own_pages version + kept_in files) (λ _. own_pages version + kept_in files) kept_in
      (adds_check (is_none version.commit && names_none version) member.block Member (own_pages version + kept_in files))
      (λ _. adds_done (with_version_at (member.object - 1) version files) (own_pages version + kept_in files) kept_in
      (Prim.omega (arith, kept_with (member.object - 1) version last files (last_at_place member.object files last e))))))

  abbrev total : Linked → ℕ
  total linked = kept_in linked.files

  adds_member : (top : Top) (member : MemberValue) (linked : Linked) (last : Option LaidVersion) → last_in member.object linked.files ≡ last
      → Adds (member_linked blocks top member linked last) (total linked) total
  unfolding member_linked
  adds_member top member linked None e = adds_refuse top.version.block Member (total linked) total
  adds_member top member linked (Some last) e =
      adds_bind _ _ (total linked) (λ _. total linked) total (adds_check _ top.version.block Member (total linked))
      (λ _. adds_bind _ _ (total linked) kept_in total (adds_linked top.version.block member last linked.files e)
      (λ files. adds_done _ (kept_in files) total refl))

  adds_members : (top : Top) (members : List MemberValue) (linked : Linked) → Adds (members_linked blocks top members linked) (total linked) total
  unfolding members_linked
  adds_members top [] linked = adds_done _ (total linked) total refl
  adds_members top (member ∷ others) linked =
      adds_bind _ _ (total linked) total total (adds_member top member linked (last_in member.object linked.files) refl) (λ next. adds_members top others next)

  adds_tops : (tops : List Top) (linked : Linked) → Adds (tops_linked blocks tops linked) (total linked) total
  unfolding tops_linked
  adds_tops [] linked = adds_done linked (total linked) total refl
  adds_tops (top ∷ others) linked =
      adds_bind _ _ (total linked) total total (adds_members top top.version.members linked) (λ next. adds_tops others next)

-- ---- the whole store

-- how many places a store has
abbrev pub places_in : LaidStore → ℕ
places_in store = parts_in store.root + kept_in store.files

swap : (m n : ℕ) → m + n ≡ n + m
swap m n = Prim.omega arith

pub adds_walk : (blocks : Blocks) (root : RootValue) → Adds (walk_from blocks root) 0 places_in
unfolding walk_from
adds_walk blocks root =
    adds_bind _ _ 0 (λ _. parts_in root) places_in (adds_rows blocks root)
    (λ rows. adds_bind _ _ (parts_in root) (λ files. kept_in files + parts_in root) places_in
    (adds_after (files_from blocks 1 rows) (parts_in root) kept_in (adds_files blocks 1 rows))
    (λ files. adds_bind _ _ (kept_in files + parts_in root) (λ linked. kept_in linked.files + parts_in root) places_in
    (adds_more (tops_linked blocks (tops_from 1 files) (record { files = files; named = [] })) (kept_in files) (parts_in root) (λ linked. kept_in linked.files)
    (adds_tops blocks (tops_from 1 files) (record { files = files; named = [] })))
    (λ linked. adds_done _ (kept_in linked.files + parts_in root) places_in (swap (kept_in linked.files) (parts_in root)))))
