-- The versions of each file that is found make a line: how this goes on while the store is read.
use Rattle.std.proofs.Common.{◌≡◌, ◌≢◌, ◌⊎◌, inl, inr, ℕ, zero, suc, ◌+◌, ◌-◌, ◌<◌, Bool, true, false, cond, nat_eq, List, [], ◌∷◌, ◌++◌, map, length, length-append, append_assoc, Option, Some, None, option_map, Ok, refl, sym, ap, subst, ◌∙◌, arith, slice_get, eqb-true}
use Rattle.std.specs.Option.{is_none}
use Rattle.std.specs.Cmp.{first_so}
use Rattle.std.proofs.lemmas.Bool.{eqb-false}
use Rattle.std.proofs.lemmas.List.{length-map, map-append}
use Rattle.std.proofs.lemmas.Option.{slice_get-map}
use Rattle.tree_model.proofs.Paths.{told, same_is}
use Rattle.page_codec.specs.Values.{PageValue, MemberValue}
use Rattle.page_places.specs.Places.{Store, Holds, block_at, same}
use Rattle.store_model.specs.Walk.{bind, done, if_some}
use Rattle.store_model.specs.Laid.{Node, LaidVersion, LaidFile, page_in, last_laid}
use Rattle.store_model.specs.Chains.{version_at, chain_from, chain_at}
use Rattle.store_model.specs.Tables.{Row, files_from}
use Rattle.store_model.specs.Members.{Top, Linked, longer, names_none, members_linked, tops_linked, tops_from}
use Rattle.store_model.specs.Found.{LaidStore, laid, version_in}
use Rattle.store_model.specs.Laws.{pages_of}
use Rattle.store_model.specs.Changes.{changed_at}
use Rattle.store_model.specs.VersionPages.{AreShared}
use Rattle.store_model.proofs.PlaceLists.{IsIn, in_right, in_along, none_in}
use Rattle.store_model.proofs.Steps.{Content, blocks_of, InRange, in_range, Ran, Passed, passed, same_value, same_places}
use Rattle.store_model.proofs.Locality.{framed_version, framed_files}
use Rattle.store_model.proofs.Rewriting.{VersionRead, version_read}
use Rattle.store_model.proofs.Chaining.{Ended, Onward}
use Rattle.store_model.proofs.Lying.{Each}
use Rattle.store_model.proofs.Held.{Lies, lies_held}
use Rattle.store_model.proofs.Edits.{some_is, none_some, changed_same, changed_other, get_past, within, last_past}
use Rattle.store_model.proofs.SharedPages.{shared_pages}
use Rattle.store_model.proofs.LastVersions.{last_names_none}
use Rattle.store_model.proofs.Linking.{InFile, in_file, MemberRan, member_step}
use Rattle.store_model.proofs.Aside.{member_run}
use Rattle.store_model.proofs.Stores.{Parts, parts_of, unlinked}
use Rattle.store_changes.proofs.Again.{chain_split, version_lies}
use Rattle.store_changes.proofs.Entries.{here_from, filed, Filed, files_step, no_files}
use Rattle.store_changes.proofs.Reached.{Placed, placed_first, placed_next, zero_told, zero_stays, first_is}
use Rattle.prune_sweep.specs.Line.{IsPageBefore, IsHeldAt, IsLine}
use Rattle.prune_sweep.proofs.Lines.{slot_is, child_at}
use Rattle.prune_sweep.proofs.LongerLines.{Extends, get_either, line_more, line_none}
use Rattle.prune_sweep.proofs.OwnSlots.{SlotsName, OwnNames, version_names}

-- the blocks of versions, the oldest first
abbrev pub blocks_of_versions : List LaidVersion → List ℕ
blocks_of_versions versions = map (λ (version : LaidVersion). version.block) versions

-- The versions lie in their blocks, each page in a place that was found, and they make a line; and each that names a next one names the one behind
-- it.
pub record Standing (c : Content) (count : ℕ) (vs : List LaidVersion) (seen : List ℕ) : Type 0 where
  pub line : IsLine (pages_of c) count (blocks_of_versions vs)
  pub lies : (j : ℕ) (v : LaidVersion) → slice_get vs j ≡ Some v → Lies (pages_of c) v
  pub placed : (j : ℕ) (v : LaidVersion) → slice_get vs j ≡ Some v → Placed count [] v seen
  pub links : (j : ℕ) (v w : LaidVersion) → slice_get vs j ≡ Some v → slice_get vs (suc j) ≡ Some w → v.commit ≢ None → v.commit ≡ Some w.block

-- a version in a block of the list
pub record InBlock (vs : List LaidVersion) (i root : ℕ) : Type 0 where
  pub version : LaidVersion
  pub listed : slice_get vs i ≡ Some version
  pub is : version.block ≡ root

pub in_block : (vs : List LaidVersion) (i root : ℕ) → slice_get (blocks_of_versions vs) i ≡ Some root → InBlock vs i root
in_block vs i root e = of (slice_get vs i) refl (sym (slice_get-map (λ (v : LaidVersion). v.block) vs i) ∙ e)
  where
    of : (o : Option LaidVersion) → slice_get vs i ≡ o → option_map (λ (v : LaidVersion). v.block) o ≡ Some root → InBlock vs i root
    of None is h = none_some h
    of (Some v) is h = record { version = v; listed = is; is = some_is h }

pub block_there : (vs : List LaidVersion) (i : ℕ) (v : LaidVersion) → slice_get vs i ≡ Some v → slice_get (blocks_of_versions vs) i ≡ Some v.block
block_there vs i v at = slice_get-map (λ (x : LaidVersion). x.block) vs i ∙ ap (option_map (λ (x : LaidVersion). x.block)) at

placed_wider : (count : ℕ) (start : List ℕ) (u : LaidVersion) (mid all : List ℕ) → ((n : ℕ) → IsIn mid n → IsIn all n) → Placed count start u mid
    → Placed count start u all
placed_wider count start u mid all more p =
    record { more = λ n h. more n (p.more n h); kept = λ q b at. more b (p.kept q b at); off = p.off; ranged = p.ranged; one = p.one }

placed_alone : (count : ℕ) (start : List ℕ) (u : LaidVersion) (mid : List ℕ) → Placed count start u mid → Placed count [] u mid
placed_alone count start u mid p =
    record { more = λ n h. absurd (none_in n h); kept = p.kept; off = λ q b at h. none_in b h; ranged = p.ranged; one = p.one }

wider : (c : Content) (count : ℕ) (vs : List LaidVersion) (mid all : List ℕ) → ((n : ℕ) → IsIn mid n → IsIn all n) → Standing c count vs mid
    → Standing c count vs all
wider c count vs mid all more s =
    record { line = s.line; lies = s.lies; placed = λ j v at. placed_wider count [] v mid all more (s.placed j v at); links = s.links }

none_stand : (c : Content) (count : ℕ) (seen : List ℕ) → Standing c count [] seen
none_stand c count seen =
    record {
      line = line_none (pages_of c) count;
      lies = λ j v at. none_some at;
      placed = λ j v at. none_some at;
      links = λ j v w at. none_some at;
    }

-- a page of the versions lies in a place that was found
pub page_seen : (c : Content) (count : ℕ) (vs : List LaidVersion) (seen : List ℕ) → Standing c count vs seen
    → (m n : ℕ) → IsPageBefore (pages_of c) (blocks_of_versions vs) m n → IsIn seen n
page_seen c count vs seen s m n h =
    let b : InBlock vs h.0 h.1 = in_block vs h.0 h.1 h.3 in
    (s.placed h.0 b.version b.listed).kept h.4.0 n
    ((s.lies h.0 b.version b.listed).lie h.4.0 ∙ ap (λ r. block_at (pages_of c) r h.4.0) b.is ∙ h.4.1)

-- ---- one more version

-- one more version stands behind those that do
behind : (c : Content) (count : ℕ) (vs : List LaidVersion) (seen : List ℕ) (u : LaidVersion) (all : List ℕ) → Standing c count vs seen
    → ((n : ℕ) → IsIn seen n → IsIn all n) → Extends (pages_of c) count (blocks_of_versions vs) u.block → Lies (pages_of c) u → Placed count [] u all
    → ((j : ℕ) (v : LaidVersion) → suc j ≡ length vs → slice_get vs j ≡ Some v → v.commit ≢ None → v.commit ≡ Some u.block)
    → Standing c count (vs ++ u ∷ []) all
behind c count vs seen u all s more extends lies placed links =
    record {
      line = subst (IsLine (pages_of c) count) (sym (map-append (λ (v : LaidVersion). v.block) vs (u ∷ [])))
          (line_more (pages_of c) count (blocks_of_versions vs) u.block s.line extends);
      lies = λ j v at. elim (get_either vs u j v at) [ inl new ↦ subst (Lies (pages_of c)) new.1 lies | inr old ↦ s.lies j v old ];
      placed = λ j v at. elim (get_either vs u j v at) [
        | inl new ↦ subst (λ w. Placed count [] w all) new.1 placed
        | inr old ↦ placed_wider count [] v seen all more (s.placed j v old)
      ];
      links = λ j v w at after. elim (get_either vs u (suc j) w after) [
        | inl new ↦ λ names.
            let last : suc j ≡ length vs = new.0 in
            elim (get_either vs u j v at) [
              | inl odd ↦ let e : j ≡ length vs = odd.0 in absurd (omega (arith, e, last))
              | inr old ↦ links j v last old names ∙ ap (λ (x : LaidVersion). Some x.block) new.1
            ]
        | inr next ↦ elim (get_either vs u j v at) [
          | inl odd ↦ let e : j ≡ length vs = odd.0 in let low : suc j < length vs = within vs (suc j) w next in absurd (omega (arith, e, low))
          | inr old ↦ s.links j v w old next
        ]
      ];
    }

held_of : (c : Content) (count : ℕ) (u : LaidVersion) (all : List ℕ) → Lies (pages_of c) u → Placed count [] u all
    → (p : List ℕ) (n : ℕ) → block_at (pages_of c) u.block p ≡ Some n → IsHeldAt (pages_of c) count p n
held_of c count u all lies placed p n at =
    let h : Holds (pages_of c) u.block (version_in u).tree = lies_held (pages_of c) u lies in
    let page = h.page p n at in
    record { below = (in_range count n (placed.ranged p n (lies.lie p ∙ at))).1; page = page.0; holds = page.1; level = page.3 }

one_of : (c : Content) (count : ℕ) (u : LaidVersion) (all : List ℕ) → Lies (pages_of c) u → Placed count [] u all
    → (p q : List ℕ) (n : ℕ) → block_at (pages_of c) u.block p ≡ Some n → block_at (pages_of c) u.block q ≡ Some n → p ≡ q
one_of c count u all lies placed p q n x y = placed.one p q n (lies.lie p ∙ x) (lies.lie q ∙ y)

grown_by : (c : Content) (count object namer block : ℕ) (before : Option LaidVersion) (seen : List ℕ) (u : LaidVersion) (all : List ℕ)
    → version_at (blocks_of c count) object namer block before seen ≡ Ok (u, all) → (n : ℕ) → IsIn seen n → IsIn all n
grown_by c count object namer block before seen u all e n h =
    let r : Ran c c (InRange count) (version_at (blocks_of c count) object namer block before) seen u all =
    (framed_version c c count object namer block before).runs seen u all e in
    in_along (r.new ++ seen) all (sym r.grown) n (in_right r.new seen n h)

pub first_stands : (c : Content) (count object namer block : ℕ) (seen : List ℕ) (u : LaidVersion) (all : List ℕ)
    → version_at (blocks_of c count) object namer block None seen ≡ Ok (u, all) → Standing c count (u ∷ []) all
first_stands c count object namer block seen u all e =
    let lies : Lies (pages_of c) u = version_lies c count object namer block None tt seen u all e in
    let placed : Placed count [] u all = placed_alone count seen u all (placed_first c count object namer block seen u all e) in
    behind c count [] seen u all (none_stand c count seen) (grown_by c count object namer block None seen u all e)
    (record {
      held = held_of c count u all lies placed;
      one = one_of c count u all lies placed;
      begins = λ h. none_some h.3;
      copies = λ p n page s reference x lies new holds at names copied h. none_some h.3;
      shares = λ i last p n page s reference x at. none_some at;
    })
    lies placed (λ j v last at. none_some at)

-- the page that is found at a path is one of these, and is at the path
record FoundIn (P : Node → Type 0) (p : List ℕ) (node : Node) : Type 0 where
  has : P node
  at : p ≡ node.path

found_in : (P : Node → Type 0) (p : List ℕ) (nodes : List Node) (node : Node) → Each P nodes → page_in p nodes ≡ Some node → FoundIn P p node
found_in P p [] node each e = none_some e
found_in P p (x ∷ xs) node each e = of (same p x.path) refl e (found_in P p xs node each.1)
  where
    of : (b : Bool) → same p x.path ≡ b → cond b (Some x) (page_in p xs) ≡ Some node → (page_in p xs ≡ Some node → FoundIn P p node)
        → FoundIn P p node
    of true is h rest =
        let same_one : x ≡ node = some_is h in
        record { has = subst P same_one each.0; at = same_is p x.path is ∙ ap (λ (n : Node). n.path) same_one }
    of false is h rest = rest h

-- a page of a later version: its slots name what those of a page of its own do, or the version before has it there
own_or_shared : (c : Content) (v u : LaidVersion) (seen : List ℕ) → Lies (pages_of c) v → Lies (pages_of c) u
    → Each (OwnNames (pages_of c) v.nodes seen) u.nodes
    → AreShared v.nodes u.nodes → (p : List ℕ) (n : ℕ) (page : PageValue) → block_at (pages_of c) u.block p ≡ Some n → pages_of c n ≡ Some page
    → SlotsName v.nodes seen p 0 page.refs ⊎ (block_at (pages_of c) v.block p ≡ Some n)
own_or_shared c v u seen v_lies u_lies names shared p n page at holds = of (page_in p u.nodes) refl (u_lies.lie p ∙ at)
  where
    by : (node : Node) → page_in p u.nodes ≡ Some node → node.block ≡ n → (node.is_own ≡ true) ⊎ (node.is_own ≡ false)
        → SlotsName v.nodes seen p 0 page.refs ⊎ (block_at (pages_of c) v.block p ≡ Some n)
    by node is here (inl own) =
        let f : FoundIn (OwnNames (pages_of c) v.nodes seen) p node = found_in (OwnNames (pages_of c) v.nodes seen) p u.nodes node names is in
        inl (subst (λ q. SlotsName v.nodes seen q 0 page.refs) (sym f.at) (f.has own page (ap (pages_of c) here ∙ holds)))
    by node is here (inr other) = inr (sym (v_lies.lie p) ∙ shared p node is other ∙ ap Some here)

    of : (o : Option Node) → page_in p u.nodes ≡ o → option_map (λ (node : Node). node.block) o ≡ Some n
        → SlotsName v.nodes seen p 0 page.refs ⊎ (block_at (pages_of c) v.block p ≡ Some n)
    of None is h = none_some h
    of (Some node) is h = by node is (some_is h) (told node.is_own)

pub next_stands : (c : Content) (count object namer block : ℕ) (vs : List LaidVersion) (seen : List ℕ) (v u : LaidVersion) (all : List ℕ) (j : ℕ)
    → Standing c count vs seen → slice_get vs j ≡ Some v → suc j ≡ length vs
    → version_at (blocks_of c count) object namer block (Some v) seen ≡ Ok (u, all) → (v.commit ≢ None → v.commit ≡ Some block)
    → Standing c count (vs ++ u ∷ []) all
next_stands c count object namer block vs seen v u all j s at last e link =
    let S : Store = pages_of c in
    let r : VersionRead c count object block (Some v) seen u all = version_read c count object namer block (Some v) seen u all e in
    let block_is : u.block ≡ block = ap (λ (w : LaidVersion). w.block) r.made in
    let v_lies : Lies S v = s.lies j v at in
    let lies : Lies S u = version_lies c count object namer block (Some v) v_lies seen u all e in
    let placed : Placed count [] u all = placed_next c count object namer block [] v seen u all (s.placed j v at) e in
    let names : Each (OwnNames S v.nodes seen) u.nodes = version_names c count object namer block v seen u all e in
    let shared : AreShared v.nodes u.nodes =
    subst (λ (w : LaidVersion). AreShared v.nodes w.nodes) (sym r.made)
    (shared_pages (blocks_of c count) v.nodes block r.page.page (record { flags = r.page.root; block = Some block })
    (block ∷ seen) r.others all r.below) in
    let size : length (blocks_of_versions vs) ≡ length vs = length-map vs (λ (w : LaidVersion). w.block) in
    let low : j < length (blocks_of_versions vs) = omega (arith, last, size) in
    behind c count vs seen u all s (grown_by c count object namer block (Some v) seen u all e)
    (record {
      held = held_of c count u all lies placed;
      one = one_of c count u all lies placed;
      begins = λ h. r.fresh (subst (IsIn seen) block_is (page_seen c count vs seen s (length (blocks_of_versions vs)) u.block h));
      copies = λ p n page k reference x lie new holds slot block_named copied h.
          elim (own_or_shared c v u seen v_lies lies names shared p n page lie holds) [
            | inl own ↦ own.copies k reference x slot block_named copied (page_seen c count vs seen s (length (blocks_of_versions vs)) x h)
            | inr same ↦ new (j, v.block, low, block_there vs j v at, (p, same))
          ];
      shares = λ i root p n page k reference x here end lie holds slot block_named plain.
          let at_j : i ≡ j = omega (arith, end, last, size) in
          let root_is : v.block ≡ root = some_is (sym (block_there vs j v at) ∙ ap (slice_get (blocks_of_versions vs)) (sym at_j) ∙ here) in
          subst (λ b. block_at S b (p ++ k ∷ []) ≡ Some x) root_is
          (elim (own_or_shared c v u seen v_lies lies names shared p n page lie holds) [
            | inl own ↦ sym (v_lies.lie (p ++ k ∷ [])) ∙ own.shares k k reference x (omega arith) slot block_named plain
            | inr same ↦ child_at S v.block p n k page x same holds (slot_is page k x reference slot block_named)
          ]);
    })
    lies placed (λ i w end there names.
    let at_j : i ≡ j = omega (arith, end, last) in
    let one : v ≡ w = some_is (sym at ∙ ap (slice_get vs) (sym at_j) ∙ there) in
    ap (λ (x : LaidVersion). x.commit) (sym one) ∙ link (λ none. names (ap (λ (x : LaidVersion). x.commit) (sym one) ∙ none))
    ∙ ap Some (sym block_is))

-- ---- a chain

pub chain_stands : (c : Content) (count object most : ℕ) (past : List LaidVersion) (v : LaidVersion) (mid : List ℕ) (vs : List LaidVersion)
    (all : List ℕ)
    → Standing c count (past ++ v ∷ []) mid → chain_from (blocks_of c count) object most v mid ≡ Ok (vs, all) → Standing c count (past ++ vs) all
chain_stands c count object zero past v mid vs all s goes =
    subst (λ l. Standing c count (past ++ l) all) (sym (zero_told c count object v mid vs all goes))
    (subst (Standing c count (past ++ v ∷ [])) (zero_stays c count object v mid vs all goes) s)
chain_stands c count object (suc most) past v mid vs all s goes =
    by (λ next to rest stands g. chain_stands c count object most (past ++ v ∷ []) next to rest all stands g)
    (chain_split c count object most v mid vs all goes)
  where
    by : ((next : LaidVersion) (to : List ℕ) (rest : List LaidVersion) → Standing c count ((past ++ v ∷ []) ++ next ∷ []) to
        → chain_from (blocks_of c count) object most next to ≡ Ok (rest, all) → Standing c count ((past ++ v ∷ []) ++ rest) all)
        → Ended v mid vs all ⊎ Onward c count object most v mid vs all → Standing c count (past ++ vs) all
    by go (inl x) = subst (λ l. Standing c count (past ++ l) all) (sym x.list) (subst (Standing c count (past ++ v ∷ [])) (sym x.stays) s)
    by go (inr x) =
        let size : length (past ++ v ∷ []) ≡ length past + 1 = length-append past (v ∷ []) in
        let last : suc (length past) ≡ length (past ++ v ∷ []) = omega (arith, size) in
        subst (λ l. Standing c count l all) (append_assoc past (v ∷ []) x.rest ∙ ap (λ l. past ++ l) (sym x.list))
        (go x.next x.mid x.rest
        (next_stands c count object v.block x.block (past ++ v ∷ []) mid v x.next x.mid (length past) s (get_past past v) last x.read
        (λ _. x.commit)) x.goes)

here_stands : (c : Content) (count object : ℕ) (row : Row) (seen : List ℕ) (vs : List LaidVersion) (all : List ℕ)
    → here_from c count object row seen ≡ Ok (vs, all)
    → Standing c count vs all
unfolding if_some done chain_at bind
here_stands c count object row seen vs all e = of row.entry.first e
  where
    of : (o : Option ℕ) → if_some o (λ block. chain_at (blocks_of c count) object row.block block) seen ≡ Ok (vs, all) → Standing c count vs all
    of None h = subst (λ l. Standing c count l all) (same_value seen all [] vs h) (none_stand c count all)
    of (Some b) h =
        let p : Passed (version_at (blocks_of c count) object row.block b None seen) (chain_from (blocks_of c count) object count) vs all =
        passed (version_at (blocks_of c count) object row.block b None seen) (chain_from (blocks_of c count) object count) vs all h in
        chain_stands c count object count [] p.value p.places vs all (first_stands c count object row.block b seen p.value p.places p.first) p.second

-- ---- the files

-- the versions of each file stand, the last one names none, and the table names the block of the first
pub record FilesStand (c : Content) (count : ℕ) (files : List LaidFile) (seen : List ℕ) : Type 0 where
  pub each : (k : ℕ) (file : LaidFile) → slice_get files k ≡ Some file → Standing c count file.versions seen
  pub lasts : (k : ℕ) (file : LaidFile) (v : LaidVersion) → slice_get files k ≡ Some file → last_laid file.versions ≡ Some v → v.commit ≡ None
  pub firsts : (k : ℕ) (file : LaidFile) (v : LaidVersion) → slice_get files k ≡ Some file → slice_get file.versions 0 ≡ Some v
      → file.entry.first ≡ Some v.block

table_stands : (c : Content) (count object : ℕ) (rows : List Row) (seen : List ℕ) (files : List LaidFile) (all : List ℕ)
    → files_from (blocks_of c count) object rows seen ≡ Ok (files, all) → (k : ℕ) (file : LaidFile) → slice_get files k ≡ Some file
    → Standing c count file.versions all
table_stands c count object [] seen files all e k file at = none_some (ap (λ l. slice_get l k) (no_files c count object seen files all e) ∙ at)
table_stands c count object (row ∷ rows) seen files all e zero file at =
    let f : Filed c count object row rows seen files all = files_step c count object row rows seen files all e in
    let is : filed row f.versions ≡ file = some_is (ap (λ l. slice_get l 0) (sym f.list) ∙ at) in
    let r : Ran c c (InRange count) (files_from (blocks_of c count) (suc object) rows) f.mid f.rest all =
    (framed_files c c count (suc object) rows).runs f.mid f.rest all f.goes in
    subst (λ (x : LaidFile). Standing c count x.versions all) is
    (wider c count f.versions f.mid all (λ n h. in_along (r.new ++ f.mid) all (sym r.grown) n (in_right r.new f.mid n h))
    (here_stands c count object row seen f.versions f.mid f.here))
table_stands c count object (row ∷ rows) seen files all e (suc k) file at =
    let f : Filed c count object row rows seen files all = files_step c count object row rows seen files all e in
    table_stands c count (suc object) rows f.mid f.rest all f.goes k file (ap (λ l. slice_get l (suc k)) (sym f.list) ∙ at)

here_first : (c : Content) (count object : ℕ) (row : Row) (seen : List ℕ) (vs : List LaidVersion) (all : List ℕ) → here_from c count object row seen ≡ Ok (vs, all)
    → (v : LaidVersion) → slice_get vs 0 ≡ Some v → row.entry.first ≡ Some v.block
unfolding if_some done chain_at bind
here_first c count object row seen vs all e v at = of row.entry.first e
  where
    of : (o : Option ℕ) → if_some o (λ block. chain_at (blocks_of c count) object row.block block) seen ≡ Ok (vs, all) → o ≡ Some v.block
    of None h = none_some (ap (λ l. slice_get l 0) (same_value seen all [] vs h) ∙ at)
    of (Some b) h =
        let p : Passed (version_at (blocks_of c count) object row.block b None seen) (chain_from (blocks_of c count) object count) vs all =
        passed (version_at (blocks_of c count) object row.block b None seen) (chain_from (blocks_of c count) object count) vs all h in
        let r : VersionRead c count object b None seen p.value p.places = version_read c count object row.block b None seen p.value p.places p.first in
        let one : p.value ≡ v = some_is (sym (first_is c count object count p.value p.places vs all p.second) ∙ at) in
        ap Some (sym (ap (λ (w : LaidVersion). w.block) (sym one) ∙ ap (λ (w : LaidVersion). w.block) r.made))

table_first : (c : Content) (count object : ℕ) (rows : List Row) (seen : List ℕ) (files : List LaidFile) (all : List ℕ)
    → files_from (blocks_of c count) object rows seen ≡ Ok (files, all) → (k : ℕ) (file : LaidFile) (v : LaidVersion)
    → slice_get files k ≡ Some file → slice_get file.versions 0 ≡ Some v → file.entry.first ≡ Some v.block
table_first c count object [] seen files all e k file v at first = none_some (ap (λ l. slice_get l k) (no_files c count object seen files all e) ∙ at)
table_first c count object (row ∷ rows) seen files all e zero file v at first =
    let f : Filed c count object row rows seen files all = files_step c count object row rows seen files all e in
    let is : filed row f.versions ≡ file = some_is (ap (λ l. slice_get l 0) (sym f.list) ∙ at) in
    ap (λ (x : LaidFile). x.entry.first) (sym is)
    ∙ here_first c count object row seen f.versions f.mid f.here v (ap (λ (x : LaidFile). slice_get x.versions 0) is ∙ first)
table_first c count object (row ∷ rows) seen files all e (suc k) file v at first =
    let f : Filed c count object row rows seen files all = files_step c count object row rows seen files all e in
    table_first c count (suc object) rows f.mid f.rest all f.goes k file v (ap (λ l. slice_get l (suc k)) (sym f.list) ∙ at) first

is_nil : (o : Option ℕ) → is_none o ≡ true → o ≡ None
is_nil None h = refl
is_nil (Some x) h = absurd cc

longer_stands : (c : Content) (count : ℕ) (files : List LaidFile) (seen all : List ℕ) (n : ℕ) (file : LaidFile) (version : LaidVersion)
    → FilesStand c count files seen
    → ((m : ℕ) → IsIn seen m → IsIn all m) → slice_get files n ≡ Some file → (last : LaidVersion) → last_laid file.versions ≡ Some last
    → Standing c count (file.versions ++ version ∷ []) all → version.commit ≡ None → FilesStand c count (changed_at (longer version) n files) all
longer_stands c count files seen all n file version stand more here last last_is stands nil =
    record {
      each = λ k other at. elim (place k other at) [
        | inl x ↦ subst (λ (y : LaidFile). Standing c count y.versions all) x stands
        | inr x ↦ wider c count other.versions seen all more (stand.each k other x)
      ];
      lasts = λ k other v at is. elim (place k other at) [
        | inl x ↦
            let one : version ≡ v = some_is (sym (last_past file.versions version) ∙ ap (λ (y : LaidFile). last_laid y.versions) x ∙ is) in
            ap (λ (w : LaidVersion). w.commit) (sym one) ∙ nil
        | inr x ↦ stand.lasts k other v x is
      ];
      firsts = λ k other v at is. elim (place k other at) [
        | inl x ↦
            elim (get_either file.versions version 0 v (ap (λ (y : LaidFile). slice_get y.versions 0) x ∙ is)) [
              | inl none ↦
                  let low : length file.versions - 1 < length file.versions = within file.versions (length file.versions - 1) last last_is in
                  let e : 0 ≡ length file.versions = none.0 in
                  absurd (omega (arith, low, e))
              | inr old ↦ ap (λ (y : LaidFile). y.entry.first) (sym x) ∙ stand.firsts n file v here old
            ]
        | inr x ↦ stand.firsts k other v x is
      ];
    }
  where
    place : (k : ℕ) (other : LaidFile) → slice_get (changed_at (longer version) n files) k ≡ Some other
        → (longer version file ≡ other) ⊎ (slice_get files k ≡ Some other)
    place k other at =
        elim (told (nat_eq k n)) [
          | inl t ↦
              let same : k ≡ n = eqb-true k n t in
              inl (some_is (sym (changed_same (longer version) n files file here) ∙ ap (slice_get (changed_at (longer version) n files)) (sym same) ∙ at))
          | inr f ↦ inr (sym (changed_other (longer version) n k files (eqb-false k n f)) ∙ at)
        ]

last_place : (vs : List LaidVersion) (v : LaidVersion) → last_laid vs ≡ Some v → suc (length vs - 1) ≡ length vs
last_place vs v is = let low : length vs - 1 < length vs = within vs (length vs - 1) v is in omega (arith, low)

member_stands : (c : Content) (count : ℕ) (top : Top) (member : MemberValue) (linked : Linked) (seen : List ℕ) (after : Linked) (all : List ℕ)
    → FilesStand c count linked.files seen → MemberRan c count top member linked seen after all → FilesStand c count after.files all
member_stands c count top member linked seen after all stand r = elim r.how [
  | inl x ↦ subst (λ l. FilesStand c count l all) (sym x.keeps) (subst (FilesStand c count linked.files) (sym x.stays) stand)
  | inr x ↦
      let f : InFile member.object linked.files r.last = in_file member.object linked.files r.last r.is in
      let k : ℕ = member.object - 1 in
      let nil : r.last.commit ≡ None = stand.lasts k f.file r.last f.listed f.is in
      let stands : Standing c count (f.file.versions ++ x.version ∷ []) all =
      next_stands c count member.object top.version.block member.block f.file.versions seen r.last x.version all (length f.file.versions - 1)
      (stand.each k f.file f.listed) f.is (last_place f.file.versions r.last f.is) x.read (λ names. absurd (names nil)) in
      subst (λ l. FilesStand c count l all) (sym x.extends)
      (longer_stands c count linked.files seen all k f.file x.version stand
      (grown_by c count member.object top.version.block member.block (Some r.last) seen x.version all x.read) f.listed r.last f.is stands
      (is_nil x.version.commit (first_so (is_none x.version.commit) (names_none x.version) x.ends)))
]

members_stand : (c : Content) (count : ℕ) (top : Top) (members : List MemberValue) (linked : Linked) (seen : List ℕ) (after : Linked) (all : List ℕ)
    → FilesStand c count linked.files seen → members_linked (blocks_of c count) top members linked seen ≡ Ok (after, all)
    → FilesStand c count after.files all
unfolding members_linked bind done
members_stand c count top [] linked seen after all stand e =
    subst (λ (l : Linked). FilesStand c count l.files all) (same_value seen all (record linked { named = top.object ∷ linked.named }) after e)
    (subst (FilesStand c count linked.files) (same_places seen all (record linked { named = top.object ∷ linked.named }) after e) stand)
members_stand c count top (member ∷ others) linked seen after all stand e =
    let p : Passed (member_run c count top member linked seen) (members_linked (blocks_of c count) top others) after all =
    passed (member_run c count top member linked seen) (members_linked (blocks_of c count) top others) after all e in
    members_stand c count top others p.value p.places after all
    (member_stands c count top member linked seen p.value p.places stand (member_step c count top member linked seen p.value p.places p.first))
    p.second

tops_stand : (c : Content) (count : ℕ) (tops : List Top) (linked : Linked) (seen : List ℕ) (after : Linked) (all : List ℕ)
    → FilesStand c count linked.files seen → tops_linked (blocks_of c count) tops linked seen ≡ Ok (after, all) → FilesStand c count after.files all
unfolding tops_linked bind done
tops_stand c count [] linked seen after all stand e =
    subst (λ (l : Linked). FilesStand c count l.files all) (same_value seen all linked after e)
    (subst (FilesStand c count linked.files) (same_places seen all linked after e) stand)
tops_stand c count (top ∷ others) linked seen after all stand e =
    let p : Passed (members_linked (blocks_of c count) top top.version.members linked seen) (tops_linked (blocks_of c count) others) after all =
    passed (members_linked (blocks_of c count) top top.version.members linked seen) (tops_linked (blocks_of c count) others) after all e in
    tops_stand c count others p.value p.places after all
    (members_stand c count top top.version.members linked seen p.value p.places stand p.first) p.second

-- the files of a store that is found stand
pub files_stand : (c : Content) (most : ℕ) (store : LaidStore) (places : List ℕ) → laid c most [] ≡ Ok (store, places)
    → FilesStand c store.root.blocks store.files places
files_stand c most store places e =
    let p : Parts c most store places = parts_of c most store places e in
    subst (λ (s : LaidStore). FilesStand c s.root.blocks s.files places) (sym p.made)
    (tops_stand c p.root.blocks (tops_from 1 p.files) (unlinked p.files) p.in_files p.linked places
    (record {
      each = table_stands c p.root.blocks 1 p.rows p.in_table p.files p.in_files p.chains;
      lasts = last_names_none c p.root.blocks p.rows p.in_table p.files p.in_files p.chains;
      firsts = table_first c p.root.blocks 1 p.rows p.in_table p.files p.in_files p.chains;
    }) p.tops)
