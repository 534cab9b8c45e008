-- What a store is depends on block 0 and on the places that are found, and on no other block.
use Rattle.std.proofs.Common.{◌≡◌, ◌≤◌, append-nil, ℕ, zero, suc, ◌+◌, ◌-◌, ◌==◌, ◌&&◌, ◌||◌, true, nat_le, List, [], ◌∷◌, ◌++◌, length, Option, Some, None, Ok, sym, ap, ◌∙◌, option_map, replicate}
use Rattle.std.specs.Option.{is_none}
use Rattle.page_codec.specs.declared.why.Why.TheVariants.{Level, Reference, Object, Serial, Base, Code, Member, Blocks as TooMany}
use Rattle.page_codec.specs.Values.{ReferenceValue, VersionValue, MemberValue, RootValue}
use Rattle.page_codec.specs.Blank.{no_entry}
use Rattle.page_codec.specs.Causes.{page_of, version_of}
use Rattle.page_codec.specs.TableReading.{part_of, root_of}
use Rattle.store_model.specs.Walk.{Blocks, Walk, bind, done, content_at}
use Rattle.store_model.specs.Laid.{Node, LaidVersion, LaidFile, is_block, shared_from, lies_at}
use Rattle.store_model.specs.Pages.{page_at, own_node, Below, own_from, named_from, slot_from, slots_from, pages_below}
use Rattle.store_model.specs.Chains.{follows, has_no_members, version_at, chain_from, chain_at}
use Rattle.store_model.specs.Tables.{Row, rows_in, part_rows, parts_from, table_rows, files_from}
use Rattle.store_model.specs.Members.{Top, Linked, names_none, tops_from, last_in, with_version_at, version_linked, member_linked, members_linked, tops_linked}
use Rattle.store_model.specs.Found.{LaidStore, laid_from, laid}
use Rattle.store_model.proofs.PlaceLists.{in_along, none_in}
use Rattle.store_model.proofs.Steps.{Content, blocks_of, Agree, InRange, Ran, Framed, framed_bind, framed_weaker, framed_done, framed_refuse, framed_check, framed_decoded, framed_content, framed_some, framed_if, framed_place}

-- ---- pages

pub framed_page : (c d : Content) (count namer block level : ℕ) → Framed c d (InRange count) (page_at (blocks_of c count) namer block level) (page_at (blocks_of d count) namer block level)
unfolding page_at
framed_page c d count namer block level =
    framed_bind c d _ _ _ _ (framed_place c d count namer block)
    (λ bytes. framed_bind c d _ _ _ _ (framed_decoded c d block (page_of bytes))
    (λ page. framed_bind c d _ _ _ _ (framed_check c d (page.level == level) block Level) (λ _. framed_done c d page)))

-- what walks over the slots of each page goes alike
abbrev BelowAlike : Content → Content → ℕ → Below → Below → Type 0
BelowAlike c d count below other = (block : ℕ) (path : List ℕ) (refs : List ReferenceValue) → Framed c d (InRange count) (below block path refs) (other block path refs)

pub framed_own :
    (c d : Content) (count : ℕ) (below other : Below) → BelowAlike c d count below other
    → (namer : ℕ) (path : List ℕ) (reference : ReferenceValue) (block : ℕ)
    → Framed c d (InRange count) (own_from (blocks_of c count) below namer path reference block) (own_from (blocks_of d count) other namer path reference block)
unfolding own_from
framed_own c d count below other each namer path reference block =
    framed_bind c d _ _ _ _ (framed_page c d count namer block (length path))
    (λ page. framed_bind c d _ _ _ _ (each block path page.refs) (λ others. framed_done c d (own_node path reference block page ∷ others)))

pub framed_named :
    (c d : Content) (count : ℕ) (below other : Below) → BelowAlike c d count below other
    → (before : Option (List Node)) (namer : ℕ) (path : List ℕ) (reference : ReferenceValue) (block : ℕ)
    → Framed c d (InRange count) (named_from (blocks_of c count) below before namer path reference block) (named_from (blocks_of d count) other before namer path reference block)
unfolding named_from
framed_named c d count below other each None namer path reference block = framed_own c d count below other each namer path reference block
framed_named c d count below other each (Some before) namer path reference block =
    framed_if c d reference.flags.copied _ _ _ _ (framed_own c d count below other each namer path reference block)
    (framed_if c d (lies_at path block before) _ _ _ _ (framed_done c d (shared_from path before)) (framed_refuse c d namer Reference))

pub framed_slot :
    (c d : Content) (count : ℕ) (below other : Below) → BelowAlike c d count below other
    → (before : Option (List Node)) (namer : ℕ) (path : List ℕ) (reference : ReferenceValue) (block : Option ℕ)
    → Framed c d (InRange count) (slot_from (blocks_of c count) below before namer path reference block) (slot_from (blocks_of d count) other before namer path reference block)
unfolding slot_from
framed_slot c d count below other each before namer path reference None = framed_done c d []
framed_slot c d count below other each before namer path reference (Some block) = framed_named c d count below other each before namer path reference block

pub framed_slots :
    (c d : Content) (count : ℕ) (below other : Below) → BelowAlike c d count below other
    → (before : Option (List Node)) (namer : ℕ) (path : List ℕ) (slot : ℕ) (refs : List ReferenceValue)
    → Framed c d (InRange count) (slots_from (blocks_of c count) below before namer path slot refs) (slots_from (blocks_of d count) other before namer path slot refs)
unfolding slots_from
framed_slots c d count below other each before namer path slot [] = framed_done c d []
framed_slots c d count below other each before namer path slot (reference ∷ others) =
    framed_bind c d _ _ _ _ (framed_slot c d count below other each before namer (path ++ slot ∷ []) reference reference.block)
    (λ here. framed_bind c d _ _ _ _ (framed_slots c d count below other each before namer path (suc slot) others)
    (λ rest. framed_done c d (here ++ rest)))

pub framed_below : (c d : Content) (count : ℕ) (before : Option (List Node)) (depth : ℕ) → BelowAlike c d count (pages_below (blocks_of c count) before depth) (pages_below (blocks_of d count) before depth)
unfolding pages_below
framed_below c d count before zero = λ namer path refs. framed_done c d []
framed_below c d count before (suc depth) =
    λ namer path refs.
    framed_slots c d count (pages_below (blocks_of c count) before depth) (pages_below (blocks_of d count) before depth)
    (framed_below c d count before depth) before namer path 0 refs

-- ---- versions

pub framed_follows : {P : ℕ → Type 0} (c d : Content) (block : ℕ) (version : VersionValue) (before : Option LaidVersion) → Framed c d P (follows block version before) (follows block version before)
unfolding follows
framed_follows c d block version None = framed_done c d true
framed_follows c d block version (Some before) =
    framed_bind c d _ _ _ _ (framed_check c d (version.serial == before.serial + 1) block Serial)
    (λ _. framed_bind c d _ _ _ _ (framed_check c d (is_block before.block version.base) block Base) (λ _. framed_check c d version.root.copied block Code))

pub framed_version :
    (c d : Content) (count object namer block : ℕ) (before : Option LaidVersion)
    → Framed c d (InRange count) (version_at (blocks_of c count) object namer block before) (version_at (blocks_of d count) object namer block before)
unfolding version_at
framed_version c d count object namer block before =
    framed_bind c d _ _ _ _ (framed_place c d count namer block)
    (λ bytes. framed_bind c d _ _ _ _ (framed_decoded c d block (version_of bytes))
    (λ version. framed_bind c d _ _ _ _ (framed_check c d (version.object == object) block Object)
    (λ _. framed_bind c d _ _ _ _ (framed_follows c d block version before)
    (λ _. framed_bind c d _ _ _ _ (framed_check c d (is_none version.commit || has_no_members version) block Member)
    (λ _. framed_bind c d _ _ _ _ (framed_below c d count (option_map (λ v. v.nodes) before) 7 block [] version.page.refs)
    (λ others. framed_done c d _))))))

pub framed_chain_from :
    (c d : Content) (count object most : ℕ) (version : LaidVersion)
    → Framed c d (InRange count) (chain_from (blocks_of c count) object most version) (chain_from (blocks_of d count) object most version)
unfolding chain_from
framed_chain_from c d count object zero version = framed_done c d (version ∷ [])
framed_chain_from c d count object (suc most) version =
    framed_bind c d _ _ _ _
    (framed_some c d version.commit _ _
    (λ block. framed_bind c d _ _ _ _ (framed_version c d count object version.block block (Some version)) (framed_chain_from c d count object most)))
    (λ later. framed_done c d (version ∷ later))

pub framed_chain : (c d : Content) (count object namer block : ℕ) → Framed c d (InRange count) (chain_at (blocks_of c count) object namer block) (chain_at (blocks_of d count) object namer block)
unfolding chain_at
framed_chain c d count object namer block =
    framed_bind c d _ _ _ _ (framed_version c d count object namer block None) (framed_chain_from c d count object count)

-- ---- the table

pub framed_part : (c d : Content) (count j : ℕ) (part : Option ℕ) → Framed c d (InRange count) (part_rows (blocks_of c count) j part) (part_rows (blocks_of d count) j part)
unfolding part_rows
framed_part c d count j None = framed_done c d (rows_in 0 (replicate 63 no_entry))
framed_part c d count j (Some block) =
    framed_bind c d _ _ _ _ (framed_place c d count 0 block)
    (λ bytes. framed_bind c d _ _ _ _ (framed_decoded c d block (part_of j bytes)) (λ entries. framed_done c d (rows_in block entries)))

pub framed_parts : (c d : Content) (count j : ℕ) (parts : List (Option ℕ)) → Framed c d (InRange count) (parts_from (blocks_of c count) j parts) (parts_from (blocks_of d count) j parts)
unfolding parts_from
framed_parts c d count j [] = framed_done c d []
framed_parts c d count j (part ∷ others) =
    framed_bind c d _ _ _ _ (framed_part c d count j part)
    (λ here. framed_bind c d _ _ _ _ (framed_parts c d count (suc j) others) (λ rest. framed_done c d (here ++ rest)))

pub framed_rows : (c d : Content) (count : ℕ) (root : RootValue) → Framed c d (InRange count) (table_rows (blocks_of c count) root) (table_rows (blocks_of d count) root)
unfolding table_rows
framed_rows c d count root = framed_if c d (root.format == 1) _ _ _ _ (framed_done c d (rows_in 0 root.first)) (framed_parts c d count 0 root.parts)

pub framed_files : (c d : Content) (count object : ℕ) (rows : List Row) → Framed c d (InRange count) (files_from (blocks_of c count) object rows) (files_from (blocks_of d count) object rows)
unfolding files_from
framed_files c d count object [] = framed_done c d []
framed_files c d count object (row ∷ others) =
    framed_bind c d _ _ _ _ (framed_some c d row.entry.first _ _ (λ block. framed_chain c d count object row.block block))
    (λ versions. framed_bind c d _ _ _ _ (framed_files c d count (suc object) others) (λ rest. framed_done c d _))

-- ---- members

pub framed_linked :
    (c d : Content) (count namer : ℕ) (member : MemberValue) (last : LaidVersion) (files : List LaidFile)
    → Framed c d (InRange count) (version_linked (blocks_of c count) namer member last files) (version_linked (blocks_of d count) namer member last files)
unfolding version_linked
framed_linked c d count namer member last files =
    framed_if c d (last.block == member.block) _ _ _ _ (framed_done c d files)
    (framed_bind c d _ _ _ _ (framed_version c d count member.object namer member.block (Some last))
    (λ version. framed_bind c d _ _ _ _ (framed_check c d (is_none version.commit && names_none version) member.block Member)
    (λ _. framed_done c d (with_version_at (member.object - 1) version files))))

pub framed_member :
    (c d : Content) (count : ℕ) (top : Top) (member : MemberValue) (linked : Linked) (last : Option LaidVersion)
    → Framed c d (InRange count) (member_linked (blocks_of c count) top member linked last) (member_linked (blocks_of d count) top member linked last)
unfolding member_linked
framed_member c d count top member linked None = framed_refuse c d top.version.block Member
framed_member c d count top member linked (Some last) =
    framed_bind c d _ _ _ _ (framed_check c d _ top.version.block Member)
    (λ _. framed_bind c d _ _ _ _ (framed_linked c d count top.version.block member last linked.files) (λ files. framed_done c d _))

pub framed_members :
    (c d : Content) (count : ℕ) (top : Top) (members : List MemberValue) (linked : Linked)
    → Framed c d (InRange count) (members_linked (blocks_of c count) top members linked) (members_linked (blocks_of d count) top members linked)
unfolding members_linked
framed_members c d count top [] linked = framed_done c d _
framed_members c d count top (member ∷ others) linked =
    framed_bind c d _ _ _ _ (framed_member c d count top member linked (last_in member.object linked.files)) (framed_members c d count top others)

pub framed_tops : (c d : Content) (count : ℕ) (tops : List Top) (linked : Linked) → Framed c d (InRange count) (tops_linked (blocks_of c count) tops linked) (tops_linked (blocks_of d count) tops linked)
unfolding tops_linked
framed_tops c d count [] linked = framed_done c d linked
framed_tops c d count (top ∷ others) linked =
    framed_bind c d _ _ _ _ (framed_members c d count top top.version.members linked) (framed_tops c d count others)

-- ---- the store

-- what follows the root, and the whole store
abbrev rest_from : Blocks → RootValue → Walk LaidStore
rest_from blocks root =
    bind (table_rows blocks root) (λ rows. bind (files_from blocks 1 rows)
    (λ files. bind (tops_linked blocks (tops_from 1 files) (record { files = files; named = [] })) (λ linked. done (record { root = root; files = linked.files }))))

-- every place is above block 0
abbrev pub Positive : ℕ → Type 0
Positive n = 1 ≤ n

-- the store after its root, on so many blocks
framed_rest : (c d : Content) (root : RootValue) → Framed c d Positive (rest_from (blocks_of c root.blocks) root) (rest_from (blocks_of d root.blocks) root)
framed_rest c d root =
    framed_weaker c d _ _ (λ n h. h.0)
    (framed_bind c d _ _ _ _ (framed_rows c d root.blocks root)
    (λ rows. framed_bind c d _ _ _ _ (framed_files c d root.blocks 1 rows)
    (λ files. framed_bind c d _ _ _ _ (framed_tops c d root.blocks (tops_from 1 files) _) (λ linked. framed_done c d _))))

framed_from : (c d : Content) (most : ℕ) (bytes : List ℕ) → Framed c d Positive (laid_from c most bytes) (laid_from d most bytes)
unfolding laid_from
framed_from c d most bytes =
    framed_bind c d _ _ _ _ (framed_decoded c d 0 (root_of bytes))
    (λ root. framed_bind c d _ _ _ _ (framed_check c d (nat_le root.blocks most) 0 TooMany) (λ _. framed_rest c d root))

-- the content of block 0 is given, and is the same for both
pub framed_laid : (c d : Content) (most : ℕ) (table : Option (List ℕ)) → Framed c d Positive (bind (content_at 0 table) (laid_from c most)) (bind (content_at 0 table) (laid_from d most))
framed_laid c d most table = framed_bind c d _ _ _ _ (framed_content c d 0 table) (framed_from c d most)

pub laid_alike :
    (c d : Content) (most : ℕ) (store : LaidStore) (places : List ℕ) → laid c most [] ≡ Ok (store, places)
    → c 0 ≡ d 0 → Agree c d places → laid d most [] ≡ Ok (store, places)
unfolding laid
laid_alike c d most store places e table agree =
    let r : Ran c d Positive (bind (content_at 0 (c 0)) (laid_from d most)) [] store places = (framed_laid c d most (c 0)).runs [] store places e in
    let all : places ≡ r.new = r.grown ∙ append-nil r.new in
    ap (λ t. bind (content_at 0 t) (laid_from d most) []) (sym table)
    ∙ r.anywhere [] (λ n h g. none_in n g) (λ n h. agree n (in_along r.new places (sym all) n h))
    ∙ ap (λ p. Ok (store, p)) (sym r.grown)
