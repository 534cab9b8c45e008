-- A file of a store that is found has versions where its entry names a block, and nowhere else.
use Rattle.std.proofs.Common.{◌≡◌, ℕ, zero, suc, ◌-◌, ◌==◌, Bool, true, false, cond, nat_lt, List, [], ◌∷◌, ◌++◌, length, Option, Some, None, Ok, refl, sym, ◌∙◌, subst, slice_get, arith}
use Rattle.std.specs.Option.{is_some, option_and_then}
use Rattle.std.proofs.lemmas.Bool.{lt-ltb}
use Rattle.page_codec.specs.declared.why.Why.TheVariants.{Member}
use Rattle.page_codec.specs.Values.{MemberValue}
use Rattle.store_changes.specs.Writes.{Content}
use Rattle.store_model.specs.Walk.{Blocks, if_some}
use Rattle.store_model.specs.Laid.{LaidFile, LaidVersion, last_laid}
use Rattle.store_model.specs.Chains.{chain_at, chain_from}
use Rattle.store_model.specs.Tables.{Row, files_from}
use Rattle.store_model.specs.Members.{Linked, Top, last_in, longer, member_linked, members_linked, tops_from, tops_linked, version_linked, with_version_at}
use Rattle.store_model.specs.Found.{LaidStore, laid}
use Rattle.store_model.proofs.Edits.{none_some}
use Rattle.store_model.proofs.Giving.{Gives, gives_any, gives_bind, gives_done, gives_if, gives_refuse}
use Rattle.store_model.proofs.Lying.{Each}
use Rattle.store_model.proofs.Steps.{blocks_of}
use Rattle.store_model.proofs.Stores.{Parts, parts_of, unlinked}

-- its entry names a block where it has versions
abbrev pub IsNamed : LaidFile → Type 0
IsNamed file = is_some file.entry.first ≡ nat_lt 0 (length file.versions)

abbrev HasSome : List LaidVersion → Type 0
HasSome versions = nat_lt 0 (length versions) ≡ true

some_first : (version : LaidVersion) (versions : List LaidVersion) → HasSome (version ∷ versions)
some_first version versions = lt-ltb 0 (suc (length versions)) (omega arith)

some_more : (versions : List LaidVersion) (version : LaidVersion) → HasSome (versions ++ version ∷ [])
some_more [] version = some_first version []
some_more (first ∷ versions) version = some_first first (versions ++ version ∷ [])

-- ---- the table

gives_chain_from : (blocks : Blocks) (object most : ℕ) (version : LaidVersion) → Gives (chain_from blocks object most version) HasSome
unfolding chain_from
gives_chain_from blocks object zero version = gives_done (version ∷ []) HasSome (some_first version [])
gives_chain_from blocks object (suc most) version =
    gives_bind _ _ (λ _. Unit {0}) HasSome (gives_any _) (λ later _. gives_done (version ∷ later) HasSome (some_first version later))

gives_chain : (blocks : Blocks) (object namer block : ℕ) → Gives (chain_at blocks object namer block) HasSome
unfolding chain_at
gives_chain blocks object namer block =
    gives_bind _ _ (λ _. Unit {0}) HasSome (gives_any _) (λ version _. gives_chain_from blocks object blocks.count version)

-- versions of a file whose entry names this block, or none
abbrev AreNamed : Option ℕ → List LaidVersion → Type 0
AreNamed first versions = is_some first ≡ nat_lt 0 (length versions)

gives_versions : (blocks : Blocks) (object namer : ℕ) (first : Option ℕ) → Gives (if_some first (chain_at blocks object namer)) (AreNamed first)
unfolding if_some
gives_versions blocks object namer None = gives_done [] (AreNamed None) refl
gives_versions blocks object namer (Some block) = λ seen versions all e. sym (gives_chain blocks object namer block seen versions all e)

gives_files : (blocks : Blocks) (object : ℕ) (rows : List Row) → Gives (files_from blocks object rows) (Each IsNamed)
unfolding files_from
gives_files blocks object [] = gives_done [] (Each IsNamed) tt
gives_files blocks object (row ∷ others) =
    gives_bind _ _ (AreNamed row.entry.first) (Each IsNamed) (gives_versions blocks object row.block row.entry.first)
    (λ versions named. gives_bind _ _ (Each IsNamed) (Each IsNamed) (gives_files blocks (suc object) others)
    (λ rest each. gives_done _ (Each IsNamed) (named, each)))

-- ---- members

-- a file that has a last version gets one more
longer_named : (file : LaidFile) (last next : LaidVersion) → IsNamed file → last_laid file.versions ≡ Some last → IsNamed (longer next file)
longer_named file last next named is = named ∙ some file.versions is ∙ sym (some_more file.versions next)
  where
    some : (versions : List LaidVersion) → last_laid versions ≡ Some last → HasSome versions
    some [] e = none_some e
    some (version ∷ versions) e = some_first version versions

named_with : (place : ℕ) (last next : LaidVersion) (files : List LaidFile) → option_and_then (λ file. last_laid file.versions) (slice_get files place) ≡ Some last
    → Each IsNamed files → Each IsNamed (with_version_at place next files)
named_with place last next [] is each = tt
named_with zero last next (file ∷ others) is each = (longer_named file last next each.0 is, each.1)
named_with (suc place) last next (file ∷ others) is each = (each.0, named_with place last next others is each.1)

-- where an object has a last version, that is the one of its file
last_at : (object : ℕ) (files : List LaidFile) (last : LaidVersion) → last_in object files ≡ Some last
    → option_and_then (λ file. last_laid file.versions) (slice_get files (object - 1)) ≡ Some last
last_at object files last e = of (object == 0) e
  where
    of : (b : Bool) → cond b None (option_and_then (λ (file : LaidFile). last_laid file.versions) (slice_get files (object - 1))) ≡ Some last
        → option_and_then (λ file. last_laid file.versions) (slice_get files (object - 1)) ≡ Some last
    of true h = none_some h
    of false h = h

abbrev LinkedNamed : Linked → Type 0
LinkedNamed linked = Each IsNamed linked.files

gives_version_linked : (blocks : Blocks) (namer : ℕ) (member : MemberValue) (last : LaidVersion) (files : List LaidFile)
    → last_in member.object files ≡ Some last → Each IsNamed files → Gives (version_linked blocks namer member last files) (Each IsNamed)
unfolding version_linked
gives_version_linked blocks namer member last files is each =
    gives_if (last.block == member.block) _ _ (Each IsNamed) (λ _. gives_done files (Each IsNamed) each)
    (λ _. gives_bind _ _ (λ _. Unit {0}) (Each IsNamed) (gives_any _)
    (λ next _. gives_bind _ _ (λ _. Unit {0}) (Each IsNamed) (gives_any _)
    (λ _ _. gives_done _ (Each IsNamed) (named_with (member.object - 1) last next files (last_at member.object files last is) each))))

gives_member : (blocks : Blocks) (top : Top) (member : MemberValue) (linked : Linked) (last : Option LaidVersion) → last_in member.object linked.files ≡ last
    → LinkedNamed linked → Gives (member_linked blocks top member linked last) LinkedNamed
unfolding member_linked
gives_member blocks top member linked None is each = gives_refuse top.version.block Member LinkedNamed
gives_member blocks top member linked (Some last) is each =
    gives_bind _ _ (λ _. Unit {0}) LinkedNamed (gives_any _)
    (λ _ _. gives_bind _ _ (Each IsNamed) LinkedNamed (gives_version_linked blocks top.version.block member last linked.files is each)
    (λ files named. gives_done _ LinkedNamed named))

gives_members : (blocks : Blocks) (top : Top) (members : List MemberValue) (linked : Linked) → LinkedNamed linked
    → Gives (members_linked blocks top members linked) LinkedNamed
unfolding members_linked
gives_members blocks top [] linked each = gives_done _ LinkedNamed each
gives_members blocks top (member ∷ others) linked each =
    gives_bind _ _ LinkedNamed LinkedNamed (gives_member blocks top member linked (last_in member.object linked.files) refl each)
    (λ next named. gives_members blocks top others next named)

gives_tops : (blocks : Blocks) (tops : List Top) (linked : Linked) → LinkedNamed linked → Gives (tops_linked blocks tops linked) LinkedNamed
unfolding tops_linked
gives_tops blocks [] linked each = gives_done linked LinkedNamed each
gives_tops blocks (top ∷ others) linked each =
    gives_bind _ _ LinkedNamed LinkedNamed (gives_members blocks top top.version.members linked each)
    (λ next named. gives_tops blocks others next named)

-- ---- the store

pub files_named : (c : Content) (most : ℕ) (store : LaidStore) (places : List ℕ) → laid c most [] ≡ Ok (store, places) → Each IsNamed store.files
files_named c most store places e =
    let p : Parts c most store places = parts_of c most store places e in
    let first : Each IsNamed p.files = gives_files (blocks_of c p.root.blocks) 1 p.rows p.in_table p.files p.in_files p.chains in
    let last : LinkedNamed p.linked = gives_tops (blocks_of c p.root.blocks) (tops_from 1 p.files) (unlinked p.files) first p.in_files p.linked places p.tops in
    subst (λ (s : LaidStore). Each IsNamed s.files) (sym p.made) last
